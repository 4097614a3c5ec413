-- A key that goes into a paste leaves the picture, so that it needs no painting.
use Rattle.std.proofs.Common.{◌≡◌, ℕ, Bool, true, false, not, ◌&&◌, ◌||◌, List, Option, Some, None, refl, sym, ap, subst, ◌∙◌, if◌then◌else◌}
use Rattle.std.specs.Prelude.{is_some}
use Rattle.bx_keys.specs.declared.key.Key.{Key}
use Rattle.bx_keys.specs.declared.key.Key.TheVariants.{Insert, PasteStart}
use Rattle.bx_grid.specs.Picture.{PictureState}
use Rattle.bx_store.specs.declared.store.StoreFault.{StoreFault}
use Rattle.bx_ucd.specs.Data.{Data}
use Rattle.bx_editor.specs.Editor.{Editor, unpressed, with_typing}
use Rattle.bx_editor.specs.declared.message.Message.TheVariants.{ViewOnly}
use Rattle.bx_editor.specs.declared.undo_groups.typing.Typing.TheVariants.{Paste}
use Rattle.bx_editor.specs.Region.{aged}
use Rattle.bx_editor.specs.Status.{input_column}
use Rattle.bx_editor.specs.Keys.{after_key, after_press, asks_for_whole, needs_no_painting}
use Rattle.bx_editor.specs.Putting.{after_paste_start, after_pasted_letter, paste_begun, pasted_with, pastes_crlf}
use Rattle.bx_editor.specs.Picture.{StandsOnItsCell, picture}
use Rattle.bx_editor.proofs.Unseen.{begun-unseen, letter-unseen, start-unseen, unrefused}
use Rattle.bx_session.specs.Painting.{ShowsState}
use Rattle.bx_session.proofs.Tops.{column_same}
use Rattle.bx_session.specs.Session.{Session, counted_key, needs_painting, picture_of, session_after_any}
use Rattle.bx_session.specs.Session.{unpainted_after_press}

-- what such a key leaves
pub record IsQuiet (d : Data) (e new : Editor) : Type 0 where
  pub looks : picture_of d new ≡ picture_of d e
  pub stands : StandsOnItsCell d e e.top (picture_of d e) → StandsOnItsCell d new new.top (picture_of d new)
  pub column : input_column d new ≡ input_column d e
  pub ended : new.ended ≡ e.ended
  pub height : new.height ≡ e.height
  pub width : new.width ≡ e.width

letter_quiet : (d : Data) (e : Editor) (c : ℕ) → IsQuiet d e (after_pasted_letter d e c)
letter_quiet d e c =
    let same = (letter-unseen d e c).same e.top in record {
      looks = same;
      stands = λ h. subst (λ (p : PictureState). StandsOnItsCell d (after_pasted_letter d e c) e.top p) (sym same)
          (record { place = h.place; slot = h.slot; cell = h.cell; shown = h.shown; row = h.row; column = h.column });
      column = column_same d e e.top e.clipboard (pasted_with (pastes_crlf d e.content.text c) e.pasted c) false None (aged e.soft) e.typing None None;
      ended = refl;
      height = refl;
      width = refl;
    }

start_is : (e : Editor) (list : List ℕ) → e.pasted ≡ Some list → after_paste_start e ≡ unpressed (with_typing e Paste)
start_is e list is =
    ap (λ refused. if refused then unpressed (record e { message = Some ViewOnly }) else unpressed (with_typing (paste_begun e.prompt e.search_state e.pasted e) Paste))
    (unrefused e list is)
    ∙ ap (λ (x : Editor). unpressed (with_typing x Paste))
    (ap (λ pasted. paste_begun e.prompt e.search_state pasted e) is ∙ begun-unseen e e.prompt e.search_state list)

start_quiet : (d : Data) (e : Editor) (pasted : Option (List ℕ)) → e.pasted ≡ pasted → is_some pasted ≡ true → IsQuiet d e (after_paste_start e)
start_quiet d e None is some = absurd (cc some)
start_quiet d e (Some list) is some =
    let own = start_is e list is in
    let new : Editor = unpressed (with_typing e Paste) in
    let same : picture d new e.top ≡ picture d e e.top =
    ap (λ (x : Editor). picture d x e.top) (sym own) ∙ (start-unseen d e e.pasted refl (ap (λ (p : Option (List ℕ)). is_some p) is ∙ some)).same e.top in
    let typed : IsQuiet d e new = record {
      looks = same;
      stands = λ h. subst (λ (p : PictureState). StandsOnItsCell d new e.top p) (sym same)
          (record { place = h.place; slot = h.slot; cell = h.cell; shown = h.shown; row = h.row; column = h.column });
      column = column_same d e e.top e.clipboard e.pasted e.quit_before e.goal e.soft Paste None None;
      ended = refl;
      height = refl;
      width = refl;
    } in subst (IsQuiet d e) (sym own) typed

by_press : (d : Data) (fault : Option StoreFault) (e : Editor) (pasted : Option (List ℕ)) (c : ℕ) → is_some pasted ≡ true
    → after_press d fault pasted e (Insert c) ≡ after_pasted_letter d e c
by_press d fault e None c some = absurd (cc some)
by_press d fault e (Some list) c some = refl

both : (b c : Bool) → (b && c) ≡ true → (b ≡ true) × (c ≡ true)
both true true h = (refl, refl)
both true false h = absurd (cc h)
both false c h = absurd (cc h)

pub quiet_key : (d : Data) (fault : Option StoreFault) (e : Editor) (key : Key) → needs_no_painting e key ≡ true
    → IsQuiet d e (after_key d fault e key) × (asks_for_whole key ≡ false)
quiet_key d fault e (Insert c) h =
    (subst (IsQuiet d e) (sym (by_press d fault e e.pasted c (both (is_some e.pasted) true h).0)) (letter_quiet d e c), refl)
quiet_key d fault e PasteStart h = (start_quiet d e e.pasted refl (both (is_some e.pasted) true h).0, refl)
quiet_key d fault e key h = absurd (cc ((both (is_some e.pasted) false h).1))

-- ---- a session

-- a byte that needs no painting leaves what the picture and the screen are taken to be
pub record StaysQuiet (d : Data) (s new : Session) : Type 0 where
  pub editor : IsQuiet d s.editor new.editor
  pub painted : new.painted ≡ s.painted
  pub known : new.known ≡ s.known
  pub pending : new.pending ≡ s.pending
  pub owed : new.painting_owed ≡ s.painting_owed

same_quiet : (d : Data) (e : Editor) → IsQuiet d e e
same_quiet d e = record { looks = refl; stands = λ h. h; column = refl; ended = refl; height = refl; width = refl }

stays : (d : Data) (s new : Session) → new.editor ≡ s.editor → new.painted ≡ s.painted → new.known ≡ s.known → new.pending ≡ s.pending
    → new.painting_owed ≡ s.painting_owed → StaysQuiet d s new
stays d s new same painted known pending owed = record {
  editor = subst (λ (e : Editor). IsQuiet d s.editor e) (sym same) (same_quiet d s.editor);
  painted = painted;
  known = known;
  pending = pending;
  owed = owed;
}

not_false : (b : Bool) → not b ≡ false → b ≡ true
not_false true h = refl
not_false false h = absurd (cc h)

kept_known : (whole ended : Bool) (known : Option PictureState) → whole ≡ false → ended ≡ false → (if whole || ended then None else known) ≡ known
kept_known true ended known a b = absurd (cc a)
kept_known false true known a b = absurd (cc b)
kept_known false false known a b = refl

any_quiet : (d : Data) (fault : Option StoreFault) (s : Session) (key : Option Key) → s.editor.ended ≡ false → needs_painting s.editor key ≡ false
    → StaysQuiet d s (session_after_any d fault s key)
any_quiet d fault s None on none = stays d s s refl refl refl refl refl
any_quiet d fault s (Some key) on none =
    let quiet = quiet_key d fault s.editor key (not_false (needs_no_painting s.editor key) none) in record {
      editor = quiet.0;
      painted = refl;
      known = kept_known (asks_for_whole key) (after_key d fault s.editor key).ended s.known quiet.1 (quiet.0.ended ∙ on);
      pending = refl;
      owed = refl;
    }

-- after a press, by whether the session had ended
quiet_at : (ended : Bool) (d : Data) (fault : Option StoreFault) (s : Session) (key : Option Key) → s.editor.ended ≡ ended
    → needs_painting s.editor (if ended then None else key) ≡ false
    → StaysQuiet d s (session_after_any d fault s (if ended then None else key))
quiet_at true d fault s key is none = stays d s s refl refl refl refl refl
quiet_at false d fault s key is none = any_quiet d fault s key is none

pub quiet_press : (d : Data) (fault : Option StoreFault) (s : Session) (key : Option Key) → needs_painting s.editor (counted_key s key) ≡ false
    → StaysQuiet d s (unpainted_after_press d fault s key)
quiet_press d fault s key none = quiet_at s.editor.ended d fault s key refl none

-- so the screen is taken to show the state as before
pub quiet_shows : (d : Data) (s new : Session) → StaysQuiet d s new → ShowsState d s → ShowsState d new
quiet_shows d s new quiet was owed =
    let before = was (sym quiet.owed ∙ owed) in
    let shown : Some (picture_of d s.editor) ≡ Some (picture_of d new.editor) = ap (λ (p : PictureState). Some p) (sym quiet.editor.looks) in
    (quiet.painted ∙ before.0 ∙ shown, quiet.known ∙ before.1 ∙ shown)
