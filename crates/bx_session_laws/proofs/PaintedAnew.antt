-- If no painting is owed, another painting changes nothing.
use Rattle.std.proofs.Common.{◌≡◌, ℕ, Bool, true, false, List, ◌++◌, Option, Some, None, refl, sym, ap, ◌∙◌, if◌then◌else◌}
use Rattle.std.specs.Prelude.{◌||◌, ◌&&◌, is_some}
use Rattle.std.proofs.lemmas.List.{append-nil}
use Rattle.bx_paint.proofs.Few.{same_changes}
use Rattle.bx_keys.specs.declared.key.Key.{Key}
use Rattle.bx_keys.specs.declared.key.Key.TheVariants.{Insert, PasteStart}
use Rattle.bx_store.specs.declared.store.StoreFault.{StoreFault}
use Rattle.bx_ucd.specs.Data.{Data}
use Rattle.bx_editor.specs.declared.scrolling.Scroll.{Scroll}
use Rattle.bx_editor.specs.declared.scrolling.Scroll.TheVariants.{Least}
use Rattle.bx_editor.specs.Editor.{Editor, rows, text_height, with_top}
use Rattle.bx_editor.specs.Functions.{HasRows}
use Rattle.bx_editor.specs.Keys.{after_key, asks_for_whole, needs_no_painting}
use Rattle.bx_editor.specs.Picture.{next_top, picture, top_behind}
use Rattle.bx_editor.specs.Scrolling.{moved_top}
use Rattle.bx_view.specs.Top.{follow}
use Rattle.bx_editor.proofs.TopOnce.{top-stays}
use Rattle.bx_session.specs.Session.{Session, after_sending, at_opening, counted_key, is_painted_press, needs_painting, painted_after}
use Rattle.bx_session.specs.Session.{painting, picture_of, session_after_any, session_after_key, unpainted_after_press, unpainted_after_told, with_painting}
use Rattle.bx_session.specs.Session.{scroll_behind, unpainted_with_settings, with_clipboard, with_painting_and_clip, with_painting_by, with_picture}
use Rattle.bx_session.proofs.KeySizes.{key_goes_on, key_top}
use Rattle.bx_session.proofs.Tops.{clipboard_unseen, opening_stays}
use Rattle.bx_session_laws.specs.Anew.{StaysPainted, AlwaysStaysPainted}
use Rattle.bx_session_laws.proofs.TopsAlike.{not_not, unseen}

-- ---- what a painting leaves, and what another one finds

-- scrolling leaves the top, and the screen is taken to show the picture
record Shown (d : Data) (s : Session) : Type 0 where
  pub stays : next_top d s.editor s.editor.top ≡ s.editor.top
  pub painted : s.painted ≡ Some (picture_of d s.editor)
  pub known : s.known ≡ Some (picture_of d s.editor)

-- the least move of the top, whether the session has ended or not
least : (d : Data) (e : Editor) (top : ℕ) → top_behind d e top Least ≡ next_top d e top
least d e top = by e.ended where
  by : (ended : Bool) → (if ended then top else (if ended then top else follow (rows d e) top e.place (text_height e.height)))
      ≡ (if ended then top else follow (rows d e) top e.place (text_height e.height))
  by true = refl
  by false = refl

shown : (d : Data) (s : Session) → with_painting d s ≡ s → Shown d s
shown d s same =
    let e : Editor = s.editor in
    let stays : next_top d e e.top ≡ e.top = sym (least d e e.top) ∙ ap (λ (x : Session). x.editor.top) same in
    let from_top = ap (λ top. Some (picture_of d (with_top e top))) (least d e e.top ∙ stays) in record {
      stays = stays;
      painted = sym (ap (λ (x : Session). x.painted) same) ∙ from_top;
      known = sym (ap (λ (x : Session). x.known) same) ∙ from_top;
    }

again : (d : Data) (s : Session) → s.painting_owed ≡ false → Shown d s → with_painting d s ≡ s
again d s owed h =
    let e : Editor = s.editor in
    let p = picture_of d e in
    ap (λ top. with_picture s (with_top e top) (picture_of d (with_top e top))) (least d e e.top ∙ h.stays)
    ∙ ap (λ known. record s { painted = Some p; known = Some p; painting_owed = false; pending = s.pending ++ painting known p }) h.known
    ∙ ap (λ bytes. record s { painted = Some p; known = Some p; painting_owed = false; pending = s.pending ++ bytes }) (same_changes p p refl)
    ∙ ap (λ bytes. record s { painted = Some p; known = Some p; painting_owed = false; pending = bytes }) (append-nil s.pending)
    ∙ ap (λ painted. record s { painted = painted; known = Some p; painting_owed = false }) (sym h.painted)
    ∙ ap (λ known. record s { known = known; painting_owed = false }) (sym h.known)
    ∙ ap (λ owed. record s { painting_owed = owed }) (sym owed)

-- a painting leaves it so, with a clip behind it or without
stays_behind : (d : Data) (e : Editor) (top : ℕ) (scroll : Scroll) → HasRows e → next_top d e (top_behind d e top scroll) ≡ top_behind d e top scroll
stays_behind d e top scroll has = by e.ended refl where
  by : (ended : Bool) → e.ended ≡ ended → next_top d e (if ended then top else next_top d e (moved_top d e top scroll)) ≡ (if ended then top else next_top d e (moved_top d e top scroll))
  by true is = ap (λ (over : Bool). if over then top else follow (rows d e) top e.place (text_height e.height)) is
  by false is = top-stays d e (moved_top d e top scroll) has

after_painting : (d : Data) (scroll : Scroll) (s : Session) (clip : Option (List ℕ)) → HasRows (with_painting_by d scroll s).editor
    → Shown d (with_painting_and_clip d scroll s clip)
after_painting d scroll s clip has = record {
  stays = stays_behind d s.editor s.editor.top scroll (record { text = has.text; columns = has.columns });
  painted = refl;
  known = refl;
}

twice : (d : Data) (s : Session) → HasRows (with_painting d s).editor → with_painting d (with_painting d s) ≡ with_painting d s
twice d s has =
    let h = after_painting d Least s None has in again d (with_painting d s) refl (record { stays = h.stays; painted = refl; known = refl })

-- ---- changes that leave the picture as it is

sending_stays : (d : Data) (s : Session) (count : ℕ) → StaysPainted d s → StaysPainted d (after_sending s count)
sending_stays d s count h owed =
    let had = shown d s (h owed) in again d (after_sending s count) owed (record { stays = had.stays; painted = had.painted; known = had.known })

clipboard_stays : (d : Data) (s : Session) → StaysPainted d s → StaysPainted d (with_clipboard s)
clipboard_stays d s h owed =
    let had = shown d s (h owed) in
    let same : Some (picture_of d s.editor) ≡ Some (picture_of d (with_clipboard s).editor) =
    ap Some (sym (clipboard_unseen d s.editor true s.editor.top)) in
    again d (with_clipboard s) owed (record { stays = had.stays; painted = had.painted ∙ same; known = had.known ∙ same })

-- a key that needs no painting
second : (b c : Bool) → (b && c) ≡ true → c ≡ true
second true c h = h
second false c h = absurd (cc h)

not_whole : (d : Data) (fault : Option StoreFault) (e : Editor) (key : Key) → needs_no_painting e key ≡ true → e.ended ≡ false
    → (asks_for_whole key || (after_key d fault e key).ended) ≡ false
not_whole d fault e (Insert c) h runs = key_goes_on d fault e (Insert c) refl ∙ runs
not_whole d fault e PasteStart h runs = key_goes_on d fault e PasteStart refl ∙ runs
not_whole d fault e key h runs = absurd (cc (second (is_some e.pasted) false h))

known_stays : {X : Type 0} (whole : Bool) (known : Option X) → whole ≡ false → (if whole then None else known) ≡ known
known_stays true known h = absurd (cc h)
known_stays false known h = refl

key_shown : (d : Data) (fault : Option StoreFault) (s : Session) (key : Key) → needs_no_painting s.editor key ≡ true → s.editor.ended ≡ false → Shown d s
    → Shown d (session_after_key d fault s key)
key_shown d fault s key none runs had =
    let e : Editor = s.editor in
    let new = after_key d fault e key in
    let looks = unseen d fault e key none in
    let top = key_top d fault e key in
    let same : Some (picture_of d e) ≡ Some (picture_of d new) = ap Some (sym (ap (picture d new) top ∙ looks.same e.top)) in record {
      stays = ap (next_top d new) top ∙ looks.top e.top ∙ had.stays ∙ sym top;
      painted = had.painted ∙ same;
      known = known_stays (asks_for_whole key || new.ended) s.known (not_whole d fault e key none runs) ∙ had.known ∙ same;
    }

any_shown : (d : Data) (fault : Option StoreFault) (s : Session) (key : Option Key) → needs_painting s.editor key ≡ false → s.editor.ended ≡ false → Shown d s
    → Shown d (session_after_any d fault s key)
any_shown d fault s None none runs had = had
any_shown d fault s (Some key) none runs had = key_shown d fault s key (not_not (needs_no_painting s.editor key) none) runs had

unpainted_shown : (ended : Bool) (d : Data) (fault : Option StoreFault) (s : Session) (key : Option Key) → s.editor.ended ≡ ended
    → needs_painting s.editor (if ended then None else key) ≡ false → Shown d s → Shown d (session_after_any d fault s (if ended then None else key))
unpainted_shown true d fault s key is none had = had
unpainted_shown false d fault s key is none had = any_shown d fault s key none is had

-- ---- every call, whether it succeeds or is refused

neither : (b c : Bool) → (b || c) ≡ false → (b ≡ false) × (c ≡ false)
neither true c h = absurd (cc h)
neither false c h = (refl, h)

press_stays : (paints : Bool) (d : Data) (fault : Option StoreFault) (s : Session) (key : Option Key) → is_painted_press s key ≡ paints
    → let counts = counted_key s key in
    let u = unpainted_after_press d fault s key in
    let new = if paints then painted_after d (scroll_behind s.editor counts) u counts else u in
    HasRows new.editor → StaysPainted d s → StaysPainted d new
press_stays true d fault s key is has h owed =
    let u = unpainted_after_press d fault s key in
    let scroll = scroll_behind s.editor (counted_key s key) in
    let new = painted_after d scroll u (counted_key s key) in
    let left = after_painting d scroll u None (record { text = has.text; columns = has.columns }) in
    again d new owed (record { stays = left.stays; painted = refl; known = refl })
press_stays false d fault s key is has h owed =
    let both = neither s.painting_owed (needs_painting s.editor (counted_key s key)) is in
    again d (unpainted_after_press d fault s key) owed (unpainted_shown s.editor.ended d fault s key refl both.1 (shown d s (h both.0)))

pub always_stays : AlwaysStaysPainted
always_stays = record {
  opening = λ d text height width base has owed.
      again d (at_opening d text height width base) refl
      (record { stays = opening_stays d text height width base has; painted = refl; known = refl });
  press = λ d fault s key has h. press_stays (is_painted_press s key) d fault s key refl has h;
  owing_press = λ d fault s key owed. absurd (cc owed);
  told = λ d s height width has owed. twice d (unpainted_after_told s height width) has;
  owing_told = λ d s height width owed. absurd (cc owed);
  replay = λ d s b owed. absurd (cc owed);
  replay_end = λ d s owed. absurd (cc owed);
  unmoved_replay = λ d s b owed. absurd (cc owed);
  unscrolled_end = λ d s owed. absurd (cc owed);
  settings = λ d s settings has owed. twice d (unpainted_with_settings s settings) has;
  owing_settings = λ d s settings owed. absurd (cc owed);
  clipboard = clipboard_stays;
  going = λ d s offset owed. absurd (cc owed);
  sending = sending_stays;
}
