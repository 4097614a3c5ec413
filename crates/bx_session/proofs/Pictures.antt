-- Pictures have their editor's size, and the session after a painting, with a clip or without.
use Rattle.std.proofs.Common.{◌≡◌, ℕ, ◌≤◌, Bool, true, false, ◌&&◌, List, [], ◌++◌, length, drop, Option, Some, None, Ok, refl, sym, ap, subst, inl, inr}
use Rattle.std.proofs.Common.{◌∙◌, append_assoc, arith, if◌then◌else◌}
use Rattle.std.specs.Prelude.{IfSome}
use Rattle.std.proofs.lemmas.List.{append-nil, drop-append-le, length-append}
use Rattle.base64.specs.Engines.{standard}
use Rattle.base64.specs.GeneralPurpose.{decode_of}
use Rattle.base64.specs.GeneralPurpose.{encode_of}
use Rattle.bx_grid.specs.Tokens.{clip_bytes}
use Rattle.bx_grid.specs.Picture.{PictureState, Shows}
use Rattle.bx_grid.specs.Grid.{AreWholeTokens, IsPicture}
use Rattle.bx_grid.specs.Terminal.{Terminal, reads}
use Rattle.bx_keys.specs.declared.key.Key.{Key}
use Rattle.bx_ucd.specs.Data.{Data}
use Rattle.bx_editor.specs.Region.{is_clip}
use Rattle.bx_editor.specs.Editor.{Editor, rows, with_top}
use Rattle.bx_editor.specs.declared.scrolling.Scroll.{Scroll}
use Rattle.bx_editor.specs.Picture.{StandsOnItsCell, picture, blank_picture, text_picture, top_behind, with_cursor}
use Rattle.bx_editor.specs.Status.{input_column}
use Rattle.bx_session.specs.declared.session.Session.TheInside.{Inside}
use Rattle.bx_session.specs.Session.{Session, clip_after, painted_after, painting, picture_of, then_clip}
use Rattle.bx_session.specs.Feeding.{known_if}
use Rattle.bx_session.specs.Painting.{AppendsPainting, FitsEditor, IsClipOf, QueuesPicture, Updates}
use Rattle.bx_session.proofs.Tops.{drawn_is, input_unseen, stands_on}

either_height : (ended : Bool) (p q : PictureState) (h : ℕ) → p.height ≡ h → q.height ≡ h → (if ended then p else q).height ≡ h
either_height true p q h e f = e
either_height false p q h e f = f

either_width : (ended : Bool) (p q : PictureState) (w : ℕ) → p.width ≡ w → q.width ≡ w → (if ended then p else q).width ≡ w
either_width true p q w e f = e
either_width false p q w e f = f

-- a cursor in the status row leaves the size
cursor_height : (column : Option ℕ) (p : PictureState) → (with_cursor column p).height ≡ p.height
cursor_height None p = refl
cursor_height (Some column) p = refl

cursor_width : (column : Option ℕ) (p : PictureState) → (with_cursor column p).width ≡ p.width
cursor_width None p = refl
cursor_width (Some column) p = refl

pub picture_height : (d : Data) (e : Editor) (top : ℕ) → (picture d e top).height ≡ e.height
picture_height d e top =
    either_height e.ended (blank_picture e.height e.width) (text_picture d e top (rows d e)) e.height refl (cursor_height (input_column d e) _)

pub picture_width : (d : Data) (e : Editor) (top : ℕ) → (picture d e top).width ≡ e.width
picture_width d e top =
    either_width e.ended (blank_picture e.height e.width) (text_picture d e top (rows d e)) e.width refl (cursor_width (input_column d e) _)

-- so a picture of an editor has the size of the one before
pub fits_next : (known : Option PictureState) (e : Editor) (next : PictureState) → FitsEditor known e → next.height ≡ e.height → next.width ≡ e.width
    → IfSome known (λ p. (p.height ≡ next.height) × (p.width ≡ next.width))
fits_next None e next h high wide = tt
fits_next (Some p) e next h high wide = (h.0 ∙ sym high, h.1 ∙ sym wide)

-- the value of a session's fields
abbrev pub value_of : {D : Type 0} → Inside D → Session
value_of s = record {
  editor = s.editor.editor;
  painted = s.painted;
  known = known_if s.is_known s.painted;
  painting_owed = s.painting_owed;
  pending = drop s.taken s.queue.items;
}

-- ---- a clip after a painting

-- what a clip after bytes leaves of them: what they show, and that they are whole tokens; and what it gives
pub record IsUnseen (clip : Option (List ℕ)) : Type 0 where
  pub shows : (t : Terminal) (bytes : List ℕ) (p : PictureState) → Shows (reads t bytes) p → Shows (reads t (then_clip bytes clip)) p
  pub tokens : (bytes : List ℕ) → AreWholeTokens bytes → AreWholeTokens (then_clip bytes clip)
  pub gives : IfSome clip (λ text. decode_of standard (encode_of standard text) ≡ Ok text)

pub then_clip_after : (before bytes : List ℕ) (clip : Option (List ℕ)) → then_clip (before ++ bytes) clip ≡ before ++ then_clip bytes clip
then_clip_after before bytes None = refl
then_clip_after before bytes (Some text) = append_assoc before bytes (clip_bytes text)

updates_before : (known : Option PictureState) (bytes : List ℕ) (clip : Option (List ℕ)) (p : PictureState) → IsUnseen clip → Updates known bytes p
    → Updates known (then_clip bytes clip) p
updates_before None bytes clip p unseen updates = λ t idle height width. unseen.shows t bytes p (updates t idle height width)
updates_before (Some old) bytes clip p unseen updates = λ t shown. unseen.shows t bytes p (updates t shown)

-- bytes appended to a queue whose first bytes were sent, and a clip
then_clip_drop : (n : ℕ) (bytes : List ℕ) (clip : Option (List ℕ)) → n ≤ length bytes → drop n (then_clip bytes clip) ≡ then_clip (drop n bytes) clip
then_clip_drop n bytes None fits = refl
then_clip_drop n bytes (Some text) fits = drop-append-le n bytes (clip_bytes text) fits

pub then_clip_longer : (n : ℕ) (bytes : List ℕ) (clip : Option (List ℕ)) → n ≤ length bytes → n ≤ length (then_clip bytes clip)
then_clip_longer n bytes None fits = fits
then_clip_longer n bytes (Some text) fits = omega (arith, fits, length-append bytes (clip_bytes text))

pub longer_by_both : (n : ℕ) (queue more new : List ℕ) (clip : Option (List ℕ)) → n ≤ length queue → new ≡ then_clip (queue ++ more) clip
    → drop n new ≡ then_clip (drop n queue ++ more) clip
longer_by_both n queue more new clip fits is =
    ap (drop n) is
    ∙ then_clip_drop n (queue ++ more) clip (omega (arith, fits, length-append queue more))
    ∙ ap (λ bytes. then_clip bytes clip) (drop-append-le n queue more fits)

-- what goes out is the held text
held_if : (out : Bool) (held text : List ℕ) → (if out then Some held else None) ≡ Some text → text ≡ held
held_if true held text is = sym (cc is)
held_if false held text is = absurd (cc is)

clip_is_held : (e : Editor) (key : Option Key) (text : List ℕ) → clip_after e key ≡ Some text → text ≡ e.held
clip_is_held e None text is = absurd (cc is)
clip_is_held e (Some key) text is = held_if (e.clipboard && is_clip key e.message) e.held text is

held_clip : (P : List ℕ → Type 0) (held : List ℕ) (clip : Option (List ℕ)) → ((text : List ℕ) → clip ≡ Some text → text ≡ held) → IfSome clip P
    → IfSome clip (λ text. (text ≡ held) × P text)
held_clip P held None own gives = tt
held_clip P held (Some text) own gives = (own text refl, gives)

-- ---- a session with this painting queued

module _ (d : Data) (s : Session) (e : Editor) (top : ℕ) (p : PictureState) (clip : Option (List ℕ)) (pending : List ℕ) (same : e ≡ with_top s.editor top)
    (is : p ≡ picture d s.editor top) (appends : pending ≡ then_clip (s.pending ++ painting s.known p) clip) where
  abbrev new : Session
  new = record s { editor = e; painted = Some p; known = Some p; painting_owed = false; pending = pending }

  drawn : p ≡ picture_of d e
  drawn = drawn_is d s.editor e top p same is

  pub painting_is : (scroll : Scroll) (key : Option Key) → top ≡ top_behind d s.editor s.editor.top scroll → clip ≡ clip_after s.editor key
      → new ≡ painted_after d scroll s key
  painting_is scroll key follows clips =
      let f : Editor → PictureState → List ℕ → Session =
      λ x q xs. record s { editor = x; painted = Some q; known = Some q; painting_owed = false; pending = xs } in
      let all : Editor → PictureState → Session = λ x q. f x q (then_clip (s.pending ++ painting s.known q) (clip_after s.editor key)) in
      ap (f e p) (appends ∙ ap (then_clip (s.pending ++ painting s.known p)) clips)
      ∙ ap (all e) drawn
      ∙ ap (λ (x : Editor). all x (picture_of d x)) (same ∙ ap (with_top s.editor) follows)

  stands_at : (s.editor.ended ≡ false → input_column d s.editor ≡ None → StandsOnItsCell d s.editor top p) → e.ended ≡ false
      → input_column d e ≡ None → StandsOnItsCell d e e.top (picture_of d e)
  stands_at stands =
      subst (λ (x : Editor). x.ended ≡ false → input_column d x ≡ None → StandsOnItsCell d x x.top (picture_of d e)) (sym same)
      (λ on away. subst (λ (q : PictureState). StandsOnItsCell d (with_top s.editor top) top q) drawn
      (stands_on d s.editor top p (stands on (sym (input_unseen d s.editor top s.editor.clipboard) ∙ away))))

  pub painting_queues : AreWholeTokens (painting s.known p) → Updates s.known (painting s.known p) p → IsPicture p
      → (s.editor.ended ≡ false → input_column d s.editor ≡ None → StandsOnItsCell d s.editor top p) → IsUnseen clip → QueuesPicture d s.pending s.known new
  painting_queues tokens updates sized stands unseen = (
    then_clip (painting s.known p) clip,
    record {
      appends = appends ∙ then_clip_after s.pending (painting s.known p) clip;
      tokens = unseen.tokens (painting s.known p) tokens;
      updates = subst (Updates s.known (then_clip (painting s.known p) clip)) drawn (updates_before s.known (painting s.known p) clip p unseen updates);
      painted = ap (λ (q : PictureState). Some q) drawn;
      known = ap (λ (q : PictureState). Some q) drawn;
      is_picture = subst IsPicture drawn sized;
      cursor = stands_at stands;
    },
  )

  bytes_drawn : s.pending ++ painting s.known p ≡ s.pending ++ painting s.known (picture_of d e)
  bytes_drawn = ap (λ (q : PictureState). s.pending ++ painting s.known q) drawn

  appends_by : (clip : Option (List ℕ)) → pending ≡ then_clip (s.pending ++ painting s.known p) clip
      → IfSome clip (λ text. (text ≡ s.editor.held) × (decode_of standard (encode_of standard text) ≡ Ok text)) → AppendsPainting d s.pending s.known new
  unfolding clip_bytes
  appends_by None appended gives = record {
    clip = [];
    appends = appended ∙ sym (append-nil (s.pending ++ painting s.known p)) ∙ ap (λ xs. xs ++ []) bytes_drawn;
    at_most_one = inl refl;
  }
  appends_by (Some text) appended gives =
      let own : text ≡ e.held = gives.0 ∙ ap (λ (x : Editor). x.held) (sym same) in
      let one : IsClipOf text (clip_bytes text) = record { base64 = encode_of standard text; is_clip = refl; gives = gives.1 } in
      record {
        clip = clip_bytes text;
        appends = appended ∙ ap (λ xs. xs ++ clip_bytes text) bytes_drawn;
        at_most_one = inr (subst (λ held. IsClipOf held (clip_bytes text)) own one);
      }

  pub painting_appends : (key : Option Key) → clip ≡ clip_after s.editor key → IsUnseen clip → AppendsPainting d s.pending s.known new
  painting_appends key clips unseen =
      appends_by clip appends
      (held_clip (λ text. decode_of standard (encode_of standard text) ≡ Ok text) s.editor.held clip (λ text one. clip_is_held s.editor key text (sym clips ∙ one)) unseen.gives)
