-- Each step keeps a world in step.
use Rattle.std.proofs.Common.{◌≡◌, ℕ, Bool, true, List, [], ◌++◌, take, drop, Option, Some, None, refl, sym, ap, subst, ◌∙◌}
use Rattle.std.specs.Prelude.{IfSome, option_map}
use Rattle.std.proofs.lemmas.List.{append_assoc, take-append-drop}
use Rattle.bx_grid.specs.Picture.{PictureState, IsIdle, Shows}
use Rattle.bx_grid.specs.Terminal.{Terminal, reads, after_resize, unknown_terminal}
use Rattle.bx_grid.proofs.Reading.{reads-append}
use Rattle.bx_ucd.specs.Data.{Data}
use Rattle.bx_editor.specs.Picture.{picture}
use Rattle.bx_session.specs.Session.{Session}
use Rattle.bx_session.specs.Laws.{ShowsState}
use Rattle.bx_session.specs.Painting.{Paints, QueuesPicture, Updates}
use Rattle.bx_session.proofs.Pictures.{picture_height, picture_width}
use Rattle.bx_world.specs.World.{World, around, after_window, after_send, after_read, with_failed_screen}
use Rattle.bx_world.specs.Showing.{unread, picture_of, AfterAll, CursorStands, NoRunInSequence, HasSize, FitsWindow, IsInStep}
use Rattle.bx_world.proofs.Terminals.{reads_size, reads_no_run, reads_alike, idle_as}

-- a session after a step, beside the window's mark
abbrev with_session : World → Session → Bool → World
with_session w s told = record w { session = s; told = told }

-- where nothing was queued
pub kept : (d : Data) (w : World) (s : Session) (told : Bool) → IsInStep d w → s.pending ≡ w.session.pending → ShowsState d s → CursorStands d s
    → (told ≡ true → IfSome s.known (λ p. (w.told ≡ true) × (w.session.known ≡ Some p)))
    → (told ≡ true → FitsWindow w.height w.width s.editor) → IsInStep d (with_session w s told)
kept d w s told was pending state cursor known fits = record {
  state = state;
  cursor = cursor;
  follows = λ on. known_follows s.known (known on);
  whole = subst (λ bytes. IfSome w.screen (λ t. IsIdle (reads t (w.line ++ bytes)))) (sym pending) was.whole;
  screen = was.screen;
  size = fits;
} where
  known_follows : (painted : Option PictureState) → IfSome painted (λ p. (w.told ≡ true) × (w.session.known ≡ Some p))
      → IfSome painted (λ p. IfSome w.screen (λ t. Shows (reads t (w.line ++ s.pending)) p))
  known_follows None h = tt
  known_follows (Some p) h =
      subst (λ bytes. IfSome w.screen (λ t. Shows (reads t (w.line ++ bytes)) p)) (sym pending)
      (subst (λ painted. IfSome painted (λ q. AfterAll w (λ t. Shows t q))) h.1 (was.follows h.0))

-- bytes behind what is pending are read last
read_last : (w : World) (s : Session) (bytes : List ℕ) (t : Terminal) → s.pending ≡ w.session.pending ++ bytes
    → reads (reads t (unread w)) bytes ≡ reads t (w.line ++ s.pending)
read_last w s bytes t is =
    sym (reads-append t (unread w) bytes)
    ∙ ap (reads t) (append_assoc w.line w.session.pending bytes ∙ ap (λ xs. w.line ++ xs) (sym is))

-- bytes that update the screen, after all that is on its way
updates_later : (w : World) (known : Option PictureState) (bytes : List ℕ) (p : PictureState) (t : Terminal) → IsIdle (reads t (unread w))
    → HasSize w.height w.width t → (p.height ≡ w.height) × (p.width ≡ w.width)
    → IfSome known (λ q. Shows (reads t (unread w)) q) → Updates known bytes p → Shows (reads (reads t (unread w)) bytes) p
updates_later w None bytes p t idle size fits shown updates =
    let all = reads_size t (unread w) in
    updates (reads t (unread w)) idle (all.0 ∙ size.0 ∙ sym fits.0) (all.1 ∙ size.1 ∙ sym fits.1)
updates_later w (Some q) bytes p t idle size fits shown updates = updates (reads t (unread w)) shown

-- where a picture was queued
pub painted : (d : Data) (w : World) (s : Session) (told : Bool) (known : Option PictureState) → IsInStep d w
    → QueuesPicture d w.session.pending known s
    → (told ≡ true → IfSome known (λ p. (w.told ≡ true) × (w.session.known ≡ Some p)))
    → (told ≡ true → FitsWindow w.height w.width s.editor) → IsInStep d (with_session w s told)
painted d w s told known was queued stays fits = record {
  state = λ owed. (paints.painted, paints.known);
  cursor = λ owed. paints.cursor;
  follows = λ on. subst (λ painted. IfSome painted (λ p. IfSome w.screen (λ t. Shows (reads t (w.line ++ s.pending)) p))) (sym paints.known)
      (shows_at w.screen was.whole was.screen (known_at known (stays on)) on);
  whole = whole_at w.screen was.whole;
  screen = was.screen;
  size = fits;
} where
  bytes : List ℕ
  bytes = queued.0

  paints : Paints d w.session.pending known s bytes
  paints = queued.1

  new : PictureState
  new = picture d s.editor s.editor.top

  known_at : (known : Option PictureState) → IfSome known (λ p. (w.told ≡ true) × (w.session.known ≡ Some p))
      → IfSome known (λ p. IfSome w.screen (λ t. Shows (reads t (unread w)) p))
  known_at None h = tt
  known_at (Some p) h = subst (λ painted. IfSome painted (λ q. AfterAll w (λ t. Shows t q))) h.1 (was.follows h.0)

  pick : (known : Option PictureState) (t : Terminal) → IfSome known (λ p. IfSome (Some t) (λ u. Shows (reads u (unread w)) p))
      → IfSome known (λ p. Shows (reads t (unread w)) p)
  pick None t h = tt
  pick (Some p) t h = h

  shows_at : (screen : Option Terminal) → IfSome screen (λ t. IsIdle (reads t (unread w)))
      → IfSome screen (λ t. HasSize w.height w.width t × NoRunInSequence t)
      → IfSome known (λ p. IfSome screen (λ t. Shows (reads t (unread w)) p)) → told ≡ true
      → IfSome screen (λ t. Shows (reads t (w.line ++ s.pending)) new)
  shows_at None idle size shown on = tt
  shows_at (Some t) idle size shown on =
      let window = fits on in
      subst (λ u. Shows u new) (read_last w s bytes t paints.appends)
      (updates_later w known bytes new t idle size.0
      (picture_height d s.editor s.editor.top ∙ window.0, picture_width d s.editor s.editor.top ∙ window.1) (pick known t shown) paints.updates)

  whole_at : (screen : Option Terminal) → IfSome screen (λ t. IsIdle (reads t (unread w))) → IfSome screen (λ t. IsIdle (reads t (w.line ++ s.pending)))
  whole_at None idle = tt
  whole_at (Some t) idle = subst IsIdle (read_last w s bytes t paints.appends) (paints.tokens (reads t (unread w)) idle)

-- ---- opening

pub opened : (d : Data) (s : Session) (height width : ℕ) → QueuesPicture d [] None s → (s.editor.height ≡ height) × (s.editor.width ≡ width)
    → IsInStep d (around s height width)
opened d s height width queued fits =
    let paints = queued.1 in
    let t = unknown_terminal height width in
    let idle : IsIdle t = record { no_run = refl; no_token = refl } in
    let p = picture_of d s in record {
      state = λ owed. (paints.painted, paints.known);
      cursor = λ owed. paints.cursor;
      follows = λ on. subst (λ painted. IfSome painted (λ q. Shows (reads t s.pending) q)) (sym paints.known)
          (subst (λ bytes. Shows (reads t bytes) p) (sym paints.appends)
          (paints.updates t idle (sym fits.0 ∙ sym (picture_height d s.editor s.editor.top)) (sym fits.1 ∙ sym (picture_width d s.editor s.editor.top))));
      whole = subst (λ bytes. IsIdle (reads t bytes)) (sym paints.appends) (paints.tokens t idle);
      screen = ((refl, refl), λ on. refl);
      size = λ on. fits;
    }

-- ---- the window, the line and the terminal

pub resized : (d : Data) (w : World) (height width : ℕ) → IsInStep d w → IsInStep d (after_window w height width)
resized d w height width was = record {
  state = was.state;
  cursor = was.cursor;
  follows = λ on. absurd (cc on);
  whole = whole_at w.screen was.whole was.screen;
  screen = screen_at w.screen was.screen;
  size = λ on. absurd (cc on);
} where
  whole_at : (screen : Option Terminal) → IfSome screen (λ t. IsIdle (reads t (unread w)))
      → IfSome screen (λ t. HasSize w.height w.width t × NoRunInSequence t)
      → IfSome (option_map (λ t. after_resize t height width) screen) (λ t. IsIdle (reads t (unread w)))
  whole_at None idle h = tt
  whole_at (Some t) idle h =
      let new = after_resize t height width in
      idle_as (reads t (unread w)) (reads new (unread w)) (reads_alike t new (unread w) h.1 (record { run = refl; half_read = refl })) idle

  screen_at : (screen : Option Terminal) → IfSome screen (λ t. HasSize w.height w.width t × NoRunInSequence t)
      → IfSome (option_map (λ t. after_resize t height width) screen) (λ t. HasSize height width t × NoRunInSequence t)
  screen_at None h = tt
  screen_at (Some t) h = ((refl, refl), h.1)

pub sent : (d : Data) (w : World) (count : ℕ) → IsInStep d w → IsInStep d (after_send w count)
sent d w count was =
    let p = w.session.pending in
    let same : unread w ≡ (w.line ++ take count p) ++ drop count p =
    ap (λ xs. w.line ++ xs) (sym (take-append-drop count p)) ∙ sym (append_assoc w.line (take count p) (drop count p)) in record {
      state = was.state;
      cursor = was.cursor;
      follows = λ on. subst (λ bytes. IfSome w.session.known (λ q. IfSome w.screen (λ t. Shows (reads t bytes) q))) same (was.follows on);
      whole = subst (λ bytes. IfSome w.screen (λ t. IsIdle (reads t bytes))) same was.whole;
      screen = was.screen;
      size = was.size;
    }

pub received : (d : Data) (w : World) (count : ℕ) → IsInStep d w → IsInStep d (after_read w count)
received d w count was = record {
  state = was.state;
  cursor = was.cursor;
  follows = λ on. follows_at w.session.known (was.follows on);
  whole = all_at w.screen IsIdle was.whole;
  screen = screen_at w.screen was.screen;
  size = was.size;
} where
  first : List ℕ
  first = take count w.line

  rest : List ℕ
  rest = drop count w.line ++ w.session.pending

  same : unread w ≡ first ++ rest
  same = ap (λ xs. xs ++ w.session.pending) (sym (take-append-drop count w.line)) ∙ append_assoc first (drop count w.line) w.session.pending

  all_at : (screen : Option Terminal) (holds : Terminal → Type 0) → IfSome screen (λ t. holds (reads t (unread w)))
      → IfSome (option_map (λ t. reads t first) screen) (λ t. holds (reads t rest))
  all_at None holds h = tt
  all_at (Some t) holds h = subst holds (ap (reads t) same ∙ reads-append t first rest) h

  follows_at : (painted : Option PictureState) → IfSome painted (λ p. IfSome w.screen (λ t. Shows (reads t (unread w)) p))
      → IfSome painted (λ p. IfSome (option_map (λ t. reads t first) w.screen) (λ t. Shows (reads t rest) p))
  follows_at None h = tt
  follows_at (Some p) h = all_at w.screen (λ t. Shows t p) h

  screen_at : (screen : Option Terminal) → IfSome screen (λ t. HasSize w.height w.width t × NoRunInSequence t)
      → IfSome (option_map (λ t. reads t first) screen) (λ t. HasSize w.height w.width t × NoRunInSequence t)
  screen_at None h = tt
  screen_at (Some t) h = (let size = reads_size t first in ((size.0 ∙ h.0.0, size.1 ∙ h.0.1), reads_no_run t first h.1))

pub failed : (d : Data) (w : World) (line : List ℕ) → IsInStep d w → IsInStep d (with_failed_screen (record w { line = line }))
failed d w line was = record {
  state = was.state;
  cursor = was.cursor;
  follows = λ on. nothing w.session.known;
  whole = tt;
  screen = tt;
  size = was.size;
} where
  nothing : (painted : Option PictureState) → IfSome painted (λ p. Unit {0})
  nothing None = tt
  nothing (Some p) = tt
