-- If no painting is owed, the picture last painted is the one of the session's state, and the screen is taken to show it.
use Rattle.std.proofs.Common.{◌≡◌, Bool, true, false, ◌||◌, Option, Some, refl, sym, ap, ◌∙◌, if◌then◌else◌}
use Rattle.bx_keys.specs.declared.key.Key.{Key}
use Rattle.bx_grid.specs.Picture.{PictureState}
use Rattle.bx_editor.specs.declared.scrolling.Scroll.{Scroll}
use Rattle.bx_ucd.specs.Data.{Data}
use Rattle.bx_session.specs.Session.{Session, counted_key, is_painted_press, needs_painting, painted_after, picture_of, scroll_behind, unpainted_after_press}
use Rattle.bx_session.specs.Laws.{ShowsState, AlwaysShowsState}
use Rattle.bx_session.proofs.Quiet.{quiet_press, quiet_shows}
use Rattle.bx_session.proofs.Tops.{clipboard_unseen}

painting_shows : (d : Data) (scroll : Scroll) (s : Session) (key : Option Key) → ShowsState d (painted_after d scroll s key)
painting_shows d scroll s key owed = (refl, refl)

pub no_need : (owed needs : Bool) → (owed || needs) ≡ false → (owed ≡ false) × (needs ≡ false)
no_need true needs h = absurd (cc h)
no_need false needs h = (refl, h)

either_shows : (paints : Bool) (d : Data) (scroll : Scroll) (s : Session) (key : Option Key) → (paints ≡ false → ShowsState d s)
    → ShowsState d (if paints then painted_after d scroll s key else s)
either_shows true d scroll s key h = painting_shows d scroll s key
either_shows false d scroll s key h = h refl

clipboard_shows : (d : Data) (s : Session) → ShowsState d s → ShowsState d (record s { editor = record s.editor { clipboard = true } })
clipboard_shows d s was owed =
    let same : Some (picture_of d s.editor) ≡ Some (picture_of d (record s.editor { clipboard = true })) =
    ap (λ (p : PictureState). Some p) (sym (clipboard_unseen d s.editor true s.editor.top)) in
    ((was owed).0 ∙ same, (was owed).1 ∙ same)

pub always_shows : AlwaysShowsState
always_shows = record {
  opening = λ d text height width base owed. (refl, refl);
  press = λ d fault s key h.
      either_shows (is_painted_press s key) d (scroll_behind s.editor (counted_key s key)) (unpainted_after_press d fault s key) (counted_key s key)
      (λ none. quiet_shows d s (unpainted_after_press d fault s key)
      (quiet_press d fault s key (no_need s.painting_owed (needs_painting s.editor (counted_key s key)) none).1) h);
  owing_press = λ d fault s key owed. absurd (cc owed);
  told = λ d s height width owed. (refl, refl);
  owing_told = λ d s height width owed. absurd (cc owed);
  replay = λ d s b owed. absurd (cc owed);
  replay_end = λ d s owed. absurd (cc owed);
  unmoved_replay = λ d s b owed. absurd (cc owed);
  unscrolled_end = λ d s owed. absurd (cc owed);
  settings = λ d s settings owed. (refl, refl);
  owing_settings = λ d s settings owed. absurd (cc owed);
  clipboard = clipboard_shows;
  going = λ d s offset owed. absurd (cc owed);
  sending = λ d s count h. h;
}
