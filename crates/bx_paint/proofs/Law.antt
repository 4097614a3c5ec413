-- A terminal that reads a painting shows the picture, and its effects are the changes alone.
use Rattle.std.proofs.Common.{◌≡◌, ℕ, ◌*◌, Bool, true, false, ◌&&◌, nat_eq, List, [], ◌∷◌, ◌++◌, length, replicate, Option, Some, None, refl, ap, sym, ◌∙◌}
use Rattle.std.proofs.Common.{arith}
use Rattle.std.proofs.lemmas.Bool.Decides.{nat_tests}
use Rattle.std.proofs.lemmas.List.{length-replicate}
use Rattle.bx_grid.specs.Columns.{Col, blank}
use Rattle.bx_grid.specs.Glyphs.{AreWholeRows}
use Rattle.bx_grid.specs.Effects.{Effect, Clears, run_effects, pending_effects, clear_effects, effects}
use Rattle.bx_grid.specs.Terminal.{Terminal, reads, run_put, run_ended, after_rendition, after_clear}
use Rattle.bx_grid.specs.Picture.{PictureState, IsIdle, Shows}
use Rattle.bx_grid.specs.Grid.{IsGrid, IsPicture}
use Rattle.bx_grid.proofs.Doing.{run, run-append, run_is, sequence_does}
use Rattle.bx_grid.proofs.Reading.{at, and_left, and_right}
use Rattle.bx_paint.specs.Painting.{columns_changed, ended, is_none, is_at_cursor_of, changes_bytes, whole_bytes, move_bytes, render_bytes, render_change}
use Rattle.bx_paint.specs.Changed.{changed, rows_changed}
use Rattle.bx_grid.proofs.Whole.{rows-blank}
use Rattle.bx_paint.proofs.Sequences.{screen, Leaves, plain_leaves, Fits, moves, renders, final_m, final_J}
use Rattle.bx_paint.proofs.Drawn.{Comes}
use Rattle.bx_paint.proofs.Painted.{rows_do}

pub fits : (p : PictureState) → IsPicture p → Fits p
fits p h = record { height = omega (arith, h.grid.sized.high); width = omega (arith, h.grid.sized.wide); row = h.row_inside; column = h.column_inside }

abbrev made : ℕ → ℕ → List Col → Option (ℕ × ℕ) → Option Bool → List ℕ → List ℕ → Terminal
made height width columns position negative run half_read = record {
  height = height;
  width = width;
  columns = columns;
  position = position;
  negative = negative;
  run = run;
  half_read = half_read;
}

-- without a run nothing takes effect
no_run : (t : Terminal) → t.run ≡ [] → (run_ended t ≡ t) × (pending_effects t ≡ [])
no_run t h = (ap (run_put t t.position t.negative) h, ap (run_effects t t.position t.negative) h)

-- ---- the end

at_end : (p : PictureState) (w : Terminal × List Effect) (columns : List Col) (q : Option (ℕ × ℕ)) (negative : Bool) (all : List Effect)
    → Fits p → Leaves p w columns q negative all
    → run w (render_change negative false ++ move_bytes p.row p.column) ≡ (screen p columns (Some (p.row, p.column)) false [], all)
at_end p w columns q true all fits leaves =
    run-append w (render_bytes false) (move_bytes p.row p.column)
    ∙ ap (λ v. run v (move_bytes p.row p.column)) (renders p w columns q true false all leaves)
    ∙ moves p (screen p columns q false [], all) columns q false all p.row p.column (plain_leaves p columns q false all) fits.row fits.column fits.height
    fits.width
at_end p w columns q false all fits leaves =
    moves p w columns q false all p.row p.column leaves fits.row fits.column fits.height fits.width

-- all rows, and the end
pub all_rows : (p : PictureState) (old : List Col) (w : Terminal × List Effect) (q : Option (ℕ × ℕ)) (all : List Effect)
    → IsPicture p → length old ≡ p.height * p.width → AreWholeRows p.height p.width old → Leaves p w old q false all
    → Comes p (run w (columns_changed old p).bytes) p.columns (columns_changed old p).negative (all ++ rows_changed p.height p.width 0 old p.columns)
all_rows p old w q all is size whole leaves =
    let none : 0 * p.width ≡ 0 = omega arith in
    let rows = rows_do p p.height 0 false [] old p.columns w q all (fits p is) (omega arith) (sym none) size is.grid.sized.each whole
    is.grid.rows leaves in
    rw none at rows

painted : (p : PictureState) (old : List Col) (w : Terminal × List Effect) (q : Option (ℕ × ℕ)) (all : List Effect)
    → IsPicture p → length old ≡ p.height * p.width → AreWholeRows p.height p.width old → Leaves p w old q false all
    → run w (ended p (columns_changed old p)) ≡ (screen p p.columns (Some (p.row, p.column)) false [], all ++ rows_changed p.height p.width 0 old p.columns)
painted p old w q all is size whole leaves =
    let s = columns_changed old p in
    let rows = all_rows p old w q all is size whole leaves in
    run-append w s.bytes (render_change s.negative false ++ move_bytes p.row p.column)
    ∙ at_end p (run w s.bytes) p.columns rows.0 s.negative (all ++ rows_changed p.height p.width 0 old p.columns) (fits p is) rows.1

shown : (p : PictureState) → Shows (screen p p.columns (Some (p.row, p.column)) false []) p
shown p = record {
  nothing_half_read = record { no_run = refl; no_token = refl };
  same_height = refl;
  same_width = refl;
  same_columns = refl;
  normal = refl;
  at_cursor = refl;
}

-- ---- whole

opening : (p : PictureState) (t : Terminal) → IsIdle t → t.height ≡ p.height → t.width ≡ p.width
    → run (t, []) (0x1B ∷ 0x5B ∷ 0x30 ∷ 0x6D ∷ 0x1B ∷ 0x5B ∷ 0x32 ∷ 0x4A ∷ []) ≡ (screen p (replicate (p.height * p.width) blank) None false [], Clears ∷ [])
opening p t idle height width =
    let none = no_run t idle.no_run in
    let after : Terminal → List Effect → Terminal × List Effect = λ u ds. run (after_rendition (at u []) false, ds ++ []) (0x1B ∷ 0x5B ∷ 0x32 ∷ 0x4A ∷ []) in
    let u : Terminal = after_rendition (at t []) false in
    let still = no_run u idle.no_run in
    let end : Terminal → List Effect → Terminal × List Effect = λ v ds. (after_clear (at v []) (at v []).negative, ([] ++ ds) ++ clear_effects v.negative) in
    ap (λ w. run w (0x1B ∷ 0x5B ∷ 0x32 ∷ 0x4A ∷ [])) (sequence_does t [] (0x30 ∷ []) 0x6D idle.no_token refl final_m)
    ∙ ap (λ v. after v (pending_effects t)) none.0
    ∙ ap (after t) none.1
    ∙ sequence_does u [] (0x32 ∷ []) 0x4A refl refl final_J
    ∙ ap (λ v. end v (pending_effects u)) still.0
    ∙ ap (end u) still.1
    ∙ rw (height, width, idle.no_run) refl

-- whatever its state, a terminal of the picture's size with nothing half read shows the picture once it has read the whole painting
pub whole_shows : (p : PictureState) → IsPicture p → (t : Terminal) → IsIdle t → t.height ≡ p.height → t.width ≡ p.width → Shows (reads t (whole_bytes p)) p
whole_shows p is t idle height width =
    let blanks = replicate (p.height * p.width) blank in
    let start = 0x1B ∷ 0x5B ∷ 0x30 ∷ 0x6D ∷ 0x1B ∷ 0x5B ∷ 0x32 ∷ 0x4A ∷ [] in
    let w : Terminal × List Effect = (screen p blanks None false [], Clears ∷ []) in
    let end : run (t, []) (whole_bytes p)
    ≡ (screen p p.columns (Some (p.row, p.column)) false [], (Clears ∷ []) ++ rows_changed p.height p.width 0 blanks p.columns) =
    run-append (t, []) start (ended p (columns_changed blanks p))
    ∙ ap (λ v. run v (ended p (columns_changed blanks p))) (opening p t idle height width)
    ∙ painted p blanks w None (Clears ∷ []) is (length-replicate (p.height * p.width) blank) (rows-blank p.height p.width)
    (plain_leaves p blanks None false (Clears ∷ [])) in
    let state : reads t (whole_bytes p) ≡ screen p p.columns (Some (p.row, p.column)) false [] =
    ap (λ (v : Terminal × List Effect). v.0) (sym (run_is t [] (whole_bytes p)) ∙ end) in
    rw state (shown p)

-- ---- changes

showing : (old new : PictureState) (t : Terminal) → old.height ≡ new.height → old.width ≡ new.width → Shows t old
    → Leaves new (t, []) old.columns (Some (old.row, old.column)) false []
showing old new t eh ew h =
    let is : made t.height t.width t.columns t.position t.negative t.run t.half_read ≡ screen new old.columns (Some (old.row, old.column)) false [] =
    rw (h.same_height, h.same_width, h.same_columns, h.at_cursor, h.normal, h.nothing_half_read.no_run, h.nothing_half_read.no_token, eh, ew) refl in
    let none = no_run t h.nothing_half_read.no_run in
    record { no_token = h.nothing_half_read.no_token; effect = none.0 ∙ is; told = none.1 }

none_is : (bs : List ℕ) → is_none bs ≡ true → bs ≡ []
none_is [] h = refl
none_is (b ∷ bs) h = absurd (cc h)

pub record Changes (old new : PictureState) (t : Terminal) (bytes : List ℕ) : Type 0 where
  pub shows : Shows (reads t bytes) new
  pub sends : effects t bytes ≡ changed old new

by_bytes : (old new : PictureState) (t : Terminal) (bytes : List ℕ)
    → run (t, []) bytes ≡ (screen new new.columns (Some (new.row, new.column)) false [], changed old new)
    → Changes old new t bytes
by_bytes old new t bytes h =
    let both = sym (run_is t [] bytes) ∙ h in
    record {
      shows = rw (ap (λ (v : Terminal × List Effect). v.0) both) (shown new);
      sends = ap (λ (v : Terminal × List Effect). v.1) both;
    }

none_sent : (old new : PictureState) (t : Terminal) (q : Option (ℕ × ℕ)) (negative : Bool) → Shows t old → is_at_cursor_of old new ≡ true
    → Leaves new (t, []) new.columns q negative (changed old new) → Changes old new t []
none_sent old new t q negative h cursor leaves =
    let row : nat_eq old.row new.row ≡ true = and_left (nat_eq old.row new.row) (nat_eq old.column new.column) cursor in
    let column : nat_eq old.column new.column ≡ true = and_right (nat_eq old.row new.row) (nat_eq old.column new.column) cursor in
    let er : old.row ≡ new.row = grind (arith, nat_tests) in
    let ec : old.column ≡ new.column = grind (arith, nat_tests) in
    let none = no_run t h.nothing_half_read.no_run in
    let is : t ≡ screen new new.columns q negative [] = sym none.0 ∙ leaves.effect in
    record {
      shows = record {
        nothing_half_read = h.nothing_half_read;
        same_height = ap (λ (u : Terminal). u.height) is;
        same_width = ap (λ (u : Terminal). u.width) is;
        same_columns = ap (λ (u : Terminal). u.columns) is;
        normal = h.normal;
        at_cursor = h.at_cursor ∙ rw (er, ec) refl;
      };
      sends = sym none.1 ∙ leaves.told;
    }

leaves_after : (p : PictureState) (w : Terminal × List Effect) (bytes : List ℕ) (columns : List Col) (q : Option (ℕ × ℕ)) (negative : Bool) (all : List Effect)
    → bytes ≡ [] → Leaves p (run w bytes) columns q negative all → Leaves p w columns q negative all
leaves_after p w bytes columns q negative all e h = let none : run w bytes ≡ w = ap (run w) e in rw none at h

changes_by : (old new : PictureState) (t : Terminal) (none : Bool) → IsGrid old.height old.width old.columns → IsPicture new → old.height ≡ new.height
    → old.width ≡ new.width → Shows t old
    → is_none (columns_changed old.columns new).bytes && is_at_cursor_of old new ≡ none
    → Changes old new t (changes_bytes old new)
changes_by old new t true a b eh ew h e =
    let s = columns_changed old.columns new in
    let empty : s.bytes ≡ [] = none_is s.bytes (and_left (is_none s.bytes) (is_at_cursor_of old new) e) in
    let size : length old.columns ≡ new.height * new.width = a.sized.each ∙ rw (eh, ew) refl in
    let whole : AreWholeRows new.height new.width old.columns = rw (← eh, ← ew) a.rows in
    let rows = all_rows new old.columns (t, []) (Some (old.row, old.column)) [] b size whole (showing old new t eh ew h) in
    let there : Leaves new (t, []) new.columns rows.0 s.negative (changed old new) =
    leaves_after new (t, []) s.bytes new.columns rows.0 s.negative (changed old new) empty rows.1 in
    rw e (none_sent old new t rows.0 s.negative h (and_right (is_none s.bytes) (is_at_cursor_of old new) e) there)
changes_by old new t false a b eh ew h e =
    let size : length old.columns ≡ new.height * new.width = a.sized.each ∙ rw (eh, ew) refl in
    let whole : AreWholeRows new.height new.width old.columns = rw (← eh, ← ew) a.rows in
    rw e (by_bytes old new t (ended new (columns_changed old.columns new))
    (painted new old.columns (t, []) (Some (old.row, old.column)) [] b size whole (showing old new t eh ew h)))

pub changes_show : (old new : PictureState) → IsGrid old.height old.width old.columns → IsPicture new → old.height ≡ new.height → old.width ≡ new.width
    → (t : Terminal) → Shows t old
    → Changes old new t (changes_bytes old new)
changes_show old new a b eh ew t h = changes_by old new t (is_none (columns_changed old.columns new).bytes && is_at_cursor_of old new) a b eh ew h refl
