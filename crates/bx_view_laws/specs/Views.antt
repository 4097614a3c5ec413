-- Keys that move the view themselves, in a window with `t` rows for text, of `w` columns: places in the middle, pages and scrolling. Rows
-- of the text are numbered from 0.
use Rattle.std.specs.Prelude.{◌≡◌, ◌⊎◌, ℕ, ◌+◌, ◌/◌, ◌<◌, ◌≤◌, min, List, length}
use Rattle.bx_view_laws.specs.Pointed.{IsFullEnd}
use Rattle.bx_view.specs.declared.moves.Goal.{Goal}
use Rattle.bx_view.specs.declared.moves.Goal.TheVariants.{Start, End}
use Rattle.bx_view.specs.declared.moves.Vertical.{Vertical}
use Rattle.bx_view.specs.declared.moves.Vertical.TheVariants.{Up, Down}
use Rattle.bx_view.specs.Laws.{IsShownFrom}
use Rattle.bx_view.specs.Moves.{goal_of, row_away, row_end, row_home, rows_away}
use Rattle.bx_view.specs.TextRows.{IsPlace, TextRow, first, row_at, row_of}
use Rattle.bx_view.specs.Top.{centred, filled, to_shown, top_away}

-- where row `top` is the top one, no row of the window is blank that could show text
abbrev pub IsFull : List TextRow → ℕ → ℕ → Type 0
IsFull rows t top = (top ≡ 0) ⊎ (top + t ≤ length rows)

-- A view that is centred shows the place's row. The top stays where that is shown already. Where it is not, the window is full, and
-- half of its rows are above the place's row, or all that the text has there.
pub record Centres (rows : List TextRow) (t : ℕ) : Type 0 where
  pub shows : (top place : ℕ) → IsShownFrom rows place t (row_of rows (centred rows top place t))
  pub stays : (top place : ℕ) → IsShownFrom rows place t (row_of rows top) → row_of rows (centred rows top place t) ≡ row_of rows top
  pub fills : (top place : ℕ) → (IsShownFrom rows place t (row_of rows top) → ⊥) → IsFull rows t (row_of rows (centred rows top place t))
  pub above : (top place : ℕ) → (IsShownFrom rows place t (row_of rows top) → ⊥)
      → row_of rows (centred rows top place t) + min (t / 2) (row_of rows place) ≤ row_of rows place

-- A view that is filled is full, and is moved up no further than that takes.
pub record Fills (rows : List TextRow) (t : ℕ) : Type 0 where
  pub full : (top : ℕ) → IsFull rows t (row_of rows (filled rows top t))
  pub least : (top k : ℕ) → k ≤ row_of rows top → IsFull rows t k → k ≤ row_of rows (filled rows top t)
  pub up : (top : ℕ) → row_of rows (filled rows top t) ≤ row_of rows top

-- The view goes `n` rows down and back up to the row where it was, if there are as many and `t` more; so it goes up and back down.
pub record ViewsReturn (rows : List TextRow) (t : ℕ) : Type 0 where
  pub down : (n top : ℕ) → row_of rows top + n + t ≤ length rows → top_away rows Up n (top_away rows Down n top t) t ≡ row_home rows top
  pub up : (n top : ℕ) → n ≤ row_of rows top → row_of rows top + t ≤ length rows
      → top_away rows Down n (top_away rows Up n top t) t ≡ row_home rows top

-- With the goal that a place keeps, a move by `n` rows and the move back lead to the place, where there are so many rows. But a place that
-- has its cell with a unit, the end of a full row, may give way to that unit.
pub record PlacesReturn (w : ℕ) (rows : List TextRow) : Type 0 where
  pub down : (n place : ℕ) → IsPlace rows place → row_of rows place + n < length rows
      → (rows_away w rows Up n (goal_of w rows place) (rows_away w rows Down n (goal_of w rows place) place) ≡ place)
      ⊎ IsFullEnd w (row_at rows (row_of rows place)) place
  pub up : (n place : ℕ) → IsPlace rows place → n ≤ row_of rows place
      → (rows_away w rows Down n (goal_of w rows place) (rows_away w rows Up n (goal_of w rows place) place) ≡ place)
      ⊎ IsFullEnd w (row_at rows (row_of rows place)) place

-- A move to another row, `k`, by the goal `Start` leads to the row's first place, by the goal `End` to its end.
pub record GoalsAreEnds (w : ℕ) (rows : List TextRow) : Type 0 where
  pub start : (way : Vertical) (n place k : ℕ) → k ≡ row_away (length rows) way n (row_of rows place) → (k ≡ row_of rows place → ⊥)
      → rows_away w rows way n Start place ≡ first (row_at rows k)
  pub end : (way : Vertical) (n place k : ℕ) → k ≡ row_away (length rows) way n (row_of rows place) → (k ≡ row_of rows place → ⊥)
      → rows_away w rows way n End place ≡ row_end rows (first (row_at rows k))

-- A place that keeps to the shown rows is then in one of them; it stays where its row is shown.
pub record KeepsShown (w : ℕ) (rows : List TextRow) (t : ℕ) : Type 0 where
  pub shows : (top place : ℕ) (goal : Goal) → IsShownFrom rows (to_shown w rows top t goal place) t (row_of rows top)
  pub stays : (top place : ℕ) (goal : Goal) → IsShownFrom rows place t (row_of rows top) → to_shown w rows top t goal place ≡ place
