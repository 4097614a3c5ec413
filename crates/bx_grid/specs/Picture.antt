-- Pictures, and a terminal that shows one.
use Rattle.std.specs.Prelude.{◌≡◌, ℕ, Bool, false, ◌&&◌, List, [], Some}
use Rattle.bx_grid.specs.Columns.{Col}
use Rattle.bx_common.specs.Characters.{is_side}
use Rattle.bx_grid.specs.Terminal.{Terminal}

-- a grid's columns, and the cursor's row and column, counted from 0
pub record PictureState : Type 0 where
  pub height : ℕ
  pub width : ℕ
  pub columns : List Col
  pub row : ℕ
  pub column : ℕ

-- nothing is half read: no run, and no token
pub record IsIdle (t : Terminal) : Type 0 where
  pub no_run : t.run ≡ []
  pub no_token : t.half_read ≡ []

-- the terminal shows the picture
pub record Shows (t : Terminal) (p : PictureState) : Type 0 where
  pub nothing_half_read : IsIdle t
  pub same_height : t.height ≡ p.height
  pub same_width : t.width ≡ p.width
  pub same_columns : t.columns ≡ p.columns
  pub normal : t.negative ≡ Some false
  pub at_cursor : t.position ≡ Some (p.row, p.column)

-- each side is from 1 to 500
abbrev pub is_size : ℕ → ℕ → Bool
is_size height width = is_side height && is_side width
