-- Columns put one after another into a row of blanks.
use Rattle.std.proofs.Common.{◌≡◌, ℕ, ◌+◌, ◌-◌, ◌*◌, ◌≤◌, List, ◌++◌, length, replicate, ap, ◌∙◌, length-append, arith}
use Rattle.std.proofs.lemmas.List.{append-nil}
use Rattle.bx_grid.specs.Columns.{Col, blank}
use Rattle.bx_grid.specs.Grid.{paste, GridState, HasRoom, IsWithin}
use Rattle.bx_grid.proofs.Laid.{blank_next, laid_next}

-- a grid of one row: these columns, then blanks
abbrev pub one_row : ℕ → List Col → GridState
one_row w done = record { height = 1; width = w; columns = done ++ replicate (w - length done) blank }

module _ (w : ℕ) (done : List Col) (new : GridState) (column : ℕ) (is : new ≡ one_row w done) (at : column ≡ length done + 1) where
  height : new.height ≡ 1
  height = ap (λ (g : GridState). g.height) is

  width : new.width ≡ w
  width = ap (λ (g : GridState). g.width) is

  columns : new.columns ≡ done ++ replicate (w - length done) blank
  columns = ap (λ (g : GridState). g.columns) is

  index : (1 - 1) * w + (column - 1) ≡ length done
  index = let none : (1 - 1) * w ≡ 0 = omega arith in omega (arith, none, at)

  pub within_next : length done + 1 ≤ w → IsWithin new.height new.width 1 column
  within_next fits = record { top = omega arith; bottom = omega (arith, height); left = omega (arith, at); right = omega (arith, width, at, fits) }

  pub room_next : (count : ℕ) → length done + count ≤ w → HasRoom new 1 column count
  room_next count fits = record {
    fits = omega (arith, width, at, fits);
    blank = rw (width, columns) (blank_next done ((1 - 1) * w + (column - 1)) count (w - length done) index (omega (arith, fits)));
  }

  pub put_next : (one run : List Col) (later : GridState) → length done + length one ≤ w → run ≡ one
      → later ≡ record new { columns = paste new.columns ((1 - 1) * new.width + (column - 1)) run } → later ≡ one_row w (done ++ one)
  put_next one run later fits same step =
      let rest = w - length (done ++ one) in
      let split : w - length done ≡ length one + rest = omega (arith, length-append done one, fits) in
      step
      ∙ ap (λ (g : GridState). record g { columns = paste g.columns ((1 - 1) * g.width + (column - 1)) run }) is
      ∙ ap (λ cs. record (one_row w done) { columns = paste (one_row w done).columns ((1 - 1) * w + (column - 1)) cs }) same
      ∙ ap (λ cs. record (one_row w done) { columns = cs }) (laid_next done one ((1 - 1) * w + (column - 1)) (w - length done) rest index split)

-- blanks are left after the columns
pub some_put : (w n : ℕ) (all : List Col) (new : GridState) → new ≡ one_row w all → length all ≡ n → new.columns ≡ all ++ replicate (w - n) blank
some_put w n all new is len = ap (λ (g : GridState). g.columns) is ∙ ap (λ k. all ++ replicate (w - k) blank) len

-- and none where they fill the row
pub all_put : (w n : ℕ) (all : List Col) → n ≡ w → all ++ replicate (w - n) blank ≡ all
all_put w n all full =
    let none : w - n ≡ 0 = omega (arith, full) in
    ap (λ k. all ++ replicate k blank) none ∙ append-nil all
