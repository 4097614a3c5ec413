-- A row that is put into a grid, and slots that are turned in it.
use Rattle.std.proofs.Common.{◌≡◌, ℕ, ◌+◌, ◌-◌, ◌*◌, ◌<◌, ◌≤◌, List, ◌++◌, length, take, drop, get_or, sym, ap, subst, ◌∙◌, refl, arith, append_assoc}
use Rattle.std.specs.Prelude.{All}
use Rattle.std.proofs.Math.Nat.{min-le_left, mul-le-mul_right}
use Rattle.std.proofs.lemmas.List.{at_drop_more, drop_all, drop_at, length-drop, length-take, length-take-le, take-append-drop, take_at}
use Rattle.bx_grid.specs.Columns.{Col}
use Rattle.bx_grid.specs.Grid.{paste, GridState, turned_in}
use Rattle.bx_grid.proofs.Pasted.{paste_around, pasted_around}
use Rattle.bx_grid.proofs.RowsPut.{put_same}
use Rattle.bx_grid.proofs.TurnedWhole.{length-turned}
use Rattle.bx_paragraph.specs.declared.slots.Slot.{Slot}
use Rattle.bx_document.specs.Shown.{with_rows}
use Rattle.bx_document.specs.RegionSlots.{IsSpan, row_in, turned_slots}
use Rattle.bx_document.proofs.RegionColumns.{span-turned}

-- ---- a row of a grid

row-room : (g : GridState) (row : ℕ) → length g.columns ≡ g.height * g.width → row < g.height → row * g.width + g.width ≤ length g.columns
row-room g row size below =
    let le : (row + 1) * g.width ≤ g.height * g.width = mul-le-mul_right g.width (let h : row + 1 ≤ g.height = omega (arith, below) in h) in
    let sum : (row + 1) * g.width ≡ row * g.width + g.width = omega arith in
    omega (arith, le, sum, size)

pub length-row : (g : GridState) (row : ℕ) → length g.columns ≡ g.height * g.width → row < g.height → length (row_in g row) ≡ g.width
length-row g row size below =
    length-take-le g.width (drop (row * g.width) g.columns) (omega (arith, row-room g row size below, length-drop (row * g.width) g.columns))

-- the first `i` of some slots are turned in the row
pub record AreTurned (old : GridState) (row : ℕ) (slots : List Slot) (i : ℕ) (g : GridState) : Type 0 where
  pub grid : g ≡ with_rows old row (row_in g row)
  pub most : length (row_in g row) ≤ old.width
  pub rest : turned_slots (drop i slots) (row_in g row) ≡ turned_slots slots (row_in old row)
  pub spans : All (IsSpan (row_in g row)) slots
  pub sized : length g.columns ≡ g.height * g.width → length old.columns ≡ old.height * old.width

module _ (old : GridState) (row : ℕ) (size : length old.columns ≡ old.height * old.width) (below : row < old.height) where
  room : row * old.width + old.width ≤ length old.columns
  room = row-room old row size below

  -- a row that was put
  pub row-put : (news : List Col) → length news ≡ old.width → row_in (with_rows old row news) row ≡ news
  row-put news len =
      let front : length (take (row * old.width) old.columns) ≡ row * old.width =
      length-take-le (row * old.width) old.columns (omega (arith, room)) in
      let rest = drop (row * old.width + length news) old.columns in
      ap (λ cs. take old.width (drop (row * old.width) cs)) (append_assoc (take (row * old.width) old.columns) news rest)
      ∙ ap (take old.width) (drop_at (take (row * old.width) old.columns) (news ++ rest) (row * old.width) front)
      ∙ take_at news rest old.width len

  -- a row that was put over another
  put-again : (one news : List Col) → length one ≡ old.width → length news ≡ old.width
      → paste (paste old.columns (row * old.width) one) (row * old.width) news ≡ paste old.columns (row * old.width) news
  put-again one news len new =
      pasted_around old.columns (paste old.columns (row * old.width) one) news (row * old.width) old.width
      (paste_around old.columns one (row * old.width) old.width (omega (arith, len)) room) new

  pub put-over : (one news : List Col) (put new : GridState) → length one ≡ old.width → length news ≡ old.width → put ≡ with_rows old row one
      → new ≡ with_rows put row news → new ≡ with_rows old row news
  put-over one news put new len wide first second =
      second ∙ ap (λ g. with_rows g row news) first ∙ ap (λ cs. record old { columns = cs }) (put-again one news len wide)

-- columns put back where they are
put-back : (xs : List Col) (k n : ℕ) → paste xs k (take n (drop k xs)) ≡ xs
put-back xs k n =
    let ys = drop k xs in
    let m = length (take n ys) in
    put_same xs (take n ys) k m (ap (take m) (sym (take-append-drop n ys)) ∙ take_at (take n ys) (drop n ys) m refl) refl

pub none-turned : (old : GridState) (row : ℕ) (slots : List Slot) → All (IsSpan (row_in old row)) slots → AreTurned old row slots 0 old
none-turned old row slots spans = record {
  grid = sym (ap (λ cs. record old { columns = cs }) (put-back old.columns (row * old.width) old.width));
  most =
      let behind = drop (row * old.width) old.columns in
      omega (arith, length-take old.width behind, min-le_left old.width (length behind));
  rest = refl;
  spans = spans;
  sized = λ size. size;
}

module _ (old : GridState) (row : ℕ) (below : row < old.height) (slots : List Slot) (i : ℕ) (g : GridState) (p : AreTurned old row slots i g) where
  pub height-same : g.height ≡ old.height
  height-same = ap (λ (x : GridState). x.height) p.grid

  pub width-same : g.width ≡ old.width
  width-same = ap (λ (x : GridState). x.width) p.grid

  pub next-turned : length g.columns ≡ g.height * g.width → (s : Slot) (new : GridState) → i < length slots → s ≡ get_or slots i s
      → new ≡ record g { columns = paste g.columns (row * g.width) (turned_in (row_in g row) (s.column - 1) s.columns) }
      → AreTurned old row slots (i + 1) new
  next-turned size s new inside is step =
      let mine = row_in g row in
      let here : IsSpan mine s = subst (IsSpan mine) (sym is) (p.spans i s inside) in
      let news = turned_in mine (s.column - 1) s.columns in
      let was = p.sized size in
      let wide : length mine ≡ old.width = length-row g row size (omega (arith, height-same, below)) ∙ width-same in
      let len : length news ≡ old.width = length-turned mine (s.column - 1) s.columns here.fits ∙ wide in
      let put : new ≡ with_rows old row news = put-over old row was below mine news g new wide len p.grid step in
      let now : row_in new row ≡ news = ap (λ x. row_in x row) put ∙ row-put old row was below news len in
      record {
        grid = put ∙ ap (with_rows old row) (sym now);
        most = omega (arith, ap length now ∙ len);
        rest = ap (turned_slots (drop (i + 1) slots)) now
            ∙ ap (λ (x : Slot). turned_slots (drop (i + 1) slots) (turned_in mine (x.column - 1) x.columns)) is
            ∙ sym (at_drop_more (λ ss. turned_slots ss mine) slots i s inside)
            ∙ p.rest;
        spans = λ j d h. subst (λ cs. IsSpan cs (get_or slots j d)) (sym now) (span-turned mine s (get_or slots j d) here (p.spans j d h));
        sized = λ next. was;
      }

  pub all-turned : length slots ≤ i → g ≡ with_rows old row (turned_slots slots (row_in old row))
  all-turned past = p.grid ∙ ap (with_rows old row) (ap (λ ss. turned_slots ss (row_in g row)) (sym (drop_all i slots past)) ∙ p.rest)
