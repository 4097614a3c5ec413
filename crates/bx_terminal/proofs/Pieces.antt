-- A row after its parts were changed one after another.
use Rattle.std.proofs.Common.{◌≡◌, ℕ, ◌+◌, ◌*◌, ◌-◌, ◌≤◌, List, [], ◌++◌, length, take, drop, replicate, refl, ap, sym, ◌∙◌, append_assoc, length-append, arith}
use Rattle.std.proofs.lemmas.List.{length-take-le, take-append-drop, take_at, drop_at, drop-drop, take_rest, drop_all, append-nil, map-append, take-map}
use Rattle.std.proofs.lemmas.List.{drop-map, length-map, length-drop, take-take, length-replicate}
use borrow.Rule.Slice.PartMut.{put_mid}
use Rattle.bx_grid.specs.Columns.{Col, cut_before, cut_after, put, put_in_row}
use Rattle.bx_grid.specs.Grid.{paste}
use Rattle.bx_grid.specs.Seen.{seen, all_seen}
use Rattle.bx_grid.specs.declared.column.Column.{Column}
use Rattle.bx_terminal.specs.Uncut.{AreUncut}
use Rattle.bx_terminal.proofs.Spoils.{length-cut_before-seen}
use Rattle.bx_terminal.proofs.Uncut.{seen_drop}

left_len : (row L : List Column) (k : ℕ) → k ≤ length row → all_seen L ≡ cut_before (all_seen (take k row)) → length L ≡ k
left_len row L k fits hl =
    sym (length-map L seen) ∙ ap length hl ∙ length-cut_before-seen (take k row) ∙ length-map (take k row) seen ∙ length-take-le k row fits

drop_base : (row L : List Column) (k n : ℕ) → length L ≡ k → drop (k + n) (L ++ drop k row) ≡ drop (k + n) row
drop_base row L k n len =
    sym (drop-drop n k (L ++ drop k row)) ∙ ap (drop n) (drop_at L (drop k row) k len) ∙ drop-drop n k row

-- the columns after those that are put
pub right_uncut : (row L : List Column) (k n : ℕ) → k + n ≤ length row → all_seen L ≡ cut_before (all_seen (take k row)) → AreUncut (all_seen row)
    → AreUncut (all_seen (take (length (L ++ drop k row) - (k + n)) (drop (k + n) (L ++ drop k row))))
right_uncut row L k n fits hl h =
    let base : List Column = L ++ drop k row in
    rw (take_rest base (k + n), drop_base row L k n (left_len row L k (omega arith) hl)) (seen_drop row (k + n) h)

-- columns put over the middle of three parts
paste_three : (a m z news : List Col) (k : ℕ) → length a ≡ k → length m ≡ length news → paste ((a ++ m) ++ z) k news ≡ a ++ news ++ z
paste_three a m z news k ea em =
    let front : take k ((a ++ m) ++ z) ≡ a = ap (take k) (append_assoc a m z) ∙ take_at a (m ++ z) k ea in
    let back : drop (k + length news) ((a ++ m) ++ z) ≡ z = drop_at (a ++ m) z (k + length news) (length-append a m ∙ omega (arith, ea, em)) in
    rw (front, back) refl

pub row_shown : (row L R : List Column) (k n : ℕ) (news : List Col) → length news ≡ n → k + n ≤ length row
    → all_seen L ≡ cut_before (all_seen (take k row))
    → all_seen R ≡ cut_after 0 (all_seen (take (length (L ++ drop k row) - (k + n)) (drop (k + n) (L ++ drop k row))))
    → paste (all_seen (put_mid (k + n) (length (L ++ drop k row) - (k + n)) (L ++ drop k row) R)) k news ≡ put_in_row (all_seen row) k news
row_shown row L R k n news count fits hl hr =
    let base : List Column = L ++ drop k row in
    let len : length L ≡ k = left_len row L k (omega arith) hl in
    let rest : drop (k + n) base ≡ drop (k + n) row = drop_base row L k n len in
    let right : all_seen R ≡ cut_after 0 (all_seen (drop (k + n) row)) = hr ∙ ap (λ xs. cut_after 0 (all_seen xs)) (take_rest base (k + n) ∙ rest) in
    let none : drop (length base - (k + n)) (drop (k + n) base) ≡ [] =
    drop_all (length base - (k + n)) (drop (k + n) base) (omega (arith, length-drop (k + n) base)) in
    let mid : List Column = drop k (take (k + n) base) in
    let base_len : length base ≡ length row = length-append L (drop k row) ∙ omega (arith, len, length-drop k row) in
    let front : take (k + n) base ≡ L ++ mid =
    sym (take-append-drop k (take (k + n) base))
    ∙ ap (λ xs. xs ++ mid) (take-take k (k + n) base (omega arith) ∙ take_at L (drop k row) k len) in
    let mid_len : length mid ≡ n = length-drop k (take (k + n) base) ∙ omega (arith, length-take-le (k + n) base (omega (arith, base_len))) in
    let whole : all_seen (put_mid (k + n) (length base - (k + n)) base R) ≡ (all_seen L ++ all_seen mid) ++ all_seen R =
    ap all_seen (ap (λ xs. take (k + n) base ++ (R ++ xs)) none ∙ ap (λ xs. take (k + n) base ++ xs) (append-nil R) ∙ ap (λ xs. xs ++ R) front)
    ∙ map-append seen (L ++ mid) R ∙ ap (λ xs. xs ++ all_seen R) (map-append seen L mid) in
    ap (λ xs. paste xs k news) whole
    ∙ paste_three (all_seen L) (all_seen mid) (all_seen R) news k (length-map L seen ∙ len) (length-map mid seen ∙ mid_len ∙ sym count)
    ∙ rw (hl, right, count, take-map seen k row, drop-map seen (k + n) row) refl

paste_two : (a d news : List Col) (k : ℕ) → length a ≡ k → length d ≤ length news → paste (a ++ d) k news ≡ a ++ news
paste_two a d news k ea ed =
    let front : take k (a ++ d) ≡ a = take_at a d k ea in
    let back : drop (k + length news) (a ++ d) ≡ [] = drop_all (k + length news) (a ++ d) (omega (arith, length-append a d)) in
    rw (front, back) (append-nil (a ++ news))

pub row_erased : (row L : List Column) (k : ℕ) (y : Col) → k ≤ length row → all_seen L ≡ cut_before (all_seen (take k row))
    → paste (all_seen (L ++ drop k row)) k (replicate (length (L ++ drop k row) - k) y) ≡ put_in_row (all_seen row) k (replicate (length row - k) y)
row_erased row L k y fits hl =
    let len : length L ≡ k = left_len row L k fits hl in
    let base_len : length (L ++ drop k row) ≡ length row = length-append L (drop k row) ∙ omega (arith, len, length-drop k row) in
    let none : drop (k + length (replicate (length row - k) y)) (all_seen row) ≡ [] =
    drop_all (k + length (replicate (length row - k) y)) (all_seen row) (omega (arith, length-replicate (length row - k) y, length-map row seen)) in
    ap (λ n. paste (all_seen (L ++ drop k row)) k (replicate (n - k) y)) base_len
    ∙ ap (λ xs. paste xs k (replicate (length row - k) y)) (map-append seen L (drop k row))
    ∙ paste_two (all_seen L) (all_seen (drop k row)) (replicate (length row - k) y) k (length-map L seen ∙ len)
    (omega (arith, length-map (drop k row) seen, length-drop k row, length-replicate (length row - k) y))
    ∙ rw (hl, none, take-map seen k row) (sym (append-nil (cut_before (all_seen (take k row)) ++ replicate (length row - k) y)))

pub row_put : (columns part : List Column) (w row k : ℕ) (news : List Col)
    → all_seen part ≡ put_in_row (all_seen (take ((row * w + w) - row * w) (drop (row * w) columns))) k news
    → all_seen (put_mid (row * w) ((row * w + w) - row * w) columns part) ≡ put w (all_seen columns) row k news
row_put columns part w row k news h =
    let e : (row * w + w) - row * w ≡ w = omega arith in
    let h' : all_seen part ≡ put_in_row (all_seen (take w (drop (row * w) columns))) k news =
    h ∙ ap (λ n. put_in_row (all_seen (take n (drop (row * w) columns))) k news) e in
    ap (λ n. all_seen (put_mid (row * w) n columns part)) e
    ∙ map-append seen (take (row * w) columns) (part ++ drop w (drop (row * w) columns))
    ∙ ap (λ xs. all_seen (take (row * w) columns) ++ xs) (map-append seen part (drop w (drop (row * w) columns)))
    ∙ rw (
      h',
      take-map seen (row * w) columns,
      drop-map seen (row * w) columns,
      take-map seen w (drop (row * w) columns),
      drop-map seen w (drop (row * w) columns),
    ) refl
