-- Columns made unknown, one after another.
use Rattle.bx_grid.specs.Seen.{seen, all_seen}
use Rattle.bx_grid.specs.declared.column.Column.{Column}
use Rattle.std.proofs.lemmas.Bool.Decides.{nat_tests}
use Rattle.std.proofs.lemmas.List.{get_or-map, map-set, length-map, set_at, drop_more, take_more, get_or_at, length-take-le, append-nil, drop_all, take_all}
use Rattle.std.proofs.Common.{◌≡◌, ℕ, ◌+◌, ◌-◌, ◌<◌, ◌≤◌, true, cond, nat_lt, List, [], ◌∷◌, ◌++◌, length, take, drop, set, get_or, zero, suc, refl, ap, sym}
use Rattle.std.proofs.Common.{◌∙◌, append_assoc, arith}
use Rattle.bx_grid.specs.Columns.{Col, Unknown, columns_after, columns_before, cut_before, cut_after}
use Rattle.bx_grid.proofs.CutColumns.{length-cut_after}

pub length-cut_before : (xs : List Col) → length (cut_before xs) ≡ length xs
length-cut_before [] = refl
length-cut_before (x ∷ xs) = ap suc (length-cut_before xs)

-- the first i of ys, and then the rest of xs
abbrev pub mixed : ℕ → List Col → List Col → List Col
mixed i ys xs = take i ys ++ drop i xs

pub mixed_read : (ys xs : List Col) (i : ℕ) (d : Col) → length ys ≡ length xs → i < length xs → get_or (mixed i ys xs) i d ≡ get_or xs i d
mixed_read ys xs i d same low =
    ap (λ zs. get_or (take i ys ++ zs) i d) (drop_more xs i d low)
    ∙ get_or_at (take i ys) (get_or xs i d) (drop (i + 1) xs) d i (length-take-le i ys (omega arith))

pub mixed_more : (ys xs : List Col) (i : ℕ) (y d : Col) → length ys ≡ length xs → i < length xs → y ≡ get_or ys i d
    → set (mixed i ys xs) i y ≡ mixed (i + 1) ys xs
mixed_more ys xs i y d same low is =
    ap (λ zs. set (take i ys ++ zs) i y) (drop_more xs i d low)
    ∙ set_at (take i ys) (get_or xs i d) (drop (i + 1) xs) y i (length-take-le i ys (omega arith))
    ∙ sym (append_assoc (take i ys) (y ∷ []) (drop (i + 1) xs))
    ∙ ap (λ z. (take i ys ++ z ∷ []) ++ drop (i + 1) xs) is
    ∙ ap (λ zs. zs ++ drop (i + 1) xs) (sym (take_more ys i d (omega arith)))

-- in the first part
pub mixed_start : (ys xs : List Col) (i : ℕ) (d : Col) → i < length ys → get_or (mixed (i + 1) ys xs) i d ≡ get_or ys i d
mixed_start ys xs i d low =
    let y = get_or ys i d in
    ap (λ zs. get_or (zs ++ drop (i + 1) xs) i d) (take_more ys i d low)
    ∙ ap (λ zs. get_or zs i d) (append_assoc (take i ys) (y ∷ []) (drop (i + 1) xs))
    ∙ get_or_at (take i ys) y (drop (i + 1) xs) d i (length-take-le i ys (omega arith))

pub mixed_less : (ys xs : List Col) (i : ℕ) (x d : Col) → length ys ≡ length xs → i < length ys → x ≡ get_or xs i d
    → set (mixed (i + 1) ys xs) i x ≡ mixed i ys xs
mixed_less ys xs i x d same low is =
    let y = get_or ys i d in
    ap (λ zs. set (zs ++ drop (i + 1) xs) i x) (take_more ys i d low)
    ∙ ap (λ zs. set zs i x) (append_assoc (take i ys) (y ∷ []) (drop (i + 1) xs))
    ∙ set_at (take i ys) y (drop (i + 1) xs) x i (length-take-le i ys (omega arith))
    ∙ ap (λ z. take i ys ++ z ∷ drop (i + 1) xs) is
    ∙ ap (λ zs. take i ys ++ zs) (sym (drop_more xs i d (omega arith)))

pub left_of_at : (xs : List Col) (i : ℕ) (d : Col) → i < length xs
    → get_or (cut_before xs) i d ≡ cond (nat_lt (length xs - 1 - i) (columns_after (get_or xs i d))) Unknown (get_or xs i d)
left_of_at [] i d low = absurd (omega arith)
left_of_at (x ∷ xs) zero d low =
    let e : suc (length xs) - 1 - zero ≡ length xs = omega arith in rw e refl
left_of_at (x ∷ xs) (suc i) d low =
    let e : suc (length xs) - 1 - suc i ≡ length xs - 1 - i = omega arith in
    rw e (left_of_at xs i d (omega arith))

pub right_of_at : (e : ℕ) (xs : List Col) (i : ℕ) (d : Col) → i < length xs
    → get_or (cut_after e xs) i d ≡ cond (nat_lt (e + i) (columns_before (get_or xs i d))) Unknown (get_or xs i d)
right_of_at e [] i d low = absurd (omega arith)
right_of_at e (x ∷ xs) zero d low = let z : e + zero ≡ e = omega arith in rw z refl
right_of_at e (x ∷ xs) (suc i) d low =
    let z : e + suc i ≡ e + 1 + i = omega arith in rw z (right_of_at (e + 1) xs i d (omega arith))

-- ---- one step of a loop that forgets

pub read_same : (ys : List Col) (start row : List Column) (i : ℕ) (x : Column) (d : Col) → length ys ≡ length start → i < length start
    → all_seen row ≡ mixed i ys (all_seen start) → length row ≡ length start → seen (get_or row i x) ≡ get_or (all_seen start) i d
read_same ys start row i x d same low before len =
    sym (get_or-map seen row i x d (omega arith))
    ∙ ap (λ zs. get_or zs i d) before
    ∙ mixed_read ys (all_seen start) i d (same ∙ sym (length-map start seen)) (omega (arith, length-map start seen))

pub forgot : (ys : List Col) (start row : List Column) (i : ℕ) (y : Column) (d : Col) → seen y ≡ Unknown → length ys ≡ length start → i < length start
    → all_seen row ≡ mixed i ys (all_seen start) → Unknown ≡ get_or ys i d
    → all_seen (set row i y) ≡ mixed (i + 1) ys (all_seen start)
forgot ys start row i y d known same low before is =
    map-set seen row i y
    ∙ ap (λ z. set (all_seen row) i z) known
    ∙ ap (λ zs. set zs i Unknown) before
    ∙ mixed_more ys (all_seen start) i Unknown d (same ∙ sym (length-map start seen)) (omega (arith, length-map start seen)) is

pub right_forgot : (start row : List Column) (i : ℕ) (x y : Column) → seen y ≡ Unknown → i < length start → length row ≡ length start
    → all_seen row ≡ mixed i (cut_after 0 (all_seen start)) (all_seen start) → i < columns_before (seen (get_or row i x))
    → all_seen (set row i y) ≡ mixed (i + 1) (cut_after 0 (all_seen start)) (all_seen start)
right_forgot start row i x y known low len before reach =
    let ys : List Col = cut_after 0 (all_seen start) in
    let same : length ys ≡ length start = length-cut_after 0 (all_seen start) ∙ length-map start seen in
    let here : seen (get_or row i x) ≡ get_or (all_seen start) i Unknown = read_same ys start row i x Unknown same low before len in
    let test : nat_lt (0 + i) (columns_before (get_or (all_seen start) i Unknown)) ≡ true = rw (← here) (grind (arith, nat_tests)) in
    forgot ys start row i y Unknown known same low before (sym (right_of_at 0 (all_seen start) i Unknown (omega (arith, length-map start seen)) ∙ rw test refl))

-- the whole list, once each index has been looked at
pub mixed_all : (ys xs : List Col) (i : ℕ) → length ys ≡ length xs → length xs ≤ i → mixed i ys xs ≡ ys
mixed_all ys xs i same past =
    ap (λ zs. take i ys ++ zs) (drop_all i xs past) ∙ append-nil (take i ys) ∙ take_all i ys (omega arith)

pub length-cut_before-seen : (start : List Column) → length (cut_before (all_seen start)) ≡ length (all_seen start)
length-cut_before-seen start = length-cut_before (all_seen start)

pub length-cut_after-seen : (start : List Column) → length (cut_after 0 (all_seen start)) ≡ length (all_seen start)
length-cut_after-seen start = length-cut_after 0 (all_seen start)
