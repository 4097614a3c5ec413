-- Lemmas on lines and their parts.
use Rattle.std.proofs.Common.{◌≡◌, ◌<◌, ◌≤◌, ◌+◌, ◌-◌, ℕ, Bool, List, [], ◌∷◌, length, take, drop, refl, ap, ◌∙◌, sym, arith, eqb, false, length-drop}
use Rattle.std.specs.Prelude.{◌==◌}
use Rattle.std.specs.List.{position_or_len, slice_split, before_first, after_first}
use Rattle.std.specs.Str.Lines.{lines, lines_of_parts, strip_carriage_return}
use Rattle.std.proofs.lemmas.List.Splits.{slice_split_first, slice_split_none, length-slice_split}
use Rattle.std.proofs.lemmas.List.Sums.{fails_before_first, prefix_len-le-length}
use Rattle.std.proofs.lemmas.List.{take_rest, drop-drop}

-- a list without a separator is one part
pub slice_split_whole : {X : Type 0} (p : X → Bool) (xs : List X) → position_or_len p xs ≡ length xs → slice_split p xs ≡ xs ∷ []
slice_split_whole p xs e = slice_split_none p xs (λ k d lt. fails_before_first p xs k d (omega arith))

-- bytes with no line feed are the last line
pub lines_last : (bs : List ℕ) → 0 < length bs → position_or_len (λ b. b == 10) bs ≡ length bs → lines bs ≡ bs ∷ []
lines_last [] some none = absurd (omega arith)
lines_last (b ∷ bs) some none =
    let e : eqb (length (b ∷ bs)) 0 ≡ false = grind arith in
    ap lines_of_parts (slice_split_whole (λ b. b == 10) (b ∷ bs) none) ∙ rw e refl

-- a part that others follow is a line, without its carriage return
lines_of_parts-cons : (part : List ℕ) (parts : List (List ℕ)) → 0 < length parts
    → lines_of_parts (part ∷ parts) ≡ strip_carriage_return part ∷ lines_of_parts parts
lines_of_parts-cons part [] some = absurd (omega arith)
lines_of_parts-cons part (next ∷ more) some = refl

-- the bytes before the first line feed are the first line, without its carriage return
pub lines_first : (bs : List ℕ) → position_or_len (λ b. b == 10) bs < length bs
    → lines bs ≡ strip_carriage_return (before_first (λ b. b == 10) bs) ∷ lines (after_first (λ b. b == 10) bs)
lines_first bs lt =
    let first = slice_split_first (λ b. b == 10) bs 0 lt in
    let parts = slice_split (λ b. b == 10) (after_first (λ b. b == 10) bs) in
    let some : 0 < length parts = omega (arith, length-slice_split (λ b. b == 10) (after_first (λ b. b == 10) bs)) in
    ap lines_of_parts first ∙ lines_of_parts-cons (before_first (λ b. b == 10) bs) parts some

-- the same, in the words of the code
pub lines_at : (bs line : List ℕ) (n : ℕ) → n ≡ position_or_len (λ b. b == 10) bs → (n ≡ length bs → ⊥) → line ≡ strip_carriage_return (take n bs)
    → lines bs ≡ line ∷ lines (take (length bs - (n + 1)) (drop (n + 1) bs))
lines_at bs line n at more stripped =
    let within : position_or_len (λ b. b == 10) bs ≤ length bs = prefix_len-le-length _ bs in
    let first : lines bs ≡ strip_carriage_return (take (position_or_len (λ b. b == 10) bs) bs) ∷ lines (drop (position_or_len (λ b. b == 10) bs + 1) bs) =
    lines_first bs (omega arith) in
    let rest : take (length bs - (n + 1)) (drop (n + 1) bs) ≡ drop (n + 1) bs = take_rest bs (n + 1) in
    rw (rest, stripped, at) first

-- the items before the first separator are the first part
pub slice_split_at_first : (p : ℕ → Bool) (bs : List ℕ) (n : ℕ) → n ≡ position_or_len p bs → (n ≡ length bs → ⊥)
    → slice_split p bs ≡ take n bs ∷ slice_split p (take (length bs - (n + 1)) (drop (n + 1) bs))
slice_split_at_first p bs n at more =
    let within : position_or_len p bs ≤ length bs = prefix_len-le-length _ bs in
    let first : slice_split p bs ≡ take (position_or_len p bs) bs ∷ slice_split p (drop (position_or_len p bs + 1) bs) =
    slice_split_first p bs 0 (omega arith) in
    let rest : take (length bs - (n + 1)) (drop (n + 1) bs) ≡ drop (n + 1) bs = take_rest bs (n + 1) in
    rw (rest, at) first

-- four parts and the parts of a rest are more than four
pub more_than_four : (p : ℕ → Bool) (ps qs rs ss : List (List ℕ)) (a b c d rest : List ℕ) → ps ≡ a ∷ qs → qs ≡ b ∷ rs → rs ≡ c ∷ ss → ss ≡ d ∷ slice_split p rest
    → 4 < length ps
more_than_four p ps qs rs ss a b c d rest first second third fourth =
    let e : ps ≡ a ∷ b ∷ c ∷ d ∷ slice_split p rest = cc in
    rw e (omega (arith, length-slice_split p rest))

-- one more part is skipped
pub skipped_more : (parts rest : List (List ℕ)) (i : ℕ) (first : List ℕ) → drop i parts ≡ first ∷ rest → drop (i + 1) parts ≡ rest
skipped_more parts rest i first e = sym (drop-drop 1 i parts) ∙ ap (drop 1) e

-- where one part is left after some, there are no more
pub skipped_last : (parts : List (List ℕ)) (i : ℕ) (last : List ℕ) → drop i parts ≡ last ∷ [] → length parts ≤ i + 1
skipped_last parts i last e = omega (arith, length-drop i parts, ap length e)
