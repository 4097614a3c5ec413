-- Columns that are turned by their numbers.
use Rattle.std.proofs.Common.{◌≡◌, ℕ, suc, ◌+◌, ◌-◌, ◌<◌, ◌≤◌, Bool, true, false, not, ◌&&◌, nat_le, nat_lt, List, [], ◌∷◌, ◌++◌, length, map, take, drop}
use Rattle.std.proofs.Common.{refl, sym, ap, ap₂, ◌∙◌, append_assoc, arith}
use Rattle.std.specs.Prelude.{if◌then◌else◌}
use Rattle.std.proofs.lemmas.Bool.{and_parts}
use Rattle.std.proofs.lemmas.Bool.Decides.{nat_tests}
use Rattle.std.proofs.lemmas.List.{length-drop, length-take-le}
use Rattle.bx_grid.specs.Columns.{Col, Unknown, Glyph, turned}
use Rattle.bx_grid.specs.Grid.{turned_in}
use Rattle.bx_grid.proofs.Pasted.{three_parts}
use Rattle.bx_grid.proofs.TurnedWhole.{length-inside}
use Rattle.bx_paragraph.specs.declared.slots.Slot.{Slot}
use Rattle.bx_paragraph.specs.Slots.{covers}
use Rattle.bx_document.specs.Drawing.{turned_where}

pub length-where : (p : ℕ → Bool) (k : ℕ) (cs : List Col) → length (turned_where p k cs) ≡ length cs
length-where p k [] = refl
length-where p k (c ∷ cs) = ap suc (length-where p (k + 1) cs)

where-append : (p : ℕ → Bool) (k : ℕ) (xs ys : List Col) → turned_where p k (xs ++ ys) ≡ turned_where p k xs ++ turned_where p (k + length xs) ys
where-append p k [] ys = let none : k ≡ k + 0 = omega arith in ap (λ m. turned_where p m ys) none
where-append p k (x ∷ xs) ys =
    let next : k + 1 + length xs ≡ k + suc (length xs) = omega arith in
    ap (λ cs. (if p k then turned x else x) ∷ cs) (where-append p (k + 1) xs ys ∙ ap (λ m. turned_where p (k + 1) xs ++ turned_where p m ys) next)

-- none of them passes
pub where-none : (p : ℕ → Bool) (k : ℕ) (cs : List Col) → ((j : ℕ) → k ≤ j → j < k + length cs → p j ≡ false) → turned_where p k cs ≡ cs
where-none p k [] h = refl
where-none p k (c ∷ cs) h =
    ap₂ (λ b rest. (if b then turned c else c) ∷ rest) (h k (omega arith) (omega arith))
    (where-none p (k + 1) cs (λ j low high. h j (omega (arith, low)) (omega (arith, high))))

-- all of them pass
where-all : (p : ℕ → Bool) (k : ℕ) (cs : List Col) → ((j : ℕ) → k ≤ j → j < k + length cs → p j ≡ true) → turned_where p k cs ≡ map turned cs
where-all p k [] h = refl
where-all p k (c ∷ cs) h =
    ap₂ (λ b rest. (if b then turned c else c) ∷ rest) (h k (omega arith) (omega arith))
    (where-all p (k + 1) cs (λ j low high. h j (omega (arith, low)) (omega (arith, high))))

-- ---- twice

-- one of two, and not both
abbrev pub differ : Bool → Bool → Bool
differ true b = not b
differ false b = b

turned-twice : (c : Col) → turned (turned c) ≡ c
turned-twice Unknown = refl
turned-twice (Glyph text columns offset true) = refl
turned-twice (Glyph text columns offset false) = refl

one-twice : (a b : Bool) (c : Col) → (if a then turned (if b then turned c else c) else (if b then turned c else c)) ≡ (if differ b a then turned c else c)
one-twice true true c = turned-twice c
one-twice true false c = refl
one-twice false true c = refl
one-twice false false c = refl

pub where-twice : (p q : ℕ → Bool) (k : ℕ) (cs : List Col) → turned_where p k (turned_where q k cs) ≡ turned_where (λ j. differ (q j) (p j)) k cs
where-twice p q k [] = refl
where-twice p q k (c ∷ cs) = ap₂ (λ x xs. x ∷ xs) (one-twice (p k) (q k) c) (where-twice p q (k + 1) cs)

-- ---- the columns of a slot

pub low-slot : (s : Slot) (j : ℕ) → j < s.column → covers j s ≡ false
low-slot s j h = let low : nat_le s.column j ≡ false = grind (arith, nat_tests) in ap (λ b. b && nat_lt j (s.column + s.columns)) low

covered-slot : (s : Slot) (j : ℕ) → s.column ≤ j → j < s.column + s.columns → covers j s ≡ true
covered-slot s j h k =
    let low : nat_le s.column j ≡ true = grind (arith, nat_tests) in
    let high : nat_lt j (s.column + s.columns) ≡ true = grind (arith, nat_tests) in
    ap₂ (λ a b. a && b) low high

and-none : (b : Bool) → (b && false) ≡ false
and-none true = refl
and-none false = refl

behind-slot : (s : Slot) (j : ℕ) → s.column + s.columns ≤ j → covers j s ≡ false
behind-slot s j h =
    let high : nat_lt j (s.column + s.columns) ≡ false = grind (arith, nat_tests) in
    ap (λ b. nat_le s.column j && b) high ∙ and-none (nat_le s.column j)

pub in-slot : (s : Slot) (j : ℕ) → covers j s ≡ true → (s.column ≤ j) × (j < s.column + s.columns)
in-slot s j e =
    let both = and_parts (nat_le s.column j) (nat_lt j (s.column + s.columns)) e in
    let low : nat_le s.column j ≡ true = both.0 in
    let high : nat_lt j (s.column + s.columns) ≡ true = both.1 in
    (grind (arith, nat_tests), grind (arith, nat_tests))

no-columns-by : (s : Slot) (j : ℕ) (b : Bool) → covers j s ≡ b → s.columns ≡ 0 → covers j s ≡ false
no-columns-by s j true e none = let within = in-slot s j e in absurd (omega (arith, within.0, within.1, none))
no-columns-by s j false e none = e

pub no-columns : (s : Slot) (j : ℕ) → s.columns ≡ 0 → covers j s ≡ false
no-columns s j none = no-columns-by s j (covers j s) refl none

pub slot-turned : (s : Slot) (cs : List Col) → 1 ≤ s.column → s.column - 1 + s.columns ≤ length cs
    → turned_in cs (s.column - 1) s.columns ≡ turned_where (λ j. covers j s) 1 cs
slot-turned s cs some fits =
    let k = s.column - 1 in
    let n = s.columns in
    let mid = take n (drop k cs) in
    let behind = drop (k + n) cs in
    let p = λ (j : ℕ). covers j s in
    let before : length (take k cs) ≡ k = length-take-le k cs (omega (arith, fits)) in
    let inside : length mid ≡ n = length-take-le n (drop k cs) (omega (arith, fits, length-drop k cs)) in
    let first = where-none p 1 (take k cs) (λ j low high. low-slot s j (omega (arith, low, high, before, some))) in
    let own = where-all p (1 + length (take k cs)) mid
    (λ j low high. covered-slot s j (omega (arith, low, before, some)) (omega (arith, high, before, inside, some))) in
    let last = where-none p (1 + length (take k cs) + length mid) behind
    (λ j low high. behind-slot s j (omega (arith, low, before, inside, some))) in
    let len : k + length (map turned mid) ≡ k + n = ap (λ m. k + m) (length-inside cs k n fits) in
    ap (λ m. (take k cs ++ map turned mid) ++ drop m cs) len
    ∙ append_assoc (take k cs) (map turned mid) behind
    ∙ ap₂ (λ xs ys. xs ++ ys) (sym first) (ap₂ (λ xs ys. xs ++ ys) (sym own) (sym last)
    ∙ sym (where-append p (1 + length (take k cs)) mid behind))
    ∙ sym (where-append p 1 (take k cs) (mid ++ behind))
    ∙ ap (turned_where p 1) (sym (three_parts cs k n))
