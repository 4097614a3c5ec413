-- The paragraph level, by a scan with the count of open isolates.
use Rattle.std.proofs.Common.{◌≡◌, ◌<◌, ◌≤◌, ◌+◌, ◌∙◌, ℕ, zero, suc, List, ◌∷◌, length, get_or, drop, refl, ap, arith, Option, Some, None, true, false}
use Rattle.std.proofs.lemmas.List.{at_drop_more}
use Rattle.std.proofs.Math.Seq.{drop-length}
use Rattle.bx_ucd.specs.declared.class.Class.{Class}
use Rattle.bx_ucd.specs.declared.class.Class.TheVariants.{L, R, AL, PDI, LRI, RLI, FSI}
use Rattle.bx_ucd.specs.Class.{is_strong}
use Rattle.bx_levels.specs.embedding.ParagraphLevel.{before_pdi, count_after, or_end, one_more, first_strong, level_of_strong, level_of}

-- the first strong class of the rest, where `n` isolates are open
abbrev pub rest_strong : ℕ → List Class → Option Class
rest_strong zero cs = first_strong 0 cs
rest_strong (suc n) cs = first_strong (or_end (before_pdi (suc n) cs) cs) cs

abbrev pub level_of_rest : ℕ → List Class → ℕ
level_of_rest n cs = level_of (rest_strong n cs)

closed_step : (c : Class) (cs : List Class) → is_strong c ≡ false → rest_strong 0 (c ∷ cs) ≡ rest_strong (count_after 0 c) cs
closed_step L cs e = absurd (cc)
closed_step R cs e = absurd (cc)
closed_step AL cs e = absurd (cc)
closed_step _ cs e = refl

still_open : (c : Class) (cs : List Class) (b : Option ℕ) → first_strong (or_end (one_more b) (c ∷ cs)) (c ∷ cs) ≡ first_strong (or_end b cs) cs
still_open c cs None = refl
still_open c cs (Some k) = refl

open_step : (n : ℕ) (c : Class) (cs : List Class) → rest_strong (suc n) (c ∷ cs) ≡ rest_strong (count_after (suc n) c) cs
open_step zero PDI cs = refl
open_step (suc n) PDI cs = still_open PDI cs (before_pdi (suc n) cs)
open_step n LRI cs = still_open LRI cs (before_pdi (suc (suc n)) cs)
open_step n RLI cs = still_open RLI cs (before_pdi (suc (suc n)) cs)
open_step n FSI cs = still_open FSI cs (before_pdi (suc (suc n)) cs)
open_step n c cs = still_open c cs (before_pdi (suc n) cs)

-- a character that doesn't end the scan leaves the level of the rest
pub level_step : (n : ℕ) (c : Class) (cs : List Class) → (n ≡ 0 → is_strong c ≡ false) → level_of_rest n (c ∷ cs) ≡ level_of_rest (count_after n c) cs
level_step zero c cs h = ap level_of (closed_step c cs (h refl))
level_step (suc n) c cs h = ap level_of (open_step n c cs)

-- a strong class in no isolate gives the level
pub level_here : (c : Class) (cs : List Class) → is_strong c ≡ true → level_of_rest 0 (c ∷ cs) ≡ level_of_strong c
level_here L cs e = refl
level_here R cs e = refl
level_here AL cs e = refl
level_here _ cs e = absurd (cc)

pub count_after_le : (n : ℕ) (c : Class) → count_after n c ≤ n + 1
count_after_le n LRI = omega arith
count_after_le n RLI = omega arith
count_after_le n FSI = omega arith
count_after_le zero PDI = omega arith
count_after_le (suc n) PDI = omega arith
count_after_le n _ = omega arith

pub scan_more : (cs : List Class) (i n : ℕ) → i < length cs → (n ≡ 0 → is_strong (get_or cs i L) ≡ false)
    → level_of_rest n (drop i cs) ≡ level_of_rest (count_after n (get_or cs i L)) (drop (i + 1) cs)
scan_more cs i n h s = at_drop_more (level_of_rest n) cs i L h ∙ level_step n (get_or cs i L) (drop (i + 1) cs) s

pub scan_here : (cs : List Class) (i : ℕ) → i < length cs → is_strong (get_or cs i L) ≡ true → level_of_rest 0 (drop i cs) ≡ level_of_strong (get_or cs i L)
scan_here cs i h s = at_drop_more (level_of_rest 0) cs i L h ∙ level_here (get_or cs i L) (drop (i + 1) cs) s

-- the scan's end
pub scan_all : (cs : List Class) (n : ℕ) → level_of_rest n (drop (length cs) cs) ≡ 0
scan_all cs zero = rw drop-length
scan_all cs (suc n) = rw drop-length

-- the number of characters before the PDI that ends `n` isolates, or before the end
abbrev pub until_pdi : ℕ → List Class → ℕ
until_pdi n cs = or_end (before_pdi n cs) cs

until_step : (m : ℕ) (c : Class) (cs : List Class) (b : Option ℕ) → or_end (one_more b) (c ∷ cs) ≡ 1 + or_end b cs
until_step m c cs None = omega arith
until_step m c cs (Some k) = omega arith

pub until_cons : (n : ℕ) (c : Class) (cs : List Class) (m : ℕ) → count_after n c ≡ m → 0 < m → until_pdi n (c ∷ cs) ≡ 1 + until_pdi m cs
until_cons n c cs zero e h = absurd (omega arith)
until_cons n c cs (suc m) e h = rw (e, before_pdi) (until_step m c cs (before_pdi (suc m) cs))

pub until_none : (n : ℕ) (c : Class) (cs : List Class) → count_after n c ≡ 0 → until_pdi n (c ∷ cs) ≡ 0
until_none n c cs e = rw (e, before_pdi)

-- an index, `k` further on
abbrev pub further : ℕ → Option ℕ → Option ℕ
further k None = None
further k (Some n) = Some (k + n)

pub further_more : (i : ℕ) (b : Option ℕ) → further i (one_more b) ≡ further (i + 1) b
further_more i None = refl
further_more i (Some n) = let e : i + suc n ≡ i + 1 + n = omega arith in ap (λ k. Some k) e
