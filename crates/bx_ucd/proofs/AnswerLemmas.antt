-- Lemmas on the last entry that decides.
use Rattle.std.proofs.Common.{◌≡◌, ◌<◌, ◌≤◌, ℕ, Bool, true, false, List, [], ◌∷◌, Option, Some, None, refl, ap, ◌∙◌, sym, inl, inr, leb, length, get_or, drop}
use Rattle.std.proofs.Common.{◌+◌}
use Rattle.std.specs.Prelude.{reverse, find, filter_map, option_map, unwrap_or, if◌then◌else◌}
use Rattle.std.specs.Option.{option_or}
use Rattle.std.proofs.lemmas.List.Folds.{find-append}
use Rattle.std.proofs.lemmas.Grind.{reverse_onto}
use Rattle.std.proofs.lemmas.List.{at_drop_more}
use Rattle.std.proofs.lemmas.Bool.{cases_lt, le-leb, lt-leb}
use Rattle.bx_ucd.specs.Codes.{covers}
use Rattle.bx_ucd.specs.Answers.{find_last, class_by_ranges}
use Rattle.bx_ucd.specs.declared.class.Class.{Class}
use Rattle.bx_ucd.specs.declared.class_file.ClassRange.{ClassRange}
use Rattle.bx_ucd.specs.declared.class_file.ClassEntry.{ClassEntry}

find-one : {A : Type 0} (p : A → Bool) (x : A) → find p (x ∷ []) ≡ (if p x then Some x else None)
find-one p x = refl

-- the same for a list with one more item in front
pub find_last-cons : {A : Type 0} (p : A → Bool) (x : A) (xs : List A) → find_last p (x ∷ xs) ≡ option_or (find_last p xs) (if p x then Some x else None)
find_last-cons p x xs = ap (find p) (reverse_onto xs x []) ∙ find-append p (reverse xs) (x ∷ []) ∙ ap (option_or (find_last p xs)) (find-one p x)

-- a class painted over another
by_default : (later : Option ClassRange) (covered : Bool) (r : ClassRange) (class : Class)
    → unwrap_or (option_map (λ r. r.class) (option_or later (if covered then Some r else None))) class
    ≡ unwrap_or (option_map (λ r. r.class) later) (if covered then r.class else class)
by_default (Some l) covered r class = refl
by_default None true r class = refl
by_default None false r class = refl

pub class_by_ranges-cons : (r : ClassRange) (rs : List ClassRange) (code : ℕ) (class : Class)
    → unwrap_or (class_by_ranges (r ∷ rs) code) class ≡ unwrap_or (class_by_ranges rs code) (if covers r.range code then r.class else class)
class_by_ranges-cons r rs code class =
    ap (λ o. unwrap_or (option_map (λ r. r.class) o) class) (find_last-cons (λ r. covers r.range code) r rs)
    ∙ by_default (find_last (λ r. covers r.range code) rs) (covers r.range code) r class

-- the class that a painted range leaves
pub painted_one : (r : ClassRange) (code : ℕ) (new old : Class) → (r.range.low ≤ code → code ≤ r.range.high → new ≡ r.class) → (code < r.range.low → new ≡ old)
    → (r.range.high < code → new ≡ old) → new ≡ (if covers r.range code then r.class else old)
painted_one r code new old inside below above =
    elim (cases_lt code r.range.low) [
      | inl lt ↦ let low : leb r.range.low code ≡ false = lt-leb _ _ lt in rw low (below lt)
      | inr ge ↦ elim (cases_lt r.range.high code) [
        | inl gt ↦ let low : leb r.range.low code ≡ true = le-leb _ _ ge in let high : leb code r.range.high ≡ false =
            lt-leb _ _ gt in rw (low, high) (above gt)
        | inr le ↦ let low : leb r.range.low code ≡ true = le-leb _ _ ge in let high : leb code r.range.high ≡ true =
            le-leb _ _ le in rw (low, high) (inside ge le)
      ]
    ]

-- an entry of another kind is passed over
pub filter_map_skipped : {A B : Type 0} (f : A → Option B) (xs : List A) (i : ℕ) (d : A) → i < length xs → f (get_or xs i d) ≡ None
    → filter_map f (drop i xs) ≡ filter_map f (drop (i + 1) xs)
filter_map_skipped f xs i d lt none = at_drop_more (filter_map f) xs i d lt ∙ rw none refl

-- an entry of this kind is the first of the rest
pub filter_map_taken : {A B : Type 0} (f : A → Option B) (xs : List A) (i : ℕ) (d : A) (y : B) → i < length xs → f (get_or xs i d) ≡ Some y
    → filter_map f (drop i xs) ≡ y ∷ filter_map f (drop (i + 1) xs)
filter_map_taken f xs i d y lt some = at_drop_more (filter_map f) xs i d lt ∙ rw some refl

-- the entry's range is painted over the earlier class
pub painted_taken : (f : ClassEntry → Option ClassRange) (es : List ClassEntry) (i : ℕ) (d : ClassEntry) (r : ClassRange) (code : ℕ) (old new : Class)
    → i < length es → f (get_or es i d) ≡ Some r → new ≡ (if covers r.range code then r.class else old)
    → unwrap_or (class_by_ranges (filter_map f (drop i es)) code) old ≡ unwrap_or (class_by_ranges (filter_map f (drop (i + 1) es)) code) new
painted_taken f es i d r code old new lt some painted =
    ap (λ rs. unwrap_or (class_by_ranges rs code) old) (filter_map_taken f es i d r lt some)
    ∙ class_by_ranges-cons r (filter_map f (drop (i + 1) es)) code old
    ∙ ap (unwrap_or (class_by_ranges (filter_map f (drop (i + 1) es)) code)) (sym painted)

-- an entry of another kind changes nothing
pub painted_skipped : (f : ClassEntry → Option ClassRange) (es : List ClassEntry) (i : ℕ) (d : ClassEntry) (code : ℕ) (old new : Class) → i < length es
    → f (get_or es i d) ≡ None → new ≡ old → unwrap_or (class_by_ranges (filter_map f (drop i es)) code) old
    ≡ unwrap_or (class_by_ranges (filter_map f (drop (i + 1) es)) code) new
painted_skipped f es i d code old new lt none kept =
    ap (λ rs. unwrap_or (class_by_ranges rs code) old) (filter_map_skipped f es i d lt none)
    ∙ ap (unwrap_or (class_by_ranges (filter_map f (drop (i + 1) es)) code)) (sym kept)

-- the data lines decide, else the defaults, else the earlier class
pub data_over_defaults : (given defaults : Option Class) (class : Class)
    → unwrap_or given (unwrap_or defaults class) ≡ unwrap_or (option_or given defaults) class
data_over_defaults (Some c) defaults class = refl
data_over_defaults None defaults class = refl
