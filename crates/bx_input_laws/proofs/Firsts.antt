-- Patterns that take a byte as their first alone, and how long a beginning is.
use Rattle.std.proofs.Common.{◌≡◌, ℕ, ◌<◌, inl, inr, Bool, true, false, not, ◌&&◌, ◌||◌, cond, nat_eq, nat_le, List, [], ◌∷◌, ◌++◌, length, refl, ap, ◌∙◌, arith}
use Rattle.std.specs.List.{list_all}
use Rattle.std.specs.Str.{bytes_eq}
use Rattle.std.proofs.lemmas.Bool.{cases_Bool, both_ways, and_parts, and_left, and_right, or_cases, or_from, or_parts, cond-false, leb-true}
use Rattle.std.proofs.lemmas.Bool.{not-true}
use Rattle.std.proofs.lemmas.Bool.Decides.{nat_tests}
use Rattle.bx_bytes.specs.Pattern.{fate_in, Piece, One, Many, is_within, past, matches, begins, matches_any, begins_any}
use Rattle.bx_bytes.specs.declared.fate.Fate.{Fate}
use Rattle.bx_bytes.specs.declared.fate.Fate.TheVariants.{Waits, Ends, Breaks}
use Rattle.bx_bytes.proofs.Patterns.{matches_any_begins}

-- ---- the meaning of a fate

pub record IsBegun (patterns : List (List Piece)) (bs : List ℕ) : Type 0 where
  pub not_whole : matches_any patterns bs ≡ false
  pub begins : begins_any patterns bs ≡ true

abbrev pub if_fate : Bool → Bool → Fate
if_fate m b = cond m Ends (cond b Waits Breaks)

pub begun_by : (m b : Bool) → (if_fate m b ≡ Waits) → (m ≡ false) × (b ≡ true)
begun_by true b h = absurd (cc h)
begun_by false true h = (refl, refl)
begun_by false false h = absurd (cc h)

pub waits_says : (patterns : List (List Piece)) (bs : List ℕ) → fate_in patterns bs ≡ Waits → IsBegun patterns bs
waits_says patterns bs h =
    let parts = begun_by (matches_any patterns bs) (begins_any patterns bs) h in record { not_whole = parts.0; begins = parts.1 }

pub whole_by : (m b : Bool) → if_fate m b ≡ Ends → m ≡ true
whole_by true b h = refl
whole_by false true h = absurd (cc h)
whole_by false false h = absurd (cc h)

pub ends_says : (patterns : List (List Piece)) (bs : List ℕ) → fate_in patterns bs ≡ Ends → matches_any patterns bs ≡ true
ends_says patterns bs h = whole_by (matches_any patterns bs) (begins_any patterns bs) h

pub breaks_if : (patterns : List (List Piece)) (bs : List ℕ) → begins_any patterns bs ≡ false → fate_in patterns bs ≡ Breaks
breaks_if patterns bs h = elim (cases_Bool (matches_any patterns bs)) [
  | inl whole ↦ absurd (both_ways (begins_any patterns bs) h (matches_any_begins patterns bs whole))
  | inr other ↦ cond-false (matches_any patterns bs) _ _ other ∙ cond-false (begins_any patterns bs) _ _ h
]

-- ---- a byte that none takes but as its first

abbrev pub lacks : ℕ → Piece → Bool
lacks b (One low high) = not (is_within low high b)
lacks b (Many low high) = not (is_within low high b)

abbrev pub lacks_after_first : ℕ → List Piece → Bool
lacks_after_first b (One low high ∷ ps) = list_all (lacks b) ps
lacks_after_first b _ = false

-- bytes of a range go, and the byte stays
past_at : (t : Bool) (low high b x : ℕ) (xs : List ℕ) → is_within low high x ≡ t → (ys : List ℕ) × (past low high (xs ++ b ∷ []) ≡ ys ++ b ∷ [])
    → (ys : List ℕ) × (past low high (x ∷ (xs ++ b ∷ [])) ≡ ys ++ b ∷ [])
past_at true low high b x xs e rest = (rest.0, rw e rest.1)
past_at false low high b x xs e rest = (x ∷ xs, rw e refl)

past_one : (low high b : ℕ) (xs : List ℕ) → is_within low high b ≡ false → (ys : List ℕ) × (past low high (xs ++ b ∷ []) ≡ ys ++ b ∷ [])
past_one low high b [] n = ([], rw n refl)
past_one low high b (x ∷ xs) n = past_at (is_within low high x) low high b x xs refl (past_one low high b xs n)

none_begin : (ps : List Piece) (xs : List ℕ) (b : ℕ) → list_all (lacks b) ps ≡ true → begins ps (xs ++ b ∷ []) ≡ false
none_begin [] [] b h = refl
none_begin [] (x ∷ xs) b h = refl
none_begin (One low high ∷ ps) [] b h =
    let parts = and_parts (not (is_within low high b)) (list_all (lacks b) ps) h in
    and_left (is_within low high b) (begins ps []) (not-true (is_within low high b) parts.0)
none_begin (One low high ∷ ps) (x ∷ xs) b h =
    let parts = and_parts (not (is_within low high b)) (list_all (lacks b) ps) h in
    and_right (is_within low high x) (begins ps (xs ++ b ∷ [])) (none_begin ps xs b parts.1)
none_begin (Many low high ∷ ps) xs b h =
    let parts = and_parts (not (is_within low high b)) (list_all (lacks b) ps) h in
    let left = past_one low high b xs (not-true (is_within low high b) parts.0) in
    ap (begins ps) left.1 ∙ none_begin ps left.0 b parts.1

not_begun : (p : List Piece) (x : ℕ) (xs : List ℕ) (b : ℕ) → lacks_after_first b p ≡ true → begins p (x ∷ (xs ++ b ∷ [])) ≡ false
not_begun [] x xs b h = refl
not_begun (One low high ∷ ps) x xs b h = and_right (is_within low high x) (begins ps (xs ++ b ∷ [])) (none_begin ps xs b h)
not_begun (Many low high ∷ ps) x xs b h = absurd (cc h)

any_not_begun : (patterns : List (List Piece)) (x : ℕ) (xs : List ℕ) (b : ℕ) → list_all (lacks_after_first b) patterns ≡ true
    → begins_any patterns (x ∷ (xs ++ b ∷ [])) ≡ false
any_not_begun [] x xs b h = refl
any_not_begun (p ∷ patterns) x xs b h =
    let parts = and_parts (lacks_after_first b p) (list_all (lacks_after_first b) patterns) h in
    or_from (begins p (x ∷ (xs ++ b ∷ []))) (begins_any patterns (x ∷ (xs ++ b ∷ []))) (not_begun p x xs b parts.0) (any_not_begun patterns x xs b parts.1)

-- such a byte breaks whatever has begun
pub breaks_at : (patterns : List (List Piece)) (x : ℕ) (xs : List ℕ) (b : ℕ) → list_all (lacks_after_first b) patterns ≡ true
    → fate_in patterns (x ∷ (xs ++ b ∷ [])) ≡ Breaks
breaks_at patterns x xs b h = breaks_if patterns (x ∷ (xs ++ b ∷ [])) (any_not_begun patterns x xs b h)

-- ---- a byte that some take behind another

-- the pattern begins with the byte `a`, and none but its first and second take the byte `b`
abbrev lacks_after_second : ℕ → ℕ → List Piece → Bool
lacks_after_second a b (One low high ∷ One l h ∷ ps) = (nat_eq low a && nat_eq high a) && list_all (lacks b) ps
lacks_after_second a b _ = false

-- none has the byte but as its first, or right behind `a` as the first
abbrev pub lacks_behind : ℕ → ℕ → List Piece → Bool
lacks_behind a b p = lacks_after_first b p || lacks_after_second a b p

not_within : (a low high x : ℕ) → nat_eq low a && nat_eq high a ≡ true → nat_eq x a ≡ false → is_within low high x ≡ false
not_within a low high x is n = grind (arith, nat_tests)

second_not_begun : (a : ℕ) (p : List Piece) (x : ℕ) (xs : List ℕ) (b : ℕ) → lacks_after_second a b p ≡ true → bytes_eq (x ∷ xs) (a ∷ []) ≡ false
    → begins p (x ∷ (xs ++ b ∷ [])) ≡ false
second_not_begun a [] x xs b is n = absurd (cc is)
second_not_begun a (Many low high ∷ ps) x xs b is n = absurd (cc is)
second_not_begun a (One low high ∷ []) x xs b is n = absurd (cc is)
second_not_begun a (One low high ∷ Many l h ∷ ps) x xs b is n = absurd (cc is)
second_not_begun a (One low high ∷ One l h ∷ ps) x [] b is n =
    let first = and_parts (nat_eq low a && nat_eq high a) (list_all (lacks b) ps) is in
    let other : nat_eq x a ≡ false = grind (arith, nat_tests) in
    and_left (is_within low high x) (begins (One l h ∷ ps) (b ∷ [])) (not_within a low high x first.0 other)
second_not_begun a (One low high ∷ One l h ∷ ps) x (y ∷ ys) b is n =
    let first = and_parts (nat_eq low a && nat_eq high a) (list_all (lacks b) ps) is in
    and_right (is_within low high x) (begins (One l h ∷ ps) (y ∷ (ys ++ b ∷ [])))
    (and_right (is_within l h y) (begins ps (ys ++ b ∷ [])) (none_begin ps ys b first.1))

any_not_behind : (patterns : List (List Piece)) (a x : ℕ) (xs : List ℕ) (b : ℕ) → list_all (lacks_behind a b) patterns ≡ true
    → bytes_eq (x ∷ xs) (a ∷ []) ≡ false → begins_any patterns (x ∷ (xs ++ b ∷ [])) ≡ false
any_not_behind [] a x xs b h n = refl
any_not_behind (p ∷ patterns) a x xs b h n =
    let parts = and_parts (lacks_behind a b p) (list_all (lacks_behind a b) patterns) h in
    let here : begins p (x ∷ (xs ++ b ∷ [])) ≡ false = elim (or_cases (lacks_after_first b p) (lacks_after_second a b p) parts.0) [
      | inl lacks ↦ not_begun p x xs b lacks
      | inr second ↦ second_not_begun a p x xs b second n
    ] in
    or_from (begins p (x ∷ (xs ++ b ∷ []))) (begins_any patterns (x ∷ (xs ++ b ∷ []))) here (any_not_behind patterns a x xs b parts.1 n)

-- the byte breaks whatever has begun but that one
pub breaks_behind : (patterns : List (List Piece)) (a x : ℕ) (xs : List ℕ) (b : ℕ) → list_all (lacks_behind a b) patterns ≡ true
    → bytes_eq (x ∷ xs) (a ∷ []) ≡ false → fate_in patterns (x ∷ (xs ++ b ∷ [])) ≡ Breaks
breaks_behind patterns a x xs b h n = breaks_if patterns (x ∷ (xs ++ b ∷ [])) (any_not_behind patterns a x xs b h n)

-- ---- the number of waiting bytes

abbrev pub is_of_single_bytes : List Piece → Bool
is_of_single_bytes [] = true
is_of_single_bytes (One low high ∷ ps) = is_of_single_bytes ps
is_of_single_bytes (Many low high ∷ ps) = false

-- bytes that begin such a pattern and are not of it are fewer
fewer : (ps : List Piece) (bs : List ℕ) → is_of_single_bytes ps ≡ true → begins ps bs ≡ true → matches ps bs ≡ false → length bs < length ps
fewer [] [] n h m = absurd (cc m)
fewer [] (b ∷ bs) n h m = absurd (cc h)
fewer (One low high ∷ ps) [] n h m = omega arith
fewer (One low high ∷ ps) (b ∷ bs) n h m =
    let tests = and_parts (is_within low high b) (begins ps bs) h in
    let rest : matches ps bs ≡ false = rw tests.0 at m in
    omega (arith, fewer ps bs n tests.1 rest)
fewer (Many low high ∷ ps) bs n h m = absurd (cc n)

abbrev pub is_within_length : ℕ → List Piece → Bool
is_within_length n p = is_of_single_bytes p && nat_le (length p) n

pub any_fewer : (patterns : List (List Piece)) (n : ℕ) (bs : List ℕ) → list_all (is_within_length n) patterns ≡ true → begins_any patterns bs ≡ true
    → matches_any patterns bs ≡ false → length bs < n
any_fewer [] n bs s h m = absurd (cc h)
any_fewer (p ∷ patterns) n bs s h m =
    let sizes = and_parts (is_within_length n p) (list_all (is_within_length n) patterns) s in
    let size = and_parts (is_of_single_bytes p) (nat_le (length p) n) sizes.0 in
    let no = or_parts (matches p bs) (matches_any patterns bs) m in
    elim (or_cases (begins p bs) (begins_any patterns bs) h) [
      | inl here ↦ omega (arith, fewer p bs size.0 here no.0, leb-true (length p) n size.1)
      | inr later ↦ any_fewer patterns n bs sizes.1 later no.1
    ]
