-- Beginnings of patterns.
use Rattle.std.proofs.Common.{◌≡◌, ℕ, ◌≤◌, ◌⊎◌, inl, inr, Bool, true, false, ◌&&◌, ◌||◌, nat_le, nat_lt, List, [], ◌∷◌, ◌++◌, refl, ap, sym, ◌∙◌, arith}
use Rattle.std.specs.List.{list_all}
use Rattle.std.proofs.lemmas.Bool.{and_parts, and_from, or_cases, or_from, or_left, or_right, cases_Bool, leb-true}
use Rattle.std.proofs.lemmas.Bool.{and_left as false_left, and_right as false_right}
use Rattle.std.proofs.lemmas.Bool.Decides.{nat_tests}
use Rattle.bx_bytes.specs.Pattern.{Piece, One, Many, is_within, past, matches, begins, matches_any, begins_any}
use Rattle.bx_bytes.specs.Grammar.{needs_byte, are_disjoint, excludes, is_sound, are_apart, all_apart, is_grammar, BeginsByMore, NoneBeginsLonger}

-- ---- runs of bytes of a range

past_by : (t : Bool) (low high b : ℕ) (bs cs : List ℕ) → is_within low high b ≡ t → (past low high bs ≡ [] → past low high (bs ++ cs) ≡ past low high cs)
    → past low high (b ∷ bs) ≡ [] → past low high (b ∷ bs ++ cs) ≡ past low high cs
past_by true low high b bs cs e more h = rw e (more (rw e at h))
past_by false low high b bs cs e more h = absurd (let g : b ∷ bs ≡ [] = rw e at h in cc g)

past_all : (low high : ℕ) (bs cs : List ℕ) → past low high bs ≡ [] → past low high (bs ++ cs) ≡ past low high cs
past_all low high [] cs h = refl
past_all low high (b ∷ bs) cs h = past_by (is_within low high b) low high b bs cs refl (past_all low high bs cs) h

-- or some are left
past_left : (low high : ℕ) (bs cs : List ℕ) → (past low high bs ≡ []) ⊎ (past low high (bs ++ cs) ≡ past low high bs ++ cs)
past_left low high [] cs = inl refl
past_left low high (b ∷ bs) cs = elim (cases_Bool (is_within low high b)) [
  | inl inside ↦ rw inside (past_left low high bs cs)
  | inr outside ↦ inr (rw outside refl)
]

-- ---- a match begins a match, and so does each front of it

begins_nil : (p : List Piece) → begins p [] ≡ true
begins_nil [] = refl
begins_nil (One low high ∷ p) = refl
begins_nil (Many low high ∷ p) = begins_nil p

pub matches_begins : (p : List Piece) (bs : List ℕ) → matches p bs ≡ true → begins p bs ≡ true
matches_begins [] [] h = refl
matches_begins [] (b ∷ bs) h = h
matches_begins (One low high ∷ p) [] h = refl
matches_begins (One low high ∷ p) (b ∷ bs) h =
    let parts = and_parts (is_within low high b) (matches p bs) h in
    and_from (is_within low high b) (begins p bs) parts.0 (matches_begins p bs parts.1)
matches_begins (Many low high ∷ p) bs h = matches_begins p (past low high bs) h

pub begins_front : (p : List Piece) (bs cs : List ℕ) → begins p (bs ++ cs) ≡ true → begins p bs ≡ true
begins_front p [] cs h = begins_nil p
begins_front [] (b ∷ bs) cs h = h
begins_front (One low high ∷ p) (b ∷ bs) cs h =
    let parts = and_parts (is_within low high b) (begins p (bs ++ cs)) h in
    and_from (is_within low high b) (begins p bs) parts.0 (begins_front p bs cs parts.1)
begins_front (Many low high ∷ p) (b ∷ bs) cs h = elim (past_left low high (b ∷ bs) cs) [
  | inl none ↦ ap (begins p) none ∙ begins_nil p
  | inr some ↦ begins_front p (past low high (b ∷ bs)) cs (ap (begins p) (sym some) ∙ h)
]

-- ---- each beginning has an end

-- no byte of the range comes first
abbrev starts_outside : ℕ → ℕ → List ℕ → Bool
starts_outside low high [] = true
starts_outside low high (b ∷ bs) = nat_lt b low || nat_lt high b

past_outside : (low high : ℕ) (bs : List ℕ) → starts_outside low high bs ≡ true → past low high bs ≡ bs
past_outside low high [] h = refl
past_outside low high (b ∷ bs) h = let out : is_within low high b ≡ false = grind (arith, nat_tests) in rw out refl

-- the bytes still missing, the least of each range
abbrev completion : List Piece → List ℕ → List ℕ
completion [] bs = []
completion (One low high ∷ p) [] = low ∷ completion p []
completion (One low high ∷ p) (b ∷ bs) = completion p bs
completion (Many low high ∷ p) bs = completion p (past low high bs)

completion_outside : (low high : ℕ) (p : List Piece) → is_sound p ≡ true → excludes low high p ≡ true → starts_outside low high (completion p []) ≡ true
completion_outside low high [] h e = refl
completion_outside low high (One a b ∷ p) h e =
    let parts = and_parts (nat_le a b) (is_sound p) h in
    let range : a ≤ b = leb-true a b parts.0 in
    grind (arith, nat_tests)
completion_outside low high (Many a b ∷ p) h e =
    completion_outside low high p (and_parts (needs_byte p && excludes a b p) (is_sound p) h).1
    (and_parts (are_disjoint low high a b) (excludes low high p) e).1

completes : (p : List Piece) (bs : List ℕ) → is_sound p ≡ true → begins p bs ≡ true → matches p (bs ++ completion p bs) ≡ true
completes [] [] h g = refl
completes [] (b ∷ bs) h g = g
completes (One low high ∷ p) [] h g =
    let parts = and_parts (nat_le low high) (is_sound p) h in
    let inside : is_within low high low ≡ true = (let range : low ≤ high = leb-true low high parts.0 in grind (arith, nat_tests)) in
    and_from (is_within low high low) (matches p (completion p [])) inside (completes p [] parts.1 (begins_nil p))
completes (One low high ∷ p) (b ∷ bs) h g =
    let tests = and_parts (is_within low high b) (begins p bs) g in
    and_from (is_within low high b) (matches p (bs ++ completion p bs)) tests.0 (completes p bs (and_parts (nat_le low high) (is_sound p) h).1 tests.1)
completes (Many low high ∷ p) bs h g =
    let parts = and_parts (needs_byte p && excludes low high p) (is_sound p) h in
    let apart = and_parts (needs_byte p) (excludes low high p) parts.0 in
    let rest : List ℕ = past low high bs in
    let end : matches p (rest ++ completion p rest) ≡ true = completes p rest parts.1 g in
    elim (past_left low high bs (completion p rest)) [
      | inl none ↦ (
          let out : starts_outside low high (completion p rest) ≡ true = ap (λ r. starts_outside low high (completion p r)) none
          ∙ completion_outside low high p parts.1 apart.1 in
          ap (matches p) (past_all low high bs (completion p rest) none ∙ past_outside low high (completion p rest) out)
          ∙ ap (λ r. matches p (r ++ completion p rest)) (sym none) ∙ end)
      | inr some ↦ ap (matches p) some ∙ end
    ]

-- ---- of a grammar

pub matches_any_begins : (ps : List (List Piece)) (bs : List ℕ) → matches_any ps bs ≡ true → begins_any ps bs ≡ true
matches_any_begins [] bs h = h
matches_any_begins (p ∷ ps) bs h = elim (or_cases (matches p bs) (matches_any ps bs) h) [
  | inl here ↦ or_left (begins p bs) (begins_any ps bs) (matches_begins p bs here)
  | inr later ↦ or_right (begins p bs) (begins_any ps bs) (matches_any_begins ps bs later)
]

pub begins_any_front : (ps : List (List Piece)) (bs cs : List ℕ) → begins_any ps (bs ++ cs) ≡ true → begins_any ps bs ≡ true
begins_any_front [] bs cs h = h
begins_any_front (p ∷ ps) bs cs h = elim (or_cases (begins p (bs ++ cs)) (begins_any ps (bs ++ cs)) h) [
  | inl here ↦ or_left (begins p bs) (begins_any ps bs) (begins_front p bs cs here)
  | inr later ↦ or_right (begins p bs) (begins_any ps bs) (begins_any_front ps bs cs later)
]

completes_any : (ps : List (List Piece)) (bs : List ℕ) → list_all is_sound ps ≡ true → begins_any ps bs ≡ true
    → (more : List ℕ) × (matches_any ps (bs ++ more) ≡ true)
completes_any [] bs h g = absurd (cc g)
completes_any (p ∷ ps) bs h g =
    let sound = and_parts (is_sound p) (list_all is_sound ps) h in
    elim (or_cases (begins p bs) (begins_any ps bs) g) [
      | inl here ↦ (completion p bs, or_left (matches p (bs ++ completion p bs)) (matches_any ps (bs ++ completion p bs)) (completes p bs sound.0 here))
      | inr later ↦ (
          let rest = completes_any ps bs sound.1 later in
          (rest.0, or_right (matches p (bs ++ rest.0)) (matches_any ps (bs ++ rest.0)) rest.1))
    ]

pub begins_by_more : (ps : List (List Piece)) → is_grammar ps ≡ true → BeginsByMore ps
begins_by_more ps h bs = (
  completes_any ps bs (and_parts (list_all is_sound ps) (all_apart ps) h).0,
  λ found. begins_any_front ps bs found.0 (matches_any_begins ps (bs ++ found.0) found.1),
)

-- ---- none begins a longer one

nothing_of : (p : List Piece) → needs_byte p ≡ true → matches p [] ≡ false
nothing_of [] h = absurd (cc h)
nothing_of (One low high ∷ p) h = refl
nothing_of (Many low high ∷ p) h = nothing_of p h

itself_longer : (p : List Piece) (bs : List ℕ) (b : ℕ) (more : List ℕ) → is_sound p ≡ true → matches p bs ≡ true → begins p (bs ++ b ∷ more) ≡ false
itself_longer [] [] b more h g = refl
itself_longer [] (x ∷ bs) b more h g = absurd (cc g)
itself_longer (One low high ∷ p) [] b more h g = absurd (cc g)
itself_longer (One low high ∷ p) (x ∷ bs) b more h g =
    let tests = and_parts (is_within low high x) (matches p bs) g in
    false_right (is_within low high x) (begins p (bs ++ b ∷ more)) (itself_longer p bs b more (and_parts (nat_le low high) (is_sound p) h).1 tests.1)
itself_longer (Many low high ∷ p) bs b more h g =
    let parts = and_parts (needs_byte p && excludes low high p) (is_sound p) h in
    let apart = and_parts (needs_byte p) (excludes low high p) parts.0 in
    elim (past_left low high bs (b ∷ more)) [
      | inl none ↦ absurd (let yes : matches p [] ≡ true = ap (matches p) (sym none) ∙ g in let no = nothing_of p apart.0 in cc (yes, no))
      | inr some ↦ ap (begins p) some ∙ itself_longer p (past low high bs) b more parts.1 g
    ]

other_outside : (a b c d x : ℕ) → are_disjoint a b c d ≡ true → is_within a b x ≡ true → is_within c d x ≡ false
other_outside a b c d x h g = grind (arith, nat_tests)

other_longer : (p q : List Piece) (bs more : List ℕ) → are_apart p q ≡ true → matches p bs ≡ true → begins q (bs ++ more) ≡ false
other_longer [] q bs more h g = absurd (cc h)
other_longer (Many a b ∷ p) q bs more h g = absurd (cc h)
other_longer (One a b ∷ p) [] bs more h g = absurd (cc h)
other_longer (One a b ∷ p) (Many c d ∷ q) bs more h g = absurd (cc h)
other_longer (One a b ∷ p) (One c d ∷ q) [] more h g = absurd (cc g)
other_longer (One a b ∷ p) (One c d ∷ q) (x ∷ bs) more h g =
    let tests = and_parts (is_within a b x) (matches p bs) g in
    elim (or_cases (are_disjoint a b c d) (are_apart p q) h) [
      | inl disjoint ↦ false_left (is_within c d x) (begins q (bs ++ more)) (other_outside a b c d x disjoint tests.0)
      | inr later ↦ false_right (is_within c d x) (begins q (bs ++ more)) (other_longer p q bs more later tests.1)
    ]

-- a pattern apart from the others, on either side
forward : (p : List Piece) (ps : List (List Piece)) (bs more : List ℕ) → list_all (λ q. are_apart p q && are_apart q p) ps ≡ true → matches p bs ≡ true
    → begins_any ps (bs ++ more) ≡ false
forward p [] bs more h g = refl
forward p (q ∷ ps) bs more h g =
    let parts = and_parts (are_apart p q && are_apart q p) (list_all (λ r. are_apart p r && are_apart r p) ps) h in
    or_from (begins q (bs ++ more)) (begins_any ps (bs ++ more))
    (other_longer p q bs more (and_parts (are_apart p q) (are_apart q p) parts.0).0 g) (forward p ps bs more parts.1 g)

backward : (p : List Piece) (ps : List (List Piece)) (bs more : List ℕ) → list_all (λ q. are_apart p q && are_apart q p) ps ≡ true → matches_any ps bs ≡ true
    → begins p (bs ++ more) ≡ false
backward p [] bs more h g = absurd (cc g)
backward p (q ∷ ps) bs more h g =
    let parts = and_parts (are_apart p q && are_apart q p) (list_all (λ r. are_apart p r && are_apart r p) ps) h in
    elim (or_cases (matches q bs) (matches_any ps bs) g) [
      | inl here ↦ other_longer q p bs more (and_parts (are_apart p q) (are_apart q p) parts.0).1 here
      | inr later ↦ backward p ps bs more parts.1 later
    ]

any_longer : (ps : List (List Piece)) (bs : List ℕ) (b : ℕ) (more : List ℕ) → list_all is_sound ps ≡ true → all_apart ps ≡ true → matches_any ps bs ≡ true
    → begins_any ps (bs ++ b ∷ more) ≡ false
any_longer [] bs b more s h g = absurd (cc g)
any_longer (p ∷ ps) bs b more s h g =
    let sound = and_parts (is_sound p) (list_all is_sound ps) s in
    let apart = and_parts (list_all (λ q. are_apart p q && are_apart q p) ps) (all_apart ps) h in
    elim (or_cases (matches p bs) (matches_any ps bs) g) [
      | inl here ↦ or_from (begins p (bs ++ b ∷ more)) (begins_any ps (bs ++ b ∷ more)) (itself_longer p bs b more sound.0 here)
          (forward p ps bs (b ∷ more) apart.0 here)
      | inr later ↦ or_from (begins p (bs ++ b ∷ more)) (begins_any ps (bs ++ b ∷ more)) (backward p ps bs (b ∷ more) apart.0 later)
          (any_longer ps bs b more sound.1 apart.1 later)
    ]

pub none_begins_longer : (ps : List (List Piece)) → is_grammar ps ≡ true → NoneBeginsLonger ps
none_begins_longer ps h bs b more g =
    let parts = and_parts (list_all is_sound ps) (all_apart ps) h in any_longer ps bs b more parts.0 parts.1 g
