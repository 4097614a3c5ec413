-- The two sides that a control sequence tells, by its first semicolons.
use Rattle.std.proofs.Common.{◌≡◌, ℕ, ◌+◌, ◌<◌, ◌≤◌, ◌⊎◌, inl, inr, Bool, true, false, ◌&&◌, cond, nat_eq, nat_lt, List, [], ◌∷◌, length, take, drop, get_or}
use Rattle.std.proofs.Common.{Option, Some, None, refl, ap, sym, ◌∙◌, arith}
use Rattle.std.specs.List.{slice_split, onto_first, position, position_or_len, before_first, after_first}
use Rattle.std.specs.Char.{is_ascii_digit}
use Rattle.std.specs.Str.{all_ascii_digits}
use Rattle.std.specs.Str.Parse.{digits_value}
use Rattle.std.proofs.lemmas.Bool.{ltb-true, ltb-false, and_left, and_right, cond-false, eqb-true}
use Rattle.std.proofs.lemmas.Bool.Decides.{nat_tests}
use Rattle.std.proofs.lemmas.List.Elements.{All-from_get_or}
use Rattle.std.proofs.lemmas.List.Sums.{fails_before_first}
use Rattle.std.proofs.lemmas.List.Splits.{slice_split_first, slice_split_none}
use Rattle.std.proofs.lemmas.Option.{cond_some}
use Rattle.bx_keys.specs.Keys.{is_number, is_side_in_digits, key_by_kind, sides_key}
use Rattle.bx_keys.specs.declared.key.Key.{Key}

abbrev semicolon : ℕ → Bool
semicolon b = nat_eq b 0x3B

-- ---- bytes without a semicolon, and with one

-- bytes with a semicolon are two fields or more, and no number
pub record HasMore (xs : List ℕ) : Type 0 where
  pub first : List ℕ
  pub next : List ℕ
  pub others : List (List ℕ)
  pub fields : slice_split semicolon xs ≡ first ∷ next ∷ others
  pub no_digits : all_ascii_digits xs ≡ false

begins_more : (x : ℕ) (xs : List ℕ) (t : Bool) → semicolon x ≡ t → (slice_split semicolon xs ≡ xs ∷ []) ⊎ HasMore xs
    → (slice_split semicolon (x ∷ xs) ≡ (x ∷ xs) ∷ []) ⊎ HasMore (x ∷ xs)
begins_more x xs true e (inl one) =
    inr (record {
      first = [];
      next = xs;
      others = [];
      fields = rw (e, one) refl;
      no_digits = and_left (is_ascii_digit x) (all_ascii_digits xs) (grind (arith, nat_tests));
    })
begins_more x xs true e (inr more) =
    inr (record {
      first = [];
      next = more.first;
      others = more.next ∷ more.others;
      fields = rw (e, more.fields) refl;
      no_digits = and_right (is_ascii_digit x) (all_ascii_digits xs) more.no_digits;
    })
begins_more x xs false e (inl one) = inl (rw (e, one) refl)
begins_more x xs false e (inr more) =
    inr (record {
      first = x ∷ more.first;
      next = more.next;
      others = more.others;
      fields = rw (e, more.fields) refl;
      no_digits = and_right (is_ascii_digit x) (all_ascii_digits xs) more.no_digits;
    })

pub one_or_more : (xs : List ℕ) → (slice_split semicolon xs ≡ xs ∷ []) ⊎ HasMore xs
one_or_more [] = inl refl
one_or_more (x ∷ xs) = begins_more x xs (semicolon x) refl (one_or_more xs)

-- ---- the two sides

abbrev sided : List ℕ → List ℕ → List ℕ → Option Key
sided kind h w = cond (is_side_in_digits h && is_side_in_digits w) (key_by_kind kind (digits_value 10 h) (digits_value 10 w)) None

no_side : (kind h w : List ℕ) → all_ascii_digits w ≡ false → sided kind h w ≡ None
no_side kind h w e =
    let no : is_side_in_digits w ≡ false = and_left (is_number w) _ (and_right _ (all_ascii_digits w) e) in
    let none : is_side_in_digits h && is_side_in_digits w ≡ false = and_right (is_side_in_digits h) (is_side_in_digits w) no in
    ap (λ t. cond t (key_by_kind kind (digits_value 10 h) (digits_value 10 w)) None) none

fields_sides : (kind h w : List ℕ) → sides_key (kind ∷ h ∷ slice_split semicolon w) ≡ sided kind h w
fields_sides kind h w = elim (one_or_more w) [
  | inl one ↦ ap (λ fields. sides_key (kind ∷ h ∷ fields)) one
  | inr more ↦ ap (λ fields. sides_key (kind ∷ h ∷ fields)) more.fields ∙ sym (no_side kind h w more.no_digits)
]

-- the index of the first semicolon
pub key_by_sides : (kind sides : List ℕ) (i : ℕ) → position semicolon sides ≡ Some i
    → sides_key (kind ∷ slice_split semicolon sides) ≡ sided kind (take i sides) (drop (i + 1) sides)
key_by_sides kind sides i h =
    let at = cond_some (nat_lt (position_or_len semicolon sides) (length sides)) (position_or_len semicolon sides) i h in
    let within : position_or_len semicolon sides < length sides = ltb-true (position_or_len semicolon sides) (length sides) at.0 in
    ap (λ fields. sides_key (kind ∷ fields)) (slice_split_first semicolon sides 0 within)
    ∙ fields_sides kind (before_first semicolon sides) (after_first semicolon sides)
    ∙ ap (λ n. sided kind (take n sides) (drop (n + 1) sides)) at.1

not_found : (t : Bool) (n : ℕ) → cond t (Some n) None ≡ None → t ≡ false
not_found true n h = absurd (cc h)
not_found false n h = refl

pub none_without_semicolon : (kind sides : List ℕ) → position semicolon sides ≡ None → sides_key (kind ∷ slice_split semicolon sides) ≡ None
none_without_semicolon kind sides h =
    let none = not_found (nat_lt (position_or_len semicolon sides) (length sides)) (position_or_len semicolon sides) h in
    let past : length sides ≤ position_or_len semicolon sides = ltb-false (position_or_len semicolon sides) (length sides) none in
    ap (λ fields. sides_key (kind ∷ fields))
    (slice_split_none semicolon sides
    (All-from_get_or (λ b. semicolon b ≡ false) sides 0 (λ i l. fails_before_first semicolon sides i 0 (omega arith))))

-- a side that was read
pub side_read : (t : Bool) (n m : ℕ) → Some m ≡ cond t (Some n) None → (t ≡ true) × (m ≡ n)
side_read true n m h = (refl, cc h)
side_read false n m h = absurd (cc h)

pub side_refused : (t : Bool) (n : ℕ) → None ≡ cond t (Some n) None → t ≡ false
side_refused true n h = absurd (cc h)
side_refused false n h = refl

-- ---- no key

-- the first number has no byte, or two and more
long_kind : (kind : List ℕ) (h w : ℕ) → 2 ≤ length kind → key_by_kind kind h w ≡ None
long_kind [] h w l = refl
long_kind (a ∷ []) h w l = absurd (omega arith)
long_kind (a ∷ b ∷ kind) h w l =
    cond-false (nat_eq a 0x38 && false) _ _ (and_right (nat_eq a 0x38) false refl)
    ∙ cond-false (nat_eq a 0x37 && false) _ _ (and_right (nat_eq a 0x37) false refl)
    ∙ cond-false (nat_eq a 0x39 && false) _ _ (and_right (nat_eq a 0x39) false refl)

either_none : (t : Bool) (key : Option Key) → key ≡ None → cond t key None ≡ None
either_none true key e = e
either_none false key e = refl

-- no first number but one of one byte has a key
pub other_kind : (kind : List ℕ) (fields : List (List ℕ)) → ((h w : ℕ) → key_by_kind kind h w ≡ None) → sides_key (kind ∷ fields) ≡ None
other_kind kind [] none = refl
other_kind kind (h ∷ []) none = refl
other_kind kind (h ∷ w ∷ []) none =
    either_none (is_side_in_digits h && is_side_in_digits w) (key_by_kind kind (digits_value 10 h) (digits_value 10 w)) (none (digits_value 10 h) (digits_value 10 w))
other_kind kind (h ∷ w ∷ x ∷ fields) none = refl

pub no_long_kind : (kind : List ℕ) (fields : List (List ℕ)) → 2 ≤ length kind → sides_key (kind ∷ fields) ≡ None
no_long_kind kind fields l = other_kind kind fields (λ h w. long_kind kind h w l)

two_bytes : (a b : ℕ) (fields : List (List ℕ)) → sides_key (onto_first a (onto_first b fields)) ≡ None
two_bytes a b [] = no_long_kind (a ∷ b ∷ []) [] (omega arith)
two_bytes a b (kind ∷ fields) = no_long_kind (a ∷ b ∷ kind) fields (omega arith)

by_two : (a b : ℕ) (rest : List ℕ) (s t : Bool) → semicolon a ≡ s → semicolon b ≡ t → (b ≡ 0x3B → ⊥) → sides_key (slice_split semicolon (a ∷ b ∷ rest)) ≡ None
by_two a b rest true t e f n = rw e (other_kind [] (slice_split semicolon (b ∷ rest)) (λ h w. refl))
by_two a b rest false true e f n = absurd (n (eqb-true b 0x3B f))
by_two a b rest false false e f n = rw (e, f) (two_bytes a b (slice_split semicolon rest))

one_byte : (a : ℕ) (t : Bool) → semicolon a ≡ t → sides_key (slice_split semicolon (a ∷ [])) ≡ None
one_byte a true e = rw e refl
one_byte a false e = rw e refl

-- the second byte is no semicolon
pub no_sides : (between : List ℕ) → (2 ≤ length between → get_or between 1 0 ≡ 0x3B → ⊥) → sides_key (slice_split semicolon between) ≡ None
no_sides [] n = refl
no_sides (a ∷ []) n = one_byte a (semicolon a) refl
no_sides (a ∷ b ∷ rest) n = by_two a b rest (semicolon a) (semicolon b) refl refl (n (omega arith))
