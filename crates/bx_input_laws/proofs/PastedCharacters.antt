-- The text of a paste in UTF-8, character by character.
use Rattle.std.proofs.Common.{◌≡◌, ◌≢◌, ℕ, ◌+◌, ◌/◌, ◌%◌, ◌<◌, ◌≤◌, inl, inr, Bool, true, false, nat_eq, nat_lt, List, [], ◌∷◌, ◌++◌, refl, ap, sym, ◌∙◌, arith}
use Rattle.std.specs.List.{list_all}
use Rattle.std.specs.Str.{chars, IsUtf8}
use Rattle.std.proofs.lemmas.Bool.{and_parts, and_from, cases_lt, ltb-true, cond-true, cond-false}
use Rattle.std.proofs.lemmas.Bool.Decides.{nat_tests}
use Rattle.std.proofs.lemmas.List.{append-nil}
use Rattle.std.proofs.lemmas.Str.{chars-encodes, encode_ascii, encodes-append}
use lib.Utf8.{scalar, scalars, encode, encodes}
use Rattle.bx_bytes.specs.Pattern.{is_within}
use Rattle.bx_input.specs.Paste.{is_c1, kept_after, kept_character, kept_characters, pasted, pasted_after, pasted_byte}
use Rattle.bx_input_laws.specs.Laws.{PastesKeepCharacters}

-- ---- byte by byte

not_c1 : (b c : ℕ) → b ≢ 0xC2 → is_c1 b c ≡ false
not_c1 b c n = grind (arith, nat_tests)

one_byte : (b : ℕ) (bs : List ℕ) (r : Bool) → b ≢ 0xC2 → pasted_after r (b ∷ bs) ≡ pasted_byte r b ++ pasted_after (nat_eq b 0x0D) bs
one_byte b [] r n = sym (append-nil (pasted_byte r b))
one_byte b (c ∷ bs) r n = cond-false (is_c1 b c) (pasted_after false bs) (pasted_byte r b ++ pasted_after (nat_eq b 0x0D) (c ∷ bs)) (not_c1 b c n)

-- bytes from 80 on stay
high_byte : (r : Bool) (b : ℕ) → 0x80 ≤ b → pasted_byte r b ≡ b ∷ []
high_byte r b l = grind (arith, nat_tests)

no_return : (b : ℕ) → 0x80 ≤ b → nat_eq b 0x0D ≡ false
no_return b l = grind (arith, nat_tests)

is_trail : ℕ → Bool
is_trail b = is_within 0x80 0xBF b

trail_bounds : (b : ℕ) → is_trail b ≡ true → (0x80 ≤ b) × (b ≤ 0xBF)
unfolding is_trail
trail_bounds b h = (grind (arith, nat_tests), grind (arith, nat_tests))

trails_stay : (bs rest : List ℕ) → list_all is_trail bs ≡ true → pasted_after false (bs ++ rest) ≡ bs ++ pasted_after false rest
trails_stay [] rest h = refl
trails_stay (b ∷ bs) rest h =
    let parts = and_parts (is_trail b) (list_all is_trail bs) h in
    let bounds = trail_bounds b parts.0 in
    one_byte b (bs ++ rest) false (λ e. omega arith)
    ∙ ap (λ xs. xs ++ pasted_after (nat_eq b 0x0D) (bs ++ rest)) (high_byte false b bounds.0)
    ∙ ap (λ t. b ∷ pasted_after t (bs ++ rest)) (no_return b bounds.0)
    ∙ ap (λ xs. b ∷ xs) (trails_stay bs rest parts.1)

-- a character of more than one byte that is no control character
long_stays : (a b : ℕ) (bs rest : List ℕ) (r : Bool) → 0x80 ≤ a → is_c1 a b ≡ false → list_all is_trail (b ∷ bs) ≡ true
    → pasted_after r ((a ∷ b ∷ bs) ++ rest) ≡ (a ∷ b ∷ bs) ++ pasted_after false rest
long_stays a b bs rest r l n h =
    cond-false (is_c1 a b) (pasted_after false (bs ++ rest)) (pasted_byte r a ++ pasted_after (nat_eq a 0x0D) (b ∷ (bs ++ rest))) n
    ∙ ap (λ xs. xs ++ pasted_after (nat_eq a 0x0D) (b ∷ (bs ++ rest))) (high_byte r a l)
    ∙ ap (λ t. a ∷ pasted_after t (b ∷ (bs ++ rest))) (no_return a l)
    ∙ ap (λ xs. a ∷ xs) (trails_stay (b ∷ bs) rest h)

-- ---- a character

is_short : ℕ → Bool
is_short b = nat_lt b 0x80

short_encodes : (bs : List ℕ) → list_all is_short bs ≡ true → encodes bs ≡ bs
unfolding is_short
short_encodes [] h = refl
short_encodes (b ∷ bs) h =
    let parts = and_parts (is_short b) (list_all is_short bs) h in
    ap (λ xs. xs ++ encodes bs) (encode_ascii b (ltb-true b 0x80 parts.0)) ∙ ap (λ xs. b ∷ xs) (short_encodes bs parts.1)

short_kept : (r : Bool) (c : ℕ) → c < 0x80 → kept_character r c ≡ pasted_byte r c
short_kept r c l = grind (arith, nat_tests)

kept_short : (r : Bool) (c : ℕ) → c < 0x80 → list_all is_short (kept_character r c) ≡ true
unfolding is_short
kept_short r c l = grind (arith, nat_tests)

long_kept : (r : Bool) (c : ℕ) → 0xA0 ≤ c → kept_character r c ≡ c ∷ []
long_kept r c l = grind (arith, nat_tests)

c1_kept : (r : Bool) (c : ℕ) → 0x80 ≤ c → c < 0xA0 → kept_character r c ≡ []
c1_kept r c l h = grind (arith, nat_tests)

-- the output for a character's bytes before others
Keeps : ℕ → Type 0
Keeps c = (r : Bool) (rest : List ℕ) → pasted_after r (encode c ++ rest) ≡ encodes (kept_character r c) ++ pasted_after (nat_eq c 0x0D) rest

keeps_short : (c : ℕ) → c < 0x80 → Keeps c
unfolding Keeps
keeps_short c l r rest =
    ap (λ xs. pasted_after r (xs ++ rest)) (encode_ascii c l)
    ∙ one_byte c rest r (λ e. omega arith)
    ∙ ap (λ xs. xs ++ pasted_after (nat_eq c 0x0D) rest) (sym (short_kept r c l) ∙ sym (short_encodes (kept_character r c) (kept_short r c l)))

c1_bytes : (c : ℕ) → 0x80 ≤ c → c < 0xA0 → encode c ≡ 0xC2 ∷ c ∷ []
unfolding encode
c1_bytes c l h =
    let first : 192 + c / 64 ≡ 0xC2 = omega arith in
    let last : 128 + c % 64 ≡ c = omega arith in
    let two : encode c ≡ (192 + c / 64) ∷ (128 + c % 64) ∷ [] = grind (arith, nat_tests) in
    two ∙ ap (λ b. b ∷ (128 + c % 64) ∷ []) first ∙ ap (λ b. 0xC2 ∷ b ∷ []) last

keeps_c1 : (c : ℕ) → 0x80 ≤ c → c < 0xA0 → Keeps c
unfolding Keeps
keeps_c1 c l h r rest =
    let is : is_c1 0xC2 c ≡ true = grind (arith, nat_tests) in
    ap (λ xs. pasted_after r (xs ++ rest)) (c1_bytes c l h)
    ∙ cond-true (is_c1 0xC2 c) (pasted_after false rest) _ is
    ∙ ap (λ t. pasted_after t rest) (sym (no_return c l))
    ∙ ap (λ xs. encodes xs ++ pasted_after (nat_eq c 0x0D) rest) (sym (c1_kept r c l h))

-- the bytes of the others
record IsLong (c : ℕ) : Type 0 where
  pub first : ℕ
  pub second : ℕ
  pub others : List ℕ
  pub bytes : encode c ≡ first ∷ second ∷ others
  pub high : 0x80 ≤ first
  pub no_c1 : is_c1 first second ≡ false
  pub trails : list_all is_trail (second ∷ others) ≡ true

keeps_by_bytes : (c : ℕ) → 0xA0 ≤ c → IsLong c → Keeps c
unfolding Keeps
keeps_by_bytes c l is r rest =
    ap (λ xs. pasted_after r (xs ++ rest)) is.bytes
    ∙ long_stays is.first is.second is.others rest r is.high is.no_c1 is.trails
    ∙ ap (λ t. (is.first ∷ is.second ∷ is.others) ++ pasted_after t rest) (sym (no_return c (omega arith)))
    ∙ ap (λ xs. xs ++ pasted_after (nat_eq c 0x0D) rest) (sym is.bytes ∙ sym (append-nil (encode c)) ∙ ap encodes (sym (long_kept r c l)))

trail_of : (n : ℕ) → is_trail (128 + n % 64) ≡ true
unfolding is_trail
trail_of n = grind (arith, nat_tests)

is_long : (c : ℕ) → 0xA0 ≤ c → IsLong c
unfolding encode is_trail
is_long c l = elim (cases_lt c 0x800) [
  | inl two ↦ record {
    first = 192 + c / 64;
    second = 128 + c % 64;
    others = [];
    bytes = grind (arith, nat_tests);
    high = omega arith;
    no_c1 = grind (arith, nat_tests);
    trails = and_from _ _ (trail_of c) refl;
  }
  | inr more ↦ elim (cases_lt c 0x10000) [
    | inl three ↦ record {
      first = 224 + c / 4096;
      second = 128 + c / 64 % 64;
      others = (128 + c % 64) ∷ [];
      bytes = grind (arith, nat_tests);
      high = omega arith;
      no_c1 = not_c1 (224 + c / 4096) (128 + c / 64 % 64) (λ e. omega arith);
      trails = and_from _ _ (trail_of (c / 64)) (and_from _ _ (trail_of c) refl);
    }
    | inr four ↦ record {
      first = 240 + c / 262144;
      second = 128 + c / 4096 % 64;
      others = (128 + c / 64 % 64) ∷ (128 + c % 64) ∷ [];
      bytes = grind (arith, nat_tests);
      high = omega arith;
      no_c1 = not_c1 (240 + c / 262144) (128 + c / 4096 % 64) (λ e. omega arith);
      trails = and_from _ _ (trail_of (c / 4096)) (and_from _ _ (trail_of (c / 64)) (and_from _ _ (trail_of c) refl));
    }
  ]
]

-- ---- all of them

keeps : (c : ℕ) → Keeps c
keeps c = elim (cases_lt c 0x80) [
  | inl short ↦ keeps_short c short
  | inr more ↦ elim (cases_lt c 0xA0) [
    | inl c1 ↦ keeps_c1 c more c1
    | inr other ↦ keeps_by_bytes c other (is_long c other)
  ]
]

all_kept : (r : Bool) (cs : List ℕ) → pasted_after r (encodes cs) ≡ encodes (kept_after r cs)
unfolding Keeps
all_kept r [] = refl
all_kept r (c ∷ cs) =
    keeps c r (encodes cs)
    ∙ ap (λ xs. encodes (kept_character r c) ++ xs) (all_kept (nat_eq c 0x0D) cs)
    ∙ sym (encodes-append (kept_character r c) (kept_after (nat_eq c 0x0D) cs))

kept_scalar : (r : Bool) (c : ℕ) → scalar c ≡ true → scalars (kept_character r c) ≡ true
kept_scalar r c s = elim (cases_lt c 0xA0) [
  | inl low ↦ grind (arith, nat_tests)
  | inr other ↦ ap scalars (long_kept r c other) ∙ and_from (scalar c) true s refl
]

scalars_joined : (xs ys : List ℕ) → scalars xs ≡ true → scalars ys ≡ true → scalars (xs ++ ys) ≡ true
scalars_joined [] ys h g = g
scalars_joined (x ∷ xs) ys h g =
    let parts = and_parts (scalar x) (scalars xs) h in and_from (scalar x) (scalars (xs ++ ys)) parts.0 (scalars_joined xs ys parts.1 g)

kept_scalars : (r : Bool) (cs : List ℕ) → scalars cs ≡ true → scalars (kept_after r cs) ≡ true
kept_scalars r [] s = refl
kept_scalars r (c ∷ cs) s =
    let parts = and_parts (scalar c) (scalars cs) s in
    scalars_joined (kept_character r c) (kept_after (nat_eq c 0x0D) cs) (kept_scalar r c parts.0) (kept_scalars (nat_eq c 0x0D) cs parts.1)

keeps_characters : (cs text : List ℕ) → scalars cs ≡ true → encodes cs ≡ text → IsUtf8 (pasted text) × (chars (pasted text) ≡ kept_characters (chars text))
keeps_characters cs text s e =
    let same : pasted text ≡ encodes (kept_characters cs) = ap pasted (sym e) ∙ all_kept false cs in
    let scalar_all : scalars (kept_characters cs) ≡ true = kept_scalars false cs s in
    let spelled : chars text ≡ cs = ap chars (sym e) ∙ chars-encodes cs s in (
      (kept_characters cs, (scalar_all, sym same)),
      ap chars same ∙ chars-encodes (kept_characters cs) scalar_all ∙ ap kept_characters (sym spelled),
    )

pub pastes_keep_characters : PastesKeepCharacters
pastes_keep_characters text u = keeps_characters u.0 text u.1.0 u.1.1
