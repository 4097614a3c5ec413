-- The bytes of a key are decoded as the key: of keys without numbers, of sides, of characters, and of the items of the grammar.
use Rattle.std.proofs.Common.{◌≡◌, ◌≢◌, ℕ, zero, suc, ◌-◌, ◌<◌, inl, inr, Bool, true, false, not, ◌&&◌, ◌||◌, nat_eq, List, [], ◌∷◌, ◌++◌, length, refl, ap, sym, ◌∙◌, append_assoc, arith}
use Rattle.std.proofs.Common.{Some, None}
use Rattle.std.specs.Prelude.{decimal, option_to_list}
use Rattle.std.specs.Char.{is_ascii_digit}
use Rattle.std.specs.Fmt.{digits}
use Rattle.std.specs.List.{slice_split}
use Rattle.std.specs.Str.{all_ascii_digits}
use Rattle.std.specs.Str.Parse.{digits_value}
use Rattle.std.proofs.lemmas.Bool.{and_from, and_parts, cases_Bool, cond-true}
use Rattle.std.proofs.lemmas.Bool.Decides.{nat_tests}
use Rattle.std.proofs.lemmas.Fmt.{decimal_is_IsNumeral}
use Rattle.std.proofs.lemmas.List.{get_or_push, length_push, take_at}
use Rattle.bx_bytes.specs.Pattern.{One, is_within, matches, past}
use Rattle.bx_common.specs.Characters.{is_side}
use Rattle.bx_keys.specs.Items.{is_item}
use Rattle.bx_keys.specs.Keys.{decoding, key_of, key_by_kind, is_number, is_side_in_digits, final_byte, before_final, sides_key, sequence_key}
use Rattle.bx_keys.specs.declared.key.Key.{Key}
use Rattle.bx_keys.specs.declared.key.Key.TheVariants.{Size, Point, Drag}
use Rattle.bx_keys.proofs.Feeding.{item_decoding}
use Rattle.bx_input.specs.KeyBytes.{sides_bytes}
use Rattle.bx_input.specs.Table.{csi}
use Rattle.bx_input.proofs.Reports.{semicolon, side_is}
use Rattle.bx_input_laws.specs.Reading.{IsRead}
use Rattle.bx_input_laws.proofs.ReportFields.{first_field, last_field}

-- ---- sides

-- each side from 1 to 500 has one to three digits
abbrev all_below : (ℕ → Bool) → ℕ → Bool
all_below p zero = true
all_below p (suc n) = p n && all_below p n

below : (p : ℕ → Bool) (n m : ℕ) → all_below p n ≡ true → m < n → p m ≡ true
below p zero m h l = absurd (omega (arith, l))
below p (suc n) m h l =
    let parts = and_parts (p n) (all_below p n) h in
    elim (cases_Bool (nat_eq m n)) [
      | inl same ↦ (let is : m ≡ n = grind (arith, nat_tests, same) in ap p is ∙ parts.0)
      | inr other ↦ below p n m parts.1 (let differs : m ≢ n = grind (arith, nat_tests, other) in omega (arith, l, differs))
    ]

abbrev has_digits : ℕ → Bool
has_digits n = not (is_side n) || is_number (decimal n)

all_have_digits : all_below has_digits 501 ≡ true
unfolding digits
all_have_digits = refl

side_below : (n : ℕ) → is_side n ≡ true → n < 501
side_below n h = grind (arith, nat_tests)

by_side : (s t : Bool) → s ≡ true → not s || t ≡ true → t ≡ true
by_side true t h g = g
by_side false t h g = absurd (cc h)

value_of : (n : ℕ) → is_side n ≡ true → digits_value 10 (decimal n) ≡ n
value_of n h = (decimal_is_IsNumeral n (let small = side_below n h in omega (arith, small))).1

in_digits : (n : ℕ) → is_side n ≡ true → is_side_in_digits (decimal n) ≡ true
in_digits n h =
    and_from (is_number (decimal n)) (is_side (digits_value 10 (decimal n)))
    (by_side (is_side n) (is_number (decimal n)) h (below has_digits 501 n all_have_digits (side_below n h)))
    (ap is_side (value_of n h) ∙ h)

is_parameter : ℕ → Bool
is_parameter b = is_within 0x20 0x3F b

digit_parameter : (b : ℕ) → is_ascii_digit b ≡ true → is_parameter b ≡ true
unfolding is_parameter
digit_parameter b h = grind (arith, nat_tests)

past_digits : (ds rest : List ℕ) → all_ascii_digits ds ≡ true → past 0x20 0x3F (ds ++ rest) ≡ past 0x20 0x3F rest
unfolding is_parameter
past_digits [] rest h = refl
past_digits (d ∷ ds) rest h =
    let parts = and_parts (is_ascii_digit d) (all_ascii_digits ds) h in
    cond-true (is_within 0x20 0x3F d) (past 0x20 0x3F (ds ++ rest)) (d ∷ (ds ++ rest)) (digit_parameter d parts.0) ∙ past_digits ds rest parts.1

-- the final byte, and the bytes before it
sides_at_end : (front : List ℕ) → sequence_key (front ++ 0x74 ∷ []) ≡ sides_key (slice_split semicolon front)
sides_at_end front =
    let body : List ℕ = front ++ 0x74 ∷ [] in
    let last : final_byte body ≡ 0x74 = get_or_push front 0x74 0 (length body - 1) (omega (arith, length_push front 0x74)) in
    cond-true (nat_eq (final_byte body) 0x74) (sides_key (slice_split semicolon (before_final body))) _ (ap (λ b. nat_eq b 0x74) last)
    ∙ ap (λ bs. sides_key (slice_split semicolon bs)) (take_at front (0x74 ∷ []) (length body - 1) (omega (arith, length_push front 0x74)))

-- the digits of two sides, behind a digit and a semicolon
module _ (kind : ℕ) (h w : List ℕ) (is_h : is_side_in_digits h ≡ true) (is_w : is_side_in_digits w ≡ true) where
  abbrev told : List ℕ
  told = kind ∷ 0x3B ∷ (h ++ (0x3B ∷ (w ++ 0x74 ∷ [])))

  joined : told ≡ (kind ∷ 0x3B ∷ (h ++ 0x3B ∷ w)) ++ 0x74 ∷ []
  joined = ap (λ bs. kind ∷ 0x3B ∷ bs) (sym (append_assoc h (0x3B ∷ w) (0x74 ∷ [])))

  key_told : is_ascii_digit kind ≡ true → key_of (csi told) ≡ key_by_kind (kind ∷ []) (digits_value 10 h) (digits_value 10 w)
  key_told k =
      let rows = first_field h w (side_is h is_h).digits ∙ ap (λ fields. h ∷ fields) (last_field w (side_is w is_w).digits) in
      let one : all_ascii_digits (kind ∷ []) ≡ true = and_from (is_ascii_digit kind) true k refl in
      ap sequence_key joined
      ∙ sides_at_end (kind ∷ 0x3B ∷ (h ++ 0x3B ∷ w))
      ∙ ap sides_key (first_field (kind ∷ []) (h ++ 0x3B ∷ w) one ∙ ap (λ fields. (kind ∷ []) ∷ fields) rows)
      ∙ cond-true (is_side_in_digits h && is_side_in_digits w) (key_by_kind (kind ∷ []) (digits_value 10 h) (digits_value 10 w)) None
      (and_from (is_side_in_digits h) (is_side_in_digits w) is_h is_w)

  item_told : is_ascii_digit kind ≡ true → is_item (csi told) ≡ true
  item_told k =
      let one : all_ascii_digits (kind ∷ []) ≡ true = and_from (is_ascii_digit kind) true k refl in
      let all : past 0x20 0x3F told ≡ 0x74 ∷ [] =
      past_digits (kind ∷ []) (0x3B ∷ (h ++ (0x3B ∷ (w ++ 0x74 ∷ [])))) one
      ∙ past_digits h (0x3B ∷ (w ++ 0x74 ∷ [])) (side_is h is_h).digits
      ∙ past_digits w (0x74 ∷ []) (side_is w is_w).digits in
      ap (λ t. t || false) (ap (matches (One 0x40 0x7E ∷ [])) all)

sides_read : (kind : ℕ) (h w : ℕ) (key : Key) → is_ascii_digit kind ≡ true → is_side h ≡ true → is_side w ≡ true → key_by_kind (kind ∷ []) h w ≡ Some key
    → decoding (sides_bytes (kind ∷ 0x3B ∷ []) h w) ≡ record { keys = key ∷ []; rest = [] }
sides_read kind h w key k is_h is_w is =
    let rows = in_digits h is_h in
    let columns = in_digits w is_w in
    let told_key = key_told kind (decimal h) (decimal w) rows columns k
    ∙ ap (λ n. key_by_kind (kind ∷ []) n (digits_value 10 (decimal w))) (value_of h is_h)
    ∙ ap (key_by_kind (kind ∷ []) h) (value_of w is_w) ∙ is in
    item_decoding (sides_bytes (kind ∷ 0x3B ∷ []) h w) (item_told kind (decimal h) (decimal w) rows columns k)
    ∙ ap (λ o. record { keys = option_to_list o; rest = [] }) told_key

pub size_read : (h w : ℕ) → is_side h ≡ true → is_side w ≡ true → IsRead (Size h w)
size_read h w is_h is_w = sides_read 0x38 h w (Size h w) refl is_h is_w refl

pub point_read : (h w : ℕ) → is_side h ≡ true → is_side w ≡ true → IsRead (Point h w)
point_read h w is_h is_w = sides_read 0x37 h w (Point h w) refl is_h is_w refl

pub drag_read : (h w : ℕ) → is_side h ≡ true → is_side w ≡ true → IsRead (Drag h w)
drag_read h w is_h is_w = sides_read 0x39 h w (Drag h w) refl is_h is_w refl
