-- What known bytes are: a row of the table, a paste's start, a mouse report, or a size.
use Rattle.std.proofs.Common.{◌≡◌, ℕ, ◌≤◌, inl, inr, ◌⊎◌, Bool, true, false, ◌&&◌, ◌||◌, cond, nat_eq, nat_le, List, [], ◌∷◌, ◌++◌, length, drop}
use Rattle.std.proofs.Common.{refl, ap, sym, ◌∙◌, arith}
use Rattle.std.specs.Prelude.{is_some}
use Rattle.std.specs.Char.{is_ascii_digit}
use Rattle.std.specs.List.{list_all}
use Rattle.std.specs.Str.{bytes_eq}
use Rattle.std.proofs.lemmas.Bool.{cases_Bool, and_parts, and_right, or_parts, cond-true, cond-false, leb-true}
use Rattle.std.proofs.lemmas.Bool.Decides.{nat_tests}
use Rattle.bx_bytes.specs.Pattern.{fate_in, matches_any}
use Rattle.bx_bytes.specs.declared.fate.Fate.{Fate}
use Rattle.bx_bytes.specs.declared.fate.Fate.TheVariants.{Waits, Ends, Breaks}
use Rattle.bx_input.specs.Known.{fate}
use Rattle.bx_input.specs.Mouse.{opens_report, is_number_byte, begins_report, report_of, report_fate}
use Rattle.bx_input.specs.Sizes.{opens_size, size_of, size_fate}
use Rattle.bx_input.specs.Table.{sequences}
use Rattle.bx_input.proofs.Reports.{breaks_other}
use Rattle.bx_input_laws.proofs.SizeFates.{size_breaks_other}
use Rattle.bx_input_laws.proofs.Firsts.{IsBegun, begun_by, whole_by, waits_says, ends_says, lacks_after_first, breaks_at, lacks_behind, breaks_behind}

-- ---- the fate, by whether the bytes begin with CSI <, or with CSI 8 ;

abbrev other_fate : List ℕ → Fate
other_fate bs = cond (opens_size bs) (size_fate (drop 4 bs)) (fate_in sequences bs)

by_table : (bs : List ℕ) → opens_report bs ≡ false → opens_size bs ≡ false → fate bs ≡ fate_in sequences bs
by_table bs h g =
    cond-false (opens_report bs) (report_fate (drop 3 bs)) (other_fate bs) h ∙ cond-false (opens_size bs) (size_fate (drop 4 bs)) (fate_in sequences bs) g

by_report : (bs : List ℕ) → opens_report bs ≡ true → fate bs ≡ report_fate (drop 3 bs)
by_report bs h = cond-true (opens_report bs) (report_fate (drop 3 bs)) (other_fate bs) h

no_report_then : (bs : List ℕ) → opens_size bs ≡ true → opens_report bs ≡ false
no_report_then [] h = absurd (cc h)
no_report_then (a ∷ []) h = absurd (cc h)
no_report_then (a ∷ b ∷ []) h = absurd (cc h)
no_report_then (a ∷ b ∷ c ∷ []) h = absurd (cc h)
no_report_then (a ∷ b ∷ c ∷ d ∷ bs) h = grind (arith, nat_tests)

by_size : (bs : List ℕ) → opens_size bs ≡ true → fate bs ≡ size_fate (drop 4 bs)
by_size bs h =
    cond-false (opens_report bs) (report_fate (drop 3 bs)) (other_fate bs) (no_report_then bs h)
    ∙ cond-true (opens_size bs) (size_fate (drop 4 bs)) (fate_in sequences bs) h

-- bytes that wait
pub record BeginsReport (bs : List ℕ) : Type 0 where
  pub opens : opens_report bs ≡ true
  pub few : length (drop 3 bs) ≤ 11

pub record BeginsSize (bs : List ℕ) : Type 0 where
  pub opens : opens_size bs ≡ true
  pub few : length (drop 4 bs) ≤ 11

report_waits : (bs : List ℕ) → opens_report bs ≡ true → fate bs ≡ Waits → BeginsReport bs
report_waits bs o h =
    let ps : List ℕ = drop 3 bs in
    let begun = begun_by (is_some (report_of ps)) (begins_report ps) (sym (by_report bs o) ∙ h) in
    record { opens = o; few = leb-true (length ps) 11 (and_parts (nat_le (length ps) 11) (list_all is_number_byte ps) begun.1).0 }

size_begun : (bs : List ℕ) → opens_size bs ≡ true → fate bs ≡ Waits → BeginsSize bs
size_begun bs o h =
    let ps : List ℕ = drop 4 bs in
    let begun = begun_by (is_some (size_of ps)) (begins_report ps) (sym (by_size bs o) ∙ h) in
    record { opens = o; few = leb-true (length ps) 11 (and_parts (nat_le (length ps) 11) (list_all is_number_byte ps) begun.1).0 }

pub known_waits : (bs : List ℕ) → fate bs ≡ Waits → BeginsReport bs ⊎ (BeginsSize bs ⊎ IsBegun sequences bs)
known_waits bs h = elim (cases_Bool (opens_report bs)) [
  | inl opens ↦ inl (report_waits bs opens h)
  | inr other ↦ elim (cases_Bool (opens_size bs)) [
    | inl opens ↦ inr (inl (size_begun bs opens h))
    | inr table ↦ inr (inr (waits_says sequences bs (sym (by_table bs other table) ∙ h)))
  ]
]

-- ---- bytes that are whole

-- whole bytes match a sequence of the table, or are a report, or a size
pub whole_says : (read : List ℕ) → fate read ≡ Ends
    → (matches_any sequences read ≡ true) ⊎ ((opens_report read && is_some (report_of (drop 3 read)) ≡ true) ⊎ (opens_size read && is_some (size_of (drop 4 read)) ≡ true))
whole_says read h = elim (cases_Bool (opens_report read)) [
  | inl opens ↦ inr (inl (
      let ps : List ℕ = drop 3 read in
      let whole = whole_by (is_some (report_of ps)) (begins_report ps) (sym (by_report read opens) ∙ h) in
      ap (λ t. t && is_some (report_of ps)) opens ∙ whole))
  | inr other ↦ elim (cases_Bool (opens_size read)) [
    | inl opens ↦ inr (inr (
        let ps : List ℕ = drop 4 read in
        let whole = whole_by (is_some (size_of ps)) (begins_report ps) (sym (by_size read opens) ∙ h) in
        ap (λ t. t && is_some (size_of ps)) opens ∙ whole))
    | inr table ↦ inl (ends_says sequences read (sym (by_table read other table) ∙ h))
  ]
]

-- ---- a byte that breaks whatever has begun

-- a byte that a report or a size has behind CSI
abbrev pub is_report_byte : ℕ → Bool
is_report_byte b = is_number_byte b || ((nat_eq b 0x4D || nat_eq b 0x6D) || (nat_eq b 0x3C || nat_eq b 0x74))

pub record IsNone (b : ℕ) : Type 0 where
  pub no_number : is_number_byte b ≡ false
  pub no_final : nat_eq b 0x4D || nat_eq b 0x6D ≡ false
  pub no_start : nat_eq b 0x3C ≡ false
  pub no_size : nat_eq b 0x74 ≡ false

none_of : (b : ℕ) → is_report_byte b ≡ false → IsNone b
none_of b h =
    let number = or_parts (is_number_byte b) ((nat_eq b 0x4D || nat_eq b 0x6D) || (nat_eq b 0x3C || nat_eq b 0x74)) h in
    let final = or_parts (nat_eq b 0x4D || nat_eq b 0x6D) (nat_eq b 0x3C || nat_eq b 0x74) number.1 in
    let last = or_parts (nat_eq b 0x3C) (nat_eq b 0x74) final.1 in
    record { no_number = number.0; no_final = final.0; no_start = last.0; no_size = last.1 }

no_semicolon : (b : ℕ) → is_number_byte b ≡ false → nat_eq b 0x3B ≡ false
no_semicolon b h = (or_parts (is_ascii_digit b) (nat_eq b 0x3B) h).1

-- bytes and one more, which is in no report and no size
breaks_by : (x : ℕ) (xs : List ℕ) (b : ℕ) → IsNone b → fate_in sequences (x ∷ (xs ++ b ∷ [])) ≡ Breaks → fate (x ∷ (xs ++ b ∷ [])) ≡ Breaks
breaks_by x [] b n h = h
breaks_by x (y ∷ []) b n h = by_table (x ∷ y ∷ b ∷ []) (and_right (nat_eq x 0x1B && nat_eq y 0x5B) (nat_eq b 0x3C) n.no_start) refl ∙ h
breaks_by x (y ∷ z ∷ []) b n h = elim (cases_Bool (opens_report (x ∷ y ∷ z ∷ b ∷ []))) [
  | inl opens ↦ by_report (x ∷ y ∷ z ∷ b ∷ []) opens ∙ breaks_other [] b n.no_number n.no_final
  | inr other ↦ by_table (x ∷ y ∷ z ∷ b ∷ []) other (and_right ((nat_eq x 0x1B && nat_eq y 0x5B) && nat_eq z 0x38) (nat_eq b 0x3B) (no_semicolon b n.no_number)) ∙ h
]
breaks_by x (y ∷ z ∷ v ∷ vs) b n h = elim (cases_Bool (opens_report (x ∷ y ∷ z ∷ v ∷ (vs ++ b ∷ [])))) [
  | inl opens ↦ by_report (x ∷ y ∷ z ∷ v ∷ (vs ++ b ∷ [])) opens ∙ breaks_other (v ∷ vs) b n.no_number n.no_final
  | inr other ↦ elim (cases_Bool (opens_size (x ∷ y ∷ z ∷ v ∷ (vs ++ b ∷ [])))) [
    | inl opens ↦ by_size (x ∷ y ∷ z ∷ v ∷ (vs ++ b ∷ [])) opens ∙ size_breaks_other vs b n.no_number n.no_size
    | inr table ↦ by_table (x ∷ y ∷ z ∷ v ∷ (vs ++ b ∷ [])) other table ∙ h
  ]
]

pub known_breaks_at : (x : ℕ) (xs : List ℕ) (b : ℕ) → list_all (lacks_after_first b) sequences ≡ true → is_report_byte b ≡ false
    → fate (x ∷ (xs ++ b ∷ [])) ≡ Breaks
known_breaks_at x xs b h n = breaks_by x xs b (none_of b n) (breaks_at sequences x xs b h)

pub known_breaks_behind : (a x : ℕ) (xs : List ℕ) (b : ℕ) → list_all (lacks_behind a b) sequences ≡ true → is_report_byte b ≡ false
    → bytes_eq (x ∷ xs) (a ∷ []) ≡ false → fate (x ∷ (xs ++ b ∷ [])) ≡ Breaks
known_breaks_behind a x xs b h n other = breaks_by x xs b (none_of b n) (breaks_behind sequences a x xs b h other)
