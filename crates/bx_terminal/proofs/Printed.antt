-- Characters that are not controls, and texts of them.
use Rattle.std.proofs.Common.{◌≡◌, ℕ, ◌+◌, ◌-◌, ◌*◌, ◌≤◌, ◌<◌, Bool, true, false, not, ◌⊎◌, inl, inr, nat_eq, List, [], ◌∷◌, ◌++◌, length, take, drop}
use Rattle.std.proofs.Common.{refl, ap, sym, subst, ◌∙◌, arith}
use Rattle.std.specs.List.{list_all}
use Rattle.std.specs.Str.{IsUtf8, chars}
use Rattle.std.proofs.lemmas.Bool.{cases_lt}
use Rattle.std.proofs.lemmas.Bool.Decides.{nat_tests}
use Rattle.std.proofs.Math.Seq.{take-add}
use Rattle.std.proofs.lemmas.List.Folds.{list_all-append}
use Rattle.std.proofs.lemmas.Str.{chars-append, IsUtf8-append, IsUtf8-nil, IsUtf8-encode, chars-nil}
use Rattle.bx_bytes.specs.Pattern.{fate_in}
use Rattle.bx_bytes.specs.Utf8.{characters, is_control}
use Rattle.bx_bytes.specs.declared.fate.Fate.TheVariants.{Ends}
use Rattle.bx_bytes.proofs.Codes.{after_two, after_three, chars_of_one, chars_of_two, chars_of_three, code_of_three, IsOfThree}
use Rattle.bx_bytes.proofs.Encoded.{are_encodings, is_whole}
use Rattle.bx_terminal.specs.Printables.{is_second, IsPrintable, IsBeforeEscape}
use Rattle.bx_grid.specs.Terminal.{Terminal, reads, run_ended}
use Rattle.bx_terminal.proofs.AtOnce.{shown_before}

-- ---- texts

pub nil_printable : IsPrintable []
nil_printable = record { utf8 = IsUtf8-nil; printed = ap (list_all (λ c. not (is_control c))) chars-nil }

pub printable-append : (a b : List ℕ) → IsPrintable a → IsPrintable b → IsPrintable (a ++ b)
printable-append a b p q = record {
  utf8 = IsUtf8-append a b p.utf8 q.utf8;
  printed = ap (list_all (λ c. not (is_control c))) (chars-append a b p.utf8)
      ∙ list_all-append (λ c. not (is_control c)) (chars a) (chars b)
      ∙ rw (p.printed, q.printed) refl;
}

-- ---- a character

character_printable : (bytes : List ℕ) (c : ℕ) → fate_in characters bytes ≡ Ends → chars bytes ≡ c ∷ [] → is_control c ≡ false → IsPrintable bytes
character_printable bytes c ends spells fine =
    let found = (are_encodings bytes).0 (is_whole bytes ends) in record {
      utf8 = subst IsUtf8 found.2 (IsUtf8-encode found.0 found.1);
      printed = rw (spells, fine) refl;
    }

pub one_printable : (a : ℕ) → 0x20 ≤ a → a ≤ 0x7E → IsPrintable (a ∷ [])
one_printable a low high =
    let ends : fate_in characters (a ∷ []) ≡ Ends = grind (arith, nat_tests) in
    let fine : is_control a ≡ false = grind (arith, nat_tests) in
    character_printable (a ∷ []) a ends (chars_of_one a ends) fine

fine_by : (c : ℕ) → 0xA0 ≤ c → c < 0x2028 → is_control c ≡ false
fine_by c low high = grind (arith, nat_tests)

fine_apart : (c : ℕ) → 0xA0 ≤ c → ((c < 0x2028) ⊎ (0x2029 < c)) → is_control c ≡ false
fine_apart c low (inl below) = fine_by c low below
fine_apart c low (inr above) = grind (arith, nat_tests)

two_by : (a b : ℕ) → 0xC2 ≤ a → a ≤ 0xDF → 0x80 ≤ b → b ≤ 0xBF → 0xA0 ≤ (a - 0xC0) * 64 + (b - 0x80) → IsPrintable (a ∷ b ∷ [])
two_by a b l h low high some =
    let ends : fate_in characters (a ∷ b ∷ []) ≡ Ends = after_two a (b ∷ []) l h ∙ grind (arith, nat_tests) in
    character_printable (a ∷ b ∷ []) ((a - 0xC0) * 64 + (b - 0x80)) ends (chars_of_two a b ends)
    (fine_by ((a - 0xC0) * 64 + (b - 0x80)) some (omega arith))

-- from U+00A0 on
pub latin_printable : (a b : ℕ) → a ≡ 0xC2 → 0xA0 ≤ b → b ≤ 0xBF → IsPrintable (a ∷ b ∷ [])
latin_printable a b is low high = two_by a b (omega arith) (omega arith) (omega arith) high (omega arith)

pub two_printable : (a b : ℕ) → 0xC3 ≤ a → a ≤ 0xDF → 0x80 ≤ b → b ≤ 0xBF → IsPrintable (a ∷ b ∷ [])
two_printable a b l h low high = two_by a b (omega arith) h low high (omega arith)

three_tests : (t u : Bool) (a b c : ℕ) → nat_eq a 0xE0 ≡ t → nat_eq a 0xED ≡ u → 0xE0 ≤ a → a ≤ 0xEF → is_second a b ≡ true → 0x80 ≤ c → c ≤ 0xBF
    → IsOfThree a b c
three_tests t u a b c et eu l h second low high = record {
  lead_low = l;
  lead_high = h;
  second_low = grind (arith, nat_tests);
  second_high = grind (arith, nat_tests);
  third_low = low;
  third_high = high;
}

three_ends : (a b c : ℕ) → IsOfThree a b c → fate_in characters (a ∷ b ∷ c ∷ []) ≡ Ends
three_ends a b c p = after_three a (b ∷ c ∷ []) p.lead_low p.lead_high
    ∙ grind (arith, nat_tests, p.second_low, p.second_high, p.third_low, p.third_high)

first_low : (a b : ℕ) → a ≡ 0xE0 → is_second a b ≡ true → 0xA0 ≤ b
first_low a b is second = grind (arith, nat_tests)

three_high : (a b c : ℕ) → 0xE0 ≤ a → is_second a b ≡ true → 0xA0 ≤ code_of_three a b c
three_high a b c l second = elim (cases_lt 0xE0 a) [
  | inl above ↦ omega arith
  | inr least ↦ let low = first_low a b (omega arith) second in omega arith
]

-- a character of three bytes that is none from U+2028 to U+203F
pub three_printable : (a b c : ℕ) → 0xE0 ≤ a → a ≤ 0xEF → is_second a b ≡ true → 0x80 ≤ c → c ≤ 0xBF
    → ((code_of_three a b c < 0x2028) ⊎ (0x2029 < code_of_three a b c)) → IsPrintable (a ∷ b ∷ c ∷ [])
three_printable a b c l h second low high side =
    let p = three_tests (nat_eq a 0xE0) (nat_eq a 0xED) a b c refl refl l h second low high in
    let ends = three_ends a b c p in
    character_printable (a ∷ b ∷ c ∷ []) (code_of_three a b c) ends (chars_of_three a b c ends)
    (fine_apart (code_of_three a b c) (three_high a b c l second) side)

-- ---- none of both controls

second_bounds : (t u : Bool) (a b : ℕ) → nat_eq a 0xE0 ≡ t → nat_eq a 0xED ≡ u → is_second a b ≡ true → (0x80 ≤ b) × (b ≤ 0xBF)
second_bounds t u a b et eu second = (grind (arith, nat_tests), grind (arith, nat_tests))

pub away_by_lead : (a b c : ℕ) → 0xE0 ≤ a → a ≤ 0xEF → is_second a b ≡ true → 0x80 ≤ c → c ≤ 0xBF → (a ≡ 0xE2 → ⊥)
    → (code_of_three a b c < 0x2028) ⊎ (0x2029 < code_of_three a b c)
away_by_lead a b c l h second low high other =
    let bounds = second_bounds (nat_eq a 0xE0) (nat_eq a 0xED) a b refl refl second in
    elim (cases_lt a 0xE2) [
      | inl below ↦ inl (omega (arith, bounds.0, bounds.1))
      | inr above ↦ inr (omega (arith, bounds.0, bounds.1))
    ]

pub away_by_second : (a b c : ℕ) → a ≡ 0xE2 → is_second a b ≡ true → 0x80 ≤ c → c ≤ 0xBF → (b ≡ 0x80 → ⊥)
    → (code_of_three a b c < 0x2028) ⊎ (0x2029 < code_of_three a b c)
away_by_second a b c is second low high other =
    let bounds = second_bounds (nat_eq a 0xE0) (nat_eq a 0xED) a b refl refl second in
    inr (omega (arith, bounds.0, bounds.1))

pub before_controls : (a b c : ℕ) → a ≡ 0xE2 → b ≡ 0x80 → c < 0xA8 → code_of_three a b c < 0x2028
before_controls a b c is there low = omega arith

-- ---- at the front

pub printable_more : (bytes : List ℕ) (n m : ℕ) → IsPrintable (take n bytes) → IsPrintable (take m (drop n bytes)) → IsPrintable (take (n + m) bytes)
printable_more bytes n m p q = subst IsPrintable (sym (take-add n m bytes)) (printable-append (take n bytes) (take m (drop n bytes)) p q)

pub shown_text : (t u : Terminal) (bytes text : List ℕ) → t.half_read ≡ [] → IsBeforeEscape text bytes → u ≡ run_ended (record t { run = t.run ++ text })
    → reads u (drop (length text) bytes) ≡ reads t bytes
shown_text t u bytes text idle at e =
    shown_before t u bytes text (length text) idle at.within at.escape at.front (subst IsUtf8 at.front at.printable.utf8) at.printable.printed e
