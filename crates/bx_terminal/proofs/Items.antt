-- The items that a terminal reads are those whose bytes it waits for, and the longest beginning of one.
use Rattle.std.proofs.Common.{◌≡◌, ℕ, zero, suc, ◌+◌, ◌<◌, ◌≤◌, Bool, true, false, cond, List, [], ◌∷◌, ◌++◌, length, take, inl, inr, refl, ap, sym}
use Rattle.std.proofs.Common.{subst, ◌∙◌, arith}
use Rattle.std.proofs.lemmas.Bool.{cases_eq, cases_Bool, cond-true, cond-false, both_ways}
use Rattle.std.proofs.lemmas.Bool.Decides.{nat_tests}
use Rattle.std.proofs.lemmas.List.{append-nil}
use Rattle.bx_bytes.specs.Pattern.{fate_in, past, One}
use Rattle.bx_bytes.specs.Grammar.{is_grammar}
use Rattle.bx_bytes.specs.declared.fate.Fate.{Fate}
use Rattle.bx_bytes.specs.declared.fate.Fate.TheVariants.{Waits, Ends, Breaks}
use Rattle.bx_common.specs.Characters.{is_ascii_printable}
use Rattle.bx_bytes.proofs.Patterns.{begins_any_front, matches_any_begins, none_begins_longer}
use Rattle.bx_bytes.proofs.Encoded.{ends_by}
use Rattle.bx_terminal.specs.Cutting.{items, is_item, begins_item, beginning_up_to, beginning}
use Rattle.bx_grid.specs.Tokens.{fate, final_fate, after_params, after_intermediates, is_param, is_intermediate, bell_fate, after_text}

items_are_grammar : is_grammar items ≡ true
items_are_grammar = refl

-- ---- the terminal's answers are the grammar's

params_past : (bs : List ℕ) → after_params bs ≡ past 0x30 0x3F bs
params_past [] = refl
params_past (b ∷ bs) = ap (λ r. cond (is_param b) r (b ∷ bs)) (params_past bs)

intermediates_past : (bs : List ℕ) → after_intermediates bs ≡ past 0x20 0x2F bs
intermediates_past [] = refl
intermediates_past (b ∷ bs) = ap (λ r. cond (is_intermediate b) r (b ∷ bs)) (intermediates_past bs)

abbrev final : List ℕ → Fate
final bs = fate_in ((One 0x40 0x7E ∷ []) ∷ []) bs

final_is : (bs : List ℕ) → final_fate bs ≡ final bs
final_is [] = refl
final_is (b ∷ []) = grind (arith, nat_tests)
final_is (b ∷ c ∷ bs) = grind (arith, nat_tests)

sequence_is : (bs : List ℕ) → fate (0x1B ∷ 0x5B ∷ bs) ≡ fate_in items (0x1B ∷ 0x5B ∷ bs)
sequence_is bs =
    final_is (after_intermediates (after_params bs))
    ∙ ap final (intermediates_past (after_params bs) ∙ ap (past 0x20 0x2F) (params_past bs))

text_past : (bs : List ℕ) → after_text bs ≡ past 0x20 0x7E bs
text_past [] = refl
text_past (b ∷ bs) = ap (λ r. cond (is_ascii_printable b) r (b ∷ bs)) (text_past bs)

abbrev bell : List ℕ → Fate
bell bs = fate_in ((One 0x07 0x07 ∷ []) ∷ []) bs

bell_is : (bs : List ℕ) → bell_fate bs ≡ bell bs
bell_is [] = refl
bell_is (b ∷ []) = grind (arith, nat_tests)
bell_is (b ∷ c ∷ bs) = grind (arith, nat_tests)

string_is : (bs : List ℕ) → fate (0x1B ∷ 0x5D ∷ bs) ≡ fate_in items (0x1B ∷ 0x5D ∷ bs)
string_is bs = bell_is (after_text bs) ∙ ap bell (text_past bs)

escape_is : (x : ℕ) (bs : List ℕ) → fate (0x1B ∷ x ∷ bs) ≡ fate_in items (0x1B ∷ x ∷ bs)
escape_is x bs = elim (cases_eq x 0x5B) [
  | inl csi ↦ subst (λ y. fate (0x1B ∷ y ∷ bs) ≡ fate_in items (0x1B ∷ y ∷ bs)) (sym csi) (sequence_is bs)
  | inr no_csi ↦ elim (cases_eq x 0x5D) [
    | inl osc ↦ subst (λ y. fate (0x1B ∷ y ∷ bs) ≡ fate_in items (0x1B ∷ y ∷ bs)) (sym osc) (string_is bs)
    | inr other ↦ grind (arith, nat_tests)
  ]
]

character_is : (b : ℕ) (bs : List ℕ) → (b ≡ 0x1B → ⊥) → fate (b ∷ bs) ≡ fate_in items (b ∷ bs)
character_is b bs n = grind (arith, nat_tests)

at_escape : (bs : List ℕ) → fate (0x1B ∷ bs) ≡ fate_in items (0x1B ∷ bs)
at_escape [] = refl
at_escape (x ∷ bs) = escape_is x bs

pub fate_is : (bs : List ℕ) → fate bs ≡ fate_in items bs
fate_is [] = refl
fate_is (b ∷ bs) = elim (cases_eq b 0x1B) [
  | inl escape ↦ subst (λ y. fate (y ∷ bs) ≡ fate_in items (y ∷ bs)) (sym escape) (at_escape bs)
  | inr other ↦ character_is b bs other
]

-- ---- what they say

pub waits_if : (bs : List ℕ) → is_item bs ≡ false → begins_item bs ≡ true → fate bs ≡ Waits
waits_if bs h g = fate_is bs ∙ cond-false (is_item bs) Ends _ h ∙ cond-true (begins_item bs) Waits Breaks g

pub ends_if : (bs : List ℕ) → is_item bs ≡ true → fate bs ≡ Ends
ends_if bs h = fate_is bs ∙ cond-true (is_item bs) Ends _ h

no_item : (bs : List ℕ) → begins_item bs ≡ false → is_item bs ≡ false
no_item bs h = elim (cases_Bool (is_item bs)) [
  | inl item ↦ absurd (both_ways (begins_item bs) h (matches_any_begins items bs item))
  | inr none ↦ none
]

pub breaks_if : (bs : List ℕ) → begins_item bs ≡ false → fate bs ≡ Breaks
breaks_if bs h = fate_is bs ∙ cond-false (is_item bs) Ends _ (no_item bs h) ∙ cond-false (begins_item bs) Waits Breaks h

-- the bytes before another byte of a beginning wait
front_waits : (bs : List ℕ) (b : ℕ) (more : List ℕ) → begins_item (bs ++ b ∷ more) ≡ true → fate bs ≡ Waits
front_waits bs b more h = elim (cases_Bool (is_item bs)) [
  | inl item ↦ absurd (both_ways (begins_item (bs ++ b ∷ more)) (none_begins_longer items items_are_grammar bs b more item) h)
  | inr none ↦ waits_if bs none (begins_any_front items bs (b ∷ more) h)
]

begins_by : (m b : Bool) → cond m Ends (cond b Waits Breaks) ≡ Waits → b ≡ true
begins_by true b h = absurd (cc h)
begins_by false true h = refl
begins_by false false h = absurd (cc h)

pub begins_if_waits : (bs : List ℕ) → fate bs ≡ Waits → begins_item bs ≡ true
begins_if_waits bs h = begins_by (is_item bs) (begins_item bs) (sym (fate_is bs) ∙ h)

pub begins_if_ends : (bs : List ℕ) → fate bs ≡ Ends → begins_item bs ≡ true
begins_if_ends bs h = matches_any_begins items bs (ends_by (is_item bs) (begins_item bs) (sym (fate_is bs) ∙ h))

pub waits_before : (bs more : List ℕ) → fate (bs ++ more) ≡ Waits → fate bs ≡ Waits
waits_before bs [] h = ap fate (sym (append-nil bs)) ∙ h
waits_before bs (b ∷ more) h = front_waits bs b more (begins_if_waits (bs ++ b ∷ more) h)

pub waits_before_end : (bs : List ℕ) (b : ℕ) (more : List ℕ) → fate (bs ++ b ∷ more) ≡ Ends → fate bs ≡ Waits
waits_before_end bs b more h = front_waits bs b more (begins_if_ends (bs ++ b ∷ more) h)

-- ---- the longest beginning

up_to_begins : (n : ℕ) (bs : List ℕ) → begins_item (take (beginning_up_to n bs) bs) ≡ true
up_to_begins zero bs = refl
up_to_begins (suc n) bs = elim (cases_Bool (begins_item (take (suc n) bs))) [
  | inl begun ↦ ap (λ k. begins_item (take k bs)) (cond-true (begins_item (take (suc n) bs)) (suc n) (beginning_up_to n bs) begun) ∙ begun
  | inr stops ↦ ap (λ k. begins_item (take k bs)) (cond-false (begins_item (take (suc n) bs)) (suc n) (beginning_up_to n bs) stops) ∙ up_to_begins n bs
]

up_to_le : (n : ℕ) (bs : List ℕ) → beginning_up_to n bs ≤ n
up_to_le zero bs = omega arith
up_to_le (suc n) bs = elim (cases_Bool (begins_item (take (suc n) bs))) [
  | inl begun ↦ omega (arith, cond-true (begins_item (take (suc n) bs)) (suc n) (beginning_up_to n bs) begun)
  | inr stops ↦ omega (arith, cond-false (begins_item (take (suc n) bs)) (suc n) (beginning_up_to n bs) stops, up_to_le n bs)
]

up_to_next : (n : ℕ) (bs : List ℕ) → beginning_up_to n bs < n → begins_item (take (beginning_up_to n bs + 1) bs) ≡ false
up_to_next zero bs h = absurd (omega arith)
up_to_next (suc n) bs h = elim (cases_Bool (begins_item (take (suc n) bs))) [
  | inl begun ↦ absurd (omega (arith, cond-true (begins_item (take (suc n) bs)) (suc n) (beginning_up_to n bs) begun))
  | inr stops ↦ (
      let same : beginning_up_to (suc n) bs ≡ beginning_up_to n bs = cond-false (begins_item (take (suc n) bs)) (suc n) (beginning_up_to n bs) stops in
      ap (λ k. begins_item (take (k + 1) bs)) same
      ∙ elim (cases_eq (beginning_up_to n bs) n) [
        | inl all ↦ ap (λ k. begins_item (take k bs)) (let e : beginning_up_to n bs + 1 ≡ suc n = omega arith in e) ∙ stops
        | inr less ↦ up_to_next n bs (omega (arith, up_to_le n bs))
      ])
]

pub long_begins : (bs : List ℕ) → begins_item (take (beginning bs) bs) ≡ true
long_begins bs = up_to_begins (length bs) bs

pub long_le : (bs : List ℕ) → beginning bs ≤ length bs
long_le bs = up_to_le (length bs) bs

-- one byte more begins nothing
pub next_breaks : (bs : List ℕ) → beginning bs < length bs → fate (take (beginning bs + 1) bs) ≡ Breaks
next_breaks bs h = breaks_if (take (beginning bs + 1) bs) (up_to_next (length bs) bs h)

pub item_some : (k : ℕ) (bs : List ℕ) → is_item (take k bs) ≡ true → 1 ≤ k
item_some zero bs h = absurd (cc h)
item_some (suc k) bs h = omega arith
