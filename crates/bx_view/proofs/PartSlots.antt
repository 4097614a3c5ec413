-- The slots of a row in a part of a text, by offsets of its body.
use Rattle.std.proofs.Common.{◌≡◌, ◌⊎◌, ⊎_elim, ℕ, ◌+◌, ◌-◌, ◌<◌, ◌≤◌, Bool, true, false, nat_le, nat_lt, ◌&&◌, List, [], ◌∷◌, length, map, cond, refl, sym, ap}
use Rattle.std.proofs.Common.{ap₂, ◌∙◌, arith}
use Rattle.std.specs.Prelude.{filter}
use Rattle.std.proofs.lemmas.Bool.Decides.{nat_tests}
use Rattle.std.proofs.lemmas.List.Elements.{filter_agree}
use Rattle.bx_ucd.specs.declared.data.BidiData.{Ghosts}
use Rattle.bx_paragraph.specs.declared.slots.Slot.{Slot}
use Rattle.bx_paragraph.specs.LayoutRowRef.{row}
use Rattle.bx_paragraph.specs.Slots.{row_slots}
use Rattle.bx_paragraph.specs.declared.layout_row_ref.LayoutRowRef.{LayoutRowRef}
use Rattle.bx_view.specs.Placed.{columns, placed}
use Rattle.bx_view.specs.TextParts.{slots_in}
use Rattle.bx_view.specs.Top.{is_in}
use Rattle.bx_view.proofs.PlacedRows.{Low, lies}
use Rattle.bx_view.proofs.Within.{Within}

-- ---- tests of offsets of a body

same-low : (a k o : ℕ) → nat_le (a - k) o ≡ nat_le a (k + o)
same-low a k o = grind (arith, nat_tests)

same-high : (a k o : ℕ) → nat_lt o (a - k) ≡ nat_lt (k + o) a
same-high a k o = grind (arith, nat_tests)

-- of a part of the text, in a body that begins at an offset
same-in : (part : ℕ × ℕ) (start o : ℕ) → is_in (part.0 - start, part.1 - start) o ≡ is_in part (start + o)
same-in part start o = ap₂ (λ b d. b && d) (same-low part.0 start o) (same-high part.1 start o)

abbrev is-unit-in : ℕ × ℕ → ℕ → Slot → Bool
is-unit-in part start s = nat_lt 0 s.columns && is_in part (start + s.offset)

and-none : (b : Bool) → (b && false) ≡ false
and-none true = refl
and-none false = refl

out-by : (n a b x : ℕ) (t : Bool) → nat_le a x ≡ t → (a ≤ x → b ≤ x) → (nat_lt 0 n && (nat_le a x && nat_lt x b)) ≡ false
out-by n a b x true e h =
    let low : a ≤ x = grind (arith, nat_tests) in
    let high : b ≤ x = h low in
    let past : nat_lt x b ≡ false = grind (arith, nat_tests) in
    ap₂ (λ c d. nat_lt 0 n && (c && d)) e past ∙ and-none (nat_lt 0 n)
out-by n a b x false e h = ap (λ c. nat_lt 0 n && (c && nat_lt x b)) e ∙ and-none (nat_lt 0 n)

-- a slot outside the part
out : (part : ℕ × ℕ) (start : ℕ) (s : Slot) → (part.0 ≤ start + s.offset → part.1 ≤ start + s.offset) → is-unit-in part start s ≡ false
out part start s h = out-by s.columns part.0 part.1 (start + s.offset) (nat_le part.0 (start + s.offset)) refl h

-- no slot passes
none-passes : (P : ℕ → Type 0) (p : Slot → Bool) (ss : List Slot) → ((s : Slot) → P s.offset → p s ≡ false) → Within P (map (λ s. s.offset) ss)
    → [] ≡ filter p ss
none-passes P p [] h a = refl
none-passes P p (s ∷ ss) h a = none-passes P p ss h a.1 ∙ sym (ap (λ b. cond b (s ∷ filter p ss) (filter p ss)) (h s a.0))

-- ---- of a row by reference

module _ {D : Type 0} {g : Ghosts D} (s : LayoutRowRef D g) (part : ℕ × ℕ) where
  -- the body lies outside the part
  pub none-told : (part.1 - s.start ≤ part.0 - s.start) ⊎ (length s.paragraph.now.body < part.0 - s.start)
      → [] ≡ slots_in (columns s) part (placed s)
  none-told outside =
      none-passes (Low s) (is-unit-in part s.start) (row_slots (columns s) (row s))
      (λ t low. out part s.start t (λ below. ⊎_elim (λ few. omega (arith, few, below)) (λ before. absurd (omega (arith, before, low, below))) outside))
      (lies s).slots

  -- the slots that are kept
  pub some-told : (ss new : List Slot) (start stop : ℕ) → start ≡ part.0 - s.start → stop ≡ part.1 - s.start
      → ss ≡ row_slots (columns s) (row s) → new ≡ filter (λ t. nat_lt 0 t.columns && is_in (start, stop) t.offset) ss
      → new ≡ slots_in (columns s) part (placed s)
  some-told ss new start stop low high own kept =
      kept ∙ ap (filter (λ t. nat_lt 0 t.columns && is_in (start, stop) t.offset)) own
      ∙ filter_agree (λ t. nat_lt 0 t.columns && is_in (start, stop) t.offset) (is-unit-in part s.start)
      (λ t. ap₂ (λ a b. nat_lt 0 t.columns && is_in (a, b) t.offset) low high
      ∙ ap (λ b. nat_lt 0 t.columns && b) (same-in part s.start t.offset)) (row_slots (columns s) (row s))
