-- Dragging takes both units, whichever way, and dragging back the first alone.
use Rattle.std.proofs.Common.{◌≡◌, ◌∙◌, ℕ, ◌+◌, ◌-◌, ◌≤◌, ◌<◌, nat_le, leb-true, leb-false, ne_eqb, Bool, true, false, List, [], ◌∷◌, Some, None, refl, sym, ap, ap₂, arith, if◌then◌else◌}
use Rattle.std.specs.Prelude.{◌==◌, ◌&&◌, min, max}
use Rattle.std.proofs.lemmas.Bool.{le-leb}
use Rattle.bx_keys.specs.declared.key.Key.TheVariants.{Drag, Point}
use Rattle.bx_ucd.specs.Data.{Data}
use Rattle.bx_view.specs.Numbers.{body_at, paragraph_number, start_at}
use Rattle.bx_view.specs.Words.{unit_at}
use Rattle.bx_view.proofs.WordsAround.{stop-order}
use Rattle.bx_editor.specs.declared.clicks.Extent.TheVariants as extents
use Rattle.bx_editor.specs.declared.clicks.Pressed.{Pressed}
use Rattle.bx_editor.specs.declared.cursor.Soft.{Soft}
use Rattle.bx_editor.specs.declared.cursor.Soft.TheVariants as softness
use Rattle.bx_editor.specs.declared.questions.answers.Prompt.TheVariants as prompts
use Rattle.bx_editor.specs.Asking.{without_prompt}
use Rattle.bx_editor.specs.Editor.{Editor, cleared, text_height}
use Rattle.bx_editor.specs.Functions.{after_keys}
use Rattle.bx_editor.specs.Keys.{after_key, as_left}
use Rattle.bx_editor.specs.Pointing.{clicking, dragged_to, pointed_place, press_extent, pressing, pressing_with, rests_on_unit, selecting_part}
use Rattle.bx_editor.specs.Region.{region, unselected}
use Rattle.bx_editor_laws.specs.PointingLaws.{DragsTakeBoth, both_units, unit_of}
use Rattle.bx_editor_laws.proofs.KeyEnds.{ended-key}
use Rattle.bx_editor_laws.proofs.PointedKeys.{first-is}

-- the editor where nothing is asked or sought any more
abbrev free : Editor → Editor
free e = without_prompt (cleared e)

-- a unit ends at its start or behind it
unit-order : (d : Data) (text : List ℕ) (place : ℕ) → place ≤ (unit_at d text place).1
unit-order d text place =
    let number = paragraph_number d text place in
    let start = start_at d text number in
    let order = stop-order (body_at d text number) (place - start) in
    omega (arith, order)

abbrev pair : ℕ → ℕ → ℕ × ℕ
pair a b = (a, b)

swapped-by : (one other : ℕ × ℕ) → (one.0 ≡ other.0 → ⊥) → (ahead behind : Bool) → nat_le one.0 other.0 ≡ ahead → nat_le other.0 one.0 ≡ behind
    → (if behind then pair other.0 one.1 else pair one.0 other.1) ≡ (if ahead then pair one.0 other.1 else pair other.0 one.1)
swapped-by one other apart true true a b = absurd (apart (omega (arith, leb-true one.0 other.0 a, leb-true other.0 one.0 b)))
swapped-by one other apart true false a b = refl
swapped-by one other apart false true a b = refl
swapped-by one other apart false false a b = absurd (omega (arith, leb-false one.0 other.0 a, leb-false other.0 one.0 b))

swapped : (one other : ℕ × ℕ) → (one.0 ≡ other.0 → ⊥) → both_units other one ≡ both_units one other
swapped one other apart = swapped-by one other apart (nat_le one.0 other.0) (nat_le other.0 one.0) refl refl

and-nothing : (b : Bool) → (true && b && false) ≡ false
and-nothing true = refl
and-nothing false = refl

module _ (d : Data) (e : Editor) (settled : e.pasted ≡ None) (undecided : e.prompt ≡ prompts.Overwrite → ⊥) (clear : e.clicks ≡ None)
    (stale : e.soft ≡ softness.Fresh → ⊥) where
  -- ---- the first press

  plain : (row column place : ℕ) (soft : Soft) → (soft ≡ softness.Fresh → ⊥)
      → pressing_with d (free e) row column place soft
      ≡ record (unselected (free e)) {
        place = place;
        clicks = Some (clicking row column extents.Unit);
        pressed = Some (pressing (unit_at d e.content.text place) extents.Unit);
      }
  plain row column place softness.Fresh old = absurd (old refl)
  plain row column place softness.Off old = refl
  plain row column place softness.Old old = refl

  abbrev pressed_once : ℕ → ℕ → Editor
  pressed_once row column =
      let place = pointed_place d e row column in
      as_left (Point row column) (record (unselected (free e)) {
        place = place;
        clicks = Some (clicking row column extents.Unit);
        pressed = Some (pressing (unit_at d e.content.text place) extents.Unit);
      })

  first-press : (row column : ℕ) → row ≤ text_height e.height → after_key d None e (Point row column) ≡ pressed_once row column
  first-press row column high =
      first-is d e row column settled undecided high (ap (λ c. press_extent c row column) clear)
      ∙ ap (as_left (Point row column)) (plain row column (pointed_place d e row column) e.soft stale)

  -- ---- a drag from there

  row-is : (row : ℕ) → row ≤ text_height e.height → min row (text_height e.height + 1) ≡ row
  row-is row high = omega (arith, high)

  module _ (row column to_row to_column : ℕ) (high : row ≤ text_height e.height) (low : to_row ≤ text_height e.height)
      (apart : pointed_place d e row column ≡ pointed_place d e to_row to_column → ⊥) where
    abbrev one : ℕ × ℕ
    one = unit_of d e row column

    abbrev other : ℕ × ℕ
    other = unit_of d e to_row to_column

    abbrev pressed : Pressed
    pressed = pressing one extents.Unit

    abbrev x : Editor
    x = pressed_once row column

    -- what a drag in this state selects
    abbrev dragged : Editor → ℕ × ℕ → Editor
    dragged y part = record (dragged_to (free y) pressed part) { clicks = None }

    abbrev chosen : Bool → Editor
    chosen on = if on then selecting_part (free x) one.0 other.1 else selecting_part (free x) one.1 other.0

    abbrev second : Bool → Editor
    second on = as_left (Drag to_row to_column) (record (chosen on) { clicks = None })

    not-at-rest : rests_on_unit (free x) pressed other ≡ false
    not-at-rest =
        let same : (other.0 == one.0) ≡ false = ne_eqb other.0 one.0 (λ is. apart (sym is)) in
        ap (λ b. true && b && (one.0 == x.place)) same

    two-keys : after_keys d None e (Point row column ∷ Drag to_row to_column ∷ []) ≡ second (nat_le one.0 other.0)
    two-keys =
        ap (λ y. after_key d None y (Drag to_row to_column)) (first-press row column high)
        ∙ ended-key d None x (Drag to_row to_column) settled refl refl refl (λ over. cc over)
        ∙ ap (λ r. as_left (Drag to_row to_column) (dragged x (unit_at d e.content.text (pointed_place d e r to_column)))) (row-is to_row low)
        ∙ ap (λ b. as_left (Drag to_row to_column) (record (if b then free x else chosen (nat_le one.0 other.0)) { clicks = None })) not-at-rest

    -- what is selected then
    on-by : (on : Bool) → nat_le one.0 other.0 ≡ on → region (second on) ≡ (if on then (one.0, other.1) else (other.0, one.1))
    on-by true is =
        let ahead : one.0 ≤ other.0 = leb-true one.0 other.0 is in
        let ends = unit-order d e.content.text other.0 in
        let least : min one.0 other.1 ≡ one.0 = omega (arith, ahead, ends) in
        let most : max one.0 other.1 ≡ other.1 = omega (arith, ahead, ends) in
        ap₂ (λ (a b : ℕ). (a, b)) least most
    on-by false is =
        let behind : other.0 < one.0 = leb-false one.0 other.0 is in
        let ends = unit-order d e.content.text one.0 in
        let least : min one.1 other.0 ≡ other.0 = omega (arith, behind, ends) in
        let most : max one.1 other.0 ≡ one.1 = omega (arith, behind, ends) in
        ap₂ (λ (a b : ℕ). (a, b)) least most

    pub on : region (after_keys d None e (Point row column ∷ Drag to_row to_column ∷ [])) ≡ both_units one other
    on = ap region two-keys ∙ on-by (nat_le one.0 other.0) refl

    -- ---- and back

    -- a drag back, from a state with the unit pressed
    third-from : (y : Editor) → after_key d None y (Drag row column) ≡ as_left (Drag row column) (dragged y (unit_at d e.content.text (pointed_place d e (min row (text_height e.height + 1)) column)))
        → (one.0 == y.place) ≡ false → region (after_key d None y (Drag row column)) ≡ one
    third-from y is moved =
        let ends = unit-order d e.content.text one.0 in
        let self : nat_le one.0 one.0 ≡ true = le-leb one.0 one.0 (omega arith) in
        let least : min one.0 one.1 ≡ one.0 = omega (arith, ends) in
        let most : max one.0 one.1 ≡ one.1 = omega (arith, ends) in
        let chosen : Bool → Editor = λ b. if b then selecting_part (free y) one.0 one.1 else selecting_part (free y) one.1 one.0 in
        ap region is
        ∙ ap (λ r. region (dragged y (unit_at d e.content.text (pointed_place d e r column)))) (row-is row high)
        ∙ ap (λ b. region (if b then free y else chosen (nat_le one.0 one.0))) (ap (λ b. true && (one.0 == one.0) && b) moved ∙ and-nothing (one.0 == one.0))
        ∙ ap (λ b. region (chosen b)) self
        ∙ ap₂ (λ (a b : ℕ). (a, b)) least most

    third : (on : Bool) → nat_le one.0 other.0 ≡ on → (one.0 == (second on).place) ≡ false
        → region (after_key d None (second on) (Drag row column)) ≡ one
    third true is moved = third-from (second true) (ended-key d None (second true) (Drag row column) settled refl refl refl (λ over. cc over)) moved
    third false is moved = third-from (second false) (ended-key d None (second false) (Drag row column) settled refl refl refl (λ over. cc over)) moved

    -- the place is no unit's start any more
    moved-by : (on : Bool) → nat_le one.0 other.0 ≡ on → (one.0 == (second on).place) ≡ false
    moved-by true is =
        let ahead : one.0 ≤ other.0 = leb-true one.0 other.0 is in
        let ends = unit-order d e.content.text other.0 in
        ne_eqb one.0 other.1 (λ same. apart (omega (arith, ahead, ends, same)))
    moved-by false is = ne_eqb one.0 other.0 apart

    pub alone : region (after_keys d None e (Point row column ∷ Drag to_row to_column ∷ Drag row column ∷ [])) ≡ one
    alone =
        ap (λ y. region (after_key d None y (Drag row column))) two-keys
        ∙ third (nat_le one.0 other.0) refl (moved-by (nat_le one.0 other.0) refl)

pub drags-take-both : DragsTakeBoth
drags-take-both d e row column to_row to_column settled undecided clear stale high low apart = record {
  on = on d e settled undecided clear stale row column to_row to_column high low apart;
  back =
      on d e settled undecided clear stale to_row to_column row column low high (λ same. apart (sym same))
      ∙ swapped (unit_of d e row column) (unit_of d e to_row to_column) apart;
  alone = alone d e settled undecided clear stale row column to_row to_column high low apart;
}
