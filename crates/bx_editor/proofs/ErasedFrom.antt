-- What ErasePoint removes begins among spaces, or at a point.
use Rattle.std.proofs.Common.{◌≡◌, ◌<◌, ◌≤◌, ℕ, ◌+◌, ◌-◌, Bool, true, false, List, length, refl, ap, ap₂, sym, arith, if◌then◌else◌}
use Rattle.std.specs.Prelude.{◌==◌, ◌%◌, ◌&&◌, not, nat_lt, IsCharBoundary, slice_range}
use Rattle.std.specs.List.{list_all}
use Rattle.std.proofs.Math.Nat.{mod-le}
use Rattle.std.proofs.lemmas.Bool.{ltb-true}
use Rattle.bx_text.specs.Changes.{IsRange}
use Rattle.bx_ucd.specs.Data.{Data}
use Rattle.bx_editor.specs.Editor.{Editor}
use Rattle.bx_editor.specs.Erasing.{erased_from, is_behind_spaces, point_before, stop_before}
use Rattle.bx_editor.specs.Region.{line}
use Rattle.bx_editor.proofs.Spaces.{space-range}

all-three : (a b c : Bool) → (a && b && c) ≡ true → (a ≡ true) × (b ≡ true) × (c ≡ true)
all-three true true true h = (refl, refl, refl)
all-three true true false h = absurd (cc h)
all-three true false c h = absurd (cc h)
all-three false b c h = absurd (cc h)

some-width : (n : ℕ) → not (n == 0) ≡ true → 0 < n
some-width n h = grind (arith, h)

module _ (d : Data) (e : Editor) where
  abbrev from : Bool → ℕ
  from spaces = if spaces then stop_before d e else point_before d e

  pub point-from : is_behind_spaces d e ≡ false → point_before d e ≡ erased_from d e
  point-from is = ap from (sym is)

  pub spaces-from : is_behind_spaces d e ≡ true → stop_before d e ≡ erased_from d e
  spaces-from is = ap from (sym is)

  pub stop-at : (start width : ℕ) → start ≡ (line d e).0 → width ≡ e.tab_width → e.place - ((e.place - start - 1) % width + 1) ≡ stop_before d e
  stop-at start width at same = ap₂ (λ s w. e.place - ((e.place - s - 1) % w + 1)) at same

  module _ (start : ℕ) (at : start ≡ (line d e).0) (is : is_behind_spaces d e ≡ true) where
    parts : (not (e.tab_width == 0) ≡ true) × (nat_lt ((line d e).0) e.place ≡ true)
        × (list_all (λ b. b == 0x20) (slice_range e.content.text ((line d e).0) e.place) ≡ true)
    parts =
        all-three (not (e.tab_width == 0)) (nat_lt ((line d e).0) e.place)
        (list_all (λ b. b == 0x20) (slice_range e.content.text ((line d e).0) e.place)) is

    pub wide : 0 < e.tab_width
    wide = some-width e.tab_width parts.0

    pub line-begins : start < e.place
    line-begins = let before = ltb-true ((line d e).0) e.place parts.1 in omega (arith, before, at)

    -- it is between characters, and before the place
    pub stop-range : e.place ≤ length e.content.text → IsCharBoundary e.content.text e.place → (o : ℕ) → start ≤ o → o < e.place
        → IsRange e.content.text o e.place
    stop-range inside bounds o from before =
        space-range e.content.text ((line d e).0) e.place inside parts.2 bounds o (omega (arith, from, at)) before

-- the multiple before a place is in its line, and before the place
pub stop-low : (place start width : ℕ) → 0 < width → start < place
    → (start ≤ place - ((place - start - 1) % width + 1)) × (place - ((place - start - 1) % width + 1) < place)
stop-low place start width some begins =
    let few : (place - start - 1) % width ≤ place - start - 1 = mod-le (place - start - 1) width in
    (omega (arith, begins, few), omega (arith, begins, few))
