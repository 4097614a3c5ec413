-- What is told of the unit at the place.
use Rattle.std.proofs.Common.{◌≡◌, ℕ, ◌+◌, ◌-◌, ◌<◌, ◌≤◌, true, false, List, [], ◌∷◌, ◌++◌, length, take, drop, refl, sym, ap, ap₂, subst, ◌∙◌, arith, if◌then◌else◌}
use Rattle.std.specs.Prelude.{◌==◌, chars, codes, slice_range, IfSome, All, Option, Some, None}
use Rattle.std.specs.List.{concat}
use Rattle.std.proofs.lemmas.Bool.Decides.{nat_tests}
use Rattle.std.proofs.lemmas.List.Elements.{All-drop, All-head, All-tail, All-take}
use Rattle.std.proofs.lemmas.Str.{chars-nil}
use Rattle.unicode_segmentation.specs.Grapheme.{graphemes}
use Rattle.bx_common.specs.Characters.{are_ascii_printable}
use Rattle.bx_common.specs.declared.base.Base.{Base}
use Rattle.bx_editor.specs.questions.Told.{told_text}
use Rattle.bx_editor.proofs.questions_lemmas.Printable as text_proofs
use Rattle.bx_keys.specs.declared.key.Key.TheVariants.{Tell}
use Rattle.bx_ucd.specs.Data.{Data}
use Rattle.bx_levels.specs.resolve.Levels.{levels_under}
use Rattle.bx_levels.specs.resolve.Kept.{max_level}
use Rattle.bx_levels.proofs.resolve_lemmas.KeptLevels.{levels_stay_low}
use Rattle.bx_rows.specs.RowLevels.{first_level}
use Rattle.bx_paragraph.proofs.Starts.{side-some}
use Rattle.bx_text.specs.index.Paragraphs.{lengths, paragraph_of}
use Rattle.bx_view.specs.Moves.{step_logical}
use Rattle.bx_view.specs.Numbers.{body_at, start_at}
use Rattle.bx_view.specs.declared.moves.Logical.TheVariants.{Forward}
use Rattle.bx_document.specs.PlaceLevel.{level_from, place_level}
use Rattle.bx_document.proofs.PlaceLevels.{units_have}
use Rattle.bx_editor_laws.specs.AskingLaws.{IsUntouched, TellShows, TellsWhatStands}
use Rattle.bx_editor.specs.Editor.{Editor, rows}
use Rattle.bx_editor.specs.Status.{paragraph_number, status_line, status_text, unit_number, told_at_place}
use Rattle.bx_editor_laws.proofs.KeyEnds.{ended-key}
use Rattle.bx_editor_laws.proofs.UnitBytes.{is-inside, unit-bytes, unit-step}

-- ---- a unit

-- the same of any place
abbrev told_of : Data → Editor → ℕ → List ℕ
told_of d e place =
    if place == length e.content.text
    then codes "end of text"
    else told_text d (chars (slice_range e.content.text place (step_logical (rows d e) Forward place))) (place_level d e.base e.content.text place)

some-bytes : (unit : List ℕ) (c : ℕ) (cs : List ℕ) → chars unit ≡ c ∷ cs → 0 < length unit
some-bytes [] c cs h = let none : [] ≡ c ∷ cs = sym chars-nil ∙ h in absurd (cc none)
some-bytes (b ∷ bs) c cs h = omega arith

apart : (a b : ℕ) → a < b → (a == b) ≡ false
apart a b less = grind (arith, nat_tests, less)

same : (a b : ℕ) → a ≡ b → (a == b) ≡ true
same a b is = grind (arith, nat_tests, is)

unit-told : (d : Data) (e : Editor) (text : List ℕ) (place : ℕ) (unit : List ℕ) (level : Option ℕ) → text ≡ e.content.text → place < length text
    → step_logical (rows d e) Forward place ≡ place + length unit → slice_range text place (place + length unit) ≡ unit
    → place_level d e.base text place ≡ level → told_of d e place ≡ told_text d (chars unit) level
unit-told d e text place unit level is inside step bytes at =
    let size : place < length e.content.text = subst (λ t. place < length t) is inside in
    let found : place_level d e.base e.content.text place ≡ level = ap (λ t. place_level d e.base t place) (sym is) ∙ at in
    ap (λ b. if b
    then codes "end of text"
    else told_text d (chars (slice_range e.content.text place (step_logical (rows d e) Forward place))) (place_level d e.base e.content.text place))
    (apart place (length e.content.text) size)
    ∙ ap₂ (λ stop l. told_text d (chars (slice_range e.content.text place stop)) l) step found
    ∙ ap (λ u. told_text d (chars u) level) (ap (λ t. slice_range t place (place + length unit)) (sym is) ∙ bytes)

-- ---- the level is low

abbrev IsLow : Option ℕ → Type 0
IsLow level = IfSome level (λ n. n ≤ max_level)

first-low : (ls : List (Option ℕ)) → All IsLow ls → IsLow (first_level ls)
first-low [] all = tt
first-low (None ∷ ls) all = first-low ls (All-tail IsLow None ls all)
first-low (Some l ∷ ls) all = All-head IsLow (Some l) ls all

from-low : (start : ℕ) (us : List (List ℕ)) (each : List (Option ℕ)) (at : ℕ) → All IsLow each → IsLow (level_from start us each at)
from-low start [] each at all = tt
from-low start (u ∷ us) each at all =
    let n = length (chars u) in
    let later = from-low (start + length u) us (drop n each) at (All-drop IsLow n each all) in
    elim (start == at) as (λ b. IsLow (elim b as (λ x. Option ℕ) [ true ↦ first_level (take n each) | false ↦ level_from (start + length u) us (drop n each) at ])) [
      | true ↦ first-low (take n each) (All-take IsLow n each all)
      | false ↦ later
    ]

wider : (level : Option ℕ) → IsLow level → IfSome level (λ n. n < 256)
wider None low = tt
wider (Some l) low = omega (arith, low)

place-low : (d : Data) (base : Base) (text : List ℕ) (place : ℕ) → IfSome (place_level d base text place) (λ n. n < 256)
place-low d base text place =
    let number = paragraph_of (lengths d text) place in
    let body = body_at d text number in
    let each = levels_under d base (chars body) in
    wider (place_level d base text place)
    (from-low 0 (graphemes true body) each (place - start_at d text number) (levels_stay_low d base (chars body) each refl))

told-printable : (d : Data) (e : Editor) → are_ascii_printable (told_at_place d e) ≡ true
told-printable d e =
    let unit = chars (slice_range e.content.text e.place (step_logical (rows d e) Forward e.place)) in
    let level = place_level d e.base e.content.text e.place in
    elim (e.place == length e.content.text) as (λ b. are_ascii_printable (if b then codes "end of text" else told_text d unit level) ≡ true) [
      | true ↦ refl
      | false ↦ text_proofs.told-printable d unit level (place-low d e.base e.content.text e.place)
    ]

-- ---- the laws

pub tells-what-stands : TellsWhatStands
tells-what-stands d e has = record {
  unit = λ number front unit rest at c cs first i level inside levels.
      let text = e.content.text in
      let some = some-bytes unit c cs first in
      let place = start_at d text number + length (concat front) in
      ap (told_of d e) at.place_is
      ∙ unit-told d e text place unit (Some level) refl (is-inside d text has.text number at.there front rest unit at.units some)
      (unit-step d text has.text number at.there front rest unit at.units some e.base e.width (side-some e.width has.columns))
      (unit-bytes d text has.text number at.there front rest unit at.units some)
      (units_have d e.base text has.text number at.there front rest unit at.units i level inside levels)
      ∙ ap (λ us. told_text d us (Some level)) first;
  end = λ is.
      ap (λ b. if b
      then codes "end of text"
      else told_text d (chars (slice_range e.content.text e.place (step_logical (rows d e) Forward e.place))) (place_level d e.base e.content.text e.place))
      (same e.place (length e.content.text) is);
  printable = told-printable d e;
}

pub tell-shows : TellShows
tell-shows d e settled other =
    subst (λ (new : Editor). (status_text d new ≡ status_line e.changed (paragraph_number d e.content.text e.place + 1) (unit_number d e.content.text e.place)
    ++ (codes " " ++ told_at_place d e)) × IsUntouched e new)
    (sym (ended-key d None e Tell settled refl refl refl other))
    (refl, record { content_is = refl; place_is = refl; held_is = refl; mark_is = λ h. refl })
