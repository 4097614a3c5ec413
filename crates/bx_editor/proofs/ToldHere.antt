-- What is told of the unit at the place is printable.
use Rattle.std.proofs.Common.{◌≡◌, ◌∙◌, ℕ, true, List, length, chars, Option, ap, ap₂, sym}
use Rattle.std.specs.Prelude.{codes, if◌then◌else◌, slice_range}
use Rattle.std.proofs.lemmas.Bool.{ne_eqb}
use Rattle.bx_common.specs.Characters.{are_ascii_printable}
use Rattle.bx_ucd.specs.Data.{Data}
use Rattle.bx_editor.specs.questions.Told.{told_text}
use Rattle.bx_document.specs.PlaceLevel.{place_level}
use Rattle.bx_view.specs.Moves.{step_logical}
use Rattle.bx_view.specs.declared.moves.Logical.TheVariants.{Forward}
use Rattle.bx_editor.specs.Editor.{Editor, rows}
use Rattle.bx_editor.specs.Status.{told_at_place}

pub told-is : (d : Data) (e : Editor) (unit : List ℕ) (level : Option ℕ) → (e.place ≡ length e.content.text → ⊥)
    → unit ≡ slice_range e.content.text e.place (step_logical (rows d e) Forward e.place)
    → level ≡ place_level d e.base e.content.text e.place
    → told_at_place d e ≡ told_text d (chars unit) level
told-is d e unit level inside is-unit is-level =
    let here = slice_range e.content.text e.place (step_logical (rows d e) Forward e.place) in
    let not-end = ne_eqb e.place (length e.content.text) inside in
    ap (λ b. if b then codes "end of text" else told_text d (chars here) (place_level d e.base e.content.text e.place)) not-end
    ∙ ap₂ (λ u l. told_text d (chars u) l) (sym is-unit) (sym is-level)

pub told-here : (d : Data) (e : Editor) (unit : List ℕ) (level : Option ℕ) → (e.place ≡ length e.content.text → ⊥)
    → unit ≡ slice_range e.content.text e.place (step_logical (rows d e) Forward e.place)
    → level ≡ place_level d e.base e.content.text e.place
    → are_ascii_printable (told_text d (chars unit) level) ≡ true → are_ascii_printable (told_at_place d e) ≡ true
told-here d e unit level inside is-unit is-level h = ap are_ascii_printable (told-is d e unit level inside is-unit is-level) ∙ h
