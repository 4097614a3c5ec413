-- What Copy leaves, by the part of the text that it takes.
use Rattle.std.proofs.Common.{◌≡◌, ℕ, Bool, true, false, ap, sym, ◌∙◌, ne_eqb, if◌then◌else◌}
use Rattle.std.specs.Prelude.{Some, slice_range}
use Rattle.std.proofs.lemmas.Bool.{eq-eqb}
use Rattle.bx_ucd.specs.Data.{Data}
use Rattle.bx_editor.specs.declared.message.Message.TheVariants.{Copied, LineCopied, NothingToCopy}
use Rattle.bx_editor.specs.Editor.{Editor}
use Rattle.bx_editor.specs.Region.{after_copy, bytes_in, is_empty, line, region, with_held, without_hard_mark}

module _ (d : Data) (e : Editor) (start stop : ℕ) where
  -- by whether the region is empty, and the line
  abbrev copied : Bool → Bool → Editor
  copied region_empty line_empty =
      if region_empty
      then (if line_empty then record (without_hard_mark e) { message = Some NothingToCopy } else with_held e (bytes_in e (line d e)) true LineCopied)
      else with_held e (bytes_in e (region e)) false Copied

  pub region-copied : (start, stop) ≡ region e → (start ≡ stop → ⊥) → with_held e (slice_range e.content.text start stop) false Copied ≡ after_copy d e
  region-copied is some =
      ap (λ (part : ℕ × ℕ). with_held e (bytes_in e part) false Copied) is
      ∙ ap (λ b. copied b (is_empty (line d e))) (sym (ap is_empty (sym is) ∙ ne_eqb start stop some))

  -- the region is empty, from `from` to `to`
  module _ (from to : ℕ) (at : (from, to) ≡ region e) (none : from ≡ to) where
    region-none : is_empty (region e) ≡ true
    region-none = ap is_empty (sym at) ∙ eq-eqb from to none

    pub line-copied : (start, stop) ≡ line d e → (start ≡ stop → ⊥) → with_held e (slice_range e.content.text start stop) true LineCopied ≡ after_copy d e
    line-copied is some =
        ap (λ (part : ℕ × ℕ). with_held e (bytes_in e part) true LineCopied) is
        ∙ ap (copied true) (sym (ap is_empty (sym is) ∙ ne_eqb start stop some))
        ∙ ap (λ b. copied b (is_empty (line d e))) (sym region-none)

    pub nothing-copied : (start, stop) ≡ line d e → start ≡ stop
        → record (without_hard_mark e) { message = Some NothingToCopy } ≡ after_copy d e
    nothing-copied is empty =
        ap (copied true) (sym (ap is_empty (sym is) ∙ eq-eqb start stop empty)) ∙ ap (λ b. copied b (is_empty (line d e))) (sym region-none)
