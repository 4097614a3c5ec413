-- The levels of texts that need few rules: plain ones, and right-to-left ones without L.
use Rattle.std.proofs.Common.{◌≡◌, ◌∙◌, ℕ, List, length, map, replicate, ap, sym, true, Option, Some}
use Rattle.bx_ucd.specs.Data.{Data}
use Rattle.bx_ucd.specs.declared.class.Class.{Class}
use Rattle.bx_ucd.specs.declared.class.Class.TheVariants.{R}
use Rattle.bx_levels.specs.resolve.ClassLevels.{AreLevelsOf}
use Rattle.bx_levels.specs.resolve.Levels.{paragraph_levels}
use Rattle.bx_levels.specs.resolve.Neutral.{implicit_at}
use Rattle.bx_levels.specs.resolve.Uniform.{is_plain, is_plain_right, is_from_right, all_pass}
use Rattle.bx_levels.specs.resolve.Weak.{weak}
use Rattle.bx_levels.proofs.resolve_lemmas.PlainLevels.{plain_levels, plain_right_levels, from_right_levels}

pub plain_short : (paragraph : ℕ) (cs : List Class) → paragraph ≡ 0 → all_pass is_plain cs ≡ true → AreLevelsOf paragraph cs (replicate (length cs) (Some 0))
unfolding AreLevelsOf
plain_short paragraph cs z e ucd chars same = ap (λ ts. replicate (length ts) (Some 0)) same
    ∙ sym (plain_levels ucd paragraph chars z (sym (ap (all_pass is_plain) same) ∙ e))

pub plain_right_short : (paragraph : ℕ) (cs : List Class) → paragraph ≡ 1 → all_pass is_plain_right cs ≡ true
    → AreLevelsOf paragraph cs (replicate (length cs) (Some 1))
unfolding AreLevelsOf
plain_right_short paragraph cs z e ucd chars same = ap (λ ts. replicate (length ts) (Some 1)) same
    ∙ sym (plain_right_levels ucd paragraph chars z (sym (ap (all_pass is_plain_right) same) ∙ e))

pub from_right_short : (paragraph : ℕ) (cs : List Class) → paragraph ≡ 1 → all_pass is_from_right cs ≡ true
    → AreLevelsOf paragraph cs (map (λ t. Some (implicit_at 1 t)) (weak R cs))
unfolding AreLevelsOf
from_right_short paragraph cs z e ucd chars same = ap (λ ts. map (λ t. Some (implicit_at 1 t)) (weak R ts)) same
    ∙ sym (from_right_levels ucd paragraph chars z (sym (ap (all_pass is_from_right) same) ∙ e))

pub short_by : (ucd : Data) (paragraph : ℕ) (chars : List ℕ) (cs : List Class) (each : List (Option ℕ)) → AreLevelsOf paragraph cs each
    → cs ≡ map ucd.class chars → each ≡ paragraph_levels ucd paragraph chars
unfolding AreLevelsOf
short_by ucd paragraph chars cs each all same = all ucd chars same
