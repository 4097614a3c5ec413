-- The levels updated after an edit are the levels of the new text.
use Rattle.std.proofs.Common.{◌≡◌, ◌∙◌, ℕ, List, ◌++◌, take, drop, ap, ap₂, sym, Option}
use Rattle.bx_ucd.specs.Data.{Data}
use Rattle.bx_levels.specs.declared.resolve.paragraph.Levels.{Levels}
use Rattle.bx_levels.specs.resolve.Levels.{paragraph_levels, levels_under}
use Rattle.bx_levels.specs.resolve.Edited.{FollowsBetween, FollowsToEnd}
use Rattle.bx_levels.specs.resolve.Edited.{old_index, old_text}
use Rattle.bx_levels.proofs.resolve_lemmas.EditedLevels.{edited_paragraph_level, edited_under, level_to_end, edited_to_end}

module _ (ucd : Data) (chars : List ℕ) (was now : Levels) (level : now.paragraph ≡ was.paragraph) where
  alone : List (Option ℕ)
  alone = paragraph_levels ucd was.paragraph chars

  pub follows_between : (first last : ℕ)
      → now.each.items ≡ take first was.each.items ++ (paragraph_levels ucd was.paragraph chars ++ drop last was.each.items)
      → FollowsBetween ucd chars first last was now
  follows_between first last n base e j h c l o =
      let old : List (Option ℕ) = levels_under ucd base (old_text e) in
      record {
        paragraph_is = level ∙ o.paragraph_is ∙ sym (edited_paragraph_level ucd base e.before e.removed e.inserted e.behind first j
            h.in_before h.in_behind h.strong_before h.strong_behind h.old_unformatted h.new_unformatted h.old_safe h.new_safe);
        each_is = n
            ∙ ap₂ (λ ls k. take first ls ++ (paragraph_levels ucd was.paragraph chars ++ drop k ls)) o.each_is l
            ∙ ap₂ (λ p cs. take first old ++ (paragraph_levels ucd p cs ++ drop (old_index e j) old)) o.paragraph_is c
            ∙ sym (edited_under ucd base e.before e.removed e.inserted e.behind first j
            h.in_before h.in_behind h.strong_before h.strong_behind h.old_unformatted h.new_unformatted h.old_safe h.new_safe);
      }

  pub follows_to_end : (first : ℕ) → now.each.items ≡ take first was.each.items ++ paragraph_levels ucd was.paragraph chars
      → FollowsToEnd ucd chars first was now
  follows_to_end first n base e h c o =
      let old : List (Option ℕ) = levels_under ucd base (old_text e) in
      record {
        paragraph_is = level ∙ o.paragraph_is ∙ sym (level_to_end ucd base e.before e.removed e.inserted e.behind first
            h.in_before h.strong_before h.old_unformatted h.new_unformatted h.old_bare h.new_bare);
        each_is = n
            ∙ ap (λ ls. take first ls ++ paragraph_levels ucd was.paragraph chars) o.each_is
            ∙ ap₂ (λ p cs. take first old ++ paragraph_levels ucd p cs) o.paragraph_is c
            ∙ sym (edited_to_end ucd base e.before e.removed e.inserted e.behind first
            h.in_before h.strong_before h.old_unformatted h.new_unformatted h.old_bare h.new_bare);
      }
