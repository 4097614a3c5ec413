-- The unit's characters read so far and those left give all levels.
use Rattle.std.proofs.Common.{◌≡◌, ◌≤◌, ◌∷◌, ◌++◌, ℕ, List, map, length, chars}
use Rattle.std.specs.List.{zip}
use denote.Text.{Utf8}
use denote.Shadow.{shadow}
use Rattle.bx_rows.specs.LevelReads.{levels_from, unit_from}
use Rattle.bx_rows.proofs.level_read.read_unit.Given as goal

abbrev pub invariant-loop-c : goal.invariant-loop-c
invariant-loop-c g l = record {
  text : shadow (Utf8 l.rest);
  within : l.first ≤ length l.found.items;
  levels : (more counts : List ℕ)
      → levels_from l.paragraph l.fn.found.items l.fn.waiting 0 (length (chars l.fn.text) ∷ counts)
      (zip (map (g.D.BidiData.data l.tables).class (chars l.fn.text ++ more)) l.fn.levels)
      ≡ unit_from l.is_known l.paragraph l.found.items l.first (length (chars l.rest)) counts
      (zip (map (g.D.BidiData.data l.tables).class (chars l.rest ++ more)) l.left);
}

abbrev pub decreases-loop-c : goal.decreases-loop-c
decreases-loop-c g l = length l.rest
