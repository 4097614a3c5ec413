-- What is left to do for a sequence after one of its level runs: the levels still to write, the characters still to pass to a search.
-- `ucd` is Unicode's data.
use Rattle.std.specs.Prelude.{◌≡◌, ℕ, List, ◌++◌, Option, drop}
use Rattle.bx_ucd.specs.Data.{Data}
use Rattle.bx_ucd.specs.declared.class.Class.{Class}
use Rattle.bx_levels.specs.brackets.Search.{Progress, pairs_after}
use Rattle.bx_levels.specs.embedding.LevelIndexes.{level_indexes, indexes_from}
use Rattle.bx_levels.specs.declared.resolve.lent_sequence.LentSequence.{LentSequence}
use Rattle.bx_levels.specs.declared.resolve.lent_sequence.LevelRun.{LevelRun}
use Rattle.bx_levels.specs.resolve.Levels.{chars_at, with_levels}

-- the indexes of a level run's characters, and of a sequence's
abbrev pub run_indexes : LevelRun → List ℕ
run_indexes run = level_indexes run.level run.first (drop run.first run.kept.now)

abbrev pub sequence_indexes : LentSequence → List ℕ
sequence_indexes s = indexes_from s.ends.level s.kept.now s.firsts.now

-- `new_each` is `each` with the first of `levels` written at the indexes `ps`, and `left` are the levels for the indexes after these
abbrev pub WritesRun : List ℕ → List ℕ → List (Option ℕ) → List ℕ → List (Option ℕ) → Type 0
WritesRun ps levels each left new_each = (rest : List ℕ) → with_levels (ps ++ rest) levels each ≡ with_levels rest left new_each

-- `before` is a search that has met the first `met` characters of a sequence; `after`, the search once it has met those at the indexes
-- `ps` too, has met the first `new_met`
abbrev pub MeetsRun : Data → List ℕ → List Class → List ℕ → Progress → ℕ → Progress → ℕ → Type 0
MeetsRun ucd chars ts ps before met after new_met = (rest : List ℕ)
    → pairs_after ucd before met (chars_at chars (ps ++ rest)) (drop met ts) ≡ pairs_after ucd after new_met (chars_at chars rest) (drop new_met ts)
