use Rattle.std.proofs.Common.{◌≡◌, ◌-◌, ◌++◌, take, drop}
use Rattle.bx_grid.specs.Codes.{codes_of}
use Rattle.bx_grid.specs.Seen.{all_seen}
use Rattle.bx_grid.proofs.codes.note_codes.Given as goal

abbrev pub invariant-loop-index : goal.invariant-loop-index
invariant-loop-index l =
    l.codes ≡ take l.from l.initial.codes ++ (codes_of (take (l.index - l.from) (drop l.from (all_seen l.columns))) ++ drop l.index l.initial.codes)
