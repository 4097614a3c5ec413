-- A command whose numbers are at most 1000, past any window (a side is at most 500): the code reads numbers only so far.
use Rattle.std.specs.Prelude.{min}
use Rattle.bx_grid.specs.declared.command.Command.{Command}
use Rattle.bx_grid.specs.declared.command.Command.TheVariants.{Move, Clear, Erase, Render, Clip, Other}

abbrev pub capped : Command → Command
capped (Move line column) = Move (min 1000 line) (min 1000 column)
capped Clear = Clear
capped Erase = Erase
capped (Render negative) = Render negative
capped Clip = Clip
capped Other = Other
