-- The journal is the last file.
use Rattle.bx_command.proofs.FirstFaults.{keys_unread, on_first}
use Rattle.bx_command.specs.Inputs.{IsFirstFault}
use Rattle.bx_command.proofs.files.Files.read.Goals as goal

pub returns-in_err-keys-clause-refused : goal.returns-in_err-keys-clause-refused
returns-in_err-keys-clause-refused g c =
    on_first (IsFirstFault (g.F.InputFiles.answers c.args.files.now) c.args.options.now) c.from_residual-in_err-keys.result c.in_err-keys.field-0.0 c.from_residual-in_err-keys.ensures.1
    (keys_unread (g.F.InputFiles.answers c.args.files.now) c.args.options.now c.in_ok-unicode.unicode c.in_ok-text.text c.in_err-keys.field-0.0 c.in_ok-unicode.ensures.read c.in_ok-text.ensures c.in_err-keys.ensures)
