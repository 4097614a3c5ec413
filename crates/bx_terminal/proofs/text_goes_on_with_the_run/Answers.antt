use Rattle.std.proofs.Common.{◌++◌, ap, sym, ◌∙◌}
use Rattle.bx_terminal.proofs.TextRead.{text_read}
use Rattle.bx_terminal.proofs.text_goes_on_with_the_run.Goals as goal

pub returns : goal.returns
returns c t text utf8 printed idle =
    text_read t text utf8 printed idle ∙ ap (λ half_read. record t { run = t.run ++ text; half_read = half_read }) (sym idle)
