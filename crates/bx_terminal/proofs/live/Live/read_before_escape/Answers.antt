use Rattle.std.proofs.Common.{sym, ◌∙◌}
use Rattle.std.proofs.lemmas.Result.{on_ok_weaker}
use Rattle.bx_terminal.proofs.AtOnce.{in_two, shown_before}
use Rattle.bx_terminal.proofs.live.Live.read_before_escape.Goals as goal

pub returns-in-Ok : goal.returns-in-Ok
returns-in-Ok c =
    let cases = c.in-Ok.ensures.cases in
    on_ok_weaker c.show.result
    (λ e. shown_before c.args.self.now c.show.new.self c.args.bytes.now c.in-Ok.text.now c.args.count c.requires.idle c.requires.within c.requires.escape
    cases.0 cases.1 (sym c.are_printable.ensures ∙ c.if-are_printable.true) e)
    c.show.ensures

pub returns-in_default : goal.returns-in_default
returns-in_default c =
    on_ok_weaker c.read_bytes.result
    (λ e. in_two c.args.self.now c.read_bytes.new.self c.args.bytes.now c.args.count e)
    c.read_bytes.ensures
