use Rattle.std.proofs.Common.{string_bytes, sym, ◌∙◌}
use Rattle.bx_terminal.specs.Live.{terminal_of}
use Rattle.bx_terminal.proofs.AtOnce.{text_goes_on}
use Rattle.bx_terminal.proofs.live.Live.read_text.Goals as goal

pub returns-in_ok-push_str-in-Ok : goal.returns-in_ok-push_str-in-Ok
returns-in_ok-push_str-in-Ok c =
    let cases = c.in-Ok.ensures.cases in
    text_goes_on (terminal_of c.self.inside) c.args.self.now c.in-Ok.text.now c.args.bytes.now
    (string_bytes c.push_str.new.self) c.self.view_is c.requires cases.0
    cases.1 (sym c.are_printable.ensures ∙ c.if-are_printable.true) c.in_ok-push_str-in-Ok.ensures.bytes
