use Rattle.std.proofs.Common.{◌≡◌, [], rules}
use Rattle.bx_terminal.proofs.AtOnce.{in_two}
use Rattle.bx_terminal.proofs.Printed.{shown_text}
use Rattle.bx_terminal.proofs.live.Live.read_front.Goals as goal

pub returns-in-Some-text_before_escape-clause-read : goal.returns-in-Some-text_before_escape-clause-read
returns-in-Some-text_before_escape-clause-read c =
    let idle : c.args.self.now.half_read ≡ [] = search rules in
    shown_text c.args.self.now c.show.new.self c.args.bytes.now c.in-Some-text_before_escape.text.now idle c.in-Some-text_before_escape.ensures
    c.in_ok-show.ensures

pub returns-then-count-gt0-clause-read : goal.returns-then-count-gt0-clause-read
returns-then-count-gt0-clause-read c =
    in_two c.args.self.now c.read_text.new.self c.args.bytes.now c.text_len-count.result c.in_ok-read_text.ensures
