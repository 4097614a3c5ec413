use Rattle.std.proofs.Common.{◌≡◌, ◌≤◌, ap, arith, chars, length}
use Rattle.bx_editor.specs.LineState.{LineState}
use Rattle.bx_editor.proofs.LineLength.{fewer}
use Rattle.bx_editor.proofs.input_line.InputLine.erase.Goals as goal

pub returns-clause-fewer : goal.returns-clause-fewer
returns-clause-fewer g c =
    let l : LineState = c.args.self.now in
    let text = ap (λ (x : LineState). length (chars x.text)) c.in_ok-exchange.ensures.line in
    omega (arith, text, fewer l.text _ _ c.in_ok-start.ensures.utf8 c.in_ok-start.ensures.range)
