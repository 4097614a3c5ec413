use Rattle.std.proofs.Common.{◌≡◌, ◌<◌, ◌≤◌, inl, sym, ◌∙◌, true, arith}
use Rattle.std.proofs.lemmas.Bool.Decides.{nat_tests}
use Rattle.bx_terminal.specs.Printables.{is_second}
use Rattle.bx_terminal.proofs.Printed.{three_printable, away_by_lead, away_by_second, before_controls}
use Rattle.bx_terminal.proofs.text.is_three.Goals as goal
use Rattle.bx_terminal.proofs.text.is_three.Goals.{then-lead-ne226-via-then-lead-ne226, then-lead-ne226-via-else-lead-ne226+then-second-ne128}

pub returns-then-lead-ne226 : goal.returns-then-lead-ne226
returns-then-lead-ne226 c test =
    let a = c.args.lead in
    let b = c.args.second in
    let l = c.args.last in
    let second : is_second a b ≡ true = sym c.is_second.ensures ∙ c.if-not-is_second.false in
    let low : 0xE0 ≤ a = omega (arith, c.if-lead-lt224.false) in
    let high : a ≤ 0xEF = omega (arith, c.if-lead-gt239.false) in
    let trails : 0x80 ≤ l = omega (arith, c.if-last-lt128.false) in
    let ends : l ≤ 0xBF = omega (arith, c.if-last-gt191.false) in
    three_printable a b l low high second trails ends
    (elim c.then-lead-ne226.branch [
      | then-lead-ne226-via-then-lead-ne226 w ↦ away_by_lead a b l low high second trails ends w.if-lead-ne226.true
      | then-lead-ne226-via-else-lead-ne226+then-second-ne128 w ↦
          away_by_second a b l w.if-lead-ne226.false second trails ends w.if-second-ne128.true
    ])

pub returns : goal.returns
returns c test =
    let second : is_second c.args.lead c.args.second ≡ true = sym c.is_second.ensures ∙ c.if-not-is_second.false in
    let below : c.args.last < 0xA8 = grind (arith, nat_tests, test) in
    three_printable c.args.lead c.args.second c.args.last (omega (arith, c.if-lead-lt224.false)) (omega (arith, c.if-lead-gt239.false)) second
    (omega (arith, c.if-last-lt128.false)) (omega (arith, c.if-last-gt191.false))
    (inl (before_controls c.args.lead c.args.second c.args.last c.if-lead-ne226.false c.if-second-ne128.false below))
