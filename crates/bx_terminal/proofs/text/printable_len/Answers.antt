use Rattle.std.proofs.Common.{length, take, ap, subst, List, ℕ, arith}
use Rattle.std.proofs.lemmas.List.{take_rest, length-drop}
use Rattle.bx_terminal.specs.Printables.{IsPrintable}
use Rattle.bx_terminal.proofs.Printed.{nil_printable, printable_more}
use Rattle.bx_terminal.proofs.text.printable_len.Goals as goal

pub loop-len-init : goal.loop-len-init
loop-len-init c = (omega arith, nil_printable)

pub loop-len-preserved : goal.loop-len-preserved
loop-len-preserved c =
    let bytes = c.args.bytes.now in
    let len = c.loop-len.len in
    let count = c.first_len-count.result in
    let rest = take_rest bytes len in (
      omega (arith, c.loop-len.invariant.0, c.first_len-count.ensures.within, ap length rest, length-drop len bytes),
      printable_more bytes len count c.loop-len.invariant.1
          (subst (λ (cs : List ℕ). IsPrintable (take count cs)) rest c.first_len-count.ensures.text),
    )
