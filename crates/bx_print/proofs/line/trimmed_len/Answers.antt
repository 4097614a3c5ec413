use Rattle.std.proofs.Common.{◌∙◌, arith}
use Rattle.bx_print.proofs.Trimmed.{all-trimmed, less-trimmed}
use Rattle.bx_print.proofs.line.trimmed_len.Goals as goal

pub returns-then-bytes-len-ne32-clause-trimmed : goal.returns-then-bytes-len-ne32-clause-trimmed
returns-then-bytes-len-ne32-clause-trimmed c =
    let i = c.loop-len.invariant in
    all-trimmed c.args.bytes.now c.loop-len.len (omega (arith, c.loop-len-test.true)) i.within c.if-bytes-len-ne32.true ∙ i.same

pub loop-len-preserved : goal.loop-len-preserved
loop-len-preserved c =
    let i = c.loop-len.invariant in
    record {
      within = omega (arith, i.within);
      same = less-trimmed c.args.bytes.now c.loop-len.len (omega (arith, c.loop-len-test.true)) i.within c.if-bytes-len-ne32.false ∙ i.same;
    }
