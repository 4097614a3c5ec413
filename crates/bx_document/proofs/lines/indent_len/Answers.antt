use Rattle.std.proofs.Common.{◌≡◌, ◌<◌, ◌∙◌, true, ap, get_or, length, sym, arith}
use Rattle.std.proofs.lemmas.Str.{IsCharBoundary-after_ascii, IsCharBoundary-start}
use Rattle.bx_document.specs.Line.{is_indent}
use Rattle.bx_document.proofs.Indents.{indent-ascii, prefix-more}
use Rattle.bx_document.proofs.lines.indent_len.Goals as goal

pub loop-len-init : goal.loop-len-init
loop-len-init c = record { bound = IsCharBoundary-start c.args.text.now c.utf8.text; same = omega arith }

pub loop-len-preserved : goal.loop-len-preserved
loop-len-preserved c =
    let text = c.args.text.now in
    let at = c.loop-len.len in
    let within : at < length text = omega (arith, c.loop-len-test.true, c.as_bytes-bytes.ensures.len) in
    let is : is_indent (get_or text at 0) ≡ true =
    sym (c.is_indent.ensures ∙ ap (λ bs. is_indent (get_or bs at 0)) c.as_bytes-bytes.ensures.value) ∙ c.if-not-is_indent.false in
    record {
      bound = IsCharBoundary-after_ascii text at c.utf8.text within (indent-ascii (get_or text at 0) is);
      same = omega (arith, c.loop-len.invariant.same, prefix-more text at within is);
    }
