-- The bytes that were read are printed.
use Rattle.std.proofs.Common.{ℕ, List, subst}
use Rattle.bidi_print.specs.Printing.{IsPage}
use Rattle.bidi_print.proofs.program.Goals as goal

pub returns : goal.returns
returns g c = record {
  unicode = c.in_ok-unicode.unicode;
  bytes = c.in_ok-bytes.bytes.items;
  read = c.in_ok-unicode.ensures.read;
  text = c.in_ok-bytes.ensures;
  printed = subst (λ (bytes : List ℕ). IsPage c.args.options.now.style c.in_ok-unicode.unicode bytes (g.W.Write.contents c.args.writer.now) (g.W.Write.contents c.print_bytes.new.writer))
      c.as_slice.ensures.value c.in_ok-print_bytes.ensures.printed;
}
