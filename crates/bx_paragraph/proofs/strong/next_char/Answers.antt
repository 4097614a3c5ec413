use Rattle.std.proofs.Common.{◌∙◌, sym}
use Rattle.bx_paragraph.proofs.Places.{next-char}
use Rattle.bx_paragraph.proofs.strong.next_char.Goals as goal

pub returns-in-Some : goal.returns-in-Some
returns-in-Some c =
    next-char c.args.text.now c.in-Some.rest.now c.args.at c.in-Some.c c.utf8.text c.requires (sym c.range_from.ensures.value ∙ c.in-Some.ensures.0)
