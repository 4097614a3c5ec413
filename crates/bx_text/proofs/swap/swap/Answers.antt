use Rattle.std.proofs.Common.{ap, arith}
use Rattle.bx_text.proofs.pieces_lemmas.Cuts.{total_append, total_cut}
use Rattle.bx_text.specs.pieces.Pieces.{total}
use Rattle.bx_text.proofs.Bytes.{IsAddressable-back}
use Rattle.bx_text.proofs.swap.swap.Goals as goal

pub cut-old-requires-clause-fits : goal.cut-old-requires-clause-fits
cut-old-requires-clause-fits c =
    rw c.cut-first.ensures.back (IsAddressable-back c.replace.result c.args.start (rw c.replace.ensures.value c.requires.fits))

pub join-requires : goal.join-requires
join-requires c =
    omega (
      arith,
      total_cut c.replace.result c.args.start,
      total_cut c.cut-first.result.1 c.args.len,
      ap total c.cut-first.ensures.back,
      ap total c.cut-old.ensures.back,
      ap total c.replace.ensures.value,
      c.requires.small,
    )

pub join-requires-2 : goal.join-requires-2
join-requires-2 c =
    omega (
      arith,
      total_cut c.replace.result c.args.start,
      total_cut c.cut-first.result.1 c.args.len,
      ap total c.cut-first.ensures.back,
      ap total c.cut-first.ensures.front,
      ap total c.cut-old.ensures.back,
      ap total c.replace.ensures.value,
      c.requires.small,
      ap total c.join.ensures,
      total_append c.args.span c.cut-old.result.1,
    )
