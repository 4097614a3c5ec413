use Rattle.std.proofs.Common.{length, ap, arith}
use Rattle.std.specs.Prelude.{string_len}
use Rattle.bx_text.specs.pieces.Pieces.{total}
use Rattle.bx_text.proofs.pieces_lemmas.Cuts.{total_cut}
use Rattle.bx_text.proofs.Bytes.{IsAddressable-back}
use Rattle.bx_text.proofs.Pushed.{total_with_added}
use Rattle.bx_text.proofs.swap.put.Goals as goal

pub cut-old-requires-clause-fits : goal.cut-old-requires-clause-fits
cut-old-requires-clause-fits c =
    rw c.cut-first.ensures.back (IsAddressable-back c.replace.result c.args.start (rw c.replace.ensures.value c.requires.fits))

pub add-requires-clause-small : goal.add-requires-clause-small
add-requires-clause-small c =
    omega (arith, total_cut c.replace.result c.args.start, ap total c.cut-first.ensures.front, ap total c.replace.ensures.value, c.requires.small)

pub join-requires : goal.join-requires
join-requires c =
    omega (
      arith,
      total_cut c.replace.result c.args.start,
      total_cut c.cut-first.result.1 c.args.len,
      ap total c.cut-first.ensures.front,
      ap total c.cut-first.ensures.back,
      ap total c.cut-old.ensures.back,
      ap total c.replace.ensures.value,
      ap total c.add.ensures.pieces,
      total_with_added c.cut-first.result.0 (string_len c.args.added.now) (length c.args.text.now),
      c.requires.small,
    )
