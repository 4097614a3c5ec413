use Rattle.std.proofs.Common.{◌≡◌, ◌∙◌, ◌+◌, ◌-◌, length, take, drop, sym, ap, arith}
use Rattle.bx_text.specs.pieces.Bytes.{buffer_bytes, buffers}
use Rattle.bx_text.proofs.pieces_lemmas.Begun.{within_piece}
use Rattle.bx_text.proofs.pieces.comparing.piece_has.Goals as goal

pub returns : goal.returns
returns c = λ same.
    let o = c.args.opened.now in
    let a = c.args.added.now in
    let p = c.args.piece in
    let start = p.start + c.args.skipped in
    let count = length c.args.bytes.now in
    let e : count ≡ start + count - start = omega arith in
    sym (within_piece o a p c.args.skipped count c.requires.fits)
    ∙ ap (λ n. take n (drop start (buffer_bytes (buffers o a) p.buffer))) e
    ∙ ap (λ b. take (start + count - start) (drop start b)) (sym c.buffer_of.ensures)
    ∙ c.are_equal.ensures.0 same
