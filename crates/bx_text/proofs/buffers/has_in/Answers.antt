use Rattle.std.proofs.Common.{◌≡◌, length, take, drop, subst, sym}
use Rattle.bx_text.specs.pieces.Bytes.{AreWithin, buffers, bytes_of}
use Rattle.bx_text.proofs.Compared.{are_within}
use Rattle.bx_text.proofs.buffers.has_in.Goals as goal

pub has-requires : goal.has-requires
has-requires c =
    subst (λ o. AreWithin (buffers o c.as_bytes-2.result.now) c.args.pieces.now) (sym c.as_bytes.ensures.value)
    (subst (λ a. AreWithin (buffers c.args.opened.now a) c.args.pieces.now) (sym c.as_bytes-2.ensures.value)
    (are_within (buffers c.args.opened.now c.args.added.now) c.args.pieces.now c.requires))

pub returns : goal.returns
returns c = λ same.
    subst (λ a. take (length c.args.bytes.now) (drop c.args.at (bytes_of (buffers c.args.opened.now a) c.args.pieces.now)) ≡ c.args.bytes.now) c.as_bytes-2.ensures.value
    (subst (λ o. take (length c.args.bytes.now) (drop c.args.at (bytes_of (buffers o c.as_bytes-2.result.now) c.args.pieces.now)) ≡ c.args.bytes.now) c.as_bytes.ensures.value
    (c.has.ensures same))
