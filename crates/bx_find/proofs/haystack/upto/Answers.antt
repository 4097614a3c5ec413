use Rattle.std.proofs.Common.{◌≡◌, ◌-◌, length, subst, arith, ap, length-append}
use Rattle.std.specs.Prelude.{encode_utf8, IsCharBoundary}
use Rattle.std.proofs.lemmas.Str.{IsCharBoundary-at_seam, IsUtf8-past_char}
use Rattle.bx_find.proofs.haystack.upto.Goals as goal

pub range-requires-in-Some-clause-end_boundary : goal.range-requires-in-Some-clause-end_boundary
range-requires-in-Some-clause-end_boundary c =
    let piece = c.args.piece.now in
    let first = encode_utf8 c.in-Some.field-0-0 in
    let behind = c.in-Some.behind.now in
    let whole = c.in-Some.ensures.0 in
    let width : length first ≡ length piece - length behind = omega (arith, ap length whole, length-append first behind) in
    subst (IsCharBoundary piece) width (IsCharBoundary-at_seam piece first behind whole (IsUtf8-past_char piece behind c.in-Some.field-0-0 c.utf8.piece whole))
