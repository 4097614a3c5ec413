use Rattle.std.proofs.Common.{ℕ, List, ◌≡◌, ◌+◌, ◌++◌, ◌∙◌, length, ap₂, arith}
use Rattle.bx_find.specs.Matches.{behind_letters}
use Rattle.bx_find.proofs.ReadOn.{no_chars}
use Rattle.bx_find.proofs.spans.end_in.Goals as goal

pub returns : goal.returns
returns g c cs =
    let at : c.loop-c.at ≡ c.args.start + length c.args.piece.now = omega (arith, c.in_default.ensures, c.loop-c.invariant.bytes) in
    c.loop-c.invariant.found cs
    ∙ ap₂ (λ n (xs : List ℕ). behind_letters (g.D.BidiData.data c.args.sought.now.tables.now) c.args.sought.now.reading c.loop-c.left n (xs ++ cs)) at
    (no_chars c.loop-c.rest.now c.in_default.ensures)
