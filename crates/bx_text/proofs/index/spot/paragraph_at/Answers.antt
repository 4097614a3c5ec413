use Rattle.std.proofs.Common.{◌∙◌, arith, ap, length}
use Rattle.std.proofs.lemmas.List.{get_or_default}
use Rattle.bx_text.proofs.index_lemmas.Cuts.{unended}
use Rattle.bx_text.proofs.index_lemmas.Walks.{paragraph_in}
use Rattle.bx_text.proofs.index.spot.paragraph_at.Goals as goal

pub returns-in-Some : goal.returns-in-Some
returns-in-Some c =
    let (inside, same) = c.in-Some.ensures.lent in
    let held = c.requires.held inside in
    paragraph_in c.args.blocks.now.blocks (unended c.args.last) _ c.in-Some.lengths.now c.args.spot.block c.args.spot.within c.args.spot.number
    inside same (same ∙ get_or_default c.args.blocks.now.blocks c.args.spot.block _ _ inside) c.requires.counted (omega (arith, held, ap length same))
