use Rattle.std.proofs.Common.{◌≡◌, ◌∙◌, length, take, drop, ap, arith}
use Rattle.std.proofs.lemmas.List.{length-take-le}
use Rattle.bx_text.specs.index.Flat.{flat, BlocksState}
use Rattle.bx_text.proofs.index_lemmas.Spliced.{taken, nothing_between}
use Rattle.bx_text.proofs.index.blocks.Blocks.take_out.Goals as goal

pub invariant_of-self : goal.invariant_of-self
invariant_of-self c =
    let k = taken c.self.inside.blocks.items c.remove_blocks.new.blocks.items c.cut-first.result c.cut-last.result c.remove_blocks.ensures.items
    (omega (arith, c.if-first-last.true)) (omega (arith, c.cut-last.ensures.block, ap (λ (s : BlocksState). length s.blocks) c.self.view_is)) in
    record {
      short = omega (arith, k.bytes, c.self.invariant.short);
      few = omega (arith, k.count, c.self.invariant.few);
      room = omega (arith, c.remove_blocks.ensures.len, c.remove_blocks.ensures.capacity, c.self.invariant.room);
    }

pub returns-then-first-last-clause-back : goal.returns-then-first-last-clause-back
returns-then-first-last-clause-back c =
    let k = taken c.self.inside.blocks.items c.remove_blocks.new.blocks.items c.cut-first.result c.cut-last.result c.remove_blocks.ensures.items
    (omega (arith, c.if-first-last.true)) (omega (arith, c.cut-last.ensures.block, ap (λ (s : BlocksState). length s.blocks) c.self.view_is)) in
    k.back ∙ ap (λ (s : BlocksState). flat (drop c.cut-last.result s.blocks)) c.self.view_is ∙ c.cut-last.ensures.back
    ∙ ap (drop c.args.to) c.cut-first.ensures.paragraphs

pub returns-else-first-last-clause-back : goal.returns-else-first-last-clause-back
returns-else-first-last-clause-back c =
    let front : length (flat (take c.cut-first.result c.cut-first.new.self.blocks)) ≡ c.args.from =
    ap length c.cut-first.ensures.front ∙ length-take-le c.args.from (flat c.args.self.now.blocks) (omega (arith, c.requires.order, c.requires.inside)) in
    let stays = c.cut-last.ensures.before c.cut-first.result c.cut-first.ensures.block (omega (arith, front, c.requires.order)) in
    let back : length (flat (take c.cut-last.result c.cut-last.new.self.blocks)) ≡ c.args.to =
    ap length c.cut-last.ensures.front ∙ length-take-le c.args.to (flat c.cut-first.new.self.blocks)
    (omega (arith, c.requires.inside, ap length c.cut-first.ensures.paragraphs)) in
    nothing_between c.cut-first.new.self.blocks c.cut-last.new.self.blocks c.cut-first.result c.cut-last.result c.args.from c.args.to front stays.0 back
    c.if-first-last.false c.requires.order c.cut-last.ensures.paragraphs
    ∙ ap (drop c.args.to) c.cut-first.ensures.paragraphs
