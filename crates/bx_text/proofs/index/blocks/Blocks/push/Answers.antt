use Rattle.std.proofs.Common.{◌+◌, ◌-◌, [], length, is_ok, vec_len, if◌then◌else◌, ap, arith}
use Rattle.bx_text.specs.index.Paragraphs.{total}
use Rattle.bx_text.specs.index.Flat.{flat, BlocksState}
use Rattle.bx_text.proofs.index_lemmas.Flats.{total_flat_more, total_flat_front}
use Rattle.bx_text.proofs.index_lemmas.Spliced.{pushed_in_block, pushed_alone, alone_in}
use Rattle.bx_text.proofs.index.blocks.Blocks.push.Goals as goal

pub push_at-requires-clause-short : goal.push_at-requires-clause-short
push_at-requires-clause-short c =
    let bs = c.self.inside.blocks.items in
    let more = total_flat_more bs (c.args.at - 1) []
    (omega (arith, c.requires.position, c.if-at-gt0.true, ap (λ (s : BlocksState). length s.blocks) c.self.view_is)) in
    let whole = total_flat_front (c.args.at - 1 + 1) bs in
    omega (arith, more, whole, c.requires.short, ap (λ (s : BlocksState). total (flat s.blocks)) c.self.view_is)

pub invariant_of-self : goal.invariant_of-self
invariant_of-self c =
    let k = pushed_in_block c.self.inside.blocks.items c.args.self.now.blocks c.push_at.new.blocks.items (c.args.at - 1) c.args.at c.args.paragraph
    (ap (λ (s : BlocksState). s.blocks) c.self.view_is) c.push_at.ensures.items (omega (arith, c.requires.position, c.if-at-gt0.true))
    (omega (arith, c.if-at-gt0.true)) in
    record {
      short = omega (arith, k.bytes, c.requires.short);
      few = omega (arith, k.count, c.requires.few);
      room = omega (arith, c.push_at.ensures.len, c.push_at.ensures.capacity, c.self.invariant.room);
    }

pub returns-then-has_room-clause-front : goal.returns-then-has_room-clause-front
returns-then-has_room-clause-front c =
    (pushed_in_block c.self.inside.blocks.items c.args.self.now.blocks c.push_at.new.blocks.items (c.args.at - 1) c.args.at c.args.paragraph
    (ap (λ (s : BlocksState). s.blocks) c.self.view_is) c.push_at.ensures.items (omega (arith, c.requires.position, c.if-at-gt0.true))
    (omega (arith, c.if-at-gt0.true))).front

pub returns-then-has_room-clause-back : goal.returns-then-has_room-clause-back
returns-then-has_room-clause-back c =
    (pushed_in_block c.self.inside.blocks.items c.args.self.now.blocks c.push_at.new.blocks.items (c.args.at - 1) c.args.at c.args.paragraph
    (ap (λ (s : BlocksState). s.blocks) c.self.view_is) c.push_at.ensures.items (omega (arith, c.requires.position, c.if-at-gt0.true))
    (omega (arith, c.if-at-gt0.true))).back

pub invariant_of-self-2 : goal.invariant_of-self-2
invariant_of-self-2 c =
    let k = pushed_alone c.self.inside.blocks.items c.args.self.now.blocks c.insert.new.self.items c.args.at c.args.paragraph
    (ap (λ (s : BlocksState). s.blocks) c.self.view_is)
    (alone_in (is_ok c.insert.result) _ c.self.inside.blocks.items c.args.at c.push.new.self c.spare-block.result c.args.paragraph c.insert.ensures.items
    (ap is_ok c.unwrap.ensures) c.push.ensures c.spare-block.ensures.empty) c.requires.position in
    record {
      short = omega (arith, k.bytes, c.requires.short);
      few = omega (arith, k.count, c.requires.few);
      room = omega (
        arith,
        c.insert.ensures.len,
        ap (λ t. if t then vec_len c.self.inside.blocks + 1 else vec_len c.self.inside.blocks)
            (ap is_ok c.unwrap.ensures),
        c.insert.ensures.capacity,
        c.spare-block.ensures.fewer,
        c.self.invariant.room,
      );
    }

pub returns-clause-front : goal.returns-clause-front
returns-clause-front c =
    (pushed_alone c.self.inside.blocks.items c.args.self.now.blocks c.insert.new.self.items c.args.at c.args.paragraph
    (ap (λ (s : BlocksState). s.blocks) c.self.view_is)
    (alone_in (is_ok c.insert.result) _ c.self.inside.blocks.items c.args.at c.push.new.self c.spare-block.result c.args.paragraph c.insert.ensures.items
    (ap is_ok c.unwrap.ensures) c.push.ensures c.spare-block.ensures.empty) c.requires.position).front

pub returns-clause-back : goal.returns-clause-back
returns-clause-back c =
    (pushed_alone c.self.inside.blocks.items c.args.self.now.blocks c.insert.new.self.items c.args.at c.args.paragraph
    (ap (λ (s : BlocksState). s.blocks) c.self.view_is)
    (alone_in (is_ok c.insert.result) _ c.self.inside.blocks.items c.args.at c.push.new.self c.spare-block.result c.args.paragraph c.insert.ensures.items
    (ap is_ok c.unwrap.ensures) c.push.ensures c.spare-block.ensures.empty) c.requires.position).back
