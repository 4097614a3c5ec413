use Rattle.std.proofs.Common.{ℕ, List, rules}
use Rattle.bx_levels.proofs.resolve_lemmas.TextEnds.{end_of_end, offset_more, chars_more}
use Rattle.bx_levels.proofs.resolve.body.offsets_of.Goals as goal

pub loop-rest-preserved : goal.loop-rest-preserved
loop-rest-preserved c =
    let text : List ℕ = c.args.text.now in
    let rest : List ℕ = c.loop-rest.rest.now in
    let offsets : List ℕ = c.loop-rest.offsets.items in
    record {
      text = c.skip-rest.utf8;
      chars_are = chars_more offsets c.push.new.self.items text rest c.skip-rest.result.now _ c.loop-rest.invariant.chars_are
          c.skip-rest.ensures.chars c.in_ok-push.ensures.items;
      end = end_of_end text rest c.skip-rest.result.now c.loop-rest.invariant.end c.skip-rest.ensures.end;
      offsets_are = offset_more text rest offsets c.push.new.self.items _ c.loop-rest.invariant.text c.loop-rest.invariant.end
          c.loop-rest.invariant.chars_are (search rules) c.in_ok-push.ensures.items c.loop-rest.invariant.offsets_are;
    }
