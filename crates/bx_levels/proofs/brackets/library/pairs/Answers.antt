use Rattle.std.proofs.Common.{◌+◌, ◌∙◌, ℕ, ap, refl, sym, arith, drop, true, false}
use Rattle.std.proofs.lemmas.List.Elements.{All-nil}
use Rattle.bx_levels.specs.brackets.Search.{IsPairWithin, progress}
use Rattle.bx_levels.proofs.brackets_lemmas.Stack.{all_found, over_after, turn_more}
use Rattle.bx_levels.proofs.brackets.library.pairs.Goals as goal

pub loop-i-init : goal.loop-i-init
loop-i-init g c = rw (c.new-open.ensures, c.new-found.ensures.items) (record {
  found = record { falling = tt; sorted = tt; within = All-nil (IsPairWithin 0) };
  rest = sym (all_found (g.D.BidiData.data c.args.tables.now) c.args.chars.now c.args.types.now);
})

pub loop-i-preserved : goal.loop-i-preserved
loop-i-preserved g c = record {
  found = c.in_ok-meet.ensures.later;
  rest = c.loop-i.invariant.rest ∙ turn_more (g.D.BidiData.data c.args.tables.now) c.loop-i.open c.loop-i.found.items c.meet.new.open
      c.meet.new.found.items false c.args.chars.now c.args.types.now c.loop-i.i c.index-chars-i.result c.bracket_at-bracket.result (omega arith)
      (omega (arith, c.requires)) c.index-chars-i.is c.bracket_at-bracket.ensures
      (ap (progress c.meet.new.open c.meet.new.found.items) (sym c.if-branch.false) ∙ c.in_ok-meet.ensures.turn);
}

pub returns-then-branch-clause-pairs : goal.returns-then-branch-clause-pairs
returns-then-branch-clause-pairs g c =
    let ucd = g.D.BidiData.data c.args.tables.now in
    let i : ℕ = c.loop-i.i in
    sym (c.loop-i.invariant.rest ∙ turn_more ucd c.loop-i.open c.loop-i.found.items c.meet.new.open c.meet.new.found.items true c.args.chars.now
    c.args.types.now i c.index-chars-i.result c.bracket_at-bracket.result (omega arith) (omega (arith, c.requires)) c.index-chars-i.is
    c.bracket_at-bracket.ensures (ap (progress c.meet.new.open c.meet.new.found.items) (sym c.if-branch.true) ∙ c.in_ok-meet.ensures.turn)
    ∙ over_after ucd (progress c.meet.new.open c.meet.new.found.items true) (i + 1) (drop (i + 1) c.args.chars.now) (drop (i + 1) c.args.types.now) refl)
