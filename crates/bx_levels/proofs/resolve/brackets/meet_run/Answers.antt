use Rattle.std.proofs.Common.{◌≡◌, ◌∷◌, ◌++◌, ◌∙◌, ℕ, List, [], sym, ap, arith, rules, chars, drop, length, length-drop}
use Rattle.bx_levels.specs.embedding.LevelIndexes.{level_indexes}
use Rattle.bx_levels.specs.resolve.Levels.{chars_at}
use Rattle.bx_levels.proofs.resolve_lemmas.PairsLeft.{types_out, char_here, chars_behind, kept_left, removed_left}
use Rattle.bx_levels.proofs.resolve_lemmas.TextEnds.{chars_none}
use Rattle.bx_levels.proofs.resolve.brackets.meet_run.Goals as goal
use Rattle.bx_levels.proofs.resolve.brackets.meet_run.Goals.{in-Some-kept+else-given-level+else-met-types+in_ok-meet-in-Some-kept, in-None}

pub returns-then-met-types-clause-met : goal.returns-then-met-types-clause-met
returns-then-met-types-clause-met g c = λ rest.
    let ucd = g.D.BidiData.data c.args.tables.now in
    let all : List ℕ = c.args.body.now in
    let met : ℕ = c.loop-k.met in
    c.loop-k.invariant.left rest
    ∙ types_out ucd c.loop-k.search.progress met met
    (chars_at all (level_indexes c.args.run.level c.loop-k.k (drop c.loop-k.k c.args.run.kept.now) ++ rest)) c.args.types.now c.if-met-types.true
    ∙ sym (types_out ucd c.loop-k.search.progress met met (chars_at all rest) c.args.types.now c.if-met-types.true)

pub returns-in_default-clause-met : goal.returns-in_default-clause-met
returns-in_default-clause-met g c =
    let all : List ℕ = c.args.body.now in
    let none : drop c.loop-k.k all ≡ [] = sym c.loop-k.invariant.chars_are ∙ chars_none c.loop-k.rest.now c.in_default.ensures in
    absurd (omega (arith, ap length none, length-drop c.loop-k.k all, c.requires.as_long, c.loop-k-test.true, c.loop-k.auto.k-end))

pub loop-k-preserved : goal.loop-k-preserved
loop-k-preserved g c =
    let ucd = g.D.BidiData.data c.args.tables.now in
    let all : List ℕ = c.args.body.now in
    let k : ℕ = c.loop-k.k in
    let left : drop k all ≡ c.in-Some.c ∷ chars c.in-Some.behind.now = sym c.loop-k.invariant.chars_are ∙ c.in-Some.ensures.2 in
    elim c.match-kept-k.branch [
      | in-Some-kept+else-given-level+else-met-types+in_ok-meet-in-Some-kept w ↦ rw (w.search-is, w.met-is) (record {
        text = search rules;
        chars_are = chars_behind k c.in-Some.c all (chars c.in-Some.behind.now) left;
        next = w.meet.ensures.next;
        count = w.meet.ensures.count ∙ c.loop-k.invariant.count;
        left = λ more. c.loop-k.invariant.left more ∙ kept_left ucd all c.args.run.kept.now c.args.types.now c.args.run.level k c.loop-k.met
            c.loop-k.search.progress (omega arith) more c.in-Some.c w.in-Some-kept.given w.meet.new.self.progress w.in-Some-kept.is w.if-given-level.false
            (omega arith) (char_here k c.in-Some.c all (chars c.in-Some.behind.now) left) w.in_ok-meet-in-Some-kept.ensures.progress;
      })
      | in-None w ↦ rw (w.search-is, w.met-is) (record {
        text = search rules;
        chars_are = chars_behind k c.in-Some.c all (chars c.in-Some.behind.now) left;
        next = c.loop-k.invariant.next;
        count = c.loop-k.invariant.count;
        left = λ more. c.loop-k.invariant.left more ∙ removed_left ucd all c.args.run.kept.now c.args.types.now c.args.run.level k c.loop-k.met
            c.loop-k.search.progress (omega arith) more w.in-None.is;
      })
    ]
