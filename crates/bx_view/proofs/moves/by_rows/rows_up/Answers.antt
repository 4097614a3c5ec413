use Rattle.std.proofs.Common.{◌≡◌, ◌+◌, ◌-◌, ◌<◌, refl, subst, sym, arith}
use Rattle.bx_view.specs.FoundRow.{IsBefore, IsSameAtEnd, StandsOn}
use Rattle.bx_view.proofs.Beyond.{keeps-then}
use Rattle.bx_view.specs.TextRef.{IsAlong}
use Rattle.std.specs.Prelude.{IfSome}
use Rattle.bx_view.proofs.moves.by_rows.rows_up.Goals as goal

pub loop-done-init : goal.loop-done-init
loop-done-init g c =
    let ucd = g.D.BidiData.data c.args.text_ref.now.tables.now in
    record {
      keeps = record { base = refl; w = refl; cache = c.requires.row.1.by };
      within = omega arith;
      row = c.requires.row;
      along = c.walk_from-walk.ensures;
      stands = λ n on. let e : n ≡ n - 0 = omega arith in subst (StandsOn ucd c.args.view.now c.args.text_ref.now.text.now.edited.text c.args.at) e on;
    }

pub returns-in_default-clause-row : goal.returns-in_default-clause-row
returns-in_default-clause-row g c = λ n on.
    let ucd = g.D.BidiData.data c.args.text_ref.now.tables.now in
    let text = c.args.text_ref.now.text.now.edited.text in
    let i = c.loop-done.invariant in
    let first : n - c.loop-done.done ≡ 0 =
    subst (IsBefore ucd c.row_before_along.new.self text (n - c.loop-done.done)) c.in_default.is
    (c.in_ok-before.ensures.before (n - c.loop-done.done) (i.stands n on)) in
    let same : c.row_before_along.new.self ≡ c.loop-done.view =
    subst (IsSameAtEnd c.loop-done.view c.row_before_along.new.self) c.in_default.is c.in_ok-before.ensures.same in
    let e : n - c.loop-done.done ≡ n - c.args.count = omega (arith, first, c.loop-done-test.true) in
    subst (λ v. StandsOn ucd v text c.loop-done.here (n - c.args.count)) (sym same)
    (subst (StandsOn ucd c.loop-done.view text c.loop-done.here) e (i.stands n on))

pub loop-done-preserved : goal.loop-done-preserved
loop-done-preserved g c =
    let ucd = g.D.BidiData.data c.args.text_ref.now.tables.now in
    let text = c.args.text_ref.now.text.now.edited.text in
    let i = c.loop-done.invariant in
    let row = i.row in
    let own : (0 < row.0) × StandsOn ucd c.row_before_along.new.self text c.in-Some.before (row.0 - 1) =
    subst (IsBefore ucd c.row_before_along.new.self text row.0) c.in-Some.is (c.in_ok-before.ensures.before row.0 row.1) in
    record {
      keeps = keeps-then ucd c.args.view.now c.loop-done.view c.row_before_along.new.self i.keeps c.row_before_along.ensures.keeps;
      within = omega (arith, c.loop-done-test.true);
      along = subst (λ o. IfSome o (IsAlong c.args.text_ref.now c.row_before_along.new.walk)) c.in-Some.is c.in_ok-before.ensures.along;
      row = (row.0 - 1, own.1);
      stands = λ n on.
          let there : (0 < n - c.loop-done.done) × StandsOn ucd c.row_before_along.new.self text c.in-Some.before (n - c.loop-done.done - 1) =
          subst (IsBefore ucd c.row_before_along.new.self text (n - c.loop-done.done)) c.in-Some.is
          (c.in_ok-before.ensures.before (n - c.loop-done.done) (i.stands n on)) in
          let e : n - c.loop-done.done - 1 ≡ n - (c.loop-done.done + 1) = omega arith in
          subst (StandsOn ucd c.row_before_along.new.self text c.in-Some.before) e there.1;
    }

pub returns-clause-row : goal.returns-clause-row
returns-clause-row g c = λ n on.
    let ucd = g.D.BidiData.data c.args.text_ref.now.tables.now in
    let text = c.args.text_ref.now.text.now.edited.text in
    let i = c.loop-done.invariant in
    let e : n - c.loop-done.done ≡ n - c.args.count = omega (arith, i.within, c.loop-done-test.false) in
    subst (StandsOn ucd c.loop-done.view text c.loop-done.here) e (i.stands n on)
