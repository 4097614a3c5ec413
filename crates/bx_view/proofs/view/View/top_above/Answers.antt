use Rattle.std.proofs.Common.{◌≡◌, ℕ, ◌+◌, ◌-◌, ◌<◌, arith, refl, subst}
use Rattle.bx_view.specs.FoundRow.{IsBefore, StandsOn}
use Rattle.bx_view.specs.Top.{nearest_top}
use Rattle.bx_view.proofs.Beyond.{keeps-then}
use Rattle.bx_view.proofs.TopRow.{at-or-above, behind-it, top-furthest, top-reached}
use Rattle.bx_view.specs.TextRef as text_ref
use Rattle.bx_view.specs.TextRef.{BeginsAt, IsAlong}
use Rattle.std.specs.Prelude.{IfSome}
use Rattle.bx_view.proofs.view.View.top_above.Goals as goal
use Rattle.bx_view.proofs.view.View.top_above.Goals.{In_default, Then-first_in-old}

pub loop-above-init : goal.loop-above-init
loop-above-init g c =
    let ucd = g.D.BidiData.data c.args.text_ref.now.tables.now in
    let text = c.args.text_ref.now.text.now.edited.text in
    record {
      keeps = record { base = refl; w = refl; cache = c.requires.row.1.by };
      few = c.requires.some;
      row = c.requires.row;
      along = c.walk_from-walk.ensures;
      within = λ n on. omega arith;
      stands = λ n on. let e : n ≡ n - 0 = omega arith in subst (StandsOn ucd c.args.self.now text c.args.at) e on;
      behind = λ n k on begins some. absurd (omega (arith, some));
    }

reached : (g : _) (c : Then-first_in-old g) (n k : ℕ) → text_ref.StandsOn c.args.text_ref.now c.args.self.now c.args.at n
    → BeginsAt c.args.text_ref.now c.args.self.now k c.args.old → n - c.loop-above.above ≡ nearest_top k n c.args.t
reached g c n k on begins =
    let ucd = g.D.BidiData.data c.args.text_ref.now.tables.now in
    let i = c.loop-above.invariant in
    let a = c.loop-above.above in
    let low = at-or-above ucd c.args.self.now c.loop-above.self c.args.text_ref.now.text.now.edited.text c.args.text_ref.now.utf8 i.keeps c.loop-above.here
    (n - a) (i.stands n on) k c.first_in.result c.args.old (c.first_in.ensures (n - a) (i.stands n on)) begins.0 begins.1 c.if-first_in-old.true in
    top-reached k n c.args.t a (i.within n on) i.few (i.behind n k on begins) low

pub returns-then-first_in-old-clause-top : goal.returns-then-first_in-old-clause-top
returns-then-first_in-old-clause-top g c = λ n k on begins.
    let ucd = g.D.BidiData.data c.args.text_ref.now.tables.now in
    let e = reached g (goal.at.returns-then-first_in-old-clause-top g c).Then-first_in-old n k on begins in
    subst (StandsOn ucd c.loop-above.self c.args.text_ref.now.text.now.edited.text c.loop-above.here) e (c.loop-above.invariant.stands n on)

pub returns-then-first_in-old-clause-above : goal.returns-then-first_in-old-clause-above
returns-then-first_in-old-clause-above g c = λ n k on begins.
    let e = reached g (goal.at.returns-then-first_in-old-clause-above g c).Then-first_in-old n k on begins in
    omega (arith, e, c.loop-above.invariant.within n on)

-- the first row is at the old top or above it
none_behind : (g : _) (c : In_default g) (n k : ℕ) → text_ref.StandsOn c.args.text_ref.now c.args.self.now c.args.at n
    → BeginsAt c.args.text_ref.now c.args.self.now k c.args.old → ⊥
none_behind g c n k on begins =
    let ucd = g.D.BidiData.data c.args.text_ref.now.tables.now in
    let text = c.args.text_ref.now.text.now.edited.text in
    let i = c.loop-above.invariant in
    let m = n - c.loop-above.above in
    let past = behind-it ucd c.args.self.now c.loop-above.self text c.args.text_ref.now.utf8 i.keeps c.loop-above.here m (i.stands n on) k
    c.first_in.result c.args.old (c.first_in.ensures m (i.stands n on)) begins.0 begins.1 (omega (arith, c.if-first_in-old.false)) in
    let none : m ≡ 0 = subst (IsBefore ucd c.row_before_along.new.self text m) c.in_default.is (c.in_ok-before.ensures.before m (i.stands n on)) in
    omega (arith, past, none)

pub returns-in_default-clause-top : goal.returns-in_default-clause-top
returns-in_default-clause-top g c = λ n k on begins.
    absurd (none_behind g (goal.at.returns-in_default-clause-top g c).In_default n k on begins)

pub returns-in_default-clause-above : goal.returns-in_default-clause-above
returns-in_default-clause-above g c = λ n k on begins.
    absurd (none_behind g (goal.at.returns-in_default-clause-above g c).In_default n k on begins)

pub loop-above-preserved : goal.loop-above-preserved
loop-above-preserved g c =
    let ucd = g.D.BidiData.data c.args.text_ref.now.tables.now in
    let text = c.args.text_ref.now.text.now.edited.text in
    let old = c.args.self.now in
    let v = c.loop-above.self in
    let utf8 = c.args.text_ref.now.utf8 in
    let i = c.loop-above.invariant in
    let a = c.loop-above.above in
    let new = c.row_before_along.new.self in
    let there : (n : ℕ) → StandsOn ucd old text c.args.at n
    → (0 < n - a) × StandsOn ucd new text c.in-Some.before (n - a - 1) = λ n on.
    subst (IsBefore ucd new text (n - a)) c.in-Some.is (c.in_ok-before.ensures.before (n - a) (i.stands n on)) in
    let row = i.row in
    let next : (0 < row.0) × StandsOn ucd new text c.in-Some.before (row.0 - 1) =
    subst (IsBefore ucd new text row.0) c.in-Some.is (c.in_ok-before.ensures.before row.0 row.1) in
    record {
      keeps = keeps-then ucd old v new i.keeps c.row_before_along.ensures.keeps;
      few = c.loop-above-test.true;
      along = subst (λ o. IfSome o (IsAlong c.args.text_ref.now c.row_before_along.new.walk)) c.in-Some.is c.in_ok-before.ensures.along;
      row = (row.0 - 1, next.1);
      within = λ n on. let some = (there n on).0 in omega (arith, some, i.within n on);
      stands = λ n on.
          let e : n - a - 1 ≡ n - (a + 1) = omega arith in subst (StandsOn ucd new text c.in-Some.before) e (there n on).1;
      behind = λ n k on begins some.
          let past = behind-it ucd old v text utf8 i.keeps c.loop-above.here (n - a) (i.stands n on) k c.first_in.result c.args.old
          (c.first_in.ensures (n - a) (i.stands n on)) begins.0 begins.1 (omega (arith, c.if-first_in-old.false)) in
          omega (arith, past);
    }

pub returns-clause-top : goal.returns-clause-top
returns-clause-top g c = λ n k on begins.
    let ucd = g.D.BidiData.data c.args.text_ref.now.tables.now in
    let text = c.args.text_ref.now.text.now.edited.text in
    let v = c.loop-above.self in
    let i = c.loop-above.invariant in
    let a = c.loop-above.above in
    let e : n - a ≡ nearest_top k n c.args.t =
    top-furthest k n c.args.t a (i.within n on) i.few (omega (arith, c.loop-above-test.false)) (i.behind n k on begins) in
    subst (StandsOn ucd v text c.loop-above.here) e (i.stands n on)

pub returns-clause-above : goal.returns-clause-above
returns-clause-above g c = λ n k on begins.
    let i = c.loop-above.invariant in
    let a = c.loop-above.above in
    let e : n - a ≡ nearest_top k n c.args.t =
    top-furthest k n c.args.t a (i.within n on) i.few (omega (arith, c.loop-above-test.false)) (i.behind n k on begins) in
    omega (arith, e, i.within n on)
