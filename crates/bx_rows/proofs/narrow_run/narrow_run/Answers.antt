use Rattle.std.proofs.Common.{ℕ, zero, suc, ◌≡◌, ◌<◌, ◌≤◌, ◌+◌, ◌-◌, length, drop, length-drop, refl, sym, ap, ◌∙◌, arith}
use Rattle.std.proofs.lemmas.Str.{IsUtf8-past_char, IsUtf8-drop}
use Rattle.bx_rows.specs.Wrapping.{is_blank}
use Rattle.bx_rows.proofs.NarrowSteps.{open-narrow, mark-narrow, open-behind, longer-next, longer-last, grown-less}
use Rattle.bx_rows.proofs.narrow_run.narrow_run.Goals as goal

less-if : (n m : ℕ) → n ≤ m → (n ≡ m → ⊥) → n < m
less-if zero zero h d = absurd (d refl)
less-if zero (suc m) h d = omega arith
less-if (suc n) zero h d = absurd (omega (arith, h))
less-if (suc n) (suc m) h d =
    let less : n < m = less-if n m (omega (arith, h)) (λ e. d (ap suc e)) in omega (arith, less)

pub loop-c-init : goal.loop-c-init
loop-c-init g c =
    let ucd = g.D.BidiData.data c.args.tables.now in
    let body = c.args.body.now in
    let first = sym c.range_from.ensures.value ∙ c.in-Some.ensures.0 in
    let shorter = c.in-Some.ensures.1 in
    let whole = ap length c.range_from.ensures.value in
    let at = c.ascii_run-run.result.stop in
    let bounds = c.ascii_run-run.ensures.bounds in
    let few = c.ascii_run-run.ensures.most in
    let not_all = c.if-run-most.false in
    record {
      text = IsUtf8-past_char (drop at body) _ c.in-Some.c (IsUtf8-drop body at c.utf8.body bounds.boundary) first;
      cluster = open-narrow ucd body at c.in-Some.c c.is_blank-is_break.result _ first
          (c.in-Begins.ensures.0, c.in-Begins.ensures.1 ∙ c.if-columns-ne1.false) (c.is_blank-is_break.ensures ∙ ap is_blank c.class.ensures);
      within = omega (arith, shorter, whole, length-drop at body);
      most = less-if c.ascii_run-run.result.count c.args.most few not_all;
      bounds = bounds;
      units = c.ascii_run-run.ensures.units;
    }

pub returns-then-columns-ne1-2-clause-bounds : goal.returns-then-columns-ne1-2-clause-bounds
returns-then-columns-ne1-2-clause-bounds g c =
    let body = c.args.body.now in
    let rest = c.loop-c.rest.now in
    let i = c.loop-c.invariant in
    let within = i.within in
    let stop = length body - length rest in
    let e : stop + length rest ≡ length body = omega arith in
    (longer-next (g.D.BidiData.data c.args.tables.now) body c.args.at c.loop-c.run c.grown.result c.loop-c.is_break rest _ stop c.in-Some-first_char.c
    c.utf8.body i.bounds i.units i.cluster e c.in-Some-first_char.ensures.0 c.in-Begins-simple_kind.ensures.0 c.grown.ensures).bounds

pub returns-then-columns-ne1-2-clause-units : goal.returns-then-columns-ne1-2-clause-units
returns-then-columns-ne1-2-clause-units g c =
    let body = c.args.body.now in
    let rest = c.loop-c.rest.now in
    let i = c.loop-c.invariant in
    let within = i.within in
    let stop = length body - length rest in
    let e : stop + length rest ≡ length body = omega arith in
    (longer-next (g.D.BidiData.data c.args.tables.now) body c.args.at c.loop-c.run c.grown.result c.loop-c.is_break rest _ stop c.in-Some-first_char.c
    c.utf8.body i.bounds i.units i.cluster e c.in-Some-first_char.ensures.0 c.in-Begins-simple_kind.ensures.0 c.grown.ensures).units

pub returns-then-run-most-2-clause-bounds : goal.returns-then-run-most-2-clause-bounds
returns-then-run-most-2-clause-bounds g c =
    let body = c.args.body.now in
    let rest = c.loop-c.rest.now in
    let i = c.loop-c.invariant in
    let within = i.within in
    let stop = length body - length rest in
    let e : stop + length rest ≡ length body = omega arith in
    (longer-next (g.D.BidiData.data c.args.tables.now) body c.args.at c.loop-c.run c.grown-run.result c.loop-c.is_break rest _ stop
    c.in-Some-first_char.c c.utf8.body i.bounds i.units i.cluster e c.in-Some-first_char.ensures.0 c.in-Begins-simple_kind.ensures.0
    c.grown-run.ensures).bounds

pub returns-then-run-most-2-clause-units : goal.returns-then-run-most-2-clause-units
returns-then-run-most-2-clause-units g c =
    let body = c.args.body.now in
    let rest = c.loop-c.rest.now in
    let i = c.loop-c.invariant in
    let within = i.within in
    let stop = length body - length rest in
    let e : stop + length rest ≡ length body = omega arith in
    (longer-next (g.D.BidiData.data c.args.tables.now) body c.args.at c.loop-c.run c.grown-run.result c.loop-c.is_break rest _ stop
    c.in-Some-first_char.c c.utf8.body i.bounds i.units i.cluster e c.in-Some-first_char.ensures.0 c.in-Begins-simple_kind.ensures.0
    c.grown-run.ensures).units

pub loop-c-preserved-else-run-most-2 : goal.loop-c-preserved-else-run-most-2
loop-c-preserved-else-run-most-2 g c =
    let ucd = g.D.BidiData.data c.args.tables.now in
    let body = c.args.body.now in
    let rest = c.loop-c.rest.now in
    let i = c.loop-c.invariant in
    let next = c.in-Some-first_char.ensures in
    let shorter = next.1 in
    let within = i.within in
    let stop = length body - length rest in
    let e : stop + length rest ≡ length body = omega arith in
    let longer = longer-next ucd body c.args.at c.loop-c.run c.grown-run.result c.loop-c.is_break rest _ stop c.in-Some-first_char.c c.utf8.body i.bounds
    i.units i.cluster e next.0 c.in-Begins-simple_kind.ensures.0 c.grown-run.ensures in
    record {
      text = IsUtf8-past_char rest _ c.in-Some-first_char.c i.text next.0;
      cluster = open-behind ucd body c.loop-c.run c.grown-run.result c.loop-c.is_break c.is_blank-is_break-in-Begins-simple_kind.result rest _ stop
          c.in-Some-first_char.c c.utf8.body i.bounds.boundary i.cluster e next.0
          (c.in-Begins-simple_kind.ensures.0, c.in-Begins-simple_kind.ensures.1 ∙ c.if-columns-ne1-2.false)
          (c.is_blank-is_break-in-Begins-simple_kind.ensures ∙ ap is_blank c.class-in-Begins-simple_kind.ensures) c.grown-run.ensures;
      within = omega arith;
      most = grown-less c.loop-c.run c.grown-run.result stop c.args.most c.loop-c.is_break c.grown-run.ensures i.most c.if-run-most-2.false;
      bounds = longer.bounds;
      units = longer.units;
    }

pub loop-c-preserved : goal.loop-c-preserved
loop-c-preserved g c =
    let i = c.loop-c.invariant in
    let next = c.in-Some-first_char.ensures in
    let shorter = next.1 in
    let within = i.within in
    record {
      text = IsUtf8-past_char c.loop-c.rest.now _ c.in-Some-first_char.c i.text next.0;
      cluster = mark-narrow (g.D.BidiData.data c.args.tables.now) c.args.body.now c.loop-c.run.stop c.in-Some-first_char.c c.loop-c.is_break
          c.loop-c.rest.now _ i.cluster next.0 c.in-Extends.ensures;
      within = omega arith;
      most = i.most;
      bounds = i.bounds;
      units = i.units;
    }

pub returns-clause-bounds : goal.returns-clause-bounds
returns-clause-bounds g c =
    let i = c.loop-c.invariant in
    (longer-last (g.D.BidiData.data c.args.tables.now) c.args.body.now c.args.at c.loop-c.run c.grown-2.result c.loop-c.is_break c.loop-c.rest.now
    c.utf8.body i.bounds i.units i.cluster c.in_default-first_char.ensures c.grown-2.ensures).bounds

pub returns-clause-units : goal.returns-clause-units
returns-clause-units g c =
    let i = c.loop-c.invariant in
    (longer-last (g.D.BidiData.data c.args.tables.now) c.args.body.now c.args.at c.loop-c.run c.grown-2.result c.loop-c.is_break c.loop-c.rest.now
    c.utf8.body i.bounds i.units i.cluster c.in_default-first_char.ensures c.grown-2.ensures).units
