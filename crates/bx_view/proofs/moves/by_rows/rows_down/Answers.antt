use Rattle.std.proofs.Common.{◌≡◌, ◌+◌, ◌-◌, ◌<◌, length, min, refl, subst, sym, ap, arith}
use Rattle.bx_view.specs.FoundRow.{IsNext, IsSameAtEnd, StandsOn, rows_by}
use Rattle.bx_view.proofs.Beyond.{keeps-then}
use Rattle.bx_paragraph.proofs.Starts.{side-some}
use Rattle.bx_view.proofs.CachedRows.{rows-kept}
use Rattle.bx_view.proofs.Walking.{row-within}
use Rattle.bx_view.specs.TextRef.{IsAlong}
use Rattle.std.specs.Prelude.{IfSome}
use Rattle.bx_view.proofs.moves.by_rows.rows_down.Goals as goal

pub loop-done-init : goal.loop-done-init
loop-done-init g c =
    let ucd = g.D.BidiData.data c.args.text_ref.now.tables.now in
    record {
      keeps = record { base = refl; w = refl; cache = c.requires.row.1.by };
      within = omega arith;
      row = c.requires.row;
      along = c.walk_from-walk.ensures;
      stands = λ n on. let e : n ≡ n + 0 = omega arith in subst (StandsOn ucd c.args.view.now c.args.text_ref.now.text.now.edited.text c.args.at) e on;
    }

pub returns-in_default-clause-row : goal.returns-in_default-clause-row
returns-in_default-clause-row g c = λ n on.
    let ucd = g.D.BidiData.data c.args.text_ref.now.tables.now in
    let text = c.args.text_ref.now.text.now.edited.text in
    let i = c.loop-done.invariant in
    let last : n + c.loop-done.done + 1 ≡ length (rows_by ucd c.next_row_along.new.self text) =
    subst (IsNext ucd c.next_row_along.new.self text (n + c.loop-done.done)) c.in_default.is
    (c.in_ok-next.ensures.next (n + c.loop-done.done) (i.stands n on)) in
    let same : c.next_row_along.new.self ≡ c.loop-done.view =
    subst (IsSameAtEnd c.loop-done.view c.next_row_along.new.self) c.in_default.is c.in_ok-next.ensures.same in
    let size : length (rows_by ucd c.next_row_along.new.self text) ≡ length (rows_by ucd c.args.view.now text) =
    ap length (rows-kept ucd c.args.view.now c.next_row_along.new.self text
    (keeps-then ucd c.args.view.now c.loop-done.view c.next_row_along.new.self i.keeps c.next_row_along.ensures.keeps)) in
    let e : n + c.loop-done.done ≡ min (n + c.args.count) (length (rows_by ucd c.args.view.now text) - 1) =
    omega (arith, last, size, c.loop-done-test.true) in
    subst (λ v. StandsOn ucd v text c.loop-done.here (min (n + c.args.count) (length (rows_by ucd c.args.view.now text) - 1))) (sym same)
    (subst (StandsOn ucd c.loop-done.view text c.loop-done.here) e (i.stands n on))

pub loop-done-preserved : goal.loop-done-preserved
loop-done-preserved g c =
    let ucd = g.D.BidiData.data c.args.text_ref.now.tables.now in
    let text = c.args.text_ref.now.text.now.edited.text in
    let i = c.loop-done.invariant in
    let row = i.row in
    let own : StandsOn ucd c.next_row_along.new.self text c.in-Some.next (row.0 + 1) =
    subst (IsNext ucd c.next_row_along.new.self text row.0) c.in-Some.is (c.in_ok-next.ensures.next row.0 row.1) in
    record {
      keeps = keeps-then ucd c.args.view.now c.loop-done.view c.next_row_along.new.self i.keeps c.next_row_along.ensures.keeps;
      within = omega (arith, c.loop-done-test.true);
      along = subst (λ o. IfSome o (IsAlong c.args.text_ref.now c.next_row_along.new.walk)) c.in-Some.is c.in_ok-next.ensures.along;
      row = (row.0 + 1, own);
      stands = λ n on.
          let there : StandsOn ucd c.next_row_along.new.self text c.in-Some.next (n + c.loop-done.done + 1) =
          subst (IsNext ucd c.next_row_along.new.self text (n + c.loop-done.done)) c.in-Some.is
          (c.in_ok-next.ensures.next (n + c.loop-done.done) (i.stands n on)) in
          let e : n + c.loop-done.done + 1 ≡ n + (c.loop-done.done + 1) = omega arith in
          subst (StandsOn ucd c.next_row_along.new.self text c.in-Some.next) e there;
    }

pub returns-clause-row : goal.returns-clause-row
returns-clause-row g c = λ n on.
    let ucd = g.D.BidiData.data c.args.text_ref.now.tables.now in
    let text = c.args.text_ref.now.text.now.edited.text in
    let i = c.loop-done.invariant in
    let v = c.loop-done.view in
    let here = i.stands n on in
    let within : n + c.loop-done.done < length (rows_by ucd v text) =
    row-within ucd v.base v.w (side-some v.w here.side) text c.args.text_ref.now.utf8 c.loop-done.here.paragraph c.loop-done.here.row
    (n + c.loop-done.done) here.is in
    let size : length (rows_by ucd v text) ≡ length (rows_by ucd c.args.view.now text) =
    ap length (rows-kept ucd c.args.view.now v text i.keeps) in
    let e : n + c.loop-done.done ≡ min (n + c.args.count) (length (rows_by ucd c.args.view.now text) - 1) =
    omega (arith, within, size, i.within, c.loop-done-test.false) in
    subst (StandsOn ucd v text c.loop-done.here) e here
