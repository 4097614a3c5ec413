use Rattle.std.proofs.Common.{◌≡◌, ℕ, ◌+◌, ◌<◌, ◌==◌, true, false, [], ◌∷◌, ◌++◌, length, sym, ap, subst, ◌∙◌, arith}
use Rattle.std.proofs.lemmas.Bool.Decides.{nat_tests}
use Rattle.std.proofs.lemmas.Str.{IsCharBoundary-start}
use Rattle.bx_rows.specs.cells.UnitFacts.{units_from}
use Rattle.bx_rows.proofs.cells_lemmas.Rest.{none-behind}
use Rattle.bx_rows.specs.RowScan.{IsInOrder, IsRead, new_scan}
use Rattle.bx_rows.proofs.RowReads.{in_turn-new, read-new, read-last, read-empty, some-if}
use Rattle.bx_rows.proofs.RowUnits.{starts-of-some, starts-of-none}
use Rattle.bx_rows.proofs.start_search.row_starts.Goals as goal

is_none : (n : ℕ) → true ≡ (n == 0) → n ≡ 0
is_none n h = grind (arith, nat_tests)

is_some : (n : ℕ) → false ≡ (n == 0) → 0 < n
is_some n h = grind (arith, nat_tests)

pub returns-then-is_empty : goal.returns-then-is_empty
returns-then-is_empty g c =
    c.in_ok-push.ensures.items
    ∙ ap (λ xs. xs ++ record { offset = 0; units = 0; chars = 0 } ∷ []) c.new-starts.ensures.items
    ∙ sym (starts-of-none (g.D.BidiData.data c.args.tables.now) c.args.w c.args.body.now (is_none (length c.args.body.now) c.if-is_empty.ensures))

pub loop-at-init : goal.loop-at-init
loop-at-init g c =
    let ucd = g.D.BidiData.data c.args.tables.now in
    let body = c.args.body.now in
    let w = c.args.w in
    record {
      in_turn = subst (λ s. IsInOrder w body s 0) (sym c.new_scan-scan.ensures) (in_turn-new w body c.utf8.body);
      boundary = IsCharBoundary-start body c.utf8.body;
      read = subst (λ s. IsRead ucd w body c.new-starts.result.items s (units_from ucd w body 0)) (sym c.new_scan-scan.ensures)
          (subst (λ xs. IsRead ucd w body xs (new_scan (record { offset = 0; units = 0; chars = 0 })) (units_from ucd w body 0))
          (sym c.new-starts.ensures.items)
          (read-new ucd w body));
    }

pub loop-at-preserved : goal.loop-at-preserved
loop-at-preserved g c = record {
  in_turn = c.in_ok-next.ensures.in_turn;
  boundary = c.in_ok-next.ensures.stop.1;
  read = c.in_ok-next.ensures.read (c.read_run-behind.ensures.read c.loop-at.starts.items c.loop-at.invariant.read);
}

pub returns-then-scan-eq0 : goal.returns-then-scan-eq0
returns-then-scan-eq0 g c =
    let ucd = g.D.BidiData.data c.args.tables.now in
    let body = c.args.body.now in
    let w = c.args.w in
    let starts = c.loop-at.starts.items in
    let i = c.loop-at.invariant in
    let all = subst (λ r. IsRead ucd w body starts c.loop-at.scan r) (none-behind ucd w body c.loop-at.at c.loop-at-test.false) i.read in
    let none = c.if-scan-eq0.true in
    starts-of-some ucd w body starts c.utf8.body (is_some (length body) c.if-is_empty.ensures)
    (read-empty ucd w body starts c.loop-at.scan all (omega (arith, none)) (omega (arith, none)))

pub returns : goal.returns
returns g c =
    let ucd = g.D.BidiData.data c.args.tables.now in
    let body = c.args.body.now in
    let w = c.args.w in
    let starts = c.loop-at.starts.items in
    let i = c.loop-at.invariant in
    let all = subst (λ r. IsRead ucd w body starts c.loop-at.scan r) (none-behind ucd w body c.loop-at.at c.loop-at-test.false) i.read in
    starts-of-some ucd w body c.push-2.new.self.items c.utf8.body (is_some (length body) c.if-is_empty.ensures)
    (read-last ucd w body starts c.loop-at.scan c.push-2.new.self.items all (some-if (c.loop-at.scan.last + c.loop-at.scan.count) c.if-scan-eq0.false)
    c.in_ok-push-2.ensures.items)
