use Rattle.std.proofs.Common.{◌≡◌, ◌++◌, ◌≤◌, [], length, take, drop, false, ap, sym, ◌∙◌, arith}
use Rattle.std.proofs.lemmas.List.{append-nil, length-map, length-take-le, take-map}
use Rattle.std.proofs.lemmas.Result.{IfOk-weaker, on_ok_weaker}
use Rattle.bx_grid.proofs.Equal.{lists_are}
use Rattle.bx_grid.specs.Seen.{seen, all_seen}
use Rattle.bx_paint.specs.Painting.{Sent, before_tail, columns_sent, tail_sent, tail_after, row_sent}
use Rattle.bx_paint.proofs.Few.{row_same}
use Rattle.bx_paint.proofs.Sent.{row_by, row_bytes}
use Rattle.bx_paint.proofs.writing.write_row.Goals as goal

same_rows : (c : goal.Then-is_same) → row_sent c.args.row c.args.negative c.args.old.now c.args.new.now ≡ record { bytes = []; negative = c.args.negative }
same_rows c =
    let same : c.args.old.now ≡ c.args.new.now = lists_are c.args.old.now c.args.new.now (sym c.is_same.ensures ∙ c.if-is_same.true) in
    ap (λ xs. row_sent c.args.row c.args.negative xs c.args.new.now) same ∙ row_same c.args.row c.args.negative c.args.new.now

pub returns-then-is_same-clause-bytes : goal.returns-then-is_same-clause-bytes
returns-then-is_same-clause-bytes c = sym (append-nil c.args.out.now.painting) ∙ ap (λ (s : Sent). c.args.out.now.painting ++ s.bytes) (sym (same_rows c))

pub returns-then-is_same-clause-rendition : goal.returns-then-is_same-clause-rendition
returns-then-is_same-clause-rendition c = ap (λ (s : Sent). s.negative) (sym (same_rows c))

-- the row's definition, at the parts that the code takes
parts : (c : goal.After-write_tail) → row_sent c.args.row c.args.negative c.args.old.now c.args.new.now
    ≡ tail_after c.args.row c.front_len-front.result (all_seen c.columns-2.result.now)
    (columns_sent c.args.row 0 false c.args.negative c.front.result c.front-2.result)
parts c =
    let new = c.args.new.now in
    let columns = c.columns.result.now in
    let f = c.front_len-front.result in
    let few : f ≤ length new = omega (arith, c.front_len-front.ensures.within, ap length c.columns.ensures, length-map columns seen) in
    let front : take f new ≡ before_tail new =
    ap (take f) (sym c.columns.ensures) ∙ take-map seen f columns ∙ c.front_len-front.ensures.front ∙ ap before_tail c.columns.ensures in
    let count : f ≡ length (before_tail new) = sym (length-take-le f new few) ∙ ap length front in
    row_by c.args.row f c.args.negative c.args.old.now new _ _ _ (c.front-2.ensures ∙ front) count
    (c.front.ensures ∙ ap (λ n. take n c.args.old.now) count)
    (c.columns-2.ensures ∙ c.rest.ensures ∙ ap (λ n. drop n c.args.old.now) count)

pub returns-clause-bytes : goal.returns-clause-bytes
returns-clause-bytes c =
    let out = c.args.out.now.painting in
    let f = c.front_len-front.result in
    let tail = all_seen c.columns-2.result.now in
    on_ok_weaker c.write_tail.result
    (λ (sent : c.write_tail.new.out.painting ≡ c.write_columns.new.out.painting ++ (tail_sent c.args.row f c.in_ok-negative.negative tail).bytes).
    row_bytes c.args.row f c.args.negative c.in_ok-negative.negative c.front.result tail c.front-2.result out c.write_columns.new.out.painting
    c.write_tail.new.out.painting
    c.in_ok-negative.ensures.bytes c.in_ok-negative.ensures.rendition sent ∙ ap (λ (s : Sent). out ++ s.bytes) (sym (parts c)))
    c.write_tail.ensures.bytes

pub returns-clause-rendition : goal.returns-clause-rendition
returns-clause-rendition c =
    let f = c.front_len-front.result in
    let tail = all_seen c.columns-2.result.now in
    IfOk-weaker c.write_tail.result (λ after. after ≡ (tail_sent c.args.row f c.in_ok-negative.negative tail).negative) _
    (λ after is. is ∙ ap (λ n. (tail_sent c.args.row f n tail).negative) c.in_ok-negative.ensures.rendition ∙ ap (λ (s : Sent). s.negative) (sym (parts c)))
    c.write_tail.ensures.rendition
