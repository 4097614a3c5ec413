use Rattle.std.proofs.Common.{◌≡◌, ◌-◌, ◌+◌, ◌++◌, ◌∙◌, true, length, take, chars, ap, ap₂, arith, rules}
use Rattle.std.specs.Str.{IsUtf8}
use Rattle.bx_paragraph.proofs.CutEdits.{cut-unformatted, follows-within}
use Rattle.bx_paragraph.proofs.text_edit.follow_within.Goals as goal

pub returns-clause-follows : goal.returns-clause-follows
returns-clause-follows g c = λ e.
    let ucd = g.D.BidiData.data c.args.tables.now in
    let t = c.args.edit.now in
    let x = c.args.before in
    let y = c.args.behind in
    let near_is : IsUtf8 t.near.now = search rules in
    let inserted_is : IsUtf8 t.inserted.now = search rules in
    let behind_is : IsUtf8 t.behind.now = search rules in
    let passed : c.is_cut_off.result ≡ true = search rules in
    let stop : y.stop - 0 ≡ y.stop = omega arith in
    let joined = c.as_str.ensures.value ∙ c.in_ok-piece.ensures
    ∙ ap₂ (λ a b. a ++ (t.inserted.now ++ b)) c.range_from-from.ensures.value (c.range.ensures.value ∙ ap (λ n. take n t.behind.now) stop) in
    let near_count : c.char_count.result ≡ length (chars t.near.now) = c.char_count.ensures in
    let removed_count : c.char_count-2.result ≡ length (chars t.removed.now) = c.char_count-2.ensures in
    follows-within ucd t x c.requires.before (t.ahead + x.index) (ap (λ n. n + x.index) c.requires.ahead) y c.requires.behind behind_is
    c.args.levels.now c.follow_between.new.levels (t.ahead + c.char_count.result + c.char_count-2.result + y.index + 1) c.as_str.result.now near_is
    inserted_is joined (omega (arith, c.requires.ahead, near_count, removed_count)) c.in_ok-follow_between.ensures.law (c.is_cut_off.ensures passed)

pub returns-clause-unformatted : goal.returns-clause-unformatted
returns-clause-unformatted g c = λ e.
    let t = c.args.edit.now in
    let x = c.args.before in
    let behind_is : IsUtf8 t.behind.now = search rules in
    let passed : c.is_cut_off.result ≡ true = search rules in
    cut-unformatted (g.D.BidiData.data c.args.tables.now) t x c.requires.before (t.ahead + x.index)
    (ap (λ n. n + x.index) c.requires.ahead) c.args.behind c.requires.behind behind_is (c.is_cut_off.ensures passed)
