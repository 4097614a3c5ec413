use Rattle.std.proofs.Common.{◌≡◌, ◌+◌, ◌++◌, ◌∙◌, true, chars, ap, refl, rules}
use Rattle.std.specs.Str.{IsUtf8}
use Rattle.bx_paragraph.specs.declared.direction.Direction.TheVariants.{Either}
use Rattle.bx_paragraph.proofs.Bare.{bare-unformatted}
use Rattle.bx_paragraph.proofs.CutEdits.{bare-same, follows-behind}
use Rattle.bx_paragraph.proofs.text_edit.follow_behind.Goals as goal

pub returns-clause-follows : goal.returns-clause-follows
returns-clause-follows g c = λ e.
    let ucd = g.D.BidiData.data c.args.tables.now in
    let t = c.args.edit.now in
    let x = c.args.before in
    let near_is : IsUtf8 t.near.now = search rules in
    let inserted_is : IsUtf8 t.inserted.now = search rules in
    let passed : c.is_bare_edit.result ≡ true = search rules in
    let bare = bare-same ucd _ _ t _ _ _ _ refl c.range_from-left.ensures.value refl (c.is_bare_edit.ensures passed) in
    let joined = c.as_str.ensures.value ∙ c.in_ok-piece.ensures ∙ ap (λ a. a ++ (t.inserted.now ++ t.behind.now)) c.range_from-from.ensures.value in
    follows-behind ucd t x c.requires.before (t.ahead + x.index) (ap (λ n. n + x.index) c.requires.ahead) bare
    c.args.levels.now c.follow_to_end.new.levels c.as_str.result.now near_is inserted_is joined c.in_ok-follow_to_end.ensures.law

pub returns-clause-unformatted : goal.returns-clause-unformatted
returns-clause-unformatted g c = λ e.
    let passed : c.is_bare_edit.result ≡ true = search rules in
    bare-unformatted (g.D.BidiData.data c.args.tables.now) Either (chars c.args.edit.now.inserted.now)
    (c.is_bare_edit.ensures passed).inserted_is
