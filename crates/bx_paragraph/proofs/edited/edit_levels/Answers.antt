use Rattle.std.proofs.Common.{◌≡◌, ◌∙◌, true, chars, sym, subst, rules}
use Rattle.std.specs.Str.{IsUtf8}
use Rattle.std.proofs.lemmas.Str.{IsCharBoundary-start}
use Rattle.bx_levels.specs.resolve.Edited.{HasNoFormatting}
use Rattle.bx_paragraph.specs.BodyEdits.{changed}
use Rattle.bx_paragraph.proofs.Edits.{levels-follow, plain-if, stays-plain, whole-count}
use Rattle.bx_paragraph.proofs.edited.edit_levels.Goals as goal

pub follow-requires-clause-whole : goal.follow-requires-clause-whole
follow-requires-clause-whole g c =
    let e = c.args.edit.now in
    let known = c.has_none.ensures (search rules) in
    whole-count e.body.now (changed e) c.text_edit-text.result c.text_edit-text.ensures (g.D.BidiData.data c.args.tables.now) c.args.base c.args.levels.now.each.items known c.requires.levels.each_is

pub returns-then-branch-clause-levels : goal.returns-then-branch-clause-levels
returns-then-branch-clause-levels g c =
    let e = c.args.edit.now in
    let known = c.has_none.ensures (search rules) in
    let followed : c.in_ok-follow.field-0 ≡ true = search rules in
    levels-follow e.body.now (changed e) c.text_edit-text.result c.text_edit-text.ensures (g.D.BidiData.data c.args.tables.now) c.args.base c.args.levels.now c.follow.new.levels known
    (c.in_ok-follow.ensures.follows followed) c.requires.levels

pub returns-then-branch-clause-unformatted : goal.returns-then-branch-clause-unformatted
returns-then-branch-clause-unformatted g c = λ e.
    let t = c.args.edit.now in
    let known = c.has_none.ensures (search rules) in
    let followed : c.in_ok-follow.field-0 ≡ true = search rules in
    stays-plain t.body.now (changed t) c.text_edit-text.result c.text_edit-text.ensures (g.D.BidiData.data c.args.tables.now) known (c.in_ok-follow.ensures.unformatted followed)

pub changed_from-requires-clause-from : goal.changed_from-requires-clause-from
changed_from-requires-clause-from g c =
    let body_is : IsUtf8 c.args.edit.now.body.now = search rules in IsCharBoundary-start c.args.edit.now.body.now body_is

pub returns-clause-unformatted : goal.returns-clause-unformatted
returns-clause-unformatted g c = λ e.
    let is = c.as_str-body.ensures.value ∙ c.in_ok-changed.ensures in
    subst (λ text. HasNoFormatting (g.D.BidiData.data c.args.tables.now) (chars text)) is
    (plain-if (g.D.BidiData.data c.args.tables.now) (chars c.as_str-body.result.now) (sym c.are_unformatted.ensures ∙ e))
