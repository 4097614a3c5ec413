use Rattle.std.proofs.Common.{◌∙◌, ap}
use Rattle.bx_paragraph.proofs.Edits.{counted}
use Rattle.bx_paragraph.proofs.layout.ParagraphLayout.edit.Goals as goal

pub edit_levels-requires-clause-counted : goal.edit_levels-requires-clause-counted
edit_levels-requires-clause-counted g c =
    counted (g.D.BidiData.data c.args.tables.now) c.args.self.now c.requires.data
    c.as_str.result.now c.deref.result.now (c.as_str.ensures.value ∙ c.in_ok-make_room.ensures.bytes ∙ ap (λ m. m.body) c.self.view_is)
    (c.deref.ensures.value ∙ ap (λ m. m.starts) c.self.view_is)
