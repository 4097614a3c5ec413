use Rattle.std.proofs.Common.{◌∙◌, ap, sym, true≢false}
use Rattle.std.specs.Prelude.{is_some}
use Rattle.bx_editor.proofs.editor.Editor.shown_query.Goals as goal

pub unreachable-requires : goal.unreachable-requires
unreachable-requires g c = true≢false (sym (c.sought.ensures.some c.requires.shown) ∙ ap is_some c.in_default.is)
