use Rattle.std.proofs.Common.{◌≡◌, true, ap, subst, ◌∙◌, get_or}
use Rattle.bx_common.specs.Characters.{is_side}
use Rattle.bx_paragraph.proofs.Starts.{first_is}
use Rattle.bx_paragraph.proofs.layout.ParagraphLayout.first.Goals as goal

pub returns : goal.returns
returns c = λ ucd is.
    ap (λ s. s.offset) c.index.ensures ∙ ap (λ l. (get_or l.starts c.args.row c.index.result.now).offset) c.self.view_is
    ∙ first_is c.args.self.now c.args.row c.index.result.now (subst (λ l. is_side l.w ≡ true) c.self.view_is c.self.invariant.0) c.requires ucd is
