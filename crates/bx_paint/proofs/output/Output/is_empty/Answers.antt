use Rattle.std.proofs.Common.{◌≡◌, length, rules, ap, ◌∙◌}
use Rattle.std.specs.Prelude.{vec_len}
use Rattle.bx_paint.specs.Output.{OutputState}
use Rattle.bx_paint.specs.Painting.{is_none}
use Rattle.bx_paint.proofs.Buffers.{none_behind}
use Rattle.bx_paint.proofs.output.Output.is_empty.Goals as goal

pub returns : goal.returns
returns c =
    let all : vec_len c.self.inside.bytes ≡ length c.self.inside.bytes.items = search rules in
    none_behind c.self.inside.bytes.items c.self.inside.start c.len.result c.self.invariant (c.len.ensures ∙ all)
    ∙ ap (λ (o : OutputState). is_none o.painting) c.self.view_is
