use Rattle.std.proofs.Common.{sym, ap, subst, length, ◌∙◌}
use Rattle.std.specs.Str.{IsUtf8}
use Rattle.bx_text.specs.Text.{TextState, buffers_of}
use Rattle.bx_text.proofs.Bytes.{length-bytes_of, IsUtf8-bytes_of}
use Rattle.bx_text.proofs.text.Text.len.Goals as goal

pub returns-clause-len : goal.returns-clause-len
returns-clause-len c =
    c.len.ensures ∙ sym (length-bytes_of (buffers_of c.self.inside) c.self.inside.pieces c.self.invariant.in_buffers)
    ∙ ap (λ (t : TextState). length t.edited.text) c.self.view_is

pub returns-clause-utf8 : goal.returns-clause-utf8
returns-clause-utf8 c =
    subst (λ (t : TextState). IsUtf8 t.edited.text) c.self.view_is (IsUtf8-bytes_of (buffers_of c.self.inside) c.self.inside.pieces c.self.invariant.in_buffers)
