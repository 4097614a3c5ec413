use Rattle.std.proofs.Common.{◌≡◌, ◌∙◌, length, reverse, ap, sym, arith}
use Rattle.std.proofs.lemmas.List.{length-reverse}
use Rattle.bx_text.specs.Text.{TextState, buffers_of, bytes_in}
use Rattle.bx_text.proofs.UndoneTimes.{length-future_of}
use Rattle.bx_text.proofs.text.Text.future_len.Goals as goal

pub returns : goal.returns
returns c =
    let t = c.self.inside in
    let count : c.len.result ≡ length t.future.items = omega (arith, c.len.ensures) in
    count ∙ sym (length-future_of (buffers_of t) (bytes_in t) (reverse t.future.items) ∙ length-reverse t.future.items)
    ∙ ap (λ (s : TextState). length s.edited.future) c.self.view_is
