use Rattle.std.proofs.Common.{◌≡◌, ◌∙◌, length, reverse, ap, sym, arith}
use Rattle.std.proofs.lemmas.List.{length-reverse}
use Rattle.bx_text.specs.Text.{TextState, buffers_of, bytes_in}
use Rattle.bx_text.proofs.UndoneTimes.{length-past_of}
use Rattle.bx_text.proofs.text.Text.past_len.Goals as goal

pub returns : goal.returns
returns c =
    let t = c.self.inside in
    let count : c.len.result ≡ length t.past.items = omega (arith, c.len.ensures) in
    count ∙ sym (length-past_of (buffers_of t) (bytes_in t) (reverse t.past.items) ∙ length-reverse t.past.items)
    ∙ ap (λ (s : TextState). length s.edited.past) c.self.view_is
