use Rattle.std.proofs.Common.{◌∷◌, [], ◌++◌, sym, ap, ◌∙◌}
use Rattle.bx_keys.specs.Waiting.{fate, head_of}
use Rattle.bx_keys.proofs.Keeping.{added_head, still_decoder, full}
use Rattle.bx_keys.proofs.decoder.Decoder.keep.Goals as goal

pub invariant_of-self : goal.invariant_of-self
invariant_of-self c =
    still_decoder c.self.inside c.args.byte c.self.invariant c.if-self-lt-HEAD_LEN.true
    (ap (λ bs. fate (bs ++ c.args.byte ∷ [])) c.self.view_is ∙ c.requires)

pub returns-then-self-lt-HEAD_LEN : goal.returns-then-self-lt-HEAD_LEN
returns-then-self-lt-HEAD_LEN c =
    added_head c.self.inside c.args.byte c.self.invariant c.if-self-lt-HEAD_LEN.true
    ∙ ap (λ bs. head_of (bs ++ c.args.byte ∷ [])) c.self.view_is

pub returns-else-self-lt-HEAD_LEN : goal.returns-else-self-lt-HEAD_LEN
returns-else-self-lt-HEAD_LEN c =
    sym c.self.view_is
    ∙ full c.self.inside c.args.byte c.self.invariant c.if-self-lt-HEAD_LEN.false
    ∙ ap (λ bs. head_of (bs ++ c.args.byte ∷ [])) c.self.view_is
