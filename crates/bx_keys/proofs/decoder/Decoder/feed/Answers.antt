use Rattle.std.proofs.Common.{◌≡◌, [], ◌∷◌, ◌++◌, sym, ap, ◌∙◌}
use Rattle.bx_bytes.specs.declared.fate.Fate.TheVariants.{Waits, Ends, Breaks}
use Rattle.bx_keys.specs.Keys.{key_of}
use Rattle.bx_keys.specs.Waiting.{fate}
use Rattle.bx_keys.proofs.Standing.{stands_for_itself, waiting_key, waiting_rest, ending_key, ending_rest, breaking_key, breaking_rest}
use Rattle.bx_keys.proofs.decoder.Decoder.feed.Goals as goal

waits : (c : goal.After-keep) → fate (c.args.self.now ++ c.args.byte ∷ []) ≡ Waits
waits c = ap (λ bs. fate (bs ++ c.args.byte ∷ [])) (sym c.waiting.ensures.value) ∙ (sym c.fate_after.ensures ∙ c.in-Waits.is)

pub returns-in-Waits-clause-own : goal.returns-in-Waits-clause-own
returns-in-Waits-clause-own c = stands_for_itself c.args.self.now c.waiting.ensures.waits c.waiting.ensures.short

pub returns-in-Waits-clause-key : goal.returns-in-Waits-clause-key
returns-in-Waits-clause-key c = λ rest s. waiting_key c.args.self.now rest c.args.byte s (waits c)

pub returns-in-Waits-clause-rest : goal.returns-in-Waits-clause-rest
returns-in-Waits-clause-rest c = λ rest s. rw c.keep.ensures (waiting_rest c.args.self.now rest c.args.byte s (waits c))

ends : (c : goal.After-forget) → fate (c.args.self.now ++ c.args.byte ∷ []) ≡ Ends
ends c = ap (λ bs. fate (bs ++ c.args.byte ∷ [])) (sym c.waiting.ensures.value) ∙ (sym c.fate_after.ensures ∙ c.in-Ends.is)

pub returns-in-Ends-clause-own : goal.returns-in-Ends-clause-own
returns-in-Ends-clause-own c = stands_for_itself c.args.self.now c.waiting.ensures.waits c.waiting.ensures.short

pub returns-in-Ends-clause-key : goal.returns-in-Ends-clause-key
returns-in-Ends-clause-key c = λ rest s.
    c.key_of-key.ensures.value
    ∙ ap (λ bs. key_of (bs ++ c.args.byte ∷ [])) c.waiting-in-Ends.ensures.value
    ∙ ending_key c.args.self.now rest c.args.byte s (ends c)

pub returns-in-Ends-clause-rest : goal.returns-in-Ends-clause-rest
returns-in-Ends-clause-rest c = λ rest s. rw c.forget.ensures (ending_rest c.args.self.now rest c.args.byte s (ends c))

breaks : (c : goal.After-begin) → fate (c.args.self.now ++ c.args.byte ∷ []) ≡ Breaks
breaks c = ap (λ bs. fate (bs ++ c.args.byte ∷ [])) (sym c.waiting.ensures.value) ∙ (sym c.fate_after.ensures ∙ c.in-Breaks.is)

pub returns-in-Breaks-clause-own : goal.returns-in-Breaks-clause-own
returns-in-Breaks-clause-own c = stands_for_itself c.args.self.now c.waiting.ensures.waits c.waiting.ensures.short

pub returns-in-Breaks-clause-key : goal.returns-in-Breaks-clause-key
returns-in-Breaks-clause-key c = λ rest s. c.begin.ensures.key ∙ breaking_key c.args.self.now rest c.args.byte s (breaks c)

pub returns-in-Breaks-clause-rest : goal.returns-in-Breaks-clause-rest
returns-in-Breaks-clause-rest c = λ rest s. rw c.begin.ensures.rest (breaking_rest c.args.self.now rest c.args.byte s (breaks c))
