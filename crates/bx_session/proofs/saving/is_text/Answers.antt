use Rattle.std.proofs.Common.{◌≡◌, ℕ, List, ◌++◌, sym, ap, ◌∙◌, append_assoc}
use Rattle.std.proofs.lemmas.List.{append_cancel_left}
use Rattle.bx_session.proofs.saving.is_text.Goals as goal

-- the next piece extends the compared prefix
passed_more : (text done left s after : List ℕ) → text ≡ done ++ left → left ≡ s ++ after → text ≡ (done ++ s) ++ after
passed_more text done left s after e h = e ∙ ap (λ l. done ++ l) h ∙ sym (append_assoc done s after)

-- if both are equal, the rest of one begins like the rest of the other
begins_so : (text bytes done left rest s after : List ℕ) → text ≡ done ++ left → bytes ≡ done ++ rest → left ≡ s ++ after → text ≡ bytes
    → s ++ after ≡ rest
begins_so text bytes done left rest s after e f h same = sym h ∙ append_cancel_left done left rest (sym e ∙ same ∙ f)

pub loop-piece-preserved : goal.loop-piece-preserved
loop-piece-preserved c =
    let h = c.loop-piece.invariant.2 in
    let s = c.in-Some.piece.now in (
      tt,
      tt,
      (
        h.0 ++ s,
        passed_more c.args.pieces h.0 c.loop-piece.piece-iterator s c.next.new.self h.1 c.in-Some.ensures.steps.0,
        passed_more c.args.bytes.now h.0 c.loop-piece.rest.now s c.in-Some-behind.after.now h.2
            (c.in-Some-behind.ensures ∙ ap (λ l. l ++ c.in-Some-behind.after.now) c.as_bytes.ensures.value),
      ),
    )

pub returns-in-None-behind : goal.returns-in-None-behind
returns-in-None-behind c =
    let h = c.loop-piece.invariant.2 in (
      λ f. absurd (cc f),
      λ same. absurd (c.in-None-behind.ensures c.next.new.self
          (begins_so c.args.pieces c.args.bytes.now h.0 c.loop-piece.piece-iterator c.loop-piece.rest.now c.as_bytes.result.now c.next.new.self h.1 h.2
          (c.in-Some.ensures.steps.0 ∙ ap (λ l. l ++ c.next.new.self) (sym c.as_bytes.ensures.value)) same)),
    )
