-- A code is in the block that is painted, or in another.
use Rattle.std.proofs.Common.{◌≡◌, ◌≢◌, ℕ, ◌<◌, ◌≤◌, ◌/◌, ◌%◌, length, get_or, set, [], None, ◌∙◌, refl, arith, inl, inr, length-set}
use Rattle.std.proofs.lemmas.Bool.{cases_eq}
use Rattle.bx_ucd.specs.Blocks.{class_at, class_in}
use Rattle.bx_ucd.proofs.PaintLemmas.{class_at_written, class_at_kept}
use Rattle.bx_ucd.proofs.AnswerLemmas.{painted_one}
use Rattle.bx_ucd.proofs.blocks.paint.Goals as goal
use Rattle.bx_ucd.proofs.blocks.paint.Goals.{then-b-first, else-b-first, then-b-last, else-b-last}

pub loop-b-preserved : goal.loop-b-preserved
loop-b-preserved c =
    let bound = c.min-b-end.ensures in
    let within : c.loop-b.b < length c.loop-b.blocks = omega arith in
    let from_low : (code : ℕ) → code / 256 ≡ c.loop-b.b → c.args.painted.range.low ≤ code → c.if-b-first.from ≤ code % 256 =
    λ code here ge. elim c.if-b-first.branch [ then-b-first w ↦ omega arith | else-b-first w ↦ omega arith ] in
    let end_high : (code : ℕ) → code / 256 ≡ c.loop-b.b → code ≤ c.args.painted.range.high → code % 256 < c.if-b-last.end =
    λ code here le. elim c.if-b-last.branch [ then-b-last w ↦ omega arith | else-b-last w ↦ omega arith ] in
    let before_from : (code : ℕ) → code / 256 ≡ c.loop-b.b → code < c.args.painted.range.low → code % 256 < c.if-b-first.from =
    λ code here lt. elim c.if-b-first.branch [ then-b-first w ↦ omega arith | else-b-first w ↦ absurd (omega arith) ] in
    let after_end : (code : ℕ) → code / 256 ≡ c.loop-b.b → c.args.painted.range.high < code → c.if-b-last.end ≤ code % 256 =
    λ code here gt. elim c.if-b-last.branch [ then-b-last w ↦ omega arith | else-b-last w ↦ absurd (omega arith) ] in
    let blocks = c.loop-b.blocks in
    let same : (code : ℕ) → code / 256 ≡ c.loop-b.b → class_in (get_or blocks c.loop-b.b (record { whole = None; each = [] })) (code % 256)
    ≡ class_at blocks code =
    λ code here. rw here refl in
    let written : (code : ℕ) → code / 256 ≡ c.loop-b.b → class_at (set blocks c.loop-b.b c.paint.new.self) code ≡ class_in c.paint.new.self (code % 256) =
    λ code here. class_at_written blocks c.loop-b.b c.paint.new.self code within here in
    let kept : (code : ℕ) → code / 256 ≢ c.loop-b.b → class_at (set blocks c.loop-b.b c.paint.new.self) code ≡ class_at blocks code =
    λ code elsewhere. class_at_kept blocks c.loop-b.b c.paint.new.self code elsewhere in
    record {
      len = length-set blocks c.loop-b.b c.paint.new.self ∙ c.loop-b.invariant.len;
      painted = λ code ge le inside lt. elim (cases_eq (code / 256) c.loop-b.b) [
        | inl here ↦ written code here ∙ c.paint.ensures.painted (code % 256) (from_low code here ge) (end_high code here le)
        | inr elsewhere ↦ kept code elsewhere ∙ c.loop-b.invariant.painted code ge le inside (omega arith)
      ];
      below = λ code lt inside. elim (cases_eq (code / 256) c.loop-b.b) [
        | inl here ↦ written code here ∙ c.paint.ensures.below (code % 256) (before_from code here lt) (omega arith) ∙ same code here
            ∙ c.loop-b.invariant.below code lt inside
        | inr elsewhere ↦ kept code elsewhere ∙ c.loop-b.invariant.below code lt inside
      ];
      above = λ code gt inside. elim (cases_eq (code / 256) c.loop-b.b) [
        | inl here ↦ written code here ∙ c.paint.ensures.above (code % 256) (after_end code here gt) (omega arith) ∙ same code here
            ∙ c.loop-b.invariant.above code gt inside
        | inr elsewhere ↦ kept code elsewhere ∙ c.loop-b.invariant.above code gt inside
      ];
      later = λ code ge inside. kept code (omega arith) ∙ c.loop-b.invariant.later code (omega arith) inside;
    }

pub returns-clause-painted : goal.returns-clause-painted
returns-clause-painted c code inside =
    painted_one c.args.painted code (class_at c.loop-b.blocks code) (class_at c.args.blocks.now code)
    (λ ge le. c.loop-b.invariant.painted code ge le inside (let bound = c.min-b-end.ensures in omega arith))
    (λ lt. c.loop-b.invariant.below code lt inside)
    (λ gt. c.loop-b.invariant.above code gt inside)
