use Rattle.std.proofs.Common.{◌≡◌, ◌<◌, ◌≤◌, ◌-◌, ◌∙◌, ℕ, suc, List, false, Option, None, chars, length, ap, sym, subst, arith, refl, rules}
use Rattle.std.specs.Prelude.{fold, unwrap_or}
use Rattle.std.specs.List.{after_first, before_first}
use Rattle.std.proofs.lemmas.Str.{IsUtf8-past_char}
use Rattle.bx_editor.specs.questions.Answers.{is_divider, with_digit}
use Rattle.bx_editor.proofs.questions_lemmas.Numbers.{values, some-values, few-values, with-digit-small, before-here, after-here, before-more, after-more}
use Rattle.bx_editor.proofs.questions_lemmas.OneMore.{no-chars}
use Rattle.bx_editor.proofs.questions.line.read_number.Goals as goal

pub loop-c-init : goal.loop-c-init
loop-c-init c = record { text = search rules; number = refl; behind = refl; few = c.requires.few; small = some-values (16 - length (chars c.args.answer.now)) }

pub with_digit-number-requires : goal.with_digit-number-requires
with_digit-number-requires c = record {
  small = omega (arith, c.loop-c.invariant.small, few-values (16 - length (chars c.loop-c.rest.now)) (omega arith));
}

pub loop-c-preserved : goal.loop-c-preserved
loop-c-preserved c =
    let inv = c.loop-c.invariant in
    let n : Option ℕ = c.loop-c.number in
    let d : ℕ = c.in-Some.c in
    let rest = chars c.loop-c.rest.now in
    let behind = chars c.in-Some.behind.now in
    let read = c.in-Some.ensures.2 in
    let digit : is_divider d ≡ false = sym c.is_divider.ensures ∙ c.if-is_divider.false in
    let more : suc (16 - length rest) ≡ 16 - length behind = omega (arith, inv.few, ap length read) in
    let now = c.with_digit-number.ensures in
    record {
      text = IsUtf8-past_char c.loop-c.rest.now c.in-Some.behind.now d inv.text c.in-Some.ensures.0;
      number = inv.number ∙ ap (λ (cs : List ℕ). fold with_digit n (before_first is_divider cs)) read
          ∙ ap (λ (cs : List ℕ). fold with_digit n cs) (before-more d behind digit)
          ∙ ap (λ (m : Option ℕ). fold with_digit m (before_first is_divider behind)) (sym now);
      behind = inv.behind ∙ ap (λ (cs : List ℕ). after_first is_divider cs) read ∙ after-more d behind digit;
      few = omega (arith, inv.few, ap length read);
      small = subst (λ k. unwrap_or c.with_digit-number.result 0 < values k) more
          (subst (λ (m : Option ℕ). unwrap_or m 0 < values (suc (16 - length rest))) (sym now) (with-digit-small n d (16 - length rest) inv.small));
    }

pub returns-clause-number : goal.returns-clause-number
returns-clause-number c =
    let none = no-chars c.loop-c.rest.now c.in_default.ensures in
    sym (c.loop-c.invariant.number ∙ ap (λ (cs : List ℕ). fold with_digit c.loop-c.number (before_first is_divider cs)) none)

pub returns-clause-behind : goal.returns-clause-behind
returns-clause-behind c =
    let none = no-chars c.loop-c.rest.now c.in_default.ensures in
    none ∙ sym (c.loop-c.invariant.behind ∙ ap (λ (cs : List ℕ). after_first is_divider cs) none)
