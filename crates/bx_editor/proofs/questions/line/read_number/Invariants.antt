-- The number so far, and the digits that are left.
use Rattle.std.proofs.Common.{◌≡◌, ◌<◌, ◌≤◌, ◌-◌, None, chars, length}
use Rattle.std.specs.Prelude.{fold, unwrap_or}
use Rattle.std.specs.List.{after_first, before_first}
use denote.Text.{Utf8}
use denote.Shadow.{shadow}
use Rattle.bx_editor.specs.questions.Answers.{is_divider, with_digit}
use Rattle.bx_editor.proofs.questions_lemmas.Numbers.{values}
use Rattle.bx_editor.proofs.questions.line.read_number.Given as goal

abbrev pub invariant-loop-c : goal.invariant-loop-c
invariant-loop-c l = record {
  text : shadow (Utf8 l.rest);
  number : fold with_digit None (before_first is_divider (chars l.answer)) ≡ fold with_digit l.number (before_first is_divider (chars l.rest));
  behind : after_first is_divider (chars l.answer) ≡ after_first is_divider (chars l.rest);
  few : length (chars l.rest) ≤ 16;
  small : unwrap_or l.number 0 < values (16 - length (chars l.rest));
}

abbrev pub decreases-loop-c : goal.decreases-loop-c
decreases-loop-c l = length l.rest
