use Rattle.std.proofs.Common.{◌≡◌, true, take, min}
use Rattle.std.specs.Str.{all_ascii_digits}
use Rattle.std.specs.Str.Parse.{digits_value}
use Rattle.bx_terminal.proofs.token.first_digits.Given as goal

abbrev pub invariant-loop-digit : goal.invariant-loop-digit
invariant-loop-digit l = record {
  count : l.len ≡ l.digit-index;
  number : l.number ≡ min 1000 (digits_value 10 (take l.digit-index l.bytes));
  digits : all_ascii_digits (take l.digit-index l.bytes) ≡ true;
}
