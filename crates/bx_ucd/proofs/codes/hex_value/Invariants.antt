use Rattle.std.proofs.Common.{◌≡◌, ◌<◌, drop}
use Rattle.std.specs.List.{list_all}
use Rattle.std.specs.Char.{is_digit}
use Rattle.std.specs.Str.Parse.{digits_value, digits_value_after}
use Rattle.bx_ucd.proofs.HexLemmas.{values}
use Rattle.bx_ucd.proofs.codes.hex_value.Given as goal

abbrev pub invariant-loop-b : goal.invariant-loop-b
invariant-loop-b l = record {
  tested : list_all (λ b. is_digit b 16) l.digits ≡ list_all (λ b. is_digit b 16) (drop l.b-index l.digits);
  value : digits_value 16 l.digits ≡ digits_value_after 16 l.value (drop l.b-index l.digits);
  small : l.value < values l.b-index;
}
