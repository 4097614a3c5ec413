use Rattle.std.proofs.Common.{◌≡◌, ◌+◌, All, Option, drop, length, take}
use Rattle.std.specs.Prelude.{IfSome}
use Rattle.bx_keys.specs.declared.key.Key.{Key}
use Rattle.bx_keys.specs.Decoder.{HasSides}
use Rattle.bx_session.specs.Inputs.{presses_from, rest_from}
use Rattle.bx_session.specs.Parts.{part_length}
use Rattle.bx_session.proofs.keeping.decode_part.Given as goal

abbrev pub invariant-loop-byte : goal.invariant-loop-byte
invariant-loop-byte l = record {
  count : l.count ≡ l.byte-index;
  room : length l.presses.items ≡ l.byte-index;
  left : l.count + part_length l.decoder (drop l.byte-index l.bytes) ≡ part_length l.fn.decoder l.bytes;
  presses : l.presses.items ≡ presses_from l.fn.decoder (take l.byte-index l.bytes);
  waits : l.decoder ≡ rest_from l.fn.decoder (take l.byte-index l.bytes);
  sides : All (λ (key : Option Key). IfSome key HasSides) l.presses.items;
}
