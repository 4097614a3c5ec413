use Rattle.std.proofs.Common.{take}
use Rattle.bx_keys.proofs.Taking.{HasTaken}
use Rattle.bx_keys.proofs.decoder.Decoder.feed_all.Given as goal

abbrev pub invariant-loop-byte : goal.invariant-loop-byte
invariant-loop-byte l = HasTaken l.self (take l.byte-index l.bytes) l.keys.items l.decoder
