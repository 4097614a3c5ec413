use Rattle.std.proofs.Common.{◌≡◌, ◌++◌, drop}
use Rattle.bx_input.specs.Heard.{all_bytes}
use Rattle.bx_input.proofs.writing.write_keys.Given as goal

-- what is written and the bytes of the keys that are left are what was there and the bytes of all keys
abbrev pub invariant-loop-key : goal.invariant-loop-key
invariant-loop-key l = l.out.items ++ all_bytes (drop l.key-index l.keys) ≡ l.fn.out.items ++ all_bytes l.fn.keys
