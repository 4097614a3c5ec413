-- `left` is the limit without the bytes of the bodies before.
use Rattle.std.proofs.Common.{◌≡◌, ◌+◌, take}
use Rattle.bx_view.specs.Caching.{cached_bytes}
use Rattle.bx_view.proofs.cache.bytes_left.Given as goal

abbrev pub invariant-loop-layout : goal.invariant-loop-layout
invariant-loop-layout l = cached_bytes (take l.layout-index l.cache) + l.left ≡ l.limit
