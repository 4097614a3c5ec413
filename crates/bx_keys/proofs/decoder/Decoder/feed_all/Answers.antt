use Rattle.std.proofs.Common.{take, get_or}
use Rattle.std.proofs.lemmas.List.{take_more}
use Rattle.bx_keys.proofs.Taking.{none_taken, one_more_taken}
use Rattle.bx_keys.proofs.decoder.Decoder.feed_all.Goals as goal

pub loop-byte-init : goal.loop-byte-init
loop-byte-init c = rw c.new-keys.ensures.items (none_taken c.args.self.now)

pub loop-byte-preserved : goal.loop-byte-preserved
loop-byte-preserved c =
    rw (take_more c.args.bytes.now c.loop-byte.byte-index 0 c.loop-byte-test.true, c.in_ok-push_key.ensures)
    (one_more_taken c.args.self.now (take c.loop-byte.byte-index c.args.bytes.now) c.loop-byte.keys.items c.loop-byte.decoder c.feed.new.self
    (get_or c.args.bytes.now c.loop-byte.byte-index 0) c.feed.result c.loop-byte.invariant c.feed.ensures.key c.feed.ensures.rest)
