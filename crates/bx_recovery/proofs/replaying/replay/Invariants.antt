use Rattle.std.proofs.Common.{◌≡◌, take}
use Rattle.bx_recovery.proofs.Replays.{HasReplayed}
use Rattle.bx_recovery.proofs.replaying.replay.Given as goal

abbrev pub invariant-loop-byte : goal.invariant-loop-byte
invariant-loop-byte g l =
    HasReplayed (g.D.BidiData.data l.fn.session.tables) l.fn.session.session (take l.byte-index l.keys) l.session.session l.decoder
    × (l.session.tables ≡ l.fn.session.tables)
