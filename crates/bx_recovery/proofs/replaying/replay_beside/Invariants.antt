use Rattle.std.proofs.Common.{◌≡◌, ◌≤◌, [], drop, take}
use Rattle.bx_session.specs.Inputs.{presses_from}
use Rattle.bx_recovery.proofs.Replays.{HasMet, HasReplayed}
use Rattle.bx_recovery.proofs.replaying.replay_beside.Given as goal

abbrev pub invariant-loop-byte : goal.invariant-loop-byte
invariant-loop-byte g l = record {
  goes : HasReplayed (g.D.BidiData.data l.fn.session.tables) l.fn.session.session (take l.byte-index l.keys) l.session.session l.decoder
      × (l.session.tables ≡ l.fn.session.tables);
  met : HasMet (g.D.BidiData.data l.fn.session.tables) l.fn.session.session l.session.session (presses_from [] l.keys)
      (presses_from l.decoder (drop l.byte-index l.keys)) l.file l.met.is_known l.met.keys;
  few : l.met.keys ≤ l.byte-index;
}
