-- What is left, told after what was told, is the text.
use Rattle.std.proofs.Common.{◌≡◌, length, option_map}
use Rattle.bx_store.specs.Talk.{stored_by, told}
use Rattle.bx_store.proofs.host_store.HostStore.tell.Given as goal

abbrev pub invariant-loop-rest : goal.invariant-loop-rest
invariant-loop-rest g l = record {
  told : option_map (told l.rest) (g.S.Saver.talk l.self.saver) ≡ option_map (told l.bytes) (g.S.Saver.talk l.fn.self.saver);
  stored : stored_by (g.S.Saver.talk l.self.saver) ≡ stored_by (g.S.Saver.talk l.fn.self.saver);
  lost : l.self.is_lost ≡ l.fn.self.is_lost;
  failures : l.self.failures ≡ l.fn.self.failures;
  draft : l.self.has_draft ≡ l.fn.self.has_draft;
}

abbrev pub decreases-loop-rest : goal.decreases-loop-rest
decreases-loop-rest g l = length l.rest
