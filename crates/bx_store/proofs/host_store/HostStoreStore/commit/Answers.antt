-- The text of the save in progress is stored.
use Rattle.std.proofs.Common.{◌∙◌, ap}
use Rattle.std.proofs.lemmas.Bool.{and_parts}
use Rattle.bx_store.specs.Talk.{stored_by}
use Rattle.bx_store.proofs.TalkSteps.{commit_stores}
use Rattle.bx_store.proofs.host_store.HostStoreStore.commit.Goals as goal

pub returns-in-Ok-clause-stored : goal.returns-in-Ok-clause-stored
returns-in-Ok-clause-stored g c = ap stored_by c.in-Ok.ensures.done ∙ commit_stores (g.S.Saver.talk c.args.self.now.saver) (and_parts _ _ c.requires).1
