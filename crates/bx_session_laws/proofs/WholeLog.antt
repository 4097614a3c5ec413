-- The log of a device in memory.
use Rattle.std.proofs.Common.{List, [], ◌∷◌, ◌++◌, Option, Some, None, refl, sym, ap, subst, ◌∙◌, append_assoc}
use Rattle.std.proofs.lemmas.List.{append-nil}
use Rattle.bx_session.specs.declared.action.Action.{Action}
use Rattle.bx_session.specs.InMemory.{DeviceState, Logs}
use Rattle.bx_session.specs.Log.{Calls, Obeys}
use Rattle.bx_session_laws.specs.Devices.{HasWholeLog, calls_in}

logs_nothing : (log : Option (List Action)) → Logs log [] log
logs_nothing None = tt
logs_nothing (Some before) = (before, refl, sym (append-nil before))

logs_more : (a b c : Option (List Action)) (first others : List Action) → Logs a first b → Logs b others c → Logs a (first ++ others) c
logs_more a b None first others h k = tt
logs_more a b (Some after) first others h k =
    let one = subst (λ (x : Option (List Action)). Logs a first x) k.1 h in
    (one.0, one.1, k.2 ∙ ap (λ xs. xs ++ others) one.2 ∙ append_assoc one.0 first others)

pub has_whole_log : HasWholeLog
has_whole_log d old new before after [] is = subst (λ (x : DeviceState). Logs old.log [] x.log) (sym is.0) (logs_nothing old.log)
has_whole_log d old new before after (Calls action ∷ more) taken =
    logs_more old.log taken.0.log new.log (action ∷ []) (calls_in more) taken.2.does.log
    (has_whole_log d taken.0 new taken.1 after more taken.3)
has_whole_log d old new before after (Obeys a ∷ more) taken =
    subst (λ (x : Option (List Action)). Logs x (calls_in more) new.log) taken.2.does.log (has_whole_log d taken.0 new taken.1 after more taken.3)
