-- The states of a run: their stacks have room, and they give the levels.
use Rattle.std.proofs.Common.{◌≡◌, ◌≤◌, ◌+◌, List, [], ◌∷◌, Option, length, refl, ap, arith}
use Rattle.std.specs.Prelude.{All}
use Rattle.std.proofs.lemmas.List.Elements.{All-cons, All-nil}
use Rattle.bx_ucd.specs.declared.class.Class.{Class}
use Rattle.bx_levels.specs.declared.embedding.entry.ExplicitChar.{ExplicitChar}
use Rattle.bx_levels.specs.declared.embedding.state.State.{State}
use Rattle.bx_levels.specs.embedding.Explicit.{role_of, start, next_state, kept_by, explicit_from}
use Rattle.bx_levels.specs.embedding.Stack.{max_depth, top_of}
use Rattle.bx_levels.specs.embedding.StackCalls.{IsRising}
use Rattle.bx_levels.specs.embedding.Laws.{states_from, given_between, StatesGiveLevels, HasRoom, AlwaysHasRoom}
use Rattle.bx_levels.proofs.embedding_lemmas.Rising.{rising_length, rising_top}
use Rattle.bx_levels.proofs.embedding_lemmas.Steps.{rising_next}

-- levels that rise to the greatest at most are few
few_entries : (s : State) → IsRising s.stack → HasRoom s
few_entries s r =
    let a : length s.stack ≤ (top_of s.stack).level + 1 = rising_length s.stack r in
    let b : (top_of s.stack).level ≤ max_depth = rising_top s.stack r in
    omega arith

few_from : (s : State) (cs : List Class) → IsRising s.stack → All HasRoom (states_from s cs)
few_from s [] r = All-cons HasRoom s [] (few_entries s r) (All-nil HasRoom)
few_from s (c ∷ cs) r =
    let t : State = next_state (role_of c) cs s in
    All-cons HasRoom s (states_from t cs) (few_entries s r) (few_from t cs (rising_next (role_of c) cs s r))

pub always_has_room : AlwaysHasRoom
always_has_room level cs h = few_from (start level) cs (h, tt, tt)

give_from : (s : State) (cs : List Class) → given_between (states_from s cs) cs ≡ explicit_from s cs
give_from s [] = refl
give_from s (c ∷ []) = refl
give_from s (c ∷ d ∷ cs) =
    let t : State = next_state (role_of c) (d ∷ cs) s in
    ap (λ (ks : List (Option ExplicitChar)). kept_by (role_of c) c s t ∷ ks) (give_from t (d ∷ cs))

pub states_give_levels : StatesGiveLevels
states_give_levels level cs = give_from (start level) cs
