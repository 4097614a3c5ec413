-- Worked examples: stores in memory, and what the clause on a refused put leaves open.
use Rattle.std.proofs.Common.{◌≡◌, ℕ, ◌⊎◌, inl, inr, true, Option, Some, None, Result, Ok, Err, IsOk, OnErr, refl, arith}
use Rattle.std.specs.Prelude.{codes, false, []}
use Rattle.bx_store.specs.Stores.{fault, LacksRoom, MemoryState, after_begin, after_begin_as, after_commit, after_failed_begin, after_failure, after_put, fails_next, no_bytes}
use Rattle.bx_store.specs.Stores.{cause_of_begin_as, empty_memory, is_changed, is_unanswered, kept_at, no_faults, with_bytes, with_room, with_taken, written_by_another}
use Rattle.bx_store.specs.declared.cause.SaveCause.TheVariants.{Changed, Exists, NoSpace}
use Rattle.bx_store.specs.declared.change.Change.TheVariants as changes
use Rattle.bx_store.specs.declared.store.StoreFault.{StoreFault}
use Rattle.bx_store.specs.Faults.{greatest, one_more}

-- a store that has `kept`, and where `draft` is being put, with room for three bytes
abbrev store : Option ℕ → MemoryState
store fail_call = record {
  contents = codes "kept";
  draft = codes "ab";
  room = 3;
  has_draft = true;
  name = None;
  new_name = None;
  elsewhere = [];
  change = changes.Unchanged;
  calls = 2;
  faults = no_faults;
  fail_call = fail_call;
}

abbrev no_space : StoreFault
no_space = fault (Some NoSpace)

pub counts_saturate : one_more greatest ≡ greatest
counts_saturate = refl

pub the_third_call_fails : fails_next (store (Some 3)) ≡ true
the_third_call_fails = refl

pub the_fourth_call_is_not_the_next : fails_next (store (Some 4)) ≡ false
the_fourth_call_is_not_the_next = refl

-- ---- a save

pub a_save_joins_what_was_put :
    (after_commit (with_room 8 (after_put (codes "d") (after_put (codes "c") (after_begin (store None)))))).contents ≡ codes "cd"
a_save_joins_what_was_put = refl

pub nothing_is_stored_before_the_commit : (after_put (codes "c") (store None)).contents ≡ codes "kept"
nothing_is_stored_before_the_commit = refl

pub a_failure_ends_the_save : (after_failure no_space (store None)).has_draft ≡ false
a_failure_ends_the_save = refl

pub the_latest_fault_is_told : (after_failure no_space (store None)).faults.latest ≡ Some no_space
the_latest_fault_is_told = refl

pub a_failure_keeps_what_is_stored : (after_failure no_space (store None)).contents ≡ codes "kept"
a_failure_keeps_what_is_stored = refl

pub a_store_that_models_no_bytes_has_no_draft : with_bytes (codes "c") (no_bytes None) ≡ None
a_store_that_models_no_bytes_has_no_draft = refl

-- ---- a save under another name

abbrev saved_as : MemoryState
saved_as = after_commit (after_put (codes "b") (after_put (codes "a") (after_begin_as (codes "n") (empty_memory None))))

pub it_takes_four_calls : saved_as.calls ≡ 4
it_takes_four_calls = refl

pub the_text_is_under_the_name : kept_at (Some (codes "n")) saved_as ≡ Some (codes "ab")
the_text_is_under_the_name = refl

pub nothing_is_under_no_name : kept_at None saved_as ≡ Some []
nothing_is_under_no_name = refl

-- later saves go there
abbrev saved_there : MemoryState
saved_there = after_commit (after_put (codes "xab") (after_begin saved_as))

pub later_saves_go_there : kept_at (Some (codes "n")) saved_there ≡ Some (codes "xab")
later_saves_go_there = refl

-- and a second name leaves the first as it was
pub a_second_name : kept_at (Some (codes "n")) (after_commit (after_put (codes "z") (after_begin_as (codes "o") saved_there))) ≡ Some (codes "xab")
a_second_name = refl

-- one that fails leads no save elsewhere
pub a_failure_leads_nowhere :
    kept_at None (after_commit (after_put (codes "x") (after_begin (after_failure no_space (after_begin_as (codes "n") (store None)))))) ≡ Some (codes "x")
a_failure_leads_nowhere = refl

pub a_name_is_taken_once : cause_of_begin_as (codes "n") saved_as ≡ Some Exists
a_name_is_taken_once = refl

pub another_takes_a_name : cause_of_begin_as (codes "n") (with_taken (codes "n") (store None)) ≡ Some Exists
another_takes_a_name = refl

pub a_call_that_fails_tells_no_cause : cause_of_begin_as (codes "n") (with_taken (codes "n") (store (Some 3))) ≡ None
a_call_that_fails_tells_no_cause = refl

-- ---- a text that another program changed

abbrev changed : MemoryState
changed = written_by_another (codes "other") (store None)

abbrev answered : MemoryState
answered = after_failed_begin (fault (Some Changed)) changed

pub a_save_finds_it : is_changed changed.change ≡ true
a_save_finds_it = refl

-- as often as it is asked
pub a_second_save_finds_it_too : is_changed (after_failed_begin (fault (Some Changed)) answered).change ≡ true
a_second_save_finds_it_too = refl

pub what_was_written_stays : answered.contents ≡ codes "other"
what_was_written_stays = refl

-- a save over it goes over what was answered, and not over what came later
pub a_save_over_it_may_go : is_unanswered answered.change ≡ false
a_save_over_it_may_go = refl

pub a_later_change_is_told_first : is_unanswered (written_by_another (codes "more") answered).change ≡ true
a_later_change_is_told_first = refl

pub nothing_is_changed_behind_a_save : is_changed (after_commit (after_put (codes "x") (after_begin answered))).change ≡ false
nothing_is_changed_behind_a_save = refl

-- ---- a refused put

fits : (fails_next (store None) ≡ true) ⊎ LacksRoom (codes "c") (store None) → ⊥
fits (inl asked) = cc asked
fits (inr lacks) = omega (arith, lacks)

-- a byte that fits is taken, unless the call was asked to fail
pub a_byte_that_fits_is_taken : {A E : Type 0} (r : Result A E)
    → OnErr r ((fails_next (store None) ≡ true) ⊎ LacksRoom (codes "c") (store None)) → IsOk r
a_byte_that_fits_is_taken (Ok a) full = refl
a_byte_that_fits_is_taken (Err e) full = absurd (fits full)

-- two bytes may be refused: the room is three, and two bytes are there
pub two_bytes_may_be_refused : LacksRoom (codes "cd") (store None)
two_bytes_may_be_refused = omega arith
