-- A store's bytes, where it models them, and its failed calls.
use Rattle.std.specs.Prelude.{ℕ, ◌+◌, ◌<◌, ◌==◌, ◌||◌, Bool, true, false, List, [], ◌∷◌, ◌++◌, length, find, Option, Some, None, option_map, if◌then◌else◌}
use Rattle.std.specs.List.{list_any}
use Rattle.std.specs.Str.{bytes_eq}
use Rattle.std.specs.declared.io.ErrorKind.{ErrorKind}
use Rattle.std.specs.declared.io.ErrorKind.TheVariants as kind
use Rattle.bx_store.specs.declared.faults.Faults.{Faults}
use Rattle.bx_store.specs.declared.store.StoreFault.{StoreFault}
use Rattle.bx_store.specs.Faults.{one_more, with_fault}
use Rattle.bx_store.specs.declared.change.Change.{Change}
use Rattle.bx_store.specs.declared.change.Change.TheVariants as changes
use Rattle.bx_store.specs.declared.cause.SaveCause.{SaveCause}
use Rattle.bx_store.specs.declared.cause.SaveCause.TheVariants as cause

-- no failed call, and one more
abbrev pub no_faults : Faults
no_faults = record { count = 0; latest = None }

-- the bytes of an empty draft, and of a draft after an append; None, of a store that does not model them, stays None
abbrev pub no_bytes : Option (List ℕ) → Option (List ℕ)
no_bytes told = option_map (λ _. []) told

abbrev pub with_bytes : List ℕ → Option (List ℕ) → Option (List ℕ)
with_bytes bytes draft = option_map (λ before. before ++ bytes) draft

-- a text that a store keeps at a place: under a name, or under none
pub record Kept : Type 0 where
  pub name : Option (List ℕ)
  pub text : List ℕ

-- A store in memory: its contents, the bytes put since the save began, the number of bytes that fit into the draft's memory,
-- whether a save is in progress, the name under which it has its contents, the name that the save in progress gives them, the texts
-- that it keeps elsewhere, what another program did to its contents, the count of calls, the failed calls, and the number of the
-- call that fails, counted from 1.
pub record MemoryState : Type 0 where
  pub contents : List ℕ
  pub draft : List ℕ
  pub room : ℕ
  pub has_draft : Bool
  pub name : Option (List ℕ)
  pub new_name : Option (List ℕ)
  pub elsewhere : List Kept
  pub change : Change
  pub calls : ℕ
  pub faults : Faults
  pub fail_call : Option ℕ

-- a store that has nothing, and was not called
abbrev pub empty_memory : Option ℕ → MemoryState
empty_memory fail_call = record {
  contents = [];
  draft = [];
  room = 0;
  has_draft = false;
  name = None;
  new_name = None;
  elsewhere = [];
  change = changes.Unchanged;
  calls = 0;
  faults = no_faults;
  fail_call = fail_call;
}

-- ---- names

-- the place has this name
abbrev pub has_name : List ℕ → Option (List ℕ) → Bool
has_name name None = false
has_name name (Some other) = bytes_eq other name

-- something has this name
abbrev pub is_taken : List ℕ → MemoryState → Bool
is_taken name s = has_name name s.name || list_any (λ k. has_name name k.name) s.elsewhere

-- the text under a name, or what was saved under none
abbrev pub is_at : Option (List ℕ) → Option (List ℕ) → Bool
is_at None None = true
is_at None (Some other) = false
is_at (Some name) place = has_name name place

abbrev pub kept_at : Option (List ℕ) → MemoryState → Option (List ℕ)
kept_at place s =
    if is_at place s.name then Some s.contents else option_map (λ (k : Kept). k.text) (find (λ k. is_at place k.name) s.elsewhere)

-- another program takes a name
abbrev pub with_taken : List ℕ → MemoryState → MemoryState
with_taken name s = record s { elsewhere = s.elsewhere ++ record { name = Some name; text = [] } ∷ [] }

-- another program writes the contents
abbrev pub written_by_another : List ℕ → MemoryState → MemoryState
written_by_another bytes s = record s { contents = bytes; change = changes.Unanswered }

-- ---- calls

-- whether a call has the failing call's number
abbrev pub is_call : Option ℕ → ℕ → Bool
is_call None number = false
is_call (Some call) number = number == call

-- whether the next call fails
abbrev pub fails_next : MemoryState → Bool
fails_next s = is_call s.fail_call (one_more s.calls)

-- after a failed call, which ends the save
abbrev pub after_failure : StoreFault → MemoryState → MemoryState
after_failure fault s = record s { has_draft = false; new_name = None; calls = one_more s.calls; faults = with_fault fault s.faults }

-- a failed call tells that another program changed the contents
abbrev pub after_change : StoreFault → MemoryState → MemoryState
after_change fault s = after_failure fault (record s { change = changes.Answered })

-- after a call of begin and of begin_over that succeeded, of begin_as, and of put
abbrev pub after_begin : MemoryState → MemoryState
after_begin s = record s { draft = []; has_draft = true; new_name = None; calls = one_more s.calls }

abbrev pub after_begin_as : List ℕ → MemoryState → MemoryState
after_begin_as name s = record s { draft = []; has_draft = true; new_name = Some name; calls = one_more s.calls }

abbrev pub after_put : List ℕ → MemoryState → MemoryState
after_put bytes s = record s { draft = s.draft ++ bytes; calls = one_more s.calls }

-- the draft's memory may have grown, to this room
abbrev pub with_room : ℕ → MemoryState → MemoryState
with_room room s = record s { room = room }

-- the bytes do not fit into the draft's memory after those put before
abbrev pub LacksRoom : List ℕ → MemoryState → Type 0
LacksRoom bytes s = s.room < length s.draft + length bytes

-- the contents get a new name, if there is one, and those under the name before stay as they were
abbrev pub renamed : Option (List ℕ) → MemoryState → MemoryState
renamed None s = s
renamed (Some name) s = record s { name = Some name; elsewhere = s.elsewhere ++ record { name = s.name; text = s.contents } ∷ [] }

-- the draft becomes the contents, with its memory
abbrev pub with_draft_stored : MemoryState → MemoryState
with_draft_stored s = record s { contents = s.draft; draft = []; room = 0; has_draft = false; change = changes.Unchanged; calls = one_more s.calls }

-- after a commit that succeeded
abbrev pub after_commit : MemoryState → MemoryState
after_commit s = with_draft_stored (record (renamed s.new_name s) { new_name = None })

-- ---- causes of failed calls

-- the cause of a fault, by its kind
abbrev pub cause_of_kind : ErrorKind → SaveCause
cause_of_kind kind.StorageFull = cause.NoSpace
cause_of_kind kind.QuotaExceeded = cause.NoSpace
cause_of_kind kind.PermissionDenied = cause.NotPermitted
cause_of_kind kind.NotFound = cause.FolderGone
cause_of_kind kind.NotADirectory = cause.FolderGone
cause_of_kind kind.ReadOnlyFilesystem = cause.ReadOnly
cause_of_kind kind.FileTooLarge = cause.TooLarge
cause_of_kind kind.OutOfMemory = cause.OutOfMemory
cause_of_kind kind.AlreadyExists = cause.Exists
cause_of_kind _ = cause.Other

-- a fault with this cause
abbrev pub fault : Option SaveCause → StoreFault
fault told = record { cause = told }

-- the cause of a failed put into a store in memory; None if the call was asked to fail
abbrev pub cause_of_put : MemoryState → Option SaveCause
cause_of_put s = if fails_next s then None else Some cause.OutOfMemory

-- of a failed begin and of a failed begin_over: another program changed the contents, if the call was not asked to fail
abbrev pub cause_of_begin : MemoryState → Option SaveCause
cause_of_begin s = if fails_next s then None else Some cause.Changed

-- of a failed begin_as
abbrev pub cause_of_begin_as : List ℕ → MemoryState → Option SaveCause
cause_of_begin_as name s = if fails_next s then None else if is_taken name s then Some cause.Exists else Some cause.OutOfMemory

-- the state after a failed begin or begin_over
abbrev pub after_failed_begin : StoreFault → MemoryState → MemoryState
after_failed_begin fault s = if fails_next s then after_failure fault s else after_change fault s

-- a begin finds a change by another program, and a begin_over finds one that was not answered
abbrev pub is_changed : Change → Bool
is_changed changes.Unchanged = false
is_changed _ = true

abbrev pub is_unanswered : Change → Bool
is_unanswered changes.Unanswered = true
is_unanswered _ = false
