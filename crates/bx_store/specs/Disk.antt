-- The calls by which a store in a file saves, in their order: what the draft has, and which text is stored under which path.
use Rattle.std.specs.Prelude.{ℕ, ◌&&◌, Bool, true, false, List, [], Option, Some, None, option_map, is_some, if◌then◌else◌}
use Rattle.std.specs.Io.Buffered.{writer_buffer, writer_contents}
use Rattle.std.specs.Str.{bytes_eq}
use Rattle.std.specs.declared.io.buffered.BufWriter.{BufWriter}
use Rattle.bx_store.specs.Stores.{with_bytes}
use Rattle.bx_store.specs.Talk.{text_or_none}

-- The draft: its path, its bytes, None if there is none, and whether all of them are synced. What is stored: the path that a synced draft
-- got last, and its bytes.
pub record DiskState : Type 0 where
  pub path : List ℕ
  pub draft : Option (List ℕ)
  pub is_synced : Bool
  pub stored_at : List ℕ
  pub stored : List ℕ

-- the draft is created or emptied, bytes are written to it, and it is synced
abbrev pub created : List ℕ → DiskState → DiskState
created path d = record d { path = path; draft = Some []; is_synced = false }

abbrev pub wrote : List ℕ → DiskState → DiskState
wrote bytes d = record d { draft = with_bytes bytes d.draft; is_synced = false }

abbrev pub synced : DiskState → DiskState
synced d = record d { is_synced = true }

-- The draft gets a path. Of a draft that is not synced, nobody knows what the path has after a crash: it stores nothing.
abbrev pub placed : List ℕ → List ℕ → DiskState → DiskState
placed from to d =
    if bytes_eq from d.path && d.is_synced then record d { draft = None; stored_at = to; stored = text_or_none d.draft }
    else record d { draft = None; stored_at = to; stored = [] }

-- the draft is removed, or nobody knows what it has
abbrev pub dropped : DiskState → DiskState
dropped d = record d { draft = None; is_synced = false }

-- ---- a draft that is open

-- the bytes that were written to it, as far as its writer tells, and those of them that wait in the buffer
abbrev pub contents_of : {F A : Type 0} → (F → Option (List ℕ)) → Option (BufWriter F A) → Option (List ℕ)
contents_of contents None = None
contents_of contents (Some draft) = writer_contents contents draft

abbrev pub buffer_of : {F A : Type 0} → Option (BufWriter F A) → List ℕ
buffer_of None = []
buffer_of (Some draft) = writer_buffer draft

-- ---- what a store has by it

abbrev pub stored_in : Option DiskState → Option (List ℕ)
stored_in d = option_map (λ d. d.stored) d

abbrev pub draft_in : Option DiskState → Option (List ℕ)
draft_in d = option_map (λ d. text_or_none d.draft) d

-- there is a draft at this path, as far as that is known
abbrev pub has_draft_at : List ℕ → Option DiskState → Bool
has_draft_at path None = true
has_draft_at path (Some d) = is_some d.draft && bytes_eq path d.path

-- the path of what is stored
abbrev pub stored_at : Option DiskState → Option (List ℕ)
stored_at d = option_map (λ d. d.stored_at) d
