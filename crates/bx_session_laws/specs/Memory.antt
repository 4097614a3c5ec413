-- A store in memory, as a reader believes in it: what it has is what the latest whole save put. `s` is the store before a save.
use Rattle.std.specs.Prelude.{◌≡◌, ℕ, false, List, [], ◌∷◌, ◌++◌, map, Option, Some, None}
use Rattle.std.specs.List.{concat}
use Rattle.bx_store.specs.Stores.{Kept, MemoryState, after_begin, after_begin_as, after_commit, after_failure, after_put, with_room}
use Rattle.bx_store.specs.declared.store.StoreFault.{StoreFault}

-- puts in sequence, each with the room that the memory for the bytes then has
abbrev pub after_puts : List (ℕ × List ℕ) → MemoryState → MemoryState
after_puts [] s = s
after_puts (put ∷ puts) s = after_puts puts (with_room put.0 (after_put put.1 s))

-- a save that is begun, under a new name if there is one
abbrev pub begins : Option (List ℕ) → MemoryState → MemoryState
begins None s = after_begin s
begins (Some name) s = after_begin_as name s

-- the same, with what was put since
abbrev pub begun : Option (List ℕ) → List (ℕ × List ℕ) → MemoryState → MemoryState
begun name puts s = after_puts puts (begins name s)

-- the name of the contents once such a save is committed, and the texts that are elsewhere then: under a new name, what the store had
-- stays where it was
abbrev pub name_left : Option (List ℕ) → MemoryState → Option (List ℕ)
name_left None s = s.name
name_left (Some name) s = Some name

abbrev pub left_elsewhere : Option (List ℕ) → MemoryState → List Kept
left_elsewhere None s = s.elsewhere
left_elsewhere (Some name) s = s.elsewhere ++ record { name = s.name; text = s.contents } ∷ []

-- A commit stores all that was put since the begin, in order, and nothing else; until then, and where a call fails, the store keeps
-- what it had. A failed call ends the save.
pub record StoresWholeSaves (s : MemoryState) (name : Option (List ℕ)) (puts : List (ℕ × List ℕ)) : Type 0 where
  pub stored : (after_commit (begun name puts s)).contents ≡ concat (map (λ put. put.1) puts)
  pub named : (after_commit (begun name puts s)).name ≡ name_left name s
  pub elsewhere : (after_commit (begun name puts s)).elsewhere ≡ left_elsewhere name s
  pub kept : (begun name puts s).contents ≡ s.contents
  pub failed : (fault : StoreFault) → (after_failure fault (begun name puts s)).contents ≡ s.contents
  pub ended : (fault : StoreFault) → (after_failure fault (begun name puts s)).has_draft ≡ false

-- in any store, whatever is put, under a new name or not
abbrev pub MemoryStoresWholeSaves : Type 0
MemoryStoresWholeSaves = (s : MemoryState) (name : Option (List ℕ)) (puts : List (ℕ × List ℕ)) → StoresWholeSaves s name puts
