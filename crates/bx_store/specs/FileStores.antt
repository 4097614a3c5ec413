-- Where a store in a file saves.
use Rattle.std.specs.Prelude.{ℕ, List, Option, Some, None, option_map, string_bytes}
use Rattle.bx_store.specs.Disk.{DiskState}
use Rattle.bx_store.specs.declared.file_store.FilePlace.{FilePlace}

-- where the save in progress goes: a new place, if there is one
abbrev pub target_of : FilePlace → Option FilePlace → FilePlace
target_of place None = place
target_of place (Some new_place) = new_place

abbrev pub path_of : FilePlace → Option FilePlace → List ℕ
path_of place new_place = string_bytes (target_of place new_place).path

abbrev pub draft_path_of : FilePlace → Option FilePlace → List ℕ
draft_path_of place new_place = string_bytes (target_of place new_place).draft_path

-- what is stored is at this path, if that is known
abbrev pub placed_at : List ℕ → Option DiskState → Option (List ℕ)
placed_at path d = option_map (λ _. path) d
