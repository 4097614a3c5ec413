-- What the fields of a kept text mean.
use Rattle.std.specs.Prelude.{option_map, string_bytes}
use Rattle.bx_store.specs.Stores as spec
use Rattle.bx_store.specs.declared.kept.Kept.{Kept}

-- a kept text
abbrev pub kept_of : Kept → spec.Kept
kept_of k = record { name = option_map string_bytes k.name; text = k.text.items }
