-- Bytes that wait for more, and those that a decoder keeps.
use Rattle.std.specs.Prelude.{◌≡◌, ℕ, List, [], ◌∷◌, ◌++◌, option_to_list}
use Rattle.bx_bytes.specs.Pattern.{fate_in}
use Rattle.bx_bytes.specs.declared.fate.Fate.{Fate}
use Rattle.bx_bytes.specs.declared.fate.Fate.TheVariants.{Waits}
use Rattle.bx_keys.specs.Items.{items}
pub use Rattle.bx_keys.specs.Keys.{head_of}
use Rattle.bx_keys.specs.declared.key.Key.{Key}
use Rattle.bx_keys.specs.Keys.{key_after, rest_after}

-- whether bytes are an item (Ends), begin one (Waits) or neither (Breaks)
abbrev pub fate : List ℕ → Fate
fate bs = fate_in items bs

-- no bytes, or the beginning of an item and not the whole of it
abbrev pub IsWaiting : List ℕ → Type 0
IsWaiting rest = fate rest ≡ Waits

-- the bytes that a decoder holds are the head of these waiting bytes
pub record StandsFor (decoder rest : List ℕ) : Type 0 where
  pub waits : IsWaiting rest
  pub is_head : decoder ≡ head_of rest

-- the keys of bytes read one by one by a decoder that keeps only the first twelve waiting bytes
abbrev pub keys_from : List ℕ → List ℕ → List Key
keys_from rest [] = []
keys_from rest (b ∷ bs) = option_to_list (key_after rest b) ++ keys_from (head_of (rest_after rest b)) bs
