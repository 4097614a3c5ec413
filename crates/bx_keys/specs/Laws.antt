-- Laws of items, of bytes that wait, of input in pieces and of the parts of input. `bs` are bytes.
use Rattle.std.specs.Prelude.{◌≡◌, ◌↔◌, ℕ, ◌≤◌, List, [], ◌∷◌, ◌++◌, length, take, filter, flat_map, option_to_list}
use Rattle.std.specs.List.{concat}
use Rattle.bx_bytes.specs.declared.fate.Fate.{Fate}
use Rattle.bx_bytes.specs.declared.fate.Fate.TheVariants.{Waits, Ends, Breaks}
use Rattle.bx_keys.specs.Items.{is_item}
use Rattle.bx_keys.specs.Keys.{Decoding, decoding, key_of}
use Rattle.bx_keys.specs.Waiting.{fate, IsWaiting}
use Rattle.bx_keys.specs.declared.key.Key.{Key}

-- the bytes that input leaves wait; read again alone, they still wait
pub record RestsWait : Type 0 where
  pub left : (bs : List ℕ) → IsWaiting (decoding bs).rest
  pub same : (rest : List ℕ) → IsWaiting rest ↔ (decoding rest ≡ record { keys = []; rest = rest })

-- input cut in two has the keys of the first part, then the keys of the bytes that waited followed by the second part
abbrev pub ComesInPieces : Type 0
ComesInPieces = (bs more : List ℕ) →
    let first : Decoding = decoding bs in
    let second : Decoding = decoding (first.rest ++ more) in
    decoding (bs ++ more) ≡ record { keys = first.keys ++ second.keys; rest = second.rest }

-- ---- the parts of input

-- A part is a whole item, the beginning of one that the byte after it breaks, or one byte that begins none. `after` is the
-- bytes that follow it.
abbrev pub IsPartBy : Fate → List ℕ → List ℕ → Type 0
IsPartBy Ends part after = Unit {0}
IsPartBy Waits part after = (1 ≤ length part) × (fate (part ++ take 1 after) ≡ Breaks)
IsPartBy Breaks part after = length part ≡ 1

-- a part of input, by the bytes that follow it
abbrev pub IsPart : List ℕ → List ℕ → Type 0
IsPart part after = IsPartBy (fate part) part after

-- a sequence of parts, and then bytes that wait
abbrev pub AreParts : List (List ℕ) → List ℕ → Type 0
AreParts [] rest = IsWaiting rest
AreParts (part ∷ parts) rest = IsPart part (concat parts ++ rest) × AreParts parts rest

-- only whole items have keys: all other parts are dropped
abbrev pub keys_of_items : List (List ℕ) → List Key
keys_of_items parts = flat_map (λ item. option_to_list (key_of item)) (filter is_item parts)

-- Input is a sequence of parts, and then bytes that wait. Its keys are the keys of its items, in each division of this kind.
pub record HasParts : Type 0 where
  pub cut : (bs : List ℕ) → (parts : List (List ℕ)) × (concat parts ++ (decoding bs).rest ≡ bs) × AreParts parts (decoding bs).rest
  pub decoded : (parts : List (List ℕ)) (rest : List ℕ) → AreParts parts rest
      → decoding (concat parts ++ rest) ≡ record { keys = keys_of_items parts; rest = rest }
