-- What a decoder makes of bytes: presses, and the bytes that wait. `rest` are the bytes before them that are not a whole key yet, `b` is
-- a byte, `bs` are bytes.
use Rattle.std.specs.Prelude.{ℕ, List, [], ◌∷◌, ◌++◌, option_to_list, Option}
use Rattle.bx_keys.specs.declared.key.Key.{Key}
use Rattle.bx_keys.specs.Keys.{head_of, key_after, rest_after}

-- the presses that bytes give, in order: of each byte the key that it completes, or none
abbrev pub presses_from : List ℕ → List ℕ → List (Option Key)
presses_from rest [] = []
presses_from rest (b ∷ bs) = key_after rest b ∷ presses_from (head_of (rest_after rest b)) bs

-- the bytes that wait after these: of more than 12, which can give no key, the first 12
abbrev pub rest_from : List ℕ → List ℕ → List ℕ
rest_from rest [] = rest
rest_from rest (b ∷ bs) = rest_from (head_of (rest_after rest b)) bs

-- the keys among presses
abbrev pub keys_in : List (Option Key) → List Key
keys_in [] = []
keys_in (key ∷ more) = option_to_list key ++ keys_in more
