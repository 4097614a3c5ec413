-- The parts of the bytes of a read, which a run journals and obeys one after another. Each ends after a Quit, the only key that
-- ends a session, or with the bytes.
use Rattle.std.specs.Prelude.{◌≡◌, ℕ, suc, Bool, true, false, List, [], ◌∷◌, Option, Some, if◌then◌else◌}
use Rattle.bx_keys.specs.declared.key.Key.{Key}
use Rattle.bx_keys.specs.declared.key.Key.TheVariants.{Quit}
use Rattle.bx_keys.specs.Keys.{head_of, key_after, rest_after}

-- there is a key, and it is Quit
abbrev pub is_quit : Option Key → Bool
is_quit (Some Quit) = true
is_quit key = false

-- no press before the last is a Quit
abbrev pub QuitsLast : List (Option Key) → Type 0
QuitsLast [] = Unit {0}
QuitsLast (key ∷ []) = Unit {0}
QuitsLast (key ∷ next ∷ more) = (is_quit key ≡ false) × QuitsLast (next ∷ more)

-- The number of bytes up to the first that completes a Quit, that byte included; of all bytes if none does. `rest` are the bytes
-- before them that are not a whole key yet.
abbrev pub part_length : List ℕ → List ℕ → ℕ
part_length rest [] = 0
part_length rest (b ∷ bs) = if is_quit (key_after rest b) then 1 else suc (part_length (head_of (rest_after rest b)) bs)
