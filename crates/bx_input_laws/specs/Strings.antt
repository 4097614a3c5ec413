-- The law of control strings.
use Rattle.std.specs.Prelude.{◌≡◌, ◌≤◌, ◌⊎◌, ℕ, Bool, true, false, ◌&&◌, ◌||◌, ◌==◌, List, [], ◌∷◌, ◌++◌, length, map, None}
use Rattle.bx_input.specs.Machine.{Machine, Typed, after_all}
use Rattle.bx_input.specs.Scan.{start}
use Rattle.bx_input.specs.Strings.{is_introducer}
use Rattle.bx_input.specs.declared.pause.Pause.{Pause}

-- the bytes have BEL, or ESC and a backslash
abbrev pub has_end : List ℕ → Bool
has_end [] = false
has_end (b ∷ []) = b == 0x07
has_end (b ∷ c ∷ bs) = (b == 0x07 || (b == 0x1B && c == 0x5C)) || has_end (c ∷ bs)

-- what a control string may have between its first two bytes and its end
pub record IsContent (bs : List ℕ) : Type 0 where
  pub short : length bs ≤ 4096
  pub no_end : has_end bs ≡ false

-- BEL, or ESC and a backslash
abbrev pub IsEnd : List ℕ → Type 0
IsEnd bs = (bs ≡ 0x07 ∷ []) ⊎ (bs ≡ 0x1B ∷ 0x5C ∷ [])

-- outside a paste, with no byte and no notice waiting; an item may be half read
abbrev pub idle_machine : Bool → Pause → List ℕ → Machine
idle_machine erases_by_delete pause rest =
    record { erases_by_delete = erases_by_delete; state = start; pause = pause; string = []; rest = rest; notice = None }

-- A control string outside a paste, where no byte waits, gives no key. It drops an item that is not read to its end, as each known
-- sequence does.
abbrev pub StringsGiveNothing : Type 0
StringsGiveNothing = (erases_by_delete : Bool) (pause : Pause) (rest content end : List ℕ) (introducer : ℕ)
    → is_introducer introducer ≡ true → IsContent content → IsEnd end
    → (after_all (map Typed (0x1B ∷ introducer ∷ (content ++ end))) (idle_machine erases_by_delete pause rest)).keys ≡ []
