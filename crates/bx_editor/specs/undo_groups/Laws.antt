-- What the numbers of groups mean, edit by edit. A number is a length of the past, in edits, at which a group begins.
use Rattle.std.specs.Prelude.{◌≡◌, ℕ, zero, suc, ◌+◌, ◌<◌, ◌≤◌, ◌==◌, ◌↔◌, ◌⊎◌, Bool, false, List, Contains, if◌then◌else◌}
use Rattle.std.specs.List.{list_any}
use Rattle.bx_editor.specs.undo_groups.Groups.{edited, run_start, run_end}

-- an edit keeps the numbers below its own, the past's length before it, drops the others, and adds its own if it begins a group
abbrev pub BeginWhereEditsBegin : Type 0
BeginWhereEditsBegin = (numbers : List ℕ) (n : ℕ) (goes_on : Bool) (r : ℕ)
    → Contains (edited numbers n goes_on) r ↔ ((Contains numbers r × (r < n)) ⊎ ((goes_on ≡ false) × (r ≡ n)))

-- an undo after an edit goes to the length at which the edit was made, or, if the edit goes on, to where the group before began
abbrev pub EditIsOfItsRun : Type 0
EditIsOfItsRun = (numbers : List ℕ) (n : ℕ) (goes_on : Bool)
    → run_start (edited numbers n goes_on) (n + 1) ≡ (if goes_on then run_start numbers n else n)

-- a group begins at this length of the past
abbrev pub begins_at : List ℕ → ℕ → Bool
begins_at numbers n = list_any (λ r. r == n) numbers

-- the length after one edit is undone from the length n, and then more until nothing is left or a group begins there
abbrev pub undone : List ℕ → ℕ → ℕ
undone numbers zero = 0
undone numbers (suc n) = if begins_at numbers n then n else undone numbers n

-- the undo of a group goes to this length
abbrev pub UndoEndsWithARun : Type 0
UndoEndsWithARun = (numbers : List ℕ) (n : ℕ) → run_start numbers n ≡ undone numbers n

-- the length after one edit is redone from the length n, and then more until none of `left` is left or a group begins there
abbrev pub redone : List ℕ → ℕ → ℕ → ℕ
redone numbers n zero = n
redone numbers n (suc left) = if begins_at numbers (n + 1) then n + 1 else redone numbers (n + 1) left

-- the redo of a group goes to this length
abbrev pub RedoEndsWithARun : Type 0
RedoEndsWithARun = (numbers : List ℕ) (n left : ℕ) → run_end numbers n (n + left) ≡ redone numbers n left

-- a group ends at the length n of the past: the next begins there, or it is `last`, the length once all is made again
abbrev pub EndsAt : List ℕ → ℕ → ℕ → Type 0
EndsAt numbers last n = (0 < n) × (n ≤ last) × (Contains numbers n ⊎ (n ≡ last))

-- a group begins at the length n of the past, and there is an edit to make again
abbrev pub BeginsAt : List ℕ → ℕ → ℕ → Type 0
BeginsAt numbers last n = (n < last) × (Contains numbers n ⊎ (n ≡ 0))

-- a group that is undone is made again to its end, and a group that is made again is undone to its start
pub record UndoThenRedo : Type 0 where
  pub redone : (numbers : List ℕ) (last n : ℕ) → EndsAt numbers last n → run_end numbers (run_start numbers n) last ≡ n
  pub undone : (numbers : List ℕ) (last n : ℕ) → BeginsAt numbers last n → run_start numbers (run_end numbers n last) ≡ n
