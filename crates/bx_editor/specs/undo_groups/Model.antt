-- The value of `UndoGroups` of the code: the numbers, and whether room was made for one more.
use Rattle.std.specs.Prelude.{◌≡◌, ℕ, ◌<◌, Bool, true, List, vec_len, vec_capacity, AllPairs}
use Rattle.bx_editor.specs.declared.undo_groups.groups.UndoGroups.TheInside.{Inside}

pub record UndoGroupsState : Type 0 where
  -- the lengths of the past, in edits, at which groups begin
  pub numbers : List ℕ
  -- if it is true, the next edit allocates nothing
  pub room : Bool

-- the value of the code's `UndoGroups`
abbrev pub undo_groups_of : Inside → UndoGroupsState
undo_groups_of r = record { numbers = r.numbers.items; room = r.room }

-- each number is below all later ones
abbrev pub Rise : List ℕ → Type 0
Rise numbers = AllPairs (λ r s. r < s) numbers

-- what always holds of `UndoGroups`
pub record AreUndoGroups (r : Inside) : Type 0 where
  pub rise : Rise r.numbers.items
  pub has_room : r.room ≡ true → vec_len r.numbers < vec_capacity r.numbers
