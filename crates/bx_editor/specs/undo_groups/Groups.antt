-- The groups of a past of edits, by the lengths of the past at which they begin.
use Rattle.std.specs.Prelude.{ℕ, Bool, nat_lt, max, min, List, [], ◌∷◌, ◌++◌, filter, if◌then◌else◌, true, false}
use Rattle.bx_ucd.specs.declared.class.Class.{Class}
use Rattle.bx_ucd.specs.declared.class.Class.TheVariants.{B, S, WS}
use Rattle.bx_editor.specs.declared.undo_groups.typing.Kind.{Kind}
use Rattle.bx_editor.specs.declared.undo_groups.typing.Kind.TheVariants.{Separator, Blank, Letter}
use Rattle.bx_editor.specs.declared.undo_groups.typing.Removal.{Removal}
use Rattle.bx_editor.specs.declared.undo_groups.typing.Removal.TheVariants.{Erase, Delete}
use Rattle.bx_editor.specs.declared.undo_groups.typing.Typing.{Typing}
use Rattle.bx_editor.specs.declared.undo_groups.typing.Typing.TheVariants.{Off, Word, Blanks, Erasing, Deleting}

-- the numbers below n
abbrev pub below : ℕ → List ℕ → List ℕ
below n numbers = filter (λ r. nat_lt r n) numbers

-- the numbers above n
abbrev pub above : ℕ → List ℕ → List ℕ
above n numbers = filter (λ r. nat_lt n r) numbers

-- the greatest of some numbers, or 0
abbrev pub greatest : List ℕ → ℕ
greatest [] = 0
greatest (r ∷ rs) = max r (greatest rs)

-- the least of some numbers, but at most `last`
abbrev pub least : ℕ → List ℕ → ℕ
least last [] = last
least last (r ∷ rs) = min (least last rs) r

-- the numbers once an edit was made at the past's length n, where it goes on with the group before or begins one
abbrev pub edited : List ℕ → ℕ → Bool → List ℕ
edited numbers n goes_on = if goes_on then below n numbers else below n numbers ++ n ∷ []

-- to which length of the past an undo of a group goes from the length n
abbrev pub run_start : List ℕ → ℕ → ℕ
run_start numbers n = greatest (below n numbers)

-- to which length a redo of a group goes, where the past has the length `last` once all is made again
abbrev pub run_end : List ℕ → ℕ → ℕ → ℕ
run_end numbers n last = least last (above n numbers)

-- ---- which edits go on with the group before, by what was typed last

-- the kind of the characters of a class
abbrev pub kind_of : Class → Kind
kind_of B = Separator
kind_of WS = Blank
kind_of S = Blank
kind_of _ = Letter

-- ---- insertions

-- letters and blanks go on after a letter, and blanks after blanks
abbrev pub goes_on : Typing → Kind → Bool
goes_on Word Separator = false
goes_on Word _ = true
goes_on Blanks Blank = true
goes_on _ _ = false

-- what the next edit may go on with after an insertion of this kind
abbrev pub after_insertion : Kind → Typing
after_insertion Separator = Off
after_insertion Blank = Blanks
after_insertion Letter = Word

-- ---- removals

-- an erasure goes on with erasures, a deletion with deletions
abbrev pub goes_on_removing : Typing → Removal → Bool
goes_on_removing Erasing Erase = true
goes_on_removing Deleting Delete = true
goes_on_removing _ _ = false

-- what the next edit may go on with after a removal
abbrev pub after_removal : Removal → Typing
after_removal Erase = Erasing
after_removal Delete = Deleting
