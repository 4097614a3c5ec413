-- The stack of rising levels, and changes of its list, last entry last.
use Rattle.std.proofs.Common.{◌≡◌, ◌<◌, ◌≤◌, ◌+◌, ℕ, List, [], ◌∷◌, length, reverse, arith}
use Rattle.std.proofs.lemmas.List.{length-reverse}
use Rattle.bx_levels.specs.declared.embedding.entry.Entry.{Entry}
use Rattle.bx_levels.specs.embedding.Stack.{max_depth, top_of}
use Rattle.bx_levels.specs.embedding.StackCalls.{stack_room, IsRising}

pub rising_length : (es : List Entry) → IsRising es → length es ≤ (top_of es).level + 1
rising_length [] r = omega arith
rising_length (e ∷ []) r = omega arith
rising_length (e ∷ f ∷ es) r = let h : length (f ∷ es) ≤ f.level + 1 = rising_length (f ∷ es) r.2 in let k : f.level < e.level =
    r.1 in let a : length (e ∷ f ∷ es) ≡ length (f ∷ es) + 1 = omega arith in omega arith

pub rising_top : (es : List Entry) → IsRising es → (top_of es).level ≤ max_depth
rising_top [] r = omega arith
rising_top (e ∷ es) r = r.0

pub rising_push : (es : List Entry) (e : Entry) → IsRising es → e.level ≤ max_depth → (top_of es).level < e.level → IsRising (e ∷ es)
rising_push [] e r h k = (h, tt, tt)
rising_push (f ∷ es) e r h k = (h, k, r)

-- a stack of rising levels has room for a higher one
pub room : (xs : List Entry) (n : ℕ) → IsRising (reverse xs) → (top_of (reverse xs)).level < n → n ≤ max_depth → length xs < stack_room
room xs n r h k = let a : length (reverse xs) ≤ (top_of (reverse xs)).level + 1 = rising_length (reverse xs) r in let b : length (reverse xs) ≡ length xs =
    length-reverse xs in omega arith
