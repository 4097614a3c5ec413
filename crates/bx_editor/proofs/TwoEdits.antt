-- Two edits of one run: the second changes neither the runs nor where the stored text is.
use Rattle.std.proofs.Common.{◌≡◌, ℕ, suc, ◌+◌, Bool, true, false, nat_lt, List, [], ◌∷◌, ◌++◌, length, take, drop, refl, sym, ap, ap₂, ◌∙◌, arith, if◌then◌else◌, append-nil}
use Rattle.std.specs.Prelude.{Option, Some, None}
use Rattle.std.proofs.lemmas.Bool.Decides.{nat_tests}
use Rattle.std.proofs.lemmas.List.{take-append-drop}
use Rattle.std.proofs.lemmas.List.Elements.{filter-append}
use Rattle.bx_editor.specs.undo_groups.Groups.{below, edited}
use Rattle.bx_text.specs.Edits.{splice}
use Rattle.bx_document.specs.History.{insertion, removal}
use Rattle.bx_ucd.specs.Data.{Data}
use Rattle.bx_editor.specs.Editor.{Editor, place_after, rows_of, stored_behind, with_edit}
use Rattle.bx_editor.specs.Putting.{with_selection_replaced}
use Rattle.bx_editor.specs.Region.{region}

below-head : (n r : ℕ) (rs : List ℕ) (b : Bool) → nat_lt r n ≡ b → below (suc n) (below n rs) ≡ below n rs
    → below (suc n) (if b then r ∷ below n rs else below n rs) ≡ (if b then r ∷ below n rs else below n rs)
below-head n r rs true less h =
    let more : nat_lt r (suc n) ≡ true = grind (arith, nat_tests, less) in
    ap (λ b. if b then r ∷ below (suc n) (below n rs) else below (suc n) (below n rs)) more ∙ ap (λ xs. r ∷ xs) h
below-head n r rs false more h = h

below-below : (n : ℕ) (rs : List ℕ) → below (suc n) (below n rs) ≡ below n rs
below-below n [] = refl
below-below n (r ∷ rs) = below-head n r rs (nat_lt r n) refl (below-below n rs)

last-below : (n : ℕ) → below (suc n) (n ∷ []) ≡ n ∷ []
last-below n =
    let less : nat_lt n (suc n) ≡ true = grind (arith, nat_tests) in
    ap (λ b. if b then n ∷ [] else []) less

pub runs-of-two : (numbers : List ℕ) (n : ℕ) → edited (edited numbers n false) (suc n) true ≡ edited numbers n false
runs-of-two numbers n =
    filter-append (λ r. nat_lt r (suc n)) (below n numbers) (n ∷ []) ∙ ap (λ xs. xs ++ below (suc n) (n ∷ [])) (below-below n numbers)
    ∙ ap (λ xs. below n numbers ++ xs) (last-below n)

stored-of : (n stored : ℕ) (b : Bool) → nat_lt n stored ≡ b
    → stored_behind (suc n) (if b then None else Some stored) ≡ (if b then None else Some stored)
stored-of n stored true less = refl
stored-of n stored false more =
    let still : nat_lt (suc n) stored ≡ false = grind (arith, nat_tests, more) in
    ap (λ b. if b then None else Some stored) still

pub stored-of-two : (n : ℕ) (stored : Option ℕ) → stored_behind (suc n) (stored_behind n stored) ≡ stored_behind n stored
stored-of-two n None = refl
stored-of-two n (Some stored) = stored-of n stored (nat_lt n stored) refl

-- the selection replaced in one step of the state, which has two edits in the past
abbrev pub selection_once : Data → Editor → List ℕ → Editor
selection_once d e new =
    let start = (region e).0 in
    let stop = (region e).1 in
    let between = place_after d e (splice e.content.text start stop []) start in
    with_edit d e (insertion (rows_of d e) (removal (rows_of d e) e.content start stop e.place) between new between) (between + length new) false

pub replaced-once : (d : Data) (e : Editor) (new : List ℕ) → selection_once d e new ≡ with_selection_replaced d e new
replaced-once d e new =
    let n = length e.content.past in
    ap₂ (λ runs stored. record (selection_once d e new) { undo_groups = runs; stored = stored }) (sym (runs-of-two e.undo_groups n)) (sym (stored-of-two n e.stored))

-- nothing is spliced out
pub nothing-out : (text : List ℕ) (p : ℕ) → splice text p p [] ≡ text
nothing-out text p = ap (λ xs. xs ++ drop p text) (append-nil (take p text)) ∙ take-append-drop p text
