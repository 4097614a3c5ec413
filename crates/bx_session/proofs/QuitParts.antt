-- Only a Quit ends a session, so all presses of a part are obeyed.
use Rattle.std.proofs.Common.{◌≡◌, ◌≤◌, ◌+◌, ℕ, suc, Bool, true, false, List, [], ◌∷◌, ◌++◌, Option, Some, None, Result, Ok, Err, refl, sym, ap, subst}
use Rattle.std.proofs.Common.{◌∙◌, append_assoc, take, drop, length, take-append-drop, if◌then◌else◌, arith}
use Rattle.std.specs.Prelude.{◌≢◌}
use Rattle.std.proofs.lemmas.List.{append-nil}
use Rattle.bx_keys.specs.declared.key.Key.{Key}
use Rattle.bx_keys.specs.Keys.{key_after, rest_after}
use Rattle.bx_keys.specs.Waiting.{head_of}
use Rattle.bx_store.specs.declared.store.StoreFault.{StoreFault}
use Rattle.bx_ucd.specs.Data.{Data}
use Rattle.bx_editor.specs.Editor.{Editor}
use Rattle.bx_session.specs.declared.status.Refused.{Refused}
use Rattle.bx_session.specs.declared.status.Refused.TheVariants as refused
use Rattle.bx_session.specs.declared.status.Status.{Status}
use Rattle.bx_session.specs.Inputs.{presses_from, rest_from}
use Rattle.bx_session.specs.Parts.{QuitsLast, is_quit, part_length}
use Rattle.bx_session.specs.Running.{PressAnswer, PressesAll, presses_in}
use Rattle.bx_session.specs.Session.{StoreState, Session}
use Rattle.bx_session.specs.Feeding.{Presses}
use Rattle.bx_session.proofs.Turns.{PressesAll-append}
use Rattle.bx_session.proofs.Typing.{presses_joined, rest_from_both}
use Rattle.bx_session.proofs.KeySizes.{key_goes_on}
use Rattle.bx_session.proofs.Leaving.{Leaves, press_leaves, editor_after}

-- ---- only a Quit ends a session

any_goes_on : (d : Data) (fault : Option StoreFault) (e : Editor) (key : Option Key) → is_quit key ≡ false → e.ended ≡ false → (editor_after d fault e key).ended ≡ false
any_goes_on d fault e None other h = h
any_goes_on d fault e (Some key) other h = key_goes_on d fault e key other ∙ h

left : (d : Data) (fault : Option StoreFault) (s : Session) (key : Option Key) (new : Session) → is_quit key ≡ false → s.editor.ended ≡ false
    → Leaves d fault s key new → new.editor.ended ≡ false
left d fault s key new other runs h = ap (λ (e : Editor). e.ended) h.editor ∙ any_goes_on d fault s.editor key other runs

press_goes_on : (d : Data) (s : Session) (store store' : StoreState) (key : Option Key) (a : Result Status Refused) (new : Session) → s.editor.ended ≡ false
    → is_quit key ≡ false → Presses d s store key a new store' → new.editor.ended ≡ false
press_goes_on d s store store' key (Ok status) new runs other h =
    left d h.0 s key new other runs (press_leaves d h.0 s key (Ok status) new runs (λ e. cc e) h.2)
press_goes_on d s store store' key (Err refused.Edit) new runs other h = ap (λ (x : Session). x.editor.ended) h.2.0 ∙ runs
press_goes_on d s store store' key (Err refused.Paint) new runs other h =
    left d h.0 s key new other runs (press_leaves d h.0 s key (Err refused.Paint) new runs (λ e. cc e) h.2)
press_goes_on d s store store' key (Err refused.Size) new runs other h = absurd h.2

-- no press is left over of presses of which only the last may be a Quit
pub none_left : (d : Data) (s : Session) (store store' : StoreState) (answered : List PressAnswer) (new : Session) (over : List (Option Key))
    → PressesAll d s store answered new store' → QuitsLast (presses_in answered ++ over) → s.editor.ended ≡ false
    → (over ≢ [] → new.editor.ended ≡ true) → over ≡ []
none_left d s store store' answered new [] presses last runs ends = refl
none_left d s store store' [] new (key ∷ over) presses last runs ends =
    absurd (let both : true ≡ false = sym (ends (λ e. cc e)) ∙ ap (λ (x : Session). x.editor.ended) presses.0 ∙ runs in cc both)
none_left d s store store' (a ∷ []) new (key ∷ over) presses last runs ends =
    let mid = press_goes_on d s store presses.1 a.0 a.1 presses.0 runs last.0 presses.3 in
    none_left d presses.0 presses.1 store' [] new (key ∷ over) presses.5 last.1 mid ends
none_left d s store store' (a ∷ b ∷ answered) new (key ∷ over) presses last runs ends =
    let mid = press_goes_on d s store presses.1 a.0 a.1 presses.0 runs last.0 presses.3 in
    none_left d presses.0 presses.1 store' (b ∷ answered) new (key ∷ over) presses.5 last.1 mid ends

-- ---- the presses of a part

most_in : (quits : Bool) (n m : ℕ) → n ≤ m → (if quits then 1 else suc n) ≤ suc m
most_in true n m h = omega arith
most_in false n m h = omega (arith, h)

pub part_most : (rest bs : List ℕ) → part_length rest bs ≤ length bs
part_most rest [] = omega arith
part_most rest (b ∷ bs) =
    let next = head_of (rest_after rest b) in most_in (is_quit (key_after rest b)) (part_length next bs) (length bs) (part_most next bs)

some_in : (quits : Bool) (n : ℕ) → 1 ≤ (if quits then 1 else suc n)
some_in true n = omega arith
some_in false n = omega arith

pub part_some : (rest bs : List ℕ) → 1 ≤ length bs → 1 ≤ part_length rest bs
part_some rest [] some = absurd (omega (arith, some))
part_some rest (b ∷ bs) some = some_in (is_quit (key_after rest b)) (part_length (head_of (rest_after rest b)) bs)

-- what is left of a part behind a byte that completes no Quit
pub left_more : (now next : List ℕ) (b : ℕ) (bs : List ℕ) (key : Option Key) (count total : ℕ) → count + part_length now (b ∷ bs) ≡ total
    → is_quit key ≡ false → key ≡ key_after now b → next ≡ head_of (rest_after now b) → count + 1 + part_length next bs ≡ total
left_more now next b bs key count total was other completes left_is =
    let none : is_quit (key_after now b) ≡ false = ap is_quit (sym completes) ∙ other in
    let step : part_length now (b ∷ bs) ≡ suc (part_length (head_of (rest_after now b)) bs) =
    ap (λ quits. if quits then 1 else suc (part_length (head_of (rest_after now b)) bs)) none in
    omega (arith, was, step, ap (λ xs. part_length xs bs) left_is)

-- a press before others, where it is no Quit
before_last : (key : Option Key) (more : List (Option Key)) → is_quit key ≡ false → QuitsLast more → QuitsLast (key ∷ more)
before_last key [] other last = tt
before_last key (next ∷ more) other last = (other, last)

quits_last_in : (quits : Bool) (rest : List ℕ) (b : ℕ) (bs : List ℕ) (n : ℕ) → is_quit (key_after rest b) ≡ quits
    → QuitsLast (presses_from (head_of (rest_after rest b)) (take n bs)) → QuitsLast (presses_from rest (take (if quits then 1 else suc n) (b ∷ bs)))
quits_last_in true rest b bs n is last = tt
quits_last_in false rest b bs n is last = before_last (key_after rest b) (presses_from (head_of (rest_after rest b)) (take n bs)) is last

pub quits_last : (rest bs : List ℕ) → QuitsLast (presses_from rest (take (part_length rest bs) bs))
quits_last rest [] = tt
quits_last rest (b ∷ bs) =
    let next = head_of (rest_after rest b) in
    quits_last_in (is_quit (key_after rest b)) rest b bs (part_length next bs) refl (quits_last next bs)

-- ---- a part more

-- a part is obeyed whole: the presses so far, the bytes typed and those that wait
pub part_more : {D : Type 0} (ucd : D → Data) (tables tables1 : D) (old now new : Session) (store store1 store2 : StoreState)
    (first rest1 rest2 bytes left_of part behind typed : List ℕ) (count : ℕ) (presses over : List (Option Key)) (answered answered' : List PressAnswer)
    → PressesAll (ucd tables) old store answered now store1 → tables1 ≡ tables → presses_in answered ≡ presses_from first typed
    → rest1 ≡ rest_from first typed → bytes ≡ typed ++ left_of → now.editor.ended ≡ false
    → count ≡ part_length rest1 left_of → part ≡ take count left_of → behind ≡ drop count left_of
    → presses ≡ presses_from rest1 (take count left_of) → rest2 ≡ rest_from rest1 (take count left_of)
    → presses ≡ presses_in answered' ++ over → (over ≢ [] → new.editor.ended ≡ true)
    → PressesAll (ucd tables1) now store1 answered' new store2
    → PressesAll (ucd tables) old store (answered ++ answered') new store2 × (presses_in (answered ++ answered') ≡ presses_from first (typed ++ part))
    × (rest2 ≡ rest_from first (typed ++ part)) × (bytes ≡ (typed ++ part) ++ behind) × (presses_in answered' ≡ presses_from rest1 part)
part_more {D} ucd tables tables1 old now new store store1 store2 first rest1 rest2 bytes left_of part behind typed count presses over answered answered' before
    stay are waits all runs is part_is behind_is decoded waits' obeyed ends feeds =
    let d = ucd tables in
    let feeds' : PressesAll d now store1 answered' new store2 = subst (λ (t : D). PressesAll (ucd t) now store1 answered' new store2) stay feeds in
    let whole : presses_in answered' ++ over ≡ presses_from rest1 (take (part_length rest1 left_of) left_of) =
    sym obeyed ∙ decoded ∙ ap (λ n. presses_from rest1 (take n left_of)) is in
    let none : over ≡ [] =
    none_left d now store1 store2 answered' new over feeds' (subst QuitsLast (sym whole) (quits_last rest1 left_of)) runs ends in
    let here : presses_in answered' ≡ presses_from rest1 part =
    sym (append-nil (presses_in answered'))
    ∙ ap (λ xs. presses_in answered' ++ xs) (sym none)
    ∙ sym obeyed
    ∙ decoded
    ∙ ap (presses_from rest1) (sym part_is) in (
      PressesAll-append d old store answered answered' now store1 new store2 before feeds',
      presses_joined first typed part answered answered' are (here ∙ ap (λ xs. presses_from xs part) waits),
      waits' ∙ ap (rest_from rest1) (sym part_is) ∙ ap (λ xs. rest_from xs part) waits ∙ sym (rest_from_both first typed part),
      all
          ∙ ap (λ xs. typed ++ xs) (sym (take-append-drop count left_of) ∙ ap (λ xs. xs ++ drop count left_of) (sym part_is)
          ∙ ap (λ xs. part ++ xs) (sym behind_is))
          ∙ sym (append_assoc typed part behind),
      here,
    )
