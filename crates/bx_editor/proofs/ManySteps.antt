-- Many undos or redos, one by one and at once.
use Rattle.std.proofs.Common.{◌≡◌, ℕ, zero, suc, ◌+◌, ◌-◌, ◌≤◌, List, [], ◌∷◌, length, take, map, refl, ap, sym, ◌∙◌, arith}
use Rattle.std.specs.Fn.{iterate}
use Rattle.std.specs.List.{fold}
use Rattle.bx_text.specs.declared.change.Change.{Change}
use Rattle.bx_text.specs.Edits.{Edit, Edited, change_back, change_of, redone, undone, merged, redone_times, undone_times}
use Rattle.bx_text.proofs.UndoneTimes.{no_redo, no_undo}

abbrev pub version : List ℕ → List Edit → List Edit → Edited
version text past future = record { text = text; past = past; future = future }

-- ---- a text with its history, and the place at which a step leaves the cursor

abbrev pub before_latest : ℕ → List Edit → ℕ
before_latest place [] = place
before_latest place (edit ∷ past) = edit.before.place

abbrev pub after_next : ℕ → List Edit → ℕ
after_next place [] = place
after_next place (edit ∷ future) = edit.after.place

abbrev pub back : Edited × ℕ → Edited × ℕ
back at = (undone at.0, before_latest at.1 at.0.past)

abbrev pub again : Edited × ℕ → Edited × ℕ
again at = (redone at.0, after_next at.1 at.0.future)

pub undone-back : (n : ℕ) (t : Edited) (place : ℕ) → undone_times n t ≡ (iterate back n (t, place)).0
undone-back zero t place = refl
undone-back (suc n) t place = undone-back n (undone t) (before_latest place t.past)

pub redone-again : (n : ℕ) (t : Edited) (place : ℕ) → redone_times n t ≡ (iterate again n (t, place)).0
redone-again zero t place = refl
redone-again (suc n) t place = redone-again n (redone t) (after_next place t.future)

none-back : (n : ℕ) (text : List ℕ) (future : List Edit) (place : ℕ) → (iterate back n (version text [] future, place)).1 ≡ place
none-back zero text future place = refl
none-back (suc n) text future place = none-back n text future place

none-again : (n : ℕ) (text : List ℕ) (past : List Edit) (place : ℕ) → (iterate again n (version text past [], place)).1 ≡ place
none-again zero text past place = refl
none-again (suc n) text past place = none-again n text past place

-- the place of the one change that many steps make
pub place-back : (n : ℕ) (text : List ℕ) (past future : List Edit) (c : Change)
    → (fold merged c (map change_back (take n past))).place ≡ (iterate back n (version text past future, c.place)).1
place-back zero text past future c = refl
place-back (suc n) text [] future c = sym (none-back n text future c.place)
place-back (suc n) text (edit ∷ past) future c = place-back n edit.before.text past (edit ∷ future) (merged c (change_back edit))

pub place-again : (n : ℕ) (text : List ℕ) (past future : List Edit) (c : Change)
    → (fold merged c (map change_of (take n future))).place ≡ (iterate again n (version text past future, c.place)).1
place-again zero text past future c = refl
place-again (suc n) text past [] c = sym (none-again n text past c.place)
place-again (suc n) text past (edit ∷ future) c = place-again n edit.after.text (edit ∷ past) future (merged c (change_of edit))

-- ---- how many edits are then undone, and how many not

pub past-back : (n : ℕ) (text : List ℕ) (past future : List Edit) → length (undone_times n (version text past future)).past ≡ length past - n
past-back zero text past future = omega arith
past-back (suc n) text [] future = ap (λ (t : Edited). length t.past) (no_undo n text future) ∙ omega arith
past-back (suc n) text (edit ∷ past) future = past-back n edit.before.text past (edit ∷ future) ∙ omega arith

pub future-back : (n : ℕ) (text : List ℕ) (past future : List Edit) → n ≤ length past
    → length (undone_times n (version text past future)).future ≡ n + length future
future-back zero text past future few = omega arith
future-back (suc n) text [] future few = absurd (omega (arith, few))
future-back (suc n) text (edit ∷ past) future few = future-back n edit.before.text past (edit ∷ future) (omega (arith, few)) ∙ omega arith

pub past-again : (n : ℕ) (text : List ℕ) (past future : List Edit) → n ≤ length future
    → length (redone_times n (version text past future)).past ≡ length past + n
past-again zero text past future few = omega arith
past-again (suc n) text past [] few = absurd (omega (arith, few))
past-again (suc n) text past (edit ∷ future) few = past-again n edit.after.text (edit ∷ past) future (omega (arith, few)) ∙ omega arith

pub future-again : (n : ℕ) (text : List ℕ) (past future : List Edit) → length (redone_times n (version text past future)).future ≡ length future - n
future-again zero text past future = omega arith
future-again (suc n) text past [] = ap (λ (t : Edited). length t.future) (no_redo n text past) ∙ omega arith
future-again (suc n) text past (edit ∷ future) = future-again n edit.after.text (edit ∷ past) future ∙ omega arith

-- ---- there and back

pub last-step : {A : Type 0} (f : A → A) (n : ℕ) (x : A) → iterate f (suc n) x ≡ f (iterate f n x)
last-step f zero x = refl
last-step f (suc n) x = last-step f n (f x)

-- the latest edit led to the text, and so on
abbrev pub IsPastOf : List ℕ → List Edit → Type 0
IsPastOf text [] = Unit {0}
IsPastOf text (edit ∷ past) = (edit.after.text ≡ text) × IsPastOf edit.before.text past

-- the next edit leads from the text, and so on
abbrev pub IsFutureOf : List ℕ → List Edit → Type 0
IsFutureOf text [] = Unit {0}
IsFutureOf text (edit ∷ future) = (edit.before.text ≡ text) × IsFutureOf edit.after.text future

pub back-and-again : (n : ℕ) (text : List ℕ) (past future : List Edit) → n ≤ length past → IsPastOf text past
    → redone_times n (undone_times n (version text past future)) ≡ version text past future
back-and-again zero text past future few h = refl
back-and-again (suc n) text [] future few h = absurd (omega (arith, few))
back-and-again (suc n) text (edit ∷ past) future few h =
    last-step redone n (undone_times n (version edit.before.text past (edit ∷ future)))
    ∙ ap redone (back-and-again n edit.before.text past (edit ∷ future) (omega (arith, few)) h.1)
    ∙ ap (λ t. version t (edit ∷ past) future) h.0

pub again-and-back : (n : ℕ) (text : List ℕ) (past future : List Edit) → n ≤ length future → IsFutureOf text future
    → undone_times n (redone_times n (version text past future)) ≡ version text past future
again-and-back zero text past future few h = refl
again-and-back (suc n) text past [] few h = absurd (omega (arith, few))
again-and-back (suc n) text past (edit ∷ future) few h =
    last-step undone n (redone_times n (version edit.after.text (edit ∷ past) future))
    ∙ ap undone (again-and-back n edit.after.text (edit ∷ past) future (omega (arith, few)) h.1)
    ∙ ap (λ t. version t past (edit ∷ future)) h.0

-- the place at which the last step leaves the cursor, wherever it was
pub again-place : (n : ℕ) (text : List ℕ) (past future : List Edit) (edit : Edit) (place : ℕ) → n ≤ length past → IsPastOf text (edit ∷ past)
    → (iterate again (suc n) (undone_times (suc n) (version text (edit ∷ past) future), place)).1 ≡ edit.after.place
again-place n text past future edit place few h =
    let undone = undone_times n (version edit.before.text past (edit ∷ future)) in
    let there = sym (redone-again n undone place) ∙ back-and-again n edit.before.text past (edit ∷ future) few h.1 in
    ap (λ (at : Edited × ℕ). at.1) (last-step again n (undone, place))
    ∙ ap (λ (t : Edited). after_next ((iterate again n (undone, place)).1) t.future) there

pub back-place : (n : ℕ) (text : List ℕ) (past future : List Edit) (edit : Edit) (place : ℕ) → n ≤ length future → IsFutureOf text (edit ∷ future)
    → (iterate back (suc n) (redone_times (suc n) (version text past (edit ∷ future)), place)).1 ≡ edit.before.place
back-place n text past future edit place few h =
    let redone = redone_times n (version edit.after.text (edit ∷ past) future) in
    let there = sym (undone-back n redone place) ∙ again-and-back n edit.after.text (edit ∷ past) future few h.1 in
    ap (λ (at : Edited × ℕ). at.1) (last-step back n (redone, place))
    ∙ ap (λ (t : Edited). before_latest ((iterate back n (redone, place)).1) t.past) there
