-- N0 over a list in three parts, whose middle has no bracket, begins with no NSM, and ends with a type that has a direction.
use Rattle.std.proofs.Common.{append_assoc, ◌≡◌, ◌<◌, ◌+◌, ◌-◌, ◌∙◌, ℕ, List, [], ◌∷◌, ◌++◌, length, take, drop, reverse, refl, ap, ap₂, sym, arith, Bool}
use Rattle.std.proofs.Common.{true, false, Option, Some, None, length-append, length-drop}
use Rattle.std.specs.Prelude.{◌||◌}
use Rattle.std.specs.List.{list_any}
use Rattle.std.proofs.lemmas.List.{reverse-append, take-append-le, drop-append-le}
use Rattle.std.proofs.lemmas.List.Folds.{list_any-append}
use Rattle.std.proofs.Math.Seq.{take-append-add, drop-append-add}
use Rattle.bx_ucd.specs.declared.class.Class.{Class}
use Rattle.bx_levels.specs.brackets.Resolve.{nearest, counts_as, opposite, pair_direction, change_nsms, change_bracket, context_of, resolve_pair}
use Rattle.bx_levels.proofs.brackets_lemmas.Context.{nearest-append, change_length}

nsms_front : (d : Class) (a wr : List Bool) (b r : List Class) → length a ≡ length b → change_nsms d (a ++ false ∷ wr) (b ++ r) ≡ change_nsms d a b ++ r
nsms_front d [] wr [] r e = refl
nsms_front d [] wr (t ∷ b) r e = absurd (omega arith)
nsms_front d (w ∷ a) wr [] r e = absurd (omega arith)
nsms_front d (false ∷ a) wr (t ∷ b) r e = refl
nsms_front d (true ∷ a) wr (t ∷ b) r e = ap (λ ts. d ∷ ts) (nsms_front d a wr b r (omega arith))

-- a bracket before a type that was not NSM changes nothing from there on
front_change : (d : Class) (wf wr : List Bool) (front r : List Class) (i : ℕ) → length wf ≡ length front → i < length front
    → change_bracket d (wf ++ false ∷ wr) (front ++ r) i ≡ change_bracket d wf front i ++ r
front_change d wf wr front r i w h =
    let a : take i (front ++ r) ≡ take i front = take-append-le i front r (omega arith) in
    let b : drop (i + 1) (wf ++ false ∷ wr) ≡ drop (i + 1) wf ++ false ∷ wr = drop-append-le (i + 1) wf (false ∷ wr) (omega arith) in
    let c : drop (i + 1) (front ++ r) ≡ drop (i + 1) front ++ r = drop-append-le (i + 1) front r (omega arith) in
    let l : length (drop (i + 1) wf) ≡ length wf - (i + 1) = length-drop (i + 1) wf in
    let k : length (drop (i + 1) front) ≡ length front - (i + 1) = length-drop (i + 1) front in
    let m : change_nsms d (drop (i + 1) wf ++ false ∷ wr) (drop (i + 1) front ++ r) ≡ change_nsms d (drop (i + 1) wf) (drop (i + 1) front) ++ r =
    nsms_front d (drop (i + 1) wf) wr (drop (i + 1) front) r (omega arith) in
    ap (λ xs. xs ++ d ∷ change_nsms d (drop (i + 1) (wf ++ false ∷ wr)) (drop (i + 1) (front ++ r))) a
    ∙ ap (λ ws. take i front ++ d ∷ change_nsms d ws (drop (i + 1) (front ++ r))) b
    ∙ ap (λ xs. take i front ++ d ∷ change_nsms d (drop (i + 1) wf ++ false ∷ wr) xs) c
    ∙ ap (λ xs. take i front ++ d ∷ xs) m
    ∙ sym (append_assoc (take i front) (d ∷ change_nsms d (drop (i + 1) wf) (drop (i + 1) front)) r)

-- a bracket changes nothing before it
back_change : (d : Class) (wa wb : List Bool) (a back : List Class) (i : ℕ) → length wa ≡ length a
    → change_bracket d (wa ++ wb) (a ++ back) (length a + i) ≡ a ++ change_bracket d wb back i
back_change d wa wb a back i w =
    let n : length a + i + 1 ≡ length a + (i + 1) = omega arith in
    let k : length a + i + 1 ≡ length wa + (i + 1) = omega arith in
    let t : take (length a + i) (a ++ back) ≡ a ++ take i back = take-append-add a back i in
    let b : drop (length a + i + 1) (wa ++ wb) ≡ drop (i + 1) wb = ap (λ j. drop j (wa ++ wb)) k ∙ drop-append-add wa wb (i + 1) in
    let c : drop (length a + i + 1) (a ++ back) ≡ drop (i + 1) back = ap (λ j. drop j (a ++ back)) n ∙ drop-append-add a back (i + 1) in
    ap (λ xs. xs ++ d ∷ change_nsms d (drop (length a + i + 1) (wa ++ wb)) (drop (length a + i + 1) (a ++ back))) t
    ∙ ap (λ ws. (a ++ take i back) ++ d ∷ change_nsms d ws (drop (length a + i + 1) (a ++ back))) b
    ∙ ap (λ xs. (a ++ take i back) ++ d ∷ change_nsms d (drop (i + 1) wb) xs) c
    ∙ append_assoc a (take i back) (d ∷ change_nsms d (drop (i + 1) wb) (drop (i + 1) back))

-- both brackets in front
abbrev pub changed : Option Class → List Bool → ℕ → ℕ → List Class → List Class
changed None was i j ts = ts
changed (Some d) was i j ts = change_bracket d was (change_bracket d was ts i) j

resolved_as : (e context : Class) (was : List Bool) (i j : ℕ) (ts : List Class) (m : Option Class)
    → elim m as (λ x. List Class) [ None ↦ ts | Some d ↦ change_bracket d was (change_bracket d was ts i) j ] ≡ changed m was i j ts
resolved_as e context was i j ts None = refl
resolved_as e context was i j ts (Some d) = refl

-- a pair, by the direction that it takes
pub resolved_by : (e sos : Class) (was : List Bool) (i j : ℕ) (ts : List Class)
    → resolve_pair e sos was (i, j) ts ≡ changed (pair_direction e (context_of sos ts i) (take (j - i - 1) (drop (i + 1) ts))) was i j ts
resolved_by e sos was i j ts = resolved_as e (context_of sos ts i) was i j ts (pair_direction e (context_of sos ts i) (take (j - i - 1) (drop (i + 1) ts)))

front_changed : (m : Option Class) (wf wr : List Bool) (front r : List Class) (i j : ℕ) → length wf ≡ length front → i < j → j < length front
    → changed m (wf ++ false ∷ wr) i j (front ++ r) ≡ changed m wf i j front ++ r
front_changed None wf wr front r i j w h k = refl
front_changed (Some d) wf wr front r i j w h k =
    let l : length (change_bracket d wf front i) ≡ length front = change_length d wf front i (omega arith) in
    ap (λ ts. change_bracket d (wf ++ false ∷ wr) ts j) (front_change d wf wr front r i w (omega arith))
    ∙ front_change d wf wr (change_bracket d wf front i) r j (omega arith) (omega arith)

pub in_front : (e sos : Class) (wf wr : List Bool) (front r : List Class) (i j : ℕ) → length wf ≡ length front → i < j → j < length front
    → resolve_pair e sos (wf ++ false ∷ wr) (i, j) (front ++ r) ≡ resolve_pair e sos wf (i, j) front ++ r
in_front e sos wf wr front r i j w h k =
    let c : context_of sos (front ++ r) i ≡ context_of sos front i = ap (λ xs. nearest sos (reverse xs)) (take-append-le i front r (omega arith)) in
    let l : length (drop (i + 1) front) ≡ length front - (i + 1) = length-drop (i + 1) front in
    let n : take (j - i - 1) (drop (i + 1) (front ++ r)) ≡ take (j - i - 1) (drop (i + 1) front) =
    ap (take (j - i - 1)) (drop-append-le (i + 1) front r (omega arith)) ∙ take-append-le (j - i - 1) (drop (i + 1) front) r (omega arith) in
    resolved_by e sos (wf ++ false ∷ wr) i j (front ++ r)
    ∙ ap₂ (λ x xs. changed (pair_direction e x xs) (wf ++ false ∷ wr) i j (front ++ r)) c n
    ∙ front_changed (pair_direction e (context_of sos front i) (take (j - i - 1) (drop (i + 1) front))) wf wr front r i j w h k
    ∙ ap (λ xs. xs ++ r) (sym (resolved_by e sos wf i j front))

-- both after
back_changed : (m : Option Class) (wa wb : List Bool) (a back : List Class) (i j : ℕ) → length wa ≡ length a
    → changed m (wa ++ wb) (length a + i) (length a + j) (a ++ back) ≡ a ++ changed m wb i j back
back_changed None wa wb a back i j w = refl
back_changed (Some d) wa wb a back i j w =
    ap (λ ts. change_bracket d (wa ++ wb) ts (length a + j)) (back_change d wa wb a back i w) ∙ back_change d wa wb a (change_bracket d wb back i) j w

pub in_back : (e sos y : Class) (wa wb : List Bool) (a back : List Class) (i j : ℕ) → length wa ≡ length a → nearest sos (reverse a) ≡ y → i < j
    → resolve_pair e sos (wa ++ wb) (length a + i, length a + j) (a ++ back) ≡ a ++ resolve_pair e y wb (i, j) back
in_back e sos y wa wb a back i j w near h =
    let c : context_of sos (a ++ back) (length a + i) ≡ context_of y back i =
    ap (λ xs. nearest sos (reverse xs)) (take-append-add a back i) ∙ ap (nearest sos) (reverse-append a (take i back))
    ∙ nearest-append sos (reverse (take i back)) (reverse a) ∙ ap (λ s. nearest s (reverse (take i back))) near in
    let k : length a + j - (length a + i) - 1 ≡ j - i - 1 = omega arith in
    let l : length a + i + 1 ≡ length a + (i + 1) = omega arith in
    let n : take (length a + j - (length a + i) - 1) (drop (length a + i + 1) (a ++ back)) ≡ take (j - i - 1) (drop (i + 1) back) =
    ap₂ (λ u v. take u (drop v (a ++ back))) k l ∙ ap (take (j - i - 1)) (drop-append-add a back (i + 1)) in
    resolved_by e sos (wa ++ wb) (length a + i) (length a + j) (a ++ back)
    ∙ ap₂ (λ x xs. changed (pair_direction e x xs) (wa ++ wb) (length a + i) (length a + j) (a ++ back)) c n
    ∙ back_changed (pair_direction e (context_of y back i) (take (j - i - 1) (drop (i + 1) back))) wa wb a back i j w
    ∙ ap (λ xs. a ++ xs) (sym (resolved_by e y wb i j back))

-- one before and one after, with `mid` between
abbrev pub changed_both : Option Class → List Bool → List Bool → ℕ → ℕ → List Class → List Class → List Class → List Class
changed_both None wf wb i j front mid back = front ++ (mid ++ back)
changed_both (Some d) wf wb i j front mid back = change_bracket d wf front i ++ (mid ++ change_bracket d wb back j)

both_changed : (m : Option Class) (wf wm wb : List Bool) (front mid back : List Class) (i j : ℕ) → length wf ≡ length front
    → length (false ∷ wm) ≡ length mid → i < length front
    → changed m (wf ++ (false ∷ wm ++ wb)) i (length front + (length mid + j)) (front ++ (mid ++ back)) ≡ changed_both m wf wb i j front mid back
both_changed None wf wm wb front mid back i j w v h = refl
both_changed (Some d) wf wm wb front mid back i j w v h =
    let was : List Bool = wf ++ (false ∷ wm ++ wb) in
    let p : ℕ = length front + (length mid + j) in
    let new : List Class = change_bracket d wf front i in
    let l : length new ≡ length front = change_length d wf front i h in
    let n : length (new ++ mid) ≡ length new + length mid = length-append new mid in
    let k : length (wf ++ false ∷ wm) ≡ length wf + length (false ∷ wm) = length-append wf (false ∷ wm) in
    let at : p ≡ length (new ++ mid) + j = omega arith in
    ap (λ ts. change_bracket d was ts p) (front_change d wf (wm ++ wb) front (mid ++ back) i w h ∙ sym (append_assoc new mid back))
    ∙ ap (λ ws. change_bracket d ws ((new ++ mid) ++ back) p) (sym (append_assoc wf (false ∷ wm) wb))
    ∙ ap (change_bracket d ((wf ++ false ∷ wm) ++ wb) ((new ++ mid) ++ back)) at
    ∙ back_change d (wf ++ false ∷ wm) wb (new ++ mid) back j (omega arith)
    ∙ append_assoc new mid (change_bracket d wb back j)

take_inside : (front mid back : List Class) (i j : ℕ) → i < length front
    → take (length front + (length mid + j) - i - 1) (drop (i + 1) (front ++ (mid ++ back))) ≡ drop (i + 1) front ++ (mid ++ take j back)
take_inside front mid back i j h =
    let l : length (drop (i + 1) front) ≡ length front - (i + 1) = length-drop (i + 1) front in
    let k : length front + (length mid + j) - i - 1 ≡ length (drop (i + 1) front) + (length mid + j) = omega arith in
    ap₂ take k (drop-append-le (i + 1) front (mid ++ back) (omega arith))
    ∙ take-append-add (drop (i + 1) front) (mid ++ back) (length mid + j)
    ∙ ap (λ xs. drop (i + 1) front ++ xs) (take-append-add mid back j)

pub around : (e sos : Class) (wf wm wb : List Bool) (front mid back : List Class) (i j : ℕ) → length wf ≡ length front
    → length (false ∷ wm) ≡ length mid → i < length front
    → resolve_pair e sos (wf ++ (false ∷ wm ++ wb)) (i, length front + (length mid + j)) (front ++ (mid ++ back))
    ≡ changed_both (pair_direction e (context_of sos front i) (drop (i + 1) front ++ (mid ++ take j back))) wf wb i j front mid back
around e sos wf wm wb front mid back i j w v h =
    let was : List Bool = wf ++ (false ∷ wm ++ wb) in
    let p : ℕ = length front + (length mid + j) in
    let c : context_of sos (front ++ (mid ++ back)) i ≡ context_of sos front i =
    ap (λ xs. nearest sos (reverse xs)) (take-append-le i front (mid ++ back) (omega arith)) in
    resolved_by e sos was i p (front ++ (mid ++ back))
    ∙ ap₂ (λ x xs. changed (pair_direction e x xs) was i p (front ++ (mid ++ back))) c (take_inside front mid back i j h)
    ∙ both_changed (pair_direction e (context_of sos front i) (drop (i + 1) front ++ (mid ++ take j back))) wf wm wb front mid back i j w v h

-- a pair around two middles that have the same directions takes one direction
abbrev pub HasSame : List Class → List Class → Type 0
HasSame xs ys = (d : Class) → list_any (counts_as d) xs ≡ list_any (counts_as d) ys

pub same_within : (xs ys front back : List Class) → HasSame xs ys → HasSame (front ++ (xs ++ back)) (front ++ (ys ++ back))
same_within xs ys front back h d =
    let p : Class → Bool = counts_as d in
    list_any-append p front (xs ++ back) ∙ ap (λ b. list_any p front || b) (list_any-append p xs back)
    ∙ ap (λ b. list_any p front || (b || list_any p back)) (h d)
    ∙ ap (λ b. list_any p front || b) (sym (list_any-append p ys back)) ∙ sym (list_any-append p front (ys ++ back))

abbrev direction_by : Class → Class → Bool → Bool → Option Class
direction_by e context a b = elim a [
  | true ↦ Some e
  | false ↦ elim b [ true ↦ elim (counts_as e context) [ true ↦ Some e | false ↦ Some (opposite e) ] | false ↦ None ]
]

pub same_direction : (e context : Class) (xs ys : List Class) → HasSame xs ys → pair_direction e context xs ≡ pair_direction e context ys
same_direction e context xs ys h = ap₂ (direction_by e context) (h e) (h (opposite e))
