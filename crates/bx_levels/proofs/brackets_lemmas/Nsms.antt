-- N0: one turn of each loop.
use Rattle.std.proofs.Common.{append_assoc, ◌≡◌, ◌<◌, ◌+◌, ◌∙◌, ℕ, List, [], ◌∷◌, ◌++◌, length, get_or, take, drop, set, reverse, refl, ap, arith, Bool, true}
use Rattle.std.proofs.Common.{false}
use Rattle.std.proofs.lemmas.List.{take_more, take_more_set, drop-set-lt, at_drop_more, reverse-append, take_all, take-append-drop, append-nil}
use Rattle.std.proofs.Math.Seq.{drop-length}
use Rattle.bx_ucd.specs.declared.class.Class.{Class}
use Rattle.bx_ucd.specs.declared.class.Class.TheVariants.{L, R}
use Rattle.bx_levels.specs.brackets.Resolve.{nearest, is_left, is_right, change_nsms, change_bracket, resolve_pair, resolve_pairs}

reverse_more : (ts : List Class) (k : ℕ) → k < length ts → reverse (take (k + 1) ts) ≡ get_or ts k L ∷ reverse (take k ts)
reverse_more ts k h = ap reverse (take_more ts k L h) ∙ reverse-append (take k ts) (get_or ts k L ∷ [])

nearest_at : (sos t : Class) (ts : List Class) (a b : Bool) → is_left t ≡ a → is_right t ≡ b
    → nearest sos (t ∷ ts) ≡ elim a [ true ↦ L | false ↦ elim b [ true ↦ R | false ↦ nearest sos ts ] ]
nearest_at sos t ts true b e f = rw (e, nearest)
nearest_at sos t ts false true e f = rw (e, nearest) (rw (f, nearest))
nearest_at sos t ts false false e f = rw (e, nearest) (rw (f, nearest))

pub nearest_left : (sos : Class) (ts : List Class) (k : ℕ) → k < length ts → get_or ts k L ≡ L → nearest sos (reverse (take (k + 1) ts)) ≡ L
nearest_left sos ts k h e = ap (nearest sos) (reverse_more ts k h) ∙ rw e

pub nearest_right : (sos : Class) (ts : List Class) (k : ℕ) → k < length ts → is_left (get_or ts k L) ≡ false → is_right (get_or ts k L) ≡ true
    → nearest sos (reverse (take (k + 1) ts)) ≡ R
nearest_right sos ts k h e f = ap (nearest sos) (reverse_more ts k h) ∙ nearest_at sos (get_or ts k L) (reverse (take k ts)) false true e f

pub nearest_none : (sos : Class) (ts : List Class) (k : ℕ) → k < length ts → is_left (get_or ts k L) ≡ false → is_right (get_or ts k L) ≡ false
    → nearest sos (reverse (take (k + 1) ts)) ≡ nearest sos (reverse (take k ts))
nearest_none sos ts k h e f = ap (nearest sos) (reverse_more ts k h) ∙ nearest_at sos (get_or ts k L) (reverse (take k ts)) false false e f

pub take_it : (ts : List Class) → take (length ts) ts ≡ ts
take_it ts = take_all (length ts) ts (omega arith)

nsms_at : (d : Class) (w : Bool) (was : List Bool) (t : Class) (ts : List Class) → w ≡ true → change_nsms d (w ∷ was) (t ∷ ts) ≡ d ∷ change_nsms d was ts
nsms_at d true was t ts e = refl
nsms_at d false was t ts e = absurd (cc)

nsms_off : (d : Class) (w : Bool) (was : List Bool) (ts : List Class) → w ≡ false → change_nsms d (w ∷ was) ts ≡ ts
nsms_off d true was ts e = absurd (cc)
nsms_off d false was ts e = refl

pub nsms_more : (d : Class) (was : List Bool) (ts : List Class) (k : ℕ) → k < length ts → k < length was → get_or was k false ≡ true
    → take k ts ++ change_nsms d (drop k was) (drop k ts) ≡ take (k + 1) (set ts k d) ++ change_nsms d (drop (k + 1) was) (drop (k + 1) (set ts k d))
nsms_more d was ts k h l e =
    let a : take (k + 1) (set ts k d) ≡ take k ts ++ d ∷ [] = take_more_set ts k d h in
    let b : drop (k + 1) (set ts k d) ≡ drop (k + 1) ts = drop-set-lt (k + 1) ts k d (omega arith) in
    let f : change_nsms d (drop k was) (drop k ts) ≡ d ∷ change_nsms d (drop (k + 1) was) (drop (k + 1) ts) =
    at_drop_more (λ w. change_nsms d w (drop k ts)) was k false l ∙ at_drop_more (λ x. change_nsms d (get_or was k false ∷ drop (k + 1) was) x) ts k L h
    ∙ nsms_at d (get_or was k false) (drop (k + 1) was) (get_or ts k L) (drop (k + 1) ts) e in
    let g : (take k ts ++ d ∷ []) ++ change_nsms d (drop (k + 1) was) (drop (k + 1) ts)
    ≡ take k ts ++ (d ∷ change_nsms d (drop (k + 1) was) (drop (k + 1) ts)) = append_assoc (take k ts) (d ∷ []) _ in
    cc

pub nsms_stop : (d : Class) (was : List Bool) (ts : List Class) (k : ℕ) → k < length was → get_or was k false ≡ false
    → take k ts ++ change_nsms d (drop k was) (drop k ts) ≡ ts
nsms_stop d was ts k l e = ap (λ r. take k ts ++ r) (at_drop_more (λ w. change_nsms d w (drop k ts)) was k false l
    ∙ nsms_off d (get_or was k false) (drop (k + 1) was) (drop k ts) e) ∙ take-append-drop k ts

nsms_nil : (d : Class) (was : List Bool) → change_nsms d was [] ≡ []
nsms_nil d [] = refl
nsms_nil d (true ∷ was) = refl
nsms_nil d (false ∷ was) = refl

pub nsms_all : (d : Class) (was : List Bool) (ts : List Class) → take (length ts) ts ++ change_nsms d was (drop (length ts) ts) ≡ ts
nsms_all d was ts = ap (λ r. take (length ts) ts ++ r) (ap (change_nsms d was) (drop-length ts) ∙ nsms_nil d was) ∙ ap (λ r. r ++ []) (take_it ts)
    ∙ append-nil ts

pub nsms_start : (d : Class) (was : List Bool) (ts : List Class) (p : ℕ) → p < length ts
    → change_bracket d was ts p ≡ take (p + 1) (set ts p d) ++ change_nsms d (drop (p + 1) was) (drop (p + 1) (set ts p d))
nsms_start d was ts p h =
    let a : take (p + 1) (set ts p d) ≡ take p ts ++ d ∷ [] = take_more_set ts p d h in
    let b : drop (p + 1) (set ts p d) ≡ drop (p + 1) ts = drop-set-lt (p + 1) ts p d (omega arith) in
    let g : (take p ts ++ d ∷ []) ++ change_nsms d (drop (p + 1) was) (drop (p + 1) ts)
    ≡ take p ts ++ (d ∷ change_nsms d (drop (p + 1) was) (drop (p + 1) ts)) = append_assoc (take p ts) (d ∷ []) _ in
    cc

pub pairs_more : (e sos : Class) (was : List Bool) (ps : List (ℕ × ℕ)) (i : ℕ) (z : ℕ × ℕ) (ts : List Class) → i < length ps
    → resolve_pairs e sos was (drop i ps) ts ≡ resolve_pairs e sos was (drop (i + 1) ps) (resolve_pair e sos was (get_or ps i z) ts)
pairs_more e sos was ps i z ts h = at_drop_more (λ xs. resolve_pairs e sos was xs ts) ps i z h

pub pairs_all : (e sos : Class) (was : List Bool) (ps : List (ℕ × ℕ)) (ts : List Class) → resolve_pairs e sos was (drop (length ps) ps) ts ≡ ts
pairs_all e sos was ps ts = rw drop-length
