-- W1 to W7 at an odd level: an NSM after a type that does not rise does not rise either.
use Rattle.std.proofs.Common.{◌≡◌, ◌∙◌, ℕ, List, [], ◌∷◌, map, refl, sym, ap, subst, arith, Bool, true, false, ◌⊎◌, inl, inr}
use Rattle.bx_ucd.specs.declared.class.Class.{Class}
use Rattle.bx_ucd.specs.declared.class.Class.TheVariants.{L, AL, EN, ET, AN, NSM, ON, LRI, RLI, FSI, PDI}
use Rattle.bx_levels.specs.declared.resolve.before.Before.{Before}
use Rattle.bx_levels.specs.declared.resolve.before.Strong.{Strong}
use Rattle.bx_levels.specs.declared.resolve.before.Strong.TheVariants.{Left, Right, Arabic}
use Rattle.bx_levels.specs.declared.resolve.before.Neighbour.{Neighbour}
use Rattle.bx_levels.specs.declared.resolve.before.Terminators.{Terminators}
use Rattle.bx_levels.specs.declared.resolve.before.Terminators.TheVariants.{Numbers, Neutrals, Undecided}
use Rattle.bx_levels.specs.resolve.Weak.{weak, is_en_past, w3_at, beside}
use Rattle.bx_ucd.specs.Class.{is_nsm}
use Rattle.bx_levels.specs.resolve.Turns.{after_w1, after_w2, after_w4, after_w6, after_w7, begin, decided, left_number_by, nsm_class_next, neighbour_of, next}
use Rattle.bx_levels.specs.resolve.Turns.{moved, strong_next, terminator_by, terminators_next, third, thirds, written}
use Rattle.bx_levels.specs.resolve.Neutral.{rise_odd}
use Rattle.bx_levels.proofs.resolve_lemmas.Fused.{go, weak_run}

-- the NSMs before the first type that is not NSM do not rise
abbrev pub AreNsmsLow : List Bool → List ℕ → Type 0
AreNsmsLow [] rs = Unit {0}
AreNsmsLow (false ∷ was) rs = Unit {0}
AreNsmsLow (true ∷ was) [] = Unit {0}
AreNsmsLow (true ∷ was) (r ∷ rs) = (r ≡ 0) × AreNsmsLow was rs

-- nor do the NSMs after each type that does not rise
abbrev pub AreLow : List Bool → List ℕ → Type 0
AreLow [] rs = Unit {0}
AreLow (m ∷ was) [] = Unit {0}
AreLow (m ∷ was) (r ∷ rs) = (r ≡ 0 → AreNsmsLow was rs) × AreLow was rs

number_rises : (strong : Strong) → rise_odd (left_number_by strong) ≡ 1
number_rises Left = refl
number_rises Right = refl
number_rises Arabic = refl

-- of two ET of one run the second is decided as the first
decided_again : (known : Terminators) (follows : Bool) → decided (decided known follows) follows ≡ decided known follows
decided_again Numbers follows = refl
decided_again Neutrals follows = refl
decided_again Undecided true = refl
decided_again Undecided false = refl

terminator_low : (s u : Strong) (known : Terminators) → rise_odd (after_w7 s (terminator_by known)) ≡ 0 → rise_odd (after_w7 u (terminator_by known)) ≡ 0
terminator_low s u Numbers e = let n : rise_odd (left_number_by s) ≡ 1 = number_rises s in absurd (omega arith)
terminator_low s u Neutrals e = refl
terminator_low s u Undecided e = refl

-- a type after W3 on its way through W4 to W6, before types after W3
abbrev known_next : Terminators → Neighbour → Class → List Class → Terminators
known_next known neighbour t rest = terminators_next known (after_w4 t neighbour (beside rest)) rest

abbrev sixth : Terminators → Neighbour → Class → List Class → Class
sixth known neighbour t rest = after_w6 (known_next known neighbour t rest) (after_w4 t neighbour (beside rest))

-- two of one type
same_low : (known : Terminators) (neighbour : Neighbour) (s u : Strong) (t : Class) (rest : List Class)
    → rise_odd (after_w7 s (sixth known neighbour t (t ∷ rest))) ≡ 0
    → rise_odd (after_w7 u (sixth (known_next known neighbour t (t ∷ rest)) (neighbour_of t) t rest)) ≡ 0
same_low known neighbour s u L rest e = absurd (omega arith)
same_low known neighbour s u AN rest e = absurd (omega arith)
same_low known neighbour s u EN rest e = let n : rise_odd (left_number_by s) ≡ 1 = number_rises s in absurd (omega arith)
same_low known neighbour s u ET rest e =
    ap (λ k. rise_odd (after_w7 u (terminator_by k))) (decided_again known (is_en_past rest)) ∙ terminator_low s u (decided known (is_en_past rest)) e
same_low known neighbour s u _ rest e = refl

-- after W1 to W3 an NSM has the type before it, or ON
two_low : (known : Terminators) (neighbour : Neighbour) (s u : Strong) (t y : Class) (rest : List Class) → (y ≡ t) ⊎ (y ≡ ON)
    → rise_odd (after_w7 s (sixth known neighbour t (y ∷ rest))) ≡ 0
    → rise_odd (after_w7 u (sixth (known_next known neighbour t (y ∷ rest)) (neighbour_of t) y rest)) ≡ 0
two_low known neighbour s u t y rest (inl e) = subst (λ z. rise_odd (after_w7 s (sixth known neighbour t (z ∷ rest))) ≡ 0
    → rise_odd (after_w7 u (sixth (known_next known neighbour t (z ∷ rest)) (neighbour_of t) z rest)) ≡ 0) (sym e) (same_low known neighbour s u t rest)
two_low known neighbour s u t y rest (inr e) = subst (λ z. rise_odd (after_w7 s (sixth known neighbour t (z ∷ rest))) ≡ 0
    → rise_odd (after_w7 u (sixth (known_next known neighbour t (z ∷ rest)) (neighbour_of t) z rest)) ≡ 0) (sym e) (λ h. refl)

nsm_after_nsm : (strong : Strong) (nsm_class : Class) → w3_at (after_w2 (strong_next strong nsm_class) nsm_class) ≡ w3_at (after_w2 strong nsm_class)
nsm_after_nsm strong AL = refl
nsm_after_nsm strong _ = refl

nsm_after : (nsm_class : Class) (strong : Strong) (t : Class)
    → (w3_at (after_w2 (strong_next strong (after_w1 nsm_class t)) (nsm_class_next nsm_class t)) ≡ w3_at (after_w2 strong (after_w1 nsm_class t)))
    ⊎ (w3_at (after_w2 (strong_next strong (after_w1 nsm_class t)) (nsm_class_next nsm_class t)) ≡ ON)
nsm_after nsm_class strong NSM = inl (nsm_after_nsm strong nsm_class)
nsm_after nsm_class strong LRI = inr refl
nsm_after nsm_class strong RLI = inr refl
nsm_after nsm_class strong FSI = inr refl
nsm_after nsm_class strong PDI = inr refl
nsm_after nsm_class strong _ = inl refl

next_low : (before : Before) (t : Class) (ts : List Class) → rise_odd (written before t (NSM ∷ ts)) ≡ 0
    → rise_odd (written (next before t (NSM ∷ ts)) NSM ts) ≡ 0
next_low before t ts e =
    let new : Before = next before t (NSM ∷ ts) in
    two_low before.terminators before.neighbour new.strong (moved new NSM).strong (third before t) (third new NSM) (thirds (moved new NSM) ts)
    (nsm_after before.nsm_class before.strong t) e

nsms_low : (before : Before) (t : Class) (ts : List Class) → rise_odd (written before t ts) ≡ 0
    → AreNsmsLow (map is_nsm ts) (map rise_odd (go next written (next before t ts) ts))
nsms_low before t [] e = tt
nsms_low before t (NSM ∷ ts) e =
    let h : rise_odd (written (next before t (NSM ∷ ts)) NSM ts) ≡ 0 = next_low before t ts e in
    (h, nsms_low (next before t (NSM ∷ ts)) NSM ts h)
nsms_low before t (_ ∷ ts) e = tt

all_low : (before : Before) (ts : List Class) → AreLow (map is_nsm ts) (map rise_odd (go next written before ts))
all_low before [] = tt
all_low before (t ∷ ts) = (nsms_low before t ts, all_low (next before t ts) ts)

pub weak_low : (sos : Class) (ts : List Class) → AreLow (map is_nsm ts) (map rise_odd (weak sos ts))
weak_low sos ts = subst (λ ws. AreLow (map is_nsm ts) (map rise_odd ws)) (sym (weak_run sos ts)) (all_low (begin sos) ts)
