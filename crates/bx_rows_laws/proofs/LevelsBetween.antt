-- The levels of a row's units from one letter to another of its level: none is lower if none of the characters between has a lower one.
use Rattle.std.proofs.Common.{◌≡◌, ℕ, zero, suc, ◌+◌, ◌<◌, ◌≤◌, Bool, true, false, List, [], ◌∷◌, ◌++◌, length, get_or, take, drop, All, Option, Some, None}
use Rattle.std.proofs.Common.{◌-◌, refl, sym, ap, subst, ◌∙◌, arith, inl, inr}
use Rattle.std.specs.Prelude.{◌&&◌, unwrap_or}
use Rattle.std.proofs.lemmas.Bool.{and_parts, cases_lt}
use Rattle.std.proofs.lemmas.List.{get_or-drop}
use Rattle.std.proofs.lemmas.List.Elements.{All-head, All-tail}
use Rattle.bx_ucd.specs.declared.class.Class.{Class}
use Rattle.bx_rows.specs.RowLevels.{CharLevel, first_level, is_segment_separator, is_trailing, l1, level_at, levels_or_before, only_trailing, trails, unit_levels}

-- the number of characters before unit `i`, by the units' counts
abbrev pub before : ℕ → List ℕ → ℕ
before zero counts = 0
before (suc i) [] = 0
before (suc i) (c ∷ counts) = c + before i counts

-- ---- the levels of units

-- none of the levels from one place up to another is lower
abbrev LeastIn : ℕ → ℕ → ℕ → List (Option ℕ) → Type 0
LeastIn n from to ls = (x l : ℕ) → from ≤ x → x < to → get_or ls x None ≡ Some l → n ≤ l

record FoundAt (ls : List (Option ℕ)) (count l : ℕ) : Type 0 where
  at : ℕ
  within : at < count
  is : get_or ls at None ≡ Some l

found-first : (count l : ℕ) (ls : List (Option ℕ)) → first_level (take count ls) ≡ Some l → FoundAt ls count l
found-first zero l ls e = absurd (cc e)
found-first (suc count) l [] e = absurd (cc e)
found-first (suc count) l (None ∷ ls) e =
    let r = found-first count l ls e in
    let within = r.within in
    record { at = suc r.at; within = omega (arith, within); is = r.is }
found-first (suc count) l (Some m ∷ ls) e = record { at = 0; within = omega arith; is = e }

either-least : (n b : ℕ) (o : Option ℕ) → n ≤ b → ((l : ℕ) → o ≡ Some l → n ≤ l) → n ≤ unwrap_or o b
either-least n b None h f = h
either-least n b (Some l) h f = f l refl

unit-least : (n b count to : ℕ) (ls : List (Option ℕ)) → n ≤ b → count ≤ to → LeastIn n 0 to ls → n ≤ unwrap_or (first_level (take count ls)) b
unit-least n b count to ls h k least =
    either-least n b (first_level (take count ls)) h
    (λ l e. let r = found-first count l ls e in let within = r.within in least r.at l (omega arith) (omega (arith, within, k)) r.is)

behind-least : (n c from to : ℕ) (ls : List (Option ℕ)) → LeastIn n (c + from) (c + to) ls → LeastIn n from to (drop c ls)
behind-least n c from to ls least x l h k e = least (c + x) l (omega (arith, h)) (omega (arith, k)) (sym (get_or-drop c ls x None) ∙ e)

-- after a level that is not lower
from-start : (n b j k : ℕ) (counts : List ℕ) (ls : List (Option ℕ)) → n ≤ b → LeastIn n 0 (before j counts) ls → k < j → k < length counts
    → n ≤ get_or (levels_or_before b (unit_levels counts ls)) k 0
from-start n b j k [] ls h least f g = absurd (omega (arith, g))
from-start n b zero k (c ∷ counts) ls h least f g = absurd (omega (arith, f))
from-start n b (suc j) zero (c ∷ counts) ls h least f g = unit-least n b c (c + before j counts) ls h (omega arith) least
from-start n b (suc j) (suc k) (c ∷ counts) ls h least f g =
    let own = unit-least n b c (c + before j counts) ls h (omega arith) least in
    from-start n (unwrap_or (first_level (take c ls)) b) j k counts (drop c ls) own
    (behind-least n c 0 (before j counts) ls (λ x l a z e. least x l (omega arith) z e)) (omega (arith, f)) (omega (arith, g))

-- from a unit of a level that is not lower
from-unit : (n b i j k : ℕ) (counts : List ℕ) (ls : List (Option ℕ)) → n ≤ get_or (levels_or_before b (unit_levels counts ls)) i 0
    → LeastIn n (before i counts) (before j counts) ls → i ≤ k → k < j → k < length counts
    → n ≤ get_or (levels_or_before b (unit_levels counts ls)) k 0
from-unit n b i j k [] ls h least a f g = absurd (omega (arith, g))
from-unit n b i zero k (c ∷ counts) ls h least a f g = absurd (omega (arith, f))
from-unit n b zero (suc j) zero (c ∷ counts) ls h least a f g = h
from-unit n b zero (suc j) (suc k) (c ∷ counts) ls h least a f g =
    from-start n (unwrap_or (first_level (take c ls)) b) j k counts (drop c ls) h
    (behind-least n c 0 (before j counts) ls (λ x l y z e. least x l (omega arith) z e)) (omega (arith, f)) (omega (arith, g))
from-unit n b (suc i) (suc j) zero (c ∷ counts) ls h least a f g = absurd (omega (arith, a))
from-unit n b (suc i) (suc j) (suc k) (c ∷ counts) ls h least a f g =
    from-unit n (unwrap_or (first_level (take c ls)) b) i j k counts (drop c ls) h (behind-least n c (before i counts) (before j counts) ls least)
    (omega (arith, a)) (omega (arith, f)) (omega (arith, g))

-- a unit whose first character has a level has that level
first-own : (b c l : ℕ) (ls : List (Option ℕ)) → 0 < c → get_or ls 0 None ≡ Some l → unwrap_or (first_level (take c ls)) b ≡ l
first-own b zero l ls h e = absurd (omega (arith, h))
first-own b (suc c) l [] h e = absurd (cc e)
first-own b (suc c) l (None ∷ ls) h e = absurd (cc e)
first-own b (suc c) l (Some m ∷ ls) h e = cc e

pub unit-own : (b i l : ℕ) (counts : List ℕ) (ls : List (Option ℕ)) → i < length counts → 0 < get_or counts i 0 → get_or ls (before i counts) None ≡ Some l
    → get_or (levels_or_before b (unit_levels counts ls)) i 0 ≡ l
unit-own b i l [] ls h some e = absurd (omega (arith, h))
unit-own b zero l (c ∷ counts) ls h some e = first-own b c l ls some e
unit-own b (suc i) l (c ∷ counts) ls h some e =
    unit-own (unwrap_or (first_level (take c ls)) b) i l counts (drop c ls) (omega (arith, h)) some (get_or-drop c ls (before i counts) None ∙ e)

-- ---- the levels of characters after L1

pub l1-behind : (p x : ℕ) (front rest : List CharLevel) → get_or (l1 p (front ++ rest)) (length front + x) None ≡ get_or (l1 p rest) x None
l1-behind p x [] rest = let e : 0 + x ≡ x = omega arith in ap (λ y. get_or (l1 p rest) y None) e
l1-behind p x (c ∷ front) rest =
    let e : suc (length front) + x ≡ suc (length front + x) = omega arith in
    ap (λ y. get_or (l1 p ((c ∷ front) ++ rest)) y None) e ∙ l1-behind p x front rest

-- a character that is not a segment separator trails only if the next one does
trails-on : (class : Class) (o : Option ℕ) (b : Bool) → is_segment_separator class ≡ false → trails (class, o) b ≡ true → b ≡ true
trails-on class None b s e = e
trails-on class (Some l) b s e =
    let parts : (is_trailing class && b) ≡ true = sym (ap (λ x. elim x as (λ _. Bool) [ true ↦ true | false ↦ is_trailing class && b ]) s) ∙ e in
    (and_parts (is_trailing class) b parts).1

-- no segment separator, and of no level below `n`
abbrev pub IsBetween : ℕ → CharLevel → Type 0
IsBetween n c = (is_segment_separator c.0 ≡ false) × ((l : ℕ) → c.1 ≡ Some l → n ≤ l)

end-trails : (n : ℕ) (cs : List CharLevel) (last : CharLevel) (rest : List CharLevel) → All (IsBetween n) cs
    → only_trailing (cs ++ last ∷ rest) ≡ true → trails last (only_trailing rest) ≡ true
end-trails n [] last rest a e = e
end-trails n (c ∷ cs) last rest a e =
    end-trails n cs last rest (All-tail (IsBetween n) c cs a) (trails-on c.0 c.1 (only_trailing (cs ++ last ∷ rest)) (All-head (IsBetween n) c cs a).0 e)

level-chosen : (p n m l : ℕ) (class : Class) (t : Bool) → n ≤ m → (t ≡ true → p ≡ n) → level_at p (class, Some m) t ≡ Some l → n ≤ l
level-chosen p n m l class true h f e =
    let same : p ≡ l = cc e in let own = f refl in omega (arith, same, own)
level-chosen p n m l class false h f e = let same : m ≡ l = cc e in omega (arith, h, same)

own-least : (p n l : ℕ) (class : Class) (o : Option ℕ) (after : Bool) → is_segment_separator class ≡ false → ((m : ℕ) → o ≡ Some m → n ≤ m)
    → (after ≡ true → p ≡ n) → level_at p (class, o) (trails (class, o) after) ≡ Some l → n ≤ l
own-least p n l class None after s h f e = absurd (cc e)
own-least p n l class (Some m) after s h f e =
    level-chosen p n m l class (trails (class, Some m) after) (h m refl) (λ t. f (trails-on class (Some m) after s t)) e

-- characters before one that trails only in a paragraph of its own level
between-least : (p n x l : ℕ) (cs : List CharLevel) (last : CharLevel) (rest : List CharLevel)
    → All (IsBetween n) cs
    → (trails last (only_trailing rest) ≡ true → p ≡ n) → x < length cs → get_or (l1 p (cs ++ last ∷ rest)) x None ≡ Some l → n ≤ l
between-least p n x l [] last rest a f h e = absurd (omega (arith, h))
between-least p n zero l (c ∷ cs) last rest a f h e =
    let own = All-head (IsBetween n) c cs a in
    own-least p n l c.0 c.1 (only_trailing (cs ++ last ∷ rest)) own.0 own.1 (λ t. f (end-trails n cs last rest (All-tail (IsBetween n) c cs a) t)) e
between-least p n (suc x) l (c ∷ cs) last rest a f h e =
    between-least p n x l cs last rest (All-tail (IsBetween n) c cs a) f (omega (arith, h)) e

-- ---- both

-- the level of a kept character
kept-level : (p n : ℕ) (class : Class) (t : Bool) → (l : ℕ) × (level_at p (class, Some n) t ≡ Some l) × (t ≡ true → l ≡ p)
kept-level p n class true = (p, refl, λ e. refl)
kept-level p n class false = (n, refl, λ e. absurd (cc e))

-- the characters of a row, with two letters of the level `n` at the starts of units `i` and `j`
pub record HasLetters (n i j : ℕ) (counts : List ℕ) (cs : List CharLevel) : Type 0 where
  pub front : List CharLevel
  pub one : Class
  pub inside : List CharLevel
  pub other : Class
  pub rest : List CharLevel
  pub are : cs ≡ front ++ ((one, Some n) ∷ (inside ++ ((other, Some n) ∷ rest)))
  pub at_one : before i counts ≡ length front
  pub at_other : before j counts ≡ length front + (1 + length inside)
  pub least : All (IsBetween n) inside

pub none-lower : (p n i j k : ℕ) (counts : List ℕ) (cs : List CharLevel) → HasLetters n i j counts cs → i < j → j < length counts
    → 0 < get_or counts i 0 → 0 < get_or counts j 0
    → get_or (levels_or_before p (unit_levels counts (l1 p cs))) i 0 ≡ n → get_or (levels_or_before p (unit_levels counts (l1 p cs))) j 0 ≡ n
    → i ≤ k → k ≤ j → n ≤ get_or (levels_or_before p (unit_levels counts (l1 p cs))) k 0
none-lower p n i j k counts cs s h within first second e f a b =
    let levels = levels_or_before p (unit_levels counts (l1 p cs)) in
    let tail = (s.other, Some n) ∷ s.rest in
    let all = (s.one, Some n) ∷ (s.inside ++ tail) in
    let at_one = s.at_one in
    let at_other = s.at_other in
    let zero_more : length s.front ≡ length s.front + 0 = omega arith in
    let place : (x : ℕ) → get_or (l1 p cs) (length s.front + x) None ≡ get_or (l1 p all) x None =
    λ x. ap (λ ys. get_or (l1 p ys) (length s.front + x) None) s.are ∙ l1-behind p x s.front all in
    let own = kept-level p n s.one (trails (s.one, Some n) (only_trailing (s.inside ++ tail))) in
    let last = kept-level p n s.other (trails (s.other, Some n) (only_trailing s.rest)) in
    let here : get_or (l1 p cs) (before i counts) None ≡ Some own.0 =
    ap (λ x. get_or (l1 p cs) x None) (at_one ∙ zero_more) ∙ place 0 ∙ own.1 in
    let more : 1 + length s.inside ≡ suc (length s.inside) = omega arith in
    let none : length s.inside ≡ length s.inside + 0 = omega arith in
    let there : get_or (l1 p cs) (before j counts) None ≡ Some last.0 =
    ap (λ x. get_or (l1 p cs) x None) at_other ∙ place (1 + length s.inside) ∙ ap (λ x. get_or (l1 p all) x None) more
    ∙ ap (λ x. get_or (l1 p (s.inside ++ tail)) x None) none ∙ l1-behind p 0 s.inside tail ∙ last.1 in
    let level_one : own.0 ≡ n = sym (unit-own p i own.0 counts (l1 p cs) (omega (arith, h, within)) first here) ∙ e in
    let level_other : last.0 ≡ n = sym (unit-own p j last.0 counts (l1 p cs) within second there) ∙ f in
    let trailing : trails (s.other, Some n) (only_trailing s.rest) ≡ true → p ≡ n = λ t. sym (last.2 t) ∙ level_other in
    let least : (x l : ℕ) → before i counts ≤ x → x < before j counts → get_or (l1 p cs) x None ≡ Some l → n ≤ l =
    λ x l y z g. elim (cases_lt (before i counts) x) as (λ _. n ≤ l) [
      | inl behind ↦
          let c = x - length s.front - 1 in
          let step : length s.front + suc c ≡ x = omega (arith, behind, at_one) in
          between-least p n c l s.inside (s.other, Some n) s.rest s.least trailing (omega (arith, z, at_other, behind, at_one))
          (sym (place (suc c)) ∙ ap (λ q. get_or (l1 p cs) q None) step ∙ g)
      | inr start ↦
          let same : before i counts ≡ x = omega (arith, y, start) in
          let is : Some own.0 ≡ Some l = sym here ∙ ap (λ q. get_or (l1 p cs) q None) same ∙ g in
          let level : own.0 ≡ l = cc is in omega (arith, level, level_one)
    ] in
    elim (cases_lt k j) as (λ _. n ≤ get_or levels k 0) [
      | inl less ↦ from-unit n p i j k counts (l1 p cs) (omega (arith, e)) least a less (omega (arith, less, within))
      | inr more ↦ let same : j ≡ k = omega (arith, more, b) in subst (λ q. n ≤ get_or levels q 0) same (omega (arith, f))
    ]
