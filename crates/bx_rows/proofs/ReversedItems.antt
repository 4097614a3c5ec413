-- Items of units, with their runs reversed in place level by level.
use Rattle.std.proofs.Common.{◌≡◌, ℕ, suc, ◌+◌, ◌-◌, ◌<◌, ◌≤◌, min, List, [], ◌∷◌, ◌++◌, length, get_or, take, drop, map, reverse, Option, Some, None, ◌%◌}
use Rattle.std.proofs.Common.{refl, sym, ap, ap₂, ◌∙◌, arith, append_assoc}
use Rattle.std.specs.Prelude.{unwrap_or}
use Rattle.std.specs.List.{between, enumerate_from}
use Rattle.std.proofs.Math.Seq.{drop-append_seam, drop-length, take-append_seam}
use Rattle.std.proofs.lemmas.List.{append-nil, at_drop_more, drop-drop, drop-map, length-append, length-reverse, map-append, reverse-append, take-map}
use Rattle.std.proofs.lemmas.List.Edits.{between_none, length-between}
use Rattle.std.proofs.lemmas.Simd.{map-map}
use Rattle.bx_rows.specs.ReversedRuns.{AgreeUpTo, turned}
use Rattle.bx_rows.specs.RowLevels.{highest, lowest_odd, reverse_down, reverse_runs, reversals_from, visual}
use Rattle.bx_rows.proofs.LevelBounds.{highest_even}
use Rattle.bx_rows.proofs.Reversals.{agree-lower, agree-reversed, count_of, level_at, run_below, run_more, run_to}

-- ---- a run turned round

map-reverse : {X Y : Type 0} (f : X → Y) (xs : List X) → map f (reverse xs) ≡ reverse (map f xs)
map-reverse f [] = refl
map-reverse f (x ∷ xs) =
    ap (map f) (reverse-append (x ∷ []) xs) ∙ map-append f (reverse xs) (x ∷ []) ∙ ap (λ ys. ys ++ f x ∷ []) (map-reverse f xs)
    ∙ sym (reverse-append (f x ∷ []) (map f xs))

map-turned : {X Y : Type 0} (f : X → Y) (i j : ℕ) (xs : List X) → map f (turned i j xs) ≡ turned i j (map f xs)
map-turned f i j xs =
    let run = between i j xs in
    let same : between i j (map f xs) ≡ map f run = ap (take (j - i)) (drop-map f i xs) ∙ take-map f (j - i) (drop i xs) in
    map-append f (take i xs ++ reverse run) (drop j xs)
    ∙ ap₂ (λ a b. a ++ b) (map-append f (take i xs) (reverse run)
    ∙ ap₂ (λ a b. a ++ b) (sym (take-map f i xs)) (map-reverse f run ∙ ap reverse (sym same))) (sym (drop-map f j xs))

-- the first run after `done`
turned-behind : {X : Type 0} (done xs : List X) (i j : ℕ) → length done ≡ i → i ≤ j
    → turned i j (done ++ drop i xs) ≡ done ++ reverse (between i j xs) ++ drop j xs
turned-behind done xs i j e h =
    let front : take i (done ++ drop i xs) ≡ done = ap (λ k. take k (done ++ drop i xs)) (sym e) ∙ take-append_seam done (drop i xs) in
    let back : drop i (done ++ drop i xs) ≡ drop i xs = ap (λ k. drop k (done ++ drop i xs)) (sym e) ∙ drop-append_seam done (drop i xs) in
    let sum : i + (j - i) ≡ j = omega (arith, h) in
    let behind : drop j (done ++ drop i xs) ≡ drop j xs =
    ap (λ k. drop k (done ++ drop i xs)) (sym sum) ∙ sym (drop-drop (j - i) i (done ++ drop i xs)) ∙ ap (drop (j - i)) back
    ∙ drop-drop (j - i) i xs ∙ ap (λ k. drop k xs) sum in
    ap₂ (λ a b. a ++ b) (ap₂ (λ a b. a ++ reverse (take (j - i) b)) front back) behind

-- ---- one level

-- the items of the units before the run that begins at `start` are as the reversals make them, all others as they were
pub record IsUnderWay {X : Type 0} (g : ℕ × ℕ → X) (items : List X) (level start i : ℕ) (us : List (ℕ × ℕ)) : Type 0 where
  pub done : List (ℕ × ℕ)
  pub size : length done ≡ start
  pub shown : items ≡ map g (done ++ drop start us)
  pub rest : done ++ run_to level us start i ≡ reverse_runs level [] us

pub begun : {X : Type 0} (g : ℕ × ℕ → X) (items : List X) (level : ℕ) (us : List (ℕ × ℕ)) → items ≡ map g us → IsUnderWay g items level 0 0 us
begun g items level us e = record { done = []; size = refl; shown = e; rest = refl }

pub in_run : {X : Type 0} (g : ℕ × ℕ → X) (items : List X) (ls : List ℕ) (level start i : ℕ) (us : List (ℕ × ℕ)) → AgreeUpTo level ls us → start ≤ i
    → i < length ls → level ≤ get_or ls i 0 → IsUnderWay g items level start i us → IsUnderWay g items level start (i + 1) us
in_run g items ls level start i us agree a h k w =
    let c = count_of level ls us agree in
    let l = level_at level ls us i agree in
    record {
      done = w.done;
      size = w.size;
      shown = w.shown;
      rest = ap (λ xs. w.done ++ xs) (run_more level us start i (0, 0) a (omega (arith, h, c)) (omega (arith, k, l))) ∙ w.rest;
    }

-- the items with the run turned round that ends before an index
after_run : {X : Type 0} (g : ℕ × ℕ → X) (items new : List X) (level start i : ℕ) (us : List (ℕ × ℕ)) → start ≤ i → new ≡ turned start i items
    → (w : IsUnderWay g items level start i us) → new ≡ map g (w.done ++ reverse (between start i us) ++ drop i us)
after_run g items new level start i us a e w =
    e ∙ ap (turned start i) w.shown ∙ sym (map-turned g start i (w.done ++ drop start us)) ∙ ap (map g) (turned-behind w.done us start i w.size a)

pub run_ends : {X : Type 0} (g : ℕ × ℕ → X) (items new : List X) (ls : List ℕ) (level start i : ℕ) (us : List (ℕ × ℕ)) → AgreeUpTo level ls us
    → start ≤ i → i < length ls → get_or ls i 0 < level → new ≡ turned start i items → IsUnderWay g items level start i us
    → IsUnderWay g new level (i + 1) (i + 1) us
run_ends g items new ls level start i us agree a h k e w =
    let c = count_of level ls us agree in
    let l = level_at level ls us i agree in
    let within : i < length us = omega (arith, h, c) in
    let u = get_or us i (0, 0) in
    let run = reverse (between start i us) in
    let front : List (ℕ × ℕ) = w.done ++ run in
    let size : length front ≡ i =
    length-append w.done run ∙ omega (arith, w.size, length-reverse (between start i us), length-between us start i (omega (arith, within)), a) in
    let behind = reverse_runs level [] (drop (i + 1) us) in
    record {
      done = front ++ u ∷ [];
      size = length-append front (u ∷ []) ∙ ap (λ n. n + 1) size;
      shown =
          after_run g items new level start i us a e w
          ∙ ap (λ xs. map g (front ++ xs)) (at_drop_more (λ xs. xs) us i (0, 0) within)
          ∙ ap (map g) (sym (append_assoc front (u ∷ []) (drop (i + 1) us)));
      rest =
          ap (λ xs. front ++ u ∷ [] ++ reverse_runs level (reverse xs) (drop (i + 1) us)) (between_none us (i + 1))
          ∙ append_assoc front (u ∷ []) behind ∙ append_assoc w.done run (u ∷ behind)
          ∙ ap (λ xs. w.done ++ xs) (sym (run_below level us start i (0, 0) within (omega (arith, k, l)))) ∙ w.rest;
    }

pub all_runs : {X : Type 0} (g : ℕ × ℕ → X) (items new : List X) (ls : List ℕ) (level start i : ℕ) (us : List (ℕ × ℕ)) → AgreeUpTo level ls us
    → start ≤ i → i ≡ length ls → new ≡ turned start (length ls) items → IsUnderWay g items level start i us → new ≡ map g (reverse_runs level [] us)
all_runs g items new ls level start i us agree a h e w =
    let end : i ≡ length us = h ∙ sym (count_of level ls us agree) in
    let none : drop i us ≡ [] = ap (λ k. drop k us) end ∙ drop-length us in
    let run = reverse (between start i us) in
    after_run g items new level start i us a (e ∙ ap (λ k. turned start k items) (sym h)) w
    ∙ ap (map g) (ap (λ xs. w.done ++ run ++ xs) none ∙ append-nil (w.done ++ run)
    ∙ ap (λ xs. w.done ++ reverse_runs level run xs) (sym none) ∙ w.rest)

-- ---- all levels

-- the items are those of units that the reversals from a level down turn into `all`
pub record IsAtLevel {X : Type 0} (g : ℕ × ℕ → X) (items : List X) (ls : List ℕ) (low level : ℕ) (all : List (ℕ × ℕ)) : Type 0 where
  pub units : List (ℕ × ℕ)
  pub shown : items ≡ map g units
  pub agree : AgreeUpTo level ls units
  pub rest : reverse_down low (level + 1 - low) units ≡ all

levels-of : (n m : ℕ) (ls : List ℕ) → AgreeUpTo n ls (enumerate_from m ls)
levels-of n m [] = refl
levels-of n m (l ∷ ls) = ap (λ xs. min n l ∷ xs) (levels-of n (m + 1) ls)

numbered-from : {X : Type 0} (xs : List X) (d : X) (n : ℕ) (ls : List ℕ) → length xs ≡ n + length ls
    → drop n xs ≡ map (λ u. get_or xs u.0 d) (enumerate_from n ls)
numbered-from xs d n [] e = let all : n ≡ length xs = omega (arith, e) in ap (λ k. drop k xs) all ∙ drop-length xs
numbered-from xs d n (l ∷ ls) e =
    let more : suc (length ls) ≡ length (l ∷ ls) = refl in
    at_drop_more (λ ys. ys) xs n d (omega (arith, e, more))
    ∙ ap (λ ys. get_or xs n d ∷ ys) (numbered-from xs d (n + 1) ls (omega (arith, e, more)))

-- items in the order of the text, by the numbers of their units
numbered : {X : Type 0} (xs : List X) (d : X) (ls : List ℕ) → length xs ≡ length ls → xs ≡ map (λ u. get_or xs u.0 d) (enumerate_from 0 ls)
numbered xs d ls e = numbered-from xs d 0 ls (omega (arith, e))

-- from the highest level on
from_highest : (o : Option ℕ) (low high level : ℕ) (us : List (ℕ × ℕ)) → low ≡ unwrap_or o 255 → level ≡ high → (o ≡ None → high < 255)
    → reverse_down low (level + 1 - low) us ≡ reversals_from o high us
from_highest None low high level us e h k =
    let below = k refl in
    let none : level + 1 - low ≡ 0 = omega (arith, e, h, below) in
    ap (λ n. reverse_down low n us) none
from_highest (Some a) low high level us e h k = ap₂ (λ l n. reverse_down l (n + 1 - l) us) e h

pub highest_level : {X : Type 0} (items : List X) (d : X) (ls : List ℕ) (low level : ℕ) → length items ≡ length ls → low ≡ unwrap_or (lowest_odd ls) 255
    → level ≡ highest ls → level ≤ 255
    → IsAtLevel (λ u. get_or items u.0 d) items ls low level (reversals_from (lowest_odd ls) (highest ls) (enumerate_from 0 ls))
highest_level items d ls low level e f h k = record {
  units = enumerate_from 0 ls;
  shown = numbered items d ls e;
  agree = levels-of level 0 ls;
  rest = from_highest (lowest_odd ls) low (highest ls) level (enumerate_from 0 ls) f h
      (λ none. let even : highest ls % 2 ≡ 0 = highest_even ls none in omega (arith, even, h, k));
}

down : (low level : ℕ) (us : List (ℕ × ℕ)) → low ≤ level → 0 < low
    → reverse_down low (level - 1 + 1 - low) (reverse_runs level [] us) ≡ reverse_down low (level + 1 - low) us
down low level us h k =
    let c : level + 1 - low ≡ suc (level - 1 + 1 - low) = omega (arith, h, k) in
    let top : low + (level - 1 + 1 - low) ≡ level = omega (arith, h, k) in
    ap (λ n. reverse_down low (level - 1 + 1 - low) (reverse_runs n [] us)) (sym top) ∙ ap (λ n. reverse_down low n us) (sym c)

pub next_level : {X : Type 0} (f : ℕ → X) (items new : List X) (ls : List ℕ) (low level : ℕ) (all : List (ℕ × ℕ)) → low ≤ level → 0 < low
    → ((us : List (ℕ × ℕ)) → AgreeUpTo level ls us → items ≡ map (λ u. f u.0) us → new ≡ map (λ u. f u.0) (reverse_runs level [] us))
    → IsAtLevel (λ u. f u.0) items ls low level all → IsAtLevel (λ u. f u.0) new ls low (level - 1) all
next_level f items new ls low level all h k runs w = record {
  units = reverse_runs level [] w.units;
  shown = runs w.units w.agree w.shown;
  agree = agree-lower (level - 1) level ls (reverse_runs level [] w.units) (omega arith) (agree-reversed level ls w.units w.agree);
  rest = down low level w.units h k ∙ w.rest;
}

pub lowest_level : {X : Type 0} (f : ℕ → X) (items : List X) (ls : List ℕ) (low level : ℕ) → level < low
    → IsAtLevel (λ u. f u.0) items ls low level (reversals_from (lowest_odd ls) (highest ls) (enumerate_from 0 ls)) → items ≡ map f (visual ls)
lowest_level f items ls low level h w =
    let none : level + 1 - low ≡ 0 = omega (arith, h) in
    let all = reversals_from (lowest_odd ls) (highest ls) (enumerate_from 0 ls) in
    w.shown ∙ ap (map (λ u. f u.0)) (ap (λ k. reverse_down low k w.units) (sym none) ∙ w.rest) ∙ sym (map-map f (λ (u : ℕ × ℕ). u.0) all)
