-- Steps of reading the levels of a row's units from left to right.
use Rattle.std.proofs.Common.{◌≡◌, ℕ, zero, suc, ◌+◌, ◌-◌, ◌<◌, ◌≤◌, Bool, true, false, ◌&&◌, ◌||◌, List, [], ◌∷◌, ◌++◌, map, length, get_or, take, drop, chars}
use Rattle.std.proofs.Common.{append_assoc, Option, Some, None, is_some, unwrap_or, slice_set, refl, sym, ap, ap₂, subst, ◌∙◌, arith}
use Rattle.std.specs.List.{last_or, zip}
use Rattle.std.proofs.lemmas.Str.{chars-nil}
use Rattle.bx_ucd.specs.Data.{Data}
use Rattle.bx_ucd.specs.declared.class.Class.{Class}
use Rattle.bx_rows.specs.RowLevels.{CharLevel, is_segment_separator, is_trailing, trails, only_trailing, level_at, l1}
use Rattle.bx_rows.specs.RowLevels.{first_level, unit_levels, levels_or_before}
use Rattle.bx_rows.specs.LevelReads.{settled, settled_if, level_before, with_levels_behind, levels_from, unit_from, Reads, ReadsChar}

-- ---- the levels that wait

settled-nil : (p waiting : ℕ) → settled p waiting [] ≡ []
settled-nil p zero = refl
settled-nil p (suc n) = refl

settled-push : (p waiting l : ℕ) (ls : List ℕ) → waiting ≤ length ls → settled p waiting (ls ++ l ∷ []) ≡ settled p waiting ls ++ p ∷ []
settled-push p zero l [] h = refl
settled-push p (suc n) l [] h = absurd (omega (arith, h))
settled-push p zero l (x ∷ ls) h = ap (λ xs. p ∷ xs) (settled-push p zero l ls (omega arith))
settled-push p (suc n) l (x ∷ ls) h = ap (λ xs. x ∷ xs) (settled-push p n l ls (omega (arith, h)))

pub settled_none : (p waiting : ℕ) (ls : List ℕ) → length ls ≤ waiting → settled p waiting ls ≡ ls
settled_none p waiting [] h = settled-nil p waiting
settled_none p zero (x ∷ ls) h = absurd (omega (arith, h))
settled_none p (suc n) (x ∷ ls) h = ap (λ xs. x ∷ xs) (settled_none p n ls (omega (arith, h)))

pub settled_set : (p i : ℕ) (ls : List ℕ) → i < length ls → settled p (i + 1) (slice_set ls i p) ≡ settled p i ls
settled_set p i [] h = absurd (omega (arith, h))
settled_set p zero (x ∷ ls) h = refl
settled_set p (suc n) (x ∷ ls) h =
    let e : suc n + 1 ≡ suc (n + 1) = omega arith in
    ap (λ k. settled p k (x ∷ slice_set ls n p)) e ∙ ap (λ xs. x ∷ xs) (settled_set p n ls (omega (arith, h)))

-- none waits
none_wait : (b : Bool) (p waiting : ℕ) (ls : List ℕ) → length ls ≤ waiting → settled_if b p waiting ls ≡ ls
none_wait true p waiting ls h = settled_none p waiting ls h
none_wait false p waiting ls h = refl

-- a kept character of a class
pub at_separator : (p waiting next : ℕ) (class : Class) (ls new : List ℕ) → is_segment_separator class ≡ true → new ≡ settled p waiting ls
    → next ≡ length new → Reads p class ls waiting new next
at_separator p waiting next class ls new h e n = λ l b.
    none_wait b p next new (omega (arith, n)) ∙ e ∙ ap (λ s. settled_if (elim s [ true ↦ true | false ↦ is_trailing class && b ]) p waiting ls) (sym h)

pub at_trailing : (p waiting : ℕ) (class : Class) (ls : List ℕ) → is_segment_separator class ≡ false → is_trailing class ≡ true
    → Reads p class ls waiting ls waiting
at_trailing p waiting class ls h t = λ l b.
    ap (λ x. settled_if (x && b) p waiting ls) (sym t)
    ∙ ap (λ s. settled_if (elim s [ true ↦ true | false ↦ is_trailing class && b ]) p waiting ls) (sym h)

pub at_other : (p waiting next : ℕ) (class : Class) (ls : List ℕ) → is_segment_separator class ≡ false → is_trailing class ≡ false → next ≡ length ls
    → Reads p class ls waiting ls next
at_other p waiting next class ls h t n = λ l b.
    none_wait b p next ls (omega (arith, n))
    ∙ ap (λ x. settled_if (x && b) p waiting ls) (sym t)
    ∙ ap (λ s. settled_if (elim s [ true ↦ true | false ↦ is_trailing class && b ]) p waiting ls) (sym h)

-- none waits before it, or with it
pub still_none : (p waiting : ℕ) (class : Class) (ls : List ℕ) → length ls ≤ waiting → Reads p class ls waiting ls waiting
still_none p waiting class ls h = λ l b. none_wait b p waiting ls h ∙ sym (none_wait (trails (class, Some l) b) p waiting ls h)

one_level : (t : Bool) (p waiting : ℕ) (ls new : List ℕ) → waiting ≡ length ls → new ≡ ls ++ p ∷ [] → settled_if t p waiting new ≡ new
one_level true p waiting ls new e f =
    ap (settled p waiting) f ∙ settled-push p waiting p ls (omega (arith, e)) ∙ ap (λ xs. xs ++ p ∷ []) (settled_none p waiting ls (omega (arith, e))) ∙ sym f
one_level false p waiting ls new e f = refl

pub same_level : (p waiting next : ℕ) (class : Class) (ls new : List ℕ) → waiting ≡ length ls → new ≡ ls ++ p ∷ [] → next ≡ length new
    → Reads p class new waiting new next
same_level p waiting next class ls new e f n = λ l b.
    none_wait b p next new (omega (arith, n)) ∙ sym (one_level (trails (class, Some l) b) p waiting ls new e f)

-- ---- the units that are read

last_or-push : {A : Type 0} (o : Option A) (xs : List A) (x : A) → last_or o (xs ++ x ∷ []) ≡ Some x
last_or-push o [] x = refl
last_or-push o (y ∷ xs) x = last_or-push (Some y) xs x

last_or-at : (o : Option ℕ) (xs : List ℕ) (p d : ℕ) → 0 < length xs → unwrap_or (last_or o xs) p ≡ get_or xs (length xs - 1) d
last_or-at o [] p d h = absurd (omega (arith, h))
last_or-at o (x ∷ []) p d h = refl
last_or-at o (x ∷ y ∷ xs) p d h =
    let e : length (x ∷ y ∷ xs) - 1 ≡ suc (length (y ∷ xs) - 1) = omega arith in
    last_or-at (Some x) (y ∷ xs) p d (omega arith) ∙ ap (λ k. get_or (x ∷ y ∷ xs) k d) (sym e)

pub before_some : (p : ℕ) (xs : List ℕ) (d : ℕ) → 0 < length xs → level_before p xs ≡ get_or xs (length xs - 1) d
before_some p xs d h = last_or-at None xs p d h

pub before_none : (p : ℕ) (xs : List ℕ) → length xs ≡ 0 → level_before p xs ≡ p
before_none p [] h = refl
before_none p (x ∷ xs) h = absurd (omega (arith, h))

-- one more unit
levels-behind-more : (p x : ℕ) (found : List ℕ) (l : Option ℕ) (ls : List (Option ℕ)) → x ≡ unwrap_or l (level_before p found)
    → with_levels_behind p found (l ∷ ls) ≡ with_levels_behind p (found ++ x ∷ []) ls
levels-behind-more p x found l ls e =
    let level = unwrap_or l (level_before p found) in
    sym (append_assoc found (level ∷ []) (levels_or_before level ls))
    ∙ ap (λ y. (found ++ y ∷ []) ++ levels_or_before y ls) (sym e)
    ∙ ap (λ y. (found ++ x ∷ []) ++ levels_or_before y ls) (sym (ap (λ o. unwrap_or o p) (last_or-push None found x)))

-- a unit whose first kept character is read
kept-first : (t : Bool) (p waiting n l : ℕ) (class : Class) (found : List ℕ) (ls rest : List (Option ℕ)) → waiting ≤ length found
    → with_levels_behind p (settled_if t p waiting found) (first_level (take (suc n) (level_at p (class, Some l) t ∷ ls)) ∷ rest)
    ≡ with_levels_behind p (settled_if t p waiting (found ++ l ∷ [])) rest
kept-first true p waiting n l class found ls rest h =
    levels-behind-more p p (settled p waiting found) (Some p) rest refl ∙ ap (λ xs. with_levels_behind p xs rest) (sym (settled-push p waiting l found h))
kept-first false p waiting n l class found ls rest h = levels-behind-more p l found (Some l) rest refl

last-settled : (o : Option ℕ) (p waiting : ℕ) (found : List ℕ) → waiting < length found → last_or o (settled p waiting found) ≡ Some p
last-settled o p waiting [] h = absurd (omega (arith, h))
last-settled o p zero (x ∷ []) h = refl
last-settled o p zero (x ∷ y ∷ xs) h = last-settled (Some p) p zero (y ∷ xs) (omega arith)
last-settled o p (suc n) (x ∷ xs) h = last-settled (Some x) p n xs (omega (arith, h))

-- a unit with no kept character
waits : (p waiting : ℕ) (found : List ℕ) → waiting < length found → level_before p (settled p waiting found) ≡ p
waits p waiting found h = ap (λ o. unwrap_or o p) (last-settled None p waiting found h)

pub before_waits : (b : Bool) (p waiting l : ℕ) (found new : List ℕ) → waiting < length found → l ≡ level_before p found → new ≡ found ++ l ∷ []
    → settled_if b p waiting new ≡ settled_if b p waiting found ++ level_before p (settled_if b p waiting found) ∷ []
before_waits true p waiting l found new h e f =
    ap (settled p waiting) f ∙ settled-push p waiting l found (omega (arith, h)) ∙ ap (λ x. settled p waiting found ++ x ∷ []) (sym (waits p waiting found h))
before_waits false p waiting l found new h e f = f ∙ ap (λ x. found ++ x ∷ []) e

pub before_settled : (b : Bool) (p waiting l : ℕ) (found new : List ℕ) → length found ≤ waiting → l ≡ level_before p found → new ≡ found ++ l ∷ []
    → settled_if b p (length new) new ≡ settled_if b p waiting found ++ level_before p (settled_if b p waiting found) ∷ []
before_settled b p waiting l found new h e f =
    none_wait b p (length new) new (omega arith) ∙ f ∙ ap (λ x. found ++ x ∷ []) e
    ∙ ap (λ xs. xs ++ level_before p xs ∷ []) (sym (none_wait b p waiting found h))

pub no_kept : (p waiting next : ℕ) (found new : List ℕ) (counts : List ℕ) (cs : List CharLevel)
    → ((b : Bool) → settled_if b p next new ≡ settled_if b p waiting found ++ level_before p (settled_if b p waiting found) ∷ [])
    → unit_from false p found waiting 0 counts cs ≡ levels_from p new next 0 counts cs
no_kept p waiting next found new counts cs h =
    let b = only_trailing cs in
    let s = settled_if b p waiting found in
    levels-behind-more p (level_before p s) s None (unit_levels counts (l1 p cs)) refl
    ∙ ap (λ xs. with_levels_behind p xs (unit_levels counts (l1 p cs))) (sym (h b))

-- ---- the characters of a unit

first-kept : (p l : ℕ) (class : Class) (old new : List ℕ) (waiting next : ℕ) → waiting ≤ length old → Reads p class (old ++ l ∷ []) waiting new next
    → ReadsChar p class false (Some l) old waiting new next
first-kept p l class old new waiting next h reads = λ n counts cs.
    let b = only_trailing cs in
    kept-first (trails (class, Some l) b) p waiting n l class old (l1 p cs) (unit_levels counts (drop n (l1 p cs))) h
    ∙ ap (λ xs. with_levels_behind p xs (unit_levels counts (drop n (l1 p cs)))) (sym (reads l b))

more-kept : (p l : ℕ) (class : Class) (old new : List ℕ) (waiting next : ℕ) → Reads p class old waiting new next
    → ReadsChar p class true (Some l) old waiting new next
more-kept p l class old new waiting next reads = λ n counts cs.
    ap (λ xs. with_levels_behind p xs (unit_levels counts (drop n (l1 p cs)))) (sym (reads l (only_trailing cs)))

pub char-first : (p l : ℕ) (class : Class) (k : Bool) (level : Option ℕ) (old new : List ℕ) (waiting next : ℕ) → k ≡ false → level ≡ Some l
    → waiting ≤ length old → Reads p class (old ++ l ∷ []) waiting new next → ReadsChar p class k level old waiting new next
char-first p l class k level old new waiting next e f h reads =
    subst (λ x. ReadsChar p class x level old waiting new next) (sym e)
    (subst (λ x. ReadsChar p class false x old waiting new next) (sym f) (first-kept p l class old new waiting next h reads))

pub char-more : (p l : ℕ) (class : Class) (k : Bool) (level : Option ℕ) (old new : List ℕ) (waiting next : ℕ) → k ≡ true → level ≡ Some l
    → Reads p class old waiting new next → ReadsChar p class k level old waiting new next
char-more p l class k level old new waiting next e f reads =
    subst (λ x. ReadsChar p class x level old waiting new next) (sym e)
    (subst (λ x. ReadsChar p class true x old waiting new next) (sym f) (more-kept p l class old new waiting next reads))

drop-nil : (n : ℕ) → drop {A = Option ℕ} n [] ≡ []
drop-nil zero = refl
drop-nil (suc n) = refl

take-nil : (n : ℕ) → take {A = Option ℕ} n [] ≡ []
take-nil zero = refl
take-nil (suc n) = refl

-- characters after the last level
no_levels : (k : Bool) (p : ℕ) (found : List ℕ) (waiting n : ℕ) (counts : List ℕ)
    → unit_from k p found waiting (suc n) counts [] ≡ unit_from k p found waiting n counts []
no_levels true p found waiting n counts = ap (λ xs. with_levels_behind p (settled p waiting found) (unit_levels counts xs)) (sym (drop-nil n))
no_levels false p found waiting n counts =
    ap₂ (λ xs ys. with_levels_behind p (settled p waiting found) (first_level xs ∷ unit_levels counts ys)) (sym (take-nil n)) (sym (drop-nil n))

behind_none : (k : Bool) (p : ℕ) (class : Class) (found : List ℕ) (waiting n : ℕ) (counts : List ℕ)
    → unit_from k p found waiting (suc n) counts ((class, None) ∷ []) ≡ unit_from k p found waiting n counts []
behind_none true p class found waiting n counts = refl
behind_none false p class found waiting n counts = refl

zip-none : {A B : Type 0} (xs : List A) → zip {X = B} xs [] ≡ []
zip-none [] = refl
zip-none (x ∷ xs) = refl

-- one character of a unit is read
pub char-read : (ucd : Data) (p : ℕ) (k : Bool) (c : ℕ) (cs : List ℕ) (levels left : List (Option ℕ)) (level : Option ℕ) (old new : List ℕ)
    (waiting next n : ℕ) (counts : List ℕ) → level ≡ get_or levels 0 None → left ≡ drop 1 levels → ReadsChar p (ucd.class c) k level old waiting new next
    → unit_from k p old waiting (suc n) counts (zip (map ucd.class (c ∷ cs)) levels)
    ≡ unit_from (k || is_some level) p new next n counts (zip (map ucd.class cs) left)
char-read ucd p k c cs [] left level old new waiting next n counts e f read =
    no_levels k p old waiting n counts ∙ sym (behind_none k p (ucd.class c) old waiting n counts)
    ∙ ap (λ x. unit_from k p old waiting (suc n) counts ((ucd.class c, x) ∷ [])) (sym e) ∙ read n counts []
    ∙ ap (unit_from (k || is_some level) p new next n counts) (sym (ap (zip (map ucd.class cs)) f ∙ zip-none (map ucd.class cs)))
char-read ucd p k c cs (l ∷ ls) left level old new waiting next n counts e f read =
    ap (λ x. unit_from k p old waiting (suc n) counts ((ucd.class c, x) ∷ zip (map ucd.class cs) ls)) (sym e) ∙ read n counts (zip (map ucd.class cs) ls)
    ∙ ap (λ x. unit_from (k || is_some level) p new next n counts (zip (map ucd.class cs) x)) (sym f)

chars_none : (rest : List ℕ) → length rest ≡ 0 → chars rest ≡ []
chars_none [] h = chars-nil
chars_none (x ∷ xs) h = absurd (omega (arith, h))

module _ (ucd : Data) (p : ℕ) (all : List ℕ → List ℕ → List ℕ) (rest : List ℕ) (k : Bool) (found : List ℕ) (waiting : ℕ) (left : List (Option ℕ))
    (inv : (more counts : List ℕ) → all more counts
    ≡ unit_from k p found waiting (length (chars rest)) counts (zip (map ucd.class (chars rest ++ more)) left)) where
  pub unit-more : (c : ℕ) (behind new : List ℕ) (level : Option ℕ) (after : List (Option ℕ)) (next : ℕ) (known : Bool) → chars rest ≡ c ∷ chars behind
      → level ≡ get_or left 0 None → after ≡ drop 1 left → ReadsChar p (ucd.class c) k level found waiting new next → known ≡ (k || is_some level)
      → (more counts : List ℕ) → all more counts
      ≡ unit_from known p new next (length (chars behind)) counts (zip (map ucd.class (chars behind ++ more)) after)
  unit-more c behind new level after next known e f g read h more counts =
      inv more counts
      ∙ ap (λ cs. unit_from k p found waiting (length cs) counts (zip (map ucd.class (cs ++ more)) left)) e
      ∙ char-read ucd p k c (chars behind ++ more) left after level found new waiting next (length (chars behind)) counts f g read
      ∙ ap (λ x. unit_from x p new next (length (chars behind)) counts (zip (map ucd.class (chars behind ++ more)) after)) (sym h)

  unit-end : length rest ≡ 0 → (more counts : List ℕ) → all more counts ≡ unit_from k p found waiting 0 counts (zip (map ucd.class more) left)
  unit-end e more counts =
      inv more counts ∙ ap (λ cs. unit_from k p found waiting (length cs) counts (zip (map ucd.class (cs ++ more)) left)) (chars_none rest e)

  pub known-end : length rest ≡ 0 → k ≡ true → (more counts : List ℕ) → all more counts ≡ levels_from p found waiting 0 counts (zip (map ucd.class more) left)
  known-end e h more counts = unit-end e more counts ∙ ap (λ x. unit_from x p found waiting 0 counts (zip (map ucd.class more) left)) h

  pub unknown-end : (next : ℕ) (new : List ℕ) → length rest ≡ 0 → k ≡ false
      → ((b : Bool) → settled_if b p next new ≡ settled_if b p waiting found ++ level_before p (settled_if b p waiting found) ∷ [])
      → (more counts : List ℕ) → all more counts ≡ levels_from p new next 0 counts (zip (map ucd.class more) left)
  unknown-end next new e h read more counts =
      unit-end e more counts ∙ ap (λ x. unit_from x p found waiting 0 counts (zip (map ucd.class more) left)) h
      ∙ no_kept p waiting next found new counts (zip (map ucd.class more) left) read
