-- The levels of what stands in an isolate.
use Rattle.std.proofs.Common.{◌≡◌, ◌<◌, ◌≤◌, ◌+◌, ◌*◌, ◌∙◌, ℕ, zero, suc, List, [], ◌∷◌, ◌++◌, get_or, length, map, refl, ap, sym, subst, arith, Bool}
use Rattle.std.proofs.Common.{true, false, ◌==◌, cond, Option, Some, None, is_some}
use Rattle.std.specs.Prelude.{count_by, nat_lt}
use Rattle.std.proofs.lemmas.Bool.Decides.{nat_tests}
use Rattle.std.proofs.lemmas.List.{drop_at, get_or_append_left, length-append, length-map, map-append}
use Rattle.std.proofs.lemmas.List.Sums.{sum_by-cons}
use Rattle.bx_ucd.specs.Data.{Data}
use Rattle.bx_ucd.specs.declared.class.Class.{Class}
use Rattle.bx_ucd.specs.declared.class.Class.TheVariants.{ON, LRI, RLI, FSI}
use Rattle.bx_levels.specs.declared.embedding.entry.ExplicitChar.{ExplicitChar}
use Rattle.bx_levels.specs.declared.embedding.state.State.{State}
use Rattle.bx_levels.specs.embedding.Explicit.{even_above, explicit_from, explicit_levels, first_above, isolate, next_state, odd_above, start, top}
use Rattle.bx_levels.specs.embedding.Explicit.{role_of}
use Rattle.bx_levels.specs.embedding.Laws.{states, states_from}
use Rattle.bx_levels.specs.embedding.ParagraphLevel.{before_pdi, match_after, match_of, one_more, base_level, isolate_level}
use Rattle.bx_levels.proofs.embedding_lemmas.FirstLow.{pick, resumes_at}
use Rattle.bx_levels.proofs.embedding_lemmas.Inside.{IsInside, out_at}
use Rattle.bx_levels.proofs.embedding_lemmas.Steps.{first_higher, state_at}
use Rattle.bx_levels.specs.resolve.Laws.{entry_at, entry_by, level_at}
use Rattle.bx_levels.specs.resolve.Levels.{paragraph_levels}
use Rattle.bx_levels.specs.resolve.Kept.{is_kept}
use Rattle.bx_levels.proofs.resolve_lemmas.KeptLevels.{base_low, kept_each, paragraph_kept}
use Rattle.bx_editor_laws.specs.AskingLaws.{IsAbove, IsolatesRaise, begins_level, embedding_at}
use Rattle.bx_editor_laws.proofs.LeastLevels.{IsLeast, levels-are-least}
use Rattle.bx_editor_laws.proofs.ShallowStates.{IsShallow, first-near, isolated-now, low-more, low-top, raise, shallow-next, shallow-start, valid-now}

-- ---- the state before an initiator

shallow-after : (high : ℕ) (front rest : List Class) (s : State) → IsShallow high s → high + 2 * count_by begins_level front ≤ 123
    → IsShallow (high + 2 * count_by begins_level front) (state_at (length front) (front ++ rest) s)
shallow-after high [] rest s h few = let same : high ≡ high + 2 * 0 = omega arith in subst (λ n. IsShallow n s) same h
shallow-after high (c ∷ front) rest s h few =
    let size = sum_by-cons (λ c. cond (begins_level c) 1 0) c front in
    let next = high + raise c in
    let all : next + 2 * count_by begins_level front ≡ high + 2 * count_by begins_level (c ∷ front) = omega (arith, size) in
    subst (λ n. IsShallow n (state_at (length front) (front ++ rest) (next_state (role_of c) (front ++ rest) s))) all
    (shallow-after next front rest (next_state (role_of c) (front ++ rest) s) (shallow-next high c (front ++ rest) s h (omega (arith, few)))
    (omega (arith, few, all)))

state-there : (s d : State) (front rest : List Class) → get_or (states_from s (front ++ rest)) (length front) d ≡ state_at (length front) (front ++ rest) s
state-there s d [] [] = refl
state-there s d [] (c ∷ rest) = refl
state-there s d (c ∷ front) rest = state-there (next_state (role_of c) (front ++ rest) s) d front rest

class-there : (front : List Class) (o : Class) (rest : List Class) → get_or (front ++ o ∷ rest) (length front) ON ≡ o
class-there [] o rest = refl
class-there (c ∷ front) o rest = class-there front o rest

levels-there : (s : State) (front rest : List Class) (i : ℕ)
    → get_or (explicit_from s (front ++ rest)) (length front + i) None ≡ get_or (explicit_from (state_at (length front) (front ++ rest) s) rest) i None
levels-there s [] rest i = let same : 0 + i ≡ i = omega arith in ap (λ n. get_or (explicit_from s rest) n None) same
levels-there s (c ∷ front) rest i =
    let same : suc (length front) + i ≡ suc (length front + i) = omega arith in
    ap (λ n. get_or (explicit_from s (c ∷ front ++ rest)) n None) same ∙ levels-there (next_state (role_of c) (front ++ rest) s) front rest i

-- ---- the state behind it

in-isolate : (s : State) (level : ℕ) → IsShallow 123 s → (top s).level < level → level ≤ 125 → IsInside (top s).level 1 (isolate s level)
in-isolate s level h more few =
    subst (IsInside (top s).level 1) (sym (isolated-now s level (valid-now 123 level s h few)))
    (record { inner = 0; under = (more, refl); counted = omega (arith, h.isolates); valid = omega arith })

-- an initiator, and how many characters stand before its match
record Begins (o : Class) (n m : ℕ) (cs : List Class) (s : State) : Type 0 where
  pub size : before_pdi 1 cs ≡ Some m
  pub inside : IsInside (top s).level 1 (next_state (role_of o) cs s)
  pub top_is : (t : State) → entry_by o s t ≡ top s

size-is : (n m : ℕ) (x : Option ℕ) → elim x as (λ y. Option ℕ) [ None ↦ None | Some k ↦ Some (n + 1 + k) ] ≡ Some (n + 1 + m) → x ≡ Some m
size-is n m None e = absurd (cc e)
size-is n m (Some k) e = let same : n + 1 + k ≡ n + 1 + m = cc e in let k-is : k ≡ m = omega (arith, same) in ap Some k-is

begins : (n m : ℕ) (o : Class) (cs : List Class) (s : State) → IsShallow 123 s → match_after n (o ∷ cs) ≡ Some (n + 1 + m) → Begins o n m cs s
begins n m LRI cs s h e =
    record { size = size-is n m (before_pdi 1 cs) e; inside = in-isolate s (even_above (top s).level) h (omega arith) (omega (arith, low-top 123 s h)); top_is = λ t. refl }
begins n m RLI cs s h e =
    record { size = size-is n m (before_pdi 1 cs) e; inside = in-isolate s (odd_above (top s).level) h (omega arith) (omega (arith, low-top 123 s h)); top_is = λ t. refl }
begins n m FSI cs s h e =
    let first = isolate_level cs in
    record {
      size = size-is n m (before_pdi 1 cs) e;
      inside = in-isolate s (first_above first (top s).level) h (first_higher first (top s).level) (omega (arith, low-top 123 s h, first-near first (top s).level));
      top_is = λ t. refl;
    }
begins n m _ cs s h e = absurd (cc e)

-- ---- the characters up to the match

abbrev AboveIfKept : ℕ → Option ExplicitChar → Type 0
AboveIfKept l None = Unit {0}
AboveIfKept l (Some k) = l < k.level

one-less : (x : Option ℕ) (m : ℕ) → one_more x ≡ Some m → (n : ℕ) × (x ≡ Some n) × (m ≡ suc n)
one-less None m e = absurd (cc e)
one-less (Some n) m e = let same : suc n ≡ m = cc e in (n, refl, sym same)

none-in : (l m i : ℕ) (same : Bool) (a : Option ℕ) → pick false same a (Some 0) ≡ Some m → i < m → ⊥
none-in l m i true a e h = let none : 0 ≡ m = cc e in omega (arith, none, h)
none-in l m i false a e h = cc e

abbrev IsAboveIn : ℕ → List (Option ExplicitChar) → Type 0
IsAboveIn l g = (m i : ℕ) → resumes_at l g ≡ Some m → i < m → AboveIfKept l (get_or g i None)

above-by : (l : ℕ) (k : ExplicitChar) (g : List (Option ExplicitChar)) → IsAboveIn l g → (m i : ℕ) (b : Bool) → nat_lt l k.level ≡ b
    → pick b (k.level == l) (one_more (resumes_at l g)) (Some 0) ≡ Some m → i < m → AboveIfKept l (get_or (Some k ∷ g) i None)
above-by l k g ih m zero true more e h = grind (arith, nat_tests, more)
above-by l k g ih m (suc i) true more e h =
    let less = one-less (resumes_at l g) m e in ih less.0 i less.1 (omega (arith, h, less.2))
above-by l k g ih m i false more e h = absurd (none-in l m i (k.level == l) (one_more (resumes_at l g)) e h)

above-in : (l : ℕ) (g : List (Option ExplicitChar)) → IsAboveIn l g
above-in l [] m i e h = absurd (cc e)
above-in l (None ∷ g) m zero e h = tt
above-in l (None ∷ g) m (suc i) e h =
    let less = one-less (resumes_at l g) m e in above-in l g less.0 i less.1 (omega (arith, h, less.2))
above-in l (Some k ∷ g) m i e h = above-by l k g (above-in l g) m i (nat_lt l k.level) refl e h

-- ---- the levels

some-at : (xs : List (Option ExplicitChar)) (ys : List (Option ℕ)) (p : ℕ) → map is_some ys ≡ map is_some xs
    → is_some (get_or ys p None) ≡ is_some (get_or xs p None)
some-at [] [] p e = refl
some-at [] (y ∷ ys) p e = absurd (cc e)
some-at (x ∷ xs) [] p e = absurd (cc e)
some-at (x ∷ xs) (y ∷ ys) zero e = cc e
some-at (x ∷ xs) (y ∷ ys) (suc p) e = let rest : map is_some ys ≡ map is_some xs = cc e in some-at xs ys p rest

kept-at : (xs : List (Option ExplicitChar)) (cs : List Class) (p : ℕ) → map is_some xs ≡ map is_kept cs → p < length cs
    → is_some (get_or xs p None) ≡ is_kept (get_or cs p ON)
kept-at [] [] p e h = absurd (omega (arith, h))
kept-at [] (c ∷ cs) p e h = absurd (cc e)
kept-at (x ∷ xs) [] p e h = absurd (cc e)
kept-at (x ∷ xs) (c ∷ cs) zero e h = cc e
kept-at (x ∷ xs) (c ∷ cs) (suc p) e h = let rest : map is_some xs ≡ map is_kept cs = cc e in kept-at xs cs p rest (omega (arith, h))

above-level : (l : ℕ) (k : Option ExplicitChar) (level : Option ℕ) → is_some k ≡ true → is_some level ≡ is_some k → AboveIfKept l k → IsLeast k level
    → IsAbove l level
above-level l None level some e a b = absurd (cc some)
above-level l (Some k) None some e a b = absurd (cc e)
above-level l (Some k) (Some level) some e a b = omega (arith, a, b)

-- in classes
module _ (ucd : Data) (chars : List ℕ) (paragraph : ℕ) (low : paragraph ≤ 1) (front : List Class) (o : Class) (inside back : List Class)
    (parts : map ucd.class chars ≡ front ++ o ∷ (inside ++ back)) (few : count_by begins_level front ≤ 61) where
  abbrev n : ℕ
  n = length front

  abbrev rest : List Class
  rest = o ∷ (inside ++ back)

  abbrev before : State
  before = state_at n (front ++ rest) (start paragraph)

  shallow : IsShallow 123 before
  shallow =
      let k = count_by begins_level front in
      low-more (1 + 2 * k) before (omega (arith, few)) (shallow-after 1 front rest (start paragraph) (shallow-start paragraph low) (omega (arith, few)))

  matched : match_of (front ++ rest) n ≡ Some (n + 1 + length inside) → Begins o n (length inside) (inside ++ back) before
  matched e = begins n (length inside) o (inside ++ back) before shallow
      (ap (match_after n) (sym (drop_at front rest n refl)) ∙ e)

  raised : match_of (front ++ rest) n ≡ Some (n + 1 + length inside) → (i : ℕ) → i < length inside → is_kept (get_or inside i ON) ≡ true
      → IsAbove (top before).level (get_or (paragraph_levels ucd paragraph chars) (n + 1 + i) None)
  raised e i h kept =
      let b = matched e in
      let t = next_state (role_of o) (inside ++ back) before in
      let cs = front ++ rest in
      let there : get_or (explicit_levels paragraph cs) (n + 1 + i) None ≡ get_or (explicit_from t (inside ++ back)) i None =
      (let same : n + 1 + i ≡ n + suc i = omega arith in ap (λ p. get_or (explicit_levels paragraph cs) p None) same) ∙ levels-there (start paragraph) front rest (suc i) in
      let above = above-in (top before).level (explicit_from t (inside ++ back)) (length inside) i (out_at (inside ++ back) (top before).level 0 t b.inside ∙ b.size) h in
      let is-kept : is_some (get_or (explicit_from t (inside ++ back)) i None) ≡ true =
      kept-at (explicit_from t (inside ++ back)) (inside ++ back) i (kept_each t (inside ++ back)) (omega (arith, h, length-append inside back))
      ∙ ap is_kept (get_or_append_left inside back ON i h) ∙ kept in
      let levels = paragraph_levels ucd paragraph chars in
      let both : map is_some levels ≡ map is_some (explicit_levels paragraph cs) =
      paragraph_kept ucd paragraph chars low ∙ ap (map is_kept) parts ∙ sym (kept_each (start paragraph) cs) in
      let least : IsLeast (get_or (explicit_levels paragraph cs) (n + 1 + i) None) (get_or levels (n + 1 + i) None) =
      subst (λ ks. IsLeast (get_or (explicit_levels paragraph ks) (n + 1 + i) None) (get_or levels (n + 1 + i) None)) parts
      (levels-are-least ucd paragraph chars (n + 1 + i) low) in
      let k = get_or (explicit_levels paragraph cs) (n + 1 + i) None in
      above-level (top before).level k (get_or levels (n + 1 + i) None) (ap is_some there ∙ is-kept)
      (some-at (explicit_levels paragraph cs) levels (n + 1 + i) both) (subst (AboveIfKept (top before).level) (sym there) above) least

  stands : match_of (front ++ rest) n ≡ Some (n + 1 + length inside) → (entry_at paragraph (front ++ rest) n).level ≡ (top before).level
  stands e =
      let s : State = start paragraph in
      let cs = front ++ rest in
      let t = get_or (states paragraph cs) (n + 1) s in
      ap (λ c. (entry_by c (get_or (states paragraph cs) n s) t).level) (class-there front o (inside ++ back))
      ∙ ap (λ x. (entry_by o x t).level) (state-there s s front rest)
      ∙ ap (λ x. x.level) ((matched e).top_is t)

pub isolates-raise : IsolatesRaise
isolates-raise ucd base front inside back opener e few i h kept =
    let chars = front ++ opener ∷ (inside ++ back) in
    let cs = map ucd.class chars in
    let fs = map ucd.class front in
    let is = map ucd.class inside in
    let bs = map ucd.class back in
    let o = ucd.class opener in
    let paragraph = base_level base cs in
    let parts : cs ≡ fs ++ o ∷ (is ++ bs) =
    map-append ucd.class front (opener ∷ (inside ++ back)) ∙ ap (λ xs. fs ++ o ∷ xs) (map-append ucd.class inside back) in
    let n-is : length fs ≡ length front = length-map front ucd.class in
    let m-is : length is ≡ length inside = length-map inside ucd.class in
    let matched : match_of (fs ++ o ∷ (is ++ bs)) (length fs) ≡ Some (length fs + 1 + length is) =
    ap (match_of (fs ++ o ∷ (is ++ bs))) n-is ∙ ap (λ xs. match_of xs (length front)) (sym parts) ∙ e
    ∙ ap Some (let same : length front + 1 + length inside ≡ length fs + 1 + length is = omega (arith, n-is, m-is) in same) in
    let low = base_low base cs in
    let above = raised ucd chars paragraph low fs o is bs parts few matched i (omega (arith, h, m-is)) kept in
    let at : embedding_at ucd base chars (length front) ≡ (top (before ucd chars paragraph low fs o is bs parts few)).level =
    ap (λ xs. (entry_at paragraph xs (length front)).level) parts ∙ ap (λ k. (entry_at paragraph (fs ++ o ∷ (is ++ bs)) k).level) (sym n-is)
    ∙ stands ucd chars paragraph low fs o is bs parts few matched in
    subst (λ l. IsAbove l (level_at ucd base chars (length front + 1 + i))) (sym at)
    (subst (λ k. IsAbove (top (before ucd chars paragraph low fs o is bs parts few)).level (level_at ucd base chars (k + 1 + i))) n-is above)
