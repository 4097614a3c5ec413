-- The later runs that are joined to a run: at most the first one that is not above it.
use Rattle.std.proofs.Common.{◌≡◌, ◌≢◌, ◌<◌, ◌≤◌, ◌∙◌, ℕ, List, [], ◌∷◌, ◌++◌, append_assoc, get_or, drop, refl, ap, sym, arith, Bool, true, false, not, ◌&&◌}
use Rattle.std.proofs.Common.{◌||◌, ◌==◌, Some, None, le-ltb, lt-ltb, ltb-true, nat_lt}
use Rattle.std.specs.Prelude.{All}
use Rattle.std.proofs.lemmas.Bool.{and_from, and_parts, and_left, and_right}
use Rattle.std.proofs.lemmas.Bool.Decides.{nat_tests}
use Rattle.std.proofs.lemmas.List.Folds.{list_any-append}
use Rattle.std.proofs.lemmas.List.Elements.{All-cons, All-nil, All-head, All-tail}
use Rattle.bx_ucd.specs.declared.class.Class.{Class}
use Rattle.bx_ucd.specs.Class.{is_initiator}
use Rattle.bx_levels.specs.declared.embedding.runs.Run.{Run}
use Rattle.bx_levels.specs.embedding.ParagraphLevel.{match_after}
use Rattle.bx_levels.specs.embedding.Sequences.{is_joined, followers, follows, starts_with_initiator}
use Rattle.bx_levels.specs.embedding.OpenChains.{ends_in_initiator}
use Rattle.bx_levels.proofs.embedding_lemmas.FirstLow.{all_above, is_resumed}

-- a run that ends in no initiator is joined to none
match_none : (i : ℕ) (cs : List Class) → starts_with_initiator cs ≡ false → match_after i cs ≡ None
match_none i [] h = refl
match_none i (c ∷ cs) h = let e : is_initiator c ≡ false = h in rw (e, match_after)

joined_none : (cs : List Class) (t q : Run) → ends_in_initiator cs t ≡ false → is_joined cs t q ≡ false
joined_none cs t q h = ap (λ o. elim o as (λ x. Bool) [ None ↦ false | Some p ↦ p == q.first ]) (match_none t.last (drop t.last cs) h)

-- runs above a level, one more
pub above_more : (level : ℕ) (rs : List Run) (q : Run) → all_above level rs ≡ true → level < q.level → all_above level (rs ++ q ∷ []) ≡ true
above_more level [] q a h = and_from (nat_lt level q.level) true (lt-ltb level q.level h) refl
above_more level (r ∷ rs) q a h = let b : (nat_lt level r.level ≡ true)
    × (all_above level rs ≡ true) = and_parts (nat_lt level r.level) (all_above level rs) a in and_from (nat_lt level r.level) (all_above level (rs ++ q ∷ []))
    b.0 (above_more level rs q b.1 h)

not_above : (level : ℕ) (rs : List Run) (q : Run) → q.level ≤ level → all_above level (rs ++ q ∷ []) ≡ false
not_above level [] q h = and_left (nat_lt level q.level) true (le-ltb level q.level h)
not_above level (r ∷ rs) q h = and_right (nat_lt level r.level) (all_above level (rs ++ q ∷ [])) (not_above level rs q h)

and_kept : (a b c : Bool) → (a && b) ≡ false → (b ≡ false → c ≡ false) → (a && c) ≡ false
and_kept true b c h k = k h
and_kept false b c h k = refl

still_not : (level : ℕ) (rs : List Run) (q : Run) → all_above level rs ≡ false → all_above level (rs ++ q ∷ []) ≡ false
still_not level [] q h = absurd (cc)
still_not level (r ∷ rs) q h = and_kept (nat_lt level r.level) (all_above level rs) (all_above level (rs ++ q ∷ [])) h (still_not level rs q)

pub append_one : (before between after : List Run) (t q : Run) → (before ++ t ∷ between ++ q ∷ after) ≡ (before ++ t ∷ (between ++ q ∷ []) ++ after)
append_one before between after t q = sym (append_assoc (before ++ t ∷ between) (q ∷ []) after)
    ∙ ap (λ xs. xs ++ after) (append_assoc before (t ∷ between) (q ∷ []))

three : (a b c : Bool) → b ≡ false → (a && b && c) ≡ false
three a b c h = and_left (a && b) c (and_right a b h)

last_of_three : (a b c : Bool) → c ≡ false → (a && b && c) ≡ false
last_of_three a b c h = and_right (a && b) c h

all_three : (a b c : Bool) → a ≡ true → b ≡ true → c ≡ true → (a && b && c) ≡ true
all_three a b c p q r = and_from (a && b) c (and_from a b p q) r

-- `t` is joined to `q` exactly if it ends in an initiator, and `q` is the first later run not above it and has its level
abbrev pub AreJoinedByLevel : List Class → List Run → Type 0
AreJoinedByLevel cs all = (before : List Run) (t : Run) (between : List Run) (q : Run) (after : List Run) → all ≡ before ++ t ∷ between ++ q ∷ after
    → is_joined cs t q ≡ is_resumed cs t between q

abbrev pub IsAlone : List Class → Run → List Run → Type 0
IsAlone cs t rest = All (λ q. is_joined cs t q ≡ false) rest

module _ (cs : List Class) (all : List Run) (law : AreJoinedByLevel cs all) where
  -- after a run that is not above it no run is joined to it
  alone_after : (before : List Run) (t : Run) (between rest : List Run) → all ≡ before ++ t ∷ between ++ rest → all_above t.level between ≡ false
      → IsAlone cs t rest
  alone_after before t between [] e h = All-nil (λ q. is_joined cs t q ≡ false)
  alone_after before t between (q ∷ rest) e h =
      All-cons (λ x. is_joined cs t x ≡ false) q rest
      (law before t between q rest e ∙ last_of_three (ends_in_initiator cs t) (q.level == t.level) (all_above t.level between) h)
      (alone_after before t (between ++ q ∷ []) rest (e ∙ append_one before between rest t q) (still_not t.level between q h))

  later_alone : (before : List Run) (t : Run) (between : List Run) (q : Run) (rest : List Run) → all ≡ before ++ t ∷ between ++ q ∷ rest → q.level ≤ t.level
      → IsAlone cs t rest
  later_alone before t between q rest e h =
      alone_after before t (between ++ q ∷ []) rest (e ∙ append_one before between rest t q) (not_above t.level between q h)

  pub other_level : (before : List Run) (t : Run) (between : List Run) (q : Run) (rest : List Run) → all ≡ before ++ t ∷ between ++ q ∷ rest → q.level ≢ t.level
      → is_joined cs t q ≡ false
  other_level before t between q rest e h = let n : (q.level == t.level) ≡ false = grind (arith, nat_tests) in law before t between q rest e
      ∙ three (ends_in_initiator cs t) (q.level == t.level) (all_above t.level between) n

  -- a chain that is over
  pub over_alone : (before : List Run) (t : Run) (between : List Run) (q : Run) (rest : List Run) → all ≡ before ++ t ∷ between ++ q ∷ rest
      → (nat_lt q.level t.level || not (ends_in_initiator cs t)) ≡ true → IsAlone cs t (q ∷ rest)
  over_alone before t between q rest e h = by (nat_lt q.level t.level) (ends_in_initiator cs t) refl refl h
    where
      by : (a b : Bool) → nat_lt q.level t.level ≡ a → ends_in_initiator cs t ≡ b → (a || not b) ≡ true → IsAlone cs t (q ∷ rest)
      by true b x y z =
          let l : q.level < t.level = ltb-true q.level t.level x in
          All-cons (λ u. is_joined cs t u ≡ false) q rest (other_level before t between q rest e (omega arith))
          (later_alone before t between q rest e (omega arith))
      by false true x y z = absurd (cc)
      by false false x y z = λ k d i. joined_none cs t (get_or (q ∷ rest) k d) y

  -- a chain that goes on
  pub resumed_joins : (before : List Run) (t : Run) (between : List Run) (q : Run) (rest : List Run) → all ≡ before ++ t ∷ between ++ q ∷ rest
      → all_above t.level between ≡ true → ends_in_initiator cs t ≡ true → q.level ≡ t.level → (is_joined cs t q ≡ true) × IsAlone cs t rest
  resumed_joins before t between q rest e a i h =
      let s : (q.level == t.level) ≡ true = grind (arith, nat_tests) in (
        law before t between q rest e ∙ all_three (ends_in_initiator cs t) (q.level == t.level) (all_above t.level between) i s a,
        later_alone before t between q rest e (omega arith),
      )

-- the runs that follow a run
followers_at : (cs : List Class) (r q : Run) (qs : List Run) (b : Bool) → is_joined cs r q ≡ b
    → followers cs r (q ∷ qs) ≡ elim b [ true ↦ q ∷ followers cs q qs | false ↦ followers cs r qs ]
followers_at cs r q qs true e = rw (e, followers)
followers_at cs r q qs false e = rw (e, followers)

pub followers_joined : (cs : List Class) (t q : Run) (rest : List Run) → is_joined cs t q ≡ true → followers cs t (q ∷ rest) ≡ q ∷ followers cs q rest
followers_joined cs t q rest h = followers_at cs t q rest true h

pub followers_unjoined : (cs : List Class) (t q : Run) (rest : List Run) → is_joined cs t q ≡ false → followers cs t (q ∷ rest) ≡ followers cs t rest
followers_unjoined cs t q rest h = followers_at cs t q rest false h

pub alone : (cs : List Class) (t : Run) (rest : List Run) → IsAlone cs t rest → followers cs t rest ≡ []
alone cs t [] a = refl
alone cs t (q ∷ rest) a = followers_unjoined cs t q rest (All-head (λ x. is_joined cs t x ≡ false) q rest a)
    ∙ alone cs t rest (All-tail (λ x. is_joined cs t x ≡ false) q rest a)

-- a run to come is joined to a run met so far exactly if it is joined to the newest run of an open chain
abbrev pub AreJoinedToHeads : List Class → List Run → List Run → List Run → Type 0
AreJoinedToHeads cs hs done rest = All (λ q. follows cs done q ≡ follows cs hs q) rest

or_none : (b : Bool) → (b || false) ≡ b
or_none true = refl
or_none false = refl

or_comm : (a b : Bool) → (a || b) ≡ (b || a)
or_comm true true = refl
or_comm true false = refl
or_comm false b = sym (or_none b)

pub head_over : (cs : List Class) (t : Run) (hs done rest : List Run) → AreJoinedToHeads cs (t ∷ hs) done rest → IsAlone cs t rest → AreJoinedToHeads cs hs done rest
head_over cs t hs done rest s a = λ k d h. s k d h ∙ ap (λ b. b || follows cs hs (get_or rest k d)) (a k d h)

pub head_new : (cs : List Class) (q : Run) (hs done rest : List Run) → AreJoinedToHeads cs hs done rest → AreJoinedToHeads cs (q ∷ hs) (done ++ q ∷ []) rest
head_new cs q hs done rest s = λ k d h.
    let x : Run = get_or rest k d in
    list_any-append (λ u. is_joined cs u x) done (q ∷ [])
    ∙ ap (λ b. b || (is_joined cs q x || false)) (s k d h)
    ∙ or_comm (follows cs hs x) (is_joined cs q x || false)
    ∙ ap (λ b. b || follows cs hs x) (or_none (is_joined cs q x))
