-- A property of each index with type ON holds at both ends of each bracket pair.
use Rattle.std.proofs.Common.{◌≡◌, ◌+◌, ℕ, List, [], ◌∷◌, length, refl, subst, Bool, true, false, Option, Some, None}
use Rattle.std.specs.Prelude.{find, filter, cond, nat_lt, ◌==◌}
use Rattle.bx_ucd.specs.Data.{Data}
use Rattle.bx_ucd.specs.declared.class.Class.{Class}
use Rattle.bx_ucd.specs.declared.data.Side.{Side}
use Rattle.bx_ucd.specs.declared.data.Side.TheVariants.{Opener, Closer}
use Rattle.bx_levels.specs.brackets.Pairs.{bracket_room, Search, is_on, insert_pair, is_open, open_openers, meet, meet_opener, canonical, bracket_at, search_from}
use Rattle.bx_levels.specs.brackets.Pairs.{pairs}

-- of a list of types that begins at index `j`
abbrev pub AreOn : (ℕ → Type 0) → ℕ → List Class → Type 0
AreOn P j [] = Unit {0}
AreOn P j (t ∷ ts) = (is_on t ≡ true → P j) × AreOn P (j + 1) ts

abbrev HaveOpeners : (ℕ → Type 0) → List (ℕ × ℕ) → Type 0
HaveOpeners P [] = Unit {0}
HaveOpeners P (o ∷ os) = P o.0 × HaveOpeners P os

abbrev pub HaveEnds : (ℕ → Type 0) → List (ℕ × ℕ) → Type 0
HaveEnds P [] = Unit {0}
HaveEnds P (p ∷ ps) = P p.0 × P p.1 × HaveEnds P ps

record IsOfBrackets (P : ℕ → Type 0) (s : Search) : Type 0 where
  pub openers : HaveOpeners P s.openers
  pub pairs : HaveEnds P s.pairs

module _ (P : ℕ → Type 0) where
  openers_filter : (f : ℕ × ℕ → Bool) (os : List (ℕ × ℕ)) → HaveOpeners P os → HaveOpeners P (filter f os)
  openers_filter f [] h = tt
  openers_filter f (o ∷ os) h =
      let rest : HaveOpeners P (filter f os) = openers_filter f os h.1 in
      elim (f o) as (λ b. HaveOpeners P (cond b (o ∷ filter f os) (filter f os))) [ true ↦ (h.0, rest) | false ↦ rest ]

  opener_found : (f : ℕ × ℕ → Bool) (os : List (ℕ × ℕ)) (o : ℕ × ℕ) → HaveOpeners P os → find f os ≡ Some o → P o.0
  opener_found f [] o h e = absurd (cc)
  opener_found f (x ∷ xs) o h e =
      let here : P x.0 = h.0 in
      let later : find f xs ≡ Some o → P o.0 = opener_found f xs o h.1 in
      (elim (f x) as (λ b. cond b (Some x) (find f xs) ≡ Some o → P o.0) [
        | true ↦ λ k. let q : x ≡ o = cc in subst (λ (y : ℕ × ℕ). P y.0) q here
        | false ↦ λ k. later k
      ]) e

  ends_insert : (p : ℕ × ℕ) (ps : List (ℕ × ℕ)) → P p.0 → P p.1 → HaveEnds P ps → HaveEnds P (insert_pair p ps)
  ends_insert p [] a b h = (a, b, tt)
  ends_insert p (q ∷ qs) a b h = elim (nat_lt p.0 q.0) as (λ v. HaveEnds P (elim v as (λ x. List (ℕ
      × ℕ)) [ true ↦ p ∷ q ∷ qs | false ↦ q ∷ insert_pair p qs ])) [
        | true ↦ (a, b, h)
        | false ↦ (h.0, h.1, ends_insert p qs a b h.2)
      ]

  at_opener : (j c : ℕ) (s : Search) → P j → IsOfBrackets P s → IsOfBrackets P (meet_opener s j c)
  at_opener j c s here h = elim (nat_lt (length (open_openers s)) bracket_room) as
      (λ b. IsOfBrackets P (elim b as (λ x. Search) [ true ↦ record s { openers = (j, canonical c) ∷ s.openers } | false ↦ record s { is_over = true } ])) [
        | true ↦ record { openers = (here, h.openers); pairs = h.pairs }
        | false ↦ record { openers = h.openers; pairs = h.pairs }
      ]

  closer_by : (j c : ℕ) (s : Search) (b : Option (ℕ × ℕ)) → find (λ (o : ℕ × ℕ). o.1 == canonical c) (open_openers s) ≡ b → P j → IsOfBrackets P s
      → IsOfBrackets P (elim b as (λ x. Search) [ None ↦ s | Some o ↦ record s { pairs = insert_pair (o.0, j) s.pairs } ])
  closer_by j c s None e here h = h
  closer_by j c s (Some o) e here h =
      let low : P o.0 = opener_found (λ (x : ℕ × ℕ). x.1 == canonical c) (open_openers s) o (openers_filter (is_open s.pairs) s.openers h.openers) e in
      record { openers = h.openers; pairs = ends_insert (o.0, j) s.pairs low here h.pairs }

  at_bracket : (j c : ℕ) (s : Search) (b : Option (Side × ℕ)) → P j → IsOfBrackets P s → IsOfBrackets P (meet s j c b)
  at_bracket j c s None here h = h
  at_bracket j c s (Some (Opener, m)) here h = at_opener j m s here h
  at_bracket j c s (Some (Closer, m)) here h = closer_by j c s (find (λ (o : ℕ × ℕ). o.1 == canonical c) (open_openers s)) refl here h

  at_type : (ucd : Data) (j c : ℕ) (s : Search) (t : Class) → (is_on t ≡ true → P j) → IsOfBrackets P s
      → IsOfBrackets P (meet s j c (bracket_at ucd c t))
  at_type ucd j c s t here h =
      (elim (is_on t) as (λ b. (b ≡ true → P j) → IsOfBrackets P (meet s j c (elim b as (λ x. Option (Side × ℕ)) [ true ↦ ucd.bracket c | false ↦ None ]))) [
        | true ↦ λ k. at_bracket j c s (ucd.bracket c) (k refl) h
        | false ↦ λ k. h
      ]) here

  search_ends : (ucd : Data) (j : ℕ) (cs : List ℕ) (ts : List Class) (s : Search) → AreOn P j ts → IsOfBrackets P s
      → HaveEnds P (search_from ucd s j cs ts).pairs
  search_ends ucd j [] ts s a h = h.pairs
  search_ends ucd j (c ∷ cs) [] s a h = h.pairs
  search_ends ucd j (c ∷ cs) (t ∷ ts) s a h =
      let u : Search = meet s j c (bracket_at ucd c t) in
      elim (s.is_over) as (λ b. HaveEnds P (elim b as (λ x. Search) [ true ↦ s | false ↦ search_from ucd u (j + 1) cs ts ]).pairs) [
        | true ↦ h.pairs
        | false ↦ search_ends ucd (j + 1) cs ts u a.1 (at_type ucd j c s t a.0 h)
      ]

  pub pairs_ends : (ucd : Data) (cs : List ℕ) (ts : List Class) → AreOn P 0 ts → HaveEnds P (pairs ucd cs ts)
  pairs_ends ucd cs ts a = search_ends ucd 0 cs ts (record { openers = []; pairs = []; is_over = false }) a (record { openers = tt; pairs = tt })
