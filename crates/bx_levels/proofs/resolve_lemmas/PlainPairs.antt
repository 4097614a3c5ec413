-- The bracket pairs of any list lie inside it.
use Rattle.std.proofs.Common.{◌≡◌, ◌<◌, ◌≤◌, ◌+◌, ℕ, List, [], ◌∷◌, length, arith, true, false, Option, Some, None, refl}
use Rattle.std.specs.Prelude.{find, nat_lt, ◌==◌}
use Rattle.bx_ucd.specs.Data.{Data}
use Rattle.bx_ucd.specs.declared.class.Class.{Class}
use Rattle.bx_ucd.specs.declared.data.Side.{Side}
use Rattle.bx_ucd.specs.declared.data.Side.TheVariants.{Opener, Closer}
use Rattle.bx_levels.specs.brackets.Pairs.{bracket_room, Search, insert_pair, is_open, open_openers, meet, meet_opener, canonical, bracket_at, search_from, pairs}
use Rattle.bx_levels.specs.brackets.Search.{IsFalling}
use Rattle.bx_levels.proofs.brackets_lemmas.Stack.{falling_later, falling_filter, found_below}

-- each pair is in order and ends before `n`
abbrev pub AreInside : ℕ → List (ℕ × ℕ) → Type 0
AreInside n [] = Unit {0}
AreInside n (p ∷ ps) = (p.0 < p.1) × (p.1 < n) × AreInside n ps

inside_later : (m n : ℕ) (ps : List (ℕ × ℕ)) → m ≤ n → AreInside m ps → AreInside n ps
inside_later m n [] l h = tt
inside_later m n (p ∷ ps) l h = let b : p.1 < m = h.1 in (h.0, omega arith, inside_later m n ps l h.2)

inside_insert : (n : ℕ) (p : ℕ × ℕ) (ps : List (ℕ × ℕ)) → p.0 < p.1 → p.1 < n → AreInside n ps → AreInside n (insert_pair p ps)
inside_insert n p [] a b h = (a, b, tt)
inside_insert n p (q ∷ qs) a b h = elim (nat_lt p.0 q.0) as
    (λ v. AreInside n (elim v as (λ x. List (ℕ × ℕ)) [ true ↦ p ∷ q ∷ qs | false ↦ q ∷ insert_pair p qs ])) [
      | true ↦ (a, b, h)
      | false ↦ (h.0, h.1, inside_insert n p qs a b h.2)
    ]

-- the invariant of a search at index `j`
pub record IsSound (j : ℕ) (s : Search) : Type 0 where
  pub falling : IsFalling j s.openers
  pub inside : AreInside j s.pairs

opener_sound : (j c : ℕ) (s : Search) → IsSound j s → IsSound (j + 1) (meet_opener s j c)
opener_sound j c s h = elim (nat_lt (length (open_openers s)) bracket_room) as
    (λ b. IsSound (j + 1) (elim b as (λ x. Search) [ true ↦ record s { openers = (j, canonical c) ∷ s.openers } | false ↦ record s { is_over = true } ])) [
      | true ↦ record { falling = (omega arith, h.falling); inside = inside_later j (j + 1) s.pairs (omega arith) h.inside }
      | false ↦ record { falling = falling_later j (j + 1) s.openers (omega arith) h.falling; inside = inside_later j (j + 1) s.pairs (omega arith) h.inside }
    ]

closer_by : (j c : ℕ) (s : Search) (b : Option (ℕ × ℕ)) → find (λ (o : ℕ × ℕ). o.1 == canonical c) (open_openers s) ≡ b → IsSound j s
    → IsSound (j + 1) (elim b as (λ x. Search) [ None ↦ s | Some o ↦ record s { pairs = insert_pair (o.0, j) s.pairs } ])
closer_by j c s None e h = record {
  falling = falling_later j (j + 1) s.openers (omega arith) h.falling;
  inside = inside_later j (j + 1) s.pairs (omega arith) h.inside;
}
closer_by j c s (Some o) e h =
    let low : o.0 < j = found_below (λ (x : ℕ × ℕ). x.1 == canonical c) j (open_openers s) o (falling_filter (is_open s.pairs) j s.openers h.falling) e in
    record {
      falling = falling_later j (j + 1) s.openers (omega arith) h.falling;
      inside = inside_insert (j + 1) (o.0, j) s.pairs low (omega arith) (inside_later j (j + 1) s.pairs (omega arith) h.inside);
    }

meet_sound : (j c : ℕ) (s : Search) (b : Option (Side × ℕ)) → IsSound j s → IsSound (j + 1) (meet s j c b)
meet_sound j c s None h = record {
  falling = falling_later j (j + 1) s.openers (omega arith) h.falling;
  inside = inside_later j (j + 1) s.pairs (omega arith) h.inside;
}
meet_sound j c s (Some (Opener, m)) h = opener_sound j m s h
meet_sound j c s (Some (Closer, m)) h = closer_by j c s (find (λ (o : ℕ × ℕ). o.1 == canonical c) (open_openers s)) refl h

search_inside : (ucd : Data) (n j : ℕ) (cs : List ℕ) (ts : List Class) (s : Search) → j + length ts ≤ n → IsSound j s
    → AreInside n (search_from ucd s j cs ts).pairs
search_inside ucd n j [] ts s l h = inside_later j n s.pairs (omega arith) h.inside
search_inside ucd n j (c ∷ cs) [] s l h = inside_later j n s.pairs (omega arith) h.inside
search_inside ucd n j (c ∷ cs) (t ∷ ts) s l h =
    let u : Search = meet s j c (bracket_at ucd c t) in
    elim (s.is_over) as (λ b. AreInside n (elim b as (λ x. Search) [ true ↦ s | false ↦ search_from ucd u (j + 1) cs ts ]).pairs) [
      | true ↦ inside_later j n s.pairs (omega arith) h.inside
      | false ↦ search_inside ucd n (j + 1) cs ts u (omega arith) (meet_sound j c s (bracket_at ucd c t) h)
    ]

pub pairs_inside : (ucd : Data) (cs : List ℕ) (ts : List Class) → AreInside (length ts) (pairs ucd cs ts)
pairs_inside ucd cs ts = search_inside ucd (length ts) 0 cs ts (record { openers = []; pairs = []; is_over = false }) (omega arith)
    (record { falling = tt; inside = tt })

pub sound_later : (m n : ℕ) (s : Search) → m ≤ n → IsSound m s → IsSound n s
sound_later m n s l h = record { falling = falling_later m n s.openers l h.falling; inside = inside_later m n s.pairs l h.inside }

pub search_sound : (ucd : Data) (n j : ℕ) (cs : List ℕ) (ts : List Class) (s : Search) → j + length ts ≤ n → IsSound j s
    → IsSound n (search_from ucd s j cs ts)
search_sound ucd n j [] ts s l h = sound_later j n s (omega arith) h
search_sound ucd n j (c ∷ cs) [] s l h = sound_later j n s (omega arith) h
search_sound ucd n j (c ∷ cs) (t ∷ ts) s l h =
    let u : Search = meet s j c (bracket_at ucd c t) in
    elim (s.is_over) as (λ b. IsSound n (elim b as (λ x. Search) [ true ↦ s | false ↦ search_from ucd u (j + 1) cs ts ])) [
      | true ↦ sound_later j n s (omega arith) h
      | false ↦ search_sound ucd n (j + 1) cs ts u (omega arith) (meet_sound j c s (bracket_at ucd c t) h)
    ]
