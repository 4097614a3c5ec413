-- Isolating run sequences and the types at their ends, BD13 and X10. `paragraph` is the paragraph level, `cs` are the classes of the
-- paragraph's characters and `kept` their results of the explicit rules; `r` and `q` are level runs.
pub use Rattle.bx_ucd.specs.Class.{direction}
use Rattle.std.specs.Prelude.{◌==◌, ℕ, ◌+◌, Bool, true, false, List, [], ◌∷◌, ◌++◌, Option, Some, None, take, drop, reverse, max}
use Rattle.std.specs.List.{list_any}
use Rattle.std.specs.Prelude.{◌-◌}
use Rattle.bx_ucd.specs.declared.class.Class.{Class}
use Rattle.bx_ucd.specs.Class.{is_initiator}
use Rattle.bx_levels.specs.declared.embedding.entry.ExplicitChar.{ExplicitChar}
use Rattle.bx_levels.specs.declared.embedding.runs.Run.{Run}
use Rattle.bx_levels.specs.embedding.ParagraphLevel.{match_of}

-- the run of a level from the index `first` to the index `last`, both included
abbrev pub run : ℕ → ℕ → ℕ → Run
run level first last = record { level = level; first = first; last = last }

-- a kept character at index `k` joins the next run, if that has its level
abbrev pub join_run : ℕ → ℕ → List Run → List Run
join_run k level [] = run level k k ∷ []
join_run k level (r ∷ rs) = elim (r.level == level) [ true ↦ run level k r.last ∷ rs | false ↦ run level k k ∷ r ∷ rs ]

-- the level runs of the characters from index `k` on; removed characters do not count
abbrev pub runs_from : ℕ → List (Option ExplicitChar) → List Run
runs_from k [] = []
runs_from k (None ∷ cs) = runs_from (k + 1) cs
runs_from k (Some c ∷ cs) = join_run k c.level (runs_from (k + 1) cs)

-- the indexes of the kept characters, counted from `k`
abbrev pub kept_indexes : ℕ → List (Option ExplicitChar) → List ℕ
kept_indexes k [] = []
kept_indexes k (None ∷ cs) = kept_indexes (k + 1) cs
kept_indexes k (Some c ∷ cs) = k ∷ kept_indexes (k + 1) cs

-- the indexes of a run
abbrev pub indexes_of : List (Option ExplicitChar) → Run → List ℕ
indexes_of kept r = kept_indexes r.first (take (r.last + 1 - r.first) (drop r.first kept))

-- an isolating run sequence: the indexes of its characters, their level, and the types before its first character (sos)
-- and after its last (eos)
pub record RunSequence : Type 0 where
  pub indexes : List ℕ
  pub level : ℕ
  pub sos : Class
  pub eos : Class

-- BD13: the run `r` ends in an initiator whose matching PDI begins the run `q`
abbrev pub is_joined : List Class → Run → Run → Bool
is_joined cs r q = elim (match_of cs r.last) [ None ↦ false | Some p ↦ p == q.first ]

-- a run is joined to one of the runs before it
abbrev pub follows : List Class → List Run → Run → Bool
follows cs before r = list_any (λ q. is_joined cs q r) before

-- the runs after `r` in its chain, each joined to the next, from the later runs `qs`
abbrev pub followers : List Class → Run → List Run → List Run
followers cs r [] = []
followers cs r (q ∷ qs) = elim (is_joined cs r q) [ true ↦ q ∷ followers cs q qs | false ↦ followers cs r qs ]

-- the indexes of all runs of a chain
abbrev pub chain_indexes : List (Option ExplicitChar) → List Run → List ℕ
chain_indexes kept [] = []
chain_indexes kept (r ∷ rs) = indexes_of kept r ++ chain_indexes kept rs

-- the last run of a chain that begins with `r`
abbrev pub last_run : Run → List Run → Run
last_run r [] = r
last_run r (q ∷ qs) = last_run q qs

-- the level of the first kept character of a list, or the paragraph level
abbrev pub level_of_first : ℕ → List (Option ExplicitChar) → ℕ
level_of_first paragraph [] = paragraph
level_of_first paragraph (None ∷ cs) = level_of_first paragraph cs
level_of_first paragraph (Some c ∷ cs) = c.level

-- sos: the direction of the higher of two levels, the run's and the one of the kept character before it
abbrev pub start_class : ℕ → List (Option ExplicitChar) → Run → Class
start_class paragraph kept r = direction (max r.level (level_of_first paragraph (reverse (take r.first kept))))

abbrev pub starts_with_initiator : List Class → Bool
starts_with_initiator [] = false
starts_with_initiator (c ∷ cs) = is_initiator c

-- the level of the next kept character after index `p`; the paragraph level if none follows, or if `p` holds an initiator
abbrev pub level_after : ℕ → List Class → List (Option ExplicitChar) → ℕ → ℕ
level_after paragraph cs kept p = elim (starts_with_initiator (drop p cs)) [
  | true ↦ paragraph
  | false ↦ level_of_first paragraph (drop (p + 1) kept)
]

-- eos: the direction of the higher of the run's level and the level after its last character
abbrev pub end_class : ℕ → List Class → List (Option ExplicitChar) → Run → Class
end_class paragraph cs kept r = direction (max r.level (level_after paragraph cs kept r.last))

-- the sequence of a run and its followers
abbrev pub sequence_of : ℕ → List Class → List (Option ExplicitChar) → Run → List Run → RunSequence
sequence_of paragraph cs kept r rs = record {
  indexes = chain_indexes kept (r ∷ rs);
  level = r.level;
  sos = start_class paragraph kept r;
  eos = end_class paragraph cs kept (last_run r rs);
}

-- one sequence for each of the runs `r ∷ rs` to which no earlier run is joined; `before` are the runs before `r`
abbrev pub sequences_from : ℕ → List Class → List (Option ExplicitChar) → List Run → List Run → List RunSequence
sequences_from paragraph cs kept before [] = []
sequences_from paragraph cs kept before (r ∷ rs) = elim (follows cs before r) [
  | true ↦ sequences_from paragraph cs kept (before ++ r ∷ []) rs
  | false ↦ sequence_of paragraph cs kept r (followers cs r rs) ∷ sequences_from paragraph cs kept (before ++ r ∷ []) rs
]

-- the isolating run sequences of a paragraph, from its level, its characters' classes and the results of the explicit rules, sorted by
-- first index
abbrev pub sequences : ℕ → List Class → List (Option ExplicitChar) → List RunSequence
sequences paragraph cs kept = sequences_from paragraph cs kept [] (runs_from 0 kept)
