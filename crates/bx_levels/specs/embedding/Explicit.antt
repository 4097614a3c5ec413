-- The explicit levels, X1 to X9, by the standard's own stack and counts.
use Rattle.std.specs.Prelude.{ℕ, ◌+◌, ◌-◌, ◌%◌, nat_le, ◌&&◌, Bool, true, false, List, [], ◌∷◌, Option, Some, None}
use Rattle.std.proofs.Common.{zero, suc}
use Rattle.bx_ucd.specs.declared.class.Class.{Class}
use Rattle.bx_ucd.specs.declared.class.Class.TheVariants.{L, R, BN, LRE, LRO, RLE, RLO, PDF, LRI, RLI, FSI, PDI}
use Rattle.bx_levels.specs.declared.embedding.role.Role.{Role}
use Rattle.bx_levels.specs.declared.embedding.role.Role.TheVariants.{Lre, Rle, Lro, Rlo, Lri, Rli, Fsi, Pdi, Pdf, Bn, Other}
use Rattle.bx_levels.specs.declared.embedding.entry.Entry.{Entry}
use Rattle.bx_levels.specs.declared.embedding.state.State.{State}
use Rattle.bx_levels.specs.declared.embedding.entry.ExplicitChar.{ExplicitChar}
use Rattle.bx_levels.specs.declared.embedding.entry.Override.{Override}
use Rattle.bx_levels.specs.declared.embedding.entry.Override.TheVariants.{Neutral, Left, Right}
use Rattle.bx_levels.specs.embedding.Stack.{max_depth, entry, top_of, after_isolate, after_embedding}
use Rattle.bx_levels.specs.embedding.ParagraphLevel.{isolate_level}

-- the role of a class: which of X2 to X9 is for it
abbrev pub role_of : Class → Role
role_of LRE = Lre
role_of RLE = Rle
role_of LRO = Lro
role_of RLO = Rlo
role_of LRI = Lri
role_of RLI = Rli
role_of FSI = Fsi
role_of PDI = Pdi
role_of PDF = Pdf
role_of BN = Bn
role_of _ = Other

-- X1: the stack has one entry of the paragraph level, and all counts are 0
abbrev pub start : ℕ → State
start level = record { stack = entry level Neutral false ∷ []; overflow_isolates = 0; overflow_embeddings = 0; valid_isolates = 0 }

-- the last entry of the stack
abbrev pub top : State → Entry
top s = top_of s.stack

-- the least odd level greater than n (X2, X4, X5a), and the least even one (X3, X5, X5b)
abbrev pub odd_above : ℕ → ℕ
odd_above n = n + 1 + n % 2

abbrev pub even_above : ℕ → ℕ
even_above n = n + 2 - n % 2

-- X2 to X5c: a new level is valid if it does not exceed max_depth and both overflow counts are 0
abbrev pub is_valid : State → ℕ → Bool
is_valid s level = nat_le level max_depth && nat_le s.overflow_isolates 0 && nat_le s.overflow_embeddings 0

-- X2 to X5, an embedding or override: a valid one is pushed; any other is counted if the overflow isolate count is 0
abbrev pub embed : State → ℕ → Override → State
embed s level o = elim (is_valid s level) [
  | true ↦ record s { stack = entry level o false ∷ s.stack }
  | false ↦ record s { overflow_embeddings = elim (s.overflow_isolates) [ zero ↦ s.overflow_embeddings + 1 | suc n ↦ s.overflow_embeddings ] }
]

-- X5a to X5c, an isolate initiator: a valid one is pushed and counted; any other is counted as an overflow isolate
abbrev pub isolate : State → ℕ → State
isolate s level = elim (is_valid s level) [
  | true ↦ record s { stack = entry level Neutral true ∷ s.stack; valid_isolates = s.valid_isolates + 1 }
  | false ↦ record s { overflow_isolates = s.overflow_isolates + 1 }
]

-- X5c: the level of an FSI's isolate whose text has the paragraph level `first`
abbrev pub first_above : ℕ → ℕ → ℕ
first_above first n = elim first [ zero ↦ even_above n | suc m ↦ odd_above n ]

-- the type of a character of class `c` under an override
abbrev pub forced_class : Override → Class → Class
forced_class Neutral c = c
forced_class Left c = L
forced_class Right c = R

-- X6, and X5a to X5c for the initiator itself: the character gets the entry's level and, under an override, the
-- override's type
abbrev pub kept_under : Entry → Class → Option ExplicitChar
kept_under e c = Some (record { level = e.level; class = forced_class e.forced c })

-- X6a, a PDI: ends an overflow isolate, else the last valid isolate with the embeddings in it
abbrev pub end_isolate : State → State
end_isolate s = elim (s.overflow_isolates) [
  | suc n ↦ record s { overflow_isolates = n }
  | zero ↦ elim (s.valid_isolates) [
    | zero ↦ s
    | suc n ↦ record s { stack = after_isolate s.stack; overflow_embeddings = 0; valid_isolates = n }
  ]
]

-- X7, a PDF: in no overflow isolate, ends an overflow embedding, else the last entry
abbrev pub end_embedding : State → State
end_embedding s = elim (s.overflow_isolates) [
  | suc n ↦ s
  | zero ↦ elim (s.overflow_embeddings) [
    | suc n ↦ record s { overflow_embeddings = n }
    | zero ↦ record s { stack = after_embedding s.stack }
  ]
]

-- the state after a character of a role; for an FSI, `first` is the paragraph level of its isolate's text, else it is not used
abbrev pub state_after : Role → ℕ → State → State
-- X2
state_after Rle first s = embed s (odd_above (top s).level) Neutral
-- X3
state_after Lre first s = embed s (even_above (top s).level) Neutral
-- X4
state_after Rlo first s = embed s (odd_above (top s).level) Right
-- X5
state_after Lro first s = embed s (even_above (top s).level) Left
-- X5a
state_after Rli first s = isolate s (odd_above (top s).level)
-- X5b
state_after Lri first s = isolate s (even_above (top s).level)
-- X5c
state_after Fsi first s = isolate s (first_above first (top s).level)
-- X6 and X8: each paragraph begins with a new state, so a B at its end changes nothing
state_after Other first s = s
-- X6a
state_after Pdi first s = end_isolate s
-- X7
state_after Pdf first s = end_embedding s
-- X9: it is removed
state_after Bn first s = s

-- the state after a character of a role, where `cs` has the classes of the text after the character
abbrev pub next_state : Role → List Class → State → State
next_state Fsi cs s = state_after Fsi (isolate_level cs) s
next_state role cs s = state_after role 0 s

-- the result for a character of a role and the class `c`, from the states `s` before it and `t` after it; `None` if X9 removes it:
-- an embedding or override and its end, and BN
abbrev pub kept_by : Role → Class → State → State → Option ExplicitChar
-- X5a to X5c and X6: by the last entry before the character
kept_by Rli c s t = kept_under (top s) c
kept_by Lri c s t = kept_under (top s) c
kept_by Fsi c s t = kept_under (top s) c
kept_by Other c s t = kept_under (top s) c
-- X6a: by the last entry after the PDI
kept_by Pdi c s t = kept_under (top t) c
-- X2 to X5, X7 and X9: it is removed
kept_by _ c s t = None

-- the results for the characters with the classes `cs`, before which the state is `s`
abbrev pub explicit_from : State → List Class → List (Option ExplicitChar)
explicit_from s [] = []
explicit_from s (c ∷ cs) = let t = next_state (role_of c) cs s in kept_by (role_of c) c s t ∷ explicit_from t cs

-- for each character of a paragraph, its level and its type after overrides, or `None` where X9 removes it; `level` is the paragraph level
abbrev pub explicit_levels : ℕ → List Class → List (Option ExplicitChar)
explicit_levels level cs = explicit_from (start level) cs
