-- The directional status stack (X1), its last entry first.
use Rattle.std.specs.Prelude.{ℕ, Bool, true, false, List, [], ◌∷◌}
use Rattle.bx_levels.specs.declared.embedding.entry.Entry.{Entry}
use Rattle.bx_levels.specs.declared.embedding.entry.Override.{Override}
use Rattle.bx_levels.specs.declared.embedding.entry.Override.TheVariants.{Neutral}

-- BD2: no explicit level exceeds max_depth
abbrev pub max_depth : ℕ
max_depth = 125

-- an entry of a level and an override status, and whether an isolate initiator pushed it
abbrev pub entry : ℕ → Override → Bool → Entry
entry l o i = record { level = l; forced = o; isolate = i }

-- the last entry; an empty stack, which X1 to X7 never leave, counts as one entry of level 0
abbrev pub top_of : List Entry → Entry
top_of [] = entry 0 Neutral false
top_of (e ∷ es) = e

-- the stack without its entries through the last isolate
abbrev pub after_isolate : List Entry → List Entry
after_isolate [] = []
after_isolate (e ∷ es) = elim (e.isolate) [ true ↦ es | false ↦ after_isolate es ]

-- the stack without its last entry, unless that is an isolate or the only one
abbrev pub after_embedding : List Entry → List Entry
after_embedding [] = []
after_embedding (e ∷ []) = e ∷ []
after_embedding (e ∷ f ∷ es) = elim (e.isolate) [ true ↦ e ∷ f ∷ es | false ↦ f ∷ es ]
