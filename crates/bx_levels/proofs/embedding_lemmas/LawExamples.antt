-- Consequences of the laws for single texts.
use Rattle.std.proofs.Common.{◌≡◌, ◌≤◌, ℕ, [], ◌∷◌, length, get_or, replicate, Option, Some, None, arith}
use Rattle.bx_ucd.specs.declared.class.Class.{Class}
use Rattle.bx_ucd.specs.declared.class.Class.TheVariants.{L, RLE, RLI, PDF, PDI}
use Rattle.bx_levels.specs.declared.embedding.entry.ExplicitChar.{ExplicitChar}
use Rattle.bx_levels.specs.embedding.Explicit.{start}
use Rattle.bx_levels.specs.embedding.Laws.{states, given_between, StatesGiveLevels, AlwaysHasRoom}

abbrev kept : ℕ → Class → Option ExplicitChar
kept level class = Some (record { level = level; class = class })

-- after 200 RLE, each of which would push an entry, the stack has at most 127 entries
embeddings_have_room : AlwaysHasRoom → length (get_or (states 0 (replicate 200 RLE)) 200 (start 0)).stack ≤ 127
embeddings_have_room law = law 0 (replicate 200 RLE) (omega arith) 200 (start 0) (omega arith)

-- RLE a PDF b
embedding_by_states : StatesGiveLevels → given_between (states 0 (RLE ∷ L ∷ PDF ∷ L ∷ [])) (RLE ∷ L ∷ PDF ∷ L ∷ []) ≡ None ∷ kept 1 L ∷ None ∷ kept 0 L ∷ []
embedding_by_states law = law 0 (RLE ∷ L ∷ PDF ∷ L ∷ [])

-- RLI a PDI
isolate_by_states : StatesGiveLevels → given_between (states 0 (RLI ∷ L ∷ PDI ∷ [])) (RLI ∷ L ∷ PDI ∷ []) ≡ kept 0 RLI ∷ kept 1 L ∷ kept 0 PDI ∷ []
isolate_by_states law = law 0 (RLI ∷ L ∷ PDI ∷ [])
