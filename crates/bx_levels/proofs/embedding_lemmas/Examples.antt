-- The definitions, computed on small examples.
use Rattle.std.proofs.Common.{◌≡◌, ℕ, zero, suc, List, [], ◌∷◌, ◌++◌, refl, Option, Some, None, replicate}
use Rattle.bx_ucd.specs.declared.class.Class.{Class}
use Rattle.bx_ucd.specs.declared.class.Class.TheVariants.{L, R, EN, ON, LRE, RLE, PDF, LRI, RLI, FSI, PDI}
use Rattle.bx_levels.specs.declared.embedding.entry.ExplicitChar.{ExplicitChar}
use Rattle.bx_levels.specs.embedding.ParagraphLevel.{match_of, paragraph_level}
use Rattle.bx_levels.specs.embedding.Explicit.{explicit_levels}
use Rattle.bx_levels.specs.embedding.Sequences.{sequences, RunSequence}

abbrev sequence : List ℕ → ℕ → Class → Class → RunSequence
sequence indexes level sos eos = record { indexes = indexes; level = level; sos = sos; eos = eos }

abbrev sequences_of : List Class → List RunSequence
sequences_of cs = sequences (paragraph_level cs) cs (explicit_levels (paragraph_level cs) cs)

abbrev kept : ℕ → Class → Option ExplicitChar
kept level class = Some (record { level = level; class = class })

abbrev isolate_in_a_line : List Class
isolate_in_a_line = L ∷ RLI ∷ R ∷ PDI ∷ ON ∷ EN ∷ []

isolate_in_a_line_match : match_of isolate_in_a_line 1 ≡ Some 3
isolate_in_a_line_match = refl

isolate_in_a_line_sequences : sequences_of isolate_in_a_line ≡ sequence (0 ∷ 1 ∷ 3 ∷ 4 ∷ 5 ∷ []) 0 L L ∷ sequence (2 ∷ []) 1 R R ∷ []
isolate_in_a_line_sequences = refl

abbrev nested_isolates : List Class
nested_isolates = FSI ∷ LRI ∷ L ∷ PDI ∷ R ∷ PDI ∷ L ∷ []

isolates_nest : sequences_of nested_isolates ≡ sequence (0 ∷ 5 ∷ 6 ∷ []) 0 L L ∷ sequence (1 ∷ 3 ∷ 4 ∷ []) 1 R R ∷ sequence (2 ∷ []) 2 L L ∷ []
isolates_nest = refl

deepest_embedding : explicit_levels 0 (replicate 63 RLE ++ (L ∷ [])) ≡ replicate 63 None ++ (kept 125 L ∷ [])
deepest_embedding = refl

one_embedding_too_deep : explicit_levels 0 (replicate 64 RLE ++ (PDF ∷ L ∷ [])) ≡ replicate 65 None ++ (kept 125 L ∷ [])
one_embedding_too_deep = refl

abbrev alternating : ℕ → List Class
alternating zero = []
alternating (suc n) = RLE ∷ LRE ∷ alternating n

embeddings_of_both_directions : explicit_levels 0 (alternating 62 ++ (RLE ∷ L ∷ [])) ≡ replicate 125 None ++ (kept 125 L ∷ [])
embeddings_of_both_directions = refl

left_embedding_too_deep : explicit_levels 0 (alternating 62 ++ (RLE ∷ LRE ∷ L ∷ [])) ≡ replicate 126 None ++ (kept 125 L ∷ [])
left_embedding_too_deep = refl

isolate_at_the_deepest_level : sequences_of (replicate 63 RLE ++ (RLI ∷ RLE ∷ PDF ∷ PDI ∷ L ∷ [])) ≡ sequence (63 ∷ 66 ∷ 67 ∷ []) 125 R R ∷ []
isolate_at_the_deepest_level = refl

isolates_never_closed : paragraph_level (replicate 1000 RLI ++ (L ∷ [])) ≡ 0
isolates_never_closed = refl

pdis_match_nothing : explicit_levels 0 (replicate 200 PDI ++ (L ∷ [])) ≡ replicate 200 (kept 0 PDI) ++ (kept 0 L ∷ [])
pdis_match_nothing = refl
