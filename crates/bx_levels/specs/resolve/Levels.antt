-- The levels of a paragraph, by all rules in order. `ucd` is Unicode's data.
use Rattle.std.specs.Prelude.{ℕ, List, [], ◌∷◌, Option, Some, None, length, map, replicate, slice_index_or, slice_set}
use Rattle.bx_ucd.specs.Data.{Data}
use Rattle.bx_ucd.specs.declared.class.Class.{Class}
use Rattle.bx_ucd.specs.declared.class.Class.TheVariants.{ON}
use Rattle.bx_levels.specs.declared.embedding.entry.ExplicitChar.{ExplicitChar}
use Rattle.bx_common.specs.declared.base.Base.{Base}
use Rattle.bx_levels.specs.embedding.ParagraphLevel.{base_level}
use Rattle.bx_levels.specs.embedding.Explicit.{explicit_levels}
use Rattle.bx_levels.specs.embedding.Sequences.{RunSequence, sequences, direction}
use Rattle.bx_levels.specs.brackets.Pairs.{pairs}
use Rattle.bx_levels.specs.brackets.Resolve.{resolve_pairs}
use Rattle.bx_levels.specs.resolve.Weak.{weak}
use Rattle.bx_ucd.specs.Class.{is_nsm}
use Rattle.bx_levels.specs.resolve.Neutral.{n1, n2, implicit}

-- the type of a character after overrides; ON where X9 removes it
abbrev pub type_of : Option ExplicitChar → Class
type_of None = ON
type_of (Some k) = k.class

-- the characters at some indexes, and their types after overrides
abbrev pub chars_at : List ℕ → List ℕ → List ℕ
chars_at chars ps = map (λ p. slice_index_or chars p 0) ps

abbrev pub types_at : List (Option ExplicitChar) → List ℕ → List Class
types_at kept ps = map (λ p. type_of (slice_index_or kept p None)) ps

-- the resolved types of a sequence, from its characters and types: W1 to W7, N0, N1 and N2
abbrev pub sequence_types : Data → ℕ → Class → Class → List ℕ → List Class → List Class
sequence_types ucd level sos eos chars ts =
    let embedding = direction level in
    let weak_types = weak sos ts in
    let paired = resolve_pairs embedding sos (map is_nsm ts) (pairs ucd chars weak_types) weak_types in
    n2 embedding (n1 sos eos paired)

-- the levels of a sequence, by I1 and I2
abbrev pub sequence_levels : Data → ℕ → Class → Class → List ℕ → List Class → List ℕ
sequence_levels ucd level sos eos chars ts = implicit level (sequence_types ucd level sos eos chars ts)

-- the same for a sequence of a paragraph, where `chars` and `kept` are those of the whole paragraph
abbrev pub levels_in : Data → List ℕ → List (Option ExplicitChar) → RunSequence → List ℕ
levels_in ucd chars kept s = sequence_levels ucd s.level s.sos s.eos (chars_at chars s.indexes) (types_at kept s.indexes)

-- `each` with the levels written at the indexes, the first level at the first index
abbrev pub with_levels : List ℕ → List ℕ → List (Option ℕ) → List (Option ℕ)
with_levels [] ls each = each
with_levels (p ∷ ps) [] each = each
with_levels (p ∷ ps) (l ∷ ls) each = with_levels ps ls (slice_set each p (Some l))

-- `each` with the levels of all the sequences written
abbrev pub with_sequences : Data → List ℕ → List (Option ExplicitChar) → List RunSequence → List (Option ℕ) → List (Option ℕ)
with_sequences ucd chars kept [] each = each
with_sequences ucd chars kept (s ∷ ss) each = with_sequences ucd chars kept ss (with_levels s.indexes (levels_in ucd chars kept s) each)

-- the level of each character, or nothing where X9 removes it, given the paragraph level
abbrev pub paragraph_levels : Data → ℕ → List ℕ → List (Option ℕ)
paragraph_levels ucd paragraph chars =
    let cs = map ucd.class chars in
    let kept = explicit_levels paragraph cs in
    with_sequences ucd chars kept (sequences paragraph cs kept) (replicate (length chars) None)

-- the paragraph level under a base direction, and the level of each character
abbrev pub paragraph_level_under : Data → Base → List ℕ → ℕ
paragraph_level_under ucd base chars = base_level base (map ucd.class chars)

abbrev pub levels_under : Data → Base → List ℕ → List (Option ℕ)
levels_under ucd base chars = paragraph_levels ucd (paragraph_level_under ucd base chars) chars
