-- The prefix of the sought letters that a search has read last, as the places of its letters, and the matches still to come.
-- The place of a letter is the offset of the character that begins with it, in bytes; a character's later letters have None.
-- `ucd` is Unicode's data.
use Rattle.std.specs.Prelude.{ℕ, ◌+◌, true, false, List, [], ◌∷◌, ◌++◌, length, map, flat_map, Option, Some, None, option_to_list, encode_utf8}
use Rattle.bx_ucd.specs.Data.{Data}
use Rattle.bx_find.specs.Letters.{letters_of}
use Rattle.bx_find.specs.Matches.{begins_some}
use Rattle.bx_find.specs.declared.letters.Reading.{Reading}

-- a letter with its place
abbrev pub Placed : Type 0
Placed = Option ℕ × ℕ

-- the letters of a character: the first has the place, the others None
abbrev pub placed_first : Option ℕ → List ℕ → List Placed
placed_first place [] = []
placed_first place (l ∷ ls) = (place, l) ∷ placed_first None ls

-- the letters of characters, with their places; the first character is at the offset `at`
abbrev pub placed : Data → Reading → ℕ → List ℕ → List Placed
placed ucd reading at [] = []
placed ucd reading at (c ∷ cs) = placed_first (Some at) (letters_of ucd reading c) ++ placed ucd reading (at + length (encode_utf8 c)) cs

-- the places from which the letters begin with the sought ones
abbrev pub found : List ℕ → List Placed → List (Option ℕ)
found sought [] = []
found sought (p ∷ ps) = elim (begins_some sought (p.1 ∷ map (λ q. q.1) ps)) [ true ↦ p.0 ∷ found sought ps | false ↦ found sought ps ]

-- places paired with letters
abbrev pub with_letters : List (Option ℕ) → List ℕ → List Placed
with_letters [] ls = []
with_letters (o ∷ os) [] = []
with_letters (o ∷ os) (l ∷ ls) = (o, l) ∷ with_letters os ls

-- the places from which the letters begin with the sought ones, of a prefix of the sought letters, given by its places, and of the
-- letters `ps` that follow it
abbrev pub found_after : List ℕ → List (Option ℕ) → List Placed → List (Option ℕ)
found_after sought prefix ps = found sought (with_letters prefix sought ++ ps)

-- the offsets of some places
abbrev pub offsets_of : List (Option ℕ) → List ℕ
offsets_of places = flat_map option_to_list places

-- the matches once the letters `ps` follow a prefix
abbrev pub matches_after : List ℕ → List (Option ℕ) → List Placed → List ℕ
matches_after sought prefix ps = offsets_of (found_after sought prefix ps)

-- the matches once characters follow a prefix, the first at the offset `at`
abbrev pub to_come : Data → Reading → List ℕ → List (Option ℕ) → ℕ → List ℕ → List ℕ
to_come ucd reading sought prefix at cs = matches_after sought prefix (placed ucd reading at cs)
