-- UTF-8 of worked examples, computed, and each law applied to them.
use Rattle.std.proofs.Common.{◌≡◌, ℕ, inl, inr, true, false, List, [], ◌∷◌, ◌++◌, refl, ◌∙◌}
use Rattle.std.proofs.lemmas.Bool.{both_ways, cases_Bool}
use Rattle.std.proofs.lemmas.List.{append-nil}
use Rattle.std.proofs.lemmas.Str.{encode_same}
use Rattle.std.specs.List.{list_all}
use Rattle.std.specs.Char.{IsScalar, encode_utf8}
use lib.Utf8.{encode}
use Rattle.bx_bytes.specs.Grammar.{is_grammar, BeginsByMore, NoneBeginsLonger, is_character, AreEncodings}
use Rattle.bx_bytes.specs.Pattern.{Piece}
use Rattle.std.specs.Str.{chars}
use Rattle.bx_bytes.specs.Utf8.{characters, are_printable}
use Rattle.bx_bytes.proofs.Encoded.{begins_character}

pub two_bytes : is_character (0xD7 ∷ 0x90 ∷ []) ≡ true
two_bytes = refl

pub overlong : begins_character (0xE0 ∷ 0x80 ∷ []) ≡ false
overlong = refl

pub surrogate : begins_character (0xED ∷ 0xA0 ∷ []) ≡ false
surrogate = refl

pub past_the_last : begins_character (0xF4 ∷ 0x90 ∷ []) ≡ false
past_the_last = refl

-- the first and the last character of each row of the table
pub ends_of_rows : list_all (λ c. is_character (encode_utf8 c))
    (0 ∷ 0x7F ∷ 0x80 ∷ 0x7FF ∷ 0x800 ∷ 0xFFF ∷ 0x1000 ∷ 0xCFFF ∷ 0xD000 ∷ 0xD7FF ∷ 0xE000 ∷ 0xFFFF ∷ 0x10000 ∷ 0x3FFFF ∷ 0x40000 ∷ 0xFFFFF ∷ 0x100000 ∷
    0x10FFFF ∷ []) ≡ true
unfolding encode_utf8
ends_of_rows = refl

-- LINE SEPARATOR
pub separator_not_printable : are_printable (0x61 ∷ 0xE2 ∷ 0x80 ∷ 0xA8 ∷ []) ≡ false
unfolding chars
separator_not_printable = refl

pub wide_printable : are_printable (0xE4 ∷ 0xB8 ∷ 0x96 ∷ []) ≡ true
unfolding chars
wide_printable = refl

-- ---- each law, applied

abbrev pub GrammarsBegin : Type 0
GrammarsBegin = (patterns : List (List Piece)) → is_grammar patterns ≡ true → BeginsByMore patterns

abbrev pub GrammarsEnd : Type 0
GrammarsEnd = (patterns : List (List Piece)) → is_grammar patterns ≡ true → NoneBeginsLonger patterns

-- E2 82 begins a character, since AC makes it one
pub of_begins_by_more : GrammarsBegin → begins_character (0xE2 ∷ 0x82 ∷ []) ≡ true
of_begins_by_more law = (law characters refl (0xE2 ∷ 0x82 ∷ [])).1 (0xAC ∷ [], refl)

-- C0 begins none, whatever follows
pub of_begins_by_more_none : GrammarsBegin → (more : List ℕ) → is_character (0xC0 ∷ more) ≡ false
of_begins_by_more_none law more = elim (cases_Bool (is_character (0xC0 ∷ more))) [
  | inl whole ↦ absurd (both_ways (begins_character (0xC0 ∷ [])) refl ((law characters refl (0xC0 ∷ [])).1 (more, whole)))
  | inr other ↦ other
]

-- nothing longer begins with A9 after C3
pub of_none_begins_longer : GrammarsEnd → (b : ℕ) (more : List ℕ) → begins_character (0xC3 ∷ 0xA9 ∷ b ∷ more) ≡ false
of_none_begins_longer law b more = law characters refl (0xC3 ∷ 0xA9 ∷ []) b more refl

-- D7 90 is the encoding of U+05D0, and of no other character
pub of_encodings : AreEncodings → (c : ℕ) × IsScalar c × (encode_utf8 c ≡ 0xD7 ∷ 0x90 ∷ []) × (c ≡ 0x5D0)
unfolding encode
of_encodings law =
    let is = (law (0xD7 ∷ 0x90 ∷ [])).0 refl in
    let same : encode is.0 ++ [] ≡ encode 0x5D0 ++ [] = append-nil (encode is.0) ∙ is.2 in
    (is.0, is.1, is.2, (encode_same is.0 0x5D0 [] [] same).0)

-- ED A0 80 is the encoding of no scalar value
pub of_encodings_none : AreEncodings → (c : ℕ) → IsScalar c → encode_utf8 c ≡ 0xED ∷ 0xA0 ∷ 0x80 ∷ [] → ⊥
of_encodings_none law c is e = both_ways (is_character (0xED ∷ 0xA0 ∷ 0x80 ∷ [])) refl ((law (0xED ∷ 0xA0 ∷ 0x80 ∷ [])).1 (c, is, e))
