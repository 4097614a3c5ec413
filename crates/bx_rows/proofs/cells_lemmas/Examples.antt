-- The units of small bodies, computed.
use Rattle.std.proofs.Common.{◌≡◌, ℕ, List, [], ◌∷◌, ◌++◌, refl}
use Rattle.std.specs.Prelude.{codes, encode_utf8_all, None, ◌==◌, if◌then◌else◌}
use Rattle.unicode_segmentation.proofs.Computing.{unicode_segmentation}
use Rattle.unicode_width.proofs.Computing.{unicode_width}
use Rattle.bx_ucd.specs.Data.{Data}
use Rattle.bx_ucd.specs.declared.class.Class.{Class}
use Rattle.bx_ucd.specs.declared.class.Class.TheVariants.{L, LRE, RLE, PDF, LRO, RLO, LRI, RLI, FSI, PDI}
use Rattle.bx_ucd.specs.declared.joining.Joining.TheVariants.{U}
use Rattle.bx_rows.specs.declared.cells.unit.Face.{Face}
use Rattle.bx_rows.specs.declared.cells.unit.Face.TheVariants.{Tab, Placeholder, Own}
use Rattle.bx_rows.specs.declared.cells.unit.Unit.{Unit}
use Rattle.bx_rows.specs.cells.Units.{units}

-- the classes of the formatting characters; L for all others
abbrev class_among : List (ℕ × Class) → ℕ → Class
class_among [] c = L
class_among (p ∷ ps) c = if c == p.0 then p.1 else class_among ps c

abbrev class : ℕ → Class
class = class_among ((0x202a, LRE) ∷ (0x202b, RLE) ∷ (0x202c, PDF) ∷ (0x202d, LRO) ∷ (0x202e, RLO) ∷ (0x2066, LRI) ∷ (0x2067, RLI) ∷ (0x2068, FSI) ∷ (
  0x2069,
  PDI,
) ∷ [])

abbrev ucd : Data
ucd = record { class = class; bracket = λ _. None; mirror = λ _. None; joining = λ _. U; form = λ _ _. None }

abbrev of : ℕ → List ℕ → List Unit
of w cs = units ucd w (encode_utf8_all cs)

abbrev unit : ℕ → ℕ → Face → Unit
unit start stop face = record { start = start; stop = stop; face = face }

no_characters : of 4 [] ≡ []
unfolding unicode_segmentation unicode_width
no_characters = refl

-- a b U+4E16 in three columns
wide_character : of 3 (codes "ab" ++ 0x4e16 ∷ []) ≡ unit 0 1 (Own 1) ∷ unit 1 2 (Own 1) ∷ unit 2 5 (Own 2) ∷ []
unfolding unicode_segmentation unicode_width
wide_character = refl

-- in one column it is #
wider_than_the_window : of 1 (codes "ab" ++ 0x4e16 ∷ []) ≡ unit 0 1 (Own 1) ∷ unit 1 2 (Own 1) ∷ unit 2 5 (Placeholder 35) ∷ []
unfolding unicode_segmentation unicode_width
wider_than_the_window = refl

-- U+0001, and a line feed after a carriage return: one cluster
controls : of 4 (1 ∷ 13 ∷ 10 ∷ 0x7f ∷ 0x85 ∷ 0x2028 ∷ [])
    ≡ unit 0 1 (Placeholder 63) ∷ unit 1 3 (Placeholder 63) ∷ unit 3 4 (Placeholder 63) ∷ unit 4 6 (Placeholder 63) ∷ unit 6 9 (Placeholder 63) ∷ []
unfolding unicode_segmentation unicode_width
controls = refl

-- U+0301 with nothing before it has no columns
mark_alone : of 4 (0x301 ∷ []) ≡ unit 0 2 (Placeholder 126) ∷ []
unfolding unicode_segmentation unicode_width
mark_alone = refl

tab_between_letters : of 4 (97 ∷ 9 ∷ 98 ∷ []) ≡ unit 0 1 (Own 1) ∷ unit 1 2 Tab ∷ unit 2 3 (Own 1) ∷ []
unfolding unicode_segmentation unicode_width
tab_between_letters = refl

-- e with an accent is one unit
letter_with_a_mark : of 4 (101 ∷ 0x301 ∷ []) ≡ unit 0 3 (Own 1) ∷ []
unfolding unicode_segmentation unicode_width
letter_with_a_mark = refl

-- two pairs of regional indicators, and three emoji joined by U+200D
flags_and_a_family : of 4 (0x1f1e9 ∷ 0x1f1ea ∷ 0x1f1eb ∷ 0x1f1f7 ∷ 0x1f468 ∷ 0x200d ∷ 0x1f469 ∷ 0x200d ∷ 0x1f467 ∷ [])
    ≡ unit 0 8 (Own 2) ∷ unit 8 16 (Own 2) ∷ unit 16 34 (Own 2) ∷ []
unfolding unicode_segmentation unicode_width
flags_and_a_family = refl

-- the nine formatting characters
formatting_characters : of 4 (0x202a ∷ 0x202b ∷ 0x202d ∷ 0x202e ∷ 0x202c ∷ 0x2066 ∷ 0x2067 ∷ 0x2068 ∷ 0x2069 ∷ [])
    ≡ unit 0 3 (Placeholder 101) ∷ unit 3 6 (Placeholder 69) ∷ unit 6 9 (Placeholder 111) ∷ unit 9 12 (Placeholder 79) ∷ unit 12 15 (Placeholder 112) ∷ unit 15 18 (Placeholder 105) ∷ unit 18 21
    (Placeholder 73) ∷ unit 21 24 (Placeholder 102) ∷ unit 24 27 (Placeholder 80) ∷ []
unfolding unicode_segmentation unicode_width
formatting_characters = refl
