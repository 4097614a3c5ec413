-- The units of a simple text, and how many columns they take at most.
use Rattle.std.proofs.Common.{◌≡◌, ℕ, ◌≤◌, Bool, true, false, ◌==◌, nat_lt, List, [], ◌∷◌, map, Option, Some, None, chars, encode_utf8_all, refl, sym, ap}
use Rattle.std.proofs.Common.{subst, arith, leb-true}
use Rattle.std.specs.List.{list_all, list_any}
use Rattle.std.specs.Str.{all_scalars}
use Rattle.std.proofs.lemmas.Bool.Decides.{nat_tests}
use Rattle.std.proofs.lemmas.Str.{chars-encodes}
use Rattle.bx_ucd.specs.Data.{Data}
use Rattle.unicode_segmentation.specs.Grapheme.{graphemes}
use Rattle.unicode_segmentation.specs.Segments.{segments}
use Rattle.bx_common.specs.Characters.{is_control}
use Rattle.bx_rows.specs.declared.cells.unit.Face.{Face}
use Rattle.bx_rows.specs.declared.cells.unit.Face.TheVariants.{Tab, Placeholder, Own}
use Rattle.bx_rows.specs.cells.Units.{face, face_of, only_char, is_tab, format_letter, sized_face, columns_of}
use Rattle.bx_rows.specs.cells.Most.{HasAtMost}
use Rattle.bx_rows.specs.cells.Simple.{is_shown, own_columns, begins, is_mark, is_simple}
use Rattle.bx_rows.proofs.cells_lemmas.SimpleBreaks.{group, cut-simple, Begins-from_test}
use Rattle.bx_rows.proofs.cells_lemmas.SimpleColumns.{width-unit}

pub graphemes-simple : (text : List ℕ) → list_all is_simple (chars text) ≡ true → graphemes true text ≡ map encode_utf8_all (group (chars text))
unfolding segments
graphemes-simple text h = ap (map encode_utf8_all) (cut-simple [] (chars text) h)

abbrev by_letter : Face → Option ℕ → Face
by_letter other (Some letter) = Placeholder letter
by_letter other None = other

abbrev by_control : Face → Bool → Face
by_control other true = Placeholder 63
by_control other false = other

abbrev by_tab : Face → Bool → Face
by_tab other true = Tab
by_tab other false = other

most-letter : (n : ℕ) (f : Face) (l : Option ℕ) → 1 ≤ n → HasAtMost n f → HasAtMost n (by_letter f l)
most-letter n f (Some letter) one h = one
most-letter n f None one h = h

most-control : (n : ℕ) (f : Face) (k : Bool) → 1 ≤ n → HasAtMost n f → HasAtMost n (by_control f k)
most-control n f true one h = one
most-control n f false one h = h

abbrev by_size : ℕ → Bool → Bool → Face
by_size n zero_columns wide = elim zero_columns [ true ↦ Placeholder 126 | false ↦ elim wide [ true ↦ Placeholder 35 | false ↦ Own n ] ]

most-size : (n : ℕ) (a b : Bool) → 1 ≤ n → HasAtMost n (by_size n a b)
most-size n true b one = one
most-size n false true one = one
most-size n false false one = omega arith

no_tab : (c : ℕ) → is_shown c ≡ true → (c == 9) ≡ false
no_tab c h = grind (arith, nat_tests)

pub unit_is_no_tab : (c : ℕ) (ms : List ℕ) → is_shown c ≡ true → is_tab (only_char (c ∷ ms)) ≡ false
unit_is_no_tab c [] h = no_tab c h
unit_is_no_tab c (m ∷ ms) h = refl

-- the face of one that begins and its marks
pub most-unit : (ucd : Data) (w c : ℕ) (ms : List ℕ) → begins c ≡ true → list_all is_mark ms ≡ true
    → HasAtMost (own_columns c) (face_of ucd w (c ∷ ms))
most-unit ucd w c ms b h =
    let begun = Begins-from_test c b in
    let n = own_columns c in
    let one = leb-true 1 n begun.some_columns in
    let size = ap (sized_face w) (width-unit c ms b h) in
    let sized : HasAtMost n (sized_face w (columns_of (c ∷ ms))) = subst (HasAtMost n) (sym size) (most-size n (n == 0) (nat_lt w n) one) in
    let rest = by_control (by_letter (sized_face w (columns_of (c ∷ ms))) (format_letter ucd (only_char (c ∷ ms)))) (list_any is_control (c ∷ ms)) in
    subst (λ t. HasAtMost n (by_tab rest t)) (sym (unit_is_no_tab c ms begun.shown))
    (most-control n _ (list_any is_control (c ∷ ms)) one (most-letter n _ (format_letter ucd (only_char (c ∷ ms))) one sized))

-- the same of its bytes
pub most-cluster : (ucd : Data) (w c : ℕ) (ms : List ℕ) → begins c ≡ true → list_all is_mark ms ≡ true → all_scalars (c ∷ ms) ≡ true
    → HasAtMost (own_columns c) (face ucd w (encode_utf8_all (c ∷ ms)))
most-cluster ucd w c ms b h v = subst (λ cs. HasAtMost (own_columns c) (face_of ucd w cs)) (sym (chars-encodes (c ∷ ms) v)) (most-unit ucd w c ms b h)
