-- The face of a cluster, by the tests that it passes.
use Rattle.std.proofs.Common.{◌≡◌, ℕ, Bool, true, false, List, [], ◌∷◌, ◌++◌, length, Option, Some, None, refl, ap, ◌∙◌, arith, IsUtf8, encode_utf8}
use Rattle.std.specs.Str.{chars}
use Rattle.std.proofs.lemmas.Str.{chars-nil, chars_past_char, IsUtf8-past_char}
use Rattle.std.specs.List.{list_any}
use Rattle.bx_ucd.specs.Data.{Data}
use Rattle.bx_common.specs.Characters.{is_control}
use Rattle.bx_rows.specs.declared.cells.unit.Face.{Face}
use Rattle.bx_rows.specs.declared.cells.unit.Face.TheVariants.{Tab, Placeholder}
use Rattle.bx_rows.specs.cells.Units.{face, face_of, only_char, is_tab, format_letter, sized_face, columns_of}

abbrev pub by_letter : Face → Option ℕ → Face
by_letter other (Some letter) = Placeholder letter
by_letter other None = other

abbrev pub by_control : Face → Bool → Face
by_control other true = Placeholder 63
by_control other false = other

abbrev pub by_tab : Face → Bool → Face
by_tab other true = Tab
by_tab other false = other

pub steps : (ucd : Data) (w : ℕ) (cs : List ℕ) (t k : Bool) (l : Option ℕ) → is_tab (only_char cs) ≡ t → list_any is_control cs ≡ k
    → format_letter ucd (only_char cs) ≡ l → face_of ucd w cs ≡ by_tab (by_control (by_letter (sized_face w (columns_of cs)) l) k) t
steps ucd w cs t k l d e f =
    ap (λ x. by_tab (by_control (by_letter (sized_face w (columns_of cs)) (format_letter ucd (only_char cs))) (list_any is_control cs)) x) d
    ∙ ap (λ x. by_tab (by_control (by_letter (sized_face w (columns_of cs)) (format_letter ucd (only_char cs))) x) t) e
    ∙ ap (λ x. by_tab (by_control (by_letter (sized_face w (columns_of cs)) x) k) t) f

pub of_tab : (ucd : Data) (w : ℕ) (cluster : List ℕ) → is_tab (only_char (chars cluster)) ≡ true → face ucd w cluster ≡ Tab
of_tab ucd w cluster d = steps ucd w (chars cluster) true _ _ d refl refl

pub of_control : (ucd : Data) (w : ℕ) (cluster : List ℕ) → is_tab (only_char (chars cluster)) ≡ false → list_any is_control (chars cluster) ≡ true
    → face ucd w cluster ≡ Placeholder 63
of_control ucd w cluster d e = steps ucd w (chars cluster) false true _ d e refl

pub of_format : (ucd : Data) (w : ℕ) (cluster : List ℕ) (letter : ℕ) → is_tab (only_char (chars cluster)) ≡ false
    → list_any is_control (chars cluster) ≡ false → format_letter ucd (only_char (chars cluster)) ≡ Some letter → face ucd w cluster ≡ Placeholder letter
of_format ucd w cluster letter d e f = steps ucd w (chars cluster) false false (Some letter) d e f

pub of_sized : (ucd : Data) (w : ℕ) (cluster : List ℕ) → is_tab (only_char (chars cluster)) ≡ false → list_any is_control (chars cluster) ≡ false
    → format_letter ucd (only_char (chars cluster)) ≡ None → face ucd w cluster ≡ sized_face w (columns_of (chars cluster))
of_sized ucd w cluster d e f = steps ucd w (chars cluster) false false None d e f

-- ---- the only character, by the first two steps over a text

pub only_of_none : (bs : List ℕ) → length bs ≡ 0 → only_char (chars bs) ≡ None
unfolding chars
only_of_none [] h = refl
only_of_none (b ∷ bs) h = absurd (omega (arith, h))

pub only_of_one : (bs rest : List ℕ) (c : ℕ) → IsUtf8 bs → bs ≡ encode_utf8 c ++ rest → length rest ≡ 0 → only_char (chars bs) ≡ Some c
only_of_one bs [] c u e h = ap only_char (chars_past_char bs [] c u e) ∙ ap (λ cs. only_char (c ∷ cs)) chars-nil
only_of_one bs (b ∷ rest) c u e h = absurd (omega (arith, h))

pub only_of_more : (bs rest more : List ℕ) (c d : ℕ) → IsUtf8 bs → bs ≡ encode_utf8 c ++ rest → rest ≡ encode_utf8 d ++ more → only_char (chars bs) ≡ None
only_of_more bs rest more c d u e f =
    ap only_char (chars_past_char bs rest c u e) ∙ ap (λ cs. only_char (c ∷ cs)) (chars_past_char rest more d (IsUtf8-past_char bs rest c u e) f)
