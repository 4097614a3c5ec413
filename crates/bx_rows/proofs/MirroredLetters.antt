-- Texts of one character, and their mirror images.
use Rattle.std.proofs.Common.{◌≡◌, ℕ, true, false, List, [], ◌∷◌, ◌++◌, map, length, refl, sym, ap, ◌∙◌, append-nil, encode_utf8, chars, IsUtf8}
use Rattle.std.specs.Prelude.{Option, encode_utf8_all, is_some, unwrap_or}
use Rattle.std.proofs.lemmas.Str.{chars-nil, chars_past_char, encodes-chars}
use Rattle.std.proofs.lemmas.List.{nil_from_length}
use Rattle.bx_ucd.specs.Data.{Data}
use Rattle.bx_rows.specs.declared.cells.unit.Face.TheVariants.{Own}
use Rattle.bx_rows.specs.cells.Units.{face, face_of}
use Rattle.bx_rows.specs.cells.Simple.{begins}
use Rattle.bx_rows.specs.cells.SimpleFace.{simple_face}
use Rattle.bx_rows.proofs.cells_lemmas.OpenCluster.{face-simple}
use Rattle.bx_rows.specs.RowPicture.{mirror_image}
use Rattle.bx_rows.proofs.GlyphTexts.{mirror_or}
use Rattle.bx_rows.proofs.Unmirrored.{own_if_none}

-- a text whose first character has nothing after it
pub single : (text behind : List ℕ) (c : ℕ) → IsUtf8 text → text ≡ encode_utf8 c ++ behind → length behind ≡ 0 → chars text ≡ c ∷ []
single text behind c u e z =
    chars_past_char text behind c u e ∙ ap (λ x. c ∷ chars x) (nil_from_length behind z) ∙ ap (λ x. c ∷ x) chars-nil

-- the text of a character that begins is shown as the character is by itself
pub single-face : (ucd : Data) (w : ℕ) (text : List ℕ) (c : ℕ) → IsUtf8 text → text ≡ encode_utf8 c → begins c ≡ true
    → simple_face ucd w c false ≡ Own 1 → face ucd w text ≡ Own 1
single-face ucd w text c u e b f =
    ap (face_of ucd w) (single text [] c u (e ∙ sym (append-nil (encode_utf8 c))) refl) ∙ face-simple ucd w c [] b refl ∙ f

-- a character that has no mirror is its own mirror image
pub single-same : (ucd : Data) (text : List ℕ) (c : ℕ) (m : Option ℕ) → IsUtf8 text → chars text ≡ c ∷ [] → m ≡ ucd.mirror c → is_some m ≡ false
    → mirror_image ucd text ≡ text
single-same ucd text c m u one asked none =
    let own : unwrap_or (ucd.mirror c) c ≡ c = ap (λ o. unwrap_or o c) (sym asked) ∙ own_if_none m c none in
    ap (λ cs. encode_utf8_all (map (mirror_or ucd) cs)) one ∙ ap (λ x. encode_utf8_all (x ∷ [])) own ∙ ap encode_utf8_all (sym one) ∙ encodes-chars text u
