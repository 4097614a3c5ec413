-- A text of characters that have no mirrors is its own mirror image.
use Rattle.std.proofs.Common.{◌≡◌, ℕ, ◌+◌, ◌<◌, ◌≤◌, ◌∷◌, ◌++◌, [], List, false, map, length, get_or, take, chars}
use Rattle.std.proofs.Common.{refl, sym, ap, ap₂, ◌∙◌, take_all}
use Rattle.std.proofs.Common.{IsUtf8}
use Rattle.std.specs.Prelude.{encode_utf8_all, is_some, None, Option, Some, unwrap_or}
use Rattle.std.proofs.lemmas.List.{map-append, take_more}
use Rattle.std.proofs.lemmas.Str.{encodes-chars}
use Rattle.bx_ucd.specs.Data.{Data}
use Rattle.bx_rows.specs.RowPicture.{mirror_image}
use Rattle.bx_rows.proofs.GlyphTexts.{mirror_or}

-- the first `k` characters are the mirrored ones
abbrev pub AreSame : Data → List ℕ → ℕ → Type 0
AreSame ucd cs k = map (mirror_or ucd) (take k cs) ≡ take k cs

pub own_if_none : (m : Option ℕ) (c : ℕ) → is_some m ≡ false → unwrap_or m c ≡ c
own_if_none None c h = refl
own_if_none (Some d) c h = absurd (cc h)

pub same_more : (ucd : Data) (cs : List ℕ) (k n c : ℕ) (m : Option ℕ) → (k < length cs) × (c ≡ get_or cs k c) → n ≡ k + 1 → m ≡ ucd.mirror c
    → is_some m ≡ false → AreSame ucd cs k → AreSame ucd cs n
same_more ucd cs k n c m at one e none same =
    let f = mirror_or ucd in
    let c' : ℕ = get_or cs k c in
    let more : take (k + 1) cs ≡ take k cs ++ c' ∷ [] = take_more cs k c at.0 in
    let own : f c' ≡ c' = ap f (sym at.1) ∙ ap (λ o. unwrap_or o c) (sym e) ∙ own_if_none m c none ∙ at.1 in
    ap (λ j. map f (take j cs)) one ∙ ap (map f) more ∙ map-append f (take k cs) (c' ∷ []) ∙ ap₂ (λ a b. a ++ b ∷ []) same own ∙ sym more
    ∙ ap (λ j. take j cs) (sym one)

pub same_all : (ucd : Data) (text : List ℕ) (k : ℕ) → IsUtf8 text → AreSame ucd (chars text) k → length (chars text) ≤ k
    → mirror_image ucd text ≡ text
same_all ucd text k utf8 same all =
    let cs = chars text in
    ap (λ ys. encode_utf8_all (map (mirror_or ucd) ys)) (sym (take_all k cs all)) ∙ ap encode_utf8_all same
    ∙ ap encode_utf8_all (take_all k cs all) ∙ encodes-chars text utf8
