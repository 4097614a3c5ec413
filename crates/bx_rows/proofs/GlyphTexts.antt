-- The texts of glyphs.
use Rattle.std.proofs.Common.{◌≡◌, ℕ, ◌+◌, ◌-◌, ◌<◌, ◌≤◌, ◌++◌, [], ◌∷◌, List, map, length, get_or, take, drop, refl, sym, ap, ap₂, ◌∙◌, arith, take_all}
use Rattle.std.proofs.Common.{append-nil, append_assoc, encode_utf8, true, IsUtf8, leb-true, drop-cons}
use Rattle.std.specs.Prelude.{encode_utf8_all, unwrap_or, Option}
use Rattle.std.specs.Str.{IsCharBoundary}
use Rattle.std.specs.List.{range_with_len, slice_range}
use Rattle.std.proofs.lemmas.List.{map-append, take_more}
use Rattle.std.proofs.lemmas.List.FromFn.{length-range_with_len, get_or-range_with_len}
use Rattle.std.proofs.lemmas.Str.{IsCharBoundary-before_ascii, IsCharBoundary-after_ascii}
use Rattle.std.proofs.lemmas.Bool.{and_parts}
use Rattle.bx_ucd.specs.Data.{Data}
use Rattle.bx_common.specs.Characters.{is_ascii_printable}

pub all-append : (xs ys : List ℕ) → encode_utf8_all (xs ++ ys) ≡ encode_utf8_all xs ++ encode_utf8_all ys
all-append [] ys = refl
all-append (x ∷ xs) ys = ap (λ zs. encode_utf8 x ++ zs) (all-append xs ys) ∙ sym (append_assoc (encode_utf8 x) (encode_utf8_all xs) (encode_utf8_all ys))

-- a character's mirror, or itself
abbrev pub mirror_or : Data → ℕ → ℕ
mirror_or ucd c = unwrap_or (ucd.mirror c) c

-- one more character is mirrored
pub mirror_image-more : (ucd : Data) (cs : List ℕ) (k n c : ℕ) (m : Option ℕ) (x : ℕ) (old new : List ℕ) → (k < length cs) × (c ≡ get_or cs k c)
    → n ≡ k + 1 → m ≡ ucd.mirror c → x ≡ unwrap_or m c → old ≡ encode_utf8_all (map (mirror_or ucd) (take k cs)) → new ≡ old ++ encode_utf8 x
    → new ≡ encode_utf8_all (map (mirror_or ucd) (take n cs))
mirror_image-more ucd cs k n c m x old new at one e f i pushed =
    let f' = mirror_or ucd in
    let own : x ≡ f' (get_or cs k c) = f ∙ ap (λ o. unwrap_or o c) e ∙ ap f' at.1 in
    let last : encode_utf8 x ≡ encode_utf8_all (f' (get_or cs k c) ∷ []) = ap encode_utf8 own ∙ sym (append-nil (encode_utf8 (f' (get_or cs k c)))) in
    pushed ∙ ap₂ (λ a b. a ++ b) i last
    ∙ sym (all-append (map f' (take k cs)) (f' (get_or cs k c) ∷ []))
    ∙ ap encode_utf8_all (sym (map-append f' (take k cs) (get_or cs k c ∷ [])))
    ∙ ap (λ ys. encode_utf8_all (map f' ys)) (sym (take_more cs k c at.0))
    ∙ ap (λ j. encode_utf8_all (map f' (take j cs))) (sym one)

pub mirror_image-all : (ucd : Data) (cs : List ℕ) (k : ℕ) (text : List ℕ) → text ≡ encode_utf8_all (map (mirror_or ucd) (take k cs))
    → length cs ≤ k
    → text ≡ encode_utf8_all (map (mirror_or ucd) cs)
mirror_image-all ucd cs k text i all = i ∙ ap (λ ys. encode_utf8_all (map (mirror_or ucd) ys)) (take_all k cs all)

-- ---- the characters from SPACE to TILDE, one after another

abbrev pub letters : List ℕ
letters = range_with_len 32 95

letters-length : (bs : List ℕ) → bs ≡ letters → length bs ≡ 95
letters-length bs e = ap length e ∙ length-range_with_len 32 95

letters-at : (bs : List ℕ) (i : ℕ) → bs ≡ letters → i < 95 → get_or bs i 0 ≡ 32 + i
letters-at bs i e h = ap (λ xs. get_or xs i 0) e ∙ get_or-range_with_len 32 95 i 0 h

pub printable-from : (byte : ℕ) → is_ascii_printable byte ≡ true → (32 ≤ byte) × (byte ≤ 126)
printable-from byte h = let p = and_parts _ _ h in (leb-true 32 byte p.0, leb-true byte 126 p.1)

pub letter-start : (bs : List ℕ) (byte : ℕ) → bs ≡ letters → is_ascii_printable byte ≡ true → IsCharBoundary bs (byte - 32)
letter-start bs byte e h =
    let p = printable-from byte h in
    let within : byte - 32 < 95 = omega (arith, p.0, p.1) in
    IsCharBoundary-before_ascii bs (byte - 32) (omega (arith, within, letters-length bs e)) (omega (arith, within, letters-at bs (byte - 32) e within))

pub letter-end : (bs : List ℕ) (byte : ℕ) → IsUtf8 bs → bs ≡ letters → is_ascii_printable byte ≡ true → IsCharBoundary bs (byte - 32 + 1)
letter-end bs byte u e h =
    let p = printable-from byte h in
    let within : byte - 32 < 95 = omega (arith, p.0, p.1) in
    IsCharBoundary-after_ascii bs (byte - 32) u (omega (arith, within, letters-length bs e)) (omega (arith, within, letters-at bs (byte - 32) e within))

pub letter-text : (bs : List ℕ) (byte : ℕ) → bs ≡ letters → is_ascii_printable byte ≡ true → slice_range bs (byte - 32) (byte - 32 + 1) ≡ byte ∷ []
letter-text bs byte e h =
    let p = printable-from byte h in
    let i = byte - 32 in
    let within : i < 95 = omega (arith, p.0, p.1) in
    let here : i < length bs = omega (arith, within, letters-length bs e) in
    let own : get_or bs i 0 ≡ byte = omega (arith, p.0, letters-at bs i e within) in
    let one : i + 1 - i ≡ 1 = omega arith in
    ap (λ n. take n (drop i bs)) one ∙ ap (take 1) (drop-cons bs i 0 here) ∙ ap (λ b. b ∷ []) own
