-- The offset behind a character.
use Rattle.std.proofs.Common.{◌≡◌, ℕ, ◌+◌, ◌≤◌, List, ◌∷◌, ◌++◌, length, take, drop, chars, IsUtf8, IsCharBoundary}
use Rattle.std.proofs.Common.{refl, sym, ap, ◌∙◌, arith, append-nil}
use Rattle.std.specs.Prelude.{encode_utf8, encode_utf8_all}
use Rattle.std.proofs.lemmas.List.{take-append-drop}
use Rattle.std.proofs.lemmas.Str.{IsCharBoundary-from_rest, IsUtf8-drop}
use Rattle.bx_find.proofs.Nearest.{bound_at}
use Rattle.bx_find.proofs.Offsets.{none_behind, piece_read}
use Rattle.bx_document.specs.Swapped.{behind_character}

-- a part of the text begins with the character
pub behind-first : (text part rest : List ℕ) (x c : ℕ) → IsUtf8 part → take (length part) (drop x text) ≡ part
    → chars part ≡ c ∷ chars rest → x + length (encode_utf8 c) ≡ behind_character text x
behind-first text part rest x c u e first =
    let more : List ℕ = chars (drop (x + length part) text) in
    let read : chars (drop x text) ≡ c ∷ (chars rest ++ more) = piece_read text part x u e ∙ ap (λ cs. cs ++ more) first in
    sym (ap (λ cs. x + length (encode_utf8_all (take 1 cs))) read ∙ ap (λ bs. x + length bs) (append-nil (encode_utf8 c)))

pub behind-end : (text : List ℕ) (x : ℕ) → length text ≤ x → x ≡ behind_character text x
behind-end text x h =
    let none : behind_character text x ≡ x + 0 = ap (λ cs. x + length (encode_utf8_all (take 1 cs))) (none_behind text x h) in
    omega (arith, none)

pub behind-bounds : (text : List ℕ) (x : ℕ) → IsUtf8 text → IsCharBoundary text x → IsCharBoundary text (behind_character text x)
behind-bounds text x u b =
    let cs : List ℕ = chars (drop x text) in
    let width : ℕ = length (encode_utf8_all (take 1 cs)) in
    IsCharBoundary-from_rest text x width b.0
    (bound_at (drop x text) (take 1 cs) (drop 1 cs) width (IsUtf8-drop text x u b) (sym (take-append-drop 1 cs)) refl)
