-- The last character of a text.
use Rattle.std.proofs.Common.{◌≡◌, ◌≤◌, ℕ, List, [], ◌∷◌, ◌++◌, length, take, drop, chars, IsUtf8, sym, ap, subst, ◌∙◌, arith, append-nil, length-append}
use Rattle.std.specs.Prelude.{encode_utf8}
use Rattle.std.specs.Str.{IsCharBoundary}
use Rattle.std.proofs.Math.Seq.{drop-append_seam, take-append_seam}
use Rattle.std.proofs.lemmas.Str.{chars-append, chars-nil, chars_past_char, IsCharBoundary-from_take, IsUtf8-drop}

pub chars_to_last : (bs before : List ℕ) (c : ℕ) → IsUtf8 bs → IsUtf8 before → bs ≡ before ++ encode_utf8 c → chars bs ≡ chars before ++ c ∷ []
chars_to_last bs before c u v e =
    let n = length before in
    let front : take n bs ≡ before = ap (take n) e ∙ take-append_seam before (encode_utf8 c) in
    let back : drop n bs ≡ encode_utf8 c = ap (drop n) e ∙ drop-append_seam before (encode_utf8 c) in
    let within : n ≤ length bs = omega (arith, ap length e, length-append before (encode_utf8 c)) in
    let boundary : IsCharBoundary bs n = IsCharBoundary-from_take bs n u within (subst IsUtf8 (sym front) v) in
    let w : IsUtf8 (encode_utf8 c) = subst IsUtf8 back (IsUtf8-drop bs n u boundary) in
    let one : chars (encode_utf8 c) ≡ c ∷ [] =
    chars_past_char (encode_utf8 c) [] c w (sym (append-nil (encode_utf8 c))) ∙ ap (λ cs. c ∷ cs) chars-nil in
    ap chars e ∙ chars-append before (encode_utf8 c) v ∙ ap (λ cs. chars before ++ cs) one
