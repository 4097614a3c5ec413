-- The text after a character has its place in the body, one character later.
use Rattle.std.proofs.Common.{◌≡◌, ◌≤◌, ◌+◌, ℕ, List, [], ◌∷◌, ◌++◌, length, take, drop, chars, IsUtf8, sym, ap, ap₂, ◌∙◌, arith, append_assoc, length-append}
use Rattle.std.specs.Prelude.{encode_utf8}
use Rattle.std.specs.Char.{len_utf8}
use Rattle.std.specs.Str.{IsCharBoundary}
use Rattle.std.proofs.Math.Seq.{take-append-add, take-append_seam}
use Rattle.std.proofs.lemmas.List.{length-take-le, take-append-drop}
use Rattle.std.proofs.lemmas.Str.{drop_past_char, IsCharBoundary-past_char, IsUtf8-drop, IsUtf8-take, encodes-chars, length-encode, length-le-encodes}
use Rattle.bx_rows.specs.joining.Places.{StandsAt}
use Rattle.bx_rows.proofs.joining_lemmas.LastChars.{chars_to_last}

pub stand_on : (body text after : List ℕ) (offset number letter : ℕ) → IsUtf8 body → StandsAt body text offset number → text ≡ encode_utf8 letter ++ after
    → StandsAt body after (offset + len_utf8 letter) (number + 1)
stand_on body text after offset number letter u s e =
    let tail = drop (length text) (drop offset body) in
    let more = after ++ tail in
    let rest : drop offset body ≡ encode_utf8 letter ++ more =
    sym (take-append-drop (length text) (drop offset body)) ∙ ap (λ xs. xs ++ tail) (sym s.here ∙ e) ∙ append_assoc (encode_utf8 letter) after tail in
    let boundary : IsCharBoundary body (offset + len_utf8 letter) = IsCharBoundary-past_char body more offset letter s.boundary.0 (IsUtf8-drop body offset u s.boundary) rest in
    let past : drop (offset + len_utf8 letter) body ≡ more = drop_past_char body more offset letter rest in
    let front = take offset body in
    let size : length front ≡ offset = length-take-le offset body s.boundary.0 in
    let whole : body ≡ front ++ (encode_utf8 letter ++ more) = sym (take-append-drop offset body) ∙ ap (λ xs. front ++ xs) rest in
    let seam : take (offset + len_utf8 letter) body ≡ front ++ encode_utf8 letter =
    ap₂ take (ap (λ n. n + len_utf8 letter) (sym size)) whole
    ∙ take-append-add front (encode_utf8 letter ++ more) (len_utf8 letter)
    ∙ ap (λ xs. front ++ xs) (ap (λ n. take n (encode_utf8 letter ++ more)) (sym (length-encode letter)) ∙ take-append_seam (encode_utf8 letter) more) in
    let counted : chars (take (offset + len_utf8 letter) body) ≡ chars front ++ letter ∷ [] =
    chars_to_last (take (offset + len_utf8 letter) body) front letter (IsUtf8-take body (offset + len_utf8 letter) u boundary)
    (IsUtf8-take body offset u s.boundary) seam in
    record {
      boundary = boundary;
      here = sym (ap (take (length after)) past ∙ take-append_seam after tail);
      before = omega (arith, ap length counted, length-append (chars front) (letter ∷ []), s.before);
    }

-- a text has no more characters than bytes
pub counted_within : (body text : List ℕ) (offset number : ℕ) → IsUtf8 body → StandsAt body text offset number → number ≤ offset
counted_within body text offset number u s =
    let front = take offset body in
    let bytes = encodes-chars front (IsUtf8-take body offset u s.boundary) in
    omega (arith, s.before, length-le-encodes (chars front), ap length bytes, length-take-le offset body s.boundary.0)
