-- How many characters an edit leaves of a line.
use Rattle.std.proofs.Common.{◌≡◌, ◌∙◌, ◌+◌, ◌-◌, ◌≤◌, ◌<◌, ◌++◌, ◌∷◌, ℕ, List, [], length, take, drop, chars, encode_utf8, IsCharBoundary, IsUtf8, ap, subst, sym, arith, append_assoc, length-append}
use Rattle.std.specs.Prelude.{encode_utf8_all}
use Rattle.std.proofs.lemmas.List.{drop-drop, length-take-le, take-append-drop}
use Rattle.std.proofs.lemmas.Str.{chars-append, chars-nil, encodes-chars, IsCharBoundary-at_seam, IsUtf8-append, IsUtf8-between, IsUtf8-drop, IsUtf8-nil, IsUtf8-take}
use Rattle.bx_text.specs.Changes.{IsRange}
use Rattle.bx_text.specs.Edits.{splice}
use Rattle.bx_rows.proofs.GlyphTexts.{all-append}
use Rattle.bx_editor.specs.questions.Answers.{shortened}
use Rattle.bx_editor.proofs.questions_lemmas.OneMore.{one_more, past-all}

-- the characters before, in place of, and behind a part
in-parts : (text new : List ℕ) (start stop : ℕ) → IsUtf8 text → IsRange text start stop → IsUtf8 new
    → length (chars (splice text start stop new)) ≡ length (chars (take start text)) + length (chars new) + length (chars (drop stop text))
in-parts text new start stop utf8 range valid =
    let front = take start text in
    let back = drop stop text in
    let before : IsUtf8 front = IsUtf8-take text start utf8 range.start_bounds in
    let all = ap length (chars-append (front ++ new) back (IsUtf8-append front new before valid)) ∙ length-append (chars (front ++ new)) (chars back) in
    let first = ap length (chars-append front new before) ∙ length-append (chars front) (chars new) in
    all ∙ ap (λ n. n + length (chars back)) first

-- a text in which a part gives way to itself
same : (text : List ℕ) (start stop : ℕ) → start ≤ stop → splice text start stop (take (stop - start) (drop start text)) ≡ text
same text start stop order =
    let n = stop - start in
    let front = take start text in
    let part = take n (drop start text) in
    let is-stop : stop ≡ start + n = omega (arith, order) in
    append_assoc front part (drop stop text)
    ∙ ap (λ (t : List ℕ). front ++ t) (ap (λ k. part ++ drop k text) is-stop ∙ ap (λ (t : List ℕ). part ++ t) (sym (drop-drop n start text))
    ∙ take-append-drop n (drop start text))
    ∙ take-append-drop start text

whole : (text : List ℕ) (start stop : ℕ) → IsUtf8 text → IsRange text start stop
    → length (chars text)
    ≡ length (chars (take start text)) + length (chars (take (stop - start) (drop start text))) + length (chars (drop stop text))
whole text start stop utf8 range =
    let part = take (stop - start) (drop start text) in
    let valid : IsUtf8 part = IsUtf8-between text start stop utf8 range.in_order range.start_bounds range.stop_bounds in
    ap (λ t. length (chars t)) (sym (same text start stop range.in_order)) ∙ in-parts text part start stop utf8 range valid

-- without a part
pub fewer : (text : List ℕ) (start stop : ℕ) → IsUtf8 text → IsRange text start stop → length (chars (splice text start stop [])) ≤ length (chars text)
fewer text start stop utf8 range =
    omega (arith, in-parts text [] start stop utf8 range IsUtf8-nil, whole text start stop utf8 range, ap length chars-nil)

-- with one more character
pub one-longer : (text : List ℕ) (at c : ℕ) → IsUtf8 text → IsRange text at at → IsUtf8 (encode_utf8 c)
    → length (chars (splice text at at (encode_utf8 c))) ≡ length (chars text) + 1
one-longer text at c utf8 range valid =
    let none : at - at ≡ 0 = omega arith in
    let nothing = ap (λ n. length (chars (take n (drop at text)))) none ∙ ap length chars-nil in
    let one = ap length (one_more [] c IsUtf8-nil valid) ∙ length-append (chars []) (c ∷ []) in
    omega (arith, in-parts text (encode_utf8 c) at at utf8 range valid, whole text at at utf8 range, nothing, one, ap length chars-nil)

-- ---- the last character before a place

pub last-range : (text : List ℕ) (cursor n : ℕ) → IsUtf8 text → IsCharBoundary text cursor → n ≡ length (shortened (take cursor text))
    → IsRange text n cursor
last-range text cursor n utf8 bounds len =
    let q = take cursor text in
    let rest = drop cursor text in
    let cs = chars q in
    let k = length cs - 1 in
    let front = encode_utf8_all (take k cs) in
    let back = encode_utf8_all (drop k cs) in
    let valid : IsUtf8 q = IsUtf8-take text cursor utf8 bounds in
    let split : q ≡ front ++ back =
    sym (encodes-chars q valid) ∙ ap encode_utf8_all (sym (take-append-drop k cs)) ∙ all-append (take k cs) (drop k cs) in
    let behind : IsUtf8 (back ++ rest) =
    IsUtf8-append back rest (past-all (take k cs) back q valid split) (IsUtf8-drop text cursor utf8 bounds) in
    let whole : text ≡ front ++ (back ++ rest) =
    sym (take-append-drop cursor text) ∙ ap (λ (t : List ℕ). t ++ rest) split ∙ append_assoc front back rest in
    let start : IsCharBoundary text (length front) = IsCharBoundary-at_seam text front (back ++ rest) whole behind in
    record {
      start_bounds = subst (IsCharBoundary text) (sym len) start;
      stop_bounds = bounds;
      in_order = omega (arith, len, ap length split, length-append front back, length-take-le cursor text bounds.0);
    }
