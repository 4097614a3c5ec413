-- A paragraph's start cuts a text into the bytes before it and a text of the paragraphs from it on.
use Rattle.std.proofs.Common.{◌≡◌, ℕ, ◌+◌, ◌-◌, ◌<◌, ◌≤◌, true, List, [], ◌∷◌, ◌++◌, map, length, take, drop, chars, encode_utf8_all, IsUtf8}
use Rattle.std.proofs.Common.{IsCharBoundary, refl, sym, ap, subst, ◌∙◌, arith, length-append}
use Rattle.std.proofs.lemmas.List.{append_cancel_right, drop-drop, drop-take, drop_at, map-append, take-append-drop, take-take}
use Rattle.std.proofs.lemmas.Str.{chars-append, chars-encodes, encodes-append, encodes-chars, scalars-chars, IsUtf8-take, IsCharBoundary-from_drop}
use Rattle.bx_ucd.specs.Data.{Data}
use lib.Utf8.{scalars}
use Rattle.bx_text.specs.declared.index.lengths.Lengths.{Lengths}
use Rattle.bx_text.specs.index.Paragraphs.{lengths_of}
use Rattle.bx_text.proofs.index_lemmas.Changes.{scalars_back}
use Rattle.bx_text.proofs.index_lemmas.Cuts.{lens, parts, widths}
use Rattle.bx_text.proofs.index_lemmas.Seams.{seam}
use Rattle.bx_view.specs.Numbers.{count, start_at}
use Rattle.bx_view.proofs.Numbers.{ahead, behind, here, parts-at, start-is}

-- ---- bytes

pub take_parts : (i j : ℕ) (xs : List ℕ) → i ≤ j → take j xs ≡ take i xs ++ take (j - i) (drop i xs)
take_parts i j xs h =
    let sum : j ≡ i + (j - i) = omega (arith, h) in
    sym (take-append-drop i (take j xs)) ∙ ap (λ ys. ys ++ drop i (take j xs)) (take-take i j xs h)
    ∙ ap (λ n. take i xs ++ drop i (take n xs)) sum ∙ ap (λ ys. take i xs ++ ys) (drop-take i (j - i) xs)

pub drop_parts : (i j : ℕ) (xs : List ℕ) → i ≤ j → drop i xs ≡ take (j - i) (drop i xs) ++ drop j xs
drop_parts i j xs h =
    let sum : i + (j - i) ≡ j = omega (arith, h) in
    sym (take-append-drop (j - i) (drop i xs)) ∙ ap (λ ys. take (j - i) (drop i xs) ++ ys) (drop-drop (j - i) i xs ∙ ap (λ n. drop n xs) sum)

pub no_chars : chars [] ≡ []
no_chars = chars-encodes [] refl

pub some_chars : (bs cs : List ℕ) → IsUtf8 bs → 0 < length bs → chars bs ≡ cs → 0 < length cs
some_chars bs [] u some e = absurd (omega (arith, some, ap length (sym (encodes-chars bs u) ∙ ap encode_utf8_all e)))
some_chars bs (c ∷ cs) u some e = omega arith

-- ---- a paragraph's begin

module _ (ucd : Data) (text : List ℕ) (utf8 : IsUtf8 text) where
  -- a paragraph begins at an offset, and the paragraphs from there on have these lengths
  pub record IsBegin (at : ℕ) (ls : List Lengths) : Type 0 where
    pub bounds : IsCharBoundary text at
    pub parts : parts ucd (chars (take at text)) (chars (drop at text)) ≡ true
    pub rest : lens ucd (chars (drop at text)) ≡ ls

  pub begin_at : (n : ℕ) (within : n < count ucd text)
      → IsBegin (start_at ucd text n) (lengths_of (here ucd text n within) ∷ map lengths_of (behind ucd text n within))
  begin_at n within =
      let split : lens ucd (chars text) ≡ map lengths_of (ahead ucd text n within)
      ++ lengths_of (here ucd text n within) ∷ map lengths_of (behind ucd text n within) = ap (map lengths_of) (parts-at ucd text n within)
      ∙ map-append lengths_of (ahead ucd text n within) (here ucd text n within ∷ behind ucd text n within) in
      let (x, m, s) = seam ucd (chars text) (map lengths_of (ahead ucd text n within)) (lengths_of (here ucd text n within))
      (map lengths_of (behind ucd text n within)) split in
      let at = start_at ucd text n in
      let size : widths x ≡ at = s.bytes ∙ sym (start-is ucd text n) in
      let spelt : text ≡ encode_utf8_all x ++ encode_utf8_all m = sym (encodes-chars text utf8) ∙ ap encode_utf8_all s.whole ∙ encodes-append x m in
      let sound : scalars m ≡ true = scalars_back x m (ap scalars (sym s.whole) ∙ scalars-chars text utf8) in
      let rest : drop at text ≡ encode_utf8_all m = ap (drop at) spelt ∙ drop_at (encode_utf8_all x) (encode_utf8_all m) at size in
      let inside : at ≤ length text = omega (arith, ap length spelt, length-append (encode_utf8_all x) (encode_utf8_all m), size) in
      let bounds = IsCharBoundary-from_drop text at inside (subst IsUtf8 (sym rest) (m, (sound, refl))) in
      let after : chars (drop at text) ≡ m = ap chars rest ∙ chars-encodes m sound in
      let before : chars (take at text) ≡ x =
      append_cancel_right (chars (take at text)) x m
      (ap (λ r. chars (take at text) ++ r) (sym after) ∙ sym (chars-append (take at text) (drop at text) (IsUtf8-take text at utf8 bounds))
      ∙ ap chars (take-append-drop at text) ∙ s.whole) in
      record {
        bounds = bounds;
        parts = ap (λ v. parts ucd v (chars (drop at text))) before ∙ ap (parts ucd x) after ∙ s.parts;
        rest = ap (lens ucd) after ∙ s.rest;
      }
