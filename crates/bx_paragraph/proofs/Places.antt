-- The places of a text's characters.
use Rattle.std.proofs.Common.{◌≡◌, ◌<◌, ◌≤◌, ◌+◌, ◌-◌, ◌∙◌, ℕ, suc, Bool, true, false, Option, Some, List, ◌∷◌, ◌++◌, length, take, drop, get_or, chars, refl, ap, sym, subst, arith, drop-drop}
use Rattle.std.proofs.Common.{length-append, length-drop}
use Rattle.std.specs.Str.{IsCharBoundary, IsUtf8}
use Rattle.std.specs.Prelude.{encode_utf8, IfSome}
use Rattle.std.proofs.lemmas.List.{at_drop_more, drop_at, take-append-drop}
use Rattle.std.proofs.lemmas.Str.{chars-append, chars_past_char, len_utf8_bounds, length-encode, IsCharBoundary-from_drop, IsCharBoundary-start, IsUtf8-drop}
use Rattle.std.proofs.lemmas.Str.{IsUtf8-past_char, IsUtf8-take}
use Rattle.std.proofs.Math.Seq.{take-append_seam}
use Rattle.bx_ucd.specs.Data.{Data}
use Rattle.bx_ucd.specs.Class.{is_strong}
use Rattle.bx_levels.specs.resolve.Body.{IsOffset}
use Rattle.bx_paragraph.specs.Cuts.{IsStrongIn}
use Rattle.bx_paragraph.specs.declared.strong.Strong.{Strong}

-- the start of a text
pub first-place : (text : List ℕ) → IsUtf8 text → IsOffset text 0 0
first-place text u = record { boundary = IsCharBoundary-start text u; rest = refl }

-- the text before a place
pub chars-before : (text : List ℕ) (i at : ℕ) → IsUtf8 text → IsOffset text i at → i ≤ length (chars text) → chars (take at text) ≡ take i (chars text)
chars-before text i at u p h =
    let front = chars (take at text) in
    let back = chars (drop at text) in
    let all : chars text ≡ front ++ back =
    ap chars (sym (take-append-drop at text)) ∙ chars-append (take at text) (drop at text) (IsUtf8-take text at u p.boundary) in
    let size : length (chars text) ≡ length front + length (drop i (chars text)) =
    ap length all ∙ length-append front back ∙ ap (λ xs. length front + length xs) p.rest in
    let n : length front ≡ i = omega (arith, size, h, length-drop i (chars text)) in
    sym (ap (take i) all ∙ ap (λ k. take k (front ++ back)) (sym n) ∙ take-append_seam front back)

-- the character at a place, and the place after it
pub record IsCharAt (text : List ℕ) (i c next : ℕ) : Type 0 where
  pub inside : i < length (chars text)
  pub char_is : c ≡ get_or (chars text) i 0
  pub place : IsOffset text (i + 1) next

pub char-at : (text : List ℕ) (i at c next : ℕ) → IsOffset text i at → IsCharBoundary text next → chars (drop at text) ≡ c ∷ chars (drop next text)
    → IsCharAt text i c next
char-at text i at c next p b e =
    let cs = chars text in
    let here : drop i cs ≡ c ∷ chars (drop next text) = sym p.rest ∙ e in
    let size : length (drop i cs) ≡ suc (length (chars (drop next text))) = ap length here in
    let inside : i < length cs = omega (arith, size, length-drop i cs) in
    let same : c ∷ chars (drop next text) ≡ get_or cs i 0 ∷ drop (i + 1) cs = sym here ∙ at_drop_more (λ ys. ys) cs i 0 inside in
    record { inside = inside; char_is = cc; place = record { boundary = b; rest = cc } }

-- a strong one
pub strong-at : (ucd : Data) (text : List ℕ) (s : Strong) (c : ℕ) → IsOffset text s.index s.start → IsCharAt text s.index c s.stop
    → s.class ≡ ucd.class c → is_strong s.class ≡ true → IsStrongIn ucd text s
strong-at ucd text s c p h e strong =
    record { inside = h.inside; class_is = e ∙ ap ucd.class h.char_is; strong = strong; start = p; stop = h.place }

-- the rest of a text from an offset at which a character begins
pub next-char : (text rest : List ℕ) (at c : ℕ) → IsUtf8 text → IsCharBoundary text at → drop at text ≡ encode_utf8 c ++ rest
    → (at < length text - length rest) × IsCharBoundary text (length text - length rest)
    × (chars (drop at text) ≡ c ∷ chars (drop (length text - length rest) text))
next-char text rest at c u b e =
    let next = length text - length rest in
    let left = IsUtf8-drop text at u b in
    let within : at ≤ length text = b.0 in
    let size : length (drop at text) ≡ length (encode_utf8 c) + length rest = ap length e ∙ length-append (encode_utf8 c) rest in
    let some : 1 ≤ length (encode_utf8 c) = omega (arith, length-encode c, (len_utf8_bounds c).0) in
    let n : next ≡ at + length (encode_utf8 c) = omega (arith, size, within, some, length-drop at text) in
    let here : drop next text ≡ rest =
    ap (λ k. drop k text) n ∙ sym (drop-drop (length (encode_utf8 c)) at text) ∙ ap (drop (length (encode_utf8 c))) e
    ∙ drop_at (encode_utf8 c) rest (length (encode_utf8 c)) refl in (
      omega (arith, n, some),
      IsCharBoundary-from_drop text next (omega arith) (subst IsUtf8 (sym here) (IsUtf8-past_char (drop at text) rest c left e)),
      chars_past_char (drop at text) rest c left e ∙ ap (λ r. c ∷ chars r) (sym here),
    )

-- the later of two strong characters
pub later-strong : (ucd : Data) (text : List ℕ) (found : Option Strong) (s : Strong) (c : ℕ) (b : Bool) (r : Option Strong) → is_strong s.class ≡ b
    → r ≡ elim b [ true ↦ Some s | false ↦ found ] → IfSome found (IsStrongIn ucd text) → IsOffset text s.index s.start → IsCharAt text s.index c s.stop
    → s.class ≡ ucd.class c → IfSome r (IsStrongIn ucd text)
later-strong ucd text found s c true r k e h p at f = subst (λ o. IfSome o (IsStrongIn ucd text)) (sym e) (strong-at ucd text s c p at f k)
later-strong ucd text found s c false r k e h p at f = subst (λ o. IfSome o (IsStrongIn ucd text)) (sym e) h
