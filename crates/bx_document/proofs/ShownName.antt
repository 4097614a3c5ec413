-- The characters of a name that are shown, in order.
use Rattle.std.proofs.Common.{◌≡◌, ℕ, Bool, true, false, not, ◌||◌, ◌==◌, List, [], ◌∷◌, ◌++◌, filter, ap, sym, arith, ◌∙◌}
use Rattle.std.proofs.Common.{if◌then◌else◌}
use Rattle.std.specs.Prelude.{encode_utf8, encode_utf8_all}
use Rattle.std.proofs.lemmas.List.{append-nil}
use Rattle.std.proofs.lemmas.List.Elements.{filter-append}
use Rattle.std.proofs.lemmas.Str.{encodes-append}
use Rattle.std.proofs.lemmas.Bool.Decides.{nat_tests}
use Rattle.bx_text.specs.index.Paragraphs.{is_separator}
use Rattle.bx_ucd.specs.Data.{Data}
use Rattle.bx_document.specs.StatusRow.{is_no_letter}

module _ (d : Data) where
  abbrev pub kept : List ℕ → List ℕ
  kept cs = filter (λ c. not (is_no_letter d c)) cs

  one-by : (c : ℕ) (b : Bool) → is_no_letter d c ≡ b → kept (c ∷ []) ≡ elim b [ true ↦ [] | false ↦ c ∷ [] ]
  one-by c true e = ap (λ x. if not x then (c ∷ []) else []) e
  one-by c false e = ap (λ x. if not x then (c ∷ []) else []) e

  more : (cs : List ℕ) (c : ℕ) (b : Bool) → is_no_letter d c ≡ b → kept (cs ++ c ∷ []) ≡ kept cs ++ elim b [ true ↦ [] | false ↦ c ∷ [] ]
  more cs c b e = filter-append (λ x. not (is_no_letter d x)) cs (c ∷ []) ∙ ap (λ xs. kept cs ++ xs) (one-by c b e)

  pub shown-more : (cs : List ℕ) (c : ℕ) (was shown : List ℕ) → is_no_letter d c ≡ false → was ≡ encode_utf8_all (kept cs)
      → shown ≡ was ++ encode_utf8 c → shown ≡ encode_utf8_all (kept (cs ++ c ∷ []))
  shown-more cs c was shown e before now =
      now ∙ ap (λ xs. xs ++ encode_utf8 c) before
      ∙ ap (λ xs. encode_utf8_all (kept cs) ++ xs) (sym (append-nil (encode_utf8 c)))
      ∙ sym (encodes-append (kept cs) (c ∷ [])) ∙ ap encode_utf8_all (sym (more cs c false e))

  pub shown-same : (cs : List ℕ) (c : ℕ) (shown : List ℕ) → is_no_letter d c ≡ true → shown ≡ encode_utf8_all (kept cs)
      → shown ≡ encode_utf8_all (kept (cs ++ c ∷ []))
  shown-same cs c shown e before = before ∙ ap encode_utf8_all (sym (more cs c true e ∙ append-nil (kept cs)))

both-not : (c : ℕ) (a b : Bool) → a ≡ false → b ≡ false → (a || b) ≡ false
both-not c a b e f = ap (λ x. x || b) e ∙ f

pub is-letter : (d : Data) (c : ℕ) → (c ≡ 9 → ⊥) → is_separator (d.class c) ≡ false → is_no_letter d c ≡ false
is-letter d c other one = let tab : (c == 9) ≡ false = grind (arith, nat_tests) in both-not c (c == 9) (is_separator (d.class c)) tab one
