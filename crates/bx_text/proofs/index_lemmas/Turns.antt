-- The paragraphs of a text one after another.
use Rattle.std.proofs.Common.{◌≡◌, ◌<◌, ◌≤◌, ◌+◌, ◌-◌, ◌∙◌, ◌==◌, ◌⊎◌, inl, inr, ℕ, true, false, nat_le, List, [], ◌∷◌, ◌++◌, length, take, drop, chars, IsUtf8}
use Rattle.std.proofs.Common.{IsCharBoundary, refl, ap, sym, subst, arith, append_assoc, append-nil}
use Rattle.std.proofs.lemmas.Bool.Decides.{nat_tests}
use Rattle.std.proofs.lemmas.List.{take-append-drop, drop_all, length-drop}
use Rattle.std.proofs.lemmas.Str.{chars-append, chars-nil, length-le-encodes, IsUtf8-take, IsUtf8-drop}
use Rattle.bx_ucd.specs.Data.{Data}
use Rattle.bx_text.specs.declared.index.lengths.Lengths.{Lengths}
use Rattle.bx_text.specs.index.Paragraphs.{lengths, bytes_of, total}
use Rattle.bx_text.specs.index.Ended.{ended_within, first, further}
use Rattle.bx_text.specs.index.ScanRanges.{IsScanRange}
use Rattle.bx_text.specs.declared.index.scan_range.ScanRange.{ScanRange}
use Rattle.bx_text.proofs.index_lemmas.Changes.{cut_at, front_len, spelt}
use Rattle.bx_text.proofs.index_lemmas.Counts.{count_few, total_lens}
use Rattle.bx_text.proofs.index_lemmas.Cuts.{widths, widths_append, unended, lens, IsFirst, beginning}
use Rattle.bx_text.proofs.index_lemmas.Edits.{ended_in_none}
use Rattle.bx_text.proofs.index_lemmas.Firsts.{further_none}

module _ (ucd : Data) where
  -- how many bytes the paragraphs of a text have, and how many there are
  pub total_lengths : (text : List ℕ) → IsUtf8 text → total (lengths ucd text) ≡ length text
  total_lengths text utf8 = total_lens ucd (chars text) ∙ spelt text utf8

  pub few_lengths : (text : List ℕ) → IsUtf8 text → length (lengths ucd text) ≤ length text + 1
  few_lengths text utf8 = omega (arith, count_few ucd (chars text), length-le-encodes (chars text), spelt text utf8)

  -- after an offset follow a paragraph that ends and others, or one that does not end
  pub record IsTurn (text : List ℕ) (at : ℕ) (p : Lengths) : Type 0 where
    pub more : lengths ucd (drop at text) ≡ p ∷ lengths ucd (drop (at + bytes_of p) text)
    pub ends_between : IsCharBoundary text (at + bytes_of p)

  module _ (text : List ℕ) (at : ℕ) (utf8 : IsUtf8 text) (bounds : IsCharBoundary text at) where
    turn_at : (p : Lengths) → p ≡ first (lengths ucd (drop at text)) → 0 < p.separator
        → (lens ucd (chars (drop at text)) ≡ unended (widths (chars (drop at text))) ∷ [])
        ⊎ ((l : Lengths) × (w : List ℕ) × (z : List ℕ) × IsFirst ucd (chars (drop at text)) l w z)
        → IsTurn text at p
    turn_at p e some (inl one) = let none : p.separator ≡ 0 = ap (λ (l : Lengths). l.separator) (e ∙ ap first one) in absurd (omega arith)
    turn_at p e some (inr (l, w, z, h)) =
        let same : p ≡ l = e ∙ ap first h.first in
        let x : List ℕ = chars (take at text) ++ w in
        let whole : chars text ≡ x ++ z =
        ap chars (sym (take-append-drop at text)) ∙ chars-append (take at text) (drop at text) (IsUtf8-take text at utf8 bounds)
        ∙ ap (λ cs. chars (take at text) ++ cs) h.whole ∙ sym (append_assoc (chars (take at text)) w z) in
        let len : widths x ≡ at + bytes_of p =
        omega (arith, widths_append (chars (take at text)) w, front_len text at utf8 bounds, h.bytes, ap bytes_of same) in
        let cut = cut_at text x z (at + bytes_of p) utf8 whole len in
        record {
          more = h.first ∙ ap (λ q. q ∷ lens ucd z) (sym same) ∙ ap (λ cs. p ∷ lens ucd cs) (sym cut.rest);
          ends_between = cut.bounds;
        }

    pub turn : (p : Lengths) → p ≡ first (lengths ucd (drop at text)) → 0 < p.separator → IsTurn text at p
    turn p e some = turn_at p e some (beginning ucd (chars (drop at text)))

    -- the same, where the bytes are counted
    pub record IsNext (p : Lengths) (r : ℕ) : Type 0 where
      pub more : lengths ucd (drop at text) ≡ p ∷ lengths ucd (drop (at + r) text)
      pub ends_between : IsCharBoundary text (at + r)

    pub next : (p : Lengths) (r : ℕ) → p ≡ first (lengths ucd (drop at text)) → 0 < p.separator → r ≡ bytes_of p → IsNext p r
    next p r e some n =
        let t = turn p e some in
        record {
          more = t.more ∙ ap (λ m. p ∷ lengths ucd (drop (at + m) text)) (sym n);
          ends_between = subst (λ m. IsCharBoundary text (at + m)) (sym n) t.ends_between;
        }

    last_at : (p : Lengths) → p ≡ first (lengths ucd (drop at text)) → p.separator ≡ 0
        → (lens ucd (chars (drop at text)) ≡ unended (widths (chars (drop at text))) ∷ [])
        ⊎ ((l : Lengths) × (w : List ℕ) × (z : List ℕ) × IsFirst ucd (chars (drop at text)) l w z)
        → lengths ucd (drop at text) ≡ unended p.body ∷ []
    last_at p e none (inl one) = one ∙ ap (λ n. unended n ∷ []) (sym (ap (λ (l : Lengths). l.body) (e ∙ ap first one)))
    last_at p e none (inr (l, w, z, h)) = let some : p.separator ≡ l.separator =
        ap (λ (k : Lengths). k.separator) (e ∙ ap first h.first) in absurd (omega (arith, h.has_separator))

    pub last : (p : Lengths) → p ≡ first (lengths ucd (drop at text)) → p.separator ≡ 0 → lengths ucd (drop at text) ≡ unended p.body ∷ []
    last p e none = last_at p e none (beginning ucd (chars (drop at text)))

    -- ---- those that end within some bytes

    pub within_more : (p : Lengths) (k : ℕ) → p ≡ first (lengths ucd (drop at text)) → 0 < p.separator → bytes_of p ≤ k
        → ended_within k (lengths ucd (drop at text)) ≡ p ∷ ended_within (k - bytes_of p) (lengths ucd (drop (at + bytes_of p) text))
    within_more p k e some fits =
        let t = turn p e some in
        let a : (p.separator == 0) ≡ false = grind (arith, nat_tests) in
        let b : nat_le (bytes_of p) k ≡ true = grind (arith, nat_tests) in
        ap (ended_within k) t.more ∙ rw (a, b, ended_within) refl

    -- one of them put in
    pub record IsStep (p : Lengths) (stop r : ℕ) : Type 0 where
      pub left : ended_within (stop - at) (lengths ucd (drop at text)) ≡ p ∷ ended_within (stop - (at + r)) (lengths ucd (drop (at + r) text))
      pub ends_between : IsCharBoundary text (at + r)

    pub step : (p : Lengths) (stop r : ℕ) → p ≡ first (lengths ucd (drop at text)) → 0 < p.separator → r ≡ bytes_of p → r ≤ stop - at → IsStep p stop r
    step p stop r e some n fits =
        let k : stop - at - bytes_of p ≡ stop - (at + r) = omega (arith, n) in
        record {
          left = within_more p (stop - at) e some (omega (arith, n)) ∙ ap (λ m. p ∷ ended_within m (lengths ucd (drop (at + bytes_of p) text))) k
              ∙ ap (λ m. p ∷ ended_within (stop - (at + r)) (lengths ucd (drop (at + m) text))) (sym n);
          ends_between = subst (λ m. IsCharBoundary text (at + m)) (sym n) (turn p e some).ends_between;
        }

  -- the last paragraph, of no bytes, where the text ends
  pub end_lengths : (text : List ℕ) (at : ℕ) → length text ≤ at → lengths ucd (drop at text) ≡ unended 0 ∷ []
  end_lengths text at h = ap (λ bs. lengths ucd bs) (drop_all at text h) ∙ ap (lens ucd) chars-nil

  -- none is left where the offset is reached
  pub none_left : (text : List ℕ) (at stop : ℕ) → stop ≤ at → ended_within (stop - at) (lengths ucd (drop at text)) ≡ []
  none_left text at stop h = let none : stop - at ≡ 0 = omega arith in ap (λ k. ended_within k (lengths ucd (drop at text))) none
      ∙ ended_in_none (lengths ucd (drop at text))

-- the paragraphs inserted and those left are together all
pub still_all : (f g w left all : List Lengths) (p : Lengths) → g ≡ f ++ p ∷ [] → w ≡ p ∷ left → f ++ w ≡ all → g ++ left ≡ all
still_all f g w left all p e h i = ap (λ ls. ls ++ left) e ∙ append_assoc f (p ∷ []) left ∙ ap (λ ls. f ++ ls) (sym h) ∙ i

pub now_all : (f w all : List Lengths) → f ++ w ≡ all → w ≡ [] → f ≡ all
now_all f w all i h = sym (append-nil f) ∙ ap (λ ls. f ++ ls) (sym h) ∙ i

-- ---- the bytes that are read

pub bytes_of_first : (ls : List Lengths) → bytes_of (first ls) ≤ total ls
bytes_of_first [] = omega arith
bytes_of_first (l ∷ ls) = omega arith

module _ (ucd : Data) (text : List ℕ) where
  -- the first paragraph from an offset on is within the text
  pub first_within : (at : ℕ) → IsUtf8 text → IsCharBoundary text at → bytes_of (first (lengths ucd (drop at text))) ≤ length text - at
  first_within at utf8 b = omega (
    arith,
    bytes_of_first (lengths ucd (drop at text)),
    total_lengths ucd (drop at text) (IsUtf8-drop text at utf8 b),
    length-drop at text,
  )

  -- a range that begins where a paragraph does
  pub moved : (at to : ℕ) (w : ScanRange) → IsScanRange ucd text at w → IsCharBoundary text to → IsScanRange ucd text to (record w { start = to })
  moved at to w h b =
      let none : 0 ≡ to - to = omega arith in
      record {
        start_bounds = b;
        stop_bounds = h.stop_bounds;
        start_before = omega arith;
        goes_on = further_none (first (lengths ucd (drop to text))) ∙ ap (λ n. further n (first (lengths ucd (drop to text)))) none;
        behind = h.behind;
      }

  pub stop_within : (start at : ℕ) (w : ScanRange) → IsScanRange ucd text start w → IsUtf8 text → IsCharBoundary text at → at ≡ w.stop
      → at + w.body + w.separator ≤ length text
  stop_within start at w h utf8 b e =
      let inside : at ≤ length text = b.0 in
      omega (arith, first_within w.stop utf8 h.stop_bounds, ap bytes_of h.behind, e)
