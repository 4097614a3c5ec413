-- The range to scan after a change: from the end of the part of a body that stayed before it to its end.
use Rattle.std.proofs.Common.{◌≡◌, ◌≤◌, ◌+◌, ◌-◌, ◌∙◌, inl, inr, ℕ, min, List, [], ◌∷◌, ◌++◌, length, take, drop, chars, get_or, Option, Some, None}
use Rattle.std.proofs.Common.{MatchOption, IsCharBoundary, refl, ap, sym, subst, arith}
use Rattle.std.proofs.lemmas.List.{take_all}
use Rattle.bx_ucd.specs.Data.{Data}
use Rattle.bx_text.specs.declared.change.Change.{Change}
use Rattle.bx_text.specs.declared.index.lengths.Lengths.{Lengths}
use Rattle.bx_text.specs.declared.index.paragraph_span.ParagraphSpan.{ParagraphSpan}
use Rattle.bx_text.specs.declared.index.scan_range.ScanRange.{ScanRange}
use Rattle.bx_text.specs.index.Paragraphs.{lengths, bytes_of, total}
use Rattle.bx_text.specs.index.Ended.{first}
use Rattle.bx_text.specs.index.Touched.{IsTouched}
use Rattle.bx_text.specs.index.ScanRanges.{IsScanRange}
use Rattle.bx_text.proofs.index_lemmas.Beside.{rest_of, GoesOn, goes_on_in_body, rest_behind, HoldsAll}
use Rattle.bx_text.proofs.index_lemmas.Changes.{AreAround, around}
use Rattle.bx_text.proofs.index_lemmas.Cuts.{unended, lens}
use Rattle.bx_text.proofs.index_lemmas.Firsts.{same_lengths}
use Rattle.bx_text.proofs.index_lemmas.Followed.{has_end, no_end, parted_at, start_inside, old_bytes}
use Rattle.bx_text.proofs.index_lemmas.Totals.{total_more, total_push}

module _ {ucd : Data} {old : List ℕ} {c : Change} {new : List ℕ} {ps : List Lengths} {last : ℕ} {p q : ParagraphSpan}
    (touched : IsTouched ucd old c new ps (unended last) p q) where
  abbrev nothing : Lengths
  nothing = record { body = 0; separator = 0 }

  abbrev pub behind_change : List ℕ
  behind_change = chars (drop (c.start + c.removed) old)

  abbrev pub around_change : AreAround old c new (chars (take c.start old)) (chars (take c.removed (drop c.start old))) (chars (take c.added
      (drop c.start new))) behind_change
  around_change = around old c new touched.old_utf8 touched.new_utf8 touched.is_change

  -- the offset goes on from where the first paragraph begins
  abbrev pub From : ℕ → ℕ → Type 0
  From at from = GoesOn ucd old c new touched.new_utf8 (chars (take c.start old)) (chars (take c.removed (drop c.start old)))
      (chars (take c.added (drop c.start new))) behind_change around_change at from

  last_whole : (n : ℕ) → n ≡ length ps → lengths ucd old ≡ take n ps ++ unended last ∷ []
  last_whole n e = sym touched.were ∙ ap (λ ls. ls ++ unended last ∷ []) (sym (take_all n ps (omega (arith, e))))

  all_bytes : length old ≡ total ps + last
  all_bytes = omega (arith, old_bytes touched, total_push ps (unended last))

  start_before : total (take p.number ps) ≤ c.start
  start_before = omega (arith, touched.first_is.start, touched.first_is.start_before)

  from_at : (l : Lengths) (back : List Lengths) (from : ℕ) → lengths ucd old ≡ take p.number ps ++ l ∷ back
      → from ≡ min c.start (total (take p.number ps) + l.body) → From p.start from
  from_at l back from e w = subst (λ at. From at from) (sym touched.first_is.start)
      (goes_on_in_body ucd old c new touched.new_utf8 _ _ _ _ around_change (take p.number ps) l back from e start_before w)

  pub from_is : (end : Option ℕ) (from : ℕ) → p.end ≡ end → MatchOption end (from ≡ c.start) (λ e. from ≡ min c.start (e - p.separator)) → From p.start from
  from_is None from e w =
      let n : p.number ≡ length ps = no_end ps (c.start - 1) p touched.first_is e in
      let all : total (take p.number ps) ≡ total ps = ap total (take_all p.number ps (omega (arith, n))) in
      from_at (unended last) [] from (last_whole p.number n) (omega (arith, w, all, all_bytes, start_inside touched))
  from_is (Some end) from e w =
      let h = has_end ps (c.start - 1) p end touched.first_is e in
      let l : Lengths = get_or ps p.number nothing in
      let sum : end ≡ total (take p.number ps) + bytes_of l = h.end ∙ total_more ps p.number nothing h.inside in
      from_at l _ from (sym touched.were ∙ parted_at ps (unended last) nothing p.number h.inside) (omega (arith, w, sum, touched.first_is.separator_is))

  -- ---- what follows

  rest_at : (l : Lengths) (back : List Lengths) → lengths ucd old ≡ take q.number ps ++ l ∷ back → HoldsAll ucd (c.start + c.removed - q.start) l
      → first (lengths ucd (drop (c.start + c.added) new)) ≡ rest_of (c.start + c.removed - q.start) l
  rest_at l back e holds =
      let at : q.start ≡ total (take q.number ps) = touched.last_is.start in
      ap (λ bs. first (lengths ucd bs)) touched.is_change.same_after
      ∙ subst (λ s. first (lens ucd behind_change) ≡ rest_of (c.start + c.removed - s) l) (sym at)
      (rest_behind ucd old c new touched.new_utf8 _ _ _ _ around_change (take q.number ps) l back e (omega (arith, at, touched.last_is.start_before))
      (subst (λ s. HoldsAll ucd (c.start + c.removed - s) l) at holds))

  pub rest_is : (end : Option ℕ) (left : ℕ) (r : ℕ × ℕ) → left ≡ length new - (c.start + c.added) → q.end ≡ end
      → MatchOption end (r ≡ (left, 0)) (λ e. r ≡ (e - q.separator - (c.start + c.removed), min q.separator (e - (c.start + c.removed))))
      → first (lengths ucd (drop (c.start + c.added) new)) ≡ record { body = r.0; separator = r.1 }
  rest_is None left r k e w =
      let n : q.number ≡ length ps = no_end ps (c.start + c.removed) q touched.last_is e in
      let all : total (take q.number ps) ≡ total ps = ap total (take_all q.number ps (omega (arith, n))) in
      let inside : c.start + c.removed ≤ length old = touched.is_change.old_range.stop_bounds.0 in
      let grown : length new + c.removed ≡ length old + c.added = touched.is_change.grown in
      rest_at (unended last) [] (last_whole q.number n) (inl (omega (arith, inside, all_bytes, touched.last_is.start, all)))
      ∙ same_lengths _ r.0 _ r.1 (omega (
        arith,
        k,
        ap (λ (i : ℕ × ℕ). i.0) w,
        grown,
        all_bytes,
        touched.last_is.start,
        touched.last_is.start_before,
        all,
        inside,
      ))
      (omega (arith, ap (λ (i : ℕ × ℕ). i.1) w))
  rest_is (Some end) left r k e w =
      let h = has_end ps (c.start + c.removed) q end touched.last_is e in
      let l : Lengths = get_or ps q.number nothing in
      let sum : end ≡ q.start + bytes_of l = omega (arith, h.end, total_more ps q.number nothing h.inside, touched.last_is.start) in
      rest_at l _ (sym touched.were ∙ parted_at ps (unended last) nothing q.number h.inside)
      (inr (omega (arith, sum, h.past, touched.last_is.start_before)))
      ∙ same_lengths _ r.0 _ r.1 (omega (arith, ap (λ (i : ℕ × ℕ). i.0) w, sum, touched.last_is.start_before, touched.last_is.separator_is))
      (omega (arith, ap (λ (i : ℕ × ℕ). i.1) w, sum, h.past, touched.last_is.start_before, touched.last_is.separator_is))

  pub range_is : (w : ScanRange) (left : ℕ) (r : ℕ × ℕ) → MatchOption p.end (w.start ≡ c.start) (λ e. w.start ≡ min c.start (e - p.separator))
      → w.stop ≡ c.start + c.added → w.body ≡ r.0 → w.separator ≡ r.1 → left ≡ length new - (c.start + c.added)
      → MatchOption q.end (r ≡ (left, 0)) (λ e. r ≡ (e - q.separator - (c.start + c.removed), min q.separator (e - (c.start + c.removed))))
      → IsScanRange ucd new p.start w
  range_is w left r a b d e f g =
      let k = from_is p.end w.start refl a in
      record {
        start_bounds = k.bounds;
        stop_bounds = subst (IsCharBoundary new) (sym b) touched.is_change.new_range.stop_bounds;
        start_before = k.start_before;
        goes_on = k.goes_on;
        behind = ap (λ s. first (lengths ucd (drop s new))) b ∙ rest_is q.end left r f refl g ∙ same_lengths r.0 w.body r.1 w.separator (sym d) (sym e);
      }
