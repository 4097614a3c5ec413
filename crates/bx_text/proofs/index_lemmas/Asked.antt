-- The answers of an index, by the lengths of the paragraphs.
use Rattle.std.proofs.Common.{◌≡◌, ◌<◌, ◌≤◌, ◌+◌, ◌-◌, ◌∙◌, ℕ, zero, suc, true, false, cond, nat_le, List, [], ◌∷◌, ◌++◌}
use Rattle.std.proofs.Common.{length, take, get_or, slice_get, count_by, Option, Some, None, refl, ap, sym, arith, length-append}
use Rattle.std.proofs.lemmas.Bool.Decides.{nat_tests}
use Rattle.std.proofs.lemmas.List.{get_or_append_left, take-append-le, take_all}
use Rattle.std.proofs.lemmas.List.Sums.{sum_by-cons}
use Rattle.std.proofs.Math.Seq.{get_or-append_seam, take-append_seam}
use Rattle.bx_text.specs.declared.index.lengths.Lengths.{Lengths}
use Rattle.bx_text.specs.declared.index.paragraph_span.ParagraphSpan.{ParagraphSpan}
use Rattle.bx_text.specs.index.Paragraphs.{bytes_of, total, spans_from, spans, paragraph_of}
use Rattle.bx_text.specs.index.Walk.{separators}
use Rattle.bx_text.specs.index.Flat.{IsSpanAround}
use Rattle.bx_text.proofs.index_lemmas.Followed.{has_end, no_end}
use Rattle.bx_text.proofs.index_lemmas.Totals.{total_more}

-- ---- the paragraph of an offset

module _ (offset : ℕ) where
  -- how many of some paragraphs begin at the offset or before it
  abbrev start_before : ℕ → List Lengths → ℕ
  start_before at ps = count_by (λ s. nat_le s.0 offset) (spans_from at ps)

  begun_cons : (at : ℕ) (p : Lengths) (ps : List Lengths) → start_before at (p ∷ ps) ≡ cond (nat_le at offset) 1 0 + start_before (at + bytes_of p) ps
  begun_cons at p ps = sum_by-cons (λ s. cond (nat_le s.0 offset) 1 0) (at, at + p.body) (spans_from (at + bytes_of p) ps)

  begun_first : (at : ℕ) (p : Lengths) (ps : List Lengths) → at ≤ offset → start_before at (p ∷ ps) ≡ 1 + start_before (at + bytes_of p) ps
  begun_first at p ps h = let e : nat_le at offset ≡ true = grind (arith, nat_tests) in begun_cons at p ps ∙ ap (λ b. cond b 1 0 + start_before
      (at + bytes_of p) ps) e

  none_begun : (at : ℕ) (ps : List Lengths) → offset < at → start_before at ps ≡ 0
  none_begun at [] h = refl
  none_begun at (p ∷ ps) h =
      let e : nat_le at offset ≡ false = grind (arith, nat_tests) in
      let more : start_before (at + bytes_of p) ps ≡ 0 = none_begun (at + bytes_of p) ps (omega arith) in
      begun_cons at p ps ∙ ap (λ b. cond b 1 0 + start_before (at + bytes_of p) ps) e ∙ omega (arith, more)

  next_past : (at n : ℕ) (p : Lengths) (ps : List Lengths) → offset < at + total (take (suc n + 1) (p ∷ ps))
      → offset < at + bytes_of p + total (take (n + 1) ps)
  next_past at n p ps h =
      let same : suc n + 1 ≡ suc (n + 1) = omega arith in
      let sum : total (take (suc n + 1) (p ∷ ps)) ≡ bytes_of p + total (take (n + 1) ps) = ap (λ k. total (take k (p ∷ ps))) same in
      omega (arith, h, sum)

  -- the paragraphs before number n end at the offset or before it, and where there is one of that number it ends past it
  begun_at : (at n : ℕ) (ps : List Lengths) (u : Lengths) → n ≤ length ps → at + total (take n ps) ≤ offset
      → (n < length ps → offset < at + total (take (n + 1) ps)) → start_before at (ps ++ u ∷ []) ≡ n + 1
  begun_at at zero [] u h b e = begun_first at u [] (omega arith)
  begun_at at (suc n) [] u h b e = absurd (omega arith)
  begun_at at zero (p ∷ ps) u h b e =
      let past : offset < at + total (p ∷ []) = e (omega arith) in
      let none : start_before (at + bytes_of p) (ps ++ u ∷ []) ≡ 0 = none_begun (at + bytes_of p) (ps ++ u ∷ []) (omega (arith, past)) in
      begun_first at p (ps ++ u ∷ []) (omega arith) ∙ omega (arith, none)
  begun_at at (suc n) (p ∷ ps) u h b e =
      let more : start_before (at + bytes_of p) (ps ++ u ∷ []) ≡ n + 1 =
      begun_at (at + bytes_of p) n ps u (omega arith) (omega arith)
      (λ l. let past : offset < at + total (take (suc n + 1) (p ∷ ps)) = e (omega arith) in next_past at n p ps past) in
      begun_first at p (ps ++ u ∷ []) (omega arith) ∙ omega (arith, more)

past_of : (ps : List Lengths) (offset : ℕ) (p : ParagraphSpan) (e : Option ℕ) → p.end ≡ e → IsSpanAround ps offset p → p.number < length ps
    → offset < total (take (p.number + 1) ps)
past_of ps offset p (Some e) k h l = let t = has_end ps offset p e h k in omega (arith, t.end, t.past)
past_of ps offset p None k h l = absurd (omega (arith, no_end ps offset p h k))

pub span_is : (ps : List Lengths) (u : Lengths) (offset : ℕ) (p : ParagraphSpan) → IsSpanAround ps offset p → p.number ≡ paragraph_of (ps ++ u ∷ []) offset
span_is ps u offset p h =
    let n : start_before offset 0 (ps ++ u ∷ []) ≡ p.number + 1 =
    begun_at offset 0 p.number ps u h.number (omega (arith, h.start, h.start_before)) (λ l. omega (arith, past_of ps offset p p.end refl h l)) in
    omega (arith, n)

-- ---- one paragraph

pub span_at : (at n : ℕ) (ps : List Lengths) (d : Lengths) → n < length ps
    → slice_get (spans_from at ps) n ≡ Some (at + total (take n ps), at + total (take n ps) + (get_or ps n d).body)
span_at at n [] d h = absurd (omega arith)
span_at at zero (p ∷ ps) d h = let same : at ≡ at + 0 = omega arith in ap (λ s. Some (s, s + p.body)) same
span_at at (suc n) (p ∷ ps) d h =
    let same : at + bytes_of p + total (take n ps) ≡ at + (bytes_of p + total (take n ps)) = omega arith in
    span_at (at + bytes_of p) n ps d (omega arith) ∙ ap (λ s. Some (s, s + (get_or ps n d).body)) same

-- one that ends, and the last
pub span_of : (ps : List Lengths) (u p : Lengths) (n start : ℕ) → n < length ps → start ≡ total (take n ps) → p ≡ get_or ps n p
    → slice_get (spans (ps ++ u ∷ [])) n ≡ Some (start, start + p.body)
span_of ps u p n start h e k =
    let front : total (take n (ps ++ u ∷ [])) ≡ start = ap total (take-append-le n ps (u ∷ []) (omega arith)) ∙ sym e in
    let here : get_or (ps ++ u ∷ []) n p ≡ p = get_or_append_left ps (u ∷ []) p n h ∙ sym k in
    let same : 0 + total (take n (ps ++ u ∷ [])) ≡ start = omega (arith, front) in
    span_at 0 n (ps ++ u ∷ []) p (omega (arith, length-append ps (u ∷ []))) ∙ ap (λ s. Some (s, s + (get_or (ps ++ u ∷ []) n p).body)) same
    ∙ ap (λ (q : Lengths). Some (start, start + q.body)) here

pub span_of_last : (ps : List Lengths) (u : Lengths) (n start : ℕ) → n ≡ length ps → start ≡ total ps
    → slice_get (spans (ps ++ u ∷ [])) n ≡ Some (start, start + u.body)
span_of_last ps u n start e s =
    let front : total (take n (ps ++ u ∷ [])) ≡ start = ap (λ k. total (take k (ps ++ u ∷ []))) e ∙ ap total (take-append_seam ps (u ∷ [])) ∙ sym s in
    let here : get_or (ps ++ u ∷ []) n u ≡ u = ap (λ k. get_or (ps ++ u ∷ []) k u) e ∙ get_or-append_seam ps u [] u in
    let same : 0 + total (take n (ps ++ u ∷ [])) ≡ start = omega (arith, front) in
    span_at 0 n (ps ++ u ∷ []) u (omega (arith, e, length-append ps (u ∷ []))) ∙ ap (λ k. Some (k, k + (get_or (ps ++ u ∷ []) n u).body)) same
    ∙ ap (λ (q : Lengths). Some (start, start + q.body)) here

-- the paragraph of an offset, by its position: one that ends, and the last
pub record EndedSpan (ps : List Lengths) (u : Lengths) (p : ParagraphSpan) (e : ℕ) : Type 0 where
  pub within : p.number < length (ps ++ u ∷ [])
  pub order : p.separator ≤ e
  pub span : slice_get (spans (ps ++ u ∷ [])) p.number ≡ Some (p.start, e - p.separator)

pub ended_span : (ps : List Lengths) (u : Lengths) (offset : ℕ) (p : ParagraphSpan) (e : ℕ) → IsSpanAround ps offset p → p.end ≡ Some e → EndedSpan ps u p e
ended_span ps u offset p e h k =
    let t = has_end ps offset p e h k in
    let inside : p.number < length ps = t.inside in
    let d : Lengths = record { body = 0; separator = 0 } in
    let q : Lengths = get_or ps p.number d in
    let sep : p.separator ≡ q.separator = h.separator_is in
    let sum : e ≡ p.start + (q.body + q.separator) = omega (arith, t.end, total_more ps p.number d inside, h.start) in
    let more : p.number < length (ps ++ u ∷ []) = omega (arith, inside, length-append ps (u ∷ [])) in
    let front : total (take p.number (ps ++ u ∷ [])) ≡ p.start = ap total (take-append-le p.number ps (u ∷ []) (omega (arith, inside))) ∙ sym h.start in
    let here : get_or (ps ++ u ∷ []) p.number d ≡ q = get_or_append_left ps (u ∷ []) d p.number inside in
    let same : 0 + total (take p.number (ps ++ u ∷ [])) ≡ p.start = omega (arith, front) in
    let stop : p.start + q.body ≡ e - p.separator = omega (arith, sum, sep) in
    record {
      within = more;
      order = omega (arith, sum, sep);
      span = span_at 0 p.number (ps ++ u ∷ []) d more ∙ ap (λ s. Some (s, s + (get_or (ps ++ u ∷ []) p.number d).body)) same
          ∙ ap (λ (r : Lengths). Some (p.start, p.start + r.body)) here ∙ ap (λ s. Some (p.start, s)) stop;
    }

pub last_span : (ps : List Lengths) (u : Lengths) (offset : ℕ) (p : ParagraphSpan) → IsSpanAround ps offset p → p.end ≡ None
    → slice_get (spans (ps ++ u ∷ [])) p.number ≡ Some (p.start, p.start + u.body)
last_span ps u offset p h k =
    let all : p.number ≡ length ps = no_end ps offset p h k in
    let start : p.start ≡ total ps = h.start ∙ ap total (take_all p.number ps (omega (arith, all))) in
    span_of_last ps u p.number p.start all start

pub separator_at : (ps : List Lengths) (n : ℕ) (d : Lengths) → n < length ps → slice_get (separators ps) n ≡ Some (get_or ps n d).separator
separator_at [] n d h = absurd (omega arith)
separator_at (p ∷ ps) zero d h = refl
separator_at (p ∷ ps) (suc n) d h = separator_at ps n d (omega arith)
