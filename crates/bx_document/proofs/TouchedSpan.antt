-- The start and end of the touched paragraphs, from the paragraph index.
use Rattle.std.proofs.Common.{◌≡◌, ℕ, ◌+◌, ◌-◌, ◌<◌, ◌≤◌, List, length, take, get_or, slice_get, Some, IsUtf8, IsCharBoundary, refl}
use Rattle.std.proofs.Common.{sym, ap, subst, ◌∙◌, arith}
use Rattle.std.proofs.lemmas.Option.{same_Some, some_pair_parts}
use Rattle.bx_ucd.specs.Data.{Data}
use Rattle.bx_text.specs.Changes.{IsRange}
use Rattle.bx_text.specs.declared.index.lengths.Lengths.{Lengths}
use Rattle.bx_text.specs.index.Paragraphs.{lengths, paragraph_of, spans, total}
use Rattle.bx_text.specs.index.Walk.{separators, WalkState}
use Rattle.bx_text.proofs.index_lemmas.Asked.{separator_at, span_at}
use Rattle.bx_text.proofs.index_lemmas.Totals.{total_more}
use Rattle.bx_view.specs.Numbers.{start_at}
use Rattle.bx_view.proofs.Numbers.{falls-at, lengths-count}
use Rattle.bx_document.specs.Touched.{touched_start, touched_stop}
use Rattle.bx_document.proofs.TouchedPlace.{back_is, front_is}

abbrev none : Lengths
none = record { body = 0; separator = 0 }

module _ (ucd : Data) (text : List ℕ) (ls : List Lengths) (utf8 : IsUtf8 text) (same : ls ≡ lengths ucd text) where
  -- there is a paragraph that an offset falls in
  pub there : (offset n : ℕ) → n ≡ paragraph_of ls offset → n < length ls
  there offset n e =
      let falls = falls-at ucd text offset n utf8 (e ∙ ap (λ ks. paragraph_of ks offset) same) in
      omega (arith, falls.within, lengths-count ucd text, ap length same)

  -- where it begins
  pub begin_of_span : (offset n : ℕ) (s : ℕ × ℕ) → n ≡ paragraph_of ls offset → slice_get (spans ls) n ≡ Some s
      → s.0 ≡ start_at ucd text (paragraph_of (lengths ucd text) offset)
  begin_of_span offset n (a, b) e f =
      let told = span_at 0 n ls none (there offset n e) in
      let both = some_pair_parts a (0 + total (take n ls)) b (0 + total (take n ls) + (get_or ls n none).body) (sym f ∙ told) in
      omega (arith, both.0) ∙ ap (λ k. total (take k ls)) e ∙ ap (λ ks. total (take (paragraph_of ks offset) ks)) same

  pub start_of_span : (start n : ℕ) (s : ℕ × ℕ) → n ≡ paragraph_of ls (start - 1) → slice_get (spans ls) n ≡ Some s → s.0 ≡ touched_start ucd text start
  start_of_span start n s e f = begin_of_span (start - 1) n s e f

  pub start_range : (start n : ℕ) (s : ℕ × ℕ) → n ≡ paragraph_of ls (start - 1) → slice_get (spans ls) n ≡ Some s → IsCharBoundary text start
      → IsRange text (s.0) start
  start_range start n s e f bounds =
      let front = front_is ucd text utf8 start in
      subst (λ a. IsRange text a start) (sym (start_of_span start n s e f))
      (record { start_bounds = front.bounds; stop_bounds = bounds; in_order = front.order })

  pub stop_of_span : (stop n : ℕ) (s : ℕ × ℕ) (k : ℕ) → n ≡ paragraph_of ls stop → slice_get (spans ls) n ≡ Some s → slice_get (separators ls) n ≡ Some k
      → s.1 + k ≡ touched_stop ucd text stop
  stop_of_span stop n (a, b) k e f g =
      let within = there stop n e in
      let told = span_at 0 n ls none within in
      let both = some_pair_parts a (0 + total (take n ls)) b (0 + total (take n ls) + (get_or ls n none).body) (sym f ∙ told) in
      let behind : k ≡ (get_or ls n none).separator = same_Some k (get_or ls n none).separator (sym g ∙ separator_at ls n none within) in
      omega (arith, both.1, behind, total_more ls n none within) ∙ ap (λ m. total (take (m + 1) ls)) e
      ∙ ap (λ ks. total (take (paragraph_of ks stop + 1) ks)) same

  -- a walk that begins at the paragraph of an offset
  abbrev pub walk_at : ℕ → WalkState
  walk_at offset = record { paragraphs = ls; number = paragraph_of ls offset }

  pub span_of_walk : (offset : ℕ) (w : WalkState) (s : ℕ × ℕ) → w ≡ walk_at offset → slice_get (spans w.paragraphs) w.number ≡ Some s
      → slice_get (spans ls) (paragraph_of ls offset) ≡ Some s
  span_of_walk offset w s e f = subst (λ (v : WalkState). slice_get (spans v.paragraphs) v.number ≡ Some s) e f

  pub stop_of_walk : (stop : ℕ) (w : WalkState) (s : ℕ × ℕ) (k : ℕ) → w ≡ walk_at stop → slice_get (spans w.paragraphs) w.number ≡ Some s
      → slice_get (separators w.paragraphs) w.number ≡ Some k → s.1 + k ≡ touched_stop ucd text stop
  stop_of_walk stop w s k e f g =
      stop_of_span stop (paragraph_of ls stop) s k refl (span_of_walk stop w s e f)
      (subst (λ (v : WalkState). slice_get (separators v.paragraphs) v.number ≡ Some k) e g)

  pub stop_range : (stop : ℕ) → IsCharBoundary text stop → IsRange text stop (touched_stop ucd text stop)
  stop_range stop bounds =
      let back = back_is ucd text utf8 stop bounds.0 in record { start_bounds = bounds; stop_bounds = back.bounds; in_order = back.reached }

  pub stop_inside : (stop : ℕ) → IsCharBoundary text stop → touched_stop ucd text stop ≤ length text
  stop_inside stop bounds =
      let range : IsRange text stop (touched_stop ucd text stop) = stop_range stop bounds in
      let last : IsCharBoundary text (touched_stop ucd text stop) = range.stop_bounds in last.0
