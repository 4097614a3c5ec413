-- The line of an offset, from the paragraph index.
use Rattle.std.proofs.Common.{◌≡◌, ℕ, List, Some, IsUtf8, IsCharBoundary, refl, sym, ap₂, subst, slice_get, arith}
use Rattle.bx_ucd.specs.Data.{Data}
use Rattle.bx_text.specs.Changes.{IsRange}
use Rattle.bx_text.specs.declared.index.lengths.Lengths.{Lengths}
use Rattle.bx_text.specs.index.Paragraphs.{lengths, paragraph_of, spans}
use Rattle.bx_view.specs.Numbers.{start_at}
use Rattle.bx_view.proofs.Begins.{begin_at}
use Rattle.bx_view.proofs.Numbers.{falls-at}
use Rattle.bx_document.specs.Line.{line_of}
use Rattle.bx_document.specs.Touched.{touched_stop}
use Rattle.bx_document.proofs.TouchedSpan.{begin_of_span, stop_range}

module _ (ucd : Data) (text : List ℕ) (ls : List Lengths) (utf8 : IsUtf8 text) (same : ls ≡ lengths ucd text) where
  pub line_of_span : (offset n : ℕ) (s : ℕ × ℕ) (stop : ℕ) → n ≡ paragraph_of ls offset → slice_get (spans ls) n ≡ Some s
      → stop ≡ touched_stop ucd text offset → (s.0, stop) ≡ line_of ucd text offset
  line_of_span offset n s stop e f is = ap₂ (λ (a b : ℕ). (a, b)) (begin_of_span ucd text ls utf8 same offset n s e f) is

  pub line_range : (offset n : ℕ) (s : ℕ × ℕ) (stop : ℕ) → n ≡ paragraph_of ls offset → slice_get (spans ls) n ≡ Some s
      → stop ≡ touched_stop ucd text offset → IsCharBoundary text offset → IsRange text (s.0) stop
  line_range offset n s stop e f is bounds =
      let falls = falls-at ucd text offset (paragraph_of (lengths ucd text) offset) utf8 refl in
      let begin = begin_at ucd text utf8 (paragraph_of (lengths ucd text) offset) falls.within in
      let behind : IsRange text offset (touched_stop ucd text offset) = stop_range ucd text ls utf8 same offset bounds in
      let line : IsRange text (start_at ucd text (paragraph_of (lengths ucd text) offset)) (touched_stop ucd text offset) = record {
        start_bounds = begin.bounds;
        stop_bounds = behind.stop_bounds;
        in_order = omega (arith, falls.order, behind.in_order);
      } in
      let whole : IsRange text (s.0) (touched_stop ucd text offset) =
      subst (λ a. IsRange text a (touched_stop ucd text offset)) (sym (begin_of_span ucd text ls utf8 same offset n s e f)) line in
      subst (IsRange text (s.0)) (sym is) whole
