-- The numbers of a place are few: before it are as many bytes as paragraphs and units, or more.
use Rattle.std.proofs.Common.{◌≡◌, ℕ, ◌+◌, ◌<◌, ◌≤◌, true, List, [], ◌∷◌, length, length-append, map, get_or, nat_lt, IsUtf8, IsCharBoundary, refl, ap, subst, arith}
use Rattle.std.specs.List.{concat}
use Rattle.std.proofs.lemmas.List.{get_or-map, length-take-le}
use Rattle.std.proofs.lemmas.List.Sums.{count_by-le-length}
use Rattle.unicode_segmentation.specs.Grapheme.{graphemes, is_grapheme_break}
use Rattle.unicode_segmentation.specs.Segments.{with_offsets}
use Rattle.unicode_segmentation.proofs.SegmentsLemmas.{AllPieces, concat-segments, segments_nonempty}
use Rattle.bx_ucd.specs.Data.{Data}
use Rattle.bx_text.specs.index.Paragraphs.{Paragraph, bare, lengths, lengths_of, paragraphs, paragraph_of, spans, total}
use Rattle.bx_view.specs.Numbers.{paragraph_number, unit_number, units_before, body_at, count, start_at}
use Rattle.bx_view.proofs.Numbers.{ahead, behind, body-range, body-utf8, falls-at, here, parts-at, start-is}
use Rattle.bx_view.proofs.Parts.{AreEnded, text-parts}
use Rattle.bx_view.proofs.RowsAround.{AllEnded, ahead-ended}

ended-long : (ps : List Paragraph) → AllEnded ps → length ps ≤ total (map lengths_of ps)
ended-long [] h = omega arith
ended-long (p ∷ ps) h = omega (arith, h.0, ended-long ps h.1)

offsets-length : (at : ℕ) (gs : List (List ℕ)) → length (with_offsets at gs) ≡ length gs
unfolding with_offsets
offsets-length at [] = refl
offsets-length at (g ∷ gs) = let rest : length (with_offsets (at + length g) gs) ≡ length gs = offsets-length (at + length g) gs in omega (arith, rest)

pieces-long : (gs : List (List ℕ)) → AllPieces (λ p. 0 < length p) gs → length gs ≤ length (concat gs)
pieces-long [] h = omega arith
pieces-long (g ∷ gs) h = omega (arith, h.0, pieces-long gs h.1, length-append g (concat gs))

few-units : (start place : ℕ) (body : List ℕ) → IsUtf8 body → units_before start place body ≤ length body
few-units start place body utf8 =
    let gs = graphemes true body in
    omega (
      arith,
      count_by-le-length (λ (at, _). nat_lt (start + at) place) (with_offsets 0 gs),
      offsets-length 0 gs,
      pieces-long gs (segments_nonempty (is_grapheme_break true) body),
      ap length (concat-segments (is_grapheme_break true) body utf8),
    )

pub few-numbers : (ucd : Data) (text : List ℕ) (place : ℕ) → IsUtf8 text → paragraph_number ucd text place + unit_number ucd text place ≤ length text + 1
few-numbers ucd text place utf8 =
    let n = paragraph_of (lengths ucd text) place in
    let falls = falls-at ucd text place n utf8 refl in
    let body : get_or (map (λ p. p.body) (paragraphs ucd text)) n [] ≡ body_at ucd text n =
    get_or-map (λ p. p.body) (paragraphs ucd text) n (bare []) [] falls.within in
    let start = (get_or (spans (lengths ucd text)) n (0, 0)).0 in
    let units : unit_number ucd text place ≡ units_before start place (body_at ucd text n) + 1 = ap (λ b. units_before start place b + 1) body in
    let ended : AllEnded (ahead ucd text n falls.within) =
    ahead-ended (ahead ucd text n falls.within) (here ucd text n falls.within) (behind ucd text n falls.within)
    (subst AreEnded (parts-at ucd text n falls.within) (text-parts ucd text utf8).ended) in
    let range = body-range ucd text n falls.within utf8 in
    let bounds : IsCharBoundary text (start_at ucd text n + length (body_at ucd text n)) = range.stop_bounds in
    let within : n ≤ count ucd text = omega (arith, falls.within) in
    omega (
      arith,
      units,
      few-units start place (body_at ucd text n) (body-utf8 ucd text n falls.within utf8),
      ended-long (ahead ucd text n falls.within) ended,
      length-take-le n (paragraphs ucd text) within,
      start-is ucd text n,
      bounds.0,
    )
