-- Units begin and end between characters, and show the faces of their texts.
use Rattle.std.proofs.Common.{◌≡◌, ℕ, ◌+◌, ◌-◌, true, List, [], ◌∷◌, length, take, drop, map, slice_range, IsUtf8, All, refl, sym, ap, ◌∙◌, arith}
use Rattle.std.specs.Str.{IsCharBoundary}
use Rattle.std.proofs.lemmas.List.{take_at}
use Rattle.std.proofs.lemmas.List.Elements.{All-nil, All-cons, All-map, All-weaker, All-same, All-take}
use Rattle.std.proofs.lemmas.Str.{IsUtf8-drop}
use Rattle.bx_ucd.specs.Data.{Data}
use Rattle.unicode_segmentation.specs.Grapheme.{graphemes, is_grapheme_break}
use Rattle.unicode_segmentation.specs.Segments.{with_offsets}
use Rattle.unicode_segmentation.proofs.SegmentsLemmas.{IsPieceOf, All-IsPieceOf}
use Rattle.bx_rows.specs.declared.cells.unit.Unit.{Unit}
use Rattle.bx_rows.specs.cells.Units.{face, units, unit_at}
use Rattle.bx_rows.specs.cells.UnitFacts.{units_from, StandsIn, HasFace}
use Rattle.bx_rows.proofs.cells_lemmas.Rest.{next-cluster, first-cluster}

pub stand-units : (ucd : Data) (w : ℕ) (body : List ℕ) → IsUtf8 body → All (StandsIn body) (units ucd w body)
stand-units ucd w body u =
    All-map (StandsIn body) (unit_at ucd w) (with_offsets 0 (graphemes true body))
    (All-weaker (IsPieceOf body) (λ x. StandsIn body (unit_at ucd w x)) (λ x p. (omega arith, p.start, p.end)) _
    (All-IsPieceOf (is_grapheme_break true) body u))

pub stand_if_units : (ucd : Data) (w : ℕ) (body : List ℕ) (us : List Unit) → IsUtf8 body → us ≡ units ucd w body → All (StandsIn body) us
stand_if_units ucd w body us u e = All-same (StandsIn body) us (units ucd w body) e (stand-units ucd w body u)

pub faces-units : (ucd : Data) (w : ℕ) (body : List ℕ) → IsUtf8 body → All (HasFace ucd w body) (units ucd w body)
faces-units ucd w body u =
    All-map (HasFace ucd w body) (unit_at ucd w) (with_offsets 0 (graphemes true body))
    (All-weaker (IsPieceOf body) (λ x. HasFace ucd w body (unit_at ucd w x)) (λ x p. ap (face ucd w) p.bytes) _
    (All-IsPieceOf (is_grapheme_break true) body u))

-- ---- the units from an offset on

-- the bytes of the first cluster of the rest
first-bytes : (body : List ℕ) (at : ℕ) (p : List ℕ) (ps : List (List ℕ)) → IsUtf8 body → IsCharBoundary body at → graphemes true (drop at body) ≡ p ∷ ps
    → p ≡ slice_range body at (at + length p)
first-bytes body at p ps u b e =
    let f = first-cluster (drop at body) p ps (IsUtf8-drop body at u b) e in
    let len : (at + length p) - at ≡ length p = omega arith in
    sym (ap (take (length p)) f.bytes ∙ take_at p (drop (length p) (drop at body)) (length p) refl) ∙ ap (λ n. take n (drop at body)) (sym len)

-- a property of the unit of each cluster at its offset holds of all units from an offset on
all-from : (P : Unit → Type 0) (ucd : Data) (w : ℕ) (body : List ℕ) → IsUtf8 body
    → ((at : ℕ) (p : List ℕ) → IsCharBoundary body at → IsCharBoundary body (at + length p) → p ≡ slice_range body at (at + length p)
    → P (unit_at ucd w (at, p)))
    → (ps : List (List ℕ)) (at : ℕ) → IsCharBoundary body at → graphemes true (drop at body) ≡ ps → All P (map (unit_at ucd w) (with_offsets at ps))
unfolding with_offsets
all-from P ucd w body u each [] at b e = All-nil P
all-from P ucd w body u each (p ∷ ps) at b e =
    let n = next-cluster ucd w body at p ps u b e in
    All-cons P (unit_at ucd w (at, p)) (map (unit_at ucd w) (with_offsets (at + length p) ps)) (each at p b n.boundary (first-bytes body at p ps u b e))
    (all-from P ucd w body u each ps (at + length p) n.boundary (sym n.own))

pub stand_if_taken : (ucd : Data) (w n : ℕ) (body : List ℕ) (at : ℕ) (us : List Unit) → IsUtf8 body → IsCharBoundary body at
    → us ≡ take n (units_from ucd w body at) → All (StandsIn body) us
stand_if_taken ucd w n body at us u b e =
    All-same (StandsIn body) us (take n (units_from ucd w body at)) e (All-take (StandsIn body) n (units_from ucd w body at)
    (all-from (StandsIn body) ucd w body u (λ i p begins ends bytes. (omega arith, begins, ends)) (graphemes true (drop at body)) at b refl))

pub faces_if_taken : (ucd : Data) (w n : ℕ) (body : List ℕ) (at : ℕ) (us : List Unit) → IsUtf8 body → IsCharBoundary body at
    → us ≡ take n (units_from ucd w body at) → All (HasFace ucd w body) us
faces_if_taken ucd w n body at us u b e =
    All-same (HasFace ucd w body) us (take n (units_from ucd w body at)) e (All-take (HasFace ucd w body) n (units_from ucd w body at)
    (all-from (HasFace ucd w body) ucd w body u (λ i p begins ends bytes. ap (face ucd w) bytes) (graphemes true (drop at body)) at b refl))
