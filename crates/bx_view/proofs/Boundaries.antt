-- Places of a text are character boundaries, and so is each place that a call returns.
use Rattle.std.proofs.Common.{◌≡◌, ℕ, suc, ◌+◌, ◌<◌, ◌≤◌, List, [], ◌∷◌, ◌++◌, map, length, drop}
use Rattle.std.proofs.Common.{get_or, IsUtf8, IsCharBoundary, refl, sym, ap, subst, ◌∙◌}
use Rattle.std.proofs.Common.{arith, append_assoc, length-append}
use Rattle.std.proofs.lemmas.List.{drop_at, drop-append-le, length-map}
use Rattle.std.proofs.lemmas.List.Concat.{flat_map-cons}
use Rattle.std.proofs.lemmas.List.Elements.{All-append, All-cons, All-head, All-nil, All-tail}
use Rattle.std.proofs.lemmas.Str.{IsCharBoundary-from_drop, IsCharBoundary-from_rest, IsCharBoundary-end, IsCharBoundary-start, IsUtf8-append, IsUtf8-drop}
use Rattle.std.specs.Prelude.{All}
use Rattle.bx_ucd.specs.Data.{Data}
use Rattle.bx_common.specs.declared.base.Base.{Base}
use Rattle.bx_text.specs.index.Paragraphs.{Paragraph, lengths_of, paragraphs, bytes_of}
use Rattle.bx_paragraph.specs.BodyRows.{BodyRow, no_row, offsets_of}
use Rattle.bx_view.specs.TextRows.{TextRow, first, places, places_of, text_row, text_rows}
use Rattle.bx_view.specs.Laws.{MovesKeep}
use Rattle.bx_view.proofs.RowsAround.{from, own}
use Rattle.bx_view.proofs.KeptMoves.{moves-keep}
use Rattle.bx_view.proofs.Numbers.{bytes-utf8}
use Rattle.bx_view.proofs.Parts.{AreUtf8, bytes, text-bytes, text-parts}
use Rattle.bx_view.proofs.Rising.{rank-few}
use Rattle.bx_view.proofs.StopPlaces.{ends-lie}
use Rattle.bx_view.proofs.Walking.{text-rank}
use Rattle.bx_view.proofs.Within.{LiesIn, Within, body-row-lies, within-append}

-- ---- a property of all rows

all-moved : (Q : TextRow → Type 0) (start : ℕ) (rs : List BodyRow) → ((k : ℕ) → k < length rs → Q (text_row start (get_or rs k no_row)))
    → All Q (map (text_row start) rs)
all-moved Q start [] h = All-nil Q
all-moved Q start (r ∷ rs) h = All-cons Q (text_row start r) (map (text_row start) rs) (h 0 (omega arith))
    (all-moved Q start rs (λ k within. h (suc k) (omega (arith, within))))

-- ---- boundaries of a part of a text

-- a boundary of a part is one of the text
bound-within : (front body rest : List ℕ) (o : ℕ) → IsUtf8 body → IsUtf8 rest → IsCharBoundary body o
    → IsCharBoundary (front ++ (body ++ rest)) (length front + o)
bound-within front body rest o u v b =
    let inside : o ≤ length body = b.0 in
    let whole : drop (length front) (front ++ (body ++ rest)) ≡ body ++ rest = drop_at front (body ++ rest) (length front) refl in
    let left : drop o (body ++ rest) ≡ drop o body ++ rest = drop-append-le o body rest inside in
    let here : IsCharBoundary (body ++ rest) o =
    IsCharBoundary-from_drop (body ++ rest) o (omega (arith, inside, length-append body rest))
    (subst IsUtf8 (sym left) (IsUtf8-append (drop o body) rest (IsUtf8-drop body o u b) v)) in
    IsCharBoundary-from_rest (front ++ (body ++ rest)) (length front) o (omega (arith, length-append front (body ++ rest)))
    (subst (λ bs. IsCharBoundary bs o) (sym whole) here)

-- the offsets of a row's places are boundaries
abbrev pub IsBound : List ℕ → ℕ → TextRow → Type 0
IsBound text w r = LiesIn (λ o. IsCharBoundary text (r.start + o)) w r.row

moved-in : (P : ℕ → Type 0) (start : ℕ) (os : List ℕ) → Within (λ o. P (start + o)) os → Within P (map (λ o. start + o) os)
moved-in P start [] a = tt
moved-in P start (o ∷ os) a = (a.0, moved-in P start os a.1)

module _ (ucd : Data) (base : Base) (w : ℕ) where
  module _ (text : List ℕ) where
    bound-from : (front : List ℕ) (ps : List Paragraph) → text ≡ front ++ bytes ps → AreUtf8 ps
        → All (IsBound text w) (from ucd base w (length front) ps)
    bound-from front [] e u = All-nil (IsBound text w)
    bound-from front (p ∷ ps) e u =
        let rest = p.separator ++ bytes ps in
        let whole : text ≡ front ++ (p.body ++ rest) = e ∙ ap (λ b. front ++ b) (append_assoc p.body p.separator (bytes ps)) in
        let further : text ≡ (front ++ (p.body ++ p.separator)) ++ bytes ps = e ∙ sym (append_assoc front (p.body ++ p.separator) (bytes ps)) in
        let size : length (front ++ (p.body ++ p.separator)) ≡ length front + bytes_of (lengths_of p) =
        omega (arith, length-append front (p.body ++ p.separator), length-append p.body p.separator) in
        let rest-is : IsUtf8 rest = IsUtf8-append p.separator (bytes ps) u.0.separator (bytes-utf8 ps u.1) in
        All-append (IsBound text w) (map (text_row (length front)) (own ucd base w p))
        (from ucd base w (length front + bytes_of (lengths_of p)) ps)
        (all-moved (IsBound text w) (length front) (own ucd base w p) (λ k within.
        body-row-lies (λ o. IsCharBoundary text (length front + o)) ucd base w p.body k u.0.body
        (λ o b. subst (λ bs. IsCharBoundary bs (length front + o)) (sym whole) (bound-within front p.body rest o u.0.body rest-is b)) within))
        (subst (λ s. All (IsBound text w) (from ucd base w s ps)) size
        (bound-from (front ++ (p.body ++ p.separator)) ps further u.1))

  module _ (some : 1 ≤ w) (text : List ℕ) (utf8 : IsUtf8 text) where
    abbrev rows : List TextRow
    rows = text_rows ucd base w text

    abbrev Bound : ℕ → Type 0
    Bound o = IsCharBoundary text o

    rows-bound : All (IsBound text w) rows
    rows-bound = bound-from text [] (paragraphs ucd text) (sym (text-bytes ucd text utf8)) (text-parts ucd text utf8).utf8

    places-bound-of : (rs : List TextRow) → All (IsBound text w) rs → Within Bound (places rs)
    places-bound-of [] a = tt
    places-bound-of (r ∷ rs) a =
        let here : IsBound text w r = All-head (IsBound text w) r rs a in
        subst (Within Bound) (sym (flat_map-cons places_of r rs))
        (within-append Bound (places_of r) (places rs) (moved-in Bound r.start (offsets_of r.row) here.places)
        (places-bound-of rs (All-tail (IsBound text w) r rs a)))

    -- each place of the text
    pub places-bound : Within Bound (places rows)
    places-bound = places-bound-of rows rows-bound

    some-row : 0 < length rows
    some-row = omega (arith, text-rank ucd base w some text utf8 0, rank-few 0 (map first rows), length-map rows first)

    -- and where each move leads to
    pub bounds-kept : MovesKeep ucd text w rows Bound
    bounds-kept =
        moves-keep ucd text w rows Bound rows-bound places-bound some-row
        (ends-lie ucd base w some Bound text utf8 places-bound (IsCharBoundary-start text utf8) (IsCharBoundary-end text))
