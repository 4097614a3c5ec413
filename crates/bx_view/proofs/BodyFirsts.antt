-- The first row of a body begins at the body's start, the others at later units.
use Rattle.std.proofs.Common.{◌≡◌, ℕ, zero, suc, ◌+◌, ◌-◌, ◌<◌, ◌≤◌, Bool, true, List, [], ◌∷◌, map, length, drop, IsUtf8, refl}
use Rattle.std.proofs.Common.{sym, ap, subst, ◌∙◌, arith, length-append, drop-drop}
use Rattle.std.specs.List.{concat}
use Rattle.bx_ucd.specs.Data.{Data}
use Rattle.unicode_segmentation.specs.Grapheme.{graphemes, is_grapheme_break}
use Rattle.unicode_segmentation.specs.Segments.{with_offsets}
use Rattle.unicode_segmentation.proofs.SegmentsLemmas.{AllPieces, concat-segments, segments_nonempty}
use Rattle.bx_common.specs.declared.base.Base.{Base}
use Rattle.bx_rows.specs.declared.cells.unit.Unit.{Unit}
use Rattle.bx_rows.specs.cells.Units.{unit_at, units}
use Rattle.bx_rows.specs.declared.wrapping.Row.{Row}
use Rattle.bx_rows.specs.RowStarts.{first_offset, start_of}
use Rattle.bx_rows.specs.Wrapping.{is_break, row_len, rows_from, rows_of}
use Rattle.bx_paragraph.specs.BodyRows.{body_rows}
use Rattle.bx_paragraph.proofs.Starts.{firsts}
use Rattle.bx_view.proofs.RowsAround.{BodyFirsts}
use Rattle.bx_view.proofs.Rising.{Rises, rises-further, rises-sooner}

-- ---- where units begin

abbrev pub starts_of : List Unit → List ℕ
starts_of us = map (λ u. u.start) us

units-rise : (ucd : Data) (w at : ℕ) (gs : List (List ℕ)) → AllPieces (λ g. 0 < length g) gs
    → Rises at (starts_of (map (unit_at ucd w) (with_offsets at gs))) (at + length (concat gs))
unfolding with_offsets
units-rise ucd w at [] h = omega arith
units-rise ucd w at (g ∷ gs) h =
    let more = starts_of (map (unit_at ucd w) (with_offsets (at + length g) gs)) in
    let same : at + length g + length (concat gs) ≡ at + length (concat (g ∷ gs)) = omega (arith, length-append g (concat gs)) in (
      omega arith,
      rises-sooner (at + 1) (at + length g) more (at + length (concat (g ∷ gs))) (omega (arith, h.0))
          (subst (Rises (at + length g) more) same (units-rise ucd w (at + length g) gs h.1)),
    )

-- ---- where the rows begin

abbrev offsets : List ℕ → List Unit → List Row → List ℕ
offsets body all rs = map (λ s. s.offset) (map (start_of body all) rs)

pub next-units : (i : ℕ) (u : Unit) (us all : List Unit) → drop i all ≡ u ∷ us → drop (suc i) all ≡ us
next-units i u us all e =
    let one : i + 1 ≡ suc i = omega arith in ap (λ n. drop n all) (sym one) ∙ sym (drop-drop 1 i all) ∙ ap (drop 1) e

-- rows begin at some of the units
rows-rise : (p : Unit → Bool) (w i k low high : ℕ) (body : List ℕ) (us all : List Unit) → drop i all ≡ us → Rises low (starts_of us) high
    → Rises low (offsets body all (rows_from p w i k us)) high
rows-rise p w i k low high body [] all e r = r
rows-rise p w i (suc k) low high body (u ∷ us) all e r =
    rises-sooner low (u.start + 1) (offsets body all (rows_from p w (suc i) k us)) high (omega (arith, r.0))
    (rows-rise p w (suc i) k (u.start + 1) high body us all (next-units i u us all e) r.1)
rows-rise p w i zero low high body (u ∷ us) all e r =
    let n = row_len p w (u ∷ us) in
    let rest = offsets body all (rows_from p w (suc i) (n - 1) us) in
    let here : first_offset (drop i all) ≡ u.start = ap first_offset e in
    subst (λ o. Rises low (o ∷ rest) high) (sym here) (r.0, rows-rise p w (suc i) (n - 1) (u.start + 1) high body us all (next-units i u us all e) r.1)

-- a body's first row begins at its begin, the others further on in it
rows-of-rise : (p : Unit → Bool) (w high : ℕ) (body : List ℕ) (us : List Unit) → 1 ≤ high → Rises 0 (starts_of us) high → first_offset us ≡ 0
    → (os : List ℕ) × (offsets body us (rows_of p w us) ≡ 0 ∷ os) × Rises 1 os high
rows-of-rise p w high body [] h r e = ([], refl, h)
rows-of-rise p w high body (u ∷ us) h r e =
    let n = row_len p w (u ∷ us) in
    let rest = offsets body (u ∷ us) (rows_from p w 1 (n - 1) us) in
    let one : u.start + 1 ≡ 1 = omega (arith, e) in
    (rest, ap (λ o. o ∷ rest) e, subst (λ o. Rises o rest high) one (rows-rise p w 1 (n - 1) (u.start + 1) high body us (u ∷ us) refl r.1))

first-unit : (ucd : Data) (w : ℕ) (gs : List (List ℕ)) → first_offset (map (unit_at ucd w) (with_offsets 0 gs)) ≡ 0
unfolding with_offsets
first-unit ucd w [] = refl
first-unit ucd w (g ∷ gs) = refl

-- a body's units begin before its end
pub units-before : (ucd : Data) (w : ℕ) (body : List ℕ) → IsUtf8 body → Rises 0 (starts_of (units ucd w body)) (length body)
units-before ucd w body utf8 =
    let gs = graphemes true body in
    let size : 0 + length (concat gs) ≡ length body = omega (arith, ap length (concat-segments (is_grapheme_break true) body utf8)) in
    subst (Rises 0 (starts_of (units ucd w body))) size (units-rise ucd w 0 gs (segments_nonempty (is_grapheme_break true) body))

pub units-in : (ucd : Data) (w : ℕ) (body : List ℕ) → IsUtf8 body → Rises 0 (starts_of (units ucd w body)) (length body + 1)
units-in ucd w body utf8 =
    rises-further 0 (starts_of (units ucd w body)) (length body) (length body + 1) (omega arith) (units-before ucd w body utf8)

-- a body of no units has no bytes
units-none : (ucd : Data) (w : ℕ) (gs : List (List ℕ)) → length (map (unit_at ucd w) (with_offsets 0 gs)) ≡ 0 → length (concat gs) ≡ 0
unfolding with_offsets
units-none ucd w [] e = refl
units-none ucd w (g ∷ gs) e = absurd (omega (arith, e))

pub none-in : (ucd : Data) (w : ℕ) (body : List ℕ) → IsUtf8 body → length (units ucd w body) ≡ 0 → length body ≡ 0
none-in ucd w body utf8 e =
    let gs = graphemes true body in
    omega (arith, ap length (concat-segments (is_grapheme_break true) body utf8), units-none ucd w gs e)

pub body-firsts : (ucd : Data) (base : Base) (w : ℕ) → 1 ≤ w → (body : List ℕ) → IsUtf8 body
    → BodyFirsts body (body_rows ucd base w body)
body-firsts ucd base w side body utf8 =
    let us = units ucd w body in
    let gs = graphemes true body in
    let rise : Rises 0 (starts_of us) (length body + 1) = units-in ucd w body utf8 in
    let (os, e, r) = rows-of-rise (is_break ucd body) w (length body + 1) body us (omega arith) rise (first-unit ucd w gs) in
    record { others = os; firsts = firsts ucd base w body side ∙ e; rise = r }
