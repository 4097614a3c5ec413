-- Where the rows of a body, and their units and characters, stand in it.
use Rattle.std.proofs.Common.{◌≡◌, ℕ, zero, suc, ◌+◌, ◌-◌, ◌<◌, ◌≤◌, List, [], ◌∷◌, ◌++◌, length, get_or, take, drop, chars, encode_utf8, refl, sym, subst, ap, ap₂, ◌∙◌, arith}
use Rattle.std.specs.Prelude.{Option, slice_get}
use Rattle.std.specs.List.{slice_range}
use Rattle.std.specs.Str.{IsCharBoundary, IsUtf8}
use Rattle.std.proofs.Math.Seq.{take-append_seam, drop-append_seam}
use Rattle.std.proofs.lemmas.List.{drop-drop, length-drop, length-take-le}
use Rattle.std.proofs.lemmas.Option.{slice_get-get_or}
use Rattle.std.proofs.lemmas.Str.{IsCharBoundary-past_char, IsUtf8-between, IsUtf8-drop, length-encode}
use Rattle.bx_ucd.specs.Data.{Data}
use Rattle.bx_rows.specs.declared.cells.unit.Face.{Face}
use Rattle.bx_rows.specs.declared.cells.unit.Unit.{Unit}
use Rattle.bx_rows.specs.cells.Units.{unit_text, units}
use Rattle.bx_rows.specs.cells.UnitFacts.{StandsIn}
use Rattle.bx_rows.specs.joining.Joining.{text_forms}
use Rattle.bx_rows.specs.joining.Places.{StandsAt}
use Rattle.bx_rows.specs.declared.joining.forms.TextAt.{TextAt}
use Rattle.bx_rows.specs.declared.wrapping.Row.{Row}
use Rattle.bx_rows.specs.declared.start_search.RowStart.{RowStart}
use Rattle.bx_rows.specs.RowStarts.{row_starts, start_of}
use Rattle.bx_rows.specs.RowStarts.{StartsRow}
use Rattle.bx_rows.specs.RowPicture.{face_glyphs, unit_forms, unit_glyphs}
use Rattle.bx_rows.specs.UnitPlaces.{IsNear}
use Rattle.bx_rows.specs.Wrapping.{wrap}
use Rattle.bx_rows.proofs.EachRow.{found-row, part-at}
use Rattle.bx_rows.proofs.Pieces.{piece-at}
use Rattle.bx_rows.proofs.RowUnits.{chars-behind}
use Rattle.bx_rows.proofs.Wraps.{no_unit}
use Rattle.unicode_segmentation.proofs.TextLemmas.{chars-encode_utf8}

-- ---- rows

start-counts : (body : List ℕ) (us : List Unit) (s : RowStart) (r : Row) → start_of body us r ≡ s → s.chars ≡ length (chars (take s.offset body))
start-counts body us s r e = subst (λ x. x.chars ≡ length (chars (take x.offset body))) e refl

-- a row's start, as it was found
pub starts-row : (ucd : Data) (w : ℕ) (body : List ℕ) (starts : List RowStart) (k : ℕ) (d : RowStart) → starts ≡ row_starts ucd w body
    → k < length starts → IsCharBoundary body (get_or starts k d).offset → StartsRow body (get_or starts k d)
starts-row ucd w body starts k d e within boundary =
    let us = units ucd w body in
    let at = ap (λ x. slice_get x k) (sym e) ∙ slice_get-get_or starts k d within in
    let found = found-row (start_of body us) (wrap ucd w body us) k (get_or starts k d) at in
    record { boundary = boundary; chars = start-counts body us (get_or starts k d) found.0 found.2 }

-- a row of a body by its number
pub starts-at : (ucd : Data) (w : ℕ) (body : List ℕ) (starts : List RowStart) (k : ℕ) (d : RowStart) → IsUtf8 body → starts ≡ row_starts ucd w body
    → k < length starts → StartsRow body (get_or starts k d)
starts-at ucd w body starts k d u e within =
    starts-row ucd w body starts k d e within (part-at ucd w body starts k d (slice_get starts (k + 1)) u e within refl).boundary

-- ---- characters

-- a character of a body at an offset
pub record IsCharAt (body : List ℕ) (at c : ℕ) (behind : List ℕ) : Type 0 where
  pub next : IsCharBoundary body (at + length (encode_utf8 c))
  pub alone : chars (encode_utf8 c) ≡ c ∷ []
  pub counted : length (chars (take (at + length (encode_utf8 c)) body)) ≡ length (chars (take at body)) + 1
  pub text : take (at + length (encode_utf8 c) - at) (drop at body) ≡ encode_utf8 c
  pub rest : drop (at + length (encode_utf8 c)) body ≡ behind

pub char-at : (body : List ℕ) (at c : ℕ) (behind : List ℕ) → IsUtf8 body → IsCharBoundary body at → drop at body ≡ encode_utf8 c ++ behind
    → IsCharAt body at c behind
char-at body at c behind u b e =
    let n = length (encode_utf8 c) in
    let next : IsCharBoundary body (at + n) = subst (λ k. IsCharBoundary body (at + k)) (sym (length-encode c)) (IsCharBoundary-past_char body behind at c b.0 (IsUtf8-drop body at u b) e) in
    let whole : at + n - at ≡ n = omega arith in
    let text : take (at + n - at) (drop at body) ≡ encode_utf8 c = ap (λ k. take k (drop at body)) whole ∙ ap (take n) e ∙ take-append_seam (encode_utf8 c) behind in
    let alone : chars (encode_utf8 c) ≡ c ∷ [] = chars-encode_utf8 c (subst IsUtf8 text (IsUtf8-between body at (at + n) u (omega arith) b next)) in
    record {
      next = next;
      alone = alone;
      counted = chars-behind body at (at + n) u b (omega arith) ∙ ap (λ t. length (chars (take at body)) + length (chars t)) text
          ∙ ap (λ cs. length (chars (take at body)) + length cs) alone;
      text = text;
      rest = sym (drop-drop n at body) ∙ ap (drop n) e ∙ drop-append_seam (encode_utf8 c) behind;
    }

-- ---- units

-- the text of a unit stands in its body
pub stands-in : (body text : List ℕ) (u : Unit) → StandsIn body u → text ≡ unit_text body u
    → StandsAt body text u.start (length (chars (take u.start body)))
stands-in body text u stand text_is =
    let within = stand.2.0 in
    let size : length (unit_text body u) ≡ u.stop - u.start =
    length-take-le (u.stop - u.start) (drop u.start body) (omega (arith, length-drop u.start body, within, stand.0)) in
    let here : text ≡ take (length text) (drop u.start body) =
    text_is ∙ ap (λ n. take n (drop u.start body)) (sym (ap length text_is ∙ size)) in
    record { boundary = stand.1; here = here; before = refl }

-- the place of a row's start
pub near-start : (ucd : Data) (w : ℕ) (body : List ℕ) (each : List (Option ℕ)) (starts : List RowStart) (k : ℕ) (d : RowStart) (p : TextAt)
    → IsUtf8 body → starts ≡ row_starts ucd w body → k < length starts → p.body.text.now ≡ body → p.body.each.now ≡ each
    → p.offset ≡ (get_or starts k d).offset → p.number ≡ (get_or starts k d).chars → IsNear body each p
near-start ucd w body each starts k d p u e within text levels at counted =
    let starts_row = starts-at ucd w body starts k d u e within in
    record {
      text = text;
      levels = levels;
      boundary = subst (IsCharBoundary body) (sym at) starts_row.boundary;
      number = counted ∙ starts_row.chars ∙ ap (λ o. length (chars (take o body))) (sym at);
    }

-- in its own body
pub boundary-near : (body : List ℕ) (each : List (Option ℕ)) (p : TextAt) → IsNear body each p → IsCharBoundary p.body.text.now p.offset
boundary-near body each p near = subst (λ b. IsCharBoundary b p.offset) (sym near.text) near.boundary

pub number-near : (body : List ℕ) (each : List (Option ℕ)) (p : TextAt) → IsNear body each p → p.number ≡ length (chars (take p.offset p.body.text.now))
number-near body each p near = near.number ∙ ap (λ b. length (chars (take p.offset b))) (sym near.text)

-- a place counted from another one
pub near-moved : (body : List ℕ) (each : List (Option ℕ)) (p q : TextAt) (offset : ℕ) → IsNear body each p → IsCharBoundary body offset → q.offset ≡ offset
    → q.number ≡ length (chars (take offset p.body.text.now)) → q.body.text.now ≡ p.body.text.now → q.body.each.now ≡ p.body.each.now → IsNear body each q
near-moved body each p q offset near boundary at counted text levels = record {
  text = text ∙ near.text;
  levels = levels ∙ near.levels;
  boundary = subst (IsCharBoundary body) (sym at) boundary;
  number = counted ∙ ap (λ b. length (chars (take offset b))) near.text ∙ ap (λ o. length (chars (take o body))) (sym at);
}

-- the glyphs of a unit, by its text and a place that was counted
drawn-in : (ucd : Data) (w : ℕ) (body : List ℕ) (each : List (Option ℕ)) (u : Unit) (text : List ℕ) (columns level : ℕ) (p : TextAt)
    → IsNear body each p → p.offset ≡ u.start → text ≡ unit_text body u
    → face_glyphs ucd w (unit_text body u) u.face columns level (unit_forms ucd body each u)
    ≡ face_glyphs ucd w text u.face columns level (text_forms ucd p.body.text.now p.body.each.now p.number text)
drawn-in ucd w body each u text columns level p near at f =
    ap (λ t. face_glyphs ucd w t u.face columns level (text_forms ucd body each (length (chars (take u.start body))) t)) (sym f)
    ∙ ap (λ n. face_glyphs ucd w text u.face columns level (text_forms ucd body each n text)) (sym (near.number ∙ ap (λ o. length (chars (take o body))) at))
    ∙ ap₂ (λ b ls. face_glyphs ucd w text u.face columns level (text_forms ucd b ls p.number text)) (sym near.text) (sym near.levels)

-- a unit that is in the list is the same whatever is read where there is none
pub unit-within : (us : List Unit) (k : ℕ) (d e : Unit) → k < length us → get_or us k d ≡ get_or us k e
unit-within [] k d e h = absurd (omega arith)
unit-within (u ∷ us) zero d e h = refl
unit-within (u ∷ us) (suc k) d e h = unit-within us k d e (omega arith)

-- the glyphs of unit `k` of a row; its units and levels were read from the row as `vs` and `ls`
pub piece-near : (ucd : Data) (w : ℕ) (body : List ℕ) (each : List (Option ℕ)) (us vs : List Unit) (columns levels ls : List ℕ) (k : ℕ) (f : Face)
    (text : List ℕ) (p : TextAt) → vs ≡ us → ls ≡ levels → k < length us → length columns ≡ length us → length levels ≡ length us → IsNear body each p
    → ((d : Unit) → p.offset ≡ (get_or us k d).start) → text ≡ unit_text body (get_or vs k no_unit) → (get_or vs k no_unit).face ≡ f
    → get_or (unit_glyphs ucd w body each us columns levels) k []
    ≡ face_glyphs ucd w text f (get_or columns k 0) (get_or ls k 0) (text_forms ucd p.body.text.now p.body.each.now p.number text)
piece-near ucd w body each us vs columns levels ls k f text p same same_levels h e l near at own is =
    let forms = text_forms ucd p.body.text.now p.body.each.now p.number text in
    piece-at ucd w body each us columns levels k 0 0 no_unit h e l
    ∙ drawn-in ucd w body each (get_or us k no_unit) text (get_or columns k 0) (get_or levels k 0) p near (at no_unit)
    (own ∙ ap (λ xs. unit_text body (get_or xs k no_unit)) same)
    ∙ ap (λ x. face_glyphs ucd w text x (get_or columns k 0) (get_or levels k 0) forms) (sym (ap (λ xs. (get_or xs k no_unit).face) same) ∙ is)
    ∙ ap (λ xs. face_glyphs ucd w text f (get_or columns k 0) (get_or xs k 0) forms) (sym same_levels)

pub stands-near : (body text : List ℕ) (each : List (Option ℕ)) (u : Unit) (p : TextAt) → IsNear body each p → p.offset ≡ u.start → StandsIn body u
    → text ≡ unit_text body u → StandsAt p.body.text.now text p.offset p.number
stands-near body text each u p near at stand f =
    subst (λ b. StandsAt b text p.offset p.number) (sym near.text) (subst (λ o. StandsAt body text o p.number) (sym at)
    (subst (StandsAt body text u.start) (sym (near.number ∙ ap (λ o. length (chars (take o body))) at)) (stands-in body text u stand f)))

-- the number of the characters before an offset, counted from one before it or after it
pub number-on : (body : List ℕ) (near number offset : ℕ) → IsUtf8 body → IsCharBoundary body near → number ≡ length (chars (take near body))
    → near ≤ offset → number + length (chars (slice_range body near offset)) ≡ length (chars (take offset body))
number-on body near number offset u boundary e order =
    sym (chars-behind body near offset u boundary order ∙ ap (λ n. n + length (chars (slice_range body near offset))) (sym e))

pub number-back : (body : List ℕ) (near number offset : ℕ) → IsUtf8 body → IsCharBoundary body offset → number ≡ length (chars (take near body))
    → offset ≤ near → number ≡ length (chars (take offset body)) + length (chars (slice_range body offset near))
number-back body near number offset u boundary e order = e ∙ chars-behind body offset near u boundary order
