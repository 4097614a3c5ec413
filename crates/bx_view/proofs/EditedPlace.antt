-- The place after an edit within one paragraph is the place in the edited body.
use Rattle.std.proofs.Common.{◌≡◌, ℕ, ◌+◌, ◌-◌, ◌<◌, ◌≤◌, ◌==◌, ◌||◌, nat_lt, zero, suc, ◌⊎◌, inl, inr, true, List, [], ◌∷◌, ◌++◌, map, length, take}
use Rattle.std.proofs.Common.{drop, chars, encode_utf8_all, IsUtf8, IsCharBoundary, refl, sym, ap, subst, ◌∙◌, arith, append_assoc, length-append, length-drop, get_or, slice_range}
use Rattle.std.specs.List.{splice as list_splice}
use Rattle.std.proofs.lemmas.Bool.Decides.{nat_tests}
use Rattle.std.proofs.lemmas.List.{append_cancel_right, drop-append-le, drop-drop, drop_at, length-take-le, take-append-drop, take-append-le}
use Rattle.std.proofs.lemmas.Str.{chars-append, chars-encodes, encodes-append, encodes-chars, scalars-chars, IsUtf8-append, IsUtf8-drop, IsUtf8-take}
use Rattle.bx_ucd.specs.Data.{Data}
use lib.Utf8.{scalars}
use Rattle.bx_common.specs.Characters.{is_side}
use Rattle.bx_common.specs.declared.base.Base.{Base}
use Rattle.bx_rows.specs.cells.Units.{units}
use Rattle.bx_text.specs.Edits.{splice}
use Rattle.bx_text.specs.Changes.{IsRange}
use Rattle.bx_text.specs.declared.index.lengths.Lengths.{Lengths}
use Rattle.bx_text.specs.index.Paragraphs.{Paragraph, bare, cut, lengths_of, paragraphs, bytes_of}
use Rattle.bx_text.specs.index.Scan.{HasNone}
use Rattle.bx_text.proofs.index_lemmas.Changes.{scalars_back}
use Rattle.bx_text.proofs.index_lemmas.Cuts.{parts}
use Rattle.bx_paragraph.specs.BodyRows.{body_rows}
use Rattle.bx_paragraph.specs.Layout.{LayoutState, rows_by}
use Rattle.bx_view.specs.BodyPlaces.{body_places, place_in_body}
use Rattle.bx_view.specs.Caching.{AreCached, Caches, IsCached, ViewState}
use Rattle.bx_view.specs.FoundRow.{rows_by as rows_of_text}
use Rattle.bx_view.specs.Moves.{place_from}
use Rattle.bx_view.specs.Places.{IsTextPlace}
use Rattle.bx_view.specs.Numbers.{body_at, count, start_at}
use Rattle.bx_view.specs.TextRows.{places, rows_from, text_rows}
use Rattle.bx_view.proofs.Begins.{IsBegin, begin_at, no_chars, some_chars, take_parts}
use Rattle.bx_view.proofs.BodyFirsts.{starts_of}
use Rattle.bx_view.proofs.Cutting.{Opens, none_back, none_front, none_joined, opens, parts_ahead, quiet_cut}
use Rattle.bx_view.proofs.InBody.{not-moved}
use Rattle.bx_view.proofs.KeptPlaces.{place-from-kept}
use Rattle.bx_view.proofs.LeastPlace.{least, least_stops, place_after_front, spots_more}
use Rattle.bx_view.proofs.Numbers.{behind, body-is, body-utf8, here}
use Rattle.bx_view.proofs.PlacesOn.{finds-least}
use Rattle.bx_view.proofs.PlacesRise.{body-places}
use Rattle.bx_paragraph.proofs.Starts.{side-some}

-- ---- a text that begins with a body

-- its first places are the body's
pub place_first : (ucd : Data) (base : Base) (w : ℕ) → 1 ≤ w → (body back q : List ℕ) (others : List Paragraph)
    (offset : ℕ) → IsUtf8 body → HasNone ucd (chars body) → paragraphs ucd back ≡ bare q ∷ others → offset ≤ length body
    → place_from (text_rows ucd base w (body ++ back)) offset ≡ place_in_body (body_rows ucd base w body) offset
place_first ucd base w h body back q others offset utf8 none e within =
    let p : Paragraph = record { body = body; separator = q } in
    let is : paragraphs ucd (body ++ back) ≡ p ∷ others =
    ap (cut ucd) (chars-append body back utf8) ∙ quiet_cut ucd (chars body) (chars back) q others none e
    ∙ ap (λ bs. record { body = bs; separator = q } ∷ others) (encodes-chars body utf8) in
    let starts = starts_of (units ucd w body) in
    let more = places (rows_from ucd base w (0 + bytes_of (lengths_of p)) others) in
    let mine : body_places (body_rows ucd base w body) ≡ starts ++ length body ∷ [] = body-places ucd base w h body in
    let whole : places (rows_from ucd base w 0 (p ∷ others)) ≡ starts ++ length body ∷ more =
    spots_more ucd base w h 0 p others ∙ ap (λ os. os ++ more) (not-moved (body_places (body_rows ucd base w body)) ∙ mine)
    ∙ append_assoc starts (length body ∷ []) more in
    ap (λ ps. least offset (places (rows_from ucd base w 0 ps))) is ∙ ap (least offset) whole
    ∙ least_stops offset starts (length body) more [] within ∙ ap (least offset) (sym mine)

-- ---- a paragraph of a text

abbrev first_body : List Lengths → ℕ
first_body [] = 0
first_body (l ∷ ls) = l.body

module _ (ucd : Data) (text : List ℕ) (utf8 : IsUtf8 text) (number : ℕ) (there : number < count ucd text) where
  abbrev at : ℕ
  at = start_at ucd text number

  abbrev body : List ℕ
  body = body_at ucd text number

  abbrev before : List ℕ
  before = take at text

  abbrev rest : List ℕ
  rest = drop at text

  begin : IsBegin ucd text utf8 at (lengths_of (here ucd text number there) ∷ map lengths_of (behind ucd text number there))
  begin = begin_at ucd text utf8 number there

  rest_utf8 : IsUtf8 rest
  rest_utf8 = IsUtf8-drop text at utf8 begin.bounds

  before_utf8 : IsUtf8 before
  before_utf8 = IsUtf8-take text at utf8 begin.bounds

  before_bytes : length before ≡ at
  before_bytes = let bounds : IsCharBoundary text at = begin.bounds in length-take-le at text bounds.0

  own_utf8 : IsUtf8 body
  own_utf8 = body-utf8 ucd text number there utf8

  abbrev o : Opens ucd (chars rest)
  o = opens ucd (chars rest)

  own_bytes : length (encode_utf8_all o.body) ≡ length body
  own_bytes =
      let is : cut ucd (chars rest) ≡ record { body = encode_utf8_all o.body; separator = o.separator } ∷ o.others =
      ap (cut ucd) o.whole ∙ quiet_cut ucd o.body o.rest o.separator o.others o.none o.behind in
      ap first_body (sym (ap (map lengths_of) is) ∙ begin.rest)

  -- the text after its body
  abbrev back : List ℕ
  back = drop (length body) rest

  back_is : back ≡ encode_utf8_all o.rest
  back_is =
      let spelt : rest ≡ encode_utf8_all o.body ++ encode_utf8_all o.rest =
      sym (encodes-chars rest rest_utf8) ∙ ap encode_utf8_all o.whole ∙ encodes-append o.body o.rest in
      ap (drop (length body)) spelt ∙ drop_at (encode_utf8_all o.body) (encode_utf8_all o.rest) (length body) own_bytes

  back_sound : scalars o.rest ≡ true
  back_sound = scalars_back o.body o.rest (ap scalars (sym o.whole) ∙ scalars-chars rest rest_utf8)

  back_utf8 : IsUtf8 back
  back_utf8 = subst IsUtf8 (sym back_is) (o.rest, (back_sound, refl))

  back_chars : chars back ≡ o.rest
  back_chars = ap chars back_is ∙ chars-encodes o.rest back_sound

  back_cut : paragraphs ucd back ≡ bare o.separator ∷ o.others
  back_cut = ap (cut ucd) back_chars ∙ o.behind

  rest_is : rest ≡ body ++ back
  rest_is =
      let size : length body ≡ at + length body - at = omega arith in
      let own : take (length body) rest ≡ body = ap (λ n. take n rest) size ∙ body-is ucd text number there utf8 in
      sym (take-append-drop (length body) rest) ∙ ap (λ bs. bs ++ back) own

  own_none : HasNone ucd (chars body)
  own_none =
      let same : chars body ++ o.rest ≡ o.body ++ o.rest =
      ap (λ cs. chars body ++ cs) (sym back_chars) ∙ sym (chars-append body back own_utf8) ∙ ap chars (sym rest_is) ∙ o.whole in
      subst (HasNone ucd) (sym (append_cancel_right (chars body) o.body o.rest same)) o.none

  -- ---- an edit within it

  module _ (start stop : ℕ) (new : List ℕ) (new_utf8 : IsUtf8 new) (order : at ≤ start) (further : start ≤ stop)
      (range : IsRange body (start - at) (stop - at)) (none : HasNone ucd (chars new)) where
    abbrev head : List ℕ
    head = take (start - at) body

    abbrev tail : List ℕ
    tail = drop (stop - at) body

    -- the body that it leaves
    abbrev now : List ℕ
    now = list_splice body (start - at) (stop - at) new

    head_inside : start - at ≤ length body
    head_inside = let bounds : IsCharBoundary body (start - at) = range.start_bounds in bounds.0

    tail_inside : stop - at ≤ length body
    tail_inside = let bounds : IsCharBoundary body (stop - at) = range.stop_bounds in bounds.0

    head_utf8 : IsUtf8 head
    head_utf8 = IsUtf8-take body (start - at) own_utf8 range.start_bounds

    tail_utf8 : IsUtf8 tail
    tail_utf8 = IsUtf8-drop body (stop - at) own_utf8 range.stop_bounds

    more_utf8 : IsUtf8 (new ++ tail)
    more_utf8 = IsUtf8-append new tail new_utf8 tail_utf8

    now_utf8 : IsUtf8 now
    now_utf8 = IsUtf8-append head (new ++ tail) head_utf8 more_utf8

    now_none : HasNone ucd (chars now)
    now_none =
        let split : chars body ≡ chars head ++ chars (drop (start - at) body) =
        ap chars (sym (take-append-drop (start - at) body)) ∙ chars-append head (drop (start - at) body) head_utf8 in
        let ended : chars body ≡ chars (take (stop - at) body) ++ chars tail =
        ap chars (sym (take-append-drop (stop - at) body))
        ∙ chars-append (take (stop - at) body) tail (IsUtf8-take body (stop - at) own_utf8 range.stop_bounds) in
        let first : HasNone ucd (chars head) = none_front ucd (chars head) (chars (drop (start - at) body)) (subst (HasNone ucd) split own_none) in
        let last : HasNone ucd (chars tail) = none_back ucd (chars (take (stop - at) body)) (chars tail) (subst (HasNone ucd) ended own_none) in
        let is : chars now ≡ chars head ++ (chars new ++ chars tail) =
        chars-append head (new ++ tail) head_utf8 ∙ ap (λ cs. chars head ++ cs) (chars-append new tail new_utf8) in
        subst (HasNone ucd) (sym is)
        (none_joined ucd (chars head) (chars new ++ chars tail) first (none_joined ucd (chars new) (chars tail) none last))

    head_bytes : length head ≡ start - at
    head_bytes = length-take-le (start - at) body head_inside

    now_bytes : start - at + length new ≤ length now
    now_bytes = omega (arith, length-append head (new ++ tail), length-append new tail, head_bytes)

    head_is : take (start - at) rest ≡ head
    head_is = ap (take (start - at)) rest_is ∙ take-append-le (start - at) body back head_inside

    -- the text after it
    whole : splice text start stop new ≡ before ++ (now ++ back)
    whole =
        let sum : at + (stop - at) ≡ stop = omega (arith, order, further) in
        let ahead : take start text ≡ before ++ head = take_parts at start text order ∙ ap (λ bs. before ++ bs) head_is in
        let after : drop stop text ≡ tail ++ back =
        sym (drop-drop (stop - at) at text ∙ ap (λ n. drop n text) sum) ∙ ap (drop (stop - at)) rest_is
        ∙ drop-append-le (stop - at) body back tail_inside in
        ap (λ bs. bs ++ new ++ drop stop text) ahead ∙ ap (λ bs. (before ++ head) ++ new ++ bs) after
        ∙ append_assoc (before ++ head) new (tail ++ back) ∙ append_assoc before head (new ++ (tail ++ back))
        ∙ ap (λ bs. before ++ (head ++ bs)) (sym (append_assoc new tail back)) ∙ ap (λ bs. before ++ bs) (sym (append_assoc head (new ++ tail) back))

    pub left_utf8 : IsUtf8 (splice text start stop new)
    left_utf8 = subst IsUtf8 (sym whole) (IsUtf8-append before (now ++ back) before_utf8 (IsUtf8-append now back now_utf8 back_utf8))

    pub left_inside : start + length new ≤ length (splice text start stop new)
    left_inside =
        omega (arith, ap length whole, length-append before (now ++ back), length-append now back, now_bytes, before_bytes, order)

    -- the same paragraphs end in front of it
    parts_now : (at ≡ 0) ⊎ (at < start) → parts ucd (chars before) (chars (now ++ back)) ≡ true
    parts_now (inl none_before) =
        let empty : chars before ≡ [] = ap (λ n. chars (take n text)) none_before ∙ no_chars in ap (λ cs. parts ucd cs (chars (now ++ back))) empty
    parts_now (inr less) =
        let after = (new ++ tail) ++ back in
        let was : rest ≡ head ++ drop (start - at) rest =
        sym (take-append-drop (start - at) rest) ∙ ap (λ bs. bs ++ drop (start - at) rest) head_is in
        let some : 0 < length (chars head) = some_chars head (chars head) head_utf8 (omega (arith, head_bytes, less)) refl in
        ap (parts ucd (chars before)) (ap chars (append_assoc head (new ++ tail) back) ∙ chars-append head after head_utf8)
        ∙ parts_ahead ucd (chars before) (chars head) (chars (drop (start - at) rest)) (chars after) some
        (ap (parts ucd (chars before)) (sym (ap chars was ∙ chars-append head (drop (start - at) rest) head_utf8)) ∙ begin.parts)

    pub place_edited : (base : Base) (w : ℕ) → 1 ≤ w → (at ≡ 0) ⊎ (at < start)
        → place_from (text_rows ucd base w (splice text start stop new)) (start + length new)
        ≡ at + place_in_body (body_rows ucd base w now) (start - at + length new)
    place_edited base w h inner =
        let offset = start + length new in
        let own : offset - length before ≡ start - at + length new = omega (arith, before_bytes, order) in
        ap (λ bs. place_from (text_rows ucd base w bs) offset) whole
        ∙ place_after_front ucd base w h before (now ++ back) offset before_utf8 (IsUtf8-append now back now_utf8 back_utf8) (parts_now inner)
        (omega (arith, before_bytes, order))
        ∙ ap (λ n. length before + place_from (text_rows ucd base w (now ++ back)) n) own
        ∙ ap (λ n. n + place_from (text_rows ucd base w (now ++ back)) (start - at + length new)) before_bytes
        ∙ ap (λ n. at + n)
        (place_first ucd base w h now back o.separator o.others (start - at + length new) now_utf8 now_none back_cut now_bytes)

-- ---- in a cached paragraph

pub inner_of : (first start : ℕ) → ((first == 0) || nat_lt first start) ≡ true → (first ≡ 0) ⊎ (first < start)
inner_of zero start e = inl refl
inner_of (suc n) start e = let less : suc n < start = grind (arith, nat_tests) in inr less

-- the cached paragraph at an index
pub cached_at : (ucd : Data) (base : Base) (left : List ℕ) (w : ℕ) (cache : List LayoutState) (i : ℕ)
    (l : LayoutState) → AreCached ucd base cache → Caches left w cache i → l ≡ get_or cache i l
    → IsCached ucd base l × (l.w ≡ w) × (l.body ≡ left)
cached_at ucd base left w cache i l all h e = (
  subst (IsCached ucd base) (sym e) (all.laid_out i l h.within),
  ap (λ (x : LayoutState). x.w) e ∙ h.w_is l,
  ap (λ (x : LayoutState). x.body) e ∙ h.body_is l,
)

-- the length of the edited body
pub splice_most : (text : List ℕ) (first last : ℕ) (body : List ℕ) (i j : ℕ) (new : List ℕ) → last ≤ length text → slice_range text first last ≡ body
    → IsRange body i j → length (list_splice body i j new) ≤ length text + length new + length text
splice_most text first last body i j new within e range =
    let start : IsCharBoundary body i = range.start_bounds in
    let size : length body ≡ last - first =
    ap length (sym e) ∙ length-take-le (last - first) (drop first text) (omega (arith, within, length-drop first text)) in
    omega (
      arith,
      within,
      size,
      length-append (take i body) (new ++ drop j body),
      length-append new (drop j body),
      length-take-le i body start.0,
      length-drop j body,
      start.0,
    )

-- the place after an edit, in the text that it leaves
pub record IsPlaceAfter (ucd : Data) (v : ViewState) (text : List ℕ) (start stop : ℕ) (new : List ℕ) (o : ℕ) : Type 0 where
  pub place : o ≡ place_from (rows_of_text ucd v (splice text start stop new)) (start + length new)
  pub text_place : IsTextPlace ucd (splice text start stop new) o
  pub order : start + length new ≤ o

pub edited_place : (ucd : Data) (v : ViewState) (text : List ℕ) → IsUtf8 text → (number : ℕ)
    → number < count ucd text → (first start stop : ℕ) (new : List ℕ) → IsUtf8 new → (l : LayoutState) (place offset : ℕ)
    → first ≡ start_at ucd text number → first ≤ start → start ≤ stop → IsRange (body_at ucd text number) (start - first) (stop - first)
    → HasNone ucd (chars new) → (first ≡ 0) ⊎ (first < start) → is_side v.w ≡ true → l.base ≡ v.base → l.w ≡ v.w
    → l.body ≡ list_splice (body_at ucd text number) (start - first) (stop - first) new → offset ≡ start - first + length new
    → place ≡ place_in_body (rows_by ucd l) offset
    → IsPlaceAfter ucd v text start stop new (first + place)
edited_place ucd v text utf8 number there first start stop new new_utf8 l place offset first_is order further range none inner side base_is w_is
    body_is offset_is place_is =
    let at = start_at ucd text number in
    let own = body_at ucd text number in
    let own_range : IsRange own (start - at) (stop - at) = subst (λ s. IsRange own (start - s) (stop - s)) first_is range in
    let own_inner : (at ≡ 0) ⊎ (at < start) = subst (λ s. (s ≡ 0) ⊎ (s < start)) first_is inner in
    let now = list_splice own (start - at) (stop - at) new in
    let spliced : l.body ≡ now = body_is ∙ ap (λ s. list_splice own (start - s) (stop - s) new) first_is in
    let offset_own : offset ≡ start - at + length new = offset_is ∙ ap (λ s. start - s + length new) first_is in
    let rows_are : rows_by ucd l ≡ body_rows ucd v.base v.w now =
    ap (λ b. body_rows ucd b l.w l.body) base_is ∙ ap (λ w. body_rows ucd v.base w l.body) w_is
    ∙ ap (body_rows ucd v.base v.w) spliced in
    let some = side-some v.w side in
    let after : at ≤ start = omega (arith, order, first_is) in
    let left = splice text start stop new in
    let is : first + place ≡ place_from (rows_of_text ucd v left) (start + length new) =
    ap (λ n. n + place) first_is
    ∙ ap (λ n. at + n)
    (place_is ∙ ap (λ rs. place_in_body rs offset) rows_are ∙ ap (place_in_body (body_rows ucd v.base v.w now)) offset_own)
    ∙ sym (place_edited ucd text utf8 number there start stop new new_utf8 after further own_range none v.base v.w some own_inner) in
    let valid : IsUtf8 left = left_utf8 ucd text utf8 number there start stop new new_utf8 after further own_range none in
    let least = (finds-least ucd v.base v.w some left valid).inside (start + length new)
    (left_inside ucd text utf8 number there start stop new new_utf8 after further own_range none) in
    record {
      place = is;
      text_place = place-from-kept ucd v left side valid (start + length new) (first + place) is;
      order = omega (arith, is, least.not_before);
    }
