-- The first place of a text at or after an offset, from a part of the text that starts and ends at paragraph boundaries.
use Rattle.std.proofs.Common.{◌≡◌, ℕ, ◌+◌, ◌-◌, ◌<◌, ◌≤◌, nat_le, cond, Bool, true, false, List, [], ◌∷◌, ◌++◌, map, length, chars, find, unwrap_or}
use Rattle.std.proofs.Common.{Some, None, IsUtf8, refl, sym, ap, subst, ◌∙◌, arith, length-append, ⊎_elim}
use Rattle.std.specs.Prelude.{flat_map}
use Rattle.std.proofs.lemmas.Bool.{cases_lt}
use Rattle.std.proofs.lemmas.Bool.Decides.{nat_tests}
use Rattle.std.proofs.lemmas.Grind.{flat_map-append}
use Rattle.std.proofs.lemmas.List.{length-map, map-append}
use Rattle.std.proofs.lemmas.List.Concat.{flat_map-cons}
use Rattle.std.proofs.lemmas.Str.{chars-append, IsUtf8-append, IsUtf8-nil}
use Rattle.bx_ucd.specs.Data.{Data}
use Rattle.bx_common.specs.declared.base.Base.{Base}
use Rattle.bx_text.specs.index.Paragraphs.{Paragraph, bare, cut, lengths_of, paragraphs, bytes_of, total}
use Rattle.bx_text.proofs.index_lemmas.Cuts.{parts}
use Rattle.bx_text.proofs.index_lemmas.Totals.{total_push}
use Rattle.bx_text.proofs.index_lemmas.Turns.{total_lengths}
use Rattle.bx_paragraph.specs.BodyRows.{BodyRow, first_of, last_offset, offsets_of}
use Rattle.bx_view.specs.Moves.{place_from}
use Rattle.bx_view.specs.TextRows.{TextRow, places, places_of, rows_from, text_row, text_rows}
use Rattle.bx_view.proofs.RowsAround.{from-append, own}
use Rattle.bx_view.proofs.BodyFirsts.{body-firsts}
use Rattle.bx_view.proofs.Parts.{AreUtf8, text-parts}
use Rattle.bx_view.proofs.PlacesRise.{AllHeaded, body-headed, places-moved, places-rise}
use Rattle.bx_view.proofs.Rising.{Rises, rises-ahead, rises-within}
use Rattle.bx_view.proofs.Cutting.{joins}

-- ---- the least of some offsets

-- the first of some offsets that is not before one, or the last
abbrev pub least : ℕ → List ℕ → ℕ
least offset os = unwrap_or (find (nat_le offset) os) (last_offset os)

last_more : (o : ℕ) (os : List ℕ) → 0 < length os → last_offset (o ∷ os) ≡ last_offset os
last_more o [] some = absurd (omega (arith, some))
last_more o (p ∷ os) some = refl

least_past : (offset o : ℕ) (os : List ℕ) → o < offset → 0 < length os → least offset (o ∷ os) ≡ least offset os
least_past offset o os h some =
    let e : nat_le offset o ≡ false = grind (arith, nat_tests) in
    ap (λ b. unwrap_or (cond b (Some o) (find (nat_le offset) os)) (last_offset (o ∷ os))) e
    ∙ ap (unwrap_or (find (nat_le offset) os)) (last_more o os some)

least_here : (offset o : ℕ) (os : List ℕ) → offset ≤ o → least offset (o ∷ os) ≡ o
least_here offset o os h =
    let e : nat_le offset o ≡ true = grind (arith, nat_tests) in
    ap (λ b. unwrap_or (cond b (Some o) (find (nat_le offset) os)) (last_offset (o ∷ os))) e

one_at : (o : ℕ) (b : Bool) → unwrap_or (cond b (Some o) None) o ≡ o
one_at o true = refl
one_at o false = refl

least_one : (offset o : ℕ) → least offset (o ∷ []) ≡ o
least_one offset o = one_at o (nat_le offset o)

-- offsets that are moved
least_moved : (a offset : ℕ) (os : List ℕ) → a ≤ offset → 0 < length os → least offset (map (λ o. a + o) os) ≡ a + least (offset - a) os
least_moved a offset [] h some = absurd (omega (arith, some))
least_moved a offset (o ∷ []) h some = least_one offset (a + o) ∙ ap (λ n. a + n) (sym (least_one (offset - a) o))
least_moved a offset (o ∷ p ∷ os) h some = ⊎_elim
    (λ past. least_past offset (a + o) (map (λ q. a + q) (p ∷ os)) (omega (arith, past, h)) (omega (arith, length-map (p ∷ os) (λ q. a + q)))
    ∙ least_moved a offset (p ∷ os) h (omega arith) ∙ ap (λ n. a + n) (sym (least_past (offset - a) o (p ∷ os) past (omega arith))))
    (λ here. least_here offset (a + o) (map (λ q. a + q) (p ∷ os)) (omega (arith, here, h))
    ∙ ap (λ n. a + n) (sym (least_here (offset - a) o (p ∷ os) here))) (cases_lt o (offset - a))

-- offsets in front of the one that is asked for
least_behind : (offset low a : ℕ) (before os : List ℕ) → Rises low before a → a ≤ offset → 0 < length os → least offset (before ++ os) ≡ least offset os
least_behind offset low a [] os r h some = refl
least_behind offset low a (o ∷ before) os r h some =
    let near : o + 1 ≤ a = rises-within (o + 1) before a r.1 in
    least_past offset o (before ++ os) (omega (arith, near, h)) (omega (arith, length-append before os, some))
    ∙ least_behind offset (o + 1) a before os r.1 h some

-- and offsets after it
pub least_stops : (offset : ℕ) (before : List ℕ) (z : ℕ) (ys zs : List ℕ) → offset ≤ z → least offset (before ++ z ∷ ys) ≡ least offset (before ++ z ∷ zs)
least_stops offset [] z ys zs h = least_here offset z ys h ∙ sym (least_here offset z zs h)
least_stops offset (o ∷ before) z ys zs h = ⊎_elim
    (λ past. least_past offset o (before ++ z ∷ ys) past (omega (arith, length-append before (z ∷ ys))) ∙ least_stops offset before z ys zs h
    ∙ sym (least_past offset o (before ++ z ∷ zs) past (omega (arith, length-append before (z ∷ zs)))))
    (λ here. least_here offset o (before ++ z ∷ ys) here ∙ sym (least_here offset o (before ++ z ∷ zs) here)) (cases_lt o offset)

-- offsets that rise
pub least_below : (offset low : ℕ) (os : List ℕ) (high : ℕ) → Rises low os high → 0 < length os → least offset os < high
least_below offset low [] high r some = absurd (omega (arith, some))
least_below offset low (o ∷ []) high r some = omega (arith, least_one offset o, r.1)
least_below offset low (o ∷ p ∷ os) high r some = ⊎_elim
    (λ past. omega (arith, least_past offset o (p ∷ os) past (omega arith), least_below offset (o + 1) (p ∷ os) high r.1 (omega arith)))
    (λ here. omega (arith, least_here offset o (p ∷ os) here, rises-within (o + 1) (p ∷ os) high r.1)) (cases_lt o offset)

twice_moved : (a b : ℕ) (os : List ℕ) → map (λ o. a + b + o) os ≡ map (λ o. a + o) (map (λ o. b + o) os)
twice_moved a b [] = refl
twice_moved a b (o ∷ os) =
    let same : a + b + o ≡ a + (b + o) = omega arith in
    ap (λ n. n ∷ map (λ q. a + b + q) os) same ∙ ap (λ ns. (a + (b + o)) ∷ ns) (twice_moved a b os)

-- the first place of rows that begin at 0
first_place : (rs : List BodyRow) (others : List ℕ) → AllHeaded rs → map first_of rs ≡ 0 ∷ others → (os : List ℕ) × (flat_map offsets_of rs ≡ 0 ∷ os)
first_place [] others h e = absurd (omega (arith, ap length e))
first_place (r ∷ rs) others h e =
    let zero : first_of r ≡ 0 = cc in (
      h.0.0 ++ flat_map offsets_of rs,
      flat_map-cons offsets_of r rs ∙ ap (λ os. os ++ flat_map offsets_of rs) (h.0.1 ∙ ap (λ n. n ∷ h.0.0) zero),
    )

-- ---- the places of a text

module _ (ucd : Data) (base : Base) (w : ℕ) (h : 1 ≤ w) where
  abbrev rows : List ℕ → List TextRow
  rows text = text_rows ucd base w text

  -- the places of paragraphs; the first begins at the offset `start`
  abbrev spots : ℕ → List Paragraph → List ℕ
  spots start ps = places (rows_from ucd base w start ps)

  spots_append : (start : ℕ) (ps qs : List Paragraph) → spots start (ps ++ qs) ≡ spots start ps ++ spots (start + total (map lengths_of ps)) qs
  spots_append start ps qs =
      ap places (from-append ucd base w start ps qs)
      ∙ flat_map-append places_of (rows_from ucd base w start ps) (rows_from ucd base w (start + total (map lengths_of ps)) qs)

  pub spots_more : (start : ℕ) (p : Paragraph) (ps : List Paragraph)
      → spots start (p ∷ ps) ≡ map (λ o. start + o) (flat_map offsets_of (own ucd base w p)) ++ spots (start + bytes_of (lengths_of p)) ps
  spots_more start p ps =
      let mine = own ucd base w p in
      let rest = rows_from ucd base w (start + bytes_of (lengths_of p)) ps in
      flat_map-append places_of (map (text_row start) mine) rest ∙ ap (λ os. os ++ places rest) (places-moved start mine)

  spots_moved : (a start : ℕ) (ps : List Paragraph) → spots (a + start) ps ≡ map (λ o. a + o) (spots start ps)
  spots_moved a start [] = refl
  spots_moved a start (p ∷ ps) =
      let os = flat_map offsets_of (own ucd base w p) in
      let next = start + bytes_of (lengths_of p) in
      let same : a + start + bytes_of (lengths_of p) ≡ a + next = omega arith in
      spots_more (a + start) p ps ∙ ap (λ ns. ns ++ spots (a + start + bytes_of (lengths_of p)) ps) (twice_moved a start os)
      ∙ ap (λ s. map (λ o. a + o) (map (λ o. start + o) os) ++ spots s ps) same
      ∙ ap (λ ns. map (λ o. a + o) (map (λ o. start + o) os) ++ ns) (spots_moved a next ps)
      ∙ sym (map-append (λ o. a + o) (map (λ o. start + o) os) (spots next ps)) ∙ ap (map (λ o. a + o)) (sym (spots_more start p ps))

  body_first : (p : Paragraph) → IsUtf8 p.body → (os : List ℕ) × (flat_map offsets_of (own ucd base w p) ≡ 0 ∷ os)
  body_first p u =
      let f = body-firsts ucd base w h p.body u in
      first_place (own ucd base w p) f.others (body-headed ucd base w h p.body u) f.firsts

  -- paragraphs have their begin for a first place
  spots_first : (start : ℕ) (p : Paragraph) (ps : List Paragraph) → IsUtf8 p.body → (os : List ℕ) × (spots start (p ∷ ps) ≡ start ∷ os)
  spots_first start p ps u =
      let (os, e) = body_first p u in
      let rest = spots (start + bytes_of (lengths_of p)) ps in
      let same : start + 0 ≡ start = omega arith in (
        map (λ o. start + o) os ++ rest,
        spots_more start p ps ∙ ap (λ ns. map (λ o. start + o) ns ++ rest) e ∙ ap (λ n. n ∷ (map (λ o. start + o) os ++ rest)) same,
      )

  first_at : (start : ℕ) (text : List ℕ) (ps : List Paragraph) → paragraphs ucd text ≡ ps → IsUtf8 text → (os : List ℕ) × (spots start ps ≡ start ∷ os)
  first_at start text [] e utf8 = absurd (omega (arith, (text-parts ucd text utf8).some, ap length e))
  first_at start text (p ∷ ps) e utf8 =
      let parts = text-parts ucd text utf8 in
      let u = subst AreUtf8 e parts.utf8 in spots_first start p ps u.0.body

  text_first : (start : ℕ) (text : List ℕ) → IsUtf8 text → (os : List ℕ) × (spots start (paragraphs ucd text) ≡ start ∷ os)
  text_first start text utf8 = first_at start text (paragraphs ucd text) refl utf8

  -- the bytes of the paragraphs that end in a text which ends with a separator
  front_bytes : (text : List ℕ) (front : List Paragraph) → IsUtf8 text → paragraphs ucd text ≡ front ++ bare [] ∷ [] → total (map lengths_of front)
      ≡ length text
  front_bytes text front utf8 e =
      let all : total (map lengths_of (front ++ bare [] ∷ [])) ≡ length text = ap (λ ps. total (map lengths_of ps)) (sym e) ∙ total_lengths ucd text utf8 in
      omega (arith, ap total (map-append lengths_of front (bare [] ∷ [])), total_push (map lengths_of front) (lengths_of (bare [])), all)

  -- the text before a paragraph's start
  pub place_after_front : (x v : List ℕ) (offset : ℕ) → IsUtf8 x → IsUtf8 v → parts ucd (chars x) (chars v) ≡ true → length x ≤ offset
      → place_from (rows (x ++ v)) offset ≡ length x + place_from (rows v) (offset - length x)
  place_after_front x v offset ux uv p order =
      let j = joins ucd (chars x) (chars v) p in
      let a = length x in
      let bytes : 0 + total (map lengths_of j.front) ≡ a + 0 = omega (arith, front_bytes x j.front ux j.alone) in
      let (os, first) = text_first 0 v uv in
      let before = spots 0 j.front in
      let is : places (rows (x ++ v)) ≡ before ++ map (λ o. a + o) (places (rows v)) =
      ap (λ cs. spots 0 (cut ucd cs)) (chars-append x v ux) ∙ ap (spots 0) j.together ∙ spots_append 0 j.front (paragraphs ucd v)
      ∙ ap (λ s. before ++ spots s (paragraphs ucd v)) bytes ∙ ap (λ ns. before ++ ns) (spots_moved a 0 (paragraphs ucd v)) in
      let some : 0 < length (places (rows v)) = omega (arith, ap length first) in
      let whole : places (rows (x ++ v)) ≡ before ++ (a + 0) ∷ map (λ o. a + o) os = is ∙ ap (λ ns. before ++ map (λ o. a + o) ns) first in
      let rise : Rises 0 before (a + 0) =
      rises-ahead 0 before (a + 0) (map (λ o. a + o) os) (length (x ++ v) + 1)
      (subst (λ ns. Rises 0 ns (length (x ++ v) + 1)) whole (places-rise ucd base w h (x ++ v) (IsUtf8-append x v ux uv))) in
      ap (least offset) is
      ∙ least_behind offset 0 (a + 0) before (map (λ o. a + o) (places (rows v))) rise (omega (arith, order))
      (omega (arith, some, length-map (places (rows v)) (λ o. a + o)))
      ∙ least_moved a offset (places (rows v)) order some

  -- the text after a paragraph's end
  pub place_before_back : (x y : List ℕ) (offset : ℕ) → IsUtf8 x → IsUtf8 y → parts ucd (chars x) (chars y) ≡ true → offset ≤ length x
      → place_from (rows (x ++ y)) offset ≡ place_from (rows x) offset
  place_before_back x y offset ux uy p within =
      let j = joins ucd (chars x) (chars y) p in
      let z = 0 + total (map lengths_of j.front) in
      let inside : offset ≤ z = omega (arith, within, front_bytes x j.front ux j.alone) in
      let before = spots 0 j.front in
      let (ys, behind) = text_first z y uy in
      let (zs, last) = spots_first z (bare []) [] IsUtf8-nil in
      ap (λ cs. least offset (spots 0 (cut ucd cs))) (chars-append x y ux) ∙ ap (λ ps. least offset (spots 0 ps)) j.together
      ∙ ap (least offset) (spots_append 0 j.front (paragraphs ucd y)) ∙ ap (λ ns. least offset (before ++ ns)) behind
      ∙ least_stops offset before z ys zs inside
      ∙ ap (λ ns. least offset (before ++ ns)) (sym last) ∙ ap (least offset) (sym (spots_append 0 j.front (bare [] ∷ [])))
      ∙ ap (λ ps. least offset (spots 0 ps)) (sym j.alone)
