-- A whole line that is put goes above the line of the cursor, which stays at the same character.
use Rattle.std.proofs.Common.{◌≡◌, ◌∙◌, ℕ, ◌+◌, ◌-◌, ◌<◌, ◌≤◌, Bool, true, false, List, [], ◌∷◌, ◌++◌, length, take, drop, reverse, chars, Some, None}
use Rattle.std.proofs.Common.{IsCharBoundary, IsUtf8, refl, sym, ap, ap₂, subst, arith, length-append, length-drop, if◌then◌else◌}
use Rattle.std.specs.Prelude.{◌==◌, ◌&&◌, ◌||◌, not, nat_le}
use Rattle.std.proofs.lemmas.Bool.Decides.{nat_tests}
use Rattle.std.proofs.lemmas.List.{drop-drop, drop_at, length-take-le, reverse-append, take-append-drop}
use Rattle.std.proofs.lemmas.Str.{IsUtf8-append, IsUtf8-drop, IsUtf8-take, chars-append}
use Rattle.bx_common.specs.Characters.{largest_text}
use Rattle.bx_keys.specs.declared.key.Key.TheVariants.{Put}
use Rattle.bx_text.specs.index.Paragraphs.{begins_with_lf, lengths, paragraph_of}
use Rattle.bx_text.proofs.index_lemmas.Cuts.{ends, parts, parts_append}
use Rattle.bx_ucd.specs.Data.{Data}
use Rattle.bx_document.specs.Line.{begins_with_separator, ends_with_separator, has_crlf_first, is_line_empty}
use Rattle.bx_document.proofs.LastPlace.{last_after_front}
use Rattle.bx_paragraph.proofs.Starts.{side-some}
use Rattle.bx_view.specs.Moves.{place_at, place_from}
use Rattle.bx_view.specs.Places.{IsTextPlace}
use Rattle.bx_view.specs.TextRows.{TextRow}
use Rattle.bx_view.proofs.TextPlaces.{place-between}
use Rattle.bx_view.proofs.Begins.{begin_at}
use Rattle.bx_view.proofs.Numbers.{falls-at}
use Rattle.bx_view.proofs.PlacesOn.{finds-least}
use Rattle.bx_view_laws.proofs.GreatestPlace.{greatest-place}
use Rattle.bx_editor.specs.declared.message.Message.TheVariants.{NothingToPut, TextFull}
use Rattle.bx_editor.specs.Editor.{Editor, cleared, rows_of}
use Rattle.bx_editor.specs.Functions.{HasRows}
use Rattle.bx_editor.specs.Keys.{after_key}
use Rattle.bx_editor.specs.Putting.{as_line, line_end, put_in, put_line, with_line_put}
use Rattle.bx_editor.specs.Region.{is_selection, line}
use Rattle.bx_editor_laws.specs.LineLaws.{EndsLine, HoldsLine, LineGoesAbove, PutsAbove, PutsLine, begins_with_cr}
use Rattle.bx_editor_laws.specs.SelectionLaws.{IsRefused}
use Rattle.bx_editor_laws.proofs.KeyEnds.{behind, free-done}

-- ---- where bytes end a line, the paragraphs behind them are as they were

-- the last of some characters is the first of them turned round
turned : (c : ℕ) (cs : List ℕ) → reverse (c ∷ cs) ≡ reverse cs ++ c ∷ []
turned c cs = reverse-append (c ∷ []) cs

first-kept : (d : Data) (xs ys : List ℕ) → 0 < length xs → begins_with_separator d (xs ++ ys) ≡ begins_with_separator d xs
first-kept d [] ys some = absurd (omega (arith, some))
first-kept d (x ∷ xs) ys some = refl

cr-kept : (xs ys : List ℕ) → 0 < length xs → begins_with_cr (xs ++ ys) ≡ begins_with_cr xs
cr-kept [] ys some = absurd (omega (arith, some))
cr-kept (x ∷ xs) ys some = refl

one-last : (a b lf : Bool) → a ≡ true → (b && lf) ≡ false → (a && not (b && lf)) ≡ true
one-last a b lf is out = ap₂ (λ x y. x && not y) is out

parts-there : (d : Data) (cs ds : List ℕ) → begins_with_separator d (reverse cs) ≡ true → (begins_with_cr (reverse cs) && begins_with_lf d ds) ≡ false
    → parts d cs ds ≡ true
parts-there d [] ds last out = refl
parts-there d (c ∷ []) ds last out = one-last (ends d c) (c == 13) (begins_with_lf d ds) last out
parts-there d (c ∷ e ∷ cs) ds last out =
    let rest = reverse (e ∷ cs) in
    let some : 0 < length rest = omega (arith, ap length (turned e cs), length-append (reverse cs) (e ∷ [])) in
    let split = turned c (e ∷ cs) in
    parts-there d (e ∷ cs) ds
    (sym (first-kept d rest (c ∷ []) some) ∙ sym (ap (begins_with_separator d) split) ∙ last)
    (ap (λ b. b && begins_with_lf d ds) (sym (cr-kept rest (c ∷ []) some) ∙ sym (ap begins_with_cr split)) ∙ out)

some-char : (d : Data) (cs : List ℕ) → begins_with_separator d (reverse cs) ≡ true → (c : ℕ) × (more : List ℕ) × (cs ≡ c ∷ more)
some-char d [] is = absurd (cc is)
some-char d (c ∷ cs) is = (c, cs, refl)

-- ---- a place of a text

module _ (d : Data) (e : Editor) (has : HasRows e) where
  abbrev rows-in : List ℕ → List TextRow
  rows-in text = rows_of d e text

  some : 1 ≤ e.width
  some = side-some e.width has.columns

  -- it is the last at or before itself, and the first at or after itself
  own-at : (text : List ℕ) → IsUtf8 text → (p : ℕ) → IsTextPlace d text p → place_at (rows-in text) p ≡ p
  own-at text utf8 p is =
      let found = greatest-place d e.base e.width some text utf8 p in
      let low : p ≤ p = omega arith in
      let up = found.greatest p is low in
      omega (arith, up, found.not_after)

  own-from : (text : List ℕ) → IsUtf8 text → (p : ℕ) → p ≤ length text → IsTextPlace d text p → place_from (rows-in text) p ≡ p
  own-from text utf8 p inside is =
      let found = (finds-least d e.base e.width some text utf8).inside p inside in
      let low : p ≤ p = omega arith in
      let down = found.least p is low in
      omega (arith, down, found.not_before)

  module _ (holds : HoldsLine d e) where
    abbrev text : List ℕ
    text = e.content.text

    abbrev number : ℕ
    number = paragraph_of (lengths d text) e.place

    abbrev start : ℕ
    start = (line d e).0

    order : start ≤ e.place
    order = (falls-at d text e.place number has.text refl).order

    abbrev front : List ℕ
    front = take start text

    abbrev back : List ℕ
    back = drop start text

    bounds : IsCharBoundary text start
    bounds = (begin_at d text has.text number (falls-at d text e.place number has.text refl).within).bounds

    parts-at-start : parts d (chars front) (chars back) ≡ true
    parts-at-start = (begin_at d text has.text number (falls-at d text e.place number has.text refl).within).parts

    front-utf8 : IsUtf8 front
    front-utf8 = IsUtf8-take text start has.text bounds

    back-utf8 : IsUtf8 back
    back-utf8 = IsUtf8-drop text start has.text bounds

    whole : front ++ back ≡ text
    whole = take-append-drop start text

    start-inside : start ≤ length text
    start-inside = bounds.0

    inside : e.place ≤ length text
    inside = (place-between d text e.place has.text holds.place).0

    front-length : length front ≡ start
    front-length = length-take-le start text start-inside

    -- the place in the text from the line's start on
    abbrev offset : ℕ
    offset = e.place - start

    own-there : place_at (rows-in back) offset ≡ offset
    own-there =
        let low : length front ≤ e.place = omega (arith, front-length, order) in
        let moved = last_after_front d e.base e.width some front back e.place front-utf8 back-utf8 parts-at-start low in
        let at : place_at (rows-in (front ++ back)) e.place ≡ e.place =
        ap (λ t. place_at (rows-in t) e.place) whole ∙ own-at text has.text e.place holds.place in
        let same : e.place - length front ≡ offset = ap (λ n. e.place - n) front-length in
        let there : place_at (rows-in back) (e.place - length front) ≡ place_at (rows-in back) offset = ap (place_at (rows-in back)) same in
        omega (arith, moved, at, there, front-length, order)

    -- bytes that end a line there
    module _ (bytes : List ℕ) (utf8 : IsUtf8 bytes) (ends-line : EndsLine d bytes back) where
      abbrev ahead : List ℕ
      ahead = front ++ bytes

      abbrev new-text : List ℕ
      new-text = ahead ++ back

      ahead-utf8 : IsUtf8 ahead
      ahead-utf8 = IsUtf8-append front bytes front-utf8 utf8

      parts-here : parts d (chars ahead) (chars back) ≡ true
      parts-here =
          let there = parts-there d (chars bytes) (chars back) ends-line.ends ends-line.apart in
          let first = some-char d (chars bytes) ends-line.ends in
          ap (λ cs. parts d cs (chars back)) (chars-append front bytes front-utf8 ∙ ap (λ cs. chars front ++ cs) first.2)
          ∙ parts_append d (chars front) first.0 first.1 (chars back)
          ∙ ap (λ cs. parts d cs (chars back)) (sym first.2) ∙ there

      ahead-length : length ahead ≡ start + length bytes
      ahead-length = length-append front bytes ∙ ap (λ n. n + length bytes) front-length

      abbrev moved-place : ℕ
      moved-place = e.place + length bytes

      at-there : place_at (rows-in new-text) moved-place ≡ moved-place
      at-there =
          let low : length ahead ≤ moved-place = omega (arith, ahead-length, order) in
          let moved = last_after_front d e.base e.width some ahead back moved-place ahead-utf8 back-utf8 parts-here low in
          let same : moved-place - length ahead ≡ offset = omega (arith, ahead-length, order) in
          let there : place_at (rows-in back) (moved-place - length ahead) ≡ offset = ap (place_at (rows-in back)) same ∙ own-there in
          omega (arith, moved, there, ahead-length, order)

      new-utf8 : IsUtf8 new-text
      new-utf8 = IsUtf8-append ahead back ahead-utf8 back-utf8

      is-place : IsTextPlace d new-text moved-place
      is-place = subst (IsTextPlace d new-text) at-there (greatest-place d e.base e.width some new-text new-utf8 moved-place).is_place

      pub new-place : place_from (rows-in new-text) moved-place ≡ moved-place
      new-place =
          let short : moved-place ≤ length new-text =
          omega (arith, length-append ahead back, ahead-length, length-drop start text, inside, start-inside, order) in
          own-from new-text new-utf8 moved-place short is-place

      -- what stands from the cursor on
      pub same-rest : drop moved-place new-text ≡ drop e.place text
      same-rest =
          let split : moved-place ≡ offset + length ahead = omega (arith, ahead-length, order) in
          let back-to : offset + start ≡ e.place = omega (arith, order) in
          let swap : length ahead + offset ≡ offset + length ahead = omega arith in
          let swap-start : start + offset ≡ offset + start = omega arith in
          ap (λ n. drop n new-text) (split ∙ sym swap) ∙ sym (drop-drop offset (length ahead) new-text)
          ∙ ap (drop offset) (drop_at ahead back (length ahead) refl)
          ∙ drop-drop offset start text ∙ ap (λ n. drop n text) (swap-start ∙ back-to)

-- ---- Put

is-some : (held : List ℕ) → 0 < length held → (length held == 0) ≡ false
is-some held more = grind (arith, nat_tests)

fits-there : (size at new limit : ℕ) → size + new ≤ limit → nat_le (size - (at - at) + new) limit ≡ true
fits-there size at new limit few = grind (arith, nat_tests, few)

fits-nowhere : (size at new limit : ℕ) → limit < size + new → nat_le (size - (at - at) + new) limit ≡ false
fits-nowhere size at new limit many = grind (arith, nat_tests, many)

line-end-utf8 : (crlf : Bool) → IsUtf8 (if crlf then 0xD ∷ 0xA ∷ [] else 0xA ∷ [])
unfolding lib.Utf8.encode
line-end-utf8 true = (0xD ∷ 0xA ∷ [], (refl, refl))
line-end-utf8 false = (0xA ∷ [], (refl, refl))

line-utf8 : (held end : List ℕ) (as-is : Bool) → IsUtf8 held → IsUtf8 end → IsUtf8 (if as-is then held else held ++ end)
line-utf8 held end true utf8 end-utf8 = utf8
line-utf8 held end false utf8 end-utf8 = IsUtf8-append held end utf8 end-utf8

module _ (d : Data) (e : Editor) (holds : HoldsLine d e) where
  abbrev was : Editor
  was = cleared e

  abbrev bytes : List ℕ
  bytes = as_line d e e.held

  bytes-utf8 : IsUtf8 bytes
  bytes-utf8 =
      line-utf8 e.held (line_end d e.content.text) (ends_with_separator d e.held || is_line_empty d e.content.text e.place) holds.utf8
      (line-end-utf8 (has_crlf_first d e.content.text))

  abbrev one : Editor
  one = with_line_put d was bytes

  abbrev none : Editor
  none = record was { message = Some TextFull }

  put-is : after_key d None e Put ≡ behind (put_line d was bytes)
  put-is =
      free-done d None e Put holds.plain.settled refl refl holds.plain.unasked holds.plain.unsought holds.plain.writes
      ∙ ap (λ b. behind (if b then record was { message = Some NothingToPut } else
      if e.whole_line && not (is_selection e) then put_line d was bytes else put_in d was e.held false)) (is-some e.held holds.some)
      ∙ ap₂ (λ w s. behind (if w && not s then put_line d was bytes else put_in d was e.held false)) holds.whole holds.plain.unselected

  puts-line : PutsLine d e (after_key d None e Put)
  puts-line = record {
    fits = λ few.
        let room = fits-there (length e.content.text) (line d e).0 (length bytes) largest_text few in
        let is = put-is ∙ ap (λ b. behind (if b then one else none)) room in
        subst (PutsAbove d e bytes) (sym is) (record {
          text_is = refl;
          place_is = refl;
          same_place = λ ends. new-place d e holds.rows_fit holds bytes bytes-utf8 ends;
          same_character = λ ends.
              ap (λ n. drop n ((take (line d e).0 e.content.text ++ bytes) ++ drop (line d e).0 e.content.text))
              (new-place d e holds.rows_fit holds bytes bytes-utf8 ends) ∙ same-rest d e holds.rows_fit holds bytes bytes-utf8 ends;
        });
    full = λ many.
        let lacks = fits-nowhere (length e.content.text) (line d e).0 (length bytes) largest_text many in
        let is = put-is ∙ ap (λ b. behind (if b then one else none)) lacks in
        subst (IsRefused e) (sym is) (record { content_is = refl; place_is = refl; mark_is = refl; message_is = refl });
  }

pub line-goes-above : LineGoesAbove
line-goes-above d e holds = puts-line d e holds
