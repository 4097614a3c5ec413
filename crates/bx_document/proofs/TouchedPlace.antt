-- The place after an edit can be found in the paragraphs that the edit touches; a place behind these moves with its text.
use Rattle.std.proofs.Common.{◌≡◌, ℕ, ◌+◌, ◌-◌, ◌<◌, ◌≤◌, ◌⊎◌, inl, inr, true, List, [], ◌++◌, length, take, drop, chars, slice_range}
use Rattle.std.proofs.Common.{IsUtf8, IsCharBoundary, refl, sym, ap, subst, ◌∙◌, arith, append_assoc, append-nil, length-append, length-drop}
use Rattle.std.proofs.Common.{⊎_elim}
use Rattle.std.proofs.lemmas.Bool.{cases_lt}
use Rattle.std.proofs.lemmas.List.{drop_all}
use Rattle.std.proofs.lemmas.List.{length-take-le, take-append-drop, take_all}
use Rattle.std.proofs.lemmas.Str.{chars-append, IsUtf8-append, IsUtf8-between, IsUtf8-drop}
use Rattle.std.proofs.lemmas.Str.{IsUtf8-take, IsCharBoundary-end}
use Rattle.bx_ucd.specs.Data.{Data}
use Rattle.bx_common.specs.declared.base.Base.{Base}
use Rattle.bx_text.specs.Edits.{splice}
use Rattle.bx_text.specs.Changes.{IsRange}
use Rattle.bx_text.specs.index.Paragraphs.{lengths, paragraph_of, total}
use Rattle.bx_text.proofs.index_lemmas.Cuts.{parts}
use Rattle.bx_text.proofs.index_lemmas.Turns.{total_lengths}
use Rattle.bx_view.specs.Moves.{place_at, place_from}
use Rattle.bx_view.specs.Numbers.{count, start_at}
use Rattle.bx_view.specs.TextRows.{TextRow, text_rows}
use Rattle.bx_view.proofs.Begins.{begin_at, drop_parts, no_chars, some_chars, take_parts}
use Rattle.bx_view.proofs.Cutting.{parts_ahead, parts_behind}
use Rattle.bx_view.proofs.LeastPlace.{place_before_back, place_after_front}
use Rattle.bx_view.proofs.Numbers.{falls-at, holds-of, lengths-count, some-paragraph}
use Rattle.bx_document.specs.Touched.{touched, touched_start, touched_stop}
use Rattle.bx_document.proofs.LastPlace.{last_after_front, last_at_end, last_before_back}

module _ (ucd : Data) (text : List ℕ) (utf8 : IsUtf8 text) where
  -- ---- where the touched paragraphs begin and end

  pub record IsFront (start at : ℕ) : Type 0 where
    pub bounds : IsCharBoundary text at
    pub order : at ≤ start
    pub some : (at ≡ 0) ⊎ (at < start)
    pub parts : parts ucd (chars (take at text)) (chars (drop at text)) ≡ true

  pub front_is : (start : ℕ) → IsFront start (touched_start ucd text start)
  front_is start =
      let falls = falls-at ucd text (start - 1) (paragraph_of (lengths ucd text) (start - 1)) utf8 refl in
      let begin = begin_at ucd text utf8 (paragraph_of (lengths ucd text) (start - 1)) falls.within in
      let at = touched_start ucd text start in
      record {
        bounds = begin.bounds;
        order = omega (arith, falls.order);
        some = ⊎_elim (λ less. inr less) (λ more. inl (omega (arith, more, falls.order))) (cases_lt at start);
        parts = begin.parts;
      }

  pub record IsBack (stop at : ℕ) : Type 0 where
    pub bounds : IsCharBoundary text at
    pub reached : stop ≤ at
    pub ends : (at ≡ length text) ⊎ ((stop < at) × (parts ucd (chars (take at text)) (chars (drop at text)) ≡ true))

  back_at : (stop n : ℕ) → stop ≤ length text → n ≡ paragraph_of (lengths ucd text) stop → IsBack stop (start_at ucd text (n + 1))
  back_at stop n inside e =
      let ls = lengths ucd text in
      let sized : length ls ≡ count ucd text = lengths-count ucd text in
      let holds = holds-of stop ls n (omega (arith, sized, some-paragraph ucd text utf8)) e in
      let at = start_at ucd text (n + 1) in
      ⊎_elim (λ more.
      let begin = begin_at ucd text utf8 (n + 1) more in
      let past : stop < at = omega (arith, holds.ended (omega (arith, more, sized))) in
      record { bounds = begin.bounds; reached = omega (arith, past); ends = inr (past, begin.parts) }) (λ none.
      let all : at ≡ length text = ap total (take_all (n + 1) ls (omega (arith, none, sized))) ∙ total_lengths ucd text utf8 in
      record { bounds = subst (IsCharBoundary text) (sym all) (IsCharBoundary-end text); reached = omega (arith, all, inside); ends = inl all })
      (cases_lt (n + 1) (count ucd text))

  pub back_is : (stop : ℕ) → stop ≤ length text → IsBack stop (touched_stop ucd text stop)
  back_is stop inside = back_at stop (paragraph_of (lengths ucd text) stop) inside refl

  -- ---- the text after an edit

  module _ (start stop : ℕ) (new : List ℕ) (range : IsRange text start stop) (new_utf8 : IsUtf8 new) where
    abbrev a : ℕ
    a = touched_start ucd text start

    abbrev b : ℕ
    b = touched_stop ucd text stop

    abbrev before : List ℕ
    before = take a text

    abbrev head : List ℕ
    head = slice_range text a start

    abbrev tail : List ℕ
    tail = slice_range text stop b

    abbrev behind_all : List ℕ
    behind_all = drop b text

    abbrev mine : List ℕ
    mine = touched ucd text start stop new

    stop_inside : stop ≤ length text
    stop_inside = let bounds : IsCharBoundary text stop = range.stop_bounds in bounds.0

    front : IsFront start a
    front = front_is start

    back : IsBack stop b
    back = back_is stop stop_inside

    pub whole : splice text start stop new ≡ before ++ (mine ++ behind_all)
    whole =
        ap (λ bs. bs ++ new ++ drop stop text) (take_parts a start text front.order) ∙ ap (λ bs. (before ++ head) ++ new ++ bs)
        (drop_parts stop b text back.reached)
        ∙ ap (λ bs. bs ++ (tail ++ behind_all)) (append_assoc before head new) ∙ append_assoc before (head ++ new) (tail ++ behind_all)
        ∙ ap (λ bs. before ++ bs) (sym (append_assoc (head ++ new) tail behind_all))

    before_utf8 : IsUtf8 before
    before_utf8 = IsUtf8-take text a utf8 front.bounds

    head_utf8 : IsUtf8 head
    head_utf8 = IsUtf8-between text a start utf8 front.order front.bounds range.start_bounds

    tail_utf8 : IsUtf8 tail
    tail_utf8 = IsUtf8-between text stop b utf8 back.reached range.stop_bounds back.bounds

    behind_utf8 : IsUtf8 behind_all
    behind_utf8 = IsUtf8-drop text b utf8 back.bounds

    head_new_utf8 : IsUtf8 (head ++ new)
    head_new_utf8 = IsUtf8-append head new head_utf8 new_utf8

    pub mine_utf8 : IsUtf8 mine
    mine_utf8 = IsUtf8-append (head ++ new) tail head_new_utf8 tail_utf8

    before_bytes : length before ≡ a
    before_bytes = let bounds : IsCharBoundary text a = front.bounds in length-take-le a text bounds.0

    start_inside : start ≤ length text
    start_inside = let bounds : IsCharBoundary text start = range.start_bounds in bounds.0

    head_bytes : length head ≡ start - a
    head_bytes = length-take-le (start - a) (drop a text) (omega (arith, length-drop a text, start_inside))

    mine_bytes : length mine ≡ start - a + length new + length tail
    mine_bytes = omega (arith, length-append (head ++ new) tail, length-append head new, head_bytes)

    -- the paragraphs before the touched ones end as before the edit
    front_at : (a ≡ 0) ⊎ (a < start) → parts ucd (chars before) (chars (mine ++ behind_all)) ≡ true
    front_at (inl none) =
        let bare : chars before ≡ [] = ap (λ n. chars (take n text)) none ∙ no_chars in
        ap (λ cs. parts ucd cs (chars (mine ++ behind_all))) bare
    front_at (inr less) =
        let rest = new ++ (tail ++ behind_all) in
        let now : mine ++ behind_all ≡ head ++ rest = append_assoc (head ++ new) tail behind_all ∙ append_assoc head new (tail ++ behind_all) in
        let was : drop a text ≡ head ++ drop start text = drop_parts a start text front.order in
        let some : 0 < length (chars head) = some_chars head (chars head) head_utf8 (omega (arith, head_bytes, less)) refl in
        ap (parts ucd (chars before)) (ap chars now ∙ chars-append head rest head_utf8)
        ∙ parts_ahead ucd (chars before) (chars head) (chars (drop start text)) (chars rest) some
        (ap (parts ucd (chars before)) (sym (ap chars was ∙ chars-append head (drop start text) head_utf8)) ∙ front.parts)

    tail_bytes : length tail ≡ b - stop
    tail_bytes =
        let bounds : IsCharBoundary text b = back.bounds in
        length-take-le (b - stop) (drop stop text) (omega (arith, length-drop stop text, bounds.0))

    -- and the paragraphs after them begin as before it, whatever precedes the last touched bytes
    behind_at : (front : List ℕ) → IsUtf8 front → stop < b → parts ucd (chars (take b text)) (chars behind_all) ≡ true
        → parts ucd (chars (front ++ tail)) (chars behind_all) ≡ true
    behind_at front front_utf8 past p =
        let was : take b text ≡ take stop text ++ tail = take_parts stop b text back.reached in
        let some : 0 < length (chars tail) = some_chars tail (chars tail) tail_utf8 (omega (arith, tail_bytes, past)) refl in
        ap (λ cs. parts ucd cs (chars behind_all)) (chars-append front tail front_utf8)
        ∙ parts_behind ucd (chars front) (chars (take stop text)) (chars tail) (chars behind_all) some
        (ap (λ cs. parts ucd cs (chars behind_all))
        (sym (ap chars was ∙ chars-append (take stop text) tail (IsUtf8-take text stop utf8 range.stop_bounds))) ∙ p)

    -- the place in the touched paragraphs is the same with the bytes after them
    back_at_end : (offset : ℕ) (base : Base) (w : ℕ) → 1 ≤ w → offset ≤ length mine
        → (b ≡ length text) ⊎ ((stop < b) × (parts ucd (chars (take b text)) (chars (drop b text)) ≡ true))
        → place_from (text_rows ucd base w (mine ++ behind_all)) offset ≡ place_from (text_rows ucd base w mine) offset
    back_at_end offset base w h within (inl all) =
        let none : behind_all ≡ [] = drop_all b text (omega (arith, all)) in
        ap (λ bs. place_from (text_rows ucd base w (mine ++ bs)) offset) none
        ∙ ap (λ bs. place_from (text_rows ucd base w bs) offset) (append-nil mine)
    back_at_end offset base w h within (inr (past, p)) =
        place_before_back ucd base w h mine behind_all offset mine_utf8 behind_utf8
        (behind_at (head ++ new) head_new_utf8 past p) within

    -- a place in or right after the new bytes
    pub touched_place : (base : Base) (w : ℕ) → 1 ≤ w → (offset : ℕ) → start ≤ offset → offset ≤ start + length new
        → place_from (text_rows ucd base w (splice text start stop new)) offset ≡ a + place_from (text_rows ucd base w mine) (offset - a)
    touched_place base w h offset from upto =
        let inner : offset - length before ≡ offset - a = omega (arith, before_bytes) in
        ap (λ bs. place_from (text_rows ucd base w bs) offset) whole
        ∙ place_after_front ucd base w h before (mine ++ behind_all) offset before_utf8 (IsUtf8-append mine behind_all mine_utf8 behind_utf8)
        (front_at front.some) (omega (arith, before_bytes, front.order))
        ∙ ap (λ n. length before + place_from (text_rows ucd base w (mine ++ behind_all)) n) inner
        ∙ ap (λ n. n + place_from (text_rows ucd base w (mine ++ behind_all)) (offset - a)) before_bytes
        ∙ ap (λ n. a + n) (back_at_end (offset - a) base w h (omega (arith, mine_bytes, front.order)) back.ends)

    pub splice_utf8 : IsUtf8 (splice text start stop new)
    splice_utf8 =
        subst IsUtf8 (sym whole) (IsUtf8-append before (mine ++ behind_all) before_utf8 (IsUtf8-append mine behind_all mine_utf8 behind_utf8))

    -- ---- the last place at or before an offset behind the new bytes

    splice_size : length (splice text start stop new) ≡ length text - stop + start + length new
    splice_size =
        omega (
          arith,
          length-append (take start text ++ new) (drop stop text),
          length-append (take start text) new,
          length-take-le start text start_inside,
          length-drop stop text,
          stop_inside,
        )

    module _ (base : Base) (w : ℕ) (h : 1 ≤ w) where
      abbrev rows : List ℕ → List TextRow
      rows bs = text_rows ucd base w bs

      last_at_back : (offset : ℕ) → offset < length mine
          → (b ≡ length text) ⊎ ((stop < b) × (parts ucd (chars (take b text)) (chars (drop b text)) ≡ true))
          → place_at (rows (mine ++ behind_all)) offset ≡ place_at (rows mine) offset
      last_at_back offset within (inl all) =
          let none : behind_all ≡ [] = drop_all b text (omega (arith, all)) in
          ap (λ bs. place_at (rows (mine ++ bs)) offset) none ∙ ap (λ bs. place_at (rows bs) offset) (append-nil mine)
      last_at_back offset within (inr (past, p)) =
          last_before_back ucd base w h mine behind_all offset mine_utf8 behind_utf8
          (behind_at (head ++ new) head_new_utf8 past p) within

      -- of an offset in the touched paragraphs
      pub touched_last : (offset : ℕ) → start ≤ offset → offset + stop < b + start + length new
          → place_at (rows (splice text start stop new)) offset ≡ a + place_at (rows mine) (offset - a)
      touched_last offset from inside =
          ap (λ bs. place_at (rows bs) offset) whole
          ∙ last_after_front ucd base w h before (mine ++ behind_all) offset before_utf8
          (IsUtf8-append mine behind_all mine_utf8 behind_utf8)
          (front_at front.some) (omega (arith, before_bytes, front.order, from))
          ∙ ap (λ n. n + place_at (rows (mine ++ behind_all)) (offset - n)) before_bytes
          ∙ ap (λ n. a + n) (last_at_back (offset - a) (omega (arith, mine_bytes, tail_bytes, front.order, from, inside)) back.ends)

      -- an offset behind the touched paragraphs moves with its place
      pub record IsMoved (offset : ℕ) : Type 0 where
        pub reached : b ≤ place_at (rows text) offset
        pub place : place_at (rows (splice text start stop new)) (offset - stop + start + length new)
            ≡ place_at (rows text) offset - stop + start + length new

      moved_at_end : (offset : ℕ) → offset ≡ length text → b ≡ length text → IsMoved offset
      moved_at_end offset last all =
          let to = offset - stop + start + length new in
          let now = splice text start stop new in
          let size : to ≡ length now = omega (arith, splice_size, last) in
          let was : place_at (rows text) offset ≡ length text =
          ap (place_at (rows text)) last ∙ last_at_end ucd base w h text utf8 in
          let is : place_at (rows now) to ≡ length now =
          ap (place_at (rows now)) size ∙ last_at_end ucd base w h now splice_utf8 in
          record { reached = omega (arith, was, all); place = omega (arith, is, was, splice_size) }

      moved_behind : (offset : ℕ) → b ≤ offset → stop < b
          → parts ucd (chars (take b text)) (chars behind_all) ≡ true → IsMoved offset
      moved_behind offset low past p =
          let to = offset - stop + start + length new in
          let kept = before ++ mine in
          let n = length kept in
          let y = place_at (rows behind_all) (offset - b) in
          let bounds : IsCharBoundary text b = back.bounds in
          let b_is : length (take b text) ≡ b = length-take-le b text bounds.0 in
          let n_is : n ≡ start + length new + (b - stop) =
          omega (arith, length-append before mine, before_bytes, mine_bytes, tail_bytes, front.order) in
          let kept_is : (before ++ (head ++ new)) ++ tail ≡ kept = append_assoc before (head ++ new) tail in
          let q : parts ucd (chars kept) (chars behind_all) ≡ true =
          ap (λ bs. parts ucd (chars bs) (chars behind_all)) (sym kept_is)
          ∙ behind_at (before ++ (head ++ new)) (IsUtf8-append before (head ++ new) before_utf8 head_new_utf8) past p in
          let was : place_at (rows text) offset ≡ b + y =
          ap (λ bs. place_at (rows bs) offset) (sym (take-append-drop b text))
          ∙ last_after_front ucd base w h (take b text) behind_all offset (IsUtf8-take text b utf8 back.bounds) behind_utf8 p
          (omega (arith, b_is, low))
          ∙ ap (λ k. k + place_at (rows behind_all) (offset - k)) b_is in
          let inner : to - n ≡ offset - b = omega (arith, n_is, past, low) in
          let is : place_at (rows (splice text start stop new)) to ≡ n + y =
          ap (λ bs. place_at (rows bs) to) (whole ∙ sym (append_assoc before mine behind_all))
          ∙ last_after_front ucd base w h kept behind_all to (IsUtf8-append before mine before_utf8 mine_utf8) behind_utf8 q
          (omega (arith, n_is, past, low))
          ∙ ap (λ k. n + place_at (rows behind_all) k) inner in
          record { reached = omega (arith, was); place = omega (arith, is, was, n_is, past) }

      pub moved_last : (offset : ℕ) → b ≤ offset → offset ≤ length text → IsMoved offset
      moved_last offset low high = ⊎_elim
          (λ all. moved_at_end offset (omega (arith, low, high, all)) all) (λ (past, p). moved_behind offset low past p) back.ends
