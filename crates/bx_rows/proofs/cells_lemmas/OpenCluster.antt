-- A cluster of simple characters that is read one by one: a character that begins, and marks.
use Rattle.std.proofs.Common.{◌≡◌, ℕ, ◌+◌, ◌-◌, ◌<◌, ◌≤◌, Bool, true, false, ◌||◌, cond, List, [], ◌∷◌, ◌++◌, map, length, take, drop, slice_range, Option}
use Rattle.std.proofs.Common.{Some, None, refl, sym, ap, ap₂, subst, ◌∙◌, arith, append_assoc, append-nil, length-append, encode_utf8, encode_utf8_all}
use Rattle.std.specs.List.{list_all, list_any}
use Rattle.std.specs.Str.{chars, IsUtf8, IsCharBoundary, all_scalars}
use Rattle.std.proofs.lemmas.Bool.{and_parts, and_from, or_left, or_right}
use Rattle.std.proofs.lemmas.Bool.Decides.{nat_tests}
use Rattle.std.proofs.lemmas.List.{drop-drop, drop_at, take_at, length-drop, nil_from_length}
use Rattle.std.proofs.lemmas.Str.{chars-nil, chars-encodes, chars_past_char, scalars-chars, encodes-append, IsUtf8-drop, IsCharBoundary-from_drop}
use Rattle.bx_ucd.specs.Data.{Data}
use Rattle.unicode_segmentation.specs.Grapheme.{graphemes, is_grapheme_break}
use Rattle.unicode_segmentation.specs.Segments.{prepend, cut, segments, with_offsets}
use Rattle.bx_common.specs.Characters.{is_control}
use Rattle.bx_rows.specs.declared.cells.unit.Face.{Face}
use Rattle.bx_rows.specs.declared.cells.unit.Face.TheVariants.{Placeholder}
use Rattle.bx_rows.specs.declared.cells.unit.Unit.{Unit}
use Rattle.bx_rows.specs.cells.Units.{face, face_of, only_char, format_letter, sized_face, unit_at}
use Rattle.bx_rows.specs.cells.Simple.{is_shown, own_columns, begins, is_mark, is_simple}
use Rattle.bx_rows.specs.cells.SimpleAt.{IsSimpleAt}
use Rattle.bx_rows.specs.cells.SimpleFace.{simple_face}
use Rattle.bx_rows.specs.cells.UnitFacts.{units_from}
use Rattle.bx_rows.proofs.cells_lemmas.FaceSteps.{by_letter, steps}
use Rattle.bx_rows.proofs.cells_lemmas.SimpleBreaks.{Begins-from_test, IsMark-from_test, mark_begins_none, breaks-simple}
use Rattle.bx_rows.proofs.cells_lemmas.SimpleColumns.{width-unit}
use Rattle.bx_rows.proofs.cells_lemmas.SimpleUnits.{unit_is_no_tab}
use Rattle.unicode_segmentation.proofs.TextLemmas.{encode_utf8_nonempty}
use Rattle.bx_rows.proofs.cells_lemmas.Locality.{cut-own}
use Rattle.bx_rows.proofs.cells_lemmas.Rest.{IsUtf8-past_all, chars_past_all, scalars_front}

-- a cluster of simple characters has marks: the list has what follows its first character
abbrev pub is_some_mark : List ℕ → Bool
is_some_mark [] = false
is_some_mark (m ∷ ms) = true

-- ---- its face

shown_no_control : (c : ℕ) → is_shown c ≡ true → is_control c ≡ false
shown_no_control c h = grind (arith, nat_tests)

marks_no_control : (ms : List ℕ) → list_all is_mark ms ≡ true → list_any is_control ms ≡ false
marks_no_control [] h = refl
marks_no_control (m ∷ ms) h =
    let p = and_parts (is_mark m) (list_all is_mark ms) h in
    ap₂ (λ x y. x || y) (shown_no_control m (IsMark-from_test m p.0).shown) (marks_no_control ms p.1)

only_of_marks : (ucd : Data) (c : ℕ) (ms : List ℕ) → format_letter ucd (only_char (c ∷ ms))
    ≡ format_letter ucd (cond (is_some_mark ms) None (Some c))
only_of_marks ucd c [] = refl
only_of_marks ucd c (m ∷ ms) = refl

only_of_open : (c : ℕ) (ms : List ℕ) → only_char (c ∷ ms) ≡ cond (is_some_mark ms) None (Some c)
only_of_open c [] = refl
only_of_open c (m ∷ ms) = refl

by_letter_is : (f : Face) (l : Option ℕ) → by_letter f l ≡ elim l [ Some letter ↦ Placeholder letter | None ↦ f ]
by_letter_is f (Some letter) = refl
by_letter_is f None = refl

pub face-simple : (ucd : Data) (w c : ℕ) (ms : List ℕ) → begins c ≡ true → list_all is_mark ms ≡ true
    → face_of ucd w (c ∷ ms) ≡ simple_face ucd w c (is_some_mark ms)
face-simple ucd w c ms b h =
    let shown = (Begins-from_test c b).shown in
    let none = ap₂ (λ x y. x || y) (shown_no_control c shown) (marks_no_control ms h) in
    let l = format_letter ucd (cond (is_some_mark ms) None (Some c)) in
    steps ucd w (c ∷ ms) false false l (unit_is_no_tab c ms shown) none (only_of_marks ucd c ms)
    ∙ ap (λ n. by_letter (sized_face w n) l) (width-unit c ms b h) ∙ by_letter_is (sized_face w (own_columns c)) l

-- ---- its end

mark_is_simple : (m : ℕ) → is_mark m ≡ true → is_simple m ≡ true
mark_is_simple m h = or_right (begins m) (is_mark m) h

begin_is_simple : (c : ℕ) → begins c ≡ true → is_simple c ≡ true
begin_is_simple c h = or_left (begins c) (is_mark c) h

cut_at_begin : (before : List ℕ) (c : ℕ) (ms : List ℕ) (d : ℕ) (ds : List ℕ) → is_simple c ≡ true → list_all is_mark ms ≡ true → begins d ≡ true
    → cut (is_grapheme_break true) before (c ∷ (ms ++ d ∷ ds)) [] ≡ (c ∷ ms) ∷ cut (is_grapheme_break true) [] (d ∷ ds) []
unfolding cut
cut_at_begin before c [] d ds s h b =
    let t = breaks-simple c d before (ds ++ []) s (begin_is_simple d b) ∙ b in
    let t' = breaks-simple c d before ds s (begin_is_simple d b) ∙ b in
    ap₂ (λ x rest. cond x ((c ∷ []) ∷ rest) (prepend (c ∷ []) rest)) t (cut-own (c ∷ before) d ds t')
cut_at_begin before c (m ∷ ms) d ds s h b =
    let p = and_parts (is_mark m) (list_all is_mark ms) h in
    let t = breaks-simple c m before ((ms ++ d ∷ ds) ++ []) s (mark_is_simple m p.0) ∙ mark_begins_none m p.0 in
    ap₂ (λ x rest. cond x ((c ∷ []) ∷ rest) (prepend (c ∷ []) rest)) t (cut_at_begin (c ∷ before) m ms d ds (mark_is_simple m p.0) p.1 b)

cut_at_end : (before : List ℕ) (c : ℕ) (ms : List ℕ) → is_simple c ≡ true → list_all is_mark ms ≡ true
    → cut (is_grapheme_break true) before (c ∷ ms) [] ≡ (c ∷ ms) ∷ []
unfolding cut is_grapheme_break
cut_at_end before c [] s h = refl
cut_at_end before c (m ∷ ms) s h =
    let p = and_parts (is_mark m) (list_all is_mark ms) h in
    let t = breaks-simple c m before (ms ++ []) s (mark_is_simple m p.0) ∙ mark_begins_none m p.0 in
    ap₂ (λ x rest. cond x ((c ∷ []) ∷ rest) (prepend (c ∷ []) rest)) t (cut_at_end (c ∷ before) m ms (mark_is_simple m p.0) p.1)

-- ---- reading it

-- the character c is at an offset, followed by marks up to the rest
pub record IsOpen (body : List ℕ) (start c : ℕ) (is_marked : Bool) (rest : List ℕ) : Type 0 where
  pub marks : List ℕ
  pub bytes : drop start body ≡ encode_utf8_all (c ∷ marks) ++ rest
  pub begin : begins c ≡ true
  pub all : list_all is_mark marks ≡ true
  pub mark : is_marked ≡ is_some_mark marks

pub open-first : (body : List ℕ) (start c : ℕ) (rest : List ℕ) → drop start body ≡ encode_utf8 c ++ rest → begins c ≡ true → IsOpen body start c false rest
open-first body start c rest e b =
    record { marks = []; bytes = e ∙ ap (λ x. x ++ rest) (sym (append-nil (encode_utf8 c))); begin = b; all = refl; mark = refl }

all_push : (ms : List ℕ) (m : ℕ) → list_all is_mark ms ≡ true → is_mark m ≡ true → list_all is_mark (ms ++ m ∷ []) ≡ true
all_push [] m h k = and_from (is_mark m) true k refl
all_push (x ∷ ms) m h k = let p = and_parts (is_mark x) (list_all is_mark ms) h in and_from (is_mark x) (list_all is_mark (ms ++ m ∷ [])) p.0
    (all_push ms m p.1 k)

some_push : (ms : List ℕ) (m : ℕ) → is_some_mark (ms ++ m ∷ []) ≡ true
some_push [] m = refl
some_push (x ∷ ms) m = refl

pub open-mark : (body : List ℕ) (start c : ℕ) (k : Bool) (rest : List ℕ) (m : ℕ) (more : List ℕ) → IsOpen body start c k rest → rest ≡ encode_utf8 m ++ more
    → is_mark m ≡ true → IsOpen body start c true more
open-mark body start c k rest m more o e h = record {
  marks = o.marks ++ m ∷ [];
  bytes = o.bytes ∙ ap (λ x. encode_utf8_all (c ∷ o.marks) ++ x) (e ∙ ap (λ x. x ++ more) (sym (append-nil (encode_utf8 m))))
      ∙ sym (append_assoc (encode_utf8_all (c ∷ o.marks)) (encode_utf8_all (m ∷ [])) more)
      ∙ ap (λ x. x ++ more) (sym (encodes-append (c ∷ o.marks) (m ∷ [])));
  begin = o.begin;
  all = all_push o.marks m o.all h;
  mark = sym (some_push o.marks m);
}

-- the unit of an open cluster that ends at an offset
abbrev pub open_unit : Data → ℕ → ℕ → ℕ → ℕ → Bool → Unit
open_unit ucd w start stop c k = record { start = start; stop = stop; face = simple_face ucd w c k }

module _ (body : List ℕ) (start c : ℕ) (k : Bool) (rest : List ℕ) (u : IsUtf8 body) (b : IsCharBoundary body start) (o : IsOpen body start c k rest) where
  open-chars : chars (drop start body) ≡ c ∷ (o.marks ++ chars rest)
  open-chars = chars_past_all (c ∷ o.marks) rest (drop start body) (IsUtf8-drop body start u b) o.bytes

  open-width : (stop : ℕ) → stop + length rest ≡ length body → start + length (encode_utf8_all (c ∷ o.marks)) ≡ stop
  open-width stop e =
      let count = ap length o.bytes ∙ length-append (encode_utf8_all (c ∷ o.marks)) rest in
      let within : start ≤ length body = b.0 in
      omega (arith, count, within, length-drop start body, e)

  open-face : (ucd : Data) (w : ℕ) → face ucd w (encode_utf8_all (c ∷ o.marks)) ≡ simple_face ucd w c k
  open-face ucd w =
      let valid = scalars_front (c ∷ o.marks) (chars rest) (ap all_scalars (sym open-chars) ∙ scalars-chars (drop start body) (IsUtf8-drop body start u b)) in
      ap (face_of ucd w) (chars-encodes (c ∷ o.marks) valid) ∙ face-simple ucd w c o.marks o.begin o.all ∙ ap (simple_face ucd w c) (sym o.mark)

  open-unit : (ucd : Data) (w stop : ℕ) → stop + length rest ≡ length body
      → unit_at ucd w (start, encode_utf8_all (c ∷ o.marks)) ≡ open_unit ucd w start stop c k
  open-unit ucd w stop e = ap₂ (λ n f. record { start = start; stop = n; face = f }) (open-width stop e) (open-face ucd w)

  pub open-left : (stop : ℕ) → stop + length rest ≡ length body → drop stop body ≡ rest
  open-left stop e =
      let n = length (encode_utf8_all (c ∷ o.marks)) in
      ap (λ m. drop m body) (sym (open-width stop e)) ∙ sym (drop-drop n start body) ∙ ap (drop n) o.bytes ∙ drop_at (encode_utf8_all (c ∷ o.marks)) rest n refl

  pub open-boundary : (stop : ℕ) → stop + length rest ≡ length body → IsCharBoundary body stop
  open-boundary stop e =
      let valid = IsUtf8-past_all (c ∷ o.marks) rest (drop start body) (IsUtf8-drop body start u b) o.bytes in
      IsCharBoundary-from_drop body stop (omega (arith, e)) (subst IsUtf8 (sym (open-left stop e)) valid)

  -- the next character begins: the cluster ends before it
  pub open-next : (ucd : Data) (w stop d : ℕ) (more : List ℕ) → stop + length rest ≡ length body → rest ≡ encode_utf8 d ++ more → begins d ≡ true
      → units_from ucd w body start ≡ open_unit ucd w start stop c k ∷ units_from ucd w body stop
  unfolding segments with_offsets
  open-next ucd w stop d more e f begin =
      let R = is_grapheme_break true in
      let first = encode_utf8_all (c ∷ o.marks) in
      let valid = IsUtf8-past_all (c ∷ o.marks) rest (drop start body) (IsUtf8-drop body start u b) o.bytes in
      let next : chars rest ≡ d ∷ chars more = chars_past_char rest more d valid f in
      let clusters : graphemes true (drop start body) ≡ first ∷ graphemes true rest =
      ap (λ cs. map encode_utf8_all (cut R [] cs [])) (open-chars ∙ ap (λ x. c ∷ (o.marks ++ x)) next)
      ∙ ap (map encode_utf8_all) (cut_at_begin [] c o.marks d (chars more) (begin_is_simple c o.begin) o.all begin)
      ∙ ap (λ cs. first ∷ map encode_utf8_all (cut R [] cs [])) (sym next) in
      ap (λ gs. map (unit_at ucd w) (with_offsets start gs)) clusters
      ∙ ap₂ (λ x n. x ∷ map (unit_at ucd w) (with_offsets n (graphemes true rest))) (open-unit ucd w stop e) (open-width stop e)
      ∙ ap (λ x. open_unit ucd w start stop c k ∷ map (unit_at ucd w) (with_offsets stop (graphemes true x))) (sym (open-left stop e))

  -- nothing is left: the cluster ends with the body
  pub open-last : (ucd : Data) (w stop : ℕ) → stop ≡ length body → length rest ≡ 0
      → units_from ucd w body start ≡ open_unit ucd w start stop c k ∷ []
  unfolding segments with_offsets
  open-last ucd w stop e z =
      let R = is_grapheme_break true in
      let none : rest ≡ [] = nil_from_length rest z in
      let whole : stop + length rest ≡ length body = omega (arith, e, z) in
      let clusters : graphemes true (drop start body) ≡ encode_utf8_all (c ∷ o.marks) ∷ [] =
      ap (λ cs. map encode_utf8_all (cut R [] cs [])) (open-chars ∙ ap (λ x. c ∷ (o.marks ++ chars x)) none ∙ ap (λ x. c ∷ (o.marks ++ x)) chars-nil
      ∙ append-nil (c ∷ o.marks))
      ∙ ap (map encode_utf8_all) (cut_at_end [] c o.marks (begin_is_simple c o.begin) o.all) in
      ap (λ gs. map (unit_at ucd w) (with_offsets start gs)) clusters ∙ ap (λ x. x ∷ []) (open-unit ucd w stop whole)

  pub open-none : (ucd : Data) (w stop : ℕ) → stop ≡ length body → length rest ≡ 0 → units_from ucd w body stop ≡ []
  unfolding segments with_offsets cut
  open-none ucd w stop e z =
      let none : rest ≡ [] = nil_from_length rest z in
      let whole : stop + length rest ≡ length body = omega (arith, e, z) in
      ap (λ x. map (unit_at ucd w) (with_offsets stop (map encode_utf8_all (cut (is_grapheme_break true) [] (chars x) [])))) (open-left stop whole ∙ none)
      ∙ ap (λ x. map (unit_at ucd w) (with_offsets stop (map encode_utf8_all (cut (is_grapheme_break true) [] x [])))) chars-nil

  open-only : (stop : ℕ) → stop + length rest ≡ length body → only_char (chars (slice_range body start stop)) ≡ cond k None (Some c)
  open-only stop e =
      let first = encode_utf8_all (c ∷ o.marks) in
      let valid = scalars_front (c ∷ o.marks) (chars rest) (ap all_scalars (sym open-chars) ∙ scalars-chars (drop start body) (IsUtf8-drop body start u b)) in
      let width : length first ≡ stop - start = let same = open-width stop e in omega (arith, same) in
      ap (λ x. only_char (chars (take (stop - start) x))) o.bytes
      ∙ ap (λ x. only_char (chars x)) (take_at first rest (stop - start) width)
      ∙ ap only_char (chars-encodes (c ∷ o.marks) valid) ∙ only_of_open c o.marks ∙ ap (λ x. cond x None (Some c)) (sym o.mark)

  open-grows : (stop : ℕ) → stop + length rest ≡ length body → start < stop
  open-grows stop e =
      let width = open-width stop e in
      let some = encode_utf8_nonempty c in
      omega (arith, width, some, length-append (encode_utf8 c) (encode_utf8_all o.marks))

  -- a cluster that is read to its end
  pub at-next : (stop d n : ℕ) (more : List ℕ) → stop + length rest ≡ length body → rest ≡ encode_utf8 d ++ more → begins d ≡ true → own_columns c ≡ n
      → IsSimpleAt body start (record { first = c; columns = n; is_marked = k; stop = stop })
  at-next stop d n more e f begin columns = record {
    units = λ ucd w. open-next ucd w stop d more e f begin;
    only = open-only stop e;
    columns = columns;
    grows = open-grows stop e;
    boundary = open-boundary stop e;
  }

  pub at-last : (stop n : ℕ) → stop ≡ length body → length rest ≡ 0 → own_columns c ≡ n
      → IsSimpleAt body start (record { first = c; columns = n; is_marked = k; stop = stop })
  at-last stop n e z columns =
      let whole : stop + length rest ≡ length body = omega (arith, e, z) in
      record {
        units = λ ucd w. open-last ucd w stop e z ∙ ap (λ x. open_unit ucd w start stop c k ∷ x) (sym (open-none ucd w stop e z));
        only = open-only stop whole;
        columns = columns;
        grows = open-grows stop whole;
        boundary = open-boundary stop whole;
      }
