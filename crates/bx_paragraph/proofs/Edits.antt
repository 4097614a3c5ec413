-- An edit of a body, in parts of it.
use Rattle.std.proofs.Common.{◌≡◌, ◌≤◌, ◌+◌, ◌-◌, ◌∙◌, ℕ, true, Option, List, [], ◌∷◌, ◌++◌, length, take, drop, get_or, map, chars, refl, ap, ap₂, sym, subst, arith}
use Rattle.std.proofs.Common.{append_assoc, drop-drop, length-append, All}
use Rattle.std.specs.Str.{IsCharBoundary, IsUtf8}
use Rattle.std.specs.List.{list_all}
use Rattle.std.proofs.lemmas.Bool.{and_parts}
use Rattle.std.proofs.lemmas.List.{get_or-map, length-map, take-append-drop}
use Rattle.std.proofs.lemmas.Str.{chars-append, IsUtf8-between, IsUtf8-take}
use Rattle.bx_ucd.specs.Data.{Data}
use Rattle.unicode_segmentation.proofs.TextLemmas.{take_split}
use Rattle.bx_common.specs.declared.base.Base.{Base}
use Rattle.bx_levels.specs.declared.resolve.paragraph.Levels.{Levels}
use Rattle.bx_levels.specs.resolve.Edited.{AreLevelsOf, HasNoFormatting, new_text, old_text}
use Rattle.bx_levels.specs.resolve.Levels.{levels_under, paragraph_level_under, sequence_levels}
use Rattle.bx_levels.specs.resolve.Uniform.{is_unformatted}
use Rattle.bx_levels.specs.embedding.Sequences.{direction}
use Rattle.bx_levels.proofs.resolve_lemmas.PlainKept.{Each}
use Rattle.bx_levels.proofs.resolve_lemmas.PlainLengths.{levels_length}
use Rattle.bx_levels.proofs.resolve_lemmas.PlainLevels.{each_pass, found, unformatted_levels}
use Rattle.bx_levels.proofs.resolve_lemmas.CutParagraph.{less_back, less_front, pass_each}
use Rattle.bx_rows.specs.declared.wrapping.Row.{Row}
use Rattle.bx_rows.specs.declared.start_search.RowStart.{RowStart}
use Rattle.bx_rows.specs.RowStarts.{start_of}
use Rattle.bx_rows.specs.Wrapping.{wrap}
use Rattle.bx_rows.specs.cells.Units.{units}
use Rattle.bx_paragraph.specs.Cuts.{FollowsEdit, IsCounted, IsEditOf, edit_of, is_of_direction}
use Rattle.bx_paragraph.specs.Layout.{IsLayoutBy, LayoutState}
use Rattle.bx_paragraph.specs.declared.text_edit.TextEdit.{TextEdit}
use Rattle.bx_paragraph.specs.declared.direction.Direction.TheVariants.{Either}
use Rattle.bx_paragraph.proofs.Bare.{plain-append}

-- ---- the parts of a body

part : (xs : List ℕ) (i j : ℕ) → i ≤ j → drop i xs ≡ take (j - i) (drop i xs) ++ drop j xs
part xs i j h =
    let n : i + (j - i) ≡ j = omega arith in
    sym (take-append-drop (j - i) (drop i xs)) ∙ ap (λ ys. take (j - i) (drop i xs) ++ ys) (drop-drop (j - i) i xs ∙ ap (λ k. drop k xs) n)

pub edit-of : (body : List ℕ) (from start stop : ℕ) (t : TextEdit) → IsUtf8 body → IsUtf8 t.inserted.now → IsCharBoundary body from
    → IsCharBoundary body start → IsCharBoundary body stop → from ≤ start → start ≤ stop → t.front.now ≡ take from body
    → t.ahead ≡ length (chars (take from body)) → t.near.now ≡ take (start - from) (drop from body) → t.removed.now ≡ take (stop - start) (drop start body) → t.behind.now ≡ drop stop body
    → IsEditOf body (take start body ++ (t.inserted.now ++ drop stop body)) t
edit-of body from start stop t u v at_from at_start at_stop le le_stop front ahead near removed behind = record {
  front_is = subst IsUtf8 (sym front) (IsUtf8-take body from u at_from);
  near_is = subst IsUtf8 (sym near) (IsUtf8-between body from start u le at_from at_start);
  removed_is = subst IsUtf8 (sym removed) (IsUtf8-between body start stop u le_stop at_start at_stop);
  inserted_is = v;
  ahead_is = ahead ∙ ap (λ xs. length (chars xs)) (sym front);
  before = sym (take-append-drop from body)
      ∙ ap₂ (λ xs ys. xs ++ ys) (sym front) (part body from start le ∙ ap₂ (λ xs ys. xs ++ ys) (sym near)
      (part body start stop le_stop ∙ ap₂ (λ xs ys. xs ++ ys) (sym removed) (sym behind)));
  after = ap (λ xs. xs ++ (t.inserted.now ++ drop stop body)) (take_split body from start le ∙ ap₂ (λ xs ys. xs ++ ys) (sym front) (sym near))
      ∙ append_assoc t.front.now t.near.now (t.inserted.now ++ drop stop body)
      ∙ ap (λ xs. t.front.now ++ (t.near.now ++ (t.inserted.now ++ xs))) (sym behind);
}

-- ---- their characters

joined-chars : (front near middle behind : List ℕ) → IsUtf8 front → IsUtf8 near → IsUtf8 middle
    → chars (front ++ (near ++ (middle ++ behind))) ≡ (chars front ++ chars near) ++ (chars middle ++ chars behind)
joined-chars front near middle behind u v w =
    chars-append front (near ++ (middle ++ behind)) u ∙ ap (λ xs. chars front ++ xs) (chars-append near (middle ++ behind) v)
    ∙ ap (λ xs. chars front ++ (chars near ++ xs)) (chars-append middle behind w)
    ∙ sym (append_assoc (chars front) (chars near) (chars middle ++ chars behind))

module _ (old new : List ℕ) (t : TextEdit) (e : IsEditOf old new t) where
  old-chars : chars old ≡ old_text (edit_of t)
  old-chars = ap chars e.before ∙ joined-chars t.front.now t.near.now t.removed.now t.behind.now e.front_is e.near_is e.removed_is

  new-chars : chars new ≡ new_text (edit_of t)
  new-chars = ap chars e.after ∙ joined-chars t.front.now t.near.now t.inserted.now t.behind.now e.front_is e.near_is e.inserted_is

  module _ (ucd : Data) where
    -- as many levels as characters
    levels-count : (base : Base) → HasNoFormatting ucd (chars old) → length (levels_under ucd base (chars old)) ≡ length (chars old)
    levels-count base h =
        let level = paragraph_level_under ucd base (chars old) in
        let side = direction level in
        let cs = map ucd.class (chars old) in
        ap length (unformatted_levels ucd level (chars old) h)
        ∙ length-map (sequence_levels ucd level side side (chars old) cs) found
        ∙ levels_length ucd level side side (chars old) cs ∙ length-map (chars old) ucd.class

    pub whole-count : (base : Base) (each : List (Option ℕ)) → HasNoFormatting ucd (chars old) → each ≡ levels_under ucd base (chars old)
        → length each ≡ t.ahead + (length (chars t.near.now) + (length (chars t.removed.now) + length (chars t.behind.now)))
    whole-count base each h is =
        let near = chars t.near.now in
        let removed = chars t.removed.now in
        let behind = chars t.behind.now in
        let all : length each ≡ length ((chars t.front.now ++ near) ++ (removed ++ behind)) = ap length is ∙ levels-count base h ∙ ap length old-chars in
        omega (
          arith,
          all,
          length-append (chars t.front.now ++ near) (removed ++ behind),
          length-append (chars t.front.now) near,
          length-append removed behind,
          e.ahead_is,
        )

    -- the levels that follow
    pub levels-follow : (base : Base) (was now : Levels) → HasNoFormatting ucd (chars old) → FollowsEdit ucd t was now
        → AreLevelsOf ucd base (chars old) was → AreLevelsOf ucd base (chars new) now
    levels-follow base was now h law levels =
        subst (λ cs. AreLevelsOf ucd base cs now) (sym new-chars)
        (law base (subst (HasNoFormatting ucd) old-chars h)
        (subst (λ cs. AreLevelsOf ucd base cs was) old-chars levels))

    -- no formatting characters come
    pub stays-plain : HasNoFormatting ucd (chars old) → HasNoFormatting ucd (chars t.inserted.now) → HasNoFormatting ucd (chars new)
    stays-plain h k =
        let front = chars t.front.now ++ chars t.near.now in
        let behind = chars t.behind.now in
        let all = each_pass is_unformatted (map ucd.class (old_text (edit_of t))) (subst (HasNoFormatting ucd) old-chars h) in
        let before = less_front ucd 0 front (chars t.removed.now ++ behind) all in
        let after = less_back ucd 0 (chars t.removed.now) behind (less_back ucd 0 front (chars t.removed.now ++ behind) all) in
        subst (HasNoFormatting ucd) (sym new-chars)
        (plain-append ucd front (chars t.inserted.now ++ behind) (pass_each is_unformatted (map ucd.class front) before)
        (plain-append ucd (chars t.inserted.now) behind k (pass_each is_unformatted (map ucd.class behind) after)))

plain-each : (ucd : Data) (cs : List ℕ) → list_all (λ c. is_of_direction Either (ucd.class c)) cs ≡ true → Each is_unformatted (map ucd.class cs)
plain-each ucd [] h = tt
plain-each ucd (c ∷ cs) h =
    let p = and_parts (is_of_direction Either (ucd.class c)) (list_all (λ c. is_of_direction Either (ucd.class c)) cs) h in (p.0, plain-each ucd cs p.1)

-- a text that passes the test has none
pub plain-if : (ucd : Data) (cs : List ℕ) → list_all (λ c. is_of_direction Either (ucd.class c)) cs ≡ true → HasNoFormatting ucd cs
plain-if ucd cs h = pass_each is_unformatted (map ucd.class cs) (plain-each ucd cs h)

-- ---- rows

-- the characters before each row of a layout are counted
pub counted : (ucd : Data) (l : LayoutState) → IsLayoutBy ucd l → (body : List ℕ)
    (starts : List RowStart) → body ≡ l.body → starts ≡ l.starts → All (IsCounted body) starts
counted ucd l is body starts e f k d h =
    let us = units ucd l.w l.body in
    let rows = wrap ucd l.w l.body us in
    let none : Row = record { start = 0; stop = 0 } in
    let size : length starts ≡ length rows = ap length (f ∙ is.starts) ∙ length-map rows (start_of l.body us) in
    let at = ap (λ xs. get_or xs k d) (f ∙ is.starts) ∙ get_or-map (start_of l.body us) rows k none d (omega (arith, h, size)) in
    subst (λ b. IsCounted b (get_or starts k d)) (sym e) (subst (IsCounted l.body) (sym at) refl)
