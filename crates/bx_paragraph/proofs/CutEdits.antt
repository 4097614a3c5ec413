-- An edit between two strong characters, or from one on, is cut off.
use Rattle.std.proofs.Common.{◌≡◌, ◌<◌, ◌+◌, ◌∙◌, ℕ, true, false, List, ◌++◌, length, take, drop, map, get_or, chars, ap, ap₂, sym, subst, arith}
use Rattle.std.proofs.Common.{◌⊎◌, length-append, inl, inr}
use Rattle.std.specs.Str.{IsUtf8}
use Rattle.std.specs.List.{list_all, list_any}
use Rattle.std.proofs.lemmas.List.{get_or-append-add}
use Rattle.std.proofs.lemmas.Str.{chars-append, IsUtf8-drop}
use Rattle.std.proofs.Math.Seq.{drop-append-add, take-append-add}
use Rattle.bx_ucd.specs.Data.{Data}
use Rattle.bx_ucd.specs.declared.class.Class.{Class}
use Rattle.bx_ucd.specs.Class.{is_strong}
use Rattle.bx_levels.specs.declared.resolve.paragraph.Levels.{Levels}
use Rattle.bx_levels.specs.resolve.Edited.{FollowsBetween, FollowsToEnd, HasNoFormatting, IsCutBetween, IsCutToEnd, IsSafe}
use Rattle.bx_levels.specs.resolve.Uniform.{all_pass}
use Rattle.bx_levels.specs.resolve.Edited.{between, end_piece, is_listed, old_index, old_text, one_way, piece}
use Rattle.bx_paragraph.specs.Cuts.{FollowsEdit, IsBareEdit, IsCutOffEdit, IsOpenEdit, IsStrongIn}
use Rattle.bx_paragraph.specs.Cuts.{edit_of, has_no_bracket, is_bare, is_of_direction, direction_between}
use Rattle.bx_paragraph.specs.declared.strong.Strong.{Strong}
use Rattle.bx_paragraph.specs.declared.direction.Direction.{Direction}
use Rattle.bx_paragraph.specs.declared.direction.Direction.TheVariants.{Either}
use Rattle.bx_paragraph.specs.declared.text_edit.TextEdit.{TextEdit}
use Rattle.bx_paragraph.proofs.Bare.{bare-three, bare-unformatted, bare-unlisted, bare-direction, of-one-way, unlisted, unlisted-append}
use Rattle.bx_paragraph.proofs.Places.{chars-before}

module _ (ucd : Data) (t : TextEdit) (x : Strong) (at_x : IsStrongIn ucd t.near.now x) (i : ℕ)
    (i_is : i ≡ length (chars t.front.now) + x.index) where
  abbrev front : List ℕ
  front = chars t.front.now

  abbrev near : List ℕ
  near = chars t.near.now

  -- the text from the strong character on, and after it
  from-x : drop i (front ++ near) ≡ chars (drop x.start t.near.now)
  from-x = ap (λ k. drop k (front ++ near)) i_is ∙ drop-append-add front near x.index ∙ sym at_x.start.rest

  behind-x : drop (i + 1) (front ++ near) ≡ chars (drop x.stop t.near.now)
  behind-x =
      let n : i + 1 ≡ length front + (x.index + 1) = omega (arith, i_is) in
      ap (λ k. drop k (front ++ near)) n ∙ drop-append-add front near (x.index + 1) ∙ sym at_x.stop.rest

  inside-x : i < length (front ++ near)
  inside-x = omega (arith, i_is, at_x.inside, length-append front near)

  class-x : x.class ≡ ucd.class (get_or (front ++ near) i 0)
  class-x = at_x.class_is ∙ ap ucd.class (sym (ap (λ k. get_or (front ++ near) k 0) i_is ∙ get_or-append-add front near x.index 0))

  strong-x : is_strong (ucd.class (get_or (front ++ near) i 0)) ≡ true
  strong-x = subst (λ c. is_strong c ≡ true) class-x at_x.strong

  -- ---- up to another one

  module _ (y : Strong) (at_y : IsStrongIn ucd t.behind.now y) (utf8 : IsUtf8 t.behind.now) where
    strong-y : is_strong (ucd.class (get_or (chars t.behind.now) y.index 0)) ≡ true
    strong-y = subst (λ c. is_strong c ≡ true) at_y.class_is at_y.strong

    up-to-y : take y.index (chars t.behind.now) ≡ chars (take y.start t.behind.now)
    up-to-y = sym (chars-before t.behind.now y.index y.start utf8 at_y.start (omega (arith, at_y.inside)))

    piece-between : (text : List ℕ) → IsUtf8 t.near.now → IsUtf8 t.inserted.now
        → text ≡ drop x.start t.near.now ++ (t.inserted.now ++ take y.stop t.behind.now)
        → chars text ≡ piece (front ++ near) i (chars t.inserted.now) (chars t.behind.now) y.index
    piece-between text un ui e =
        let last = take y.stop t.behind.now in
        ap chars e ∙ chars-append (drop x.start t.near.now) (t.inserted.now ++ last) (IsUtf8-drop t.near.now x.start un at_x.start.boundary)
        ∙ ap (λ cs. chars (drop x.start t.near.now) ++ cs) (chars-append t.inserted.now last ui)
        ∙ ap₂ (λ a b. a ++ (chars t.inserted.now ++ b)) (sym from-x)
        (chars-before t.behind.now (y.index + 1) y.stop utf8 at_y.stop (omega (arith, at_y.inside)))

    -- no bracket pair around both strong characters sees the text between them
    abbrev IsOut : List Class → Type 0
    IsOut m = (one_way x.class y.class m ≡ true) ⊎ ((list_any (is_listed ucd) (take i (front ++ near)) ≡ false)
        ⊎ (list_any (is_listed ucd) (drop (y.index + 1) (chars t.behind.now)) ≡ false))

    module _ (direction : Direction) (bare : IsBareEdit ucd direction t (drop x.stop t.near.now) (take y.start t.behind.now))
        (out : (m : List Class) → all_pass (is_of_direction direction) m ≡ true → IsOut m) where
      bare-between : (s : List ℕ) → list_all (is_bare ucd direction) s ≡ true
          → list_all (is_bare ucd direction) (between (front ++ near) i s (chars t.behind.now) y.index) ≡ true
      bare-between s h =
          ap₂ (λ a b. list_all (is_bare ucd direction) (a ++ (s ++ b))) behind-x up-to-y
          ∙ bare-three ucd direction (chars (drop x.stop t.near.now)) s (chars (take y.start t.behind.now)) bare.left_is h bare.right_is

      safe : (s : List ℕ) → list_all (is_bare ucd direction) s ≡ true → IsSafe ucd (front ++ near) i s (chars t.behind.now) y.index
      safe s h =
          let m = between (front ++ near) i s (chars t.behind.now) y.index in
          let whole = bare-between s h in
          let none_before = list_any (is_listed ucd) (take i (front ++ near)) ≡ false in
          let none_behind = list_any (is_listed ucd) (drop (y.index + 1) (chars t.behind.now)) ≡ false in (
            bare-unlisted ucd direction m whole,
            subst (λ d. (one_way (ucd.class (get_or (front ++ near) i 0)) d (map ucd.class m) ≡ true) ⊎ (none_before ⊎ none_behind)) at_y.class_is
                (subst (λ c. (one_way c y.class (map ucd.class m) ≡ true) ⊎ (none_before ⊎ none_behind)) class-x
                (out (map ucd.class m) (bare-direction ucd direction m whole))),
          )

      cut-between : HasNoFormatting ucd (old_text (edit_of t)) → IsCutBetween ucd (edit_of t) i y.index
      cut-between old = record {
        in_before = inside-x;
        in_behind = at_y.inside;
        strong_before = strong-x;
        strong_behind = strong-y;
        old_unformatted = old;
        new_unformatted = bare-unformatted ucd direction (chars t.inserted.now) bare.inserted_is;
        old_safe = safe (chars t.removed.now) bare.removed_is;
        new_safe = safe (chars t.inserted.now) bare.inserted_is;
      }

      follows-by : (was now : Levels) (last : ℕ) (text : List ℕ) → IsUtf8 t.near.now → IsUtf8 t.inserted.now
          → text ≡ drop x.start t.near.now ++ (t.inserted.now ++ take y.stop t.behind.now)
          → last ≡ length front + (length near + (length (chars t.removed.now) + (y.index + 1)))
          → FollowsBetween ucd (chars text) i last was now → FollowsEdit ucd t was now
      follows-by was now last text un ui e l law base old levels =
          let at : last ≡ old_index (edit_of t) y.index = omega (arith, l, length-append front near) in
          law base (edit_of t) y.index (cut-between old) (piece-between text un ui e) at levels

    none-before : IsUtf8 t.near.now → has_no_bracket ucd t.front.now ≡ true → has_no_bracket ucd (take x.start t.near.now) ≡ true
        → list_any (is_listed ucd) (take i (front ++ near)) ≡ false
    none-before un h k =
        let up_to_x = chars-before t.near.now x.index x.start un at_x.start (omega (arith, at_x.inside)) in
        ap (λ n. list_any (is_listed ucd) (take n (front ++ near))) i_is
        ∙ ap (list_any (is_listed ucd)) (take-append-add front near x.index ∙ ap (λ xs. front ++ xs) (sym up_to_x))
        ∙ unlisted-append ucd front (chars (take x.start t.near.now)) h k

    none-behind : has_no_bracket ucd (drop y.stop t.behind.now) ≡ true → list_any (is_listed ucd) (drop (y.index + 1) (chars t.behind.now)) ≡ false
    none-behind h = ap (list_any (is_listed ucd)) (sym at_y.stop.rest) ∙ unlisted ucd (chars (drop y.stop t.behind.now)) h

    out-open : IsUtf8 t.near.now → IsOpenEdit ucd t x y → (m : List Class) → IsOut m
    out-open un (inl ahead) m = inr (inl (none-before un ahead.0 ahead.1))
    out-open un (inr behind) m = inr (inr (none-behind behind))

    pub follows-within : (was now : Levels) (last : ℕ) (text : List ℕ) → IsUtf8 t.near.now → IsUtf8 t.inserted.now
        → text ≡ drop x.start t.near.now ++ (t.inserted.now ++ take y.stop t.behind.now)
        → last ≡ length front + (length near + (length (chars t.removed.now) + (y.index + 1)))
        → FollowsBetween ucd (chars text) i last was now → IsCutOffEdit ucd t x y → FollowsEdit ucd t was now
    follows-within was now last text un ui e l law (inl bare) =
        follows-by (direction_between x.class y.class) bare (λ m pass. inl (of-one-way x.class y.class m at_x.strong at_y.strong pass)) was now last text un ui e l law
    follows-within was now last text un ui e l law (inr cut) =
        follows-by Either cut.0 (λ m pass. out-open un cut.1 m) was now last text un ui e l law

    -- the inserted text has no formatting characters
    pub cut-unformatted : IsCutOffEdit ucd t x y → HasNoFormatting ucd (chars t.inserted.now)
    cut-unformatted (inl bare) = bare-unformatted ucd (direction_between x.class y.class) (chars t.inserted.now) bare.inserted_is
    cut-unformatted (inr cut) = bare-unformatted ucd Either (chars t.inserted.now) cut.0.inserted_is

  -- ---- up to the end of the text

  module _ (bare : IsBareEdit ucd Either t (drop x.stop t.near.now) t.behind.now) where
    unlisted-from : (s : List ℕ) → list_all (is_bare ucd Either) s ≡ true
        → list_any (is_listed ucd) (drop (i + 1) (front ++ near) ++ (s ++ chars t.behind.now)) ≡ false
    unlisted-from s h =
        ap (λ a. list_any (is_listed ucd) (a ++ (s ++ chars t.behind.now))) behind-x
        ∙ bare-unlisted ucd Either (chars (drop x.stop t.near.now) ++ (s ++ chars t.behind.now))
        (bare-three ucd Either (chars (drop x.stop t.near.now)) s (chars t.behind.now) bare.left_is h bare.right_is)

    cut-to-end : HasNoFormatting ucd (old_text (edit_of t)) → IsCutToEnd ucd (edit_of t) i
    cut-to-end old = record {
      in_before = inside-x;
      strong_before = strong-x;
      old_unformatted = old;
      new_unformatted = bare-unformatted ucd Either (chars t.inserted.now) bare.inserted_is;
      old_bare = unlisted-from (chars t.removed.now) bare.removed_is;
      new_bare = unlisted-from (chars t.inserted.now) bare.inserted_is;
    }

    piece-to-end : (text : List ℕ) → IsUtf8 t.near.now → IsUtf8 t.inserted.now → text ≡ drop x.start t.near.now ++ (t.inserted.now ++ t.behind.now)
        → chars text ≡ end_piece (front ++ near) i (chars t.inserted.now) (chars t.behind.now)
    piece-to-end text un ui e =
        ap chars e ∙ chars-append (drop x.start t.near.now) (t.inserted.now ++ t.behind.now) (IsUtf8-drop t.near.now x.start un at_x.start.boundary)
        ∙ ap₂ (λ a b. a ++ b) (sym from-x) (chars-append t.inserted.now t.behind.now ui)

    pub follows-behind : (was now : Levels) (text : List ℕ) → IsUtf8 t.near.now → IsUtf8 t.inserted.now
        → text ≡ drop x.start t.near.now ++ (t.inserted.now ++ t.behind.now)
        → FollowsToEnd ucd (chars text) i was now → FollowsEdit ucd t was now
    follows-behind was now text un ui e law base old levels =
        law base (edit_of t) (cut-to-end old) (piece-to-end text un ui e) levels

-- the same between equal texts
pub bare-same : (ucd : Data) (direction other : Direction) (t : TextEdit) (left left_is right right_is : List ℕ) → direction ≡ other
    → left ≡ left_is → right ≡ right_is → IsBareEdit ucd direction t left right → IsBareEdit ucd other t left_is right_is
bare-same ucd direction other t left left_is right right_is e f h bare =
    subst (λ y. IsBareEdit ucd y t left_is right_is) e
    (subst (λ xs. IsBareEdit ucd direction t xs right_is) f (subst (λ xs. IsBareEdit ucd direction t left xs) h bare))
