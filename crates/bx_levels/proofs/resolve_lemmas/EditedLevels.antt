-- The levels of a paragraph after an edit, by the indexes of a strong character before the edit and one after it.
use Rattle.std.proofs.Common.{append_assoc, ◌≡◌, ◌<◌, ◌+◌, ◌-◌, ◌∙◌, ℕ, List, [], ◌∷◌, ◌++◌, length, take, drop, map, get_or, ap}
use Rattle.std.proofs.Common.{ap₂, sym, subst, arith, true, false, Option, length-append, length-drop}
use Rattle.std.specs.List.{list_any}
use Rattle.std.proofs.lemmas.List.{at_drop_more, take_more, take-append-drop, length-take-le, map-append}
use Rattle.bx_ucd.specs.Data.{Data}
use Rattle.bx_ucd.specs.Class.{is_strong}
use Rattle.bx_common.specs.declared.base.Base.{Base}
use Rattle.bx_levels.specs.embedding.ParagraphLevel.{base_level}
use Rattle.bx_levels.specs.resolve.Uniform.{is_unformatted}
use Rattle.bx_levels.specs.resolve.Levels.{paragraph_levels, levels_under, paragraph_level_under}
use Rattle.bx_levels.proofs.resolve_lemmas.PlainKept.{Each}
use Rattle.bx_levels.proofs.resolve_lemmas.PlainLevels.{each_pass}
use Rattle.bx_levels.specs.resolve.Edited.{HasNoFormatting, IsSafe, between, end_piece, is_listed, piece}
use Rattle.bx_levels.proofs.resolve_lemmas.CutParagraph.{pass_each, more, less_front, less_back, edit_levels, edit_end_levels, base_stays}

-- a list at an index
split_at : (xs : List ℕ) (i : ℕ) → i < length xs → xs ≡ take i xs ++ (get_or xs i 0 ∷ drop (i + 1) xs)
split_at xs i h = sym (take-append-drop i xs) ∙ ap (λ ys. take i xs ++ ys) (at_drop_more (λ ys. ys) xs i 0 h)

seam : (a b s cf ma mb cb : List ℕ) (cx cy : ℕ) → a ≡ cf ++ (cx ∷ ma) → b ≡ mb ++ cy ∷ cb
    → a ++ (s ++ b) ≡ cf ++ (cx ∷ ((ma ++ (s ++ mb)) ++ cy ∷ cb))
seam a b s cf ma mb cb cx cy e f =
    ap₂ (λ xs ys. xs ++ (s ++ ys)) e f ∙ append_assoc cf (cx ∷ ma) (s ++ (mb ++ cy ∷ cb))
    ∙ ap (λ xs. cf ++ (cx ∷ xs)) (ap (λ ys. ma ++ ys) (sym (append_assoc s mb (cy ∷ cb))) ∙ sym (append_assoc ma (s ++ mb) (cy ∷ cb)))

module _ (ucd : Data) where
  each_of : (chars : List ℕ) → HasNoFormatting ucd chars → Each is_unformatted (map ucd.class chars)
  each_of chars h = each_pass is_unformatted (map ucd.class chars) h

  module _ (level : ℕ) (a removed inserted b : List ℕ) (i j : ℕ) (in_a : i < length a) (in_b : j < length b)
      (x_is : is_strong (ucd.class (get_or a i 0)) ≡ true) (y_is : is_strong (ucd.class (get_or b j 0)) ≡ true)
      (old : HasNoFormatting ucd (a ++ (removed ++ b))) (new : HasNoFormatting ucd inserted)
      (safe_old : IsSafe ucd a i removed b j) (safe_new : IsSafe ucd a i inserted b j) where
    piece_is : piece a i inserted b j ≡ get_or a i 0 ∷ (between a i inserted b j ++ get_or b j 0 ∷ [])
    piece_is =
        let cy : ℕ = get_or b j 0 in
        ap₂ (λ xs ys. xs ++ (inserted ++ ys)) (at_drop_more (λ xs. xs) a i 0 in_a) (take_more b j 0 in_b)
        ∙ ap (λ xs. get_or a i 0 ∷ xs) (ap (λ ys. drop (i + 1) a ++ ys) (sym (append_assoc inserted (take j b) (cy ∷ [])))
        ∙ sym (append_assoc (drop (i + 1) a) (inserted ++ take j b) (cy ∷ [])))

    pub edited_levels : paragraph_levels ucd level (a ++ (inserted ++ b))
        ≡ take i (paragraph_levels ucd level (a ++ (removed ++ b)))
        ++ (paragraph_levels ucd level (piece a i inserted b j)
        ++ drop (length a + length removed + (j + 1)) (paragraph_levels ucd level (a ++ (removed ++ b))))
    edited_levels =
        let levels : List ℕ → List (Option ℕ) = paragraph_levels ucd level in
        let cf : List ℕ = take i a in
        let ma : List ℕ = drop (i + 1) a in
        let mb : List ℕ = take j b in
        let cb : List ℕ = drop (j + 1) b in
        let cx : ℕ = get_or a i 0 in
        let cy : ℕ = get_or b j 0 in
        let sa : a ≡ cf ++ (cx ∷ ma) = split_at a i in_a in
        let sb : b ≡ mb ++ cy ∷ cb = split_at b j in_b in
        let was : a ++ (removed ++ b) ≡ cf ++ (cx ∷ ((ma ++ (removed ++ mb)) ++ cy ∷ cb)) = seam a b removed cf ma mb cb cx cy sa sb in
        let now : a ++ (inserted ++ b) ≡ cf ++ (cx ∷ ((ma ++ (inserted ++ mb)) ++ cy ∷ cb)) = seam a b inserted cf ma mb cb cx cy sa sb in
        let old_is : HasNoFormatting ucd (cf ++ (cx ∷ ((ma ++ (removed ++ mb)) ++ cy ∷ cb))) = subst (HasNoFormatting ucd) was old in
        let ua : Each is_unformatted (map ucd.class a) = less_front ucd level a (removed ++ b) (each_of (a ++ (removed ++ b)) old) in
        let ub : Each is_unformatted (map ucd.class b) =
        less_back ucd level removed b (less_back ucd level a (removed ++ b) (each_of (a ++ (removed ++ b)) old)) in
        let um : Each is_unformatted (map ucd.class (cx ∷ ma)) =
        less_back ucd level cf (cx ∷ ma) (subst (λ xs. Each is_unformatted (map ucd.class xs)) sa ua) in
        let un : Each is_unformatted (map ucd.class mb) = less_front ucd level mb (cy ∷ cb) (subst (λ xs. Each is_unformatted (map ucd.class xs)) sb ub) in
        let new_is : HasNoFormatting ucd (ma ++ (inserted ++ mb)) = pass_each is_unformatted (map ucd.class (ma ++ (inserted ++ mb)))
        (more ucd level ma (inserted ++ mb) um.1 (more ucd level inserted mb (each_of inserted new) un)) in
        let lf : length cf ≡ i = length-take-le i a (omega arith) in
        let la : length ma ≡ length a - (i + 1) = length-drop (i + 1) a in
        let lb : length mb ≡ j = length-take-le j b (omega arith) in
        let lm : length (ma ++ (removed ++ mb)) ≡ length ma + (length removed + length mb) =
        length-append ma (removed ++ mb) ∙ ap (λ n. length ma + n) (length-append removed mb) in
        let n : length cf + (length (ma ++ (removed ++ mb)) + 2) ≡ length a + length removed + (j + 1) = omega arith in
        ap levels now
        ∙ edit_levels ucd level cf cx (ma ++ (removed ++ mb)) (ma ++ (inserted ++ mb)) cy cb x_is y_is old_is new_is safe_old safe_new
        ∙ ap₂ (λ k xs. take k (levels xs) ++ (levels (cx ∷ ((ma ++ (inserted ++ mb)) ++ cy ∷ [])) ++ drop (length cf + (length (ma ++ (removed ++ mb)) + 2)) (levels xs)))
        lf (sym was)
        ∙ ap₂ (λ xs k. take i (levels (a ++ (removed ++ b))) ++ (levels xs ++ drop k (levels (a ++ (removed ++ b))))) (sym piece_is) n

  -- under a base: the paragraph level stays, too
  level_stays : (base : Base) (a s t : List ℕ) (i : ℕ) → i < length a → is_strong (ucd.class (get_or a i 0)) ≡ true → HasNoFormatting ucd (take i a)
      → paragraph_level_under ucd base (a ++ s) ≡ paragraph_level_under ucd base (a ++ t)
  level_stays base a s t i h x_is u =
      let cf : List ℕ = take i a in
      let cx : ℕ = get_or a i 0 in
      let ma : List ℕ = drop (i + 1) a in
      let by : (r : List ℕ) → map ucd.class (a ++ r) ≡ map ucd.class cf ++ (ucd.class cx ∷ map ucd.class (ma ++ r)) =
      λ r. ap (λ xs. map ucd.class (xs ++ r)) (split_at a i h) ∙ ap (map ucd.class) (append_assoc cf (cx ∷ ma) r) ∙ map-append ucd.class cf (cx ∷ (ma ++ r)) in
      ap (base_level base) (by s) ∙ base_stays base (map ucd.class cf) (ucd.class cx) (map ucd.class (ma ++ s)) (map ucd.class (ma ++ t)) u x_is
      ∙ ap (base_level base) (sym (by t))

  module _ (base : Base) (a removed inserted b : List ℕ) (i j : ℕ) (in_a : i < length a) (in_b : j < length b)
      (x_is : is_strong (ucd.class (get_or a i 0)) ≡ true) (y_is : is_strong (ucd.class (get_or b j 0)) ≡ true)
      (old : HasNoFormatting ucd (a ++ (removed ++ b))) (new : HasNoFormatting ucd inserted)
      (safe_old : IsSafe ucd a i removed b j) (safe_new : IsSafe ucd a i inserted b j) where
    pub edited_paragraph_level : paragraph_level_under ucd base (a ++ (inserted ++ b)) ≡ paragraph_level_under ucd base (a ++ (removed ++ b))
    edited_paragraph_level =
        let ua : Each is_unformatted (map ucd.class a) = less_front ucd 0 a (removed ++ b) (each_of (a ++ (removed ++ b)) old) in
        let uf : Each is_unformatted (map ucd.class (take i a)) = less_front ucd 0 (take i a) (drop i a)
        (subst (λ xs. Each is_unformatted (map ucd.class xs)) (sym (take-append-drop i a)) ua) in
        level_stays base a (inserted ++ b) (removed ++ b) i in_a x_is (pass_each is_unformatted (map ucd.class (take i a)) uf)

    -- all levels after the edit, from the levels before it and the levels of the piece
    pub edited_under : levels_under ucd base (a ++ (inserted ++ b))
        ≡ take i (levels_under ucd base (a ++ (removed ++ b)))
        ++ (paragraph_levels ucd (paragraph_level_under ucd base (a ++ (removed ++ b))) (piece a i inserted b j)
        ++ drop (length a + length removed + (j + 1)) (levels_under ucd base (a ++ (removed ++ b))))
    edited_under =
        ap (λ l. paragraph_levels ucd l (a ++ (inserted ++ b))) edited_paragraph_level
        ∙ edited_levels (paragraph_level_under ucd base (a ++ (removed ++ b))) a removed inserted b i j in_a in_b x_is y_is old new safe_old safe_new

  -- no strong character after the edit
  join_front : (a s : List ℕ) (i : ℕ) → i < length a → a ++ s ≡ take i a ++ (get_or a i 0 ∷ (drop (i + 1) a ++ s))
  join_front a s i h = ap (λ xs. xs ++ s) (split_at a i h) ∙ append_assoc (take i a) (get_or a i 0 ∷ drop (i + 1) a) s

  module _ (base : Base) (a removed inserted : List ℕ) (i : ℕ) (in_a : i < length a) (x_is : is_strong (ucd.class (get_or a i 0)) ≡ true)
      (old : HasNoFormatting ucd (a ++ removed)) (new : HasNoFormatting ucd inserted)
      (safe_old : list_any (is_listed ucd) (drop (i + 1) a ++ removed) ≡ false)
      (safe_new : list_any (is_listed ucd) (drop (i + 1) a ++ inserted) ≡ false) where
    pub edited_end_under : levels_under ucd base (a ++ inserted)
        ≡ take i (levels_under ucd base (a ++ removed))
        ++ paragraph_levels ucd (paragraph_level_under ucd base (a ++ removed)) (drop i a ++ inserted)
    edited_end_under =
        let level : ℕ = paragraph_level_under ucd base (a ++ removed) in
        let levels : List ℕ → List (Option ℕ) = paragraph_levels ucd level in
        let cf : List ℕ = take i a in
        let ma : List ℕ = drop (i + 1) a in
        let cx : ℕ = get_or a i 0 in
        let was : a ++ removed ≡ cf ++ (cx ∷ (ma ++ removed)) = join_front a removed i in_a in
        let now : a ++ inserted ≡ cf ++ (cx ∷ (ma ++ inserted)) = join_front a inserted i in_a in
        let ua : Each is_unformatted (map ucd.class a) = less_front ucd 0 a removed (each_of (a ++ removed) old) in
        let us : Each is_unformatted (map ucd.class (cf ++ (cx ∷ ma))) = subst (λ xs. Each is_unformatted (map ucd.class xs)) (split_at a i in_a) ua in
        let uf : Each is_unformatted (map ucd.class cf) = less_front ucd 0 cf (cx ∷ ma) us in
        let um : Each is_unformatted (map ucd.class (cx ∷ ma)) = less_back ucd 0 cf (cx ∷ ma) us in
        let new_is : HasNoFormatting ucd (ma ++ inserted) =
        pass_each is_unformatted (map ucd.class (ma ++ inserted)) (more ucd 0 ma inserted um.1 (each_of inserted new)) in
        let lf : length cf ≡ i = length-take-le i a (omega arith) in
        ap (λ l. paragraph_levels ucd l (a ++ inserted))
        (level_stays base a inserted removed i in_a x_is (pass_each is_unformatted (map ucd.class cf) uf))
        ∙ ap levels now
        ∙ edit_end_levels ucd level cf cx (ma ++ removed) (ma ++ inserted) x_is (subst (HasNoFormatting ucd) was old) new_is safe_old safe_new
        ∙ ap₂ (λ k xs. take k (levels xs) ++ levels (cx ∷ (ma ++ inserted))) lf (sym was)
        ∙ ap (λ xs. take i (levels (a ++ removed)) ++ levels (xs ++ inserted)) (sym (at_drop_more (λ xs. xs) a i 0 in_a))

  -- the same with an unchanged text after it
  module _ (base : Base) (a removed inserted b : List ℕ) (i : ℕ) (in_a : i < length a) (x_is : is_strong (ucd.class (get_or a i 0)) ≡ true)
      (old : HasNoFormatting ucd (a ++ (removed ++ b))) (new : HasNoFormatting ucd inserted)
      (safe_old : list_any (is_listed ucd) (drop (i + 1) a ++ (removed ++ b)) ≡ false)
      (safe_new : list_any (is_listed ucd) (drop (i + 1) a ++ (inserted ++ b)) ≡ false) where
    pub level_to_end : paragraph_level_under ucd base (a ++ (inserted ++ b)) ≡ paragraph_level_under ucd base (a ++ (removed ++ b))
    level_to_end =
        let of_a : Each is_unformatted (map ucd.class a) = less_front ucd 0 a (removed ++ b) (each_of (a ++ (removed ++ b)) old) in
        let of_front : Each is_unformatted (map ucd.class (take i a)) = less_front ucd 0 (take i a) (drop i a)
        (subst (λ xs. Each is_unformatted (map ucd.class xs)) (sym (take-append-drop i a)) of_a) in
        level_stays base a (inserted ++ b) (removed ++ b) i in_a x_is (pass_each is_unformatted (map ucd.class (take i a)) of_front)

    pub edited_to_end : levels_under ucd base (a ++ (inserted ++ b))
        ≡ take i (levels_under ucd base (a ++ (removed ++ b)))
        ++ paragraph_levels ucd (paragraph_level_under ucd base (a ++ (removed ++ b))) (end_piece a i inserted b)
    edited_to_end =
        let of_b : Each is_unformatted (map ucd.class b) = less_back ucd 0 removed b
        (less_back ucd 0 a (removed ++ b) (each_of (a ++ (removed ++ b)) old)) in
        let of_new : HasNoFormatting ucd (inserted ++ b) =
        pass_each is_unformatted (map ucd.class (inserted ++ b)) (more ucd 0 inserted b (each_of inserted new) of_b) in
        edited_end_under base a (removed ++ b) (inserted ++ b) i in_a x_is old of_new safe_old safe_new
