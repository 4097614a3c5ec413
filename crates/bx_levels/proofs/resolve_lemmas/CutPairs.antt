-- N0 over a list without brackets between two strong types in its middle: the types before and after are as without that text.
use Rattle.std.proofs.Common.{append_assoc, ◌≡◌, ◌+◌, ◌∙◌, ℕ, List, [], ◌∷◌, ◌++◌, length, map, reverse, refl, ap, ap₂, sym, subst, arith, Bool}
use Rattle.std.proofs.Common.{true, false, length-append}
use Rattle.std.proofs.lemmas.List.{reverse-append}
use Rattle.bx_ucd.specs.Data.{Data}
use Rattle.bx_ucd.specs.declared.class.Class.{Class}
use Rattle.bx_ucd.specs.declared.class.Class.TheVariants.{L, R}
use Rattle.bx_levels.specs.brackets.Pairs.{is_on, pairs}
use Rattle.bx_levels.specs.brackets.Resolve.{nearest, resolve_pairs}
use Rattle.bx_levels.specs.resolve.Weak.{is_left_or_right}
use Rattle.bx_levels.proofs.resolve_lemmas.MovedPairs.{HasNoBracket, shift, moved_pair, pairs_moved}
use Rattle.bx_levels.proofs.resolve_lemmas.FramedPairs.{HasSame}
use Rattle.bx_levels.proofs.resolve_lemmas.MiddlePairs.{AreFramed, AreApart, pairs_framed}
use Rattle.bx_levels.proofs.resolve_lemmas.PairPlaces.{Uncrossed, pairs_apart, apart_moved}

pub turned_no_on : (x : Class) → is_left_or_right x ≡ true → is_on x ≡ false
turned_no_on L e = refl
turned_no_on R e = refl
turned_no_on _ e = absurd (cc)

pub nearest_first : (sos y : Class) (ts : List Class) → is_left_or_right y ≡ true → nearest sos (y ∷ ts) ≡ y
nearest_first sos L ts e = refl
nearest_first sos R ts e = refl
nearest_first sos _ ts e = absurd (cc)

nearest_last : (sos y : Class) (ts : List Class) → is_left_or_right y ≡ true → nearest sos (reverse (ts ++ y ∷ [])) ≡ y
nearest_last sos y ts e = ap (nearest sos) (reverse-append ts (y ∷ [])) ∙ nearest_first sos y (reverse ts) e

module _ (ucd : Data) (e sos : Class) (cf : List ℕ) (cx : ℕ) (cm : List ℕ) (cy : ℕ) (cb : List ℕ)
    (front : List Class) (x : Class) (ms : List Class) (y : Class) (back : List Class) (wf wm wb : List Bool)
    (x_is : is_left_or_right x ≡ true) (y_is : is_left_or_right y ≡ true)
    (cf_is : length cf ≡ length front) (cm_is : length cm ≡ length ms) (cb_is : length cb ≡ length back)
    (wf_is : length wf ≡ length front) (wm_is : length wm ≡ length ms) (wb_is : length wb ≡ length back)
    (none : HasNoBracket ucd cm ms) where
  abbrev whole : List Class
  whole = front ++ (x ∷ (ms ++ y ∷ back))

  abbrev short : List Class
  short = front ++ (x ∷ y ∷ back)

  abbrev short_pairs : List (ℕ × ℕ)
  short_pairs = pairs ucd (cf ++ (cx ∷ cy ∷ cb)) short

  moved_whole : pairs ucd (cf ++ (cx ∷ (cm ++ cy ∷ cb))) whole ≡ map (moved_pair (shift (length front + 1) (length ms))) short_pairs
  moved_whole =
      let l : length (cf ++ cx ∷ []) ≡ length (front ++ x ∷ []) = length-append cf (cx ∷ []) ∙ ap (λ n. n + 1) cf_is ∙ sym (length-append front (x ∷ [])) in
      ap₂ (pairs ucd) (sym (append_assoc cf (cx ∷ []) (cm ++ cy ∷ cb))) (sym (append_assoc front (x ∷ []) (ms ++ y ∷ back)))
      ∙ pairs_moved ucd (cf ++ cx ∷ []) cm (cy ∷ cb) (front ++ x ∷ []) ms (y ∷ back) l cm_is none
      ∙ ap (λ n. map (moved_pair (shift n (length ms))) (pairs ucd ((cf ++ cx ∷ []) ++ cy ∷ cb) ((front ++ x ∷ []) ++ y ∷ back)))
      (length-append front (x ∷ []))
      ∙ ap (map (moved_pair (shift (length front + 1) (length ms))))
      (ap₂ (pairs ucd) (append_assoc cf (cx ∷ []) (cy ∷ cb)) (append_assoc front (x ∷ []) (y ∷ back)))

  pub cut_pairs : Uncrossed ucd cf front cb back (HasSame (x ∷ (ms ++ y ∷ [])) (x ∷ y ∷ []))
      → AreFramed (length front) (length back) (x ∷ (ms ++ y ∷ [])) (x ∷ y ∷ [])
      (resolve_pairs e sos (wf ++ (false ∷ (wm ++ false ∷ wb))) (pairs ucd (cf ++ (cx ∷ (cm ++ cy ∷ cb))) whole) whole)
      (resolve_pairs e sos (wf ++ (false ∷ false ∷ wb)) short_pairs short)
  cut_pairs u =
      let n : ℕ = length front in
      let l : ℕ = length back in
      let m : ℕ = length ms in
      let mid : List Class = x ∷ (ms ++ y ∷ []) in
      let other : List Class = x ∷ y ∷ [] in
      let w : List Bool = wm ++ false ∷ [] in
      let apart : AreApart n 2 l (HasSame mid other) short_pairs =
      pairs_apart ucd cf cx cy cb front x y back cf_is cb_is (turned_no_on x x_is) (turned_no_on y y_is) (HasSame mid other) u in
      let ps : pairs ucd (cf ++ (cx ∷ (cm ++ cy ∷ cb))) whole ≡ map (moved_pair (shift (n + 2) m)) short_pairs =
      moved_whole ∙ apart_moved n m l (HasSame mid other) short_pairs apart in
      let a : length (ms ++ y ∷ []) ≡ length ms + 1 = length-append ms (y ∷ []) in
      let b : length w ≡ length wm + 1 = length-append wm (false ∷ []) in
      let more : length mid ≡ 2 + m = omega arith in
      let flags : wf ++ (false ∷ (w ++ wb)) ≡ wf ++ (false ∷ (wm ++ false ∷ wb)) = ap (λ ws. wf ++ (false ∷ ws)) (append_assoc wm (false ∷ []) wb) in
      let start : AreFramed n l mid other whole short = record {
        front = front;
        back = back;
        whole_is = ap (λ ts. front ++ (x ∷ ts)) (sym (append_assoc ms (y ∷ []) back));
        short_is = refl;
        front_is = refl;
        back_is = refl;
      } in
      let r : AreFramed n l mid other (resolve_pairs e sos (wf ++ (false ∷ (w ++ wb))) (map (moved_pair (shift (n + 2) m)) short_pairs) whole)
      (resolve_pairs e sos (wf ++ (false ∷ false ∷ wb)) short_pairs short) =
      pairs_framed e sos y n l m wf w (false ∷ []) wb mid other wf_is wb_is (omega arith) refl more
      (λ f. ap (λ ts. nearest sos (reverse ts)) (sym (append_assoc f (x ∷ ms) (y ∷ []))) ∙ nearest_last sos y (f ++ x ∷ ms) y_is)
      (λ f. ap (λ ts. nearest sos (reverse ts)) (sym (append_assoc f (x ∷ []) (y ∷ []))) ∙ nearest_last sos y (f ++ x ∷ []) y_is)
      short_pairs whole short apart start in
      subst (λ qs. AreFramed n l mid other (resolve_pairs e sos (wf ++ (false ∷ (wm ++ false ∷ wb))) qs whole)
      (resolve_pairs e sos (wf ++ (false ∷ false ∷ wb)) short_pairs short)) (sym ps)
      (subst (λ ws. AreFramed n l mid other (resolve_pairs e sos ws (map (moved_pair (shift (n + 2) m)) short_pairs) whole)
      (resolve_pairs e sos (wf ++ (false ∷ false ∷ wb)) short_pairs short)) flags r)
