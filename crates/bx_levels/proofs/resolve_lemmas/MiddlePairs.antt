-- N0 over a list with an addition in its middle: the parts before and after the middle get the same types as without it.
use Rattle.std.proofs.Common.{append_assoc, ◌≡◌, ◌<◌, ◌≤◌, ◌+◌, ◌-◌, ◌∙◌, ◌⊎◌, inl, inr, ℕ, List}
use Rattle.std.proofs.Common.{[], ◌∷◌, ◌++◌, length, take, drop, reverse, map, refl, ap, ap₂}
use Rattle.std.proofs.Common.{sym, subst, arith, Bool, false, Option, Some, None, length-append}
use Rattle.bx_ucd.specs.declared.class.Class.{Class}
use Rattle.bx_levels.specs.brackets.Resolve.{nearest, pair_direction, change_bracket, context_of, resolve_pair, resolve_pairs}
use Rattle.bx_levels.proofs.brackets_lemmas.Context.{change_length}
use Rattle.bx_levels.proofs.resolve_lemmas.MovedPairs.{shift, shift_below, shift_from, moved_pair}
use Rattle.bx_levels.proofs.resolve_lemmas.FramedPairs.{in_front, in_back, around, changed, resolved_by, changed_both, HasSame, same_within, same_direction}

changed_length : (m : Option Class) (was : List Bool) (i j : ℕ) (ts : List Class) → i < j → j < length ts → length (changed m was i j ts) ≡ length ts
changed_length None was i j ts h k = refl
changed_length (Some d) was i j ts h k =
    let l : length (change_bracket d was ts i) ≡ length ts = change_length d was ts i (omega arith) in
    change_length d was (change_bracket d was ts i) j (omega arith) ∙ l

pub resolved_length : (e sos : Class) (was : List Bool) (i j : ℕ) (ts : List Class) → i < j → j < length ts
    → length (resolve_pair e sos was (i, j) ts) ≡ length ts
resolved_length e sos was i j ts h k = ap length (resolved_by e sos was i j ts)
    ∙ changed_length (pair_direction e (context_of sos ts i) (take (j - i - 1) (drop (i + 1) ts))) was i j ts h k

-- two lists that are the same but for their middles
pub record AreFramed (n l : ℕ) (mid other whole short : List Class) : Type 0 where
  pub front : List Class
  pub back : List Class
  pub whole_is : whole ≡ front ++ (mid ++ back)
  pub short_is : short ≡ front ++ (other ++ back)
  pub front_is : length front ≡ n
  pub back_is : length back ≡ l

-- a place that is not in the middle
abbrev pub IsOutside : ℕ → ℕ → ℕ → Type 0
IsOutside n k j = (j < n) ⊎ (n + k ≤ j)

-- a pair around or beside the middle
pub record IsApart (n k l : ℕ) (same : Type 0) (p : ℕ × ℕ) : Type 0 where
  pub ordered : p.0 < p.1
  pub ends : p.1 < n + (k + l)
  pub opener : IsOutside n k p.0
  pub closer : IsOutside n k p.1
  pub crossing : p.0 < n → n + k ≤ p.1 → same

abbrev pub AreApart : ℕ → ℕ → ℕ → Type 0 → List (ℕ × ℕ) → Type 0
AreApart n k l same [] = Unit {0}
AreApart n k l same (p ∷ ps) = IsApart n k l same p × AreApart n k l same ps

-- the two middles: `mid` has `m` more types than `other`, neither begins with an NSM, and after each the nearest direction is `y`
module _ (e sos y : Class) (n l m : ℕ) (wf wm wo wb : List Bool) (mid other : List Class)
    (wf_is : length wf ≡ n) (wb_is : length wb ≡ l) (wm_is : length (false ∷ wm) ≡ length mid) (wo_is : length (false ∷ wo) ≡ length other)
    (more : length mid ≡ length other + m)
    (near_mid : (f : List Class) → nearest sos (reverse (f ++ mid)) ≡ y) (near_other : (f : List Class) → nearest sos (reverse (f ++ other)) ≡ y) where
  abbrev was_whole : List Bool
  was_whole = wf ++ (false ∷ wm ++ wb)

  abbrev was_short : List Bool
  was_short = wf ++ (false ∷ wo ++ wb)

  in_front_at : (w : List Bool) (c front back ts : List Class) (i j : ℕ) → ts ≡ front ++ (c ++ back) → length front ≡ n → i < j → j < n
      → resolve_pair e sos (wf ++ (false ∷ w ++ wb)) (i, j) ts ≡ resolve_pair e sos wf (i, j) front ++ (c ++ back)
  in_front_at w c front back ts i j t f h k = ap (resolve_pair e sos (wf ++ (false ∷ w ++ wb)) (i, j)) t
      ∙ in_front e sos wf (w ++ wb) front (c ++ back) i j (omega arith) h (omega arith)

  front_step : (whole short : List Class) (i j : ℕ) → i < j → j < n → AreFramed n l mid other whole short
      → AreFramed n l mid other (resolve_pair e sos was_whole (i, j) whole) (resolve_pair e sos was_short (i, j) short)
  front_step whole short i j h k a =
      let f : length a.front ≡ n = a.front_is in
      record {
        front = resolve_pair e sos wf (i, j) a.front;
        back = a.back;
        whole_is = in_front_at wm mid a.front a.back whole i j a.whole_is f h k;
        short_is = in_front_at wo other a.front a.back short i j a.short_is f h k;
        front_is = resolved_length e sos wf i j a.front h (omega arith) ∙ f;
        back_is = a.back_is;
      }

  in_back_at : (w : List Bool) (c front back ts : List Class) (i j : ℕ) → length (false ∷ w) ≡ length c
      → ((f : List Class) → nearest sos (reverse (f ++ c)) ≡ y)
      → ts ≡ front ++ (c ++ back) → length front ≡ n → i < j
      → resolve_pair e sos (wf ++ (false ∷ w ++ wb)) (n + (length c + i), n + (length c + j)) ts ≡ front ++ (c ++ resolve_pair e y wb (i, j) back)
  in_back_at w c front back ts i j v near t f h =
      let q : length (front ++ c) ≡ length front + length c = length-append front c in
      let s : length (wf ++ false ∷ w) ≡ length wf + length (false ∷ w) = length-append wf (false ∷ w) in
      let a : n + (length c + i) ≡ length (front ++ c) + i = omega arith in
      let b : n + (length c + j) ≡ length (front ++ c) + j = omega arith in
      ap (resolve_pair e sos (wf ++ (false ∷ w ++ wb)) (n + (length c + i), n + (length c + j))) (t ∙ sym (append_assoc front c back))
      ∙ ap (λ ws. resolve_pair e sos ws (n + (length c + i), n + (length c + j)) ((front ++ c) ++ back)) (sym (append_assoc wf (false ∷ w) wb))
      ∙ ap₂ (λ u z. resolve_pair e sos ((wf ++ false ∷ w) ++ wb) (u, z) ((front ++ c) ++ back)) a b
      ∙ in_back e sos y (wf ++ false ∷ w) wb (front ++ c) back i j (omega arith) (near front) h
      ∙ append_assoc front c (resolve_pair e y wb (i, j) back)

  back_step : (whole short : List Class) (i j : ℕ) → i < j → j < l → AreFramed n l mid other whole short
      → AreFramed n l mid other (resolve_pair e sos was_whole (n + (length mid + i), n + (length mid + j)) whole)
      (resolve_pair e sos was_short (n + (length other + i), n + (length other + j)) short)
  back_step whole short i j h k a =
      let b : length a.back ≡ l = a.back_is in
      record {
        front = a.front;
        back = resolve_pair e y wb (i, j) a.back;
        whole_is = in_back_at wm mid a.front a.back whole i j wm_is near_mid a.whole_is a.front_is h;
        short_is = in_back_at wo other a.front a.back short i j wo_is near_other a.short_is a.front_is h;
        front_is = a.front_is;
        back_is = resolved_length e y wb i j a.back h (omega arith) ∙ b;
      }

  around_at : (w : List Bool) (c front back ts : List Class) (i j : ℕ) → length (false ∷ w) ≡ length c
      → ts ≡ front ++ (c ++ back) → length front ≡ n → i < n
      → resolve_pair e sos (wf ++ (false ∷ w ++ wb)) (i, n + (length c + j)) ts
      ≡ changed_both (pair_direction e (context_of sos front i) (drop (i + 1) front ++ (c ++ take j back))) wf wb i j front c back
  around_at w c front back ts i j v t f h =
      let a : n + (length c + j) ≡ length front + (length c + j) = omega arith in
      ap (resolve_pair e sos (wf ++ (false ∷ w ++ wb)) (i, n + (length c + j))) t
      ∙ ap (λ u. resolve_pair e sos (wf ++ (false ∷ w ++ wb)) (i, u) (front ++ (c ++ back))) a
      ∙ around e sos wf w wb front c back i j (omega arith) v (omega arith)

  both_framed : (d : Option Class) (front back whole short : List Class) (i j : ℕ) → length front ≡ n → length back ≡ l → i < n → j < l
      → whole ≡ changed_both d wf wb i j front mid back → short ≡ changed_both d wf wb i j front other back → AreFramed n l mid other whole short
  both_framed None front back whole short i j f b h k u v =
      record { front = front; back = back; whole_is = u; short_is = v; front_is = f; back_is = b }
  both_framed (Some d) front back whole short i j f b h k u v = record {
    front = change_bracket d wf front i;
    back = change_bracket d wb back j;
    whole_is = u;
    short_is = v;
    front_is = change_length d wf front i (omega arith) ∙ f;
    back_is = change_length d wb back j (omega arith) ∙ b;
  }

  around_step : (whole short : List Class) (i j : ℕ) → i < n → j < l → HasSame mid other → AreFramed n l mid other whole short
      → AreFramed n l mid other (resolve_pair e sos was_whole (i, n + (length mid + j)) whole)
      (resolve_pair e sos was_short (i, n + (length other + j)) short)
  around_step whole short i j h k same a =
      let context : Class = context_of sos a.front i in
      let inside : List Class → List Class = λ c. drop (i + 1) a.front ++ (c ++ take j a.back) in
      let d : pair_direction e context (inside mid) ≡ pair_direction e context (inside other) =
      same_direction e context (inside mid) (inside other) (same_within mid other (drop (i + 1) a.front) (take j a.back) same) in
      both_framed (pair_direction e context (inside other)) a.front a.back (resolve_pair e sos was_whole (i, n + (length mid + j)) whole)
      (resolve_pair e sos was_short (i, n + (length other + j)) short) i j a.front_is a.back_is h k
      (around_at wm mid a.front a.back whole i j wm_is a.whole_is a.front_is h ∙ ap (λ x. changed_both x wf wb i j a.front mid a.back) d)
      (around_at wo other a.front a.back short i j wo_is a.short_is a.front_is h)

  -- at the last type of `other`, `mid` has `m` more
  abbrev move : ℕ → ℕ
  move j = shift (n + length other) m j

  moved_front : (j : ℕ) → j < n → move j ≡ j
  moved_front j h = shift_below (n + length other) m j (omega arith)

  moved_back : (j i : ℕ) → j ≡ n + (length other + i) → move j ≡ n + (length mid + i)
  moved_back j i h = let e : move j ≡ j + m = shift_from (n + length other) m j (omega arith) in omega arith

  step_at : (whole short : List Class) (p q p_new q_new : ℕ) → p_new ≡ move p → q_new ≡ move q → IsApart n (length other) l (HasSame mid other) (p, q)
      → AreFramed n l mid other whole short
      → AreFramed n l mid other (resolve_pair e sos was_whole (p_new, q_new) whole) (resolve_pair e sos was_short (p, q) short)
  step_at whole short p q p_new q_new a b h framed =
      let o : p < q = h.ordered in
      let z : q < n + (length other + l) = h.ends in
      let to : (u v u_new v_new : ℕ) → p ≡ u → q ≡ v → p_new ≡ u_new → q_new ≡ v_new
      → AreFramed n l mid other (resolve_pair e sos was_whole (u_new, v_new) whole) (resolve_pair e sos was_short (u, v) short)
      → AreFramed n l mid other (resolve_pair e sos was_whole (p_new, q_new) whole) (resolve_pair e sos was_short (p, q) short) =
      λ u v u_new v_new eu ev fu fv r. subst (λ x. AreFramed n l mid other x (resolve_pair e sos was_short (p, q) short))
      (ap₂ (λ x y. resolve_pair e sos was_whole (x, y) whole) (sym fu) (sym fv))
      (subst (AreFramed n l mid other (resolve_pair e sos was_whole (u_new, v_new) whole))
      (ap₂ (λ x y. resolve_pair e sos was_short (x, y) short) (sym eu) (sym ev)) r) in
      elim h.opener [
        | inl pf ↦ elim h.closer [
          | inl qf ↦ to p q p q refl refl (a ∙ moved_front p pf) (b ∙ moved_front q qf) (front_step whole short p q o qf framed)
          | inr qb ↦
              let j : ℕ = q - (n + length other) in
              let eq : q ≡ n + (length other + j) = omega arith in
              to p (n + (length other + j)) p (n + (length mid + j)) refl eq (a ∙ moved_front p pf) (b ∙ moved_back q j eq)
              (around_step whole short p j pf (omega arith) (h.crossing pf qb) framed)
        ]
        | inr pb ↦
            let i : ℕ = p - (n + length other) in
            let j : ℕ = q - (n + length other) in
            let ep : p ≡ n + (length other + i) = omega arith in
            let eq : q ≡ n + (length other + j) = omega arith in
            to (n + (length other + i)) (n + (length other + j)) (n + (length mid + i)) (n + (length mid + j)) ep eq (a ∙ moved_back p i ep)
            (b ∙ moved_back q j eq) (back_step whole short i j (omega arith) (omega arith) framed)
      ]

  -- all pairs, one after another
  pub pairs_framed : (ps : List (ℕ × ℕ)) (whole short : List Class) → AreApart n (length other) l (HasSame mid other) ps
      → AreFramed n l mid other whole short
      → AreFramed n l mid other (resolve_pairs e sos was_whole (map (moved_pair (shift (n + length other) m)) ps) whole)
      (resolve_pairs e sos was_short ps short)
  pairs_framed [] whole short h a = a
  pairs_framed (p ∷ ps) whole short h a =
      let new : AreFramed n l mid other (resolve_pair e sos was_whole (move p.0, move p.1) whole) (resolve_pair e sos was_short p short) =
      step_at whole short p.0 p.1 (move p.0) (move p.1) refl refl h.0 a in
      pairs_framed ps (resolve_pair e sos was_whole (move p.0, move p.1) whole) (resolve_pair e sos was_short p short) h.1 new
