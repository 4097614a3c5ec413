-- Classes between two strong types that keep the pairs around them unchanged.
use Rattle.std.proofs.Common.{◌≡◌, ◌+◌, ◌∙◌, ◌⊎◌, inl, inr, ℕ, suc, List, [], ◌∷◌, ◌++◌, length, take, drop, refl, ap, ap₂, sym, arith, Bool}
use Rattle.std.proofs.Common.{true, false, Option, Some, None, length-append, append_assoc}
use Rattle.std.specs.Prelude.{◌||◌}
use Rattle.std.specs.List.{list_any}
use Rattle.std.proofs.lemmas.List.{length-take-le}
use Rattle.std.proofs.lemmas.List.Folds.{list_any-append}
use Rattle.bx_ucd.specs.Data.{Data}
use Rattle.bx_ucd.specs.declared.class.Class.{Class}
use Rattle.bx_ucd.specs.declared.class.Class.TheVariants.{L, R, AL}
use Rattle.bx_ucd.specs.declared.data.Side.{Side}
use Rattle.bx_ucd.specs.Class.{is_strong}
use Rattle.bx_levels.specs.brackets.Pairs.{is_on, bracket_at}
use Rattle.bx_levels.specs.brackets.Resolve.{is_left, is_right, counts_as}
use Rattle.bx_levels.specs.resolve.Weak.{weak, w3_at}
use Rattle.bx_levels.specs.resolve.Edited.{one_way, is_listed_as, is_listed, IsCutOff}
use Rattle.bx_levels.specs.resolve.Uniform.{is_plain, is_from_right, all_pass}
use Rattle.bx_levels.proofs.resolve_lemmas.PlainTypes.{each_append, left_kept}
use Rattle.bx_levels.proofs.resolve_lemmas.RightLevels.{right_kept}
use Rattle.bx_levels.proofs.resolve_lemmas.PlainLevels.{each_pass}
use Rattle.bx_levels.proofs.resolve_lemmas.PlainLengths.{weak_length, levels_length}
use Rattle.bx_levels.proofs.resolve_lemmas.Cuts.{IsCut, weak_cut}
use Rattle.bx_levels.proofs.resolve_lemmas.MovedPairs.{HasNoBracket}
use Rattle.bx_levels.proofs.resolve_lemmas.FramedPairs.{HasSame}
use Rattle.bx_levels.proofs.resolve_lemmas.PairPlaces.{Uncrossed}
use Rattle.bx_levels.proofs.resolve_lemmas.CutLevels.{at_cut, between, weak_mid, weak_front, weak_back, cut_levels, take_front, drop_front}
use Rattle.bx_levels.specs.resolve.Levels.{sequence_levels}

first_cut : (x : Class) (whole back before after : List Class) → length before ≡ 0 → whole ≡ before ++ x ∷ after → back ≡ x ∷ after → whole ≡ back
first_cut x whole back [] after l w b = w ∙ sym b
first_cut x whole back (t ∷ ts) after l w b = absurd (omega arith)

-- after a strong type the start of sequence has no effect
sos_free : (x : Class) → is_strong x ≡ true → (sos other : Class) (ts : List Class) → weak sos (x ∷ ts) ≡ weak other (x ∷ ts)
sos_free x e sos other ts =
    let c : IsCut (w3_at x) 0 (weak sos (x ∷ ts)) (weak sos (x ∷ [])) (weak other (x ∷ ts)) =
    weak_cut sos other x e 0 (x ∷ ts) (x ∷ []) (x ∷ ts) (at_cut x [] ts) in
    first_cut (w3_at x) (weak sos (x ∷ ts)) (weak other (x ∷ ts)) c.before c.after c.before_is c.whole_is c.back_is

or_true : (b : Bool) → (b || true) ≡ true
or_true true = refl
or_true false = refl

-- two sides of two directions: both occur, with any types between
any_last : (p : Class → Bool) (ts : List Class) (y : Class) → p y ≡ true → list_any p (ts ++ y ∷ []) ≡ true
any_last p ts y e = list_any-append p ts (y ∷ []) ∙ ap (λ b. list_any p ts || (b || false)) e ∙ or_true (list_any p ts)

abbrev both_directions : Bool → Class → Bool
both_directions b t = elim b [ true ↦ is_left t | false ↦ is_right t ]

left_to_right : (ms : List Class) → HasSame (L ∷ (ms ++ R ∷ [])) (L ∷ R ∷ [])
left_to_right ms d = elim (is_left d) as (λ b. list_any (both_directions b) (L ∷ (ms ++ R ∷ [])) ≡ list_any (both_directions b) (L ∷ R ∷ []))
    [ true ↦ refl | false ↦ any_last is_right ms R refl ]

right_to_left : (ms : List Class) → HasSame (R ∷ (ms ++ L ∷ [])) (R ∷ L ∷ [])
right_to_left ms d = elim (is_left d) as (λ b. list_any (both_directions b) (R ∷ (ms ++ L ∷ [])) ≡ list_any (both_directions b) (R ∷ L ∷ []))
    [ true ↦ any_last is_left ms L refl | false ↦ refl ]

both_left : (ms : List Class) → list_any (counts_as R) (L ∷ (ms ++ L ∷ [])) ≡ false → HasSame (L ∷ (ms ++ L ∷ [])) (L ∷ L ∷ [])
both_left ms e d = elim (is_left d) as (λ b. list_any (both_directions b) (L ∷ (ms ++ L ∷ [])) ≡ list_any (both_directions b) (L ∷ L ∷ []))
    [ true ↦ refl | false ↦ e ]

both_right : (ms : List Class) → list_any (counts_as L) (R ∷ (ms ++ R ∷ [])) ≡ false → HasSame (R ∷ (ms ++ R ∷ [])) (R ∷ R ∷ [])
both_right ms e d = elim (is_left d) as (λ b. list_any (both_directions b) (R ∷ (ms ++ R ∷ [])) ≡ list_any (both_directions b) (R ∷ R ∷ []))
    [ true ↦ e | false ↦ refl ]

-- the types after W7 from the one to the other
weak_between : (sos x y : Class) → is_strong x ≡ true → is_strong y ≡ true → (m : List Class)
    → weak sos (x ∷ (m ++ y ∷ [])) ≡ w3_at x ∷ (weak_mid sos x y m ++ w3_at y ∷ [])
weak_between sos x y a b m = between (weak sos) x y (w3_at x) (w3_at y) (weak_length sos) (weak_cut sos sos x a) (weak_cut sos sos y b) m

left_one_way : (sos : Class) (m : List Class) → all_pass is_plain m ≡ true → HasSame (L ∷ (weak_mid sos L L m ++ L ∷ [])) (L ∷ L ∷ [])
left_one_way sos m e =
    both_left (weak_mid sos L L m) (ap (list_any (counts_as R)) (sym (weak_between sos L L refl refl m) ∙ sos_free L refl sos L (m ++ L ∷ []))
    ∙ left_kept (L ∷ (m ++ L ∷ [])) (refl, each_append is_plain m (L ∷ []) (each_pass is_plain m e) (refl, tt)))

right_one_way : (sos x y : Class) → is_strong x ≡ true → is_strong y ≡ true → w3_at x ≡ R → w3_at y ≡ R → is_from_right x ≡ true → is_from_right y ≡ true
    → (m : List Class) → all_pass is_from_right m ≡ true → HasSame (R ∷ (weak_mid sos x y m ++ R ∷ [])) (R ∷ R ∷ [])
right_one_way sos x y a b c d f g m e =
    both_right (weak_mid sos x y m) (ap₂ (λ p q. list_any (counts_as L) (p ∷ (weak_mid sos x y m ++ q ∷ []))) (sym c) (sym d)
    ∙ ap (list_any (counts_as L)) (sym (weak_between sos x y a b m) ∙ sos_free x a sos R (m ++ y ∷ []))
    ∙ right_kept (x ∷ (m ++ y ∷ [])) (f, each_append is_from_right m (y ∷ []) (each_pass is_from_right m e) (g, tt)))

pub same_by_classes : (sos x y : Class) → is_strong x ≡ true → is_strong y ≡ true → (m : List Class) → one_way x y m ≡ true
    → HasSame (w3_at x ∷ (weak_mid sos x y m ++ w3_at y ∷ [])) (w3_at x ∷ w3_at y ∷ [])
same_by_classes sos L L a b m e = left_one_way sos m e
same_by_classes sos L R a b m e = left_to_right (weak_mid sos L R m)
same_by_classes sos L AL a b m e = left_to_right (weak_mid sos L AL m)
same_by_classes sos R L a b m e = right_to_left (weak_mid sos R L m)
same_by_classes sos AL L a b m e = right_to_left (weak_mid sos AL L m)
same_by_classes sos R R a b m e = right_one_way sos R R refl refl refl refl refl refl m e
same_by_classes sos R AL a b m e = right_one_way sos R AL refl refl refl refl refl refl m e
same_by_classes sos AL R a b m e = right_one_way sos AL R refl refl refl refl refl refl m e
same_by_classes sos AL AL a b m e = right_one_way sos AL AL refl refl refl refl refl refl m e
same_by_classes sos x y a b m e = absurd (cc)

unlisted : (b : Option (Side × ℕ)) → is_listed_as b ≡ false → b ≡ None
unlisted None e = refl
unlisted (Some b) e = absurd (cc)

unlisted_at : (b : Option (Side × ℕ)) → b ≡ None → (on : Bool) → elim on as (λ z. Option (Side × ℕ)) [ true ↦ b | false ↦ None ] ≡ None
unlisted_at b e true = e
unlisted_at b e false = refl

pub none_listed : (ucd : Data) (cs : List ℕ) (ts : List Class) → list_any (is_listed ucd) cs ≡ false → HasNoBracket ucd cs ts
none_listed ucd [] ts e = tt
none_listed ucd (c ∷ cs) [] e = tt
none_listed ucd (c ∷ cs) (t ∷ ts) e = (elim (is_listed ucd c) as (λ b. is_listed ucd c ≡ b → (b || list_any (is_listed ucd) cs) ≡ false
    → (bracket_at ucd c t ≡ None) × HasNoBracket ucd cs ts) [
      | true ↦ λ q h. absurd (cc)
      | false ↦ λ q h. (unlisted_at (ucd.bracket c) (unlisted (ucd.bracket c) q) (is_on t), none_listed ucd cs ts h)
    ]) refl e

uncrossed : (ucd : Data) (cf cb : List ℕ) (front back : List Class) (same : Type 0) (way : Bool) → (way ≡ true → same)
    → (way ≡ true) ⊎ ((list_any (is_listed ucd) cf ≡ false) ⊎ (list_any (is_listed ucd) cb ≡ false)) → Uncrossed ucd cf front cb back same
uncrossed ucd cf cb front back same way h (inl e) = inl (h e)
uncrossed ucd cf cb front back same way h (inr (inl e)) = inr (inl (none_listed ucd cf front e))
uncrossed ucd cf cb front back same way h (inr (inr e)) = inr (inr (none_listed ucd cb back e))

module _ (ucd : Data) (level : ℕ) (sos eos x y : Class) (x_is : is_strong x ≡ true) (y_is : is_strong y ≡ true)
    (cf : List ℕ) (cx : ℕ) (cy : ℕ) (cb : List ℕ) (u v : List Class) (cf_is : length cf ≡ length u) (cb_is : length cb ≡ length v) where
  abbrev pub levels_of : List ℕ → List Class → List ℕ
  levels_of cm m = sequence_levels ucd level sos eos (cf ++ (cx ∷ (cm ++ cy ∷ cb))) (u ++ (x ∷ (m ++ y ∷ v)))

  abbrev pub levels_inside : List ℕ → List Class → List ℕ
  levels_inside cm m = sequence_levels ucd level sos eos (cx ∷ (cm ++ cy ∷ [])) (x ∷ (m ++ y ∷ []))

  pub cut_off : (cm : List ℕ) (m : List Class) → length cm ≡ length m → IsCutOff ucd cf x cm m y cb
      → levels_of cm m ≡ take (length u) (levels_of [] []) ++ (levels_inside cm m ++ drop (length u + 2) (levels_of [] []))
  cut_off cm m cm_is h =
      cut_levels ucd level sos eos x y x_is y_is cf cx cm cy cb u m v cf_is cm_is cb_is (none_listed ucd cm (weak_mid sos x y m) h.0)
      (uncrossed ucd cf cb (weak_front sos x u) (weak_back sos y v)
      (HasSame (w3_at x ∷ (weak_mid sos x y m ++ w3_at y ∷ [])) (w3_at x ∷ w3_at y ∷ []))
      (one_way x y m) (same_by_classes sos x y x_is y_is m) h.1)

  base_length : length (levels_of [] []) ≡ length u + (2 + length v)
  base_length = levels_length ucd level sos eos (cf ++ (cx ∷ cy ∷ cb)) (u ++ (x ∷ y ∷ v)) ∙ length-append u (x ∷ y ∷ v) ∙ omega arith

  inside_length : (cm : List ℕ) (m : List Class) → length (levels_inside cm m) ≡ length m + 2
  inside_length cm m = levels_length ucd level sos eos (cx ∷ (cm ++ cy ∷ [])) (x ∷ (m ++ y ∷ []))
      ∙ ap (λ n. suc n) (length-append m (y ∷ [])) ∙ omega arith

  -- an edit between the two types: the levels before and after stay, and the text between is resolved alone
  pub cut_edit : (cm cn : List ℕ) (m k : List Class) → length cm ≡ length m → length cn ≡ length k → IsCutOff ucd cf x cm m y cb
      → IsCutOff ucd cf x cn k y cb
      → levels_of cn k ≡ take (length u) (levels_of cm m) ++ (levels_inside cn k ++ drop (length u + (length m + 2)) (levels_of cm m))
  cut_edit cm cn m k cm_is cn_is old new =
      let base : List ℕ = levels_of [] [] in
      let front : List ℕ = take (length u) base in
      let back : List ℕ = drop (length u + 2) base in
      let l : length base ≡ length u + (2 + length v) = base_length in
      let f : length front ≡ length u = length-take-le (length u) base (omega arith) in
      let i : length (levels_inside cm m) ≡ length m + 2 = inside_length cm m in
      let was : levels_of cm m ≡ front ++ (levels_inside cm m ++ back) = cut_off cm m cm_is old in
      let j : length (front ++ levels_inside cm m) ≡ length u + (length m + 2) = length-append front (levels_inside cm m) ∙ ap₂ (λ a b. a + b) f i in
      let a : take (length u) (levels_of cm m) ≡ front = ap (take (length u)) was ∙ take_front front (levels_inside cm m ++ back) (length u) f in
      let b : drop (length u + (length m + 2)) (levels_of cm m) ≡ back = ap (drop (length u + (length m + 2)))
      (was ∙ sym (append_assoc front (levels_inside cm m) back)) ∙ drop_front (front ++ levels_inside cm m) back (length u + (length m + 2)) j in
      cut_off cn k cn_is new ∙ ap₂ (λ xs ys. xs ++ (levels_inside cn k ++ ys)) (sym a) (sym b)
