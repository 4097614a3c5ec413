-- The levels of a sequence with two strong types: the parts before, between and after them, each resolved alone.
use Rattle.std.proofs.Common.{append_assoc, ◌≡◌, ◌+◌, ◌-◌, ◌∙◌, ℕ, suc, List, [], ◌∷◌, ◌++◌, length, take, drop, map, refl, ap, ap₂, sym}
use Rattle.std.proofs.Common.{arith, Bool, true, false, length-append, length-drop}
use Rattle.std.proofs.lemmas.List.{map-append, length-map, length-take-le, nil_from_length}
use Rattle.std.proofs.Math.Seq.{take-append_seam, drop-append_seam, drop-append-add}
use Rattle.bx_ucd.specs.Data.{Data}
use Rattle.bx_ucd.specs.declared.class.Class.{Class}
use Rattle.bx_ucd.specs.Class.{is_strong, is_nsm}
use Rattle.bx_levels.specs.embedding.Sequences.{direction}
use Rattle.bx_levels.specs.brackets.Pairs.{pairs}
use Rattle.bx_levels.specs.brackets.Resolve.{resolve_pairs}
use Rattle.bx_levels.specs.resolve.Weak.{weak, w3_at}
use Rattle.bx_levels.specs.resolve.Neutral.{n1, n2, n1_at, n2_at, implicit, implicit_at}
use Rattle.bx_levels.specs.resolve.Levels.{sequence_levels}
use Rattle.bx_levels.proofs.resolve_lemmas.PlainLengths.{at_each_length, weak_length}
use Rattle.bx_levels.proofs.resolve_lemmas.Cuts.{IsCut, weak_cut, implicit_cut, side_of_strong, strong_no_nsm}
use Rattle.bx_levels.proofs.resolve_lemmas.MovedPairs.{HasNoBracket, none_met}
use Rattle.bx_levels.proofs.resolve_lemmas.FramedPairs.{HasSame}
use Rattle.bx_levels.proofs.resolve_lemmas.MiddlePairs.{AreFramed}
use Rattle.bx_levels.proofs.resolve_lemmas.PairPlaces.{Uncrossed, no_bracket}
use Rattle.bx_levels.proofs.resolve_lemmas.CutPairs.{cut_pairs, turned_no_on}

-- a list that is cut at `x`
pub at_cut : (x : Class) (u v : List Class) → IsCut x (length u) (u ++ x ∷ v) (u ++ x ∷ []) (x ∷ v)
at_cut x u v = record { before = u; after = v; whole_is = refl; front_is = refl; back_is = refl; before_is = refl }

pub take_front : {A : Type 0} (xs ys : List A) (n : ℕ) → length xs ≡ n → take n (xs ++ ys) ≡ xs
take_front xs ys n e = ap (λ k. take k (xs ++ ys)) (sym e) ∙ take-append_seam xs ys

pub drop_front : {A : Type 0} (xs ys : List A) (n : ℕ) → length xs ≡ n → drop n (xs ++ ys) ≡ ys
drop_front xs ys n e = ap (λ k. drop k (xs ++ ys)) (sym e) ∙ drop-append_seam xs ys

-- a cut list by its parts
cut_is : {A : Type 0} (x : A) (n : ℕ) (whole front back : List A) → IsCut x n whole front back → whole ≡ take n front ++ x ∷ drop 1 back
cut_is x n whole front back c =
    let f : take n front ≡ c.before = ap (take n) c.front_is ∙ take_front c.before (x ∷ []) n c.before_is in
    let b : drop 1 back ≡ c.after = ap (drop 1) c.back_is in
    c.whole_is ∙ ap₂ (λ u v. u ++ x ∷ v) (sym f) (sym b)

front_long : {A : Type 0} (x : A) (n : ℕ) (whole front back : List A) → IsCut x n whole front back → length (take n front) ≡ n
front_long x n whole front back c = ap (λ xs. length (take n xs)) c.front_is ∙ ap length (take_front c.before (x ∷ []) n c.before_is) ∙ c.before_is

pub back_is : {A : Type 0} (x : A) (n : ℕ) (whole front back : List A) → IsCut x n whole front back → back ≡ x ∷ drop 1 back
back_is x n whole front back c = c.back_is ∙ ap (λ xs. x ∷ drop 1 xs) (sym c.back_is)

-- rules that two types cut, over a list with both: the results before, between and after them
module _ {A : Type 0} (rules : List Class → List A) (x y : Class) (p q : A) (long : (ts : List Class) → length (rules ts) ≡ length ts)
    (cut_x : (n : ℕ) (whole front back : List Class) → IsCut x n whole front back → IsCut p n (rules whole) (rules front) (rules back))
    (cut_y : (n : ℕ) (whole front back : List Class) → IsCut y n whole front back → IsCut q n (rules whole) (rules front) (rules back)) where
  abbrev pub front_of : List Class → List A
  front_of u = take (length u) (rules (u ++ x ∷ []))

  abbrev pub mid_of : List Class → List A
  mid_of m = take (length m) (drop 1 (rules (x ∷ (m ++ y ∷ []))))

  abbrev pub back_of : List Class → List A
  back_of v = drop 1 (rules (y ∷ v))

  mid_first : (m : List Class) → rules (x ∷ (m ++ y ∷ [])) ≡ p ∷ drop 1 (rules (x ∷ (m ++ y ∷ [])))
  mid_first m = back_is p 0 (rules (x ∷ (m ++ y ∷ []))) (rules (x ∷ [])) (rules (x ∷ (m ++ y ∷ [])))
      (cut_x 0 (x ∷ (m ++ y ∷ [])) (x ∷ []) (x ∷ (m ++ y ∷ [])) (at_cut x [] (m ++ y ∷ [])))

  from_x : (m v : List Class) → rules (x ∷ (m ++ y ∷ v)) ≡ p ∷ (mid_of m ++ q ∷ back_of v)
  from_x m v =
      let ts : List Class = x ∷ (m ++ y ∷ []) in
      let n : length (x ∷ m) ≡ suc (length m) = refl in
      cut_is q (length (x ∷ m)) (rules (x ∷ (m ++ y ∷ v))) (rules ts) (rules (y ∷ v))
      (cut_y (length (x ∷ m)) (x ∷ (m ++ y ∷ v)) ts (y ∷ v) (at_cut y (x ∷ m) v))
      ∙ ap (λ zs. take (suc (length m)) zs ++ q ∷ back_of v) (mid_first m)

  pub in_parts : (u m v : List Class) → rules (u ++ (x ∷ (m ++ y ∷ v))) ≡ front_of u ++ (p ∷ (mid_of m ++ q ∷ back_of v))
  in_parts u m v =
      let ts : List Class = x ∷ (m ++ y ∷ v) in
      cut_is p (length u) (rules (u ++ ts)) (rules (u ++ x ∷ [])) (rules ts) (cut_x (length u) (u ++ ts) (u ++ x ∷ []) ts (at_cut x u (m ++ y ∷ v)))
      ∙ ap (λ zs. front_of u ++ (p ∷ drop 1 zs)) (from_x m v)

  pub front_length : (u : List Class) → length (front_of u) ≡ length u
  front_length u = front_long p (length u) (rules (u ++ x ∷ [])) (rules (u ++ x ∷ [])) (rules (x ∷ []))
      (cut_x (length u) (u ++ x ∷ []) (u ++ x ∷ []) (x ∷ []) (at_cut x u []))

  pub mid_length : (m : List Class) → length (mid_of m) ≡ length m
  mid_length m =
      let l : length (rules (x ∷ (m ++ y ∷ []))) ≡ suc (length (m ++ y ∷ [])) = long (x ∷ (m ++ y ∷ [])) in
      let k : length (m ++ y ∷ []) ≡ length m + 1 = length-append m (y ∷ []) in
      let d : length (drop 1 (rules (x ∷ (m ++ y ∷ [])))) ≡ length (rules (x ∷ (m ++ y ∷ []))) - 1 = length-drop 1 (rules (x ∷ (m ++ y ∷ []))) in
      length-take-le (length m) (drop 1 (rules (x ∷ (m ++ y ∷ [])))) (omega arith)

  pub back_length : (v : List Class) → length (back_of v) ≡ length v
  back_length v =
      let l : length (rules (y ∷ v)) ≡ suc (length v) = long (y ∷ v) in
      let d : length (drop 1 (rules (y ∷ v))) ≡ length (rules (y ∷ v)) - 1 = length-drop 1 (rules (y ∷ v)) in
      omega arith

  pub between : (m : List Class) → rules (x ∷ (m ++ y ∷ [])) ≡ p ∷ (mid_of m ++ q ∷ [])
  between m = from_x m [] ∙ ap (λ zs. p ∷ (mid_of m ++ q ∷ zs)) (nil_from_length (back_of []) (back_length []))

combined : (whole short mid front ns back : List ℕ) (p q n : ℕ) → whole ≡ front ++ (p ∷ (ns ++ q ∷ back)) → short ≡ front ++ (p ∷ q ∷ back)
    → mid ≡ p ∷ (ns ++ q ∷ []) → length front ≡ n → whole ≡ take n short ++ (mid ++ drop (n + 2) short)
combined whole short mid front ns back p q n w s m l =
    let a : take n short ≡ front = ap (take n) s ∙ take_front front (p ∷ q ∷ back) n l in
    let b : drop (n + 2) short ≡ back = ap₂ (λ k xs. drop (k + 2) xs) (sym l) s ∙ drop-append-add front (p ∷ q ∷ back) 2 in
    w ∙ ap (λ xs. front ++ (p ∷ xs)) (sym (append_assoc ns (q ∷ []) back))
    ∙ ap₂ (λ xs ys. xs ++ ys) (sym a) (ap₂ (λ xs ys. xs ++ ys) (sym m) (sym b))

none_more : (ucd : Data) (cs ds : List ℕ) (ts us : List Class) → length cs ≡ length ts → HasNoBracket ucd cs ts
    → HasNoBracket ucd ds us → HasNoBracket ucd (cs ++ ds) (ts ++ us)
none_more ucd [] ds [] us e h k = k
none_more ucd [] ds (t ∷ ts) us e h k = absurd (omega arith)
none_more ucd (c ∷ cs) ds [] us e h k = absurd (omega arith)
none_more ucd (c ∷ cs) ds (t ∷ ts) us e h k = (h.0, none_more ucd cs ds ts us (omega arith) h.1 k)

-- the types after W7 of the parts before a type, between two, and after one
abbrev pub weak_front : Class → Class → List Class → List Class
weak_front sos x u = take (length u) (weak sos (u ++ x ∷ []))

abbrev pub weak_mid : Class → Class → Class → List Class → List Class
weak_mid sos x y m = take (length m) (drop 1 (weak sos (x ∷ (m ++ y ∷ []))))

abbrev pub weak_back : Class → Class → List Class → List Class
weak_back sos y v = drop 1 (weak sos (y ∷ v))

module _ (ucd : Data) (level : ℕ) (sos eos x y : Class) (x_is : is_strong x ≡ true) (y_is : is_strong y ≡ true) where
  abbrev embedding : Class
  embedding = direction level

  -- x and y after W3
  abbrev turned_x : Class
  turned_x = w3_at x

  abbrev turned_y : Class
  turned_y = w3_at y

  abbrev ends : List Class → List ℕ
  ends ts = implicit level (n2 embedding (n1 sos eos ts))

  ends_length : (ts : List Class) → length (ends ts) ≡ length ts
  ends_length ts = length-map (n2 embedding (n1 sos eos ts)) (implicit_at level) ∙ length-map (n1 sos eos ts) (n2_at embedding)
      ∙ at_each_length (n1_at sos eos) [] ts

  weak_x : (n : ℕ) (whole front back : List Class) → IsCut x n whole front back → IsCut turned_x n (weak sos whole) (weak sos front) (weak sos back)
  weak_x = weak_cut sos sos x x_is

  weak_y : (n : ℕ) (whole front back : List Class) → IsCut y n whole front back → IsCut turned_y n (weak sos whole) (weak sos front) (weak sos back)
  weak_y = weak_cut sos sos y y_is

  ends_x : (n : ℕ) (whole front back : List Class) → IsCut turned_x n whole front back
      → IsCut (implicit_at level turned_x) n (ends whole) (ends front) (ends back)
  ends_x = implicit_cut level embedding sos eos sos eos turned_x (side_of_strong x x_is)

  ends_y : (n : ℕ) (whole front back : List Class) → IsCut turned_y n whole front back
      → IsCut (implicit_at level turned_y) n (ends whole) (ends front) (ends back)
  ends_y = implicit_cut level embedding sos eos sos eos turned_y (side_of_strong y y_is)

  flags : (u m v : List Class) → map is_nsm (u ++ (x ∷ (m ++ y ∷ v))) ≡ map is_nsm u ++ (false ∷ (map is_nsm m ++ false ∷ map is_nsm v))
  flags u m v =
      map-append is_nsm u (x ∷ (m ++ y ∷ v)) ∙ ap (λ b. map is_nsm u ++ (b ∷ map is_nsm (m ++ y ∷ v))) (strong_no_nsm x x_is)
      ∙ ap (λ bs. map is_nsm u ++ (false ∷ bs)) (map-append is_nsm m (y ∷ v) ∙ ap (λ b. map is_nsm m ++ b ∷ map is_nsm v) (strong_no_nsm y y_is))

  module _ (cf : List ℕ) (cx : ℕ) (cm : List ℕ) (cy : ℕ) (cb : List ℕ) (u m v : List Class)
      (cf_is : length cf ≡ length u) (cm_is : length cm ≡ length m) (cb_is : length cb ≡ length v) where
    -- with more between the two types
    abbrev pub levels_with : List ℕ
    levels_with = sequence_levels ucd level sos eos (cf ++ (cx ∷ (cm ++ cy ∷ cb))) (u ++ (x ∷ (m ++ y ∷ v)))

    -- without
    abbrev pub levels_without : List ℕ
    levels_without = sequence_levels ucd level sos eos (cf ++ (cx ∷ cy ∷ cb)) (u ++ (x ∷ y ∷ v))

    -- with that alone
    abbrev pub levels_between : List ℕ
    levels_between = sequence_levels ucd level sos eos (cx ∷ (cm ++ cy ∷ [])) (x ∷ (m ++ y ∷ []))

    between_is : HasNoBracket ucd cm (weak_mid sos x y m) → levels_between ≡ ends (turned_x ∷ (weak_mid sos x y m ++ turned_y ∷ []))
    between_is none =
        let ts : List Class = turned_x ∷ (weak_mid sos x y m ++ turned_y ∷ []) in
        let cs : List ℕ = cx ∷ (cm ++ cy ∷ []) in
        let w : weak sos (x ∷ (m ++ y ∷ [])) ≡ ts = between (weak sos) x y turned_x turned_y (weak_length sos) weak_x weak_y m in
        let l : length (weak_mid sos x y m) ≡ length m = mid_length (weak sos) x y turned_x turned_y (weak_length sos) weak_x weak_y m in
        let h : HasNoBracket ucd cs ts = (
          no_bracket ucd cx turned_x (turned_no_on turned_x (side_of_strong x x_is)),
          none_more ucd cm (cy ∷ []) (weak_mid sos x y m) (turned_y ∷ []) (omega arith) none
              (no_bracket ucd cy turned_y (turned_no_on turned_y (side_of_strong y y_is)), tt),
        ) in
        let ps : pairs ucd cs ts ≡ [] = ap (λ s. s.pairs) (none_met ucd (record { openers = []; pairs = []; is_over = false }) 0 cs ts h) in
        ap (λ zs. ends (resolve_pairs embedding sos (map is_nsm (x ∷ (m ++ y ∷ []))) (pairs ucd cs zs) zs)) w
        ∙ ap (λ qs. ends (resolve_pairs embedding sos (map is_nsm (x ∷ (m ++ y ∷ []))) qs ts)) ps

    pub cut_levels : HasNoBracket ucd cm (weak_mid sos x y m)
        → Uncrossed ucd cf (weak_front sos x u) cb (weak_back sos y v) (HasSame (turned_x ∷ (weak_mid sos x y m ++ turned_y ∷ [])) (turned_x ∷ turned_y ∷ []))
        → levels_with ≡ take (length u) levels_without ++ (levels_between ++ drop (length u + 2) levels_without)
    cut_levels none crossing =
        let f : List Class = weak_front sos x u in
        let k : List Class = weak_mid sos x y m in
        let b : List Class = weak_back sos y v in
        let fl : length f ≡ length u = front_length (weak sos) x y turned_x turned_y (weak_length sos) weak_x weak_y u in
        let kl : length k ≡ length m = mid_length (weak sos) x y turned_x turned_y (weak_length sos) weak_x weak_y m in
        let bl : length b ≡ length v = back_length (weak sos) x y turned_x turned_y (weak_length sos) weak_x weak_y v in
        let wf : List Bool = map is_nsm u in
        let wm : List Bool = map is_nsm m in
        let wb : List Bool = map is_nsm v in
        let cs : List ℕ = cf ++ (cx ∷ (cm ++ cy ∷ cb)) in
        let ds : List ℕ = cf ++ (cx ∷ cy ∷ cb) in
        let whole : List Class = f ++ (turned_x ∷ (k ++ turned_y ∷ b)) in
        let short : List Class = f ++ (turned_x ∷ turned_y ∷ b) in
        let framed : AreFramed (length f) (length b) (turned_x ∷ (k ++ turned_y ∷ [])) (turned_x ∷ turned_y ∷ [])
        (resolve_pairs embedding sos (wf ++ (false ∷ (wm ++ false ∷ wb))) (pairs ucd cs whole) whole)
        (resolve_pairs embedding sos (wf ++ (false ∷ false ∷ wb)) (pairs ucd ds short) short) =
        cut_pairs ucd embedding sos cf cx cm cy cb f turned_x k turned_y b wf wm wb (side_of_strong x x_is) (side_of_strong y y_is)
        (cf_is ∙ sym fl) (cm_is ∙ sym kl) (cb_is ∙ sym bl) (length-map u is_nsm ∙ sym fl) (length-map m is_nsm ∙ sym kl) (length-map v is_nsm ∙ sym bl)
        none crossing in
        let w : weak sos (u ++ (x ∷ (m ++ y ∷ v))) ≡ whole = in_parts (weak sos) x y turned_x turned_y (weak_length sos) weak_x weak_y u m v in
        let s : weak sos (u ++ (x ∷ y ∷ v)) ≡ short = in_parts (weak sos) x y turned_x turned_y (weak_length sos) weak_x weak_y u [] v in
        let p : ℕ = implicit_at level turned_x in
        let q : ℕ = implicit_at level turned_y in
        let front : List ℕ = front_of ends turned_x turned_y p q ends_length ends_x ends_y framed.front in
        let mid : List ℕ = mid_of ends turned_x turned_y p q ends_length ends_x ends_y k in
        let back : List ℕ = back_of ends turned_x turned_y p q ends_length ends_x ends_y framed.back in
        let whole_is : levels_with ≡ front ++ (p ∷ (mid ++ q ∷ back)) =
        ap₂ (λ ws ts. ends (resolve_pairs embedding sos ws (pairs ucd cs ts) ts)) (flags u m v) w
        ∙ ap ends (framed.whole_is ∙ ap (λ ts. framed.front ++ (turned_x ∷ ts)) (append_assoc k (turned_y ∷ []) framed.back))
        ∙ in_parts ends turned_x turned_y p q ends_length ends_x ends_y framed.front k framed.back in
        let short_is : levels_without ≡ front ++ (p ∷ q ∷ back) =
        ap₂ (λ ws ts. ends (resolve_pairs embedding sos ws (pairs ucd ds ts) ts)) (flags u [] v) s
        ∙ ap ends framed.short_is ∙ in_parts ends turned_x turned_y p q ends_length ends_x ends_y framed.front [] framed.back in
        let mid_is : levels_between ≡ p ∷ (mid ++ q ∷ []) =
        between_is none ∙ between ends turned_x turned_y p q ends_length ends_x ends_y k in
        let long : length front ≡ length u =
        front_length ends turned_x turned_y p q ends_length ends_x ends_y framed.front ∙ framed.front_is ∙ fl in
        combined levels_with levels_without levels_between front mid back p q (length u) whole_is short_is mid_is long
