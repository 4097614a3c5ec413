-- Texts of one direction without brackets.
use Rattle.std.proofs.Common.{◌≡◌, ◌∙◌, ◌||◌, ℕ, true, false, not, List, [], ◌∷◌, ◌++◌, map, refl, ap₂, sym, subst}
use Rattle.std.specs.List.{list_all, list_any}
use Rattle.std.proofs.lemmas.Bool.{and_parts, and_from, not-true}
use Rattle.std.proofs.lemmas.List.{map-append}
use Rattle.std.proofs.lemmas.List.Folds.{list_all-append}
use Rattle.bx_ucd.specs.Data.{Data}
use Rattle.bx_ucd.specs.declared.class.Class.{Class}
use Rattle.bx_ucd.specs.declared.class.Class.TheVariants.{L, R, AL, EN, ES, ET, AN, CS, NSM, B, S, WS, ON}
use Rattle.bx_ucd.specs.Class.{is_strong}
use Rattle.bx_levels.specs.resolve.Edited.{HasNoFormatting, is_listed, one_way}
use Rattle.bx_levels.specs.resolve.Uniform.{all_pass, is_unformatted}
use Rattle.bx_levels.proofs.resolve_lemmas.PlainKept.{Each}
use Rattle.bx_levels.proofs.resolve_lemmas.PlainTypes.{each_append}
use Rattle.bx_levels.proofs.resolve_lemmas.PlainLevels.{each_pass}
use Rattle.bx_levels.proofs.resolve_lemmas.CutParagraph.{pass_each}
use Rattle.bx_paragraph.specs.Cuts.{is_bare, is_of_direction, direction_between}
use Rattle.bx_paragraph.specs.declared.direction.Direction.{Direction}
use Rattle.bx_paragraph.specs.declared.direction.Direction.TheVariants.{Either, LeftToRight, RightToLeft}

-- between two strong characters
pub of-one-way : (x y : Class) (m : List Class) → is_strong x ≡ true → is_strong y ≡ true → all_pass (is_of_direction (direction_between x y)) m ≡ true
    → one_way x y m ≡ true
of-one-way L L m h k e = e
of-one-way L R m h k e = refl
of-one-way L AL m h k e = refl
of-one-way R L m h k e = refl
of-one-way R R m h k e = e
of-one-way R AL m h k e = e
of-one-way AL L m h k e = refl
of-one-way AL R m h k e = e
of-one-way AL AL m h k e = e
of-one-way L _ m h k e = absurd (cc)
of-one-way R _ m h k e = absurd (cc)
of-one-way AL _ m h k e = absurd (cc)
of-one-way _ y m h k e = absurd (cc)

direction-unformatted : (direction : Direction) (c : Class) → is_of_direction direction c ≡ true → is_unformatted c ≡ true
direction-unformatted Either c h = h
direction-unformatted _ L h = refl
direction-unformatted _ R h = refl
direction-unformatted _ EN h = refl
direction-unformatted _ ES h = refl
direction-unformatted _ ET h = refl
direction-unformatted _ AN h = refl
direction-unformatted _ CS h = refl
direction-unformatted _ AL h = refl
direction-unformatted _ NSM h = refl
direction-unformatted _ B h = refl
direction-unformatted _ S h = refl
direction-unformatted _ WS h = refl
direction-unformatted _ ON h = refl
direction-unformatted LeftToRight _ h = absurd (cc)
direction-unformatted RightToLeft _ h = absurd (cc)

each-unformatted : (direction : Direction) (ts : List Class) → Each (is_of_direction direction) ts → Each is_unformatted ts
each-unformatted direction [] h = tt
each-unformatted direction (t ∷ ts) h = (direction-unformatted direction t h.0, each-unformatted direction ts h.1)

module _ (ucd : Data) where
  each-of-direction : (direction : Direction) (cs : List ℕ) → list_all (is_bare ucd direction) cs ≡ true → Each (is_of_direction direction) (map ucd.class cs)
  each-of-direction direction [] h = tt
  each-of-direction direction (c ∷ cs) h =
      let p = and_parts (is_bare ucd direction c) (list_all (is_bare ucd direction) cs) h in
      ((and_parts (is_of_direction direction (ucd.class c)) (not (is_listed ucd c)) p.0).0, each-of-direction direction cs p.1)

  -- all are of the direction
  pub bare-direction : (direction : Direction) (cs : List ℕ) → list_all (is_bare ucd direction) cs ≡ true → all_pass (is_of_direction direction) (map ucd.class cs) ≡ true
  bare-direction direction cs h = pass_each (is_of_direction direction) (map ucd.class cs) (each-of-direction direction cs h)

  -- none is a formatting character
  pub bare-unformatted : (direction : Direction) (cs : List ℕ) → list_all (is_bare ucd direction) cs ≡ true → HasNoFormatting ucd cs
  bare-unformatted direction cs h = pass_each is_unformatted (map ucd.class cs) (each-unformatted direction (map ucd.class cs) (each-of-direction direction cs h))

  -- none is a bracket
  pub bare-unlisted : (direction : Direction) (cs : List ℕ) → list_all (is_bare ucd direction) cs ≡ true → list_any (is_listed ucd) cs ≡ false
  bare-unlisted direction [] h = refl
  bare-unlisted direction (c ∷ cs) h =
      let p = and_parts (is_bare ucd direction c) (list_all (is_bare ucd direction) cs) h in
      ap₂ (λ x y. x || y) (not-true _ (and_parts (is_of_direction direction (ucd.class c)) (not (is_listed ucd c)) p.0).1) (bare-unlisted direction cs p.1)

  -- the same of a text that is known to have none
  pub unlisted : (cs : List ℕ) → list_all (λ c. not (is_listed ucd c)) cs ≡ true → list_any (is_listed ucd) cs ≡ false
  unlisted [] h = refl
  unlisted (c ∷ cs) h =
      let p = and_parts (not (is_listed ucd c)) (list_all (λ c. not (is_listed ucd c)) cs) h in
      ap₂ (λ x y. x || y) (not-true _ p.0) (unlisted cs p.1)

  pub unlisted-append : (xs ys : List ℕ) → list_all (λ c. not (is_listed ucd c)) xs ≡ true → list_all (λ c. not (is_listed ucd c)) ys ≡ true
      → list_any (is_listed ucd) (xs ++ ys) ≡ false
  unlisted-append xs ys h k = unlisted (xs ++ ys) (list_all-append (λ c. not (is_listed ucd c)) xs ys ∙ and_from _ _ h k)

  pub bare-append : (direction : Direction) (xs ys : List ℕ) → list_all (is_bare ucd direction) xs ≡ true → list_all (is_bare ucd direction) ys ≡ true
      → list_all (is_bare ucd direction) (xs ++ ys) ≡ true
  bare-append direction xs ys h k = list_all-append (is_bare ucd direction) xs ys ∙ and_from _ _ h k

  pub bare-three : (direction : Direction) (xs ys zs : List ℕ) → list_all (is_bare ucd direction) xs ≡ true → list_all (is_bare ucd direction) ys ≡ true
      → list_all (is_bare ucd direction) zs ≡ true → list_all (is_bare ucd direction) (xs ++ (ys ++ zs)) ≡ true
  bare-three direction xs ys zs h k l = bare-append direction xs (ys ++ zs) h (bare-append direction ys zs k l)

  -- texts without formatting characters
  pub plain-append : (xs ys : List ℕ) → HasNoFormatting ucd xs → HasNoFormatting ucd ys → HasNoFormatting ucd (xs ++ ys)
  plain-append xs ys h k = pass_each is_unformatted (map ucd.class (xs ++ ys)) (subst (Each is_unformatted) (sym (map-append ucd.class xs ys))
      (each_append is_unformatted (map ucd.class xs) (map ucd.class ys) (each_pass is_unformatted (map ucd.class xs) h) (each_pass is_unformatted (map ucd.class ys) k)))
