-- An edit between two strong characters of a paragraph without formatting characters: all other levels stay, and those between the two are the
-- ones that they get alone.
use Rattle.std.proofs.Common.{◌≡◌, ◌+◌, ◌∙◌, ℕ, zero, suc, List, [], ◌∷◌, ◌++◌, length, take, drop, map, refl, ap, ap₂, sym, subst, Bool, true}
use Rattle.std.proofs.Common.{false, arith, Option, Some, length-append}
use Rattle.std.specs.List.{list_any}
use Rattle.std.specs.Prelude.{◌%◌}
use Rattle.std.proofs.lemmas.List.{map-append, length-map, take-map, drop-map, length-take-le}
use Rattle.bx_ucd.specs.Data.{Data}
use Rattle.bx_ucd.specs.declared.class.Class.{Class}
use Rattle.bx_ucd.specs.declared.class.Class.TheVariants.{L, R, AL, LRI, RLI, FSI}
use Rattle.bx_ucd.specs.Class.{is_strong, is_initiator}
use Rattle.bx_common.specs.declared.base.Base.{Base}
use Rattle.bx_common.specs.declared.base.Base.TheVariants.{Auto, Ltr, Rtl}
use Rattle.bx_levels.specs.embedding.ParagraphLevel.{base_level, first_strong, level_of, skipped, isolated}
use Rattle.bx_levels.specs.embedding.Sequences.{direction}
use Rattle.bx_levels.specs.resolve.Weak.{is_left_or_right}
use Rattle.bx_levels.specs.resolve.Uniform.{is_unformatted, all_pass}
use Rattle.bx_levels.specs.resolve.Levels.{paragraph_levels, sequence_levels}
use Rattle.bx_levels.proofs.resolve_lemmas.PlainKept.{Each}
use Rattle.bx_levels.proofs.resolve_lemmas.PlainTypes.{each_append}
use Rattle.bx_levels.proofs.resolve_lemmas.PlainLengths.{levels_length}
use Rattle.bx_levels.proofs.resolve_lemmas.PlainLevels.{unformatted_levels, each_pass, found}
use Rattle.bx_levels.proofs.resolve_lemmas.Cuts.{if_so, if_not}
use Rattle.bx_levels.proofs.resolve_lemmas.CutLevels.{take_front}
use Rattle.bx_levels.specs.resolve.Edited.{is_listed, IsCutOff}
use Rattle.bx_levels.proofs.resolve_lemmas.CutClasses.{cut_edit}
use Rattle.bx_levels.proofs.resolve_lemmas.EndLevels.{cut_off_end}

direction_by : (n : ℕ) → is_left_or_right (elim n as (λ z. Class) [ zero ↦ L | suc k ↦ R ]) ≡ true
direction_by zero = refl
direction_by (suc n) = refl

direction_is : (level : ℕ) → is_left_or_right (direction level) ≡ true
direction_is level = direction_by (level % 2)

strong_unformatted : (c : Class) → is_strong c ≡ true → is_unformatted c ≡ true
strong_unformatted L e = refl
strong_unformatted R e = refl
strong_unformatted AL e = refl
strong_unformatted _ e = absurd (cc)

pub pass_each : (p : Class → Bool) (cs : List Class) → Each p cs → all_pass p cs ≡ true
pass_each p [] h = refl
pass_each p (c ∷ cs) h = ap (λ b. elim b as (λ z. Bool) [ true ↦ all_pass p cs | false ↦ false ]) h.0 ∙ pass_each p cs h.1

each_front : (p : Class → Bool) (xs ys : List Class) → Each p (xs ++ ys) → Each p xs
each_front p [] ys h = tt
each_front p (x ∷ xs) ys h = (h.0, each_front p xs ys h.1)

each_back : (p : Class → Bool) (xs ys : List Class) → Each p (xs ++ ys) → Each p ys
each_back p [] ys h = h
each_back p (x ∷ xs) ys h = each_back p xs ys h.1

-- levels that are found, of lists put together
found_parts : (n k : ℕ) (old mid : List ℕ) → map found (take n old ++ (mid ++ drop k old)) ≡ take n (map found old) ++ (map found mid ++ drop k (map found old))
found_parts n k old mid =
    map-append found (take n old) (mid ++ drop k old)
    ∙ ap₂ (λ xs ys. xs ++ ys) (sym (take-map found n old)) (map-append found mid (drop k old) ∙ ap (λ ys. map found mid ++ ys) (sym (drop-map found k old)))

module _ (ucd : Data) (level : ℕ) where
  abbrev pub levels : List ℕ → List (Option ℕ)
  levels chars = paragraph_levels ucd level chars

  abbrev of_types : List ℕ → List Class → List ℕ
  of_types chars ts = sequence_levels ucd level (direction level) (direction level) chars ts

  abbrev pub IsUnformatted : List ℕ → Type 0
  IsUnformatted chars = Each is_unformatted (map ucd.class chars)

  by_types : (chars : List ℕ) (ts : List Class) → IsUnformatted chars → map ucd.class chars ≡ ts → levels chars ≡ map found (of_types chars ts)
  by_types chars ts h e = unformatted_levels ucd level chars (pass_each is_unformatted (map ucd.class chars) h)
      ∙ ap (λ zs. map found (of_types chars zs)) e

  pub more : (xs ys : List ℕ) → IsUnformatted xs → IsUnformatted ys → IsUnformatted (xs ++ ys)
  more xs ys h k = subst (Each is_unformatted) (sym (map-append ucd.class xs ys)) (each_append is_unformatted (map ucd.class xs) (map ucd.class ys) h k)

  pub less_front : (xs ys : List ℕ) → IsUnformatted (xs ++ ys) → IsUnformatted xs
  less_front xs ys h = each_front is_unformatted (map ucd.class xs) (map ucd.class ys) (subst (Each is_unformatted) (map-append ucd.class xs ys) h)

  pub less_back : (xs ys : List ℕ) → IsUnformatted (xs ++ ys) → IsUnformatted ys
  less_back xs ys h = each_back is_unformatted (map ucd.class xs) (map ucd.class ys) (subst (Each is_unformatted) (map-append ucd.class xs ys) h)

  classes : (cf : List ℕ) (cx : ℕ) (cm : List ℕ) (cy : ℕ) (cb : List ℕ)
      → map ucd.class (cf ++ (cx ∷ (cm ++ cy ∷ cb))) ≡ map ucd.class cf ++ (ucd.class cx ∷ (map ucd.class cm ++ ucd.class cy ∷ map ucd.class cb))
  classes cf cx cm cy cb = map-append ucd.class cf (cx ∷ (cm ++ cy ∷ cb)) ∙ ap (λ ts. map ucd.class cf ++ (ucd.class cx ∷ ts)) (map-append ucd.class cm (cy ∷ cb))

  -- an edit between two strong characters
  pub edit_levels : (cf : List ℕ) (cx : ℕ) (cm cn : List ℕ) (cy : ℕ) (cb : List ℕ) → is_strong (ucd.class cx) ≡ true → is_strong (ucd.class cy) ≡ true
      → all_pass is_unformatted (map ucd.class (cf ++ (cx ∷ (cm ++ cy ∷ cb)))) ≡ true → all_pass is_unformatted (map ucd.class cn) ≡ true
      → IsCutOff ucd cf (ucd.class cx) cm (map ucd.class cm) (ucd.class cy) cb → IsCutOff ucd cf (ucd.class cx) cn (map ucd.class cn) (ucd.class cy) cb
      → levels (cf ++ (cx ∷ (cn ++ cy ∷ cb))) ≡ take (length cf) (levels (cf ++ (cx ∷ (cm ++ cy ∷ cb))))
      ++ (levels (cx ∷ (cn ++ cy ∷ [])) ++ drop (length cf + (length cm + 2)) (levels (cf ++ (cx ∷ (cm ++ cy ∷ cb)))))
  edit_levels cf cx cm cn cy cb x_is y_is old new cut_old cut_new =
      let whole : List ℕ = cf ++ (cx ∷ (cm ++ cy ∷ cb)) in
      let u : List Class = map ucd.class cf in
      let v : List Class = map ucd.class cb in
      let hw : IsUnformatted whole = each_pass is_unformatted (map ucd.class whole) old in
      let hf : IsUnformatted cf = less_front cf (cx ∷ (cm ++ cy ∷ cb)) hw in
      let hr : IsUnformatted (cx ∷ (cm ++ cy ∷ cb)) = less_back cf (cx ∷ (cm ++ cy ∷ cb)) hw in
      let hb : IsUnformatted (cy ∷ cb) = less_back cm (cy ∷ cb) hr.1 in
      let hn : IsUnformatted cn = each_pass is_unformatted (map ucd.class cn) new in
      let x_un : is_unformatted (ucd.class cx) ≡ true = strong_unformatted (ucd.class cx) x_is in
      let y_un : is_unformatted (ucd.class cy) ≡ true = strong_unformatted (ucd.class cy) y_is in
      let n_whole : IsUnformatted (cf ++ (cx ∷ (cn ++ cy ∷ cb))) = more cf (cx ∷ (cn ++ cy ∷ cb)) hf (x_un, more cn (cy ∷ cb) hn hb) in
      let n_mid : IsUnformatted (cx ∷ (cn ++ cy ∷ [])) = (x_un, more cn (cy ∷ []) hn (y_un, tt)) in
      let was : levels whole ≡ map found (of_types whole (u ++ (ucd.class cx ∷ (map ucd.class cm ++ ucd.class cy ∷ v)))) =
      by_types whole (u ++ (ucd.class cx ∷ (map ucd.class cm ++ ucd.class cy ∷ v))) hw (classes cf cx cm cy cb) in
      let mid : levels (cx ∷ (cn ++ cy ∷ [])) ≡ map found (of_types (cx ∷ (cn ++ cy ∷ [])) (ucd.class cx ∷ (map ucd.class cn ++ ucd.class cy ∷ []))) =
      by_types (cx ∷ (cn ++ cy ∷ [])) (ucd.class cx ∷ (map ucd.class cn ++ ucd.class cy ∷ [])) n_mid (classes [] cx cn cy []) in
      let l : length cf ≡ length u = sym (length-map cf ucd.class) in
      let k : length cm ≡ length (map ucd.class cm) = sym (length-map cm ucd.class) in
      by_types (cf ++ (cx ∷ (cn ++ cy ∷ cb))) (u ++ (ucd.class cx ∷ (map ucd.class cn ++ ucd.class cy ∷ v))) n_whole (classes cf cx cn cy cb)
      ∙ ap (map found) (cut_edit ucd level (direction level) (direction level) (ucd.class cx) (ucd.class cy) x_is y_is cf cx cy cb u v l
      (sym (length-map cb ucd.class)) cm cn (map ucd.class cm) (map ucd.class cn) k (sym (length-map cn ucd.class)) cut_old cut_new)
      ∙ found_parts (length u) (length u + (length (map ucd.class cm) + 2)) (of_types whole (u ++ (ucd.class cx ∷ (map ucd.class cm ++ ucd.class cy ∷ v))))
      (of_types (cx ∷ (cn ++ cy ∷ [])) (ucd.class cx ∷ (map ucd.class cn ++ ucd.class cy ∷ [])))
      ∙ ap₂ (λ xs ys. take (length u) xs ++ (ys ++ drop (length u + (length (map ucd.class cm) + 2)) xs)) (sym was) (sym mid)
      ∙ ap₂ (λ a b. take a (levels whole) ++ (levels (cx ∷ (cn ++ cy ∷ [])) ++ drop (a + (b + 2)) (levels whole))) (sym l) (sym k)

  -- an edit after the last strong character
  pub edit_end_levels : (cf : List ℕ) (cx : ℕ) (cm cn : List ℕ) → is_strong (ucd.class cx) ≡ true
      → all_pass is_unformatted (map ucd.class (cf ++ (cx ∷ cm))) ≡ true → all_pass is_unformatted (map ucd.class cn) ≡ true
      → list_any (is_listed ucd) cm ≡ false → list_any (is_listed ucd) cn ≡ false
      → levels (cf ++ (cx ∷ cn)) ≡ take (length cf) (levels (cf ++ (cx ∷ cm))) ++ levels (cx ∷ cn)
  edit_end_levels cf cx cm cn x_is old new none_old none_new =
      let d : Class = direction level in
      let u : List Class = map ucd.class cf in
      let x : Class = ucd.class cx in
      let hw : IsUnformatted (cf ++ (cx ∷ cm)) = each_pass is_unformatted (map ucd.class (cf ++ (cx ∷ cm))) old in
      let hf : IsUnformatted cf = less_front cf (cx ∷ cm) hw in
      let hn : IsUnformatted cn = each_pass is_unformatted (map ucd.class cn) new in
      let x_un : is_unformatted x ≡ true = strong_unformatted x x_is in
      let n : ℕ = length u in
      let l : length cf ≡ n = sym (length-map cf ucd.class) in
      let base : List ℕ = of_types (cf ++ cx ∷ []) (u ++ x ∷ []) in
      let front : List ℕ = take n base in
      let bl : length base ≡ n + 1 = levels_length ucd level d d (cf ++ cx ∷ []) (u ++ x ∷ []) ∙ length-append u (x ∷ []) in
      let fl : length front ≡ n = length-take-le n base (omega arith) in
      let back : (cs : List ℕ) → List ℕ = λ cs. of_types (cx ∷ cs) (x ∷ map ucd.class cs) in
      let cut : (cs : List ℕ) → list_any (is_listed ucd) cs ≡ false → of_types (cf ++ (cx ∷ cs)) (u ++ (x ∷ map ucd.class cs)) ≡ front ++ back cs =
      λ cs none. cut_off_end ucd level d d x (direction_is level) x_is cf cx cs u (map ucd.class cs) l (sym (length-map cs ucd.class)) none in
      let was : levels (cf ++ (cx ∷ cm)) ≡ map found (front ++ back cm) =
      by_types (cf ++ (cx ∷ cm)) (u ++ (x ∷ map ucd.class cm)) hw (map-append ucd.class cf (cx ∷ cm)) ∙ ap (map found) (cut cm none_old) in
      let mid : levels (cx ∷ cn) ≡ map found (back cn) = by_types (cx ∷ cn) (x ∷ map ucd.class cn) (x_un, hn) refl in
      let rest : take (length cf) (levels (cf ++ (cx ∷ cm))) ≡ map found front =
      ap₂ take l was ∙ take-map found n (front ++ back cm) ∙ ap (map found) (take_front front (back cm) n fl) in
      by_types (cf ++ (cx ∷ cn)) (u ++ (x ∷ map ucd.class cn)) (more cf (cx ∷ cn) hf (x_un, hn)) (map-append ucd.class cf (cx ∷ cn)) ∙ ap (map found) (cut cn none_new)
      ∙ map-append found front (back cn) ∙ ap₂ (λ xs ys. xs ++ ys) (sym rest) (sym mid)

-- the paragraph level follows from its first strong character, for any text after that
no_initiator : (c : Class) → is_unformatted c ≡ true → is_initiator c ≡ false
no_initiator LRI e = absurd (cc)
no_initiator RLI e = absurd (cc)
no_initiator FSI e = absurd (cc)
no_initiator _ e = refl

first_stays : (cs : List Class) (x : Class) (rest other : List Class) → Each is_unformatted cs → is_strong x ≡ true
    → first_strong 0 (cs ++ x ∷ rest) ≡ first_strong 0 (cs ++ x ∷ other)
first_stays [] x rest other h e = if_so (is_strong x) (Some x) (first_strong (skipped x rest) rest) e
    ∙ sym (if_so (is_strong x) (Some x) (first_strong (skipped x other) other) e)
first_stays (c ∷ cs) x rest other h e =
    let none : (ts : List Class) → skipped c ts ≡ 0 = λ ts. if_not (is_initiator c) (isolated ts) 0 (no_initiator c h.0) in
    let ih : first_strong 0 (cs ++ x ∷ rest) ≡ first_strong 0 (cs ++ x ∷ other) = first_stays cs x rest other h.1 e in
    ap (λ s. elim (is_strong c) as (λ z. Option Class) [ true ↦ Some c | false ↦ s ])
    (ap (λ n. first_strong n (cs ++ x ∷ rest)) (none (cs ++ x ∷ rest)) ∙ ih ∙ ap (λ n. first_strong n (cs ++ x ∷ other)) (sym (none (cs ++ x ∷ other))))

pub base_stays : (base : Base) (cs : List Class) (x : Class) (rest other : List Class) → all_pass is_unformatted cs ≡ true → is_strong x ≡ true
    → base_level base (cs ++ x ∷ rest) ≡ base_level base (cs ++ x ∷ other)
base_stays Auto cs x rest other h e = ap level_of (first_stays cs x rest other (each_pass is_unformatted cs h) e)
base_stays Ltr cs x rest other h e = refl
base_stays Rtl cs x rest other h e = refl
