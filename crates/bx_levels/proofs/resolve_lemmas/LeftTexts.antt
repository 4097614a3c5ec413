-- A text of class L alone: no rule changes a type, and each character has one level.
use Rattle.std.proofs.Common.{◌≡◌, ◌∙◌, ℕ, zero, suc, List, [], ◌∷◌, length, map, replicate, refl, ap, Bool, true, false, Some}
use Rattle.std.specs.Prelude.{All}
use Rattle.std.specs.List.{list_any}
use Rattle.std.proofs.lemmas.List.Elements.{All-head, All-tail}
use Rattle.bx_ucd.specs.Data.{Data}
use Rattle.bx_ucd.specs.declared.class.Class.{Class}
use Rattle.bx_ucd.specs.declared.class.Class.TheVariants.{L}
use Rattle.bx_common.specs.declared.base.Base.{Base}
use Rattle.bx_common.specs.declared.base.Base.TheVariants.{Auto, Ltr, Rtl}
use Rattle.bx_levels.specs.embedding.ParagraphLevel.{paragraph_level, base_level}
use Rattle.bx_levels.specs.embedding.Sequences.{direction}
use Rattle.bx_levels.specs.brackets.Pairs.{is_on, pairs}
use Rattle.bx_levels.specs.brackets.Resolve.{resolve_pairs}
use Rattle.bx_levels.specs.resolve.Weak.{at_each, w1_at, w2_at, w3_at, w4_at, w5_at, w6_at, w7_at, w1, w2, w3, w4, w5, w6, w7, weak}
use Rattle.bx_ucd.specs.Class.{is_nsm}
use Rattle.bx_levels.specs.resolve.Neutral.{n1, n2, n1_at, n2_at, implicit, implicit_at}
use Rattle.bx_levels.specs.resolve.Levels.{sequence_levels, paragraph_levels, paragraph_level_under}
use Rattle.bx_levels.specs.resolve.Uniform.{is_unformatted, all_pass}
use Rattle.bx_levels.specs.resolve.Laws.{LeftTextsHave}
use Rattle.bx_levels.proofs.resolve_lemmas.NoBrackets.{no_pairs}
use Rattle.bx_levels.proofs.resolve_lemmas.PlainLevels.{found, unformatted_levels}

-- `n` characters of class L
abbrev lefts : ℕ → List Class
lefts n = replicate n L

lefts_by_rule : (rule : List Class → Class → List Class → Class) → ((b a : List Class) → rule b L a ≡ L) → (b : List Class) (n : ℕ)
    → at_each rule b (lefts n) ≡ lefts n
lefts_by_rule rule keeps b zero = refl
lefts_by_rule rule keeps b (suc n) = ap (λ t. t ∷ at_each rule (L ∷ b) (lefts n)) (keeps b (lefts n)) ∙ ap (λ ts. L ∷ ts) (lefts_by_rule rule keeps (L ∷ b) n)

map_lefts : {A : Type 0} (f : Class → A) (n : ℕ) → map f (lefts n) ≡ replicate n (f L)
map_lefts f zero = refl
map_lefts f (suc n) = ap (λ ts. f L ∷ ts) (map_lefts f n)

weak_lefts : (sos : Class) (n : ℕ) → weak sos (lefts n) ≡ lefts n
weak_lefts sos n =
    let first : w3 (w2 sos (w1 sos (lefts n))) ≡ lefts n = ap (λ ts. w3 (w2 sos ts)) (lefts_by_rule (w1_at sos) (λ b a. refl) [] n)
    ∙ ap w3 (lefts_by_rule (w2_at sos) (λ b a. refl) [] n) ∙ map_lefts w3_at n in
    ap (λ ts. w7 sos (w6 (w5 (w4 ts)))) first
    ∙ ap (λ ts. w7 sos (w6 (w5 ts))) (lefts_by_rule w4_at (λ b a. refl) [] n)
    ∙ ap (λ ts. w7 sos (w6 ts)) (lefts_by_rule w5_at (λ b a. refl) [] n)
    ∙ ap (w7 sos) (map_lefts w6_at n)
    ∙ lefts_by_rule (w7_at sos) (λ b a. refl) [] n

no_neutral : (n : ℕ) → list_any is_on (lefts n) ≡ false
no_neutral zero = refl
no_neutral (suc n) = no_neutral n

sequence_lefts : (ucd : Data) (level : ℕ) (sos eos : Class) (chars : List ℕ) (n : ℕ)
    → sequence_levels ucd level sos eos chars (lefts n) ≡ replicate n (implicit_at level L)
sequence_lefts ucd level sos eos chars n =
    let d : Class = direction level in
    let was : List Bool = map is_nsm (lefts n) in
    let rest : List Class → List ℕ = λ ts. implicit level (n2 d (n1 sos eos ts)) in
    ap (λ ts. rest (resolve_pairs d sos was (pairs ucd chars ts) ts)) (weak_lefts sos n)
    ∙ ap (λ ps. rest (resolve_pairs d sos was ps (lefts n))) (no_pairs ucd chars (lefts n) (no_neutral n))
    ∙ ap (λ ts. implicit level (n2 d ts)) (lefts_by_rule (n1_at sos eos) (λ b a. refl) [] n)
    ∙ ap (implicit level) (map_lefts (n2_at d) n)
    ∙ map_lefts (implicit_at level) n

found_lefts : (level n : ℕ) → map found (replicate n level) ≡ replicate n (Some level)
found_lefts level zero = refl
found_lefts level (suc n) = ap (λ ls. Some level ∷ ls) (found_lefts level n)

lefts_unformatted : (n : ℕ) → all_pass is_unformatted (lefts n) ≡ true
lefts_unformatted zero = refl
lefts_unformatted (suc n) = lefts_unformatted n

classes_are : (ucd : Data) (chars : List ℕ) → All (λ c. ucd.class c ≡ L) chars → map ucd.class chars ≡ lefts (length chars)
classes_are ucd [] h = refl
classes_are ucd (c ∷ cs) h = ap (λ t. t ∷ map ucd.class cs) (All-head (λ x. ucd.class x ≡ L) c cs h)
    ∙ ap (λ ts. L ∷ ts) (classes_are ucd cs (All-tail (λ x. ucd.class x ≡ L) c cs h))

paragraph_lefts : (ucd : Data) (paragraph : ℕ) (chars : List ℕ) → All (λ c. ucd.class c ≡ L) chars
    → paragraph_levels ucd paragraph chars ≡ replicate (length chars) (Some (implicit_at paragraph L))
paragraph_lefts ucd paragraph chars h =
    let n : ℕ = length chars in
    let d : Class = direction paragraph in
    let is : map ucd.class chars ≡ lefts n = classes_are ucd chars h in
    unformatted_levels ucd paragraph chars (ap (all_pass is_unformatted) is ∙ lefts_unformatted n)
    ∙ ap (λ ts. map found (sequence_levels ucd paragraph d d chars ts)) is
    ∙ ap (map found) (sequence_lefts ucd paragraph d d chars n)
    ∙ found_lefts (implicit_at paragraph L) n

left_texts_have : (base : Base) (paragraph : ℕ) → ((n : ℕ) → base_level base (lefts n) ≡ paragraph) → LeftTextsHave base paragraph (implicit_at paragraph L)
left_texts_have base paragraph by ucd chars h =
    let level : paragraph_level_under ucd base chars ≡ paragraph = ap (base_level base) (classes_are ucd chars h) ∙ by (length chars) in
    (level, ap (λ p. paragraph_levels ucd p chars) level ∙ paragraph_lefts ucd paragraph chars h)

found_left : (n : ℕ) → paragraph_level (lefts n) ≡ 0
found_left zero = refl
found_left (suc n) = refl

pub left_under_auto : LeftTextsHave Auto 0 0
left_under_auto = left_texts_have Auto 0 found_left

pub left_under_ltr : LeftTextsHave Ltr 0 0
left_under_ltr = left_texts_have Ltr 0 (λ n. refl)

pub left_under_rtl : LeftTextsHave Rtl 1 2
left_under_rtl = left_texts_have Rtl 1 (λ n. refl)
