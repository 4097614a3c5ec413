-- The levels of the texts between PDIs, from the end of a text.
use Rattle.std.proofs.Common.{◌≡◌, ◌<◌, ◌+◌, ◌∙◌, ℕ, zero, suc, List, [], ◌∷◌, length, get_or, drop, take, refl, ap, sym, arith, true, false}
use Rattle.std.proofs.lemmas.List.{at_drop_more}
use Rattle.bx_ucd.specs.declared.class.Class.{Class}
use Rattle.bx_ucd.specs.declared.class.Class.TheVariants.{L, R, AL, PDI, LRI, RLI, FSI}
use Rattle.bx_ucd.specs.Class.{is_strong}
use Rattle.bx_levels.specs.embedding.ParagraphLevel.{count_after, isolate_level, level_of_strong}
use Rattle.bx_levels.specs.embedding.TextLevels.{levels_before, rest_levels, with_level, first_level}
use Rattle.bx_levels.proofs.embedding_lemmas.Scan.{level_of_rest, level_step, level_here, until_pdi, until_cons, until_none}

-- the levels of the texts between the PDIs that match no initiator in `cs`
abbrev pub texts : List Class → List ℕ
texts [] = 0 ∷ []
texts (c ∷ cs) = levels_before c (texts cs)

rest_get : (ls : List ℕ) (n : ℕ) → get_or (rest_levels ls) n 0 ≡ get_or ls (suc n) 0
rest_get [] zero = refl
rest_get [] (suc n) = refl
rest_get (l ∷ []) zero = refl
rest_get (l ∷ []) (suc n) = refl
rest_get (l ∷ m ∷ ls) n = refl

later_get : (x : ℕ) (ls : List ℕ) (n : ℕ) → get_or (with_level x ls) (suc n) 0 ≡ get_or ls (suc n) 0
later_get x [] n = refl
later_get x (l ∷ ls) n = refl

first_get : (x : ℕ) (ls : List ℕ) → get_or (with_level x ls) 0 0 ≡ x
first_get x [] = refl
first_get x (l ∷ ls) = refl

-- the level of the text up to the PDI that ends `n` isolates more than are open
abbrev pub text_level : ℕ → List Class → ℕ
text_level n cs = level_of_rest n (take (until_pdi (suc n) cs) cs)

text_more : (n m : ℕ) (c : Class) (cs : List Class) → count_after (suc n) c ≡ suc m → count_after n c ≡ m → (n ≡ 0 → is_strong c ≡ false)
    → text_level n (c ∷ cs) ≡ text_level m cs
text_more n m c cs e f s =
    let a : until_pdi (suc n) (c ∷ cs) ≡ 1 + until_pdi (suc m) cs = until_cons (suc n) c cs (suc m) e (omega arith) in
    let b : 1 + until_pdi (suc m) cs ≡ suc (until_pdi (suc m) cs) = omega arith in
    ap (λ k. level_of_rest n (take k (c ∷ cs))) (a ∙ b) ∙ level_step n c (take (until_pdi (suc m) cs) cs) s
    ∙ ap (λ k. level_of_rest k (take (until_pdi (suc m) cs) cs)) f

text_strong : (c : Class) (cs : List Class) → count_after 1 c ≡ 1 → is_strong c ≡ true → text_level 0 (c ∷ cs) ≡ level_of_strong c
text_strong c cs e s =
    let a : until_pdi 1 (c ∷ cs) ≡ 1 + until_pdi 1 cs = until_cons 1 c cs 1 e (omega arith) in
    let b : 1 + until_pdi 1 cs ≡ suc (until_pdi 1 cs) = omega arith in
    ap (λ k. level_of_rest 0 (take k (c ∷ cs))) (a ∙ b) ∙ level_here c (take (until_pdi 1 cs) cs) s

pub texts-get : (cs : List Class) (n : ℕ) → get_or (texts cs) n 0 ≡ text_level n cs
texts-get [] zero = refl
texts-get [] (suc n) = refl
texts-get (PDI ∷ cs) zero = sym (ap (λ k. level_of_rest 0 (take k (PDI ∷ cs))) (until_none 1 PDI cs refl))
texts-get (PDI ∷ cs) (suc n) = texts-get cs n ∙ sym (text_more (suc n) n PDI cs refl refl (λ h. refl))
texts-get (LRI ∷ cs) n = rest_get (texts cs) n ∙ texts-get cs (suc n) ∙ sym (text_more n (suc n) LRI cs refl refl (λ h. refl))
texts-get (RLI ∷ cs) n = rest_get (texts cs) n ∙ texts-get cs (suc n) ∙ sym (text_more n (suc n) RLI cs refl refl (λ h. refl))
texts-get (FSI ∷ cs) n = rest_get (texts cs) n ∙ texts-get cs (suc n) ∙ sym (text_more n (suc n) FSI cs refl refl (λ h. refl))
texts-get (L ∷ cs) zero = first_get 0 (texts cs) ∙ sym (text_strong L cs refl refl)
texts-get (R ∷ cs) zero = first_get 1 (texts cs) ∙ sym (text_strong R cs refl refl)
texts-get (AL ∷ cs) zero = first_get 1 (texts cs) ∙ sym (text_strong AL cs refl refl)
texts-get (L ∷ cs) (suc n) = later_get 0 (texts cs) n ∙ texts-get cs (suc n) ∙ sym (text_more (suc n) (suc n) L cs refl refl (λ h. absurd (omega (arith, h))))
texts-get (R ∷ cs) (suc n) = later_get 1 (texts cs) n ∙ texts-get cs (suc n) ∙ sym (text_more (suc n) (suc n) R cs refl refl (λ h. absurd (omega (arith, h))))
texts-get (AL ∷ cs) (suc n) = later_get 1 (texts cs) n ∙ texts-get cs (suc n) ∙ sym (text_more (suc n) (suc n) AL cs refl refl (λ h. absurd (omega (arith, h))))
texts-get (c ∷ cs) n = texts-get cs n ∙ sym (text_more n n c cs refl refl (λ h. refl))

first_level-get : (ls : List ℕ) → first_level ls ≡ get_or ls 0 0
first_level-get [] = refl
first_level-get (l ∷ ls) = refl

-- the first of them is the level of an isolate before the text
pub texts-first : (cs : List Class) → first_level (texts cs) ≡ isolate_level cs
texts-first cs = first_level-get (texts cs) ∙ texts-get cs 0

pub texts-more : (cs : List Class) (i : ℕ) → i < length cs → texts (drop i cs) ≡ levels_before (get_or cs i L) (texts (drop (i + 1) cs))
texts-more cs i h = at_drop_more texts cs i L h
