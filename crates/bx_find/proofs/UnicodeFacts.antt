-- Facts of Unicode's tables, each shown by a computation.
use Rattle.std.proofs.Common.{◌≡◌, ◌≤◌, ◌<◌, ◌+◌, ◌-◌, ◌∙◌, ℕ, Bool, true, false, not, ◌%◌, ◌/◌, ◌&&◌, nat_le, nat_lt, List, [], ◌∷◌, length}
use Rattle.std.proofs.Common.{flat_map, refl, ap, ap₂, sym, subst, inl, inr, arith, leb-true, eqb-true, append-nil, length-append}
use Rattle.std.proofs.lemmas.Bool.{cases_Bool, cases_eq, cases_lt, cond-false}
use Rattle.std.proofs.lemmas.Bool.Decides.{nat_tests}
use Rattle.std.specs.Char.{to_ascii_lowercase}
use Rattle.ucd_table.proofs.Computing.{tables}
use Rattle.ucd_table.proofs.Facts.{tree_value, tree_of, tree_value-tree_of}
use Rattle.ucd_table.proofs.Stepped.{Stepped}
use Rattle.ucd_table.proofs.RangedFacts.{values_ok, points_ok, at_values, Stepped-at_values, Stepped-at_points}
use Rattle.ucd_normal.specs.CanonicalCombiningClass.{canonical_combining_class as ccc}
use Rattle.ucd_normal.specs.Decomposition.{canonical_decomposition}
use Rattle.ucd_normal.specs.declared.forms.Form.TheVariants.{Nfd}
use Rattle.ucd_normal.proofs.CanonicalCombiningClassLemmas.{canonical_combining_class_stepped}
use Rattle.ucd_normal.proofs.DecompositionLemmas.{canonical_decomposition_stepped}
use Rattle.ucd_case.specs.CaseFolding.{full_folding, full_fold, or_itself}
use Rattle.ucd_case.proofs.CaseFoldingLemmas.{full_folding_stepped, full_fold-ascii}
use Rattle.ucd_case.proofs.BoundLemmas.{length-full_folding}
use Rattle.unicode_normalization.specs.Decompose.{decompose}
use Rattle.unicode_normalization.specs.Forms.{nfd, normalize, decomposed}
use Rattle.unicode_normalization.specs.Hangul.{is_syllable, decompose_hangul}
use Rattle.unicode_normalization.specs.Order.{is_ordered, is_reorderable, canonical_order}
use Rattle.unicode_normalization.proofs.DecomposeLemmas.{decompose-syllable}
use Rattle.unicode_normalization.proofs.HangulLemmas.{is_syllable-true, decompose_hangul-two, decompose_hangul-three}
use Rattle.unicode_normalization.proofs.OrderLemmas.{canonical_order-ordered, is_ordered-one, is_ordered-starter}
use Rattle.unicode_normalization.proofs.TableFacts.{ordered_by, class_of_jamo}
use Rattle.ucd_normal.specs.Decomposition.{or_itself as or_char}
use Rattle.bx_find.specs.Short.{is_short}

abbrev by_tree : {V : Type 0} (f : ℕ → V) → Stepped f → ℕ → V
by_tree f s = tree_value s.default (tree_of f s)

-- a decomposition's marks are in order
decomposition-ordered : (c : ℕ) → ordered_by ccc (canonical_decomposition c) ≡ true
unfolding tables values_ok canonical_decomposition_stepped canonical_combining_class_stepped ordered_by
decomposition-ordered =
    Stepped-at_values canonical_decomposition canonical_decomposition_stepped (ordered_by ccc)
    (subst (λ f. at_values canonical_decomposition canonical_decomposition_stepped (ordered_by f) ≡ true) (sym (tree_value-tree_of ccc canonical_combining_class_stepped)) refl)

-- the number of characters that some characters fold to
abbrev folded_count : (ℕ → List ℕ) → List ℕ → ℕ
folded_count folding [] = 0
folded_count folding (c ∷ cs) = length (or_itself c (folding c)) + folded_count folding cs

folding_by_tree : ℕ → List ℕ
unfolding tables values_ok canonical_decomposition_stepped full_folding_stepped
folding_by_tree = by_tree full_folding full_folding_stepped

same_folding : full_folding ≡ folding_by_tree
unfolding folding_by_tree
same_folding = tree_value-tree_of full_folding full_folding_stepped

decomposition-few : (c : ℕ) → nat_le (folded_count full_folding (canonical_decomposition c)) 4 ≡ true
unfolding folding_by_tree
decomposition-few c =
    ap (λ f. nat_le (folded_count f (canonical_decomposition c)) 4) same_folding
    ∙ Stepped-at_values canonical_decomposition canonical_decomposition_stepped (λ v. nat_le (folded_count folding_by_tree v) 4) refl c

abbrev is_empty : List ℕ → Bool
is_empty [] = true
is_empty (c ∷ cs) = false

empty : (cs : List ℕ) → is_empty cs ≡ true → cs ≡ []
empty [] e = refl
empty (c ∷ cs) e = absurd (cc)

-- ---- one character, decomposed

same-order : (cs : List ℕ) → ordered_by ccc cs ≡ is_ordered cs
unfolding ordered_by is_ordered is_reorderable
same-order [] = refl
same-order (a ∷ []) = refl
same-order (a ∷ b ∷ cs) = ap (λ x. not (is_reorderable a b) && x) (same-order (b ∷ cs))

ordered-or : (c : ℕ) (cs : List ℕ) → is_ordered cs ≡ true → is_ordered (or_char c cs) ≡ true
ordered-or c [] h = is_ordered-one c
ordered-or c (d ∷ ds) h = h

jamo-starts : (c : ℕ) → 0x1100 ≤ c → c < 0x1200 → ccc c ≤ 0
jamo-starts c low high = let e = class_of_jamo c low (omega arith) in omega (arith, eqb-true _ 0 e)

ordered-hangul : (c : ℕ) → is_syllable c ≡ true → is_ordered (decompose_hangul c) ≡ true
ordered-hangul c h =
    let range = is_syllable-true c h in
    let l = jamo-starts (0x1100 + (c - 0xAC00) / 588) (omega arith) (omega arith) in
    let v = jamo-starts (0x1161 + (c - 0xAC00) % 588 / 28) (omega arith) (omega arith) in
    elim (cases_eq ((c - 0xAC00) % 28) 0) [
      | inl two ↦ ap is_ordered (decompose_hangul-two c two) ∙ is_ordered-starter _ _ l (is_ordered-one _)
      | inr three ↦ ap is_ordered (decompose_hangul-three c three) ∙ is_ordered-starter _ _ l (is_ordered-starter _ _ v (is_ordered-one _))
    ]

decompose-table : (c : ℕ) → is_syllable c ≡ false → decompose Nfd c ≡ or_char c (canonical_decomposition c)
unfolding decompose
decompose-table c h = cond-false _ _ _ h

decompose-ordered : (c : ℕ) → is_ordered (decompose Nfd c) ≡ true
decompose-ordered c = elim (cases_Bool (is_syllable c)) [
  | inl h ↦ ap is_ordered (decompose-syllable Nfd c h) ∙ ordered-hangul c h
  | inr h ↦ ap is_ordered (decompose-table c h) ∙ ordered-or c _ (sym (same-order (canonical_decomposition c)) ∙ decomposition-ordered c)
]

pub nfd_one : (c : ℕ) → nfd (c ∷ []) ≡ decompose Nfd c
unfolding normalize decomposed
nfd_one c = ap canonical_order (append-nil (decompose Nfd c)) ∙ canonical_order-ordered (decompose Nfd c) (decompose-ordered c)

-- ---- few letters

jamo-unfolded : (c : ℕ) → is_empty (full_folding c) ≡ false → (not (nat_le 0x1100 c && nat_lt c 0x1200)) ≡ true
unfolding tables points_ok full_folding_stepped
jamo-unfolded = Stepped-at_points full_folding full_folding_stepped is_empty (λ c v. not (nat_le 0x1100 c && nat_lt c 0x1200)) refl

jamo-fold : (c : ℕ) → 0x1100 ≤ c → c < 0x1200 → length (full_fold c) ≡ 1
jamo-fold c low high = elim (cases_Bool (is_empty (full_folding c))) [
  | inl none ↦ ap (λ cs. length (or_itself c cs)) (empty _ none)
  | inr some ↦ let e : (not (nat_le 0x1100 c && nat_lt c 0x1200)) ≡ false = grind (arith, nat_tests) in let clash = sym e ∙ jamo-unfolded c some in absurd (cc)
]

counted : (cs : List ℕ) → folded_count full_folding cs ≡ length (flat_map full_fold cs)
counted [] = refl
counted (c ∷ cs) = ap (λ n. length (full_fold c) + n) (counted cs) ∙ sym (length-append (full_fold c) (flat_map full_fold cs))

or-three : (c : ℕ) (cs : List ℕ) → length cs ≤ 3 → length (or_itself c cs) ≤ 3
or-three c [] h = omega arith
or-three c (d ∷ ds) h = h

fold-three : (c : ℕ) → length (full_fold c) ≤ 3
fold-three c = or-three c (full_folding c) (length-full_folding c)

few-or : (c : ℕ) (cs : List ℕ) → folded_count full_folding cs ≤ 4 → folded_count full_folding (or_char c cs) ≤ 4
few-or c [] h = omega (arith, fold-three c)
few-or c (d ∷ ds) h = h

few-hangul : (c : ℕ) → is_syllable c ≡ true → folded_count full_folding (decompose_hangul c) ≤ 4
few-hangul c h =
    let range = is_syllable-true c h in
    let l = jamo-fold (0x1100 + (c - 0xAC00) / 588) (omega arith) (omega arith) in
    let v = jamo-fold (0x1161 + (c - 0xAC00) % 588 / 28) (omega arith) (omega arith) in
    let t = jamo-fold (0x11A7 + (c - 0xAC00) % 28) (omega arith) (omega arith) in
    elim (cases_eq ((c - 0xAC00) % 28) 0) [
      | inl two ↦ let e = ap (folded_count full_folding) (decompose_hangul-two c two) in omega (arith, e, l, v)
      | inr three ↦ let e = ap (folded_count full_folding) (decompose_hangul-three c three) in omega (arith, e, l, v, t)
    ]

few-parts : (c : ℕ) → folded_count full_folding (decompose Nfd c) ≤ 4
few-parts c = elim (cases_Bool (is_syllable c)) [
  | inl h ↦ subst (λ cs. folded_count full_folding cs ≤ 4) (sym (decompose-syllable Nfd c h)) (few-hangul c h)
  | inr h ↦ subst (λ cs. folded_count full_folding cs ≤ 4) (sym (decompose-table c h)) (few-or c _ (leb-true _ _ (decomposition-few c)))
]

-- the characters of a decomposition fold to four at most
pub few_folded : (c : ℕ) → length (flat_map full_fold (decompose Nfd c)) ≤ 4
few_folded c = subst (λ n. n ≤ 4) (counted (decompose Nfd c)) (few-parts c)

-- ---- short ways

no-syllable : (c : ℕ) → is_short c ≡ true → is_syllable c ≡ false
no-syllable c h = grind (arith, nat_tests)

short-whole : (c : ℕ) → is_empty (canonical_decomposition c) ≡ false → (not (is_short c)) ≡ true
unfolding tables points_ok canonical_decomposition_stepped
short-whole = Stepped-at_points canonical_decomposition canonical_decomposition_stepped is_empty (λ c v. not (is_short c)) refl

short-unfolded : (c : ℕ) → is_empty (full_folding c) ≡ false → (not (is_short c && nat_le 128 c)) ≡ true
unfolding tables points_ok full_folding_stepped
short-unfolded = Stepped-at_points full_folding full_folding_stepped is_empty (λ c v. not (is_short c && nat_le 128 c)) refl

pub short_whole : (c : ℕ) → is_short c ≡ true → decompose Nfd c ≡ c ∷ []
short_whole c h = elim (cases_Bool (is_empty (canonical_decomposition c))) [
  | inl none ↦ decompose-table c (no-syllable c h) ∙ ap (or_char c) (empty _ none)
  | inr some ↦ let clash = ap not (sym h) ∙ short-whole c some in absurd (cc)
]

high-same : (c : ℕ) → 128 ≤ c → to_ascii_lowercase c ≡ c
high-same c h = grind (arith, nat_tests)

short-high : (c : ℕ) → is_short c ≡ true → 128 ≤ c → full_fold c ≡ to_ascii_lowercase c ∷ []
short-high c h high = elim (cases_Bool (is_empty (full_folding c))) [
  | inl none ↦ ap (or_itself c) (empty _ none) ∙ ap (λ d. d ∷ []) (sym (high-same c high))
  | inr some ↦
      let e : nat_le 128 c ≡ true = grind (arith, nat_tests) in
      let clash = ap₂ (λ x y. not (x && y)) (sym h) (sym e) ∙ short-unfolded c some in
      absurd (cc)
]

pub short_fold : (c : ℕ) → is_short c ≡ true → full_fold c ≡ to_ascii_lowercase c ∷ []
short_fold c h = elim (cases_lt c 128) [ inl low ↦ full_fold-ascii c low | inr high ↦ short-high c h high ]
