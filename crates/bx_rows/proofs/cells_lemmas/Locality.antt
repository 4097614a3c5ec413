-- The text before a break does not affect the breaks after it, so the clusters of the rest are its own.
use Rattle.std.proofs.Common.{◌≡◌, ℕ, Bool, true, false, not, ◌&&◌, ◌||◌, cond, List, [], ◌∷◌, ◌++◌, map, unwrap_or, refl, sym, ap, ap₂, ◌∙◌, true≢false}
use Rattle.std.proofs.Common.{append-nil}
use Rattle.std.specs.List.{concat}
use Rattle.std.specs.Bool.{⊤}
use Rattle.std.proofs.lemmas.Bool.{and_parts, or_left, or_right}
use Rattle.ucd_breaks.specs.GraphemeClusterBreak.{grapheme_cluster_break}
use Rattle.ucd_breaks.specs.declared.GraphemeClusterBreak.{GraphemeClusterBreak}
use Rattle.ucd_breaks.specs.declared.GraphemeClusterBreak.TheVariants as breaks
use Rattle.ucd_derived.specs.IndicConjunctBreak.{indic_conjunct_break}
use Rattle.ucd_derived.specs.declared.IndicConjunctBreak.{IndicConjunctBreak}
use Rattle.ucd_derived.specs.declared.IndicConjunctBreak.TheVariants as InCb
use Rattle.ucd_emoji.specs.Binary.{is_extended_pictographic}
use Rattle.unicode_segmentation.specs.Grapheme.{break_by_pair, ends_in_linker, is_consonant, joins_conjunct, is_extend, is_zwj, is_regional, ends_in_pictograph}
use Rattle.unicode_segmentation.specs.Grapheme.{joins_emoji, ends_in_half_flag, is_grapheme_break}
use Rattle.unicode_segmentation.specs.Segments.{prepend, cut}
use Rattle.bx_rows.proofs.cells_lemmas.BreakTables.{is_breaking, stays, extends_conjunct, is_no_part, stays-extend, ends-breaking}

-- after `last`, the rules that look back find the same before it, whether `b` or `d`
pub record IsAlike (last : ℕ) (b d : List ℕ) : Type 0 where
  pub linker : ends_in_linker (map indic_conjunct_break (last ∷ b)) ≡ ends_in_linker (map indic_conjunct_break (last ∷ d))
  pub emoji : (is_zwj (grapheme_cluster_break last) && ends_in_pictograph b) ≡ (is_zwj (grapheme_cluster_break last) && ends_in_pictograph d)
  pub pictograph : ends_in_pictograph (last ∷ b) ≡ ends_in_pictograph (last ∷ d)
  pub flag : ends_in_half_flag (last ∷ b) ≡ ends_in_half_flag (last ∷ d)

linker_step : (v : IndicConjunctBreak) (vs ws : List IndicConjunctBreak) → (extends_conjunct v ≡ true → ends_in_linker vs ≡ ends_in_linker ws)
    → ends_in_linker (v ∷ vs) ≡ ends_in_linker (v ∷ ws)
unfolding ends_in_linker
linker_step InCb.Linker vs ws h = refl
linker_step InCb.Extend vs ws h = h refl
linker_step InCb.Consonant vs ws h = refl
linker_step InCb.None vs ws h = refl

no_linker : (v : IndicConjunctBreak) (vs : List IndicConjunctBreak) → is_no_part v ≡ true → ends_in_linker (v ∷ vs) ≡ false
unfolding ends_in_linker
no_linker InCb.None vs h = refl
no_linker InCb.Linker vs h = cc
no_linker InCb.Extend vs h = cc
no_linker InCb.Consonant vs h = cc

IsAlike-more : (next last : ℕ) (b d : List ℕ) → IsAlike last b d → IsAlike next (last ∷ b) (last ∷ d)
unfolding ends_in_pictograph ends_in_half_flag
IsAlike-more next last b d h = record {
  linker = linker_step (indic_conjunct_break next) _ _ (λ _. h.linker);
  emoji = ap (λ x. is_zwj (grapheme_cluster_break next) && x) h.pictograph;
  pictograph = ap (λ x. is_extended_pictographic next || (is_extend (grapheme_cluster_break next) && x)) h.pictograph;
  flag = ap (λ x. is_regional (grapheme_cluster_break next) && not x) h.flag;
}

breaks-alike : (last : ℕ) (b d after : List ℕ) → IsAlike last b d → is_grapheme_break true (last ∷ b) after ≡ is_grapheme_break true (last ∷ d) after
unfolding is_grapheme_break
breaks-alike last b d [] h = refl
breaks-alike last b d (next ∷ after) h =
    let all : Bool → Bool → Bool → Bool = λ x y z. unwrap_or (break_by_pair true (grapheme_cluster_break last) (grapheme_cluster_break next))
    (not ((true && (x && is_consonant (indic_conjunct_break next))) || (y && is_extended_pictographic next) || (z && is_regional
    (grapheme_cluster_break next)))) in
    ap (λ x. all x (is_zwj (grapheme_cluster_break last) && ends_in_pictograph b) (ends_in_half_flag (last ∷ b))) h.linker
    ∙ ap (λ y. all (ends_in_linker (map indic_conjunct_break (last ∷ d))) y (ends_in_half_flag (last ∷ b))) h.emoji
    ∙ ap (λ z. all (ends_in_linker (map indic_conjunct_break (last ∷ d))) (is_zwj (grapheme_cluster_break last) && ends_in_pictograph d) z) h.flag

cut-alike : (last : ℕ) (b d cs after : List ℕ) → IsAlike last b d
    → cut (is_grapheme_break true) (last ∷ b) cs after ≡ cut (is_grapheme_break true) (last ∷ d) cs after
unfolding cut
cut-alike last b d [] after h = refl
cut-alike last b d (c ∷ cs) after h =
    let more = IsAlike-more c last b d h in
    ap₂ (λ t rest. cond t ((c ∷ []) ∷ rest) (prepend (c ∷ []) rest)) (breaks-alike c (last ∷ b) (last ∷ d) (cs ++ after) more)
    (cut-alike c (last ∷ b) (last ∷ d) cs after more)

-- ---- at a break

before_extend : (g : GraphemeClusterBreak) (o : Bool) → unwrap_or (break_by_pair true g breaks.Extend) o ≡ true → is_breaking g ≡ true
before_extend breaks.Control o h = refl
before_extend breaks.Cr o h = refl
before_extend breaks.Lf o h = refl
before_extend breaks.Other o h = cc
before_extend breaks.Extend o h = cc
before_extend breaks.L o h = cc
before_extend breaks.Lv o h = cc
before_extend breaks.Lvt o h = cc
before_extend breaks.Prepend o h = cc
before_extend breaks.RegionalIndicator o h = cc
before_extend breaks.SpacingMark o h = cc
before_extend breaks.T o h = cc
before_extend breaks.V o h = cc
before_extend breaks.Zwj o h = cc

before_zwj : (g : GraphemeClusterBreak) (o : Bool) → unwrap_or (break_by_pair true g breaks.Zwj) o ≡ true → is_breaking g ≡ true
before_zwj breaks.Control o h = refl
before_zwj breaks.Cr o h = refl
before_zwj breaks.Lf o h = refl
before_zwj breaks.Other o h = cc
before_zwj breaks.Extend o h = cc
before_zwj breaks.L o h = cc
before_zwj breaks.Lv o h = cc
before_zwj breaks.Lvt o h = cc
before_zwj breaks.Prepend o h = cc
before_zwj breaks.RegionalIndicator o h = cc
before_zwj breaks.SpacingMark o h = cc
before_zwj breaks.T o h = cc
before_zwj breaks.V o h = cc
before_zwj breaks.Zwj o h = cc

-- a character that stays breaks only from one that breaks
before_stays : (g h : GraphemeClusterBreak) (o : Bool) → stays h ≡ true → unwrap_or (break_by_pair true g h) o ≡ true → is_breaking g ≡ true
before_stays g breaks.Extend o s h = before_extend g o h
before_stays g breaks.Zwj o s h = before_zwj g o h
before_stays g breaks.Control o s h = cc
before_stays g breaks.Cr o s h = cc
before_stays g breaks.Lf o s h = cc
before_stays g breaks.Other o s h = cc
before_stays g breaks.L o s h = cc
before_stays g breaks.Lv o s h = cc
before_stays g breaks.Lvt o s h = cc
before_stays g breaks.Prepend o s h = cc
before_stays g breaks.RegionalIndicator o s h = cc
before_stays g breaks.SpacingMark o s h = cc
before_stays g breaks.T o s h = cc
before_stays g breaks.V o s h = cc

no_extend : (g : GraphemeClusterBreak) → is_breaking g ≡ true → is_extend g ≡ false
no_extend breaks.Control h = refl
no_extend breaks.Cr h = refl
no_extend breaks.Lf h = refl
no_extend breaks.Extend h = cc
no_extend breaks.Zwj h = cc
no_extend breaks.Other h = cc
no_extend breaks.L h = cc
no_extend breaks.Lv h = cc
no_extend breaks.Lvt h = cc
no_extend breaks.Prepend h = cc
no_extend breaks.RegionalIndicator h = cc
no_extend breaks.SpacingMark h = cc
no_extend breaks.T h = cc
no_extend breaks.V h = cc

regional_from_test : (g : GraphemeClusterBreak) → is_regional g ≡ true → g ≡ breaks.RegionalIndicator
regional_from_test breaks.RegionalIndicator h = refl
regional_from_test breaks.Control h = cc
regional_from_test breaks.Cr h = cc
regional_from_test breaks.Lf h = cc
regional_from_test breaks.Extend h = cc
regional_from_test breaks.Zwj h = cc
regional_from_test breaks.Other h = cc
regional_from_test breaks.L h = cc
regional_from_test breaks.Lv h = cc
regional_from_test breaks.Lvt h = cc
regional_from_test breaks.Prepend h = cc
regional_from_test breaks.SpacingMark h = cc
regional_from_test breaks.T h = cc
regional_from_test breaks.V h = cc

-- `p` and the characters before it end in no linker and no pictograph
record EndsBefore (p : ℕ) (before : List ℕ) : Type 0 where
  linker : ends_in_linker (map indic_conjunct_break (p ∷ before)) ≡ false
  pictograph : ends_in_pictograph (p ∷ before) ≡ false

EndsBefore-breaking : (p : ℕ) (before : List ℕ) → is_breaking (grapheme_cluster_break p) ≡ true → EndsBefore p before
unfolding ends_in_pictograph
EndsBefore-breaking p before h =
    let e = ends-breaking p h in record {
      linker = no_linker (indic_conjunct_break p) _ e.0;
      pictograph = ap₂ (λ x y. x || (y && ends_in_pictograph before)) e.1 (no_extend _ h);
    }

or_true : (x y : Bool) → not ((x || y) || true) ≡ false
or_true true y = refl
or_true false true = refl
or_true false false = refl

-- a regional indicator breaks from no half flag
no_half : (g h : GraphemeClusterBreak) (x y half : Bool) → h ≡ breaks.RegionalIndicator → (half ≡ true → g ≡ breaks.RegionalIndicator)
    → unwrap_or (break_by_pair true g h) (not ((x || y) || (half && is_regional h))) ≡ true → half ≡ false
no_half g h x y false a b e = refl
no_half g h x y true a b e =
    absurd (true≢false (sym e ∙ ap₂ (λ g h. unwrap_or (break_by_pair true g h) (not ((x || y) || (true && is_regional h)))) (b refl) a ∙ or_true x y))

and_same : (z x y : Bool) → (z ≡ true → x ≡ y) → (z && x) ≡ (z && y)
and_same true x y h = h refl
and_same false x y h = refl

IsAlike-at_break : (p c : ℕ) (before after : List ℕ) → is_grapheme_break true (p ∷ before) (c ∷ after) ≡ true → IsAlike c (p ∷ before) []
unfolding is_grapheme_break ends_in_linker ends_in_pictograph ends_in_half_flag
IsAlike-at_break p c before after e =
    let g = grapheme_cluster_break p in
    let h = grapheme_cluster_break c in
    let half = ends_in_half_flag (p ∷ before) in
    let ends : stays h ≡ true → EndsBefore p before = λ s. EndsBefore-breaking p before (before_stays g h _ s e) in
    record {
      linker = linker_step (indic_conjunct_break c) (map indic_conjunct_break (p ∷ before)) [] (λ x. (ends (stays-extend c x)).linker);
      emoji = and_same (is_zwj h) _ _ (λ z. (ends (or_right (is_extend h) (is_zwj h) z)).pictograph);
      pictograph = ap (λ x. is_extended_pictographic c || x) (and_same (is_extend h) _ _ (λ z. (ends (or_left (is_extend h) (is_zwj h) z)).pictograph));
      flag = and_same (is_regional h) _ _
          (λ r. ap not (no_half g h (true && joins_conjunct (p ∷ before) c) (joins_emoji (p ∷ before) c) half (regional_from_test h r)
          (λ f. regional_from_test g (and_parts (is_regional g) (not (ends_in_half_flag before)) f).0) e));
    }

-- the characters after a break are cut as a text of their own
pub cut-own : (before : List ℕ) (c : ℕ) (cs : List ℕ) → is_grapheme_break true before (c ∷ cs) ≡ true
    → cut (is_grapheme_break true) before (c ∷ cs) [] ≡ cut (is_grapheme_break true) [] (c ∷ cs) []
unfolding cut
cut-own [] c cs e = refl
cut-own (p ∷ before) c cs e =
    let at = IsAlike-at_break p c before cs e in
    ap₂ (λ t rest. cond t ((c ∷ []) ∷ rest) (prepend (c ∷ []) rest)) (breaks-alike c (p ∷ before) [] (cs ++ []) at) (cut-alike c (p ∷ before) [] cs [] at)

-- ---- the clusters after the first are the clusters of the rest

concat_step : (t : Bool) (c : ℕ) (rest : List (List ℕ)) → concat (cond t ((c ∷ []) ∷ rest) (prepend (c ∷ []) rest)) ≡ c ∷ concat rest
concat_step true c rest = refl
concat_step false c [] = refl
concat_step false c (p ∷ ps) = refl

pub concat-own : (before cs : List ℕ) → concat (cut (is_grapheme_break true) before cs []) ≡ cs
unfolding cut
concat-own before [] = refl
concat-own before (c ∷ cs) = concat_step (is_grapheme_break true (c ∷ before) (cs ++ [])) c (cut (is_grapheme_break true) (c ∷ before) cs [])
    ∙ ap (λ xs. c ∷ xs) (concat-own (c ∷ before) cs)

-- the lists are the clusters of their concatenation
abbrev pub AreOwn : List (List ℕ) → Type 0
AreOwn gs = gs ≡ cut (is_grapheme_break true) [] (concat gs) []

abbrev pub TailsOwn : List (List ℕ) → Type 0
TailsOwn [] = ⊤
TailsOwn (g ∷ gs) = AreOwn gs

none_own : AreOwn []
unfolding cut
none_own = refl

own_behind : (before : List ℕ) (c : ℕ) (cs : List ℕ) → is_grapheme_break true (c ∷ before) (cs ++ []) ≡ true
    → AreOwn (cut (is_grapheme_break true) (c ∷ before) cs [])
unfolding cut
own_behind before c [] e = none_own
own_behind before c (d ∷ ds) e =
    cut-own (c ∷ before) d ds (ap (λ x. is_grapheme_break true (c ∷ before) (d ∷ x)) (sym (append-nil ds)) ∙ e)
    ∙ ap (λ x. cut (is_grapheme_break true) [] x []) (sym (concat-own (c ∷ before) (d ∷ ds)))

tails_step : (t : Bool) (c : ℕ) (rest : List (List ℕ)) → (t ≡ true → AreOwn rest) → TailsOwn rest → TailsOwn (cond t ((c ∷ []) ∷ rest) (prepend (c ∷ []) rest))
tails_step true c rest own tails = own refl
tails_step false c [] own tails = none_own
tails_step false c (p ∷ ps) own tails = tails

pub tails-own : (before cs : List ℕ) → TailsOwn (cut (is_grapheme_break true) before cs [])
unfolding cut
tails-own before [] = tt
tails-own before (c ∷ cs) =
    tails_step (is_grapheme_break true (c ∷ before) (cs ++ [])) c (cut (is_grapheme_break true) (c ∷ before) cs []) (own_behind before c cs)
    (tails-own (c ∷ before) cs)
