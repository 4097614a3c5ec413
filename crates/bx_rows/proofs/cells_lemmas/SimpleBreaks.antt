-- The clusters of a text of simple characters: each begins with one that begins, and its marks follow.
use Rattle.std.proofs.Common.{◌≡◌, ℕ, ◌+◌, ◌⊎◌, Bool, true, false, not, ◌&&◌, ◌||◌, cond, nat_lt, nat_le, List, [], ◌∷◌, ◌++◌, map, unwrap_or, None, refl, sym}
use Rattle.std.proofs.Common.{ap, ap₂, ◌∙◌, inl, inr, ⊎_elim, subst, sum_by, zero-add}
use Rattle.std.specs.Str.{all_scalars}
use Rattle.std.proofs.lemmas.List.Sums.{sum_by-cons}
use lib.Utf8.{scalar}
use Rattle.std.specs.List.{list_all}
use Rattle.std.proofs.lemmas.Bool.{and_parts, and_from, and_left, and_right, not-true, or_cases}
use Rattle.ucd_breaks.specs.GraphemeClusterBreak.{grapheme_cluster_break}
use Rattle.ucd_breaks.specs.declared.GraphemeClusterBreak.{GraphemeClusterBreak}
use Rattle.ucd_breaks.specs.declared.GraphemeClusterBreak.TheVariants as breaks
use Rattle.ucd_derived.specs.IndicConjunctBreak.{indic_conjunct_break}
use Rattle.ucd_emoji.specs.Binary.{is_extended_pictographic}
use Rattle.unicode_segmentation.specs.Grapheme.{break_by_pair, ends_in_linker, is_consonant, joins_conjunct, is_extend, is_zwj, is_regional, ends_in_pictograph}
use Rattle.unicode_segmentation.specs.Grapheme.{joins_emoji, ends_in_half_flag, joins_flag, is_grapheme_break}
use Rattle.unicode_segmentation.specs.Segments.{prepend, cut}
use Rattle.unicode_width.specs.Kind.{kind}
use Rattle.bx_rows.specs.cells.Simple.{is_shown, is_other, own_columns, begins, is_zero, is_mark, is_simple, simple_columns, starts}

-- ---- consequences of the tests

pub record Begins (c : ℕ) : Type 0 where
  pub shown : is_shown c ≡ true
  pub other : grapheme_cluster_break c ≡ breaks.Other
  pub no_consonant : is_consonant (indic_conjunct_break c) ≡ false
  pub some_columns : nat_le 1 (own_columns c) ≡ true

pub record IsMark (c : ℕ) : Type 0 where
  pub high : nat_lt 0xA0 c ≡ true
  pub shown : is_shown c ≡ true
  pub extend : grapheme_cluster_break c ≡ breaks.Extend
  pub zero_columns : is_zero (kind c) ≡ true

other_from_test : (g : GraphemeClusterBreak) → is_other g ≡ true → g ≡ breaks.Other
other_from_test breaks.Other h = refl
other_from_test breaks.Control h = cc
other_from_test breaks.Cr h = cc
other_from_test breaks.Extend h = cc
other_from_test breaks.L h = cc
other_from_test breaks.Lf h = cc
other_from_test breaks.Lv h = cc
other_from_test breaks.Lvt h = cc
other_from_test breaks.Prepend h = cc
other_from_test breaks.RegionalIndicator h = cc
other_from_test breaks.SpacingMark h = cc
other_from_test breaks.T h = cc
other_from_test breaks.V h = cc
other_from_test breaks.Zwj h = cc

extend_from_test : (g : GraphemeClusterBreak) → is_extend g ≡ true → g ≡ breaks.Extend
extend_from_test breaks.Extend h = refl
extend_from_test breaks.Control h = cc
extend_from_test breaks.Cr h = cc
extend_from_test breaks.Other h = cc
extend_from_test breaks.L h = cc
extend_from_test breaks.Lf h = cc
extend_from_test breaks.Lv h = cc
extend_from_test breaks.Lvt h = cc
extend_from_test breaks.Prepend h = cc
extend_from_test breaks.RegionalIndicator h = cc
extend_from_test breaks.SpacingMark h = cc
extend_from_test breaks.T h = cc
extend_from_test breaks.V h = cc
extend_from_test breaks.Zwj h = cc

pub Begins-from_test : (c : ℕ) → begins c ≡ true → Begins c
Begins-from_test c h =
    let a = and_parts (is_shown c) (is_other (grapheme_cluster_break c) && (not (is_consonant (indic_conjunct_break c)) && nat_le 1 (own_columns c))) h in
    let b = and_parts (is_other (grapheme_cluster_break c)) (not (is_consonant (indic_conjunct_break c)) && nat_le 1 (own_columns c)) a.1 in
    let d = and_parts (not (is_consonant (indic_conjunct_break c))) (nat_le 1 (own_columns c)) b.1 in
    record { shown = a.0; other = other_from_test _ b.0; no_consonant = not-true _ d.0; some_columns = d.1 }

pub IsMark-from_test : (c : ℕ) → is_mark c ≡ true → IsMark c
IsMark-from_test c h =
    let a = and_parts (nat_lt 0xA0 c && is_shown c) (is_extend (grapheme_cluster_break c) && is_zero (kind c)) h in
    let b = and_parts (nat_lt 0xA0 c) (is_shown c) a.0 in
    let d = and_parts (is_extend (grapheme_cluster_break c)) (is_zero (kind c)) a.1 in
    record { high = b.0; shown = b.1; extend = extend_from_test _ d.0; zero_columns = d.1 }

pub mark_begins_none : (c : ℕ) → is_mark c ≡ true → begins c ≡ false
mark_begins_none c h =
    and_right (is_shown c) _ (and_left (is_other (grapheme_cluster_break c)) _ (ap is_other (IsMark-from_test c h).extend))

pub cases-simple : (c : ℕ) → is_simple c ≡ true → (begins c ≡ true) ⊎ (is_mark c ≡ true)
cases-simple c h = or_cases (begins c) (is_mark c) h

-- ---- breaks

-- the values that a simple character has
value-simple : (c : ℕ) → is_simple c ≡ true → (grapheme_cluster_break c ≡ breaks.Other) ⊎ (grapheme_cluster_break c ≡ breaks.Extend)
value-simple c h = ⊎_elim (λ b. inl (Begins-from_test c b).other) (λ m. inr (IsMark-from_test c m).extend) (cases-simple c h)

none_before_other : (g : GraphemeClusterBreak) → (g ≡ breaks.Other) ⊎ (g ≡ breaks.Extend) → break_by_pair true g breaks.Other ≡ None
none_before_other g h = ⊎_elim (λ e. ap (λ x. break_by_pair true x breaks.Other) e) (λ e. ap (λ x. break_by_pair true x breaks.Other) e) h

joined_before_extend : (g : GraphemeClusterBreak) (b : Bool) → (g ≡ breaks.Other) ⊎ (g ≡ breaks.Extend)
    → unwrap_or (break_by_pair true g breaks.Extend) b ≡ false
joined_before_extend g b h =
    ⊎_elim (λ e. ap (λ x. unwrap_or (break_by_pair true x breaks.Extend) b) e) (λ e. ap (λ x. unwrap_or (break_by_pair true x breaks.Extend) b) e) h

no_zwj : (g : GraphemeClusterBreak) → (g ≡ breaks.Other) ⊎ (g ≡ breaks.Extend) → is_zwj g ≡ false
no_zwj g h = ⊎_elim (λ e. ap is_zwj e) (λ e. ap is_zwj e) h

break_before : (last next : ℕ) (before after : List ℕ) → is_simple last ≡ true → begins next ≡ true
    → is_grapheme_break true (last ∷ before) (next ∷ after) ≡ true
unfolding is_grapheme_break
break_before last next before after l n =
    let b = Begins-from_test next n in
    let left = value-simple last l in
    let conjunct = and_right (ends_in_linker (map indic_conjunct_break (last ∷ before))) _ b.no_consonant in
    let emoji = ap (λ x. x && ends_in_pictograph before && is_extended_pictographic next) (no_zwj _ left) in
    let flag = and_right (ends_in_half_flag (last ∷ before)) _ (ap is_regional b.other) in
    let rest = not ((true && joins_conjunct (last ∷ before) next) || joins_emoji (last ∷ before) next || joins_flag (last ∷ before) next) in
    ap (λ x. unwrap_or (break_by_pair true (grapheme_cluster_break last) x) rest) b.other
    ∙ ap (λ o. unwrap_or o rest) (none_before_other _ left)
    ∙ ap not (ap₂ ◌||◌ (ap₂ ◌||◌ conjunct emoji) flag)

no_break_before : (last next : ℕ) (before after : List ℕ) → is_simple last ≡ true → is_mark next ≡ true
    → is_grapheme_break true (last ∷ before) (next ∷ after) ≡ false
unfolding is_grapheme_break
no_break_before last next before after l n =
    let rest = not ((true && joins_conjunct (last ∷ before) next) || joins_emoji (last ∷ before) next || joins_flag (last ∷ before) next) in
    ap (λ x. unwrap_or (break_by_pair true (grapheme_cluster_break last) x) rest) (IsMark-from_test next n).extend
    ∙ joined_before_extend _ rest (value-simple last l)

-- between two simple characters there is a break where the second begins, for any text before and after them
pub breaks-simple : (last next : ℕ) (before after : List ℕ) → is_simple last ≡ true → is_simple next ≡ true
    → is_grapheme_break true (last ∷ before) (next ∷ after) ≡ begins next
breaks-simple last next before after l n =
    ⊎_elim (λ b. break_before last next before after l b ∙ sym b)
    (λ m. no_break_before last next before after l m ∙ sym (mark_begins_none next m)) (cases-simple next n)

-- ---- clusters

-- the characters cut before each that begins
abbrev pub group : List ℕ → List (List ℕ)
group [] = []
group (c ∷ cs) = let rest = group cs in cond (starts cs) ((c ∷ []) ∷ rest) (prepend (c ∷ []) rest)

pub cut-simple : (before cs : List ℕ) → list_all is_simple cs ≡ true → cut (is_grapheme_break true) before cs [] ≡ group cs
unfolding cut is_grapheme_break
cut-simple before [] h = refl
cut-simple before (c ∷ []) h = refl
cut-simple before (c ∷ (d ∷ ds)) h =
    let parts = and_parts (is_simple c) (list_all is_simple (d ∷ ds)) h in
    let next = and_parts (is_simple d) (list_all is_simple ds) parts.1 in
    ap₂ (λ b rest. cond b ((c ∷ []) ∷ rest) (prepend (c ∷ []) rest))
    (breaks-simple c d before (ds ++ []) parts.0 next.0) (cut-simple (c ∷ before) (d ∷ ds) parts.1)

-- a character that begins, and its marks
abbrev pub IsUnitText : List ℕ → Type 0
IsUnitText [] = ⊥
IsUnitText (c ∷ ms) = (begins c ≡ true) × (list_all is_mark ms ≡ true) × (all_scalars (c ∷ ms) ≡ true)

abbrev pub AreUnitTexts : List (List ℕ) → Type 0
AreUnitTexts [] = Unit {0}
AreUnitTexts (g ∷ gs) = IsUnitText g × AreUnitTexts gs

-- the columns of such clusters together
abbrev pub columns_of_units : List (List ℕ) → ℕ
columns_of_units [] = 0
columns_of_units ([] ∷ gs) = columns_of_units gs
columns_of_units ((c ∷ ms) ∷ gs) = simple_columns c + columns_of_units gs

-- the first group of a text that begins with d, and the others
record Grouped (d : ℕ) (ds : List ℕ) : Type 0 where
  marks : List ℕ
  rest : List (List ℕ)
  is : group (d ∷ ds) ≡ (d ∷ marks) ∷ rest
  all : list_all is_mark marks ≡ true
  scalars : all_scalars (d ∷ marks) ≡ true
  units : AreUnitTexts rest
  columns : columns_of_units rest ≡ sum_by simple_columns ds

grouped : (d : ℕ) (ds : List ℕ) → list_all is_simple (d ∷ ds) ≡ true → all_scalars (d ∷ ds) ≡ true → Grouped d ds
grouped d [] h v = record { marks = []; rest = []; is = refl; all = refl; scalars = v; units = tt; columns = refl }
grouped d (e ∷ es) h v =
    let parts = and_parts (is_simple d) (list_all is_simple (e ∷ es)) h in
    let next = and_parts (is_simple e) (list_all is_simple es) parts.1 in
    let valid = and_parts (scalar d) (all_scalars (e ∷ es)) v in
    let g = grouped e es parts.1 valid.1 in
    ⊎_elim
    (λ b. record {
      marks = [];
      rest = (e ∷ g.marks) ∷ g.rest;
      is = ap₂ (λ x r. cond x ((d ∷ []) ∷ r) (prepend (d ∷ []) r)) b g.is;
      all = refl;
      scalars = and_from (scalar d) true valid.0 refl;
      units = ((b, g.all, g.scalars), g.units);
      columns = ap (λ n. simple_columns e + n) g.columns ∙ sym (sum_by-cons simple_columns e es);
    })
    (λ m. record {
      marks = e ∷ g.marks;
      rest = g.rest;
      is = ap₂ (λ x r. cond x ((d ∷ []) ∷ r) (prepend (d ∷ []) r)) (mark_begins_none e m) g.is;
      all = and_from (is_mark e) (list_all is_mark g.marks) m g.all;
      scalars = and_from (scalar d) (all_scalars (e ∷ g.marks)) valid.0 g.scalars;
      units = g.units;
      columns =
          g.columns ∙ sym (zero-add (sum_by simple_columns es))
          ∙ ap (λ n. n + sum_by simple_columns es) (sym (ap (λ b. cond b (own_columns e) 0) (mark_begins_none e m)))
          ∙ sym (sum_by-cons simple_columns e es);
    })
    (cases-simple e next.0)

-- each cluster of a simple text is one that begins, and its marks
pub units-group : (cs : List ℕ) → starts cs ≡ true → list_all is_simple cs ≡ true → all_scalars cs ≡ true → AreUnitTexts (group cs)
units-group [] s h v = tt
units-group (c ∷ cs) s h v = let g = grouped c cs h v in subst AreUnitTexts (sym g.is) ((s, g.all, g.scalars), g.units)

-- and they have the columns of the characters together
pub columns-group : (cs : List ℕ) → list_all is_simple cs ≡ true → all_scalars cs ≡ true → columns_of_units (group cs) ≡ sum_by simple_columns cs
columns-group [] h v = refl
columns-group (c ∷ cs) h v =
    let g = grouped c cs h v in
    ap columns_of_units g.is ∙ ap (λ n. simple_columns c + n) g.columns ∙ sym (sum_by-cons simple_columns c cs)
