-- The tables' values for each character of the ranges, by one computation for each list of ranges.
use Rattle.std.proofs.Common.{◌≡◌, ℕ, ◌≤◌, ◌⊎◌, Bool, true, false, not, ◌&&◌, ◌||◌, nat_lt, nat_le, List, [], ◌∷◌}
use Rattle.std.proofs.Common.{refl, sym, ap, ◌∙◌, arith, ⊎_elim, true≢false}
use Rattle.std.proofs.lemmas.Bool.{and_parts, and_from, or_cases}
use Rattle.std.proofs.lemmas.Bool.Decides.{nat_tests}
use Rattle.std.specs.Int.{is_in_range}
use Rattle.bx_common.specs.Characters.{is_ascii_printable}
use Rattle.ucd_table.specs.Rows.{Range, in_ranges}
use Rattle.ucd_table.proofs.Computing.{tables}
use Rattle.ucd_table.proofs.StepsLemmas.{rises_from, range_rows}
use Rattle.ucd_table.proofs.Stepped.{Stepped, of_ranges, zip_stepped}
use Rattle.ucd_table.proofs.Facts.{Stepped-everywhere}
use Rattle.ucd_breaks.specs.GraphemeClusterBreak.{grapheme_cluster_break}
use Rattle.ucd_breaks.proofs.GraphemeClusterBreakLemmas.{grapheme_cluster_break_stepped}
use Rattle.ucd_derived.specs.IndicConjunctBreak.{indic_conjunct_break}
use Rattle.ucd_derived.proofs.IndicConjunctBreakLemmas.{indic_conjunct_break_stepped}
use Rattle.unicode_segmentation.specs.Grapheme.{is_consonant, is_extend}
use Rattle.unicode_width.specs.declared.kind.Kind.{Kind}
use Rattle.unicode_width.specs.declared.kind.Kind.TheVariants as kinds
use Rattle.unicode_width.specs.Kind.{kind}
use Rattle.unicode_width.specs.Width.{of_kind, alone, char_width}
use Rattle.unicode_width.proofs.KindLemmas.{kind_stepped}
use Rattle.unicode_width.proofs.Computing.{unicode_width}
use Rattle.bx_rows.specs.cells.Simple.{is_shown, is_other, own_columns, begins, is_zero, is_mark}
use Rattle.bx_rows.specs.cells.SimpleRanges.{common_ranges, narrow_ranges, wide_ranges, mark_ranges, point_ranges, ideograph_ranges, form_ranges}

-- printable ASCII, or high and no separator of lines or paragraphs
abbrev shown_ranges : List Range
shown_ranges = (0x0020, 0x007E) ∷ (0x00A1, 0x2027) ∷ (0x202A, 0x10FFFF) ∷ []

abbrev is_lamed : ℕ → Bool
is_lamed = in_ranges ((0x05DC, 0x05DC) ∷ [])

-- a kind of one column, for any character
abbrev is_one : Kind → Bool
is_one kinds.Narrow = true
is_one kinds.Ambiguous = true
is_one kinds.Alef = true
is_one _ = false

abbrev is_two : Kind → Bool
is_two kinds.Wide = true
is_two kinds.Emoji = true
is_two _ = false

-- it begins a cluster, by its two break properties
abbrev may_begin : ℕ → Bool
may_begin c = is_other (grapheme_cluster_break c) && not (is_consonant (indic_conjunct_break c))

unfoldable may_begin_stepped : Stepped may_begin
unfolding grapheme_cluster_break_stepped indic_conjunct_break_stepped
may_begin_stepped =
    zip_stepped (λ g v. is_other g && not (is_consonant v)) grapheme_cluster_break indic_conjunct_break
    grapheme_cluster_break_stepped indic_conjunct_break_stepped

unfoldable shown_stepped : Stepped (in_ranges shown_ranges)
unfolding rises_from
shown_stepped = of_ranges shown_ranges refl

-- characters that begin, of the columns that a test on kinds says, or lamed
abbrev begin_as : (Kind → Bool) → ℕ → Bool
begin_as test c = in_ranges shown_ranges c && (may_begin c && (test (kind c) || is_lamed c))

abbrev begin_as_stepped : (test : Kind → Bool) → Stepped (begin_as test)
unfolding rises_from
begin_as_stepped test =
    zip_stepped (λ s r. s && r) (in_ranges shown_ranges) (λ c. may_begin c && (test (kind c) || is_lamed c)) shown_stepped
    (zip_stepped (λ m k. m && k) may_begin (λ c. test (kind c) || is_lamed c) may_begin_stepped
    (zip_stepped (λ k l. test k || l) kind is_lamed kind_stepped (of_ranges ((0x05DC, 0x05DC) ∷ []) refl)))

abbrev if_in : List Range → (ℕ → Bool) → ℕ → Bool
if_in rs p c = not (in_ranges rs c) || p c

abbrev if_in_stepped : (rs : List Range) → rises_from 0 (range_rows rs) ≡ true → (p : ℕ → Bool) → Stepped p → Stepped (if_in rs p)
if_in_stepped rs h p s = zip_stepped (λ a ok. not a || ok) (in_ranges rs) p (of_ranges rs h) s

pub implied : (a b : Bool) → (not a || b) ≡ true → a ≡ true → b ≡ true
implied true b h e = h
implied false b h e = absurd (true≢false (sym e))

common_pass : (c : ℕ) → if_in common_ranges (begin_as is_one) c ≡ true
unfolding tables shown_stepped may_begin_stepped grapheme_cluster_break_stepped indic_conjunct_break_stepped kind_stepped
common_pass = Stepped-everywhere (if_in common_ranges (begin_as is_one)) (if_in_stepped common_ranges refl (begin_as is_one) (begin_as_stepped is_one)) refl

narrow_pass : (c : ℕ) → if_in narrow_ranges (begin_as is_one) c ≡ true
unfolding tables shown_stepped may_begin_stepped grapheme_cluster_break_stepped indic_conjunct_break_stepped kind_stepped
narrow_pass = Stepped-everywhere (if_in narrow_ranges (begin_as is_one)) (if_in_stepped narrow_ranges refl (begin_as is_one) (begin_as_stepped is_one)) refl

form_pass : (c : ℕ) → if_in form_ranges (begin_as is_one) c ≡ true
unfolding tables shown_stepped may_begin_stepped grapheme_cluster_break_stepped indic_conjunct_break_stepped kind_stepped
form_pass = Stepped-everywhere (if_in form_ranges (begin_as is_one)) (if_in_stepped form_ranges refl (begin_as is_one) (begin_as_stepped is_one)) refl

wide_pass : (c : ℕ) → if_in wide_ranges (begin_as is_two) c ≡ true
unfolding tables shown_stepped may_begin_stepped grapheme_cluster_break_stepped indic_conjunct_break_stepped kind_stepped
wide_pass = Stepped-everywhere (if_in wide_ranges (begin_as is_two)) (if_in_stepped wide_ranges refl (begin_as is_two) (begin_as_stepped is_two)) refl

abbrev marks : ℕ → Bool
marks c = in_ranges ((0x00A1, 0x2027) ∷ (0x202A, 0x10FFFF) ∷ []) c && (is_extend (grapheme_cluster_break c) && is_zero (kind c))

unfoldable marks_stepped : Stepped marks
unfolding rises_from grapheme_cluster_break_stepped kind_stepped
marks_stepped =
    zip_stepped (λ s r. s && r) (in_ranges ((0x00A1, 0x2027) ∷ (0x202A, 0x10FFFF) ∷ [])) (λ c. is_extend (grapheme_cluster_break c) && is_zero (kind c))
    (of_ranges ((0x00A1, 0x2027) ∷ (0x202A, 0x10FFFF) ∷ []) refl)
    (zip_stepped (λ g k. is_extend g && is_zero k) grapheme_cluster_break kind grapheme_cluster_break_stepped kind_stepped)

marks_pass : (c : ℕ) → if_in mark_ranges marks c ≡ true
unfolding tables marks_stepped grapheme_cluster_break_stepped kind_stepped
marks_pass = Stepped-everywhere (if_in mark_ranges marks) (if_in_stepped mark_ranges refl marks marks_stepped) refl

-- ---- from the tables' facts to the tests

shown_in_ranges : (c : ℕ) → in_ranges shown_ranges c ≡ true → is_shown c ≡ true
unfolding in_ranges
shown_in_ranges c h = grind (arith, nat_tests)

high_in_ranges : (c : ℕ) → in_ranges ((0x00A1, 0x2027) ∷ (0x202A, 0x10FFFF) ∷ []) c ≡ true → (nat_lt 0xA0 c && is_shown c) ≡ true
unfolding in_ranges
high_in_ranges c h = grind (arith, nat_tests)

is_lamed-only : (c : ℕ) → is_lamed c ≡ true → c ≡ 0x05DC
unfolding in_ranges
is_lamed-only c h = grind (arith, nat_tests)

lamed_has_one : (alone false 0x05DC).0 ≡ 1
unfolding unicode_width
lamed_has_one = refl

one_of_kind : (c : ℕ) (k : Kind) → is_one k ≡ true → (of_kind false c k).0 ≡ 1
one_of_kind c kinds.Narrow h = refl
one_of_kind c kinds.Ambiguous h = refl
one_of_kind c kinds.Alef h = refl
one_of_kind c kinds.Zero h = cc
one_of_kind c kinds.Wide h = cc
one_of_kind c kinds.KhmerLetter h = cc
one_of_kind c kinds.TifinaghConsonant h = cc
one_of_kind c kinds.LisuTone h = cc
one_of_kind c kinds.RegionalIndicator h = cc
one_of_kind c kinds.EmojiModifier h = cc
one_of_kind c kinds.Emoji h = cc
one_of_kind c kinds.Single h = cc

two_of_kind : (c : ℕ) (k : Kind) → is_two k ≡ true → (of_kind false c k).0 ≡ 2
two_of_kind c kinds.Wide h = refl
two_of_kind c kinds.Emoji h = refl
two_of_kind c kinds.Narrow h = cc
two_of_kind c kinds.Ambiguous h = cc
two_of_kind c kinds.Alef h = cc
two_of_kind c kinds.Zero h = cc
two_of_kind c kinds.KhmerLetter h = cc
two_of_kind c kinds.TifinaghConsonant h = cc
two_of_kind c kinds.LisuTone h = cc
two_of_kind c kinds.RegionalIndicator h = cc
two_of_kind c kinds.EmojiModifier h = cc
two_of_kind c kinds.Single h = cc

own_ascii : (c : ℕ) → is_ascii_printable c ≡ true → own_columns c ≡ 1
unfolding char_width
own_ascii c h = grind (arith, nat_tests)

own_high : (c : ℕ) → nat_lt 0xA0 c ≡ true → own_columns c ≡ (alone false c).0
unfolding char_width
own_high c h = grind (arith, nat_tests)

high_if_shown : (c : ℕ) → is_shown c ≡ true → (is_ascii_printable c ≡ true) ⊎ (nat_lt 0xA0 c ≡ true)
high_if_shown c h =
    ⊎_elim (λ a. Rattle.std.proofs.Common.inl a)
    (λ b. Rattle.std.proofs.Common.inr (and_parts (nat_lt 0xA0 c) (not (is_in_range 0x2028 0x2029 c)) b).0)
    (or_cases (is_ascii_printable c) (nat_lt 0xA0 c && not (is_in_range 0x2028 0x2029 c)) h)

one_alone : (c : ℕ) → (is_one (kind c) || is_lamed c) ≡ true → (alone false c).0 ≡ 1
unfolding alone
one_alone c h =
    ⊎_elim (one_of_kind c (kind c)) (λ l. ap (λ x. (alone false x).0) (is_lamed-only c l) ∙ lamed_has_one) (or_cases (is_one (kind c)) (is_lamed c) h)

two_alone : (c : ℕ) → is_two (kind c) ≡ true → (alone false c).0 ≡ 2
unfolding alone
two_alone c h = two_of_kind c (kind c) h

begins_from : (c n : ℕ) → 1 ≤ n → is_shown c ≡ true → may_begin c ≡ true → own_columns c ≡ n → (begins c ≡ true) × (own_columns c ≡ n)
begins_from c n some s m e =
    let p = and_parts (is_other (grapheme_cluster_break c)) (not (is_consonant (indic_conjunct_break c))) m in
    let one : nat_le 1 (own_columns c) ≡ true = ap (nat_le 1) e ∙ Rattle.std.proofs.Common.le-leb 1 n some in (
      and_from (is_shown c) _ s (and_from (is_other (grapheme_cluster_break c)) _ p.0
          (and_from (not (is_consonant (indic_conjunct_break c))) (nat_le 1 (own_columns c)) p.1 one)),
      e,
    )

one_from : (c : ℕ) → begin_as is_one c ≡ true → (begins c ≡ true) × (own_columns c ≡ 1)
one_from c h =
    let p = and_parts (in_ranges shown_ranges c) (may_begin c && (is_one (kind c) || is_lamed c)) h in
    let q = and_parts (may_begin c) (is_one (kind c) || is_lamed c) p.1 in
    let s = shown_in_ranges c p.0 in
    begins_from c 1 (omega arith) s q.0 (⊎_elim (own_ascii c) (λ high. own_high c high ∙ one_alone c q.1) (high_if_shown c s))

pub of_common : (c : ℕ) → in_ranges common_ranges c ≡ true → (begins c ≡ true) × (own_columns c ≡ 1)
of_common c h = one_from c (implied (in_ranges common_ranges c) (begin_as is_one c) (common_pass c) h)

pub of_narrow : (c : ℕ) → in_ranges narrow_ranges c ≡ true → (begins c ≡ true) × (own_columns c ≡ 1)
of_narrow c h = one_from c (implied (in_ranges narrow_ranges c) (begin_as is_one c) (narrow_pass c) h)

pub of_form : (c : ℕ) → in_ranges form_ranges c ≡ true → (begins c ≡ true) × (own_columns c ≡ 1)
of_form c h = one_from c (implied (in_ranges form_ranges c) (begin_as is_one c) (form_pass c) h)

not_ascii : (c : ℕ) → in_ranges wide_ranges c ≡ true → nat_lt 0xA0 c ≡ true
unfolding in_ranges
not_ascii c h = grind (arith, nat_tests)

not_lamed : (c : ℕ) → in_ranges wide_ranges c ≡ true → is_lamed c ≡ false
unfolding in_ranges
not_lamed c h = grind (arith, nat_tests)

pub of_wide : (c : ℕ) → in_ranges wide_ranges c ≡ true → (begins c ≡ true) × (own_columns c ≡ 2)
of_wide c h =
    let a = implied (in_ranges wide_ranges c) (begin_as is_two c) (wide_pass c) h in
    let p = and_parts (in_ranges shown_ranges c) (may_begin c && (is_two (kind c) || is_lamed c)) a in
    let q = and_parts (may_begin c) (is_two (kind c) || is_lamed c) p.1 in
    let two : is_two (kind c) ≡ true = ⊎_elim (λ t. t) (λ l. absurd (true≢false (sym l ∙ not_lamed c h))) (or_cases (is_two (kind c)) (is_lamed c) q.1) in
    begins_from c 2 (omega arith) (shown_in_ranges c p.0) q.0 (own_high c (not_ascii c h) ∙ two_alone c two)

pub of_mark : (c : ℕ) → in_ranges mark_ranges c ≡ true → is_mark c ≡ true
of_mark c h =
    let a = implied (in_ranges mark_ranges c) (marks c) (marks_pass c) h in
    let p = and_parts (in_ranges ((0x00A1, 0x2027) ∷ (0x202A, 0x10FFFF) ∷ []) c) (is_extend (grapheme_cluster_break c) && is_zero (kind c)) a in
    and_from (nat_lt 0xA0 c && is_shown c) (is_extend (grapheme_cluster_break c) && is_zero (kind c)) (high_in_ranges c p.0) p.1

point_is_mark : (c : ℕ) → in_ranges point_ranges c ≡ true → in_ranges mark_ranges c ≡ true
unfolding in_ranges
point_is_mark c h = grind (arith, nat_tests)

pub of_point : (c : ℕ) → in_ranges point_ranges c ≡ true → is_mark c ≡ true
of_point c h = of_mark c (point_is_mark c h)

ideograph_is_wide : (c : ℕ) → in_ranges ideograph_ranges c ≡ true → in_ranges wide_ranges c ≡ true
unfolding in_ranges
ideograph_is_wide c h = grind (arith, nat_tests)

pub of_ideograph : (c : ℕ) → in_ranges ideograph_ranges c ≡ true → (begins c ≡ true) × (own_columns c ≡ 2)
of_ideograph c h = of_wide c (ideograph_is_wide c h)
