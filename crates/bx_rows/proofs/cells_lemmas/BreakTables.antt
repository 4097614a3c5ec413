-- The tables' values for each character, for the rules that look back.
use Rattle.std.proofs.Common.{◌≡◌, ℕ, Bool, true, false, not, ◌&&◌, ◌||◌, refl}
use Rattle.std.proofs.lemmas.Bool.{and_parts, not-true}
use Rattle.ucd_table.proofs.Computing.{tables}
use Rattle.ucd_table.proofs.Stepped.{Stepped, zip_stepped}
use Rattle.ucd_table.proofs.Facts.{Stepped-everywhere}
use Rattle.ucd_breaks.specs.GraphemeClusterBreak.{grapheme_cluster_break}
use Rattle.ucd_breaks.specs.declared.GraphemeClusterBreak.{GraphemeClusterBreak}
use Rattle.ucd_breaks.specs.declared.GraphemeClusterBreak.TheVariants as breaks
use Rattle.ucd_breaks.proofs.GraphemeClusterBreakLemmas.{grapheme_cluster_break_stepped}
use Rattle.ucd_derived.specs.IndicConjunctBreak.{indic_conjunct_break}
use Rattle.ucd_derived.specs.declared.IndicConjunctBreak.{IndicConjunctBreak}
use Rattle.ucd_derived.specs.declared.IndicConjunctBreak.TheVariants as InCb
use Rattle.ucd_derived.proofs.IndicConjunctBreakLemmas.{indic_conjunct_break_stepped}
use Rattle.ucd_emoji.specs.Binary.{is_extended_pictographic}
use Rattle.ucd_emoji.proofs.BinaryLemmas.{is_extended_pictographic_stepped}
use Rattle.unicode_segmentation.specs.Grapheme.{is_extend, is_zwj}
use Rattle.bx_rows.proofs.cells_lemmas.RangeFacts.{implied}

-- a break follows it, except before a line feed
abbrev pub is_breaking : GraphemeClusterBreak → Bool
is_breaking breaks.Control = true
is_breaking breaks.Cr = true
is_breaking breaks.Lf = true
is_breaking _ = false

-- it stays on the cluster before it, except after those classes
abbrev pub stays : GraphemeClusterBreak → Bool
stays g = is_extend g || is_zwj g

abbrev pub extends_conjunct : IndicConjunctBreak → Bool
extends_conjunct InCb.Extend = true
extends_conjunct _ = false

abbrev pub is_no_part : IndicConjunctBreak → Bool
is_no_part InCb.None = true
is_no_part _ = false

abbrev extend_stays : ℕ → Bool
extend_stays c = not (extends_conjunct (indic_conjunct_break c)) || stays (grapheme_cluster_break c)

abbrev breaking_ends : ℕ → Bool
breaking_ends c = not (is_breaking (grapheme_cluster_break c)) || (is_no_part (indic_conjunct_break c) && not (is_extended_pictographic c))

unfoldable extend_stays_stepped : Stepped extend_stays
unfolding grapheme_cluster_break_stepped indic_conjunct_break_stepped
extend_stays_stepped =
    zip_stepped (λ v g. not (extends_conjunct v) || stays g) indic_conjunct_break grapheme_cluster_break
    indic_conjunct_break_stepped grapheme_cluster_break_stepped

unfoldable breaking_ends_stepped : Stepped breaking_ends
unfolding grapheme_cluster_break_stepped indic_conjunct_break_stepped is_extended_pictographic_stepped
breaking_ends_stepped =
    zip_stepped (λ g e. not (is_breaking g) || e) grapheme_cluster_break
    (λ c. is_no_part (indic_conjunct_break c) && not (is_extended_pictographic c)) grapheme_cluster_break_stepped
    (zip_stepped (λ v p. is_no_part v && not p) indic_conjunct_break is_extended_pictographic indic_conjunct_break_stepped is_extended_pictographic_stepped)

extend_stays_pass : (c : ℕ) → extend_stays c ≡ true
unfolding tables extend_stays_stepped grapheme_cluster_break_stepped indic_conjunct_break_stepped
extend_stays_pass = Stepped-everywhere extend_stays extend_stays_stepped refl

breaking_ends_pass : (c : ℕ) → breaking_ends c ≡ true
unfolding tables breaking_ends_stepped grapheme_cluster_break_stepped indic_conjunct_break_stepped is_extended_pictographic_stepped
breaking_ends_pass = Stepped-everywhere breaking_ends breaking_ends_stepped refl

-- a character that extends a conjunct stays on the cluster before it
pub stays-extend : (c : ℕ) → extends_conjunct (indic_conjunct_break c) ≡ true → stays (grapheme_cluster_break c) ≡ true
stays-extend c h = implied (extends_conjunct (indic_conjunct_break c)) (stays (grapheme_cluster_break c)) (extend_stays_pass c) h

-- one that breaks is neither a part of a conjunct nor a pictograph
pub ends-breaking : (c : ℕ) → is_breaking (grapheme_cluster_break c) ≡ true
    → (is_no_part (indic_conjunct_break c) ≡ true) × (is_extended_pictographic c ≡ false)
ends-breaking c h =
    let p = and_parts (is_no_part (indic_conjunct_break c)) (not (is_extended_pictographic c))
    (implied (is_breaking (grapheme_cluster_break c)) (is_no_part (indic_conjunct_break c) && not (is_extended_pictographic c)) (breaking_ends_pass c) h) in
    (p.0, not-true _ p.1)
