-- Simple characters: among themselves, each one's cluster and columns follow from the character alone, so that the code finds the
-- clusters of most texts without the rules on breaks (UAX #29). Marks are combining marks here.
use Rattle.std.specs.Prelude.{ℕ, Bool, true, false, not, ◌&&◌, ◌||◌, nat_lt, nat_le, cond, List, [], ◌∷◌, unwrap_or}
use Rattle.std.specs.Int.{is_in_range}
use Rattle.bx_common.specs.Characters.{is_ascii_printable}
use Rattle.std.specs.List.{list_all}
use Rattle.ucd_breaks.specs.GraphemeClusterBreak.{grapheme_cluster_break}
use Rattle.ucd_breaks.specs.declared.GraphemeClusterBreak.{GraphemeClusterBreak}
use Rattle.ucd_breaks.specs.declared.GraphemeClusterBreak.TheVariants.{Other}
use Rattle.ucd_derived.specs.IndicConjunctBreak.{indic_conjunct_break}
use Rattle.unicode_segmentation.specs.Grapheme.{is_extend, is_consonant}
use Rattle.unicode_width.specs.declared.kind.Kind.{Kind}
use Rattle.unicode_width.specs.declared.kind.Kind.TheVariants.{Zero}
use Rattle.unicode_width.specs.Kind.{kind}
use Rattle.unicode_width.specs.Width.{char_width}

-- printable ASCII, or above U+00A0 and neither U+2028 nor U+2029: not a control, and not the no-break space
abbrev pub is_shown : ℕ → Bool
is_shown c = is_ascii_printable c || (nat_lt 0xA0 c && not (is_in_range 0x2028 0x2029 c))

-- the value Other of Grapheme_Cluster_Break (UAX #29): no rule names the character
abbrev pub is_other : GraphemeClusterBreak → Bool
is_other Other = true
is_other _ = false

-- the columns of a character alone, with East Asian ambiguous characters narrow (`false`)
abbrev pub own_columns : ℕ → ℕ
own_columns c = unwrap_or (char_width false c) 0

-- the character begins a cluster and takes a column: no rule joins it to a simple character before it (GB9c may join a consonant)
abbrev pub begins : ℕ → Bool
begins c = is_shown c && (is_other (grapheme_cluster_break c) && (not (is_consonant (indic_conjunct_break c)) && nat_le 1 (own_columns c)))

-- the kind of characters that take no column
abbrev pub is_zero : Kind → Bool
is_zero Zero = true
is_zero _ = false

-- the character extends the cluster before it, and takes no column
abbrev pub is_mark : ℕ → Bool
is_mark c = (nat_lt 0xA0 c && is_shown c) && (is_extend (grapheme_cluster_break c) && is_zero (kind c))

-- the character begins a cluster or is a mark
abbrev pub is_simple : ℕ → Bool
is_simple c = begins c || is_mark c

-- the columns that the character adds to a simple text
abbrev pub simple_columns : ℕ → ℕ
simple_columns c = cond (begins c) (own_columns c) 0

-- the text is empty, or its first character begins a cluster
abbrev pub starts : List ℕ → Bool
starts [] = true
starts (c ∷ cs) = begins c

-- each character is simple, and the first begins a cluster
abbrev pub is_simple_text : List ℕ → Bool
is_simple_text cs = starts cs && list_all is_simple cs
