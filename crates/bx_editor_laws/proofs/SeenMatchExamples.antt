-- Worked examples: a match that is shown, and the prompts of replacing.
use Rattle.std.proofs.Common.{◌≡◌, ℕ, true, false, List, [], ◌∷◌, ◌++◌, map, refl}
use Rattle.std.specs.Prelude.{codes, encode_utf8, encode_utf8_all}
use Rattle.std.specs.Fmt.{digits}
use Rattle.ucd_case.proofs.Computing.{ucd_case}
use Rattle.unicode_normalization.proofs.Computing.{unicode_normalization}
use Rattle.unicode_segmentation.proofs.Computing.{unicode_segmentation}
use Rattle.unicode_width.proofs.Computing.{unicode_width}
use Rattle.bx_grid.specs.Columns.{Col, Glyph}
use Rattle.bx_keys.specs.declared.key.Key.{Key}
use Rattle.bx_keys.specs.declared.key.Key.TheVariants.{Copy, Find, Mark, Replace, RowEnd, TextStart}
use Rattle.bx_editor.specs.Status.{status_columns}
use Rattle.bx_editor.proofs.Computed.{tables, start, after, letters, shown}
use Rattle.bx_editor_laws.proofs.ReplaceExamples.{enter, showing}

-- ---- what is seen

-- the columns after keys typed over a text of these characters, in a window of some rows and columns
abbrev seen : List ℕ → ℕ → ℕ → List Key → List Col
seen text height width keys = (shown (after (start text height width) keys) 0).columns

-- characters that are one glyph each, in one column, normal and negative
abbrev normal : List ℕ → List Col
normal cs = map (λ c. Glyph (encode_utf8 c) 1 0 false) cs

abbrev negative : List ℕ → List Col
negative cs = map (λ c. Glyph (encode_utf8 c) 1 0 true) cs

pub the_match_is_seen : seen (codes "b b") 1 4 (showing (codes "b") []) ≡ negative (codes "b") ++ normal (codes " b ")
unfolding unicode_segmentation unicode_width digits
the_match_is_seen = refl

pub and_the_next_one : seen (codes "b b") 1 4 (showing (codes "b") [] ++ (Find ∷ [])) ≡ normal (codes "b ") ++ negative (codes "b") ++ normal (codes " ")
unfolding unicode_segmentation unicode_width digits unicode_normalization ucd_case
and_the_next_one = refl

pub and_then_none : seen (codes "b b") 1 4 (showing (codes "b") [] ++ (Find ∷ enter ∷ [])) ≡ normal (codes "b   ")
unfolding unicode_segmentation unicode_width digits unicode_normalization ucd_case
and_then_none = refl

pub before_it_the_region : seen (codes "a b") 1 4 (RowEnd ∷ Mark ∷ TextStart ∷ Replace ∷ letters (codes "b") ++ (enter ∷ [])) ≡ normal (codes "a ") ++ negative (codes "b") ++ normal (codes " ")
unfolding unicode_segmentation unicode_width digits
before_it_the_region = refl

pub in_two_pieces :
    seen (codes "a " ++ (0x5d0 ∷ 0x5d1 ∷ codes " b")) 1 6 (RowEnd ∷ Mark ∷ TextStart ∷ Replace ∷ letters (codes "a " ++ (0x5d0 ∷ [])) ++ (enter ∷ enter ∷ []))
    ≡ negative (codes "a ") ++ normal (0x5d1 ∷ []) ++ negative (0x5d0 ∷ []) ++ normal (codes " b")
unfolding unicode_segmentation unicode_width digits
in_two_pieces = refl

-- with the mark still set
pub the_region_comes_back :
    seen (codes "a " ++ (0x5d0 ∷ 0x5d1 ∷ codes " b")) 1 6 (RowEnd ∷ Mark ∷ TextStart ∷ Replace ∷ letters (codes "a " ++ (0x5d0 ∷ [])) ++ (enter ∷ enter ∷ Copy ∷ []))
    ≡ negative (codes "a " ++ (0x5d1 ∷ 0x5d0 ∷ codes " b"))
unfolding unicode_segmentation unicode_width digits
the_region_comes_back = refl

pub over_a_rows_end : seen (codes "abcdef") 3 4 (showing (codes "cde") []) ≡ normal (codes "ab") ++ negative (codes "cde") ++ normal (codes "f  - 1:")
unfolding unicode_segmentation unicode_width digits
over_a_rows_end = refl

pub a_cluster_whole :
    seen (0x1112 ∷ 0x1161 ∷ 0x78 ∷ []) 1 4 (showing (0x1161 ∷ []) [])
    ≡ Glyph (encode_utf8_all (0x1112 ∷ 0x1161 ∷ [])) 2 0 true ∷ Glyph (encode_utf8_all (0x1112 ∷ 0x1161 ∷ [])) 2 1 true ∷ normal (codes "x ")
unfolding unicode_segmentation unicode_width digits
a_cluster_whole = refl

pub a_mark_in_it_is_turned : seen (0x5d0 ∷ 0x202b ∷ 0x5d1 ∷ []) 1 3 (showing (0x5d0 ∷ 0x5d1 ∷ []) []) ≡ negative (0x5d1 ∷ []) ++ normal (codes "E") ++ negative (0x5d0 ∷ [])
unfolding unicode_segmentation unicode_width digits
a_mark_in_it_is_turned = refl

-- ---- the prompts

abbrev status : ℕ → List Key → List Col
status width keys = status_columns tables (after (start (codes "abab") 2 width) keys)

pub the_prompt_of_the_query : status 20 (Replace ∷ letters (codes "b")) ≡ normal (codes "- 1:2 replace: b    ")
unfolding unicode_segmentation unicode_width digits
the_prompt_of_the_query = refl

pub the_prompt_of_the_replacement : status 16 (Replace ∷ letters (codes "b") ++ (enter ∷ [])) ≡ normal (codes "- 1:2 with:     ")
unfolding unicode_segmentation unicode_width digits
the_prompt_of_the_replacement = refl

pub the_replacement_is_seen : status 16 (Replace ∷ letters (codes "b") ++ (enter ∷ letters (0x5d0 ∷ 0x5d1 ∷ []))) ≡ normal (codes "- 1:2 with: " ++ (0x5d1 ∷ 0x5d0 ∷ codes "  "))
unfolding unicode_segmentation unicode_width digits
the_replacement_is_seen = refl

pub the_keys_of_replacing : status 50 (showing (codes "b") (codes "x")) ≡ normal (codes "- 1:2 Enter replace F3 next F4 rest ^C end        ")
unfolding unicode_segmentation unicode_width digits
the_keys_of_replacing = refl

pub the_number_of_replaced_matches : status 20 (showing (codes "b") (codes "x") ++ (Replace ∷ [])) ≡ normal (codes "* 1:5 2 replaced    ")
unfolding unicode_segmentation unicode_width digits
the_number_of_replaced_matches = refl
