-- Words of whole texts, computed.
use Rattle.std.proofs.Common.{◌≡◌, ℕ, List, [], ◌∷◌, ◌++◌, refl, replicate}
use Rattle.std.specs.Prelude.{codes, encode_utf8_all}
use Rattle.unicode_segmentation.proofs.Computing.{unicode_segmentation}
use Rattle.unicode_width.proofs.Computing.{unicode_width}
use Rattle.bx_ucd.specs.SmallTables.{small}
use Rattle.bx_common.specs.declared.base.Base.{Base}
use Rattle.bx_common.specs.declared.base.Base.TheVariants.{Auto, Ltr}
use Rattle.bx_paragraph.specs.declared.moves.Visual.{Visual}
use Rattle.bx_paragraph.specs.declared.moves.Visual.TheVariants.{Left, Right}
use Rattle.bx_view.specs.declared.moves.Logical.TheVariants.{Back, Forward}
use Rattle.bx_view.specs.Moves.{word_towards}
use Rattle.bx_view.specs.Words.{step_word}
use Rattle.bx_view.proofs.Computed.{rows_under, walk}

-- the places after `n` moves by words, one after another
abbrev forward : List ℕ → ℕ → ℕ → List ℕ
forward cs n place = walk (replicate n (step_word small (encode_utf8_all cs) Forward)) place

abbrev back : List ℕ → ℕ → ℕ → List ℕ
back cs n place = walk (replicate n (step_word small (encode_utf8_all cs) Back)) place

abbrev towards : Base → Visual → List ℕ → ℕ → ℕ → List ℕ
towards base side cs n place = walk (replicate n (word_towards small (encode_utf8_all cs) (rows_under base 8 cs) side)) place

-- starts of words, and the body's end
through_words : forward (codes "ab, cd 12") 4 0 ≡ 4 ∷ 7 ∷ 9 ∷ 9 ∷ []
unfolding unicode_segmentation unicode_width
through_words = refl

back_through_words : back (codes "ab, cd 12") 4 9 ≡ 7 ∷ 4 ∷ 0 ∷ 0 ∷ []
unfolding unicode_segmentation unicode_width
back_through_words = refl

-- two Hebrew words
abbrev hebrew : List ℕ
hebrew = (0x5d0 ∷ 0x5d1 ∷ []) ++ codes " " ++ (0x5d2 ∷ [])

-- the paragraph's level decides, and so does a base direction
left_through_hebrew : towards Auto Left hebrew 3 0 ≡ 5 ∷ 7 ∷ 7 ∷ []
unfolding unicode_segmentation unicode_width
left_through_hebrew = refl

right_through_hebrew : towards Auto Right hebrew 3 7 ≡ 5 ∷ 0 ∷ 0 ∷ []
unfolding unicode_segmentation unicode_width
right_through_hebrew = refl

right_at_level_0 : towards Ltr Right hebrew 1 0 ≡ 5 ∷ []
unfolding unicode_segmentation unicode_width
right_at_level_0 = refl

left_at_level_0 : towards Ltr Left hebrew 1 5 ≡ 0 ∷ []
unfolding unicode_segmentation unicode_width
left_at_level_0 = refl

-- an empty body is a stop both ways
abbrev empty_between : List ℕ
empty_between = codes "a" ++ (10 ∷ 10 ∷ []) ++ codes "b"

over_empty : forward empty_between 5 0 ≡ 1 ∷ 2 ∷ 3 ∷ 4 ∷ 4 ∷ []
unfolding unicode_segmentation unicode_width
over_empty = refl

back_over_empty : back empty_between 4 4 ≡ 3 ∷ 2 ∷ 0 ∷ 0 ∷ []
unfolding unicode_segmentation unicode_width
back_over_empty = refl

-- letters, marks, digits of both kinds and BN are of one word; ON and S are of none
abbrev marked : List ℕ
marked = codes "a" ++ (0x301 ∷ []) ++ codes "1" ++ (0x661 ∷ []) ++ codes "!b"

over_marked : forward marked 2 0 ≡ 7 ∷ 8 ∷ []
unfolding unicode_segmentation unicode_width
over_marked = refl

back_over_marked : back marked 2 8 ≡ 7 ∷ 0 ∷ []
unfolding unicode_segmentation unicode_width
back_over_marked = refl

over_tab : forward (codes "a" ++ (1 ∷ []) ++ codes "b" ++ (9 ∷ 0x5d0 ∷ [])) 2 0 ≡ 4 ∷ 6 ∷ []
unfolding unicode_segmentation unicode_width
over_tab = refl

over_lone_mark : forward (codes "a" ++ (1 ∷ 0x301 ∷ []) ++ codes "b") 1 0 ≡ 5 ∷ []
unfolding unicode_segmentation unicode_width
over_lone_mark = refl

over_comma : forward (codes "1,2") 2 0 ≡ 3 ∷ 3 ∷ []
unfolding unicode_segmentation unicode_width
over_comma = refl

-- a mark on a blank begins no word
abbrev marked_blank : List ℕ
marked_blank = codes "a " ++ (0x301 ∷ []) ++ codes "b"

over_marked_blank : forward marked_blank 2 0 ≡ 4 ∷ 5 ∷ []
unfolding unicode_segmentation unicode_width
over_marked_blank = refl

back_over_marked_blank : back marked_blank 2 5 ≡ 4 ∷ 0 ∷ []
unfolding unicode_segmentation unicode_width
back_over_marked_blank = refl

-- CR LF is one separator
abbrev two_lines : List ℕ
two_lines = codes "a" ++ (13 ∷ 10 ∷ []) ++ codes "b"

over_crlf : forward two_lines 3 0 ≡ 1 ∷ 3 ∷ 4 ∷ []
unfolding unicode_segmentation unicode_width
over_crlf = refl

back_over_crlf : back two_lines 2 4 ≡ 3 ∷ 0 ∷ []
unfolding unicode_segmentation unicode_width
back_over_crlf = refl

-- the direction marks are of no word
abbrev with_marks : List ℕ
with_marks = codes "a" ++ (0x200e ∷ []) ++ codes "b" ++ (0x200f ∷ []) ++ codes "c" ++ (0x61c ∷ []) ++ codes "d"

over_marks : forward with_marks 5 0 ≡ 4 ∷ 8 ∷ 11 ∷ 12 ∷ 12 ∷ []
unfolding unicode_segmentation unicode_width
over_marks = refl

back_over_marks : back with_marks 4 12 ≡ 11 ∷ 8 ∷ 4 ∷ 0 ∷ []
unfolding unicode_segmentation unicode_width
back_over_marks = refl
