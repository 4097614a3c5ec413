-- The definitions, computed on small bodies.
use Rattle.std.proofs.Common.{◌≡◌, ℕ, true, false, List, [], ◌∷◌, ◌++◌, refl, replicate}
use Rattle.std.specs.Prelude.{codes}
use Rattle.unicode_segmentation.proofs.Computing.{unicode_segmentation}
use Rattle.unicode_width.proofs.Computing.{unicode_width}
use Rattle.bx_common.specs.declared.base.Base.TheVariants.{Auto, Ltr, Rtl}
use Rattle.bx_rows_laws.proofs.Computed.{mirror, wide_mirror, narrow_mirror, rows, levels, levels_under_base, orders, drawn, texts, pictures, columns}
use Rattle.bx_rows_laws.proofs.Computed.{negatives}

abbrev alef : ℕ
alef = 0x5d0

abbrev bet : ℕ
bet = 0x5d1

abbrev gimel : ℕ
gimel = 0x5d2

abbrev arabic : ℕ
arabic = 0x627

abbrev wide : ℕ
wide = 0x4e16

abbrev lri : ℕ
lri = 0x2066

abbrev rli : ℕ
rli = 0x2067

abbrev fsi : ℕ
fsi = 0x2068

abbrev pdi : ℕ
pdi = 0x2069

abbrev rle : ℕ
rle = 0x202b

-- a, n opening parentheses, A, n closing ones, A
abbrev many : ℕ → List ℕ
many n = codes "a" ++ replicate n 40 ++ (alef ∷ []) ++ replicate n 41 ++ (alef ∷ [])

-- a AB b
mixed_levels : levels 6 (codes "a " ++ (alef ∷ bet ∷ []) ++ codes " b") ≡ ((0 ∷ 0 ∷ 1 ∷ 1 ∷ 0 ∷ 0 ∷ []) ∷ [])
unfolding unicode_segmentation unicode_width
mixed_levels = refl

-- its visual order
mixed_order : orders 6 (codes "a " ++ (alef ∷ bet ∷ []) ++ codes " b") ≡ ((0 ∷ 1 ∷ 3 ∷ 2 ∷ 4 ∷ 5 ∷ []) ∷ [])
unfolding unicode_segmentation unicode_width
mixed_order = refl

-- its picture
mixed : pictures 6 (codes "a " ++ (alef ∷ bet ∷ []) ++ codes " b") ≡ ((codes "a " ++ (bet ∷ alef ∷ []) ++ codes " b") ∷ [])
unfolding unicode_segmentation unicode_width
mixed = refl

-- AB 12
numbers_levels : levels 8 ((alef ∷ bet ∷ []) ++ codes " 12") ≡ ((1 ∷ 1 ∷ 1 ∷ 2 ∷ 2 ∷ []) ∷ [])
unfolding unicode_segmentation unicode_width
numbers_levels = refl

-- its picture
numbers : pictures 8 ((alef ∷ bet ∷ []) ++ codes " 12") ≡ ((codes "   12 " ++ (bet ∷ alef ∷ [])) ∷ [])
unfolding unicode_segmentation unicode_width
numbers = refl

-- AB (a) G
brackets_levels : levels 8 ((alef ∷ bet ∷ []) ++ codes " (a) " ++ (gimel ∷ [])) ≡ ((1 ∷ 1 ∷ 1 ∷ 1 ∷ 2 ∷ 1 ∷ 1 ∷ 1 ∷ []) ∷ [])
unfolding unicode_segmentation unicode_width
brackets_levels = refl

-- both brackets are mirrored
brackets : pictures 8 ((alef ∷ bet ∷ []) ++ codes " (a) " ++ (gimel ∷ [])) ≡ (((gimel ∷ []) ++ codes " (a) " ++ (bet ∷ alef ∷ [])) ∷ [])
unfolding unicode_segmentation unicode_width
brackets = refl

-- a AB G wraps after its last blank
two_rows : rows 5 (codes "a " ++ (alef ∷ bet ∷ []) ++ codes " " ++ (gimel ∷ [])) ≡ ((0, 5) ∷ (5, 6) ∷ [])
unfolding unicode_segmentation unicode_width
two_rows = refl

-- the blank at the end of the first row has the paragraph level
two_rows_levels : levels 5 (codes "a " ++ (alef ∷ bet ∷ []) ++ codes " " ++ (gimel ∷ [])) ≡ ((0 ∷ 0 ∷ 1 ∷ 1 ∷ 0 ∷ []) ∷ (1 ∷ []) ∷ [])
unfolding unicode_segmentation unicode_width
two_rows_levels = refl

-- its pictures
two_rows_pictures : pictures 5 (codes "a " ++ (alef ∷ bet ∷ []) ++ codes " " ++ (gimel ∷ []))
    ≡ ((codes "a " ++ (bet ∷ alef ∷ []) ++ codes " ") ∷ ((gimel ∷ []) ++ codes "    ") ∷ [])
unfolding unicode_segmentation unicode_width
two_rows_pictures = refl

-- a RLI B PDI c
isolate_levels : levels 5 (codes "a" ++ (rli ∷ bet ∷ pdi ∷ []) ++ codes "c") ≡ ((0 ∷ 0 ∷ 1 ∷ 0 ∷ 0 ∷ []) ∷ [])
unfolding unicode_segmentation unicode_width
isolate_levels = refl

-- its picture
isolate : pictures 5 (codes "a" ++ (rli ∷ bet ∷ pdi ∷ []) ++ codes "c") ≡ ((codes "aI" ++ (bet ∷ []) ++ codes "Pc") ∷ [])
unfolding unicode_segmentation unicode_width
isolate = refl

-- the formatting characters are in negative image
isolate_marks : negatives (drawn mirror Auto 5 (codes "a" ++ (rli ∷ bet ∷ pdi ∷ []) ++ codes "c")) ≡ ((false ∷ true ∷ false ∷ true ∷ false ∷ []) ∷ [])
unfolding unicode_segmentation unicode_width
isolate_marks = refl

-- a RLI B PDI !1
isolate_then_number_levels : levels 6 (codes "a" ++ (rli ∷ bet ∷ pdi ∷ []) ++ codes "!1") ≡ ((0 ∷ 0 ∷ 1 ∷ 0 ∷ 0 ∷ 0 ∷ []) ∷ [])
unfolding unicode_segmentation unicode_width
isolate_then_number_levels = refl

-- its picture
isolate_then_number : pictures 6 (codes "a" ++ (rli ∷ bet ∷ pdi ∷ []) ++ codes "!1") ≡ ((codes "aI" ++ (bet ∷ []) ++ codes "P!1") ∷ [])
unfolding unicode_segmentation unicode_width
isolate_then_number = refl

-- FSI LRI a PDI B PDI c
nested_levels : levels 7 ((fsi ∷ lri ∷ []) ++ codes "a" ++ (pdi ∷ bet ∷ pdi ∷ []) ++ codes "c") ≡ ((0 ∷ 1 ∷ 2 ∷ 1 ∷ 1 ∷ 0 ∷ 0 ∷ []) ∷ [])
unfolding unicode_segmentation unicode_width
nested_levels = refl

-- its picture
nested : pictures 7 ((fsi ∷ lri ∷ []) ++ codes "a" ++ (pdi ∷ bet ∷ pdi ∷ []) ++ codes "c") ≡ ((codes "f" ++ (bet ∷ []) ++ codes "PaiPc") ∷ [])
unfolding unicode_segmentation unicode_width
nested = refl

-- 63 RLE and a: the removed characters have the paragraph level
deep_levels : levels 70 (replicate 63 rle ++ codes "a") ≡ ((replicate 63 0 ++ 126 ∷ []) ∷ [])
unfolding unicode_segmentation unicode_width
deep_levels = refl

-- its picture
deep : pictures 70 (replicate 63 rle ++ codes "a") ≡ ((replicate 63 69 ++ codes "a" ++ replicate 6 32) ∷ [])
unfolding unicode_segmentation unicode_width
deep = refl

-- a, 63 (, A, 63 ), A is shown in its own order
many_brackets : pictures 140 (many 63) ≡ ((many 63 ++ replicate 11 32) ∷ [])
unfolding unicode_segmentation unicode_width
many_brackets = refl

-- with 64 the closing ones are at level 1, and mirrored
too_many_brackets : pictures 140 (many 64) ≡ ((codes "a" ++ replicate 64 40 ++ (alef ∷ []) ++ replicate 64 40 ++ (alef ∷ []) ++ replicate 9 32) ∷ [])
unfolding unicode_segmentation unicode_width
too_many_brackets = refl

-- a b and a wide character in three columns
with_wide : pictures 3 (codes "ab" ++ (wide ∷ [])) ≡ ((codes "ab ") ∷ ((wide ∷ []) ++ codes " ") ∷ [])
unfolding unicode_segmentation unicode_width
with_wide = refl

-- the columns of its glyphs
with_wide_columns : columns (drawn mirror Auto 3 (codes "ab" ++ (wide ∷ []))) ≡ ((1 ∷ 1 ∷ 1 ∷ []) ∷ (2 ∷ 1 ∷ []) ∷ [])
unfolding unicode_segmentation unicode_width
with_wide_columns = refl

-- in one column
too_wide : pictures 1 (codes "ab" ++ (wide ∷ [])) ≡ ((codes "a") ∷ (codes "b") ∷ (codes "#") ∷ [])
unfolding unicode_segmentation unicode_width
too_wide = refl

-- the last is a mark
too_wide_mark : negatives (drawn mirror Auto 1 (codes "ab" ++ (wide ∷ []))) ≡ ((false ∷ []) ∷ (false ∷ []) ∷ (true ∷ []) ∷ [])
unfolding unicode_segmentation unicode_width
too_wide_mark = refl

-- A, a tab, B
tab_between : pictures 16 (alef ∷ 9 ∷ bet ∷ []) ≡ ((codes "       " ++ (bet ∷ []) ++ codes "       " ++ (alef ∷ [])) ∷ [])
unfolding unicode_segmentation unicode_width
tab_between = refl

-- aB((G)Ad)
inner_pair_levels : levels 9 (codes "a" ++ (bet ∷ []) ++ codes "((" ++ (gimel ∷ []) ++ codes ")" ++ (alef ∷ []) ++ codes "d)")
    ≡ ((0 ∷ 1 ∷ 0 ∷ 0 ∷ 1 ∷ 0 ∷ 1 ∷ 0 ∷ 0 ∷ []) ∷ [])
unfolding unicode_segmentation unicode_width
inner_pair_levels = refl

-- its picture
inner_pair : pictures 9 (codes "a" ++ (bet ∷ []) ++ codes "((" ++ (gimel ∷ []) ++ codes ")" ++ (alef ∷ []) ++ codes "d)")
    ≡ ((codes "a" ++ (bet ∷ []) ++ codes "((" ++ (gimel ∷ []) ++ codes ")" ++ (alef ∷ []) ++ codes "d)") ∷ [])
unfolding unicode_segmentation unicode_width
inner_pair = refl

-- U+0627 1,2
arabic_comma_levels : levels 8 ((arabic ∷ []) ++ codes "1,2") ≡ ((1 ∷ 2 ∷ 2 ∷ 2 ∷ []) ∷ [])
unfolding unicode_segmentation unicode_width
arabic_comma_levels = refl

-- its picture
arabic_comma : pictures 8 ((arabic ∷ []) ++ codes "1,2") ≡ ((codes "    1,2" ++ (arabic ∷ [])) ∷ [])
unfolding unicode_segmentation unicode_width
arabic_comma = refl

-- U+0627 1+2
arabic_plus_levels : levels 8 ((arabic ∷ []) ++ codes "1+2") ≡ ((1 ∷ 2 ∷ 1 ∷ 2 ∷ []) ∷ [])
unfolding unicode_segmentation unicode_width
arabic_plus_levels = refl

-- its picture
arabic_plus : pictures 8 ((arabic ∷ []) ++ codes "1+2") ≡ ((codes "    2+1" ++ (arabic ∷ [])) ∷ [])
unfolding unicode_segmentation unicode_width
arabic_plus = refl

-- a, a tab, b in four columns and in eight
tab_at_edge : pictures 4 (codes "a" ++ (9 ∷ []) ++ codes "b") ≡ ((codes "a   ") ∷ (codes "b   ") ∷ [])
unfolding unicode_segmentation unicode_width
tab_at_edge = refl

-- in eight
tab_to_edge : pictures 8 (codes "a" ++ (9 ∷ []) ++ codes "b") ≡ ((codes "a       ") ∷ (codes "b       ") ∷ [])
unfolding unicode_segmentation unicode_width
tab_to_edge = refl

-- a mirror that is wider is not taken
mirror_too_wide : texts (drawn wide_mirror Auto 3 ((alef ∷ []) ++ codes "(" ++ (bet ∷ []))) ≡ (((bet ∷ []) ++ codes "(" ++ (alef ∷ [])) ∷ [])
unfolding unicode_segmentation unicode_width
mirror_too_wide = refl

-- a mirror that is as wide is taken
mirror_taken : pictures 3 ((alef ∷ []) ++ codes "(" ++ (bet ∷ [])) ≡ (((bet ∷ []) ++ codes ")" ++ (alef ∷ [])) ∷ [])
unfolding unicode_segmentation unicode_width
mirror_taken = refl

-- an empty body has one row of blanks
no_units : rows 4 [] ≡ ((0, 0) ∷ [])
unfolding unicode_segmentation unicode_width
no_units = refl

-- its picture
no_units_picture : pictures 4 [] ≡ ((codes "    ") ∷ [])
unfolding unicode_segmentation unicode_width
no_units_picture = refl

-- a AB b in a text forced to the left
rtl : texts (drawn mirror Rtl 6 (codes "a " ++ (alef ∷ bet ∷ []) ++ codes " b")) ≡ ((codes "b " ++ (bet ∷ alef ∷ []) ++ codes " a") ∷ [])
unfolding unicode_segmentation unicode_width
rtl = refl

-- its levels
rtl_levels : levels_under_base Rtl 6 (codes "a " ++ (alef ∷ bet ∷ []) ++ codes " b") ≡ ((2 ∷ 1 ∷ 1 ∷ 1 ∷ 1 ∷ 2 ∷ []) ∷ [])
unfolding unicode_segmentation unicode_width
rtl_levels = refl

-- AB 12 in a text forced to the right
ltr : texts (drawn mirror Ltr 8 ((alef ∷ bet ∷ []) ++ codes " 12")) ≡ ((codes "12 " ++ (bet ∷ alef ∷ []) ++ codes "   ") ∷ [])
unfolding unicode_segmentation unicode_width
ltr = refl

-- ab cd ef wraps after a blank
blanks : pictures 7 (codes "ab cd ef") ≡ ((codes "ab cd  ") ∷ (codes "ef     ") ∷ [])
unfolding unicode_segmentation unicode_width
blanks = refl

-- abcdef wraps where it is full
no_blank : pictures 4 (codes "abcdef") ≡ ((codes "abcd") ∷ (codes "ef  ") ∷ [])
unfolding unicode_segmentation unicode_width
no_blank = refl

-- ab cd in two columns
blank_alone : pictures 2 (codes "ab cd") ≡ ((codes "ab") ∷ (codes "  ") ∷ (codes "cd") ∷ [])
unfolding unicode_segmentation unicode_width
blank_alone = refl

-- ab cd in four columns
blank_fits : pictures 4 (codes "ab cd") ≡ ((codes "ab  ") ∷ (codes "cd  ") ∷ [])
unfolding unicode_segmentation unicode_width
blank_fits = refl

-- AB cd in four columns
blank_right : pictures 4 ((alef ∷ bet ∷ []) ++ codes " cd") ≡ ((codes "  " ++ (bet ∷ alef ∷ [])) ∷ (codes "  cd") ∷ [])
unfolding unicode_segmentation unicode_width
blank_right = refl

-- a letter with two marks is one glyph
letters : columns (drawn mirror Auto 4 (101 ∷ 0x301 ∷ 0x302 ∷ [])) ≡ ((1 ∷ 1 ∷ 1 ∷ 1 ∷ []) ∷ [])
unfolding unicode_segmentation unicode_width
letters = refl

-- a RLE A LRI PDI PDF: L1 takes isolates at the row's end
isolates_at_the_end : pictures 7 (codes "a" ++ (rle ∷ alef ∷ lri ∷ pdi ∷ 0x202c ∷ [])) ≡ ((codes "aE" ++ (alef ∷ []) ++ codes "iPp ") ∷ [])
unfolding unicode_segmentation unicode_width
isolates_at_the_end = refl

-- a control, and a mark alone, are marks of one column
control_and_mark : pictures 3 (1 ∷ []) ≡ (codes "?  ") ∷ []
unfolding unicode_segmentation unicode_width
control_and_mark = refl

mark_alone : pictures 2 (0x301 ∷ []) ≡ (codes "~ ") ∷ []
unfolding unicode_segmentation unicode_width
mark_alone = refl

-- under an override, a wide character with a mark: its mirrored text is two letters, so two glyphs
mirrored_to_letters : texts (drawn narrow_mirror Auto 4 (0x202e ∷ 0x4e16 ∷ 0x301 ∷ [])) ≡ codes "Oab " ∷ []
unfolding unicode_segmentation unicode_width
mirrored_to_letters = refl

mirrored_to_letters_columns : columns (drawn narrow_mirror Auto 4 (0x202e ∷ 0x4e16 ∷ 0x301 ∷ [])) ≡ (1 ∷ 1 ∷ 1 ∷ 1 ∷ []) ∷ []
unfolding unicode_segmentation unicode_width
mirrored_to_letters_columns = refl
