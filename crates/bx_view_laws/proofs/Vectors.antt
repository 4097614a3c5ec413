-- The slots of random texts, each place with its column, as an independent model of the editor gives them. A text is its bytes.
use Rattle.std.proofs.Common.{◌≡◌, ◌+◌, ℕ, List, [], ◌∷◌, refl, map}
use Rattle.unicode_segmentation.proofs.Computing.{unicode_segmentation}
use Rattle.unicode_width.proofs.Computing.{unicode_width}
use Rattle.bx_ucd.specs.SmallTables.{small}
use Rattle.bx_common.specs.declared.base.Base.{Base}
use Rattle.bx_common.specs.declared.base.Base.TheVariants.{Auto, Ltr, Rtl}
use Rattle.bx_paragraph.specs.Slots.{row_slots}
use Rattle.bx_view.specs.TextRows.{text_rows}

-- the places of each row from left to right, each with its column
abbrev found : Base → ℕ → List ℕ → List (List (ℕ × ℕ))
found base w text = map (λ r. map (λ s. (r.start + s.offset, s.column)) (row_slots w r.row)) (text_rows small base w text)

random_0 : found Ltr 1 (28 ∷ 13 ∷ 10 ∷ 215 ∷ 147 ∷ 215 ∷ 147 ∷ 194 ∷ 133 ∷ 121 ∷ 10 ∷ [])
    ≡ ((0, 1) ∷ (1, 1) ∷ []) ∷ ((3, 1) ∷ []) ∷ ((5, 1) ∷ []) ∷ ((7, 1) ∷ []) ∷ ((9, 1) ∷ (10, 1) ∷ []) ∷ ((11, 1) ∷ []) ∷ []
unfolding unicode_segmentation unicode_width
random_0 = refl

random_1 : found Ltr 20 (65 ∷ 12 ∷ 13 ∷ 10 ∷ [])
    ≡ ((0, 1) ∷ (1, 2) ∷ (2, 3) ∷ []) ∷ ((4, 1) ∷ []) ∷ []
unfolding unicode_segmentation unicode_width
random_1 = refl

random_2 : found Auto 12 (52 ∷ 227 ∷ 128 ∷ 128 ∷ 216 ∷ 167 ∷ [])
    ≡ ((0, 1) ∷ (1, 2) ∷ (4, 4) ∷ (6, 5) ∷ []) ∷ []
unfolding unicode_segmentation unicode_width
random_2 = refl

random_3 : found Rtl 20 (32 ∷ 32 ∷ 98 ∷ [])
    ≡ ((3, 17) ∷ (2, 18) ∷ (1, 19) ∷ (0, 20) ∷ []) ∷ []
unfolding unicode_segmentation unicode_width
random_3 = refl

random_4 : found Auto 8 (32 ∷ 41 ∷ 215 ∷ 147 ∷ 40 ∷ 215 ∷ 169 ∷ 32 ∷ 215 ∷ 146 ∷ [])
    ≡ ((10, 1) ∷ (8, 2) ∷ (7, 3) ∷ (5, 4) ∷ (4, 5) ∷ (2, 6) ∷ (1, 7) ∷ (0, 8) ∷ []) ∷ []
unfolding unicode_segmentation unicode_width
random_4 = refl

random_5 : found Auto 3 (48 ∷ 215 ∷ 144 ∷ 227 ∷ 128 ∷ 137 ∷ 65 ∷ 125 ∷ 99 ∷ 225 ∷ 133 ∷ 159 ∷ 215 ∷ 146 ∷ [])
    ≡ ((1, 2) ∷ (0, 3) ∷ []) ∷ ((3, 1) ∷ (6, 3) ∷ []) ∷ ((7, 2) ∷ (8, 3) ∷ []) ∷ ((14, 1) ∷ (12, 1) ∷ (9, 2) ∷ []) ∷ []
unfolding unicode_segmentation unicode_width
random_5 = refl

random_6 : found Ltr 8 (32 ∷ 10 ∷ 97 ∷ 122 ∷ 120 ∷ 32 ∷ 32 ∷ 97 ∷ 32 ∷ 101 ∷ 101 ∷ [])
    ≡ ((0, 1) ∷ (1, 2) ∷ []) ∷ ((2, 1) ∷ (3, 2) ∷ (4, 3) ∷ (5, 4) ∷ (6, 5) ∷ (7, 6) ∷ (8, 7) ∷ []) ∷ ((9, 1) ∷ (10, 2) ∷ (11, 3) ∷ []) ∷ []
unfolding unicode_segmentation unicode_width
random_6 = refl

random_7 : found Auto 2 (226 ∷ 128 ∷ 174 ∷ [])
    ≡ ((0, 1) ∷ (3, 2) ∷ []) ∷ []
unfolding unicode_segmentation unicode_width
random_7 = refl

random_8 : found Auto 20 (11 ∷ 11 ∷ 11 ∷ 13 ∷ 10 ∷ 11 ∷ 99 ∷ 65 ∷ [])
    ≡ ((0, 1) ∷ (1, 2) ∷ (2, 3) ∷ (3, 4) ∷ []) ∷ ((5, 1) ∷ (6, 2) ∷ (7, 3) ∷ (8, 4) ∷ []) ∷ []
unfolding unicode_segmentation unicode_width
random_8 = refl

random_9 : found Ltr 3 (32 ∷ 90 ∷ 98 ∷ 90 ∷ 97 ∷ 32 ∷ [])
    ≡ ((0, 1) ∷ []) ∷ ((1, 1) ∷ (2, 2) ∷ (3, 3) ∷ []) ∷ ((4, 1) ∷ (5, 2) ∷ (6, 3) ∷ []) ∷ []
unfolding unicode_segmentation unicode_width
random_9 = refl

random_10 : found Auto 8 (11 ∷ 98 ∷ 122 ∷ 12 ∷ 10 ∷ 90 ∷ 99 ∷ 11 ∷ [])
    ≡ ((0, 1) ∷ (1, 2) ∷ (2, 3) ∷ (3, 4) ∷ (4, 5) ∷ []) ∷ ((5, 1) ∷ (6, 2) ∷ (7, 3) ∷ (8, 4) ∷ []) ∷ []
unfolding unicode_segmentation unicode_width
random_10 = refl

random_11 : found Auto 2 (226 ∷ 128 ∷ 169 ∷ 225 ∷ 159 ∷ 152 ∷ 226 ∷ 136 ∷ 146 ∷ 53 ∷ 227 ∷ 128 ∷ 128 ∷ 215 ∷ 146 ∷ 216 ∷ 167 ∷ 56 ∷ [])
    ≡ ((0, 1) ∷ []) ∷ ((3, 1) ∷ (6, 2) ∷ []) ∷ ((9, 1) ∷ []) ∷ ((10, 1) ∷ []) ∷ ((15, 1) ∷ (13, 2) ∷ []) ∷ ((17, 1) ∷ (18, 2) ∷ []) ∷ []
unfolding unicode_segmentation unicode_width
random_11 = refl

random_12 : found Auto 12 (93 ∷ 93 ∷ 41 ∷ 93 ∷ 40 ∷ 215 ∷ 146 ∷ 40 ∷ 40 ∷ 91 ∷ [])
    ≡ ((10, 3) ∷ (9, 4) ∷ (8, 5) ∷ (7, 6) ∷ (5, 7) ∷ (4, 8) ∷ (3, 9) ∷ (2, 10) ∷ (1, 11) ∷ (0, 12) ∷ []) ∷ []
unfolding unicode_segmentation unicode_width
random_12 = refl

random_13 : found Auto 8 (10 ∷ 90 ∷ 10 ∷ 121 ∷ 32 ∷ 98 ∷ 32 ∷ 10 ∷ 122 ∷ 120 ∷ [])
    ≡ ((0, 1) ∷ []) ∷ ((1, 1) ∷ (2, 2) ∷ []) ∷ ((3, 1) ∷ (4, 2) ∷ (5, 3) ∷ (6, 4) ∷ (7, 5) ∷ []) ∷ ((8, 1) ∷ (9, 2) ∷ (10, 3) ∷ []) ∷ []
unfolding unicode_segmentation unicode_width
random_13 = refl

random_14 : found Auto 12 (58 ∷ 215 ∷ 146 ∷ 46 ∷ [])
    ≡ ((0, 1) ∷ (1, 2) ∷ (3, 3) ∷ (4, 4) ∷ []) ∷ []
unfolding unicode_segmentation unicode_width
random_14 = refl

random_15 : found Auto 2 (32 ∷ 66 ∷ 32 ∷ 101 ∷ 32 ∷ 100 ∷ [])
    ≡ ((0, 1) ∷ []) ∷ ((1, 1) ∷ (2, 2) ∷ []) ∷ ((3, 1) ∷ (4, 2) ∷ []) ∷ ((5, 1) ∷ (6, 2) ∷ []) ∷ []
unfolding unicode_segmentation unicode_width
random_15 = refl

random_16 : found Rtl 3 (215 ∷ 146 ∷ [])
    ≡ ((2, 2) ∷ (0, 3) ∷ []) ∷ []
unfolding unicode_segmentation unicode_width
random_16 = refl

random_17 : found Auto 9 (41 ∷ 65 ∷ [])
    ≡ ((0, 1) ∷ (1, 2) ∷ (2, 3) ∷ []) ∷ []
unfolding unicode_segmentation unicode_width
random_17 = refl

random_18 : found Ltr 9 (99 ∷ [])
    ≡ ((0, 1) ∷ (1, 2) ∷ []) ∷ []
unfolding unicode_segmentation unicode_width
random_18 = refl

random_19 : found Auto 1 (120 ∷ 215 ∷ 144 ∷ 215 ∷ 145 ∷ [])
    ≡ ((0, 1) ∷ []) ∷ ((1, 1) ∷ []) ∷ ((3, 1) ∷ (5, 1) ∷ []) ∷ []
unfolding unicode_segmentation unicode_width
random_19 = refl

random_20 : found Auto 40 (32 ∷ 101 ∷ 32 ∷ 10 ∷ [])
    ≡ ((0, 1) ∷ (1, 2) ∷ (2, 3) ∷ (3, 4) ∷ []) ∷ ((4, 1) ∷ []) ∷ []
unfolding unicode_segmentation unicode_width
random_20 = refl

random_21 : found Auto 8 (215 ∷ 169 ∷ 216 ∷ 167 ∷ 215 ∷ 144 ∷ 53 ∷ 226 ∷ 128 ∷ 140 ∷ 226 ∷ 128 ∷ 169 ∷ 32 ∷ 99 ∷ [])
    ≡ ((10, 4) ∷ (6, 5) ∷ (4, 6) ∷ (2, 7) ∷ (0, 8) ∷ []) ∷ ((13, 1) ∷ (14, 2) ∷ (15, 3) ∷ []) ∷ []
unfolding unicode_segmentation unicode_width
random_21 = refl

random_22 : found Ltr 3 (65 ∷ 32 ∷ 32 ∷ 10 ∷ [])
    ≡ ((0, 1) ∷ (1, 2) ∷ (2, 3) ∷ (3, 3) ∷ []) ∷ ((4, 1) ∷ []) ∷ []
unfolding unicode_segmentation unicode_width
random_22 = refl

random_23 : found Auto 9 (40 ∷ 121 ∷ 40 ∷ 101 ∷ 32 ∷ [])
    ≡ ((0, 1) ∷ (1, 2) ∷ (2, 3) ∷ (3, 4) ∷ (4, 5) ∷ (5, 6) ∷ []) ∷ []
unfolding unicode_segmentation unicode_width
random_23 = refl

random_24 : found Ltr 5 (32 ∷ 32 ∷ [])
    ≡ ((0, 1) ∷ (1, 2) ∷ (2, 3) ∷ []) ∷ []
unfolding unicode_segmentation unicode_width
random_24 = refl

random_25 : found Ltr 8 (240 ∷ 159 ∷ 145 ∷ 141 ∷ 240 ∷ 159 ∷ 143 ∷ 189 ∷ [])
    ≡ ((0, 1) ∷ (8, 3) ∷ []) ∷ []
unfolding unicode_segmentation unicode_width
random_25 = refl

random_26 : found Auto 20 (194 ∷ 187 ∷ 215 ∷ 147 ∷ 226 ∷ 128 ∷ 169 ∷ [])
    ≡ ((0, 1) ∷ (2, 2) ∷ (4, 3) ∷ []) ∷ ((7, 1) ∷ []) ∷ []
unfolding unicode_segmentation unicode_width
random_26 = refl

random_27 : found Auto 9 (66 ∷ 32 ∷ 215 ∷ 144 ∷ 99 ∷ [])
    ≡ ((0, 1) ∷ (1, 2) ∷ (2, 3) ∷ (4, 4) ∷ (5, 5) ∷ []) ∷ []
unfolding unicode_segmentation unicode_width
random_27 = refl

random_28 : found Rtl 2 (100 ∷ 226 ∷ 128 ∷ 172 ∷ 101 ∷ [])
    ≡ ((0, 1) ∷ (1, 2) ∷ []) ∷ ((5, 1) ∷ (4, 2) ∷ []) ∷ []
unfolding unicode_segmentation unicode_width
random_28 = refl

random_29 : found Auto 9 (41 ∷ 32 ∷ 98 ∷ [])
    ≡ ((0, 1) ∷ (1, 2) ∷ (2, 3) ∷ (3, 4) ∷ []) ∷ []
unfolding unicode_segmentation unicode_width
random_29 = refl

random_30 : found Ltr 5 (121 ∷ 90 ∷ 226 ∷ 129 ∷ 167 ∷ 53 ∷ [])
    ≡ ((0, 1) ∷ (1, 2) ∷ (2, 3) ∷ (5, 4) ∷ (6, 5) ∷ []) ∷ []
unfolding unicode_segmentation unicode_width
random_30 = refl

random_31 : found Ltr 8 (10 ∷ [])
    ≡ ((0, 1) ∷ []) ∷ ((1, 1) ∷ []) ∷ []
unfolding unicode_segmentation unicode_width
random_31 = refl

random_32 : found Rtl 40 (226 ∷ 128 ∷ 171 ∷ 28 ∷ 217 ∷ 161 ∷ 54 ∷ 227 ∷ 128 ∷ 137 ∷ 216 ∷ 167 ∷ 12 ∷ 65 ∷ [])
    ≡ ((14, 31) ∷ (12, 32) ∷ (13, 33) ∷ (10, 34) ∷ (3, 35) ∷ (4, 36) ∷ (6, 37) ∷ (7, 38) ∷ (0, 40) ∷ []) ∷ []
unfolding unicode_segmentation unicode_width
random_32 = refl

random_33 : found Ltr 2 (41 ∷ 239 ∷ 188 ∷ 137 ∷ [])
    ≡ ((0, 1) ∷ []) ∷ ((1, 1) ∷ (4, 2) ∷ []) ∷ []
unfolding unicode_segmentation unicode_width
random_33 = refl
