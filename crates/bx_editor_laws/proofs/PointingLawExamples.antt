-- Worked examples, each from a law of pointing alone.
use Rattle.std.proofs.Common.{◌≡◌, ℕ, ◌≤◌, ◌<◌, [], ◌∷◌, drop, refl, arith, ⊎_elim}
use Rattle.std.specs.Prelude.{codes, None, Some}
use Rattle.std.specs.Fmt.{digits}
use Rattle.unicode_segmentation.proofs.Computing.{unicode_segmentation}
use Rattle.unicode_width.proofs.Computing.{unicode_width}
use Rattle.bx_keys.specs.declared.key.Key.TheVariants.{Drag, Forward, Point}
use Rattle.bx_view.specs.TextRows.{TextRow, row_at, text_row_glyphs}
use Rattle.bx_view_laws.specs.Pointed.{ShowsUnit}
use Rattle.bx_editor.specs.Editor.{Editor, rows}
use Rattle.bx_editor.specs.Picture.{scrolled}
use Rattle.bx_editor.specs.Region.{region}
use Rattle.bx_editor_laws.specs.PointingLaws.{cursor_column, DragsTakeBoth, IsShown, PointStays, PointTakesUnits, ThreePresses}
use Rattle.bx_editor.proofs.Computed.{tables, start, after}

-- ---- at the cursor

-- at the third of four letters, whose cell is in the third column
abbrev at_c : Editor
at_c = after (start (codes "abcd") 2 10) (Forward ∷ Forward ∷ [])

pub its_own_cell_leaves_it : PointStays → (after at_c (Point 1 3 ∷ [])).place ≡ 2
unfolding unicode_segmentation unicode_width digits
its_own_cell_leaves_it law =
    let above : 0 ≤ 0 = omega arith in
    let below : 0 < 1 = omega arith in
    ⊎_elim (λ same. same) (λ full. absurd (cc full.full))
    (law tables at_c (record { has = record { text = (codes "abcd", (refl, refl)); columns = refl }; on = refl; settled = refl; undecided = (λ over. cc over) }) refl refl (2, omega arith, refl)
    (record { above = above; below = below }))

-- ---- at a unit

abbrev wide : ℕ
wide = 0x4e16

-- a letter between two wide characters
abbrev wide_ones : Editor
wide_ones = start (wide ∷ 0x78 ∷ wide ∷ []) 2 6

abbrev only_row : TextRow
only_row = row_at (rows tables wide_ones) 0

-- the second wide one has columns 4 and 5
the_second_is_shown : ShowsUnit tables 6 only_row 4 4 6
unfolding unicode_segmentation unicode_width digits
the_second_is_shown =
    let third : 2 < 3 = omega arith in
    record {
      cell = record {
        number = 2;
        within = third;
        place_is = λ none. refl;
        before = 0 ∷ 1 ∷ [];
        behind = [];
        order = refl;
        rest = drop 3 (text_row_glyphs tables 6 only_row);
        shown = refl;
        column_is = refl;
      };
      stop_is = refl;
    }

pub its_second_column_leads_to_its_first : PointTakesUnits
    → let e = after wide_ones (Point 1 5 ∷ []) in (e.place ≡ 4) × (cursor_column tables (scrolled tables e) ≡ 4)
unfolding unicode_segmentation unicode_width digits
its_second_column_leads_to_its_first law =
    let low : 0 ≤ 0 = omega arith in
    let within : 0 < 1 = omega arith in
    let high : 1 ≤ 1 = omega arith in
    let shown : IsShown wide_ones = record {
      has = record { text = (wide ∷ 0x78 ∷ wide ∷ [], (refl, refl)); columns = refl };
      on = refl;
      settled = refl;
      undecided = (λ over. cc over);
    } in
    let stands = law tables wide_ones 0 4 4 6 5 shown low within high the_second_is_shown (omega arith) (omega arith) refl in (stands.place_is, stands.column_is)

-- ---- again and again

-- a word that has its cells from the fourth on
abbrev two_words : Editor
two_words = start (codes "ab cd") 2 20

-- the third press takes the line, which has no separator here
pub the_word_and_then_the_line : ThreePresses
    → let two = after two_words (Point 1 4 ∷ Point 1 4 ∷ []) in
    let three = after two_words (Point 1 4 ∷ Point 1 4 ∷ Point 1 4 ∷ []) in
    ((two.mark ≡ Some 3) × (two.place ≡ 5)) × ((three.mark ≡ Some 0) × (three.place ≡ 5))
unfolding unicode_segmentation unicode_width digits
the_word_and_then_the_line law =
    let high : 1 ≤ 1 = omega arith in
    let taken = law tables two_words 1 4 refl (λ over. cc over) refl (λ fresh. cc fresh) high in
    let word = taken.word refl in
    ((word.mark_is, word.place_is), (taken.paragraph.mark_is, taken.paragraph.place_is))

pub the_fourth_goes_there_again : ThreePresses
    → let e = after two_words (Point 1 4 ∷ Point 1 4 ∷ Point 1 4 ∷ Point 1 4 ∷ []) in (e.place ≡ 3) × (e.mark ≡ None)
unfolding unicode_segmentation unicode_width digits
the_fourth_goes_there_again law =
    let high : 1 ≤ 1 = omega arith in
    let again = (law tables two_words 1 4 refl (λ over. cc over) refl (λ fresh. cc fresh) high).again in (again.place_is, again.mark_is)

-- ---- dragging

abbrev six_letters : Editor
six_letters = start (codes "abcdef") 2 20

-- from b to d
pub b_c_and_d_are_taken : DragsTakeBoth → region (after six_letters (Point 1 2 ∷ Drag 1 4 ∷ [])) ≡ (1, 4)
unfolding unicode_segmentation unicode_width digits
b_c_and_d_are_taken law =
    let high : 1 ≤ 1 = omega arith in
    (law tables six_letters 1 2 1 4 refl (λ over. cc over) refl (λ fresh. cc fresh) high high (λ same. let e : 1 ≡ 3 = same in cc e)).on

pub back_on_b_it_is_taken_alone : DragsTakeBoth → region (after six_letters (Point 1 2 ∷ Drag 1 4 ∷ Drag 1 2 ∷ [])) ≡ (1, 2)
unfolding unicode_segmentation unicode_width digits
back_on_b_it_is_taken_alone law =
    let high : 1 ≤ 1 = omega arith in
    (law tables six_letters 1 2 1 4 refl (λ over. cc over) refl (λ fresh. cc fresh) high high (λ same. let e : 1 ≡ 3 = same in cc e)).alone
