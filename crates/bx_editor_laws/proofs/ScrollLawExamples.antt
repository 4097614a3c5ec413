-- Worked examples, each from a law of what the window shows alone.
use Rattle.std.proofs.Common.{◌≡◌, ◌+◌, ◌<◌, ◌≤◌, [], ◌∷◌, replicate, refl, arith}
use Rattle.std.specs.Prelude.{codes}
use Rattle.std.specs.Fmt.{digits}
use Rattle.unicode_segmentation.proofs.Computing.{unicode_segmentation}
use Rattle.unicode_width.proofs.Computing.{unicode_width}
use Rattle.bx_keys.specs.declared.key.Key.TheVariants.{Down, GoTo, Insert, NewLine, PageBack, PageOn, ScrollBack, ScrollOn}
use Rattle.bx_view.specs.declared.moves.Vertical.TheVariants as ways
use Rattle.bx_editor.specs.Editor.{Editor}
use Rattle.bx_editor.specs.Functions.{HasRows}
use Rattle.bx_editor_laws.specs.ScrollLaws.{CanScroll, FarKeysShow, PagesGoBack, ShowsCursor, WheelGoesBack, WheelMovesView, shown_after, top_row}
use Rattle.bx_editor.proofs.Computed.{tables, start, after}

-- seven lines, of which three are shown, or four
abbrev lines : Editor
lines = start (codes "1\n2\n3\n4\n5\n6\n7") 4 20

abbrev more_lines : Editor
more_lines = start (codes "1\n2\n3\n4\n5\n6\n7") 5 20

lines_fit : HasRows lines
lines_fit = record { text = (codes "1\n2\n3\n4\n5\n6\n7", (refl, refl)); columns = refl }

-- ---- far keys

-- the fifth line is asked for
abbrev asked : Editor
asked = after lines (GoTo ∷ Insert 0x35 ∷ [])

hidden : ShowsCursor tables (after asked (NewLine ∷ [])) → ⊥
unfolding unicode_segmentation unicode_width digits
hidden shows = let less : 4 < 0 + 3 = shows.below in omega (arith, less)

pub the_fifth_line_is_shown_under_another : FarKeysShow → (top_row tables (shown_after tables asked NewLine) + 1 ≤ 4)
    × (4 < top_row tables (shown_after tables asked NewLine) + 3)
unfolding unicode_segmentation unicode_width digits
the_fifth_line_is_shown_under_another law =
    let new : HasRows (after asked (NewLine ∷ [])) = record { text = (codes "1\n2\n3\n4\n5\n6\n7", (refl, refl)); columns = refl } in
    let shows = law tables asked NewLine new refl (λ over. cc over) refl in (shows.above hidden, shows.shows.below)

-- ---- the wheel

can_scroll : CanScroll lines
can_scroll = record { rows_fit = lines_fit; on = refl; settled = refl; undecided = λ over. cc over }

pub the_wheel_goes_three_lines_on : WheelMovesView → top_row tables (shown_after tables lines ScrollOn) ≡ 3
unfolding unicode_segmentation unicode_width digits
the_wheel_goes_three_lines_on law = (law tables lines ways.Down can_scroll).top_is

-- in the fourth line, which is the last one shown before and the first one behind
abbrev on_the_fourth : Editor
on_the_fourth = after more_lines (replicate 3 Down)

can_scroll_there : CanScroll on_the_fourth
unfolding unicode_segmentation unicode_width digits
can_scroll_there =
    record {
      rows_fit = record { text = (codes "1\n2\n3\n4\n5\n6\n7", (refl, refl)); columns = refl };
      on = refl;
      settled = refl;
      undecided = λ over. cc over;
    }

pub the_cursor_stays_on_the_fourth : WheelMovesView → (shown_after tables on_the_fourth ScrollOn).place ≡ 6
unfolding unicode_segmentation unicode_width digits
the_cursor_stays_on_the_fourth law =
    let first : 3 ≤ 3 = omega arith in
    let last : 3 < 3 + 4 = omega arith in ((law tables on_the_fourth ways.Down can_scroll_there).stays (first, last)).place_is

pub the_wheel_comes_back : WheelGoesBack → top_row tables (shown_after tables (shown_after tables on_the_fourth ScrollOn) ScrollBack) ≡ 0
unfolding unicode_segmentation unicode_width digits
the_wheel_comes_back law =
    let fits : 0 + 3 + 4 ≤ 7 = omega arith in
    let low : 0 ≤ 3 = omega arith in
    let high : 3 < 0 + 4 = omega arith in
    let low_then : 0 + 3 ≤ 3 = omega arith in
    let high_then : 3 < 0 + 3 + 4 = omega arith in
    ((law tables on_the_fourth can_scroll_there).on fits (low, high) (low_then, high_then)).top_is

-- ---- pages

pub a_page_comes_back : PagesGoBack → let new = shown_after tables (shown_after tables lines PageOn) PageBack in (top_row tables new ≡ 0) × (new.place ≡ 0)
unfolding unicode_segmentation unicode_width digits
a_page_comes_back law =
    let low : 0 ≤ 0 = omega arith in
    let high : 0 < 0 + 3 = omega arith in
    let fits : 0 + 2 + 3 ≤ 7 = omega arith in
    let back =
    (law tables lines (record { rows_fit = lines_fit; unsought = refl; settled = refl; unasked = refl; place = (0, omega arith, refl) }) refl refl).on
    (record { above = low; below = high }) fits in (back.0, back.1.to_place (λ end. cc end.full))
