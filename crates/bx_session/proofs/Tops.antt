-- The row that is shown first is not seen by itself, nor is a clipboard; and a text is opened with its first row first.
use Rattle.std.proofs.Common.{◌≡◌, ℕ, ◌-◌, ◌<◌, ◌≤◌, Bool, true, false, List, [], ◌++◌, length, map, IsUtf8, Option, Some, None, refl, sym, ap, ap₂, ◌∙◌, nat_le, leb-true, arith, if◌then◌else◌}
use Rattle.std.specs.Prelude.{◌&&◌}
use Rattle.std.proofs.lemmas.List.{get_or-map, length-map}
use Rattle.bx_common.specs.Characters.{is_side, largest_side}
use Rattle.bx_common.specs.declared.base.Base.{Base}
use Rattle.bx_ucd.specs.Data.{Data}
use Rattle.bx_rows.specs.RowPicture.{Glyph}
use Rattle.bx_view.specs.TextRows.{TextRow, cell_of, first, no_text_row, row_at, row_of, text_rows}
use Rattle.bx_view.specs.Top.{follow, nearest_top, shown_rows}
use Rattle.bx_view.proofs.LeastMove.{falls-own}
use Rattle.bx_view.proofs.Rising.{rank-few, rank-here}
use Rattle.bx_view.proofs.Walking.{rows-rise, text-rank}
use Rattle.bx_grid.specs.Picture.{PictureState}
use Rattle.bx_editor.specs.declared.questions.answers.Prompt.{Prompt}
use Rattle.bx_editor.specs.declared.questions.answers.Prompt.TheVariants as prompts
use Rattle.bx_editor.specs.declared.search_state.SearchState.{SearchState}
use Rattle.bx_editor.specs.declared.search_state.SearchState.TheVariants as search_states
use Rattle.bx_editor.specs.declared.clicks.Clicks.{Clicks}
use Rattle.bx_editor.specs.declared.clicks.Pressed.{Pressed}
use Rattle.bx_editor.specs.declared.cursor.Soft.{Soft}
use Rattle.bx_editor.specs.declared.undo_groups.typing.Typing.{Typing}
use Rattle.bx_view.specs.declared.moves.Goal.{Goal}
use Rattle.bx_editor.specs.Editor.{Editor, at_start, rows, text_height, with_top}
use Rattle.bx_editor.specs.Functions.{HasRows}
use Rattle.bx_document.specs.StatusRow.{with_some_end}
use Rattle.bx_editor.specs.InputLines.{input_line_of}
use Rattle.bx_editor.specs.Picture.{StandsOnItsCell, blank_picture, next_top, picture, region_rows, with_cursor}
use Rattle.bx_editor.specs.Replacing.{found_here, match_or_region, seen_in}
use Rattle.bx_editor.specs.Status.{glyph_row, input_column, is_rtl, letter_glyphs, name_end, prompt_words, status_text, typed_column, typed_glyphs}
use Rattle.bx_session.specs.Session.{picture_of}

-- ---- the picture

module _ (d : Data) (e : Editor) (shown : ℕ) (clipboard : Bool) (pasted : Option (List ℕ)) (quit_before : Bool) (goal : Option Goal) (soft : Soft)
    (typing : Typing) (clicks : Option Clicks) (pressed : Option Pressed) where
  abbrev new : Editor
  new = record e {
    top = shown;
    clipboard = clipboard;
    pasted = pasted;
    quit_before = quit_before;
    goal = goal;
    soft = soft;
    typing = typing;
    clicks = clicks;
    pressed = pressed;
  }

  same-found : (at : Option ℕ) → match_or_region d new at ≡ match_or_region d e at
  same-found None = refl
  same-found (Some at) = refl

  same-part : (search_state : SearchState) → seen_in d new search_state ≡ seen_in d e search_state
  same-part search_states.Off = refl
  same-part search_states.Begun = refl
  same-part search_states.Typed = same-found (found_here d e)
  same-part search_states.WithBegun = same-found (found_here d e)
  same-part search_states.WithTyped = same-found (found_here d e)
  same-part search_states.Replacing = refl

  same-words : (prompt : Prompt) → prompt_words new prompt ≡ prompt_words e prompt
  same-words prompts.Off = refl
  same-words prompts.Line = refl
  same-words prompts.Name = refl
  same-words prompts.Code = refl
  same-words prompts.File = refl
  same-words prompts.Overwrite = refl

  same-typed : (text : List ℕ) (line : Option (List ℕ)) → typed_glyphs d new text line ≡ typed_glyphs d e text line
  same-typed text None = refl
  same-typed text (Some line) = refl

  same-column : (text : List ℕ) (line : Option (List ℕ)) → typed_column d new text line ≡ typed_column d e text line
  same-column text None = refl
  same-column text (Some line) = refl

  -- the picture with this part of the text in the other rendition, and these words, what is typed behind them, and the cursor there
  abbrev with_parts : ℕ → ℕ × ℕ → List Glyph → Option ℕ → List ℕ → PictureState
  with_parts top part typed column text =
      if e.ended
      then blank_picture e.height e.width
      else with_cursor (if nat_le 2 e.height then column else None) (record {
        height = e.height;
        width = e.width;
        columns = region_rows d e.width part (text_height e.height) (shown_rows (rows d e) top (text_height e.height))
            ++ (if nat_le 2 e.height
            then glyph_row e.width (with_some_end e.width (letter_glyphs text ++ typed) (name_end d (is_rtl d e) e.name))
            else []);
        row = row_of (rows d e) e.place - row_of (rows d e) top;
        column = cell_of e.width (rows d e) e.place - 1;
      })

  pub looks_same : (top : ℕ) → picture d new top ≡ picture d e top
  looks_same top =
      let line = input_line_of e in
      let told : List ℕ → List ℕ = λ words. status_text d e ++ words in
      let words = prompt_words new e.prompt in
      ap (λ part. with_parts top part (typed_glyphs d new (told words) line) (typed_column d new (told words) line) (told words))
      (same-part e.search_state)
      ∙ ap₂ (λ glyphs column. with_parts top (seen_in d e e.search_state) glyphs column (told words)) (same-typed (told words) line)
      (same-column (told words) line)
      ∙ ap (λ w. with_parts top (seen_in d e e.search_state) (typed_glyphs d e (told w) line) (typed_column d e (told w) line) (told w))
      (same-words e.prompt)

  -- and the cursor's column in an input line
  pub column_same : input_column d new ≡ input_column d e
  column_same =
      let line = input_line_of e in
      let told : List ℕ → List ℕ = λ words. status_text d e ++ words in
      ap (λ column. if nat_le 2 e.height then column else None) (same-column (told (prompt_words new e.prompt)) line)
      ∙ ap (λ w. if nat_le 2 e.height then typed_column d e (told w) line else None) (same-words e.prompt)

-- scrolling changes no row's look
pub top_unseen : (d : Data) (e : Editor) (shown top : ℕ) → picture d (with_top e shown) top ≡ picture d e top
top_unseen d e shown top = looks_same d e shown e.clipboard e.pasted e.quit_before e.goal e.soft e.typing e.clicks e.pressed top

-- nor does a clipboard
pub clipboard_unseen : (d : Data) (e : Editor) (clipboard : Bool) (top : ℕ) → picture d (record e { clipboard = clipboard }) top ≡ picture d e top
clipboard_unseen d e clipboard top = looks_same d e e.top clipboard e.pasted e.quit_before e.goal e.soft e.typing e.clicks e.pressed top

-- nor the cursor in an input line
pub input_unseen : (d : Data) (e : Editor) (shown : ℕ) (clipboard : Bool) → input_column d (record e { top = shown; clipboard = clipboard }) ≡ input_column d e
input_unseen d e shown clipboard = column_same d e shown clipboard e.pasted e.quit_before e.goal e.soft e.typing e.clicks e.pressed

-- the picture that was drawn from a top is that of the editor which shows it first
pub drawn_is : (d : Data) (e scrolled : Editor) (top : ℕ) (p : PictureState) → scrolled ≡ with_top e top → p ≡ picture d e top
    → p ≡ picture_of d scrolled
drawn_is d e scrolled top p same is = is ∙ sym (top_unseen d e top top) ∙ ap (picture_of d) (sym same)

-- and its cursor is on the cell of its place as before
pub stands_on : (d : Data) (e : Editor) (top : ℕ) (p : PictureState) → StandsOnItsCell d e top p → StandsOnItsCell d (with_top e top) top p
stands_on d e top p h = record { place = h.place; slot = h.slot; cell = h.cell; shown = h.shown; row = h.row; column = h.column }

-- ---- the first row

module _ (d : Data) (base : Base) (w : ℕ) (text : List ℕ) (some : 1 ≤ w) (utf8 : IsUtf8 text) where
  abbrev all : List TextRow
  all = text_rows d base w text

  one : 1 ≤ length all
  one =
      let few = rank-few 0 (map first all) in
      let first_one = text-rank d base w some text utf8 0 in
      omega (arith, few, first_one, length-map all first)

  first-at-0 : first (row_at all 0) ≡ 0
  first-at-0 =
      let here = rank-here 0 0 0 (map first all) _ 0 (rows-rise d base w some text utf8) (text-rank d base w some text utf8 0) in
      let same = get_or-map first all 0 no_text_row 0 one in
      omega (arith, here, same)

  row-of-0 : row_of all 0 ≡ 0
  row-of-0 = ap (row_of all) (sym first-at-0) ∙ falls-own all _ (rows-rise d base w some text utf8) 0 one

  pub start-stays : (t : ℕ) → 0 < t → follow all 0 0 t ≡ 0
  start-stays t high =
      let none : nearest_top 0 0 t ≡ 0 = omega (arith, high) in
      ap (λ k. first (row_at all (nearest_top k k t))) row-of-0 ∙ ap (λ k. first (row_at all k)) none ∙ first-at-0

some_rows : (height : ℕ) → 0 < text_height height
some_rows height = go (nat_le 2 height) refl
  where
    go : (b : Bool) → nat_le 2 height ≡ b → 0 < (if b then height - 1 else 1)
    go true high = let more = leb-true 2 height high in omega (arith, more)
    go false low = omega arith

left : (a b : Bool) → (a && b) ≡ true → a ≡ true
left true b h = refl
left false b h = absurd (cc h)

some_columns : (w : ℕ) → is_side w ≡ true → 1 ≤ w
some_columns w h = leb-true 1 w (left (nat_le 1 w) (nat_le w largest_side) h)

-- at opening the first row is first
pub opening_stays : (d : Data) (text : List ℕ) (height width : ℕ) (base : Base) → HasRows (at_start text height width base)
    → next_top d (at_start text height width base) 0 ≡ 0
opening_stays d text height width base has =
    start-stays d base width text (some_columns width has.columns) has.text (text_height height) (some_rows height)
