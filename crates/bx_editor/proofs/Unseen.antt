-- What a key changes that is not seen in the picture.
use Rattle.std.proofs.Common.{◌≡◌, ℕ, ◌-◌, Bool, List, ◌++◌, Option, refl, ap, ap₂, subst, sym, ◌∙◌, if◌then◌else◌}
use Rattle.std.specs.Prelude.{nat_le, [], Some, None, is_some, true, false, ◌&&◌}
use Rattle.bx_view.specs.TextRows.{cell_of, row_of}
use Rattle.bx_view.specs.Top.{shown_rows}
use Rattle.bx_grid.specs.Picture.{PictureState}
use Rattle.bx_rows.specs.RowPicture.{Glyph}
use Rattle.bx_ucd.specs.Data.{Data}
use Rattle.bx_editor.specs.declared.questions.answers.Prompt.{Prompt}
use Rattle.bx_editor.specs.declared.questions.answers.Prompt.TheVariants as prompts
use Rattle.bx_editor.specs.declared.undo_groups.typing.Typing.{Typing}
use Rattle.bx_editor.specs.declared.undo_groups.typing.Typing.TheVariants.{Paste}
use Rattle.bx_editor.specs.declared.search_state.SearchState.{SearchState}
use Rattle.bx_editor.specs.declared.search_state.SearchState.TheVariants as search_states
use Rattle.bx_editor.specs.declared.cursor.Soft.{Soft}
use Rattle.bx_view.specs.declared.moves.Goal.{Goal}
use Rattle.bx_editor.specs.declared.message.Message.TheVariants.{ViewOnly}
use Rattle.bx_editor.specs.Editor.{Editor, rows, text_height, unpressed, with_typing}
use Rattle.bx_keys.specs.declared.key.Key.TheVariants.{Insert, PasteStart}
use Rattle.bx_editor.specs.Keys.{after_press}
use Rattle.bx_editor.specs.PasteLaws.{PasteIsUnseen, LooksAs}
use Rattle.bx_editor.specs.InputLines.{input_line_of}
use Rattle.bx_editor.specs.Putting.{after_paste_start, after_pasted_letter, is_free, paste_begun, pasted_with, pastes_crlf, refuses_paste}
use Rattle.bx_document.specs.StatusRow.{with_some_end}
use Rattle.bx_editor.specs.Picture.{blank_picture, region_rows, with_cursor}
use Rattle.bx_editor.specs.Replacing.{found_here, match_or_region, seen_in}
use Rattle.bx_editor.specs.Region.{aged}
use Rattle.bx_editor.specs.Status.{glyph_row, is_rtl, letter_glyphs, name_end, prompt_words, status_text, typed_column, typed_glyphs}

-- an editor with other values of what is not seen
abbrev with_unseen : Editor → Option (List ℕ) → Bool → Option Goal → Soft → Typing → Editor
with_unseen e pasted quit_before goal soft typing = record e {
  pasted = pasted;
  quit_before = quit_before;
  goal = goal;
  soft = soft;
  typing = typing;
  clicks = None;
  pressed = None;
}

module _ (d : Data) (e : Editor) (pasted : Option (List ℕ)) (quit_before : Bool) (goal : Option Goal) (soft : Soft) (typing : Typing) where
  abbrev new : Editor
  new = with_unseen e pasted quit_before goal soft typing

  same-found : (at : Option ℕ) → match_or_region d new at ≡ match_or_region d e at
  same-found None = refl
  same-found (Some at) = refl

  same-part : (search_state : SearchState) → seen_in d new search_state ≡ seen_in d e search_state
  same-part search_states.Off = refl
  same-part search_states.Begun = refl
  same-part search_states.Typed = same-found (found_here d e)
  same-part search_states.WithBegun = same-found (found_here d e)
  same-part search_states.WithTyped = same-found (found_here d e)
  same-part search_states.Replacing = refl

  same-words : (prompt : Prompt) → prompt_words new prompt ≡ prompt_words e prompt
  same-words prompts.Off = refl
  same-words prompts.Line = refl
  same-words prompts.Name = refl
  same-words prompts.Code = refl
  same-words prompts.File = refl
  same-words prompts.Overwrite = refl

  same-typed : (text : List ℕ) (line : Option (List ℕ)) → typed_glyphs d new text line ≡ typed_glyphs d e text line
  same-typed text None = refl
  same-typed text (Some line) = refl

  same-column : (text : List ℕ) (line : Option (List ℕ)) → typed_column d new text line ≡ typed_column d e text line
  same-column text None = refl
  same-column text (Some line) = refl

  -- the picture with this part of the text in the other rendition, and these words, what is typed behind them, and the cursor there
  abbrev with_parts : ℕ → ℕ × ℕ → List Glyph → Option ℕ → List ℕ → PictureState
  with_parts top part typed column text =
      if e.ended
      then blank_picture e.height e.width
      else with_cursor (if nat_le 2 e.height then column else None) (record {
        height = e.height;
        width = e.width;
        columns = region_rows d e.width part (text_height e.height) (shown_rows (rows d e) top (text_height e.height))
            ++ (if nat_le 2 e.height
            then glyph_row e.width (with_some_end e.width (letter_glyphs text ++ typed) (name_end d (is_rtl d e) e.name))
            else []);
        row = row_of (rows d e) e.place - row_of (rows d e) top;
        column = cell_of e.width (rows d e) e.place - 1;
      })

  looks-same : LooksAs d e new
  looks-same =
      let line = input_line_of e in
      let told : List ℕ → List ℕ = λ words. status_text d e ++ words in
      let words = prompt_words new e.prompt in
      record {
        top = λ top. refl;
        same = λ top. ap (λ part. with_parts top part (typed_glyphs d new (told words) line) (typed_column d new (told words) line) (told words))
            (same-part e.search_state)
            ∙ ap₂ (λ glyphs column. with_parts top (seen_in d e e.search_state) glyphs column (told words)) (same-typed (told words) line)
            (same-column (told words) line)
            ∙ ap (λ w. with_parts top (seen_in d e e.search_state) (typed_glyphs d e (told w) line) (typed_column d e (told w) line) (told w))
            (same-words e.prompt);
      }

pub letter-unseen : (d : Data) (e : Editor) (c : ℕ) → LooksAs d e (after_pasted_letter d e c)
letter-unseen d e c = looks-same d e (pasted_with (pastes_crlf d e.content.text c) e.pasted c) false None (aged e.soft) e.typing

pub begun-unseen : (e : Editor) (prompt : Prompt) (search_state : SearchState) (list : List ℕ) → paste_begun prompt search_state (Some list) e ≡ e
begun-unseen e prompts.Off search_states.Off list = refl
begun-unseen e prompts.Off search_states.Begun list = refl
begun-unseen e prompts.Off search_states.Typed list = refl
begun-unseen e prompts.Off search_states.WithBegun list = refl
begun-unseen e prompts.Off search_states.WithTyped list = refl
begun-unseen e prompts.Off search_states.Replacing list = refl
begun-unseen e prompts.Line search_state list = refl
begun-unseen e prompts.Name search_state list = refl
begun-unseen e prompts.Code search_state list = refl
begun-unseen e prompts.File search_state list = refl
begun-unseen e prompts.Overwrite search_state list = refl

none-free : (prompt : Prompt) (search_state : SearchState) (list : List ℕ) → is_free prompt search_state (Some list) ≡ false
none-free prompts.Off search_states.Off list = refl
none-free prompts.Off search_states.Begun list = refl
none-free prompts.Off search_states.Typed list = refl
none-free prompts.Off search_states.WithBegun list = refl
none-free prompts.Off search_states.WithTyped list = refl
none-free prompts.Off search_states.Replacing list = refl
none-free prompts.Line search_state list = refl
none-free prompts.Name search_state list = refl
none-free prompts.Code search_state list = refl
none-free prompts.File search_state list = refl
none-free prompts.Overwrite search_state list = refl

-- no paste is refused while one is under way
pub unrefused : (e : Editor) (list : List ℕ) → e.pasted ≡ Some list → refuses_paste e ≡ false
unrefused e list is =
    ap (λ pasted. e.read_only && is_free e.prompt e.search_state pasted) is ∙ ap (λ b. e.read_only && b) (none-free e.prompt e.search_state list)
    ∙ none (e.read_only)
  where
    none : (b : Bool) → (b && false) ≡ false
    none true = refl
    none false = refl

-- what PasteStart leaves, by whether it is refused
abbrev started : Editor → Bool → Editor
started e refused =
    if refused
    then unpressed (record e { message = Some ViewOnly })
    else unpressed (with_typing (paste_begun e.prompt e.search_state e.pasted e) Paste)

pub start-unseen : (d : Data) (e : Editor) (pasted : Option (List ℕ)) → e.pasted ≡ pasted → is_some pasted ≡ true
    → LooksAs d e (after_paste_start e)
start-unseen d e None is some = absurd (cc some)
start-unseen d e (Some list) is some =
    let same : paste_begun e.prompt e.search_state e.pasted e ≡ e = ap (λ pasted. paste_begun e.prompt e.search_state pasted e) is ∙ begun-unseen e e.prompt e.search_state list in
    subst (λ refused. LooksAs d e (started e refused)) (sym (unrefused e list is))
    (subst (λ (x : Editor). LooksAs d e (unpressed (with_typing x Paste))) (sym same) (looks-same d e e.pasted e.quit_before e.goal e.soft Paste))

by-press : (d : Data) (e : Editor) (pasted : Option (List ℕ)) (c : ℕ) → is_some pasted ≡ true → after_press d None pasted e (Insert c) ≡ after_pasted_letter d e c
by-press d e None c some = absurd (cc some)
by-press d e (Some list) c some = refl

both : (b c : Bool) → (b && c) ≡ true → (b ≡ true) × (c ≡ true)
both true true h = (refl, refl)
both true false h = absurd (cc h)
both false c h = absurd (cc h)

pub paste-is-unseen : PasteIsUnseen
paste-is-unseen d e (Insert c) h = subst (LooksAs d e) (sym (by-press d e e.pasted c (both (is_some e.pasted) true h).0)) (letter-unseen d e c)
paste-is-unseen d e PasteStart h = start-unseen d e e.pasted refl (both (is_some e.pasted) true h).0
paste-is-unseen d e key h = absurd (cc ((both (is_some e.pasted) false h).1))
