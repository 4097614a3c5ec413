-- A key keeps the window's size, unless it tells one, and the row shown first; and only a Quit ends a session.
use Rattle.std.proofs.Common.{◌≡◌, ℕ, ◌+◌, Bool, true, false, List, [], ◌∷◌, ◌++◌, Option, Some, None, refl, sym, ap, subst, ◌∙◌, if◌then◌else◌}
use Rattle.std.specs.Prelude.{not, ◌||◌, ◌==◌, encode_utf8, length, min, nat_le, replicate}
use Rattle.bx_text.specs.declared.change.Change.{Change}
use Rattle.bx_text.specs.Edits.{Edit, fits}
use Rattle.bx_keys.specs.declared.key.Key.{Key}
use Rattle.bx_keys.specs.declared.key.Key.TheVariants.{Quit, Size, PasteStart, PasteEnd}
use Rattle.bx_grid.specs.Picture.{PictureState}
use Rattle.bx_store.specs.declared.store.StoreFault.{StoreFault}
use Rattle.bx_ucd.specs.Data.{Data}
use Rattle.bx_document.specs.History.{next_changes}
use Rattle.bx_document.specs.declared.history.HistoryStep.{HistoryStep}
use Rattle.bx_document.specs.declared.history.HistoryStep.TheVariants as history
use Rattle.bx_view.specs.Moves.{row_home}
use Rattle.bx_view.specs.declared.moves.Vertical.{Vertical}
use Rattle.bx_editor.specs.declared.answer.Answer.{Answer}
use Rattle.bx_editor.specs.declared.answer.Answer.TheVariants as answers
use Rattle.bx_editor.specs.declared.questions.answers.Prompt.{Prompt}
use Rattle.bx_editor.specs.declared.questions.answers.Prompt.TheVariants as prompts
use Rattle.bx_editor.specs.declared.undo_groups.typing.Kind.{Kind}
use Rattle.bx_editor.specs.declared.undo_groups.typing.Kind.TheVariants.{Blank, Separator}
use Rattle.bx_editor.specs.declared.undo_groups.typing.Removal.{Removal}
use Rattle.bx_editor.specs.declared.undo_groups.typing.Typing.{Typing}
use Rattle.bx_editor.specs.undo_groups.Groups.{goes_on, kind_of}
use Rattle.bx_editor.specs.declared.search_state.SearchState.{SearchState}
use Rattle.bx_editor.specs.declared.search_state.SearchState.TheVariants.{Off, Begun, Typed, WithBegun, WithTyped, Replacing}
use Rattle.bx_editor.specs.declared.clicks.Extent.{Extent}
use Rattle.bx_editor.specs.declared.clicks.Extent.TheVariants as extents
use Rattle.bx_editor.specs.declared.clicks.Pressed.{Pressed}
use Rattle.bx_editor.specs.declared.cursor.Soft.{Soft}
use Rattle.bx_editor.specs.declared.cursor.Soft.TheVariants as softness
use Rattle.bx_editor.specs.Answering.{answer_of, without_line}
use Rattle.bx_editor.specs.Asking.{without_prompt}
use Rattle.bx_editor.specs.Before.{Before, before}
use Rattle.bx_editor.specs.Editor.{Editor, after_quit, after_redo, after_step, after_undo, cleared, by_group, group_length, rows, text_height}
use Rattle.bx_editor.specs.Effects.{Effect, Types, BeginsLine, Puts, Removes, RemovesWord, Steps, StepsGroup, Goes, GoesToRowEnd, GoesByRows, Clicks, Drags}
use Rattle.bx_editor.specs.Effects.{Wheels, Marks, Selects, SelectsAll, Unmarks, Copies, Cuts, Seeks, SeeksNext, SeeksPrevious, Saves, Quits, Turns, Helps}
use Rattle.bx_editor.specs.Effects.{AsksLine, AsksName, AsksFile, AsksOverwrite, Tells, Refuses, Rests, by}
use Rattle.bx_editor.specs.Erasing.{after_erasing, after_erasing_word, after_removing, or_selection, removed_on}
use Rattle.bx_editor.specs.Keys.{after_any, after_key, after_press, after_pressing, after_user, allowed_effect}
use Rattle.bx_editor.specs.Keys.{answered, answered_match, answered_name, answered_overwrite, answered_question, answered_replacement, as_left, asks_for_whole}
use Rattle.bx_editor.specs.Keys.{refuses_replacing}
use Rattle.bx_editor.specs.Functions.{is_size_key}
use Rattle.bx_editor.specs.LinePuts.{after_line_put, typed_in}
use Rattle.bx_editor.specs.Pointing.{after_drag, after_point, dragged_to, part_at, pointed_place, press_extent, pressed_at, pressing_with, rests_on_unit}
use Rattle.bx_editor.specs.Pointing.{with_word}
use Rattle.bx_editor.specs.Putting.{after_paste_end, after_paste_start, ended_with, paste_ended, without_paste, after_character, after_new_line, after_put}
use Rattle.bx_editor.specs.Putting.{after_tab, as_line, has_room, is_paste, new_indent, new_line_end, put_in, put_line, puts_line, spaces_on, typed, units_in_line, yielding}
use Rattle.bx_editor.specs.Region.{after_copy, after_cut, after_mark, is_at_mark, is_empty, is_selection, is_soft, line, region, selecting, taken, unselected}
use Rattle.bx_editor.specs.RowMoves.{after_wheel, shows_place, wheel_top}
use Rattle.bx_editor.specs.Saving.{after_save, after_saving, is_changed, is_nameless}
use Rattle.bx_editor.specs.Search.{sought, without_search}
use Rattle.bx_editor.proofs.EffectsKept.{IsKeptPasting, pasted-letter-keeps, start-keeps}
use Rattle.bx_editor.proofs.InSearch.{each-key, press-keeps}
use Rattle.bx_editor.proofs.LinePutsKept.{line-put-keeps}
use Rattle.bx_editor.proofs.QuestionSteps as questions
use Rattle.bx_editor.proofs.Saved as saved
use Rattle.bx_editor.proofs.Searches as searches
use Rattle.bx_session.specs.Painting.{FitsEditor}
use Rattle.bx_session.specs.Parts.{is_quit}
use Rattle.bx_session.proofs.KeyKinds.{is_quitting, quit_kind}

abbrev pub SameSize : Editor → Editor → Type 0
SameSize e new = (new.height ≡ e.height) × (new.width ≡ e.width)

-- the size, the row shown first, what a paste has brought, and unless the key is Quit, whether the session has ended
record Part : Type 0 where
  pub height : ℕ
  pub width : ℕ
  pub top : ℕ
  pub pasted : Option (List ℕ)
  pub ended : Bool

abbrev part : Key → Editor → Part
part key e = record { height = e.height; width = e.width; top = e.top; pasted = e.pasted; ended = is_quit (Some key) || e.ended }

-- the same without the paste, which some keys begin or end
record Frame : Type 0 where
  pub height : ℕ
  pub width : ℕ
  pub top : ℕ
  pub ended : Bool

abbrev frame_of : Part → Frame
frame_of p = record { height = p.height; width = p.width; top = p.top; ended = p.ended }

abbrev frame : Key → Editor → Frame
frame key e = frame_of (part key e)

module _ (key : Key) where
  abbrev Keeps : Editor → Editor → Type 0
  Keeps e new = part key new ≡ part key e

  kept_if : (g : Bool) (e a b : Editor) → Keeps e a → Keeps e b → Keeps e (if g then a else b)
  kept_if true e a b x y = x
  kept_if false e a b x y = y

  -- ---- edits

  put_in_kept : (d : Data) (e : Editor) (new : List ℕ) (on : Bool) → Keeps e (put_in d e new on)
  put_in_kept d e new on = kept_if (has_room e new) e _ _ (kept_if (is_selection e) e _ _ refl refl) refl

  typed_kept : (d : Data) (typing : Typing) (e : Editor) (new : List ℕ) (kind : Kind) → Keeps e (typed d typing e new kind)
  typed_kept d typing e new kind = put_in_kept d e new (goes_on typing kind)

  new_line_kept : (d : Data) (typing : Typing) (e : Editor) → Keeps e (after_new_line d typing e)
  new_line_kept d typing e = typed_kept d typing e (new_line_end d e ++ new_indent d e) Separator

  plain_kept : (d : Data) (typing : Typing) (e : Editor) (c : ℕ) → Keeps e (typed d typing e (encode_utf8 c) (kind_of (d.class c)))
  plain_kept d typing e c = typed_kept d typing e (encode_utf8 c) (kind_of (d.class c))

  tab_kept : (d : Data) (typing : Typing) (e : Editor) → Keeps e (after_tab d typing e)
  tab_kept d typing e =
      kept_if (e.tab_width == 0) e _ _ (plain_kept d typing e 0x9)
      (typed_kept d typing e (replicate (spaces_on e.tab_width (units_in_line d e (yielding e).0)) 0x20) Blank)

  character_kept : (d : Data) (typing : Typing) (e : Editor) (c : ℕ) → Keeps e (after_character d typing e c)
  character_kept d typing e c = kept_if (c == 0x9) e _ _ (tab_kept d typing e) (plain_kept d typing e c)

  put_line_kept : (d : Data) (e : Editor) (new : List ℕ) → Keeps e (put_line d e new)
  put_line_kept d e new = kept_if (fits e.content.text (line d e).0 (line d e).0 new) e _ _ refl refl

  put_kept : (d : Data) (e : Editor) → Keeps e (after_put d e)
  put_kept d e =
      kept_if (length e.held == 0) e _ _ refl (kept_if (puts_line e) e _ _ (put_line_kept d e (as_line d e e.held)) (put_in_kept d e e.held false))

  selection_kept : (d : Data) (e other : Editor) → Keeps e other → Keeps e (or_selection d e other)
  selection_kept d e other h = kept_if (is_selection e) e _ _ refl h

  erasing_kept : (d : Data) (typing : Typing) (how : Removal) (e : Editor) (start stop : ℕ) → Keeps e (after_erasing d typing how e start stop)
  erasing_kept d typing how e start stop =
      selection_kept d e (removed_on d typing how e start stop) (kept_if (start == stop) e _ _ refl refl)

  word_kept : (d : Data) (e : Editor) (start stop : ℕ) → Keeps e (after_erasing_word d e start stop)
  word_kept d e start stop = selection_kept d e (after_removing d e start stop false) (kept_if (start == stop) e _ _ refl refl)

  undo_kept : (e : Editor) (past : List Edit) → Keeps e (after_undo e past)
  undo_kept e [] = refl
  undo_kept e (edit ∷ past) = refl

  redo_kept : (e : Editor) (future : List Edit) → Keeps e (after_redo e future)
  redo_kept e [] = refl
  redo_kept e (edit ∷ future) = refl

  step_kept : (step : HistoryStep) (e : Editor) → Keeps e (after_step step e)
  step_kept history.Undo e = undo_kept e e.content.past
  step_kept history.Redo e = redo_kept e e.content.future

  run_kept : (step : HistoryStep) (e : Editor) (change : Option Change) → Keeps e (by_group step e change)
  run_kept step e None = refl
  run_kept step e (Some change) = refl

  -- ---- clicks, drags and the wheel

  pressing_kept : (d : Data) (e : Editor) (row column place : ℕ) (soft : Soft) → Keeps e (pressing_with d e row column place soft)
  pressing_kept d e row column place softness.Fresh = refl
  pressing_kept d e row column place softness.Off = refl
  pressing_kept d e row column place softness.Old = refl

  word_part_kept : (e : Editor) (place : ℕ × ℕ) → Keeps e (with_word e place)
  word_part_kept e place = kept_if (is_empty place) e _ _ refl refl

  pressed_kept : (d : Data) (e : Editor) (row column place : ℕ) (extent : Extent) → Keeps e (pressed_at d e row column place extent)
  pressed_kept d e row column place extents.Unit = pressing_kept d e row column place e.soft
  pressed_kept d e row column place extents.Word = word_part_kept e (part_at d e extents.Word place)
  pressed_kept d e row column place extents.Paragraph = refl

  point_kept : (d : Data) (e : Editor) (row column : ℕ) → Keeps e (after_point d e row column)
  point_kept d e row column =
      kept_if (nat_le row (text_height e.height)) e _ _
      (pressed_kept d e row column (pointed_place d e row column) (press_extent e.clicks row column)) refl

  dragged_kept : (e : Editor) (pressed : Pressed) (to : ℕ × ℕ) → Keeps e (dragged_to e pressed to)
  dragged_kept e pressed to = kept_if (rests_on_unit e pressed to) e _ _ refl (kept_if (nat_le pressed.start to.0) e _ _ refl refl)

  drag_kept : (d : Data) (e : Editor) (row column : ℕ) (pressed : Option Pressed) → Keeps e (after_drag d e row column pressed)
  drag_kept d e row column None = point_kept d e row column
  drag_kept d e row column (Some pressed) =
      dragged_kept e pressed (part_at d e pressed.extent (pointed_place d e (min row (text_height e.height + 1)) column))

  wheel_kept : (d : Data) (was : Before) (e : Editor) (way : Vertical) → Keeps e (after_wheel d was e way)
  wheel_kept d was e way =
      let top = wheel_top d e way in
      kept_if (shows_place d e top) e _ _ (kept_if (top == row_home (rows d e) e.top) e _ _ refl refl) refl

  -- ---- the other effects

  select_kept : (e : Editor) (mark : Option ℕ) (soft : Soft) → Keeps e (selecting e mark soft)
  select_kept e None soft = refl
  select_kept e (Some mark) softness.Off = refl
  select_kept e (Some mark) softness.Fresh = refl
  select_kept e (Some mark) softness.Old = refl

  save_kept : (e : Editor) (fault : Option StoreFault) → Keeps e (after_save e fault)
  save_kept e None = refl
  save_kept e (Some fault) = kept_if (is_changed fault.cause) e _ _ refl refl

  saving_kept : (e : Editor) (fault : Option StoreFault) → Keeps e (after_saving fault e)
  saving_kept e fault = kept_if (is_nameless e) e _ _ refl (save_kept e fault)

  either_end : (quits now was : Bool) → quits ≡ true → (quits || now) ≡ (quits || was)
  either_end true now was h = refl
  either_end false now was h = absurd (cc h)

  quit_kept : (e : Editor) (again : Bool) → is_quit (Some key) ≡ true → Keeps e (after_quit e again)
  quit_kept e again quits =
      kept_if (not e.changed || again) e _ _
      (ap (λ (ended : Bool). record (part key e) { ended = ended }) (either_end (is_quit (Some key)) true e.ended quits)) refl

  mark_kept : (e : Editor) → Keeps e (after_mark e)
  mark_kept e = kept_if (is_at_mark e.mark e.place) e _ _ refl refl

  held_kept : (e : Editor) → Keeps e (if is_soft e.soft then e else record e { mark = None; soft = softness.Off })
  held_kept e = kept_if (is_soft e.soft) e _ _ refl refl

  copy_kept : (d : Data) (e : Editor) → Keeps e (after_copy d e)
  copy_kept d e =
      kept_if (is_empty (region e)) e _ _ (kept_if (is_empty (line d e)) e _ _ (held_kept e) (held_kept e)) (held_kept e)

  cut_kept : (d : Data) (e : Editor) → Keeps e (after_cut d e)
  cut_kept d e = kept_if (is_empty (taken d e)) e _ _ (copy_kept d e) refl

  -- ---- a key

  by_kept : (d : Data) (fault : Option StoreFault) (was : Before) (e : Editor) (effect : Effect) → is_quitting effect ≡ is_quit (Some key)
      → Keeps e (by d fault was e effect)
  by_kept d fault was e (Types c) is = character_kept d was.typing e c
  by_kept d fault was e BeginsLine is = new_line_kept d was.typing e
  by_kept d fault was e Puts is = put_kept d e
  by_kept d fault was e (Removes how start stop) is = erasing_kept d was.typing how e start stop
  by_kept d fault was e (RemovesWord start stop) is = word_kept d e start stop
  by_kept d fault was e (Steps step) is = step_kept step e
  by_kept d fault was e (StepsGroup step) is = run_kept step e (next_changes step (group_length step e) e.content)
  by_kept d fault was e (Goes place) is = refl
  by_kept d fault was e (GoesToRowEnd place) is = refl
  by_kept d fault was e (GoesByRows way n) is = refl
  by_kept d fault was e (Clicks row column) is = point_kept d e row column
  by_kept d fault was e (Drags row column) is = drag_kept d e row column e.pressed
  by_kept d fault was e (Wheels way) is = wheel_kept d was e way
  by_kept d fault was e Marks is = mark_kept e
  by_kept d fault was e Selects is = select_kept e e.mark e.soft
  by_kept d fault was e SelectsAll is = refl
  by_kept d fault was e Unmarks is = refl
  by_kept d fault was e Copies is = copy_kept d e
  by_kept d fault was e Cuts is = cut_kept d e
  by_kept d fault was e (Seeks purpose) is = refl
  by_kept d fault was e SeeksNext is = kept_if (length (sought d (unselected e)) == 0) e _ _ refl refl
  by_kept d fault was e SeeksPrevious is = kept_if (length (sought d (unselected e)) == 0) e _ _ refl refl
  by_kept d fault was e Saves is = saving_kept e fault
  by_kept d fault was e Quits is = quit_kept e was.again (sym is)
  by_kept d fault was e Turns is = refl
  by_kept d fault was e Helps is = refl
  by_kept d fault was e AsksLine is = refl
  by_kept d fault was e AsksName is = refl
  by_kept d fault was e AsksFile is = refl
  by_kept d fault was e AsksOverwrite is = refl
  by_kept d fault was e Tells is = refl
  by_kept d fault was e Refuses is = refl
  by_kept d fault was e Rests is = refl

  pressing : (d : Data) (fault : Option StoreFault) (was : Before) (e : Editor) → Keeps e (after_pressing d fault was e key)
  pressing d fault was e = by_kept d fault was e (allowed_effect d e key) (quit_kind d e key)

  -- in a search
  seeking : (d : Data) (e : Editor) → searches.IsKeptSeeking d (Keeps e)
  seeking d e = record {
    exchanged = λ x start stop new h. h;
    told = λ x message h. h;
    placed = λ x place h. h;
    typed = λ x typing h. h;
    sought = λ x search_state purpose origin query other at count cursor h. h;
  }

  -- in a question
  saving : (e : Editor) → saved.IsKeptSaving (Keeps e)
  saving e = record {
    stored = λ x stored changed home message h. h;
    asked = λ x prompt answer cursor h. h;
    named = λ x name answer h. h;
  }

  asking : (d : Data) (e : Editor) → questions.IsKept d (Keeps e)
  asking d e = record {
    inserted = λ x new h. h;
    wrapped = λ x opener closer h. h;
    told = λ x message h. h;
    placed = λ x place h. h;
    typed = λ x typing h. h;
    asked = λ x prompt answer cursor h. h;
    unasked = λ x h. h;
    moved = λ x text m h. h;
    saved = λ fault x h. saved.naming-keeps (Keeps e) (saving e) fault x h;
  }

  -- the held text in an input line
  typed_by : (d : Data) (from : Editor) (prompt : Prompt) (search_state : SearchState) (e : Editor) (c : ℕ) → Keeps from e
      → Keeps from (typed_in d prompt search_state e c)
  typed_by d from prompts.Off search_state e c h = searches.typed-in-search d (Keeps from) (seeking d from) search_state e c h
  typed_by d from prompts.Line search_state e c h = questions.letter-keeps d (Keeps from) (asking d from) None prompts.Line e c h
  typed_by d from prompts.Name search_state e c h = questions.letter-keeps d (Keeps from) (asking d from) None prompts.Name e c h
  typed_by d from prompts.Code search_state e c h = questions.letter-keeps d (Keeps from) (asking d from) None prompts.Code e c h
  typed_by d from prompts.File search_state e c h = questions.letter-keeps d (Keeps from) (asking d from) None prompts.File e c h
  typed_by d from prompts.Overwrite search_state e c h = questions.letter-keeps d (Keeps from) (asking d from) None prompts.Overwrite e c h

  line_put_kept : (d : Data) (e : Editor) → Keeps e (after_line_put d e)
  line_put_kept d e =
      line-put-keeps d (Keeps e)
      (record { cleared = λ x h. h; told = λ x h. h; typed = λ x c h. typed_by d e x.prompt x.search_state x c h }) e refl

  -- by what is asked and sought
  query_kept : (d : Data) (fault : Option StoreFault) (was : Before) (e : Editor) (one : Answer) → Keeps e (answered d fault was e key one)
  query_kept d fault was e one =
      searches.query-keeps d (Keeps e) (seeking d e) fault was e key one refl (λ ends. pressing d fault was (without_search e))
      (wheel_kept d was e) (line_put_kept d e)

  replacement_kept : (d : Data) (fault : Option StoreFault) (was : Before) (e : Editor) (one : Answer) → Keeps e (answered_replacement d fault was e key one)
  replacement_kept d fault was e one =
      searches.replacement-keeps d (Keeps e) (seeking d e) fault was e key one refl refl (λ ends. pressing d fault was (without_search e))
      (wheel_kept d was e) (line_put_kept d e)

  match_kept : (d : Data) (fault : Option StoreFault) (was : Before) (e : Editor) (one : Answer) → Keeps e (answered_match d fault was e key one)
  match_kept d fault was e one =
      searches.match-keeps d (Keeps e) (seeking d e) fault was e key one refl refl (λ ends. pressing d fault was (without_search e))
      (wheel_kept d was e)

  question_kept : (d : Data) (fault : Option StoreFault) (was : Before) (e : Editor) (one : Answer) → Keeps e (answered_question d fault was e key one)
  question_kept d fault was e one =
      questions.question-keeps d (Keeps e) (asking d e) fault was e key one refl (pressing d fault was (without_prompt e)) (wheel_kept d was e)
      (line_put_kept d e)

  name_kept : (d : Data) (fault : Option StoreFault) (was : Before) (e : Editor) (one : Answer) → Keeps e (answered_name d fault was e key one)
  name_kept d fault was e one =
      questions.name-keeps d (Keeps e) (asking d e) fault was e key one refl (pressing d fault was (without_prompt e)) (wheel_kept d was e)

  overwrite_kept : (fault : Option StoreFault) (was : Before) (e : Editor) (one : Answer) → Keeps e (answered_overwrite fault was e one)
  overwrite_kept fault was e (answers.Letter c) =
      kept_if (is_paste was.typing) e _ _ refl (saved.deciding-keeps (Keeps e) (saving e) fault (without_prompt e) c refl)
  overwrite_kept fault was e answers.Stays = refl
  overwrite_kept fault was e one = refl

  any_kept : (d : Data) (fault : Option StoreFault) (was : Before) (prompt : Prompt) (search_state : SearchState) (e : Editor)
      → Keeps e (after_any d fault was prompt search_state e key)
  any_kept d fault was prompts.Off Off e = pressing d fault was e
  any_kept d fault was prompts.Off Begun e = query_kept d fault was e (answer_of key)
  any_kept d fault was prompts.Off Typed e = query_kept d fault was e (answer_of key)
  any_kept d fault was prompts.Off WithBegun e = replacement_kept d fault was e (answer_of key)
  any_kept d fault was prompts.Off WithTyped e = replacement_kept d fault was e (answer_of key)
  any_kept d fault was prompts.Off Replacing e = match_kept d fault was e (without_line (answer_of key))
  any_kept d fault was prompts.Line search_state e = question_kept d fault was e (answer_of key)
  any_kept d fault was prompts.Name search_state e = name_kept d fault was e (without_line (answer_of key))
  any_kept d fault was prompts.Code search_state e = question_kept d fault was e (answer_of key)
  any_kept d fault was prompts.File search_state e = question_kept d fault was e (answer_of key)
  any_kept d fault was prompts.Overwrite search_state e = overwrite_kept fault was e (answer_of key)

  user_kept : (d : Data) (fault : Option StoreFault) (e : Editor) → Keeps e (after_user d fault e key)
  user_kept d fault e =
      kept_if (refuses_replacing e key) e (by d fault (before e) (cleared e) Refuses)
      (after_any d fault (before e) e.prompt e.search_state (cleared e) key) refl
      (any_kept d fault (before e) e.prompt e.search_state (cleared e))

  -- ---- a paste

  abbrev Stays : Editor → Editor → Type 0
  Stays e new = frame key new ≡ frame key e

  stays_if : (g : Bool) (e a b : Editor) → Stays e a → Stays e b → Stays e (if g then a else b)
  stays_if true e a b x y = x
  stays_if false e a b x y = y

  pasting_stays : (e : Editor) → IsKeptPasting (Stays e)
  pasting_stays e = record { pasted = λ x pasted message typing h. h; lengthened = λ x pasted soft h. h; unpressed = λ x h. h }

  ended_with_stays : (d : Data) (e : Editor) (pasted : Option (List ℕ)) → Stays e (ended_with d e pasted)
  ended_with_stays d e None = refl
  ended_with_stays d e (Some list) =
      let left : Editor = without_paste e in stays_if (length list == 0) e _ _ refl (ap frame_of (put_in_kept d left list false))

  pub ended_stays : (d : Data) (e : Editor) → Stays e (paste_ended d e)
  ended_stays d e = ended_with_stays d e e.pasted

  press_stays : (d : Data) (fault : Option StoreFault) (e : Editor) → Stays e (after_press d fault e.pasted e key)
  press_stays d fault e =
      press-keeps d fault e (Stays e) key (λ x h. ap frame_of (user_kept d fault x) ∙ h) (λ x h. ended_stays d x ∙ h)
      (λ c. pasted-letter-keeps (Stays e) (pasting_stays e) d e c refl) refl

  start_stays : (e : Editor) → Stays e (after_paste_start e)
  start_stays e = start-keeps (Stays e) (pasting_stays e) e refl

  end_stays : (d : Data) (e : Editor) → Stays e (after_paste_end d e)
  end_stays d e = ended_stays d e

-- no key that the user presses begins a paste
pub user_pasted : (d : Data) (fault : Option StoreFault) (e : Editor) (key : Key) → (after_user d fault e key).pasted ≡ e.pasted
user_pasted d fault e key = ap (λ (p : Part). p.pasted) (user_kept key d fault e)

-- ---- told keys too

same_size : (key : Key) (e new : Editor) → frame key new ≡ frame key e → SameSize e new
same_size key e new h = (ap (λ (p : Frame). p.height) h, ap (λ (p : Frame). p.width) h)

key_size : (d : Data) (fault : Option StoreFault) (e : Editor) (P : Key → Type 0) → ((height width : ℕ) → P (Size height width) → ⊥) → (key : Key) → P key
    → SameSize e (after_key d fault e key)
key_size d fault e P none =
    each-key d fault e (λ k new. P k → SameSize e new) (λ height width told. absurd (none height width told)) (λ notice told. (refl, refl))
    (λ told. (refl, refl))
    (λ told. same_size PasteStart e (after_paste_start e) (start_stays PasteStart e), λ told. same_size PasteEnd e (after_paste_end d e) (end_stays PasteEnd d e))
    (λ k other told. same_size k e (after_press d fault e.pasted e k) (press_stays k d fault e))

pub other_size : (d : Data) (fault : Option StoreFault) (e : Editor) (key : Key) → is_size_key key ≡ false → SameSize e (after_key d fault e key)
other_size d fault e = key_size d fault e (λ key. is_size_key key ≡ false) (λ height width told. cc told)

pub fits_still : (painted : Option PictureState) (e new : Editor) → SameSize e new → FitsEditor painted e → FitsEditor painted new
fits_still None e new same was = tt
fits_still (Some p) e new same was = (was.0 ∙ sym same.0, was.1 ∙ sym same.1)

-- so a painted picture fits as before
pub still_fits : (d : Data) (fault : Option StoreFault) (painted : Option PictureState) (e new : Editor) (key : Key) → asks_for_whole key ≡ false
    → new ≡ after_key d fault e key → FitsEditor painted e → FitsEditor painted new
still_fits d fault painted e new key told is was =
    fits_still painted e new (subst (SameSize e) (sym is) (key_size d fault e (λ k. asks_for_whole k ≡ false) (λ height width sized. cc sized) key told)) was

-- ---- the row shown first, which only a painting moves

pub key_top : (d : Data) (fault : Option StoreFault) (e : Editor) (key : Key) → (after_key d fault e key).top ≡ e.top
key_top d fault e =
    each-key d fault e (λ k new. new.top ≡ e.top) (λ height width. refl) (λ notice. refl) refl
    (ap (λ (p : Frame). p.top) (start_stays PasteStart e), ap (λ (p : Frame). p.top) (end_stays PasteEnd d e))
    (λ k other. ap (λ (p : Frame). p.top) (press_stays k d fault e))

pub ended_top : (d : Data) (e : Editor) → (paste_ended d e).top ≡ e.top
ended_top d e = ap (λ (p : Frame). p.top) (ended_stays PasteEnd d e)

-- ---- only a Quit ends a session

unless_quit : (quits now was : Bool) → quits ≡ false → (quits || now) ≡ (quits || was) → now ≡ was
unless_quit true now was other h = absurd (cc other)
unless_quit false now was other h = h

pub key_goes_on : (d : Data) (fault : Option StoreFault) (e : Editor) (key : Key) → is_quit (Some key) ≡ false → (after_key d fault e key).ended ≡ e.ended
key_goes_on d fault e =
    each-key d fault e (λ k new. is_quit (Some k) ≡ false → new.ended ≡ e.ended) (λ height width on. refl) (λ notice on. refl) (λ on. refl)
    (λ on. ap (λ (p : Frame). p.ended) (start_stays PasteStart e), λ on. ap (λ (p : Frame). p.ended) (end_stays PasteEnd d e))
    (λ k other on. unless_quit (is_quit (Some k)) _ e.ended on (ap (λ (p : Frame). p.ended) (press_stays k d fault e)))

-- nor does the end of a paste
pub ended_goes_on : (d : Data) (e : Editor) → ((paste_ended d e).ended ≡ e.ended) × SameSize e (paste_ended d e)
ended_goes_on d e =
    let kept = ended_stays PasteEnd d e in (ap (λ (p : Frame). p.ended) kept, same_size PasteEnd e (paste_ended d e) kept)

-- what a Quit does does not depend on a save
quit_alike : (d : Data) (fault : Option StoreFault) (was : Before) (prompt : Prompt) (search_state : SearchState) (e : Editor)
    → after_any d fault was prompt search_state e Quit ≡ after_any d None was prompt search_state e Quit
quit_alike d fault was prompts.Off Off e = refl
quit_alike d fault was prompts.Off search_state e = refl
quit_alike d fault was prompt search_state e = refl

quit_user_alike : (d : Data) (fault : Option StoreFault) (e : Editor) → after_user d fault e Quit ≡ after_user d None e Quit
quit_user_alike d fault e = ap (as_left Quit) (quit_alike d fault (before e) e.prompt e.search_state (cleared e))

quit_pressed : (d : Data) (fault : Option StoreFault) (e : Editor) (pasted : Option (List ℕ)) → after_press d fault pasted e Quit ≡ after_press d None pasted e Quit
quit_pressed d fault e None = quit_user_alike d fault e
quit_pressed d fault e (Some list) = quit_user_alike d fault (paste_ended d e)

-- nor does whether any key ends the session
pub same_ended : (d : Data) (fault : Option StoreFault) (e : Editor) (key : Key) → (after_key d fault e key).ended ≡ (after_key d None e key).ended
same_ended d fault e Quit = ap (λ (x : Editor). x.ended) (quit_pressed d fault e e.pasted)
same_ended d fault e key = key_goes_on d fault e key refl ∙ sym (key_goes_on d None e key refl)
