-- What keys keep outside a search and a question.
use Rattle.std.proofs.Common.{◌≡◌, ℕ, Bool, true, false, List, [], ◌∷◌, length, Option, Some, None, refl, if◌then◌else◌}
use Rattle.std.specs.Prelude.{◌||◌, ◌==◌, ◌+◌, ◌++◌, not, nat_le, min, encode_utf8, replicate, unwrap_or}
use Rattle.bx_common.specs.declared.base.Base.{Base}
use Rattle.bx_store.specs.declared.store.StoreFault.{StoreFault}
use Rattle.bx_text.specs.declared.change.Change.{Change}
use Rattle.bx_text.specs.Edits.{Edit, Edited, fits, redone, undone}
use Rattle.bx_view.specs.declared.moves.Goal.{Goal}
use Rattle.bx_view.specs.declared.moves.Goal.TheVariants.{End}
use Rattle.bx_document.specs.History.{next_changes, stepped_times}
use Rattle.bx_document.specs.declared.history.HistoryStep.{HistoryStep}
use Rattle.bx_document.specs.declared.history.HistoryStep.TheVariants as steps
use Rattle.bx_editor.specs.undo_groups.Groups.{after_insertion, after_removal, goes_on, goes_on_removing, kind_of}
use Rattle.bx_editor.specs.declared.undo_groups.typing.Kind.{Kind}
use Rattle.bx_editor.specs.declared.undo_groups.typing.Kind.TheVariants.{Blank, Separator}
use Rattle.bx_editor.specs.declared.undo_groups.typing.Removal.{Removal}
use Rattle.bx_editor.specs.declared.undo_groups.typing.Typing.{Typing}
use Rattle.bx_editor.specs.declared.undo_groups.typing.Typing.TheVariants.{Off, Paste}
use Rattle.bx_ucd.specs.Data.{Data}
use Rattle.bx_editor.specs.declared.questions.answers.Prompt.{Prompt}
use Rattle.bx_editor.specs.declared.questions.answers.Prompt.TheVariants as prompts
use Rattle.bx_editor.specs.declared.message.Message.{Message}
use Rattle.bx_editor.specs.declared.message.Message.TheVariants as messages
use Rattle.bx_editor.specs.declared.search_state.SearchState.{SearchState}
use Rattle.bx_editor.specs.declared.search_state.SearchState.TheVariants as search_states
use Rattle.bx_editor.specs.declared.clicks.Clicks.{Clicks}
use Rattle.bx_editor.specs.declared.clicks.Extent.{Extent}
use Rattle.bx_editor.specs.declared.clicks.Extent.TheVariants as extents
use Rattle.bx_editor.specs.declared.clicks.Pressed.{Pressed}
use Rattle.bx_editor.specs.declared.cursor.Soft.{Soft}
use Rattle.bx_editor.specs.declared.cursor.Soft.TheVariants as softness
use Rattle.bx_editor.specs.Editor.{Editor, after_help, after_quit, after_redo, after_step, after_undo, next_base, nothing_left, text_height, unpressed}
use Rattle.bx_editor.specs.Editor.{with_base, with_insertion, with_removal, with_step, after_group_step, by_group, is_changed_at, group_goal}
use Rattle.bx_editor.specs.Editor.{group_length}
use Rattle.bx_editor.specs.Before.{Before}
use Rattle.bx_editor.specs.Effects.{Effect, Types, BeginsLine, Puts, Removes, RemovesWord, Steps, StepsGroup, Goes, GoesToRowEnd, GoesByRows, Clicks as Presses}
use Rattle.bx_editor.specs.Effects.{Drags, Wheels, Marks, Selects, SelectsAll, Unmarks, Copies, Cuts, Seeks, SeeksNext, SeeksPrevious, Saves, Quits}
use Rattle.bx_editor.specs.Effects.{Turns, Helps, AsksLine, AsksName, AsksFile, AsksOverwrite, Tells, Refuses, Rests, by}
use Rattle.bx_editor.specs.Erasing.{after_erasing, after_erasing_word, after_removing, removed_on}
use Rattle.bx_editor.specs.Pointing.{after_drag, after_point, dragged_to, part_at, pointed_place, press_extent, pressed_at, pressing, pressing_with}
use Rattle.bx_editor.specs.Pointing.{clicking, rests_on_unit, selecting_part, with_word}
use Rattle.bx_editor.specs.Putting.{after_paste_end, after_paste_start, after_pasted_letter, ended_with, paste_begun, paste_ended}
use Rattle.bx_editor.specs.Putting.{pasted_with, pastes_crlf, with_paste, with_pasted, without_paste, after_character, after_new_line}
use Rattle.bx_editor.specs.Putting.{after_put, after_tab, as_line, has_room, new_indent, new_line_end, only_paste, put_in, put_line, puts_line}
use Rattle.bx_editor.specs.Putting.{refuses_paste, spaces_on, typed, units_in_line, with_line_put, with_selection_replaced, yielding}
use Rattle.bx_editor.specs.Region.{after_copy, after_cut, after_mark, bytes_in, held_message, is_at_mark, is_empty, line, region, taken}
use Rattle.bx_editor.specs.Region.{with_held, aged, is_selection, is_soft, selecting, unselected, without_hard_mark, without_mark}
use Rattle.bx_editor.specs.RowMoves.{after_row_move}

-- edits, undo and redo, and all that leaves the text, the search and the question keep this property of editors
pub record IsKeptPressing (d : Data) (P : Editor → Type 0) : Type 0 where
  pub inserted : (e : Editor) (new : List ℕ) (on : Bool) → P e → P (with_insertion d e new on)
  pub lined : (e : Editor) (new : List ℕ) → P e → P (with_line_put d e new)
  pub removed : (e : Editor) (start stop : ℕ) (on : Bool) → P e → P (with_removal d e start stop on)
  pub stepped : (way : HistoryStep) (e : Editor) → P e → P (after_step way e)
  pub run : (way : HistoryStep) (e : Editor) → P e → P (after_group_step way e)
  pub quit : (e : Editor) (ended : Bool) (message : Option Message) → P e
      → P (record e { quit_before = true; ended = ended; message = message })
  pub based : (e : Editor) (base : Base) → P e → P (with_base e base)
  pub gone : (e : Editor) (place : ℕ) (goal : Option Goal) → P e → P (record e { place = place; goal = goal })
  pub pointed : (e : Editor) (clicks : Option Clicks) (pressed : Option Pressed) → P e → P (record e { clicks = clicks; pressed = pressed })
  pub marked : (e : Editor) (mark : Option ℕ) (soft : Soft) (held : List ℕ) (whole_line : Bool) → P e
      → P (record e { mark = mark; soft = soft; held = held; whole_line = whole_line })
  pub told : (e : Editor) (message : Option Message) (typing : Typing) → P e → P (record e { message = message; typing = typing })

-- the effect begins or ends a search or a question, or seeks
abbrev pub asks_or_seeks : Effect → Bool
asks_or_seeks (Wheels way) = true
asks_or_seeks (Seeks purpose) = true
asks_or_seeks SeeksNext = true
asks_or_seeks SeeksPrevious = true
asks_or_seeks Saves = true
asks_or_seeks AsksLine = true
asks_or_seeks AsksName = true
asks_or_seeks AsksFile = true
asks_or_seeks AsksOverwrite = true
asks_or_seeks _ = false

module _ (d : Data) (P : Editor → Type 0) (keeps : IsKeptPressing d P) where
  either : (b : Bool) (p q : Editor) → P p → P q → P (if b then p else q)
  either true p q h k = h
  either false p q h k = k

  message : (e : Editor) (m : Message) → P e → P (record e { message = Some m })
  message e m h = keeps.told e (Some m) e.typing h

  -- ---- edits

  putting : (e : Editor) (new : List ℕ) (on : Bool) → P e → P (put_in d e new on)
  putting e new on h =
      let two = with_selection_replaced d e new in
      let one = with_insertion d e new on in
      let without = with_removal d e (region e).0 (region e).1 false in
      either (has_room e new) (if is_selection e then two else one) (record e { message = Some messages.TextFull })
      (either (is_selection e) two one (keeps.inserted without new true (keeps.removed e (region e).0 (region e).1 false h))
      (keeps.inserted e new on h))
      (message e messages.TextFull h)

  typing-keeps : (typing : Typing) (e : Editor) (new : List ℕ) (kind : Kind) → P e → P (typed d typing e new kind)
  typing-keeps typing e new kind h =
      let put = put_in d e new (goes_on typing kind) in
      keeps.told put put.message (if has_room e new then after_insertion kind else only_paste typing)
      (putting e new (goes_on typing kind) h)

  new-line : (typing : Typing) (e : Editor) → P e → P (after_new_line d typing e)
  new-line typing e h = typing-keeps typing e (new_line_end d e ++ new_indent d e) Separator h

  plain : (typing : Typing) (e : Editor) (c : ℕ) → P e → P (typed d typing e (encode_utf8 c) (kind_of (d.class c)))
  plain typing e c h = typing-keeps typing e (encode_utf8 c) (kind_of (d.class c)) h

  tab : (typing : Typing) (e : Editor) → P e → P (after_tab d typing e)
  tab typing e h =
      let spaces = replicate (spaces_on e.tab_width (units_in_line d e (yielding e).0)) 0x20 in
      either (e.tab_width == 0) (typed d typing e (encode_utf8 0x9) (kind_of (d.class 0x9))) (typed d typing e spaces Blank)
      (plain typing e 0x9 h) (typing-keeps typing e spaces Blank h)

  character : (typing : Typing) (e : Editor) (c : ℕ) → P e → P (after_character d typing e c)
  character typing e c h =
      either (c == 0x9) (after_tab d typing e) (typed d typing e (encode_utf8 c) (kind_of (d.class c))) (tab typing e h) (plain typing e c h)

  line-put : (e : Editor) (new : List ℕ) → P e → P (put_line d e new)
  line-put e new h =
      either (fits e.content.text (line d e).0 (line d e).0 new) (with_line_put d e new) (record e { message = Some messages.TextFull })
      (keeps.lined e new h) (message e messages.TextFull h)

  put : (e : Editor) → P e → P (after_put d e)
  put e h =
      let over = put_line d e (as_line d e e.held) in
      let here = put_in d e e.held false in
      either (length e.held == 0) (record e { message = Some messages.NothingToPut }) (if puts_line e then over else here)
      (message e messages.NothingToPut h)
      (either (puts_line e) over here (line-put e (as_line d e e.held) h) (putting e e.held false h))

  instead : (e other : Editor) → P e → P other
      → P (if is_selection e then with_removal d e (region e).0 (region e).1 false else other)
  instead e other h k =
      either (is_selection e) (with_removal d e (region e).0 (region e).1 false) other
      (keeps.removed e (region e).0 (region e).1 false h) k

  erasing : (typing : Typing) (how : Removal) (e : Editor) (start stop : ℕ) → P e → P (after_erasing d typing how e start stop)
  erasing typing how e start stop h =
      let gone = with_removal d e start stop (goes_on_removing typing how) in
      let left = keeps.removed e start stop (goes_on_removing typing how) h in
      instead e (removed_on d typing how e start stop) h
      (either (start == stop) e (record gone { typing = after_removal how }) h
      (keeps.told gone gone.message (after_removal how) left))

  erasing-word : (e : Editor) (start stop : ℕ) → P e → P (after_erasing_word d e start stop)
  erasing-word e start stop h =
      instead e (after_removing d e start stop false) h
      (either (start == stop) e (with_removal d e start stop false) h (keeps.removed e start stop false h))

  -- ---- the mark and the held text

  unmarked : (e : Editor) → P e → P (without_mark e)
  unmarked e h = keeps.marked e None softness.Off e.held e.whole_line h

  without-hard-mark : (e : Editor) → P e → P (without_hard_mark e)
  without-hard-mark e h = either (is_soft e.soft) e (without_mark e) h (unmarked e h)

  -- with this text held, and this message
  holding-in : (e : Editor) (held : List ℕ) (whole_line : Bool) (m : Option Message) → P e
      → P (record e { held = held; whole_line = whole_line; message = m })
  holding-in e held whole_line m h =
      let holds : Editor = record e { held = held; whole_line = whole_line } in
      keeps.told holds m e.typing (keeps.marked e e.mark e.soft held whole_line h)

  holding : (e : Editor) (held : List ℕ) (whole_line : Bool) (own : Message) → P e → P (with_held e held whole_line own)
  holding e held whole_line own h =
      holding-in (without_hard_mark e) held whole_line (held_message e.clipboard held (Some own)) (without-hard-mark e h)

  copy : (e : Editor) → P e → P (after_copy d e)
  copy e h =
      let none : Editor = record (without_hard_mark e) { message = Some messages.NothingToCopy } in
      let one = with_held e (bytes_in e (line d e)) true messages.LineCopied in
      either (is_empty (region e)) (if is_empty (line d e) then none else one) (with_held e (bytes_in e (region e)) false messages.Copied)
      (either (is_empty (line d e)) none one (message (without_hard_mark e) messages.NothingToCopy (without-hard-mark e h))
      (holding e (bytes_in e (line d e)) true messages.LineCopied h))
      (holding e (bytes_in e (region e)) false messages.Copied h)

  cut : (e : Editor) → P e → P (after_cut d e)
  cut e h =
      let part = taken d e in
      let without = with_removal d e part.0 part.1 false in
      let told = held_message e.clipboard (bytes_in e part) (Some messages.Cut) in
      let cut : Editor = record without { held = bytes_in e part; whole_line = is_empty (region e); message = told } in
      either (is_empty part) (after_copy d e) cut (copy e h)
      (holding-in without (bytes_in e part) (is_empty (region e)) told (keeps.removed e part.0 part.1 false h))

  marking : (e : Editor) (mark : Option ℕ) (soft : Soft) → P e → P (record e { mark = mark; soft = soft })
  marking e mark soft h = keeps.marked e mark soft e.held e.whole_line h

  mark : (e : Editor) → P e → P (after_mark e)
  mark e h =
      let set : Editor = record e { mark = Some e.place; soft = softness.Off } in
      either (is_at_mark e.mark e.place) (record (without_mark e) { message = Some messages.MarkOff })
      (record set { message = Some messages.MarkSet }) (message (without_mark e) messages.MarkOff (unmarked e h))
      (message set messages.MarkSet (marking e (Some e.place) softness.Off h))

  select : (e : Editor) (mark : Option ℕ) (soft : Soft) → P e → P (selecting e mark soft)
  select e None soft h = marking e (Some e.place) softness.Fresh h
  select e (Some mark) softness.Off h = h
  select e (Some mark) softness.Fresh h = h
  select e (Some mark) softness.Old h = marking e e.mark softness.Fresh h

  free : (e : Editor) → P e → P (unselected e)
  free e h = marking e (unselected e).mark (unselected e).soft h

  -- ---- clicks and drags

  placing : (e : Editor) (place : ℕ) → P e → P (record e { place = place })
  placing e place h = keeps.gone e place e.goal h

  selecting-keeps : (e : Editor) (mark place : ℕ) → P e → P (selecting_part e mark place)
  selecting-keeps e mark place h =
      let there : Editor = record e { place = place } in marking there (Some mark) softness.Old (placing e place h)

  word : (e : Editor) (part : ℕ × ℕ) → P e → P (with_word e part)
  word e part h =
      let there : Editor = record e { place = part.0 } in
      either (is_empty part) (record e { mark = None; soft = softness.Off; place = part.0 }) (selecting_part e part.0 part.1)
      (unmarked there (placing e part.0 h))
      (selecting-keeps e part.0 part.1 h)

  plain-press : (e : Editor) (row column place : ℕ) → P e
      → P (record (unselected e) { place = place; clicks = Some (clicking row column extents.Unit); pressed = Some (pressing (part_at d e extents.Unit place) extents.Unit) })
  plain-press e row column place h =
      let there : Editor = record (unselected e) { place = place } in
      keeps.pointed there (Some (clicking row column extents.Unit)) (Some (pressing (part_at d e extents.Unit place) extents.Unit))
      (placing (unselected e) place (free e h))

  pressing-first : (e : Editor) (row column place : ℕ) (soft : Soft) → P e → P (pressing_with d e row column place soft)
  pressing-first e row column place softness.Fresh h =
      let there : Editor = record e { place = place } in
      keeps.pointed there None (Some (pressing (unwrap_or e.mark place, unwrap_or e.mark place) extents.Unit)) (placing e place h)
  pressing-first e row column place softness.Off h = plain-press e row column place h
  pressing-first e row column place softness.Old h = plain-press e row column place h

  press : (e : Editor) (row column place : ℕ) (extent : Extent) → P e → P (pressed_at d e row column place extent)
  press e row column place extents.Unit h = pressing-first e row column place e.soft h
  press e row column place extents.Word h =
      let part = part_at d e extents.Word place in
      keeps.pointed (with_word e part) (Some (clicking row column extents.Word)) (Some (pressing part extents.Word)) (word e part h)
  press e row column place extents.Paragraph h =
      let part = part_at d e extents.Paragraph place in
      keeps.pointed (selecting_part e part.0 part.1) (Some (clicking row column extents.Paragraph)) (Some (pressing part extents.Paragraph))
      (selecting-keeps e part.0 part.1 h)

  point : (e : Editor) (row column : ℕ) → P e → P (after_point d e row column)
  point e row column h =
      let place = pointed_place d e row column in
      let extent = press_extent e.clicks row column in
      either (nat_le row (text_height e.height)) (pressed_at d e row column place extent) (record (unselected e) { clicks = None; pressed = None })
      (press e row column place extent h)
      (keeps.pointed (unselected e) None None (free e h))

  drag-to : (e : Editor) (pressed : Pressed) (part : ℕ × ℕ) → P e → P (dragged_to e pressed part)
  drag-to e pressed part h =
      let on = selecting_part e pressed.start part.1 in
      let back = selecting_part e pressed.stop part.0 in
      either (rests_on_unit e pressed part) e (if nat_le pressed.start part.0 then on else back) h
      (either (nat_le pressed.start part.0) on back (selecting-keeps e pressed.start part.1 h) (selecting-keeps e pressed.stop part.0 h))

  drag : (e : Editor) (row column : ℕ) (pressed : Option Pressed) → P e → P (after_drag d e row column pressed)
  drag e row column None h = point e row column h
  drag e row column (Some pressed) h =
      let place = pointed_place d e (min row (text_height e.height + 1)) column in
      let to = dragged_to e pressed (part_at d e pressed.extent place) in
      keeps.pointed to None to.pressed (drag-to e pressed (part_at d e pressed.extent place) h)

  -- ---- any effect

  ending : (e : Editor) (again : Bool) → P e → P (after_quit e again)
  ending e again h =
      either (not e.changed || again) (record e { quit_before = true; ended = true })
      (record e { quit_before = true; message = Some messages.Unsaved })
      (keeps.quit e true e.message h) (keeps.quit e e.ended (Some messages.Unsaved) h)

  -- `asking`: an effect that begins a search or a question, or seeks
  pub effect-keeps : (fault : Option StoreFault) (was : Before) (e : Editor) (one : Effect) → P e
      → (asks_or_seeks one ≡ true → P (by d fault was e one)) → P (by d fault was e one)
  effect-keeps fault was e (Types c) h asking = character was.typing e c h
  effect-keeps fault was e BeginsLine h asking = new-line was.typing e h
  effect-keeps fault was e Puts h asking = put e h
  effect-keeps fault was e (Removes how start stop) h asking = erasing was.typing how e start stop h
  effect-keeps fault was e (RemovesWord start stop) h asking = erasing-word e start stop h
  effect-keeps fault was e (Steps way) h asking = keeps.stepped way e h
  effect-keeps fault was e (StepsGroup way) h asking = keeps.run way e h
  effect-keeps fault was e (Goes place) h asking = keeps.gone (unselected e) place e.goal (free e h)
  effect-keeps fault was e (GoesToRowEnd place) h asking = keeps.gone (unselected e) place (Some End) (free e h)
  effect-keeps fault was e (GoesByRows way n) h asking =
      let went = after_row_move d (unselected e) way n in keeps.gone (unselected e) went.place went.goal (free e h)
  effect-keeps fault was e (Presses row column) h asking = point e row column h
  effect-keeps fault was e (Drags row column) h asking = drag e row column e.pressed h
  effect-keeps fault was e (Wheels way) h asking = asking refl
  effect-keeps fault was e Marks h asking = mark e h
  effect-keeps fault was e Selects h asking = select e e.mark e.soft h
  effect-keeps fault was e SelectsAll h asking = selecting-keeps e 0 (length e.content.text) h
  effect-keeps fault was e Unmarks h asking = unmarked e h
  effect-keeps fault was e Copies h asking = copy e h
  effect-keeps fault was e Cuts h asking = cut e h
  effect-keeps fault was e (Seeks purpose) h asking = asking refl
  effect-keeps fault was e SeeksNext h asking = asking refl
  effect-keeps fault was e SeeksPrevious h asking = asking refl
  effect-keeps fault was e Saves h asking = asking refl
  effect-keeps fault was e Quits h asking = ending e was.again h
  effect-keeps fault was e Turns h asking = keeps.based e (next_base e.base) h
  effect-keeps fault was e Helps h asking = keeps.told e (after_help e was.message).message e.typing h
  effect-keeps fault was e AsksLine h asking = asking refl
  effect-keeps fault was e AsksName h asking = asking refl
  effect-keeps fault was e AsksFile h asking = asking refl
  effect-keeps fault was e AsksOverwrite h asking = asking refl
  effect-keeps fault was e Tells h asking = message e messages.Told h
  effect-keeps fault was e Refuses h asking = message e messages.ViewOnly h
  effect-keeps fault was e Rests h asking = keeps.told e e.message was.typing h

-- ---- a paste

-- the list of a paste, and what goes with it, keep this property of editors
pub record IsKeptPasting (P : Editor → Type 0) : Type 0 where
  pub pasted : (e : Editor) (pasted : Option (List ℕ)) (message : Option Message) (typing : Typing) → P e
      → P (record e { pasted = pasted; message = message; typing = typing })
  pub lengthened : (e : Editor) (pasted : Option (List ℕ)) (soft : Soft) → P e
      → P (record e { pasted = pasted; quit_before = false; goal = None; soft = soft; clicks = None; pressed = None })
  pub unpressed : (e : Editor) → P e → P (unpressed e)

module _ (P : Editor → Type 0) (keeps : IsKeptPasting P) where
  pub begun-keeps : (e : Editor) → P e → P (with_paste e)
  begun-keeps e h = keeps.pasted e (Some []) (Some messages.Pasting) e.typing h

  begin-keeps : (e : Editor) (prompt : Prompt) (search_state : SearchState) (pasted : Option (List ℕ)) → P e → P (paste_begun prompt search_state pasted e)
  begin-keeps e prompts.Off search_states.Off None h = begun-keeps e h
  begin-keeps e prompts.Off search_states.Off (Some list) h = h
  begin-keeps e prompts.Off search_states.Begun pasted h = h
  begin-keeps e prompts.Off search_states.Typed pasted h = h
  begin-keeps e prompts.Off search_states.WithBegun pasted h = h
  begin-keeps e prompts.Off search_states.WithTyped pasted h = h
  begin-keeps e prompts.Off search_states.Replacing pasted h = h
  begin-keeps e prompts.Line search_state pasted h = h
  begin-keeps e prompts.Name search_state pasted h = h
  begin-keeps e prompts.Code search_state pasted h = h
  begin-keeps e prompts.File search_state pasted h = h
  begin-keeps e prompts.Overwrite search_state pasted h = h

  started-keeps : (refused : Bool) (old new : Editor) → P old → P new → P (if refused then unpressed old else unpressed new)
  started-keeps true old new h k = keeps.unpressed old h
  started-keeps false old new h k = keeps.unpressed new k

  pub start-keeps : (e : Editor) → P e → P (after_paste_start e)
  start-keeps e h =
      let begun = paste_begun e.prompt e.search_state e.pasted e in
      started-keeps (refuses_paste e) (record e { message = Some messages.ViewOnly }) (record begun { typing = Paste })
      (keeps.pasted e e.pasted (Some messages.ViewOnly) e.typing h)
      (keeps.pasted begun begun.pasted begun.message Paste (begin-keeps e e.prompt e.search_state e.pasted h))

  pub pasted-letter-keeps : (d : Data) (e : Editor) (c : ℕ) → P e → P (after_pasted_letter d e c)
  pasted-letter-keeps d e c h = keeps.lengthened e (pasted_with (pastes_crlf d e.content.text c) e.pasted c) (aged e.soft) h

module _ (d : Data) (P : Editor → Type 0) (keeps : IsKeptPressing d P) (pastes : IsKeptPasting P) where
  list-keeps : (e : Editor) (list : List ℕ) → P e → P (with_pasted d e list)
  list-keeps e list h =
      let left = without_paste e in
      let k = pastes.pasted e None None Off h in
      either d P keeps (length list == 0) left (put_in d left list false) k (putting d P keeps left list false k)

  end-keeps : (e : Editor) (pasted : Option (List ℕ)) → P e → P (ended_with d e pasted)
  end-keeps e None h = h
  end-keeps e (Some list) h = list-keeps e list h

  pub ended-keeps : (e : Editor) → P e → P (paste_ended d e)
  ended-keeps e h = end-keeps e e.pasted h

  pub paste-end-keeps : (e : Editor) → P e → P (after_paste_end d e)
  paste-end-keeps e h =
      let ended = paste_ended d e in
      let over : Editor = record ended { typing = Off } in
      pastes.unpressed over (pastes.pasted ended ended.pasted ended.message Off (ended-keeps e h))

-- ---- undo and redo, where any other text of the history keeps the property

module _ (P : Editor → Type 0)
    (stepped : (e : Editor) (content : Edited) (place : ℕ) (changed : Bool) → P e → P (with_step e content place changed))
    (told : (e : Editor) (message : Message) → P e → P (record e { message = Some message })) where
  undo : (e : Editor) (past : List Edit) → P e → P (after_undo e past)
  undo e [] h = told e messages.NothingToUndo h
  undo e (edit ∷ past) h = stepped e (undone e.content) edit.before.place true h

  redo : (e : Editor) (future : List Edit) → P e → P (after_redo e future)
  redo e [] h = told e messages.NothingToRedo h
  redo e (edit ∷ future) h = stepped e (redone e.content) edit.after.place true h

  pub step-keeps : (way : HistoryStep) (e : Editor) → P e → P (after_step way e)
  step-keeps steps.Undo e h = undo e e.content.past h
  step-keeps steps.Redo e h = redo e e.content.future h

  by-run : (way : HistoryStep) (e : Editor) (change : Option Change) → P e → P (by_group way e change)
  by-run way e None h = told e (nothing_left way) h
  by-run way e (Some change) h =
      stepped e (stepped_times way (group_length way e) e.content) change.place (is_changed_at (group_goal way e) e.stored) h

  pub run-keeps : (way : HistoryStep) (e : Editor) → P e → P (after_group_step way e)
  run-keeps way e h = by-run way e (next_changes way (group_length way e) e.content) h
