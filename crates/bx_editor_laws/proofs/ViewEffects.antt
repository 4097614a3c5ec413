-- What leaves a text that is only looked at as it was opened.
use Rattle.std.proofs.Common.{◌≡◌, ℕ, ◌+◌, Bool, true, false, nat_le, List, length, Option, Some, None, refl, sym, subst, if◌then◌else◌}
use Rattle.std.specs.Prelude.{◌==◌, ◌&&◌, ◌||◌, not, min, chars}
use Rattle.bx_keys.specs.declared.key.Key.{Key}
use Rattle.bx_keys.specs.declared.key.Key.TheVariants.{Insert, NewLine, Erase, ErasePoint, Delete, EraseWord, DeleteWord, Cut, Put, UndoEdit, RedoEdit, Undo, Redo}
use Rattle.bx_keys.specs.declared.key.Key.TheVariants.{Name as NameKey, Replace, Save}
use Rattle.bx_store.specs.declared.store.StoreFault.{StoreFault}
use Rattle.bx_text.specs.Edits.{Edited}
use Rattle.bx_ucd.specs.Data.{Data}
use Rattle.bx_view.specs.declared.moves.Move.{Move}
use Rattle.bx_view.specs.declared.moves.Vertical.{Vertical}
use Rattle.bx_view.specs.Moves.{row_home}
use Rattle.bx_editor.specs.declared.clicks.Extent.{Extent}
use Rattle.bx_editor.specs.declared.clicks.Extent.TheVariants as extents
use Rattle.bx_editor.specs.declared.clicks.Pressed.{Pressed}
use Rattle.bx_editor.specs.declared.cursor.Soft.{Soft}
use Rattle.bx_editor.specs.declared.cursor.Soft.TheVariants as softness
use Rattle.bx_editor.specs.declared.message.Message.TheVariants as messages
use Rattle.bx_editor.specs.declared.questions.answers.Prompt.{Prompt}
use Rattle.bx_editor.specs.declared.questions.answers.Prompt.TheVariants as prompts
use Rattle.bx_editor.specs.declared.questions.line.Target.{Target}
use Rattle.bx_editor.specs.declared.search_state.SearchPurpose.{SearchPurpose}
use Rattle.bx_editor.specs.declared.search_state.SearchPurpose.TheVariants as purposes
use Rattle.bx_editor.specs.declared.search_state.SearchState.{SearchState}
use Rattle.bx_editor.specs.declared.search_state.SearchState.TheVariants.{Off, Begun, Typed, WithBegun, WithTyped, Replacing}
use Rattle.bx_editor.specs.declared.undo_groups.typing.Typing.{Typing}
use Rattle.bx_editor.specs.declared.undo_groups.typing.Typing.TheVariants as typings
use Rattle.bx_editor.specs.Asking.{after_answer_letter, after_going, answer_lengthened, gone_to, longest_line, without_prompt}
use Rattle.bx_editor.specs.Before.{Before, before}
use Rattle.bx_editor.specs.Editor.{Editor, rows, text_height}
use Rattle.bx_editor.specs.Effects.{Effect, Types, BeginsLine, Puts, Removes, RemovesWord, Steps, StepsGroup, Goes, GoesByRows, GoesToRowEnd, Clicks, Drags}
use Rattle.bx_editor.specs.Effects.{Wheels, Marks, Selects, SelectsAll, Unmarks, Copies, Cuts, Seeks, SeeksNext, SeeksPrevious, Saves, Quits, Turns, Helps}
use Rattle.bx_editor.specs.Effects.{AsksLine, AsksName, AsksFile, AsksOverwrite, Tells, Refuses, Rests, by}
use Rattle.bx_editor.specs.InputLines.{after_taking, ends_line, is_at_end, is_no_letter, line_lengthened}
use Rattle.bx_editor.specs.Keys.{after_pressing, changes_text}
use Rattle.bx_editor.specs.Keys.{effect_of}
use Rattle.bx_editor.specs.LinePuts.{after_line_put, typed_in, typed_in_search}
use Rattle.bx_editor.specs.Pointing.{after_drag, after_point, dragged_to, part_at, pointed_place, press_extent, pressed_at, pressing_with, rests_on_unit}
use Rattle.bx_editor.specs.Pointing.{selecting_part}
use Rattle.bx_editor.specs.Region.{after_copy, bytes_in, is_at_mark, is_empty, is_soft, line, region, selecting, unselected, with_held}
use Rattle.bx_editor.specs.Region.{without_hard_mark, without_mark}
use Rattle.bx_editor.specs.Replacing.{after_asking_replacement, after_sought_end, is_replacing}
use Rattle.bx_editor.specs.RowMoves.{after_wheel, carried, shows_place, wheel_top}
use Rattle.bx_editor.specs.Saving.{after_naming, after_save, is_changed}
use Rattle.bx_editor.specs.Saving.{longest_name, takes_name, with_answered_name, without_answer}
use Rattle.bx_editor.specs.Search.{after_beginning, after_letter, after_moving_in, as_typed, kept, longest_query, next_or_start, query_line, search_back, search_from}
use Rattle.bx_editor.specs.Search.{search_on, sought, sought_alone, with_query, without_search}
use Rattle.bx_editor.specs.questions.Answers.{asked, is_line_letter}
use Rattle.bx_editor_laws.proofs.LineKept.{in-line-keeps}

-- ---- what stays

-- a question, and how far a search is, where the text is only looked at
abbrev pub is_view_prompt : Prompt → Bool
is_view_prompt prompts.Off = true
is_view_prompt prompts.Line = true
is_view_prompt prompts.File = true
is_view_prompt prompts.Overwrite = true
is_view_prompt _ = false

abbrev pub is_view_search : SearchState → Bool
is_view_search Off = true
is_view_search Begun = true
is_view_search Typed = true
is_view_search _ = false

pub record Viewed (opened content : Edited) (read_only : Bool) (pasted : Option (List ℕ)) (prompt : Prompt) (search_state : SearchState) (purpose : SearchPurpose) : Type 0 where
  pub content_is : content ≡ opened
  pub looked : read_only ≡ true
  pub settled : pasted ≡ None
  pub asked : is_view_prompt prompt ≡ true
  pub sought : is_view_search search_state ≡ true
  pub finds : purpose ≡ purposes.Find

module _ (d : Data) (opened : Edited) where
  abbrev pub IsView : Editor → Type 0
  IsView e = Viewed opened e.content e.read_only e.pasted e.prompt e.search_state e.purpose

  pub either : (b : Bool) (p q : Editor) → IsView p → IsView q → IsView (if b then p else q)
  either true p q h k = h
  either false p q h k = k

  -- with another question, or another search
  pub with-asked : (e : Editor) (prompt : Prompt) (search_state : SearchState) → is_view_prompt prompt ≡ true → is_view_search search_state ≡ true → IsView e
      → Viewed opened e.content e.read_only e.pasted prompt search_state e.purpose
  with-asked e prompt search_state a s h =
      record { content_is = h.content_is; looked = h.looked; settled = h.settled; asked = a; sought = s; finds = h.finds }

  -- a search that finds
  with-search : (e : Editor) (search_state : SearchState) → is_view_search search_state ≡ true → IsView e
      → Viewed opened e.content e.read_only e.pasted e.prompt search_state purposes.Find
  with-search e search_state s h =
      record { content_is = h.content_is; looked = h.looked; settled = h.settled; asked = h.asked; sought = s; finds = refl }

  pub unsought : (e : Editor) → IsView e → IsView (without_search e)
  unsought e h = with-asked e e.prompt Off h.asked refl h

  pub unasked : (e : Editor) → IsView e → IsView (without_prompt e)
  unasked e h = with-asked e prompts.Off Off refl refl h

  -- ---- effects

  copying : (e : Editor) → IsView e → IsView (after_copy d e)
  copying e h =
      let soft = without_hard_mark e in
      let k : IsView soft = either (is_soft e.soft) e (without_mark e) h h in
      let nothing : Editor = record soft { message = Some messages.NothingToCopy } in
      let line_held = with_held e (bytes_in e (line d e)) true messages.LineCopied in
      let region_held = with_held e (bytes_in e (region e)) false messages.Copied in
      either (is_empty (region e)) (if is_empty (line d e) then nothing else line_held) region_held (either (is_empty (line d e)) nothing line_held k k) k

  select : (e : Editor) (mark : Option ℕ) (soft : Soft) → IsView e → IsView (selecting e mark soft)
  select e None soft h = h
  select e (Some mark) softness.Off h = h
  select e (Some mark) softness.Fresh h = h
  select e (Some mark) softness.Old h = h

  first : (e : Editor) (row column place : ℕ) (soft : Soft) → IsView e → IsView (pressing_with d e row column place soft)
  first e row column place softness.Fresh h = h
  first e row column place softness.Off h = h
  first e row column place softness.Old h = h

  press-at : (e : Editor) (row column place : ℕ) (extent : Extent) → IsView e → IsView (pressed_at d e row column place extent)
  press-at e row column place extents.Unit h = first e row column place e.soft h
  press-at e row column place extents.Word h =
      let part = part_at d e extents.Word place in
      either (is_empty part) (record e { mark = None; soft = softness.Off; place = part.0 }) (selecting_part e part.0 part.1) h h
  press-at e row column place extents.Paragraph h = h

  point : (e : Editor) (row column : ℕ) → IsView e → IsView (after_point d e row column)
  point e row column h =
      let place = pointed_place d e row column in
      let extent = press_extent e.clicks row column in
      either (nat_le row (text_height e.height)) (pressed_at d e row column place extent)
      (record (unselected e) { clicks = None; pressed = None }) (press-at e row column place extent h) h

  drag-to : (e : Editor) (pressed : Pressed) (part : ℕ × ℕ) → IsView e → IsView (dragged_to e pressed part)
  drag-to e pressed part h =
      let on = selecting_part e pressed.start part.1 in
      let back = selecting_part e pressed.stop part.0 in
      either (rests_on_unit e pressed part) e (if nat_le pressed.start part.0 then on else back) h (either (nat_le pressed.start part.0) on back h h)

  drag : (e : Editor) (row column : ℕ) (pressed : Option Pressed) → IsView e → IsView (after_drag d e row column pressed)
  drag e row column None h = point e row column h
  drag e row column (Some pressed) h =
      let place = pointed_place d e (min row (text_height e.height + 1)) column in drag-to e pressed (part_at d e pressed.extent place) h

  pub wheel : (was : Before) (e : Editor) (way : Vertical) → IsView e → IsView (after_wheel d was e way)
  wheel was e way h =
      let top = wheel_top d e way in
      let still : Editor = record e { message = was.message } in
      either (shows_place d e top) (if top == row_home (rows d e) e.top then still else e) (carried d e top)
      (either (top == row_home (rows d e) e.top) still e h h) (unasked e h)

  -- an effect that leaves the text, and asks for no replacement and no name
  abbrev is_view_effect : Effect → Bool
  is_view_effect (Types c) = false
  is_view_effect BeginsLine = false
  is_view_effect Puts = false
  is_view_effect (Removes how start stop) = false
  is_view_effect (RemovesWord start stop) = false
  is_view_effect (Steps way) = false
  is_view_effect (StepsGroup way) = false
  is_view_effect Cuts = false
  is_view_effect (Seeks purposes.Replace) = false
  is_view_effect Saves = false
  is_view_effect AsksName = false
  is_view_effect _ = true

  effect : (fault : Option StoreFault) (was : Before) (e : Editor) (one : Effect) → is_view_effect one ≡ true → IsView e → IsView (by d fault was e one)
  effect fault was e (Goes place) is h = h
  effect fault was e (GoesToRowEnd place) is h = h
  effect fault was e (GoesByRows way count) is h = h
  effect fault was e (Clicks row column) is h = point e row column h
  effect fault was e (Drags row column) is h = drag e row column e.pressed h
  effect fault was e (Wheels way) is h = wheel was e way h
  effect fault was e Marks is h =
      either (is_at_mark e.mark e.place) (record (without_mark e) { message = Some messages.MarkOff })
      (record e { mark = Some e.place; soft = softness.Off; message = Some messages.MarkSet }) h h
  effect fault was e Selects is h = select e e.mark e.soft h
  effect fault was e SelectsAll is h = h
  effect fault was e Unmarks is h = h
  effect fault was e Copies is h = copying e h
  effect fault was e (Seeks purposes.Find) is h = with-search e Begun refl h
  effect fault was e (Seeks purposes.Replace) is h = absurd (cc is)
  effect fault was e SeeksNext is h =
      let free = unselected e in
      either (length (sought d free) == 0) (after_beginning purposes.Find free) (search_from d (next_or_start d free) (sought_alone free))
      (with-search e Begun refl h) (with-search e Off refl h)
  effect fault was e SeeksPrevious is h =
      let free = unselected e in
      either (length (sought d free) == 0) (after_beginning purposes.Find free) (search_back d (sought_alone free))
      (with-search e Begun refl h) (with-search e Off refl h)
  effect fault was e Quits is h =
      either (not e.changed || was.again) (record e { quit_before = true; ended = true }) (record e { quit_before = true; message = Some messages.Unsaved }) h h
  effect fault was e Turns is h = h
  effect fault was e Helps is h = h
  effect fault was e AsksLine is h = with-asked e prompts.Line e.search_state refl h.sought h
  effect fault was e AsksFile is h = with-asked e prompts.File e.search_state refl h.sought h
  effect fault was e AsksOverwrite is h = with-asked e prompts.Overwrite e.search_state refl h.sought h
  effect fault was e Tells is h = h
  effect fault was e Refuses is h = h
  effect fault was e Rests is h = h
  effect fault was e _ is h = absurd (cc is)

  view-key : (e : Editor) (key : Key) → changes_text key ≡ false → is_view_effect (effect_of d e key) ≡ true
  view-key e (Insert c) is = absurd (cc is)
  view-key e NewLine is = absurd (cc is)
  view-key e Erase is = absurd (cc is)
  view-key e ErasePoint is = absurd (cc is)
  view-key e Delete is = absurd (cc is)
  view-key e EraseWord is = absurd (cc is)
  view-key e DeleteWord is = absurd (cc is)
  view-key e Cut is = absurd (cc is)
  view-key e Put is = absurd (cc is)
  view-key e UndoEdit is = absurd (cc is)
  view-key e RedoEdit is = absurd (cc is)
  view-key e Undo is = absurd (cc is)
  view-key e Redo is = absurd (cc is)
  view-key e Replace is = absurd (cc is)
  view-key e NameKey is = absurd (cc is)
  view-key e Save is = absurd (cc is)
  view-key e _ is = refl

  module _ (fault : Option StoreFault) (was : Before) where
    pressed-by : (e : Editor) (key : Key) (changes reads : Bool) → changes_text key ≡ changes → reads ≡ true → IsView e
        → IsView (by d fault was e (if changes && reads then Refuses else effect_of d e key))
    pressed-by e key true true is looked h = h
    pressed-by e key true false is looked h = absurd (cc looked)
    pressed-by e key false reads is looked h = effect fault was e (effect_of d e key) (view-key e key is) h

    pub pressed : (e : Editor) (key : Key) → IsView e → IsView (after_pressing d fault was e key)
    pressed e key h = pressed-by e key (changes_text key) e.read_only refl h.looked h

    -- ---- a character

    pub sought-on : (e x : Editor) (grows : Bool) → IsView x → IsView (search_on d grows x)
    sought-on e x true h = h
    sought-on e x false h = h

    pub typed-query : (e : Editor) → IsView e → Viewed opened e.content e.read_only e.pasted e.prompt Typed e.purpose
    typed-query e h = with-asked e e.prompt Typed h.asked refl h

    pub query-letter : (e : Editor) (c : ℕ) → IsView e → IsView (after_letter d e c)
    query-letter e c h =
        let l = kept e.search_state (query_line e) in
        let longer = with_query e (line_lengthened d longest_query l c) in
        either (is_no_letter d c) e (search_on d (is_at_end l) longer) h (sought-on e longer (is_at_end l) (typed-query e h))

    pub query-end : (e : Editor) → IsView e → IsView (after_sought_end d e)
    query-end e h = subst (λ p. IsView (if is_replacing p then after_asking_replacement d e else without_search e)) (sym h.finds) (unsought e h)

    going : (e : Editor) (target : Option Target) → IsView e → IsView (gone_to d e target)
    going e None h = h
    going e (Some target) h = h

    pub line-letter : (e : Editor) (c : ℕ) → IsView e → IsView (after_answer_letter d fault prompts.Line e c)
    line-letter e c h =
        either (c == 0xA) (after_going d e) (if is_line_letter c then answer_lengthened d longest_line e c else e)
        (going (without_prompt e) (asked (chars e.answer)) (unasked e h)) (either (is_line_letter c) (answer_lengthened d longest_line e c) e h h)

    -- it is stored, or that fails
    saved : (e : Editor) (failed : Option StoreFault) → IsView e → IsView (after_save e failed)
    saved e None h = h
    saved e (Some f) h =
        either (is_changed f.cause) (record e { prompt = prompts.Overwrite }) e (with-asked e prompts.Overwrite e.search_state refl h.sought h) h

    named : (e : Editor) → IsView e → IsView (after_naming fault e)
    named e h =
        let taken = with_answered_name e in
        let left = without_answer e in
        let new = if takes_name e fault then taken else left in
        either (length e.answer == 0) e (after_save new fault) h (saved new fault (either (takes_name e fault) taken left h h))

    pub file-letter : (e : Editor) (c : ℕ) → IsView e → IsView (after_answer_letter d fault prompts.File e c)
    file-letter e c h =
        let more = answer_lengthened d longest_name e c in
        either (c == 0xA) (after_naming fault (without_prompt e)) (if is_no_letter d c then e else more) (named (without_prompt e) (unasked e h))
        (either (is_no_letter d c) e more h h)

    pub taking : (typing : Typing) (c : ℕ) (e new : Editor) → IsView e → IsView new → IsView (after_taking d typing c e new)
    taking typings.Off c e new h k = k
    taking typings.Word c e new h k = k
    taking typings.Blanks c e new h k = k
    taking typings.Erasing c e new h k = k
    taking typings.Deleting c e new h k = k
    taking typings.Paste c e new h k = either (not (ends_line d c)) new e k h
    taking typings.Spent c e new h k = h

  -- ---- what is put in

  search-letter : (search_state : SearchState) (e : Editor) (c : ℕ) → is_view_search search_state ≡ true → IsView e → IsView (typed_in_search d search_state e c)
  search-letter Off e c is h = h
  search-letter Begun e c is h = query-letter None (before e) e c h
  search-letter Typed e c is h = query-letter None (before e) e c h
  search-letter WithBegun e c is h = absurd (cc is)
  search-letter WithTyped e c is h = absurd (cc is)
  search-letter Replacing e c is h = absurd (cc is)

  put-letter : (prompt : Prompt) (search_state : SearchState) (e : Editor) (c : ℕ) → is_view_prompt prompt ≡ true → is_view_search search_state ≡ true
      → IsView e → IsView (typed_in d prompt search_state e c)
  put-letter prompts.Off search_state e c is on h = search-letter search_state e c on h
  put-letter prompts.Line search_state e c is on h = line-letter None (before e) e c h
  put-letter prompts.File search_state e c is on h = file-letter None (before e) e c h
  put-letter prompts.Overwrite search_state e c is on h = h
  put-letter prompts.Name search_state e c is on h = absurd (cc is)
  put-letter prompts.Code search_state e c is on h = absurd (cc is)

  pub line-put : (e : Editor) → IsView e → IsView (after_line_put d e)
  line-put e h =
      in-line-keeps d IsView (record {
        cleared = λ x k. k;
        told = λ x k. k;
        typed = λ x c inside k. put-letter x.prompt x.search_state x c k.asked k.sought k;
      }) e h

  moved-search : (search_state : SearchState) → is_view_search search_state ≡ true → is_view_search (as_typed search_state) ≡ true
  moved-search Off is = refl
  moved-search Begun is = refl
  moved-search Typed is = refl
  moved-search WithBegun is = absurd (cc is)
  moved-search WithTyped is = absurd (cc is)
  moved-search Replacing is = absurd (cc is)

  pub moving : (e : Editor) (text : List ℕ) (m : Move) → IsView e → IsView (after_moving_in d e text m)
  moving e text m h = with-asked e e.prompt (as_typed e.search_state) h.asked (moved-search e.search_state h.sought) h
