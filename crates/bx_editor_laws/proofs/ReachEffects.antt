-- What the effects of keys leave of an edit that can be undone.
use Rattle.std.proofs.lemmas.Bool.Decides.{nat_tests}
use Rattle.bx_keys.specs.declared.key.Key.{Key}
use Rattle.bx_store.specs.declared.store.StoreFault.{StoreFault}
use Rattle.bx_text.specs.declared.change.Change.{Change}
use Rattle.bx_document.specs.declared.history.HistoryStep.{HistoryStep}
use Rattle.bx_document.specs.declared.history.HistoryStep.TheVariants as steps
use Rattle.bx_ucd.specs.Data.{Data}
use Rattle.bx_view.specs.declared.moves.Vertical.{Vertical}
use Rattle.bx_view.specs.Moves.{row_home}
use Rattle.bx_editor.specs.declared.answer.Answer.{Answer}
use Rattle.bx_editor.specs.declared.questions.answers.Prompt.TheVariants as prompts
use Rattle.bx_editor.specs.declared.search_state.SearchPurpose.TheVariants as purposes
use Rattle.bx_editor.specs.declared.message.Message.TheVariants as messages
use Rattle.bx_editor.specs.declared.undo_groups.typing.Typing.{Typing}
use Rattle.bx_editor.specs.Answering.{answer_of}
use Rattle.bx_editor.specs.Asking.{with_wrap, without_prompt}
use Rattle.bx_editor.specs.Before.{Before}
use Rattle.bx_document.specs.History.{next_changes}
use Rattle.bx_editor.specs.Keys.{after_pressing}
use Rattle.bx_editor.specs.Keys.{changes_text, effect_of, is_save}
use Rattle.bx_editor.specs.RowMoves.{after_wheel, carried, shows_place, wheel_top}
use Rattle.bx_editor.specs.Saving.{after_save, asking_name, can_save, is_changed}
use Rattle.bx_editor.specs.Saving.{is_nameless, takes_name, with_answered_name, without_answer}
use Rattle.bx_editor.specs.Search.{after_beginning, next_or_start, search_back, search_from, sought, sought_alone}
use Rattle.std.proofs.Common.{◌≡◌, ℕ, ◌+◌, ◌≤◌, Bool, true, false, List, [], ◌∷◌, ◌++◌, length, replicate, refl, ap, ◌∙◌, arith, if◌then◌else◌}
use Rattle.std.specs.Prelude.{◌&&◌, ◌||◌, ◌==◌, not, min, nat_le, nat_lt, encode_utf8, Option, Some, None, is_none}
use Rattle.bx_keys.specs.declared.key.Key.TheVariants.{Insert, Erase, Delete, Cut, Put, Replace, EraseWord, DeleteWord, ErasePoint, NewLine, Save}
use Rattle.bx_text.specs.Edits.{Edit, fits}
use Rattle.bx_editor.specs.undo_groups.Groups.{after_removal, goes_on, goes_on_removing, kind_of}
use Rattle.bx_editor.specs.declared.undo_groups.typing.Kind.{Kind}
use Rattle.bx_editor.specs.declared.undo_groups.typing.Kind.TheVariants as kinds
use Rattle.bx_editor.specs.declared.undo_groups.typing.Removal.{Removal}
use Rattle.bx_editor.specs.declared.message.Message.{Message}
use Rattle.bx_editor.specs.declared.cursor.Soft.{Soft}
use Rattle.bx_editor.specs.declared.cursor.Soft.TheVariants as softness
use Rattle.bx_editor.specs.declared.clicks.Extent.{Extent}
use Rattle.bx_editor.specs.declared.clicks.Extent.TheVariants as extents
use Rattle.bx_editor.specs.declared.clicks.Pressed.{Pressed}
use Rattle.bx_editor.specs.declared.answer.Answer.TheVariants.{Letter, Erases, PutsIn, Replaces}
use Rattle.bx_editor.specs.Editor.{Editor, after_redo, after_step, after_undo, by_group, group_length, rows, stored_behind, text_height}
use Rattle.bx_editor.specs.Editor.{with_exchange, with_insertion, with_removal, with_typing}
use Rattle.bx_editor.specs.Effects.{Effect, Types, BeginsLine, Puts, Removes, RemovesWord, Steps, StepsGroup, Goes, GoesByRows, GoesToRowEnd, Clicks, Drags}
use Rattle.bx_editor.specs.Effects.{Wheels, Marks, Selects, SelectsAll, Unmarks, Copies, Cuts, Seeks, SeeksNext, SeeksPrevious, Saves, Quits, Turns, Helps}
use Rattle.bx_editor.specs.Effects.{AsksLine, AsksName, AsksFile, AsksOverwrite, Tells, Refuses, Rests, by}
use Rattle.bx_editor.specs.Erasing.{after_erasing, after_erasing_word, after_removing, removed_on}
use Rattle.bx_editor.specs.Pointing.{after_drag, after_point, dragged_to, part_at, pointed_place, press_extent, pressed_at, pressing_with, rests_on_unit}
use Rattle.bx_editor.specs.Pointing.{selecting_part, with_word}
use Rattle.bx_editor.specs.Putting.{after_character, after_put, after_tab, as_line, has_room, new_indent, new_line_end, put_in, put_line}
use Rattle.bx_editor.specs.Putting.{puts_line, spaces_on, typed, units_in_line, with_line_put, with_selection_replaced, yielding}
use Rattle.bx_editor.specs.Region.{after_copy, after_cut, bytes_in, held_message, is_at_mark, is_empty, is_selection, is_soft, line, region, selecting, taken}
use Rattle.bx_editor.specs.Region.{unselected, with_held, without_hard_mark, without_mark}
use Rattle.bx_editor.specs.Replacing.{at_match}
use Rattle.bx_editor_laws.specs.StoredLaws.{may_edit}

-- ---- kinds of keys

-- an effect that may edit, and an answer that may
abbrev edits : Effect → Bool
edits (Types c) = true
edits BeginsLine = true
edits Puts = true
edits (Removes how start stop) = true
edits (RemovesWord start stop) = true
edits Cuts = true
edits _ = false

abbrev pub is_typed : Answer → Bool
is_typed (Letter c) = true
is_typed (Erases how) = true
is_typed PutsIn = true
is_typed Replaces = true
is_typed _ = false

abbrev is_saves : Effect → Bool
is_saves Saves = true
is_saves _ = false

pub edit-key : (d : Data) (e : Editor) (key : Key) → edits (effect_of d e key) ≡ true → may_edit key ≡ true
edit-key d e (Insert c) is = refl
edit-key d e NewLine is = refl
edit-key d e Erase is = refl
edit-key d e ErasePoint is = refl
edit-key d e Delete is = refl
edit-key d e EraseWord is = refl
edit-key d e DeleteWord is = refl
edit-key d e Cut is = refl
edit-key d e Put is = refl
edit-key d e _ is = absurd (cc is)

pub typed-key : (key : Key) → is_typed (answer_of key) ≡ true → may_edit key ≡ true
typed-key (Insert c) is = refl
typed-key NewLine is = refl
typed-key Erase is = refl
typed-key ErasePoint is = refl
typed-key Delete is = refl
typed-key EraseWord is = refl
typed-key DeleteWord is = refl
typed-key Put is = refl
typed-key Replace is = refl
typed-key _ is = absurd (cc is)

saves-key : (d : Data) (e : Editor) (key : Key) → is_saves (effect_of d e key) ≡ is_save key
saves-key d e Save = refl
saves-key d e _ = refl

pub either : (P : Editor → Type 0) (b : Bool) (p q : Editor) → P p → P q → P (if b then p else q)
either P true p q h k = h
either P false p q h k = k

module _ (n : ℕ) (d : Data) where
  -- the stored text is in reach, and `InPast` behind the text or at it
  abbrev pub InReach : Editor → Type 0
  InReach e = e.stored ≡ Some n

  abbrev pub InPast : Editor → Type 0
  InPast e = InReach e × (n ≤ length e.content.past)

  -- ---- edits behind it

  kept-behind : (m : ℕ) (stored : Option ℕ) → stored ≡ Some n → n ≤ m → stored_behind m stored ≡ Some n
  kept-behind m stored is few =
      let no : nat_lt m n ≡ false = grind (arith, nat_tests, few) in ap (stored_behind m) is ∙ ap (λ b. if b then None else Some n) no

  pub insertion : (e : Editor) (new : List ℕ) (on : Bool) → InPast e → InPast (with_insertion d e new on)
  insertion e new on h = (kept-behind (length e.content.past) e.stored h.0 h.1, omega (arith, h.1))

  lined : (e : Editor) (new : List ℕ) → InPast e → InPast (with_line_put d e new)
  lined e new h = (kept-behind (length e.content.past) e.stored h.0 h.1, omega (arith, h.1))

  removal : (e : Editor) (start stop : ℕ) (on : Bool) → InPast e → InPast (with_removal d e start stop on)
  removal e start stop on h = (kept-behind (length e.content.past) e.stored h.0 h.1, omega (arith, h.1))

  pub wrapping : (e : Editor) (opener closer : List ℕ) → InPast e → InPast (with_wrap d e opener closer)
  wrapping e opener closer h = (kept-behind (length e.content.past) e.stored h.0 h.1, omega (arith, h.1))

  pub replacing : (e : Editor) (new : List ℕ) → InPast e → InPast (with_selection_replaced d e new)
  replacing e new h =
      let without = with_removal d e (region e).0 (region e).1 false in
      insertion without new true (removal e (region e).0 (region e).1 false h)

  putting : (e : Editor) (new : List ℕ) (on : Bool) → InPast e → InPast (put_in d e new on)
  putting e new on h =
      let two = with_selection_replaced d e new in
      let one = with_insertion d e new on in
      either InPast (has_room e new) (if is_selection e then two else one) (record e { message = Some messages.TextFull })
      (either InPast (is_selection e) two one (replacing e new h) (insertion e new on h)) h

  typing-in : (typing : Typing) (e : Editor) (new : List ℕ) (kind : Kind) → InPast e → InPast (typed d typing e new kind)
  typing-in typing e new kind h = putting e new (goes_on typing kind) h

  tab : (typing : Typing) (e : Editor) → InPast e → InPast (after_tab d typing e)
  tab typing e h =
      let spaces = replicate (spaces_on e.tab_width (units_in_line d e (yielding e).0)) 0x20 in
      either InPast (e.tab_width == 0) (typed d typing e (encode_utf8 0x9) (kind_of (d.class 0x9))) (typed d typing e spaces kinds.Blank)
      (typing-in typing e (encode_utf8 0x9) (kind_of (d.class 0x9)) h) (typing-in typing e spaces kinds.Blank h)

  character : (typing : Typing) (e : Editor) (c : ℕ) → InPast e → InPast (after_character d typing e c)
  character typing e c h =
      either InPast (c == 0x9) (after_tab d typing e) (typed d typing e (encode_utf8 c) (kind_of (d.class c))) (tab typing e h)
      (typing-in typing e (encode_utf8 c) (kind_of (d.class c)) h)

  line-over : (e : Editor) (new : List ℕ) → InPast e → InPast (put_line d e new)
  line-over e new h =
      either InPast (fits e.content.text (line d e).0 (line d e).0 new) (with_line_put d e new) (record e { message = Some messages.TextFull })
      (lined e new h) h

  put : (e : Editor) → InPast e → InPast (after_put d e)
  put e h =
      let over = put_line d e (as_line d e e.held) in
      let here = put_in d e e.held false in
      either InPast (length e.held == 0) (record e { message = Some messages.NothingToPut }) (if puts_line e then over else here) h
      (either InPast (puts_line e) over here (line-over e (as_line d e e.held) h) (putting e e.held false h))

  instead : (e other : Editor) → InPast e → InPast other
      → InPast (if is_selection e then with_removal d e (region e).0 (region e).1 false else other)
  instead e other h k =
      either InPast (is_selection e) (with_removal d e (region e).0 (region e).1 false) other
      (removal e (region e).0 (region e).1 false h) k

  erasing : (typing : Typing) (how : Removal) (e : Editor) (start stop : ℕ) → InPast e → InPast (after_erasing d typing how e start stop)
  erasing typing how e start stop h =
      let on = goes_on_removing typing how in
      instead e (removed_on d typing how e start stop) h
      (either InPast (start == stop) e (record (with_removal d e start stop on) { typing = after_removal how }) h
      (removal e start stop on h))

  erasing-word : (e : Editor) (start stop : ℕ) → InPast e → InPast (after_erasing_word d e start stop)
  erasing-word e start stop h =
      instead e (after_removing d e start stop false) h
      (either InPast (start == stop) e (with_removal d e start stop false) h (removal e start stop false h))

  pub exchange : (e : Editor) (start stop : ℕ) (new : List ℕ) → InPast e → InPast (with_exchange d e start stop new)
  exchange e start stop [] h = removal e start stop false h
  exchange e start stop (b ∷ bs) h = (kept-behind (length e.content.past) e.stored h.0 h.1, omega (arith, h.1))

  -- what leaves text, history and what was stored leaves each of the two
  copying : (P : Editor → Type 0) (e : Editor) → ((x : Editor) (message : Option Message) (held : List ℕ) (whole : Bool) → P x
      → P (record x { message = message; held = held; whole_line = whole })) → P e → P (without_mark e) → P (after_copy d e)
  copying P e told h unmarked =
      let soft = without_hard_mark e in
      let k : P soft = either P (is_soft e.soft) e (without_mark e) h unmarked in
      let nothing : Editor = record soft { message = Some messages.NothingToCopy } in
      let line_held = with_held e (bytes_in e (line d e)) true messages.LineCopied in
      let region_held = with_held e (bytes_in e (region e)) false messages.Copied in
      either P (is_empty (region e)) (if is_empty (line d e) then nothing else line_held) region_held
      (either P (is_empty (line d e)) nothing line_held (told soft (Some messages.NothingToCopy) soft.held soft.whole_line k)
      (told soft (held_message e.clipboard (bytes_in e (line d e)) (Some messages.LineCopied)) (bytes_in e (line d e)) true k))
      (told soft (held_message e.clipboard (bytes_in e (region e)) (Some messages.Copied)) (bytes_in e (region e)) false k)

  cut : (e : Editor) → InPast e → InPast (after_cut d e)
  cut e h =
      let part = taken d e in
      let held = bytes_in e part in
      let without = with_removal d e part.0 part.1 false in
      let gone = record without { held = held; whole_line = is_empty (region e); message = held_message e.clipboard held (Some messages.Cut) } in
      either InPast (is_empty part) (after_copy d e) gone (copying InPast e (λ x message text whole k. k) h h) (removal e part.0 part.1 false h)

  -- ---- keys that edit nothing

  undo : (e : Editor) (past : List Edit) → InReach e → InReach (after_undo e past)
  undo e [] h = h
  undo e (edit ∷ past) h = h

  redo : (e : Editor) (future : List Edit) → InReach e → InReach (after_redo e future)
  redo e [] h = h
  redo e (edit ∷ future) h = h

  step : (way : HistoryStep) (e : Editor) → InReach e → InReach (after_step way e)
  step steps.Undo e h = undo e e.content.past h
  step steps.Redo e h = redo e e.content.future h

  run-by : (way : HistoryStep) (e : Editor) (change : Option Change) → InReach e → InReach (by_group way e change)
  run-by way e None h = h
  run-by way e (Some change) h = h

  select : (e : Editor) (mark : Option ℕ) (soft : Soft) → InReach e → InReach (selecting e mark soft)
  select e None soft h = h
  select e (Some mark) softness.Off h = h
  select e (Some mark) softness.Fresh h = h
  select e (Some mark) softness.Old h = h

  -- ---- clicks, drags and the wheel

  word : (e : Editor) (part : ℕ × ℕ) → InReach e → InReach (with_word e part)
  word e part h =
      either InReach (is_empty part) (record e { mark = None; soft = softness.Off; place = part.0 }) (selecting_part e part.0 part.1) h h

  first : (e : Editor) (row column place : ℕ) (soft : Soft) → InReach e → InReach (pressing_with d e row column place soft)
  first e row column place softness.Fresh h = h
  first e row column place softness.Off h = h
  first e row column place softness.Old h = h

  press-at : (e : Editor) (row column place : ℕ) (extent : Extent) → InReach e → InReach (pressed_at d e row column place extent)
  press-at e row column place extents.Unit h = first e row column place e.soft h
  press-at e row column place extents.Word h = word e (part_at d e extents.Word place) h
  press-at e row column place extents.Paragraph h = h

  point : (e : Editor) (row column : ℕ) → InReach e → InReach (after_point d e row column)
  point e row column h =
      let place = pointed_place d e row column in
      let extent = press_extent e.clicks row column in
      either InReach (nat_le row (text_height e.height)) (pressed_at d e row column place extent)
      (record (unselected e) { clicks = None; pressed = None }) (press-at e row column place extent h) h

  drag-to : (e : Editor) (pressed : Pressed) (part : ℕ × ℕ) → InReach e → InReach (dragged_to e pressed part)
  drag-to e pressed part h =
      let on = selecting_part e pressed.start part.1 in
      let back = selecting_part e pressed.stop part.0 in
      either InReach (rests_on_unit e pressed part) e (if nat_le pressed.start part.0 then on else back) h
      (either InReach (nat_le pressed.start part.0) on back h h)

  drag : (e : Editor) (row column : ℕ) (pressed : Option Pressed) → InReach e → InReach (after_drag d e row column pressed)
  drag e row column None h = point e row column h
  drag e row column (Some pressed) h =
      let place = pointed_place d e (min row (text_height e.height + 1)) column in drag-to e pressed (part_at d e pressed.extent place) h

  pub wheel : (was : Before) (e : Editor) (way : Vertical) → InReach e → InReach (after_wheel d was e way)
  wheel was e way h =
      let top = wheel_top d e way in
      let still : Editor = record e { message = was.message } in
      either InReach (shows_place d e top) (if top == row_home (rows d e) e.top then still else e) (carried d e top)
      (either InReach (top == row_home (rows d e) e.top) still e h h) h

  pub wheel-past : (was : Before) (e : Editor) (way : Vertical) → InPast e → InPast (after_wheel d was e way)
  wheel-past was e way h =
      let top = wheel_top d e way in
      let still : Editor = record e { message = was.message } in
      either InPast (shows_place d e top) (if top == row_home (rows d e) e.top then still else e) (carried d e top)
      (either InPast (top == row_home (rows d e) e.top) still e h h) h

  -- ---- saves that store nothing

  save : (e : Editor) (fault : Option StoreFault) → is_none fault ≡ false → InReach e → InReach (after_save e fault)
  save e None fails h = absurd (cc fails)
  save e (Some fault) fails h = either InReach (is_changed fault.cause) (record e { prompt = prompts.Overwrite }) e h h

  saved : (e : Editor) (fault : Option StoreFault) (nameless : Bool) → (not nameless && is_none fault) ≡ false → InReach e
      → InReach (if nameless then asking_name e else after_save e fault)
  saved e fault true fails h = h
  saved e fault false fails h = save e fault fails h

  refused-save : (fault : Option StoreFault) (was : Before) (e : Editor) (reads : Bool) → (not (reads || is_nameless e) && is_none fault) ≡ false
      → InReach e → InReach (by d fault was e (if reads then Refuses else Saves))
  refused-save fault was e true fails h = h
  refused-save fault was e false fails h = saved e fault (is_nameless e) fails h

  named-save : (e : Editor) (fault : Option StoreFault) (takes : Bool) → is_none fault ≡ false → InReach e
      → InReach (after_save (if takes then with_answered_name e else without_answer e) fault)
  named-save e fault true fails h = save (with_answered_name e) fault fails h
  named-save e fault false fails h = save (without_answer e) fault fails h

  pub naming : (e : Editor) (fault : Option StoreFault) (empty : Bool) → (not empty && is_none fault) ≡ false → InReach e
      → InReach (if empty then e else after_save (if takes_name e fault then with_answered_name e else without_answer e) fault)
  naming e fault true fails h = h
  naming e fault false fails h = named-save e fault (takes_name e fault) fails h

  pub deciding : (e : Editor) (fault : Option StoreFault) (typing : Typing) (pasted confirmed reads nameless : Bool)
      → ((confirmed && not pasted && not (reads || nameless)) && is_none fault) ≡ false → InReach e
      → let x = without_prompt e in
      InReach (
      if pasted
      then with_typing e typing
      else (if confirmed then (if reads then record x { message = Some messages.ViewOnly } else (if nameless then asking_name x else after_save x fault)) else x)
      )
  deciding e fault typing true confirmed reads nameless fails h = h
  deciding e fault typing false false reads nameless fails h = h
  deciding e fault typing false true true nameless fails h = h
  deciding e fault typing false true false true fails h = h
  deciding e fault typing false true false false fails h = save (without_prompt e) fault fails h

  pub at-match : (e : Editor) (at : Option ℕ) → InReach e → InReach (at_match d e at)
  at-match e None h = h
  at-match e (Some at) h = h

  -- ---- each effect

  module _ (fault : Option StoreFault) (was : Before) where
    effect : (e : Editor) (one : Effect) → InReach e → (edits one ≡ true → InPast e) → is_saves one ≡ false → InReach (by d fault was e one)
    effect e (Types c) h p quiet = (character was.typing e c (p refl)).0
    effect e BeginsLine h p quiet = (typing-in was.typing e (new_line_end d e ++ new_indent d e) kinds.Separator (p refl)).0
    effect e Puts h p quiet = (put e (p refl)).0
    effect e (Removes how start stop) h p quiet = (erasing was.typing how e start stop (p refl)).0
    effect e (RemovesWord start stop) h p quiet = (erasing-word e start stop (p refl)).0
    effect e (Steps way) h p quiet = step way e h
    effect e (StepsGroup way) h p quiet = run-by way e (next_changes way (group_length way e) e.content) h
    effect e (Goes place) h p quiet = h
    effect e (GoesToRowEnd place) h p quiet = h
    effect e (GoesByRows way count) h p quiet = h
    effect e (Clicks row column) h p quiet = point e row column h
    effect e (Drags row column) h p quiet = drag e row column e.pressed h
    effect e (Wheels way) h p quiet = wheel was e way h
    effect e Marks h p quiet =
        either InReach (is_at_mark e.mark e.place) (record (without_mark e) { message = Some messages.MarkOff })
        (record e { mark = Some e.place; soft = softness.Off; message = Some messages.MarkSet }) h h
    effect e Selects h p quiet = select e e.mark e.soft h
    effect e SelectsAll h p quiet = h
    effect e Unmarks h p quiet = h
    effect e Copies h p quiet = copying InReach e (λ x message text whole k. k) h h
    effect e Cuts h p quiet = (cut e (p refl)).0
    effect e (Seeks purpose) h p quiet = h
    effect e SeeksNext h p quiet =
        let free = unselected e in
        either InReach (length (sought d free) == 0) (after_beginning purposes.Find free) (search_from d (next_or_start d free) (sought_alone free)) h h
    effect e SeeksPrevious h p quiet =
        let free = unselected e in
        either InReach (length (sought d free) == 0) (after_beginning purposes.Find free) (search_back d (sought_alone free)) h h
    effect e Saves h p quiet = absurd (cc quiet)
    effect e Quits h p quiet =
        either InReach (not e.changed || was.again) (record e { quit_before = true; ended = true })
        (record e { quit_before = true; message = Some messages.Unsaved }) h h
    effect e Turns h p quiet = h
    effect e Helps h p quiet = h
    effect e AsksLine h p quiet = h
    effect e AsksName h p quiet = h
    effect e AsksFile h p quiet = h
    effect e AsksOverwrite h p quiet = h
    effect e Tells h p quiet = h
    effect e Refuses h p quiet = h
    effect e Rests h p quiet = h

    allowed : (e : Editor) (refuses : Bool) (one : Effect) → InReach e → (edits one ≡ true → InPast e) → is_saves one ≡ false
        → InReach (by d fault was e (if refuses then Refuses else one))
    allowed e true one h p quiet = h
    allowed e false one h p quiet = effect e one h p quiet

    -- a key that stores nothing
    pub pressed : (e : Editor) (key : Key) → InReach e → (may_edit key ≡ true → InPast e) → ((is_save key && can_save e) && is_none fault) ≡ false
        → InReach (after_pressing d fault was e key)
    pressed e Save h p fails = refused-save fault was e e.read_only fails h
    pressed e key h p fails =
        allowed e (changes_text key && e.read_only) (effect_of d e key) h (λ is. p (edit-key d e key is)) (saves-key d e key)
