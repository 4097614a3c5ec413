-- Recovery: what the replay of a session's bytes gives back. `had` and `old` are of the session that was run, `replayed` is the
-- one that replays its presses. `d` is Unicode's data, `e` an editor, `s` a session, `b` what a session starts with.
use Rattle.std.specs.Prelude.{◌≡◌, ◌≢◌, ◌⊎◌, ℕ, Bool, true, false, List, [], ◌∷◌, All, Err, Option, Some, None, IfSome}
use Rattle.bx_common.specs.declared.base.Base.{Base}
use Rattle.bx_keys.specs.Keys.{decoding}
use Rattle.bx_keys.specs.declared.key.Key.{Key}
use Rattle.bx_keys.specs.declared.key.Key.TheVariants.{Drag, Point, ScrollBack, ScrollOn}
use Rattle.bx_store.specs.declared.store.StoreFault.{StoreFault}
use Rattle.bx_ucd.specs.Data.{Data}
use Rattle.bx_editor.specs.declared.questions.answers.Prompt.TheVariants as prompts
use Rattle.bx_editor.specs.declared.undo_groups.typing.Typing.TheVariants as typings
use Rattle.bx_editor.specs.Editor.{Editor, at_start}
use Rattle.bx_editor.specs.Functions.{HasRows}
use Rattle.bx_editor.specs.Putting.{paste_ended}
use Rattle.bx_editor.specs.Prompts.{HasOnePrompt}
use Rattle.bx_editor.specs.Saving.{is_changed, is_nameless}
use Rattle.bx_editor.specs.Settings.{SettingsState}
use Rattle.bx_editor.specs.declared.search_state.SearchState.TheVariants.{Off}
use Rattle.bx_session.specs.declared.status.Refused.TheVariants as refused
use Rattle.bx_session.specs.declared.journal.Backlog.TheVariants.{Empty}
use Rattle.bx_session.specs.Beginning.{Beginning, at_offset, begun, unpainted_at}
use Rattle.bx_session.specs.Journal.{RecorderState, RunsRecorded}
use Rattle.bx_session.specs.Laws.{after_journal, after_replaying}
use Rattle.bx_session.specs.Running.{PressAnswer, PressesAll, presses_in}
use Rattle.bx_session.specs.Inputs.{keys_in, presses_from, rest_from}
use Rattle.bx_editor.specs.Picture.{scrolled}
use Rattle.bx_session.specs.Session.{StoreState, Session, at_opening, is_save_press, with_settings}
use Rattle.bx_session.specs.Replaying.{after_all_replayed, after_replayed_press, at_replay_end}

-- no key was refused because memory ran out
abbrev pub RefusesNoKey : List PressAnswer → Type 0
RefusesNoKey answered = All (λ (a : PressAnswer). a.1 ≢ Err refused.Edit) answered

-- no painting was refused because memory ran out
abbrev pub RefusesNoPainting : List PressAnswer → Type 0
RefusesNoPainting answered = All (λ (a : PressAnswer). a.1 ≢ Err refused.Paint) answered

-- a save failed because another program changed the file
abbrev pub finds_change : Option StoreFault → Bool
finds_change None = false
finds_change (Some fault) = is_changed fault.cause

-- No save found that another program changed the file. Where one does, the session asks whether to overwrite the file. A replay stores
-- nothing, so it finds nothing: there only the key that whoever keeps a journal writes behind such a save asks.
abbrev pub FindsNoChange : (d : Data) (old : Session) (store : StoreState) (answered : List PressAnswer) (new : Session) (store' : StoreState)
    → PressesAll d old store answered new store' → Type 0
FindsNoChange d old store [] new store' feeds = Unit {0}
FindsNoChange d old store (a ∷ answered) new store' feeds =
    (is_save_press old a.0 ≡ true → finds_change feeds.3.0 ≡ false) × FindsNoChange d feeds.0 feeds.1 answered new store' feeds.5

-- a key whose effect rests on the row that is shown first: it points at a cell of the picture, or moves the view
abbrev pub rests_on_top : Key → Bool
rests_on_top (Point row column) = true
rests_on_top (Drag row column) = true
rests_on_top ScrollBack = true
rests_on_top ScrollOn = true
rests_on_top _ = false

-- before each press the text is UTF-8 and the window has from 1 to 500 columns, as in every session of the code
abbrev pub HaveRows : (d : Data) (old : Session) (store : StoreState) (answered : List PressAnswer) (new : Session) (store' : StoreState)
    → PressesAll d old store answered new store' → Type 0
HaveRows d old store [] new store' feeds = Unit {0}
HaveRows d old store (a ∷ answered) new store' feeds = HasRows old.editor × HaveRows d feeds.0 feeds.1 answered new store' feeds.5

-- A replay takes the rows of the picture as the session did: no key rests on the row that is shown first, or no painting was refused.
-- After a refused painting the session's picture stands at the row first at which it stood, and the replay's does not.
abbrev pub PointsAsSeen : (d : Data) (old : Session) (store : StoreState) (answered : List PressAnswer) (new : Session) (store' : StoreState)
    → PressesAll d old store answered new store' → Type 0
PointsAsSeen d old store answered new store' feeds =
    All (λ key. rests_on_top key ≡ false) (keys_in (presses_in answered))
    ⊎ (RefusesNoPainting answered × HaveRows d old store answered new store' feeds)

-- the session once a paste that is under way has ended
abbrev pub once_pasted : Data → Session → Session
once_pasted d s = record s { editor = paste_ended d s.editor }

-- where saves go to a file, the text has a name, if its session has one
abbrev pub IsNamed : Editor → Type 0
IsNamed e = e.home ≡ true → is_nameless e ≡ false

-- The names of a session that was run and of the one that replays its bytes. A replay stores nothing, so where a save under another name
-- succeeded it keeps the name before.
pub record NamesAgree (had replayed : Editor) : Type 0 where
  -- both texts have no name yet, or neither
  pub nameless : is_nameless replayed ≡ is_nameless had
  -- as long as saves go to no file, the name is the same
  pub name : had.home ≡ false → (replayed.home ≡ false) × (replayed.name ≡ had.name)
  pub had_file : IsNamed had
  pub replayed_file : IsNamed replayed

-- A replayed session has, of the session that was run: text with past and future, runs, cursor's place, mark, softness, presses, held
-- bytes, query with what it was sought for, the text that replaces matches, what a paste has brought, direction, kept column, window
-- and settings. It has not ended. (What waits of the input is a function of the bytes: `rest_from`.)
pub record HasBack (had replayed : Session) : Type 0 where
  pub content : replayed.editor.content ≡ had.editor.content
  pub undo_groups : replayed.editor.undo_groups ≡ had.editor.undo_groups
  pub place : replayed.editor.place ≡ had.editor.place
  pub mark : replayed.editor.mark ≡ had.editor.mark
  pub soft : replayed.editor.soft ≡ had.editor.soft
  pub clicks : replayed.editor.clicks ≡ had.editor.clicks
  pub pressed : replayed.editor.pressed ≡ had.editor.pressed
  pub held : replayed.editor.held ≡ had.editor.held
  pub whole_line : replayed.editor.whole_line ≡ had.editor.whole_line
  pub query : replayed.editor.query ≡ had.editor.query
  pub purpose : replayed.editor.purpose ≡ had.editor.purpose
  pub replacement : replayed.editor.replacement ≡ had.editor.replacement
  pub pasted : replayed.editor.pasted ≡ had.editor.pasted
  pub base : replayed.editor.base ≡ had.editor.base
  pub goal : replayed.editor.goal ≡ had.editor.goal
  pub height : replayed.editor.height ≡ had.editor.height
  pub width : replayed.editor.width ≡ had.editor.width
  pub read_only : replayed.editor.read_only ≡ had.editor.read_only
  pub auto_indent : replayed.editor.auto_indent ≡ had.editor.auto_indent
  pub tab_width : replayed.editor.tab_width ≡ had.editor.tab_width
  pub names : NamesAgree had.editor replayed.editor
  pub goes_on : replayed.editor.ended ≡ false

-- a paste that goes into the text is alone: nothing is asked or sought
abbrev pub PastesAlone : Editor → Type 0
PastesAlone e = e.pasted ≢ None → (e.prompt ≡ prompts.Off) × (e.search_state ≡ Off)

-- In the middle of a replay it has also the states of search and question, of which at most one is on, the place at which the
-- search began, the match that is shown and the number of those that were replaced, the answer, the cursor in what is typed at a prompt,
-- and what the next edit may go on with.
pub record HasBackMidway (had replayed : Session) : Type 0 where
  pub parts : HasBack had replayed
  pub search_state : replayed.editor.search_state ≡ had.editor.search_state
  pub origin : replayed.editor.origin ≡ had.editor.origin
  pub at : replayed.editor.at ≡ had.editor.at
  pub count : replayed.editor.count ≡ had.editor.count
  pub prompt : replayed.editor.prompt ≡ had.editor.prompt
  pub answer : replayed.editor.answer ≡ had.editor.answer
  pub input_cursor : replayed.editor.input_cursor ≡ had.editor.input_cursor
  pub one : HasOnePrompt had.editor
  pub alone : PastesAlone had.editor
  pub typing : replayed.editor.typing ≡ had.editor.typing

-- The picture of the session that was run is painted, and until its end the replayed one scrolls to the same row first.
pub record HasTop (d : Data) (had replayed : Session) : Type 0 where
  pub painted : had.painting_owed ≡ false
  pub top : had.editor.ended ≡ false → (scrolled d replayed.editor).top ≡ had.editor.top

-- The end of a replay would change nothing here but which text counts as stored, and this only where the text counts as
-- unchanged: no search is on, nothing is asked, no paste is under way, the next edit begins a run, and no undo leads from a changed
-- text to a stored one.
pub record IsSettled (e : Editor) : Type 0 where
  pub search_state : e.search_state ≡ Off
  pub prompt : e.prompt ≡ prompts.Off
  pub pasted : e.pasted ≡ None
  pub typing : e.typing ≡ typings.Off
  pub stored : e.changed ≡ true → e.stored ≡ None

-- the state after a replay of a session's bytes
pub record RecoveryGivesBack : Type 0 where
  -- replayed over the opened text, the presses restore the session, if no key was refused, wherever it saved and even if it quit; a
  -- paste that is under way ends
  pub gives_back : (d : Data) (text : List ℕ) (height width : ℕ) (base : Base) (store store' : StoreState) (answered : List PressAnswer)
      (new : Session) → let opened = at_opening d text height width base in (feeds : PressesAll d opened store answered new store') → RefusesNoKey answered
      → FindsNoChange d opened store answered new store' feeds → PointsAsSeen d opened store answered new store' feeds
      → HasBack (once_pasted d new) (after_journal d opened (presses_in answered))
  -- and so they do under settings, which the replay has too
  pub gives_back_set : (d : Data) (text : List ℕ) (height width : ℕ) (base : Base) (settings : SettingsState) (store store' : StoreState)
      (answered : List PressAnswer) (new : Session) → let opened = with_settings d (at_opening d text height width base) settings in
      (feeds : PressesAll d opened store answered new store') → RefusesNoKey answered
      → FindsNoChange d opened store answered new store' feeds → PointsAsSeen d opened store answered new store' feeds
      → HasBack (once_pasted d new) (after_journal d opened (presses_in answered))
  -- the same from any start at which the two sessions agree, in a search, a question or a paste too: such a start comes after the
  -- cursor was sent to a line, or after a recovery from a journal that leaves the editor settled
  pub keeps_up : (d : Data) (old replayed : Session) (store store' : StoreState) (answered : List PressAnswer) (new : Session)
      → HasBackMidway old replayed → (feeds : PressesAll d old store answered new store') → RefusesNoKey answered
      → FindsNoChange d old store answered new store' feeds → HasTop d old replayed
      → PointsAsSeen d old store answered new store' feeds → HasBackMidway new (after_replaying d replayed (presses_in answered))
  -- and, where no painting was refused, with the same row first
  pub keeps_top : (d : Data) (old replayed : Session) (store store' : StoreState) (answered : List PressAnswer) (new : Session)
      → HasBackMidway old replayed → (feeds : PressesAll d old store answered new store') → RefusesNoKey answered
      → FindsNoChange d old store answered new store' feeds → HasTop d old replayed → RefusesNoPainting answered
      → HaveRows d old store answered new store' feeds
      → HasTop d new (after_replaying d replayed (presses_in answered))
  -- the end of the replay ends a search, a question or a paste and changes none of these parts else
  pub ends : (d : Data) (new replayed : Session) → HasBackMidway new replayed → HasBack (once_pasted d new) (at_replay_end d replayed)
  -- before any key of a journal the editor is settled, and so it is after each key that stores the text: a Save, or an answer
  pub settled_first : (d : Data) (b : Beginning) → IsSettled (at_offset d b).editor
  pub save_settles : (d : Data) (s : Session) (key : Option Key) → is_save_press s key ≡ true → IsSettled (after_replayed_press d s key).editor
  -- in every case the replay of bytes applies all their keys, even those that the session refused
  pub applies_all : (d : Data) (text : List ℕ) (height width : ℕ) (base : Base) (bytes : List ℕ)
      → (after_replaying d (at_opening d text height width base) (presses_from [] bytes)).editor
      ≡ after_all_replayed d (at_start text height width base) (decoding bytes).keys
  pub applies_all_set : (d : Data) (text : List ℕ) (height width : ℕ) (base : Base) (settings : SettingsState) (bytes : List ℕ)
      → let opened = with_settings d (at_opening d text height width base) settings in
      (after_replaying d opened (presses_from [] bytes)).editor ≡ after_all_replayed d opened.editor (decoding bytes).keys

-- ---- from a journal

-- the journal has these bytes, and none is missing
pub record HasAll {J : Type 0} (contents : J → Option (List ℕ)) (recorder : RecorderState J) (bytes : List ℕ) : Type 0 where
  pub bytes_are : contents recorder.journal ≡ Some bytes
  pub none_missing : recorder.backlog ≡ Empty

-- a text that counts as unchanged is the opened one, or what the store has
abbrev pub IsKnown : List ℕ → StoreState → Editor → Type 0
IsKnown text store e = e.changed ≡ false → (e.content.text ≡ text) ⊎ IfSome store.contents (λ stored. stored ≡ e.content.text)

-- A replay of a session over this text counts as changed wherever the session does, once a paste that is under way has ended. It
-- counts as unchanged only with the opened text and no past: no key edited, or an undo of a run led back.
pub record TellsChanges (text : List ℕ) (store : StoreState) (had replayed : Session) : Type 0 where
  pub changed : had.editor.changed ≡ true → replayed.editor.changed ≡ true
  pub unchanged : replayed.editor.changed ≡ false → (replayed.editor.content.text ≡ text) × (replayed.editor.content.past ≡ [])
  pub known : IsKnown text store had.editor

-- A run starts from `b`: its journal had the bytes that were replayed, which left the editor settled; after the run it has
-- `bytes`. If none is missing, no key was refused, no save found the file changed and the rows of the picture were taken as seen, a replay
-- of `bytes` over the opened text restores the session, and leaves the same bytes waiting, whatever was typed after the session's end.
abbrev pub JournalsGiveBack : {J : Type 0} → (J → Option (List ℕ)) → (J → ℕ) → Type 0
JournalsGiveBack {J} contents failures =
    (d : Data) (b : Beginning) (new : Session) (store store' : StoreState) (reader reader' writer writer' : Option (List ℕ))
    (journal journal' : RecorderState J) (bytes : List ℕ)
    (rest : List ℕ) (run : RunsRecorded contents failures d (rest_from [] b.journal) rest (begun d b) new store store' reader reader' writer writer'
    journal journal')
    → HasAll contents journal b.journal → IsSettled (after_replaying d (at_offset d b) (presses_from [] b.journal)).editor → HasAll contents journal' bytes
    → RefusesNoKey run.1 → FindsNoChange d (begun d b) store run.1 run.4 store' run.5.feeds
    → PointsAsSeen d (begun d b) store run.1 run.4 store' run.5.feeds
    → let replayed = unpainted_at d (record b { journal = bytes }) in
    HasBack (once_pasted d new) replayed × TellsChanges b.text store' (once_pasted d new) replayed × (rest ≡ rest_from [] bytes)
