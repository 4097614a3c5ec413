-- The replay of a journal, and what comes before the keys of a run. `d` is Unicode's data, `s` the session before.
use Rattle.std.specs.Prelude.{ℕ, true, List, [], ◌∷◌, is_some, Option, Some, None, if◌then◌else◌}
use Rattle.bx_keys.specs.declared.key.Key.{Key}
use Rattle.bx_keys.specs.declared.key.Key.TheVariants.{Quit, Save}
use Rattle.bx_ucd.specs.Data.{Data}
use Rattle.bx_editor.specs.declared.questions.answers.Prompt.{Prompt}
use Rattle.bx_editor.specs.declared.questions.answers.Prompt.TheVariants as prompts
use Rattle.bx_view.specs.Moves.{place_from}
use Rattle.bx_editor.specs.declared.scrolling.Scroll.{Scroll}
use Rattle.bx_editor.specs.Editor.{Editor, cleared, rows, with_place, with_top}
use Rattle.bx_editor.specs.Scrolling.{moved_top, scroll_of}
use Rattle.bx_editor.specs.declared.search_state.SearchState.{SearchState}
use Rattle.bx_editor.specs.declared.search_state.SearchState.TheVariants.{Off}
use Rattle.bx_editor.specs.Keys.{after_key, saving_of}
use Rattle.bx_editor.specs.Putting.{paste_ended}
use Rattle.bx_editor.specs.Replay.{after_passed_answer, after_passed_quit, after_passed_save}
use Rattle.bx_editor.specs.Replay as replay
use Rattle.bx_editor.specs.Picture.{scrolled}
use Rattle.bx_session.specs.Session.{Session, counted_key, session_after_key, with_painting_owed}

-- a key of a journal that stored the text, in this question: it is a name that is answered, or a save
abbrev pub after_passed : Prompt → Key → Editor → Editor
after_passed prompts.File Save e = after_passed_save e
after_passed prompts.File key e = after_passed_answer e
after_passed prompt key e = after_passed_save e

-- A Quit of a journal gives up a search or a question; without one it does nothing but end a paste. `prompt` and `search_state` are what
-- stands once a paste has ended.
abbrev pub after_replayed_quit : Data → Prompt → SearchState → Editor → Editor
after_replayed_quit d prompts.Off Off e = after_passed_quit (paste_ended d e)
after_replayed_quit d prompt search_state e = after_key d None e Quit

-- The effect of a key in a replay. A key that stored the text and a Quit end what any key ends, first a paste, and the former a search
-- and a question too. Neither stores a text, nor ends the session.
abbrev pub after_replayed : Data → Prompt → SearchState → Editor → Key → Editor
after_replayed d prompt search_state e Quit = after_replayed_quit d prompt search_state e
after_replayed d prompt search_state e key =
    if is_some (saving_of e key) then after_passed prompt key (paste_ended d e) else after_key d None e key

-- the same, in the editor's own state of question and search
abbrev pub replayed_on : Data → Editor → Key → Editor
replayed_on d e key = let over = paste_ended d e in after_replayed d over.prompt over.search_state e key

-- the editor with its top moved as a key asked for it
abbrev pub moved_by : Data → Scroll → Editor → Editor
moved_by d scroll e = with_top e (moved_top d e e.top scroll)

-- The editor after a key of a journal. Before it, it scrolls to the cursor, as the painting before that key did in the session, since
-- a key can point at a row of the picture; and behind it, the top moves as that key asks for.
abbrev pub scrolled_on : Data → Editor → Key → Editor
scrolled_on d e key = moved_by d (scroll_of e key) (replayed_on d e key)

-- the editor after keys of a journal in sequence
abbrev pub after_all_replayed : Data → Editor → List Key → Editor
after_all_replayed d e [] = e
after_all_replayed d e (key ∷ keys) = after_all_replayed d (scrolled_on d (scrolled d e) key) keys

-- the session after a key of a journal, in these states of question and search
abbrev pub session_after_replayed_quit : Data → Prompt → SearchState → Session → Session
session_after_replayed_quit d prompts.Off Off s = record s { editor = after_passed_quit (paste_ended d s.editor) }
session_after_replayed_quit d prompt search_state s = session_after_key d None s Quit

abbrev pub session_after_replayed : Data → Prompt → SearchState → Session → Key → Session
session_after_replayed d prompt search_state s Quit = session_after_replayed_quit d prompt search_state s
session_after_replayed d prompt search_state s key =
    if is_some (saving_of s.editor key)
    then record s { editor = after_passed prompt key (paste_ended d s.editor) }
    else session_after_key d None s key

abbrev pub session_replayed_on : Data → Session → Key → Session
session_replayed_on d s key = let over = paste_ended d s.editor in session_after_replayed d over.prompt over.search_state s key

-- the session scrolled to its cursor; nothing is painted
abbrev pub session_scrolled : Data → Session → Session
session_scrolled d s = record s { editor = scrolled d s.editor }

-- the session with its top moved as a key asked for it
abbrev pub session_moved_by : Data → Scroll → Session → Session
session_moved_by d scroll s = record s { editor = moved_by d scroll s.editor }

-- the session after the key of a press, if it has one, before the key moves the top
abbrev pub unmoved_after_key : Data → Session → Option Key → Session
unmoved_after_key d s None = s
unmoved_after_key d s (Some key) = session_replayed_on d (session_scrolled d s) key

-- how such a key moves the top; without a key it stays
abbrev pub moved_behind : Data → Session → Option Key → Session → Session
moved_behind d s None new = new
moved_behind d s (Some key) new = session_moved_by d (scroll_of s.editor key) new

-- the session after the key of a press, if it has one
abbrev pub after_replayed_key : Data → Session → Option Key → Session
after_replayed_key d s key = moved_behind d s key (unmoved_after_key d s key)

-- a press of a journal: its key is applied, and a painting is owed
abbrev pub after_replayed_press : Data → Session → Option Key → Session
after_replayed_press d s key = with_painting_owed (after_replayed_key d s (counted_key s key))

-- the same, where there was no memory for moving the top
abbrev pub unmoved_after_press : Data → Session → Option Key → Session
unmoved_after_press d s key = with_painting_owed (unmoved_after_key d s (counted_key s key))

-- the session after presses of a journal
abbrev pub after_replaying : Data → Session → List (Option Key) → Session
after_replaying d s [] = s
after_replaying d s (key ∷ more) = after_replaying d (after_replayed_press d s key) more

-- the end of a replay, which ends a paste first; a painting is owed
abbrev pub at_unscrolled_end : Data → Session → Session
at_unscrolled_end d s = with_painting_owed (record s { editor = replay.at_replay_end (paste_ended d s.editor) })

-- the end of a replay, from which the session goes on with the row first that a painting would show first
abbrev pub at_replay_end : Data → Session → Session
at_replay_end d s = session_scrolled d (at_unscrolled_end d s)

-- the session after a whole journal
abbrev pub after_journal : Data → Session → List (Option Key) → Session
after_journal d s presses = at_replay_end d (after_replaying d s presses)

-- the cursor goes to the first place at or after an offset, or to the last place, and a painting is owed
abbrev pub after_going : Data → Session → ℕ → Session
after_going d s offset =
    with_painting_owed (record s { editor = with_place (cleared s.editor) (place_from (rows d s.editor) offset) })

-- the text counts as changed, no undo leads to a stored one, and a painting is owed
abbrev pub as_changed : Session → Session
as_changed s = with_painting_owed (record s { editor = record s.editor { stored = None; changed = true } })
