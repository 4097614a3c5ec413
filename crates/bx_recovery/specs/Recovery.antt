-- What an edited file holds, compared with the replay of a journal (`FileText`), and the text that is recovered. Where another
-- program changed FILE, the text is recovered as a new file. `d` is Unicode's data, `b` what a session starts with, `s` the session
-- before the journal, and `presses` are those of the journal's bytes.
use Rattle.std.specs.Global.{Vec}
use Rattle.std.specs.Prelude.{◌≡◌, ◌≢◌, ℕ, Bool, true, false, List, [], ◌∷◌, ◌++◌, Contains, Option, codes, length}
use Rattle.std.specs.Fmt.{decimal}
use Rattle.bx_ucd.specs.Data.{Data}
use Rattle.bx_keys.specs.declared.key.Key.{Key}
use Rattle.bx_command.specs.shared.Tables.{AreOfFiles}
use Rattle.bx_command.specs.declared.shared.unicode.UnicodeFiles.{UnicodeFiles}
use Rattle.bx_session.specs.Inputs.{keys_in, presses_from}
use Rattle.bx_session.specs.Session.{Session, StoreState, is_save_press, with_text}
use Rattle.bx_session.specs.Replaying.{after_journal, after_replayed_press}
use Rattle.bx_session.specs.Beginning.{Beginning, at_offset, unpainted_at}
use Rattle.bx_recovery.specs.declared.replaying.FileText.{FileText}
use Rattle.bx_recovery.specs.declared.replaying.FileText.TheVariants.{Same, Known, Foreign}
use Rattle.bx_recovery.specs.declared.replaying.Replayed.{Replayed}

-- the line that tells it: a word, a blank and the number of keys
abbrev pub word_of : FileText → List ℕ
word_of Same = codes "same "
word_of Known = codes "known "
word_of Foreign = codes "foreign "

abbrev pub line_of : Replayed → List ℕ
line_of r = word_of r.held ++ decimal r.keys

-- a text in front of others, if a condition holds
abbrev pub with_text_if : Bool → List ℕ → List (List ℕ) → List (List ℕ)
with_text_if true text texts = text ∷ texts
with_text_if false text texts = texts

-- the text at each key of a journal that stores it, in order, once a paste has ended there: each of them was stored, unless its save
-- failed
abbrev pub texts_at_saves : Data → Session → List (Option Key) → List (List ℕ)
texts_at_saves d s [] = []
texts_at_saves d s (key ∷ presses) =
    let new = after_replayed_press d s key in with_text_if (is_save_press s key) new.editor.content.text (texts_at_saves d new presses)

-- the texts that the session knows of its file: the text at the start of a journal, and the text at each key that stores it
abbrev pub known_texts : Data → Session → List (Option Key) → List (List ℕ)
known_texts d s presses = s.editor.content.text ∷ texts_at_saves d s presses

-- the text after a journal
abbrev pub replayed_text : Data → Session → List (Option Key) → List ℕ
replayed_text d s presses = (after_journal d s presses).editor.content.text

-- what a file of these bytes holds, compared with the session `s` before and after it replays a journal
abbrev pub HoldsBeside : Data → Session → List (Option Key) → List ℕ → FileText → Type 0
HoldsBeside d s presses file Same = file ≡ replayed_text d s presses
HoldsBeside d s presses file Known = (file ≢ replayed_text d s presses) × Contains (known_texts d s presses) file
HoldsBeside d s presses file Foreign = (file ≢ replayed_text d s presses) × ¬ Contains (known_texts d s presses) file

-- The session's text after a journal was stored. `replayed` tells what a file of these bytes holds, and the number of keys in
-- the journal.
pub record RecoversFrom (d : Data) (s : Session) (journal file : List ℕ) (replayed : Replayed) (store store' : StoreState) : Type 0 where
  pub stored : store' ≡ with_text (replayed_text d s (presses_from [] journal)) store
  pub holds : HoldsBeside d s (presses_from [] journal) file replayed.held
  pub keys : replayed.keys ≡ length (keys_in (presses_from [] journal))

-- The text recovered from this start and its journal was stored, by tables that agree with these files. `replayed` tells what a file
-- of the bytes `file` holds, and the number of keys in the journal.
pub record Recovers (b : Beginning) (files : UnicodeFiles (Vec ℕ)) (file : List ℕ) (replayed : Replayed) (store store' : StoreState) : Type 0 where
  pub tables : Data
  pub answers : AreOfFiles tables files
  pub stored : store' ≡ with_text (unpainted_at tables b).editor.content.text store
  pub holds : HoldsBeside tables (at_offset tables b) (presses_from [] b.journal) file replayed.held
  pub keys : replayed.keys ≡ length (keys_in (presses_from [] b.journal))
