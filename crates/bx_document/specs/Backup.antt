-- A copy of a text with its past and its future, to which a document can return.
use Rattle.std.specs.Prelude.{◌≡◌, IsUtf8}
use Rattle.bx_text.specs.index.Paragraphs.{lengths}
use Rattle.bx_ucd.specs.Data.{Data}
use Rattle.bx_document.specs.declared.backup.Backup.{Backup}
use Rattle.bx_document.specs.Past.{KeepsPlaces}

-- A document can return to this copy: the index belongs to the text, and the history has only places of the text. `ucd` is what
-- the tables say.
pub record IsBackup (ucd : Data) (b : Backup) : Type 0 where
  pub paragraphs : b.index.paragraphs ≡ lengths ucd b.text.edited.text
  pub utf8 : IsUtf8 b.text.edited.text
  pub places : KeepsPlaces ucd b.text.edited
