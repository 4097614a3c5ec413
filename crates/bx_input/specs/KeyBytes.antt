-- The bytes by which `bx_keys` (specs/Keys.antt) knows a key. The session reads these.
use Rattle.std.specs.Prelude.{ℕ, List, [], ◌∷◌, ◌++◌, codes, decimal, encode_utf8}
use Rattle.bx_keys.specs.declared.key.Key.{Key}
use Rattle.bx_keys.specs.declared.key.Key.TheVariants as keys
use Rattle.bx_keys.specs.declared.notice.Notice.{Notice}
use Rattle.bx_keys.specs.declared.notice.Notice.TheVariants as notices
use Rattle.bx_input.specs.Table.{csi}

-- the bytes of two sides, by what the number before them says that they are
abbrev pub sides_bytes : List ℕ → ℕ → ℕ → List ℕ
sides_bytes kind first second = csi kind ++ (decimal first ++ (0x3B ∷ (decimal second ++ 0x74 ∷ [])))

-- the bytes of a notice
abbrev pub notice_bytes : Notice → List ℕ
notice_bytes notices.NoSpace = csi (codes ">1~")
notice_bytes notices.FolderGone = csi (codes ">2~")
notice_bytes notices.NotPermitted = csi (codes ">3~")
notice_bytes notices.ReadOnly = csi (codes ">4~")
notice_bytes notices.Unkept = csi (codes ">5~")
notice_bytes notices.KeptAgain = csi (codes ">6~")
notice_bytes notices.Recovered = csi (codes ">7~")
notice_bytes notices.RecoveredAside = csi (codes ">8~")
notice_bytes notices.InPlace = csi (codes ">9~")

-- the bytes of a key
abbrev pub key_bytes : Key → List ℕ
key_bytes (keys.Insert c) = encode_utf8 c
key_bytes keys.Erase = 0x08 ∷ []
key_bytes keys.Back = 0x02 ∷ []
key_bytes keys.Forward = 0x06 ∷ []
key_bytes keys.Repaint = 0x0C ∷ []
key_bytes keys.Quit = 0x11 ∷ []
key_bytes keys.Save = 0x13 ∷ []
key_bytes keys.RedoEdit = 0x19 ∷ []
key_bytes keys.UndoEdit = 0x1A ∷ []
key_bytes keys.Up = csi (codes "A")
key_bytes keys.Down = csi (codes "B")
key_bytes keys.Right = csi (codes "C")
key_bytes keys.Left = csi (codes "D")
key_bytes keys.RowHome = csi (codes "H")
key_bytes keys.RowEnd = csi (codes "F")
key_bytes keys.Delete = csi (codes "3~")
key_bytes keys.PageUp = csi (codes "5~")
key_bytes keys.PageDown = csi (codes "6~")
key_bytes keys.Direction = csi (codes "9~")
key_bytes keys.Find = csi (codes "70~")
key_bytes keys.FindBack = csi (codes "71~")
key_bytes keys.Mark = csi (codes "72~")
key_bytes keys.Copy = csi (codes "73~")
key_bytes keys.Cut = csi (codes "74~")
key_bytes keys.Put = csi (codes "75~")
key_bytes keys.WordLeft = csi (codes "76~")
key_bytes keys.WordRight = csi (codes "77~")
key_bytes keys.TextStart = csi (codes "78~")
key_bytes keys.TextEnd = csi (codes "79~")
key_bytes keys.Help = csi (codes "80~")
key_bytes keys.Select = csi (codes "81~")
key_bytes keys.Undo = csi (codes "82~")
key_bytes keys.Redo = csi (codes "83~")
key_bytes keys.GoTo = csi (codes "84~")
key_bytes keys.Replace = csi (codes "85~")
key_bytes keys.Name = csi (codes "86~")
key_bytes keys.Tell = csi (codes "87~")
key_bytes keys.EraseWord = csi (codes "88~")
key_bytes keys.DeleteWord = csi (codes "89~")
key_bytes keys.PasteStart = csi (codes "90~")
key_bytes keys.PasteEnd = csi (codes "91~")
key_bytes keys.FindNext = csi (codes "92~")
key_bytes keys.Cancel = csi (codes "93~")
key_bytes keys.ErasePoint = csi (codes "94~")
key_bytes keys.NewLine = csi (codes "95~")
key_bytes keys.LineUp = csi (codes "96~")
key_bytes keys.LineDown = csi (codes "97~")
key_bytes keys.PageBack = csi (codes "98~")
key_bytes keys.PageOn = csi (codes "99~")
key_bytes keys.SelectAll = csi (codes "100~")
key_bytes keys.FindPrevious = csi (codes "101~")
key_bytes keys.Fill = csi (codes "102~")
key_bytes keys.SaveAs = csi (codes "103~")
key_bytes keys.ScrollBack = csi (codes "104~")
key_bytes keys.ScrollOn = csi (codes "105~")
key_bytes keys.AskOverwrite = csi (codes "106~")
key_bytes (keys.Size rows columns) = sides_bytes (codes "8;") rows columns
key_bytes (keys.Point row column) = sides_bytes (codes "7;") row column
key_bytes (keys.Drag row column) = sides_bytes (codes "9;") row column
key_bytes (keys.Notice notice) = notice_bytes notice
