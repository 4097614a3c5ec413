-- Laws of typed bytes, for any input. `b` is a byte, `bs` are bytes, `s` is a state, `r` a row of the table.
use Rattle.std.specs.Prelude.{◌≡◌, ◌≢◌, ◌≤◌, ℕ, Bool, true, false, not, ◌&&◌, ◌||◌, ◌==◌, List, [], ◌∷◌, ◌++◌, length, map, drop, codes, is_some, Option, Some, None, if◌then◌else◌}
use Rattle.std.specs.List.{list_all}
use Rattle.std.specs.Str.{chars, IsUtf8}
use Rattle.std.specs.Str.Parse.{digits_value}
use Rattle.bx_bytes.specs.Pattern.{Piece, matches_any}
use Rattle.bx_keys.specs.Keys.{decoding, is_side_in_digits}
use Rattle.bx_keys.specs.declared.key.Key.{Key}
use Rattle.bx_keys.specs.declared.key.Key.TheVariants.{Insert, PasteStart, PasteEnd, Size, Fill}
use Rattle.bx_input.specs.Machine.{read}
use Rattle.bx_input.specs.Mouse.{Report, opens_report, report_of, reported}
use Rattle.bx_input.specs.Sizes.{opens_size, size_of}
use Rattle.bx_input.specs.Table.{Row, csi, keys_of, row_of, sequences, exact, paste_start, paste_end}
use Rattle.bx_input.specs.Paste.{is_control_byte, kept_characters, pasted}
use Rattle.bx_input.specs.Scan as scan
use Rattle.bx_input.specs.Scan.{State, Outside, Within, Part, Passed, Known, passed, Step, step_to, with_front, start, at_end, are_escapes}

-- the bytes that wait in a state
abbrev pub waiting_in : State → List ℕ
waiting_in (Outside waiting) = waiting
waiting_in (Within waiting after_return) = waiting

-- the bytes are a mouse report
abbrev pub is_report : List ℕ → Bool
is_report bs = opens_report bs && is_some (report_of (drop 3 bs))

-- the bytes are a size of the window
abbrev pub is_size_sequence : List ℕ → Bool
is_size_sequence bs = opens_size bs && is_some (size_of (drop 4 bs))

-- no part of these bytes is one
abbrev pub HasNoSize : List ℕ → Type 0
HasNoSize bs = (front middle back : List ℕ) → bs ≡ front ++ (middle ++ back) → is_size_sequence middle ≡ false

-- no part of these bytes is a mouse report
abbrev pub HasNoReport : List ℕ → Type 0
HasNoReport bs = (front middle back : List ℕ) → bs ≡ front ++ (middle ++ back) → is_report middle ≡ false

-- no part of these bytes matches one of the patterns
abbrev pub HasNone : List (List Piece) → List ℕ → Type 0
HasNone patterns bs = (front middle back : List ℕ) → bs ≡ front ++ (middle ++ back) → matches_any patterns middle ≡ false

-- the row of ESC and a sequence, if only ESC waits
abbrev pub longer_by : List ℕ → Option Row → Option Row
longer_by waiting None = None
longer_by waiting (Some r) = if are_escapes waiting then Some r else None

-- the longer row, if there is one, else the row itself
abbrev pub row_behind : Row → Option Row → Row
row_behind r None = r
row_behind r (Some longer) = longer

-- A paste in UTF-8 becomes UTF-8: its characters in order, except control characters other than TAB and new lines.
abbrev pub PastesKeepCharacters : Type 0
PastesKeepCharacters = (text : List ℕ) → IsUtf8 text → IsUtf8 (pasted text) × (chars (pasted text) ≡ kept_characters (chars text))

-- no control byte except TAB and LF
abbrev pub is_text_byte : ℕ → Bool
is_text_byte b = (b == 0x09 || b == 0x0A) || not (is_control_byte b)

-- no byte is a control byte except TAB and LF
abbrev pub IsText : List ℕ → Type 0
IsText bs = list_all is_text_byte bs ≡ true

-- a byte of text that passes on
abbrev pub is_text_part : Part → Bool
is_text_part (Passed b) = is_text_byte b
is_text_part (Known keys) = false

-- no known sequence, and no byte but those of text
abbrev pub AreText : List Part → Type 0
AreText parts = list_all is_text_part parts ≡ true

-- the key inserts a character
abbrev pub is_insert : Key → Bool
is_insert (Insert c) = true
is_insert _ = false

-- bytes that pass on have the keys of the grammar of items
abbrev pub PassedAreDecoded : Type 0
PassedAreDecoded = (bs : List ℕ) → (read [] (passed bs)).keys ≡ (decoding bs).keys

-- whether or not the terminal's own erase character is DELETE
module _ (erases_by_delete : Bool) where
  abbrev run : State → List ℕ → Step
  run = scan.run erases_by_delete

  abbrev scanned : List ℕ → List Part
  scanned = scan.scanned erases_by_delete

  -- the keys of a whole input
  abbrev pub keys : List ℕ → List Key
  keys bs = (read [] (scanned bs)).keys

  -- input cut in two has the parts of its first piece, and then of its second
  abbrev pub ComesInPieces : Type 0
  ComesInPieces = (s : State) (bs more : List ℕ) →
      let first : Step = run s bs in
      run s (bs ++ more) ≡ with_front first.parts (run first.state more)

  -- At most fifteen bytes wait: CSI 8 ; and as many bytes as the numbers of a mouse report have. Of what begins neither a report nor a
  -- size at most nine do (CSI 27;5;39, the longest beginning of a sequence of the table or of a paste's start).
  abbrev pub WaitsForFifteen : Type 0
  WaitsForFifteen = (bs : List ℕ) →
      let waiting : List ℕ = waiting_in (run start bs).state in
      (length waiting ≤ 15) × (opens_report waiting ≡ false → opens_size waiting ≡ false → length waiting ≤ 9)

  -- the row that the bytes of `r` complete where an ESC waits before them, if the table has one: of ESC and DELETE
  abbrev pub longer_row : List ℕ → Row → Option Row
  longer_row waiting r = longer_by waiting (row_of erases_by_delete (0x1B ∷ r.sequence))

  -- the parts of input and then the sequence of `r`: if there is a longer row, it takes the place of the ESC that waits, or of the
  -- second one
  abbrev pub given : List ℕ → List ℕ → Row → Option Row → List Part
  given bs waiting r None = scanned bs ++ Known (keys_of r) ∷ []
  given bs waiting r (Some longer) = ((run start bs).parts ++ passed (drop 1 waiting)) ++ Known (keys_of longer) ∷ []

  -- A sequence of the table after input that ends outside a paste: the waiting bytes pass on, and then the row is known. An ESC that
  -- belongs to a longer row does not pass on.
  abbrev pub GivesRow : Row → Type 0
  GivesRow r = (bs waiting : List ℕ) → (run start bs).state ≡ Outside waiting
      → run start (bs ++ r.sequence) ≡ step_to start (given bs waiting r (longer_row waiting r))

  -- After any input that ends outside a paste, the row's sequence gives the row's keys and no other: one, or Select and one. With an
  -- ESC that belongs to a longer row, they are that row's.
  abbrev pub AddsKeys : Row → Type 0
  AddsKeys r = (bs waiting : List ℕ) → (run start bs).state ≡ Outside waiting
      → keys (bs ++ r.sequence) ≡ keys bs ++ keys_of (row_behind r (longer_row waiting r))

  -- input with no sequence of the table, no start of a paste, no mouse report and no size passes on
  abbrev pub OthersPass : Type 0
  OthersPass = (bs : List ℕ) → HasNone sequences bs → HasNoReport bs → HasNoSize bs → scanned bs ≡ passed bs

  -- a paste after input that ends outside one, up to the first end of a paste: PasteStart, the text and PasteEnd
  abbrev pub PastesText : Type 0
  PastesText = (bs waiting text : List ℕ) → (run start bs).state ≡ Outside waiting → HasNone (exact paste_end ∷ []) text
      → run start (bs ++ (paste_start ++ (text ++ paste_end)))
      ≡ step_to start (scanned bs ++ Known (PasteStart ∷ []) ∷ (passed (pasted text) ++ Known (PasteEnd ∷ []) ∷ []))

  -- Within a paste only text passes on, however the paste is cut. The byte that ends the paste gives PasteEnd alone.
  pub record PastesAreClean : Type 0 where
    pub each_byte : (waiting : List ℕ) (after_return : Bool) (b : ℕ) → waiting ++ b ∷ [] ≢ paste_end
        → AreText (scan.step erases_by_delete (Within waiting after_return) b).parts
    pub last_byte : (waiting : List ℕ) (after_return : Bool) (b : ℕ) → waiting ++ b ∷ [] ≡ paste_end
        → scan.step erases_by_delete (Within waiting after_return) b ≡ step_to start (Known (PasteEnd ∷ []) ∷ [])
    pub input_ends : (waiting : List ℕ) (after_return : Bool) → AreText (at_end (Within waiting after_return))
    pub whole : (text : List ℕ) → IsText (pasted text)

  -- After any input that ends outside a paste, a mouse report gives the keys that it means and no other.
  abbrev pub AddsReportKeys : Type 0
  AddsReportKeys = (bs waiting ps : List ℕ) (r : Report) → (run start bs).state ≡ Outside waiting → report_of ps ≡ Some r
      → keys (bs ++ csi (0x3C ∷ ps)) ≡ keys bs ++ reported r

  -- After any input that ends outside a paste, a size gives the keys Size and Fill and no other.
  abbrev pub AddsSizeKeys : Type 0
  AddsSizeKeys = (bs waiting h w : List ℕ) → (run start bs).state ≡ Outside waiting
      → is_side_in_digits h ≡ true → is_side_in_digits w ≡ true
      → keys (bs ++ csi (codes "8;" ++ ((h ++ 0x3B ∷ w) ++ codes "t"))) ≡ keys bs ++ Size (digits_value 10 h) (digits_value 10 w) ∷ Fill ∷ []

  -- The keys of a paste are PasteStart, those of its text, and PasteEnd, whatever bytes wait. Each of the text inserts a character, and
  -- does nothing else. If the text is UTF-8, these are its characters in order.
  abbrev pub PastesInsert : Type 0
  PastesInsert = (bs waiting text : List ℕ) → (run start bs).state ≡ Outside waiting → HasNone (exact paste_end ∷ []) text
      → let inside : List Key = (decoding (pasted text)).keys in
      (keys (bs ++ (paste_start ++ (text ++ paste_end))) ≡ keys bs ++ PasteStart ∷ (inside ++ PasteEnd ∷ []))
      × (list_all is_insert inside ≡ true)
      × (IsUtf8 (pasted text) → inside ≡ map Insert (chars (pasted text)))
