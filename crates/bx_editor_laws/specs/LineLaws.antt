-- Laws of lines: of NewLine, of Shift with Down, and of a line that is put back. A line is a paragraph with its separator. `d`, `e` and
-- `new` are as in Laws.antt.
use Rattle.std.specs.Prelude.{◌≡◌, ◌≢◌, ℕ, zero, suc, ◌+◌, ◌<◌, ◌≤◌, List, [], ◌∷◌, ◌++◌, length, take, drop, slice_range, All, None, IsUtf8}
use Rattle.std.specs.Prelude.{◌==◌, ◌&&◌, Bool, true, false, chars, reverse}
use Rattle.bx_common.specs.Characters.{largest_text}
use Rattle.bx_keys.specs.declared.key.Key.{Key}
use Rattle.bx_keys.specs.declared.key.Key.TheVariants.{Copy, LineDown, NewLine, Put, Select}
use Rattle.bx_paragraph.specs.BodyRows.{body_rows}
use Rattle.bx_document.specs.Line.{ends_with_separator}
use Rattle.bx_text.specs.index.Paragraphs.{begins_with_lf, is_separator, paragraphs}
use Rattle.bx_ucd.specs.Data.{Data}
use Rattle.bx_view.specs.Moves.{row_home}
use Rattle.bx_view.specs.Numbers.{count, paragraph_at, start_at}
use Rattle.bx_view.specs.Places.{IsTextPlace}
use Rattle.bx_view.specs.TextRows.{first, row_at, row_of}
use Rattle.bx_editor.specs.Editor.{Editor, place_after, rows}
use Rattle.bx_editor.specs.Functions.{HasRows, after_keys}
use Rattle.bx_editor.specs.Keys.{after_key}
use Rattle.bx_editor.specs.Putting.{as_line, new_indent}
use Rattle.bx_editor.specs.Region.{bytes_in, is_empty, line, region}
use Rattle.bx_editor_laws.specs.PointingLaws.{IsSelected}
use Rattle.bx_editor_laws.specs.SelectionLaws.{IsRefused}
use Rattle.bx_editor_laws.specs.WordLaws.{IsPlain}
use Rattle.bx_editor_laws.specs.WorkLaws.{CanMove}

-- ---- NewLine

-- the bytes stand at the place, between what stood before and behind it; the cursor is at the first place at or after their end, and
-- no mark is set
pub record PutsIn (d : Data) (e : Editor) (bytes : List ℕ) (new : Editor) : Type 0 where
  pub text_is : new.content.text ≡ take e.place e.content.text ++ bytes ++ drop e.place e.content.text
  pub place_is : new.place ≡ place_after d e new.content.text (e.place + length bytes)
  pub mark_is : new.mark ≡ None

-- they are put in if there is room; else the text stays
pub record PutsIfRoom (d : Data) (e : Editor) (bytes : List ℕ) (new : Editor) : Type 0 where
  pub fits : length e.content.text + length bytes ≤ largest_text → PutsIn d e bytes new
  pub full : largest_text < length e.content.text + length bytes → IsRefused e new

-- CR LF
abbrev pub cr_lf : List ℕ
cr_lf = 0xD ∷ 0xA ∷ []

-- the bytes that end the text's first paragraph; none if the text has one paragraph
abbrev pub first_separator : Data → Editor → List ℕ
first_separator d e = (paragraph_at d e.content.text 0).separator

-- CR LF goes in if it is the text's first separator, else LF; behind it the indent, where lines are indented
pub record PutsSeparator (d : Data) (e new : Editor) : Type 0 where
  pub crlf : first_separator d e ≡ cr_lf → PutsIfRoom d e (cr_lf ++ new_indent d e) new
  pub other : first_separator d e ≢ cr_lf → PutsIfRoom d e (0xA ∷ new_indent d e) new

-- outside a search, a question and a paste, and without a selection, NewLine puts in so
abbrev pub NewLinePutsSeparator : Type 0
NewLinePutsSeparator = (d : Data) (e : Editor) → IsPlain e → PutsSeparator d e (after_key d None e NewLine)

-- ---- Shift with Down

-- Shift with Down `n` times, as terminals' keys come: Select, and then LineDown
abbrev pub shift_downs : ℕ → List Key
shift_downs zero = []
shift_downs (suc n) = Select ∷ LineDown ∷ shift_downs n

-- no line is wrapped: each has one row
abbrev pub IsUnwrapped : Data → Editor → Type 0
IsUnwrapped d e = All (λ p. length (body_rows d e.base e.width p.body) ≡ 1) (paragraphs d e.content.text)

-- From a row's start it selects whole rows: from that start to the start of the row `n` rows further on, at whichever edges of the window
-- they stand.
pub record TakesRows (d : Data) (e : Editor) (n : ℕ) : Type 0 where
  pub selects : e.place ≡ row_home (rows d e) e.place → row_of (rows d e) e.place + n < length (rows d e)
      → IsSelected (e.place, first (row_at (rows d e) (row_of (rows d e) e.place + n))) (after_keys d None e (shift_downs n))

-- So it selects whole lines where lines are not wrapped: from the start of the line `number`, `n` lines. Copy then takes them, with their
-- separators.
pub record TakesLines (d : Data) (e : Editor) (number n : ℕ) : Type 0 where
  pub selects : IsSelected (start_at d e.content.text number, start_at d e.content.text (number + n)) (after_keys d None e (shift_downs n))
  pub copies : (after_keys d None e (shift_downs n ++ Copy ∷ [])).held
      ≡ slice_range e.content.text (start_at d e.content.text number) (start_at d e.content.text (number + n))

-- so it is outside a search, a question and a paste, where nothing is marked and no column is kept, if there are as many rows, or lines,
-- below
pub record ShiftDownTakes (d : Data) (e : Editor) (n : ℕ) : Type 0 where
  pub rows : TakesRows d e n
  pub lines : (number : ℕ) → IsUnwrapped d e → e.place ≡ start_at d e.content.text number → number + n < count d e.content.text
      → TakesLines d e number n

abbrev pub ShiftDownTakesLines : Type 0
ShiftDownTakesLines = (d : Data) (e : Editor) (n : ℕ) → CanMove d e → e.goal ≡ None → e.mark ≡ None → 0 < n → ShiftDownTakes d e n

-- ---- a whole line put

-- a whole line is held, and nothing is selected that it would replace; held text and cursor are as in every editor of the code
pub record HoldsLine (d : Data) (e : Editor) : Type 0 where
  pub plain : IsPlain e
  pub rows_fit : HasRows e
  pub whole : e.whole_line ≡ true
  pub some : 0 < length e.held
  pub utf8 : IsUtf8 e.held
  pub place : IsTextPlace d e.content.text e.place

-- some characters, the last one first, end with CR
abbrev pub begins_with_cr : List ℕ → Bool
begins_with_cr [] = false
begins_with_cr (c ∷ cs) = c == 0xD

-- bytes end a line in front of others: they end with a separator, which is no CR that an LF behind it would belong to
pub record EndsLine (d : Data) (bytes behind : List ℕ) : Type 0 where
  pub ends : ends_with_separator d bytes ≡ true
  pub apart : (begins_with_cr (reverse (chars bytes)) && begins_with_lf d (chars behind)) ≡ false

-- The bytes stand above the cursor's line. Where they end a line there, the cursor stays at the same character: what stands from it on is
-- what stood there.
pub record PutsAbove (d : Data) (e : Editor) (bytes : List ℕ) (new : Editor) : Type 0 where
  pub text_is : new.content.text ≡ take (line d e).0 e.content.text ++ bytes ++ drop (line d e).0 e.content.text
  pub place_is : new.place ≡ place_after d e new.content.text (e.place + length bytes)
  pub same_place : EndsLine d bytes (drop (line d e).0 e.content.text) → new.place ≡ e.place + length bytes
  pub same_character : EndsLine d bytes (drop (line d e).0 e.content.text) → drop new.place new.content.text ≡ drop e.place e.content.text

-- What is put is the held line, with the text's line end if it has none; over an empty line it is put as it is. Without room the text
-- stays.
pub record PutsLine (d : Data) (e new : Editor) : Type 0 where
  pub fits : length e.content.text + length (as_line d e e.held) ≤ largest_text → PutsAbove d e (as_line d e e.held) new
  pub full : largest_text < length e.content.text + length (as_line d e e.held) → IsRefused e new

-- so Put puts it outside a search, a question and a paste
abbrev pub LineGoesAbove : Type 0
LineGoesAbove = (d : Data) (e : Editor) → HoldsLine d e → PutsLine d e (after_key d None e Put)

-- ---- a line copied and put

-- The text has the cursor's line twice, one under the other: as it was copied, with the text's line end if it had none, and as it was.
-- The cursor is at the same character of the lower one.
pub record PutsLineTwice (d : Data) (e new : Editor) : Type 0 where
  pub text_is : new.content.text ≡ take (line d e).0 e.content.text ++ as_line d e (bytes_in e (line d e)) ++ drop (line d e).0 e.content.text
  pub place_is : new.place ≡ e.place + length (as_line d e (bytes_in e (line d e)))
  pub same_character : drop new.place new.content.text ≡ drop e.place e.content.text

-- So Copy and then Put do outside a search, a question and a paste, where no region is taken in place of the line, if the line is not
-- empty, LF ends a line, and there is room.
pub record CopiesLine (d : Data) (e : Editor) : Type 0 where
  pub plain : IsPlain e
  pub rows_fit : HasRows e
  pub place : IsTextPlace d e.content.text e.place
  pub no_region : is_empty (region e) ≡ true
  pub some : is_empty (line d e) ≡ false
  pub lf_ends : is_separator (d.class 0xA) ≡ true
  pub room : length e.content.text + length (as_line d e (bytes_in e (line d e))) ≤ largest_text

abbrev pub CopiedLineGoesAbove : Type 0
CopiedLineGoesAbove = (d : Data) (e : Editor) → CopiesLine d e → PutsLineTwice d e (after_keys d None e (Copy ∷ Put ∷ []))
