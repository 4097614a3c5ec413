-- The definitions of rows, paragraphs and views for a `TextRef`, a text with its tables: the others of this folder, applied to
-- these tables and the text's bytes. `v` is the state of a view; paragraphs and rows are numbered from 0.
use Rattle.std.specs.Prelude.{◌≡◌, ℕ, ◌<◌, List, Option, length}
use Rattle.bx_ucd.specs.declared.data.BidiData.{Ghosts}
use Rattle.bx_paragraph.specs.BodyRows.{BodyRow, body_rows}
use Rattle.bx_paragraph.specs.Layout.{LayoutState}
use Rattle.bx_text.specs.index.Paragraphs.{lengths}
use Rattle.bx_text.specs.index.Walk.{WalkState}
use Rattle.bx_text.specs.declared.index.text_span.TextSpan.{TextSpan}
use Rattle.bx_view.specs.declared.in_row.RowAt.{RowAt}
use Rattle.bx_view.specs.declared.text_ref.TextRef.{TextRef}
use Rattle.bx_view.specs.FoundRow as found
use Rattle.bx_view.specs.Caching as caching
use Rattle.bx_view.specs.Caching.{ViewState}
use Rattle.bx_view.specs.Numbers as numbers
use Rattle.bx_view.specs.Standing as standing
use Rattle.bx_view.specs.TextRows.{TextRow, first, row_at}

module _ {D : Type 0} {g : Ghosts D} (s : TextRef D g) where
  -- the text's bytes
  abbrev pub bytes : List ℕ
  bytes = s.text.now.edited.text

  -- the rows of the text, under the view's base direction and in its width
  abbrev pub rows : ViewState → List TextRow
  rows v = found.rows_by (g.data s.tables.now) v bytes

  -- the rows of a body, under the same base direction and in the same width
  abbrev pub rows_of_body : ViewState → List ℕ → List BodyRow
  rows_of_body v body = body_rows (g.data s.tables.now) v.base v.w body

  -- the view caches at most 512 paragraphs (`most_cached`), laid out by the tables
  abbrev pub IsViewBy : ViewState → Type 0
  IsViewBy v = caching.IsViewBy (g.data s.tables.now) v

  -- only the cached paragraphs changed: they are still at most 512, and laid out by the tables
  abbrev pub Keeps : ViewState → ViewState → Type 0
  Keeps old new = caching.Keeps (g.data s.tables.now) old new

  -- `l` is a layout of paragraph `number`
  abbrev pub IsOfText : ViewState → ℕ → LayoutState → Type 0
  IsOfText v number l = caching.IsOfText (g.data s.tables.now) v bytes number l

  -- `at` is row `n` of the text, and its paragraph is cached
  abbrev pub StandsOn : ViewState → RowAt → ℕ → Type 0
  StandsOn v at n = found.StandsOn (g.data s.tables.now) v bytes at n

  -- `at` is some row of the text
  abbrev pub Stands : ViewState → RowAt → Type 0
  Stands v at = (n : ℕ) × StandsOn v at n

  -- a walk over the text's paragraphs is at the paragraph of `at`
  abbrev pub IsAlong : WalkState → RowAt → Type 0
  IsAlong walk at = (walk.paragraphs ≡ lengths (g.data s.tables.now) bytes) × (walk.number ≡ at.paragraph)

  -- row `k` of the text begins at an offset
  abbrev pub BeginsAt : ViewState → ℕ → ℕ → Type 0
  BeginsAt v k offset = (k < length (rows v)) × (offset ≡ first (row_at (rows v) k))

  -- the row `at` has the property `P`, whatever its number
  abbrev pub OfRow : ViewState → RowAt → (TextRow → Type 0) → Type 0
  OfRow v at P = found.OfRow (g.data s.tables.now) v bytes at P

  -- `next` is the row after row `n`, None after the last
  abbrev pub IsNext : ViewState → ℕ → Option RowAt → Type 0
  IsNext v n next = found.IsNext (g.data s.tables.now) v bytes n next

  -- `before` is the row before row `n`, None before the first
  abbrev pub IsBefore : ViewState → ℕ → Option RowAt → Type 0
  IsBefore v n before = found.IsBefore (g.data s.tables.now) v bytes n before

  -- the bytes of the body of paragraph `number`, and the offset at which it begins
  abbrev pub body_at : ℕ → List ℕ
  body_at number = numbers.body_at (g.data s.tables.now) bytes number

  abbrev pub start_at : ℕ → ℕ
  start_at number = numbers.start_at (g.data s.tables.now) bytes number

  -- the number of paragraphs
  abbrev pub count : ℕ
  count = numbers.count (g.data s.tables.now) bytes

  -- the span is the body of the paragraph whose number it has
  abbrev pub IsSpan : TextSpan → Type 0
  IsSpan span = standing.IsSpan (g.data s.tables.now) bytes span.number span.start span.stop
