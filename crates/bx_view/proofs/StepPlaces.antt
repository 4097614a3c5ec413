-- The place that a call returns, from the row of an offset and the rows beside it.
use Rattle.std.proofs.Common.{◌≡◌, ℕ, ◌+◌, ◌-◌, ◌<◌, ◌≤◌, nat_le, nat_lt, List, length, map, find, reverse, Option, Some, None, unwrap_or, IsUtf8}
use Rattle.std.proofs.Common.{sym, ap, ◌∙◌, arith}
use Rattle.bx_ucd.specs.Data.{Data}
use Rattle.bx_paragraph.specs.BodyRows.{last_of}
use Rattle.bx_view.specs.declared.in_row.RowAt.{RowAt}
use Rattle.bx_view.specs.FoundRow.{StandsOn, rows_by}
use Rattle.bx_view.specs.Caching.{Keeps, ViewState}
use Rattle.bx_view.specs.Moves.{place_at, place_from}
use Rattle.bx_view.specs.TextRows.{TextRow, first, places, places_of, row_at, row_of}
use Rattle.bx_view.proofs.FindPlaces.{back-in-row, back-stays, back-to-row, forward-in-row, forward-stays, forward-to-next, from-here, from-last, from-next, last-in-row}
use Rattle.bx_view.proofs.PlacesRise.{AllHeads, places-rise, rows-headed-in}
use Rattle.bx_view.proofs.Rising.{Rises, rank}
use Rattle.bx_paragraph.proofs.Starts.{side-some}
use Rattle.bx_view.proofs.CachedRows.{rows-kept}
use Rattle.bx_view.proofs.Walking.{row-within, text-rank}

module _ (ucd : Data) (old v : ViewState) (text : List ℕ) (offset : ℕ) (at : RowAt) (utf8 : IsUtf8 text)
    (keeps : Keeps ucd old v) (on : StandsOn ucd v text at (row_of (rows_by ucd v text) offset)) where
  abbrev rows : List TextRow
  rows = rows_by ucd v text

  abbrev n : ℕ
  n = row_of rows offset

  abbrev here : TextRow
  here = row_at rows n

  some : 1 ≤ v.w
  some = side-some v.w on.side

  rise : Rises 0 (places rows) (length text + 1)
  rise = places-rise ucd v.base v.w some text utf8

  heads : AllHeads rows
  heads = rows-headed-in ucd v.base v.w some text utf8

  rank-one : 1 ≤ rank offset (map first rows)
  rank-one = text-rank ucd v.base v.w some text utf8 offset

  kept : {A : Type 0} (F : List TextRow → A) → F rows ≡ F (rows_by ucd old text)
  kept F = ap F (rows-kept ucd old v text keeps)

  -- the places that are asked for
  abbrev least : List TextRow → ℕ
  least rs = place_from rs offset

  abbrev behind : List TextRow → ℕ
  behind rs = unwrap_or (find (nat_lt offset) (places rs)) offset

  abbrev before : List TextRow → ℕ
  before rs = unwrap_or (find (λ p. nat_lt p offset) (reverse (places rs))) offset

  module _ (x : Option ℕ) where
    pub greatest-here : x ≡ find (λ p. nat_le p offset) (reverse (places_of here)) → unwrap_or x 0 ≡ place_at (rows_by ucd old text) offset
    greatest-here e = last-in-row rows (length text + 1) rise heads offset rank-one x e ∙ kept (λ rs. place_at rs offset)

    module _ (o : ℕ) (some-is : x ≡ Some o) where
      pub least-here : x ≡ find (nat_le offset) (places_of here) → o ≡ least (rows_by ucd old text)
      least-here e = from-here rows (length text + 1) rise heads offset rank-one o (sym e ∙ some-is) ∙ kept least

      pub behind-here : x ≡ find (nat_lt offset) (places_of here) → o ≡ behind (rows_by ucd old text)
      behind-here e = forward-in-row rows (length text + 1) rise heads offset rank-one o (sym e ∙ some-is) ∙ kept behind

      pub before-here : x ≡ find (λ p. nat_lt p offset) (reverse (places_of here)) → o ≡ before (rows_by ucd old text)
      before-here e = back-in-row rows (length text + 1) rise heads offset rank-one o (sym e ∙ some-is) ∙ kept before

    module _ (none : x ≡ None) (later : ViewState) (further : Keeps ucd v later) where
      same : rows_by ucd later text ≡ rows
      same = rows-kept ucd v later text further

      module _ (b : RowAt) (there : StandsOn ucd later text b (n + 1)) (f : ℕ) (is : f ≡ first (row_at (rows_by ucd later text)
          (n + 1))) where
        more : n + 1 < length rows
        more =
            let within = row-within ucd later.base later.w (side-some later.w there.side) text utf8 b.paragraph b.row (n + 1) there.is in
            omega (arith, within, ap length same)

        pub least-next : x ≡ find (nat_le offset) (places_of here) → f ≡ least (rows_by ucd old text)
        least-next e =
            is ∙ ap (λ rs. first (row_at rs (n + 1))) same ∙ from-next rows (length text + 1) rise heads offset rank-one more (sym e ∙ none) ∙ kept least

        pub behind-next : x ≡ find (nat_lt offset) (places_of here) → f ≡ behind (rows_by ucd old text)
        behind-next e =
            is ∙ ap (λ rs. first (row_at rs (n + 1))) same ∙ forward-to-next rows (length text + 1) rise heads offset rank-one more (sym e ∙ none)
            ∙ kept behind

      module _ (last : n + 1 ≡ length (rows_by ucd later text)) where
        pub least-last : (f : ℕ) → f ≡ (row_at (rows_by ucd later text) n).start + last_of (row_at (rows_by ucd later text) n).row
            → x ≡ find (nat_le offset) (places_of here) → f ≡ least (rows_by ucd old text)
        least-last f is e =
            is ∙ ap (λ rs. (row_at rs n).start + last_of (row_at rs n).row) same
            ∙ from-last rows (length text + 1) rise heads offset rank-one (last ∙ ap length same) (sym e ∙ none) ∙ kept least

        pub behind-last : x ≡ find (nat_lt offset) (places_of here) → offset ≡ behind (rows_by ucd old text)
        behind-last e = forward-stays rows (length text + 1) rise heads offset rank-one (last ∙ ap length same) (sym e ∙ none) ∙ kept behind

      pub before-there : 0 < n → (f : ℕ)
          → f ≡ (row_at (rows_by ucd later text) (n - 1)).start + last_of (row_at (rows_by ucd later text) (n - 1)).row
          → x ≡ find (λ p. nat_lt p offset) (reverse (places_of here)) → f ≡ before (rows_by ucd old text)
      before-there above f is e =
          is ∙ ap (λ rs. (row_at rs (n - 1)).start + last_of (row_at rs (n - 1)).row) same
          ∙ back-to-row rows (length text + 1) rise heads offset rank-one above (sym e ∙ none) ∙ kept before

    pub before-first : n ≡ 0 → x ≡ None → x ≡ find (λ p. nat_lt p offset) (reverse (places_of here)) → offset ≡ before (rows_by ucd old text)
    before-first first-row none e = back-stays rows (length text + 1) rise heads offset rank-one first-row (sym e ∙ none) ∙ kept before
