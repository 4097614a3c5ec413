-- Each move leads from an offset with a property to one with it, if the places of all rows have it.
use Rattle.std.proofs.Common.{◌≡◌, ℕ, zero, suc, ◌+◌, ◌-◌, ◌<◌, ◌==◌, nat_le, nat_lt, Bool, true, false, List, [], ◌∷◌, map, length, find}
use Rattle.std.proofs.Common.{reverse, slice_get, Option, Some, None, unwrap_or, subst, sym}
use Rattle.std.proofs.Common.{arith}
use Rattle.std.specs.Prelude.{All, IfSome}
use Rattle.std.proofs.lemmas.List.Elements.{All-head, All-tail}
use Rattle.bx_ucd.specs.Data.{Data}
use Rattle.bx_rows.specs.declared.cells.unit.Unit.{Unit}
use Rattle.bx_rows.specs.RowStarts.{first_offset}
use Rattle.bx_paragraph.specs.declared.moves.Visual.{Visual}
use Rattle.bx_paragraph.specs.BodyRows.{last_offset}
use Rattle.bx_paragraph.specs.Slots.{beside, entry, or_else, reading_end, reading_start, reads_on}
use Rattle.bx_view.specs.declared.moves.Goal.{Goal}
use Rattle.bx_view.specs.declared.moves.Goal.TheVariants as goals
use Rattle.bx_view.specs.declared.moves.Logical.{Logical}
use Rattle.bx_view.specs.declared.moves.Logical.TheVariants.{Back, Forward}
use Rattle.bx_view.specs.declared.moves.Move.{Move}
use Rattle.bx_view.specs.declared.moves.Move.TheVariants as moves
use Rattle.bx_view.specs.declared.moves.Vertical.{Vertical}
use Rattle.bx_view.specs.declared.moves.Vertical.TheVariants.{Down}
use Rattle.bx_view.specs.Moves.{end_of, entry_in, goal_in, past, place_at, place_from, place_in, row_after, row_away, to_row}
use Rattle.bx_view.specs.Moved.{is_to_row_end, moved}
use Rattle.bx_view.specs.Moves.{row_before, row_end, row_home, rows_away, start_of, step_logical, step_visual, word_way}
use Rattle.bx_view.specs.Laws.{MovesKeep}
use Rattle.bx_view.specs.Top.{pointed_at, pointed_row, follow, nearest_row, nearest_top, to_shown}
use Rattle.bx_view.specs.TextRows.{TextRow, cell_of, first, no_text_row, places, row_at, row_of}
use Rattle.bx_view.specs.Words.{step_word, text_stops}
use Rattle.bx_view.proofs.KeptRows.{away-within}
use Rattle.bx_view.proofs.Nearest.{falls-within}
use Rattle.bx_view.proofs.Within.{Lies, LiesIn, Within, beside-fits, either-lies, end-fits, entry-fits, find-lies, last-fits, last-lies, start-fits}
use Rattle.bx_view.proofs.Within.{within-reverse}

-- a row passes, if there is one
abbrev IfRow : (TextRow → Type 0) → Option TextRow → Type 0
IfRow Q None = Prim.Unit {0}
IfRow Q (Some r) = Q r

each-get : (Q : TextRow → Type 0) (rs : List TextRow) (n : ℕ) → All Q rs → IfRow Q (slice_get rs n)
each-get Q [] n a = tt
each-get Q (r ∷ rs) zero a = All-head Q r rs a
each-get Q (r ∷ rs) (suc n) a = each-get Q rs n (All-tail Q r rs a)

first-lies-at : (P : ℕ → Type 0) (us : List Unit) → P 0 → Within P (map (λ u. u.start) us) → P (first_offset us)
first-lies-at P [] start a = start
first-lies-at P (u ∷ us) start a = a.0

-- the stops of words have a property, and so have the text's start and end
pub record EndsLie (ucd : Data) (text : List ℕ) (P : ℕ → Type 0) : Type 0 where
  pub begin : P 0
  pub end : P (length text)
  pub stops : (way : Logical) → Within P (text_stops ucd way text)

module _ (ucd : Data) (text : List ℕ) (w : ℕ) (rows : List TextRow) (P : ℕ → Type 0) (each : All (λ r. LiesIn (λ o. P (r.start + o)) w r.row) rows)
    (all : Within P (places rows)) (some : 0 < length rows) (ends : EndsLie ucd text P) where
  abbrev Row : TextRow → Type 0
  Row r = LiesIn (λ o. P (r.start + o)) w r.row

  own-row : (offset : ℕ) → row_of rows offset < length rows
  own-row offset = falls-within rows offset some

  row-lies : (k : ℕ) → k < length rows → Row (row_at rows k)
  row-lies k within = each k no_text_row within

  else-lies : (o : Option ℕ) (place : ℕ) → Lies P o → P place → P (unwrap_or o place)
  else-lies None place a b = b
  else-lies (Some o) place a b = a

  in-row-lies : (r : TextRow) (o : Option ℕ) → Lies (λ k. P (r.start + k)) o → Lies P (place_in r o)
  in-row-lies r None a = tt
  in-row-lies r (Some o) a = a

  kept-place_from : (offset : ℕ) → P (place_from rows offset)
  kept-place_from offset =
      else-lies (find (nat_le offset) (places rows)) (last_offset (places rows)) (find-lies P (nat_le offset) (places rows) all)
      (last-lies P ends.begin (places rows) all)

  kept-place_at : (offset : ℕ) → P (place_at rows offset)
  kept-place_at offset =
      else-lies (find (λ p. nat_le p offset) (reverse (places rows))) 0
      (find-lies P (λ p. nat_le p offset) (reverse (places rows)) (within-reverse P (places rows) all)) ends.begin

  kept-step_logical : (way : Logical) (place : ℕ) → P place → P (step_logical rows way place)
  kept-step_logical Forward place b = else-lies (find (nat_lt place) (places rows)) place (find-lies P (nat_lt place) (places rows) all) b
  kept-step_logical Back place b =
      else-lies (find (λ p. nat_lt p place) (reverse (places rows))) place
      (find-lies P (λ p. nat_lt p place) (reverse (places rows)) (within-reverse P (places rows) all)) b

  start-lies : (o : Option TextRow) → IfRow Row o → Lies P (start_of w o)
  start-lies None a = tt
  start-lies (Some r) a = in-row-lies r (reading_start w r.row) (start-fits (λ k. P (r.start + k)) w r.row a)

  end-lies : (o : Option TextRow) → IfRow Row o → Lies P (end_of w o)
  end-lies None a = tt
  end-lies (Some r) a = in-row-lies r (reading_end w r.row) (end-fits (λ k. P (r.start + k)) w r.row a)

  before-lies : (k : ℕ) → IfRow Row (row_before rows k)
  before-lies zero = tt
  before-lies (suc k) = each-get Row rows k each

  past-at : (on : Bool) (k : ℕ) → Lies P (elim on [ true ↦ start_of w (row_after rows k) | false ↦ end_of w (row_before rows k) ])
  past-at true k = start-lies (row_after rows k) (each-get Row rows (k + 1) each)
  past-at false k = end-lies (row_before rows k) (before-lies k)

  past-lies : (side : Visual) (k : ℕ) → Lies P (past w rows side k)
  past-lies side k = past-at (reads_on side (row_at rows k).row) k

  kept-step_visual : (side : Visual) (place : ℕ) → P place → P (step_visual w rows side place)
  kept-step_visual side place b =
      let k = row_of rows place in
      let r = row_at rows k in
      let next = place_in r (beside w r.row side (place - r.start)) in
      let near : Lies P next =
      in-row-lies r (beside w r.row side (place - r.start))
      (beside-fits (λ o. P (r.start + o)) w r.row (row-lies k (own-row place)) side (place - r.start)) in
      else-lies (or_else next (past w rows side k)) place (either-lies P next (past w rows side k) near (past-lies side k)) b

  kept-entry : (k column : ℕ) → k < length rows → Lies P (entry_in w (row_at rows k) column)
  kept-entry k column within =
      let r = row_at rows k in
      in-row-lies r (entry w r.row column) (entry-fits (λ o. P (r.start + o)) w r.row (row-lies k within) column)

  entered : (o : Option ℕ) → Lies P o → IfSome o P
  entered None a = tt
  entered (Some o) a = a

  first-kept : (k : ℕ) → k < length rows → P (first (row_at rows k))
  first-kept k within =
      let r = row_at rows k in
      let lies = row-lies k within in
      first-lies-at (λ o. P (r.start + o)) r.row.units lies.start lies.units

  kept-row_home : (offset : ℕ) → P (row_home rows offset)
  kept-row_home offset = first-kept (row_of rows offset) (own-row offset)

  kept-row_end : (offset : ℕ) → P (row_end rows offset)
  kept-row_end offset =
      let r = row_at rows (row_of rows offset) in last-fits (λ o. P (r.start + o)) w r.row (row-lies (row_of rows offset) (own-row offset))

  goal-lies : (k : ℕ) (goal : Goal) → k < length rows → Lies P (goal_in w (row_at rows k) goal)
  goal-lies k (goals.Column column) within = kept-entry k column within
  goal-lies k goals.Start within = first-kept k within
  goal-lies k goals.End within = let r = row_at rows k in last-fits (λ o. P (r.start + o)) w r.row (row-lies k within)

  to-row-at : (same : Bool) (goal : Goal) (place k : ℕ) → k < length rows → P place
      → P (elim same [ true ↦ place | false ↦ unwrap_or (goal_in w (row_at rows k) goal) place ])
  to-row-at true goal place k within b = b
  to-row-at false goal place k within b = else-lies (goal_in w (row_at rows k) goal) place (goal-lies k goal within) b

  kept-to_row : (goal : Goal) (place k : ℕ) → k < length rows → P place → P (to_row w rows goal place k)
  kept-to_row goal place k within b = to-row-at (k == row_of rows place) goal place k within b

  kept-rows_away : (way : Vertical) (n : ℕ) (goal : Goal) (place : ℕ) → P place → P (rows_away w rows way n goal place)
  kept-rows_away way n goal place b =
      let k = row_away (length rows) way n (row_of rows place) in
      kept-to_row goal place k (away-within (length rows) way n (row_of rows place) (own-row place)) b

  kept-word : (way : Logical) (place : ℕ) → P place → P (step_word ucd text way place)
  kept-word Forward place b =
      else-lies (find (nat_lt place) (text_stops ucd Forward text)) place
      (find-lies P (nat_lt place) (text_stops ucd Forward text) (ends.stops Forward)) b
  kept-word Back place b =
      else-lies (find (λ p. nat_lt p place) (reverse (text_stops ucd Back text))) place
      (find-lies P (λ p. nat_lt p place) (reverse (text_stops ucd Back text)) (within-reverse P (text_stops ucd Back text) (ends.stops Back))) b

  kept-moved : (m : Move) (place : ℕ) → P place → P (moved ucd text w rows m place)
  kept-moved (moves.Logical way) place b = kept-step_logical way place b
  kept-moved (moves.Visual side) place b = kept-step_visual side place b
  kept-moved (moves.Rows way n) place b = kept-rows_away way n (goals.Column (cell_of w rows place)) place b
  kept-moved (moves.RowsIn way n goal) place b = kept-rows_away way n goal place b
  kept-moved moves.RowHome place b = kept-row_home place
  kept-moved moves.RowEnd place b = kept-row_end place
  kept-moved (moves.Word way) place b = kept-word way place b
  kept-moved (moves.WordTowards side) place b = kept-word (word_way (reads_on side (row_at rows (row_of rows place)).row)) place b
  kept-moved moves.TextStart place b = ends.begin
  kept-moved moves.TextEnd place b = ends.end

  kept-follow : (top place t : ℕ) → 0 < t → P (follow rows top place t)
  kept-follow top place t shown =
      let above = own-row top in
      let below = own-row place in
      first-kept (nearest_top (row_of rows top) (row_of rows place) t) (omega (arith, above, below, shown))

  kept-to_shown : (top t : ℕ) (goal : Goal) (place : ℕ) → P place → P (to_shown w rows top t goal place)
  kept-to_shown top t goal place b =
      let above = own-row top in
      let below = own-row place in
      kept-to_row goal place (nearest_row (row_of rows top) (row_of rows place) t) (omega (arith, above, below)) b

  kept-pointed_at : (top r column : ℕ) → P (pointed_at w rows top r column)
  kept-pointed_at top r column =
      let k = pointed_row rows top r in
      let within = away-within (length rows) Down (r - 1) (row_of rows top) (own-row top) in
      else-lies (entry_in w (row_at rows k) column) 0 (kept-entry k column within) ends.begin

  -- each move
  pub moves-keep : MovesKeep ucd text w rows P
  moves-keep = record {
    from = kept-place_from;
    at = kept-place_at;
    moved = kept-moved;
    logical = kept-step_logical;
    visual = kept-step_visual;
    vertical = λ way place b. kept-rows_away way 1 (goals.Column (cell_of w rows place)) place b;
    page = λ way t place b. kept-rows_away way t (goals.Column (cell_of w rows place)) place b;
    word = kept-word;
    entry = λ k column within. entered (entry_in w (row_at rows k) column) (kept-entry k column within);
    home = kept-row_home;
    end = kept-row_end;
    top = kept-follow;
    pointed = kept-pointed_at;
    shown = kept-to_shown;
  }

-- ---- where a move leads to

module _ (ucd : Data) (text : List ℕ) (w : ℕ) (rows : List TextRow) (P : ℕ → Type 0) (kept : MovesKeep ucd text w rows P) (place o : ℕ) where
  pub moved-keeps : (m : Move) → o ≡ moved ucd text w rows m place → P place → P o
  moved-keeps m e b = subst P (sym e) (kept.moved m place b)

  -- an end of a row, from any offset
  pub row-end-keeps : (m : Move) → o ≡ moved ucd text w rows m place → is_to_row_end m ≡ true → P o
  row-end-keeps moves.RowHome e h = subst P (sym e) (kept.home place)
  row-end-keeps moves.RowEnd e h = subst P (sym e) (kept.end place)
  row-end-keeps (moves.Logical way) e h = absurd (cc)
  row-end-keeps (moves.Visual side) e h = absurd (cc)
  row-end-keeps (moves.Rows way n) e h = absurd (cc)
  row-end-keeps (moves.RowsIn way n goal) e h = absurd (cc)
  row-end-keeps (moves.Word way) e h = absurd (cc)
  row-end-keeps (moves.WordTowards side) e h = absurd (cc)
  row-end-keeps moves.TextStart e h = absurd (cc)
  row-end-keeps moves.TextEnd e h = absurd (cc)
