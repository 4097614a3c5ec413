-- Moves from row to row by a goal, there and back.
use Rattle.std.proofs.Common.{◌≡◌, ◌⊎◌, ⊎_elim, ℕ, zero, suc, ◌+◌, ◌-◌, ◌*◌, ◌<◌, ◌≤◌, Bool, true, false, List, [], ◌∷◌, ◌++◌, ◌==◌}
use Rattle.std.proofs.Common.{length, map, get_or, replicate}
use Rattle.std.proofs.Common.{Some, None, unwrap_or, refl, sym, ap, ap₂, subst, cond, eq-eqb, ◌∙◌, arith}
use Rattle.std.specs.Prelude.{Contains}
use Rattle.std.proofs.lemmas.Bool.{eqb-true}
use Rattle.std.proofs.lemmas.List.Elements.{Contains-append_right, Contains-get_or}
use Rattle.bx_rows.specs.RowPicture.{columns_used}
use Rattle.bx_rows.specs.Wrapping.{first_offset}
use Rattle.bx_rows.specs.declared.cells.unit.Unit.{Unit}
use Rattle.std.proofs.lemmas.List.Sums.{sum_by-cons}
use Rattle.std.proofs.lemmas.List.{get_or-map, length-map}
use Rattle.bx_ucd.specs.Data.{Data}
use Rattle.bx_paragraph.proofs.Starts.{side-some}
use Rattle.bx_paragraph.specs.declared.slots.Slot.{Slot}
use Rattle.bx_paragraph.specs.Slots.{column_of, entry, slot_offsets}
use Rattle.bx_view.specs.declared.moves.Vertical.TheVariants.{Up, Down}
use Rattle.bx_view.specs.declared.moves.Goal.{Goal}
use Rattle.bx_view.specs.declared.moves.Goal.TheVariants.{Column, Start}
use Rattle.bx_view.specs.Cells.{HasOneSlot, times}
use Rattle.bx_view.specs.Moves.{goal_of, place_in, row_home}
use Rattle.bx_view.specs.Places.{IsTextPlace}
use Rattle.bx_view.specs.TextRows.{TextRow, cell_of, first, no_text_row, places_of, row_of, slots}
use Rattle.bx_view.proofs.KeptPlaces.{contains-counted, contains-moved, counted-contains, one-at, rows-leveled}
use Rattle.bx_view.proofs.OneSlot.{one-slot, same-times}
use Rattle.bx_view.proofs.RowFits.{fitting-from}
use Rattle.bx_view.proofs.TextPlaces.{place-in-window}
use Rattle.bx_text.specs.index.Paragraphs.{paragraphs}
use Rattle.bx_editor.specs.declared.questions.answers.Prompt.TheVariants as prompts
use Rattle.bx_editor.specs.declared.search_state.SearchState.TheVariants.{Off}
use Rattle.bx_editor.specs.Editor.{Editor, rows}
use Rattle.bx_editor.specs.Functions.{HasRows, after_keys}
use Rattle.bx_editor_laws.specs.WorkLaws.{IsEntered, IsFullEnd, KeptMovesGoBack, LeadsBack, LineMovesGoBack, PageMovesGoBack, own_row}
use Rattle.bx_editor_laws.proofs.EnteredAgain.{IsEnteredBy, IsFull, entered-again, entered-at-edge}
use Rattle.bx_editor_laws.proofs.UnitColumns.{rows-have-columns}
use Rattle.bx_editor_laws.proofs.RowMoves.{Begins, Marks, at-row, enter, falls-there, goes-down, goes-up, keys-from, keys-kept, left_after}
use Rattle.bx_editor_laws.proofs.RowMoves.{move_key, size, there-and-back}

-- ---- the place's own row

from-moved : (start : ℕ) (os : List ℕ) (p : ℕ) → Contains (map (λ o. start + o) os) p → (o : ℕ) × (start + o ≡ p) × Contains os o
from-moved start os p c =
    let inside : c.0 < length os = omega (arith, c.1, length-map os (λ k. start + k)) in
    (get_or os c.0 0, sym (get_or-map (λ k. start + k) os c.0 0 p inside) ∙ c.2, Contains-get_or os c.0 0 inside)

-- the offsets of the places of a row with these units
abbrev offsets : TextRow → List Unit → Bool → List ℕ
offsets r us b = map (λ u. u.start) us ++ elim b [ true ↦ length r.row.body ∷ [] | false ↦ [] ]

-- A row that fills the window does not begin at its end: a place has one slot.
apart : (w : ℕ) (r : TextRow) (us : List Unit) (place : ℕ) → 1 ≤ w → r.row.units ≡ us → IsFullEnd w r place → place ≡ first r
    → times place (places_of r) ≡ 1 → ⊥
apart w r [] place some are full at once =
    let none : columns_used w r.row.units ≡ 0 = ap (columns_used w) are in omega (arith, some, none, full.full)
apart w r (u ∷ us) place some are full at once =
    let rest : List ℕ = map (λ o. r.start + o) (offsets r us true) in
    let begins : r.start + u.start ≡ place = sym (at ∙ ap (λ (vs : List Unit). r.start + first_offset vs) are) in
    let last = contains-moved r.start (offsets r us true) (length r.row.body)
    (Contains-append_right (map (λ (v : Unit). v.start) us) (length r.row.body ∷ []) (length r.row.body) (0, omega arith, refl)) in
    let ends : 0 < times place rest = counted-contains rest place (subst (Contains rest) (sym full.at_end) last) in
    let here : one-at place (r.start + u.start) ≡ 1 = ap (λ b. cond b 1 0) (eq-eqb (r.start + u.start) place begins) in
    let twice : times place ((r.start + u.start) ∷ rest) ≡ 1 =
    sym (ap₂ (λ vs b. times place (map (λ o. r.start + o) (offsets r vs b))) are full.last) ∙ once in
    omega (arith, here, ends, twice, sum_by-cons (one-at place) (r.start + u.start) rest)

module _ (d : Data) (e : Editor) (has : HasRows e) (place : IsTextPlace d e.content.text e.place) where
  abbrev r : TextRow
  r = own_row d e

  abbrev k : ℕ
  k = row_of (rows d e) e.place

  some : 1 ≤ e.width
  some = side-some e.width has.columns

  one : HasOneSlot e.width (rows d e) e.place
  one = one-slot d e.base e.width some e.content.text has.text e.place (place-in-window d e.base e.width some e.content.text has.text e.place place)

  own-slot : (o : ℕ) × (r.start + o ≡ e.place) × Contains (slot_offsets e.width r.row) o
  own-slot = from-moved r.start (slot_offsets e.width r.row) e.place (contains-counted (slots e.width r) e.place (omega (arith, one.once)))

  abbrev o : ℕ
  o = own-slot.0

  abbrev column : ℕ
  column = cell_of e.width (rows d e) e.place

  column-is : column ≡ column_of e.width r.row o
  column-is = let same : e.place - r.start ≡ o = omega (arith, own-slot.1) in ap (column_of e.width r.row) same

  abbrev goal : Goal
  goal = goal_of e.width (rows d e) e.place

  abbrev back-at : ℕ
  back-at = enter d e.base e.width some e.content.text has.text goal k

  -- where the row is entered in the place's column
  abbrev covering : ℕ
  covering = enter d e.base e.width some e.content.text has.text (Column column) k

  entered-at : (o' : ℕ) → entry e.width r.row column ≡ Some o' → covering ≡ r.start + o'
  entered-at o' is = ap (λ x. unwrap_or (place_in r x) 0) is

  again : (entry e.width r.row column ≡ Some o) ⊎ IsFull e.width r.row o
  again = subst (λ c. (entry e.width r.row c ≡ Some o) ⊎ IsFull e.width r.row o) (sym column-is)
      (entered-again e.width some r.row (rows-leveled d e.base e.width e.content.text k no_text_row one.row)
      (fitting-from d e.base e.width 0 (paragraphs d e.content.text) k no_text_row one.row)
      (rows-have-columns d e.base e.width e.content.text has.text k no_text_row one.row) o own-slot.2)

  at-edge : columns_used e.width r.row.units ≡ e.width → (s : Slot) × IsEnteredBy e.width r.row column s
  at-edge full = subst (λ c. (s : Slot) × IsEnteredBy e.width r.row c s) (sym column-is)
      (entered-at-edge e.width some r.row (rows-leveled d e.base e.width e.content.text k no_text_row one.row)
      (fitting-from d e.base e.width 0 (paragraphs d e.content.text) k no_text_row one.row)
      (rows-have-columns d e.base e.width e.content.text has.text k no_text_row one.row) o own-slot.2 full)

  -- by the column
  covers-back : (n : ℕ) (new : Editor) → new.place ≡ covering → LeadsBack d e n new
  covers-back n new is = record {
    to_place =
        λ not. ⊎_elim (λ there. is ∙ entered-at o there ∙ own-slot.1)
        (λ full. absurd (not (record { last = full.last; at_end = sym own-slot.1 ∙ ap (λ x. r.start + x) full.at_end; full = full.full }))) again;
    to_edge =
        λ full more.
        let s = at-edge full.full in
        record { slot = s.0; is_slot = s.1.is_slot; place_is = is ∙ entered-at s.0.offset s.1.entry_is; covered = s.1.covered };
  }

  once : times e.place (places_of r) ≡ 1
  once = sym (same-times d e.base e.width some e.content.text has.text e.place k one.row) ∙ one.once

  by-goal : (b : Bool) → (row_home (rows d e) e.place == e.place) ≡ b → (n : ℕ) (new : Editor)
      → new.place ≡ enter d e.base e.width some e.content.text has.text (elim b [ true ↦ Start | false ↦ Column column ]) k → LeadsBack d e n new
  by-goal true e' n new is =
      let home : row_home (rows d e) e.place ≡ e.place = eqb-true (row_home (rows d e) e.place) e.place e' in record {
        to_place = λ not. is ∙ home;
        to_edge = λ full more. absurd (apart e.width r r.row.units e.place some refl full (sym home) once);
      }
  by-goal false e' n new is = covers-back n new is

  leads-back : (n : ℕ) (new : Editor) → new.place ≡ back-at → LeadsBack d e n new
  leads-back = by-goal (row_home (rows d e) e.place == e.place) refl

  stays : LeadsBack d e 0 e
  stays = record { to_place = λ not. refl; to_edge = λ full more. absurd (omega (arith, more)) }

  -- there and back, from where the goal is as if it was kept
  module _ (off : e.search_state ≡ Off) (settled : e.pasted ≡ None) (unasked : e.prompt ≡ prompts.Off) (paged : Bool) (kept : Goal)
      (begins : Begins d e off settled unasked paged kept) where
    -- where a row is entered
    abbrev at : ℕ → ℕ
    at j = enter d e.base e.width some e.content.text has.text kept j

    abbrev as-in : Marks → ℕ → Editor
    as-in m j = at-row d e off settled unasked paged kept some has.text m j

    down-back : (m : ℕ) → k + suc m * size paged e.height < length (rows d e)
        → (after_keys d None e (replicate (suc m) (move_key paged Down) ++ replicate (suc m) (move_key paged Up))).place ≡ at k
    down-back m below =
        let span = suc m * size paged e.height in
        let far = k + span in
        let same : far - span ≡ k = omega arith in
        let first = left_after (suc m) (e.mark, e.soft) in
        let last = left_after (suc m) first in
        ap (λ (x : Editor). x.place)
        (there-and-back d e off settled unasked paged kept some has.text Down Up m far first last begins
        (goes-down d e off settled unasked paged kept some has.text m k e.place (e.mark, e.soft) refl below)
        (goes-up d e off settled unasked paged kept some has.text m far (at far) first
        (falls-there d e.base e.width some e.content.text has.text kept far below) (omega arith) below
        ∙ ap (as-in last) same))

    up-back : (m : ℕ) → suc m * size paged e.height ≤ k
        → (after_keys d None e (replicate (suc m) (move_key paged Up) ++ replicate (suc m) (move_key paged Down))).place ≡ at k
    up-back m above =
        let span = suc m * size paged e.height in
        let far = k - span in
        let same : far + span ≡ k = omega (arith, above) in
        let within : far < length (rows d e) = omega (arith, one.row) in
        let first = left_after (suc m) (e.mark, e.soft) in
        let last = left_after (suc m) first in
        ap (λ (x : Editor). x.place)
        (there-and-back d e off settled unasked paged kept some has.text Up Down m far first last begins
        (goes-up d e off settled unasked paged kept some has.text m k e.place (e.mark, e.soft) refl above one.row)
        (goes-down d e off settled unasked paged kept some has.text m far (at far) first
        (falls-there d e.base e.width some e.content.text has.text kept far within) (omega (arith, above, one.row))
        ∙ ap (as-in last) same))

  -- where no column is kept
  module _ (off : e.search_state ≡ Off) (settled : e.pasted ≡ None) (unasked : e.prompt ≡ prompts.Off) (none : e.goal ≡ None) (paged : Bool) where
    begun : Begins d e off settled unasked paged goal
    begun = keys-from d e off settled unasked paged goal none refl

    down-and-up : (n : ℕ) → k + n * size paged e.height < length (rows d e)
        → LeadsBack d e n (after_keys d None e (replicate n (move_key paged Down) ++ replicate n (move_key paged Up)))
    down-and-up zero below = stays
    down-and-up (suc m) below =
        let new = after_keys d None e (replicate (suc m) (move_key paged Down) ++ replicate (suc m) (move_key paged Up)) in
        leads-back (suc m) new (down-back off settled unasked paged goal begun m below)

    up-and-down : (n : ℕ) → n * size paged e.height ≤ k
        → LeadsBack d e n (after_keys d None e (replicate n (move_key paged Up) ++ replicate n (move_key paged Down)))
    up-and-down zero above = stays
    up-and-down (suc m) above =
        let new = after_keys d None e (replicate (suc m) (move_key paged Up) ++ replicate (suc m) (move_key paged Down)) in
        leads-back (suc m) new (up-back off settled unasked paged goal begun m above)

  -- where one is kept, in which the place's row is entered at the place
  module _ (off : e.search_state ≡ Off) (settled : e.pasted ≡ None) (unasked : e.prompt ≡ prompts.Off) (kept : Goal) (entered : IsEntered d e kept) (paged : Bool) where
    here : enter d e.base e.width some e.content.text has.text kept k ≡ e.place
    here = ap (λ x. unwrap_or x 0) entered.entered

    on-and-back : (n : ℕ) → k + n * size paged e.height < length (rows d e)
        → (after_keys d None e (replicate n (move_key paged Down) ++ replicate n (move_key paged Up))).place ≡ e.place
    on-and-back zero below = refl
    on-and-back (suc m) below = down-back off settled unasked paged kept (keys-kept d e off settled unasked paged kept entered.kept) m below ∙ here

    back-and-on : (n : ℕ) → n * size paged e.height ≤ k
        → (after_keys d None e (replicate n (move_key paged Up) ++ replicate n (move_key paged Down))).place ≡ e.place
    back-and-on zero above = refl
    back-and-on (suc m) above = up-back off settled unasked paged kept (keys-kept d e off settled unasked paged kept entered.kept) m above ∙ here

pub line-moves-go-back : LineMovesGoBack
line-moves-go-back d e n can none = record {
  below = λ below. down-and-up d e can.rows_fit can.place can.unsought can.settled can.unasked none false n (omega (arith, below));
  above = λ above. up-and-down d e can.rows_fit can.place can.unsought can.settled can.unasked none false n (omega (arith, above));
}

pub page-moves-go-back : PageMovesGoBack
page-moves-go-back d e n can none = record {
  below = down-and-up d e can.rows_fit can.place can.unsought can.settled can.unasked none true n;
  above = up-and-down d e can.rows_fit can.place can.unsought can.settled can.unasked none true n;
}

pub kept-moves-go-back : KeptMovesGoBack
kept-moves-go-back d e n kept can entered = record {
  lines_below = λ below. on-and-back d e can.rows_fit can.place can.unsought can.settled can.unasked kept entered false n (omega (arith, below));
  lines_above = λ above. back-and-on d e can.rows_fit can.place can.unsought can.settled can.unasked kept entered false n (omega (arith, above));
  pages_below = on-and-back d e can.rows_fit can.place can.unsought can.settled can.unasked kept entered true n;
  pages_above = back-and-on d e can.rows_fit can.place can.unsought can.settled can.unasked kept entered true n;
}
