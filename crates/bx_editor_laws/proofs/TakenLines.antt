-- Shift with Down from a row's start takes whole rows.
use Rattle.std.proofs.Common.{◌≡◌, ◌∙◌, ℕ, zero, suc, ◌+◌, ◌<◌, ◌≤◌, min, max, true, false, [], ◌∷◌, length, slice_range, Option, Some, None}
use Rattle.std.proofs.Common.{refl, sym, ap, ap₂, subst, arith, eq-eqb, ne_eqb, if◌then◌else◌}
use Rattle.bx_keys.specs.declared.key.Key.TheVariants.{Copy, LineDown, Select}
use Rattle.bx_ucd.specs.Data.{Data}
use Rattle.bx_paragraph.proofs.Starts.{side-some}
use Rattle.bx_view.specs.declared.moves.Goal.TheVariants.{Column, Start}
use Rattle.bx_view.specs.declared.moves.Vertical.TheVariants.{Down}
use Rattle.bx_view.specs.Moves.{goal_of, row_home, rows_away}
use Rattle.bx_view.specs.Numbers.{count, start_at}
use Rattle.bx_view.specs.TextRows.{cell_of, first, row_at, row_of}
use Rattle.bx_view.proofs.Walking.{firsts-rise}
use Rattle.bx_editor.specs.declared.cursor.Soft.TheVariants.{Fresh, Old}
use Rattle.bx_editor.specs.declared.message.Message.TheVariants.{Copied, LineCopied, NothingToCopy}
use Rattle.bx_editor.specs.declared.undo_groups.typing.Typing.TheVariants as typings
use Rattle.bx_editor.specs.Editor.{Editor, cleared, rows}
use Rattle.bx_editor.specs.Functions.{after_keys}
use Rattle.bx_editor.specs.Keys.{after_key, as_left}
use Rattle.bx_editor.specs.Region.{bytes_in, is_empty, line, region, selecting, with_held, without_hard_mark}
use Rattle.bx_editor_laws.specs.LineLaws.{IsUnwrapped, ShiftDownTakesLines, TakesLines, shift_downs}
use Rattle.bx_editor_laws.specs.PointingLaws.{IsSelected}
use Rattle.bx_editor_laws.specs.WorkLaws.{CanMove}
use Rattle.bx_editor_laws.proofs.KeyEnds.{free-key}
use Rattle.bx_editor_laws.proofs.RowMoves.{Marks, far-down, kept-at, key-moves, keys-append, keys-from}
use Rattle.bx_editor_laws.proofs.TopSettled.{falls-there}
use Rattle.bx_editor_laws.proofs.UnwrappedLines.{row-starts-line, rows-are-lines}

module _ (d : Data) (e : Editor) (can : CanMove d e) (none : e.goal ≡ None) (unmarked : e.mark ≡ None) where
  abbrev k : ℕ
  k = row_of (rows d e) e.place

  some : 1 ≤ e.width
  some = side-some e.width can.rows_fit.columns

  -- a row's first place
  abbrev start : ℕ → ℕ
  start i = first (row_at (rows d e) i)

  falls : (i : ℕ) → i < length (rows d e) → row_of (rows d e) (start i) ≡ i
  falls i within = falls-there d e can.rows_fit i within

  -- a selection from the place, before LineDown and behind it
  abbrev fresh : Marks
  fresh = (Some e.place, Fresh)

  abbrev old : Marks
  old = (Some e.place, Old)

  abbrev at : Marks → ℕ → Editor
  at m place = kept-at d e can.unsought can.settled can.unasked false Start m place

  -- Select, first with no mark and then with an old selection
  abbrev begun : Option ℕ → Editor
  begun mark = as_left Select (selecting (cleared e) mark e.soft)

  abbrev selected : Editor
  selected = record e {
    mark = Some e.place;
    soft = Fresh;
    typing = typings.Off;
    message = None;
    quit_before = false;
    clicks = None;
    pressed = None;
  }

  select-first : after_key d None e Select ≡ selected
  select-first = free-key d None e Select can.settled refl refl can.unasked can.unsought ∙ ap begun unmarked

  select-on : (place : ℕ) → after_key d None (at old place) Select ≡ at fresh place
  select-on place = free-key d None (at old place) Select can.settled refl refl can.unasked can.unsought

  -- LineDown from a row's start
  down : (m : Marks) (i place : ℕ) → row_of (rows d e) place ≡ i → i + 1 < length (rows d e)
      → rows_away e.width (rows d e) Down 1 Start place ≡ start (i + 1)
  down m i place falls fits =
      let one : 1 ≤ 1 = omega arith in
      far-down d e.base e.width some e.content.text can.rows_fit.text Start place i 1 falls one fits

  step : (i place : ℕ) → row_of (rows d e) place ≡ i → i + 1 < length (rows d e) → after_key d None (at fresh place) LineDown ≡ at old (start (i + 1))
  step i place falls fits =
      key-moves d e can.unsought can.settled can.unasked false Start Down fresh place ∙ ap (at old) (down fresh i place falls fits)

  rounds : (n i : ℕ) → i + n < length (rows d e) → after_keys d None (at old (start i)) (shift_downs n) ≡ at old (start (i + n))
  rounds zero i fits = let same : i ≡ i + 0 = omega arith in ap (λ j. at old (start j)) same
  rounds (suc n) i fits =
      let same : i + 1 + n ≡ i + suc n = omega arith in
      ap (λ x. after_keys d None (after_key d None x LineDown) (shift_downs n)) (select-on (start i))
      ∙ ap (λ x. after_keys d None x (shift_downs n)) (step i (start i) (falls i (omega (arith, fits))) (omega (arith, fits)))
      ∙ rounds n (i + 1) (omega (arith, fits)) ∙ ap (λ j. at old (start j)) same

  module _ (home : e.place ≡ row_home (rows d e) e.place) where
    starts : goal_of e.width (rows d e) e.place ≡ Start
    starts = ap (λ b. elim b [ true ↦ Start | false ↦ Column (cell_of e.width (rows d e) e.place) ]) (eq-eqb (row_home (rows d e) e.place) e.place (sym home))

    first-down : (n : ℕ) → after_keys d None selected (LineDown ∷ shift_downs n) ≡ after_keys d None (at fresh e.place) (LineDown ∷ shift_downs n)
    first-down n = keys-from d selected can.unsought can.settled can.unasked false Start none (sym starts) Down (shift_downs n)

    taken : (n : ℕ) → k + suc n < length (rows d e) → after_keys d None e (shift_downs (suc n)) ≡ at old (start (k + suc n))
    taken n fits =
        let same : k + 1 + n ≡ k + suc n = omega arith in
        ap (λ x. after_keys d None x (LineDown ∷ shift_downs n)) select-first
        ∙ first-down n
        ∙ ap (λ x. after_keys d None x (shift_downs n)) (step k e.place refl (omega (arith, fits)))
        ∙ rounds n (k + 1) (omega (arith, fits)) ∙ ap (λ j. at old (start j)) same

    taken-some : (n : ℕ) → 0 < n → k + n < length (rows d e) → after_keys d None e (shift_downs n) ≡ at old (start (k + n))
    taken-some zero more fits = absurd (omega (arith, more))
    taken-some (suc n) more fits = taken n fits

    selects : (n : ℕ) → 0 < n → k + n < length (rows d e) → IsSelected (e.place, start (k + n)) (after_keys d None e (shift_downs n))
    selects n more fits =
        subst (IsSelected (e.place, start (k + n))) (sym (taken-some n more fits)) (record { mark_is = refl; place_is = refl; soft_is = refl })

  -- ---- Copy takes them

  copied-by : (stop : ℕ) → e.place < stop → (after_key d None (at old stop) Copy).held ≡ slice_range e.content.text e.place stop
  copied-by stop more =
      let x = cleared (at old stop) in
      let apart : is_empty (region x) ≡ false = ne_eqb (min e.place stop) (max e.place stop) (λ same. omega (arith, same, more)) in
      let nothing : Editor = record (without_hard_mark x) { message = Some NothingToCopy } in
      let whole = with_held x (bytes_in x (line d x)) true LineCopied in
      let part = with_held x (bytes_in x (region x)) false Copied in
      let low : min e.place stop ≡ e.place = omega (arith, more) in
      let high : max e.place stop ≡ stop = omega (arith, more) in
      ap (λ (y : Editor). y.held)
      (free-key d None (at old stop) Copy can.settled refl refl can.unasked can.unsought
      ∙ ap (λ b. as_left Copy (if b then (if is_empty (line d x) then nothing else whole) else part)) apart)
      ∙ ap₂ (λ a b. slice_range e.content.text a b) low high

  -- ---- lines

  module _ (unwrapped : IsUnwrapped d e) (number n : ℕ) (begins : e.place ≡ start_at d e.content.text number) (more : 0 < n)
      (fits : number + n < count d e.content.text) where
    many : length (rows d e) ≡ count d e.content.text
    many = rows-are-lines d e.base e.width some e.content.text can.rows_fit.text unwrapped

    line-starts : (i : ℕ) → i < count d e.content.text → start i ≡ start_at d e.content.text i
    line-starts i within = row-starts-line d e.base e.width some e.content.text can.rows_fit.text unwrapped i within

    own : e.place ≡ start number
    own = begins ∙ sym (line-starts number (omega (arith, fits)))

    own-row : k ≡ number
    own-row = ap (row_of (rows d e)) own ∙ falls number (omega (arith, many, fits))

    home : e.place ≡ row_home (rows d e) e.place
    home = own ∙ sym (ap start own-row)

    enough : k + n < length (rows d e)
    enough = omega (arith, own-row, many, fits)

    stop-is : start (k + n) ≡ start_at d e.content.text (number + n)
    stop-is = ap (λ i. start (i + n)) own-row ∙ line-starts (number + n) fits

    rises : e.place < start (k + n)
    rises =
        let less : number < number + n = omega (arith, more) in
        let inside : number + n < length (rows d e) = omega (arith, many, fits) in
        let up = firsts-rise d e.base e.width some e.content.text can.rows_fit.text number (number + n) less inside in
        omega (arith, own, ap (λ i. start (i + n)) own-row, up)

    takes-lines : TakesLines d e number n
    takes-lines = record {
      selects = subst (λ part. IsSelected part (after_keys d None e (shift_downs n))) (ap₂ (λ (a b : ℕ). (a, b)) begins stop-is) (selects home n more enough);
      copies = ap (λ (y : Editor). y.held) (keys-append d e (shift_downs n) (Copy ∷ [])
          ∙ ap (λ x. after_key d None x Copy) (taken-some home n more enough))
          ∙ copied-by (start (k + n)) rises ∙ ap₂ (λ a b. slice_range e.content.text a b) begins stop-is;
    }

pub shift-down-takes-lines : ShiftDownTakesLines
shift-down-takes-lines d e n can none unmarked more = record {
  rows = record { selects = λ home fits. selects d e can none unmarked home n more fits };
  lines = λ number unwrapped begins fits. takes-lines d e can none unmarked unwrapped number n begins more fits;
}
