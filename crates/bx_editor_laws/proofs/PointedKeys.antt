-- Pointing at the picture: where it leads, and what is shown then.
use Rattle.std.proofs.Common.{◌≡◌, ℕ, ◌+◌, ◌-◌, ◌≤◌, ◌<◌, nat_le, Bool, true, false, Option, Some, None, refl, sym, ap, ap₂, subst, ◌∙◌}
use Rattle.std.proofs.Common.{arith, inl, inr, leb-true, if◌then◌else◌}
use Rattle.std.specs.Prelude.{◌≢◌, ◌⊎◌, ◌==◌, ◌&&◌, unwrap_or}
use Rattle.std.proofs.lemmas.Bool.{le-leb}
use Rattle.std.proofs.lemmas.Bool.Decides.{nat_tests}
use Rattle.bx_keys.specs.declared.key.Key.TheVariants.{Drag, Point}
use Rattle.bx_ucd.specs.Data.{Data}
use Rattle.bx_document.specs.Line.{line_of}
use Rattle.bx_paragraph.proofs.Starts.{side-some}
use Rattle.bx_view.specs.Top.{pointed_at, follow}
use Rattle.bx_view.specs.TextRows.{TextRow, cell_of, first, row_at, row_of}
use Rattle.bx_view.specs.Words.{stretch_at}
use Rattle.bx_view.proofs.CellColumns.{cell-inside}
use Rattle.bx_view.proofs.LeastMove.{falls-own}
use Rattle.bx_view.proofs.TextPlaces.{place-in-window}
use Rattle.bx_view.proofs.Walking.{rows-rise}
use Rattle.bx_view_laws.specs.Pointed.{ShowsUnit, TopStays, picture_row}
use Rattle.bx_view_laws.specs.Pointed as pointed
use Rattle.bx_view_laws.proofs.PointedTop as tops
use Rattle.bx_view_laws.proofs.PointedUnits.{own-cells-stay, units-are-taken}
use Rattle.bx_editor.specs.declared.clicks.Clicks.{Clicks}
use Rattle.bx_editor.specs.declared.clicks.Extent.{Extent}
use Rattle.bx_editor.specs.declared.clicks.Extent.TheVariants as extents
use Rattle.bx_editor.specs.declared.clicks.Pressed.{Pressed}
use Rattle.bx_editor.specs.declared.cursor.Soft.{Soft}
use Rattle.bx_editor.specs.declared.cursor.Soft.TheVariants as softness
use Rattle.bx_editor.specs.declared.questions.answers.Prompt.TheVariants as prompts
use Rattle.bx_editor.specs.declared.search_state.SearchState.TheVariants.{Off}
use Rattle.bx_editor.specs.declared.undo_groups.typing.Typing.TheVariants as typings
use Rattle.bx_editor.specs.Asking.{without_prompt}
use Rattle.bx_editor.specs.Editor.{Editor, cleared, rows, text_height}
use Rattle.bx_editor.specs.Functions.{HasRows, after_keys}
use Rattle.bx_editor.specs.Keys.{after_key, as_left}
use Rattle.bx_editor.specs.Picture.{blank_picture, picture, text_picture, scrolled, with_cursor}
use Rattle.bx_editor.specs.Pointing.{after_drag, clicking, further, part_at, pointed_place, press_extent, pressed_at, pressing, pressing_with, selecting_part}
use Rattle.bx_editor.specs.Region.{aged, is_empty, mark_left, soft_left, unselected}
use Rattle.bx_editor.specs.Status.{input_column}
use Rattle.bx_editor_laws.specs.WorkLaws.{IsFullEnd, own_row}
use Rattle.bx_editor_laws.specs.SelectionLaws.{IsFirstPress}
use Rattle.bx_editor_laws.specs.PointingLaws.{cursor_column, cursor_row, presses, IsBare, IsSelected, PointStays, PointTakesUnits, PressesTake, StandsAt, ThreePresses}
use Rattle.bx_editor.proofs.OnItsCell.{in_text}
use Rattle.bx_editor_laws.proofs.KeyEnds.{ended-key, free-key}

-- ---- the key

-- all that a first press leaves
abbrev at-point : Data → Editor → ℕ → ℕ → Option ℕ → Soft → Option Clicks → Option Pressed → Editor
at-point d e row column mark soft clicks pressed = record e {
  place = pointed_place d e row column;
  mark = mark;
  soft = soft;
  clicks = clicks;
  pressed = pressed;
  search_state = Off;
  prompt = prompts.Off;
  typing = typings.Off;
  message = None;
  quit_before = false;
  goal = None;
}

record IsPointed (d : Data) (e : Editor) (row column : ℕ) (new : Editor) : Type 0 where
  pub mark : Option ℕ
  pub soft : Soft
  pub clicks : Option Clicks
  pub pressed : Option Pressed
  pub is : new ≡ at-point d e row column mark soft clicks pressed

-- where nothing is asked or sought any more
abbrev free : Editor → Editor
free e = without_prompt (cleared e)

pressed-by : (d : Data) (e : Editor) (row column : ℕ) (soft : Soft)
    → IsPointed d e row column (as_left (Point row column) (pressing_with d (free e) row column (pointed_place d e row column) soft))
pressed-by d e row column softness.Fresh =
    let place = pointed_place d e row column in
    record {
      mark = e.mark;
      soft = aged e.soft;
      clicks = None;
      pressed = Some (pressing (unwrap_or e.mark place, unwrap_or e.mark place) extents.Unit);
      is = refl;
    }
pressed-by d e row column softness.Off = record {
  mark = mark_left e.soft e.mark;
  soft = aged (soft_left e.soft);
  clicks = Some (clicking row column extents.Unit);
  pressed = Some (pressing (part_at d e extents.Unit (pointed_place d e row column)) extents.Unit);
  is = refl;
}
pressed-by d e row column softness.Old = record {
  mark = mark_left e.soft e.mark;
  soft = aged (soft_left e.soft);
  clicks = Some (clicking row column extents.Unit);
  pressed = Some (pressing (part_at d e extents.Unit (pointed_place d e row column)) extents.Unit);
  is = refl;
}

-- a press in a row of the picture that shows text
press-is : (d : Data) (e : Editor) (row column : ℕ) → e.pasted ≡ None → (e.prompt ≡ prompts.Overwrite → ⊥) → row ≤ text_height e.height
    → after_key d None e (Point row column)
    ≡ as_left (Point row column) (pressed_at d (free e) row column (pointed_place d e row column) (press_extent e.clicks row column))
press-is d e row column settled other high =
    let x = free e in
    let press = pressed_at d x row column (pointed_place d e row column) (press_extent e.clicks row column) in
    ended-key d None e (Point row column) settled refl refl refl other
    ∙ ap (λ b. as_left (Point row column) (if b then press else record (unselected x) { clicks = None; pressed = None }))
    (le-leb row (text_height e.height) high)

pub first-is : (d : Data) (e : Editor) (row column : ℕ) → e.pasted ≡ None → (e.prompt ≡ prompts.Overwrite → ⊥) → row ≤ text_height e.height
    → IsFirstPress e (Point row column)
    → after_key d None e (Point row column) ≡ as_left (Point row column) (pressing_with d (free e) row column (pointed_place d e row column) e.soft)
first-is d e row column settled other high first =
    press-is d e row column settled other high
    ∙ ap (λ extent. as_left (Point row column) (pressed_at d (free e) row column (pointed_place d e row column) extent)) first

-- the same, as a record
point-is : (d : Data) (e : Editor) (row column : ℕ) → e.pasted ≡ None → (e.prompt ≡ prompts.Overwrite → ⊥) → row ≤ text_height e.height
    → IsFirstPress e (Point row column) → IsPointed d e row column (after_key d None e (Point row column))
point-is d e row column settled other high first =
    subst (IsPointed d e row column) (sym (first-is d e row column settled other high first)) (pressed-by d e row column e.soft)

pub point-place : (d : Data) (e : Editor) (row column : ℕ) → e.pasted ≡ None → (e.prompt ≡ prompts.Overwrite → ⊥) → row ≤ text_height e.height
    → IsFirstPress e (Point row column) → (after_key d None e (Point row column)).place ≡ pointed_place d e row column
point-place d e row column settled other high first = ap (λ x. x.place) (point-is d e row column settled other high first).is

place-by : (d : Data) (e : Editor) (row column place : ℕ) (soft : Soft) → (pressing_with d e row column place soft).place ≡ place
place-by d e row column place softness.Fresh = refl
place-by d e row column place softness.Off = refl
place-by d e row column place softness.Old = refl

-- a drag where nothing is pressed
pub drag-place : (d : Data) (e : Editor) (row column : ℕ) → e.pasted ≡ None → (e.prompt ≡ prompts.Overwrite → ⊥) → row ≤ text_height e.height
    → IsFirstPress e (Point row column) → e.pressed ≡ None → (after_key d None e (Drag row column)).place ≡ pointed_place d e row column
drag-place d e row column settled other high first pressed =
    let x = free e in
    let place = pointed_place d e row column in
    let press = pressed_at d x row column place (press_extent e.clicks row column) in
    ap (λ n. n.place) (ended-key d None e (Drag row column) settled refl refl refl other)
    ∙ ap (λ p. (after_drag d x row column p).place) pressed
    ∙ ap (λ b. (if b then press else record (unselected x) { clicks = None; pressed = None }).place) (le-leb row (text_height e.height) high)
    ∙ ap (λ extent. (pressed_at d x row column place extent).place) first
    ∙ place-by d x row column place e.soft

-- ---- the cursor in the picture

seen : (d : Data) (e : Editor) → e.ended ≡ false → input_column d e ≡ None → picture d e e.top ≡ in_text d e e.top
seen d e on none =
    ap (λ b. if b then blank_picture e.height e.width else text_picture d e e.top (rows d e)) on
    ∙ ap (λ o. with_cursor o (in_text d e e.top)) none

seen-row : (d : Data) (e : Editor) → e.ended ≡ false → input_column d e ≡ None → cursor_row d e ≡ row_of (rows d e) e.place - row_of (rows d e) e.top + 1
seen-row d e on none = ap (λ p. p.row + 1) (seen d e on none)

seen-column : (d : Data) (e : Editor) → HasRows e → e.ended ≡ false → input_column d e ≡ None → cursor_column d e ≡ cell_of e.width (rows d e) e.place
seen-column d e has on none =
    let some = (cell-inside d e.base e.width e.content.text e.place (side-some e.width has.columns) has.text).0 in
    ap (λ p. p.column + 1) (seen d e on none) ∙ omega (arith, some)

-- no input line is shown
no-column : (high : Bool) (column : Option ℕ) → column ≡ None → (if high then column else None) ≡ None
no-column true none is = is
no-column false none is = refl

height-some : (height : ℕ) → 0 < text_height height
height-some height = by-two (nat_le 2 height) refl
  where
    by-two : (b : Bool) → nat_le 2 height ≡ b → 0 < (if b then height - 1 else 1)
    by-two true high = let more = leb-true 2 height high in omega (arith, more)
    by-two false low = omega arith

stays-on-top : (d : Data) (e : Editor) → HasRows e → TopStays e.width (rows d e) (text_height e.height)
stays-on-top d e has =
    tops.top-stays d e.base e.width (side-some e.width has.columns) e.content.text has.text (text_height e.height) (height-some e.height)

-- ---- at the cursor

-- a cell leads to its place, or the place is a full end
stays-or-full : (w : ℕ) (r : TextRow) (place at new : ℕ) → new ≡ at → (at ≡ place) ⊎ pointed.IsFullEnd w r place → (new ≡ place) ⊎ IsFullEnd w r place
stays-or-full w r place at new is (inl same) = inl (is ∙ same)
stays-or-full w r place at new is (inr full) = inr (record { last = full.last; at_end = full.place_is; full = full.full })

pub point-stays : PointStays
point-stays d e shown none first place among =
    let has = shown.has in
    let some = side-some e.width has.columns in
    let all = rows d e in
    let row = picture_row all e.top (row_of all e.place) in
    let column = cell_of e.width all e.place in
    let at-row : cursor_row d e ≡ row = seen-row d e shown.on none in
    let at-column : cursor_column d e ≡ column = seen-column d e has shown.on none in
    let high : cursor_row d e ≤ text_height e.height = omega (arith, at-row, among.below, among.above) in
    let kept : pointed_place d e (cursor_row d e) (cursor_column d e) ≡ pointed_at e.width all e.top row column =
    ap₂ (pointed_place d e) at-row at-column in
    let new : (after_key d None e (Point (cursor_row d e) (cursor_column d e))).place ≡ pointed_at e.width all e.top row column =
    ap (λ (x : Editor). x.place) ((point-is d e (cursor_row d e) (cursor_column d e) shown.settled shown.undecided high first).is) ∙ kept in
    stays-or-full e.width (own_row d e) e.place (pointed_at e.width all e.top row column)
    (after_key d None e (Point (cursor_row d e) (cursor_column d e))).place new
    (own-cells-stay d e.base e.width some e.content.text has.text e.top e.place
    (place-in-window d e.base e.width some e.content.text has.text e.place place) among.above)

-- ---- at a unit

pub point-takes-units : PointTakesUnits
point-takes-units d e k place column stop c shown low within high shows start upto press =
    let has = shown.has in
    let some = side-some e.width has.columns in
    let all = rows d e in
    let t = text_height e.height in
    let row = picture_row all e.top k in
    let leads = units-are-taken d e.base e.width some e.content.text has.text e.top k place column stop c low within shows start upto in
    let is = point-is d e row c shown.settled shown.undecided high press in
    let x = at-point d e row c is.mark is.soft is.clicks is.pressed in
    let at : x.place ≡ place = leads.place_is in
    let top : (scrolled d x).top ≡ first (row_at all (row_of all e.top)) =
    ap (λ b. if b then e.top else follow all e.top x.place t) shown.on ∙ (stays-on-top d e has).same e.top row c high in
    let above : row_of all (scrolled d x).top ≡ row_of all e.top =
    ap (row_of all) top ∙ falls-own all _ (rows-rise d e.base e.width some e.content.text has.text) (row_of all e.top) (omega (arith, low, within)) in
    let none : input_column d (scrolled d x) ≡ None = no-column (nat_le 2 e.height) None refl in
    subst (StandsAt d row column place) (sym is.is)
    (record {
      place_is = at;
      row_is = seen-row d (scrolled d x) shown.on none ∙ ap₂ (λ a b. a - b + 1) (ap (row_of all) at ∙ leads.row_is) above;
      column_is = seen-column d (scrolled d x) (record { text = has.text; columns = has.columns }) shown.on none ∙ ap (cell_of e.width all) at
          ∙ leads.column_is;
    })

-- ---- again and again

at-itself : (n : ℕ) → (n == n) ≡ true
at-itself n = grind (arith, nat_tests)

not-fresh : (d : Data) (x : Editor) (row column place : ℕ) (soft : Soft) → soft ≢ softness.Fresh
    → pressing_with d x row column place soft
    ≡ record (unselected x) {
      place = place;
      clicks = Some (clicking row column extents.Unit);
      pressed = Some (pressing (part_at d x extents.Unit place) extents.Unit);
    }
not-fresh d x row column place softness.Off other = refl
not-fresh d x row column place softness.Fresh other = absurd (other refl)
not-fresh d x row column place softness.Old other = refl

-- behind a press at the same cell
further-press : (d : Data) (y : Editor) (row column : ℕ) (extent : Extent) → y.pasted ≡ None → y.prompt ≡ prompts.Off → y.search_state ≡ Off
    → row ≤ text_height y.height → y.clicks ≡ Some (clicking row column extent)
    → after_key d None y (Point row column)
    ≡ as_left (Point row column) (pressed_at d (cleared y) row column (pointed_place d y row column) (further extent))
further-press d y row column extent settled unasked unsought high clicked =
    let x = cleared y in
    let place = pointed_place d y row column in
    let press : Extent → Editor = λ n. as_left (Point row column) (pressed_at d x row column place n) in
    free-key d None y (Point row column) settled refl refl unasked unsought
    ∙ ap (λ b. as_left (Point row column)
    (if b then pressed_at d x row column place (press_extent y.clicks row column) else record (unselected x) { clicks = None; pressed = None }))
    (le-leb row (text_height y.height) high)
    ∙ ap (λ c. press (press_extent c row column)) clicked
    ∙ ap₂ (λ a b. press (if a && b then further extent else extents.Unit)) (at-itself row) (at-itself column)

module _ (d : Data) (e : Editor) (row column : ℕ) (settled : e.pasted ≡ None) (other : e.prompt ≡ prompts.Overwrite → ⊥) (none : e.clicks ≡ None)
    (old : e.soft ≢ softness.Fresh) (high : row ≤ text_height e.height) where
  abbrev p : ℕ
  p = pointed_place d e row column

  abbrev word : ℕ × ℕ
  word = stretch_at d e.content.text p

  abbrev line : ℕ × ℕ
  line = line_of d e.content.text p

  abbrev key-left : Editor → Editor
  key-left x = as_left (Point row column) x

  -- the first press
  abbrev one : Editor
  one = key-left (record (unselected (free e)) {
    place = p;
    clicks = Some (clicking row column extents.Unit);
    pressed = Some (pressing (part_at d e extents.Unit p) extents.Unit);
  })

  first-press : after_key d None e (Point row column) ≡ one
  first-press =
      first-is d e row column settled other high (ap (λ c. press_extent c row column) none)
      ∙ ap key-left (not-fresh d (free e) row column p e.soft old)

  -- the second, by whether there is a word
  abbrev two : Bool → Editor
  two empty =
      key-left (record (if empty then record (cleared one) { mark = None; soft = softness.Off; place = word.0 } else selecting_part (cleared one) word.0 word.1) {
        clicks = Some (clicking row column extents.Word);
        pressed = Some (pressing word extents.Word);
      })

  second-press : after_key d None one (Point row column) ≡ two (is_empty word)
  second-press = further-press d one row column extents.Unit settled refl refl high refl

  -- the third
  abbrev three : Bool → Editor
  three empty =
      key-left (record (selecting_part (cleared (two empty)) line.0 line.1) {
        clicks = Some (clicking row column extents.Paragraph);
        pressed = Some (pressing line extents.Paragraph);
      })

  third-press : (empty : Bool) → after_key d None (two empty) (Point row column) ≡ three empty
  third-press true = further-press d (two true) row column extents.Word settled refl refl high refl
  third-press false = further-press d (two false) row column extents.Word settled refl refl high refl

  fourth-press : (empty : Bool) → IsBare p (after_key d None (three empty) (Point row column))
  fourth-press true =
      subst (IsBare p) (sym (further-press d (three true) row column extents.Paragraph settled refl refl high refl))
      (record { place_is = refl; mark_is = refl })
  fourth-press false =
      subst (IsBare p) (sym (further-press d (three false) row column extents.Paragraph settled refl refl high refl))
      (record { place_is = refl; mark_is = refl })

  after-two : after_keys d None e (presses row column 2) ≡ two (is_empty word)
  after-two = ap (λ x. after_key d None x (Point row column)) first-press ∙ second-press

  after-three : after_keys d None e (presses row column 3) ≡ three (is_empty word)
  after-three = ap (λ x. after_key d None x (Point row column)) after-two ∙ third-press (is_empty word)

  takes : PressesTake d e row column p
  takes = record {
    first = ap (λ (x : Editor). x.place) first-press;
    leaves = ap (λ (x : Editor). x.mark) first-press;
    word = λ some. subst (IsSelected word) (sym (after-two ∙ ap two some)) (record { mark_is = refl; place_is = refl; soft_is = refl });
    no_word = λ empty. subst (IsBare word.0) (sym (after-two ∙ ap two empty)) (record { place_is = refl; mark_is = refl });
    paragraph = subst (IsSelected line) (sym after-three) (record { mark_is = refl; place_is = refl; soft_is = refl });
    again = subst (λ x. IsBare p (after_key d None x (Point row column))) (sym after-three) (fourth-press (is_empty word));
  }

pub three-presses : ThreePresses
three-presses d e row column settled other none old high = takes d e row column settled other none old high
