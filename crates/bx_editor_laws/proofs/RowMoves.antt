-- Moves from row to row by a goal: to which rows they lead, and where they enter them.
use Rattle.std.proofs.Common.{◌≡◌, ◌≢◌, ℕ, zero, suc, ◌+◌, ◌-◌, ◌*◌, ◌<◌, ◌≤◌, Bool, true, false, List, [], ◌∷◌, ◌++◌}
use Rattle.std.proofs.Common.{length, replicate}
use Rattle.std.proofs.Common.{Option, Some, None, unwrap_or, IsUtf8, refl, sym, ap, ap₂, ◌∙◌, arith, ne_eqb, if◌then◌else◌}
use Rattle.std.specs.Prelude.{Contains, MatchOption}
use Rattle.bx_keys.specs.declared.key.Key.{Key}
use Rattle.bx_keys.specs.declared.key.Key.TheVariants.{LineDown, LineUp, PageBack, PageOn}
use Rattle.bx_ucd.specs.Data.{Data}
use Rattle.bx_editor.specs.declared.questions.answers.Prompt.TheVariants as prompts
use Rattle.bx_common.specs.declared.base.Base.{Base}
use Rattle.bx_view.specs.declared.moves.Goal.{Goal}
use Rattle.bx_view.specs.declared.moves.Goal.TheVariants.{Column, Start, End}
use Rattle.bx_view.specs.declared.moves.Vertical.{Vertical}
use Rattle.bx_view.specs.declared.moves.Vertical.TheVariants.{Up, Down}
use Rattle.bx_view.specs.Moves.{entry_in, goal_in, goal_of, row_away, rows_away, to_row}
use Rattle.bx_view.specs.TextRows.{TextRow, places_of, row_at, row_of, text_rows}
use Rattle.bx_view.proofs.Entered.{row-entered}
use Rattle.bx_view_laws.proofs.ViewRows.{goal-row}
use Rattle.bx_editor.specs.declared.search_state.SearchState.TheVariants.{Off}
use Rattle.bx_editor.specs.declared.cursor.Soft.{Soft}
use Rattle.bx_editor.specs.declared.undo_groups.typing.Typing.TheVariants as typings
use Rattle.bx_editor.specs.Before.{Before, before}
use Rattle.bx_editor.specs.Editor.{Editor, cleared, rows, text_height}
use Rattle.bx_editor.specs.Effects.{Refuses, by}
use Rattle.bx_editor.specs.Keys.{after_any, after_key, as_left, refuses_replacing}
use Rattle.bx_editor.specs.Functions.{after_keys, is_told_key}
use Rattle.bx_editor.specs.Region.{aged, mark_left, soft_left, unselected}
use Rattle.bx_editor.specs.RowMoves.{after_row_move}
use Rattle.bx_editor.specs.Scrolling.{page_rows}
use Rattle.bx_editor.proofs.InSearch.{any-key}

-- ---- rows of a text that are entered by a goal

same-entry : (x : Option ℕ) (P : ℕ → Type 0) (place : ℕ) → MatchOption x ⊥ P → unwrap_or x place ≡ unwrap_or x 0
same-entry None P place h = absurd h
same-entry (Some q) P place h = refl

module _ (ucd : Data) (base : Base) (w : ℕ) (some : 1 ≤ w) (text : List ℕ) (utf8 : IsUtf8 text) (goal : Goal) where
  abbrev all : List TextRow
  all = text_rows ucd base w text

  -- where a row is entered
  abbrev pub enter : ℕ → ℕ
  enter k = unwrap_or (goal_in w (row_at all k) goal) 0

  -- wherever the move began
  entered-by : (k place : ℕ) → k < length all → (g : Goal) → unwrap_or (goal_in w (row_at all k) g) place ≡ unwrap_or (goal_in w (row_at all k) g) 0
  entered-by k place within (Column column) =
      same-entry (entry_in w (row_at all k) column) (Contains (places_of (row_at all k))) place (row-entered ucd base w some text utf8 k within column)
  entered-by k place within Start = refl
  entered-by k place within End = refl

  -- it falls in that row
  pub falls-there : (k : ℕ) → k < length all → row_of all (enter k) ≡ k
  falls-there k within = goal-row ucd base w some text utf8 k goal 0 within

  -- some rows down, some rows up
  to-other : (place j : ℕ) → j ≢ row_of all place → j < length all → to_row w all goal place j ≡ enter j
  to-other place j other within =
      ap (λ t. elim t [ true ↦ place | false ↦ unwrap_or (goal_in w (row_at all j) goal) place ]) (ne_eqb j (row_of all place) other)
      ∙ entered-by j place within goal

  pub far-down : (place k t : ℕ) → row_of all place ≡ k → 1 ≤ t → k + t < length all → rows_away w all Down t goal place ≡ enter (k + t)
  far-down place k t at some more =
      let next : row_away (length all) Down t (row_of all place) ≡ k + t = omega (arith, at, more) in
      ap (to_row w all goal place) next ∙ to-other place (k + t) (λ same. omega (arith, same, at, some)) more

  pub far-up : (place k t : ℕ) → row_of all place ≡ k → 1 ≤ t → t ≤ k → k < length all → rows_away w all Up t goal place ≡ enter (k - t)
  far-up place k t at some more within =
      let next : row_away (length all) Up t (row_of all place) ≡ k - t = omega (arith, at) in
      ap (to_row w all goal place) next ∙ to-other place (k - t) (λ same. omega (arith, same, at, some, more)) (omega (arith, within))

-- ---- keys

pub keys-append : (d : Data) (e : Editor) (xs ys : List Key) → after_keys d None e (xs ++ ys) ≡ after_keys d None (after_keys d None e xs) ys
keys-append d e [] ys = refl
keys-append d e (x ∷ xs) ys = keys-append d (after_key d None e x) xs ys

-- a move by a row, or by a page
abbrev pub move_key : Bool → Vertical → Key
move_key false Up = LineUp
move_key false Down = LineDown
move_key true Up = PageBack
move_key true Down = PageOn

-- the rows by which it moves, in a window of this height
abbrev pub size : Bool → ℕ → ℕ
size false height = 1
size true height = page_rows (text_height height)

size-some : (paged : Bool) (height : ℕ) → 1 ≤ size paged height
size-some false height = omega arith
size-some true height = omega arith

-- the mark and its softness, and what a move makes of them
abbrev pub Marks : Type 0
Marks = Option ℕ × Soft

abbrev pub left : Marks → Marks
left m = (mark_left m.1 m.0, aged (soft_left m.1))

abbrev pub left_after : ℕ → Marks → Marks
left_after zero m = m
left_after (suc n) m = left_after n (left m)

-- such a key outside a search and a question
moves-any : (d : Data) (was : Before) (paged : Bool) (way : Vertical) (e : Editor)
    → after_any d None was prompts.Off Off e (move_key paged way) ≡ after_row_move d (unselected e) way (size paged e.height)
moves-any d was false Up e = refl
moves-any d was false Down e = refl
moves-any d was true Up e = refl
moves-any d was true Down e = refl

-- nothing is left of a selection that is fresh, and of presses
abbrev behind : Editor → Editor
behind e = record e { soft = aged e.soft; clicks = None; pressed = None }

left-by : (paged : Bool) (way : Vertical) (e : Editor) → as_left (move_key paged way) e ≡ behind e
left-by false Up e = refl
left-by false Down e = refl
left-by true Up e = refl
left-by true Down e = refl

allowed : (paged : Bool) (way : Vertical) (e : Editor) → refuses_replacing e (move_key paged way) ≡ false
allowed false Up e = refl
allowed false Down e = refl
allowed true Up e = refl
allowed true Down e = refl

not-told : (paged : Bool) (way : Vertical) → is_told_key (move_key paged way) ≡ false
not-told false Up = refl
not-told false Down = refl
not-told true Up = refl
not-told true Down = refl

module _ (d : Data) (e : Editor) (off : e.search_state ≡ Off) (settled : e.pasted ≡ None) (unasked : e.prompt ≡ prompts.Off)
    (paged : Bool) (goal : Goal) where
  -- the rows of a move
  abbrev t : ℕ
  t = size paged e.height

  -- at a place, with the goal kept
  abbrev pub kept-at : Marks → ℕ → Editor
  kept-at m place = record e {
    place = place;
    mark = m.0;
    soft = m.1;
    typing = typings.Off;
    message = None;
    quit_before = false;
    goal = Some goal;
    clicks = None;
    pressed = None;
  }

  -- where a key leads
  key-by : (x : Editor) (way : Vertical) → x.search_state ≡ Off → x.pasted ≡ None → x.prompt ≡ prompts.Off
      → after_key d None x (move_key paged way) ≡ behind (after_row_move d (unselected (cleared x)) way (size paged x.height))
  key-by x way unsought none free =
      any-key d None x (move_key paged way) none (not-told paged way)
      ∙ ap (λ b. as_left (move_key paged way) (if b then by d None (before x) (cleared x) Refuses else
      after_any d None (before x) x.prompt x.search_state (cleared x) (move_key paged way))) (allowed paged way x)
      ∙ ap₂ (λ a s. as_left (move_key paged way) (after_any d None (before x) a s (cleared x) (move_key paged way))) free unsought
      ∙ ap (as_left (move_key paged way)) (moves-any d (before x) paged way (cleared x))
      ∙ left-by paged way (after_row_move d (unselected (cleared x)) way (size paged x.height))

  pub key-moves : (way : Vertical) (m : Marks) (place : ℕ)
      → after_key d None (kept-at m place) (move_key paged way) ≡ kept-at (left m) (rows_away e.width (rows d e) way t goal place)
  key-moves way m place = key-by (kept-at m place) way off settled unasked

  -- the first one keeps what the place gives
  abbrev first-at : Vertical → Option Goal → Editor
  first-at way kept =
      let g = unwrap_or kept (goal_of e.width (rows d e) e.place) in
      let m = left (e.mark, e.soft) in
      record e {
        place = rows_away e.width (rows d e) way t g e.place;
        mark = m.0;
        soft = m.1;
        typing = typings.Off;
        message = None;
        quit_before = false;
        goal = Some g;
        clicks = None;
        pressed = None;
      }

  first-key : (way : Vertical) → after_key d None e (move_key paged way) ≡ first-at way e.goal
  first-key way = key-by e way off settled unasked

  -- the marks at first
  abbrev own : Marks
  own = (e.mark, e.soft)

  -- the keys begin as if the goal was kept
  abbrev pub Begins : Type 0
  Begins = (way : Vertical) (keys : List Key)
      → after_keys d None e (move_key paged way ∷ keys) ≡ after_keys d None (kept-at own e.place) (move_key paged way ∷ keys)

  pub keys-from : e.goal ≡ None → goal ≡ goal_of e.width (rows d e) e.place → Begins
  keys-from none is way keys =
      ap (λ new. after_keys d None new keys)
      (first-key way ∙ ap (first-at way) none
      ∙ ap (λ g. first-at way (Some g)) (sym is)
      ∙ sym (key-moves way own e.place))

  pub keys-kept : e.goal ≡ Some goal → Begins
  keys-kept kept way keys = ap (λ new. after_keys d None new keys) (first-key way ∙ ap (first-at way) kept ∙ sym (key-moves way own e.place))

  module _ (some : 1 ≤ e.width) (utf8 : IsUtf8 e.content.text) where
    down-to : (place k : ℕ) → row_of (rows d e) place ≡ k → k + t < length (rows d e)
        → rows_away e.width (rows d e) Down t goal place ≡ enter d e.base e.width some e.content.text utf8 goal (k + t)
    down-to place k at more =
        far-down d e.base e.width some e.content.text utf8 goal place k t at (size-some paged e.height) more

    up-to : (place k : ℕ) → row_of (rows d e) place ≡ k → t ≤ k → k < length (rows d e)
        → rows_away e.width (rows d e) Up t goal place ≡ enter d e.base e.width some e.content.text utf8 goal (k - t)
    up-to place k at more within =
        far-up d e.base e.width some e.content.text utf8 goal place k t at (size-some paged e.height) more within

    abbrev pub at-row : Marks → ℕ → Editor
    at-row m k = kept-at m (enter d e.base e.width some e.content.text utf8 goal k)

    pub goes-down : (n k place : ℕ) (m : Marks) → row_of (rows d e) place ≡ k → k + suc n * t < length (rows d e)
        → after_keys d None (kept-at m place) (replicate (suc n) (move_key paged Down)) ≡ at-row (left_after (suc n) m) (k + suc n * t)
    goes-down zero k place m at more =
        let there : k + t ≡ k + 1 * t = omega arith in
        key-moves Down m place
        ∙ ap (kept-at (left m)) (down-to place k at (omega (arith, more)))
        ∙ ap (at-row (left m)) there
    goes-down (suc n) k place m at more =
        let next : k + t < length (rows d e) = omega (arith, more) in
        let there : k + t + suc n * t ≡ k + suc (suc n) * t = omega arith in
        ap (λ new. after_keys d None new (replicate (suc n) (move_key paged Down)))
        (key-moves Down m place
        ∙ ap (kept-at (left m)) (down-to place k at next))
        ∙ goes-down n (k + t) (enter d e.base e.width some e.content.text utf8 goal (k + t)) (left m)
        (falls-there d e.base e.width some e.content.text utf8 goal (k + t) next) (omega (arith, more))
        ∙ ap (at-row (left_after (suc (suc n)) m)) there

    pub goes-up : (n k place : ℕ) (m : Marks) → row_of (rows d e) place ≡ k → suc n * t ≤ k → k < length (rows d e)
        → after_keys d None (kept-at m place) (replicate (suc n) (move_key paged Up)) ≡ at-row (left_after (suc n) m) (k - suc n * t)
    goes-up zero k place m at more within =
        let there : k - t ≡ k - 1 * t = omega arith in
        key-moves Up m place
        ∙ ap (kept-at (left m)) (up-to place k at (omega (arith, more)) within)
        ∙ ap (at-row (left m)) there
    goes-up (suc n) k place m at more within =
        let there : k - t - suc n * t ≡ k - suc (suc n) * t = omega arith in
        let lower : k - t < length (rows d e) = omega (arith, within) in
        ap (λ new. after_keys d None new (replicate (suc n) (move_key paged Up)))
        (key-moves Up m place
        ∙ ap (kept-at (left m)) (up-to place k at (omega (arith, more)) within))
        ∙ goes-up n (k - t) (enter d e.base e.width some e.content.text utf8 goal (k - t)) (left m)
        (falls-there d e.base e.width some e.content.text utf8 goal (k - t) lower) (omega (arith, more)) lower
        ∙ ap (at-row (left_after (suc (suc n)) m)) there

    pub there-and-back : (way other : Vertical) (n k : ℕ) (m m' : Marks) → Begins
        → after_keys d None (kept-at own e.place) (replicate (suc n) (move_key paged way)) ≡ at-row m k
        → after_keys d None (at-row m k) (replicate (suc n) (move_key paged other)) ≡ at-row m' (row_of (rows d e) e.place)
        → after_keys d None e (replicate (suc n) (move_key paged way) ++ replicate (suc n) (move_key paged other))
        ≡ at-row m' (row_of (rows d e) e.place)
    there-and-back way other n k m m' begins go back =
        let there = replicate (suc n) (move_key paged way) in
        let again = replicate (suc n) (move_key paged other) in
        keys-append d e there again
        ∙ ap (λ new. after_keys d None new again) (begins way (replicate n (move_key paged way)) ∙ go) ∙ back
