-- The laws of keys that move the view, and of places that are moved by a goal.
use Rattle.std.proofs.Common.{◌≡◌, ◌⊎◌, inl, inr, ℕ, suc, ◌+◌, ◌/◌, ◌<◌, ◌≤◌, ◌==◌, min, Bool, true, false}
use Rattle.std.proofs.Common.{List, [], ◌∷◌, length, map, Option, Some, None, unwrap_or, IsUtf8, refl, sym, ap, subst, ◌∙◌, arith, ⊎_elim, eq-eqb, ne_eqb}
use Rattle.std.specs.Prelude.{Contains, MatchOption}
use Rattle.std.proofs.lemmas.Bool.{cases_lt, eqb-true}
use Rattle.std.proofs.lemmas.Bool.Decides.{nat_tests}
use Rattle.std.proofs.lemmas.List.{length-map}
use Rattle.bx_ucd.specs.Data.{Data}
use Rattle.bx_common.specs.declared.base.Base.{Base}
use Rattle.bx_paragraph.specs.BodyRows.{last_offset, last_of, offsets_of}
use Rattle.bx_view.specs.declared.moves.Goal.{Goal}
use Rattle.bx_view.specs.declared.moves.Goal.TheVariants.{Column, Start, End}
use Rattle.bx_view.specs.declared.moves.Vertical.{Vertical}
use Rattle.bx_view.specs.declared.moves.Vertical.TheVariants.{Up, Down}
use Rattle.bx_view.specs.Laws.{IsShownFrom}
use Rattle.bx_view.specs.Moves.{entry_in, goal_in, goal_of, row_away, row_home, rows_away, to_row}
use Rattle.bx_view.specs.TextRows.{IsPlace, TextRow, cell_of, first, places_of, row_at, row_of, text_rows}
use Rattle.bx_view.specs.Top.{centred, filled, is_among, last_top, middle_top, nearest_row, pointed_at, top_away, top_row_away}
use Rattle.bx_view.proofs.Entered.{row-entered}
use Rattle.bx_view.proofs.KeptPlaces.{contains-moved}
use Rattle.bx_view.proofs.LeastMove.{falls-own}
use Rattle.bx_view.proofs.Nearest.{falls-within}
use Rattle.bx_view.proofs.Rising.{rank-few}
use Rattle.bx_view.proofs.Walking.{rows-rise, text-rank}
use Rattle.bx_view_laws.specs.Pointed.{IsFullEnd, picture_row}
use Rattle.bx_view_laws.specs.Views.{Centres, Fills, GoalsAreEnds, IsFull, KeepsShown, PlacesReturn, ViewsReturn}
use Rattle.bx_view_laws.proofs.PointedTop.{of-some}
use Rattle.bx_view_laws.proofs.PointedUnits.{falls-in-own, own-cells-stay, row-pointed}

-- ---- rows by their numbers: `count` rows, `k` the top one, `n` the place's

middle-shows : (count n t : ℕ) → 0 < t → n < count → (middle_top count n t ≤ n) × (n < middle_top count n t + t)
middle-shows count n t some within = (omega (arith, some), omega (arith, some, within))

middle-fills : (count n t : ℕ) → n < count → (middle_top count n t ≡ 0) ⊎ (middle_top count n t + t ≤ count)
middle-fills count n t within = ⊎_elim (λ none. inl (omega (arith, none))) (λ some. inr (omega (arith, some))) (cases_lt count t)

middle-above : (count n t : ℕ) → middle_top count n t + min (t / 2) n ≤ n
middle-above count n t = omega arith

kept-away : (count n k t : ℕ) → k + n + t ≤ count → top_row_away count Up n (top_row_away count Down n k t) t ≡ k
kept-away count n k t h = omega (arith, h)

kept-back : (count n k t : ℕ) → n ≤ k → k + t ≤ count → top_row_away count Down n (top_row_away count Up n k t) t ≡ k
kept-back count n k t h l = omega (arith, h, l)

-- ---- a place that is there

last-in : (o : ℕ) (os : List ℕ) → Contains (o ∷ os) (last_offset (o ∷ os))
last-in o [] = (0, omega arith, refl)
last-in o (p ∷ os) = let c = last-in p os in (suc c.0, omega (arith, c.1), c.2)

last-contained : (os : List ℕ) → 0 < length os → Contains os (last_offset os)
last-contained [] h = absurd (omega (arith, h))
last-contained (o ∷ os) h = last-in o os

some-of : (x : Option ℕ) (P : ℕ → Type 0) → MatchOption x ⊥ P → (o : ℕ) × (x ≡ Some o) × P o
some-of None P h = absurd h
some-of (Some o) P h = (o, refl, h)

same-or : (x : Option ℕ) (P : ℕ → Type 0) (a b : ℕ) → MatchOption x ⊥ P → unwrap_or x a ≡ unwrap_or x b
same-or None P a b h = absurd h
same-or (Some o) P a b h = refl

first-or : (x y z : ℕ) (B : Type 0) → x ≡ y → (y ≡ z) ⊎ B → (x ≡ z) ⊎ B
first-or x y z B e (inl f) = inl (e ∙ f)
first-or x y z B e (inr b) = inr b

same-or-not : (n m : ℕ) → (n ≡ m) ⊎ (n ≡ m → ⊥)
same-or-not n m = ⊎_elim (λ less. inr (λ e. omega (arith, e, less)))
    (λ not. ⊎_elim (λ more. inr (λ e. omega (arith, e, more))) (λ neither. inl (omega (arith, not, neither))) (cases_lt m n)) (cases_lt n m)

module _ (ucd : Data) (base : Base) (w : ℕ) (side : 1 ≤ w) (text : List ℕ) (utf8 : IsUtf8 text) where
  abbrev rows : List TextRow
  rows = text_rows ucd base w text

  some-row : 0 < length rows
  some-row = omega (arith, text-rank ucd base w side text utf8 0, rank-few 0 (map first rows), length-map rows first)

  own-within : (offset : ℕ) → row_of rows offset < length rows
  own-within offset = falls-within rows offset some-row

  falls : (k : ℕ) → k < length rows → row_of rows (first (row_at rows k)) ≡ k
  falls k within = falls-own rows _ (rows-rise ucd base w side text utf8) k within

  -- ---- the top

  module _ (t : ℕ) (some : 0 < t) where
    shown-is : (top place : ℕ) → IsShownFrom rows place t (row_of rows top) → is_among (row_of rows top) (row_of rows place) t ≡ true
    shown-is top place h = let low = h.0 in let high = h.1 in grind (arith, nat_tests)

    unshown-is : (top place : ℕ) → (IsShownFrom rows place t (row_of rows top) → ⊥) → is_among (row_of rows top) (row_of rows place) t ≡ false
    unshown-is top place h = ⊎_elim
        (λ above. grind (arith, nat_tests))
        (λ low. ⊎_elim (λ high. absurd (h (low, high))) (λ below. grind (arith, nat_tests)) (cases_lt (row_of rows place) (row_of rows top + t)))
        (cases_lt (row_of rows place) (row_of rows top))

    abbrev chosen : Bool → ℕ → ℕ → ℕ
    chosen b top place = elim b [ true ↦ row_of rows top | false ↦ middle_top (length rows) (row_of rows place) t ]

    chosen-within : (b : Bool) (top place : ℕ) → chosen b top place < length rows
    chosen-within true top place = own-within top
    chosen-within false top place = let within = own-within place in omega (arith, within)

    centred-row : (top place : ℕ) → row_of rows (centred rows top place t) ≡ chosen (is_among (row_of rows top) (row_of rows place) t) top place
    centred-row top place = falls _ (chosen-within (is_among (row_of rows top) (row_of rows place) t) top place)

    centred-stays : (top place : ℕ) → IsShownFrom rows place t (row_of rows top) → row_of rows (centred rows top place t) ≡ row_of rows top
    centred-stays top place h = centred-row top place ∙ ap (λ b. chosen b top place) (shown-is top place h)

    centred-moves : (top place : ℕ) → (IsShownFrom rows place t (row_of rows top) → ⊥)
        → row_of rows (centred rows top place t) ≡ middle_top (length rows) (row_of rows place) t
    centred-moves top place h = centred-row top place ∙ ap (λ b. chosen b top place) (unshown-is top place h)

    shows-in : (top place : ℕ) (b : Bool) → is_among (row_of rows top) (row_of rows place) t ≡ b → IsShownFrom rows place t (chosen b top place)
    shows-in top place true e = (grind (arith, nat_tests), grind (arith, nat_tests))
    shows-in top place false e = middle-shows (length rows) (row_of rows place) t some (own-within place)

    pub centres : Centres rows t
    centres = record {
      shows = λ top place. subst (IsShownFrom rows place t) (sym (centred-row top place))
          (shows-in top place (is_among (row_of rows top) (row_of rows place) t) refl);
      stays = centred-stays;
      fills = λ top place h. subst (IsFull rows t) (sym (centred-moves top place h))
          (middle-fills (length rows) (row_of rows place) t (own-within place));
      above = λ top place h. subst (λ k. k + min (t / 2) (row_of rows place) ≤ row_of rows place) (sym (centred-moves top place h))
          (middle-above (length rows) (row_of rows place) t);
    }

    filled-row : (top : ℕ) → row_of rows (filled rows top t) ≡ min (row_of rows top) (last_top (length rows) t)
    filled-row top = let within = own-within top in falls _ (omega (arith, within))

    filled-full : (count k : ℕ) → k < count → (min k (last_top count t) ≡ 0) ⊎ (min k (last_top count t) + t ≤ count)
    filled-full count k within = ⊎_elim (λ none. inl (omega (arith, none))) (λ more. inr (omega (arith, more))) (cases_lt count t)

    filled-least : (count top k : ℕ) → k ≤ top → (k ≡ 0) ⊎ (k + t ≤ count) → k ≤ min top (last_top count t)
    filled-least count top k h full = ⊎_elim (λ none. omega (arith, none)) (λ more. omega (arith, h, more)) full

    pub fills : Fills rows t
    fills = record {
      full = λ top. subst (IsFull rows t) (sym (filled-row top)) (filled-full (length rows) (row_of rows top) (own-within top));
      least = λ top k h full. let e = filled-row top in let least = filled-least (length rows) (row_of rows top) k h full in omega (arith, e, least);
      up = λ top. let e = filled-row top in omega (arith, e);
    }

    away-row : (way : Vertical) (n top : ℕ) → row_of rows (top_away rows way n top t) ≡ top_row_away (length rows) way n (row_of rows top) t
    away-row Up n top = let within = own-within top in falls _ (omega (arith, within))
    away-row Down n top = let within = own-within top in falls _ (omega (arith, within, some))

    pub views-return : ViewsReturn rows t
    views-return = record {
      down = λ n top h. ap (λ k. first (row_at rows (top_row_away (length rows) Up n k t))) (away-row Down n top)
          ∙ ap (λ k. first (row_at rows k)) (kept-away (length rows) n (row_of rows top) t h);
      up = λ n top h l. ap (λ k. first (row_at rows (top_row_away (length rows) Down n k t))) (away-row Up n top)
          ∙ ap (λ k. first (row_at rows k)) (kept-back (length rows) n (row_of rows top) t h l);
    }

  -- ---- moves by a goal

  -- where a row is entered is in it
  pub goal-row : (k : ℕ) (goal : Goal) (place : ℕ) → k < length rows → row_of rows (unwrap_or (goal_in w (row_at rows k) goal) place) ≡ k
  goal-row k (Column column) place within =
      (falls-in-own ucd base w side text utf8 k (unwrap_or (entry_in w (row_at rows k) column) place) within
      (of-some (Contains (places_of (row_at rows k))) (entry_in w (row_at rows k) column) place (row-entered ucd base w side text utf8 k within column))).0
  goal-row k Start place within = falls k within
  goal-row k End place within =
      let r = row_at rows k in
      let there = (some-of (entry_in w r 1) (Contains (places_of r)) (row-entered ucd base w side text utf8 k within 1)).2 in
      (falls-in-own ucd base w side text utf8 k (r.start + last_of r.row) within
      (contains-moved r.start (offsets_of r.row) (last_of r.row)
      (last-contained (offsets_of r.row) (omega (arith, there.1, length-map (offsets_of r.row) (λ o. r.start + o)))))).0

  -- a move to another row, and to the own one
  to-there : (goal : Goal) (place k : ℕ) → (k ≡ row_of rows place → ⊥) → to_row w rows goal place k ≡ unwrap_or (goal_in w (row_at rows k) goal) place
  to-there goal place k other =
      ap (λ b. elim b [ true ↦ place | false ↦ unwrap_or (goal_in w (row_at rows k) goal) place ]) (ne_eqb k (row_of rows place) other)

  to-here : (goal : Goal) (place k : ℕ) → k ≡ row_of rows place → to_row w rows goal place k ≡ place
  to-here goal place k own =
      ap (λ b. elim b [ true ↦ place | false ↦ unwrap_or (goal_in w (row_at rows k) goal) place ]) (eq-eqb k (row_of rows place) own)

  to-row-is : (goal : Goal) (place k : ℕ) → k < length rows → row_of rows (to_row w rows goal place k) ≡ k
  to-row-is goal place k within = ⊎_elim
      (λ less. ap (row_of rows) (to-there goal place k (λ e. omega (arith, e, less))) ∙ goal-row k goal place within)
      (λ not. ⊎_elim
      (λ more. ap (row_of rows) (to-there goal place k (λ e. omega (arith, e, more))) ∙ goal-row k goal place within)
      (λ neither. let own : k ≡ row_of rows place = omega (arith, not, neither) in ap (row_of rows) (to-here goal place k own) ∙ sym own)
      (cases_lt (row_of rows place) k)) (cases_lt k (row_of rows place))

  away-within : (way : Vertical) (n place : ℕ) → row_away (length rows) way n (row_of rows place) < length rows
  away-within Up n place = let within = own-within place in omega (arith, within)
  away-within Down n place = let within = own-within place in omega (arith, within)

  pub goals-are-ends : GoalsAreEnds w rows
  goals-are-ends = record {
    start = λ way n place k e other. ap (to_row w rows Start place) (sym e) ∙ to-there Start place k other;
    end = λ way n place k e other.
        let within : k < length rows = subst (λ m. m < length rows) (sym e) (away-within way n place) in
        ap (to_row w rows End place) (sym e) ∙ to-there End place k other
        ∙ sym (ap (λ m. (row_at rows m).start + last_of (row_at rows m).row) (falls k within));
  }

  -- from a row back to a place: the place is its row's first, or its cell has no other unit
  comes-back : (place : ℕ) → IsPlace rows place → (b : Bool) → (row_home rows place == place) ≡ b → (other : ℕ)
      → (unwrap_or (goal_in w (row_at rows (row_of rows place)) (elim b [ true ↦ Start | false ↦ Column (cell_of w rows place) ])) other ≡ place)
      ⊎ IsFullEnd w (row_at rows (row_of rows place)) place
  comes-back place is true e other = inl (eqb-true (row_home rows place) place e)
  comes-back place is false e other =
      let k = row_of rows place in
      let cell = cell_of w rows place in
      let within = own-within place in
      let low : k ≤ k = omega arith in
      let same = same-or (entry_in w (row_at rows k) cell) (Contains (places_of (row_at rows k))) other 0
      (row-entered ucd base w side text utf8 k within cell) in
      let there : ℕ = pointed_at w rows place (picture_row rows place k) cell in
      let pointed : there ≡ unwrap_or (entry_in w (row_at rows k) cell) 0 =
      ap (λ m. unwrap_or (entry_in w (row_at rows m) cell) 0) (row-pointed ucd base w side text utf8 place k low within) in
      let entered : unwrap_or (entry_in w (row_at rows k) cell) other ≡ there = same ∙ sym pointed in
      ⊎_elim {B = IsFullEnd w (row_at rows k) place} (λ (stays : there ≡ place). inl (entered ∙ stays)) (λ full. inr full)
      (own-cells-stay ucd base w side text utf8 place place is low)

  module _ (place : ℕ) (is : IsPlace rows place) where
    abbrev goal : Goal
    goal = goal_of w rows place

    abbrev own : ℕ
    own = row_of rows place

    -- to row `k` and back
    there-and-back : (k : ℕ) → k < length rows → (to_row w rows goal (to_row w rows goal place k) own ≡ place) ⊎ IsFullEnd w (row_at rows own) place
    there-and-back k within = ⊎_elim
        (λ same. inl (to-here goal (to_row w rows goal place k) own (sym (to-row-is goal place k within ∙ same)) ∙ to-here goal place k same))
        (λ apart.
        let there = to_row w rows goal place k in
        let other : own ≡ row_of rows there → ⊥ = λ e. apart (sym (e ∙ to-row-is goal place k within)) in
        first-or (to_row w rows goal there own) (unwrap_or (goal_in w (row_at rows own) goal) there) place (IsFullEnd w (row_at rows own) place)
        (to-there goal there own other) (comes-back place is (row_home rows place == place) refl there)) (same-or-not k own)

    down-and-up : (n : ℕ) → own + n < length rows → (rows_away w rows Up n goal (rows_away w rows Down n goal place) ≡ place) ⊎ IsFullEnd w (row_at rows own) place
    down-and-up n h =
        let there : row_away (length rows) Down n own ≡ own + n = omega (arith, h) in
        let k = row_away (length rows) Down n own in
        let within = away-within Down n place in
        let back : row_away (length rows) Up n (row_of rows (to_row w rows goal place k)) ≡ own =
        ap (λ m. row_away (length rows) Up n m) (to-row-is goal place k within ∙ there) ∙ omega arith in
        first-or (rows_away w rows Up n goal (to_row w rows goal place k)) (to_row w rows goal (to_row w rows goal place k) own) place
        (IsFullEnd w (row_at rows own) place) (ap (to_row w rows goal (to_row w rows goal place k)) back) (there-and-back k within)

    up-and-down : (n : ℕ) → n ≤ own → (rows_away w rows Down n goal (rows_away w rows Up n goal place) ≡ place) ⊎ IsFullEnd w (row_at rows own) place
    up-and-down n h =
        let k = row_away (length rows) Up n own in
        let within = away-within Up n place in
        let top = own-within place in
        let back : row_away (length rows) Down n (row_of rows (to_row w rows goal place k)) ≡ own =
        ap (λ m. row_away (length rows) Down n m) (to-row-is goal place k within) ∙ omega (arith, h, top) in
        first-or (rows_away w rows Down n goal (to_row w rows goal place k)) (to_row w rows goal (to_row w rows goal place k) own) place
        (IsFullEnd w (row_at rows own) place) (ap (to_row w rows goal (to_row w rows goal place k)) back) (there-and-back k within)

  pub places-return : PlacesReturn w rows
  places-return = record { down = λ n place is h. down-and-up place is n h; up = λ n place is h. up-and-down place is n h }

  module _ (t : ℕ) (some : 0 < t) where
    nearest-shown : (k n : ℕ) → (k ≤ nearest_row k n t) × (nearest_row k n t < k + t)
    nearest-shown k n = (omega arith, omega (arith, some))

    nearest-within : (top place : ℕ) → nearest_row (row_of rows top) (row_of rows place) t < length rows
    nearest-within top place = let a = own-within top in let b = own-within place in omega (arith, a, b)

    pub keeps-shown : KeepsShown w rows t
    keeps-shown = record {
      shows = λ top place goal.
          let k = nearest_row (row_of rows top) (row_of rows place) t in
          let is = to-row-is goal place k (nearest-within top place) in
          let near = nearest-shown (row_of rows top) (row_of rows place) in
          (omega (arith, is, near.0), omega (arith, is, near.1));
      stays = λ top place goal h.
          let same : nearest_row (row_of rows top) (row_of rows place) t ≡ row_of rows place = omega (arith, h.0, h.1) in
          to-here goal place (nearest_row (row_of rows top) (row_of rows place) t) same;
    }
