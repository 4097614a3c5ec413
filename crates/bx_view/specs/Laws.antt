-- Laws of the places of every text, in every window of `w` columns. `ucd` is what the tables say.
use Rattle.std.specs.Prelude.{◌≡◌, ℕ, ◌+◌, ◌-◌, ◌<◌, ◌≤◌, List, length, slice_get, Some, IfSome, All, Contains, IsCharBoundary}
use Rattle.std.specs.Int.{abs_diff}
use Rattle.std.specs.List.{concat}
use Rattle.std.specs.List.Sorted.{IsStrictlyIncreasing}
use Rattle.std.specs.Prelude.{IsPermutation, MatchOption}
use Rattle.bx_ucd.specs.Data.{Data}
use Rattle.bx_paragraph.specs.declared.moves.Visual.{Visual}
use Rattle.bx_view.specs.declared.moves.Goal.{Goal}
use Rattle.bx_view.specs.declared.moves.Logical.{Logical}
use Rattle.bx_view.specs.declared.moves.Logical.TheVariants.{Back, Forward}
use Rattle.bx_view.specs.declared.moves.Move.{Move}
use Rattle.bx_view.specs.declared.moves.Vertical.{Vertical}
use Rattle.bx_view.specs.Moves.{entry_in, page, place_at, place_from, row_end, row_home, step_logical, step_visual, vertical}
use Rattle.bx_view.specs.Moved.{moved}
use Rattle.bx_view.specs.Top.{pointed_at, follow, to_shown}
use Rattle.bx_view.specs.Places.{pieces, text_places, IsTextPlace}
use Rattle.bx_view.specs.TextRows.{TextRow, row_at, row_of, IsPlace, places_of, slots}
use Rattle.bx_view.specs.Words.{step_word, text_stops}
use Rattle.bx_view.specs.declared.position.Position.{Position}
use Rattle.bx_view.specs.Numbers.{place_of}
use Rattle.bx_view.specs.Position.{IsPosition}
use Rattle.bx_view.specs.Cells.{HasCell, HasOneSlot}

-- The pieces of a text joined are the text. Its places are character boundaries and strictly increase from the text's
-- start to its end.
pub record SpansText (ucd : Data) (text : List ℕ) : Type 0 where
  pub whole : concat (pieces ucd text) ≡ text
  pub first : slice_get (text_places ucd text) 0 ≡ Some 0
  pub last : slice_get (text_places ucd text) (length (text_places ucd text) - 1) ≡ Some (length text)
  pub rise : IsStrictlyIncreasing (text_places ucd text)
  pub between : All (IsCharBoundary text) (text_places ucd text)

-- a place is the least one not before an offset
pub record IsLeastPlace (ucd : Data) (text : List ℕ) (offset place : ℕ) : Type 0 where
  pub is_place : IsTextPlace ucd text place
  pub not_before : offset ≤ place
  pub least : (p : ℕ) → IsTextPlace ucd text p → offset ≤ p → place ≤ p

-- `from` gives for each offset the least place not before it, and for one past the text's end that end
pub record FindsLeastPlace (ucd : Data) (text : List ℕ) (from : ℕ → ℕ) : Type 0 where
  pub inside : (offset : ℕ) → offset ≤ length text → IsLeastPlace ucd text offset (from offset)
  pub past : (offset : ℕ) → length text < offset → from offset ≡ length text

-- each move leads from a place with the property `P` to one with it, and what finds a place from any offset, or by pointing, finds
-- one with it
pub record MovesKeep (ucd : Data) (text : List ℕ) (w : ℕ) (rows : List TextRow) (P : ℕ → Type 0) : Type 0 where
  pub from : (offset : ℕ) → P (place_from rows offset)
  pub at : (offset : ℕ) → P (place_at rows offset)
  pub moved : (m : Move) (place : ℕ) → P place → P (moved ucd text w rows m place)
  pub logical : (way : Logical) (place : ℕ) → P place → P (step_logical rows way place)
  pub visual : (side : Visual) (place : ℕ) → P place → P (step_visual w rows side place)
  pub vertical : (way : Vertical) (place : ℕ) → P place → P (vertical w rows way place)
  pub page : (way : Vertical) (t place : ℕ) → P place → P (page w rows way t place)
  pub word : (way : Logical) (place : ℕ) → P place → P (step_word ucd text way place)
  pub entry : (k column : ℕ) → k < length rows → IfSome (entry_in w (row_at rows k) column) P
  pub home : (offset : ℕ) → P (row_home rows offset)
  pub end : (offset : ℕ) → P (row_end rows offset)
  pub top : (top place t : ℕ) → 0 < t → P (follow rows top place t)
  pub pointed : (top r column : ℕ) → P (pointed_at w rows top r column)
  pub shown : (top t : ℕ) (goal : Goal) (place : ℕ) → P place → P (to_shown w rows top t goal place)

-- the least stop after a place
pub record IsLeastBehind (stops : List ℕ) (place stop : ℕ) : Type 0 where
  pub is_stop : Contains stops stop
  pub behind : place < stop
  pub least : (o : ℕ) → Contains stops o → place < o → stop ≤ o

-- the greatest stop before a place
pub record IsGreatestBefore (stops : List ℕ) (place stop : ℕ) : Type 0 where
  pub is_stop : Contains stops stop
  pub before : stop < place
  pub greatest : (o : ℕ) → Contains stops o → o < place → o ≤ stop

-- `stops` are the offsets at which a way has stops. A step forward leads to the least stop after the place, and stays only at the
-- text's end. A step back leads to the greatest stop before it, and stays only at the text's start.
pub record StepsOn (text : List ℕ) (stops : Logical → List ℕ) (step : Logical → ℕ → ℕ) : Type 0 where
  pub forward : (place : ℕ) → place < length text → IsLeastBehind (stops Forward) place (step Forward place)
  pub back : (place : ℕ) → 0 < place → IsGreatestBefore (stops Back) place (step Back place)
  pub at_end : (place : ℕ) → length text ≤ place → step Forward place ≡ place
  pub at_start : step Back 0 ≡ 0

-- a step by a word forward leads to the next start of a word or end of a body, a step back to the previous start of a word or body
abbrev pub WordsGoOn : Data → List ℕ → (Logical → ℕ → ℕ) → Type 0
WordsGoOn ucd text step = StepsOn text (λ way. text_stops ucd way text) step

-- a step leads to the next or the previous place
abbrev pub PlacesGoOn : Data → List ℕ → (Logical → ℕ → ℕ) → Type 0
PlacesGoOn ucd text step = StepsOn text (λ _. text_places ucd text) step

-- the row of a place is one of the `t` rows from row `k`, counted from 0, on
abbrev pub IsShownFrom : List TextRow → ℕ → ℕ → ℕ → Type 0
IsShownFrom rows place t k = (k ≤ row_of rows place) × (row_of rows place < k + t)

-- The new top makes the place's row visible, and no top that does is nearer to the old one. Following the place a second
-- time leaves the top.
pub record MovesLeast (rows : List TextRow) : Type 0 where
  pub shows : (top place t : ℕ) → 0 < t → IsShownFrom rows place t (row_of rows (follow rows top place t))
  pub nearest : (top place t k : ℕ) → 0 < t → IsShownFrom rows place t k
      → abs_diff (row_of rows top) (row_of rows (follow rows top place t)) ≤ abs_diff (row_of rows top) k
  pub stays : (top place t : ℕ) → 0 < t → follow rows (follow rows top place t) place t ≡ follow rows top place t

-- in rows of `w` columns: the numbers that the position of a place has lead back to the place
abbrev pub LeadBack : Data → List ℕ → ℕ → List TextRow → Type 0
LeadBack ucd text w rows = (place : ℕ) (p : Position) → IsTextPlace ucd text place → IsPosition ucd w text rows place p
    → place_of ucd text p.paragraph p.unit ≡ place

-- any two numbers lead to a place
abbrev pub LeadToPlaces : Data → List ℕ → Type 0
LeadToPlaces ucd text = (paragraph unit : ℕ) → IsTextPlace ucd text (place_of ucd text paragraph unit)

-- a row is entered at one of its places, in every column
abbrev pub IsEntered : ℕ → TextRow → Type 0
IsEntered w r = (column : ℕ) → MatchOption (entry_in w r column) ⊥ (Contains (places_of r))

-- the slots of each row are its places reordered, each row is entered at a place, and each place has one slot and its cell
pub record HasCells (ucd : Data) (w : ℕ) (rows : List TextRow) : Type 0 where
  pub slots : (k : ℕ) → k < length rows → IsPermutation (places_of (row_at rows k)) (slots w (row_at rows k))
  pub entered : (k : ℕ) → k < length rows → IsEntered w (row_at rows k)
  pub one : (place : ℕ) → IsPlace rows place → HasOneSlot w rows place
  pub cell : (place : ℕ) → IsPlace rows place → HasCell ucd w rows place
