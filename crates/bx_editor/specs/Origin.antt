-- What holds in each state of a search. `d` is Unicode's data, `at` the offset of a match.
use Rattle.std.specs.Prelude.{◌≡◌, ◌≢◌, ℕ, ◌+◌, ◌-◌, ◌≤◌, Bool, true, false, List, [], length, chars}
use Rattle.bx_common.specs.Characters.{largest_text}
use Rattle.bx_ucd.specs.Data.{Data}
use Rattle.bx_find.specs.Nearest.{MatchesAt}
use Rattle.bx_find.specs.Letters.{letters}
use Rattle.bx_view.specs.Places.{IsTextPlace}
use Rattle.bx_editor.specs.declared.search_state.SearchPurpose.{SearchPurpose}
use Rattle.bx_editor.specs.declared.search_state.SearchState.{SearchState}
use Rattle.bx_editor.specs.declared.search_state.SearchState.TheVariants.{Off, Begun, Typed, WithBegun, WithTyped, Replacing}
use Rattle.bx_editor.specs.Search.{reading}

-- a search that is on began at a place of the text
abbrev pub BeganAt : Data → List ℕ → SearchState → ℕ → Type 0
BeganAt d text Off origin = Unit {0}
BeganAt d text Begun origin = IsTextPlace d text origin
BeganAt d text Typed origin = IsTextPlace d text origin
BeganAt d text WithBegun origin = IsTextPlace d text origin
BeganAt d text WithTyped origin = IsTextPlace d text origin
BeganAt d text Replacing origin = IsTextPlace d text origin

-- while the replacement is asked for, the query has letters, and no match was replaced
pub record IsAsked (d : Data) (purpose : SearchPurpose) (query : List ℕ) (count : ℕ) : Type 0 where
  pub some : letters d (reading purpose) (chars query) ≢ []
  pub none : count ≡ 0

-- a match begins at the offset `at`, and the number of the replaced matches with that of the bytes from `at` on is at most the
-- greatest length of a text, so that it can count all matches that follow
pub record IsAtMatch (d : Data) (purpose : SearchPurpose) (query text : List ℕ) (at count : ℕ) : Type 0 where
  pub here : MatchesAt d (reading purpose) (letters d (reading purpose) (chars query)) text at
  pub few : count + (length text - at) ≤ largest_text

-- what holds, in each state, of the match's offset and the number of the replaced matches
abbrev pub StandsAt : Data → SearchPurpose → List ℕ → List ℕ → SearchState → ℕ → ℕ → Type 0
StandsAt d purpose query text WithBegun at count = IsAsked d purpose query count
StandsAt d purpose query text WithTyped at count = IsAsked d purpose query count
StandsAt d purpose query text Replacing at count = IsAtMatch d purpose query text at count
StandsAt d purpose query text _ at count = Unit {0}

-- the query is asked for
abbrev pub is_queried : SearchState → Bool
is_queried Begun = true
is_queried Typed = true
is_queried _ = false

-- the replacement is asked for
abbrev pub asks_replacement : SearchState → Bool
asks_replacement WithBegun = true
asks_replacement WithTyped = true
asks_replacement _ = false
