-- Where the cursor stands in the input line that a prompt shows.
use Rattle.std.proofs.Common.{◌≡◌, ◌≤◌, ℕ, true, List, [], length, IsUtf8, arith, subst, sym}
use Rattle.std.specs.Prelude.{Contains}
use Rattle.bx_common.specs.declared.base.Base.TheVariants.{Auto}
use Rattle.bx_ucd.specs.Data.{Data}
use Rattle.bx_view.specs.Places.{IsTextPlace}
use Rattle.bx_view.proofs.TextPlaces.{end-is-place, places-are}
use Rattle.bx_editor.specs.declared.questions.answers.Prompt.{Prompt}
use Rattle.bx_editor.specs.declared.questions.answers.Prompt.TheVariants as prompts
use Rattle.bx_editor.specs.declared.search_state.SearchState.{SearchState}
use Rattle.bx_editor.specs.declared.search_state.SearchState.TheVariants.{Off, Begun, Typed, WithBegun, WithTyped, Replacing}
use Rattle.bx_editor.specs.InputLines.{StandsInLine, line_with}
use Rattle.bx_editor.specs.Origin.{asks_replacement, is_queried}
use Rattle.bx_editor.specs.Search.{as_typed, kept}
use Rattle.bx_editor.proofs.Begin.{begin-is-place}

-- a line's end is a place
pub end-is-text-place : (d : Data) (line : List ℕ) → IsUtf8 line → IsTextPlace d line (length line)
end-is-text-place d line utf8 =
    let one : 1 ≤ 1 = omega arith in
    subst (λ os. Contains os (length line)) (places-are d Auto 1 one line utf8) (end-is-place d Auto 1 one line utf8)

-- a place of a line stays one where the line is kept, or emptied
pub kept-place : (d : Data) (search_state : SearchState) (line : List ℕ) (cursor : ℕ) → IsTextPlace d line cursor
    → IsTextPlace d (kept search_state (line_with line cursor)).text (kept search_state (line_with line cursor)).cursor
kept-place d Off line cursor is = is
kept-place d Begun line cursor is = begin-is-place d []
kept-place d Typed line cursor is = is
kept-place d WithBegun line cursor is = begin-is-place d []
kept-place d WithTyped line cursor is = is
kept-place d Replacing line cursor is = is

module _ (d : Data) (query other answer : List ℕ) (cursor : ℕ) where
  abbrev Stands : Prompt → SearchState → Type 0
  Stands prompt search_state = StandsInLine d prompt search_state query other answer cursor

  -- no search is on any more
  pub line-left : (prompt : Prompt) (was : SearchState) → Stands prompt was → Stands prompt Off
  line-left prompts.Off was is = tt
  line-left prompts.Line was is = is
  line-left prompts.Name was is = is
  line-left prompts.Code was is = is
  line-left prompts.File was is = is
  line-left prompts.Overwrite was is = is

  -- a match is shown
  pub line-of-match : (prompt : Prompt) (was : SearchState) → Stands prompt was → Stands prompt Replacing
  line-of-match prompts.Off was is = tt
  line-of-match prompts.Line was is = is
  line-of-match prompts.Name was is = is
  line-of-match prompts.Code was is = is
  line-of-match prompts.File was is = is
  line-of-match prompts.Overwrite was is = is

  unasked : (prompt : Prompt) (search_state : SearchState) → prompt ≡ prompts.Off → Stands prompt search_state → Stands prompts.Off search_state
  unasked prompt search_state off is = subst (λ p. Stands p search_state) off is

  query-by : (search_state : SearchState) → is_queried search_state ≡ true → Stands prompts.Off search_state → IsTextPlace d query cursor
  query-by Off on is = absurd (cc)
  query-by Begun on is = is
  query-by Typed on is = is
  query-by WithBegun on is = absurd (cc)
  query-by WithTyped on is = absurd (cc)
  query-by Replacing on is = absurd (cc)

  -- the query is asked for still
  pub line-of-query : (prompt : Prompt) (was : SearchState) → is_queried was ≡ true → Stands prompt was → Stands prompt Typed
  line-of-query prompts.Off was on is = query-by was on is
  line-of-query prompts.Line was on is = is
  line-of-query prompts.Name was on is = is
  line-of-query prompts.Code was on is = is
  line-of-query prompts.File was on is = is
  line-of-query prompts.Overwrite was on is = is

  -- the query is asked for
  pub place-in-query : (prompt : Prompt) (search_state : SearchState) → prompt ≡ prompts.Off → is_queried search_state ≡ true
      → Stands prompt search_state → IsTextPlace d query cursor
  place-in-query prompt search_state off on is = query-by search_state on (unasked prompt search_state off is)

  replacement-by : (search_state : SearchState) → asks_replacement search_state ≡ true → Stands prompts.Off search_state
      → IsTextPlace d other cursor
  replacement-by Off on is = absurd (cc)
  replacement-by Begun on is = absurd (cc)
  replacement-by Typed on is = absurd (cc)
  replacement-by WithBegun on is = is
  replacement-by WithTyped on is = is
  replacement-by Replacing on is = absurd (cc)

  -- the replacement is asked for
  pub place-in-replacement : (prompt : Prompt) (search_state : SearchState) → prompt ≡ prompts.Off → asks_replacement search_state ≡ true
      → Stands prompt search_state → IsTextPlace d other cursor
  place-in-replacement prompt search_state off on is = replacement-by search_state on (unasked prompt search_state off is)

  query-moved : (search_state : SearchState) → is_queried search_state ≡ true → IsTextPlace d query cursor → Stands prompts.Off (as_typed search_state)
  query-moved Off on is = absurd (cc)
  query-moved Begun on is = is
  query-moved Typed on is = is
  query-moved WithBegun on is = absurd (cc)
  query-moved WithTyped on is = absurd (cc)
  query-moved Replacing on is = absurd (cc)

  replacement-moved : (search_state : SearchState) → asks_replacement search_state ≡ true → IsTextPlace d other cursor
      → Stands prompts.Off (as_typed search_state)
  replacement-moved Off on is = absurd (cc)
  replacement-moved Begun on is = absurd (cc)
  replacement-moved Typed on is = absurd (cc)
  replacement-moved WithBegun on is = is
  replacement-moved WithTyped on is = is
  replacement-moved Replacing on is = absurd (cc)

  -- without a question
  pub stands-off : (prompt : Prompt) (search_state : SearchState) → prompt ≡ prompts.Off → Stands prompts.Off search_state → Stands prompt search_state
  stands-off prompt search_state off is = subst (λ p. Stands p search_state) (sym off) is

  -- the cursor moved in the query, or in the replacement
  pub stands-in-query : (prompt : Prompt) (search_state : SearchState) → prompt ≡ prompts.Off → is_queried search_state ≡ true
      → IsTextPlace d query cursor → Stands prompt (as_typed search_state)
  stands-in-query prompt search_state off on is = stands-off prompt (as_typed search_state) off (query-moved search_state on is)

  pub stands-in-replacement : (prompt : Prompt) (search_state : SearchState) → prompt ≡ prompts.Off → asks_replacement search_state ≡ true
      → IsTextPlace d other cursor → Stands prompt (as_typed search_state)
  stands-in-replacement prompt search_state off on is = stands-off prompt (as_typed search_state) off (replacement-moved search_state on is)
