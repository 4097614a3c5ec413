-- What keeps an answer short, and the cursor in its line.
use Rattle.std.proofs.Common.{◌≡◌, ◌∙◌, ℕ, ◌≤◌, true, false, List, [], ◌∷◌, Option, Some, None, chars, length, ap, arith, refl}
use Rattle.std.proofs.lemmas.Str.{chars-nil}
use Rattle.std.specs.Prelude.{IfSome}
use Rattle.bx_ucd.specs.Data.{Data}
use Rattle.bx_view.specs.Places.{IsTextPlace}
use Rattle.bx_editor.specs.declared.questions.answers.Prompt.{Prompt}
use Rattle.bx_editor.specs.declared.questions.answers.Prompt.TheVariants.{Off, Line, Name, Code, File, Overwrite}
use Rattle.bx_editor.specs.declared.search_state.SearchPurpose.{SearchPurpose}
use Rattle.bx_editor.specs.declared.search_state.SearchState.{SearchState}
use Rattle.bx_editor.specs.declared.search_state.SearchState.TheVariants as search_states
use Rattle.bx_editor.specs.Answers.{IsAnswer, limit_of}
use Rattle.bx_editor.specs.InputLines.{StandsInLine, prompt_line, takes_line}
use Rattle.bx_editor.specs.Origin.{BeganAt, StandsAt, asks_replacement, is_queried}
use Rattle.bx_editor.specs.Search.{as_typed}
use Rattle.bx_editor.proofs.Begin.{begin-is-place}

pub empty-answer : (prompt : Prompt) (q : List ℕ) → q ≡ [] → IsAnswer prompt q
empty-answer prompt q none = let no-chars : chars q ≡ [] = ap chars none ∙ chars-nil in omega (arith, ap length no-chars)

no-bytes : (q : List ℕ) → length q ≡ 0 → q ≡ []
no-bytes [] h = refl
no-bytes (b ∷ bs) h = absurd (omega (arith, h))

pub empty-name : (q : List ℕ) → length q ≡ 0 → IsAnswer Name q
empty-name q none = empty-answer Name q (no-bytes q none)

at-most : (prompt : Prompt) → limit_of prompt ≤ 255
at-most Off = omega arith
at-most Line = omega arith
at-most Name = omega arith
at-most Code = omega arith
at-most File = omega arith
at-most Overwrite = omega arith

-- the answer stays behind its question
pub answer-left : (prompt : Prompt) (q : List ℕ) → IsAnswer prompt q → IsAnswer Off q
answer-left prompt q is = omega (arith, is, at-most prompt)

-- and where the file may be overwritten
pub answer-over : (prompt : Prompt) (q : List ℕ) → IsAnswer prompt q → IsAnswer Overwrite q
answer-over prompt q is = omega (arith, is, at-most prompt)

-- ---- the cursor

at-start : (d : Data) (line : Option (List ℕ)) → IfSome line (λ text. IsTextPlace d text 0)
at-start d None = tt
at-start d (Some text) = begin-is-place d text

pub stands-at-start : (d : Data) (prompt : Prompt) (search_state : SearchState) (query replacement answer : List ℕ)
    → StandsInLine d prompt search_state query replacement answer 0
stands-at-start d prompt search_state query replacement answer = at-start d (prompt_line prompt search_state query replacement answer)

pub stands-in-answer : (d : Data) (prompt : Prompt) (search_state : SearchState) (query replacement answer : List ℕ) (cursor : ℕ)
    → takes_line prompt ≡ true → IsTextPlace d answer cursor → StandsInLine d prompt search_state query replacement answer cursor
stands-in-answer d Off search_state query replacement answer cursor asked place = absurd (cc asked)
stands-in-answer d Line search_state query replacement answer cursor asked place = place
stands-in-answer d Name search_state query replacement answer cursor asked place = absurd (cc asked)
stands-in-answer d Code search_state query replacement answer cursor asked place = place
stands-in-answer d File search_state query replacement answer cursor asked place = place
stands-in-answer d Overwrite search_state query replacement answer cursor asked place = absurd (cc asked)

pub place-in-answer : (d : Data) (prompt : Prompt) (search_state : SearchState) (query replacement answer : List ℕ) (cursor : ℕ)
    → takes_line prompt ≡ true → StandsInLine d prompt search_state query replacement answer cursor → IsTextPlace d answer cursor
place-in-answer d Off search_state query replacement answer cursor asked stands = absurd (cc asked)
place-in-answer d Line search_state query replacement answer cursor asked stands = stands
place-in-answer d Name search_state query replacement answer cursor asked stands = absurd (cc asked)
place-in-answer d Code search_state query replacement answer cursor asked stands = stands
place-in-answer d File search_state query replacement answer cursor asked stands = stands
place-in-answer d Overwrite search_state query replacement answer cursor asked stands = absurd (cc asked)

-- an answer that is no input line has no cursor
pub stands-without : (d : Data) (prompt : Prompt) (search_state : SearchState) (query replacement answer other : List ℕ) (cursor : ℕ)
    → takes_line prompt ≡ false → StandsInLine d prompt search_state query replacement answer cursor
    → StandsInLine d prompt search_state query replacement other cursor
stands-without d Off search_state query replacement answer other cursor asked stands = stands
stands-without d Line search_state query replacement answer other cursor asked stands = absurd (cc asked)
stands-without d Name search_state query replacement answer other cursor asked stands = tt
stands-without d Code search_state query replacement answer other cursor asked stands = absurd (cc asked)
stands-without d File search_state query replacement answer other cursor asked stands = absurd (cc asked)
stands-without d Overwrite search_state query replacement answer other cursor asked stands = tt

-- ---- a search whose line was changed

pub began-typed : (d : Data) (text : List ℕ) (search_state : SearchState) (origin : ℕ) → BeganAt d text search_state origin
    → BeganAt d text (as_typed search_state) origin
began-typed d text search_states.Off origin began = began
began-typed d text search_states.Begun origin began = began
began-typed d text search_states.Typed origin began = began
began-typed d text search_states.WithBegun origin began = began
began-typed d text search_states.WithTyped origin began = began
began-typed d text search_states.Replacing origin began = began

pub stands-typed : (d : Data) (purpose : SearchPurpose) (query text : List ℕ) (search_state : SearchState) (at count : ℕ)
    → StandsAt d purpose query text search_state at count → StandsAt d purpose query text (as_typed search_state) at count
stands-typed d purpose query text search_states.Off at count stands = stands
stands-typed d purpose query text search_states.Begun at count stands = tt
stands-typed d purpose query text search_states.Typed at count stands = stands
stands-typed d purpose query text search_states.WithBegun at count stands = stands
stands-typed d purpose query text search_states.WithTyped at count stands = stands
stands-typed d purpose query text search_states.Replacing at count stands = stands

pub queried-origin : (d : Data) (text : List ℕ) (search_state : SearchState) (origin : ℕ) → is_queried search_state ≡ true
    → BeganAt d text search_state origin → IsTextPlace d text origin
queried-origin d text search_states.Off origin queried began = absurd (cc queried)
queried-origin d text search_states.Begun origin queried began = began
queried-origin d text search_states.Typed origin queried began = began
queried-origin d text search_states.WithBegun origin queried began = began
queried-origin d text search_states.WithTyped origin queried began = began
queried-origin d text search_states.Replacing origin queried began = began

pub asked-origin : (d : Data) (text : List ℕ) (search_state : SearchState) (origin : ℕ) → asks_replacement search_state ≡ true
    → BeganAt d text search_state origin → IsTextPlace d text origin
asked-origin d text search_states.Off origin asked began = absurd (cc asked)
asked-origin d text search_states.Begun origin asked began = began
asked-origin d text search_states.Typed origin asked began = began
asked-origin d text search_states.WithBegun origin asked began = began
asked-origin d text search_states.WithTyped origin asked began = began
asked-origin d text search_states.Replacing origin asked began = began
