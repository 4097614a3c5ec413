-- What holds while a match is shown, and while the replacement is asked for.
use Rattle.std.proofs.Common.{◌≡◌, ◌≢◌, ◌≤◌, ◌<◌, ◌+◌, ◌∙◌, ℕ, Bool, true, false, nat_le, List, [], ◌∷◌, length, chars, drop}
use Rattle.std.proofs.Common.{ap, subst, arith, refl, IsUtf8}
use Rattle.std.specs.Prelude.{Option, Some, None, IsNone, IsSome, MatchOption, encode_utf8, find}
use Rattle.std.proofs.lemmas.Bool.{and_parts}
use Rattle.bx_common.specs.Characters.{largest_text}
use Rattle.bx_ucd.specs.Data.{Data}
use Rattle.bx_find.specs.Nearest.{MatchesAt, IsFirst}
use Rattle.bx_find.specs.Letters.{letters_of, letters}
use Rattle.bx_find.specs.Matches.{is_match, is_some, first_from, match_end, matches, spans_from}
use Rattle.bx_find.specs.Parts.{first_between, if_below}
use Rattle.bx_find.specs.declared.letters.Reading.{Reading}
use Rattle.bx_find.proofs.Offsets.{matches-not}
use Rattle.bx_find.proofs.Nearest.{first_is}
use Rattle.bx_find.proofs.SpansOf.{span_found}
use Rattle.bx_text.specs.Edits.{splice}
use Rattle.bx_text.specs.Changes.{IsRange}
use Rattle.bx_view.specs.Places.{IsTextPlace}
use Rattle.bx_document.specs.Swapped.{last_stop}
use Rattle.bx_document.proofs.PlaceAfter.{splice_bytes}
use Rattle.bx_editor.specs.declared.search_state.SearchPurpose.{SearchPurpose}
use Rattle.bx_editor.specs.declared.search_state.SearchState.{SearchState}
use Rattle.bx_editor.specs.declared.search_state.SearchState.TheVariants.{Off, Begun, Typed, WithBegun, WithTyped, Replacing}
use Rattle.bx_editor.specs.Functions.{EditorState}
use Rattle.bx_editor.specs.Origin.{BeganAt, IsAsked, IsAtMatch, StandsAt, asks_replacement, is_queried}
use Rattle.bx_editor.specs.Search.{as_typed, reading}
use Rattle.bx_editor.proofs.MatchSpans.{no-more-than-bytes}

-- ---- a match

none-matches : (d : Data) (r : Reading) (cs : List ℕ) → is_match d r [] cs ≡ true → ⊥
none-matches d r [] h = absurd (cc)
none-matches d r (c ∷ cs) h = let both = and_parts (is_some (letters_of d r c)) false h in absurd (cc)

module _ (d : Data) (r : Reading) where
  none-by : (at c : ℕ) (cs : List ℕ) (b : Bool) → is_match d r [] (c ∷ cs) ≡ b → matches d r [] (at + length (encode_utf8 c)) cs ≡ []
      → matches d r [] at (c ∷ cs) ≡ []
  none-by at c cs true e more = absurd (none-matches d r (c ∷ cs) e)
  none-by at c cs false e more = matches-not d r [] at c cs e ∙ more

  none-at : (at : ℕ) (cs : List ℕ) → matches d r [] at cs ≡ []
  none-at at [] = refl
  none-at at (c ∷ cs) = none-by at c cs (is_match d r [] (c ∷ cs)) refl (none-at (at + length (encode_utf8 c)) cs)

  -- without letters there is none
  pub none-between : (sought text : List ℕ) (x stop : ℕ) → sought ≡ [] → first_between d r sought text x stop ≡ None
  none-between sought text x stop none =
      ap (λ (ls : List ℕ). first_between d r ls text x stop) none
      ∙ ap (λ (ats : List ℕ). if_below stop (find (nat_le x) ats)) (none-at 0 (chars text))

-- a match is one of some letters
pub some-letters : (d : Data) (r : Reading) (sought text : List ℕ) (at : ℕ) → MatchesAt d r sought text at → sought ≢ []
some-letters d r sought text at h none =
    none-matches d r (chars (drop at text)) (subst (λ (ls : List ℕ). is_match d r ls (chars (drop at text)) ≡ true) none h.1)

module _ (d : Data) (r : Reading) (sought text : List ℕ) (u : IsUtf8 text) where
  abbrev IsTold : ℕ → Option ℕ → Type 0
  IsTold x o = MatchOption o ((i : ℕ) → x ≤ i → ¬ (MatchesAt d r sought text i)) (IsFirst d r sought text x)

  first-by : (x a : ℕ) (o : Option ℕ) → Some a ≡ o → IsTold x o → IsFirst d r sought text x a
  first-by x a None e h = absurd (cc)
  first-by x a (Some b) e h = let same : b ≡ a = cc in subst (IsFirst d r sought text x) same h

  -- what is found is the first
  pub first-is : (x a : ℕ) → Some a ≡ first_from d r sought text x → IsFirst d r sought text x a
  first-is x a e = first-by x a (first_from d r sought text x) e (first_is d r sought text x u)

  here-by : (at : ℕ) (o : Option ℕ) → IsTold at o → MatchesAt d r sought text at → Some at ≡ o
  here-by at None none h = absurd (none at (omega arith) h)
  here-by at (Some a) first h =
      let low : a ≤ at = first.least at (omega arith) h in
      let same : at ≡ a = omega (arith, low, first.not_before) in
      ap (λ n. Some n) same

  -- the end of a match is behind its start
  pub end-behind : (at : ℕ) → MatchesAt d r sought text at → at < match_end d r sought text at
  end-behind at h = (span_found d r sought text u at at (here-by at _ (first_is d r sought text at u) h)).1.0

-- ---- while it is shown

-- what is not none is some
pub some-if : {A : Type 0} (o : Option A) → ¬ (IsNone o) → IsSome o
some-if None h = absurd (h refl)
some-if (Some a) h = refl

-- an editor's state that is seen in another way shows the same match
pub shown-in : {D : Type 0} (ucd : D → Data) (was now : EditorState D) → was ≡ now → now.editor.search_state ≡ Replacing
    → StandsAt (ucd was.tables) was.editor.purpose was.editor.query was.editor.content.text was.editor.search_state was.editor.at
    was.editor.count
    → IsAtMatch (ucd now.tables) now.editor.purpose now.editor.query now.editor.content.text now.editor.at now.editor.count
shown-in {D = D} ucd was now same is h =
    let stands : EditorState D → Type 0 = λ s.
    StandsAt (ucd s.tables) s.editor.purpose s.editor.query s.editor.content.text s.editor.search_state s.editor.at s.editor.count in
    let e = now.editor in
    subst (λ search_state. StandsAt (ucd now.tables) e.purpose e.query e.content.text search_state e.at e.count) is (subst stands same h)

module _ (d : Data) (purpose : SearchPurpose) (query text : List ℕ) where
  -- the query's letters
  abbrev pub query-letters : List ℕ
  query-letters = letters d (reading purpose) (chars query)

  pub at-match : (search_state : SearchState) (at count : ℕ) → search_state ≡ Replacing → StandsAt d purpose query text search_state at count
      → IsAtMatch d purpose query text at count
  at-match search_state at count is h = subst (λ s. StandsAt d purpose query text s at count) is h

  -- one more may be replaced
  pub room-for-one : (at count : ℕ) → IsUtf8 text → IsAtMatch d purpose query text at count → (stop : ℕ)
      → stop ≡ match_end d (reading purpose) query-letters text at → stop ≤ length text → count + 1 ≤ largest_text
  room-for-one at count u h stop is inside = omega (arith, h.few, inside, is, end-behind d (reading purpose) query-letters text u at h.here)

  -- all that follow may be replaced
  pub room-for-all : (at count : ℕ) → IsUtf8 text → IsAtMatch d purpose query text at count
      → last_stop at (spans_from d (reading purpose) query-letters text at) ≤ length text
      → count + length (spans_from d (reading purpose) query-letters text at) ≤ largest_text
  room-for-all at count u h inside = omega (arith, h.few, inside, no-more-than-bytes d (reading purpose) query-letters text u at)

  -- at a later match
  pub passed-over : (at count x next : ℕ) → IsUtf8 text → IsAtMatch d purpose query text at count → at ≤ x
      → Some next ≡ first_from d (reading purpose) query-letters text x → IsAtMatch d purpose query text next count
  passed-over at count x next u h on is =
      let first = first-is d (reading purpose) query-letters text u x next is in
      record { here = first.is_match; few = omega (arith, h.few, on, first.not_before) }

  -- at the next match once this one was replaced
  pub replaced-one : (at count stop next : ℕ) (new : List ℕ) → IsUtf8 text → IsUtf8 (splice text at stop new)
      → IsAtMatch d purpose query text at count → IsRange text at stop → stop ≡ match_end d (reading purpose) query-letters text at
      → Some next ≡ first_from d (reading purpose) query-letters (splice text at stop new) (at + length new)
      → IsAtMatch d purpose query (splice text at stop new) next (count + 1)
  replaced-one at count stop next new u v h range is found =
      let first = first-is d (reading purpose) query-letters (splice text at stop new) v (at + length new) next found in
      let less = end-behind d (reading purpose) query-letters text u at h.here in
      let bounds = range.stop_bounds in
      record {
        here = first.is_match;
        few = omega (arith, h.few, is, less, first.not_before, bounds.0, splice_bytes text at stop new range);
      }

  -- ---- the replacement is asked for

  pub asked : (search_state : SearchState) (at count : ℕ) → asks_replacement search_state ≡ true → StandsAt d purpose query text search_state at count
      → IsAsked d purpose query count
  asked Off at count is h = absurd (cc)
  asked Begun at count is h = absurd (cc)
  asked Typed at count is h = absurd (cc)
  asked WithBegun at count is h = h
  asked WithTyped at count is h = h
  asked Replacing at count is h = absurd (cc)

  -- the cursor moved in it, or in the query
  pub asked-moved : (search_state : SearchState) (at count : ℕ) → asks_replacement search_state ≡ true → IsAsked d purpose query count
      → StandsAt d purpose query text (as_typed search_state) at count
  asked-moved Off at count is h = absurd (cc)
  asked-moved Begun at count is h = absurd (cc)
  asked-moved Typed at count is h = absurd (cc)
  asked-moved WithBegun at count is h = h
  asked-moved WithTyped at count is h = h
  asked-moved Replacing at count is h = absurd (cc)

  pub queried-moved : (search_state : SearchState) (at count : ℕ) → is_queried search_state ≡ true
      → StandsAt d purpose query text (as_typed search_state) at count
  queried-moved Off at count is = absurd (cc)
  queried-moved Begun at count is = tt
  queried-moved Typed at count is = tt
  queried-moved WithBegun at count is = absurd (cc)
  queried-moved WithTyped at count is = absurd (cc)
  queried-moved Replacing at count is = absurd (cc)

  -- nothing of it holds while the query is asked for
  pub queried-stands : (search_state : SearchState) (at count : ℕ) → is_queried search_state ≡ true → StandsAt d purpose query text search_state at count
  queried-stands Off at count is = tt
  queried-stands Begun at count is = tt
  queried-stands Typed at count is = tt
  queried-stands WithBegun at count is = absurd (cc)
  queried-stands WithTyped at count is = absurd (cc)
  queried-stands Replacing at count is = absurd (cc)

  -- the first match is shown
  pub shown : (at count x : ℕ) → IsUtf8 text → length text ≤ largest_text → IsAsked d purpose query count
      → Some at ≡ first_from d (reading purpose) query-letters text x → IsAtMatch d purpose query text at count
  shown at count x u short h is =
      record { here = (first-is d (reading purpose) query-letters text u x at is).is_match; few = omega (arith, h.none, short) }

pub asked-began : (d : Data) (text : List ℕ) (search_state : SearchState) (origin : ℕ) → asks_replacement search_state ≡ true → BeganAt d text search_state origin
    → IsTextPlace d text origin
asked-began d text Off origin is h = absurd (cc)
asked-began d text Begun origin is h = absurd (cc)
asked-began d text Typed origin is h = absurd (cc)
asked-began d text WithBegun origin is h = h
asked-began d text WithTyped origin is h = h
asked-began d text Replacing origin is h = absurd (cc)

pub began-moved : (d : Data) (text : List ℕ) (search_state : SearchState) (origin : ℕ) → BeganAt d text search_state origin
    → BeganAt d text (as_typed search_state) origin
began-moved d text Off origin h = h
began-moved d text Begun origin h = h
began-moved d text Typed origin h = h
began-moved d text WithBegun origin h = h
began-moved d text WithTyped origin h = h
began-moved d text Replacing origin h = h
