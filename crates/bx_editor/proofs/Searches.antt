-- What the keys of a search keep: while the query is asked for, while the replacement is, and while a match is shown.
use Rattle.std.proofs.Common.{◌≡◌, ℕ, ◌+◌, Bool, true, false, List, length, Option, Some, None, refl, if◌then◌else◌}
use Rattle.std.specs.Prelude.{◌==◌, ◌&&◌, not, unwrap_or}
use Rattle.bx_keys.specs.declared.key.Key.{Key}
use Rattle.bx_store.specs.declared.store.StoreFault.{StoreFault}
use Rattle.bx_editor.specs.declared.undo_groups.typing.Typing.{Typing}
use Rattle.bx_text.specs.Edits.{fits}
use Rattle.bx_ucd.specs.Data.{Data}
use Rattle.bx_document.specs.Swapped.{behind_character, last_stop, swapped}
use Rattle.bx_view.specs.Moves.{place_at}
use Rattle.bx_view.specs.declared.moves.Move.{Move}
use Rattle.bx_view.specs.declared.moves.Vertical.{Vertical}
use Rattle.bx_editor.specs.declared.answer.Answer.{Answer}
use Rattle.bx_editor.specs.declared.answer.Answer.TheVariants.{Letter, Erases, Moves, PutsIn, Passes, GoesBack, Next, Previous, Replaces, Scrolls, Stays, Ends}
use Rattle.bx_editor.specs.declared.input_line.Erasure.{Erasure}
use Rattle.bx_editor.specs.declared.search_state.SearchPurpose.{SearchPurpose}
use Rattle.bx_editor.specs.declared.search_state.SearchPurpose.TheVariants as purposes
use Rattle.bx_editor.specs.declared.matches.Landing.{Landing}
use Rattle.bx_editor.specs.declared.message.Message.{Message}
use Rattle.bx_editor.specs.declared.message.Message.TheVariants as messages
use Rattle.bx_editor.specs.declared.search_state.SearchState.{SearchState}
use Rattle.bx_editor.specs.declared.search_state.SearchState.TheVariants.{Off, Begun, Typed, WithBegun, WithTyped, Replacing}
use Rattle.bx_editor.specs.Before.{Before}
use Rattle.bx_editor.specs.Editor.{Editor, rows, with_exchange, with_place, with_typing}
use Rattle.bx_editor.specs.Effects.{Seeks, by}
use Rattle.bx_editor.specs.InputLines.{after_taking, erases_nothing, is_at_end, is_no_letter, is_taken, line_lengthened, line_moved}
use Rattle.bx_editor.specs.InputLines.{line_shortened, line_with, paste_behind, with_paste_behind}
use Rattle.bx_editor.specs.Keys.{after_pressing, answered, answered_match, answered_replacement}
use Rattle.bx_editor.specs.LinePuts.{after_line_put, typed_in_search}
use Rattle.bx_editor.specs.LineState.{LineState}
use Rattle.bx_editor.specs.Putting.{is_paste, only_paste}
use Rattle.bx_editor.specs.Replacing.{after_asking_replacement, after_ending, after_erasing_replacement, after_match_letter, after_replacement_letter}
use Rattle.bx_editor.specs.Replacing.{after_replacing, after_replacing_all, after_showing, after_sought_end, after_sought_letter, asked_at, at_match}
use Rattle.bx_editor.specs.Replacing.{is_replacing, match_stop, matches_on, next_match, on_from, replacement_line, replacement_typed, shown_at}
use Rattle.bx_editor.specs.Replacing.{with_matches_replaced, with_replacement}
use Rattle.bx_editor.specs.RowMoves.{after_wheel}
use Rattle.bx_editor.specs.Search.{after_erasing_query, after_letter, after_moving_in, as_typed, backward, kept, landed, landing_from, longest_query}
use Rattle.bx_editor.specs.Search.{next_or_start, nothing_sought, query_line, reading, search_from, search_on, sought, with_query, without_search}

-- matches that give way, moves, and what is told, sought and typed keep this property of editors
pub record IsKeptSeeking (d : Data) (P : Editor → Type 0) : Type 0 where
  pub exchanged : (e : Editor) (start stop : ℕ) (new : List ℕ) → P e → P (with_exchange d e start stop new)
  pub told : (e : Editor) (message : Option Message) → P e → P (record e { message = message })
  pub placed : (e : Editor) (place : ℕ) → P e → P (with_place e place)
  pub typed : (e : Editor) (typing : Typing) → P e → P (with_typing e typing)
  pub sought : (e : Editor) (search_state : SearchState) (purpose : SearchPurpose) (origin : ℕ) (query other : List ℕ) (at count cursor : ℕ) → P e
      → P (record e {
        search_state = search_state;
        purpose = purpose;
        origin = origin;
        query = query;
        replacement = other;
        at = at;
        count = count;
        input_cursor = cursor;
      })

-- the key ends the search
abbrev pub is_end : Answer → Bool
is_end Ends = true
is_end _ = false

-- while a match is shown: no key edits an input line, and these end replacing
abbrev pub is_end_of_match : Answer → Bool
is_end_of_match (Moves m) = true
is_end_of_match PutsIn = true
is_end_of_match Passes = true
is_end_of_match Ends = true
is_end_of_match _ = false

module _ (d : Data) (P : Editor → Type 0) (keeps : IsKeptSeeking d P) where
  either : (b : Bool) (p q : Editor) → P p → P q → P (if b then p else q)
  either true p q h k = h
  either false p q h k = k

  -- in this state of the search
  seeking : (e : Editor) (search_state : SearchState) → P e → P (record e { search_state = search_state })
  seeking e search_state h = keeps.sought e search_state e.purpose e.origin e.query e.replacement e.at e.count e.input_cursor h

  landing : (e : Editor) (l : Landing) → P e → P (landed e l)
  landing e l h = let place = unwrap_or l.place e.place in keeps.told (with_place e place) l.message (keeps.placed e place h)

  queried : (e : Editor) (l : LineState) → P e → P (with_query e l)
  queried e l h = keeps.sought e Typed e.purpose e.origin l.text e.replacement e.at e.count l.cursor h

  searching : (e : Editor) (x : ℕ) → P e → P (search_from d x e)
  searching e x h = landing e (landing_from d x e) h

  searching-on : (e : Editor) (grows : Bool) → P e → P (search_on d grows e)
  searching-on e grows h =
      let back = with_place e e.origin in
      either grows (search_from d e.place e) (search_from d e.origin back) (searching e e.place h)
      (searching back e.origin (keeps.placed e e.origin h))

  paste-behind : (typing : Option Typing) (e : Editor) → P e → P (with_paste_behind typing e)
  paste-behind None e h = h
  paste-behind (Some typing) e h = keeps.typed e typing h

  -- a character is typed or pasted in an input line, with its effect
  pub taking : (typing : Typing) (c : ℕ) (e new : Editor) → P e → P new → P (after_taking d typing c e new)
  taking typing c e new h k =
      paste-behind (paste_behind d typing c) (if is_taken d typing c then new else e) (either (is_taken d typing c) new e k h)

  -- the cursor moves in an input line
  pub moving-in : (e : Editor) (text : List ℕ) (m : Move) → P e → P (after_moving_in d e text m)
  moving-in e text m h =
      keeps.sought e (as_typed e.search_state) e.purpose e.origin e.query e.replacement e.at e.count (line_moved d m (line_with text e.input_cursor)) h

  -- ---- while the query is asked for

  letter : (e : Editor) (c : ℕ) → P e → P (after_letter d e c)
  letter e c h =
      let l = kept e.search_state (query_line e) in
      let longer = with_query e (line_lengthened d longest_query l c) in
      either (is_no_letter d c) e (search_on d (is_at_end l) longer) h
      (searching-on longer (is_at_end l) (queried e (line_lengthened d longest_query l c) h))

  erasing-query : (e : Editor) (how : Erasure) → P e → P (after_erasing_query d e how)
  erasing-query e how h =
      let l = line_shortened d how (query_line e) in
      either (erases_nothing d how (query_line e)) e (search_on d false (with_query e l)) h (searching-on (with_query e l) false (queried e l h))

  asked : (e : Editor) (place : Option ℕ) → P e → P (asked_at place e)
  asked e None h = seeking e Typed h
  asked e (Some place) h = keeps.sought e WithBegun e.purpose e.origin e.query e.replacement e.at 0 (length e.replacement) h

  asking : (e : Editor) → P e → P (after_asking_replacement d e)
  asking e h =
      let aimed : Editor = record e { purpose = purposes.Replace } in
      let l = landing_from d aimed.place aimed in
      let k : P aimed = keeps.sought e e.search_state purposes.Replace e.origin e.query e.replacement e.at e.count e.input_cursor h in
      either (length (sought d aimed) == 0) (landed aimed (nothing_sought aimed.query)) (asked_at l.place (landed aimed l))
      (landing aimed (nothing_sought aimed.query) k)
      (asked (landed aimed l) l.place (landing aimed l k))

  sought-end : (e : Editor) → P e → P (after_sought_end d e)
  sought-end e h = either (is_replacing e.purpose) (after_asking_replacement d e) (without_search e) (asking e h) (seeking e Off h)

  sought-letter : (e : Editor) (c : ℕ) → P e → P (after_sought_letter d e c)
  sought-letter e c h = either (c == 0xA) (after_sought_end d e) (after_letter d e c) (sought-end e h) (letter e c h)

  -- `pressed`: a key that ends the search; `wheeled`: the wheel; `put`: the held text
  pub query-keeps : (fault : Option StoreFault) (was : Before) (e : Editor) (key : Key) (answer : Answer) → P e
      → (is_end answer ≡ true → P (after_pressing d fault was (without_search e) key)) → ((way : Vertical) → P (after_wheel d was e way))
      → P (after_line_put d e) → P (answered d fault was e key answer)
  query-keeps fault was e key (Letter c) h pressed wheeled put = taking was.typing c e (after_sought_letter d e c) h (sought-letter e c h)
  query-keeps fault was e key (Erases how) h pressed wheeled put = erasing-query e how h
  query-keeps fault was e key (Moves m) h pressed wheeled put = moving-in e e.query m h
  query-keeps fault was e key PutsIn h pressed wheeled put = put
  query-keeps fault was e key Passes h pressed wheeled put = h
  query-keeps fault was e key GoesBack h pressed wheeled put = keeps.placed (without_search e) e.origin (seeking e Off h)
  query-keeps fault was e key Next h pressed wheeled put = searching (record e { search_state = Typed }) (next_or_start d e) (seeking e Typed h)
  query-keeps fault was e key Previous h pressed wheeled put =
      landing (record e { search_state = Typed }) (backward d (reading e.purpose) (rows d e) e.content.text e.place e.query (sought d e))
      (seeking e Typed h)
  query-keeps fault was e key Replaces h pressed wheeled put = asking e h
  query-keeps fault was e key (Scrolls way) h pressed wheeled put = wheeled way
  query-keeps fault was e key Stays h pressed wheeled put = keeps.typed e was.typing h
  query-keeps fault was e key Ends h pressed wheeled put = pressed refl

  -- ---- while the replacement is asked for

  replacement-set : (e : Editor) (l : LineState) → P e → P (with_replacement e l)
  replacement-set e l h = keeps.sought e WithTyped e.purpose e.origin e.query l.text e.at e.count l.cursor h

  shown : (e : Editor) (at : Option ℕ) → P e → P (shown_at e at)
  shown e None h = h
  shown e (Some at) h = keeps.sought e Replacing e.purpose e.origin e.query e.replacement at e.count e.input_cursor h

  showing : (e : Editor) → P e → P (after_showing d e)
  showing e h = shown e (next_match d e e.place) h

  replacement-typed : (e : Editor) (c : ℕ) → P e → P (replacement_typed d e c)
  replacement-typed e c h =
      let l = line_lengthened d longest_query (kept e.search_state (replacement_line e)) c in
      either (is_no_letter d c) e (with_replacement e l) h (replacement-set e l h)

  replacement-letter : (e : Editor) (c : ℕ) → P e → P (after_replacement_letter d e c)
  replacement-letter e c h = either (c == 0xA) (after_showing d e) (replacement_typed d e c) (showing e h) (replacement-typed e c h)

  erasing-replacement : (e : Editor) (how : Erasure) → P e → P (after_erasing_replacement d e how)
  erasing-replacement e how h =
      let l = line_shortened d how (replacement_line e) in
      either (erases_nothing d how (replacement_line e)) e (with_replacement e l) h (replacement-set e l h)

  -- `begun`: another search begins
  pub replacement-keeps : (fault : Option StoreFault) (was : Before) (e : Editor) (key : Key) (answer : Answer) → P e
      → P (by d fault was (without_search e) (Seeks purposes.Find))
      → (is_end answer ≡ true → P (after_pressing d fault was (without_search e) key)) → ((way : Vertical) → P (after_wheel d was e way))
      → P (after_line_put d e) → P (answered_replacement d fault was e key answer)
  replacement-keeps fault was e key (Letter c) h begun pressed wheeled put =
      taking was.typing c e (after_replacement_letter d e c) h (replacement-letter e c h)
  replacement-keeps fault was e key (Erases how) h begun pressed wheeled put = erasing-replacement e how h
  replacement-keeps fault was e key (Moves m) h begun pressed wheeled put = moving-in e e.replacement m h
  replacement-keeps fault was e key PutsIn h begun pressed wheeled put = put
  replacement-keeps fault was e key Passes h begun pressed wheeled put = h
  replacement-keeps fault was e key GoesBack h begun pressed wheeled put = keeps.placed (without_search e) e.origin (seeking e Off h)
  replacement-keeps fault was e key Next h begun pressed wheeled put = begun
  replacement-keeps fault was e key Previous h begun pressed wheeled put = begun
  replacement-keeps fault was e key Replaces h begun pressed wheeled put = showing e h
  replacement-keeps fault was e key (Scrolls way) h begun pressed wheeled put = wheeled way
  replacement-keeps fault was e key Stays h begun pressed wheeled put = keeps.typed e was.typing h
  replacement-keeps fault was e key Ends h begun pressed wheeled put = pressed refl

  -- a character is typed in the input line of a search
  pub typed-in-search : (search_state : SearchState) (e : Editor) (c : ℕ) → P e → P (typed_in_search d search_state e c)
  typed-in-search Off e c h = h
  typed-in-search Begun e c h = letter e c h
  typed-in-search Typed e c h = letter e c h
  typed-in-search WithBegun e c h = replacement-typed e c h
  typed-in-search WithTyped e c h = replacement-typed e c h
  typed-in-search Replacing e c h = h

  -- ---- while a match is shown

  ending : (e : Editor) → P e → P (after_ending e)
  ending e h = keeps.told (without_search e) (Some (messages.Replaced e.count)) (seeking e Off h)

  full : (e : Editor) → P e → P (record e { message = Some messages.TextFull })
  full e h = keeps.told e (Some messages.TextFull) h

  there : (e : Editor) (at : Option ℕ) → P e → P (at_match d e at)
  there e None h = ending e h
  there e (Some at) h =
      keeps.placed (record e { search_state = Replacing; at = at }) (place_at (rows d e) at)
      (keeps.sought e Replacing e.purpose e.origin e.query e.replacement at e.count e.input_cursor h)

  onward : (e : Editor) (x : ℕ) → P e → P (on_from d x e)
  onward e x h = there e (next_match d e x) h

  replaced : (e : Editor) (stop : ℕ) (new : List ℕ) (n : ℕ) → P e → P (with_matches_replaced d e stop new n)
  replaced e stop new n h =
      let x = with_exchange d e e.at stop new in
      keeps.sought x x.search_state x.purpose 0 x.query x.replacement x.at (e.count + n) x.input_cursor (keeps.exchanged e e.at stop new h)

  replacing : (e : Editor) → P e → P (after_replacing d e)
  replacing e h =
      let stop = match_stop d e in
      let new = with_matches_replaced d e stop e.replacement 1 in
      either (fits e.content.text e.at stop e.replacement) (on_from d (e.at + length e.replacement) new)
      (record e { message = Some messages.TextFull })
      (onward new (e.at + length e.replacement) (replaced e stop e.replacement 1 h)) (full e h)

  replacing-all : (e : Editor) → P e → P (after_replacing_all d e)
  replacing-all e h =
      let all = matches_on d e in
      let stop = last_stop e.at all in
      let new = swapped e.at e.content.text e.replacement all in
      either (fits e.content.text e.at stop new) (after_ending (with_matches_replaced d e stop new (length all)))
      (record e { message = Some messages.TextFull })
      (ending (with_matches_replaced d e stop new (length all)) (replaced e stop new (length all) h)) (full e h)

  match-letter : (typing : Typing) (e : Editor) (c : ℕ) → P e → P (after_match_letter d typing e c)
  match-letter typing e c h = either ((c == 0xA) && not (is_paste typing)) (after_replacing d e) e (replacing e h) h

  pub match-keeps : (fault : Option StoreFault) (was : Before) (e : Editor) (key : Key) (answer : Answer) → P e
      → P (by d fault was (without_search e) (Seeks purposes.Find))
      → (is_end_of_match answer ≡ true → P (after_pressing d fault was (without_search e) key)) → ((way : Vertical) → P (after_wheel d was e way))
      → P (answered_match d fault was e key answer)
  match-keeps fault was e key (Letter c) h begun pressed wheeled =
      keeps.typed (after_match_letter d was.typing e c) (only_paste was.typing) (match-letter was.typing e c h)
  match-keeps fault was e key (Erases how) h begun pressed wheeled = h
  match-keeps fault was e key (Moves m) h begun pressed wheeled = pressed refl
  match-keeps fault was e key PutsIn h begun pressed wheeled = pressed refl
  match-keeps fault was e key Passes h begun pressed wheeled = pressed refl
  match-keeps fault was e key GoesBack h begun pressed wheeled = ending e h
  match-keeps fault was e key Next h begun pressed wheeled = onward e (behind_character e.content.text e.at) h
  match-keeps fault was e key Previous h begun pressed wheeled = begun
  match-keeps fault was e key Replaces h begun pressed wheeled = replacing-all e h
  match-keeps fault was e key (Scrolls way) h begun pressed wheeled = wheeled way
  match-keeps fault was e key Stays h begun pressed wheeled = keeps.typed e was.typing h
  match-keeps fault was e key Ends h begun pressed wheeled = pressed refl
