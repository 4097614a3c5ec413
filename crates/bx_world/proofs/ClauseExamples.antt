-- Worked rows, each of which follows from a clause of a schedule alone.
use Rattle.std.proofs.Common.{◌≡◌, ℕ, ◌+◌, ◌<◌, true, false, List, [], ◌∷◌, ◌++◌, length, take, Option, Some, None, refl, sym, ap, subst, ◌∙◌, arith, lit<}
use Rattle.std.specs.Prelude.{IfSome, IsSome, codes, option_to_list}
use Rattle.std.specs.Fmt.{digits}
use Rattle.std.proofs.lemmas.List.{append-nil}
use Rattle.unicode_segmentation.proofs.Computing.{unicode_segmentation}
use Rattle.unicode_width.proofs.Computing.{unicode_width}
use Rattle.bx_common.specs.declared.base.Base.TheVariants.{Auto}
use Rattle.bx_keys.specs.declared.key.Key.{Key}
use Rattle.bx_keys.specs.declared.key.Key.TheVariants.{Find, Insert, Save}
use Rattle.bx_keys.specs.Keys.{decoding}
use Rattle.bx_keys.specs.Waiting.{keys_from}
use Rattle.bx_grid.specs.Picture.{Shows}
use Rattle.bx_grid.specs.Terminal.{Terminal, unknown_terminal}
use Rattle.bx_view.specs.TextRows.{cell_of}
use Rattle.bx_store.specs.Stores.{no_faults}
use Rattle.bx_store.specs.Faults.{greatest}
use Rattle.bx_store.specs.declared.store.StoreFault.{StoreFault}
use Rattle.bx_editor.specs.Editor.{Editor, rows}
use Rattle.bx_editor.specs.Keys.{after_key}
use Rattle.bx_editor.specs.Picture.{picture}
use Rattle.bx_editor.specs.Settings.{plain}
use Rattle.bx_editor.specs.Status.{input_column}
use Rattle.bx_editor.proofs.Computed.{tables, ascii_columns}
use Rattle.bx_session.specs.Session.{StoreState, Session, needs_painting}
use Rattle.bx_session.proofs.Computed.{start}
use Rattle.bx_world.specs.declared.step.Step.TheVariants.{Byte, Send, Read}
use Rattle.bx_world.specs.Events.{Event, AreEvents, AreEventsFrom, Input, after_events, after_save_of, failed_saves, input_of, keys_of, stored_after_all}
use Rattle.bx_world.specs.Headline.{Headline, HeadlineFromOpening, opened_by}
use Rattle.bx_world.specs.Following.{Follows}
use Rattle.bx_world.specs.Reading.{PlaysReading, SeesPromised}
use Rattle.bx_world.specs.Runs.{Schedule, begins_at}
use Rattle.bx_world.specs.Showing.{picture_of, unread}
use Rattle.bx_world.specs.World.{World, after_send, around}
use Rattle.bx_world.proofs.Woven.{ok}

-- a text that was opened in one row of five columns
abbrev opened : List ℕ → Session
opened text = opened_by tables text 1 5 Auto plain false

-- ---- the events of one byte

key_only : (key : Option Key) (k : Key) → option_to_list key ++ [] ≡ k ∷ [] → key ≡ Some k
key_only None k is = absurd (cc is)
key_only (Some key) k is = cc is

-- the event of a byte that completes a key
one_key : (text : List ℕ) (height width b : ℕ) (key : Key) (events : List Event) (keys : List ℕ → List Key) → keys (b ∷ []) ≡ key ∷ []
    → AreEvents tables (opened_by tables text height width Auto plain false).editor ((Byte b, ok) ∷ []) events
    → keys_of events ≡ keys (input_of events) → (fault : Option StoreFault) × (events ≡ Input b (Some key) true fault true ∷ [])
one_key text height width b key events keys typed are whole =
    let one = are.3 in
    let e : Editor = (opened_by tables text height width Auto plain false).editor in
    let event : Option Key → Event = λ k. Input b k true one.1 (needs_painting e k) in
    let is : events ≡ event one.0 ∷ [] = are.2 ∙ ap (λ (xs : List Event). xs ++ are.1) one.2 ∙ ap (λ (xs : List Event). event one.0 ∷ xs) are.4 in
    let key_is : one.0 ≡ Some key = key_only one.0 key (subst (λ (xs : List Event). keys_of xs ≡ keys (input_of xs)) is whole ∙ typed) in
    (one.1, is ∙ ap (λ (k : Option Key). event k ∷ []) key_is)

-- ---- a letter is typed into an empty text

abbrev empty : Editor
empty = (opened []).editor

typed_letter : (fault : Option StoreFault) → (after_events tables empty (Input 0x61 (Some (Insert 0x61)) true fault true ∷ [])).content.text ≡ codes "a"
unfolding unicode_segmentation unicode_width digits
typed_letter fault = refl

-- what the events of the byte `a` make of it
one_letter : (events : List Event) (keys : List ℕ → List Key) → keys (codes "a") ≡ Insert 0x61 ∷ [] → AreEvents tables empty ((Byte 0x61, ok) ∷ []) events
    → keys_of events ≡ keys (input_of events) → (after_events tables empty events).content.text ≡ codes "a"
one_letter events keys typed are whole =
    let one = one_key [] 1 5 0x61 (Insert 0x61) events keys typed are whole in
    ap (λ (xs : List Event). (after_events tables empty xs).content.text) one.1 ∙ typed_letter one.0

pub a_byte_is_its_letter : (store store' : StoreState) (new : World)
    → HeadlineFromOpening tables (around (opened []) 1 5) store ((Byte 0x61, ok) ∷ []) new store' → new.session.editor.content.text ≡ codes "a"
a_byte_is_its_letter store store' new clause =
    let found = clause [] 1 5 Auto plain false refl in
    ap (λ (e : Editor). e.content.text) found.1.editor
    ∙ one_letter found.0 (λ bs. (decoding bs).keys) refl found.1.events_are (found.1.keys found.0 [] (sym (append-nil found.0)))

abbrev cursor_cell : Editor → ℕ
cursor_cell e = cell_of e.width (rows tables e) e.place

cursor_behind_letter : (fault : Option StoreFault) → cursor_cell (after_events tables empty (Input 0x61 (Some (Insert 0x61)) true fault true ∷ [])) ≡ 2
unfolding unicode_segmentation unicode_width digits
cursor_behind_letter fault = refl

-- a window of one row has no input line
no_status_row : (fault : Option StoreFault) → input_column tables (after_events tables empty (Input 0x61 (Some (Insert 0x61)) true fault true ∷ [])) ≡ None
unfolding unicode_segmentation unicode_width digits
no_status_row fault = refl

-- the cursor is behind it, in the second column
pub the_cursor_is_behind_the_letter : (store store' : StoreState) (new : World) (column : ℕ)
    → (clause : HeadlineFromOpening tables (around (opened []) 1 5) store ((Byte 0x61, ok) ∷ []) new store')
    → new.session.painting_owed ≡ false → new.session.editor.ended ≡ false
    → (picture tables (after_events tables empty (clause [] 1 5 Auto plain false refl).0) new.session.editor.top).column ≡ column → column ≡ 1
the_cursor_is_behind_the_letter store store' new column clause paid on is =
    let found = clause [] 1 5 Auto plain false refl in
    let one = one_key [] 1 5 0x61 (Insert 0x61) found.0 (λ bs. (decoding bs).keys) refl found.1.events_are (found.1.keys found.0 [] (sym (append-nil found.0))) in
    let nowhere = ap (λ (xs : List Event). input_column tables (after_events tables empty xs)) one.1 ∙ no_status_row one.0 in
    let cell : column + 1 ≡ cursor_cell (after_events tables empty found.0) = ap (λ n. n + 1) (sym is) ∙ (found.1.cursor paid on nowhere).column in
    let second : cursor_cell (after_events tables empty found.0) ≡ 2 =
    ap (λ (xs : List Event). cursor_cell (after_events tables empty xs)) one.1 ∙ cursor_behind_letter one.0 in
    omega (arith, cell, second)

-- a terminal that has memory is there
pub the_terminal_is_there : (store store' : StoreState) (new : World)
    → HeadlineFromOpening tables (around (opened []) 1 5) store ((Byte 0x61, ok) ∷ (Send 3, ok) ∷ (Read 3, ok) ∷ []) new store' → IsSome new.screen
the_terminal_is_there store store' new clause = (clause [] 1 5 Auto plain false refl).1.live (refl, (refl, (refl, tt)))

-- ---- a search was begun in two rows of 30 columns

abbrev sought : Editor
sought = after_key tables None (opened_by tables (codes "ab") 2 30 Auto plain false).editor Find

query_column : input_column tables sought ≡ Some 13
unfolding unicode_segmentation unicode_width digits
query_column = refl

query_height : sought.height ≡ 2
unfolding unicode_segmentation unicode_width digits
query_height = refl

-- the cursor is in the second row, where the prompt is
pub the_cursor_is_in_the_query : (store store' : StoreState) (schedule : Schedule) (new : World) (row : ℕ)
    → Headline tables sought [] store schedule new store' [] → new.session.editor.ended ≡ false
    → (picture tables sought new.session.editor.top).row ≡ row → row ≡ 1
the_cursor_is_in_the_query store store' schedule new row clause on is =
    omega (arith, is, (clause.in_line 13 on query_column).row, query_height)

-- ---- a Save

abbrev store_of : List ℕ → StoreState
store_of contents = record { contents = Some contents; faults = no_faults }

not_counted : (fault : Option StoreFault) (contents : List ℕ) (store' : StoreState) → store' ≡ after_save_of (codes "ab") fault (store_of contents)
    → store'.faults.count ≡ 0 → store'.contents ≡ Some (codes "ab")
not_counted None contents store' is none = ap (λ (x : StoreState). x.contents) is
not_counted (Some fault) contents store' is none = absurd (let g : 1 ≡ 0 = sym (ap (λ (x : StoreState). x.faults.count) is) ∙ none in cc g)

-- a Save that the store did not count as failed stored the text
pub a_save_stores_the_text : (contents : List ℕ) (store' : StoreState) (new : World)
    → HeadlineFromOpening tables (around (opened (codes "ab")) 1 5) (store_of contents) ((Byte 0x13, ok) ∷ []) new store'
    → store'.faults.count ≡ 0 → store'.contents ≡ Some (codes "ab")
a_save_stores_the_text contents store' new clause none =
    let found = clause (codes "ab") 1 5 Auto plain false refl in
    let one = one_key (codes "ab") 1 5 0x13 Save found.0 (λ bs. (decoding bs).keys) refl found.1.events_are
    (found.1.keys found.0 [] (sym (append-nil found.0))) in
    not_counted one.0 contents store'
    (found.1.stored ∙ ap (stored_after_all tables (opened (codes "ab")).editor (store_of contents)) one.1) none

-- a count that is one higher is of one Save that failed
pub a_failed_save_is_counted : (contents : Option (List ℕ)) (store' : StoreState) (new : World)
    → (clause : HeadlineFromOpening tables (around (opened (codes "ab")) 1 5)
    (record { contents = contents; faults = record { count = 4; latest = None } }) ((Byte 0x13, ok) ∷ []) new store')
    → store'.faults.count ≡ 5 → failed_saves tables (opened (codes "ab")).editor (clause (codes "ab") 1 5 Auto plain false refl).0 ≡ 1
a_failed_save_is_counted contents store' new clause count =
    let found = clause (codes "ab") 1 5 Auto plain false refl in
    let all : store'.faults.count ≡ 4 + failed_saves tables (opened (codes "ab")).editor found.0 =
    found.1.failures (subst (λ n. n < greatest) (sym count) (lit< tt)) in
    omega (arith, count, all)

-- from any world that has such a session, and in which no byte waits
pub a_byte_follows : (w : World) (store store' : StoreState) (new : World) → w.session ≡ opened [] → w.rest ≡ []
    → (events : List Event) × Follows tables w store ((Byte 0x61, ok) ∷ []) new store' events → new.session.editor.content.text ≡ codes "a"
a_byte_follows w store store' new is idle found =
    let f = found.1 in
    let editor : w.session.editor ≡ empty = ap (λ (s : Session). s.editor) is in
    ap (λ (e : Editor). e.content.text) f.editor
    ∙ ap (λ (e : Editor). (after_events tables e found.0).content.text) editor
    ∙ one_letter found.0 (keys_from []) refl
    (subst (λ (s : Session). AreEventsFrom tables s.painting_owed s.editor ((Byte 0x61, ok) ∷ []) found.0) is f.events_are)
    (f.keys ∙ ap (λ rest. keys_from rest (input_of found.0)) idle)

-- ---- a promised picture

-- `ab` is painted in 22 bytes, which are on the line
abbrev promised : World
promised = after_send (begins_at [] (start (codes "ab") 1 5) (unknown_terminal 1 5)) 22

promised_length : length (unread promised) ≡ 22
unfolding unicode_segmentation unicode_width digits
promised_length = refl

promised_columns : (picture_of tables promised.session).columns ≡ ascii_columns (codes "ab   ")
unfolding unicode_segmentation unicode_width digits
promised_columns = refl

promised_read : length (take 22 promised.line) ≡ 22
unfolding unicode_segmentation unicode_width digits
promised_read = refl

pub a_promise_is_seen : (store store' : StoreState) (new : World) (t : Terminal)
    → (read : List ℕ) × PlaysReading tables promised store ((Read 22, ok) ∷ []) new store' read
    × SeesPromised tables promised ((Read 22, ok) ∷ []) read new → new.screen ≡ Some t → t.columns ≡ ascii_columns (codes "ab   ")
a_promise_is_seen store store' new t clause is =
    let plays = clause.1 in
    let all : clause.0 ≡ take 22 promised.line ++ [] = plays.4 ∙ ap (λ xs. take 22 promised.line ++ xs) plays.5.2 in
    let count : length clause.0 ≡ length (unread promised) =
    ap (λ (xs : List ℕ). length xs) (all ∙ append-nil (take 22 promised.line)) ∙ promised_read ∙ sym promised_length in
    let shown : IfSome new.screen (λ u. Shows u (picture_of tables promised.session)) = clause.2 refl refl refl count in
    let seen : Shows t (picture_of tables promised.session) =
    subst (λ (x : Option Terminal). IfSome x (λ u. Shows u (picture_of tables promised.session))) is shown in
    seen.same_columns ∙ promised_columns
