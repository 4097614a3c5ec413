-- What the calls of a world leave, put together from what each call below left.
use Rattle.std.proofs.Common.{◌≡◌, ℕ, zero, suc, Bool, true, false, List, [], ◌∷◌, ◌++◌, take, drop, length, Option, Some, None, Result, Ok, Err}
use Rattle.std.proofs.Common.{refl, sym, ap, subst, ◌∙◌, if◌then◌else◌}
use Rattle.std.specs.Prelude.{IfSome, IsSome, OnOk, OnErr, ◌&&◌, ◌==◌, ◌≢◌, option_map}
use Rattle.bx_common.specs.declared.base.Base.{Base}
use Rattle.bx_grid.specs.declared.error.GridError.TheVariants as grid
use Rattle.bx_grid.specs.Picture.{PictureState}
use Rattle.bx_keys.specs.declared.key.Key.{Key}
use Rattle.bx_keys.specs.Keys.{head_of, rest_after}
use Rattle.bx_grid.specs.Terminal.{Terminal, reads, after_resize, unknown_terminal}
use Rattle.bx_store.specs.declared.store.StoreFault.{StoreFault}
use Rattle.bx_ucd.specs.Data.{Data}
use Rattle.bx_editor.specs.Editor.{Editor}
use Rattle.bx_editor.specs.Picture.{StandsOnItsCell}
use Rattle.bx_editor.specs.Settings.{SettingsState}
use Rattle.bx_editor.specs.declared.scrolling.Scroll.{Scroll}
use Rattle.bx_session.specs.declared.status.Refused.{Refused}
use Rattle.bx_session.specs.declared.status.Refused.TheVariants as refused
use Rattle.bx_session.specs.declared.status.Status.{Status}
use Rattle.bx_session.specs.Session.{Session, at_opening, after_press, owing_after_press, is_painted_press, unpainted_after_press}
use Rattle.bx_session.specs.Session.{painted_after, counted_key, needs_painting, owing_after_told, after_sending, with_clipboard}
use Rattle.bx_session.specs.Session.{StoreState, StoreAfter, is_save_press, scroll_behind, text_to_save, with_settings}
use Rattle.bx_session.specs.Feeding.{SessionState, Presses, ToldBy}
use Rattle.bx_session.specs.Painting.{QueuesPicture, PressPaints, ToldPaints}
use Rattle.bx_session.proofs.Quiet.{quiet_press, quiet_shows}
use Rattle.bx_session.proofs.Shown.{always_shows, no_need}
use Rattle.bx_session.proofs.Tops.{clipboard_unseen, input_unseen}
use Rattle.bx_world.specs.declared.step.StepFault.{StepFault}
use Rattle.bx_world.specs.declared.step.StepFault.TheVariants as faults
use Rattle.bx_world.specs.Answers.{answer_of, mark_after}
use Rattle.bx_world.specs.World.{is_applied, AfterByteStep, AfterToldStep, AfterReadStep, World, with_byte, with_told_size, told_after_key}
use Rattle.bx_world.specs.World.{around, is_window, after_send, after_decoding, press_of}
use Rattle.bx_world.specs.declared.world.World.TheInside.{Inside}
use Rattle.bx_world.specs.Showing.{CursorStands, IsInStep, WorldState}
use Rattle.bx_world.proofs.Keys.{press_keeps, press_pending, both, same_number}
use Rattle.bx_world.proofs.Steps.{opened, kept, painted, resized, sent, received, failed}

-- the value of a world's fields
abbrev pub value_of : {D : Type 0} → Inside D → World
value_of w = record {
  session = w.session.session;
  rest = w.decoder;
  line = w.line.items;
  height = w.height;
  width = w.width;
  screen = w.screen;
  told = w.told;
}

-- ---- opening

-- a session that was opened, and then told its settings
pub opened_is : {D : Type 0} (ucd : D → Data) (first s : SessionState D) (tables : D) (text : List ℕ) (height width : ℕ) (base : Base)
    (settings : SettingsState) (rest line : List ℕ) (screen : Option Terminal)
    → first ≡ record { tables = tables; session = at_opening (ucd tables) text height width base } → s.tables ≡ first.tables
    → s.session ≡ with_settings (ucd first.tables) first.session settings → QueuesPicture (ucd first.tables) [] None s.session
    → rest ≡ [] → line ≡ [] → screen ≡ Some (unknown_terminal height width)
    → IsInStep (ucd s.tables) (record {
      session = s.session;
      rest = rest;
      line = line;
      height = height;
      width = width;
      screen = screen;
      told = true;
    })
opened_is {D} ucd first s tables text height width base settings rest line screen is kept set queued idle empty shown =
    rw (idle, empty, shown) (opened (ucd s.tables) s.session height width (subst (λ t. QueuesPicture (ucd t) [] None s.session) (sym kept) queued) (
      ap (λ (x : Session). x.editor.height) set ∙ ap (λ (x : SessionState D). x.session.editor.height) is,
      ap (λ (x : Session). x.editor.width) set ∙ ap (λ (x : SessionState D). x.session.editor.width) is,
    ))

pub opened_world : {D : Type 0} (ucd : D → Data) (first s : SessionState D) (tables : D) (text : List ℕ) (height width : ℕ) (base : Base)
    (settings : SettingsState) (rest line : List ℕ) (screen : Option Terminal) (w : WorldState D)
    → w ≡ record {
      tables = s.tables;
      world = record { session = s.session; rest = rest; line = line; height = height; width = width; screen = screen; told = true };
    }
    → first ≡ record { tables = tables; session = at_opening (ucd tables) text height width base } → s.tables ≡ first.tables
    → s.session ≡ with_settings (ucd first.tables) first.session settings → rest ≡ [] → line ≡ [] → screen ≡ Some (unknown_terminal height width)
    → w ≡ record { tables = tables; world = around (with_settings (ucd tables) (at_opening (ucd tables) text height width base) settings) height width }
opened_world {D} ucd first s tables text height width base settings rest line screen w view is kept set idle empty shown =
    let made : Session → List ℕ → List ℕ → Option Terminal → D → WorldState D = λ x r l t d. record {
      tables = d;
      world = record { session = x; rest = r; line = l; height = height; width = width; screen = t; told = true };
    } in
    let told : Session = with_settings (ucd tables) (at_opening (ucd tables) text height width base) settings in
    let from : s.session ≡ told = set ∙ ap (λ (x : SessionState D). with_settings (ucd x.tables) x.session settings) is in
    view
    ∙ ap (λ x. made x rest line screen s.tables) from
    ∙ ap (λ r. made told r line screen s.tables) idle
    ∙ ap (λ l. made told [] l screen s.tables) empty
    ∙ ap (λ t. made told [] [] t s.tables) shown
    ∙ ap (λ d. made told [] [] (Some (unknown_terminal height width)) d) (kept ∙ ap (λ (x : SessionState D). x.tables) is)

-- ---- a clipboard

clipboard_cursor : (d : Data) (s : Session) → CursorStands d s → CursorStands d (with_clipboard s)
clipboard_cursor d s was owed on nowhere =
    let e : Editor = s.editor in
    let h = was owed on (sym (input_unseen d e e.top true) ∙ nowhere) in
    let new : Editor = record e { clipboard = true } in
    subst (λ (p : PictureState). StandsOnItsCell d new e.top p) (sym (clipboard_unseen d e true e.top))
    (record { place = h.place; slot = h.slot; cell = h.cell; shown = h.shown; row = h.row; column = h.column })

clipboard_in_step : (d : Data) (w : World) → IsInStep d w → IsInStep d (record w { session = with_clipboard w.session })
clipboard_in_step d w was = record {
  state = always_shows.clipboard d w.session was.state;
  cursor = clipboard_cursor d w.session was.cursor;
  follows = was.follows;
  whole = was.whole;
  screen = was.screen;
  size = was.size;
}

-- a session with a clipboard is in step as before
pub clipboard_call : {D : Type 0} (ucd : D → Data) (old new : SessionState D) (w : World) → w.session ≡ old.session
    → new ≡ record old { session = with_clipboard old.session } → IsInStep (ucd old.tables) w
    → IsInStep (ucd new.tables) (record w { session = new.session })
clipboard_call {D} ucd old new w same is was =
    subst (λ (x : SessionState D). IsInStep (ucd x.tables) (record w { session = x.session })) (sym is)
    (subst (λ (s : Session). IsInStep (ucd old.tables) (record w { session = with_clipboard s })) same (clipboard_in_step (ucd old.tables) w was))

-- ---- a press

-- a press that leaves this session
abbrev with_press : World → Option Key → Session → World
with_press w key s = record w { session = s; told = told_after_key w (counted_key w.session key) }

-- how its key scrolls
abbrev scroll_at : Session → Option Key → Scroll
scroll_at s key = scroll_behind s.editor (counted_key s key)

-- its key was applied, and its painting is owed
pub owing_in_step : (d : Data) (fault : Option StoreFault) (w : World) (key : Option Key) → IsInStep d w
    → IsInStep d (with_press w key (owing_after_press d fault w.session key))
owing_in_step d fault w key was =
    let keeps = press_keeps d fault w key in
    kept d w (owing_after_press d fault w.session key) (told_after_key w (counted_key w.session key)) was (press_pending d fault w.session key)
    (always_shows.owing_press d fault w.session key) (λ owed. absurd (cc owed)) keeps.known (λ on. keeps.size was.size on)

-- its key was applied and painted
pub painted_in_step : (d : Data) (fault : Option StoreFault) (w : World) (key : Option Key) (new : Session) → IsInStep d w
    → new ≡ painted_after d (scroll_at w.session key) (unpainted_after_press d fault w.session key) (counted_key w.session key)
    → PressPaints d w.session key new → IsInStep d (with_press w key new)
painted_in_step d fault w key new was is queued =
    painted d w new (told_after_key w (counted_key w.session key)) (unpainted_after_press d None w.session key).known was queued
    (press_keeps d None w key).known
    (λ on. rw is ((press_keeps d fault w key).size was.size on))

-- its key was applied, and needs no painting
quiet_in_step : (d : Data) (fault : Option StoreFault) (w : World) (key : Option Key) → IsInStep d w → is_painted_press w.session key ≡ false
    → IsInStep d (with_press w key (unpainted_after_press d fault w.session key))
quiet_in_step d fault w key was none =
    let s = w.session in
    let keeps = press_keeps d fault w key in
    let need = no_need s.painting_owed (needs_painting s.editor (counted_key s key)) none in
    let quiet = quiet_press d fault s key need.1 in
    kept d w (unpainted_after_press d fault s key) (told_after_key w (counted_key s key)) was quiet.pending
    (quiet_shows d s (unpainted_after_press d fault s key) quiet was.state)
    (λ owed on nowhere. quiet.editor.stands (was.cursor need.0 (sym quiet.editor.ended ∙ on) (sym quiet.editor.column ∙ nowhere)))
    keeps.known (λ on. keeps.size was.size on)

pressed : (d : Data) (fault : Option StoreFault) (w : World) (key : Option Key) (new : Session) → IsInStep d w → new ≡ after_press d fault w.session key
    → (is_painted_press w.session key ≡ true → PressPaints d w.session key new) → IsInStep d (with_press w key new)
pressed d fault w key new was is paints = by_painting (is_painted_press w.session key) refl is where
  u : Session
  u = unpainted_after_press d fault w.session key

  by_painting : (painted : Bool) → is_painted_press w.session key ≡ painted
      → new ≡ (if painted then painted_after d (scroll_at w.session key) u (counted_key w.session key) else u) → IsInStep d (with_press w key new)
  by_painting true prompts same = painted_in_step d fault w key new was same (paints prompts)
  by_painting false none same = rw same (quiet_in_step d fault w key was none)

pub press_in_step : (d : Data) (w : World) (new : Session) (store store' : StoreState) (key : Option Key) (answer : Result Status Refused)
    → IsInStep d w → Presses d w.session store key answer new store'
    → (is_painted_press w.session key ≡ true → OnOk answer (PressPaints d w.session key new))
    → IsInStep d (record w { session = new; told = mark_after w.told (told_after_key w (counted_key w.session key)) answer })
press_in_step d w new store store' key (Ok status) was presses paints = pressed d presses.0 w key new was presses.2.0 paints
press_in_step d w new store store' key (Err refused.Edit) was presses paints = rw presses.2.0 was
press_in_step d w new store store' key (Err refused.Paint) was presses paints = rw presses.2.0 (owing_in_step d presses.0 w key was)
press_in_step d w new store store' key (Err refused.Size) was presses paints = absurd presses.2

-- ---- a byte

-- whatever waits of the input
waits_in_step : (d : Data) (w : World) (rest : List ℕ) → IsInStep d w → IsInStep d (record w { rest = rest })
waits_in_step d w rest was = record {
  state = was.state;
  cursor = was.cursor;
  follows = was.follows;
  whole = was.whole;
  screen = was.screen;
  size = was.size;
}

pub byte_in_step : (d : Data) (w : World) (new : Session) (rest : List ℕ) (store store' : StoreState) (key : Option Key)
    (answer : Result Status Refused) → IsInStep d w → Presses d w.session store key answer new store'
    → (is_painted_press w.session key ≡ true → OnOk answer (PressPaints d w.session key new))
    → IsInStep d (record w { session = new; rest = rest; told = mark_after w.told (told_after_key w (counted_key w.session key)) answer })
byte_in_step d w new rest store store' key answer was presses paints =
    press_in_step d (record w { rest = rest }) new store store' key answer (waits_in_step d w rest was) presses paints

pub byte_call : {D : Type 0} (ucd : D → Data) (tables tables' : D) (w : World) (new : Session) (rest : List ℕ) (store store' : StoreState)
    (key : Option Key) (answer : Result Status Refused) (told : Bool) → tables' ≡ tables
    → told ≡ mark_after w.told (told_after_key w (counted_key w.session key)) answer
    → IsInStep (ucd tables) w → Presses (ucd tables) w.session store key answer new store'
    → (is_painted_press w.session key ≡ true → OnOk answer (PressPaints (ucd tables) w.session key new))
    → IsInStep (ucd tables') (record w { session = new; rest = rest; told = told })
byte_call ucd tables tables' w new rest store store' key answer told same is was presses paints =
    rw (same, is) (byte_in_step (ucd tables) w new rest store store' key answer was presses paints)

-- the world after a byte, by what the session makes of its press
abbrev pub pressed_world : World → ℕ → Session → Result Status Refused → World
pressed_world w b new answer =
    record (after_decoding w b) { session = new; told = mark_after w.told (told_after_key w (counted_key w.session (press_of w b))) answer }

pub byte_answer : (d : Data) (w : World) (new : Session) (store store' : StoreState) (b : ℕ) (answer : Result Status Refused)
    → Presses d w.session store (press_of w b) answer new store'
    → (fault : Option StoreFault) × StoreAfter (is_applied (answer_of answer) && is_save_press w.session (press_of w b)) fault
    (text_to_save d w.session.editor) store store' × AfterByteStep d fault w b (answer_of answer) (pressed_world w b new answer)
byte_answer d w new store store' b (Ok status) presses = (presses.0, presses.1, ap (λ (s : Session). with_byte w b s) presses.2.0)
byte_answer d w new store store' b (Err refused.Edit) presses =
    (presses.0, presses.1, (ap (λ (s : Session). record (after_decoding w b) { session = s }) presses.2.0, presses.2.1))
byte_answer d w new store store' b (Err refused.Paint) presses = (presses.0, presses.1, (ap (λ (s : Session). with_byte w b s) presses.2.0, presses.2.1))
byte_answer d w new store store' b (Err refused.Size) presses = absurd presses.2

pub byte_steps : (d : Data) (w : World) (new : Session) (rest : List ℕ) (store store' : StoreState) (b : ℕ) (key : Option Key)
    (answer : Result Status Refused) (result : Result (Unit {0}) StepFault) (told : Bool) → rest ≡ head_of (rest_after w.rest b) → key ≡ press_of w b
    → result ≡ answer_of answer → told ≡ mark_after w.told (told_after_key w (counted_key w.session key)) answer
    → Presses d w.session store key answer new store'
    → (fault : Option StoreFault) × StoreAfter (is_applied result && is_save_press w.session (press_of w b)) fault
    (text_to_save d w.session.editor) store store' × AfterByteStep d fault w b result (record w { session = new; rest = rest; told = told })
byte_steps d w new rest store store' b key answer result told waits gives same is presses =
    rw (waits, same, is ∙ ap (λ k. mark_after w.told (told_after_key w (counted_key w.session k)) answer) gives)
    (byte_answer d w new store store' b answer (subst (λ k. Presses d w.session store k answer new store') gives presses))

-- ---- a told size

window_fits : (w : World) (height width : ℕ) → is_window w height width ≡ true → (height ≡ w.height) × (width ≡ w.width)
window_fits w height width on =
    let each = both (w.height == height) (w.width == width) on in
    (sym (same_number w.height height each.0), sym (same_number w.width width each.1))

told_in_step : (d : Data) (w : World) (new : Session) (height width : ℕ) (answer : Result (Unit {0}) Refused) → IsInStep d w
    → ToldBy d w.session height width answer new → OnOk answer (ToldPaints d w.session new)
    → IsInStep d (record w { session = new; told = mark_after w.told (is_window w height width) answer })
told_in_step d w new height width (Ok done) was told paints =
    painted d w new (is_window w height width) None was paints (λ on. tt)
    (λ on. (let fits = window_fits w height width on in
    (ap (λ (s : Session). s.editor.height) told.1 ∙ fits.0, ap (λ (s : Session). s.editor.width) told.1 ∙ fits.1)))
told_in_step d w new height width (Err refused.Edit) was told paints = absurd told
told_in_step d w new height width (Err refused.Paint) was told paints =
    rw told.1 (kept d w (owing_after_told w.session height width) (is_window w height width) was refl (always_shows.owing_told d w.session height width)
    (λ owed. absurd (cc owed)) (λ on. tt) (λ on. window_fits w height width on))
told_in_step d w new height width (Err refused.Size) was told paints = rw told.1 was

pub told_call : {D : Type 0} (ucd : D → Data) (tables tables' : D) (w : World) (new : Session) (height width : ℕ) (answer : Result (Unit {0}) Refused)
    (told : Bool) → tables' ≡ tables → told ≡ mark_after w.told (is_window w height width) answer → IsInStep (ucd tables) w
    → ToldBy (ucd tables) w.session height width answer new → OnOk answer (ToldPaints (ucd tables) w.session new)
    → IsInStep (ucd tables') (record w { session = new; told = told })
told_call ucd tables tables' w new height width answer told same is was by paints =
    rw (same, is) (told_in_step (ucd tables) w new height width answer was by paints)

told_answer : (d : Data) (w : World) (new : Session) (height width : ℕ) (answer : Result (Unit {0}) Refused) → ToldBy d w.session height width answer new
    → AfterToldStep d w height width (answer_of answer) (record w { session = new; told = mark_after w.told (is_window w height width) answer })
told_answer d w new height width (Ok done) told = (told.0, ap (λ (s : Session). with_told_size w height width s) told.1)
told_answer d w new height width (Err refused.Edit) told = absurd told
told_answer d w new height width (Err refused.Paint) told = (told.0, ap (λ (s : Session). with_told_size w height width s) told.1)
told_answer d w new height width (Err refused.Size) told = (told.0, ap (λ (s : Session). record w { session = s }) told.1)

pub told_steps : (d : Data) (w : World) (new : Session) (height width : ℕ) (answer : Result (Unit {0}) Refused) (result : Result (Unit {0}) StepFault)
    (told : Bool) → result ≡ answer_of answer → told ≡ mark_after w.told (is_window w height width) answer
    → ToldBy d w.session height width answer new → AfterToldStep d w height width result (record w { session = new; told = told })
told_steps d w new height width answer result told same is by = rw (same, is) (told_answer d w new height width answer by)

-- ---- the window, the line and the terminal

pub window_call : (d : Data) (w : World) (height width : ℕ) (screen : Option Terminal) → IsInStep d w
    → screen ≡ option_map (λ t. after_resize t height width) w.screen
    → IsInStep d (record w { height = height; width = width; screen = screen; told = false })
window_call d w height width screen was is = rw is (resized d w height width was)

pub read_call : (d : Data) (w : World) (count : ℕ) (line : List ℕ) (screen : Option Terminal) (result : Result (Unit {0}) StepFault) → IsInStep d w
    → line ≡ drop count w.line → OnOk result (screen ≡ option_map (λ t. reads t (take count w.line)) w.screen) → OnErr result (screen ≡ None)
    → IsInStep d (record w { line = line; screen = screen })
read_call d w count line screen (Ok done) was off ok err = rw (off, ok) (received d w count was)
read_call d w count line screen (Err fault) was off ok err = rw (off, err) (failed d w (drop count w.line) was)

pub read_steps : (w : World) (count : ℕ) (line : List ℕ) (screen : Option Terminal) (result : Result (Unit {0}) StepFault)
    → line ≡ drop count w.line → OnOk result (screen ≡ option_map (λ t. reads t (take count w.line)) w.screen)
    → OnOk result (take count w.line ≢ [] → IsSome w.screen) → OnErr result (screen ≡ None) → OnErr result (take count w.line ≢ [])
    → OnErr result (result ≡ Err (faults.Screen grid.OutOfMemory)) → AfterReadStep w count result (record w { line = line; screen = screen })
read_steps w count line screen (Ok done) off ok live err some fault = (live, rw (off, ok) refl)
read_steps w count line screen (Err (faults.Screen grid.OutOfMemory)) off ok live err some fault = (some, rw (off, err) refl)
read_steps w count line screen (Err (faults.Screen grid.SizeOutOfRange)) off ok live err some fault = absurd (cc fault)
read_steps w count line screen (Err (faults.Session why)) off ok live err some fault = absurd (cc fault)
read_steps w count line screen (Err faults.Line) off ok live err some fault = absurd (cc fault)

drop_taken : (count : ℕ) (xs : List ℕ) → drop (length (take count xs)) xs ≡ drop count xs
drop_taken zero xs = refl
drop_taken (suc count) [] = refl
drop_taken (suc count) (x ∷ xs) = drop_taken count xs

-- the session after bytes of its queue went, by their number
pub is_sent : {D : Type 0} (tables : D) (s : Session) (new : SessionState D) (count : ℕ) (part pending : List ℕ) → pending ≡ s.pending
    → part ≡ take count pending → new ≡ record { tables = tables; session = after_sending s (length part) }
    → new ≡ record { tables = tables; session = after_sending s count }
is_sent {D} tables s new count part pending same first is =
    is ∙ ap (λ left. record { tables = tables; session = record s { pending = left } })
    (rw (first, same) (drop_taken count s.pending))

pub send_call : {D : Type 0} (ucd : D → Data) (tables : D) (w : World) (new : SessionState D) (count : ℕ) (line : List ℕ)
    → new ≡ record { tables = tables; session = after_sending w.session count } → line ≡ w.line ++ take count w.session.pending
    → IsInStep (ucd tables) w → IsInStep (ucd new.tables) (record w { session = new.session; line = line })
send_call {D} ucd tables w new count line is behind was = rw (is, behind) (sent (ucd tables) w count was)

pub send_steps : {D : Type 0} (tables : D) (w : World) (new : SessionState D) (count : ℕ) (line : List ℕ)
    → new ≡ record { tables = tables; session = after_sending w.session count } → line ≡ w.line ++ take count w.session.pending
    → record w { session = new.session; line = line } ≡ after_send w count
send_steps {D} tables w new count line is behind = rw (is, behind) refl
