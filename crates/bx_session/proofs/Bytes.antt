-- The session after a press and after a told size, from the contracts of the calls within.
use Rattle.std.proofs.Common.{◌≡◌, ℕ, Bool, true, false, List, [], drop, Option, Some, None, Result, Ok, Err, IsUtf8, refl, sym, ap, subst, ◌∙◌, if◌then◌else◌}
use Rattle.std.specs.Prelude.{not, ◌||◌, ◌&&◌, is_ok, is_some, IfErr, IsOk, OnOk, OnErr}
use Rattle.std.specs.Result.{result_err}
use Rattle.bx_common.specs.Characters.{is_side}
use Rattle.bx_common.specs.declared.base.Base.{Base}
use Rattle.bx_grid.specs.Picture.{PictureState, is_size}
use Rattle.bx_keys.specs.declared.key.Key.{Key}
use Rattle.bx_store.specs.Faults.{with_fault}
use Rattle.bx_store.specs.declared.store.StoreFault.{StoreFault}
use Rattle.bx_ucd.specs.Data.{Data}
use Rattle.bx_editor.specs.Editor.{Editor, at_start, with_top}
use Rattle.bx_editor.specs.Functions.{EditorState, HasRows}
use Rattle.bx_editor.specs.Keys.{asks_for_whole}
use Rattle.bx_editor.specs.declared.scrolling.Scroll.{Scroll}
use Rattle.bx_session.specs.declared.status.Refused.{Refused}
use Rattle.bx_session.specs.declared.status.Refused.TheVariants.{Edit, Paint, Size}
use Rattle.bx_session.specs.Session.{Session, with_painting, with_painting_owed, with_picture, at_opening, before_painting, counted_key}
use Rattle.bx_session.specs.Session.{session_after_any, unpainted_after_press, is_painted_press, needs_painting, painted_after, scroll_behind}
use Rattle.bx_session.specs.Session.{picture_of, after_press, session_after_key, unpainted_after_told, SaveEnds, StoreAfter, StoreState, may_refuse_key}
use Rattle.bx_session.specs.Session.{is_save_press, stores_by, text_to_save, with_settings, with_text}
use Rattle.bx_editor.specs.Settings.{SettingsState}
use Rattle.bx_editor.specs.Settings as editor_settings
use Rattle.bx_session.specs.Feeding.{SessionState, is_idle_press, AfterPress, ToldBy}
use Rattle.bx_session.specs.Painting.{AppendsPainting, PressAppends, QueuesPicture, PressPaints}
use Rattle.bx_session.specs.declared.status.Status.{Status}
use Rattle.bx_session.proofs.KeySizes.{same_ended}
use Rattle.bx_session.proofs.Tops.{opening_stays}

-- ---- opening

sized_rows : (text : List ℕ) (height width : ℕ) (base : Base) → IsUtf8 text → is_size height width ≡ true → HasRows (at_start text height width base)
sized_rows text height width base utf8 sized = record { text = utf8; columns = right (is_side height) (is_side width) sized } where
  right : (a b : Bool) → (a && b) ≡ true → b ≡ true
  right true b h = h
  right false b h = absurd (cc h)

-- the first painting leaves the first row first
at_opening_is : (d : Data) (text : List ℕ) (height width : ℕ) (base : Base) → HasRows (at_start text height width base)
    → with_painting d (before_painting text height width base) ≡ at_opening d text height width base
at_opening_is d text height width base has =
    let s = before_painting text height width base in
    ap (λ top. with_picture s (with_top s.editor top) (picture_of d (with_top s.editor top))) (opening_stays d text height width base has)

pub opening_is : {D : Type 0} (ucd : D → Data) (tables : D) (text : List ℕ) (height width : ℕ) (base : Base) (e : EditorState D) (queue : List ℕ)
    (new : SessionState D) → IsUtf8 text → is_size height width ≡ true
    → e ≡ record { tables = tables; editor = at_start text height width base } → queue ≡ []
    → new.tables ≡ e.tables
    → new.session ≡ with_painting (ucd e.tables) (record {
      editor = e.editor;
      painted = None;
      known = None;
      painting_owed = false;
      pending = drop 0 queue;
    })
    → new ≡ record { tables = tables; session = at_opening (ucd tables) text height width base }
opening_is {D} ucd tables text height width base e queue new utf8 sized is empty same painted =
    let state : new.session ≡ at_opening (ucd tables) text height width base =
    painted
    ∙ ap (λ (x : EditorState D). with_painting (ucd x.tables) (record {
      editor = x.editor;
      painted = None;
      known = None;
      painting_owed = false;
      pending = drop 0 queue;
    })) is
    ∙ ap (λ xs. with_painting (ucd tables) (record {
      editor = at_start text height width base;
      painted = None;
      known = None;
      painting_owed = false;
      pending = drop 0 xs;
    })) empty
    ∙ at_opening_is (ucd tables) text height width base (sized_rows text height width base utf8 sized) in
    ap (λ (x : D). record { tables = x; session = new.session }) (same ∙ ap (λ (x : EditorState D). x.tables) is)
    ∙ ap (λ (x : Session). record { tables = tables; session = x }) state

-- ---- how a save ended

pub save_ends : (result : Result (Unit {0}) StoreFault) (fault : Option StoreFault) (text : List ℕ) (old new : StoreState) → fault ≡ result_err result
    → OnOk result (new ≡ with_text text old) → OnErr result (new.contents ≡ old.contents) → IfErr result (λ e. new.faults ≡ with_fault e old.faults)
    → SaveEnds fault text old new
save_ends (Ok done) fault text old new is ok stored failure = subst (λ (f : Option StoreFault). SaveEnds f text old new) (sym is) ok
save_ends (Err e) fault text old new is ok stored failure = subst (λ (f : Option StoreFault). SaveEnds f text old new) (sym is) (stored, failure)

-- what was stored, by another name of the same text
pub stored_text : (saves : Bool) (fault : Option StoreFault) (text text' : List ℕ) (old new : StoreState) → (saves ≡ true → text ≡ text')
    → StoreAfter saves fault text old new → StoreAfter saves fault text' old new
stored_text true fault text text' old new same h = subst (λ (t : List ℕ). SaveEnds fault t old new) (same refl) h
stored_text false fault text text' old new same h = h

-- a key that stores the text is not refused
pub press_stored : {A E : Type 0} (result : Result A E) (stores stored : Bool) (fault : Option StoreFault) (text text' : List ℕ) (old new : StoreState)
    → stores ≡ stored → (stored ≡ true → text ≡ text') → (stores ≡ true → IsOk result) → StoreAfter stores fault text old new
    → StoreAfter (is_ok result && stored) fault text' old new
press_stored (Ok value) stores stored fault text text' old new is same ok h =
    stored_text stored fault text text' old new same (subst (λ s. StoreAfter s fault text old new) is h)
press_stored (Err e) true stored fault text text' old new is same ok h = absurd (cc (ok refl))
press_stored (Err e) false stored fault text text' old new is same ok h = h

-- ---- a press

stores_counted : (s : Session) (key counts : Option Key) (pressed : Key) → counts ≡ counted_key s key → counts ≡ Some pressed
    → stores_by s.editor (Some pressed) ≡ is_save_press s key
stores_counted s key counts pressed is some = ap (λ (k : Option Key). stores_by s.editor k) (sym some ∙ is)

pub stores_none : (s : Session) (key counts : Option Key) (pressed : Key) → counts ≡ counted_key s key → counts ≡ Some pressed
    → is_save_press s key ≡ false → stores_by s.editor (Some pressed) ≡ false
stores_none s key counts pressed is some none = stores_counted s key counts pressed is some ∙ none

pub entered_store : (d : Data) (fault : Option StoreFault) (s : Session) (before after : StoreState) (key counts : Option Key) (pressed : Key)
    → counts ≡ counted_key s key → counts ≡ Some pressed
    → StoreAfter (stores_by s.editor (Some pressed)) fault (text_to_save d s.editor) before after
    → StoreAfter (is_save_press s key) fault (text_to_save d s.editor) before after
entered_store d fault s before after key counts pressed is some h =
    subst (λ (stores : Bool). StoreAfter stores fault (text_to_save d s.editor) before after) (stores_counted s key counts pressed is some) h

pub entered_is : {D : Type 0} (ucd : D → Data) (fault : Option StoreFault) (old new : SessionState D) (key counts : Option Key) (pressed : Key)
    → counts ≡ counted_key old.session key → counts ≡ Some pressed
    → new ≡ record old { session = session_after_key (ucd old.tables) fault old.session pressed }
    → new ≡ record old { session = unpainted_after_press (ucd old.tables) fault old.session key }
entered_is {D} ucd fault old new key counts pressed is some entered =
    entered ∙ ap (λ (k : Option Key). record old { session = session_after_any (ucd old.tables) fault old.session k }) (sym some ∙ is)

with_clip_if : (paints : Bool) (plain painted new : Session) → paints ≡ true → new ≡ painted → new ≡ (if paints then painted else plain)
with_clip_if true plain painted new is h = h
with_clip_if false plain painted new is h = absurd (cc is)

plain_if : (paints : Bool) (plain painted new : Session) → paints ≡ false → new ≡ plain → new ≡ (if paints then painted else plain)
plain_if true plain painted new is h = absurd (cc is)
plain_if false plain painted new is h = h

-- a press after which the picture was painted
pub after_press_is : {D : Type 0} (ucd : D → Data) (fault : Option StoreFault) (old mid new : SessionState D) (scroll : Scroll) (key counts : Option Key)
    → is_painted_press old.session key ≡ true → scroll ≡ scroll_behind old.session.editor (counted_key old.session key)
    → counts ≡ counted_key old.session key
    → mid ≡ record old { session = unpainted_after_press (ucd old.tables) fault old.session key }
    → new.session ≡ painted_after (ucd mid.tables) scroll mid.session counts → new.session ≡ after_press (ucd old.tables) fault old.session key
after_press_is {D} ucd fault old mid new scroll key counts prompts asks is e painted =
    let d = ucd old.tables in
    let u = unpainted_after_press d fault old.session key in
    let way = scroll_behind old.session.editor (counted_key old.session key) in
    with_clip_if (is_painted_press old.session key) u (painted_after d way u (counted_key old.session key)) new.session prompts
    (painted
    ∙ ap (λ (x : SessionState D). painted_after (ucd x.tables) scroll x.session counts) e
    ∙ ap (painted_after d scroll u) is
    ∙ ap (λ (w : Scroll). painted_after d w u (counted_key old.session key)) asks)

-- one that needs no painting
pub quiet_is : {D : Type 0} (ucd : D → Data) (fault : Option StoreFault) (old new : SessionState D) (key : Option Key)
    → is_painted_press old.session key ≡ false
    → new ≡ record old { session = unpainted_after_press (ucd old.tables) fault old.session key }
    → new.session ≡ after_press (ucd old.tables) fault old.session key
quiet_is {D} ucd fault old new key unasked e =
    let d = ucd old.tables in
    let u = unpainted_after_press d fault old.session key in
    let way = scroll_behind old.session.editor (counted_key old.session key) in
    plain_if (is_painted_press old.session key) u (painted_after d way u (counted_key old.session key)) new.session unasked
    (ap (λ (x : SessionState D). x.session) e)

pub owing_is : {D : Type 0} (ucd : D → Data) (fault : Option StoreFault) (old mid new : SessionState D) (key : Option Key) (result : Result Status Refused)
    → is_painted_press old.session key ≡ true → mid ≡ record old { session = unpainted_after_press (ucd old.tables) fault old.session key }
    → new.session ≡ with_painting_owed mid.session → result ≡ Err Paint → AfterPress (ucd old.tables) fault old.session key result new.session
owing_is {D} ucd fault old mid new key result prompts e owed is =
    subst (λ r. AfterPress (ucd old.tables) fault old.session key r new.session) (sym is)
    (owed ∙ ap (λ (x : SessionState D). with_painting_owed x.session) e, prompts)

-- ---- a press of no key

idle_key : (s : Session) (key : Option Key) → is_idle_press s key ≡ true → (counted_key s key ≡ None) × (s.painting_owed ≡ false)
idle_key s key idle = by (counted_key s key) s.painting_owed idle where
  by : (counts : Option Key) (owed : Bool) → (not (is_some counts) && not owed) ≡ true → (counts ≡ None) × (owed ≡ false)
  by None false h = (refl, refl)
  by None true h = absurd (cc h)
  by (Some pressed) owed h = absurd (cc h)

pub idle_unpainted : (s : Session) (key : Option Key) → is_idle_press s key ≡ true → is_painted_press s key ≡ false
idle_unpainted s key idle =
    let none = idle_key s key idle in
    ap (λ owed. owed || needs_painting s.editor (counted_key s key)) none.1 ∙ ap (needs_painting s.editor) none.0

pub not_idle : (s : Session) (key : Option Key) → is_painted_press s key ≡ true → is_idle_press s key ≡ true → ⊥
not_idle s key painted idle = let both : false ≡ true = sym (idle_unpainted s key idle) ∙ painted in cc both

-- what holds where an answer is a refusal
pub refused_with : {A E P : Type 0} (result : Result A E) → P → OnErr result P
refused_with (Ok value) h = tt
refused_with (Err e) h = h

pub idle_not_refused : (s : Session) (key : Option Key) → is_idle_press s key ≡ true → may_refuse_key s.editor (counted_key s key) ≡ true → ⊥
idle_not_refused s key idle refuses = let same : false ≡ true = ap (may_refuse_key s.editor) (sym (idle_key s key idle).0) ∙ refuses in cc same

pub idle_alone : (d : Data) (fault : Option StoreFault) (s : Session) (key : Option Key) → is_idle_press s key ≡ true
    → unpainted_after_press d fault s key ≡ s
idle_alone d fault s key idle = ap (session_after_any d fault s) (idle_key s key idle).0

-- ---- the knowledge of the screen before the painting

pub same_pending_after : (d : Data) (fault : Option StoreFault) (s : Session) (key : Option Key) → (session_after_any d fault s key).pending ≡ s.pending
same_pending_after d fault s None = refl
same_pending_after d fault s (Some key) = refl

pub unpainted_pending : (d : Data) (fault : Option StoreFault) (s : Session) (key : Option Key) → (unpainted_after_press d fault s key).pending ≡ s.pending
unpainted_pending d fault s key = same_pending_after d fault s (counted_key s key)

-- it does not depend on a Save's success
same_screen_after : (d : Data) (fault : Option StoreFault) (s : Session) (key : Option Key)
    → (session_after_any d fault s key).known ≡ (session_after_any d None s key).known
same_screen_after d fault s None = refl
same_screen_after d fault s (Some key) = ap (λ ended. if asks_for_whole key || ended then None else s.known) (same_ended d fault s.editor key)

-- what is said of the queue and of the screen before the press's key was applied
press_says : {D : Type 0} (Says : Data → List ℕ → Option PictureState → Type 0) (ucd : D → Data) (fault : Option StoreFault) (old mid : SessionState D)
    (key : Option Key) → mid ≡ record old { session = unpainted_after_press (ucd old.tables) fault old.session key }
    → Says (ucd mid.tables) mid.session.pending mid.session.known
    → Says (ucd old.tables) old.session.pending (unpainted_after_press (ucd old.tables) None old.session key).known
press_says {D} Says ucd fault old mid key e h =
    let d = ucd old.tables in
    let s = old.session in
    let counts = counted_key s key in
    subst (λ (q : List ℕ). Says d q (session_after_any d None s counts).known) (unpainted_pending d fault s key)
    (subst (λ (p : Option PictureState). Says d (session_after_any d fault s counts).pending p) (same_screen_after d fault s counts)
    (subst (λ (x : SessionState D). Says (ucd x.tables) x.session.pending x.session.known) e h))

pub press_paints : {D : Type 0} (ucd : D → Data) (fault : Option StoreFault) (old mid : SessionState D) (new : Session) (key : Option Key)
    → mid ≡ record old { session = unpainted_after_press (ucd old.tables) fault old.session key }
    → QueuesPicture (ucd mid.tables) mid.session.pending mid.session.known new → PressPaints (ucd old.tables) old.session key new
press_paints ucd fault old mid new key e h = press_says (λ d before known. QueuesPicture d before known new) ucd fault old mid key e h

pub press_appends : {D : Type 0} (ucd : D → Data) (fault : Option StoreFault) (old mid : SessionState D) (new : Session) (key : Option Key)
    → mid ≡ record old { session = unpainted_after_press (ucd old.tables) fault old.session key }
    → AppendsPainting (ucd mid.tables) mid.session.pending mid.session.known new → PressAppends (ucd old.tables) old.session key new
press_appends ucd fault old mid new key e h = press_says (λ d before known. AppendsPainting d before known new) ucd fault old mid key e h

-- ---- settings

pub set_is : {D : Type 0} (ucd : D → Data) (old : SessionState D) (e e' : EditorState D) (s new : Session) (settings : SettingsState) (queue : List ℕ)
    → record { tables = e.tables; session = s } ≡ old → s.editor ≡ e.editor
    → e' ≡ record e { editor = editor_settings.with_settings e.editor settings } → queue ≡ []
    → new ≡ with_painting (ucd e'.tables) (record s { editor = e'.editor; painted = None; known = None; pending = drop 0 queue })
    → new ≡ with_settings (ucd old.tables) old.session settings
set_is {D} ucd old e e' s new settings queue view same set empty painted =
    painted
    ∙ ap (λ (x : EditorState D). with_painting (ucd x.tables) (record s { editor = x.editor; painted = None; known = None; pending = drop 0 queue })) set
    ∙ ap (λ xs. with_painting (ucd e.tables) (record s {
      editor = editor_settings.with_settings e.editor settings;
      painted = None;
      known = None;
      pending = drop 0 xs;
    })) empty
    ∙ ap (λ (x : Editor). with_painting (ucd e.tables) (record s {
      editor = editor_settings.with_settings x settings;
      painted = None;
      known = None;
      pending = [];
    })) (sym same)
    ∙ ap (λ (x : SessionState D). with_settings (ucd x.tables) x.session settings) view

-- ---- a told size

pub told_is : {D : Type 0} (ucd : D → Data) (old mid new : SessionState D) (height width : ℕ) (result : Result (Unit {0}) Refused)
    → is_size height width ≡ true → mid ≡ record old { session = unpainted_after_told old.session height width }
    → OnOk result (new.session ≡ with_painting (ucd mid.tables) mid.session) → OnErr result (new.session ≡ with_painting_owed mid.session)
    → OnErr result (result ≡ Err Paint) → ToldBy (ucd old.tables) old.session height width result new.session
told_is {D} ucd old mid new height width (Ok done) sized e ok err memory =
    (sized, ok ∙ ap (λ (x : SessionState D). with_painting (ucd x.tables) x.session) e)
told_is {D} ucd old mid new height width (Err Edit) sized e ok err memory = absurd (cc memory)
told_is {D} ucd old mid new height width (Err Paint) sized e ok err memory = (sized, err ∙ ap (λ (x : SessionState D). with_painting_owed x.session) e)
told_is {D} ucd old mid new height width (Err Size) sized e ok err memory = absurd (cc memory)
