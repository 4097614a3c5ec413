-- Pressing, writing and reading in turns.
use Rattle.std.proofs.Common.{◌≡◌, ◌≢◌, ℕ, ◌+◌, ◌<◌, ◌≤◌, Bool, true, false, List, [], ◌∷◌, ◌++◌, length, take, drop}
use Rattle.std.proofs.Common.{Option, Some, None, Result, Ok, Err, OnOk, refl, sym, ap, subst, ◌∙◌, append_assoc, if◌then◌else◌, arith}
use Rattle.std.specs.Io.KnownBytes.{Appends, Consumes, Keeps}
use Rattle.std.proofs.KnownBytes.{Consumes-nil, Consumes-trans, Appends-trans, Appends-kept}
use Rattle.std.proofs.lemmas.List.{append-nil, length-append, map-append, take-append-drop, take_all}
use Rattle.bx_keys.specs.declared.key.Key.{Key}
use Rattle.bx_grid.specs.Picture.{PictureState}
use Rattle.bx_store.specs.declared.store.StoreFault.{StoreFault}
use Rattle.bx_ucd.specs.Data.{Data}
use Rattle.bx_session.specs.declared.status.Status.{Status}
use Rattle.bx_session.specs.declared.status.Refused.{Refused}
use Rattle.bx_session.specs.declared.status.Refused.TheVariants.{Edit, Paint, Size}
use Rattle.bx_editor.specs.declared.scrolling.Scroll.{Scroll}
use Rattle.bx_editor.specs.Picture.{scrolled_by}
use Rattle.bx_session.specs.Session.{Session, clip_after, painted_after, painting, picture_of, scroll_behind, then_clip, with_painting_owed}
use Rattle.bx_session.specs.Session.{counted_key, session_after_any, unpainted_after_press, is_painted_press, StoreState}
use Rattle.bx_session.specs.Painting.{PressPaints, QueuesPicture}
use Rattle.bx_session.specs.Feeding.{AfterPress, Presses}
use Rattle.bx_session.specs.Inputs.{presses_from, rest_from}
use Rattle.bx_session.specs.Running.{PressAnswer, presses_in, AreTyped, PressesAll, TypedUntilEnd, Sent, HasRun}
use Rattle.bx_session.proofs.Pictures.{then_clip_after}
use Rattle.bx_session.specs.Running.{Turn, IsRead, TakesTurn, TakesTurns, read_in, read_size, typed_in, pressed_in, dropped_in, written_in}
use Rattle.bx_session.proofs.Typing.{presses_joined, rest_from_both}

-- ---- bytes pending before do not matter

-- the session with these bytes pending before the others
abbrev pub prefixed : List ℕ → Session → Session
prefixed p s = record s { pending = p ++ s.pending }

painted_after-prefixed : (d : Data) (scroll : Scroll) (p : List ℕ) (s : Session) (key : Option Key)
    → painted_after d scroll (prefixed p s) key ≡ prefixed p (painted_after d scroll s key)
painted_after-prefixed d scroll p s key =
    let e = scrolled_by d scroll s.editor in
    let new = picture_of d e in
    let clip = clip_after s.editor key in
    ap (λ (q : List ℕ). record s { editor = e; painted = Some new; known = Some new; painting_owed = false; pending = q })
    (ap (λ xs. then_clip xs clip) (append_assoc p s.pending (painting s.known new)) ∙ then_clip_after p (s.pending ++ painting s.known new) clip)

session_after_any-prefixed : (d : Data) (fault : Option StoreFault) (p : List ℕ) (s : Session) (key : Option Key)
    → session_after_any d fault (prefixed p s) key ≡ prefixed p (session_after_any d fault s key)
session_after_any-prefixed d fault p s None = refl
session_after_any-prefixed d fault p s (Some key) = refl

unpainted-prefixed : (d : Data) (fault : Option StoreFault) (p : List ℕ) (s : Session) (key : Option Key)
    → unpainted_after_press d fault (prefixed p s) key ≡ prefixed p (unpainted_after_press d fault s key)
unpainted-prefixed d fault p s key = session_after_any-prefixed d fault p s (counted_key s key)

either_prefixed : (paints : Bool) (d : Data) (fault : Option StoreFault) (scroll : Scroll) (p : List ℕ) (s : Session) (key counts : Option Key)
    → (if paints then painted_after d scroll (unpainted_after_press d fault (prefixed p s) key) counts else unpainted_after_press d fault (prefixed p s) key)
    ≡ prefixed p (if paints then painted_after d scroll (unpainted_after_press d fault s key) counts else unpainted_after_press d fault s key)
either_prefixed true d fault scroll p s key counts =
    ap (λ (x : Session). painted_after d scroll x counts) (unpainted-prefixed d fault p s key)
    ∙ painted_after-prefixed d scroll p (unpainted_after_press d fault s key) counts
either_prefixed false d fault scroll p s key counts = unpainted-prefixed d fault p s key

AfterPress-prefixed : (d : Data) (fault : Option StoreFault) (p : List ℕ) (s : Session) (key : Option Key) (a : Result Status Refused) (s' : Session)
    → AfterPress d fault s key a s' → AfterPress d fault (prefixed p s) key a (prefixed p s')
AfterPress-prefixed d fault p s key (Ok status) s' h = (
  ap (prefixed p) h.0 ∙ sym (either_prefixed (is_painted_press s key) d fault (scroll_behind s.editor (counted_key s key)) p s key (counted_key s key)),
  h.1,
)
AfterPress-prefixed d fault p s key (Err Edit) s' h = (ap (prefixed p) h.0, h.1)
AfterPress-prefixed d fault p s key (Err Paint) s' h = (ap (prefixed p) h.0 ∙ ap with_painting_owed (sym (unpainted-prefixed d fault p s key)), h.1)
AfterPress-prefixed d fault p s key (Err Size) s' h = h

Presses-prefixed : (d : Data) (p : List ℕ) (s : Session) (store : StoreState) (key : Option Key) (a : Result Status Refused) (s' : Session)
    (store' : StoreState) → Presses d s store key a s' store' → Presses d (prefixed p s) store key a (prefixed p s') store'
Presses-prefixed d p s store key a s' store' h = (h.0, h.1, AfterPress-prefixed d h.0 p s key a s' h.2)

PressPaints-prefixed : (d : Data) (p : List ℕ) (s : Session) (key : Option Key) (s' : Session) → PressPaints d s key s'
    → PressPaints d (prefixed p s) key (prefixed p s')
PressPaints-prefixed d p s key s' h =
    subst (λ (known : Option PictureState). QueuesPicture d (p ++ s.pending) known (prefixed p s'))
    (sym (ap (λ (x : Session). x.known) (unpainted-prefixed d None p s key))) (
      h.0,
      record {
        appends = ap (λ xs. p ++ xs) h.1.appends ∙ sym (append_assoc p s.pending h.0);
        tokens = h.1.tokens;
        updates = h.1.updates;
        painted = h.1.painted;
        known = h.1.known;
        is_picture = h.1.is_picture;
        cursor = h.1.cursor;
      },
    )

paints-prefixed : (d : Data) (p : List ℕ) (s : Session) (key : Option Key) (a : Result Status Refused) (s' : Session) → OnOk a (PressPaints d s key s')
    → OnOk a (PressPaints d (prefixed p s) key (prefixed p s'))
paints-prefixed d p s key (Ok status) s' h = PressPaints-prefixed d p s key s' h
paints-prefixed d p s key (Err refused) s' h = h

pub PressesAll-prefixed : (d : Data) (p : List ℕ) (s : Session) (store : StoreState) (answered : List PressAnswer) (s' : Session) (store' : StoreState)
    → PressesAll d s store answered s' store' → PressesAll d (prefixed p s) store answered (prefixed p s') store'
PressesAll-prefixed d p s store [] s' store' h = (ap (prefixed p) h.0, h.1)
PressesAll-prefixed d p s store (a ∷ answered) s' store' h = (
  prefixed p h.0,
  h.1,
  h.2,
  Presses-prefixed d p s store a.0 a.1 h.0 h.1 h.3,
  (λ prompts. paints-prefixed d p s a.0 a.1 h.0 (h.4 prompts)),
  PressesAll-prefixed d p h.0 h.1 answered s' store' h.5,
)

pub PressesAll-append : (d : Data) (s : Session) (store : StoreState) (first second : List PressAnswer) (m : Session) (m_store : StoreState)
    (s' : Session) (store' : StoreState) → PressesAll d s store first m m_store → PressesAll d m m_store second s' store'
    → PressesAll d s store (first ++ second) s' store'
PressesAll-append d s store [] second m m_store s' store' h k =
    subst (λ (x : Session). PressesAll d x store second s' store') h.0 (subst (λ (x : StoreState). PressesAll d m x second s' store') h.1 k)
PressesAll-append d s store (a ∷ first) second m m_store s' store' h k =
    (h.0, h.1, h.2, h.3, h.4, PressesAll-append d h.0 h.1 first second m m_store s' store' h.5 k)

-- ---- turns

pub record Pressed (d : Data) (old : Session) (store : StoreState) (presses : List (Option Key)) (i : ℕ) (now : Session) (now_store : StoreState)
    (answered : List PressAnswer) : Type 0 where
  pub so_far : presses_in answered ≡ take i presses
  pub feeds : PressesAll d old store answered now now_store

-- the tables stay the same
pub pressed_more : {D : Type 0} (ucd : D → Data) (tables tables1 : D) (old now new : Session) (store store1 store2 : StoreState)
    (presses : List (Option Key)) (i : ℕ) (key : Option Key) (a : Result Status Refused) (answered : List PressAnswer)
    → Pressed (ucd tables) old store presses i now store1 answered → tables1 ≡ tables
    → now.editor.ended ≡ false → Presses (ucd tables1) now store1 key a new store2
    → (is_painted_press now key ≡ true → OnOk a (PressPaints (ucd tables1) now key new)) → take (i + 1) presses ≡ take i presses ++ key ∷ []
    → Pressed (ucd tables) old store presses (i + 1) new store2 (answered ++ (key, a) ∷ [])
pressed_more {D} ucd tables tables1 old now new store store1 store2 presses i key a answered before same running feeds paints more =
    let feeds' : Presses (ucd tables) now store1 key a new store2 = subst (λ (t : D). Presses (ucd t) now store1 key a new store2) same feeds in
    let paints' : is_painted_press now key ≡ true → OnOk a (PressPaints (ucd tables) now key new) =
    subst (λ (t : D). is_painted_press now key ≡ true → OnOk a (PressPaints (ucd t) now key new)) same paints in
    record {
      so_far = map-append (λ (x : PressAnswer). x.0) answered ((key, a) ∷ []) ∙ ap (λ xs. xs ++ key ∷ []) before.so_far ∙ sym more;
      feeds = PressesAll-append (ucd tables) old store answered ((key, a) ∷ []) now store1 new store2 before.feeds
          (new, store2, running, feeds', paints', (refl, refl));
    }

-- some pending bytes were written and removed
pub took : (s s1 : Session) (w w1 : Option (List ℕ)) (count : ℕ) (buffer : List ℕ) → buffer ≡ s.pending → Appends w w1 (take count buffer)
    → s1 ≡ record s { pending = drop count s.pending } → Sent s s1 w w1 (take count buffer)
took s s1 w w1 count buffer is written e =
    let rest : s1.pending ≡ drop count s.pending = ap (λ (x : Session). x.pending) e in
    record {
      writes = written;
      order = sym (take-append-drop count s.pending) ∙ ap (λ xs. take count xs ++ drop count s.pending) (sym is)
          ∙ ap (λ xs. take count buffer ++ xs) (sym rest);
      session = e ∙ ap (λ (q : List ℕ). record s { pending = q }) (sym rest);
    }

pub sent_kept : (s s1 : Session) (w w1 w2 : Option (List ℕ)) (written : List ℕ) → Sent s s1 w w1 written → Keeps w1 w2 → Sent s s1 w w2 written
sent_kept s s1 w w1 w2 written a k = record { writes = Appends-kept w w1 w2 written a.writes k; order = a.order; session = a.session }

-- all pending bytes were written and removed
pub sent_all : (s s1 : Session) (w w1 w2 : Option (List ℕ)) (count : ℕ) (buffer : List ℕ) → buffer ≡ s.pending → count ≡ length s.pending
    → Appends w w1 buffer → s1 ≡ record s { pending = drop count s.pending } → Keeps w1 w2 → Sent s s1 w w2 (take count buffer)
sent_all s s1 w w1 w2 count buffer is all written e kept =
    let whole : take count buffer ≡ buffer = take_all count buffer (omega (arith, all, ap length is)) in
    sent_kept s s1 w w1 w2 (take count buffer) (took s s1 w w1 count buffer is (subst (Appends w w1) (sym whole) written) e) kept

-- all pending bytes went to a device
pub sent_whole : (s s1 : Session) (count : ℕ) (buffer : List ℕ) → buffer ≡ s.pending → count ≡ length s.pending
    → s1 ≡ record s { pending = drop count s.pending } → Sent s s1 None None buffer
sent_whole s s1 count buffer is all e =
    subst (Sent s s1 None None) (take_all count buffer (omega (arith, all, ap length is))) (sent_all s s1 None None None count buffer is all tt e tt)

-- one turn more
pub turns_more : (d : Data) (old mid new all : Session) (store mid_store store' : StoreState) (turns : List Turn) (turn : Turn)
    → TakesTurns d old store turns mid mid_store → IsRead mid turn all → TakesTurn d mid mid_store turn new store' all
    → TakesTurns d old store (turns ++ turn ∷ []) new store'
turns_more d old mid new all store mid_store store' [] turn before read takes = (
  new,
  store',
  all,
  subst (λ (x : Session). IsRead x turn all) before.0 read,
  subst (λ (x : Session). TakesTurn d x store turn new store' all) before.0
      (subst (λ (x : StoreState). TakesTurn d mid x turn new store' all) before.1 takes),
  (refl, refl),
)
turns_more d old mid new all store mid_store store' (first ∷ turns) turn before read takes =
    (before.0, before.1, before.2, before.3, before.4, turns_more d before.0 mid new all before.1 mid_store store' turns turn before.5 read takes)

pub typed_more_turns : (turns : List Turn) (turn : Turn) → typed_in (turns ++ turn ∷ []) ≡ typed_in turns ++ turn.typed
typed_more_turns [] turn = append-nil turn.typed
typed_more_turns (first ∷ turns) turn =
    ap (λ xs. first.typed ++ xs) (typed_more_turns turns turn) ∙ sym (append_assoc first.typed (typed_in turns) turn.typed)

pub pressed_more_turns : (turns : List Turn) (turn : Turn) → pressed_in (turns ++ turn ∷ []) ≡ pressed_in turns ++ turn.pressed
pressed_more_turns [] turn = append-nil turn.pressed
pressed_more_turns (first ∷ turns) turn =
    ap (λ xs. first.pressed ++ xs) (pressed_more_turns turns turn) ∙ sym (append_assoc first.pressed (pressed_in turns) turn.pressed)

-- each turn's presses are those of its bytes, and so are those of one more
pub are_typed_more : (rest : List ℕ) (turns : List Turn) (turn : Turn) → AreTyped rest turns
    → presses_in turn.pressed ≡ presses_from (rest_from rest (typed_in turns)) turn.typed → AreTyped rest (turns ++ turn ∷ [])
are_typed_more rest [] turn before is = (is, tt)
are_typed_more rest (first ∷ turns) turn before is = (
  before.0,
  are_typed_more (rest_from rest first.typed) turns turn before.1
      (is ∙ ap (λ xs. presses_from xs turn.typed) (rest_from_both rest first.typed (typed_in turns))),
)

pub dropped_more_turns : (turns : List Turn) (turn : Turn) → dropped_in (turns ++ turn ∷ []) ≡ dropped_in turns ++ turn.dropped
dropped_more_turns [] turn = append-nil turn.dropped
dropped_more_turns (first ∷ turns) turn =
    ap (λ xs. first.dropped ++ xs) (dropped_more_turns turns turn) ∙ sym (append_assoc first.dropped (dropped_in turns) turn.dropped)

pub wrote_more_turns : (turns : List Turn) (turn : Turn) → written_in (turns ++ turn ∷ []) ≡ written_in turns ++ turn.written
wrote_more_turns [] turn = append-nil turn.written
wrote_more_turns (first ∷ turns) turn =
    ap (λ xs. first.written ++ xs) (wrote_more_turns turns turn) ∙ sym (append_assoc first.written (written_in turns) turn.written)

unfoldable pub started : (d : Data) (rest : List ℕ) (s s1 : Session) (store store1 : StoreState) (r w w1 : Option (List ℕ)) (written : List ℕ) → store1 ≡ store
    → Sent s s1 w w1 written → HasRun d rest rest s s1 store store1 r r w w1 [] [] [] written s
started d rest s s1 store store1 r w w1 written same a = record {
  feeds = (refl, same);
  presses = refl;
  waits = refl;
  reads = Consumes-nil r;
  drops = λ some. absurd (some refl);
  few = omega arith;
  writes = a.writes;
  order = a.order;
  session = a.session;
  in_turns = record {
    first = written;
    begun = s1;
    first_order = a.order;
    begins = a.session;
    turns = [];
    takes = (refl, same);
    are_typed = tt;
    types = refl;
    presses = refl;
    drops = refl;
    wrote = append-nil written;
  };
}

-- a run after which nothing was stored
unfoldable pub stored_on : (d : Data) (rest rest' : List ℕ) (old s : Session) (store store1 store2 : StoreState) (r r1 w w1 : Option (List ℕ))
    (typed : List ℕ) (answered : List PressAnswer) (dropped written : List ℕ) (all : Session) → store2 ≡ store1
    → HasRun d rest rest' old s store store1 r r1 w w1 typed answered dropped written all
    → HasRun d rest rest' old s store store2 r r1 w w1 typed answered dropped written all
stored_on d rest rest' old s store store1 store2 r r1 w w1 typed answered dropped written all same run = record {
  feeds = subst (λ (x : StoreState). PressesAll d old store answered all x) (sym same) run.feeds;
  presses = run.presses;
  waits = run.waits;
  reads = run.reads;
  drops = run.drops;
  few = run.few;
  writes = run.writes;
  order = run.order;
  session = run.session;
  in_turns = record {
    first = run.in_turns.first;
    begun = run.in_turns.begun;
    first_order = run.in_turns.first_order;
    begins = run.in_turns.begins;
    turns = run.in_turns.turns;
    takes = subst (λ (x : StoreState). TakesTurns d run.in_turns.begun store run.in_turns.turns s x) (sym same) run.in_turns.takes;
    are_typed = run.in_turns.are_typed;
    types = run.in_turns.types;
    presses = run.in_turns.presses;
    drops = run.in_turns.drops;
    wrote = run.in_turns.wrote;
  };
}

pub none_dropped : (dropped : List ℕ) (ended : Bool) → (dropped ≢ [] → ended ≡ true) → ended ≡ false → dropped ≡ []
none_dropped [] ended h running = refl
none_dropped (x ∷ dropped) ended h running = absurd (let e : ended ≡ true = h (λ q. absurd (cc q)) in cc e)

-- the first byte of a read is typed, so fewer are dropped than a read gives
pub few_in : (typed : List ℕ) (s s2 : Session) (dropped : List ℕ) → (typed ≡ [] → s2.editor.ended ≡ s.editor.ended) → s.editor.ended ≡ false
    → (dropped ≢ [] → s2.editor.ended ≡ true) → length (typed ++ dropped) ≤ read_size → length dropped < read_size
few_in [] s s2 dropped same running drops most =
    let none : dropped ≡ [] = none_dropped dropped s2.editor.ended drops (same refl ∙ running) in omega (arith, ap (λ (xs : List ℕ). length xs) none)
few_in (b ∷ typed) s s2 dropped same running drops most = omega (arith, most, length-append typed dropped)

-- no bytes, no presses
pub none_pressed : (d : Data) (rest : List ℕ) (s s2 : Session) (store store2 : StoreState) (typed : List ℕ) (answered : List PressAnswer)
    → PressesAll d s store answered s2 store2 → presses_in answered ≡ presses_from rest typed → typed ≡ [] → s2.editor.ended ≡ s.editor.ended
none_pressed d rest s s2 store store2 [] [] feeds is none = ap (λ (x : Session). x.editor.ended) feeds.0
none_pressed d rest s s2 store store2 [] (a ∷ answered) feeds is none = absurd (cc is)
none_pressed d rest s s2 store store2 (b ∷ typed) answered feeds is none = absurd (cc none)

-- the bytes read so far, and one more read
pub read_on : (s : Session) (typed typed' dropped dropped' bytes : List ℕ) → (dropped ≢ [] → s.editor.ended ≡ true)
    → s.editor.ended ≡ false → bytes ≡ typed' ++ dropped' → (typed ++ dropped) ++ bytes ≡ (typed ++ typed') ++ dropped'
read_on s typed typed' dropped dropped' bytes drops running is =
    ap (λ xs. (typed ++ xs) ++ bytes) (none_dropped dropped s.editor.ended drops running)
    ∙ ap (λ xs. xs ++ bytes) (append-nil typed)
    ∙ ap (λ xs. typed ++ xs) is
    ∙ sym (append_assoc typed typed' dropped')

-- the bytes dropped before, in a session that has not ended
pub run_drops : (d : Data) (rest rest' : List ℕ) (old s : Session) (store store1 : StoreState) (r r1 w w1 : Option (List ℕ)) (typed : List ℕ)
    (answered : List PressAnswer) (dropped written : List ℕ) (all : Session)
    → HasRun d rest rest' old s store store1 r r1 w w1 typed answered dropped written all → dropped ≢ [] → s.editor.ended ≡ true
run_drops d rest rest' old s store store1 r r1 w w1 typed answered dropped written all run some =
    ap (λ (x : Session). x.editor.ended) run.session ∙ run.drops some

unfoldable pub turned : {D : Type 0} (ucd : D → Data) (tables tables1 : D) (rest rest1 rest2 : List ℕ) (old s s2 s3 : Session)
    (store store1 store2 : StoreState) (r r1 r2 w w1 w2 : Option (List ℕ)) (typed typed' : List ℕ) (answered answered' : List PressAnswer)
    (dropped dropped' written written' bytes : List ℕ) (all : Session)
    → HasRun (ucd tables) rest rest1 old s store store1 r r1 w w1 typed answered dropped written all → tables1 ≡ tables → s.pending ≡ []
    → s.editor.ended ≡ false → 1 ≤ length bytes → length bytes ≤ read_size → Consumes r1 r2 bytes
    → TypedUntilEnd (ucd tables1) rest1 s store1 bytes s2 store2 typed' answered' dropped' → rest2 ≡ rest_from rest1 typed' → Sent s2 s3 w1 w2 written'
    → HasRun (ucd tables) rest rest2 old s3 store store2 r r2 w w2 (typed ++ typed') (answered ++ answered') dropped' (written ++ written')
    (prefixed all.pending s2)
turned {D} ucd tables tables1 rest rest1 rest2 old s s2 s3 store store1 store2 r r1 r2 w w1 w2 typed typed' answered answered' dropped dropped' written written'
    bytes all run stay empty running some most reads feeds waits sends =
    let d = ucd tables in
    let fed : PressesAll d s store1 answered' s2 store2 = subst (λ (t : D). PressesAll (ucd t) s store1 answered' s2 store2) stay feeds.feeds in
    let same : prefixed all.pending s ≡ all =
    ap (prefixed all.pending) run.session ∙ ap (λ (q : List ℕ). record all { pending = all.pending ++ q }) empty
    ∙ ap (λ (q : List ℕ). record all { pending = q }) (append-nil all.pending) in
    let drops = run_drops d rest rest1 old s store store1 r r1 w w1 typed answered dropped written all run in
    let none : dropped ≡ [] = none_dropped dropped s.editor.ended drops running in
    let turn : Turn = record { typed = typed'; pressed = answered'; dropped = dropped'; written = written' } in
    let before = run.in_turns in
    let kept : all.pending ≡ written = run.order ∙ ap (λ xs. written ++ xs) empty ∙ append-nil written in
    let count : length bytes ≡ length (read_in turn) = ap (λ (xs : List ℕ). length xs) feeds.all in
    let here : presses_in answered' ≡ presses_from (rest_from rest typed) typed' = feeds.presses ∙ ap (λ xs. presses_from xs typed') run.waits in
    let read : IsRead s turn s2 = record {
      goes_on = running;
      sent = empty;
      some = omega (arith, some, count);
      most = omega (arith, most, count);
      drops = feeds.drops;
    } in record {
      feeds = PressesAll-append d old store answered answered' all store1 (prefixed all.pending s2) store2 run.feeds
          (subst (λ (x : Session). PressesAll d x store1 answered' (prefixed all.pending s2) store2) same
          (PressesAll-prefixed d all.pending s store1 answered' s2 store2 fed));
      presses = presses_joined rest typed typed' answered answered' run.presses here;
      waits = waits ∙ ap (λ xs. rest_from xs typed') run.waits ∙ sym (rest_from_both rest typed typed');
      reads = subst (Consumes r r2) (read_on s typed typed' dropped dropped' bytes drops running feeds.all)
          (Consumes-trans r r1 r2 (typed ++ dropped) bytes run.reads reads);
      drops = feeds.drops;
      few = few_in typed' s s2 dropped' (none_pressed d rest1 s s2 store1 store2 typed' answered' fed feeds.presses) running feeds.drops read.most;
      writes = Appends-trans w w1 w2 written written' run.writes sends.writes;
      order = ap (λ xs. xs ++ s2.pending) kept ∙ ap (λ xs. written ++ xs) sends.order ∙ sym (append_assoc written written' s3.pending);
      session = sends.session;
      in_turns = record {
        first = before.first;
        begun = before.begun;
        first_order = before.first_order;
        begins = before.begins;
        turns = before.turns ++ turn ∷ [];
        takes = turns_more d before.begun s s3 s2 store store1 store2 before.turns turn before.takes read
            (record { feeds = fed; order = sends.order; session = sends.session });
        are_typed = are_typed_more rest before.turns turn before.are_typed
            (here ∙ ap (λ xs. presses_from (rest_from rest xs) typed') (sym before.types));
        types = typed_more_turns before.turns turn ∙ ap (λ xs. xs ++ typed') before.types;
        presses = pressed_more_turns before.turns turn ∙ ap (λ xs. xs ++ answered') before.presses;
        drops = dropped_more_turns before.turns turn ∙ ap (λ xs. xs ++ dropped') (before.drops ∙ none);
        wrote = ap (λ xs. before.first ++ xs) (wrote_more_turns before.turns turn)
            ∙ sym (append_assoc before.first (written_in before.turns) written')
            ∙ ap (λ xs. xs ++ written') before.wrote;
      };
    }
