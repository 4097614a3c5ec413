-- A replay has the same row first as the session that was run, until a painting is refused.
use Rattle.std.proofs.Common.{◌≡◌, ℕ, Bool, true, false, not, List, [], ◌∷◌, ◌++◌, Option, Some, None, Result, Ok, Err, refl, sym, ap, ap₂, subst, ◌∙◌, inl, inr}
use Rattle.std.proofs.Common.{if◌then◌else◌}
use Rattle.std.specs.Prelude.{◌≢◌, ◌||◌, ◌&&◌, is_some, option_to_list, All}
use Rattle.std.proofs.lemmas.List.Elements.{All-head, All-tail}
use Rattle.bx_keys.specs.declared.key.Key.{Key}
use Rattle.bx_keys.specs.declared.key.Key.TheVariants.{Insert, PasteStart}
use Rattle.bx_store.specs.declared.store.StoreFault.{StoreFault}
use Rattle.bx_ucd.specs.Data.{Data}
use Rattle.bx_editor.specs.declared.questions.answers.Prompt.{Prompt}
use Rattle.bx_editor.specs.declared.questions.answers.Prompt.TheVariants as prompts
use Rattle.bx_editor.specs.declared.scrolling.Scroll.{Scroll}
use Rattle.bx_editor.specs.declared.scrolling.Scroll.TheVariants.{Least, Centre, By, Fills}
use Rattle.bx_editor.specs.declared.search_state.SearchState.{SearchState}
use Rattle.bx_editor.specs.declared.search_state.SearchState.TheVariants.{Off}
use Rattle.bx_editor.specs.Editor.{Editor, rows, text_height}
use Rattle.bx_editor.specs.Functions.{HasRows}
use Rattle.bx_editor.specs.Keys.{after_key, after_press, needs_no_painting}
use Rattle.bx_editor.specs.Picture.{next_top, scrolled}
use Rattle.bx_editor.specs.PasteLaws.{LooksAs}
use Rattle.bx_editor.specs.Scrolling.{moved_top, scroll_in, scroll_of}
use Rattle.bx_editor.proofs.TopOnce.{top-stays}
use Rattle.bx_editor.proofs.Unseen.{paste-is-unseen}
use Rattle.bx_view.specs.Top.{follow}
use Rattle.bx_session.specs.declared.status.Refused.{Refused}
use Rattle.bx_session.specs.declared.status.Refused.TheVariants as refused
use Rattle.bx_session.specs.declared.status.Status.{Status}
use Rattle.bx_session.specs.Laws.{after_replaying}
use Rattle.bx_session.specs.Running.{PressAnswer, PressesAll, presses_in}
use Rattle.bx_session.specs.Inputs.{keys_in}
use Rattle.bx_session.specs.Session.{StoreState, Session, needs_painting, painted_after, scroll_behind, session_after_any}
use Rattle.bx_session.specs.Session as sessions
use Rattle.bx_session.specs.Feeding.{Presses}
use Rattle.bx_session.specs.Replaying.{after_all_replayed, after_replayed_press, replayed_on}
use Rattle.bx_session.proofs.KeySizes.{key_top}
use Rattle.bx_session.proofs.Replayed.{applies}
use Rattle.bx_session_laws.specs.Recovery.{FindsNoChange, HasTop, HaveRows, PastesAlone, PointsAsSeen, RefusesNoKey, RefusesNoPainting, rests_on_top}
use Rattle.bx_session_laws.proofs.Lasting.{Lasting, lasting, having}
use Rattle.bx_session_laws.proofs.Recovered.{Follows, PointsAny, PointsPress, PointsOn, UnchangedAny, UnchangedPress, any_lasts, press_follows, key_is}
use Rattle.bx_session_laws.proofs.TopsKept.{replayed_top}

-- ---- scrolling

-- it leads two editors of which the same lasts to the same row, if both have ended or neither
pub next_same : (d : Data) (e f : Editor) (top : ℕ) → lasting e ≡ lasting f → e.ended ≡ f.ended → next_top d f top ≡ next_top d e top
next_same d e f top same ended =
    ap (λ (l : Lasting). next_top d (having l f) top) (sym same)
    ∙ ap (λ over. if over then top else follow (rows d e) top e.place (text_height e.height)) (sym ended)

-- the move of the top that a key asks for leads them to the same row too
moved_having : (d : Data) (e f : Editor) (top : ℕ) (scroll : Scroll) → moved_top d (having (lasting e) f) top scroll ≡ moved_top d e top scroll
moved_having d e f top Least = refl
moved_having d e f top Centre = refl
moved_having d e f top (By way n) = refl
moved_having d e f top Fills = refl

moved_same : (d : Data) (e f : Editor) (top : ℕ) (scroll : Scroll) → lasting e ≡ lasting f → moved_top d f top scroll ≡ moved_top d e top scroll
moved_same d e f top scroll same =
    ap (λ (l : Lasting). moved_top d (having l f) top scroll) (sym same) ∙ moved_having d e f top scroll

scroll_same : (e f : Editor) (key : Key) → lasting e ≡ lasting f → scroll_of f key ≡ scroll_of e key
scroll_same e f key same = ap (λ (l : Lasting). scroll_in (text_height l.height) l.prompt l.search_state key) (sym same)

both : (b c : Bool) → (b && c) ≡ true → c ≡ true
both true c h = h
both false c h = absurd (cc h)

-- a key that needs no painting asks for none
is_pasting : (pasted : Option (List ℕ)) (b : Bool) → (is_some pasted && b) ≡ true → pasted ≢ None
is_pasting None b h = absurd (cc h)
is_pasting (Some list) b h = λ none. cc none

asks_for : (prompt : Prompt) (search_state : SearchState) (t : ℕ) (key : Key) → (prompt ≡ prompts.Off) × (search_state ≡ Off) → scroll_in t prompts.Off Off key ≡ Least
    → scroll_in t prompt search_state key ≡ Least
asks_for prompt search_state t key off least =
    ap₂ (λ (p : Prompt) (s : SearchState). scroll_in t p s key) off.0 off.1 ∙ least

unseen_scroll : (e : Editor) (key : Key) → PastesAlone e → needs_no_painting e key ≡ true → scroll_of e key ≡ Least
unseen_scroll e (Insert c) alone h =
    asks_for e.prompt e.search_state (text_height e.height) (Insert c) (alone (is_pasting e.pasted true h)) refl
unseen_scroll e PasteStart alone h =
    asks_for e.prompt e.search_state (text_height e.height) PasteStart (alone (is_pasting e.pasted true h)) refl
unseen_scroll e key alone h = absurd (cc (both (is_some e.pasted) false h))

-- a key that needs no painting leaves it as it was, whatever a Save would tell
letter_fault : (d : Data) (fault : Option StoreFault) (e : Editor) (c : ℕ) (pasted : Option (List ℕ)) → (is_some pasted && true) ≡ true
    → after_press d None pasted e (Insert c) ≡ after_press d fault pasted e (Insert c)
letter_fault d fault e c None h = absurd (cc h)
letter_fault d fault e c (Some list) h = refl

any_fault : (d : Data) (fault : Option StoreFault) (e : Editor) (key : Key) → needs_no_painting e key ≡ true → after_key d None e key ≡ after_key d fault e key
any_fault d fault e (Insert c) h = letter_fault d fault e c e.pasted h
any_fault d fault e PasteStart h = refl
any_fault d fault e key h = absurd (cc (both (is_some e.pasted) false h))

pub unseen : (d : Data) (fault : Option StoreFault) (e : Editor) (key : Key) → needs_no_painting e key ≡ true → LooksAs d e (after_key d fault e key)
unseen d fault e key h = subst (LooksAs d e) (any_fault d fault e key h) (paste-is-unseen d e key h)

-- ---- a press

-- the row shown first, where the replay has this editor
abbrev TopIs : Data → Session → Editor → Type 0
TopIs d had e = (had.painting_owed ≡ false) × (had.editor.ended ≡ false → (scrolled d e).top ≡ had.editor.top)

not_owed : (owed needs : Bool) → owed ≡ false → (owed || needs) ≡ needs
not_owed true needs h = absurd (cc h)
not_owed false needs h = refl

pub not_not : (b : Bool) → not b ≡ false → b ≡ true
not_not true h = refl
not_not false h = absurd (cc h)

points_any : (top other : ℕ) (key : Option Key) → other ≡ top → PointsAny top other key
points_any top other None same = tt
points_any top other (Some key) same = inr same

pub if_on : (ended : Bool) (top other : ℕ) → ended ≡ false → (if ended then top else other) ≡ other
if_on true top other h = absurd (cc h)
if_on false top other h = refl

module _ (d : Data) (fault : Option StoreFault) (s r : Session) (follows : Follows s r) (runs : s.editor.ended ≡ false) (had : TopIs d s r.editor) where
  -- a key of the replay leaves the row that the session scrolls to behind it
  scrolled_to : (key : Key) → UnchangedAny fault s.editor (Some key) → (after_all_replayed d r.editor (key ∷ [])).ended ≡ false
      → let new = after_key d fault s.editor key in
      new.ended ≡ false → (scrolled d (after_all_replayed d r.editor (key ∷ []))).top ≡ next_top d new (moved_top d new s.editor.top (scroll_of s.editor key))
  scrolled_to key same over on =
      let new = after_key d fault s.editor key in
      let from = scrolled d r.editor in
      let next = replayed_on d from key in
      let points : from.top ≡ s.editor.top = had.1 runs in
      let top : next.top ≡ s.editor.top = replayed_top d from key ∙ points in
      let lasts : lasting new ≡ lasting next = any_lasts d fault s.editor r.editor (Some key) follows.alone follows.names follows.lasts (inr points) same in
      ap (λ t. next_top d next (moved_top d next t (scroll_of from key))) top
      ∙ ap (λ scroll. next_top d next (moved_top d next s.editor.top scroll)) (scroll_same s.editor from key follows.lasts)
      ∙ ap (next_top d next) (moved_same d new next s.editor.top (scroll_of s.editor key) lasts)
      ∙ next_same d new next (moved_top d new s.editor.top (scroll_of s.editor key)) lasts (on ∙ sym over)

  -- scrolling the session too would leave its top
  stays : HasRows s.editor → next_top d s.editor s.editor.top ≡ s.editor.top
  stays has =
      let there : next_top d s.editor r.editor.top ≡ s.editor.top =
      sym (next_same d s.editor r.editor r.editor.top follows.lasts (runs ∙ sym follows.goes_on)) ∙ had.1 runs in
      ap (next_top d s.editor) (sym there) ∙ top-stays d s.editor r.editor.top has ∙ there

  key_leaves : (key : Option Key) (paints : Bool) → (s.painting_owed || needs_painting s.editor key) ≡ paints → HasRows s.editor
      → UnchangedAny fault s.editor key → (after_all_replayed d r.editor (option_to_list key)).ended ≡ false
      → TopIs d (if paints then painted_after d (scroll_behind s.editor key) (session_after_any d fault s key) key else session_after_any d fault s key)
      (after_all_replayed d r.editor (option_to_list key))
  key_leaves None true is has same over =
      let none : false ≡ true = sym (not_owed s.painting_owed false had.0) ∙ is in absurd (cc none)
  key_leaves None false is has same over = had
  key_leaves (Some key) true is has same over =
      let new = after_key d fault s.editor key in
      let scroll = scroll_of s.editor key in (
        refl,
        λ on. scrolled_to key same over on
            ∙ ap (λ t. next_top d new (moved_top d new t scroll)) (sym (key_top d fault s.editor key))
            ∙ sym (if_on new.ended new.top (next_top d new (moved_top d new new.top scroll)) on),
      )
  key_leaves (Some key) false is has same over =
      let new = after_key d fault s.editor key in
      let needs : not (needs_no_painting s.editor key) ≡ false = sym (not_owed s.painting_owed (not (needs_no_painting s.editor key)) had.0) ∙ is in
      let none = not_not (needs_no_painting s.editor key) needs in
      let looks = unseen d fault s.editor key none in (
        had.0,
        λ on. scrolled_to key same over on
            ∙ ap (λ scroll. next_top d new (moved_top d new s.editor.top scroll)) (unseen_scroll s.editor key follows.alone none)
            ∙ looks.top s.editor.top ∙ stays has ∙ sym (key_top d fault s.editor key),
      )

press_at : (ended : Bool) (d : Data) (fault : Option StoreFault) (s r : Session) (key : Option Key) → ended ≡ false → Follows s r
    → s.editor.ended ≡ false → TopIs d s r.editor → HasRows s.editor → UnchangedAny fault s.editor key
    → (after_all_replayed d r.editor (option_to_list key)).ended ≡ false
    → let counts = if ended then None else key in
    let new = session_after_any d fault s counts in
    TopIs d (if s.painting_owed || needs_painting s.editor counts then painted_after d (scroll_behind s.editor counts) new counts else new)
    (after_all_replayed d r.editor (option_to_list key))
press_at true d fault s r key is follows runs had has same over = absurd (cc is)
press_at false d fault s r key is follows runs had has same over =
    key_leaves d fault s r follows runs had key (s.painting_owed || needs_painting s.editor key) refl has same over

-- the editor of a replay
with_editor : (d : Data) (had r : Session) (e : Editor) → r.editor ≡ e → TopIs d had e → HasTop d had r
with_editor d had r e is h =
    record { painted = h.0; top = λ on. ap (λ (x : Editor). (scrolled d x).top) is ∙ h.1 on }

press_top : (d : Data) (s r : Session) (store store' : StoreState) (key : Option Key) (a : Result Status Refused) (new : Session) → Follows s r
    → s.editor.ended ≡ false → a ≢ Err refused.Edit → a ≢ Err refused.Paint → HasTop d s r → HasRows s.editor
    → (feeds : Presses d s store key a new store') → UnchangedPress feeds.0 s key → HasTop d new (after_replayed_press d r key)
press_top d s r store store' key (Ok status) new before runs some paints had has feeds unchanged =
    let fault = feeds.0 in
    let each = applies d r key before.goes_on in
    let same : UnchangedAny fault s.editor key = subst (UnchangedAny fault s.editor) (key_is s key runs) unchanged in
    let over : (after_all_replayed d r.editor (option_to_list key)).ended ≡ false = ap (λ (e : Editor). e.ended) (sym each.editor) ∙ each.goes_on in
    subst (λ (x : Session). HasTop d x (after_replayed_press d r key)) (sym feeds.2.0)
    (with_editor d (sessions.after_press d fault s key) (after_replayed_press d r key) (after_all_replayed d r.editor (option_to_list key)) each.editor
    (press_at s.editor.ended d fault s r key runs before runs (had.painted, had.top) has same over))
press_top d s r store store' key (Err refused.Edit) new before runs some paints had has feeds unchanged = absurd (some refl)
press_top d s r store store' key (Err refused.Paint) new before runs some paints had has feeds unchanged = absurd (paints refl)
press_top d s r store store' key (Err refused.Size) new before runs some paints had has feeds unchanged = absurd feeds.2

-- ---- all presses

-- where no painting is refused
pub seen_on : (d : Data) (s r : Session) (store store' : StoreState) (answered : List PressAnswer) (new : Session) → Follows s r
    → (feeds : PressesAll d s store answered new store') → RefusesNoKey answered → FindsNoChange d s store answered new store' feeds
    → RefusesNoPainting answered → HasTop d s r → HaveRows d s store answered new store' feeds
    → PointsOn d s r store answered new store' feeds × HasTop d new (after_replaying d r (presses_in answered))
seen_on d s r store store' [] new before feeds none same paints had have = (tt, subst (λ (x : Session). HasTop d x r) (sym feeds.0) had)
seen_on d s r store store' (a ∷ answered) new before feeds none same paints had have =
    let runs = feeds.2 in
    let some = All-head (λ (x : PressAnswer). x.1 ≢ Err refused.Edit) a answered none in
    let queued = All-head (λ (x : PressAnswer). x.1 ≢ Err refused.Paint) a answered paints in
    let points : PointsPress d s r a.0 = points_any s.editor.top (scrolled d r.editor).top a.0 (had.top runs) in
    let on = seen_on d feeds.0 (after_replayed_press d r a.0) feeds.1 store' answered new
    (press_follows d s r store feeds.1 a.0 a.1 feeds.0 before runs some points feeds.3 same.0) feeds.5
    (All-tail (λ (x : PressAnswer). x.1 ≢ Err refused.Edit) a answered none) same.1
    (All-tail (λ (x : PressAnswer). x.1 ≢ Err refused.Paint) a answered paints)
    (press_top d s r store feeds.1 a.0 a.1 feeds.0 before runs some queued had have.0 feeds.3 same.0) have.1 in
    ((points, on.0), on.1)

-- where no key rests on the row shown first
abbrev NotPoint : Key → Type 0
NotPoint key = rests_on_top key ≡ false

split_points : (top other : ℕ) (key : Option Key) (rest : List Key) → All NotPoint (option_to_list key ++ rest) → PointsAny top other key × All NotPoint rest
split_points top other None rest h = (tt, h)
split_points top other (Some key) rest h = (inl (All-head NotPoint key rest h), All-tail NotPoint key rest h)

none_points : (d : Data) (s r : Session) (store store' : StoreState) (answered : List PressAnswer) (new : Session)
    → (feeds : PressesAll d s store answered new store') → RefusesNoKey answered → All NotPoint (keys_in (presses_in answered))
    → PointsOn d s r store answered new store' feeds
none_points d s r store store' [] new feeds none keys = tt
none_points d s r store store' (a ∷ answered) new feeds none keys =
    let both = split_points s.editor.top (scrolled d r.editor).top a.0 (keys_in (presses_in answered)) keys in (
      both.0,
      none_points d feeds.0 (after_replayed_press d r a.0) feeds.1 store' answered new feeds.5
          (All-tail (λ (x : PressAnswer). x.1 ≢ Err refused.Edit) a answered none)
          both.1,
    )

-- in both cases; `first`: what a start has whose text and window are sound
pub points_on : (d : Data) (s r : Session) (store store' : StoreState) (answered : List PressAnswer) (new : Session) → Follows s r
    → (HasRows s.editor → HasTop d s r) → (feeds : PressesAll d s store answered new store') → RefusesNoKey answered
    → FindsNoChange d s store answered new store' feeds → PointsAsSeen d s store answered new store' feeds
    → PointsOn d s r store answered new store' feeds
points_on d s r store store' [] new before first feeds none same seen = tt
points_on d s r store store' (a ∷ answered) new before first feeds none same (inl keys) = none_points d s r store store' (a ∷ answered) new feeds none keys
points_on d s r store store' (a ∷ answered) new before first feeds none same (inr (paints, have)) =
    (seen_on d s r store store' (a ∷ answered) new before feeds none same paints (first have.0) have).0
