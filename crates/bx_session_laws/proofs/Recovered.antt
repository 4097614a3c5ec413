-- Replayed presses restore the session.
use Rattle.std.proofs.Common.{◌≡◌, ℕ, Bool, true, false, not, List, [], ◌∷◌, Option, Some, None, Result, Err, refl, sym, ap, ap₂, subst, ◌∙◌, if◌then◌else◌}
use Rattle.std.proofs.Common.{arith}
use Rattle.std.specs.Prelude.{◌≢◌, ◌⊎◌, ◌||◌, ◌&&◌, option_to_list}
use Rattle.std.proofs.lemmas.List.Elements.{All-tail}
use Rattle.bx_keys.specs.declared.key.Key.{Key}
use Rattle.bx_keys.specs.declared.key.Key.TheVariants.{Insert, Quit, Repaint}
use Rattle.bx_store.specs.declared.store.StoreFault.{StoreFault}
use Rattle.bx_ucd.specs.Data.{Data}
use Rattle.bx_editor.specs.declared.questions.answers.Prompt.{Prompt}
use Rattle.bx_editor.specs.declared.questions.answers.Prompt.TheVariants as prompts
use Rattle.bx_editor.specs.declared.undo_groups.typing.Typing.TheVariants as typings
use Rattle.bx_editor.specs.declared.message.Message.TheVariants.{Unsaved, ViewOnly}
use Rattle.bx_editor.specs.declared.search_state.SearchState.{SearchState}
use Rattle.bx_editor.specs.declared.search_state.SearchState.TheVariants.{Off, Begun, Typed, WithBegun, WithTyped, Replacing}
use Rattle.bx_editor.specs.Before.{before}
use Rattle.bx_editor.specs.Editor.{Editor, cleared, unpressed, with_typing}
use Rattle.bx_editor.specs.Keys.{after_any, after_in_paste, after_key, after_press, after_user, as_left}
use Rattle.bx_editor.specs.Putting.{after_paste_end, after_paste_start, paste_begun, paste_ended, refuses_paste}
use Rattle.bx_editor.specs.Prompts.{HasOnePrompt}
use Rattle.bx_editor.specs.Region.{aged}
use Rattle.bx_editor.proofs.InSearch.{each-key}
use Rattle.bx_editor.proofs.OnePrompt.{keeps-one-prompt}
use Rattle.bx_session.specs.declared.status.Refused.{Refused}
use Rattle.bx_session.specs.declared.status.Refused.TheVariants as refused
use Rattle.bx_session.specs.declared.status.Status.{Status}
use Rattle.bx_session.specs.Laws.{after_replaying}
use Rattle.bx_session.specs.Parts.{is_quit}
use Rattle.bx_session.specs.Running.{PressAnswer, PressesAll, presses_in}
use Rattle.bx_editor.specs.Picture.{scrolled}
use Rattle.bx_session.specs.Session.{StoreState, Session, counted_key, is_save_press, stores_by}
use Rattle.bx_session.specs.Feeding.{Presses}
use Rattle.bx_session.specs.Replaying.{after_all_replayed, after_replayed, after_replayed_press, replayed_on, scrolled_on}
use Rattle.bx_session.proofs.Ending.{over, quit_user}
use Rattle.bx_session.proofs.KeyKinds.{is_other, not_quitting, not_storing, stores}
use Rattle.bx_session.proofs.KeySizes.{user_pasted}
use Rattle.bx_session.proofs.Leaving.{press_leaves, editor_after}
use Rattle.bx_session.proofs.Replayed.{applies, each-replayed, quit_replayed}
use Rattle.bx_session_laws.specs.Recovery.{FindsNoChange, NamesAgree, PastesAlone, RefusesNoKey, finds_change, rests_on_top}
use Rattle.bx_session_laws.proofs.Alike.{Work, work}
use Rattle.bx_session_laws.proofs.KeysAlike.{ended_alike, key_alike}
use Rattle.bx_session_laws.proofs.Lasting.{Lasting, Serves, having, lasting, own}
use Rattle.bx_session_laws.proofs.Names.{agree_on, deeds_stay, stored_names}
use Rattle.bx_session_laws.proofs.SavedAlike.{stored_kind, stored_lasts, stores_alike}
use Rattle.bx_session_laws.proofs.WorkKept.{quit_names}

-- ---- a key leaves the same of a session and of its replay

-- a key that rests on no row of the picture, or with the same row first
abbrev pub Points : ℕ → ℕ → Key → Type 0
Points top other key = (rests_on_top key ≡ false) ⊎ (other ≡ top)

quit_by : (ends : Bool) (e : Editor)
    → lasting (as_left Quit (if ends then record e { quit_before = true; ended = true } else record e { quit_before = true; message = Some Unsaved }))
    ≡ lasting (as_left Quit e)
quit_by true e = refl
quit_by false e = refl

-- a Quit of a session and of its replay, by what is asked and sought once a paste has ended
quit_lasts : (d : Data) (fault : Option StoreFault) (prompt : Prompt) (search_state : SearchState) (e f : Editor) → lasting e ≡ lasting f
    → lasting (as_left Quit (after_any d fault (before e) prompt search_state (cleared e) Quit))
    ≡ lasting (as_left Quit (after_any d None (before f) prompt search_state (cleared f) Quit))
quit_lasts d fault prompts.Off Off e f same =
    quit_by (not e.changed || e.quit_before) (cleared e)
    ∙ ap (λ (l : Lasting). record l { typing = typings.Off; soft = aged l.soft; goal = None; clicks = None; pressed = None }) same
    ∙ sym (quit_by (not f.changed || f.quit_before) (cleared f))
quit_lasts d fault prompts.Off search_state e f same =
    ap (λ (x : Editor). lasting (as_left Quit (after_any d None (before x) prompts.Off search_state (cleared x) Quit))) (own e f same)
quit_lasts d fault prompt search_state e f same =
    ap (λ (x : Editor). lasting (as_left Quit (after_any d None (before x) prompt search_state (cleared x) Quit))) (own e f same)

-- what a Quit of a replay leaves
given_up : (d : Data) (prompt : Prompt) (search_state : SearchState) (e : Editor) → ((prompt ≡ prompts.Off) × (search_state ≡ Off) → ⊥)
    → (paste_ended d e).prompt ≡ prompt → (paste_ended d e).search_state ≡ search_state → let x : Editor = paste_ended d e in
    lasting (after_replayed d prompt search_state e Quit) ≡ lasting (as_left Quit (after_any d None (before x) prompt search_state (cleared x) Quit))
given_up d prompt search_state e on asked is =
    let x : Editor = paste_ended d e in
    ap lasting (quit_replayed d prompt search_state e on ∙ quit_user d None e)
    ∙ ap₂ (λ (a : Prompt) (s : SearchState). lasting (as_left Quit (after_any d None (before x) a s (cleared x) Quit))) asked is

replayed_quit : (d : Data) (prompt : Prompt) (search_state : SearchState) (e : Editor) → (paste_ended d e).prompt ≡ prompt → (paste_ended d e).search_state ≡ search_state
    → let x : Editor = paste_ended d e in
    lasting (after_replayed d prompt search_state e Quit) ≡ lasting (as_left Quit (after_any d None (before x) prompt search_state (cleared x) Quit))
replayed_quit d prompts.Off Off e asked is =
    let x : Editor = paste_ended d e in sym (quit_by (not x.changed || x.quit_before) (cleared x))
replayed_quit d prompts.Off Begun e asked is = given_up d prompts.Off Begun e (λ off. cc off.1) asked is
replayed_quit d prompts.Off Typed e asked is = given_up d prompts.Off Typed e (λ off. cc off.1) asked is
replayed_quit d prompts.Off WithBegun e asked is = given_up d prompts.Off WithBegun e (λ off. cc off.1) asked is
replayed_quit d prompts.Off WithTyped e asked is = given_up d prompts.Off WithTyped e (λ off. cc off.1) asked is
replayed_quit d prompts.Off Replacing e asked is = given_up d prompts.Off Replacing e (λ off. cc off.1) asked is
replayed_quit d prompts.Line search_state e asked is = given_up d prompts.Line search_state e (λ off. cc off.0) asked is
replayed_quit d prompts.Name search_state e asked is = given_up d prompts.Name search_state e (λ off. cc off.0) asked is
replayed_quit d prompts.Code search_state e asked is = given_up d prompts.Code search_state e (λ off. cc off.0) asked is
replayed_quit d prompts.File search_state e asked is = given_up d prompts.File search_state e (λ off. cc off.0) asked is
replayed_quit d prompts.Overwrite search_state e asked is = given_up d prompts.Overwrite search_state e (λ off. cc off.0) asked is

quit_alike : (d : Data) (fault : Option StoreFault) (e f : Editor) → let g = having (lasting e) f in
    let over_g = paste_ended d g in lasting (after_key d fault e Quit) ≡ lasting (after_replayed d over_g.prompt over_g.search_state g Quit)
quit_alike d fault e f =
    let g = having (lasting e) f in
    let x : Editor = paste_ended d e in
    let y : Editor = paste_ended d g in
    let same = (ended_alike d e f).lasts in
    ap lasting (quit_user d fault e)
    ∙ quit_lasts d fault x.prompt x.search_state x y same
    ∙ ap (λ (l : Lasting). lasting (as_left Quit (after_any d None (before y) l.prompt l.search_state (cleared y) Quit))) same
    ∙ sym (replayed_quit d y.prompt y.search_state g refl refl)

-- a save finds no change of the file
abbrev pub Unchanged : Option StoreFault → Editor → Key → Type 0
Unchanged fault e key = stores e key ≡ true → finds_change fault ≡ false

-- a key that a replay applies as it is serves both
pub serves : (e f : Editor) (key : Key) → let g = having (lasting e) f in is_other g key ≡ true → Points e.top f.top key → NamesAgree e f → Serves e f key
serves e f key other points names =
    let same : stores (having (lasting e) f) key ≡ stores e key = stores_alike e f key names.nameless in
    let own : is_other e key ≡ true = ap (λ b. not b && not (is_quit (Some key))) (sym same) ∙ other in record {
      goes_on = not_quitting e key own;
      stores_nothing = not_storing e key own;
      rests = points;
      names = names.nameless;
    }

key_lasts : (d : Data) (fault : Option StoreFault) (e f : Editor) (key : Key) → PastesAlone e → NamesAgree e f → Points e.top f.top key → Unchanged fault e key
    → lasting (after_key d fault e key) ≡ lasting (replayed_on d (having (lasting e) f) key)
key_lasts d fault e f key alone names =
    let g = having (lasting e) f in
    let y : Editor = paste_ended d g in
    each-replayed d y.prompt y.search_state g (λ k new. Points e.top f.top k → Unchanged fault e k → lasting (after_key d fault e k) ≡ lasting new)
    (λ points same. quit_alike d fault e f)
    (λ k quits saves points same. (let own : stores e k ≡ true = sym (stores_alike e f k names.nameless) ∙ saves in
    stored_lasts d fault e f k (same own) (stored_kind d fault e k own)))
    (λ k other points same. (key_alike d fault e f k alone (serves e f k other points names)).lasts) key

-- and where saves go
key_names : (d : Data) (fault : Option StoreFault) (e f : Editor) (key : Key) → PastesAlone e → NamesAgree e f → Points e.top f.top key
    → NamesAgree (after_key d fault e key) (replayed_on d (having (lasting e) f) key)
key_names d fault e f key alone names =
    let g = having (lasting e) f in
    let y : Editor = paste_ended d g in
    each-replayed d y.prompt y.search_state g (λ k new. Points e.top f.top k → NamesAgree (after_key d fault e k) new)
    (λ points. quit_names d fault e f names)
    (λ k quits saves points. (let own : stores e k ≡ true = sym (stores_alike e f k names.nameless) ∙ saves in
    stored_names d fault e f k names (stored_kind d fault e k own)))
    (λ k other points. (let alike = key_alike d fault e f k alone (serves e f k other points names) in
    let first = deeds_stay alike.deeds (work e) in
    let second = deeds_stay alike.deeds (work g) in
    agree_on e f (after_key d fault e k) (after_key d None g k) (ap (λ (w : Work). w.name) alike.first ∙ first.0) (ap (λ (w : Work). w.home) alike.first ∙ first.1)
    (ap (λ (w : Work). w.name) alike.other ∙ second.0) (ap (λ (w : Work). w.home) alike.other ∙ second.1) names)) key

-- ---- a paste that goes into the text stays alone

begun_alone : (e : Editor) (prompt : Prompt) (search_state : SearchState) (pasted : Option (List ℕ)) → e.prompt ≡ prompt → e.search_state ≡ search_state
    → e.pasted ≡ pasted → PastesAlone e → PastesAlone (paste_begun prompt search_state pasted e)
begun_alone e prompts.Off Off None asked sought is alone = λ some. (asked, sought)
begun_alone e prompts.Off Off (Some list) asked sought is alone = alone
begun_alone e prompts.Off Begun pasted asked sought is alone = alone
begun_alone e prompts.Off Typed pasted asked sought is alone = alone
begun_alone e prompts.Off WithBegun pasted asked sought is alone = alone
begun_alone e prompts.Off WithTyped pasted asked sought is alone = alone
begun_alone e prompts.Off Replacing pasted asked sought is alone = alone
begun_alone e prompts.Line search_state pasted asked sought is alone = alone
begun_alone e prompts.Name search_state pasted asked sought is alone = alone
begun_alone e prompts.Code search_state pasted asked sought is alone = alone
begun_alone e prompts.File search_state pasted asked sought is alone = alone
begun_alone e prompts.Overwrite search_state pasted asked sought is alone = alone

either_alone : (b : Bool) (p q : Editor) → PastesAlone p → PastesAlone q → PastesAlone (if b then p else q)
either_alone true p q h k = h
either_alone false p q h k = k

start_alone : (e : Editor) → PastesAlone e → PastesAlone (after_paste_start e)
start_alone e alone =
    either_alone (refuses_paste e) (unpressed (record e { message = Some ViewOnly }))
    (unpressed (with_typing (paste_begun e.prompt e.search_state e.pasted e) typings.Paste)) alone
    (begun_alone e e.prompt e.search_state e.pasted refl refl refl alone)

unpasted : (e : Editor) → e.pasted ≡ None → PastesAlone e
unpasted e none = λ some. absurd (some none)

-- Repaint leaves it
repaint_alone : (d : Data) (fault : Option StoreFault) (e : Editor) → e.prompt ≡ prompts.Off → e.search_state ≡ Off
    → PastesAlone (after_user d fault e Repaint)
repaint_alone d fault e asked sought =
    subst (λ prompt. PastesAlone (as_left Repaint (after_any d fault (before e) prompt e.search_state (cleared e) Repaint))) (sym asked)
    (subst (λ state. PastesAlone (as_left Repaint (after_any d fault (before e) prompts.Off state (cleared e) Repaint))) (sym sought) (λ some. (asked, sought)))

in_paste_alone : (d : Data) (fault : Option StoreFault) (e : Editor) (key : Key) → e.prompt ≡ prompts.Off → e.search_state ≡ Off
    → PastesAlone (after_in_paste d fault e key)
in_paste_alone d fault e (Insert c) asked sought = λ some. (asked, sought)
in_paste_alone d fault e Repaint asked sought = repaint_alone d fault e asked sought
in_paste_alone d fault e key asked sought =
    let x : Editor = paste_ended d e in unpasted (after_user d fault x key) (user_pasted d fault x key ∙ over d e)

press_alone : (d : Data) (fault : Option StoreFault) (e : Editor) (key : Key) (pasted : Option (List ℕ)) → e.pasted ≡ pasted → PastesAlone e
    → PastesAlone (after_press d fault pasted e key)
press_alone d fault e key None is alone = unpasted (after_user d fault e key) (user_pasted d fault e key ∙ is)
press_alone d fault e key (Some list) is alone =
    let here = alone (λ none. let both : Some list ≡ None = sym is ∙ none in cc both) in in_paste_alone d fault e key here.0 here.1

pub keeps_alone : (d : Data) (fault : Option StoreFault) (e : Editor) (key : Key) → PastesAlone e → PastesAlone (after_key d fault e key)
keeps_alone d fault e key alone =
    each-key d fault e (λ k new. PastesAlone new) (λ height width. alone) (λ notice. alone) alone (start_alone e alone, unpasted (after_paste_end d e) (over d e))
    (λ k small. press_alone d fault e k e.pasted refl alone) key

-- the same of a key, if there is one
abbrev pub PointsAny : ℕ → ℕ → Option Key → Type 0
PointsAny top other None = Unit {0}
PointsAny top other (Some key) = Points top other key

-- a key stores the text, if there is one, and its save found no change of the file
abbrev pub UnchangedAny : Option StoreFault → Editor → Option Key → Type 0
UnchangedAny fault e key = stores_by e key ≡ true → finds_change fault ≡ false

scrolled_names : (d : Data) (e f : Editor) → NamesAgree e f → NamesAgree e (scrolled d f)
scrolled_names d e f names = agree_on e f e (scrolled d f) refl refl refl refl names

pub any_lasts : (d : Data) (fault : Option StoreFault) (e f : Editor) (key : Option Key) → PastesAlone e → NamesAgree e f → lasting e ≡ lasting f
    → PointsAny e.top (scrolled d f).top key → UnchangedAny fault e key
    → lasting (editor_after d fault e key) ≡ lasting (after_all_replayed d f (option_to_list key))
any_lasts d fault e f None alone names h points same = h
any_lasts d fault e f (Some key) alone names h points same =
    let g = scrolled d f in
    key_lasts d fault e g key alone (scrolled_names d e f names) points same ∙ ap (λ (l : Lasting). lasting (replayed_on d (having l g) key)) h

any_names : (d : Data) (fault : Option StoreFault) (e f : Editor) (key : Option Key) → PastesAlone e → NamesAgree e f → lasting e ≡ lasting f
    → PointsAny e.top (scrolled d f).top key → NamesAgree (editor_after d fault e key) (after_all_replayed d f (option_to_list key))
any_names d fault e f None alone names h points = names
any_names d fault e f (Some key) alone names h points =
    let g = scrolled d f in
    let new = after_key d fault e key in
    let next : NamesAgree new (replayed_on d g key) =
    subst (λ (x : Editor). NamesAgree new (replayed_on d x key)) (own e g h) (key_names d fault e g key alone (scrolled_names d e f names) points) in
    agree_on new (replayed_on d g key) new (scrolled_on d g key) refl refl refl refl next

any_keeps_one : (d : Data) (fault : Option StoreFault) (e : Editor) (key : Option Key) → HasOnePrompt e → HasOnePrompt (editor_after d fault e key)
any_keeps_one d fault e None one = one
any_keeps_one d fault e (Some key) one = keeps-one-prompt d fault e key one

any_keeps_alone : (d : Data) (fault : Option StoreFault) (e : Editor) (key : Option Key) → PastesAlone e → PastesAlone (editor_after d fault e key)
any_keeps_alone d fault e None alone = alone
any_keeps_alone d fault e (Some key) alone = keeps_alone d fault e key alone

-- ---- the replay follows the session

pub record Follows (s r : Session) : Type 0 where
  pub lasts : lasting s.editor ≡ lasting r.editor
  pub goes_on : r.editor.ended ≡ false
  pub one : HasOnePrompt s.editor
  pub alone : PastesAlone s.editor
  pub names : NamesAgree s.editor r.editor

-- the press's key points as the replay's does
abbrev pub PointsPress : Data → Session → Session → Option Key → Type 0
PointsPress d s r key = PointsAny s.editor.top (scrolled d r.editor).top key

-- a save that the press makes finds no change of the file
abbrev pub UnchangedPress : Option StoreFault → Session → Option Key → Type 0
UnchangedPress fault s key = is_save_press s key ≡ true → finds_change fault ≡ false

key_here : (ended : Bool) (key : Option Key) → ended ≡ false → (if ended then None else key) ≡ key
key_here true key h = absurd (cc h)
key_here false key h = refl

pub key_is : (s : Session) (key : Option Key) → s.editor.ended ≡ false → counted_key s key ≡ key
key_is s key runs = key_here s.editor.ended key runs

pub press_follows : (d : Data) (s r : Session) (store store' : StoreState) (key : Option Key) (a : Result Status Refused) (new : Session) → Follows s r
    → s.editor.ended ≡ false → a ≢ Err refused.Edit → PointsPress d s r key → (feeds : Presses d s store key a new store')
    → UnchangedPress feeds.0 s key → Follows new (after_replayed_press d r key)
press_follows d s r store store' key a new before runs some points feeds unchanged =
    let leaves = press_leaves d feeds.0 s key a new runs some feeds.2 in
    let each = applies d r key before.goes_on in
    let same : UnchangedAny feeds.0 s.editor key = subst (UnchangedAny feeds.0 s.editor) (key_is s key runs) unchanged in
    let is : (after_replayed_press d r key).editor ≡ after_all_replayed d r.editor (option_to_list key) = each.editor in
    let names = any_names d feeds.0 s.editor r.editor key before.alone before.names before.lasts points in
    let one = any_keeps_one d feeds.0 s.editor key before.one in
    let alone = any_keeps_alone d feeds.0 s.editor key before.alone in
    record {
      lasts = ap lasting leaves.editor
          ∙ any_lasts d feeds.0 s.editor r.editor key before.alone before.names before.lasts points same
          ∙ ap lasting (sym is);
      goes_on = each.goes_on;
      one = subst HasOnePrompt (sym leaves.editor) one;
      alone = subst PastesAlone (sym leaves.editor) alone;
      names = subst (λ (x : Editor). NamesAgree new.editor x) (sym is)
          (agree_on (editor_after d feeds.0 s.editor key) (after_all_replayed d r.editor (option_to_list key)) new.editor
          (after_all_replayed d r.editor (option_to_list key)) (ap (λ (x : Editor). x.name) leaves.editor) (ap (λ (x : Editor). x.home) leaves.editor)
          refl refl names);
    }

-- each press's does
abbrev pub PointsOn : (d : Data) (s r : Session) (store : StoreState) (answered : List PressAnswer) (new : Session) (store' : StoreState)
    → PressesAll d s store answered new store' → Type 0
PointsOn d s r store [] new store' feeds = Unit {0}
PointsOn d s r store (a ∷ answered) new store' feeds =
    PointsPress d s r a.0 × PointsOn d feeds.0 (after_replayed_press d r a.0) feeds.1 answered new store' feeds.5

pub all_follow : (d : Data) (s r : Session) (store store' : StoreState) (answered : List PressAnswer) (new : Session) → Follows s r
    → (feeds : PressesAll d s store answered new store') → RefusesNoKey answered → FindsNoChange d s store answered new store' feeds
    → PointsOn d s r store answered new store' feeds → Follows new (after_replaying d r (presses_in answered))
all_follow d s r store store' [] new before feeds none same points = subst (λ (x : Session). Follows x r) (sym feeds.0) before
all_follow d s r store store' (a ∷ answered) new before feeds none same points =
    all_follow d feeds.0 (after_replayed_press d r a.0) feeds.1 store' answered new
    (press_follows d s r store feeds.1 a.0 a.1 feeds.0 before feeds.2 (none 0 a (omega arith)) points.0 feeds.3 same.0)
    feeds.5 (All-tail (λ (x : PressAnswer). x.1 ≢ Err refused.Edit) a answered none) same.1 points.1
