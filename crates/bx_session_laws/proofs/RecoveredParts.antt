-- What a replay gives back, part for part, in its middle and at its end.
use Rattle.std.proofs.Common.{[], ◌≡◌, ℕ, Bool, true, false, not, ◌&&◌, List, Option, Some, None, refl, sym, ap, subst, ◌∙◌, arith, if◌then◌else◌}
use Rattle.std.specs.Prelude.{is_some}
use Rattle.std.proofs.lemmas.Bool.Decides.{nat_tests}
use Rattle.bx_common.specs.declared.base.Base.{Base}
use Rattle.bx_keys.specs.declared.key.Key.{Key}
use Rattle.bx_keys.specs.declared.key.Key.TheVariants as keys
use Rattle.bx_ucd.specs.Data.{Data}
use Rattle.bx_editor.specs.declared.questions.answers.Prompt.{Prompt}
use Rattle.bx_editor.specs.declared.questions.answers.Prompt.TheVariants as prompts
use Rattle.bx_editor.specs.declared.undo_groups.typing.Typing.{Typing}
use Rattle.bx_editor.specs.declared.undo_groups.typing.Typing.TheVariants as typings
use Rattle.bx_editor.specs.Editor.{Editor, with_top}
use Rattle.bx_editor.specs.Functions.{HasRows}
use Rattle.bx_editor.specs.Putting.{ended_with, paste_ended}
use Rattle.bx_editor.specs.declared.scrolling.Scroll.TheVariants.{Least}
use Rattle.bx_editor.specs.Picture.{next_top, scrolled, top_behind}
use Rattle.bx_editor.specs.Replay as replay
use Rattle.bx_editor.specs.Replay.{after_passed_save}
use Rattle.bx_editor.specs.Saving.{is_empty_name, with_answered_name, without_answer}
use Rattle.bx_editor.specs.Scrolling.{moved_top, scroll_of}
use Rattle.bx_editor.specs.Settings.{SettingsState, is_home}
use Rattle.bx_editor.specs.Settings as editor_settings
use Rattle.bx_editor.specs.declared.search_state.SearchState.{SearchState}
use Rattle.bx_editor.proofs.TopOnce.{top-stays}
use Rattle.bx_session.specs.Beginning.{Beginning, after_going_to, at_offset, begun, changed_if, opened}
use Rattle.bx_session.specs.Session.{clipboard_if, Session, StoreState, at_opening, counted_key, is_save_press, stores_by, unpainted_with_settings}
use Rattle.bx_session.specs.Session.{with_settings}
use Rattle.bx_session.specs.Laws.{after_journal, after_replaying}
use Rattle.bx_session.specs.Running.{PressAnswer, PressesAll, presses_in}
use Rattle.bx_session.specs.Inputs.{presses_from}
use Rattle.bx_session.specs.Replaying.{after_all_replayed, after_passed, after_replayed_key, after_replayed_press, at_replay_end, session_replayed_on, session_scrolled}
use Rattle.bx_session.proofs.Ending.{over, stored_session}
use Rattle.bx_session.proofs.Input.{keys_of_input}
use Rattle.bx_session.proofs.KeySizes.{ended_goes_on, ended_top}
use Rattle.bx_session.proofs.Replayed.{replays_keys}
use Rattle.bx_session.proofs.Tops.{opening_stays}
use Rattle.bx_session_laws.specs.Recovery.{FindsNoChange, HasBack, HasBackMidway, HasTop, IsNamed, IsSettled, NamesAgree, PointsAsSeen, RecoveryGivesBack, RefusesNoKey}
use Rattle.bx_session_laws.specs.Recovery.{once_pasted}
use Rattle.bx_session_laws.proofs.KeysAlike.{ended_alike}
use Rattle.bx_session_laws.proofs.Lasting.{Lasting, lasting, having}
use Rattle.bx_session_laws.proofs.Names.{agree_on, ended_home, ended_name}
use Rattle.bx_session_laws.proofs.Recovered.{Follows, all_follow}
use Rattle.bx_session_laws.proofs.TopsAlike.{if_on, next_same, points_on, seen_on}

-- ---- for each part

-- part after part
same_lasts : (s r : Session) → HasBackMidway s r → lasting s.editor ≡ lasting r.editor
same_lasts s r h =
    let e = s.editor in
    let f = r.editor in
    let l0 = lasting e in
    let l1 : Lasting = record l0 { content = f.content } in
    let l2 : Lasting = record l1 { undo_groups = f.undo_groups } in
    let l3 : Lasting = record l2 { place = f.place } in
    let l4 : Lasting = record l3 { mark = f.mark } in
    let l5 : Lasting = record l4 { soft = f.soft } in
    let l6 : Lasting = record l5 { clicks = f.clicks } in
    let l7 : Lasting = record l6 { pressed = f.pressed } in
    let l8 : Lasting = record l7 { held = f.held } in
    let l9 : Lasting = record l8 { whole_line = f.whole_line } in
    let l10 : Lasting = record l9 { query = f.query } in
    let l11 : Lasting = record l10 { search_state = f.search_state } in
    let l12 : Lasting = record l11 { purpose = f.purpose } in
    let l13 : Lasting = record l12 { origin = f.origin } in
    let l14 : Lasting = record l13 { replacement = f.replacement } in
    let l15 : Lasting = record l14 { at = f.at } in
    let l16 : Lasting = record l15 { count = f.count } in
    let l17 : Lasting = record l16 { prompt = f.prompt } in
    let l18 : Lasting = record l17 { answer = f.answer } in
    let l19 : Lasting = record l18 { input_cursor = f.input_cursor } in
    let l20 : Lasting = record l19 { pasted = f.pasted } in
    let l21 : Lasting = record l20 { typing = f.typing } in
    let l22 : Lasting = record l21 { base = f.base } in
    let l23 : Lasting = record l22 { goal = f.goal } in
    let l24 : Lasting = record l23 { height = f.height } in
    let l25 : Lasting = record l24 { width = f.width } in
    let l26 : Lasting = record l25 { read_only = f.read_only } in
    let l27 : Lasting = record l26 { auto_indent = f.auto_indent } in
    ap (λ x. record l0 { content = x }) (sym h.parts.content)
    ∙ ap (λ x. record l1 { undo_groups = x }) (sym h.parts.undo_groups)
    ∙ ap (λ x. record l2 { place = x }) (sym h.parts.place)
    ∙ ap (λ x. record l3 { mark = x }) (sym h.parts.mark)
    ∙ ap (λ x. record l4 { soft = x }) (sym h.parts.soft)
    ∙ ap (λ x. record l5 { clicks = x }) (sym h.parts.clicks)
    ∙ ap (λ x. record l6 { pressed = x }) (sym h.parts.pressed)
    ∙ ap (λ x. record l7 { held = x }) (sym h.parts.held)
    ∙ ap (λ x. record l8 { whole_line = x }) (sym h.parts.whole_line)
    ∙ ap (λ x. record l9 { query = x }) (sym h.parts.query)
    ∙ ap (λ x. record l10 { search_state = x }) (sym h.search_state)
    ∙ ap (λ x. record l11 { purpose = x }) (sym h.parts.purpose)
    ∙ ap (λ x. record l12 { origin = x }) (sym h.origin)
    ∙ ap (λ x. record l13 { replacement = x }) (sym h.parts.replacement)
    ∙ ap (λ x. record l14 { at = x }) (sym h.at)
    ∙ ap (λ x. record l15 { count = x }) (sym h.count)
    ∙ ap (λ x. record l16 { prompt = x }) (sym h.prompt)
    ∙ ap (λ x. record l17 { answer = x }) (sym h.answer)
    ∙ ap (λ x. record l18 { input_cursor = x }) (sym h.input_cursor)
    ∙ ap (λ x. record l19 { pasted = x }) (sym h.parts.pasted)
    ∙ ap (λ x. record l20 { typing = x }) (sym h.typing)
    ∙ ap (λ x. record l21 { base = x }) (sym h.parts.base)
    ∙ ap (λ x. record l22 { goal = x }) (sym h.parts.goal)
    ∙ ap (λ x. record l23 { height = x }) (sym h.parts.height)
    ∙ ap (λ x. record l24 { width = x }) (sym h.parts.width)
    ∙ ap (λ x. record l25 { read_only = x }) (sym h.parts.read_only)
    ∙ ap (λ x. record l26 { auto_indent = x }) (sym h.parts.auto_indent)
    ∙ ap (λ x. record l27 { tab_width = x }) (sym h.parts.tab_width)

follows : (s r : Session) → HasBackMidway s r → Follows s r
follows s r h = record {
  lasts = same_lasts s r h;
  goes_on = h.parts.goes_on;
  one = h.one;
  alone = h.alone;
  names = h.parts.names;
}

pub has_back : (s r : Session) → Follows s r → HasBackMidway s r
has_back s r h = record {
  parts = record {
    content = ap (λ (l : Lasting). l.content) (sym h.lasts);
    undo_groups = ap (λ (l : Lasting). l.undo_groups) (sym h.lasts);
    place = ap (λ (l : Lasting). l.place) (sym h.lasts);
    mark = ap (λ (l : Lasting). l.mark) (sym h.lasts);
    soft = ap (λ (l : Lasting). l.soft) (sym h.lasts);
    clicks = ap (λ (l : Lasting). l.clicks) (sym h.lasts);
    pressed = ap (λ (l : Lasting). l.pressed) (sym h.lasts);
    held = ap (λ (l : Lasting). l.held) (sym h.lasts);
    whole_line = ap (λ (l : Lasting). l.whole_line) (sym h.lasts);
    query = ap (λ (l : Lasting). l.query) (sym h.lasts);
    purpose = ap (λ (l : Lasting). l.purpose) (sym h.lasts);
    replacement = ap (λ (l : Lasting). l.replacement) (sym h.lasts);
    pasted = ap (λ (l : Lasting). l.pasted) (sym h.lasts);
    base = ap (λ (l : Lasting). l.base) (sym h.lasts);
    goal = ap (λ (l : Lasting). l.goal) (sym h.lasts);
    height = ap (λ (l : Lasting). l.height) (sym h.lasts);
    width = ap (λ (l : Lasting). l.width) (sym h.lasts);
    read_only = ap (λ (l : Lasting). l.read_only) (sym h.lasts);
    auto_indent = ap (λ (l : Lasting). l.auto_indent) (sym h.lasts);
    tab_width = ap (λ (l : Lasting). l.tab_width) (sym h.lasts);
    names = h.names;
    goes_on = h.goes_on;
  };
  search_state = ap (λ (l : Lasting). l.search_state) (sym h.lasts);
  origin = ap (λ (l : Lasting). l.origin) (sym h.lasts);
  at = ap (λ (l : Lasting). l.at) (sym h.lasts);
  count = ap (λ (l : Lasting). l.count) (sym h.lasts);
  prompt = ap (λ (l : Lasting). l.prompt) (sym h.lasts);
  answer = ap (λ (l : Lasting). l.answer) (sym h.lasts);
  input_cursor = ap (λ (l : Lasting). l.input_cursor) (sym h.lasts);
  typing = ap (λ (l : Lasting). l.typing) (sym h.lasts);
  one = h.one;
  alone = h.alone;
}

-- ---- the end of a paste, and of a replay

-- where no paste is under way
pub over_none : (d : Data) (e : Editor) → e.pasted ≡ None → paste_ended d e ≡ e
over_none d e none = ap (ended_with d e) none

-- it leaves the same of two editors of which the same lasts
over_lasts : (d : Data) (e f : Editor) → lasting e ≡ lasting f → lasting (paste_ended d e) ≡ lasting (paste_ended d f)
over_lasts d e f same = (ended_alike d e f).lasts ∙ ap (λ (l : Lasting). lasting (paste_ended d (having l f))) same

-- and leaves where saves go
over_names : (d : Data) (e f : Editor) → NamesAgree e f → NamesAgree (paste_ended d e) (replay.at_replay_end (paste_ended d f))
over_names d e f h =
    agree_on e f (paste_ended d e) (replay.at_replay_end (paste_ended d f)) (ended_name d e) (ended_home d e) (ended_name d f) (ended_home d f) h

scrolled_names : (d : Data) (e f : Editor) → NamesAgree e f → NamesAgree e (scrolled d f)
scrolled_names d e f h = agree_on e f e (scrolled d f) refl refl refl refl h

pub ended_back : (d : Data) (s r : Session) → Follows s r → HasBack (once_pasted d s) (at_replay_end d r)
ended_back d s r h =
    let same = sym (over_lasts d s.editor r.editor h.lasts) in record {
      content = ap (λ (l : Lasting). l.content) same;
      undo_groups = ap (λ (l : Lasting). l.undo_groups) same;
      place = ap (λ (l : Lasting). l.place) same;
      mark = ap (λ (l : Lasting). l.mark) same;
      soft = ap (λ (l : Lasting). l.soft) same;
      clicks = ap (λ (l : Lasting). l.clicks) same;
      pressed = ap (λ (l : Lasting). l.pressed) same;
      held = ap (λ (l : Lasting). l.held) same;
      whole_line = ap (λ (l : Lasting). l.whole_line) same;
      query = ap (λ (l : Lasting). l.query) same;
      purpose = ap (λ (l : Lasting). l.purpose) same;
      replacement = ap (λ (l : Lasting). l.replacement) same;
      pasted = ap (λ (l : Lasting). l.pasted) same;
      base = ap (λ (l : Lasting). l.base) same;
      goal = ap (λ (l : Lasting). l.goal) same;
      height = ap (λ (l : Lasting). l.height) same;
      width = ap (λ (l : Lasting). l.width) same;
      read_only = ap (λ (l : Lasting). l.read_only) same;
      auto_indent = ap (λ (l : Lasting). l.auto_indent) same;
      tab_width = ap (λ (l : Lasting). l.tab_width) same;
      names = scrolled_names d (paste_ended d s.editor) (replay.at_replay_end (paste_ended d r.editor)) (over_names d s.editor r.editor h.names);
      goes_on = (ended_goes_on d r.editor).0 ∙ h.goes_on;
    }

-- ---- before any key, and behind a key that stored the text

changed_not : (b : Bool) → b ≡ false → b ≡ true → ⊥
changed_not true off on = cc off
changed_not false off on = cc on

settled_at : (d : Data) (s : Session) (clipboard : Bool) (offset : Option ℕ) (unsaved : Bool) → IsSettled s.editor → s.editor.changed ≡ false
    → IsSettled (changed_if unsaved (after_going_to d (clipboard_if clipboard s) offset)).editor
settled_at d s true None true h same =
    record { search_state = h.search_state; prompt = h.prompt; pasted = h.pasted; typing = h.typing; stored = λ changed. refl }
settled_at d s true None false h same =
    record { search_state = h.search_state; prompt = h.prompt; pasted = h.pasted; typing = h.typing; stored = λ changed. absurd (changed_not s.editor.changed same changed) }
settled_at d s true (Some offset) true h same =
    record { search_state = h.search_state; prompt = h.prompt; pasted = h.pasted; typing = refl; stored = λ changed. refl }
settled_at d s true (Some offset) false h same =
    record { search_state = h.search_state; prompt = h.prompt; pasted = h.pasted; typing = refl; stored = λ changed. absurd (changed_not s.editor.changed same changed) }
settled_at d s false None true h same =
    record { search_state = h.search_state; prompt = h.prompt; pasted = h.pasted; typing = h.typing; stored = λ changed. refl }
settled_at d s false None false h same =
    record { search_state = h.search_state; prompt = h.prompt; pasted = h.pasted; typing = h.typing; stored = λ changed. absurd (changed_not s.editor.changed same changed) }
settled_at d s false (Some offset) true h same =
    record { search_state = h.search_state; prompt = h.prompt; pasted = h.pasted; typing = refl; stored = λ changed. refl }
settled_at d s false (Some offset) false h same =
    record { search_state = h.search_state; prompt = h.prompt; pasted = h.pasted; typing = refl; stored = λ changed. absurd (changed_not s.editor.changed same changed) }

opened_settled : (d : Data) (b : Beginning) → IsSettled (opened d b).editor
opened_settled d b = record { search_state = refl; prompt = refl; pasted = refl; typing = refl; stored = λ changed. absurd (cc changed) }

answer_settled : (takes : Bool) (e : Editor) → e.pasted ≡ None → IsSettled (after_passed_save (if takes then with_answered_name e else without_answer e))
answer_settled true e none = record { search_state = refl; prompt = refl; pasted = none; typing = refl; stored = λ changed. refl }
answer_settled false e none = record { search_state = refl; prompt = refl; pasted = none; typing = refl; stored = λ changed. refl }

passed_settled : (prompt : Prompt) (key : Key) (e : Editor) → e.pasted ≡ None → IsSettled (after_passed prompt key e)
passed_settled prompts.File keys.Save e none = record { search_state = refl; prompt = refl; pasted = none; typing = refl; stored = λ changed. refl }
passed_settled prompts.File key e none = answer_settled (is_some e.name && not e.home) e none
passed_settled prompt key e none = record { search_state = refl; prompt = refl; pasted = none; typing = refl; stored = λ changed. refl }

-- the row shown first makes no difference
settled_by : (e : Editor) (top : ℕ) → IsSettled e → IsSettled (with_top e top)
settled_by e top h = record { search_state = h.search_state; prompt = h.prompt; pasted = h.pasted; typing = h.typing; stored = h.stored }

key_settles : (d : Data) (s : Session) (key : Option Key) → stores_by s.editor key ≡ true → IsSettled (after_replayed_key d s key).editor
key_settles d s None h = absurd (cc h)
key_settles d s (Some key) h =
    let from : Session = session_scrolled d s in
    let over_from : Editor = paste_ended d from.editor in
    let is = stored_session d over_from.prompt over_from.search_state from key h in
    let passed : IsSettled (session_replayed_on d from key).editor =
    subst (λ (x : Session). IsSettled x.editor) (sym is) (passed_settled over_from.prompt key over_from (over d from.editor)) in
    let left = (session_replayed_on d from key).editor in
    settled_by left (moved_top d left left.top (scroll_of s.editor key)) passed

save_settles : (d : Data) (s : Session) (key : Option Key) → is_save_press s key ≡ true → IsSettled (after_replayed_press d s key).editor
save_settles d s key h = key_settles d s (counted_key s key) h

-- where a journal leaves the editor settled, the end of the replay and the painting make no difference
end_lasts : (e : Editor) → IsSettled e → lasting (replay.at_replay_end e) ≡ lasting e
end_lasts e settled =
    let was = lasting e in
    ap (λ (search_state : SearchState). record was { search_state = search_state; prompt = prompts.Off; typing = typings.Off }) (sym settled.search_state)
    ∙ ap (λ (prompt : Prompt). record was { prompt = prompt; typing = typings.Off }) (sym settled.prompt)
    ∙ ap (λ (typing : Typing). record was { typing = typing }) (sym settled.typing)

settled_lasts : (d : Data) (e : Editor) → IsSettled e → lasting (replay.at_replay_end (paste_ended d e)) ≡ lasting e
settled_lasts d e settled = ap (λ (x : Editor). lasting (replay.at_replay_end x)) (over_none d e settled.pasted) ∙ end_lasts e settled

begun_names : (d : Data) (b : Beginning) → let e = (after_replaying d (at_offset d b) (presses_from [] b.journal)).editor in IsNamed e → NamesAgree (begun d b).editor e
begun_names d b named =
    let e = (after_replaying d (at_offset d b) (presses_from [] b.journal)).editor in
    let own : NamesAgree e e = record { nameless = refl; name = λ off. (off, refl); had_file = named; replayed_file = named } in
    agree_on e e (begun d b).editor e (ended_name d e) (ended_home d e) refl refl own

-- a run begins with what the replay of its journal has
pub begins_alike : (d : Data) (b : Beginning) → let replayed = after_replaying d (at_offset d b) (presses_from [] b.journal) in
    IsSettled replayed.editor → replayed.editor.ended ≡ false → IsNamed replayed.editor → Follows (begun d b) replayed
begins_alike d b settled goes_on named = record {
  lasts = settled_lasts d (after_replaying d (at_offset d b) (presses_from [] b.journal)).editor settled;
  goes_on = goes_on;
  one = λ asked. refl;
  alone = λ some. absurd (some (over d (after_replaying d (at_offset d b) (presses_from [] b.journal)).editor));
  names = begun_names d b named;
}

-- and shows the row first that a painting of the replay would
pub begins_top : (d : Data) (b : Beginning) → let replayed = after_replaying d (at_offset d b) (presses_from [] b.journal) in
    IsSettled replayed.editor → HasRows (begun d b).editor → HasTop d (begun d b) replayed
begins_top d b settled has =
    let e = (after_replaying d (at_offset d b) (presses_from [] b.journal)).editor in
    let x : Editor = paste_ended d e in
    let end : Editor = replay.at_replay_end x in
    let rows : HasRows end = record { text = has.text; columns = has.columns } in
    record {
      painted = refl;
      top = λ on.
          next_same d end e e.top (settled_lasts d e settled) (ended_goes_on d e).0
          ∙ ap (next_top d end) (sym (ended_top d e))
          ∙ sym (top-stays d end end.top rows)
          ∙ sym (if_on end.ended (next_top d end end.top) (next_top d end (next_top d end end.top)) on);
    }

-- as it does at opening, and once the settings are told
opened_top : (d : Data) (text : List ℕ) (height width : ℕ) (base : Base) → let s = at_opening d text height width base in HasRows s.editor → HasTop d s s
opened_top d text height width base has = record { painted = refl; top = λ on. opening_stays d text height width base has }

painted_top : (d : Data) (e : Editor) → e.ended ≡ false → HasRows e → next_top d e (top_behind d e e.top Least) ≡ top_behind d e e.top Least
painted_top d e on has =
    let is : top_behind d e e.top Least ≡ next_top d e e.top = if_on e.ended e.top (next_top d e e.top) on in
    ap (next_top d e) is ∙ top-stays d e e.top has ∙ sym is

set_top : (d : Data) (s : Session) (settings : SettingsState) → let new = with_settings d s settings in HasRows new.editor → HasTop d new new
set_top d s settings has =
    let e = (unpainted_with_settings s settings).editor in
    let rows : HasRows e = record { text = has.text; columns = has.columns } in
    record { painted = refl; top = λ on. painted_top d e on rows }

-- ---- the law

pub home_named : (name : Option (List ℕ)) → is_home name ≡ true → is_empty_name name ≡ false
home_named None h = refl
home_named (Some name) h = grind (arith, nat_tests, h)

pub set_names : (e : Editor) (settings : SettingsState) → IsNamed (editor_settings.with_settings e settings)
set_names e settings = λ home. home_named settings.name home

own_names : (e : Editor) → IsNamed e → NamesAgree e e
own_names e named = record { nameless = refl; name = λ off. (off, refl); had_file = named; replayed_file = named }

gives : (d : Data) (s : Session) (store store' : StoreState) (answered : List PressAnswer) (new : Session) → Follows s s → (HasRows s.editor → HasTop d s s)
    → (feeds : PressesAll d s store answered new store') → RefusesNoKey answered → FindsNoChange d s store answered new store' feeds
    → PointsAsSeen d s store answered new store' feeds → HasBack (once_pasted d new) (after_journal d s (presses_in answered))
gives d s store store' answered new same first feeds none unchanged seen =
    let points = points_on d s s store store' answered new same first feeds none unchanged seen in
    ended_back d new (after_replaying d s (presses_in answered)) (all_follow d s s store store' answered new same feeds none unchanged points)

pub recovery_gives_back : RecoveryGivesBack
recovery_gives_back = record {
  gives_back = λ d text height width base store store' answered new feeds none unchanged seen.
      let s = at_opening d text height width base in
      let named : IsNamed s.editor = λ home. refl in
      let same : Follows s s = record {
        lasts = refl;
        goes_on = refl;
        one = λ asked. refl;
        alone = λ some. (refl, refl);
        names = own_names s.editor named;
      } in
      gives d s store store' answered new same (opened_top d text height width base) feeds none unchanged seen;
  gives_back_set = λ d text height width base settings store store' answered new feeds none unchanged seen.
      let s = with_settings d (at_opening d text height width base) settings in
      let named : IsNamed s.editor = λ home. home_named settings.name home in
      let same : Follows s s = record {
        lasts = refl;
        goes_on = refl;
        one = λ asked. refl;
        alone = λ some. (refl, refl);
        names = own_names s.editor named;
      } in
      gives d s store store' answered new same (set_top d (at_opening d text height width base) settings) feeds none unchanged seen;
  keeps_up = λ d old replayed store store' answered new h feeds none unchanged top seen.
      let before = follows old replayed h in
      let points = points_on d old replayed store store' answered new before (λ has. top) feeds none unchanged seen in
      has_back new (after_replaying d replayed (presses_in answered)) (all_follow d old replayed store store' answered new before feeds none unchanged points);
  keeps_top = λ d old replayed store store' answered new h feeds none unchanged top paints have.
      (seen_on d old replayed store store' answered new (follows old replayed h) feeds none unchanged paints top have).1;
  ends = λ d new replayed h. ended_back d new replayed (follows new replayed h);
  settled_first = λ d b. settled_at d (opened d b) b.clipboard b.offset b.unsaved (opened_settled d b) refl;
  save_settles = save_settles;
  applies_all = λ d text height width base bytes.
      let s = at_opening d text height width base in
      replays_keys d s (presses_from [] bytes) refl ∙ ap (after_all_replayed d s.editor) (keys_of_input bytes);
  applies_all_set = λ d text height width base settings bytes.
      let s = with_settings d (at_opening d text height width base) settings in
      replays_keys d s (presses_from [] bytes) refl ∙ ap (after_all_replayed d s.editor) (keys_of_input bytes);
}
