-- A journal's bytes restore the session.
use Rattle.std.proofs.Common.{◌≡◌, ◌≢◌, ℕ, Bool, true, false, List, [], ◌∷◌, ◌++◌, Option, Some, None, Result, Ok, Err, length, refl, sym, ap, subst, ◌∙◌, ◌⊎◌, inl}
use Rattle.std.proofs.Common.{inr, if◌then◌else◌, arith}
use Rattle.std.specs.Prelude.{◌&&◌, IfSome, option_map, option_to_list}
use Rattle.std.specs.Io.KnownBytes.{Appends}
use Rattle.std.proofs.lemmas.List.{append-nil}
use Rattle.std.proofs.lemmas.List.Elements.{All-tail}
use Rattle.bx_keys.specs.declared.key.Key.{Key}
use Rattle.bx_keys.specs.declared.key.Key.TheVariants.{Quit}
use Rattle.bx_text.specs.Edits.{Edit}
use Rattle.bx_store.specs.declared.store.StoreFault.{StoreFault}
use Rattle.bx_ucd.specs.Data.{Data}
use Rattle.bx_editor.specs.Editor.{Editor}
use Rattle.bx_editor.specs.Putting.{paste_ended}
use Rattle.bx_editor.specs.Replay as replay
use Rattle.bx_editor.specs.Keys.{after_key}
use Rattle.bx_session.specs.declared.status.Refused.{Refused}
use Rattle.bx_session.specs.declared.status.Refused.TheVariants as refused
use Rattle.bx_session.specs.declared.status.Status.{Status}
use Rattle.bx_session.specs.declared.journal.Backlog.{Backlog}
use Rattle.bx_session.specs.declared.journal.Backlog.TheVariants.{Empty}
use Rattle.bx_session.specs.Beginning.{Beginning, after_going_to, at_offset, begun, changed_if, opened}
use Rattle.bx_editor.specs.Picture.{scrolled}
use Rattle.bx_session.specs.Session.{clipboard_if, Session, StoreAfter, StoreState, is_save_press, stores_by}
use Rattle.bx_session.specs.Session.{text_to_save}
use Rattle.bx_session.specs.Journal.{HasKept, RecorderState, is_lost, waiting}
use Rattle.bx_session.specs.Laws.{after_replaying}
use Rattle.bx_session_laws.specs.Recovery.{FindsNoChange, HasAll, HasBack, IsKnown, IsSettled, JournalsGiveBack, NamesAgree, PastesAlone}
use Rattle.bx_session_laws.specs.Recovery.{RefusesNoKey, TellsChanges, once_pasted}
use Rattle.bx_session.specs.Running.{PressAnswer, PressesAll, presses_in}
use Rattle.bx_session.specs.Inputs.{presses_from, rest_from}
use Rattle.bx_session.proofs.Typing.{presses_from_both, rest_from_both}
use Rattle.bx_session.specs.Feeding.{Presses, is_applied}
use Rattle.bx_session.specs.Replaying.{after_all_replayed, after_passed, after_replayed, after_replayed_press, at_replay_end, replayed_on}
use Rattle.bx_session_laws.proofs.Alike.{Work, work, after_deeds}
use Rattle.bx_session_laws.proofs.KeysAlike.{ended_alike, key_alike}
use Rattle.bx_session_laws.proofs.Deeds.{Knows, Tells, Traces, deeds_know, deeds_tell, knows_text, traced_text}
use Rattle.bx_session_laws.proofs.Lasting.{Lasting, lasting, having}
use Rattle.bx_session_laws.proofs.Names.{agree_on}
use Rattle.bx_session_laws.proofs.SavedAlike.{passed_work, saved_work, stored_kind, stored_work, stores_alike, with_name}
use Rattle.bx_session.proofs.KeyKinds.{not_storing, quit_stores_nothing, stores}
use Rattle.bx_session.proofs.Ending.{quit_user}
use Rattle.bx_session_laws.proofs.Recovered.{Follows, Points, PointsAny, PointsPress, PointsOn, all_follow, press_follows, key_is, serves}
use Rattle.bx_session_laws.proofs.RecoveredParts.{begins_alike, begins_top, ended_back, home_named, over_none}
use Rattle.bx_session_laws.proofs.TopsAlike.{points_on}
use Rattle.bx_session.proofs.Leaving.{press_leaves, editor_after}
use Rattle.bx_session.proofs.Replayed.{applies, each-replayed}
use Rattle.bx_session_laws.proofs.WorkKept.{quit_leaves, quit_works}
use Rattle.bx_session_laws.proofs.Versions.{version, version_here}
use Rattle.bx_session_laws.proofs.ReplayTraces.{Replays, over_traces, replays, replaying_more, serves_itself}

-- ---- a session that counts as unchanged has a known text

-- the opened text, or what a store has
abbrev IsOf : List ℕ → Option (List ℕ) → List ℕ → Type 0
IsOf first contents text = (text ≡ first) ⊎ IfSome contents (λ stored. stored ≡ text)

abbrev IsKnownIn : List ℕ → StoreState → List ℕ → Type 0
IsKnownIn first store text = IsOf first store.contents text

ended_knows : (P : List ℕ → Type 0) (w : Work) (ended : Bool) → Knows P w → Knows P (record w { ended = ended })
ended_knows P w ended h = record { chain = h.chain; stored = h.stored; unchanged = h.unchanged }

holds_text : (contents : Option (List ℕ)) (text : List ℕ) → IfSome (option_map (λ _. text) contents) (λ bytes. bytes ≡ text)
holds_text None text = tt
holds_text (Some bytes) text = refl

saved_knows : (fault : Option StoreFault) (first : List ℕ) (store store' : StoreState) (w : Work) (name : Option (List ℕ))
    → StoreAfter true fault w.content.text store store' → Knows (IsKnownIn first store) w → Knows (IsKnownIn first store') (saved_work fault (with_name name w))
saved_knows None first store store' w name saves h = record {
  chain = h.chain;
  stored = subst (IsKnownIn first store') (sym (version_here w.content))
      (inr (subst (λ (s : StoreState). IfSome s.contents (λ bytes. bytes ≡ w.content.text)) (sym saves) (holds_text store.contents w.content.text)));
  unchanged = λ is. refl;
}
saved_knows (Some fault) first store store' w name saves h =
    let kept : Knows (IsKnownIn first store') w = subst (λ (contents : Option (List ℕ)). Knows (IsOf first contents) w) (sym saves.0) h in
    record { chain = kept.chain; stored = kept.stored; unchanged = kept.unchanged }

stays : (save : Bool) (fault : Option StoreFault) (first : List ℕ) (store store' : StoreState) (w : Work) (was : List ℕ) → save ≡ false
    → StoreAfter save fault was store store' → Knows (IsKnownIn first store) w → Knows (IsKnownIn first store') w
stays true fault first store store' w was other stores h = absurd (cc other)
stays false fault first store store' w was other stores h = subst (λ (s : StoreState). Knows (IsKnownIn first s) w) (sym stores) h

over_knows : (d : Data) (P : List ℕ → Type 0) (e : Editor) → Knows P (work e) → Knows P (work (paste_ended d e))
over_knows d P e h =
    let alike = ended_alike d e e in subst (Knows P) (sym alike.first) (deeds_know P alike.deeds (work e) h)

quit_knows : (d : Data) (fault : Option StoreFault) (P : List ℕ → Type 0) (e : Editor) → Knows P (work e) → Knows P (work (after_key d fault e Quit))
quit_knows d fault P e h =
    let over : Editor = paste_ended d e in
    let leaves = quit_leaves d fault over.prompt over.search_state over in
    subst (λ (new : Editor). Knows P (work new)) (sym (quit_user d fault e))
    (subst (Knows P) (sym leaves.1) (ended_knows P (work over) leaves.0 (over_knows d P e h)))

key_knows : (d : Data) (fault : Option StoreFault) (first : List ℕ) (store store' : StoreState) (e : Editor) (key : Key) → PastesAlone e
    → StoreAfter (stores e key) fault (text_to_save d e) store store' → Knows (IsKnownIn first store) (work e)
    → Knows (IsKnownIn first store') (work (after_key d fault e key))
key_knows d fault first store store' e key alone =
    let P = IsKnownIn first store' in
    each-replayed d e.prompt e.search_state e (λ k new. StoreAfter (stores e k) fault (text_to_save d e) store store' → Knows (IsKnownIn first store) (work e)
    → Knows P (work (after_key d fault e k)))
    (λ kept h. quit_knows d fault P e (stays (stores e Quit) fault first store store' (work e) (text_to_save d e) (quit_stores_nothing e) kept h))
    (λ k quits saves kept h. (let leaves = stored_work d fault e k (stored_kind d fault e k saves) in
    subst (Knows P) (sym leaves.is)
    (saved_knows fault first store store' (work (paste_ended d e)) leaves.name
    (subst (λ save. StoreAfter save fault (text_to_save d e) store store') saves kept) (over_knows d (IsKnownIn first store) e h))))
    (λ k other kept h. (let alike = key_alike d fault e e k alone (serves_itself e k other) in
    subst (Knows P) (sym alike.first) (deeds_know P alike.deeds (work e)
    (stays (stores e k) fault first store store' (work e) (text_to_save d e) (not_storing e k other) kept h)))) key

any_knows : (d : Data) (fault : Option StoreFault) (first : List ℕ) (store store' : StoreState) (e : Editor) (key : Option Key) → PastesAlone e
    → StoreAfter (stores_by e key) fault (text_to_save d e) store store' → Knows (IsKnownIn first store) (work e)
    → Knows (IsKnownIn first store') (work (editor_after d fault e key))
any_knows d fault first store store' e None alone saves h = stays false fault first store store' (work e) (text_to_save d e) refl saves h
any_knows d fault first store store' e (Some key) alone saves h = key_knows d fault first store store' e key alone saves h

-- ---- a replay counts as changed where the session does

ended_tells : (w r : Work) (ended : Bool) → Tells w r → Tells (record w { ended = ended }) r
ended_tells w r ended h = record { content = h.content; undo_groups = h.undo_groups; stored = h.stored; changed = h.changed }

saved_tells : (fault : Option StoreFault) (w r : Work) (name name' : Option (List ℕ)) → Tells w r
    → Tells (saved_work fault (with_name name w)) (record r { stored = None; name = name' })
saved_tells None w r name name' h = record { content = h.content; undo_groups = h.undo_groups; stored = inl refl; changed = λ is. absurd (cc is) }
saved_tells (Some fault) w r name name' h = record { content = h.content; undo_groups = h.undo_groups; stored = inl refl; changed = h.changed }

over_tells : (d : Data) (e f : Editor) → let g = having (lasting e) f in
    Tells (work e) (work g) → Tells (work (paste_ended d e)) (work (paste_ended d g))
over_tells d e f h =
    let g = having (lasting e) f in
    let alike = ended_alike d e f in
    subst (λ (w : Work). Tells w (work (paste_ended d g))) (sym alike.first)
    (subst (Tells (after_deeds alike.deeds (work e))) (sym alike.other) (deeds_tell alike.deeds (work e) (work g) h))

-- the same of two editors of which the same lasts
both_tell : (d : Data) (e f : Editor) → lasting e ≡ lasting f → Tells (work e) (work f) → Tells (work (paste_ended d e)) (work (paste_ended d f))
both_tell d e f same h =
    subst (λ (l : Lasting). Tells (work e) (work (having l f)) → Tells (work (paste_ended d e)) (work (paste_ended d (having l f)))) same
    (over_tells d e f) h

quit_tells : (d : Data) (fault : Option StoreFault) (e f : Editor) → let g = having (lasting e) f in
    let over_g = paste_ended d g in Tells (work e) (work g) → Tells (work (after_key d fault e Quit)) (work (after_replayed d over_g.prompt over_g.search_state g Quit))
quit_tells d fault e f h =
    let g = having (lasting e) f in
    let x : Editor = paste_ended d e in
    let y : Editor = paste_ended d g in
    let leaves = quit_leaves d fault x.prompt x.search_state x in
    let new = after_replayed d y.prompt y.search_state g Quit in
    subst (λ (z : Editor). Tells (work z) (work new)) (sym (quit_user d fault e))
    (subst (λ (w : Work). Tells w (work new)) (sym leaves.1)
    (subst (Tells (record (work x) { ended = leaves.0 })) (sym (quit_works d y.prompt y.search_state g refl refl))
    (ended_tells (work x) (work y) leaves.0 (over_tells d e f h))))

like_tells : (d : Data) (fault : Option StoreFault) (e f : Editor) (key : Key) → PastesAlone e → NamesAgree e f → Points e.top f.top key
    → let g = having (lasting e) f in Tells (work e) (work g) → Tells (work (after_key d fault e key)) (work (replayed_on d g key))
like_tells d fault e f key alone names points h =
    let g = having (lasting e) f in
    let y : Editor = paste_ended d g in
    each-replayed d y.prompt y.search_state g (λ k new. Points e.top f.top k → Tells (work (after_key d fault e k)) (work new))
    (λ points. quit_tells d fault e f h)
    (λ k quits saves points. (let own : stores e k ≡ true = sym (stores_alike e f k names.nameless) ∙ saves in
    let leaves = stored_work d fault e k (stored_kind d fault e k own) in
    let passes = passed_work y.prompt k y in
    subst (λ (w : Work). Tells w (work (after_passed y.prompt k y))) (sym leaves.is)
    (subst (Tells (saved_work fault (with_name leaves.name (work (paste_ended d e))))) (sym passes.is)
    (saved_tells fault (work (paste_ended d e)) (work y) leaves.name passes.name (over_tells d e f h)))))
    (λ k other points. (let alike = key_alike d fault e f k alone (serves e f k other points names) in
    subst (λ (w : Work). Tells w (work (after_key d None g k))) (sym alike.first)
    (subst (Tells (after_deeds alike.deeds (work e))) (sym alike.other) (deeds_tell alike.deeds (work e) (work g) h)))) key points

any_tells : (d : Data) (fault : Option StoreFault) (e f : Editor) (key : Option Key) → PastesAlone e → NamesAgree e f → lasting e ≡ lasting f
    → PointsAny e.top (scrolled d f).top key → Tells (work e) (work f)
    → Tells (work (editor_after d fault e key)) (work (after_all_replayed d f (option_to_list key)))
any_tells d fault e f None alone names same points h = h
any_tells d fault e f (Some key) alone names same points h =
    let g = scrolled d f in
    subst (λ (l : Lasting). Tells (work e) (work (having l g)) → Tells (work (after_key d fault e key)) (work (replayed_on d (having l g) key))) same
    (like_tells d fault e g key alone (agree_on e f e g refl refl refl refl names) points) h

-- a key that is not refused is applied
applied : (a : Result Status Refused) → a ≢ Err refused.Edit → is_applied a ≡ true
applied (Ok status) some = refl
applied (Err refused.Edit) some = absurd (some refl)
applied (Err refused.Paint) some = refl
applied (Err refused.Size) some = refl

-- ---- all presses

record Agrees (first : List ℕ) (store : StoreState) (s r : Session) : Type 0 where
  pub tells : Tells (work s.editor) (work r.editor)
  pub knows : Knows (IsKnownIn first store) (work s.editor)

press_agrees : (d : Data) (first : List ℕ) (s r : Session) (store store' : StoreState) (key : Option Key) (a : Result Status Refused) (new : Session)
    → Follows s r → Agrees first store s r → s.editor.ended ≡ false → a ≢ Err refused.Edit → PointsPress d s r key → Presses d s store key a new store'
    → Agrees first store' new (after_replayed_press d r key)
press_agrees d first s r store store' key a new before h runs some points feeds =
    let leaves = press_leaves d feeds.0 s key a new runs some feeds.2 in
    let each = applies d r key before.goes_on in
    let same : (after_replayed_press d r key).editor ≡ after_all_replayed d r.editor (option_to_list key) = each.editor in
    let saves = subst (λ yes. StoreAfter (yes && is_save_press s key) feeds.0 (text_to_save d s.editor) store store') (applied a some) feeds.1 in
    let kept = subst (λ k. StoreAfter (stores_by s.editor k) feeds.0 (text_to_save d s.editor) store store') (key_is s key runs) saves in record {
      tells = subst (λ (e : Editor). Tells (work new.editor) (work e)) (sym same)
          (subst (λ (e : Editor). Tells (work e) (work (after_all_replayed d r.editor (option_to_list key)))) (sym leaves.editor)
          (any_tells d feeds.0 s.editor r.editor key before.alone before.names before.lasts points h.tells));
      knows = subst (λ (e : Editor). Knows (IsKnownIn first store') (work e)) (sym leaves.editor)
          (any_knows d feeds.0 first store store' s.editor key before.alone kept h.knows);
    }

all_agree : (d : Data) (first : List ℕ) (s r : Session) (store store' : StoreState) (answered : List PressAnswer) (new : Session) → Follows s r
    → Agrees first store s r → (feeds : PressesAll d s store answered new store') → RefusesNoKey answered
    → FindsNoChange d s store answered new store' feeds → PointsOn d s r store answered new store' feeds
    → Agrees first store' new (after_replaying d r (presses_in answered))
all_agree d first s r store store' [] new before h feeds none same points =
    subst (λ (x : StoreState). Agrees first x new r) (sym feeds.1) (subst (λ (x : Session). Agrees first store x r) (sym feeds.0) h)
all_agree d first s r store store' (a ∷ answered) new before h feeds none same points =
    let some = none 0 a (omega arith) in
    all_agree d first feeds.0 (after_replayed_press d r a.0) feeds.1 store' answered new
    (press_follows d s r store feeds.1 a.0 a.1 feeds.0 before feeds.2 some points.0 feeds.3 same.0)
    (press_agrees d first s r store feeds.1 a.0 a.1 feeds.0 before h feeds.2 some points.0 feeds.3)
    feeds.5 (All-tail (λ (x : PressAnswer). x.1 ≢ Err refused.Edit) a answered none) same.1 points.1

-- ---- the start

starts_at : (d : Data) (text : List ℕ) (s : Session) (clipboard : Bool) (offset : Option ℕ) (unsaved : Bool) → Replays text s → s.editor.pasted ≡ None
    → Replays text (changed_if unsaved (after_going_to d (clipboard_if clipboard s) offset))
starts_at d text s true None true h none = record {
  goes_on = h.goes_on;
  traces = record { chain = h.traces.chain; first_is = h.traces.first_is; stored = inl refl; unchanged = λ is. absurd (cc is) };
  alone = λ some. absurd (some none);
  named = h.named;
}
starts_at d text s true None false h none = record {
  goes_on = h.goes_on;
  traces = record { chain = h.traces.chain; first_is = h.traces.first_is; stored = h.traces.stored; unchanged = h.traces.unchanged };
  alone = λ some. absurd (some none);
  named = h.named;
}
starts_at d text s true (Some offset) true h none = record {
  goes_on = h.goes_on;
  traces = record { chain = h.traces.chain; first_is = h.traces.first_is; stored = inl refl; unchanged = λ is. absurd (cc is) };
  alone = λ some. absurd (some none);
  named = h.named;
}
starts_at d text s true (Some offset) false h none = record {
  goes_on = h.goes_on;
  traces = record { chain = h.traces.chain; first_is = h.traces.first_is; stored = h.traces.stored; unchanged = h.traces.unchanged };
  alone = λ some. absurd (some none);
  named = h.named;
}
starts_at d text s false None true h none = record {
  goes_on = h.goes_on;
  traces = record { chain = h.traces.chain; first_is = h.traces.first_is; stored = inl refl; unchanged = λ is. absurd (cc is) };
  alone = λ some. absurd (some none);
  named = h.named;
}
starts_at d text s false None false h none = record {
  goes_on = h.goes_on;
  traces = record { chain = h.traces.chain; first_is = h.traces.first_is; stored = h.traces.stored; unchanged = h.traces.unchanged };
  alone = λ some. absurd (some none);
  named = h.named;
}
starts_at d text s false (Some offset) true h none = record {
  goes_on = h.goes_on;
  traces = record { chain = h.traces.chain; first_is = h.traces.first_is; stored = inl refl; unchanged = λ is. absurd (cc is) };
  alone = λ some. absurd (some none);
  named = h.named;
}
starts_at d text s false (Some offset) false h none = record {
  goes_on = h.goes_on;
  traces = record { chain = h.traces.chain; first_is = h.traces.first_is; stored = h.traces.stored; unchanged = h.traces.unchanged };
  alone = λ some. absurd (some none);
  named = h.named;
}

opened_replays : (d : Data) (b : Beginning) → Replays b.text (opened d b)
opened_replays d b = record {
  goes_on = refl;
  traces = record { chain = record { past = tt; future = tt }; first_is = refl; stored = inr refl; unchanged = λ is. refl };
  alone = λ some. absurd (some refl);
  named = λ home. home_named b.settings.name home;
}

starts : (d : Data) (b : Beginning) → Replays b.text (at_offset d b)
starts d b = starts_at d b.text (opened d b) b.clipboard b.offset b.unsaved (opened_replays d b) refl

end_tells : (first : List ℕ) (e : Editor) → Traces first (work e) → IsSettled e → Tells (work (replay.at_replay_end e)) (work e)
end_tells first e traces settled = record { content = refl; undo_groups = refl; stored = by_change e.changed refl traces.stored; changed = λ h. h } where
  by_change : (changed : Bool) → e.changed ≡ changed → (e.stored ≡ None) ⊎ (e.stored ≡ Some 0)
      → (e.stored ≡ None) ⊎ (e.stored ≡ (if changed then None else Some (length e.content.past)))
  by_change true is stored = inl (settled.stored is)
  by_change false is (inl none) = inl none
  by_change false is (inr zero) = inr (zero ∙ ap (λ (past : List Edit). Some (length past)) (sym (traces.unchanged is)))

-- the editor with which a run begins, before it is scrolled
abbrev begins : Data → Editor → Editor
begins d e = replay.at_replay_end (paste_ended d e)

begins_telling : (d : Data) (first : List ℕ) (e : Editor) → Traces first (work e) → IsSettled e → Tells (work (begins d e)) (work e)
begins_telling d first e traces settled =
    subst (λ (x : Editor). Tells (work (replay.at_replay_end x)) (work e)) (sym (over_none d e settled.pasted)) (end_tells first e traces settled)

end_knows : (first : List ℕ) (store : StoreState) (e : Editor) → Traces first (work e) → Knows (IsKnownIn first store) (work (replay.at_replay_end e))
end_knows first store e traces = record {
  chain = traces.chain;
  stored = by_change e.changed refl;
  unchanged = λ is. ap (λ changed. if changed then None else Some (length e.content.past)) is;
} where
  by_change : (changed : Bool) → e.changed ≡ changed
      → IfSome (if changed then None else Some (length e.content.past)) (λ k. IsKnownIn first store (version k e.content))
  by_change true is = tt
  by_change false is = subst (IsKnownIn first store) (sym (version_here e.content)) (inl (traced_text first (work e) traces is))

begins_knowing : (d : Data) (first : List ℕ) (store : StoreState) (e : Editor) → Traces first (work e) → Knows (IsKnownIn first store) (work (begins d e))
begins_knowing d first store e traces = end_knows first store (paste_ended d e) (over_traces d first e traces)

-- ---- the journal's bytes

pub kept_in_all : {J : Type 0} (contents : J → Option (List ℕ)) (failures : J → ℕ) (old new : RecorderState J) (bytes : List ℕ)
    (kept : HasKept contents failures old new bytes) (held : List ℕ) → waiting old.backlog ≡ held → new.backlog ≡ Empty → kept.appended ≡ held ++ bytes
kept_in_all contents failures old new bytes kept held was is =
    let none : kept.lost ≡ [] = kept.all (ap is_lost is) in
    sym (append-nil kept.appended)
    ∙ ap (λ xs. kept.appended ++ xs) (sym none)
    ∙ ap (λ (k : Backlog). kept.appended ++ (waiting k ++ kept.lost)) (sym is)
    ∙ sym kept.order
    ∙ ap (λ xs. xs ++ bytes) was

pub appended_to : (before after : Option (List ℕ)) (bytes all more : List ℕ) → before ≡ Some bytes → after ≡ Some all → Appends before after more → all ≡ bytes ++ more
appended_to before after bytes all more was is grows =
    subst (λ (x : Option (List ℕ)). Appends x (Some all) more) was (subst (λ (x : Option (List ℕ)). Appends before x more) is grows)

pub journal_is : {J : Type 0} (contents : J → Option (List ℕ)) (failures : J → ℕ) (old new : RecorderState J) (before bytes all : List ℕ)
    → HasKept contents failures old new bytes → HasAll contents old before → HasAll contents new all → all ≡ before ++ bytes
journal_is contents failures old new before bytes all kept had has =
    appended_to (contents old.journal) (contents new.journal) before all kept.appended had.bytes_are has.bytes_are kept.grows
    ∙ ap (λ xs. before ++ xs) (kept_in_all contents failures old new bytes kept [] (ap waiting had.none_missing) has.none_missing)

-- ---- the law

-- bytes that wait for the terminal make no difference
unsent : (d : Data) (all new replayed : Session) → new ≡ record all { pending = new.pending } → HasBack (once_pasted d all) replayed
    → HasBack (once_pasted d new) replayed
unsent d all new replayed is h = subst (λ (x : Session). HasBack (once_pasted d x) replayed) (sym is) (record {
  content = h.content;
  undo_groups = h.undo_groups;
  place = h.place;
  mark = h.mark;
  soft = h.soft;
  clicks = h.clicks;
  pressed = h.pressed;
  held = h.held;
  whole_line = h.whole_line;
  query = h.query;
  purpose = h.purpose;
  replacement = h.replacement;
  pasted = h.pasted;
  base = h.base;
  goal = h.goal;
  height = h.height;
  width = h.width;
  read_only = h.read_only;
  auto_indent = h.auto_indent;
  tab_width = h.tab_width;
  names = record {
    nameless = h.names.nameless;
    name = h.names.name;
    had_file = h.names.had_file;
    replayed_file = h.names.replayed_file;
  };
  goes_on = h.goes_on;
})

known_text : (first : List ℕ) (store : StoreState) (e : Editor) → Knows (IsKnownIn first store) (work e) → IsKnown first store e
known_text first store e h is = knows_text (IsKnownIn first store) (work e) h is

-- a replay counts as changed where the session does, once a paste has ended
tells_changes : (d : Data) (first : List ℕ) (store : StoreState) (s r : Session) → lasting s.editor ≡ lasting r.editor → Agrees first store s r
    → Traces first (work r.editor) → TellsChanges first store (once_pasted d s) (at_replay_end d r)
tells_changes d first store s r lasts agree traces =
    let tells = both_tell d s.editor r.editor lasts agree.tells in
    let traced = over_traces d first r.editor traces in record {
      changed = tells.changed;
      unchanged = λ h. (traced_text first (work (paste_ended d r.editor)) traced h, traced.unchanged h);
      known = known_text first store (paste_ended d s.editor) (over_knows d (IsKnownIn first store) s.editor agree.knows);
    }

ended_run : (d : Data) (first : List ℕ) (store : StoreState) (all new r : Session) → new.editor ≡ all.editor
    → TellsChanges first store (once_pasted d all) (at_replay_end d r) → TellsChanges first store (once_pasted d new) (at_replay_end d r)
ended_run d first store all new r same h = record {
  changed = λ is. h.changed (ap (λ (e : Editor). (paste_ended d e).changed) (sym same) ∙ is);
  unchanged = h.unchanged;
  known = subst (λ (e : Editor). IsKnown first store (paste_ended d e)) (sym same) h.known;
}

pub journals_give_back : {J : Type 0} (contents : J → Option (List ℕ)) (failures : J → ℕ) → JournalsGiveBack contents failures
journals_give_back contents failures d b new store store' reader reader' writer writer' journal journal' bytes rest run had settled has none same_file seen =
    let opened_at = at_offset d b in
    let presses = presses_from [] b.journal in
    let replayed = after_replaying d opened_at presses in
    let typed = run.0 in
    let answered = run.1 in
    let all = run.4 in
    let ran = run.5 in
    let end = after_replaying d replayed (presses_in answered) in
    let is : bytes ≡ b.journal ++ typed = journal_is contents failures journal journal' b.journal typed bytes run.6 had has in
    let whole : after_replaying d opened_at (presses_from [] bytes) ≡ end =
    ap (λ xs. after_replaying d opened_at (presses_from [] xs)) is
    ∙ ap (after_replaying d opened_at) (presses_from_both [] b.journal typed)
    ∙ replaying_more d opened_at presses (presses_from (rest_from [] b.journal) typed)
    ∙ ap (after_replaying d replayed) (sym ran.presses) in
    let waits : rest ≡ rest_from [] bytes = ran.waits ∙ sym (ap (rest_from []) is ∙ rest_from_both [] b.journal typed) in
    let same : new.editor ≡ all.editor = ap (λ (x : Session). x.editor) ran.session in
    let through = replays d b.text opened_at presses (starts d b) in
    let alike = begins_alike d b settled through.goes_on through.named in
    let on = replays d b.text replayed (presses_in answered) through in
    let first : Agrees b.text store (begun d b) replayed = record {
      tells = begins_telling d b.text replayed.editor through.traces settled;
      knows = begins_knowing d b.text store replayed.editor through.traces;
    } in
    let points = points_on d (begun d b) replayed store store' answered all alike (begins_top d b settled) ran.feeds none same_file seen in
    let follow = all_follow d (begun d b) replayed store store' answered all alike ran.feeds none same_file points in
    let agree = all_agree d b.text (begun d b) replayed store store' answered all alike first ran.feeds none same_file points in
    let back = ended_back d all end follow in
    let tells = tells_changes d b.text store' all end follow.lasts agree on.traces in (
      unsent d all new (at_replay_end d (after_replaying d opened_at (presses_from [] bytes))) ran.session
          (subst (λ (x : Session). HasBack (once_pasted d all) (at_replay_end d x)) (sym whole) back),
      subst (λ (x : Session). TellsChanges b.text store' (once_pasted d new) (at_replay_end d x)) (sym whole)
          (ended_run d b.text store' all new end same tells),
      waits,
    )
