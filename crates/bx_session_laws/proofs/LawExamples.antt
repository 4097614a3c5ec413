-- Worked examples, each from a law alone.
use Rattle.std.proofs.Common.{◌≡◌, ℕ, Bool, true, false, not, List, [], ◌∷◌, ◌++◌, Option, Some, None, Result, Err, take, refl, sym, ap, subst, ◌∙◌, inl, inr}
use Rattle.std.specs.Global.{Vec}
use Rattle.std.specs.Prelude.{◌≢◌, ◌&&◌, All, codes}
use Rattle.std.specs.Fmt.{digits}
use Rattle.std.proofs.lemmas.List.{append-nil, append_cancel_right}
use Rattle.std.proofs.lemmas.List.Elements.{All-cons, All-nil}
use Rattle.unicode_segmentation.proofs.Computing.{unicode_segmentation}
use Rattle.unicode_width.proofs.Computing.{unicode_width}
use Rattle.bx_common.specs.declared.base.Base.TheVariants.{Auto}
use Rattle.bx_keys.specs.declared.key.Key.{Key}
use Rattle.bx_keys.specs.declared.key.Key.TheVariants.{Insert, Save, UndoEdit, Up}
use Rattle.bx_store.specs.Stores.{no_faults}
use Rattle.bx_text.specs.Edits.{Edited}
use Rattle.bx_editor.specs.Editor.{Editor}
use Rattle.bx_editor.specs.Functions.{HasRows}
use Rattle.bx_editor.specs.Settings.{plain}
use Rattle.bx_editor.proofs.Computed.{tables, ascii_columns}
use Rattle.bx_session.specs.declared.status.Refused.{Refused}
use Rattle.bx_session.specs.declared.status.Refused.TheVariants.{Edit, Paint}
use Rattle.bx_session.specs.declared.status.Status.{Status}
use Rattle.bx_session.specs.declared.journal.Backlog.TheVariants.{Empty, Waiting}
use Rattle.bx_session_laws.specs.Anew.{AlwaysStaysPainted}
use Rattle.bx_session.specs.Beginning.{Beginning, at_offset, begun, unpainted_at}
use Rattle.bx_session.specs.Journal.{RecorderState, RunsRecorded}
use Rattle.bx_session.specs.Laws.{AlwaysShowsState, HasKeysOfInput, ReplaysKeys, after_journal, after_replaying}
use Rattle.bx_session_laws.specs.Recovery.{FindsNoChange, HasAll, HasBackMidway, HaveRows, IsSettled, JournalsGiveBack, PointsAsSeen, RecoveryGivesBack, RefusesNoKey}
use Rattle.bx_session_laws.specs.Recovery.{RefusesNoPainting, rests_on_top, once_pasted}
use Rattle.bx_session.specs.Running.{PressAnswer, PressesAll, presses_in}
use Rattle.bx_session.specs.Session.{StoreState, Session, after_press, after_sending, owing_after_press, with_painting}
use Rattle.bx_session.specs.Inputs.{keys_in, presses_from}
use Rattle.bx_session.proofs.Computed.{start, csi}
use Rattle.bx_session_laws.proofs.GivenBack.{journal_is}
use Rattle.bx_session_laws.proofs.RecoveredParts.{has_back}

abbrev opened : Session
opened = start (codes "ab") 1 5

pub the_letter_is_painted : AlwaysShowsState
    → (after_press tables None opened (Some (Insert 0x78))).painted ≡ Some (record { height = 1; width = 5; columns = ascii_columns (codes "xab  "); row = 0; column = 1 })
unfolding unicode_segmentation unicode_width digits
the_letter_is_painted law = (law.press tables None opened (Some (Insert 0x78)) (law.opening tables (codes "ab") 1 5 Auto) refl).0

-- all 22 bytes of the opening's painting were sent
pub nothing_is_sent_anew : AlwaysStaysPainted → (with_painting tables (after_sending opened 22)).pending ≡ []
unfolding unicode_segmentation unicode_width digits
nothing_is_sent_anew law =
    let has : HasRows opened.editor = record { text = (codes "ab", (refl, refl)); columns = refl } in
    ap (λ (s : Session). s.pending) (law.sending tables opened 22 (law.opening tables (codes "ab") 1 5 Auto has) refl)

pub a_letter_and_an_arrow : HasKeysOfInput → keys_in (presses_from [] (0x61 ∷ csi (codes "A"))) ≡ Insert 0x61 ∷ Up ∷ []
a_letter_and_an_arrow law = law (0x61 ∷ csi (codes "A"))

-- a, Save, Quit, b
pub saves_and_quits_are_passed_over : ReplaysKeys
    → (after_replaying tables (start (codes "x") 1 5) (presses_from [] (0x61 ∷ 0x13 ∷ 0x11 ∷ 0x62 ∷ []))).editor.content.text ≡ codes "abx"
unfolding unicode_segmentation unicode_width digits
saves_and_quits_are_passed_over law = ap (λ (e : Editor). e.content.text) (law tables (start (codes "x") 1 5) (presses_from [] (0x61 ∷ 0x13 ∷ 0x11 ∷ 0x62 ∷ [])) refl)

-- ---- recovery

-- no key rests on a row of the picture
abbrev none_point : List Key → Bool
none_point [] = true
none_point (key ∷ keys) = not (rests_on_top key) && none_point keys

first_no : (b c : Bool) → (not b && c) ≡ true → (b ≡ false) × (c ≡ true)
first_no true c h = absurd (cc h)
first_no false c h = (refl, h)

no_points : (keys : List Key) → none_point keys ≡ true → All (λ (key : Key). rests_on_top key ≡ false) keys
no_points [] h = All-nil (λ (key : Key). rests_on_top key ≡ false)
no_points (key ∷ keys) h =
    let both = first_no (rests_on_top key) (none_point keys) h in
    All-cons (λ (key : Key). rests_on_top key ≡ false) key keys both.0 (no_points keys both.1)

no_points_in : (presses pressed : List (Option Key)) → presses ≡ pressed → none_point (keys_in pressed) ≡ true
    → All (λ (key : Key). rests_on_top key ≡ false) (keys_in presses)
no_points_in presses pressed is none =
    subst (λ xs. All (λ (key : Key). rests_on_top key ≡ false) (keys_in xs)) (sym is) (no_points (keys_in pressed) none)

-- a session's text once a paste that is under way has ended
abbrev text_of : Session → List ℕ
text_of s = (once_pasted tables s).editor.content.text

-- a, Save, b, UndoEdit
abbrev input : List (Option Key)
input = Some (Insert 0x61) ∷ Some Save ∷ Some (Insert 0x62) ∷ Some UndoEdit ∷ []

abbrev fed : Result Status Refused → Result Status Refused → Result Status Refused → Result Status Refused → List PressAnswer
fed a save b undo = (Some (Insert 0x61), a) ∷ (Some Save, save) ∷ (Some (Insert 0x62), b) ∷ (Some UndoEdit, undo) ∷ []

-- a session that was fed them and refused no key has the text of their replay, whatever its other answers
pub a_save_is_no_end_of_the_past : RecoveryGivesBack → (store store' : StoreState) (a save b undo : Result Status Refused) (new : Session)
    → (feeds : PressesAll tables (start (codes "x") 1 5) store (fed a save b undo) new store') → RefusesNoKey (fed a save b undo)
    → FindsNoChange tables (start (codes "x") 1 5) store (fed a save b undo) new store' feeds → text_of new ≡ codes "ax"
unfolding unicode_segmentation unicode_width digits
a_save_is_no_end_of_the_past law store store' a save b undo new feeds none same =
    let keys = no_points_in (presses_in (fed a save b undo)) input refl refl in
    ap (λ (t : Edited). t.text) (sym (law.gives_back tables (codes "x") 1 5 Auto store store' (fed a save b undo) new feeds none same (inl keys)).content)

-- Forward, Mark, Forward, Copy, Mark
abbrev marked : List (Option Key)
marked = presses_from [] ((0x06 ∷ csi (codes "72~")) ++ (0x06 ∷ csi (codes "73~")) ++ csi (codes "72~"))

-- a session that was fed them over abc has the mark and the held bytes of their replay
pub mark_and_held_bytes_come_back : RecoveryGivesBack → (store store' : StoreState) (answered : List PressAnswer) (new : Session)
    → presses_in answered ≡ marked → (feeds : PressesAll tables (start (codes "abc") 1 5) store answered new store') → RefusesNoKey answered
    → FindsNoChange tables (start (codes "abc") 1 5) store answered new store' feeds
    → ((once_pasted tables new).editor.mark ≡ Some 2) × ((once_pasted tables new).editor.held ≡ codes "b")
unfolding unicode_segmentation unicode_width digits
mark_and_held_bytes_come_back law store store' answered new fed_them feeds none same =
    let opened_at = start (codes "abc") 1 5 in
    let keys = no_points_in (presses_in answered) marked fed_them refl in
    let back = law.gives_back tables (codes "abc") 1 5 Auto store store' answered new feeds none same (inl keys) in (
      sym back.mark ∙ ap (λ bytes. (after_journal tables opened_at bytes).editor.mark) fed_them,
      sym back.held ∙ ap (λ bytes. (after_journal tables opened_at bytes).editor.held) fed_them,
    )

-- such a session exists: one whose paintings were all refused
abbrev unpainted : List (Option Key) → List PressAnswer
unpainted [] = []
unpainted (key ∷ more) = (key, Err Paint) ∷ unpainted more

none_refused : (presses : List (Option Key)) → RefusesNoKey (unpainted presses)
none_refused [] = All-nil (λ (a : PressAnswer). a.1 ≢ Err Edit)
none_refused (key ∷ more) = All-cons (λ (a : PressAnswer). a.1 ≢ Err Edit) (key, Err Paint) (unpainted more) (λ e. cc e) (none_refused more)

abbrev owing : List (Option Key) → Session → Session
owing [] s = s
owing (key ∷ more) s = owing more (owing_after_press tables None s key)

abbrev of_x : List (Option Key) → Session
of_x presses = owing presses (start (codes "x") 1 5)

abbrev storing : List ℕ → StoreState
storing text = record { contents = Some text; faults = no_faults }

is_fed : PressesAll tables (start (codes "x") 1 5) (storing []) (unpainted input) (of_x input) (storing (codes "ax"))
unfolding unicode_segmentation unicode_width digits
is_fed = (
  of_x (take 1 input),
  storing [],
  refl,
  (None, refl, (refl, refl)),
  (λ prompts. tt),
  (
    of_x (take 2 input),
    storing (codes "ax"),
    refl,
    (None, refl, (refl, refl)),
    (λ prompts. tt),
    (
      of_x (take 3 input),
      storing (codes "ax"),
      refl,
      (None, refl, (refl, refl)),
      (λ prompts. tt),
      (of_x input, storing (codes "ax"), refl, (None, refl, (refl, refl)), (λ prompts. tt), (refl, refl)),
    ),
  ),
)

no_change : FindsNoChange tables (start (codes "x") 1 5) (storing []) (unpainted input) (of_x input) (storing (codes "ax")) is_fed
unfolding is_fed
no_change = (λ saves. refl, (λ saves. refl, (λ saves. refl, (λ saves. refl, tt))))

has_text : text_of (of_x input) ≡ codes "ax"
unfolding unicode_segmentation unicode_width digits
has_text = refl

-- the replay of what a session was fed has its text
replays_to : RecoveryGivesBack → (store store' : StoreState) (answered : List PressAnswer) (new : Session)
    → (feeds : PressesAll tables (start (codes "x") 1 5) store answered new store') → RefusesNoKey answered
    → FindsNoChange tables (start (codes "x") 1 5) store answered new store' feeds
    → All (λ (key : Key). rests_on_top key ≡ false) (keys_in (presses_in answered))
    → (after_journal tables (start (codes "x") 1 5) (presses_in answered)).editor.content.text ≡ text_of new
replays_to law store store' answered new feeds none same keys =
    ap (λ (t : Edited). t.text) (law.gives_back tables (codes "x") 1 5 Auto store store' answered new feeds none same (inl keys)).content

pub its_replay_gives_the_text_back : RecoveryGivesBack → (after_journal tables (start (codes "x") 1 5) input).editor.content.text ≡ codes "ax"
its_replay_gives_the_text_back law =
    let fed_them : presses_in (unpainted input) ≡ input = refl in
    ap (λ bytes. (after_journal tables (start (codes "x") 1 5) bytes).editor.content.text) (sym fed_them)
    ∙ replays_to law (storing []) (storing (codes "ax")) (unpainted input) (of_x input) is_fed (none_refused input) no_change
    (no_points_in (presses_in (unpainted input)) input refl refl)
    ∙ has_text

-- where the session refused b when memory ran out, its replay has abx
pub a_refused_key_is_applied : RecoveryGivesBack → (after_replaying tables (start (codes "x") 1 5) (presses_from [] (0x61 ∷ 0x62 ∷ []))).editor.content.text ≡ codes "abx"
unfolding unicode_segmentation unicode_width digits
a_refused_key_is_applied law = ap (λ (e : Editor). e.content.text) (law.applies_all tables (codes "x") 1 5 Auto (0x61 ∷ 0x62 ∷ []))

-- recovered after a, painted, and fed b
pub a_recovered_session_goes_on : RecoveryGivesBack → (store store' : StoreState) (b : Result Status Refused) (new : Session)
    → (feeds : PressesAll tables (with_painting tables (after_replaying tables (start (codes "x") 1 5) (Some (Insert 0x61) ∷ []))) store ((Some (Insert 0x62), b) ∷ []) new store')
    → RefusesNoKey ((Some (Insert 0x62), b) ∷ [])
    → FindsNoChange tables (with_painting tables (after_replaying tables (start (codes "x") 1 5) (Some (Insert 0x61) ∷ []))) store ((Some (Insert 0x62), b) ∷ []) new store' feeds
    → new.editor.content.text ≡ codes "abx"
unfolding unicode_segmentation unicode_width digits
a_recovered_session_goes_on law store store' b new feeds none same_file =
    let replayed = after_replaying tables (start (codes "x") 1 5) (Some (Insert 0x61) ∷ []) in
    let same : HasBackMidway (with_painting tables replayed) replayed =
    has_back (with_painting tables replayed) replayed (record {
      lasts = refl;
      goes_on = refl;
      one = λ asked. refl;
      alone = λ some. (refl, refl);
      names = record { nameless = refl; name = λ off. absurd (cc off); had_file = λ on. refl; replayed_file = λ on. refl };
    }) in
    ap (λ (t : Edited). t.text)
    (sym (law.keeps_up tables (with_painting tables replayed) replayed store store' ((Some (Insert 0x62), b) ∷ []) new same feeds none same_file
    (record { painted = refl; top = λ on. refl }) (inl (no_points (Insert 0x62 ∷ []) refl))).parts.content)

-- PasteStart and c, over ab; the paste is not over yet
abbrev pasting : List (Option Key)
pasting = presses_from [] (csi (codes "90~") ++ codes "c")

pub an_open_paste_comes_back : RecoveryGivesBack → (store store' : StoreState) (answered : List PressAnswer) (new : Session)
    → presses_in answered ≡ pasting → (feeds : PressesAll tables (start (codes "ab") 1 5) store answered new store') → RefusesNoKey answered
    → FindsNoChange tables (start (codes "ab") 1 5) store answered new store' feeds → text_of new ≡ codes "cab"
unfolding unicode_segmentation unicode_width digits
an_open_paste_comes_back law store store' answered new fed_them feeds none same =
    let keys = no_points_in (presses_in answered) pasting fed_them refl in
    let back = law.gives_back tables (codes "ab") 1 5 Auto store store' answered new feeds none same (inl keys) in
    ap (λ (t : Edited). t.text) (sym back.content)
    ∙ ap (λ bytes. (after_journal tables (start (codes "ab") 1 5) bytes).editor.content.text) fed_them

-- Point at the second column of the first row, then c
abbrev pointing : List (Option Key)
pointing = presses_from [] (csi (codes "7;1;2t") ++ codes "c")

pub a_row_pointed_at_comes_back : RecoveryGivesBack → (store store' : StoreState) (answered : List PressAnswer) (new : Session)
    → presses_in answered ≡ pointing → (feeds : PressesAll tables (start (codes "ab") 1 5) store answered new store') → RefusesNoKey answered
    → FindsNoChange tables (start (codes "ab") 1 5) store answered new store' feeds → RefusesNoPainting answered → HaveRows tables (start (codes "ab") 1 5) store answered new store' feeds → text_of new ≡ codes "acb"
unfolding unicode_segmentation unicode_width digits
a_row_pointed_at_comes_back law store store' answered new fed_them feeds none same paints have =
    let back = law.gives_back tables (codes "ab") 1 5 Auto store store' answered new feeds none same (inr (paints, have)) in
    ap (λ (t : Edited). t.text) (sym back.content)
    ∙ ap (λ bytes. (after_journal tables (start (codes "ab") 1 5) bytes).editor.content.text) fed_them

-- ---- from a journal

-- a row of five columns over ab
abbrev over_ab : Beginning
over_ab = record { text = codes "ab"; height = 1; width = 5; base = Auto; settings = plain; clipboard = false; offset = None; unsaved = false; journal = [] }

abbrev replay_of : List ℕ → Session
replay_of bytes = unpainted_at tables (record over_ab { journal = bytes })

-- before any key
settled : IsSettled (after_replaying tables (at_offset tables over_ab) (presses_from [] over_ab.journal)).editor
settled = record { search_state = refl; prompt = refl; pasted = refl; typing = refl; stored = λ h. absurd (cc h) }

module _ {J : Type 0} (contents : J → Option (List ℕ)) (failures : J → ℕ) (law : JournalsGiveBack contents failures) (new : Session)
    (store store' : StoreState) (writer writer' : Option (List ℕ)) (journal journal' : RecorderState J) (rest : List ℕ) where
  abbrev Ran : Option (List ℕ) → Option (List ℕ) → Type 0
  Ran reader reader' = RunsRecorded contents failures tables [] rest (begun tables over_ab) new store store' reader reader' writer writer' journal journal'

  -- no save found the file changed
  abbrev SameFile : (reader reader' : Option (List ℕ)) → Ran reader reader' → Type 0
  SameFile reader reader' run = FindsNoChange tables (begun tables over_ab) store run.1 run.4 store' run.5.feeds

  -- where no key of the journal rests on a row of the picture
  seen : (reader reader' : Option (List ℕ)) (run : Ran reader reader') (bytes : List ℕ) → HasAll contents journal [] → HasAll contents journal' bytes
      → none_point (keys_in (presses_from [] bytes)) ≡ true → PointsAsSeen tables (begun tables over_ab) store run.1 run.4 store' run.5.feeds
  unfolding unicode_segmentation unicode_width digits
  seen reader reader' run bytes had has none =
      inl (no_points_in (presses_in run.1) (presses_from [] bytes)
      (run.5.presses ∙ ap (presses_from []) (sym (journal_is contents failures journal journal' [] run.0 bytes run.6 had has))) none)

  -- x, Save, y; then the session was killed
  pub a_killed_session_comes_back : (reader reader' : Option (List ℕ)) (run : Ran reader reader') → HasAll contents journal []
      → HasAll contents journal' (0x78 ∷ 0x13 ∷ 0x79 ∷ []) → RefusesNoKey run.1 → SameFile reader reader' run → text_of new ≡ codes "xyab"
  unfolding unicode_segmentation unicode_width digits
  a_killed_session_comes_back reader reader' run had has none same =
      let bytes = 0x78 ∷ 0x13 ∷ 0x79 ∷ [] in
      let given = law tables over_ab new store store' reader reader' writer writer' journal journal' bytes rest run had settled has none same
      (seen reader reader' run bytes had has refl) in
      ap (λ (t : Edited). t.text) (sym given.0.content)

  -- Forward: no key edited
  pub an_unedited_text_is_the_opened_one : (reader reader' : Option (List ℕ)) (run : Ran reader reader') → HasAll contents journal []
      → HasAll contents journal' (0x06 ∷ []) → RefusesNoKey run.1 → SameFile reader reader' run → let e = (once_pasted tables new).editor in
      (e.content.text ≡ codes "ab") × (e.content.past ≡ []) × (e.changed ≢ true)
  unfolding unicode_segmentation unicode_width digits
  an_unedited_text_is_the_opened_one reader reader' run had has none same =
      let given = law tables over_ab new store store' reader reader' writer writer' journal journal' (0x06 ∷ []) rest run had settled has none same
      (seen reader reader' run (0x06 ∷ []) had has refl) in
      let unchanged = given.1.unchanged refl in (
        ap (λ (t : Edited). t.text) (sym given.0.content) ∙ unchanged.0,
        ap (λ (t : Edited). t.past) (sym given.0.content) ∙ unchanged.1,
        λ h. absurd (let both : false ≡ true = given.1.changed h in cc both),
      )

  -- of x, Quit, Quit and z, all read at once, z was dropped
  pub what_follows_the_end_does_not_come_back : (run : Ran (Some (0x78 ∷ 0x11 ∷ 0x11 ∷ 0x7a ∷ [])) (Some [])) → run.2 ≡ 0x7a ∷ [] → (bytes : List ℕ)
      → HasAll contents journal [] → HasAll contents journal' bytes → RefusesNoKey run.1
      → SameFile (Some (0x78 ∷ 0x11 ∷ 0x11 ∷ 0x7a ∷ [])) (Some []) run → (text_of new ≡ codes "xab") × ((replay_of bytes).editor.content.text ≡ codes "xab")
  unfolding unicode_segmentation unicode_width digits
  what_follows_the_end_does_not_come_back run dropped bytes had has none same =
      let all = Some (0x78 ∷ 0x11 ∷ 0x11 ∷ 0x7a ∷ []) in
      let fed : run.0 ≡ 0x78 ∷ 0x11 ∷ 0x11 ∷ [] =
      append_cancel_right run.0 (0x78 ∷ 0x11 ∷ 0x11 ∷ []) (0x7a ∷ [])
      (ap (λ xs. run.0 ++ xs) (sym dropped) ∙ sym (append-nil (run.0 ++ run.2)) ∙ sym run.5.reads) in
      let is : bytes ≡ 0x78 ∷ 0x11 ∷ 0x11 ∷ [] = journal_is contents failures journal journal' [] run.0 bytes run.6 had has ∙ fed in
      let text : (replay_of bytes).editor.content.text ≡ codes "xab" = ap (λ xs. (replay_of xs).editor.content.text) is in
      let none_points : none_point (keys_in (presses_from [] bytes)) ≡ true = ap (λ xs. none_point (keys_in (presses_from [] xs))) is in
      let given = law tables over_ab new store store' all (Some []) writer writer' journal journal' bytes rest run had settled has none same
      (seen all (Some []) run bytes had has none_points) in
      (ap (λ (t : Edited). t.text) (sym given.0.content) ∙ text, text)

-- while bytes wait, the law says nothing
pub a_waiting_backlog_claims_nothing : {J : Type 0} (contents : J → Option (List ℕ)) (recorder : RecorderState J) (held : Vec ℕ) (bytes : List ℕ)
    → recorder.backlog ≡ Waiting held → HasAll contents recorder bytes → ⊥
a_waiting_backlog_claims_nothing contents recorder held bytes waits has = absurd (let both : Waiting held ≡ Empty = sym waits ∙ has.none_missing in cc both)
