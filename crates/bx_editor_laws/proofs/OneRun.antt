-- Characters that go on with each other are one undo group, which one Undo takes back.
use Rattle.std.proofs.Common.{◌≡◌, ℕ, zero, suc, ◌+◌, ◌-◌, ◌≤◌, ◌<◌, Bool, true, false, List, [], ◌∷◌, ◌++◌, length, map, replicate, take, drop}
use Rattle.std.proofs.Common.{refl, sym, ap}
use Rattle.std.proofs.Common.{ap₂, subst, ◌∙◌, arith, inl, inr, if◌then◌else◌, length-append}
use Rattle.std.specs.Prelude.{◌≢◌, ◌⊎◌, ◌==◌, ◌&&◌, not, nat_le, encode_utf8, encode_utf8_all, Option, Some, None}
use Rattle.std.specs.Fn.{iterate}
use Rattle.std.proofs.lemmas.Bool.{eqb-true}
use Rattle.std.proofs.lemmas.Bool.Decides.{nat_tests}
use Rattle.std.proofs.lemmas.List.{length-drop, length-take}
use Rattle.std.proofs.lemmas.List.Elements.{All-head, All-tail}
use Rattle.bx_common.specs.Characters.{largest_text}
use Rattle.bx_keys.specs.declared.key.Key.TheVariants.{Insert, PasteEnd, Undo}
use Rattle.bx_text.specs.Edits.{Edit, Edited, splice}
use Rattle.bx_document.specs.declared.history.HistoryStep.TheVariants as steps
use Rattle.bx_editor.specs.undo_groups.Groups.{edited, run_start, after_insertion, goes_on, kind_of}
use Rattle.bx_editor.specs.declared.undo_groups.typing.Kind.{Kind}
use Rattle.bx_editor.specs.declared.undo_groups.typing.Kind.TheVariants.{Blank, Letter}
use Rattle.bx_editor.specs.declared.undo_groups.typing.Typing.{Typing}
use Rattle.bx_editor.specs.declared.undo_groups.typing.Typing.TheVariants as typings
use Rattle.bx_editor.proofs.undo_groups_lemmas.RunLaws.{edit-is-of-its-run}
use Rattle.bx_ucd.specs.Data.{Data}
use Rattle.bx_editor.specs.declared.questions.answers.Prompt.{Prompt}
use Rattle.bx_editor.specs.declared.questions.answers.Prompt.TheVariants as prompts
use Rattle.bx_editor.specs.declared.message.Message.TheVariants.{TextFull, ViewOnly}
use Rattle.bx_editor.specs.declared.search_state.SearchState.{SearchState}
use Rattle.bx_editor.specs.declared.search_state.SearchState.TheVariants as search_states
use Rattle.bx_editor.specs.declared.cursor.Soft.TheVariants as softness
use Rattle.bx_editor.specs.Editor.{Editor, cleared, unpressed, with_insertion, with_removal, with_typing, group_length}
use Rattle.bx_editor.specs.Keys.{after_key, after_press, as_left}
use Rattle.bx_editor.specs.Functions.{after_keys}
use Rattle.bx_editor.specs.PasteLaws.{after_paste}
use Rattle.bx_editor.specs.Putting.{after_paste_start, ended_with, is_free, longer, spaces_on, units_in_line, paste_begun, pasted_with, pastes_crlf, with_pasted}
use Rattle.bx_editor.specs.Putting.{without_paste, after_character, has_room, only_paste, put_in, typed, with_selection_replaced, yielding}
use Rattle.bx_editor.specs.Region.{is_empty, region, is_selection, is_soft}
use Rattle.bx_editor_laws.specs.RunLaws.{AreOfKind, AreTyped, IsBackBefore, WordIsARun}
use Rattle.bx_editor.proofs.ManySteps.{back, undone-back, version}
use Rattle.bx_editor.proofs.Pasted.{ended-none}
use Rattle.bx_editor.proofs.EffectsKept.{start-keeps}
use Rattle.bx_editor_laws.proofs.KeyEnds.{DoesWork, free-done}
use Rattle.bx_editor_laws.proofs.RunKeys.{undo-run}

-- ---- the latest edits

-- before its latest `n` edits the editor had text, place and past of `first`
abbrev pub IsOver : Editor → ℕ → List ℕ → ℕ → List Edit → Type 0
IsOver first zero text place past = (text ≡ first.content.text) × ((place ≡ first.place) × (past ≡ first.content.past))
IsOver first (suc n) text place [] = true ≡ false
IsOver first (suc n) text place (edit ∷ past) = IsOver first n edit.before.text edit.before.place past

over-length : (first : Editor) (n : ℕ) (text : List ℕ) (place : ℕ) (past : List Edit) → IsOver first n text place past
    → length past ≡ n + length first.content.past
over-length first zero text place past h = ap length h.1.1 ∙ omega arith
over-length first (suc n) text place [] h = absurd (cc h)
over-length first (suc n) text place (edit ∷ past) h = omega (arith, over-length first n edit.before.text edit.before.place past h)

over-back : (first : Editor) (n : ℕ) (text : List ℕ) (place : ℕ) (past future : List Edit) → IsOver first n text place past
    → let at = iterate back n (version text past future, place) in
    (at.0.text ≡ first.content.text) × ((at.1 ≡ first.place) × (at.0.past ≡ first.content.past))
over-back first zero text place past future h = h
over-back first (suc n) text place [] future h = absurd (cc h)
over-back first (suc n) text place (edit ∷ past) future h = over-back first n edit.before.text edit.before.place past (edit ∷ future) h

-- at least one edit, of one undo group that began at `first`
pub record Going (first : Editor) (t : Edited) (place : ℕ) (runs : List ℕ) : Type 0 where
  pub more : ℕ
  pub over : IsOver first (suc more) t.text place t.past
  pub start : run_start runs (length t.past) ≡ length first.content.past

abbrev pub IsOneRun : Editor → Editor → Type 0
IsOneRun first e = Going first e.content e.place e.undo_groups

undo-going : (d : Data) (first e : Editor) (text : List ℕ) (past future : List Edit) → DoesWork e
    → let now : Editor = record e { content = version text past future } in IsOneRun first now
    → IsBackBefore first (after_key d None now Undo)
undo-going d first e text [] future works h = let no = h.over in absurd (cc no)
undo-going d first e text (edit ∷ past) future works h =
    let t : Edited = version text (edit ∷ past) future in
    let now : Editor = record e { content = t } in
    let n = h.more in
    let long : group_length steps.Undo now ≡ suc n = omega (arith, over-length first (suc n) text e.place (edit ∷ past) h.over, h.start) in
    let ran = undo-run d e n text edit past future works long in
    let led = over-back first (suc n) text e.place (edit ∷ past) future h.over in
    let all = undone-back (suc n) t e.place in
    record {
      text_is = ap (λ (x : Editor). x.content.text) ran ∙ ap (λ (x : Edited). x.text) all ∙ led.0;
      past_is = ap (λ (x : Editor). x.content.past) ran ∙ ap (λ (x : Edited). x.past) all ∙ led.1.1;
      unmarked = record { place_is = ap (λ (x : Editor). x.place) ran ∙ led.1.0; mark_is = ap (λ (x : Editor). x.mark) ran };
    }

-- from any history
pub goes-back : (d : Data) (first e : Editor) → DoesWork e → IsOneRun first e → IsBackBefore first (after_key d None e Undo)
goes-back d first e works h = undo-going d first e e.content.text e.content.past e.content.future works h

-- ---- an edit

abbrev pub Nothing : Editor → Editor → Type 0
Nothing first e = IsOver first 0 e.content.text e.place e.content.past

next : (runs : List ℕ) (n : ℕ) (on : Bool) → run_start (edited runs n on) (suc n) ≡ (if on then run_start runs n else n)
next runs n on = let same : suc n ≡ n + 1 = omega arith in ap (run_start (edited runs n on)) same ∙ edit-is-of-its-run runs n on

pub insertion-begins : (d : Data) (first e : Editor) (new : List ℕ) → Nothing first e → IsOneRun first (with_insertion d e new false)
insertion-begins d first e new h = record {
  more = 0;
  over = h;
  start = next e.undo_groups (length e.content.past) false ∙ ap length h.1.1;
}

pub removal-begins : (d : Data) (first e : Editor) (start stop : ℕ) → Nothing first e → IsOneRun first (with_removal d e start stop false)
removal-begins d first e start stop h = record {
  more = 0;
  over = h;
  start = next e.undo_groups (length e.content.past) false ∙ ap length h.1.1;
}

insertion-goes : (d : Data) (first e : Editor) (new : List ℕ) → IsOneRun first e → IsOneRun first (with_insertion d e new true)
insertion-goes d first e new h = record {
  more = suc h.more;
  over = h.over;
  start = next e.undo_groups (length e.content.past) true ∙ h.start;
}

pub replacement-begins : (d : Data) (first e : Editor) (new : List ℕ) → Nothing first e → IsOneRun first (with_selection_replaced d e new)
replacement-begins d first e new h =
    insertion-goes d first (with_removal d e (region e).0 (region e).1 false) new (removal-begins d first e (region e).0 (region e).1 h)

-- ---- a typed character

-- what is typed, by whether there is room, whether a selection gives way, and whether the edit goes on
abbrev shaped : Data → Typing → Editor → List ℕ → Kind → Bool → Bool → Bool → Editor
shaped d typing e new kind room selected on =
    record (if room then (if selected then with_selection_replaced d e new else with_insertion d e new on) else record e { message = Some TextFull }) {
      typing = if room then after_insertion kind else only_paste typing;
    }

pub insert-is : (d : Data) (e : Editor) (c : ℕ) → e.pasted ≡ None → e.prompt ≡ prompts.Off → e.search_state ≡ search_states.Off → e.read_only ≡ false
    → after_key d None e (Insert c) ≡ as_left (Insert c) (after_character d e.typing (cleared e) c)
insert-is d e c settled unasked off writes = free-done d None e (Insert c) settled refl refl unasked off writes

pub no-selection : (e : Editor) → e.soft ≡ softness.Off → is_selection e ≡ false
no-selection e off = ap (λ s. is_soft s && not (is_empty (region e))) off

-- ---- a paste

-- while a paste is under way nothing of it is in the text
record Waits (first e : Editor) : Type 0 where
  pub nothing : Nothing first e
  pub list : List ℕ
  pub pasted : e.pasted ≡ Some list

begun-waits : (first e : Editor) (pasted : Option (List ℕ)) → e.pasted ≡ pasted → Nothing first e
    → Waits first (unpressed (with_typing (paste_begun prompts.Off search_states.Off pasted e) typings.Paste))
begun-waits first e None is h = record { nothing = h; list = []; pasted = refl }
begun-waits first e (Some list) is h = record { nothing = h; list = list; pasted = is }

-- how a paste starts, by whether it is refused, what is asked and what is sought
abbrev started : Editor → Bool → Prompt → SearchState → Editor
started e refused prompt search_state =
    if refused
    then unpressed (record e { message = Some ViewOnly })
    else unpressed (with_typing (paste_begun prompt search_state e.pasted e) typings.Paste)

pub start-is : (e : Editor) → e.prompt ≡ prompts.Off → e.search_state ≡ search_states.Off → e.read_only ≡ false
    → after_paste_start e ≡ started e false prompts.Off search_states.Off
start-is e unasked off writes =
    ap (λ r. started e (r && is_free e.prompt e.search_state e.pasted) e.prompt e.search_state) writes
    ∙ ap₂ (started e false) unasked off

start-waits : (first e : Editor) → e.prompt ≡ prompts.Off → e.search_state ≡ search_states.Off → e.read_only ≡ false → Nothing first e
    → Waits first (after_paste_start e)
start-waits first e unasked off writes h =
    subst (Waits first) (sym (start-is e unasked off writes)) (begun-waits first e e.pasted refl h)

letter-waits : (d : Data) (first e : Editor) (c : ℕ) → Waits first e → Waits first (after_key d None e (Insert c))
letter-waits d first e c h =
    let is_crlf = pastes_crlf d e.content.text c in
    subst (Waits first) (sym (ap (λ pasted. after_press d None pasted e (Insert c)) h.pasted))
    (record { nothing = h.nothing; list = longer is_crlf h.list c; pasted = ap (λ pasted. pasted_with is_crlf pasted c) h.pasted })

-- nothing was put in, or edits of one undo group were made
abbrev InRun : Editor → Editor → Type 0
InRun first e = Nothing first e ⊎ IsOneRun first e

-- whichever it is
by-cases : (P : Editor → Type 0) (b : Bool) (p q : Editor) → P p → P q → P (if b then p else q)
by-cases P true p q h k = h
by-cases P false p q h k = k

list-in : (d : Data) (first e : Editor) (list : List ℕ) → Nothing first e → InRun first (unpressed (with_typing (with_pasted d e list) typings.Off))
list-in d first e list h =
    let left = without_paste e in
    let two = with_selection_replaced d left list in
    let one = with_insertion d left list false in
    let P = λ (new : Editor). InRun first (unpressed (with_typing new typings.Off)) in
    let replaced = replacement-begins d first left list h in
    let begun = insertion-begins d first left list h in
    by-cases P (length list == 0) left (put_in d left list false) (inl h)
    (by-cases P (has_room left list) (if is_selection left then two else one) (record left { message = Some TextFull })
    (by-cases P (is_selection left) two one (inr (record { more = replaced.more; over = replaced.over; start = replaced.start }))
    (inr (record { more = begun.more; over = begun.over; start = begun.start })))
    (inl h))

paste-ends : (d : Data) (first e : Editor) (cs : List ℕ) → Waits first e
    → InRun first (after_keys d None e (map Insert cs ++ PasteEnd ∷ []))
paste-ends d first e [] h =
    subst (λ pasted. InRun first (unpressed (with_typing (ended_with d e pasted) typings.Off))) (sym h.pasted) (list-in d first e h.list h.nothing)
paste-ends d first e (c ∷ cs) h = paste-ends d first (after_key d None e (Insert c)) cs (letter-waits d first e c h)

-- no paste is under way after one
pub paste-over : (d : Data) (e : Editor) (cs : List ℕ) → (after_keys d None e (map Insert cs ++ PasteEnd ∷ [])).pasted ≡ None
paste-over d e [] = ended-none d e e.pasted refl
paste-over d e (c ∷ cs) = paste-over d (after_key d None e (Insert c)) cs

paste-back : (d : Data) (first e : Editor) → DoesWork e → InRun first e → length first.content.past < length e.content.past
    → IsBackBefore first (after_key d None e Undo)
paste-back d first e works (inl h) more = absurd (omega (arith, more, over-length first 0 e.content.text e.place e.content.past h))
paste-back d first e works (inr h) more = goes-back d first e works h

-- behind a paste nothing is asked, and the text may be changed as before
abbrev IsOpen : Editor → Type 0
IsOpen e = (e.prompt ≡ prompts.Off) × (e.read_only ≡ false)

list-open : (d : Data) (e : Editor) (pasted : Option (List ℕ)) → IsOpen e → IsOpen (ended_with d e pasted)
list-open d e None h = h
list-open d e (Some list) h =
    let left = without_paste e in
    let two = with_selection_replaced d left list in
    let one = with_insertion d left list false in
    by-cases IsOpen (length list == 0) left (put_in d left list false) h
    (by-cases IsOpen (has_room left list) (if is_selection left then two else one) (record left { message = Some TextFull })
    (by-cases IsOpen (is_selection left) two one h h) h)

letter-open : (d : Data) (e : Editor) (c : ℕ) (pasted : Option (List ℕ)) → e.pasted ≡ pasted → (pasted ≡ None → ⊥) → IsOpen e
    → IsOpen (after_press d None pasted e (Insert c))
letter-open d e c None is some h = absurd (some refl)
letter-open d e c (Some list) is some h = h

paste-open : (d : Data) (first e : Editor) (cs : List ℕ) → Waits first e → IsOpen e → IsOpen (after_keys d None e (map Insert cs ++ PasteEnd ∷ []))
paste-open d first e [] waits h = list-open d e e.pasted h
paste-open d first e (c ∷ cs) waits h =
    paste-open d first (after_key d None e (Insert c)) cs (letter-waits d first e c waits)
    (letter-open d e c e.pasted refl (λ none. let both = sym none ∙ waits.pasted in cc both) h)

pub paste-works : (d : Data) (e : Editor) (cs : List ℕ) → e.prompt ≡ prompts.Off → e.search_state ≡ search_states.Off → e.read_only ≡ false
    → DoesWork (after_paste d e cs)
paste-works d e cs unasked off writes =
    let begun = after_paste_start e in
    let waits = start-waits e e unasked off writes (refl, (refl, refl)) in
    let begun-open : IsOpen begun =
    start-keeps IsOpen (record { pasted = λ x pasted message typing h. h; lengthened = λ x pasted soft h. h; unpressed = λ x h. h }) e (unasked, writes) in
    let left = paste-open d e begun cs waits begun-open in
    record { settled = paste-over d begun cs; other = λ over. let both = sym left.0 ∙ over in cc both; writes = left.1 }

pub paste-is-a-run : (d : Data) (e : Editor) (cs : List ℕ) → e.prompt ≡ prompts.Off → e.search_state ≡ search_states.Off → e.read_only ≡ false
    → length e.content.past < length (after_paste d e cs).content.past → IsBackBefore e (after_key d None (after_paste d e cs) Undo)
paste-is-a-run d e cs unasked off writes more =
    let begun = after_paste_start e in
    paste-back d e (after_paste d e cs) (paste-works d e cs unasked off writes)
    (paste-ends d e begun cs (start-waits e e unasked off writes (refl, (refl, refl)))) more

-- ---- a word and the blanks behind it

-- an edit went on, and there is room for more
record Types (first e : Editor) (typing : Typing) (left : ℕ) : Type 0 where
  pub goes : IsOneRun first e
  pub typing_is : e.typing ≡ typing
  pub prompt : e.prompt ≡ prompts.Off
  pub search_state : e.search_state ≡ search_states.Off
  pub soft : e.soft ≡ softness.Off
  pub settled : e.pasted ≡ None
  pub writes : e.read_only ≡ false
  pub width : e.tab_width ≡ first.tab_width
  pub room : length e.content.text + left ≤ largest_text

short-fits : (size start stop new limit : ℕ) → size + new ≤ limit → nat_le (size - (stop - start) + new) limit ≡ true
short-fits size start stop new limit few = grind (arith, nat_tests, few)

room-for : (e : Editor) (new : List ℕ) (left : ℕ) → length e.content.text + (length new + left) ≤ largest_text → has_room e new ≡ true
room-for e new left few =
    short-fits (length e.content.text) (yielding e).0 (yielding e).1 (length new) largest_text (omega (arith, few))

spliced : (text : List ℕ) (start stop : ℕ) (new : List ℕ) → start ≤ stop → length (splice text start stop new) ≤ length text + length new
spliced text start stop new order =
    omega (arith, length-append (take start text ++ new) (drop stop text), length-append (take start text) new, length-take start text, length-drop stop text, order)

-- a character that is no tab that becomes spaces
no-tab : (tab none : Bool) (p q r : Editor) → (tab && not none) ≡ false → (tab ≡ true → p ≡ r) → (if tab then (if none then p else q) else r) ≡ r
no-tab true true p q r plain same = same refl
no-tab true false p q r plain same = absurd (cc plain)
no-tab false none p q r plain same = refl

pub character-is : (d : Data) (typing : Typing) (e : Editor) (c : ℕ) (kind : Kind) → ((c == 0x9) && not (e.tab_width == 0)) ≡ false
    → kind_of (d.class c) ≡ kind → after_character d typing e c ≡ typed d typing e (encode_utf8 c) kind
character-is d typing e c kind plain is =
    let one : ℕ → Editor = λ k. typed d typing e (encode_utf8 k) (kind_of (d.class k)) in
    no-tab (c == 0x9) (e.tab_width == 0) (one 0x9)
    (typed d typing e (replicate (spaces_on e.tab_width (units_in_line d e (yielding e).0)) 0x20) Blank) (one c) plain
    (λ tab. ap one (sym (eqb-true c 0x9 tab)))
    ∙ ap (typed d typing e (encode_utf8 c)) is

typed-is : (d : Data) (typing : Typing) (e : Editor) (new : List ℕ) (kind : Kind) → has_room e new ≡ true → is_selection e ≡ false
    → goes_on typing kind ≡ true → typed d typing e new kind ≡ shaped d typing e new kind true false true
typed-is d typing e new kind room none on =
    ap (λ r. shaped d typing e new kind r (is_selection e) (goes_on typing kind)) room
    ∙ ap (λ s. shaped d typing e new kind true s (goes_on typing kind)) none ∙ ap (shaped d typing e new kind true false) on

type-on : (d : Data) (first e : Editor) (c : ℕ) (typing : Typing) (kind : Kind) (left : ℕ) → goes_on typing kind ≡ true
    → ((c == 0x9) && not (first.tab_width == 0)) ≡ false → kind_of (d.class c) ≡ kind
    → Types first e typing (length (encode_utf8 c) + left) → Types first (after_key d None e (Insert c)) (after_insertion kind) left
type-on d first e c typing kind left on plain is h =
    let was = cleared e in
    let new = encode_utf8 c in
    let there : after_key d None e (Insert c) ≡ as_left (Insert c) (shaped d typing was new kind true false true) =
    insert-is d e c h.settled h.prompt h.search_state h.writes
    ∙ ap (as_left (Insert c)) (ap (λ t. after_character d t was c) h.typing_is
    ∙ character-is d typing was c kind (ap (λ w. (c == 0x9) && not (w == 0)) h.width ∙ plain) is
    ∙ typed-is d typing was new kind (room-for was new left h.room) (no-selection was h.soft) on) in
    let goes = insertion-goes d first was new (record { more = h.goes.more; over = h.goes.over; start = h.goes.start }) in
    subst (λ (x : Editor). Types first x (after_insertion kind) left) (sym there)
    (record {
      goes = record { more = goes.more; over = goes.over; start = goes.start };
      typing_is = refl;
      prompt = h.prompt;
      search_state = refl;
      soft = refl;
      settled = h.settled;
      writes = h.writes;
      width = h.width;
      room = omega (arith, h.room, spliced e.content.text e.place e.place new (omega arith));
    })

first-typed : (d : Data) (first e : Editor) (c : ℕ) (left : ℕ) (selected : Bool) → e.pasted ≡ None → Nothing first e → e.prompt ≡ prompts.Off
    → e.read_only ≡ false → e.tab_width ≡ first.tab_width
    → length e.content.text + (length (encode_utf8 c) + left) ≤ largest_text
    → Types first (as_left (Insert c) (shaped d typings.Off e (encode_utf8 c) Letter true selected false)) typings.Word left
first-typed d first e c left true settled h unasked writes width room =
    let new = encode_utf8 c in
    let goes = replacement-begins d first e new h in
    let without = with_removal d e (region e).0 (region e).1 false in
    let order : (region e).0 ≤ (region e).1 = omega arith in
    record {
      goes = record { more = goes.more; over = goes.over; start = goes.start };
      typing_is = refl;
      prompt = unasked;
      search_state = refl;
      soft = refl;
      settled = settled;
      writes = writes;
      width = width;
      room = omega (
        arith,
        room,
        spliced e.content.text (region e).0 (region e).1 [] order,
        spliced without.content.text without.place without.place new (omega arith),
      );
    }
first-typed d first e c left false settled h unasked writes width room =
    let new = encode_utf8 c in
    let goes = insertion-begins d first e new h in
    record {
      goes = record { more = goes.more; over = goes.over; start = goes.start };
      typing_is = refl;
      prompt = unasked;
      search_state = refl;
      soft = refl;
      settled = settled;
      writes = writes;
      width = width;
      room = omega (arith, room, spliced e.content.text e.place e.place new (omega arith));
    }

type-first : (d : Data) (e : Editor) (c : ℕ) (left : ℕ) → e.pasted ≡ None → e.prompt ≡ prompts.Off → e.search_state ≡ search_states.Off → e.typing ≡ typings.Off
    → e.read_only ≡ false → ((c == 0x9) && not (e.tab_width == 0)) ≡ false → kind_of (d.class c) ≡ Letter
    → length e.content.text + (length (encode_utf8 c) + left) ≤ largest_text → Types e (after_key d None e (Insert c)) typings.Word left
type-first d e c left settled unasked off none writes plain is room =
    let was = cleared e in
    let new = encode_utf8 c in
    let there : after_key d None e (Insert c) ≡ as_left (Insert c) (shaped d typings.Off was new Letter true (is_selection was) false) =
    insert-is d e c settled unasked off writes
    ∙ ap (as_left (Insert c)) (ap (λ t. after_character d t was c) none ∙ character-is d typings.Off was c Letter plain is
    ∙ ap (λ r. shaped d typings.Off was new Letter r (is_selection was) false) (room-for was new left room)) in
    subst (λ (x : Editor). Types e x typings.Word left) (sym there) (first-typed d e was c left (is_selection was) settled (refl, (refl, refl)) unasked writes refl room)

with-size : (first e : Editor) (typing : Typing) (c : ℕ) (cs : List ℕ) → Types first e typing (length (encode_utf8_all (c ∷ cs)))
    → Types first e typing (length (encode_utf8 c) + length (encode_utf8_all cs))
with-size first e typing c cs h = subst (Types first e typing) (length-append (encode_utf8 c) (encode_utf8_all cs)) h

-- what was typed is one undo group, and no paste is under way
abbrev Ran : Editor → Editor → Type 0
Ran first e = IsOneRun first e × DoesWork e

ran : (first e : Editor) (typing : Typing) (left : ℕ) → Types first e typing left → Ran first e
ran first e typing left h =
    (h.goes, record { settled = h.settled; other = λ over. let both = sym h.prompt ∙ over in cc both; writes = h.writes })

-- no tab among them becomes spaces
abbrev Plain : Editor → ℕ → Type 0
Plain first c = ((c == 0x9) && not (first.tab_width == 0)) ≡ false

blanks-on : (d : Data) (first e : Editor) (cs : List ℕ) → AreOfKind d Blank cs → AreTyped first cs → Types first e typings.Blanks (length (encode_utf8_all cs))
    → Ran first (after_keys d None e (map Insert cs))
blanks-on d first e [] all plain h = ran first e typings.Blanks 0 h
blanks-on d first e (c ∷ cs) all plain h =
    let Is = λ (c : ℕ). kind_of (d.class c) ≡ Blank in
    blanks-on d first (after_key d None e (Insert c)) cs (All-tail Is c cs all) (All-tail (Plain first) c cs plain)
    (type-on d first e c typings.Blanks Blank (length (encode_utf8_all cs)) refl (All-head (Plain first) c cs plain) (All-head Is c cs all) (with-size first e typings.Blanks c cs h))

blanks-behind : (d : Data) (first e : Editor) (cs : List ℕ) → AreOfKind d Blank cs → AreTyped first cs
    → Types first e typings.Word (length (encode_utf8_all cs))
    → Ran first (after_keys d None e (map Insert cs))
blanks-behind d first e [] all plain h = ran first e typings.Word 0 h
blanks-behind d first e (c ∷ cs) all plain h =
    let Is = λ (c : ℕ). kind_of (d.class c) ≡ Blank in
    blanks-on d first (after_key d None e (Insert c)) cs (All-tail Is c cs all) (All-tail (Plain first) c cs plain)
    (type-on d first e c typings.Word Blank (length (encode_utf8_all cs)) refl (All-head (Plain first) c cs plain) (All-head Is c cs all) (with-size first e typings.Word c cs h))

letters-on : (d : Data) (first e : Editor) (cs blanks : List ℕ) → AreOfKind d Letter cs → AreOfKind d Blank blanks
    → AreTyped first (cs ++ blanks) → Types first e typings.Word (length (encode_utf8_all (cs ++ blanks))) → Ran first (after_keys d None e (map Insert (cs ++ blanks)))
letters-on d first e [] blanks all behind plain h = blanks-behind d first e blanks behind plain h
letters-on d first e (c ∷ cs) blanks all behind plain h =
    let Is = λ (c : ℕ). kind_of (d.class c) ≡ Letter in
    letters-on d first (after_key d None e (Insert c)) cs blanks (All-tail Is c cs all) behind (All-tail (Plain first) c (cs ++ blanks) plain)
    (type-on d first e c typings.Word Letter (length (encode_utf8_all (cs ++ blanks))) refl (All-head (Plain first) c (cs ++ blanks) plain)
    (All-head Is c cs all)
    (with-size first e typings.Word c (cs ++ blanks) h))

word-goes : (d : Data) (e : Editor) (letters blanks : List ℕ) → e.pasted ≡ None → e.prompt ≡ prompts.Off → e.search_state ≡ search_states.Off
    → e.typing ≡ typings.Off → e.read_only ≡ false → letters ≢ [] → AreOfKind d Letter letters → AreOfKind d Blank blanks → AreTyped e (letters ++ blanks)
    → length e.content.text + length (encode_utf8_all (letters ++ blanks)) ≤ largest_text
    → Ran e (after_keys d None e (map Insert (letters ++ blanks)))
word-goes d e [] blanks settled unasked off none writes some all behind plain room = absurd (some refl)
word-goes d e (c ∷ cs) blanks settled unasked off none writes some all behind plain room =
    let Is = λ (c : ℕ). kind_of (d.class c) ≡ Letter in
    let left = length (encode_utf8_all (cs ++ blanks)) in
    letters-on d e (after_key d None e (Insert c)) cs blanks (All-tail Is c cs all) behind (All-tail (Plain e) c (cs ++ blanks) plain)
    (type-first d e c left settled unasked off none writes (All-head (Plain e) c (cs ++ blanks) plain) (All-head Is c cs all)
    (omega (arith, room, length-append (encode_utf8 c) (encode_utf8_all (cs ++ blanks)))))

pub word-is-a-run : WordIsARun
word-is-a-run d e letters blanks unasked off settled none writes word plain room =
    let new = after_keys d None e (map Insert (letters ++ blanks)) in
    let goes = word-goes d e letters blanks settled unasked off none writes word.some word.are_letters word.are_blanks plain room in
    goes-back d e new goes.1 goes.0
