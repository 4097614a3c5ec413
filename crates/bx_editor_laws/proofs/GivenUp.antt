-- A search that is given up.
use Rattle.std.proofs.Common.{◌≡◌, ℕ, Bool, true, false, List, [], ◌∷◌, refl, sym, ap, subst, ◌∙◌, inl, inr, ⊎_elim, if◌then◌else◌}
use Rattle.std.specs.Prelude.{◌&&◌, not, Option, Some, None}
use Rattle.bx_keys.specs.declared.key.Key.{Key}
use Rattle.bx_keys.specs.declared.key.Key.TheVariants.{Quit, Copy, Find, FindBack, Replace, Cancel}
use Rattle.bx_store.specs.declared.store.StoreFault.{StoreFault}
use Rattle.bx_ucd.specs.Data.{Data}
use Rattle.bx_editor.specs.declared.undo_groups.typing.Typing.{Typing}
use Rattle.bx_editor.specs.declared.undo_groups.typing.Typing.TheVariants as typings
use Rattle.bx_editor.specs.declared.message.Message.TheVariants.{ViewOnly}
use Rattle.bx_editor.specs.declared.questions.answers.Prompt.{Prompt}
use Rattle.bx_editor.specs.declared.questions.answers.Prompt.TheVariants as prompts
use Rattle.bx_editor.specs.declared.search_state.SearchPurpose.{SearchPurpose}
use Rattle.bx_editor.specs.declared.search_state.SearchPurpose.TheVariants as purposes
use Rattle.bx_editor.specs.declared.search_state.SearchState.{SearchState}
use Rattle.bx_editor.specs.declared.search_state.SearchState.TheVariants.{Off, Begun, Typed, WithBegun, WithTyped, Replacing}
use Rattle.bx_editor.specs.Answering.{answer_of}
use Rattle.bx_editor.specs.Asking.{without_prompt}
use Rattle.bx_editor.specs.Before.{Before, before}
use Rattle.bx_editor.specs.Editor.{Editor, cleared, unpressed, with_typing}
use Rattle.bx_editor.specs.Effects.{Refuses, Seeks, by}
use Rattle.bx_editor.specs.Functions.{is_told_key}
use Rattle.bx_editor.specs.Keys.{after_any, after_key, after_press, after_user, answered_overwrite}
use Rattle.bx_editor.specs.Keys.{as_left, changes_text, is_overwrite, refuses_replacing}
use Rattle.bx_editor.specs.Putting.{paste_begun, paste_ended, refuses_paste}
use Rattle.bx_editor.specs.Region.{unselected}
use Rattle.bx_editor.specs.Search.{after_beginning, after_giving_up}
use Rattle.bx_editor.specs.Search.{sought, without_search}
use Rattle.bx_editor_laws.specs.Laws.{after_typing, begins_anew, is_on}
use Rattle.bx_editor_laws.specs.Laws.{BeginsSearch, GivesUp, GivingUpGoesBack, IsGivenUp, StaysOn}
use Rattle.bx_editor.proofs.InSearch.{any-key, each-key}
use Rattle.bx_editor_laws.proofs.KeyEnds.{decides, no-overwrite}
use Rattle.bx_editor_laws.proofs.PasteEnded.{none-ended}
use Rattle.bx_editor_laws.proofs.SearchStaysOn.{KeepsSearch, answered-keeps, begins-none, either-keeps, either-on, ends-all, keeps-all, replacement-keeps}

-- ---- any key

any-keeps : (d : Data) (fault : Option StoreFault) (was : Before) (prompt : Prompt) (search_state : SearchState) (e : Editor) (key : Key)
    → e.prompt ≡ prompts.Off → prompt ≡ prompts.Off → is_on search_state ≡ true
    → begins_anew search_state key ≡ false → is_on (after_any d fault was prompt search_state e key).search_state ≡ true
    → KeepsSearch e (after_any d fault was prompt search_state e key)
any-keeps d fault was prompts.Off Off e key free unasked sought same on = absurd (cc sought)
any-keeps d fault was prompts.Off Begun e key free unasked sought same on =
    answered-keeps d fault was e key (answer_of key) free (ends-all d (without_search e) key) on
any-keeps d fault was prompts.Off Typed e key free unasked sought same on =
    answered-keeps d fault was e key (answer_of key) free (ends-all d (without_search e) key) on
any-keeps d fault was prompts.Off WithBegun e key free unasked sought same on =
    replacement-keeps d fault was e key (answer_of key) free (begins-none key same) (ends-all d (without_search e) key) on
any-keeps d fault was prompts.Off WithTyped e key free unasked sought same on =
    replacement-keeps d fault was e key (answer_of key) free (begins-none key same) (ends-all d (without_search e) key) on
any-keeps d fault was prompts.Off Replacing e key free unasked sought same on = absurd (cc sought)
any-keeps d fault was prompts.Line search_state e key free unasked sought same on = absurd (cc unasked)
any-keeps d fault was prompts.Name search_state e key free unasked sought same on = absurd (cc unasked)
any-keeps d fault was prompts.Code search_state e key free unasked sought same on = absurd (cc unasked)
any-keeps d fault was prompts.File search_state e key free unasked sought same on = absurd (cc unasked)
any-keeps d fault was prompts.Overwrite search_state e key free unasked sought same on = absurd (cc unasked)

user-keeps : (d : Data) (fault : Option StoreFault) (e : Editor) (key : Key) → e.prompt ≡ prompts.Off → is_on e.search_state ≡ true
    → begins_anew e.search_state key ≡ false → is_on (after_user d fault e key).search_state ≡ true → KeepsSearch e (after_user d fault e key)
user-keeps d fault e key unasked sought same on =
    let refused : Editor = by d fault (before e) (cleared e) Refuses in
    let new = after_any d fault (before e) e.prompt e.search_state (cleared e) key in
    let keeps =
    either-on (refuses_replacing e key) (cleared e) refused new
    (λ on. record { origin_is = refl; mark_is = refl; content_is = refl; prompt_is = refl; pasted_is = refl })
    (any-keeps d fault (before e) e.prompt e.search_state (cleared e) key unasked unasked sought same) on in
    record { origin_is = keeps.origin_is; mark_is = keeps.mark_is; content_is = keeps.content_is; prompt_is = keeps.prompt_is; pasted_is = keeps.pasted_is }

-- while a search is on PasteStart leaves the text, and no paste ends
begun-keeps : (e : Editor) (prompt : Prompt) (search_state : SearchState) (pasted : Option (List ℕ)) → is_on search_state ≡ true → paste_begun prompt search_state pasted e ≡ e
begun-keeps e prompts.Off Off pasted on = absurd (cc on)
begun-keeps e prompts.Off Begun pasted on = refl
begun-keeps e prompts.Off Typed pasted on = refl
begun-keeps e prompts.Off WithBegun pasted on = refl
begun-keeps e prompts.Off WithTyped pasted on = refl
begun-keeps e prompts.Off Replacing pasted on = refl
begun-keeps e prompts.Line search_state pasted on = refl
begun-keeps e prompts.Name search_state pasted on = refl
begun-keeps e prompts.Code search_state pasted on = refl
begun-keeps e prompts.File search_state pasted on = refl
begun-keeps e prompts.Overwrite search_state pasted on = refl

typing-alone : (e new : Editor) (typing : Typing) → new ≡ e → KeepsSearch e (unpressed (with_typing new typing))
typing-alone e new typing is =
    subst (λ (x : Editor). KeepsSearch e (unpressed (with_typing x typing))) (sym is)
    (record { origin_is = refl; mark_is = refl; content_is = refl; prompt_is = refl; pasted_is = refl })

key-keeps : (d : Data) (fault : Option StoreFault) (e : Editor) (key : Key) → e.prompt ≡ prompts.Off → e.pasted ≡ None → is_on e.search_state ≡ true
    → begins_anew e.search_state key ≡ false
    → is_on (after_key d fault e key).search_state ≡ true → KeepsSearch e (after_key d fault e key)
key-keeps d fault e key unasked settled sought =
    each-key d fault e (λ k new. begins_anew e.search_state k ≡ false → is_on new.search_state ≡ true → KeepsSearch e new)
    (λ height width same on. record { origin_is = refl; mark_is = refl; content_is = refl; prompt_is = refl; pasted_is = refl })
    (λ notice same on. record { origin_is = refl; mark_is = refl; content_is = refl; prompt_is = refl; pasted_is = refl })
    (λ same on. keeps-all e) (
      λ same on.
          let begun = paste_begun e.prompt e.search_state e.pasted e in
          either-keeps (refuses_paste e) e (unpressed (record e { message = Some ViewOnly })) (unpressed (with_typing begun typings.Paste))
          (record { origin_is = refl; mark_is = refl; content_is = refl; prompt_is = refl; pasted_is = refl })
          (typing-alone e begun typings.Paste (begun-keeps e e.prompt e.search_state e.pasted sought)),
      λ same on. typing-alone e (paste_ended d e) typings.Off (none-ended d e settled),
    )
    (λ k other.
    subst (λ pasted. let new = after_press d fault pasted e k in begins_anew e.search_state k ≡ false → is_on new.search_state ≡ true → KeepsSearch e new) (sym settled)
    (λ same on. user-keeps d fault e k unasked sought same on))
    key

-- ---- keys through which it stays on

on-at-first : (d : Data) (e : Editor) (typed : List (Key × Option StoreFault)) → StaysOn d e typed → is_on e.search_state ≡ true
on-at-first d e [] on = on
on-at-first d e (key ∷ typed) on = on.0

on-at-last : (d : Data) (e : Editor) (typed : List (Key × Option StoreFault)) → StaysOn d e typed
    → is_on (after_typing d e typed).search_state ≡ true
on-at-last d e [] on = on
on-at-last d e (key ∷ typed) on = on-at-last d (after_key d key.1 e key.0) typed on.1.1

typing-keeps : (d : Data) (e : Editor) (typed : List (Key × Option StoreFault)) → e.prompt ≡ prompts.Off → e.pasted ≡ None → StaysOn d e typed
    → KeepsSearch e (after_typing d e typed)
typing-keeps d e [] unasked settled on = keeps-all e
typing-keeps d e (key ∷ typed) unasked settled on =
    let next = after_key d key.1 e key.0 in
    let one = key-keeps d key.1 e key.0 unasked settled on.0 on.1.0 (on-at-first d next typed on.1.1) in
    let more = typing-keeps d next typed (one.prompt_is ∙ unasked) (one.pasted_is ∙ settled) on.1.1 in
    record {
      origin_is = more.origin_is ∙ one.origin_is;
      mark_is = more.mark_is ∙ one.mark_is;
      content_is = more.content_is ∙ one.content_is;
      prompt_is = more.prompt_is ∙ one.prompt_is;
      pasted_is = more.pasted_is ∙ one.pasted_is;
    }

-- ---- the first key and the last

same-key : (d : Data) (e : Editor) (key other : Key) (new : Editor) → key ≡ other → after_key d None e other ≡ new
    → after_key d None e key ≡ new
same-key d e key other new is done = subst (λ k. after_key d None e k ≡ new) (sym is) done

-- an editor in which a search begins
abbrev pub begun-at : SearchPurpose → Editor → Editor
begun-at purpose e = after_beginning purpose (unselected (without_prompt (cleared e)))

find-any : (d : Data) (was : Before) (prompt : Prompt) (e : Editor) → e.prompt ≡ prompt → (prompt ≡ prompts.Overwrite → ⊥)
    → after_any d None was prompt Off e Find ≡ after_beginning purposes.Find (unselected (without_prompt e))
find-any d was prompts.Off e is other = ap (λ a. record (after_beginning purposes.Find (unselected e)) { prompt = a }) is
find-any d was prompts.Line e is other = refl
find-any d was prompts.Name e is other = refl
find-any d was prompts.Code e is other = refl
find-any d was prompts.File e is other = refl
find-any d was prompts.Overwrite e is other = absurd (other refl)

find-back-any : (d : Data) (was : Before) (prompt : Prompt) (e : Editor) → e.prompt ≡ prompt → (prompt ≡ prompts.Overwrite → ⊥)
    → after_any d None was prompt Off e FindBack ≡ after_beginning purposes.Find (unselected (without_prompt e))
find-back-any d was prompts.Off e is other = ap (λ a. record (after_beginning purposes.Find (unselected e)) { prompt = a }) is
find-back-any d was prompts.Line e is other = refl
find-back-any d was prompts.Name e is other = refl
find-back-any d was prompts.Code e is other = refl
find-back-any d was prompts.File e is other = refl
find-back-any d was prompts.Overwrite e is other = absurd (other refl)

-- Replace, where the text is not only looked at
replace-by : (d : Data) (was : Before) (e : Editor) (b : Bool) → e.read_only ≡ b → b ≡ false
    → by d None was e (if changes_text Replace && e.read_only then Refuses else Seeks purposes.Replace) ≡ after_beginning purposes.Replace (unselected e)
replace-by d was e b is writes = ap (λ r. by d None was e (if r then Refuses else Seeks purposes.Replace)) (is ∙ writes)

replace-any : (d : Data) (was : Before) (prompt : Prompt) (e : Editor) → e.prompt ≡ prompt → (prompt ≡ prompts.Overwrite → ⊥) → e.read_only ≡ false
    → after_any d None was prompt Off e Replace ≡ after_beginning purposes.Replace (unselected (without_prompt e))
replace-any d was prompts.Off e is other writes =
    replace-by d was e e.read_only refl writes ∙ ap (λ a. record (after_beginning purposes.Replace (unselected e)) { prompt = a }) is
replace-any d was prompts.Line e is other writes = replace-by d was (without_prompt e) e.read_only refl writes
replace-any d was prompts.Name e is other writes = replace-by d was (without_prompt e) e.read_only refl writes
replace-any d was prompts.Code e is other writes = replace-by d was (without_prompt e) e.read_only refl writes
replace-any d was prompts.File e is other writes = replace-by d was (without_prompt e) e.read_only refl writes
replace-any d was prompts.Overwrite e is other writes = absurd (other refl)

pub find-begins : (d : Data) (e : Editor) → e.pasted ≡ None → e.search_state ≡ Off → (e.prompt ≡ prompts.Overwrite → ⊥)
    → after_key d None e Find ≡ as_left Find (begun-at purposes.Find e)
find-begins d e settled off other =
    any-key d None e Find settled refl ∙ ap (λ s. as_left Find (after_any d None (before e) e.prompt s (cleared e) Find)) off
    ∙ ap (as_left Find) (find-any d (before e) e.prompt (cleared e) refl other)

pub find-back-begins : (d : Data) (e : Editor) → e.pasted ≡ None → e.search_state ≡ Off → (e.prompt ≡ prompts.Overwrite → ⊥)
    → after_key d None e FindBack ≡ as_left FindBack (begun-at purposes.Find e)
find-back-begins d e settled off other =
    any-key d None e FindBack settled refl ∙ ap (λ s. as_left FindBack (after_any d None (before e) e.prompt s (cleared e) FindBack)) off
    ∙ ap (as_left FindBack) (find-back-any d (before e) e.prompt (cleared e) refl other)

abbrev replaced-by : Data → Editor → Bool → Editor
replaced-by d e refused =
    as_left Replace (if refused then by d None (before e) (cleared e) Refuses else after_any d None (before e) e.prompt e.search_state (cleared e) Replace)

pub replace-begins : (d : Data) (e : Editor) → e.pasted ≡ None → e.search_state ≡ Off → (e.prompt ≡ prompts.Overwrite → ⊥) → e.read_only ≡ false
    → after_key d None e Replace ≡ as_left Replace (begun-at purposes.Replace e)
replace-begins d e settled off other writes =
    any-key d None e Replace settled refl ∙ ap (λ r. replaced-by d e (r && not (is_overwrite e.prompt))) writes
    ∙ ap (λ s. as_left Replace (after_any d None (before e) e.prompt s (cleared e) Replace)) off
    ∙ ap (as_left Replace) (replace-any d (before e) e.prompt (cleared e) refl other writes)

either-off : (b : Bool) (p q : Editor) → p.search_state ≡ Off → q.search_state ≡ Off → (if b then p else q).search_state ≡ Off
either-off true p q h k = h
either-off false p q h k = k

-- where the question is whether to overwrite, and where the text is only looked at, no search begins
declined : (d : Data) (e : Editor) (key : Key) → e.pasted ≡ None → is_told_key key ≡ false → e.search_state ≡ Off → (new : Editor)
    → after_any d None (before e) e.prompt e.search_state (cleared e) key ≡ new → new.search_state ≡ Off
    → is_on (after_key d None e key).search_state ≡ true → ⊥
declined d e key settled small off new is quiet on =
    let left : (after_key d None e key).search_state ≡ Off =
    ap (λ (x : Editor). x.search_state) (any-key d None e key settled small)
    ∙ ap (λ (x : Editor). (if refuses_replacing e key then by d None (before e) (cleared e) Refuses else x).search_state) is
    ∙ either-off (refuses_replacing e key) (by d None (before e) (cleared e) Refuses) new off quiet in
    let none : false ≡ true = sym (ap is_on left) ∙ on in
    absurd (cc none)

over-any : (d : Data) (e : Editor) (key : Key) (prompt : Prompt) → prompt ≡ prompts.Overwrite
    → after_any d None (before e) prompt e.search_state (cleared e) key ≡ answered_overwrite None (before e) (cleared e) (answer_of key)
over-any d e key prompt is = ap (λ p. after_any d None (before e) p e.search_state (cleared e) key) is

looked-at : (d : Data) (e : Editor) → e.pasted ≡ None → e.search_state ≡ Off → (e.prompt ≡ prompts.Overwrite → ⊥) → e.read_only ≡ true
    → is_on (after_key d None e Replace).search_state ≡ true → ⊥
looked-at d e settled off other looked on =
    let refused : refuses_replacing e Replace ≡ true =
    ap (λ r. r && not (is_overwrite e.prompt)) looked ∙ ap not (no-overwrite e.prompt other) in
    let left : (after_key d None e Replace).search_state ≡ Off =
    ap (λ (x : Editor). x.search_state) (any-key d None e Replace settled refl ∙ ap (replaced-by d e) refused) ∙ off in
    let none : false ≡ true = sym (ap is_on left) ∙ on in
    absurd (cc none)

abbrev Begun-by : Data → Editor → Key → Type 0
Begun-by d e begin = (purpose : SearchPurpose) × (after_key d None e begin ≡ as_left Find (begun-at purpose e))

replace-is : (d : Data) (e : Editor) → e.pasted ≡ None → e.search_state ≡ Off → (e.prompt ≡ prompts.Overwrite → ⊥)
    → is_on (after_key d None e Replace).search_state ≡ true → (b : Bool) → e.read_only ≡ b → Begun-by d e Replace
replace-is d e settled off other on true looked = absurd (looked-at d e settled off other looked on)
replace-is d e settled off other on false writes = (purposes.Replace, replace-begins d e settled off other writes)

begin-is : (d : Data) (e : Editor) (begin : Key) → e.pasted ≡ None → e.search_state ≡ Off → BeginsSearch begin
    → is_on (after_key d None e begin).search_state ≡ true → Begun-by d e begin
begin-is d e begin settled off (inl is) on =
    let begun : Begun-by d e Find =
    ⊎_elim
    (λ over. absurd (declined d e Find settled refl off (without_prompt (cleared e)) (over-any d e Find e.prompt over) refl
    (subst (λ k. is_on (after_key d None e k).search_state ≡ true) is on)))
    (λ other. (purposes.Find, find-begins d e settled off other)) (decides e.prompt) in
    subst (Begun-by d e) (sym is) begun
begin-is d e begin settled off (inr (inl is)) on =
    let begun : Begun-by d e FindBack =
    ⊎_elim
    (λ over. absurd (declined d e FindBack settled refl off (without_prompt (cleared e)) (over-any d e FindBack e.prompt over) refl
    (subst (λ k. is_on (after_key d None e k).search_state ≡ true) is on)))
    (λ other. (purposes.Find, find-back-begins d e settled off other)) (decides e.prompt) in
    subst (Begun-by d e) (sym is) begun
begin-is d e begin settled off (inr (inr is)) on =
    let still = subst (λ k. is_on (after_key d None e k).search_state ≡ true) is on in
    let begun : Begun-by d e Replace =
    ⊎_elim
    (λ over. absurd (declined d e Replace settled refl off (without_prompt (cleared e)) (over-any d e Replace e.prompt over) refl still))
    (λ other. replace-is d e settled off other still e.read_only refl) (decides e.prompt) in
    subst (Begun-by d e) (sym is) begun

quit-any : (d : Data) (was : Before) (search_state : SearchState) (e : Editor) → is_on search_state ≡ true
    → after_any d None was prompts.Off search_state e Quit ≡ after_giving_up e
quit-any d was Off e on = absurd (cc on)
quit-any d was Begun e on = refl
quit-any d was Typed e on = refl
quit-any d was WithBegun e on = refl
quit-any d was WithTyped e on = refl
quit-any d was Replacing e on = absurd (cc on)

copy-any : (d : Data) (was : Before) (search_state : SearchState) (e : Editor) → is_on search_state ≡ true
    → after_any d None was prompts.Off search_state e Copy ≡ after_giving_up e
copy-any d was Off e on = absurd (cc on)
copy-any d was Begun e on = refl
copy-any d was Typed e on = refl
copy-any d was WithBegun e on = refl
copy-any d was WithTyped e on = refl
copy-any d was Replacing e on = absurd (cc on)

cancel-any : (d : Data) (was : Before) (search_state : SearchState) (e : Editor) → is_on search_state ≡ true
    → after_any d None was prompts.Off search_state e Cancel ≡ after_giving_up e
cancel-any d was Off e on = absurd (cc on)
cancel-any d was Begun e on = refl
cancel-any d was Typed e on = refl
cancel-any d was WithBegun e on = refl
cancel-any d was WithTyped e on = refl
cancel-any d was Replacing e on = absurd (cc on)

give-is : (d : Data) (e : Editor) (give : Key) → e.pasted ≡ None → e.prompt ≡ prompts.Off → is_on e.search_state ≡ true → GivesUp give
    → after_key d None e give ≡ as_left Quit (after_giving_up (cleared e))
give-is d e give settled unasked on (inl is) =
    same-key d e give Quit (as_left Quit (after_giving_up (cleared e))) is
    (any-key d None e Quit settled refl ∙ ap (λ p. as_left Quit (after_any d None (before e) p e.search_state (cleared e) Quit)) unasked
    ∙ ap (as_left Quit) (quit-any d (before e) e.search_state (cleared e) on))
give-is d e give settled unasked on (inr (inl is)) =
    same-key d e give Copy (as_left Quit (after_giving_up (cleared e))) is
    (any-key d None e Copy settled refl ∙ ap (λ p. as_left Copy (after_any d None (before e) p e.search_state (cleared e) Copy)) unasked
    ∙ ap (as_left Copy) (copy-any d (before e) e.search_state (cleared e) on))
give-is d e give settled unasked on (inr (inr is)) =
    same-key d e give Cancel (as_left Quit (after_giving_up (cleared e))) is
    (any-key d None e Cancel settled refl ∙ ap (λ p. as_left Cancel (after_any d None (before e) p e.search_state (cleared e) Cancel)) unasked
    ∙ ap (as_left Cancel) (cancel-any d (before e) e.search_state (cleared e) on))

pub giving-up-goes-back : GivingUpGoesBack
giving-up-goes-back d e begin give typed off settled begins gives on =
    let begun = after_key d None e begin in
    let last = after_typing d begun typed in
    let start = (begin-is d e begin settled off begins (on-at-first d begun typed on)).1 in
    let unasked : begun.prompt ≡ prompts.Off = ap (λ (x : Editor). x.prompt) start in
    let unpasted : begun.pasted ≡ None = ap (λ (x : Editor). x.pasted) start ∙ settled in
    let keeps = typing-keeps d begun typed unasked unpasted on in
    subst (IsGivenUp e) (sym (give-is d last give (keeps.pasted_is ∙ unpasted) (keeps.prompt_is ∙ unasked) (on-at-last d begun typed on) gives))
    (record {
      search_state_is = refl;
      place_is = keeps.origin_is ∙ ap (λ (x : Editor). x.origin) start;
      mark_is = keeps.mark_is ∙ ap (λ (x : Editor). x.mark) start;
      content_is = keeps.content_is ∙ ap (λ (x : Editor). x.content) start;
    })
