-- Whatever is typed, a match is shown only where the query stands.
use Rattle.std.proofs.lemmas.Bool.Decides.{nat_tests}
use Rattle.std.proofs.Common.{◌≡◌, ℕ, ◌≤◌, Bool, true, false, List, [], ◌∷◌, Option, Some, None, unwrap_or, refl, sym, ap, subst, ◌∙◌, inl, if◌then◌else◌, arith}
use Rattle.std.specs.Prelude.{find, nat_le, reverse, IsUtf8}
use Rattle.bx_common.specs.Characters.{is_side}
use Rattle.bx_keys.specs.declared.key.Key.{Key}
use Rattle.bx_keys.specs.declared.key.Key.TheVariants.{Insert, Repaint}
use Rattle.bx_store.specs.declared.store.StoreFault.{StoreFault}
use Rattle.bx_ucd.specs.Data.{Data}
use Rattle.bx_editor.specs.declared.questions.answers.Prompt.{Prompt}
use Rattle.bx_editor.specs.declared.questions.answers.Prompt.TheVariants as prompts
use Rattle.bx_view.specs.Moves.{place_at}
use Rattle.bx_view.proofs.TextPlaces.{places-are}
use Rattle.bx_editor.specs.declared.search_state.SearchState.{SearchState}
use Rattle.bx_editor.specs.declared.search_state.SearchState.TheVariants.{Off, Begun, Typed, WithBegun, WithTyped, Replacing}
use Rattle.bx_editor.specs.declared.answer.Answer.{Answer}
use Rattle.bx_editor.specs.declared.answer.Answer.TheVariants.{Letter, Erases, Moves, PutsIn, Passes, GoesBack, Next, Previous, Replaces, Scrolls, Stays, Ends}
use Rattle.bx_editor.specs.Answering.{answer_of, without_line}
use Rattle.bx_editor.specs.Asking.{without_prompt}
use Rattle.bx_editor.specs.Before.{Before, before}
use Rattle.bx_editor.specs.Editor.{Editor, at_start, cleared, rows, with_insertion, with_size, with_typing}
use Rattle.bx_editor.specs.Effects.{Refuses, by}
use Rattle.bx_editor.specs.Functions.{HasRows}
use Rattle.bx_editor.specs.InputLines.{is_no_letter, line_lengthened}
use Rattle.bx_editor.specs.Keys.{after_any, after_asking, after_in_paste, after_key, after_press, after_pressing, after_user}
use Rattle.bx_editor.specs.Keys.{answered_overwrite, refuses_replacing}
use Rattle.bx_editor.specs.LinePuts.{after_line_put, typed_in, typed_in_search}
use Rattle.bx_editor.specs.Origin.{asks_replacement}
use Rattle.bx_editor_laws.specs.Laws.{after_typing}
use Rattle.bx_editor.specs.Putting.{after_paste_start, paste_ended, without_paste, is_paste, with_selection_replaced}
use Rattle.bx_editor_laws.specs.ReplaceLaws.{HaveRows, ShownStands}
use Rattle.bx_editor.specs.Replacing.{replacement_line, replacement_typed, with_replacement}
use Rattle.bx_editor.specs.Saving.{after_deciding}
use Rattle.bx_editor.specs.Search.{kept, longest_query}
use Rattle.bx_editor.proofs.EffectsKept.{start-keeps}
use Rattle.bx_editor.proofs.InSearch.{each-key}
use Rattle.bx_editor.proofs.LinePutsKept.{line-put-keeps}
use Rattle.bx_editor.proofs.QuestionSteps.{name-keeps, question-keeps}
use Rattle.bx_editor.proofs.Saved.{deciding-keeps}
use Rattle.bx_editor_laws.proofs.PasteAlone.{free-in-paste, key-alone, IsAlone}
use Rattle.bx_editor_laws.proofs.PasteEnded.{ended-by}
use Rattle.bx_editor_laws.proofs.QuietSearch.{is_quiet, IsQuiet}
use Rattle.bx_editor_laws.proofs.ShownSearches.{IsNear, IsSound, IsThere, Stands, answer-sound, either-quiet, match-sound, pressed-quiet, put-quiet, quiet-kept}
use Rattle.bx_editor_laws.proofs.ShownSearches.{quiet-sound, replacement-sound, saving-quiet, wheel-quiet}

-- ---- the held text in the replacement

-- the replacement is asked for, and nothing else
abbrev IsReplaced : Data → Editor → Type 0
IsReplaced d e = IsNear d e × ((e.prompt ≡ prompts.Off) × (asks_replacement e.search_state ≡ true))

replaced-by : (d : Data) (e : Editor) (c : ℕ) → IsReplaced d e → IsReplaced d (replacement_typed d e c)
replaced-by d e c h =
    let longer = line_lengthened d longest_query (kept e.search_state (replacement_line e)) c in
    elim (is_no_letter d c) as (λ b. IsReplaced d (if b then e else with_replacement e longer)) [ true ↦ h | false ↦ (h.0, (h.1.0, refl)) ]

replaced-in : (d : Data) (search_state : SearchState) (e : Editor) (c : ℕ) → e.search_state ≡ search_state → IsReplaced d e
    → IsReplaced d (typed_in_search d search_state e c)
replaced-in d Off e c is h = h
replaced-in d Begun e c is h = let no : false ≡ true = sym (ap asks_replacement is) ∙ h.1.1 in absurd (cc no)
replaced-in d Typed e c is h = let no : false ≡ true = sym (ap asks_replacement is) ∙ h.1.1 in absurd (cc no)
replaced-in d WithBegun e c is h = replaced-by d e c h
replaced-in d WithTyped e c is h = replaced-by d e c h
replaced-in d Replacing e c is h = h

replaced-typed : (d : Data) (e : Editor) (c : ℕ) → IsReplaced d e → IsReplaced d (typed_in d e.prompt e.search_state e c)
replaced-typed d e c h =
    subst (λ p. IsReplaced d (typed_in d p e.search_state e c)) (sym h.1.0) (replaced-in d e.search_state e c refl h)

put-replaced : (d : Data) (e : Editor) → IsReplaced d e → IsReplaced d (after_line_put d e)
put-replaced d e h = line-put-keeps d (IsReplaced d) (record { cleared = λ x k. k; told = λ x k. k; typed = replaced-typed d }) e h

stands-near : (d : Data) (e : Editor) (search_state : SearchState) → asks_replacement search_state ≡ true → IsNear d e → Stands d e search_state
stands-near d e Off is near = absurd (cc is)
stands-near d e Begun is near = absurd (cc is)
stands-near d e Typed is near = absurd (cc is)
stands-near d e WithBegun is near = near
stands-near d e WithTyped is near = near
stands-near d e Replacing is near = absurd (cc is)

put-sound : (d : Data) (e : Editor) → e.prompt ≡ prompts.Off → asks_replacement e.search_state ≡ true → IsNear d e → IsSound d (after_line_put d e)
put-sound d e unasked is near =
    let new = after_line_put d e in
    let left = put-replaced d e (near, (unasked, is)) in
    (λ asked. absurd (asked left.1.0), stands-near d new new.search_state left.1.1 left.0)

-- ---- while something is asked

question-quiet : (d : Data) (fault : Option StoreFault) (was : Before) (prompt : Prompt) (e : Editor) (key : Key) → IsQuiet e → IsQuiet (after_asking d fault was prompt e key)
question-quiet d fault was prompts.Off e key h =
    question-keeps d IsQuiet (quiet-kept d) fault was e key (answer_of key) h (pressed-quiet d fault was (without_prompt e) key refl)
    (λ way. wheel-quiet d was e way h) (put-quiet d e h)
question-quiet d fault was prompts.Line e key h =
    question-keeps d IsQuiet (quiet-kept d) fault was e key (answer_of key) h (pressed-quiet d fault was (without_prompt e) key refl)
    (λ way. wheel-quiet d was e way h) (put-quiet d e h)
question-quiet d fault was prompts.Name e key h =
    name-keeps d IsQuiet (quiet-kept d) fault was e key (without_line (answer_of key)) h (pressed-quiet d fault was (without_prompt e) key refl)
    (λ way. wheel-quiet d was e way h)
question-quiet d fault was prompts.Code e key h =
    question-keeps d IsQuiet (quiet-kept d) fault was e key (answer_of key) h (pressed-quiet d fault was (without_prompt e) key refl)
    (λ way. wheel-quiet d was e way h) (put-quiet d e h)
question-quiet d fault was prompts.File e key h =
    question-keeps d IsQuiet (quiet-kept d) fault was e key (answer_of key) h (pressed-quiet d fault was (without_prompt e) key refl)
    (λ way. wheel-quiet d was e way h) (put-quiet d e h)
question-quiet d fault was prompts.Overwrite e key h = over-quiet (answer_of key)
  where
    over-quiet : (one : Answer) → IsQuiet (answered_overwrite fault was e one)
    over-quiet (Letter c) =
        either-quiet (is_paste was.typing) (with_typing e was.typing) (after_deciding fault (without_prompt e) c) h
        (deciding-keeps IsQuiet saving-quiet fault (without_prompt e) c refl)
    over-quiet Stays = h
    over-quiet (Erases how) = refl
    over-quiet (Moves m) = refl
    over-quiet PutsIn = refl
    over-quiet Passes = refl
    over-quiet GoesBack = refl
    over-quiet Next = refl
    over-quiet Previous = refl
    over-quiet Replaces = refl
    over-quiet (Scrolls way) = refl
    over-quiet Ends = refl

-- ---- any key

asked-then : (d : Data) (fault : Option StoreFault) (was : Before) (prompt : Prompt) (e : Editor) (key : Key) → e.prompt ≡ prompt → (prompt ≡ prompts.Off → ⊥)
    → IsSound d e → IsSound d (after_asking d fault was prompt e key)
asked-then d fault was prompt e key asked some h =
    quiet-sound d (after_asking d fault was prompt e key) (question-quiet d fault was prompt e key (h.0 (λ off. some (sym asked ∙ off))))

any-sound : (d : Data) (fault : Option StoreFault) (was : Before) (prompt : Prompt) (search_state : SearchState) (e : Editor) (key : Key) → e.prompt ≡ prompt → e.search_state ≡ search_state
    → IsUtf8 e.content.text → IsUtf8 (after_any d fault was prompt search_state e key).content.text → IsSound d e → IsSound d (after_any d fault was prompt search_state e key)
any-sound d fault was prompts.Off Off e key unasked is u v h =
    quiet-sound d (after_pressing d fault was e key) (pressed-quiet d fault was e key (ap is_quiet is))
any-sound d fault was prompts.Off Begun e key unasked is u v h = answer-sound d e u unasked fault was key (answer_of key) (ap is_quiet is)
any-sound d fault was prompts.Off Typed e key unasked is u v h = answer-sound d e u unasked fault was key (answer_of key) (ap is_quiet is)
any-sound d fault was prompts.Off WithBegun e key unasked is u v h =
    let near : IsNear d e = subst (Stands d e) is h.1 in
    replacement-sound d e u unasked fault was key (answer_of key) near h (put-sound d e unasked (ap asks_replacement is) near)
any-sound d fault was prompts.Off WithTyped e key unasked is u v h =
    let near : IsNear d e = subst (Stands d e) is h.1 in
    replacement-sound d e u unasked fault was key (answer_of key) near h (put-sound d e unasked (ap asks_replacement is) near)
any-sound d fault was prompts.Off Replacing e key unasked is u v h =
    let there : IsThere d e = subst (Stands d e) is h.1 in match-sound d e u unasked fault was key (without_line (answer_of key)) there.0 v h
any-sound d fault was prompts.Line search_state e key asked is u v h = asked-then d fault was prompts.Line e key asked (λ off. cc off) h
any-sound d fault was prompts.Name search_state e key asked is u v h = asked-then d fault was prompts.Name e key asked (λ off. cc off) h
any-sound d fault was prompts.Code search_state e key asked is u v h = asked-then d fault was prompts.Code e key asked (λ off. cc off) h
any-sound d fault was prompts.File search_state e key asked is u v h = asked-then d fault was prompts.File e key asked (λ off. cc off) h
any-sound d fault was prompts.Overwrite search_state e key asked is u v h = asked-then d fault was prompts.Overwrite e key asked (λ off. cc off) h

either-utf8 : (d : Data) (b : Bool) (p q : Editor) → (IsUtf8 p.content.text → IsSound d p) → (IsUtf8 q.content.text → IsSound d q)
    → IsUtf8 (if b then p else q).content.text → IsSound d (if b then p else q)
either-utf8 d true p q h k v = h v
either-utf8 d false p q h k v = k v

user-sound : (d : Data) (fault : Option StoreFault) (e : Editor) (key : Key) → IsUtf8 e.content.text → IsUtf8 (after_user d fault e key).content.text → IsSound d e
    → IsSound d (after_user d fault e key)
user-sound d fault e key u v h =
    either-utf8 d (refuses_replacing e key) (by d fault (before e) (cleared e) Refuses) (after_any d fault (before e) e.prompt e.search_state (cleared e) key)
    (λ w. h) (λ w. any-sound d fault (before e) e.prompt e.search_state (cleared e) key refl refl u w h) v

-- ---- another width

side-some : (n : ℕ) → is_side n ≡ true → 1 ≤ n
side-some n h = grind (arith, nat_tests, h)

module _ (d : Data) (e : Editor) (height width : ℕ) (old : HasRows e) (side : is_side width ≡ true) where
  abbrev wide : Editor
  wide = with_size e height width

  same-place : (at : ℕ) → place_at (rows d e) at ≡ place_at (rows d wide) at
  same-place at =
      let text = e.content.text in
      let same = places-are d e.base e.width (side-some e.width old.columns) text old.text
      ∙ sym (places-are d e.base width (side-some width side) text old.text) in
      ap (λ ps. unwrap_or (find (λ p. nat_le p at) (reverse ps)) 0) same

  sized-stands : (search_state : SearchState) → Stands d e search_state → Stands d wide search_state
  sized-stands Off h = tt
  sized-stands Begun h = tt
  sized-stands Typed h = tt
  sized-stands WithBegun h = (h.0, (h.1.0, h.1.1, h.1.2 ∙ same-place h.1.0))
  sized-stands WithTyped h = (h.0, (h.1.0, h.1.1, h.1.2 ∙ same-place h.1.0))
  sized-stands Replacing h = (h.0, (h.1.0, h.1.1 ∙ same-place e.at))

-- ---- a paste, in which no search is on

-- outside a search no key shows a match, whatever the text
quiet-any : (d : Data) (fault : Option StoreFault) (was : Before) (prompt : Prompt) (search_state : SearchState) (e : Editor) (key : Key) → e.search_state ≡ search_state → search_state ≡ Off
    → IsQuiet (after_any d fault was prompt search_state e key)
quiet-any d fault was prompts.Off Off e key is off = pressed-quiet d fault was e key (ap is_quiet is)
quiet-any d fault was prompts.Off Begun e key is off = absurd (cc off)
quiet-any d fault was prompts.Off Typed e key is off = absurd (cc off)
quiet-any d fault was prompts.Off WithBegun e key is off = absurd (cc off)
quiet-any d fault was prompts.Off WithTyped e key is off = absurd (cc off)
quiet-any d fault was prompts.Off Replacing e key is off = absurd (cc off)
quiet-any d fault was prompts.Line search_state e key is off = question-quiet d fault was prompts.Line e key (ap is_quiet (is ∙ off))
quiet-any d fault was prompts.Name search_state e key is off = question-quiet d fault was prompts.Name e key (ap is_quiet (is ∙ off))
quiet-any d fault was prompts.Code search_state e key is off = question-quiet d fault was prompts.Code e key (ap is_quiet (is ∙ off))
quiet-any d fault was prompts.File search_state e key is off = question-quiet d fault was prompts.File e key (ap is_quiet (is ∙ off))
quiet-any d fault was prompts.Overwrite search_state e key is off = question-quiet d fault was prompts.Overwrite e key (ap is_quiet (is ∙ off))

quiet-user : (d : Data) (fault : Option StoreFault) (e : Editor) (key : Key) → e.search_state ≡ Off → IsQuiet (after_user d fault e key)
quiet-user d fault e key off =
    either-quiet (refuses_replacing e key) (by d fault (before e) (cleared e) Refuses) (after_any d fault (before e) e.prompt e.search_state (cleared e) key)
    (ap is_quiet off) (quiet-any d fault (before e) e.prompt e.search_state (cleared e) key refl off)

ended-off : (d : Data) (e : Editor) → e.search_state ≡ Off → (paste_ended d e).search_state ≡ Off
ended-off d e off = ended-by d e (λ (x : Editor). x.search_state ≡ Off) off off (λ list. refl) (λ list. refl) off

quiet-in-paste : (d : Data) (fault : Option StoreFault) (e : Editor) (key : Key) → e.search_state ≡ Off → IsQuiet (after_in_paste d fault e key)
quiet-in-paste d fault e (Insert c) off = ap is_quiet off
quiet-in-paste d fault e Repaint off = quiet-user d fault e Repaint off
quiet-in-paste d fault e key off = quiet-user d fault (paste_ended d e) key (ended-off d e off)

press-sound : (d : Data) (fault : Option StoreFault) (e : Editor) (key : Key) (pasted : Option (List ℕ)) → e.pasted ≡ pasted → IsAlone e → IsUtf8 e.content.text
    → IsUtf8 (after_press d fault pasted e key).content.text → IsSound d e → IsSound d (after_press d fault pasted e key)
press-sound d fault e key None is alone u v h = user-sound d fault e key u v h
press-sound d fault e key (Some list) is alone u v h =
    quiet-sound d (after_in_paste d fault e key) (quiet-in-paste d fault e key (free-in-paste e list is alone).1)

-- a paste may begin, or end
begun-sound : (d : Data) (e : Editor) → IsSound d e → IsSound d (after_paste_start e)
begun-sound d e h =
    start-keeps (IsSound d) (record { pasted = λ e pasted message typing h. h; lengthened = λ e pasted soft h. h; unpressed = λ e h. h }) e h

end-sound-by : (d : Data) (e : Editor) → IsSound d e → IsSound d (paste_ended d e)
end-sound-by d e h =
    let left = without_paste e in
    ended-by d e (IsSound d) h h (λ list. quiet-sound d (with_selection_replaced d left list) refl) (λ list. quiet-sound d (with_insertion d left list false) refl) h

key-sound : (d : Data) (fault : Option StoreFault) (e : Editor) (key : Key) → IsAlone e → HasRows e → HasRows (after_key d fault e key) → IsSound d e
    → IsSound d (after_key d fault e key)
key-sound d fault e key alone old new h =
    each-key d fault e (λ k now. HasRows now → IsSound d now) (λ height width has. (h.0, sized-stands d e height width old has.columns e.search_state h.1))
    (λ notice has. h) (λ has. h) (λ has. begun-sound d e h, λ has. end-sound-by d e h)
    (λ k told has. press-sound d fault e k e.pasted refl alone old.text has.text h) key new

-- ---- whatever is typed

typed-sound : (d : Data) (e : Editor) (typed : List (Key × Option StoreFault)) → IsAlone e → HaveRows d e typed → IsSound d e
    → IsSound d (after_typing d e typed)
typed-sound d e [] alone has h = h
typed-sound d e (key ∷ typed) alone has h =
    let new = after_key d key.1 e key.0 in
    typed-sound d new typed (key-alone d key.1 e key.0 alone) has.1 (key-sound d key.1 e key.0 alone has.0 (first-rows d new typed has.1) h)
  where
    first-rows : (d : Data) (e : Editor) (typed : List (Key × Option StoreFault)) → HaveRows d e typed → HasRows e
    first-rows d e [] has = has
    first-rows d e (key ∷ typed) has = has.0

pub shown-stands : ShownStands
shown-stands d text height width base typed has shown =
    let start = at_start text height width base in
    let e = after_typing d start typed in
    let sound = typed-sound d start typed (inl refl) has (quiet-sound d start refl) in
    let there : IsThere d e = subst (Stands d e) shown sound.1 in
    record { purpose_is = there.0; here = there.1.0; place_is = there.1.1 }
