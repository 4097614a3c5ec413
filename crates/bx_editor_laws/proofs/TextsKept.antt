-- A key that may not be refused keeps the editor's texts.
use Rattle.std.proofs.Common.{◌≡◌, ℕ, Bool, true, false, List, [], Option, Some, None, refl, sym, ap, subst, ◌∙◌, inl, inr, if◌then◌else◌}
use Rattle.std.specs.Prelude.{◌≢◌, ◌⊎◌, ◌||◌, ◌&&◌, not, is_some}
use Rattle.bx_keys.specs.declared.key.Key.{Key}
use Rattle.bx_keys.specs.declared.key.Key.TheVariants.{Cancel, Direction, GoTo, Help, Mark, Name, Notice, PasteEnd, PasteStart, Quit, Repaint}
use Rattle.bx_keys.specs.declared.key.Key.TheVariants.{AskOverwrite, Fill, Save, SaveAs, Select, Size, Tell}
use Rattle.bx_store.specs.declared.store.StoreFault.{StoreFault}
use Rattle.bx_ucd.specs.Data.{Data}
use Rattle.bx_editor.specs.declared.cursor.Soft.{Soft}
use Rattle.bx_editor.specs.declared.cursor.Soft.TheVariants as softness
use Rattle.bx_editor.specs.declared.message.Message.TheVariants.{MarkOff, MarkSet, Unsaved, ViewOnly}
use Rattle.bx_editor.specs.declared.questions.answers.Prompt.{Prompt}
use Rattle.bx_editor.specs.declared.questions.answers.Prompt.TheVariants as prompts
use Rattle.bx_editor.specs.declared.search_state.SearchState.{SearchState}
use Rattle.bx_editor.specs.declared.search_state.SearchState.TheVariants.{Off, Begun, Typed, WithBegun, WithTyped, Replacing}
use Rattle.bx_editor.specs.Asking.{without_prompt}
use Rattle.bx_editor.specs.Editor.{Editor, after_quit, cleared, unpressed, with_typing}
use Rattle.bx_editor.specs.declared.undo_groups.typing.Typing.TheVariants as typings
use Rattle.bx_editor.specs.declared.undo_groups.typing.Typing.TheVariants.{Paste}
use Rattle.bx_editor.specs.Saving.{after_save, after_saving, asking_name, is_changed, is_nameless}
use Rattle.bx_editor.specs.Effects.{Effect, Saves, Quits, Turns, Marks, Helps, AsksLine, AsksName, AsksFile, AsksOverwrite, Refuses, Tells, Unmarks, Selects, Rests, by}
use Rattle.bx_editor.specs.Before.{Before, before}
use Rattle.bx_editor.specs.Keys.{after_any, after_key, after_press, after_pressing, after_user, allowed_effect, answered, answered_match, answered_name}
use Rattle.bx_editor.specs.declared.answer.Answer.{Answer}
use Rattle.bx_editor.specs.declared.answer.Answer.TheVariants.{GoesBack, Passes, Stays, Ends}
use Rattle.bx_editor.specs.Answering.{answer_of, without_line}
use Rattle.bx_editor.specs.Keys.{answered_overwrite, answered_question, answered_replacement, changes_text, effect_of, ends_paste, refuses_replacing, is_edit_or_move, may_refuse}
use Rattle.bx_editor.specs.Functions.{is_told_key}
use Rattle.bx_editor.specs.Putting.{paste_begun, refuses_paste}
use Rattle.bx_editor.specs.Region.{after_mark, is_at_mark, selecting}
use Rattle.bx_editor.specs.Search.{without_search}
use Rattle.bx_editor_laws.specs.RefusalLaws.{KeepsTexts, UnrefusedKeepTexts}
use Rattle.bx_editor.proofs.InSearch.{any-key}
use Rattle.bx_editor_laws.proofs.PasteEnded.{none-ended}

-- the same as KeepsTexts, in one line of facts
abbrev Keeps : Editor → Editor → Type 0
Keeps e new =
    (new.content ≡ e.content) × ((new.undo_groups ≡ e.undo_groups) × ((new.held ≡ e.held) × ((new.query ≡ e.query)
    × ((new.replacement ≡ e.replacement) × (((new.answer ≡ e.answer) ⊎ (new.answer ≡ [])) × (((new.pasted ≡ e.pasted)
    ⊎ ((e.pasted ≡ None) × (new.pasted ≡ Some []))) × ((new.place ≡ e.place) ⊎ ((e.search_state ≢ Off) × (new.place ≡ e.origin)))))))))

told : (e new : Editor) → Keeps e new → KeepsTexts e new
told e new h = record {
  content_is = h.0;
  groups_are = h.1.0;
  held_is = h.1.1.0;
  query_is = h.1.1.1.0;
  replacement_is = h.1.1.1.1.0;
  answer_is = h.1.1.1.1.1.0;
  pasted_is = h.1.1.1.1.1.1.0;
  place_is = h.1.1.1.1.1.1.1;
}

either : (P : Editor → Type 0) (b : Bool) (p q : Editor) → P p → P q → P (if b then p else q)
either P true p q h k = h
either P false p q h k = k

-- ---- effects

-- the effect puts nothing in, removes nothing, moves the cursor nowhere, copies nothing and seeks nothing
abbrev is_quiet : Effect → Bool
is_quiet Saves = true
is_quiet Quits = true
is_quiet Turns = true
is_quiet Marks = true
is_quiet Helps = true
is_quiet AsksLine = true
is_quiet AsksName = true
is_quiet AsksFile = true
is_quiet AsksOverwrite = true
is_quiet Refuses = true
is_quiet Tells = true
is_quiet Unmarks = true
is_quiet Selects = true
is_quiet Rests = true
is_quiet _ = false

module _ (d : Data) (fault : Option StoreFault) (was : Before) (e : Editor) where
  named : (x : Editor) → Keeps e x → Keeps e (asking_name x)
  named x h = (h.0, (h.1.0, (h.1.1.0, (h.1.1.1.0, (h.1.1.1.1.0, (inr refl, h.1.1.1.1.1.1))))))

  storing : (x : Editor) (fault : Option StoreFault) → Keeps e x → Keeps e (after_save x fault)
  storing x None h = h
  storing x (Some fault) h = either (Keeps e) (is_changed fault.cause) (record x { prompt = prompts.Overwrite }) x h h

  saving : (x : Editor) → Keeps e x → Keeps e (after_saving fault x)
  saving x h = either (Keeps e) (is_nameless x) (asking_name x) (after_save x fault) (named x h) (storing x fault h)

  quitting : (x : Editor) (again : Bool) → Keeps e x → Keeps e (after_quit x again)
  quitting x again h =
      either (Keeps e) (not x.changed || again) (record x { quit_before = true; ended = true }) (record x { quit_before = true; message = Some Unsaved }) h h

  marking : (x : Editor) → Keeps e x → Keeps e (after_mark x)
  marking x h =
      either (Keeps e) (is_at_mark x.mark x.place) (record x { mark = None; soft = softness.Off; message = Some MarkOff })
      (record x { mark = Some x.place; soft = softness.Off; message = Some MarkSet }) h h

  selects : (x : Editor) (mark : Option ℕ) (soft : Soft) → Keeps e x → Keeps e (selecting x mark soft)
  selects x None soft h = h
  selects x (Some mark) softness.Off h = h
  selects x (Some mark) softness.Fresh h = h
  selects x (Some mark) softness.Old h = h

  by-quiet : (x : Editor) (one : Effect) → is_quiet one ≡ true → Keeps e x → Keeps e (by d fault was x one)
  by-quiet x Saves is h = saving x h
  by-quiet x Quits is h = quitting x was.again h
  by-quiet x Turns is h = h
  by-quiet x Marks is h = marking x h
  by-quiet x Helps is h = h
  by-quiet x AsksLine is h = (h.0, (h.1.0, (h.1.1.0, (h.1.1.1.0, (h.1.1.1.1.0, (inr refl, h.1.1.1.1.1.1))))))
  by-quiet x AsksName is h = (h.0, (h.1.0, (h.1.1.0, (h.1.1.1.0, (h.1.1.1.1.0, (inr refl, h.1.1.1.1.1.1))))))
  by-quiet x AsksFile is h = named x h
  by-quiet x AsksOverwrite is h = h
  by-quiet x Refuses is h = h
  by-quiet x Tells is h = h
  by-quiet x Unmarks is h = h
  by-quiet x Selects is h = selects x x.mark x.soft h
  by-quiet x Rests is h = h
  by-quiet x _ is h = absurd (cc is)

-- ---- keys that the user presses

-- what such a key means where something is asked
abbrev is_quiet_answer : Answer → Bool
is_quiet_answer GoesBack = true
is_quiet_answer Stays = true
is_quiet_answer Passes = true
is_quiet_answer Ends = true
is_quiet_answer _ = false

-- such a key
record IsQuiet (d : Data) (key : Key) : Type 0 where
  pub effect : (x : Editor) → is_quiet (effect_of d x key) ≡ true
  pub answer : is_quiet_answer (answer_of key) ≡ true
  pub bare : is_quiet_answer (without_line (answer_of key)) ≡ true

-- the effect, or that it is refused
refused-quiet : (b : Bool) (one : Effect) → is_quiet one ≡ true → is_quiet (if b then Refuses else one) ≡ true
refused-quiet true one h = refl
refused-quiet false one h = h

same : (e : Editor) → Keeps e e
same e = (refl, (refl, (refl, (refl, (refl, (inl refl, (inl refl, inl refl)))))))

-- the cursor is back where the search began
back : (e : Editor) → e.search_state ≢ Off → Keeps e (record e { place = e.origin })
back e on = (refl, (refl, (refl, (refl, (refl, (inl refl, (inl refl, inr (on, refl))))))))

module _ (d : Data) (fault : Option StoreFault) (was : Before) (key : Key) (quiet : IsQuiet d key) where
  pressing : (e x : Editor) → Keeps e x → Keeps e (after_pressing d fault was x key)
  pressing e x h =
      by-quiet d fault was e x (allowed_effect d x key) (refused-quiet (changes_text key && x.read_only) (effect_of d x key) (quiet.effect x)) h

  sought : (e : Editor) (answer : Answer) → e.search_state ≢ Off → is_quiet_answer answer ≡ true → Keeps e (answered d fault was e key answer)
  sought e GoesBack on is = back e on
  sought e Stays on is = same e
  sought e Passes on is = same e
  sought e Ends on is = pressing e (without_search e) (same e)
  sought e _ on is = absurd (cc is)

  replacing : (e : Editor) (answer : Answer) → e.search_state ≢ Off → is_quiet_answer answer ≡ true → Keeps e (answered_replacement d fault was e key answer)
  replacing e GoesBack on is = back e on
  replacing e Stays on is = same e
  replacing e Passes on is = same e
  replacing e Ends on is = pressing e (without_search e) (same e)
  replacing e _ on is = absurd (cc is)

  at-match : (e : Editor) (answer : Answer) → is_quiet_answer answer ≡ true → Keeps e (answered_match d fault was e key answer)
  at-match e GoesBack is = same e
  at-match e Stays is = same e
  at-match e Passes is = pressing e (without_search e) (same e)
  at-match e Ends is = pressing e (without_search e) (same e)
  at-match e _ is = absurd (cc is)

  asked : (e : Editor) (answer : Answer) → is_quiet_answer answer ≡ true → Keeps e (answered_question d fault was e key answer)
  asked e GoesBack is = same e
  asked e Stays is = same e
  asked e Passes is = same e
  asked e Ends is = pressing e (without_prompt e) (same e)
  asked e _ is = absurd (cc is)

  asked-name : (e : Editor) (answer : Answer) → is_quiet_answer answer ≡ true → Keeps e (answered_name d fault was e key answer)
  asked-name e GoesBack is = same e
  asked-name e Stays is = same e
  asked-name e Passes is = pressing e (without_prompt e) (same e)
  asked-name e Ends is = pressing e (without_prompt e) (same e)
  asked-name e _ is = absurd (cc is)

  asked-over : (e : Editor) (answer : Answer) → is_quiet_answer answer ≡ true → Keeps e (answered_overwrite fault was e answer)
  asked-over e GoesBack is = same e
  asked-over e Stays is = same e
  asked-over e Passes is = same e
  asked-over e Ends is = same e
  asked-over e _ is = absurd (cc is)

  anywhere : (prompt : Prompt) (search_state : SearchState) (e : Editor) → e.search_state ≡ search_state → Keeps e (after_any d fault was prompt search_state e key)
  anywhere prompts.Off Off e is = pressing e e (same e)
  anywhere prompts.Off Begun e is = sought e (answer_of key) (λ off. let both = sym is ∙ off in cc both) quiet.answer
  anywhere prompts.Off Typed e is = sought e (answer_of key) (λ off. let both = sym is ∙ off in cc both) quiet.answer
  anywhere prompts.Off WithBegun e is = replacing e (answer_of key) (λ off. let both = sym is ∙ off in cc both) quiet.answer
  anywhere prompts.Off WithTyped e is = replacing e (answer_of key) (λ off. let both = sym is ∙ off in cc both) quiet.answer
  anywhere prompts.Off Replacing e is = at-match e (without_line (answer_of key)) quiet.bare
  anywhere prompts.Line search_state e is = asked e (answer_of key) quiet.answer
  anywhere prompts.Name search_state e is = asked-name e (without_line (answer_of key)) quiet.bare
  anywhere prompts.Code search_state e is = asked e (answer_of key) quiet.answer
  anywhere prompts.File search_state e is = asked e (answer_of key) quiet.answer
  anywhere prompts.Overwrite search_state e is = asked-over e (answer_of key) quiet.answer

user : (d : Data) (fault : Option StoreFault) (e : Editor) (key : Key) → IsQuiet d key → Keeps e (after_user d fault e key)
user d fault e key quiet =
    either (Keeps e) (refuses_replacing e key) (by d fault (before e) (cleared e) Refuses)
    (after_any d fault (before e) e.prompt e.search_state (cleared e) key) (same e)
    (anywhere d fault (before e) key quiet e.prompt e.search_state (cleared e) refl)

-- ---- any key

-- where a key that ends a paste may not be refused none is under way
never : (b : Bool) → ¬ ((b || true) ≡ false)
never true h = cc h
never false h = cc h

unpasted : (key : Key) (pasted : Option (List ℕ)) → ends_paste key ≡ true → (is_edit_or_move key || (is_some pasted && ends_paste key)) ≡ false
    → pasted ≡ None
unpasted key None ends h = refl
unpasted key (Some list) ends h = absurd (never (is_edit_or_move key) (subst (λ b. (is_edit_or_move key || b) ≡ false) ends h))

user-key : (d : Data) (fault : Option StoreFault) (e : Editor) (key : Key) → IsQuiet d key → is_told_key key ≡ false → e.pasted ≡ None
    → Keeps e (after_key d fault e key)
user-key d fault e key quiet small none = subst (Keeps e) (sym (any-key d fault e key none small)) (user d fault e key quiet)

painted : (d : Data) (fault : Option StoreFault) (e : Editor) (pasted : Option (List ℕ)) → Keeps e (after_press d fault pasted e Repaint)
painted d fault e None = user d fault e Repaint (record { effect = λ x. refl; answer = refl; bare = refl })
painted d fault e (Some list) = user d fault e Repaint (record { effect = λ x. refl; answer = refl; bare = refl })

begun : (e : Editor) (prompt : Prompt) (search_state : SearchState) (pasted : Option (List ℕ)) → e.pasted ≡ pasted → Keeps e (paste_begun prompt search_state pasted e)
begun e prompts.Off Off None is = (refl, (refl, (refl, (refl, (refl, (inl refl, (inr (is, refl), inl refl)))))))
begun e prompts.Off Off (Some list) is = same e
begun e prompts.Off Begun pasted is = same e
begun e prompts.Off Typed pasted is = same e
begun e prompts.Off WithBegun pasted is = same e
begun e prompts.Off WithTyped pasted is = same e
begun e prompts.Off Replacing pasted is = same e
begun e prompts.Line search_state pasted is = same e
begun e prompts.Name search_state pasted is = same e
begun e prompts.Code search_state pasted is = same e
begun e prompts.File search_state pasted is = same e
begun e prompts.Overwrite search_state pasted is = same e

any : (d : Data) (fault : Option StoreFault) (e : Editor) (key : Key) → may_refuse e key ≡ false → Keeps e (after_key d fault e key)
any d fault e Save h = user-key d fault e Save (record { effect = λ x. refl; answer = refl; bare = refl }) refl (unpasted Save e.pasted refl h)
any d fault e Quit h = user-key d fault e Quit (record { effect = λ x. refl; answer = refl; bare = refl }) refl (unpasted Quit e.pasted refl h)
any d fault e Direction h = user-key d fault e Direction (record { effect = λ x. refl; answer = refl; bare = refl }) refl (unpasted Direction e.pasted refl h)
any d fault e Mark h = user-key d fault e Mark (record { effect = λ x. refl; answer = refl; bare = refl }) refl (unpasted Mark e.pasted refl h)
any d fault e Help h = user-key d fault e Help (record { effect = λ x. refl; answer = refl; bare = refl }) refl (unpasted Help e.pasted refl h)
any d fault e GoTo h = user-key d fault e GoTo (record { effect = λ x. refl; answer = refl; bare = refl }) refl (unpasted GoTo e.pasted refl h)
any d fault e Name h = user-key d fault e Name (record { effect = λ x. refl; answer = refl; bare = refl }) refl (unpasted Name e.pasted refl h)
any d fault e Tell h = user-key d fault e Tell (record { effect = λ x. refl; answer = refl; bare = refl }) refl (unpasted Tell e.pasted refl h)
any d fault e Cancel h = user-key d fault e Cancel (record { effect = λ x. refl; answer = refl; bare = refl }) refl (unpasted Cancel e.pasted refl h)
any d fault e Select h = user-key d fault e Select (record { effect = λ x. refl; answer = refl; bare = refl }) refl (unpasted Select e.pasted refl h)
any d fault e SaveAs h = user-key d fault e SaveAs (record { effect = λ x. refl; answer = refl; bare = refl }) refl (unpasted SaveAs e.pasted refl h)
any d fault e AskOverwrite h =
    user-key d fault e AskOverwrite (record { effect = λ x. refl; answer = refl; bare = refl }) refl (unpasted AskOverwrite e.pasted refl h)
any d fault e Fill h = same e
any d fault e Repaint h = painted d fault e e.pasted
any d fault e PasteStart h =
    let begins = paste_begun e.prompt e.search_state e.pasted e in
    either (Keeps e) (refuses_paste e) (unpressed (record e { message = Some ViewOnly })) (unpressed (with_typing begins Paste)) (same e)
    (begun e e.prompt e.search_state e.pasted refl)
any d fault e PasteEnd h = subst (λ (x : Editor). Keeps e (unpressed (with_typing x typings.Off))) (sym (none-ended d e (unpasted PasteEnd e.pasted refl h))) (same e)
any d fault e (Size height width) h = same e
any d fault e (Notice notice) h = same e
any d fault e key h = absurd (cc h)

pub unrefused-keep-texts : UnrefusedKeepTexts
unrefused-keep-texts = record {
  keeps = λ d fault e key h. told e (after_key d fault e key) (any d fault e key h);
  saves = λ e none. ap (λ pasted. is_some pasted && true) none;
  quits = λ e none. ap (λ pasted. is_some pasted && true) none;
}
