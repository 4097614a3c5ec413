-- A text that is only looked at stays as it was opened.
use Rattle.std.proofs.Common.{◌≡◌, ◌∙◌, ℕ, Bool, true, false, List, [], ◌∷◌, length, Option, Some, None, refl, sym, ap, subst, if◌then◌else◌}
use Rattle.std.specs.Prelude.{◌==◌, ◌&&◌, ◌||◌, not, is_some}
use Rattle.bx_keys.specs.declared.key.Key.{Key}
use Rattle.bx_keys.specs.declared.key.Key.TheVariants.{Replace}
use Rattle.bx_store.specs.declared.store.StoreFault.{StoreFault}
use Rattle.bx_text.specs.Edits.{Edited}
use Rattle.bx_ucd.specs.Data.{Data}
use Rattle.bx_editor.specs.declared.answer.Answer.{Answer}
use Rattle.bx_editor.specs.declared.answer.Answer.TheVariants.{Letter, Erases, Moves, PutsIn, Passes, GoesBack, Next, Previous, Replaces, Scrolls, Stays, Ends}
use Rattle.bx_editor.specs.declared.message.Message.TheVariants as messages
use Rattle.bx_editor.specs.declared.questions.answers.Prompt.{Prompt}
use Rattle.bx_editor.specs.declared.questions.answers.Prompt.TheVariants as prompts
use Rattle.bx_editor.specs.declared.search_state.SearchState.{SearchState}
use Rattle.bx_editor.specs.declared.search_state.SearchState.TheVariants.{Off, Begun, Typed, WithBegun, WithTyped, Replacing}
use Rattle.bx_editor.specs.declared.undo_groups.typing.Typing.TheVariants as typings
use Rattle.bx_editor.specs.Answering.{answer_of}
use Rattle.bx_editor.specs.Asking.{after_answer_letter, answer_line, is_code_prompt, is_of_last, with_answer, without_prompt}
use Rattle.bx_editor.specs.Before.{Before, before}
use Rattle.bx_editor.specs.Editor.{Editor, cleared, unpressed, with_typing}
use Rattle.bx_editor.specs.Effects.{Refuses, by}
use Rattle.bx_editor.specs.InputLines.{erases_nothing, line_shortened}
use Rattle.bx_editor.specs.Keys.{after_any, after_key, after_press, after_user, answered, answered_overwrite, answered_question}
use Rattle.bx_editor.specs.Keys.{ends_name, is_overwrite, is_save, overwrites, refuses_replacing, saving_by}
use Rattle.bx_editor.specs.Putting.{after_paste_end, after_paste_start, ended_with, is_free, is_paste, paste_begun}
use Rattle.bx_editor.specs.Replacing.{after_sought_end, after_sought_letter}
use Rattle.bx_editor.specs.Saving.{Saving, Own, Under, after_confirming, after_deciding, after_saving, can_save, confirms, is_name}
use Rattle.bx_editor.specs.Saving.{is_nameless, own_saving, saving_over, saving_under}
use Rattle.bx_editor.specs.Search.{after_letter, query_line}
use Rattle.bx_editor.specs.Search.{search_on, with_query, without_search}
use Rattle.bx_editor.proofs.InSearch.{each-key}
use Rattle.bx_editor_laws.specs.Laws.{after_typing}
use Rattle.bx_editor_laws.specs.ViewLaws.{ViewKeepsText}
use Rattle.bx_editor_laws.proofs.ViewEffects.{IsView, either, file-letter, is_view_prompt, is_view_search, line-letter, line-put, moving, pressed, query-end}
use Rattle.bx_editor_laws.proofs.ViewEffects.{query-letter, sought-on, taking, typed-query, unasked, unsought, wheel, with-asked}

module _ (d : Data) (opened : Edited) where
  -- ---- each key

  erased : (e : Editor) (last empty : Bool) (new : Editor) → IsView d opened new
      → IsView d opened (if false && last && empty then record e { prompt = prompts.Name } else new)
  erased e true true new h = h
  erased e true false new h = h
  erased e false true new h = h
  erased e false false new h = h

  cleared-refuses : (e : Editor) (key : Key) → refuses_replacing e key ≡ false → refuses_replacing (cleared e) key ≡ false
  cleared-refuses e Replace is = is
  cleared-refuses e _ is = refl

  -- Replace is refused, but where the question is whether to overwrite
  replaces : (e : Editor) (key : Key) → answer_of key ≡ Replaces → refuses_replacing e key ≡ false → (e.read_only && not (is_overwrite e.prompt)) ≡ false
  replaces e Replace is accepted = accepted
  replaces e _ is accepted = absurd (cc is)

  module _ (fault : Option StoreFault) (was : Before) (e : Editor) (key : Key) (h : (IsView d opened) e) where
    query : (one : Answer) → (one ≡ Replaces → ⊥) → IsView d opened (answered d fault was e key one)
    query (Letter c) never =
        taking d opened fault was was.typing c e (after_sought_letter d e c) h
        (either d opened (c == 0xA) (after_sought_end d e) (after_letter d e c) (query-end d opened fault was e h) (query-letter d opened fault was e c h))
    query (Erases how) never =
        let shorter = with_query e (line_shortened d how (query_line e)) in
        either d opened (erases_nothing d how (query_line e)) e (search_on d false shorter) h (sought-on d opened fault was e shorter false (typed-query d opened fault was e h))
    query (Moves m) never = moving d opened e e.query m h
    query PutsIn never = line-put d opened e h
    query Passes never = h
    query GoesBack never = with-asked d opened e e.prompt Off h.asked refl h
    query Next never = with-asked d opened e e.prompt Typed h.asked refl h
    query Previous never = with-asked d opened e e.prompt Typed h.asked refl h
    query Replaces never = absurd (never refl)
    query (Scrolls way) never = wheel d opened was e way h
    query Stays never = h
    query Ends never = pressed d opened fault was (without_search e) key (unsought d opened e h)

    -- the answers to a question that are no character and no erasure
    question : (one : Answer) → (how : (c : ℕ) → IsView d opened (after_answer_letter d fault e.prompt e c)) → is_code_prompt e.prompt ≡ false
        → IsView d opened (answered_question d fault was e key one)
    question (Letter c) letter no-code = taking d opened fault was was.typing c e (after_answer_letter d fault e.prompt e c) h (letter c)
    question (Erases how) letter no-code =
        let l = answer_line e in
        let shorter = with_answer e (line_shortened d how l) in
        subst (λ b. IsView d opened (if b && is_of_last how && (length e.answer == 0) then record e { prompt = prompts.Name } else (if erases_nothing d how l then e else shorter)))
        (sym no-code) (erased e (is_of_last how) (length e.answer == 0) (if erases_nothing d how l then e else shorter) (either d opened (erases_nothing d how l) e shorter h h))
    question (Moves m) letter no-code = moving d opened e e.answer m h
    question PutsIn letter no-code = line-put d opened e h
    question Passes letter no-code = h
    question GoesBack letter no-code = unasked d opened e h
    question (Scrolls way) letter no-code = wheel d opened was e way h
    question Stays letter no-code = h
    question _ letter no-code = pressed d opened fault was (without_prompt e) key (unasked d opened e h)

    overwrite : (one : Answer) → IsView d opened (answered_overwrite fault was e one)
    overwrite (Letter c) =
        let x = without_prompt e in
        let view : Editor = record x { message = Some messages.ViewOnly } in
        either d opened (is_paste was.typing) (with_typing e was.typing) (after_deciding fault x c) h
        (either d opened (confirms c) (after_confirming fault x) x
        (subst (λ b. IsView d opened (if b then view else after_saving fault x)) (sym h.looked) (unasked d opened e h)) (unasked d opened e h))
    overwrite Stays = h
    overwrite _ = unasked d opened e h

    never : e.prompt ≡ prompts.Off → refuses_replacing e key ≡ false → answer_of key ≡ Replaces → ⊥
    never asks accepted is =
        let off : (true && not (is_overwrite prompts.Off)) ≡ false =
        sym (ap (λ p. true && not (is_overwrite p)) asks) ∙ (sym (ap (λ r. r && not (is_overwrite e.prompt)) h.looked) ∙ replaces e key is accepted) in
        cc off

    any : (prompt : Prompt) (search_state : SearchState) → e.prompt ≡ prompt → e.search_state ≡ search_state → refuses_replacing e key ≡ false
        → IsView d opened (after_any d fault was prompt search_state e key)
    any prompts.Off Off asks seeks accepted = pressed d opened fault was e key h
    any prompts.Off Begun asks seeks accepted = query (answer_of key) (never asks accepted)
    any prompts.Off Typed asks seeks accepted = query (answer_of key) (never asks accepted)
    any prompts.Off WithBegun asks seeks accepted = absurd (cc (sym (ap is_view_search seeks) ∙ h.sought))
    any prompts.Off WithTyped asks seeks accepted = absurd (cc (sym (ap is_view_search seeks) ∙ h.sought))
    any prompts.Off Replacing asks seeks accepted = absurd (cc (sym (ap is_view_search seeks) ∙ h.sought))
    any prompts.Line search_state asks seeks accepted =
        question (answer_of key) (λ c. subst (λ p. IsView d opened (after_answer_letter d fault p e c)) (sym asks) (line-letter d opened fault was e c h)) (ap is_code_prompt asks)
    any prompts.File search_state asks seeks accepted =
        question (answer_of key) (λ c. subst (λ p. IsView d opened (after_answer_letter d fault p e c)) (sym asks) (file-letter d opened fault was e c h)) (ap is_code_prompt asks)
    any prompts.Overwrite search_state asks seeks accepted = overwrite (answer_of key)
    any prompts.Name search_state asks seeks accepted = absurd (cc (sym (ap is_view_prompt asks) ∙ h.asked))
    any prompts.Code search_state asks seeks accepted = absurd (cc (sym (ap is_view_prompt asks) ∙ h.asked))

  user-by : (fault : Option StoreFault) (e : Editor) (key : Key) (refused : Bool) → refuses_replacing e key ≡ refused → IsView d opened e
      → IsView d opened (if refused then by d fault (before e) (cleared e) Refuses else after_any d fault (before e) e.prompt e.search_state (cleared e) key)
  user-by fault e key true is h = h
  user-by fault e key false is h = any fault (before e) (cleared e) key h e.prompt e.search_state refl refl (cleared-refuses e key is)

  user : (fault : Option StoreFault) (e : Editor) (key : Key) → IsView d opened e → IsView d opened (after_user d fault e key)
  user fault e key h = user-by fault e key (refuses_replacing e key) refl h

  -- ---- a paste is refused, or goes into an input line

  begun : (e : Editor) (prompt : Prompt) (search_state : SearchState) → IsView d opened e
      → IsView d opened (if true && is_free prompt search_state None then unpressed (record e { message = Some messages.ViewOnly })
      else unpressed (with_typing (paste_begun prompt search_state None e) typings.Paste))
  begun e prompts.Off Off h = h
  begun e prompts.Off Begun h = h
  begun e prompts.Off Typed h = h
  begun e prompts.Off WithBegun h = h
  begun e prompts.Off WithTyped h = h
  begun e prompts.Off Replacing h = h
  begun e prompts.Line search_state h = h
  begun e prompts.Name search_state h = h
  begun e prompts.Code search_state h = h
  begun e prompts.File search_state h = h
  begun e prompts.Overwrite search_state h = h

  started : (e : Editor) → IsView d opened e → IsView d opened (after_paste_start e)
  started e h =
      subst (λ r. IsView d opened (if r && is_free e.prompt e.search_state e.pasted then unpressed (record e { message = Some messages.ViewOnly })
      else unpressed (with_typing (paste_begun e.prompt e.search_state e.pasted e) typings.Paste))) (sym h.looked)
      (subst (λ p. IsView d opened (if true && is_free e.prompt e.search_state p then unpressed (record e { message = Some messages.ViewOnly })
      else unpressed (with_typing (paste_begun e.prompt e.search_state p e) typings.Paste))) (sym h.settled) (begun e e.prompt e.search_state h))

  finished : (e : Editor) → IsView d opened e → IsView d opened (after_paste_end d e)
  finished e h = subst (λ p. IsView d opened (unpressed (with_typing (ended_with d e p) typings.Off))) (sym h.settled) h

  key-keeps : (fault : Option StoreFault) (e : Editor) (key : Key) → IsView d opened e → IsView d opened (after_key d fault e key)
  key-keeps fault e key h =
      each-key d fault e (λ k new. IsView d opened new) (λ height width. h) (λ notice. h) h (started e h, finished e h)
      (λ k small. subst (λ p. IsView d opened (after_press d fault p e k)) (sym h.settled) (user fault e k h)) key

  all-keep : (e : Editor) (typed : List (Key × Option StoreFault)) → IsView d opened e → IsView d opened (after_typing d e typed)
  all-keep e [] h = h
  all-keep e (key ∷ typed) h = all-keep (after_key d key.1 e key.0) typed (key-keeps key.1 e key.0 h)

-- ---- what stores it

under-by : (b c reads : Bool) (answer : List ℕ) → reads ≡ true → (if b && c && not reads then Own else Under answer) ≡ Under answer
under-by true true true answer is = refl
under-by true false true answer is = refl
under-by false true true answer is = refl
under-by false false true answer is = refl
under-by b c false answer is = absurd (cc is)

three : (a b c : Bool) → c ≡ false → (a && b && c) ≡ false
three true true c is = is
three true false c is = refl
three false true c is = refl
three false false c is = refl

-- a text that is only looked at
module _ (e : Editor) (looked : e.read_only ≡ true) where
  cannot : can_save e ≡ false
  cannot = ap (λ r. not (r || is_nameless e)) looked

  and-cannot : (b : Bool) → (b && can_save e) ≡ false
  and-cannot true = cannot
  and-cannot false = refl

  no-saving : (b : Bool) (s saving : Saving) → b ≡ false → (if b then Some s else None) ≡ Some saving → ⊥
  no-saving true s saving quiet is = cc quiet
  no-saving false s saving quiet is = cc is

  own-not : (key : Key) (saving : Saving) → (if is_save key && can_save e then Some (own_saving e e.name) else None) ≡ Some saving → ⊥
  own-not key saving is = no-saving (is_save key && can_save e) (own_saving e e.name) saving (and-cannot (is_save key)) is

  some-is : (b : Bool) (s saving : Saving) → (if b then Some s else None) ≡ Some saving → saving ≡ s
  some-is true s saving is = cc (sym is)
  some-is false s saving is = absurd (cc is)

  overwrites-not : (c : ℕ) → overwrites e c ≡ false
  overwrites-not c = three (confirms c) (not (is_paste e.typing)) (can_save e) cannot

  stores-by : (prompt : Prompt) (key : Key) (answer : Answer) (saving : Saving) → saving_by e prompt key answer ≡ Some saving
      → (prompt ≡ prompts.File) × (saving ≡ Under e.answer)
  stores-by prompts.File key (Letter c) saving is =
      (refl, some-is (ends_name e c) (saving_under e e.answer) saving is ∙ under-by e.home (is_name e.name e.answer) e.read_only e.answer looked)
  stores-by prompts.File key (Erases how) saving is = absurd (own-not key saving is)
  stores-by prompts.File key (Moves m) saving is = absurd (own-not key saving is)
  stores-by prompts.File key PutsIn saving is = absurd (own-not key saving is)
  stores-by prompts.File key Passes saving is = absurd (own-not key saving is)
  stores-by prompts.File key GoesBack saving is = absurd (own-not key saving is)
  stores-by prompts.File key Next saving is = absurd (own-not key saving is)
  stores-by prompts.File key Previous saving is = absurd (own-not key saving is)
  stores-by prompts.File key Replaces saving is = absurd (own-not key saving is)
  stores-by prompts.File key (Scrolls way) saving is = absurd (own-not key saving is)
  stores-by prompts.File key Stays saving is = absurd (own-not key saving is)
  stores-by prompts.File key Ends saving is = absurd (own-not key saving is)
  stores-by prompts.Overwrite key (Letter c) saving is = absurd (no-saving (overwrites e c) (saving_over e) saving (overwrites-not c) is)
  stores-by prompts.Overwrite key _ saving is = absurd (cc is)
  stores-by prompts.Off key answer saving is = absurd (own-not key saving is)
  stores-by prompts.Line key answer saving is = absurd (own-not key saving is)
  stores-by prompts.Name key answer saving is = absurd (own-not key saving is)
  stores-by prompts.Code key answer saving is = absurd (own-not key saving is)

  stores-if : (b : Bool) (key : Key) (saving : Saving) → (if b then None else saving_by e e.prompt key (answer_of key)) ≡ Some saving
      → (e.prompt ≡ prompts.File) × (saving ≡ Under e.answer)
  stores-if true key saving is = absurd (cc is)
  stores-if false key saving is = stores-by e.prompt key (answer_of key) saving is

pub view-keeps-text : ViewKeepsText
view-keeps-text d opened typed is =
    let start : IsView d opened.content opened = record {
      content_is = refl;
      looked = is.looked;
      settled = is.settled;
      asked = ap is_view_prompt is.unasked;
      sought = ap is_view_search is.unsought;
      finds = is.finds;
    } in
    let h = all-keep d opened.content opened typed start in
    let e = after_typing d opened typed in
    record { content_is = h.content_is; stores = λ key saving stored. stores-if e h.looked (is_some e.pasted && not (is_save key)) key saving stored }
