-- A move takes an old selection off; behind Select it leaves the mark.
use Rattle.std.proofs.Common.{◌≡◌, ℕ, Bool, true, false, length, refl, sym, ap, subst, ◌∙◌, if◌then◌else◌}
use Rattle.std.specs.Prelude.{◌≢◌, ◌==◌, ◌||◌, ◌&&◌, nat_le, unwrap_or, Option, Some, None}
use Rattle.bx_keys.specs.declared.key.Key.{Key}
use Rattle.bx_keys.specs.declared.key.Key.TheVariants.{Back, Forward, Up, Down, Right, Left, RowHome, RowEnd, PageUp, PageDown, WordLeft, WordRight}
use Rattle.bx_keys.specs.declared.key.Key.TheVariants.{TextStart, TextEnd, LineUp, LineDown, PageBack, PageOn, Point}
use Rattle.bx_keys.specs.declared.key.Key.TheVariants.{Find, FindBack, FindNext, FindPrevious, Replace, Select}
use Rattle.bx_ucd.specs.Data.{Data}
use Rattle.bx_editor.specs.declared.answer.Answer.{Answer}
use Rattle.bx_editor.specs.declared.answer.Answer.TheVariants as answers
use Rattle.bx_editor.specs.declared.clicks.Extent.TheVariants as extents
use Rattle.bx_editor.specs.declared.questions.answers.Prompt.{Prompt}
use Rattle.bx_editor.specs.declared.questions.answers.Prompt.TheVariants as prompts
use Rattle.bx_editor.specs.declared.search_state.SearchPurpose.TheVariants as purposes
use Rattle.bx_editor.specs.declared.search_state.SearchState.TheVariants as searches
use Rattle.bx_editor.specs.declared.cursor.Soft.{Soft}
use Rattle.bx_editor.specs.declared.cursor.Soft.TheVariants.{Off, Fresh, Old}
use Rattle.bx_editor.specs.Answering.{answer_of, without_line}
use Rattle.bx_editor.specs.Asking.{without_prompt}
use Rattle.bx_editor.specs.Before.{Before, before}
use Rattle.bx_editor.specs.Editor.{Editor, cleared, text_height}
use Rattle.bx_editor.specs.Effects.{Effect, Goes, GoesByRows, GoesToRowEnd, Clicks, Refuses, by}
use Rattle.bx_editor.specs.Functions.{is_told_key}
use Rattle.bx_editor.specs.Keys.{after_any, after_key, allowed_effect, as_left, changes_text, effect_of, refuses_replacing}
use Rattle.bx_editor.specs.PasteLaws.{cuts_in}
use Rattle.bx_editor.specs.Pointing.{pointed_place, press_extent, pressed_at, pressing_with}
use Rattle.bx_editor.specs.Search.{after_beginning, after_find_next, after_find_previous, next_or_start, search_back, search_from, sought, sought_alone}
use Rattle.bx_editor.specs.Region.{mark_left, selecting, unselected}
use Rattle.bx_editor_laws.specs.SelectionLaws.{is_ending, is_move, seeks, IsFirstPress, LeavesMark, MoveTakesSelectionOff, SeekingTakesSelectionOff}
use Rattle.bx_editor.proofs.InSearch.{any-key}
use Rattle.bx_editor_laws.proofs.GivenUp.{find-back-begins, find-begins, replace-begins}
use Rattle.bx_editor_laws.proofs.KeyEnds.{ended-key, ended_by, plain-key}
use Rattle.bx_editor_laws.proofs.NextMatch.{next-any, previous-any}

-- ---- a move

abbrev goes : Effect → Bool
goes (Goes place) = true
goes (GoesByRows way n) = true
goes (GoesToRowEnd place) = true
goes (Clicks row column) = true
goes _ = false

-- a key that moves
record IsGoing (d : Data) (e : Editor) (key : Key) : Type 0 where
  pub effect : goes (effect_of d e key) ≡ true
  pub leaves : without_line (answer_of key) ≡ answers.Ends
  pub pressed : is_told_key key ≡ false
  pub accepted : refuses_replacing e key ≡ false
  pub quiet : changes_text key ≡ false

each : (d : Data) (e : Editor) (key : Key) → is_move key ≡ true → IsGoing d e key
each d e Back is = record { effect = refl; leaves = refl; pressed = refl; accepted = refl; quiet = refl }
each d e Forward is = record { effect = refl; leaves = refl; pressed = refl; accepted = refl; quiet = refl }
each d e Up is = record { effect = refl; leaves = refl; pressed = refl; accepted = refl; quiet = refl }
each d e Down is = record { effect = refl; leaves = refl; pressed = refl; accepted = refl; quiet = refl }
each d e Right is = record { effect = refl; leaves = refl; pressed = refl; accepted = refl; quiet = refl }
each d e Left is = record { effect = refl; leaves = refl; pressed = refl; accepted = refl; quiet = refl }
each d e RowHome is = record { effect = refl; leaves = refl; pressed = refl; accepted = refl; quiet = refl }
each d e RowEnd is = record { effect = refl; leaves = refl; pressed = refl; accepted = refl; quiet = refl }
each d e PageUp is = record { effect = refl; leaves = refl; pressed = refl; accepted = refl; quiet = refl }
each d e PageDown is = record { effect = refl; leaves = refl; pressed = refl; accepted = refl; quiet = refl }
each d e WordLeft is = record { effect = refl; leaves = refl; pressed = refl; accepted = refl; quiet = refl }
each d e WordRight is = record { effect = refl; leaves = refl; pressed = refl; accepted = refl; quiet = refl }
each d e TextStart is = record { effect = refl; leaves = refl; pressed = refl; accepted = refl; quiet = refl }
each d e TextEnd is = record { effect = refl; leaves = refl; pressed = refl; accepted = refl; quiet = refl }
each d e LineUp is = record { effect = refl; leaves = refl; pressed = refl; accepted = refl; quiet = refl }
each d e LineDown is = record { effect = refl; leaves = refl; pressed = refl; accepted = refl; quiet = refl }
each d e PageBack is = record { effect = refl; leaves = refl; pressed = refl; accepted = refl; quiet = refl }
each d e PageOn is = record { effect = refl; leaves = refl; pressed = refl; accepted = refl; quiet = refl }
each d e (Point row column) is = record { effect = refl; leaves = refl; pressed = refl; accepted = refl; quiet = refl }
each d e _ is = absurd (cc is)

-- a click is a first press
abbrev IsFirst : Editor → Effect → Type 0
IsFirst e (Clicks row column) = press_extent e.clicks row column ≡ extents.Unit
IsFirst e one = Unit {0}

first-of : (d : Data) (e : Editor) (key : Key) → IsFirstPress e key → IsFirst e (effect_of d e key)
first-of d e (Point row column) h = h
first-of d e _ h = tt

none-first : (e : Editor) (key : Key) → e.clicks ≡ None → IsFirstPress e key
none-first e (Point row column) none = ap (λ c. press_extent c row column) none
none-first e _ none = tt

either-mark : (b : Bool) (mark : Option ℕ) (p q : Editor) → p.mark ≡ mark → q.mark ≡ mark → (if b then p else q).mark ≡ mark
either-mark true mark p q h k = h
either-mark false mark p q h k = k

press-mark : (d : Data) (e : Editor) (row column place : ℕ) (soft : Soft) → e.soft ≡ soft
    → (pressing_with d e row column place soft).mark ≡ mark_left e.soft e.mark
press-mark d e row column place Off is = refl
press-mark d e row column place Fresh is = sym (ap (λ s. mark_left s e.mark) is)
press-mark d e row column place Old is = refl

effect-mark : (d : Data) (was : Before) (e : Editor) (one : Effect) → goes one ≡ true → IsFirst e one → (by d None was e one).mark ≡ mark_left e.soft e.mark
effect-mark d was e (Goes place) is first = refl
effect-mark d was e (GoesByRows way n) is first = refl
effect-mark d was e (GoesToRowEnd place) is first = refl
effect-mark d was e (Clicks row column) is first =
    let place = pointed_place d e row column in
    either-mark (nat_le row (text_height e.height)) (mark_left e.soft e.mark) (pressed_at d e row column place (press_extent e.clicks row column))
    (record (unselected e) { clicks = None; pressed = None })
    (ap (λ extent. (pressed_at d e row column place extent).mark) first ∙ press-mark d e row column place e.soft refl) refl
effect-mark d was e _ is first = absurd (cc is)

-- a key that does not change the text has its effect also where it is only looked at
allowed : (d : Data) (e : Editor) (key : Key) → changes_text key ≡ false → allowed_effect d e key ≡ effect_of d e key
allowed d e key quiet = ap (λ b. if b && e.read_only then Refuses else effect_of d e key) quiet

ended-mark : (d : Data) (e : Editor) (key : Key) → is_move key ≡ true → IsFirstPress e key → (ended_by d None e key).mark ≡ mark_left e.soft e.mark
ended-mark d e key is first =
    let x = without_prompt (cleared e) in
    let going = each d x key is in
    ap (λ one. (by d None (before e) x one).mark) (allowed d x key going.quiet)
    ∙ effect-mark d (before e) x (effect_of d x key) going.effect (first-of d x key first)

ends-it : (one : Answer) → is_ending one ≡ true → one ≡ answers.Ends
ends-it answers.Ends is = refl
ends-it _ is = absurd (cc is)

moved-by : (d : Data) (e : Editor) (key : Key) (plain : Bool) → e.pasted ≡ None → (e.prompt ≡ prompts.Overwrite → ⊥) → is_move key ≡ true
    → cuts_in e.prompt e.search_state ≡ plain → (plain || is_ending (answer_of key)) ≡ true → after_key d None e key ≡ ended_by d None e key
moved-by d e key true settled other is out ends =
    let going = each d e key is in plain-key d None e key settled going.pressed going.accepted going.leaves out
moved-by d e key false settled other is out ends =
    let going = each d e key is in ended-key d None e key settled going.pressed going.accepted (ends-it (answer_of key) ends) other

moved : (d : Data) (e : Editor) (key : Key) → e.pasted ≡ None → (e.prompt ≡ prompts.Overwrite → ⊥) → is_move key ≡ true → IsFirstPress e key
    → (cuts_in e.prompt e.search_state || is_ending (answer_of key)) ≡ true → (after_key d None e key).mark ≡ mark_left e.soft e.mark
moved d e key settled other is first ends =
    ap (λ (new : Editor). new.mark) (moved-by d e key (cuts_in e.prompt e.search_state) settled other is refl ends) ∙ ended-mark d e key is first

not-old : (soft : Soft) (mark : Option ℕ) → soft ≢ Old → mark_left soft mark ≡ mark
not-old Off mark other = refl
not-old Fresh mark other = refl
not-old Old mark other = absurd (other refl)

-- ---- Select

-- a mark is set, and nothing is asked, sought or pasted
record IsSelecting (e new : Editor) : Type 0 where
  pub mark : new.mark ≡ Some (unwrap_or e.mark e.place)
  pub soft : new.soft ≢ Old
  pub prompt : new.prompt ≡ prompts.Off
  pub search : new.search_state ≡ searches.Off
  pub settled : new.pasted ≡ e.pasted
  pub looked : new.read_only ≡ e.read_only
  pub clicks : new.clicks ≡ None

selected : (e : Editor) (mark : Option ℕ) (soft : Soft) → e.mark ≡ mark → e.soft ≡ soft
    → IsSelecting e (as_left Select (selecting (without_prompt (cleared e)) mark soft))
selected e None soft marked softly = record {
  mark = ap (λ m. Some (unwrap_or m e.place)) (sym marked);
  soft = λ is. cc is;
  prompt = refl;
  search = refl;
  settled = refl;
  looked = refl;
  clicks = refl;
}
selected e (Some mark) Off marked softly = record {
  mark = marked ∙ ap (λ m. Some (unwrap_or m e.place)) (sym marked);
  soft = λ is. let both = sym softly ∙ is in cc both;
  prompt = refl;
  search = refl;
  settled = refl;
  looked = refl;
  clicks = refl;
}
selected e (Some mark) Fresh marked softly = record {
  mark = marked ∙ ap (λ m. Some (unwrap_or m e.place)) (sym marked);
  soft = λ is. let both = sym softly ∙ is in cc both;
  prompt = refl;
  search = refl;
  settled = refl;
  looked = refl;
  clicks = refl;
}
selected e (Some mark) Old marked softly = record {
  mark = marked ∙ ap (λ m. Some (unwrap_or m e.place)) (sym marked);
  soft = λ is. cc is;
  prompt = refl;
  search = refl;
  settled = refl;
  looked = refl;
  clicks = refl;
}

select-is : (d : Data) (e : Editor) → e.pasted ≡ None → cuts_in e.prompt e.search_state ≡ true → IsSelecting e (after_key d None e Select)
select-is d e settled out =
    subst (IsSelecting e) (sym (plain-key d None e Select settled refl refl refl out)) (selected e e.mark e.soft refl refl)

not-over : (prompt : Prompt) → prompt ≡ prompts.Off → prompt ≡ prompts.Overwrite → ⊥
not-over prompt unasked over = let both = sym unasked ∙ over in cc both

-- ---- a key that seeks

next-mark : (d : Data) (e : Editor) → (after_find_next d (unselected e)).mark ≡ mark_left e.soft e.mark
next-mark d e =
    let free = unselected e in
    either-mark (length (sought d free) == 0) free.mark (after_beginning purposes.Find free) (search_from d (next_or_start d free) (sought_alone free))
    refl refl

previous-mark : (d : Data) (e : Editor) → (after_find_previous d (unselected e)).mark ≡ mark_left e.soft e.mark
previous-mark d e =
    let free = unselected e in
    either-mark (length (sought d free) == 0) free.mark (after_beginning purposes.Find free) (search_back d (sought_alone free)) refl refl

sought-mark : (d : Data) (e : Editor) (key : Key) → e.search_state ≡ searches.Off → e.pasted ≡ None → (e.prompt ≡ prompts.Overwrite → ⊥)
    → (key ≡ Replace → e.read_only ≡ false) → seeks key ≡ true → (after_key d None e key).mark ≡ mark_left e.soft e.mark
sought-mark d e Find off settled other writes is = ap (λ (new : Editor). new.mark) (find-begins d e settled off other)
sought-mark d e FindBack off settled other writes is = ap (λ (new : Editor). new.mark) (find-back-begins d e settled off other)
sought-mark d e Replace off settled other writes is = ap (λ (new : Editor). new.mark) (replace-begins d e settled off other (writes refl))
sought-mark d e FindNext off settled other writes is =
    ap (λ (new : Editor). new.mark) (any-key d None e FindNext settled refl)
    ∙ ap (λ s. (after_any d None (before e) e.prompt s (cleared e) FindNext).mark) off
    ∙ ap (λ (new : Editor). new.mark) (next-any d (before e) e.prompt (cleared e) refl other)
    ∙ next-mark d (without_prompt (cleared e))
sought-mark d e FindPrevious off settled other writes is =
    ap (λ (new : Editor). new.mark) (any-key d None e FindPrevious settled refl)
    ∙ ap (λ s. (after_any d None (before e) e.prompt s (cleared e) FindPrevious).mark) off
    ∙ ap (λ (new : Editor). new.mark) (previous-any d (before e) e.prompt (cleared e) refl other)
    ∙ previous-mark d (without_prompt (cleared e))
sought-mark d e _ off settled other writes is = absurd (cc is)

-- ---- the laws

leaves : (d : Data) (e : Editor) (key : Key) → e.pasted ≡ None → (after_key d None e key).mark ≡ mark_left e.soft e.mark
    → (cuts_in e.prompt e.search_state ≡ true
    → let first = after_key d None e Select in (after_key d None first key).mark ≡ mark_left first.soft first.mark)
    → LeavesMark d e key
leaves d e key settled now behind = record {
  old = λ soft. now ∙ ap (λ s. mark_left s e.mark) soft;
  other = λ soft. now ∙ not-old e.soft e.mark soft;
  selecting = λ out.
      let first = after_key d None e Select in
      let chosen = select-is d e settled out in
      behind out ∙ not-old first.soft first.mark chosen.soft ∙ chosen.mark;
}

out-of-line : (e : Editor) (key : Key) → e.prompt ≡ prompts.Off → e.search_state ≡ searches.Off
    → (cuts_in e.prompt e.search_state || is_ending (answer_of key)) ≡ true
out-of-line e key unasked unsought =
    ap (λ p. cuts_in p e.search_state || is_ending (answer_of key)) unasked ∙ ap (λ s. cuts_in prompts.Off s || is_ending (answer_of key)) unsought

pub move-takes-selection-off : MoveTakesSelectionOff
move-takes-selection-off d e key settled other is first ends =
    leaves d e key settled (moved d e key settled other is first ends)
    (λ out.
    let new = after_key d None e Select in
    let chosen = select-is d e settled out in
    moved d new key (chosen.settled ∙ settled) (not-over new.prompt chosen.prompt) is (none-first new key chosen.clicks)
    (out-of-line new key chosen.prompt chosen.search))

pub seeking-takes-selection-off : SeekingTakesSelectionOff
seeking-takes-selection-off d e key off settled other is writes =
    leaves d e key settled (sought-mark d e key off settled other writes is)
    (λ out.
    let new = after_key d None e Select in
    let chosen = select-is d e settled out in
    sought-mark d new key chosen.search (chosen.settled ∙ settled) (not-over new.prompt chosen.prompt) (λ same. chosen.looked ∙ writes same) is)
