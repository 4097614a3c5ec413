-- A key that ends what is asked and sought has its usual effect behind that.
use Rattle.std.proofs.Common.{◌≡◌, ◌⊎◌, inl, inr, Bool, true, false, refl, ap, ap₂, ◌∙◌}
use Rattle.std.specs.Prelude.{◌&&◌, Option, None, if◌then◌else◌}
use Rattle.bx_keys.specs.declared.key.Key.{Key}
use Rattle.bx_keys.specs.declared.key.Key.TheVariants.{Erase}
use Rattle.bx_store.specs.declared.store.StoreFault.{StoreFault}
use Rattle.bx_ucd.specs.Data.{Data}
use Rattle.bx_editor.specs.declared.answer.Answer.TheVariants as answers
use Rattle.bx_editor.specs.declared.questions.answers.Prompt.{Prompt}
use Rattle.bx_editor.specs.declared.questions.answers.Prompt.TheVariants as prompts
use Rattle.bx_editor.specs.declared.search_state.SearchState.{SearchState}
use Rattle.bx_editor.specs.declared.search_state.SearchState.TheVariants.{Off, Begun, Typed, WithBegun, WithTyped, Replacing}
use Rattle.bx_editor.specs.Answering.{answer_of, without_line}
use Rattle.bx_editor.specs.Asking.{without_prompt}
use Rattle.bx_editor.specs.Before.{Before, before}
use Rattle.bx_editor.specs.Editor.{Editor, cleared}
use Rattle.bx_editor.specs.Effects.{Refuses, by}
use Rattle.bx_editor.specs.Functions.{is_told_key}
use Rattle.bx_editor.specs.Keys.{after_any, after_key, after_pressing, answered, answered_match, answered_name, answered_question}
use Rattle.bx_editor.specs.Keys.{answered_overwrite, answered_replacement, as_left, changes_text, effect_of, is_overwrite, refuses_replacing}
use Rattle.bx_editor.specs.PasteLaws.{cuts_in}
use Rattle.bx_editor.specs.Search.{without_search}
use Rattle.bx_editor.proofs.InSearch.{any-key}

module _ (d : Data) (fault : Option StoreFault) (was : Before) (key : Key) where
  -- without a question, and without a search
  free : (e : Editor) → e.prompt ≡ prompts.Off → e.search_state ≡ Off → after_pressing d fault was e key ≡ after_pressing d fault was (without_prompt e) key
  free e unasked unsought = ap₂ (λ a s. after_pressing d fault was (record e { prompt = a; search_state = s }) key) unasked unsought

  unsearched : (e : Editor) → e.prompt ≡ prompts.Off
      → after_pressing d fault was (without_search e) key ≡ after_pressing d fault was (without_prompt e) key
  unsearched e unasked = ap (λ a. after_pressing d fault was (record e { prompt = a; search_state = Off }) key) unasked

  -- a key that ends an input line too
  pub ended-any : (prompt : Prompt) (search_state : SearchState) (e : Editor) → e.prompt ≡ prompt → e.search_state ≡ search_state
      → answer_of key ≡ answers.Ends → (prompt ≡ prompts.Overwrite → ⊥)
      → after_any d fault was prompt search_state e key ≡ after_pressing d fault was (without_prompt e) key
  ended-any prompts.Off Off e unasked unsought ends other = free e unasked unsought
  ended-any prompts.Off Begun e unasked on ends other = ap (answered d fault was e key) ends ∙ unsearched e unasked
  ended-any prompts.Off Typed e unasked on ends other = ap (answered d fault was e key) ends ∙ unsearched e unasked
  ended-any prompts.Off WithBegun e unasked on ends other = ap (answered_replacement d fault was e key) ends ∙ unsearched e unasked
  ended-any prompts.Off WithTyped e unasked on ends other = ap (answered_replacement d fault was e key) ends ∙ unsearched e unasked
  ended-any prompts.Off Replacing e unasked on ends other = ap (λ a. answered_match d fault was e key (without_line a)) ends ∙ unsearched e unasked
  ended-any prompts.Line search_state e asked is ends other = ap (answered_question d fault was e key) ends
  ended-any prompts.Name search_state e asked is ends other = ap (λ a. answered_name d fault was e key (without_line a)) ends
  ended-any prompts.Code search_state e asked is ends other = ap (answered_question d fault was e key) ends
  ended-any prompts.File search_state e asked is ends other = ap (answered_question d fault was e key) ends
  ended-any prompts.Overwrite search_state e asked is ends other = absurd (other refl)

  -- a key that has its usual effect where no input line is shown
  pub plain-any : (prompt : Prompt) (search_state : SearchState) (e : Editor) → e.prompt ≡ prompt → e.search_state ≡ search_state
      → without_line (answer_of key) ≡ answers.Ends → cuts_in prompt search_state ≡ true
      → after_any d fault was prompt search_state e key ≡ after_pressing d fault was (without_prompt e) key
  plain-any prompts.Off Off e unasked unsought ends out = free e unasked unsought
  plain-any prompts.Off Begun e unasked on ends out = absurd (cc out)
  plain-any prompts.Off Typed e unasked on ends out = absurd (cc out)
  plain-any prompts.Off WithBegun e unasked on ends out = absurd (cc out)
  plain-any prompts.Off WithTyped e unasked on ends out = absurd (cc out)
  plain-any prompts.Off Replacing e unasked on ends out = ap (answered_match d fault was e key) ends ∙ unsearched e unasked
  plain-any prompts.Line search_state e asked is ends out = absurd (cc out)
  plain-any prompts.Name search_state e asked is ends out = ap (answered_name d fault was e key) ends
  plain-any prompts.Code search_state e asked is ends out = absurd (cc out)
  plain-any prompts.File search_state e asked is ends out = absurd (cc out)
  plain-any prompts.Overwrite search_state e asked is ends out = absurd (cc out)

pub and-false : (b : Bool) → (b && false) ≡ false
and-false true = refl
and-false false = refl

-- where the text is not only looked at
pub written : (d : Data) (fault : Option StoreFault) (was : Before) (e : Editor) (key : Key) → e.read_only ≡ false
    → after_pressing d fault was e key ≡ by d fault was e (effect_of d e key)
written d fault was e key writes =
    ap (λ b. by d fault was e (if b then Refuses else effect_of d e key))
    (ap (λ r. changes_text key && r) writes ∙ and-false (changes_text key))

-- the effect of such a key on an editor where nothing is asked and sought any more
abbrev pub ended_by : Data → Option StoreFault → Editor → Key → Editor
ended_by d fault e key = as_left key (after_pressing d fault (before e) (without_prompt (cleared e)) key)

-- the same where the text is not only looked at
abbrev pub done_by : Data → Option StoreFault → Editor → Key → Editor
done_by d fault e key = let free = without_prompt (cleared e) in as_left key (by d fault (before e) free (effect_of d free key))

module _ (d : Data) (fault : Option StoreFault) (e : Editor) (key : Key) (settled : e.pasted ≡ None) (pressed : is_told_key key ≡ false)
    (accepted : refuses_replacing e key ≡ false) where
  pub user-key : after_key d fault e key ≡ as_left key (after_any d fault (before e) e.prompt e.search_state (cleared e) key)
  user-key =
      any-key d fault e key settled pressed
      ∙ ap (λ b. as_left key (if b then by d fault (before e) (cleared e) Refuses else after_any d fault (before e) e.prompt e.search_state (cleared e) key)) accepted

  pub ended-key : answer_of key ≡ answers.Ends → (e.prompt ≡ prompts.Overwrite → ⊥) → after_key d fault e key ≡ ended_by d fault e key
  ended-key ends other = user-key ∙ ap (as_left key) (ended-any d fault (before e) key e.prompt e.search_state (cleared e) refl refl ends other)

  pub plain-key : without_line (answer_of key) ≡ answers.Ends → cuts_in e.prompt e.search_state ≡ true → after_key d fault e key ≡ ended_by d fault e key
  plain-key ends out = user-key ∙ ap (as_left key) (plain-any d fault (before e) key e.prompt e.search_state (cleared e) refl refl ends out)

  -- where nothing is asked and sought
  pub free-key : e.prompt ≡ prompts.Off → e.search_state ≡ Off → after_key d fault e key ≡ as_left key (after_pressing d fault (before e) (cleared e) key)
  free-key unasked unsought = user-key ∙ ap₂ (λ a s. as_left key (after_any d fault (before e) a s (cleared e) key)) unasked unsought

  pub free-done : e.prompt ≡ prompts.Off → e.search_state ≡ Off → e.read_only ≡ false
      → after_key d fault e key ≡ as_left key (by d fault (before e) (cleared e) (effect_of d (cleared e) key))
  free-done unasked unsought writes = free-key unasked unsought ∙ ap (as_left key) (written d fault (before e) (cleared e) key writes)

  -- in the question whether to overwrite it only ends that
  pub declined-key : e.prompt ≡ prompts.Overwrite → answer_of key ≡ answers.Ends → after_key d fault e key ≡ as_left key (without_prompt (cleared e))
  declined-key over ends =
      user-key ∙ ap (λ p. as_left key (after_any d fault (before e) p e.search_state (cleared e) key)) over
      ∙ ap (λ a. as_left key (answered_overwrite fault (before e) (cleared e) a)) ends

  pub ended-done : answer_of key ≡ answers.Ends → (e.prompt ≡ prompts.Overwrite → ⊥) → e.read_only ≡ false → after_key d fault e key ≡ done_by d fault e key
  ended-done ends other writes = ended-key ends other ∙ ap (as_left key) (written d fault (before e) (without_prompt (cleared e)) key writes)

  pub plain-done : without_line (answer_of key) ≡ answers.Ends → cuts_in e.prompt e.search_state ≡ true → e.read_only ≡ false
      → after_key d fault e key ≡ done_by d fault e key
  plain-done ends out writes = plain-key ends out ∙ ap (as_left key) (written d fault (before e) (without_prompt (cleared e)) key writes)

-- a key does its work: no paste is under way, the question is not whether to overwrite, and the text is not only looked at
pub record DoesWork (e : Editor) : Type 0 where
  pub settled : e.pasted ≡ None
  pub other : e.prompt ≡ prompts.Overwrite → ⊥
  pub writes : e.read_only ≡ false

-- what most keys leave
abbrev pub behind : Editor → Editor
behind e = as_left Erase e

-- the question is whether to overwrite, or another
pub decides : (prompt : Prompt) → (prompt ≡ prompts.Overwrite) ⊎ (prompt ≡ prompts.Overwrite → ⊥)
decides prompts.Off = inr (λ over. cc over)
decides prompts.Line = inr (λ over. cc over)
decides prompts.Name = inr (λ over. cc over)
decides prompts.Code = inr (λ over. cc over)
decides prompts.File = inr (λ over. cc over)
decides prompts.Overwrite = inl refl

pub no-overwrite : (prompt : Prompt) → (prompt ≡ prompts.Overwrite → ⊥) → is_overwrite prompt ≡ false
no-overwrite prompts.Off other = refl
no-overwrite prompts.Line other = refl
no-overwrite prompts.Name other = refl
no-overwrite prompts.Code other = refl
no-overwrite prompts.File other = refl
no-overwrite prompts.Overwrite other = absurd (other refl)
