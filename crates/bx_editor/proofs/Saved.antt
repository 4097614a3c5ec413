-- What a save keeps, and a name to save under.
use Rattle.std.proofs.Common.{◌≡◌, ℕ, Bool, true, false, List, [], length, Option, Some, None, if◌then◌else◌}
use Rattle.std.specs.Prelude.{◌==◌}
use Rattle.bx_store.specs.declared.cause.SaveCause.{SaveCause}
use Rattle.bx_store.specs.declared.store.StoreFault.{StoreFault}
use Rattle.bx_editor.specs.declared.message.Message.{Message}
use Rattle.bx_editor.specs.declared.message.Message.TheVariants as messages
use Rattle.bx_editor.specs.declared.questions.answers.Prompt.{Prompt}
use Rattle.bx_editor.specs.declared.questions.answers.Prompt.TheVariants as prompts
use Rattle.bx_editor.specs.Editor.{Editor}
use Rattle.bx_editor.specs.Saving.{after_confirming, after_deciding, after_naming, after_save, after_saving, after_saving_under, asked_over}
use Rattle.bx_editor.specs.Saving.{asking_name, confirms, is_changed, is_nameless, takes_name, with_answered_name, without_answer}

-- what is stored, told, asked and named keeps this property of editors
pub record IsKeptSaving (P : Editor → Type 0) : Type 0 where
  pub stored : (e : Editor) (stored : Option ℕ) (changed home : Bool) (message : Option Message) → P e
      → P (record e { stored = stored; changed = changed; home = home; message = message })
  pub asked : (e : Editor) (prompt : Prompt) (answer : List ℕ) (cursor : ℕ) → P e
      → P (record e { prompt = prompt; answer = answer; input_cursor = cursor })
  pub named : (e : Editor) (name : Option (List ℕ)) (answer : List ℕ) → P e → P (record e { name = name; answer = answer })

module _ (P : Editor → Type 0) (keeps : IsKeptSaving P) where
  either : (b : Bool) (p q : Editor) → P p → P q → P (if b then p else q)
  either true p q h k = h
  either false p q h k = k

  over : (cause : Option SaveCause) (e : Editor) → P e → P (asked_over cause e)
  over cause e h =
      either (is_changed cause) (record e { prompt = prompts.Overwrite }) e (keeps.asked e prompts.Overwrite e.answer e.input_cursor h) h

  pub save-keeps : (fault : Option StoreFault) (e : Editor) → P e → P (after_save e fault)
  save-keeps None e h = keeps.stored e (Some (length e.content.past)) false true (Some messages.Saved) h
  save-keeps (Some fault) e h =
      let asked = asked_over fault.cause e in
      keeps.stored asked asked.stored asked.changed asked.home (Some (messages.SaveFailed fault.cause)) (over fault.cause e h)

  pub saving-keeps : (fault : Option StoreFault) (e : Editor) → P e → P (after_saving fault e)
  saving-keeps fault e h =
      either (is_nameless e) (asking_name e) (after_save e fault) (keeps.asked e prompts.File [] 0 h) (save-keeps fault e h)

  under : (fault : Option StoreFault) (e : Editor) → P e → P (after_saving_under fault e)
  under fault e h =
      save-keeps fault (if takes_name e fault then with_answered_name e else without_answer e)
      (either (takes_name e fault) (with_answered_name e) (without_answer e) (keeps.named e (Some e.answer) [] h) (keeps.named e e.name [] h))

  pub naming-keeps : (fault : Option StoreFault) (e : Editor) → P e → P (after_naming fault e)
  naming-keeps fault e h = either (length e.answer == 0) e (after_saving_under fault e) h (under fault e h)

  confirming : (fault : Option StoreFault) (e : Editor) → P e → P (after_confirming fault e)
  confirming fault e h =
      either e.read_only (record e { message = Some messages.ViewOnly }) (after_saving fault e)
      (keeps.stored e e.stored e.changed e.home (Some messages.ViewOnly) h) (saving-keeps fault e h)

  pub deciding-keeps : (fault : Option StoreFault) (e : Editor) (c : ℕ) → P e → P (after_deciding fault e c)
  deciding-keeps fault e c h = either (confirms c) (after_confirming fault e) e (confirming fault e h) h
