-- Which keys store the text, and which quit.
use Rattle.std.proofs.Common.{◌≡◌, Bool, true, false, not, ◌&&◌, Option, Some, None, refl, ap, if◌then◌else◌}
use Rattle.std.specs.Prelude.{is_some}
use Rattle.bx_keys.specs.declared.key.Key.{Key}
use Rattle.bx_keys.specs.declared.key.Key.TheVariants.{Save, Quit}
use Rattle.bx_ucd.specs.Data.{Data}
use Rattle.bx_editor.specs.declared.answer.Answer.TheVariants as answers
use Rattle.bx_editor.specs.declared.questions.answers.Prompt.{Prompt}
use Rattle.bx_editor.specs.declared.questions.answers.Prompt.TheVariants as prompts
use Rattle.bx_editor.specs.Editor.{Editor}
use Rattle.bx_editor.specs.Effects.{Effect, Refuses, Saves, Quits}
use Rattle.bx_editor.specs.Keys.{allowed_effect, changes_text, effect_of, is_save, saving_by, saving_of}
use Rattle.bx_editor.specs.Saving.{Saving}
use Rattle.bx_session.specs.Parts.{is_quit}

abbrev pub is_saving : Effect → Bool
is_saving Saves = true
is_saving _ = false

abbrev pub is_quitting : Effect → Bool
is_quitting Quits = true
is_quitting _ = false

-- a key that stores the text
abbrev pub stores : Editor → Key → Bool
stores e key = is_some (saving_of e key)

-- a key that a replay applies as it is
abbrev pub is_other : Editor → Key → Bool
is_other e key = not (stores e key) && not (is_quit (Some key))

pub not_storing : (e : Editor) (key : Key) → is_other e key ≡ true → stores e key ≡ false
not_storing e key = left (stores e key) (is_quit (Some key)) where
  left : (a b : Bool) → (not a && not b) ≡ true → a ≡ false
  left true b h = absurd (cc h)
  left false b h = refl

pub not_quitting : (e : Editor) (key : Key) → is_other e key ≡ true → is_quit (Some key) ≡ false
not_quitting e key = right (stores e key) (is_quit (Some key)) where
  right : (a b : Bool) → (not a && not b) ≡ true → b ≡ false
  right true b h = absurd (cc h)
  right false true h = absurd (cc h)
  right false false h = refl

-- only Save saves, and only Quit quits
refused_or : (P : Effect → Type 0) (refused : Bool) (effect : Effect) → P Refuses → P effect → P (if refused then Refuses else effect)
refused_or P true effect h k = h
refused_or P false effect h k = k

pub quit_kind : (d : Data) (e : Editor) (key : Key) → is_quitting (allowed_effect d e key) ≡ is_quit (Some key)
quit_kind d e Quit = refl
quit_kind d e key = refused_or (λ effect. is_quitting effect ≡ false) (changes_text key && e.read_only) (effect_of d e key) refl refl

pub save_kind : (d : Data) (e : Editor) (key : Key) → is_save key ≡ false → is_saving (allowed_effect d e key) ≡ false
save_kind d e Save other = absurd (cc other)
save_kind d e key other = refused_or (λ effect. is_saving effect ≡ false) (changes_text key && e.read_only) (effect_of d e key) refl refl

-- a Quit stores nothing
quit_by : (e : Editor) (prompt : Prompt) → saving_by e prompt Quit answers.GoesBack ≡ None
quit_by e prompts.Off = refl
quit_by e prompts.Line = refl
quit_by e prompts.Name = refl
quit_by e prompts.Code = refl
quit_by e prompts.File = refl
quit_by e prompts.Overwrite = refl

kept_none : (b : Bool) (saving : Option Saving) → saving ≡ None → is_some (if b then None else saving) ≡ false
kept_none true saving none = refl
kept_none false saving none = ap (λ (s : Option Saving). is_some s) none

pub quit_stores_nothing : (e : Editor) → stores e Quit ≡ false
quit_stores_nothing e = kept_none (is_some e.pasted && true) (saving_by e e.prompt Quit answers.GoesBack) (quit_by e e.prompt)
