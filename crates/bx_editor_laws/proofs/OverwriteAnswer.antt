-- Only an answer overwrites what another program wrote.
use Rattle.std.proofs.Common.{◌≡◌, ◌≢◌, ◌∙◌, ℕ, Bool, true, false, List, Option, Some, None, refl, sym, ap, if◌then◌else◌}
use Rattle.std.specs.Prelude.{◌&&◌, not, is_some}
use Rattle.bx_keys.specs.declared.key.Key.{Key}
use Rattle.bx_keys.specs.declared.key.Key.TheVariants.{Insert, NewLine, Save}
use Rattle.bx_store.specs.declared.store.StoreFault.{StoreFault}
use Rattle.bx_ucd.specs.Data.{Data}
use Rattle.bx_editor.specs.declared.answer.Answer.{Answer}
use Rattle.bx_editor.specs.declared.answer.Answer.TheVariants as answers
use Rattle.bx_editor.specs.declared.questions.answers.Prompt.{Prompt}
use Rattle.bx_editor.specs.declared.questions.answers.Prompt.TheVariants as prompts
use Rattle.bx_editor.specs.Answering.{answer_of}
use Rattle.bx_editor.specs.Editor.{Editor}
use Rattle.bx_editor.specs.Keys.{ends_name, is_save, overwrites, saving_by, saving_of}
use Rattle.bx_editor.specs.Putting.{is_paste}
use Rattle.bx_editor.specs.Saving.{Saving, Own, Under, Over, can_save, confirms, is_name, own_saving, saving_over, saving_under}
use Rattle.bx_editor_laws.specs.InputLaws.{OnlyAnswersOverwrite, OverwritesByAnswer}
use Rattle.bx_editor_laws.proofs.KeyEnds.{declined-key}

-- ---- where a text is stored

own-or-under : (b : Bool) (name : List ℕ) → (if b then Own else Under name) ≢ Over
own-or-under true name is = cc is
own-or-under false name is = cc is

own-not-over : (e : Editor) (name : Option (List ℕ)) → own_saving e name ≢ Over
own-not-over e None is = cc is
own-not-over e (Some name) is = own-or-under e.home name is

if-not : (b : Bool) (s : Saving) → s ≢ Over → (if b then Some s else None) ≢ Some Over
if-not true s other is = other (cc is)
if-not false s other is = cc is

if-true : (b : Bool) (s : Saving) → (if b then Some s else None) ≡ Some Over → b ≡ true
if-true true s is = refl
if-true false s is = absurd (cc is)

if-false : (b : Bool) (s : Option Saving) → (if b then None else s) ≡ Some Over → s ≡ Some Over
if-false true s is = absurd (cc is)
if-false false s is = is

-- ---- by what is asked

-- its own name means where saves go
abbrev is_home : Editor → Bool
is_home e = e.home && is_name e.name e.answer && not e.read_only

own-key : (e : Editor) (key : Key) → (if is_save key && can_save e then Some (own_saving e e.name) else None) ≢ Some Over
own-key e key = if-not (is_save key && can_save e) (own_saving e e.name) (own-not-over e e.name)

asked-by : (e : Editor) (prompt : Prompt) (key : Key) (answer : Answer) → saving_by e prompt key answer ≡ Some Over → prompt ≡ prompts.Overwrite
asked-by e prompts.Overwrite key answer is = refl
asked-by e prompts.File key (answers.Letter c) is =
    absurd (if-not (ends_name e c) (saving_under e e.answer) (own-or-under (is_home e) e.answer) is)
asked-by e prompts.File key (answers.Erases how) is = absurd (own-key e key is)
asked-by e prompts.File key (answers.Moves m) is = absurd (own-key e key is)
asked-by e prompts.File key answers.PutsIn is = absurd (own-key e key is)
asked-by e prompts.File key answers.Passes is = absurd (own-key e key is)
asked-by e prompts.File key answers.GoesBack is = absurd (own-key e key is)
asked-by e prompts.File key answers.Next is = absurd (own-key e key is)
asked-by e prompts.File key answers.Previous is = absurd (own-key e key is)
asked-by e prompts.File key answers.Replaces is = absurd (own-key e key is)
asked-by e prompts.File key (answers.Scrolls way) is = absurd (own-key e key is)
asked-by e prompts.File key answers.Stays is = absurd (own-key e key is)
asked-by e prompts.File key answers.Ends is = absurd (own-key e key is)
asked-by e prompts.Off key answer is = absurd (own-key e key is)
asked-by e prompts.Line key answer is = absurd (own-key e key is)
asked-by e prompts.Name key answer is = absurd (own-key e key is)
asked-by e prompts.Code key answer is = absurd (own-key e key is)

first-of-three : (a b c : Bool) → (a && b && c) ≡ true → a ≡ true
first-of-three true b c is = refl
first-of-three false true true is = absurd (cc is)
first-of-three false true false is = absurd (cc is)
first-of-three false false true is = absurd (cc is)
first-of-three false false false is = absurd (cc is)

confirmed-letter : (e : Editor) (c : ℕ) → (if overwrites e c then Some (saving_over e) else None) ≡ Some Over → confirms c ≡ true
confirmed-letter e c is = first-of-three (confirms c) (not (is_paste e.typing)) (can_save e) (if-true (overwrites e c) (saving_over e) is)

confirmed-by : (e : Editor) (key : Key) → saving_by e prompts.Overwrite key (answer_of key) ≡ Some Over → (c : ℕ) × ((key ≡ Insert c) × (confirms c ≡ true))
confirmed-by e (Insert c) is = (c, (refl, confirmed-letter e c is))
confirmed-by e NewLine is = absurd (cc (confirmed-letter e 0xA is))
confirmed-by e _ is = absurd (cc is)

-- ---- the law

module _ (d : Data) (fault : Option StoreFault) (e : Editor) (key : Key) where
  stored : (one : Key) → saving_of e one ≡ Some Over → saving_by e e.prompt one (answer_of one) ≡ Some Over
  stored one is = if-false (is_some e.pasted && not (is_save one)) (saving_by e e.prompt one (answer_of one)) is

  asked : (one : Key) → saving_of e one ≡ Some Over → e.prompt ≡ prompts.Overwrite
  asked one is = asked-by e e.prompt one (answer_of one) (stored one is)

  over-by : (one : Key) → saving_of e one ≡ Some Over → saving_by e prompts.Overwrite one (answer_of one) ≡ Some Over
  over-by one is = sym (ap (λ p. saving_by e p one (answer_of one)) (asked one is)) ∙ stored one is

  save : saving_of e Save ≢ Some Over
  save is = cc (over-by Save is)

  answer : (c : ℕ) → e.prompt ≡ prompts.Overwrite → e.pasted ≡ None → overwrites e c ≡ true → e.home ≡ true → saving_of e (Insert c) ≡ Some Over
  answer c over settled all home =
      ap (λ p. if is_some p && not (is_save (Insert c)) then None else saving_by e e.prompt (Insert c) (answers.Letter c)) settled
      ∙ ap (λ p. saving_by e p (Insert c) (answers.Letter c)) over
      ∙ ap (λ b. if b then Some (saving_over e) else None) all
      ∙ ap (λ b. Some (if b then Over else own_saving e e.name)) home

  by-answer : OverwritesByAnswer d fault e key
  by-answer = record {
    asked = λ is. asked key is;
    confirmed = λ is. confirmed-by e key (over-by key is);
    save = λ is. save is;
    answer = λ c over settled all home. answer c over settled all home;
    declined = λ over settled. ap (λ x. x.prompt) (declined-key d fault e Save settled refl refl over refl);
  }

pub only-answers-overwrite : OnlyAnswersOverwrite
only-answers-overwrite d fault e key = by-answer d fault e key
