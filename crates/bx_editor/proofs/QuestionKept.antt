-- Outside a question only the keys that ask, and a Save and the wheel, change what is asked.
use Rattle.std.proofs.Common.{◌≡◌, ℕ, Bool, true, false, List, length, refl, if◌then◌else◌}
use Rattle.std.specs.Prelude.{◌==◌, Option, Some, None}
use Rattle.bx_editor.specs.declared.questions.answers.Prompt.{Prompt}
use Rattle.bx_store.specs.declared.store.StoreFault.{StoreFault}
use Rattle.bx_ucd.specs.Data.{Data}
use Rattle.bx_editor.specs.declared.search_state.SearchPurpose.TheVariants as purposes
use Rattle.bx_editor.specs.Before.{Before}
use Rattle.bx_editor.specs.Editor.{Editor}
use Rattle.bx_editor.specs.Effects.{Effect, Seeks, SeeksNext, SeeksPrevious, Wheels, Saves, AsksLine, AsksName, AsksFile, AsksOverwrite, by}
use Rattle.bx_editor.specs.Search.{after_beginning, next_or_start, search_back, search_from, sought, sought_alone}
use Rattle.bx_editor.specs.Region.{unselected}
use Rattle.bx_editor.proofs.EffectsKept as kept

-- this is asked, and this is the answer
abbrev pub Asks : Prompt → List ℕ → Editor → Type 0
Asks prompt answer e = (e.prompt ≡ prompt) × (e.answer ≡ answer)

either : (prompt : Prompt) (answer : List ℕ) (b : Bool) (p q : Editor) → Asks prompt answer p → Asks prompt answer q → Asks prompt answer (if b then p else q)
either prompt answer true p q h k = h
either prompt answer false p q h k = k

pressing : (d : Data) (prompt : Prompt) (answer : List ℕ) → kept.IsKeptPressing d (Asks prompt answer)
pressing d prompt answer = record {
  inserted = λ e new on h. h;
  lined = λ e new h. h;
  removed = λ e start stop on h. h;
  stepped = kept.step-keeps (Asks prompt answer) (λ e content place changed h. h) (λ e message h. h);
  run = kept.run-keeps (Asks prompt answer) (λ e content place changed h. h) (λ e message h. h);
  quit = λ e ended message h. h;
  based = λ e base h. h;
  gone = λ e place goal h. h;
  pointed = λ e clicks pressed h. h;
  marked = λ e mark soft held whole_line h. h;
  told = λ e message typing h. h;
}

-- the effect begins a question, or may begin or end one
abbrev pub begins_question : Effect → Bool
begins_question (Wheels way) = true
begins_question Saves = true
begins_question AsksLine = true
begins_question AsksName = true
begins_question AsksFile = true
begins_question AsksOverwrite = true
begins_question _ = false

seeking : (d : Data) (fault : Option StoreFault) (was : Before) (e : Editor) (one : Effect) → begins_question one ≡ false → kept.asks_or_seeks one ≡ true
    → Asks e.prompt e.answer (by d fault was e one)
seeking d fault was e (Seeks purpose) h is = (refl, refl)
seeking d fault was e SeeksNext h is =
    let free = unselected e in
    either e.prompt e.answer (length (sought d free) == 0) (after_beginning purposes.Find free)
    (search_from d (next_or_start d free) (sought_alone free)) (refl, refl) (refl, refl)
seeking d fault was e SeeksPrevious h is =
    let free = unselected e in
    either e.prompt e.answer (length (sought d free) == 0) (after_beginning purposes.Find free) (search_back d (sought_alone free))
    (refl, refl) (refl, refl)
seeking d fault was e (Wheels way) h is = absurd (cc h)
seeking d fault was e Saves h is = absurd (cc h)
seeking d fault was e AsksLine h is = absurd (cc h)
seeking d fault was e AsksName h is = absurd (cc h)
seeking d fault was e AsksFile h is = absurd (cc h)
seeking d fault was e AsksOverwrite h is = absurd (cc h)
seeking d fault was e _ h is = absurd (cc is)

pub effect-keeps : (d : Data) (fault : Option StoreFault) (was : Before) (e : Editor) (one : Effect) → begins_question one ≡ false
    → Asks e.prompt e.answer (by d fault was e one)
effect-keeps d fault was e one h =
    kept.effect-keeps d (Asks e.prompt e.answer) (pressing d e.prompt e.answer) fault was e one (refl, refl) (seeking d fault was e one h)
