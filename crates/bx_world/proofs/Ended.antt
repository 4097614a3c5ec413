-- The bytes of a schedule up to the session's end are those of its events.
use Rattle.std.proofs.Common.{◌≡◌, ◌≢◌, ℕ, Bool, true, false, List, [], ◌∷◌, ◌++◌, Result}
use Rattle.std.proofs.Common.{refl, sym, ap, subst, ◌∙◌, if◌then◌else◌}
use Rattle.std.proofs.lemmas.List.{append_assoc}
use Rattle.bx_grid.specs.Picture.{is_size}
use Rattle.bx_ucd.specs.Data.{Data}
use Rattle.bx_editor.specs.Editor.{Editor}
use Rattle.bx_world.specs.declared.step.Step.{Step}
use Rattle.bx_world.specs.declared.step.Step.TheVariants.{Byte, Window, Told, Send, Read}
use Rattle.bx_world.specs.declared.step.StepFault.{StepFault}
use Rattle.bx_world.specs.World.{is_ok}
use Rattle.bx_world.specs.Events.{Event, Input, Telling, after_event, after_events, input_of, byte_of, bytes_of_schedule, Brings, BringsByte, AreEventsFrom, owed_after}

pub after_both : (d : Data) (e : Editor) (first others : List Event) → after_events d e (first ++ others) ≡ after_events d (after_events d e first) others
after_both d e [] others = refl
after_both d e (event ∷ first) others = after_both d (after_event d e event) first others

input_both : (first others : List Event) → input_of (first ++ others) ≡ input_of first ++ input_of others
input_both [] others = refl
input_both (Input byte key applied fault painted ∷ first) others = ap (λ xs. byte ∷ xs) (input_both first others)
input_both (Telling height width painted ∷ first) others = input_both first others

-- ---- after the end

-- no byte is among these events, and the session has ended
pub record IsOver (d : Data) (e : Editor) (events : List Event) : Type 0 where
  pub input : input_of events ≡ []
  pub ended : (after_events d e events).ended ≡ true

over_none : (d : Data) (e : Editor) (events : List Event) → e.ended ≡ true → events ≡ [] → IsOver d e events
over_none d e events on is = record { input = ap input_of is; ended = ap (λ xs. (after_events d e xs).ended) is ∙ on }

over_told : (d : Data) (e : Editor) (height width : ℕ) (sized painted : Bool) (events : List Event) → e.ended ≡ true
    → events ≡ (if sized then Telling height width painted ∷ [] else []) → IsOver d e events
over_told d e height width true painted events on is = record { input = ap input_of is; ended = ap (λ xs. (after_events d e xs).ended) is ∙ on }
over_told d e height width false painted events on is = over_none d e events on is

pub over_step : (d : Data) (owed : Bool) (e : Editor) (step : Step) (answer : Result (Unit {0}) StepFault) (events : List Event) → e.ended ≡ true
    → Brings owed e step answer events → IsOver d e events
over_step d owed e (Byte b) answer events on brings =
    over_none d e events on (subst (λ ended. BringsByte ended owed e b answer events) on brings)
over_step d owed e (Told height width) answer events on brings =
    over_told d e height width (is_size height width) (is_ok answer) events on brings
over_step d owed e (Window height width) answer events on brings = over_none d e events on brings
over_step d owed e (Send count) answer events on brings = over_none d e events on brings
over_step d owed e (Read count) answer events on brings = over_none d e events on brings

none_both : (xs ys : List ℕ) → xs ≡ [] → ys ≡ [] → xs ++ ys ≡ []
none_both xs ys a b = rw (a, b) refl

pub over : (d : Data) (owed : Bool) (e : Editor) (all : List (Step × Result (Unit {0}) StepFault)) (events : List Event) → e.ended ≡ true
    → AreEventsFrom d owed e all events → IsOver d e events
over d owed e [] events on are = over_none d e events on are
over d owed e (s ∷ more) events on are =
    let first = over_step d owed e s.0 s.1 are.0 on are.3 in
    let others = over d (owed_after owed s.0 s.1) (after_events d e are.0) more are.1 first.ended are.4 in record {
      input = ap input_of are.2 ∙ input_both are.0 are.1 ∙ none_both (input_of are.0) (input_of are.1) first.input others.input;
      ended = ap (λ xs. (after_events d e xs).ended) are.2 ∙ ap (λ (x : Editor). x.ended) (after_both d e are.0 are.1) ∙ others.ended;
    }

-- ---- before the end

told_input : (height width : ℕ) (sized painted : Bool) (events : List Event)
    → events ≡ (if sized then Telling height width painted ∷ [] else []) → input_of events ≡ []
told_input height width true painted events is = ap input_of is
told_input height width false painted events is = ap input_of is

byte_input : (ended owed : Bool) (e : Editor) (b : ℕ) (answer : Result (Unit {0}) StepFault) (events : List Event) → ended ≡ false
    → BringsByte ended owed e b answer events → input_of events ≡ b ∷ []
byte_input true owed e b answer events off brings = absurd (cc off)
byte_input false owed e b answer events off brings = ap input_of brings.2

step_input : (owed : Bool) (e : Editor) (step : Step) (answer : Result (Unit {0}) StepFault) (events : List Event) → e.ended ≡ false
    → Brings owed e step answer events → input_of events ≡ byte_of step
step_input owed e (Byte b) answer events off brings = byte_input e.ended owed e b answer events off brings
step_input owed e (Told height width) answer events off brings = told_input height width (is_size height width) (is_ok answer) events brings
step_input owed e (Window height width) answer events off brings = ap input_of brings
step_input owed e (Send count) answer events off brings = ap input_of brings
step_input owed e (Read count) answer events off brings = ap input_of brings

-- all bytes of a schedule, of which those behind the end are dropped
pub record HasInput (d : Data) (e : Editor) (all : List (Step × Result (Unit {0}) StepFault)) (events : List Event) : Type 0 where
  pub dropped : List ℕ
  pub bytes : bytes_of_schedule all ≡ input_of events ++ dropped
  pub drops : dropped ≢ [] → (after_events d e events).ended ≡ true

pub has_input : (d : Data) (owed : Bool) (e : Editor) (all : List (Step × Result (Unit {0}) StepFault)) (events : List Event)
    → AreEventsFrom d owed e all events → HasInput d e all events
has_input d owed e [] events are = record {
  dropped = [];
  bytes = sym (ap (λ xs. input_of xs ++ []) are);
  drops = λ some. absurd (some refl);
}
has_input d owed e (s ∷ more) events are =
    by_end e.ended refl (has_input d (owed_after owed s.0 s.1) (after_events d e are.0) more are.1 are.4) where
      by_end : (ended : Bool) → e.ended ≡ ended → HasInput d (after_events d e are.0) more are.1 → HasInput d e (s ∷ more) events
      by_end true on others =
          let is = over d owed e (s ∷ more) events on are in record {
            dropped = bytes_of_schedule (s ∷ more);
            bytes = sym (ap (λ xs. xs ++ bytes_of_schedule (s ∷ more)) is.input);
            drops = λ some. is.ended;
          }
      by_end false off others =
          let first : List ℕ = byte_of s.0 in record {
            dropped = others.dropped;
            bytes = ap (λ xs. first ++ xs) others.bytes
                ∙ sym (append_assoc first (input_of are.1) others.dropped)
                ∙ ap (λ xs. (xs ++ input_of are.1) ++ others.dropped) (sym (step_input owed e s.0 s.1 are.0 off are.3))
                ∙ ap (λ xs. xs ++ others.dropped) (sym (input_both are.0 are.1))
                ∙ ap (λ xs. input_of xs ++ others.dropped) (sym are.2);
            drops = λ some. ap (λ xs. (after_events d e xs).ended) are.2 ∙ ap (λ (x : Editor). x.ended) (after_both d e are.0 are.1) ∙ others.drops some;
          }
