-- The headline of the proofs: what a schedule makes of a file, from the keys typed to the text, the store, and the picture seen.
-- `d` is Unicode's data.
use Rattle.std.specs.Prelude.{◌≡◌, ℕ, ◌+◌, ◌<◌, Bool, true, false, List, [], Some, None, Result, IfSome, IsSome}
use Rattle.bx_common.specs.declared.base.Base.{Base}
use Rattle.bx_grid.specs.Picture.{Shows}
use Rattle.bx_store.specs.Faults.{greatest}
use Rattle.bx_ucd.specs.Data.{Data}
use Rattle.bx_editor.specs.Editor.{Editor}
use Rattle.bx_editor.specs.Picture.{StandsOnItsCell, picture}
use Rattle.bx_editor.specs.Status.{input_column}
use Rattle.bx_editor.specs.Settings.{SettingsState}
use Rattle.bx_session.specs.Session.{Session, clipboard_if, at_opening, with_settings, StoreState}
use Rattle.bx_world.specs.declared.step.Step.{Step}
use Rattle.bx_world.specs.declared.step.StepFault.{StepFault}
use Rattle.bx_world.specs.World.{World, around, HasMemory, is_last_accepted}
use Rattle.bx_world.specs.Events.{Event, AreEvents, HasBytesUntilEnd, HasKeysOfAll}
use Rattle.bx_world.specs.Events.{after_events, stored_after_all, failed_saves}
use Rattle.bx_world.specs.InputCursor.{StandsInLine}

-- The headline, for a session's first editor state and the bytes of a journal, if any. The events are the bytes up to the
-- session's end and the told sizes, each with its answer. The journal's keys and then the events' are the keys that the input
-- grammar gives for all bytes as a whole. The state is the result of the accepted keys and told sizes, in order, from the
-- first state. Each successful save stored the text at that moment. If the session was told the window's last size, the
-- last call was accepted and all bytes are read, the terminal shows exactly the picture of that state. Until the session's
-- end, the cursor of that picture is on the cell of its place: of the text, or of a prompt's input line.
pub record Headline {A : Type 0} (d : Data) (start : Editor) (journal : List ℕ) (store : StoreState) (schedule : List (Step × Result A StepFault))
    (new : World) (store' : StoreState) (events : List Event) : Type 0 where
  pub events_are : AreEvents d start schedule events
  pub input : HasBytesUntilEnd schedule events new.session.editor
  pub keys : HasKeysOfAll journal events
  pub editor : new.session.editor ≡ after_events d start events
  pub stored : store' ≡ stored_after_all d start store events
  pub failures : store'.faults.count < greatest → store'.faults.count ≡ store.faults.count + failed_saves d start events
  pub shows : is_last_accepted true schedule ≡ true → new.told ≡ true → new.line ≡ [] → new.session.pending ≡ []
      → IfSome new.screen (λ t. Shows t (picture d (after_events d start events) new.session.editor.top))
  -- the terminal is there unless it ran out of memory
  pub live : HasMemory schedule → IsSome new.screen
  -- if the last call was accepted, no painting is owed
  pub owes : is_last_accepted true schedule ≡ true → new.session.painting_owed ≡ false
  -- the cursor stands so with bytes unread or pending too, and whatever sizes were told: where no input line has it, on the cell of its
  -- place in the text
  pub cursor : new.session.painting_owed ≡ false → new.session.editor.ended ≡ false
      → input_column d (after_events d start events) ≡ None
      → StandsOnItsCell d (after_events d start events) new.session.editor.top (picture d (after_events d start events) new.session.editor.top)
  -- where one has it, on the cell of what is typed there
  pub in_line : (column : ℕ) → new.session.editor.ended ≡ false → input_column d (after_events d start events) ≡ Some column
      → StandsInLine d (after_events d start events) (picture d (after_events d start events) new.session.editor.top)

-- a text was opened, to work by these settings, with a clipboard or without
abbrev pub opened_by : Data → List ℕ → ℕ → ℕ → Base → SettingsState → Bool → Session
opened_by d text height width base settings clipboard = clipboard_if clipboard (with_settings d (at_opening d text height width base) settings)

-- the headline for every file, tables and schedule, from a world at its opening
abbrev pub HeadlineFromOpening : {A : Type 0} → Data → World → StoreState → List (Step × Result A StepFault) → World → StoreState → Type 0
HeadlineFromOpening d old store schedule new store' =
    (text : List ℕ) (height width : ℕ) (base : Base) (settings : SettingsState) (clipboard : Bool)
    → old ≡ around (opened_by d text height width base settings clipboard) height width
    → (events : List Event) × Headline d (opened_by d text height width base settings clipboard).editor [] store schedule new store' events
