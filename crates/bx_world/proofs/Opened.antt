-- The headline, of a world as it was opened.
use Rattle.std.proofs.Common.{◌≡◌, ℕ, Bool, true, false, List, [], Result, refl, sym, ap, subst, ◌∙◌}
use Rattle.std.specs.Prelude.{IfSome, IsSome, not}
use Rattle.bx_grid.specs.Picture.{Shows}
use Rattle.bx_ucd.specs.Data.{Data}
use Rattle.bx_editor.specs.Editor.{Editor}
use Rattle.bx_editor.specs.Picture.{StandsOnItsCell, picture}
use Rattle.bx_editor.specs.Status.{input_column}
use Rattle.bx_common.specs.declared.base.Base.{Base}
use Rattle.bx_editor.specs.Settings.{SettingsState}
use Rattle.bx_session.specs.Inputs.{rest_from}
use Rattle.bx_session.specs.Session.{StoreState}
use Rattle.bx_world.specs.declared.step.Step.{Step}
use Rattle.bx_world.specs.declared.step.StepFault.{StepFault}
use Rattle.bx_world.specs.World.{World, PlaysTo, is_last_accepted}
use Rattle.bx_world.specs.Showing.{IsInStep}
use Rattle.bx_world.specs.Events.{Event, AreEventsFrom}
use Rattle.bx_world.specs.InputCursor.{StandsInLine}
use Rattle.bx_world.specs.Headline.{Headline, HeadlineFromOpening, opened_by}
use Rattle.bx_world.proofs.Brought.{AreDecoded, decoded_behind, follows_decoded}
use Rattle.bx_world.proofs.InputCursors.{stands_in_line}
use Rattle.bx_world.proofs.Live.{plays_live}
use Rattle.bx_world.proofs.Schedules.{OwesNot, accepted_owes_nothing, shows_when_read}

-- the headline of what follows from a world as a session begins in it, behind the bytes of a journal
pub headline_behind : (d : Data) (journal : List ℕ) (old new : World) (store store' : StoreState) (all : List (Step × Result (Unit {0}) StepFault))
    → PlaysTo d old store all new store' → IsInStep d new → old.rest ≡ rest_from [] journal → old.session.painting_owed ≡ false
    → IsSome old.screen → (events : List Event) × Headline d old.session.editor journal store all new store' events
headline_behind d journal old new store store' all played was rest paid live =
    let found = follows_decoded d old new store store' all played in
    let f = found.1 in
    let owes : OwesNot (is_last_accepted true all) new = accepted_owes_nothing d true old new store store' all played (λ on. paid) in
    let picture_is : Editor → Type 0 = λ (e : Editor). IfSome new.screen (λ t. Shows t (picture d e new.session.editor.top)) in
    let stands : Editor → Type 0 = λ (e : Editor). StandsOnItsCell d e new.session.editor.top (picture d e new.session.editor.top) in (
      found.0,
      record {
        events_are = subst (λ (owed : Bool). AreEventsFrom d owed old.session.editor all found.0) paid f.events_are;
        input = f.input;
        keys = decoded_behind journal found.0 (subst (λ (xs : List ℕ). AreDecoded xs found.0) rest found.2);
        editor = f.editor;
        stored = f.stored;
        failures = f.failures;
        shows = λ accepted told line pending.
            subst picture_is f.editor (shows_when_read d old new store store' all played was
            (ap (λ (owed : Bool). is_last_accepted (not owed) all) paid ∙ accepted) told line pending);
        live = λ memory. plays_live d old new store store' all memory played live;
        owes = owes;
        cursor = λ owed on none. subst stands f.editor (was.cursor owed on (ap (input_column d) f.editor ∙ none));
        in_line = λ column on has. subst (λ (e : Editor). StandsInLine d e (picture d e new.session.editor.top)) f.editor
            (stands_in_line d new.session.editor new.session.editor.top column on (ap (input_column d) f.editor ∙ has));
      },
    )

-- a session that was opened, with a clipboard or without, owes no painting
opened_owes : (d : Data) (text : List ℕ) (height width : ℕ) (base : Base) (settings : SettingsState) (clipboard : Bool)
    → (opened_by d text height width base settings clipboard).painting_owed ≡ false
opened_owes d text height width base settings true = refl
opened_owes d text height width base settings false = refl

pub headline_of : (d : Data) (old new : World) (store store' : StoreState) (all : List (Step × Result (Unit {0}) StepFault))
    → PlaysTo d old store all new store' → IsInStep d new → HeadlineFromOpening d old store all new store'
headline_of d old new store store' all played was text height width base settings clipboard is =
    let found = headline_behind d [] old new store store' all played was (ap (λ (w : World). w.rest) is)
    (ap (λ (w : World). w.session.painting_owed) is ∙ opened_owes d text height width base settings clipboard) (subst (λ (w : World). IsSome w.screen) (sym is) refl) in
    (found.0, subst (λ (e : Editor). Headline d e [] store all new store' found.0) (ap (λ (w : World). w.session.editor) is) found.1)

pub headline : {D : Type 0} (ucd : D → Data) (tables tables' : D) (old new : World) (store store' : StoreState)
    (all : List (Step × Result (Unit {0}) StepFault)) → tables' ≡ tables → PlaysTo (ucd tables) old store all new store' → IsInStep (ucd tables') new
    → HeadlineFromOpening (ucd tables) old store all new store'
headline {D} ucd tables tables' old new store store' all same played was =
    headline_of (ucd tables) old new store store' all played (subst (λ (t : D). IsInStep (ucd t) new) same was)
