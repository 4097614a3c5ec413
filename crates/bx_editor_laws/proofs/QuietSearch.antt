-- What a key does outside a search neither asks for another text nor shows a match.
use Rattle.std.proofs.Common.{◌≡◌, Bool, true, false, length, refl, if◌then◌else◌}
use Rattle.std.specs.Prelude.{◌==◌, Option}
use Rattle.bx_store.specs.declared.store.StoreFault.{StoreFault}
use Rattle.bx_ucd.specs.Data.{Data}
use Rattle.bx_editor.specs.declared.search_state.SearchPurpose.TheVariants.{Find}
use Rattle.bx_editor.specs.declared.search_state.SearchState.{SearchState}
use Rattle.bx_editor.specs.declared.search_state.SearchState.TheVariants.{Off, Begun, Typed}
use Rattle.bx_view.specs.declared.moves.Vertical.{Vertical}
use Rattle.bx_view.specs.Moves.{row_home}
use Rattle.bx_editor.specs.Before.{Before}
use Rattle.bx_editor.specs.Editor.{Editor, rows}
use Rattle.bx_editor.specs.Effects.{Effect, Wheels, Seeks, SeeksNext, SeeksPrevious, Saves, AsksLine, AsksName, AsksFile, AsksOverwrite, by}
use Rattle.bx_editor.specs.RowMoves.{after_wheel, carried, shows_place, wheel_top}
use Rattle.bx_editor.specs.Search.{after_beginning, next_or_start, search_back, search_from, sought, sought_alone}
use Rattle.bx_editor.specs.Region.{unselected}
use Rattle.bx_editor.proofs.EffectsKept as kept
use Rattle.bx_editor.proofs.Saved.{IsKeptSaving, saving-keeps}

-- no match is shown, and no replacement is asked for
abbrev pub is_quiet : SearchState → Bool
is_quiet Off = true
is_quiet Begun = true
is_quiet Typed = true
is_quiet _ = false

abbrev pub IsQuiet : Editor → Type 0
IsQuiet e = is_quiet e.search_state ≡ true

saving : IsKeptSaving IsQuiet
saving = record {
  stored = λ e stored changed home message h. h;
  asked = λ e prompt answer cursor h. h;
  named = λ e name answer h. h;
}

either : (b : Bool) (p q : Editor) → IsQuiet p → IsQuiet q → IsQuiet (if b then p else q)
either true p q h k = h
either false p q h k = k

wheel : (d : Data) (was : Before) (e : Editor) (way : Vertical) → IsQuiet e → IsQuiet (after_wheel d was e way)
wheel d was e way h =
    let top = wheel_top d e way in
    let still : Editor = record e { message = was.message } in
    either (shows_place d e top) (if top == row_home (rows d e) e.top then still else e) (carried d e top)
    (either (top == row_home (rows d e) e.top) still e h h) refl

pressing : (d : Data) → kept.IsKeptPressing d IsQuiet
pressing d = record {
  inserted = λ e new on h. refl;
  lined = λ e new h. refl;
  removed = λ e start stop on h. refl;
  stepped = kept.step-keeps IsQuiet (λ e content place changed h. refl) (λ e message h. h);
  run = kept.run-keeps IsQuiet (λ e content place changed h. refl) (λ e message h. h);
  quit = λ e ended message h. h;
  based = λ e base h. h;
  gone = λ e place goal h. h;
  pointed = λ e clicks pressed h. h;
  marked = λ e mark soft held whole_line h. h;
  told = λ e message typing h. h;
}

asking : (d : Data) (fault : Option StoreFault) (was : Before) (e : Editor) (one : Effect) → kept.asks_or_seeks one ≡ true → IsQuiet e
    → IsQuiet (by d fault was e one)
asking d fault was e (Wheels way) is h = wheel d was e way h
asking d fault was e (Seeks purpose) is h = refl
asking d fault was e SeeksNext is h =
    let free = unselected e in
    either (length (sought d free) == 0) (after_beginning Find free) (search_from d (next_or_start d free) (sought_alone free)) refl refl
asking d fault was e SeeksPrevious is h =
    let free = unselected e in
    either (length (sought d free) == 0) (after_beginning Find free) (search_back d (sought_alone free)) refl refl
asking d fault was e Saves is h = saving-keeps IsQuiet saving fault e h
asking d fault was e AsksLine is h = h
asking d fault was e AsksName is h = h
asking d fault was e AsksFile is h = h
asking d fault was e AsksOverwrite is h = h
asking d fault was e _ is h = absurd (cc is)

pub effect-quiet : (d : Data) (fault : Option StoreFault) (was : Before) (e : Editor) (one : Effect) → IsQuiet e → IsQuiet (by d fault was e one)
effect-quiet d fault was e one h = kept.effect-keeps d IsQuiet (pressing d) fault was e one h (λ is. asking d fault was e one is h)
