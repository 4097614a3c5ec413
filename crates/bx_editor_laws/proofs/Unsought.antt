-- Outside a search only the keys that search begin one.
use Rattle.std.proofs.Common.{◌≡◌, Bool, true, false, refl, if◌then◌else◌}
use Rattle.std.specs.Prelude.{◌==◌, Option}
use Rattle.bx_store.specs.declared.store.StoreFault.{StoreFault}
use Rattle.bx_ucd.specs.Data.{Data}
use Rattle.bx_view.specs.declared.moves.Vertical.{Vertical}
use Rattle.bx_view.specs.Moves.{row_home}
use Rattle.bx_editor.specs.declared.search_state.SearchState.TheVariants.{Off}
use Rattle.bx_editor.specs.Before.{Before}
use Rattle.bx_editor.specs.Editor.{Editor, rows}
use Rattle.bx_editor.specs.Effects.{Effect, Wheels, Seeks, SeeksNext, SeeksPrevious, Saves, AsksLine, AsksName, AsksFile, AsksOverwrite, by}
use Rattle.bx_editor.specs.RowMoves.{after_wheel, carried, shows_place, wheel_top}
use Rattle.bx_editor.proofs.EffectsKept as kept
use Rattle.bx_editor.proofs.Saved.{IsKeptSaving, saving-keeps}

-- no search is on
abbrev pub IsUnsought : Editor → Type 0
IsUnsought e = e.search_state ≡ Off

saving : IsKeptSaving IsUnsought
saving = record {
  stored = λ e stored changed home message h. h;
  asked = λ e prompt answer cursor h. h;
  named = λ e name answer h. h;
}

either : (b : Bool) (p q : Editor) → IsUnsought p → IsUnsought q → IsUnsought (if b then p else q)
either true p q h k = h
either false p q h k = k

wheel : (d : Data) (was : Before) (e : Editor) (way : Vertical) → IsUnsought e → IsUnsought (after_wheel d was e way)
wheel d was e way h =
    let top = wheel_top d e way in
    let still : Editor = record e { message = was.message } in
    either (shows_place d e top) (if top == row_home (rows d e) e.top then still else e) (carried d e top)
    (either (top == row_home (rows d e) e.top) still e h h) refl

pressing : (d : Data) → kept.IsKeptPressing d IsUnsought
pressing d = record {
  inserted = λ e new on h. refl;
  lined = λ e new h. refl;
  removed = λ e start stop on h. refl;
  stepped = kept.step-keeps IsUnsought (λ e content place changed h. refl) (λ e message h. h);
  run = kept.run-keeps IsUnsought (λ e content place changed h. refl) (λ e message h. h);
  quit = λ e ended message h. h;
  based = λ e base h. h;
  gone = λ e place goal h. h;
  pointed = λ e clicks pressed h. h;
  marked = λ e mark soft held whole_line h. h;
  told = λ e message typing h. h;
}

-- the effect seeks
abbrev pub is_seeking : Effect → Bool
is_seeking (Seeks purpose) = true
is_seeking SeeksNext = true
is_seeking SeeksPrevious = true
is_seeking _ = false

asking : (d : Data) (fault : Option StoreFault) (was : Before) (e : Editor) (one : Effect) → is_seeking one ≡ false
    → kept.asks_or_seeks one ≡ true → IsUnsought e
    → IsUnsought (by d fault was e one)
asking d fault was e (Seeks purpose) plain is h = absurd (cc plain)
asking d fault was e SeeksNext plain is h = absurd (cc plain)
asking d fault was e SeeksPrevious plain is h = absurd (cc plain)
asking d fault was e (Wheels way) plain is h = wheel d was e way h
asking d fault was e Saves plain is h = saving-keeps IsUnsought saving fault e h
asking d fault was e AsksLine plain is h = h
asking d fault was e AsksName plain is h = h
asking d fault was e AsksFile plain is h = h
asking d fault was e AsksOverwrite plain is h = h
asking d fault was e _ plain is h = absurd (cc is)

pub effect-unsought : (d : Data) (fault : Option StoreFault) (was : Before) (e : Editor) (one : Effect) → is_seeking one ≡ false
    → IsUnsought e
    → IsUnsought (by d fault was e one)
effect-unsought d fault was e one plain h =
    kept.effect-keeps d IsUnsought (pressing d) fault was e one h (λ is. asking d fault was e one plain is h)
