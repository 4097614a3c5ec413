-- Worked rows, each of which follows from a law, or a clause, alone.
use Rattle.std.proofs.Common.{◌≡◌, ℕ, true, false, List, [], ◌∷◌, ◌++◌, length, Option, Some, None, Ok, refl, sym, ap, subst, ◌∙◌}
use Rattle.std.specs.Prelude.{codes}
use Rattle.std.specs.Fmt.{digits}
use Rattle.unicode_segmentation.proofs.Computing.{unicode_segmentation}
use Rattle.unicode_width.proofs.Computing.{unicode_width}
use Rattle.bx_common.specs.declared.base.Base.TheVariants.{Auto}
use Rattle.bx_keys.specs.declared.key.Key.TheVariants.{Insert}
use Rattle.bx_grid.specs.Terminal.{Terminal, reads, unknown_terminal}
use Rattle.bx_store.specs.declared.store.StoreFault.{StoreFault}
use Rattle.bx_editor.specs.Editor.{Editor}
use Rattle.bx_editor.specs.Picture.{picture}
use Rattle.bx_editor.specs.Settings.{plain}
use Rattle.bx_editor.proofs.Computed.{tables, ascii_columns}
use Rattle.bx_session.specs.declared.status.Status.TheVariants.{Running}
use Rattle.bx_session.specs.Beginning.{Beginning, IsBegun, begun, unpainted_at}
use Rattle.bx_session.specs.Running.{PressAnswer, Turn, HasRun}
use Rattle.bx_session.specs.Session.{StoreState, Session, after_press}
use Rattle.bx_session.proofs.Computed.{start}
use Rattle.bx_session.proofs.Turns.{started}
use Rattle.bx_world.specs.declared.step.Step.TheVariants.{Byte, Send, Read}
use Rattle.bx_world.specs.Events.{after_events}
use Rattle.bx_world.specs.Laws.{BeginsWithKeys, HeadlineInChangingWindows, HeadlineOfRuns, RunsArePlays, TurnsArePlays}
use Rattle.bx_world.specs.Runs.{IsAmong, Schedule, RunsInWindow, begins_at, steps_of_run, steps_of_turns}
use Rattle.bx_world.specs.World.{PlaysTo, is_last_accepted, World, after_read, after_send, press_of, with_byte}
use Rattle.bx_world.proofs.Woven.{ok}

-- ---- where a run begins

-- a, Save, b, Quit in the journal of a session over `x`
abbrev left : Beginning
left = record {
  text = codes "x";
  height = 1;
  width = 5;
  base = Auto;
  settings = plain;
  clipboard = false;
  offset = None;
  unsaved = false;
  journal = 0x61 ∷ 0x13 ∷ 0x62 ∷ 0x11 ∷ [];
}

pub a_run_goes_on_from_its_journal : BeginsWithKeys → (unpainted_at tables left).editor.content.text ≡ codes "abx"
unfolding unicode_segmentation unicode_width digits
a_run_goes_on_from_its_journal law = ap (λ (e : Editor). e.content.text) (law.replayed tables left)

-- ---- `ab` is typed into an empty file in a window of one row of five columns

abbrev empty : Beginning
empty = record { text = []; height = 1; width = 5; base = Auto; settings = plain; clipboard = false; offset = None; unsaved = false; journal = [] }

abbrev pressed : List PressAnswer
pressed = (Some (Insert 0x61), Ok Running) ∷ (Some (Insert 0x62), Ok Running) ∷ []

abbrev typed : List ℕ → List Turn
typed written = record { typed = codes "ab"; pressed = pressed; dropped = []; written = written } ∷ []

abbrev window : Terminal
window = unknown_terminal 1 5

-- what they leave, however the terminal read meanwhile
abbrev typed_in : World → Option StoreFault → World
typed_in w fault = with_byte w 0x61 (after_press tables fault w.session (press_of w 0x61))

abbrev typed_on : World → Option StoreFault → World
typed_on w fault = with_byte w 0x62 (after_press tables fault w.session (press_of w 0x62))

abbrev in_one_turn : ℕ → ℕ → ℕ → Schedule
in_one_turn n m k = (Send n, ok) ∷ (Byte 0x61, ok) ∷ (Byte 0x62, ok) ∷ (Send m, ok) ∷ (Read k, ok) ∷ []

-- the session and what it shows
record ShowsBoth (s : Session) : Type 0 where
  pub height : s.editor.height ≡ 1
  pub width : s.editor.width ≡ 5
  pub columns : (picture tables s.editor s.editor.top).columns ≡ ascii_columns (codes "ab   ")

played_both : (n m k : ℕ) (fault fault' : Option StoreFault)
    → ShowsBoth (after_read (after_send (typed_on (typed_in (after_send (begins_at [] (begun tables empty) window) n) fault) fault') m) k).session
unfolding unicode_segmentation unicode_width digits
played_both n m k fault fault' = record { height = refl; width = refl; columns = refl }

both_shown : (n m k : ℕ) (store store' : StoreState) (new : World)
    → PlaysTo tables (begins_at [] (begun tables empty) window) store (in_one_turn n m k) new store' → ShowsBoth new.session
both_shown n m k store store' new p =
    let q = p.3 in
    let r = q.3 in
    let u = r.3 in
    let v = u.3 in
    let fault = q.2.0 in
    let fault' = r.2.0 in
    let first : q.0 ≡ typed_in p.0 fault = q.2.2 in
    let second : r.0 ≡ typed_on q.0 fault' = r.2.2 in
    let is : new ≡ after_read (after_send (typed_on (typed_in (after_send (begins_at [] (begun tables empty) window) n) fault) fault') m) k =
    v.3.0 ∙ v.2.0.1
    ∙ ap (λ (w : World). after_read w k) (u.2.0 ∙ ap (λ (w : World). after_send w m)
    (second ∙ ap (λ (w : World). typed_on w fault') (first ∙ ap (λ (w : World). typed_in w fault) p.2.0))) in
    subst (λ (w : World). ShowsBoth w.session) (sym is) (played_both n m k fault fault')

pub typed_letters_are_shown : HeadlineOfRuns
    → (rest : List ℕ) (s : Session) (store store' : StoreState) (reader reader' writer writer' : Option (List ℕ)) (written last : List ℕ) (all : Session)
    → IsBegun tables empty
    → (run : HasRun tables [] rest (begun tables empty) s store store' reader reader' writer writer' (codes "ab") pressed [] written all)
    → run.in_turns.turns ≡ typed last → s.pending ≡ [] → (reads window written).columns ≡ ascii_columns (codes "ab   ")
typed_letters_are_shown law rest s store store' reader reader' writer writer' written last all begins run turns sent =
    let found = law tables empty rest s store store' reader reader' writer writer' (codes "ab") pressed [] written all begins run window
    (record { no_run = refl; no_token = refl }) in
    let n = length run.in_turns.first in
    let m = length last in
    let k = length written in
    let seen = found.0 in
    let plays : PlaysTo tables (begins_at [] (begun tables empty) window) store (in_one_turn n m k) seen.new store' =
    subst (λ (ts : List Turn). PlaysTo tables (begins_at [] (begun tables empty) window) store
    ((Send n, ok) ∷ (steps_of_turns ts ++ (Read k, ok) ∷ [])) seen.new store') turns seen.plays in
    let both : ShowsBoth s = subst ShowsBoth seen.session (both_shown n m k store store' seen.new plays) in
    let accepted : is_last_accepted true (steps_of_run run.in_turns) ≡ true =
    subst (λ (ts : List Turn). is_last_accepted true ((Send n, ok) ∷ steps_of_turns ts) ≡ true) (sym turns) refl in
    let editor : s.editor ≡ after_events tables (begun tables empty).editor seen.events =
    ap (λ (x : Session). x.editor) (sym seen.session) ∙ seen.headline.editor in
    (found.1 accepted sent (sym both.height) (sym both.width)).same_columns
    ∙ ap (λ (e : Editor). (picture tables e s.editor.top).columns) (sym editor) ∙ both.columns

-- ---- a run's steps

-- a session of which these bytes are pending, at a terminal
abbrev pending : List ℕ → World
pending bytes = begins_at [] (record (start [] 1 5) { pending = bytes }) window

pub a_turn_is_on_the_line : TurnsArePlays → (store : StoreState) → (new : World) × (new.line ≡ codes "ab") × (new.session.pending ≡ codes "c")
a_turn_is_on_the_line law store =
    let turn : Turn = record { typed = []; pressed = []; dropped = []; written = codes "ab" } in
    let after = (pending (codes "c")).session in
    let found = law tables (pending (codes "abc")) after store store turn (pending (codes "abc")).session
    (record { feeds = (refl, refl); order = refl; session = refl }) refl in
    (found.0, found.2.line, ap (λ (s : Session). s.pending) found.2.session)

pub a_run_is_on_the_line : RunsArePlays → (store : StoreState) → (new : World) × (new.line ≡ codes "abc") × (new.session.pending ≡ [])
a_run_is_on_the_line law store =
    let before = (pending (codes "abc")).session in
    let after = (pending []).session in
    let run = started tables [] before after store store None None None (codes "abc") refl (record { writes = tt; order = refl; session = refl }) in
    let found = law tables (pending (codes "abc")) [] after store store None None None None [] [] [] (codes "abc") before run in
    (found.0, found.2.line, ap (λ (s : Session). s.pending) found.2.session)

-- ---- the same letters in a window that changes

-- the terminal reads as it likes, between the letters too
abbrev read_between : ℕ → ℕ → ℕ → Schedule
read_between n m k = (Send n, ok) ∷ (Byte 0x61, ok) ∷ (Read 3, ok) ∷ (Byte 0x62, ok) ∷ (Send m, ok) ∷ (Read k, ok) ∷ []

abbrev read_first : World → World
read_first w = after_read w 3

record ShowsTold (w : World) : Type 0 where
  pub both : ShowsBoth w.session
  pub told : w.told ≡ true

played_between : (n m k : ℕ) (fault fault' : Option StoreFault)
    → ShowsTold (after_read (after_send (typed_on (read_first (typed_in (after_send (begins_at [] (begun tables empty) window) n) fault)) fault') m) k)
unfolding unicode_segmentation unicode_width digits
played_between n m k fault fault' = record { both = record { height = refl; width = refl; columns = refl }; told = refl }

told_shown : (n m k : ℕ) (store store' : StoreState) (new : World)
    → PlaysTo tables (begins_at [] (begun tables empty) window) store (read_between n m k) new store' → ShowsTold new
told_shown n m k store store' new p =
    let q = p.3 in
    let a = q.3 in
    let r = a.3 in
    let u = r.3 in
    let v = u.3 in
    let fault = q.2.0 in
    let fault' = r.2.0 in
    let first : q.0 ≡ typed_in p.0 fault = q.2.2 in
    let second : r.0 ≡ typed_on a.0 fault' = r.2.2 in
    let is : new ≡ after_read (after_send (typed_on (read_first (typed_in (after_send (begins_at [] (begun tables empty) window) n) fault)) fault') m) k =
    v.3.0 ∙ v.2.0.1
    ∙ ap (λ (w : World). after_read w k) (u.2.0 ∙ ap (λ (w : World). after_send w m)
    (second ∙ ap (λ (w : World). typed_on w fault') (a.2.0.1 ∙ ap read_first (first ∙ ap (λ (w : World). typed_in w fault) p.2.0)))) in
    subst ShowsTold (sym is) (played_between n m k fault fault')

pub letters_are_shown_as_they_are_read : HeadlineInChangingWindows
    → (rest : List ℕ) (s : Session) (store store' : StoreState) (reader reader' writer writer' : Option (List ℕ)) (written last : List ℕ) (all : Session) (k : ℕ)
    → IsBegun tables empty
    → (run : HasRun tables [] rest (begun tables empty) s store store' reader reader' writer writer' (codes "ab") pressed [] written all)
    → run.in_turns.turns ≡ typed last → s.pending ≡ []
    → (found : RunsInWindow tables empty (begun tables empty) s store store' window (read_between (length run.in_turns.first) (length last) k))
    × (found.new.line ≡ [] → found.terminal.columns ≡ ascii_columns (codes "ab   "))
letters_are_shown_as_they_are_read law rest s store store' reader reader' writer writer' written last all k begins run turns sent =
    let n = length run.in_turns.first in
    let m = length last in
    let among : IsAmong (steps_of_run run.in_turns) (read_between n m k) = record {
      own = ap (λ (ts : List Turn). (Send n, ok) ∷ steps_of_turns ts) (sym turns);
      outside = ((λ e. absurd (cc e)), ((λ e. absurd (cc e)), ((λ e. refl), ((λ e. absurd (cc e)), ((λ e. absurd (cc e)), ((λ e. refl), tt))))));
    } in
    let found = law tables empty rest s store store' reader reader' writer writer' (codes "ab") pressed [] written all begins run window (read_between n m k)
    (record { no_run = refl; no_token = refl }) among in
    let seen = told_shown n m k store store' found.new found.plays in
    let both : ShowsBoth s = subst ShowsBoth found.session seen.both in
    let editor : s.editor ≡ after_events tables (begun tables empty).editor found.events =
    ap (λ (x : Session). x.editor) (sym found.session) ∙ found.headline.editor in (
      found,
      λ read. (found.shows refl seen.told read sent).same_columns
          ∙ ap (λ (e : Editor). (picture tables e s.editor.top).columns) (sym editor) ∙ both.columns,
    )
