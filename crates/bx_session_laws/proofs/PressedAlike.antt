-- A key outside a search and a question does the same to two editors of which the same lasts; clicks, drags and the wheel where the
-- same row is first.
use Rattle.std.proofs.Common.{◌≡◌, ℕ, Bool, true, false, [], ◌+◌, Option, Some, None, refl, sym, subst, ◌∙◌, inl, inr}
use Rattle.std.proofs.Common.{if◌then◌else◌}
use Rattle.std.specs.Prelude.{◌==◌, ◌⊎◌, min, nat_le}
use Rattle.bx_keys.specs.declared.key.Key.{Key}
use Rattle.bx_store.specs.declared.store.StoreFault.{StoreFault}
use Rattle.bx_ucd.specs.Data.{Data}
use Rattle.bx_view.specs.Moves.{row_home}
use Rattle.bx_view.specs.declared.moves.Vertical.{Vertical}
use Rattle.bx_editor.specs.declared.clicks.Extent.{Extent}
use Rattle.bx_editor.specs.declared.clicks.Extent.TheVariants as extents
use Rattle.bx_editor.specs.declared.clicks.Pressed.{Pressed}
use Rattle.bx_editor.specs.declared.cursor.Soft.{Soft}
use Rattle.bx_editor.specs.declared.cursor.Soft.TheVariants as softness
use Rattle.bx_editor.specs.Before.{Before}
use Rattle.bx_editor.specs.Editor.{Editor, rows, text_height}
use Rattle.bx_editor.specs.Editor.{with_top}
use Rattle.bx_editor.specs.Effects.{Effect, Types, BeginsLine, Puts, Removes, RemovesWord, Steps, StepsGroup, Goes, GoesToRowEnd, GoesByRows, Clicks, Drags}
use Rattle.bx_editor.specs.Effects.{Wheels, Marks, Selects, SelectsAll, Unmarks, Copies, Cuts, Seeks, SeeksNext, SeeksPrevious, Saves, Quits, Turns, Helps}
use Rattle.bx_editor.specs.Effects.{AsksLine, AsksName, AsksFile, AsksOverwrite, Tells, Refuses, Rests, by}
use Rattle.bx_editor.specs.Keys.{after_pressing, allowed_effect}
use Rattle.bx_editor.specs.Pointing.{after_drag, after_point, dragged_to, part_at, pointed_place, press_extent, pressed_at, pressing_with, rests_on_unit}
use Rattle.bx_editor.specs.Pointing.{selecting_part, with_word}
use Rattle.bx_editor.specs.Region.{is_empty}
use Rattle.bx_editor.specs.Region.{unselected}
use Rattle.bx_editor.specs.RowMoves.{after_wheel, carried, shows_place, wheel_top}
use Rattle.bx_editor.specs.Saving.{after_save, asking_name, is_nameless}
use Rattle.bx_session.proofs.KeyKinds.{is_quitting, is_saving, quit_kind}
use Rattle.bx_session_laws.proofs.Lasting.{Lasting, Presses, allowed_is, effect_rests, having, lasting, rests, saves_no_name}
use Rattle.bx_session_laws.proofs.Alike.{Alike, either_alike, idle, idle_on, character_alike, new_line_alike, put_alike, erasing_alike, word_alike, step_alike, runs_alike, mark_alike, select_alike, copy_alike, cut_alike, next_alike, previous_alike}

-- ---- clicks, drags and the wheel, in pictures with the same row first

-- an editor that has the row first too
abbrev pub under : Editor → Editor → Editor
under e f = with_top (having (lasting e) f) e.top

pressing_alike : (d : Data) (e f : Editor) (row column place : ℕ) (soft : Soft)
    → Alike e (pressing_with d e row column place soft) (under e f) (pressing_with d (under e f) row column place soft)
pressing_alike d e f row column place softness.Fresh = record { lasts = refl; deeds = []; first = refl; other = refl }
pressing_alike d e f row column place softness.Off = record { lasts = refl; deeds = []; first = refl; other = refl }
pressing_alike d e f row column place softness.Old = record { lasts = refl; deeds = []; first = refl; other = refl }

word_alike_at : (e f : Editor) (part : ℕ × ℕ) → Alike e (with_word e part) (under e f) (with_word (under e f) part)
word_alike_at e f part =
    let g = under e f in
    let none : Editor → Editor = λ x. record x { mark = None; soft = softness.Off; place = part.0 } in
    let some : Editor → Editor = λ x. selecting_part x part.0 part.1 in
    either_alike (is_empty part) e (none e) (some e) g (none g) (some g) (idle e (none e) g (none g) refl refl refl)
    (idle e (some e) g (some g) refl refl refl)

pressed_at_alike : (d : Data) (e f : Editor) (row column place : ℕ) (extent : Extent)
    → Alike e (pressed_at d e row column place extent) (under e f) (pressed_at d (under e f) row column place extent)
pressed_at_alike d e f row column place extents.Unit = pressing_alike d e f row column place e.soft
pressed_at_alike d e f row column place extents.Word =
    let g = under e f in
    let part = part_at d e extents.Word place in
    let new = pressed_at d e row column place extents.Word in
    idle_on e (with_word e part) new g (with_word g part) (pressed_at d g row column place extents.Word)
    (λ (l : Lasting). record l { clicks = new.clicks; pressed = new.pressed }) refl refl refl refl (word_alike_at e f part)
pressed_at_alike d e f row column place extents.Paragraph = record { lasts = refl; deeds = []; first = refl; other = refl }

point_alike : (d : Data) (e f : Editor) (row column : ℕ) → Alike e (after_point d e row column) (under e f) (after_point d (under e f) row column)
point_alike d e f row column =
    let g = under e f in
    let place = pointed_place d e row column in
    let extent = press_extent e.clicks row column in
    let none : Editor → Editor = λ x. record (unselected x) { clicks = None; pressed = None } in
    either_alike (nat_le row (text_height e.height)) e (pressed_at d e row column place extent) (none e) g (pressed_at d g row column place extent) (none g)
    (pressed_at_alike d e f row column place extent) (idle e (none e) g (none g) refl refl refl)

dragged_alike : (e f : Editor) (pressed : Pressed) (part : ℕ × ℕ) → Alike e (dragged_to e pressed part) (under e f) (dragged_to (under e f) pressed part)
dragged_alike e f pressed part =
    let g = under e f in
    let on : Editor → Editor = λ x. selecting_part x pressed.start part.1 in
    let back : Editor → Editor = λ x. selecting_part x pressed.stop part.0 in
    let goes_on = nat_le pressed.start part.0 in
    either_alike (rests_on_unit e pressed part) e e (if goes_on then on e else back e) g g (if goes_on then on g else back g) (idle e e g g refl refl refl)
    (either_alike goes_on e (on e) (back e) g (on g) (back g) (idle e (on e) g (on g) refl refl refl) (idle e (back e) g (back g) refl refl refl))

drag_alike : (d : Data) (e f : Editor) (row column : ℕ) (pressed : Option Pressed)
    → Alike e (after_drag d e row column pressed) (under e f) (after_drag d (under e f) row column pressed)
drag_alike d e f row column None = point_alike d e f row column
drag_alike d e f row column (Some pressed) =
    let g = under e f in
    let part = part_at d e pressed.extent (pointed_place d e (min row (text_height e.height + 1)) column) in
    let to : Editor → Editor = λ x. dragged_to x pressed part in
    idle_on e (to e) (record (to e) { clicks = None }) g (to g) (record (to g) { clicks = None }) (λ (l : Lasting). record l { clicks = None })
    refl refl refl refl (dragged_alike e f pressed part)

pub wheel_alike : (d : Data) (was was' : Before) (e f : Editor) (way : Vertical) → Alike e (after_wheel d was e way) (under e f) (after_wheel d was' (under e f) way)
wheel_alike d was was' e f way =
    let g = under e f in
    let top = wheel_top d e way in
    let still = top == row_home (rows d e) e.top in
    let told : Editor → Before → Editor = λ x w. record x { message = w.message } in
    either_alike (shows_place d e top) e (if still then told e was else e) (carried d e top) g (if still then told g was' else g) (carried d g top)
    (either_alike still e (told e was) e g (told g was') g (idle e (told e was) g (told g was') refl refl refl) (idle e e g g refl refl refl))
    (idle e (carried d e top) g (carried d g top) refl refl refl)

-- what is shown with the same row first
pub with_same_top : (e new f : Editor) (F : Editor → Editor) → f.top ≡ e.top → Alike e new (under e f) (F (under e f))
    → Alike e new (having (lasting e) f) (F (having (lasting e) f))
with_same_top e new f F same h =
    subst (λ (top : ℕ). Alike e new (with_top (having (lasting e) f) top) (F (with_top (having (lasting e) f) top))) (sym same) h

-- ---- a key outside a search

-- a Save of a text without a name asks for one
pub naming_alike : (fault : Option StoreFault) (e f : Editor) (nameless nameless' : Bool) → nameless ≡ true → nameless' ≡ true → let g = having (lasting e) f in
    Alike e (if nameless then asking_name e else after_save e fault) g (if nameless' then asking_name g else after_save g None)
naming_alike fault e f true true h k = record { lasts = refl; deeds = []; first = refl; other = refl }
naming_alike fault e f true false h k = absurd (cc k)
naming_alike fault e f false nameless' h k = absurd (cc h)

-- an effect that rests on the row shown first, in pictures with the same one
seen_alike : (d : Data) (e new f : Editor) (F : Editor → Editor) (effect : Effect) → rests effect ≡ true → (rests effect ≡ false) ⊎ (f.top ≡ e.top)
    → Alike e new (under e f) (F (under e f)) → Alike e new (having (lasting e) f) (F (having (lasting e) f))
seen_alike d e new f F effect seen (inl unseen) h = let both : true ≡ false = sym seen ∙ unseen in absurd (cc both)
seen_alike d e new f F effect seen (inr same) h = with_same_top e new f F same h

by_alike : (d : Data) (fault : Option StoreFault) (was was' : Before) (e f : Editor) (effect : Effect)
    → (is_saving effect ≡ true → is_nameless e ≡ true) → is_nameless f ≡ is_nameless e → is_quitting effect ≡ false
    → (rests effect ≡ false) ⊎ (f.top ≡ e.top)
    → Alike e (by d fault was e effect) (having (lasting e) f)
    (by d None (record was' { typing = was.typing }) (having (lasting e) f) effect)
by_alike d fault was was' e f (Types c) s n q r = character_alike d was.typing e f c
by_alike d fault was was' e f BeginsLine s n q r = new_line_alike d was.typing e f
by_alike d fault was was' e f Puts s n q r = put_alike d e f
by_alike d fault was was' e f (Removes how start stop) s n q r = erasing_alike d was.typing how e f start stop
by_alike d fault was was' e f (RemovesWord start stop) s n q r = word_alike d e f start stop
by_alike d fault was was' e f (Steps step) s n q r = step_alike step e f
by_alike d fault was was' e f (StepsGroup step) s n q r = runs_alike step e f
by_alike d fault was was' e f (Goes place) s n q r = record { lasts = refl; deeds = []; first = refl; other = refl }
by_alike d fault was was' e f (GoesToRowEnd place) s n q r = record { lasts = refl; deeds = []; first = refl; other = refl }
by_alike d fault was was' e f (GoesByRows way n') s n q r = record { lasts = refl; deeds = []; first = refl; other = refl }
by_alike d fault was was' e f (Clicks row column) s n q r =
    seen_alike d e (after_point d e row column) f (λ x. after_point d x row column) (Clicks row column) refl r (point_alike d e f row column)
by_alike d fault was was' e f (Drags row column) s n q r =
    seen_alike d e (after_drag d e row column e.pressed) f (λ x. after_drag d x row column e.pressed) (Drags row column) refl r
    (drag_alike d e f row column e.pressed)
by_alike d fault was was' e f (Wheels way) s n q r =
    let other : Before = record was' { typing = was.typing } in
    seen_alike d e (after_wheel d was e way) f (λ x. after_wheel d other x way) (Wheels way) refl r (wheel_alike d was other e f way)
by_alike d fault was was' e f Marks s n q r = mark_alike e f
by_alike d fault was was' e f Selects s n q r = select_alike e f e.mark e.soft
by_alike d fault was was' e f SelectsAll s n q r = record { lasts = refl; deeds = []; first = refl; other = refl }
by_alike d fault was was' e f Unmarks s n q r = record { lasts = refl; deeds = []; first = refl; other = refl }
by_alike d fault was was' e f Copies s n q r = copy_alike d e f
by_alike d fault was was' e f Cuts s n q r = cut_alike d e f
by_alike d fault was was' e f (Seeks purpose) s n q r = record { lasts = refl; deeds = []; first = refl; other = refl }
by_alike d fault was was' e f SeeksNext s n q r = next_alike d e f
by_alike d fault was was' e f SeeksPrevious s n q r = previous_alike d e f
by_alike d fault was was' e f Saves s n q r = naming_alike fault e f (is_nameless e) (is_nameless f) (s refl) (n ∙ s refl)
by_alike d fault was was' e f Quits s n q r = absurd (cc q)
by_alike d fault was was' e f Turns s n q r = record { lasts = refl; deeds = []; first = refl; other = refl }
by_alike d fault was was' e f Helps s n q r = record { lasts = refl; deeds = []; first = refl; other = refl }
by_alike d fault was was' e f AsksLine s n q r = record { lasts = refl; deeds = []; first = refl; other = refl }
by_alike d fault was was' e f AsksName s n q r = record { lasts = refl; deeds = []; first = refl; other = refl }
by_alike d fault was was' e f AsksFile s n q r = record { lasts = refl; deeds = []; first = refl; other = refl }
by_alike d fault was was' e f AsksOverwrite s n q r = record { lasts = refl; deeds = []; first = refl; other = refl }
by_alike d fault was was' e f Tells s n q r = record { lasts = refl; deeds = []; first = refl; other = refl }
by_alike d fault was was' e f Refuses s n q r = record { lasts = refl; deeds = []; first = refl; other = refl }
by_alike d fault was was' e f Rests s n q r = record { lasts = refl; deeds = []; first = refl; other = refl }

pub pressed_alike : (d : Data) (fault : Option StoreFault) (was was' : Before) (e f : Editor) (key : Key) → Presses e f key
    → let g = having (lasting e) f in
    Alike e (after_pressing d fault was e key) g (after_pressing d None (record was' { typing = was.typing }) g key)
pressed_alike d fault was was' e f key h =
    let g = having (lasting e) f in
    subst (λ effect. Alike e (by d fault was e (allowed_effect d e key)) g (by d None (record was' { typing = was.typing }) g effect))
    (sym (allowed_is d e f key))
    (by_alike d fault was was' e f (allowed_effect d e key) (saves_no_name d e key h.saves_nothing) h.names (quit_kind d e key ∙ h.goes_on)
    (effect_rests d e f key h.rests))
