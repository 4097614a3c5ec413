-- ErasePoint leaves all before the point, and all behind the place.
use Rattle.std.proofs.Common.{◌≡◌, ℕ, zero, suc, ◌-◌, ◌≤◌, Bool, true, false, List, [], ◌∷◌, ◌++◌, length, take, drop, slice_range, chars, IsUtf8}
use Rattle.std.proofs.Common.{refl, sym, ap, ◌∙◌, arith, append-nil, length-append}
use Rattle.std.specs.Prelude.{◌==◌, encode_utf8, encode_utf8_all, None, if◌then◌else◌}
use Rattle.std.proofs.lemmas.Bool.{eqb-true}
use Rattle.std.proofs.lemmas.List.{take-append-drop}
use Rattle.std.proofs.lemmas.Str.{encodes-chars, IsUtf8-between}
use Rattle.unicode_segmentation.proofs.TextLemmas.{length-slice_range}
use Rattle.bx_keys.specs.declared.key.Key.TheVariants.{ErasePoint}
use Rattle.bx_ucd.specs.Data.{Data}
use Rattle.bx_document.specs.Points.{before_last, is_point, last_character, point_start}
use Rattle.bx_paragraph.proofs.Starts.{side-some}
use Rattle.bx_view.specs.declared.moves.Logical.TheVariants.{Back}
use Rattle.bx_view.specs.declared.moves.Move.TheVariants.{Logical}
use Rattle.bx_view.specs.Moves.{step_logical}
use Rattle.bx_view.proofs.KeptPlaces.{text-places-kept}
use Rattle.bx_view.proofs.TextPlaces.{place-between}
use Rattle.bx_editor.specs.Editor.{Editor, cleared, rows, with_removal}
use Rattle.bx_editor.specs.Erasing.{or_selection, point_before, removed_on, stop_before}
use Rattle.bx_editor.specs.Region.{region}
use Rattle.bx_editor.specs.declared.undo_groups.typing.Removal.TheVariants.{Erase}
use Rattle.bx_editor.specs.declared.undo_groups.typing.Typing.{Typing}
use Rattle.bx_editor.specs.undo_groups.Groups.{after_removal, goes_on_removing}
use Rattle.bx_editor.specs.Keys.{after_key}
use Rattle.bx_editor_laws.specs.WorkLaws.{ErasePointLeavesBeginning}
use Rattle.bx_editor.proofs.StepOrder.{between-back}
use Rattle.bx_editor_laws.proofs.KeyEnds.{free-done}

-- ---- where a point begins in a unit

front-few : (n : ℕ) (cs : List ℕ) → length (encode_utf8_all (take n cs)) ≤ length (encode_utf8_all cs)
front-few zero cs = omega arith
front-few (suc n) [] = omega arith
front-few (suc n) (c ∷ cs) =
    omega (arith, front-few n cs, length-append (encode_utf8 c) (encode_utf8_all (take n cs)), length-append (encode_utf8 c) (encode_utf8_all cs))

few-by : (front all : ℕ) (b : Bool) → front ≤ all → elim b [ true ↦ front | false ↦ 0 ] ≤ all
few-by front all true h = h
few-by front all false h = omega arith

point-few : (d : Data) (unit : List ℕ) → IsUtf8 unit → point_start d unit ≤ length unit
point-few d unit utf8 =
    let front = front-few (length (chars unit) - 1) (chars unit) in
    few-by (length (before_last (chars unit))) (length unit) (is_point d (last_character (chars unit)))
    (omega (arith, front, ap length (encodes-chars unit utf8)))

-- ---- the key

removed-by : (d : Data) (typing : Typing) (e : Editor) (start : ℕ) (b : Bool) → (start == e.place) ≡ b
    → (if b then e else record (with_removal d e start e.place (goes_on_removing typing Erase)) { typing = after_removal Erase }).content.text
    ≡ take start e.content.text ++ drop e.place e.content.text
removed-by d typing e start true same =
    let is : start ≡ e.place = eqb-true start e.place same in
    sym (ap (λ n. take n e.content.text ++ drop e.place e.content.text) is ∙ take-append-drop e.place e.content.text)
removed-by d typing e start false other = ap (λ xs. xs ++ drop e.place e.content.text) (append-nil (take start e.content.text))

pub erase-point-leaves-beginning : ErasePointLeavesBeginning
erase-point-leaves-beginning d e has unasked off settled writes unselected unspaced place =
    let text = e.content.text in
    let was = cleared e in
    let some = side-some e.width has.columns in
    let unit = step_logical (rows d e) Back e.place in
    let kept = (text-places-kept d e.base e.width some text has.text).logical Back e.place place in
    let front = place-between d text unit has.text kept in
    let here = place-between d text e.place has.text place in
    let order : unit ≤ e.place = (between-back d (rows d e) e.width (Logical Back) text text unit e.place refl refl front here refl).in_order in
    let utf8 : IsUtf8 (slice_range text unit e.place) = IsUtf8-between text unit e.place has.text order front here in
    let size : length (slice_range text unit e.place) ≡ e.place - unit = length-slice_range text unit e.place here.0 in
    let few = point-few d (slice_range text unit e.place) utf8 in
    let pressed : (after_key d None e ErasePoint).content.text ≡ take (point_before d e) text ++ drop e.place text =
    ap (λ (new : Editor). new.content.text) (free-done d None e ErasePoint settled refl refl unasked off writes)
    ∙ ap (λ b. (or_selection d was (removed_on d e.typing Erase was (if b then stop_before d was else point_before d was) e.place)).content.text)
    unspaced
    ∙ ap (λ b. (if b then with_removal d was (region e).0 (region e).1 false else removed_on d e.typing Erase was (point_before d e) e.place).content.text)
    unselected
    ∙ removed-by d e.typing was (point_before d e) (point_before d e == e.place) refl in
    record { text_is = pressed; in_unit = omega arith; before_place = omega (arith, few, size, order) }
