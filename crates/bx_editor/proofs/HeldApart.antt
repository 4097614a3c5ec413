-- What is put in does not depend on the held text beside it.
use Rattle.std.proofs.Common.{◌≡◌, ℕ, Bool, true, false, List, [], length, refl, sym, ap, ◌∙◌, if◌then◌else◌}
use Rattle.std.specs.Prelude.{◌==◌, Some}
use Rattle.bx_ucd.specs.Data.{Data}
use Rattle.bx_editor.specs.declared.message.Message.TheVariants.{NothingToPut, TextFull}
use Rattle.bx_editor.specs.Editor.{Editor, with_insertion}
use Rattle.bx_editor.specs.Putting.{after_put, as_line, has_room, put_in, put_line, puts_line, with_selection_replaced}
use Rattle.bx_editor.specs.Region.{is_selection}

each : (b c : Bool) (x y z : Editor) (held : List ℕ) → record (if b then (if c then x else y) else z) { held = held }
    ≡ (if b then (if c then record x { held = held } else record y { held = held }) else record z { held = held })
each true true x y z held = refl
each true false x y z held = refl
each false c x y z held = refl

pub held-apart : (d : Data) (e : Editor) (new : List ℕ) (goes_on : Bool)
    → record (put_in d (record e { held = [] }) new goes_on) { held = e.held } ≡ put_in d e new goes_on
held-apart d e new goes_on =
    let bare : Editor = record e { held = [] } in
    each (has_room e new) (is_selection e) (with_selection_replaced d bare new) (with_insertion d bare new goes_on)
    (record bare { message = Some TextFull }) e.held

-- what Put leaves, by whether nothing is held, and whether a whole line is put over another
abbrev put_by : Data → Editor → Bool → Bool → Editor
put_by d e none whole =
    if none
    then record e { message = Some NothingToPut }
    else if whole then put_line d e (as_line d e e.held) else put_in d e e.held false

pub put-is : (d : Data) (e : Editor) → (length e.held == 0) ≡ false → puts_line e ≡ false → put_in d e e.held false ≡ after_put d e
put-is d e some part = ap (λ b. put_by d e b false) (sym some) ∙ ap (put_by d e (length e.held == 0)) (sym part)

pub line-put-is : (d : Data) (e : Editor) → (length e.held == 0) ≡ false → puts_line e ≡ true
    → put_line d e (as_line d e e.held) ≡ after_put d e
line-put-is d e some whole = ap (λ b. put_by d e b true) (sym some) ∙ ap (put_by d e (length e.held == 0)) (sym whole)
