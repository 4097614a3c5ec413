-- What is put in at the end of a paste does not depend on what the paste has left beside the text.
use Rattle.std.proofs.Common.{◌≡◌, ℕ, Bool, true, false, List, length, Option, refl, ap, sym, ◌∙◌, if◌then◌else◌}
use Rattle.std.specs.Prelude.{◌==◌, Some, None}
use Rattle.bx_ucd.specs.Data.{Data}
use Rattle.bx_editor.specs.declared.message.Message.TheVariants.{TextFull}
use Rattle.bx_editor.specs.Editor.{Editor, cleared, with_insertion}
use Rattle.bx_editor.specs.Putting.{ended_with, paste_ended, with_pasted, without_paste, has_room, put_in, with_selection_replaced}
use Rattle.bx_editor.specs.Functions.{as_before}
use Rattle.bx_editor.specs.Region.{is_selection}

-- with another key before, and no paste under way
abbrev pub settled : Bool → Editor → Editor
settled again e = record e { quit_before = again; pasted = None }

each : (b c : Bool) (x y z : Editor) (again : Bool) → settled again (if b then (if c then x else y) else z)
    ≡ (if b then (if c then settled again x else settled again y) else settled again z)
each true true x y z again = refl
each true false x y z again = refl
each false c x y z again = refl

put-apart : (d : Data) (e : Editor) (list : List ℕ) → settled e.quit_before (put_in d (cleared e) list false) ≡ put_in d (without_paste e) list false
put-apart d e list =
    let bare : Editor = cleared e in
    each (has_room e list) (is_selection e) (with_selection_replaced d bare list) (with_insertion d bare list false)
    (record bare { message = Some TextFull }) e.quit_before

pub pasted-in : (d : Data) (e : Editor) (list : List ℕ) → (length list == 0) ≡ false
    → settled e.quit_before (put_in d (cleared e) list false) ≡ with_pasted d e list
pasted-in d e list some =
    put-apart d e list ∙ ap (λ b. if b then without_paste e else put_in d (without_paste e) list false) (sym some)

put-none : (b c : Bool) (x y z : Editor) → x.pasted ≡ None → y.pasted ≡ None → z.pasted ≡ None → (if b then (if c then x else y) else z).pasted ≡ None
put-none true true x y z h k l = h
put-none true false x y z h k l = k
put-none false c x y z h k l = l

-- no paste is under way any more
list-none : (d : Data) (e : Editor) (list : List ℕ) (b : Bool) → (if b then without_paste e else put_in d (without_paste e) list false).pasted ≡ None
list-none d e list true = refl
list-none d e list false =
    let left = without_paste e in
    put-none (has_room left list) (is_selection left) (with_selection_replaced d left list) (with_insertion d left list false)
    (record left { message = Some TextFull }) refl refl refl

pub ended-none : (d : Data) (e : Editor) (pasted : Option (List ℕ)) → e.pasted ≡ pasted → (ended_with d e pasted).pasted ≡ None
ended-none d e None is = is
ended-none d e (Some list) is = list-none d e list (length list == 0)

-- ---- a paste that is taken back

back-from : (e : Editor) (room selected : Bool) (new : List ℕ) (d : Data)
    → as_before e (if room then (if selected then with_selection_replaced d (without_paste e) new else with_insertion d (without_paste e) new false)
    else record (without_paste e) { message = Some TextFull }) ≡ e
back-from e true true new d = refl
back-from e true false new d = refl
back-from e false selected new d = refl

back-by : (d : Data) (e : Editor) (list : List ℕ) (none : Bool) → as_before e (if none then without_paste e else put_in d (without_paste e) list false) ≡ e
back-by d e list true = refl
back-by d e list false = back-from e (has_room (without_paste e) list) (is_selection (without_paste e)) list d

pub taken-back : (d : Data) (e : Editor) (list : List ℕ) → as_before e (with_pasted d e list) ≡ e
taken-back d e list = back-by d e list (length list == 0)

-- the same where the paste was taken out before
pub back-again : (e new : Editor) (pasted : Option (List ℕ)) → as_before (record e { pasted = pasted }) new ≡ record e { pasted = pasted }
    → as_before e new ≡ e
back-again e new pasted back = ap (λ (x : Editor). (let y : Editor = record x { pasted = e.pasted } in y)) back

-- where no paste is under way nothing ends
pub none-ended : (d : Data) (e : Editor) (left : Option (List ℕ)) → e.pasted ≡ None → left ≡ None
    → record e { pasted = left } ≡ paste_ended d e
none-ended d e left none taken =
    ap (λ pasted. (let x : Editor = record e { pasted = pasted } in x)) (taken ∙ sym none) ∙ ap (λ pasted. ended_with d e pasted) (sym none)
