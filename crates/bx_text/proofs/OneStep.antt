-- One edit undone or redone is the first of many.
use Rattle.std.proofs.Common.{◌≡◌, List, [], ◌∷◌, map, take, refl}
use Rattle.std.specs.List.{reduce}
use Rattle.bx_text.specs.Edits.{Edit, Edited, change_back, change_of, merged, next_redos}
use Rattle.bx_text.specs.Changes.{first_again, first_back, next_redo, next_undo}
use Rattle.bx_text.specs.Edits.{next_undos}

back-one : (es : List Edit) → reduce merged (map change_back (take 1 es)) ≡ first_back es
back-one [] = refl
back-one (e ∷ es) = refl

again-one : (es : List Edit) → reduce merged (map change_of (take 1 es)) ≡ first_again es
again-one [] = refl
again-one (e ∷ es) = refl

pub undo_one : (t : Edited) → next_undos 1 t ≡ next_undo t
undo_one t = back-one t.past

pub redo_one : (t : Edited) → next_redos 1 t ≡ next_redo t
redo_one t = again-one t.future
