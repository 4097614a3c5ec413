-- Events in pieces.
use Rattle.std.proofs.Common.{[], ◌∷◌, ◌++◌, refl, ap, sym, ◌∙◌, append_assoc}
use Rattle.bx_input.specs.Machine.{Moved, after, after_all}
use Rattle.bx_input_laws.specs.Events.{EventsComeInPieces}

pub in_pieces : EventsComeInPieces
in_pieces [] more m = refl
in_pieces (e ∷ es) more m =
    let first : Moved = after e m in
    let next : Moved = after_all es first.machine in
    let last : Moved = after_all more next.machine in
    ap (λ (z : Moved). record { machine = z.machine; keys = first.keys ++ z.keys }) (in_pieces es more first.machine)
    ∙ ap (λ keys. record { machine = last.machine; keys = keys }) (sym (append_assoc first.keys next.keys last.keys))
