-- Frames are heard in their order.
use Rattle.std.proofs.Common.{◌≡◌, ◌+◌, ◌*◌, ℕ, List, [], ◌∷◌, ◌++◌, length, Some, ap, ◌∙◌, arith}
use Rattle.std.proofs.lemmas.List.{take_all, drop_all}
use Rattle.bx_input.specs.Frames.{Frame, IsEncoded, first_frame}
use Rattle.bx_input.specs.Machine.{Machine}
use Rattle.bx_input.specs.Heard.{behind_frame, heard, written}
use Rattle.bx_input.proofs.Hearing.{taken, there}
use Rattle.bx_input_laws.specs.Hearing.{AreHeardInOrder}

encoded_first : (f : Frame) (high low : ℕ) → high * 256 + low ≡ length f.bytes → first_frame (f.letter ∷ high ∷ low ∷ f.bytes) ≡ Some f
encoded_first f high low count =
    there f.letter (high * 256 + low) f.bytes (omega (arith, count))
    ∙ ap (λ bytes. Some (record { letter = f.letter; bytes = bytes })) (take_all (high * 256 + low) f.bytes (omega (arith, count)))

one_heard : (f : Frame) (first more : List ℕ) (t : Machine) → IsEncoded f first
    → heard (first ++ more) t ≡ (written f t).output ++ heard more (written f t).state
one_heard f first more t is =
    let whole : List ℕ = f.letter ∷ is.high ∷ is.low ∷ f.bytes in
    let none : behind_frame f whole ≡ [] = drop_all (3 + length f.bytes) whole (omega arith) in
    ap (λ bs. heard (bs ++ more) t) is.all
    ∙ taken whole more t f (encoded_first f is.high is.low is.count)
    ∙ ap (λ bs. (written f t).output ++ heard (bs ++ more) (written f t).state) none

pub in_order : AreHeardInOrder
in_order [] bs t is = ap (λ bs. heard bs t) is
in_order (f ∷ fs) bs t (first, more, is, are, all) =
    ap (λ bs. heard bs t) all
    ∙ one_heard f first more t is
    ∙ ap (λ out. (written f t).output ++ out) (in_order fs more (written f t).state are)
