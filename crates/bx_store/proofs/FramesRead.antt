-- Frames are read back from their bytes.
use Rattle.std.proofs.Common.{◌≡◌, ◌∙◌, ℕ, zero, suc, ◌≤◌, List, [], ◌∷◌, ◌++◌, length, take, drop, cond, Option, Some, None, nat_le, refl, ap, sym, append-nil, append_assoc, length-append, arith}
use Rattle.std.specs.Prelude.{flat_map}
use Rattle.std.specs.List.{concat}
use Rattle.std.proofs.Math.Seq.{drop-append_seam, take-append_seam}
use Rattle.std.proofs.lemmas.Bool.{cond-true, le-leb}
use Rattle.std.proofs.lemmas.Nat.{div-add-mod'}
use Rattle.bx_store.specs.Frames.{Frame, bytes_of, frame, frames_in, nothing_read, obeyed_all, reading_of, save_bytes}
use Rattle.bx_store.specs.SaveLaws.{FramesAreObeyed, SavesCarryTheText}

-- the frame of so many bytes, and what is read after them
abbrev read_on : ℕ → ℕ → ℕ → List ℕ → List Frame
read_on most letter size more = cond (nat_le size (length more)) (record { letter = letter; bytes = take size more } ∷ frames_in most (drop size more)) []

-- a whole frame is read, and then what follows
one_frame : (most letter : ℕ) (bytes more : List ℕ) → frames_in (suc most) (frame letter bytes ++ more) ≡ record { letter = letter; bytes = bytes } ∷ frames_in most more
one_frame most letter bytes more =
    ap (λ size. read_on most letter size (bytes ++ more)) (div-add-mod' (length bytes) 256)
    ∙ cond-true (nat_le (length bytes) (length (bytes ++ more))) _ _ (le-leb (length bytes) (length (bytes ++ more)) (omega (arith, length-append bytes more)))
    ∙ ap (λ taken. record { letter = letter; bytes = taken } ∷ frames_in most (drop (length bytes) (bytes ++ more))) (take-append_seam bytes more)
    ∙ ap (λ rest. record { letter = letter; bytes = bytes } ∷ frames_in most rest) (drop-append_seam bytes more)

read_back : (most : ℕ) (fs : List Frame) → length fs ≤ most → frames_in most (bytes_of fs) ≡ fs
read_back zero [] fits = refl
read_back zero (f ∷ fs) fits = absurd (omega (arith, fits))
read_back (suc most) [] fits = refl
read_back (suc most) (f ∷ fs) fits = one_frame most f.letter f.bytes (bytes_of fs) ∙ ap (λ rest. f ∷ rest) (read_back most fs (omega (arith, fits)))

-- a frame has a byte at least
as_many : (fs : List Frame) → length fs ≤ length (bytes_of fs)
as_many [] = omega arith
as_many (f ∷ fs) =
    let more = as_many fs in
    let sum = length-append (frame f.letter f.bytes) (bytes_of fs) in
    omega (arith, more, sum)

pub frames_obeyed : FramesAreObeyed
frames_obeyed fs = ap (obeyed_all nothing_read) (read_back (length (bytes_of fs)) fs (as_many fs))

-- ---- a save

pieces_of : List (List ℕ) → List Frame
pieces_of [] = []
pieces_of (p ∷ ps) = record { letter = 0x50; bytes = p } ∷ pieces_of ps

abbrev save_of : List ℕ → List (List ℕ) → List Frame
save_of start pieces = record { letter = 0x42; bytes = start } ∷ (pieces_of pieces ++ record { letter = 0x43; bytes = [] } ∷ [])

bytes_of_pieces : (pieces : List (List ℕ)) (more : List Frame) → bytes_of (pieces_of pieces ++ more) ≡ flat_map (frame 0x50) pieces ++ bytes_of more
unfolding pieces_of
bytes_of_pieces [] more = refl
bytes_of_pieces (p ∷ ps) more = ap (λ rest. frame 0x50 p ++ rest) (bytes_of_pieces ps more) ∙ sym (append_assoc (frame 0x50 p) (flat_map (frame 0x50) ps) (bytes_of more))

bytes_of_save : (start : List ℕ) (pieces : List (List ℕ)) → bytes_of (save_of start pieces) ≡ save_bytes start pieces
bytes_of_save start pieces = ap (λ rest. frame 0x42 start ++ rest) (bytes_of_pieces pieces (record { letter = 0x43; bytes = [] } ∷ []))

-- a reader that has a beginning of the text, and reads the other pieces and COMMIT
pieces_obeyed : (start text : List ℕ) (asked : Option (List ℕ)) (pieces : List (List ℕ))
    → obeyed_all (record { start = start; text = Some text; asked = asked }) (pieces_of pieces ++ record { letter = 0x43; bytes = [] } ∷ [])
    ≡ record { start = start; text = None; asked = Some (text ++ concat pieces) }
unfolding pieces_of
pieces_obeyed start text asked [] = ap (λ whole. record { start = start; text = None; asked = Some whole }) (sym (append-nil text))
pieces_obeyed start text asked (p ∷ ps) =
    pieces_obeyed start (text ++ p) asked ps ∙ ap (λ whole. record { start = start; text = None; asked = Some whole }) (append_assoc text p (concat ps))

pub text_carried : SavesCarryTheText
text_carried start pieces =
    ap reading_of (sym (bytes_of_save start pieces)) ∙ frames_obeyed (save_of start pieces) ∙ pieces_obeyed start [] None pieces
