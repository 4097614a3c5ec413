-- The bytes that a writer took, write by write.
use Rattle.std.proofs.Common.{◌≡◌, ◌≤◌, ℕ, ◌+◌, ◌-◌, List, ◌++◌, Option, length, take, drop, sym, ap, ◌∙◌, arith}
use Rattle.std.specs.Io.KnownBytes.{Appends}
use Rattle.std.proofs.lemmas.List.{length-drop, take-append-drop, take_rest}
use Rattle.std.proofs.Math.Seq.{take-add}
use Rattle.bx_bytes.specs.Writing.{WritesFront}

pub written_more : (bytes : List ℕ) (w count : ℕ) → take w bytes ++ take count (take (length bytes - w) (drop w bytes)) ≡ take (w + count) bytes
written_more bytes w count = ap (λ xs. take w bytes ++ take count xs) (take_rest bytes w) ∙ sym (take-add w count bytes)

pub within_more : (bytes : List ℕ) (w count : ℕ) → w ≤ length bytes → count ≤ length (take (length bytes - w) (drop w bytes)) → w + count ≤ length bytes
within_more bytes w count within some =
    let left : length (take (length bytes - w) (drop w bytes)) ≡ length bytes - w = ap length (take_rest bytes w) ∙ length-drop w bytes in
    omega (arith, within, some, left)

pub front : (bytes : List ℕ) (old new : Option (List ℕ)) (count : ℕ) → Appends old new (take count bytes) → WritesFront bytes old new
front bytes old new count h = (take count bytes, drop count bytes, record { parts = sym (take-append-drop count bytes); appends = h })
