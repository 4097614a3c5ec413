-- The fields of a decoder, and the bytes that they hold.
use Rattle.std.specs.Prelude.{◌≡◌, ℕ, ◌-◌, ◌≤◌, List, ◌++◌, length, take, drop, replicate}
use Rattle.std.proofs.Common.{ap, ◌∙◌, arith}
use Rattle.std.proofs.lemmas.List.{length-take-le, take-append-drop}
use Rattle.bx_keys.specs.Waiting.{IsWaiting}
use Rattle.bx_keys.specs.declared.decoder.Decoder.TheInside.{Inside}
use Rattle.bx_keys.specs.declared.key.Key.{Key}
use Rattle.bx_keys.specs.declared.key.Key.TheVariants.{Size, Point, Drag}
use Rattle.bx_common.specs.Characters.{largest_side}

-- the bytes that wait, or the first 12 of them: what a decoder `d` holds
abbrev pub head_bytes : Inside → List ℕ
head_bytes d = take d.len d.bytes

-- at most 12 waiting bytes (`HEAD_LEN` of `src/decoder.rt` says why), padded with zeros
pub record IsDecoder (d : Inside) : Type 0 where
  pub len_fits : d.len ≤ 12
  pub len_bytes : length d.bytes ≡ 12
  pub zeros : drop d.len d.bytes ≡ replicate (12 - d.len) 0
  pub waits : IsWaiting (take d.len d.bytes)

-- a decoder with these fields
abbrev made : List ℕ → ℕ → Inside
made bytes len = record { bytes = bytes; len = len }

-- the decoder that holds these waiting bytes
abbrev pub decoder_of : List ℕ → Inside
decoder_of bs = record { bytes = bs ++ replicate (12 - length bs) 0; len = length bs }

-- a decoder is determined by the bytes that it holds
pub decoder_of-head_bytes : (d : Inside) → IsDecoder d → decoder_of (head_bytes d) ≡ d
decoder_of-head_bytes d h =
    let front : List ℕ = take d.len d.bytes in
    let count : length front ≡ d.len = length-take-le d.len d.bytes (omega (arith, h.len_fits, h.len_bytes)) in
    let whole : front ++ replicate (12 - d.len) 0 ≡ d.bytes = rw (← h.zeros) (take-append-drop d.len d.bytes) in
    ap (λ n. made (front ++ replicate (12 - n) 0) n) count ∙ ap (λ bytes. made bytes d.len) whole

-- a row or a column, or their number, is from 1 to 500
abbrev pub IsSide : ℕ → Type 0
IsSide n = (1 ≤ n) × (n ≤ largest_side)

-- a size that a window may have, and a cell that may be in it
abbrev pub HasSides : Key → Type 0
HasSides (Size h w) = IsSide h × IsSide w
HasSides (Point h w) = IsSide h × IsSide w
HasSides (Drag h w) = IsSide h × IsSide w
HasSides _ = Unit {0}
