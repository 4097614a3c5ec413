-- One byte more among the bytes that a decoder keeps.
use Rattle.std.proofs.Common.{◌≡◌, ℕ, ◌+◌, ◌-◌, ◌<◌, ◌≤◌, [], ◌∷◌, ◌++◌, take, drop, set, replicate, refl, ap, sym, ◌∙◌, arith, length-append, length-set}
use Rattle.std.proofs.lemmas.List.{take_all, take_at, drop-set-lt, drop-drop, drop-replicate, length-take-le}
use Rattle.std.proofs.lemmas.Grind.{take-set_at}
use Rattle.bx_bytes.specs.declared.fate.Fate.TheVariants.{Waits}
use Rattle.bx_keys.specs.Decoder.{head_bytes, IsDecoder}
use Rattle.bx_keys.specs.Waiting.{fate, head_of}
use Rattle.bx_keys.specs.declared.decoder.Decoder.TheInside.{Inside}

pub added : (d : Inside) (b : ℕ) → IsDecoder d → d.len < 12 → take (d.len + 1) (set d.bytes d.len b) ≡ head_bytes d ++ b ∷ []
added d b h room = take-set_at d.bytes d.len (d.len + 1) b refl (omega (arith, h.len_bytes))

pub added_head : (d : Inside) (b : ℕ) → IsDecoder d → d.len < 12 → take (d.len + 1) (set d.bytes d.len b) ≡ head_of (head_bytes d ++ b ∷ [])
added_head d b h room =
    added d b h room
    ∙ sym (take_all 12 (head_bytes d ++ b ∷ [])
    (omega (arith, length-append (head_bytes d) (b ∷ []), length-take-le d.len d.bytes (omega (arith, h.len_bytes)))))

zeros_after : (d : Inside) (b : ℕ) → IsDecoder d → d.len < 12 → drop (d.len + 1) (set d.bytes d.len b) ≡ replicate (12 - (d.len + 1)) 0
zeros_after d b h room =
    drop-set-lt (d.len + 1) d.bytes d.len b (omega arith)
    ∙ sym (drop-drop 1 d.len d.bytes)
    ∙ ap (drop 1) h.zeros
    ∙ drop-replicate 1 (12 - d.len) 0
    ∙ ap (λ n. replicate n 0) (omega arith)

pub still_decoder : (d : Inside) (b : ℕ) → IsDecoder d → d.len < 12 → fate (head_bytes d ++ b ∷ []) ≡ Waits
    → IsDecoder (record { bytes = set d.bytes d.len b; len = d.len + 1 })
still_decoder d b h room waits = record {
  len_fits = omega arith;
  len_bytes = length-set d.bytes d.len b ∙ h.len_bytes;
  zeros = zeros_after d b h room;
  waits = ap fate (added d b h room) ∙ waits;
}

pub full : (d : Inside) (b : ℕ) → IsDecoder d → 12 ≤ d.len → head_bytes d ≡ head_of (head_bytes d ++ b ∷ [])
full d b h none =
    sym (take_at (head_bytes d) (b ∷ []) 12 (length-take-le d.len d.bytes (omega (arith, h.len_fits, h.len_bytes)) ∙ omega (arith, h.len_fits)))
