-- The characters read so far are added, each mirrored.
use Rattle.std.proofs.Common.{◌≡◌, map, length, take, chars, string_bytes}
use Rattle.std.specs.Prelude.{encode_utf8_all, unwrap_or}
use Rattle.bx_rows.proofs.mirrors.mirror_image.Given as goal

abbrev pub invariant-loop-c : goal.invariant-loop-c
invariant-loop-c g l = string_bytes l.other
    ≡ encode_utf8_all (map (λ c. unwrap_or ((g.D.BidiData.data l.tables).mirror c) c) (take (length l.yielded) (chars l.text)))
