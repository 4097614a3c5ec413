-- The bytes that wait within a paste, which the type `PasteTail` numbers.
use Rattle.std.specs.Prelude.{ℕ, List, [], ◌∷◌, codes}
use Rattle.bx_input.specs.Table.{csi}
use Rattle.bx_input.specs.declared.paste_tail.PasteTail.{PasteTail}
use Rattle.bx_input.specs.declared.paste_tail.PasteTail.TheVariants as tail

-- a beginning of the paste's end, or of a control character of C1
abbrev pub tail_bytes : PasteTail → List ℕ
tail_bytes tail.Nothing = []
tail_bytes tail.Lead = 0xC2 ∷ []
tail_bytes tail.Escape = 0x1B ∷ []
tail_bytes tail.Csi = csi []
tail_bytes tail.Two = csi (codes "2")
tail_bytes tail.Twenty = csi (codes "20")
tail_bytes tail.TwoHundredOne = csi (codes "201")
