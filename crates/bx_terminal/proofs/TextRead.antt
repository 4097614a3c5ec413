-- A text that is read.
use Rattle.std.proofs.Common.{◌≡◌, ℕ, true, List, [], ◌++◌, ap, sym, ◌∙◌}
use Rattle.std.specs.Str.{IsUtf8}
use Rattle.bx_bytes.specs.Utf8.{are_printable}
use Rattle.bx_grid.specs.Effects.{Effect}
use Rattle.bx_grid.specs.Terminal.{Terminal, reads}
use Rattle.bx_grid.proofs.Doing.{run_is}
use Rattle.bx_grid.proofs.Texts.{text_does}

pub text_read : (t : Terminal) (text : List ℕ) → IsUtf8 text → are_printable text ≡ true → t.half_read ≡ []
    → reads t text ≡ record t { run = t.run ++ text; half_read = [] }
text_read t text utf8 printed idle = ap (λ (w : Terminal × List Effect). w.0) (sym (run_is t [] text) ∙ text_does t [] text utf8 printed idle)
