-- The characters read that are shown.
use Rattle.std.proofs.Common.{◌≡◌, not, filter}
use Rattle.std.specs.Prelude.{encode_utf8_all, string_bytes}
use Rattle.bx_document.specs.StatusRow.{is_no_letter}
use Rattle.bx_document.proofs.document.Document.shown_name.Given as goal

abbrev pub invariant-loop-c : goal.invariant-loop-c
invariant-loop-c g l = string_bytes l.shown ≡ encode_utf8_all (filter (λ c. not (is_no_letter (g.D.BidiData.data l.fn.self.tables) c)) l.yielded)
