use Rattle.std.proofs.Common.{◌≡◌, ◌∷◌, [], ◌++◌, List, ℕ, ap, ◌∙◌}
use Rattle.bx_grid.specs.Terminal.{Terminal}
use Rattle.bx_grid.specs.Tokens.{fate}
use Rattle.bx_terminal.specs.Live.{terminal_of}
use Rattle.bx_terminal.proofs.RunEnds.{half_ended, escape_begun}
use Rattle.bx_terminal.proofs.live.Live.begin.Goals as goal

pushed : (c : goal.In_ok-push) → c.push.new.self.items ≡ c.args.byte ∷ []
pushed c =
    let none : c.self.inside.half_read.items ≡ [] = ap (λ (t : Terminal). t.half_read) (c.self.view_is ∙ c.in_ok-end_run.ensures)
    ∙ half_ended c.args.self.now c.requires in
    c.in_ok-push.ensures.items ∙ ap (λ (half_read : List ℕ). half_read ++ c.args.byte ∷ []) none

pub invariant_of-self-then-byte-eq-ESCAPE : goal.invariant_of-self-then-byte-eq-ESCAPE
invariant_of-self-then-byte-eq-ESCAPE c = record {
  sized = c.self.invariant.sized;
  position = c.self.invariant.position;
  uncut = c.self.invariant.uncut;
  waits = ap fate (pushed c ∙ ap (λ b. b ∷ []) c.if-byte-eq-ESCAPE.true);
}

pub returns-then-byte-eq-ESCAPE : goal.returns-then-byte-eq-ESCAPE
returns-then-byte-eq-ESCAPE c =
    escape_begun (terminal_of c.self.inside) c.args.self.now c.args.byte c.push.new.self.items (c.self.view_is ∙ c.in_ok-end_run.ensures)
    c.if-byte-eq-ESCAPE.true (pushed c)
