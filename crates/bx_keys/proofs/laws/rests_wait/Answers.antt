use Rattle.std.proofs.Common.{sym, ap, ◌∙◌}
use Rattle.bx_keys.specs.Keys.{Decoding}
use Rattle.bx_keys.specs.Waiting.{fate}
use Rattle.bx_keys.proofs.Feeding.{waits_decoding}
use Rattle.bx_keys.proofs.Cuts.{rest_waits}
use Rattle.bx_keys.proofs.laws.rests_wait.Goals as goal

pub returns : goal.returns
returns c = record {
  left = rest_waits;
  same = λ rest. (waits_decoding rest, λ e. sym (ap (λ (d : Decoding). fate d.rest) e) ∙ rest_waits rest);
}
