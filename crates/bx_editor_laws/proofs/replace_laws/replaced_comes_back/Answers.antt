use Rattle.bx_editor_laws.proofs.ReplacedBack.{replaced-comes-back}
use Rattle.bx_editor_laws.proofs.replace_laws.replaced_comes_back.Goals as goal

pub returns : goal.returns
returns c = replaced-comes-back
