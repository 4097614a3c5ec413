use Rattle.std.proofs.Common.{refl}
use Rattle.bx_text.proofs.index_lemmas.Followed.{covers_bytes}
use Rattle.bx_text.proofs.index.index.Index.ready.Goals as goal

pub returns-clause-bytes : goal.returns-clause-bytes
returns-clause-bytes c = covers_bytes _ c.args.separators refl
