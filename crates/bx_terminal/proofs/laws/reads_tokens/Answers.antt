use Rattle.bx_terminal.proofs.InTokens.{reads-tokens}
use Rattle.bx_terminal.proofs.TokenBytes.{runs-are-longest, tokens-make-bytes}
use Rattle.bx_terminal.proofs.laws.reads_tokens.Goals as goal

pub returns-clause-reads : goal.returns-clause-reads
returns-clause-reads c = reads-tokens

pub returns-clause-bytes : goal.returns-clause-bytes
returns-clause-bytes c = tokens-make-bytes

pub returns-clause-longest : goal.returns-clause-longest
returns-clause-longest c = runs-are-longest
