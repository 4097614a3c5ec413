use Rattle.bx_view.proofs.WordsOn.{words-go-on}
use Rattle.bx_view_laws.proofs.laws.words_go_on.Goals as goal

pub returns : goal.returns
returns c = λ ucd text utf8. words-go-on ucd text utf8
