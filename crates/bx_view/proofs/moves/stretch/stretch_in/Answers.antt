use Rattle.std.proofs.Common.{◌-◌, ◌∙◌, ap, length, min, sym}
use Rattle.bx_view.specs.Words.{unit_start, word_around}
use Rattle.bx_view.proofs.UnitsAround.{start-before-end}
use Rattle.bx_view.proofs.WordsAround.{empty-word}
use Rattle.bx_view.proofs.moves.stretch.stretch_in.Goals as goal

pub returns-then-len-eq0 : goal.returns-then-len-eq0
returns-then-len-eq0 g c =
    empty-word (g.D.BidiData.data c.args.tables.now) c.args.paragraph.now.body c.args.offset
    (sym (ap length c.body-len.ensures) ∙ c.if-len-eq0.true)

pub returns : goal.returns
returns g c =
    let l = c.args.paragraph.now in
    c.word_around.ensures
    ∙ ap (word_around (g.D.BidiData.data c.args.tables.now) l.body) (c.unit_around-start.ensures.start
    ∙ ap (unit_start l.body) (c.min.ensures ∙ ap (λ b. min c.args.offset (length b - 1)) c.body-len.ensures)
    ∙ start-before-end l.body c.args.offset)
