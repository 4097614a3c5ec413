use Rattle.bx_rows.proofs.PictureLaws.{one_if_letters}
use Rattle.bx_rows.proofs.drawn.RowPicture.of_letters.Goals as goal

pub returns-clause-glyphs : goal.returns-clause-glyphs
returns-clause-glyphs c k d l = (one_if_letters c.args.text.now _ c.in_ok-glyphs.ensures c.requires k d l).0

pub returns-clause-widths : goal.returns-clause-widths
returns-clause-widths c k d l = (one_if_letters c.args.text.now _ c.in_ok-glyphs.ensures c.requires k d l).1
