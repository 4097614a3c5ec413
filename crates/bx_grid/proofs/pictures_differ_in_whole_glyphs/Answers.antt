use Rattle.std.proofs.Common.{◌≡◌, ◌*◌, ◌∙◌, ap, sym, length, ℕ}
use Rattle.bx_grid.specs.Picture.{PictureState}
use Rattle.bx_grid.specs.Grid.{IsPicture}
use Rattle.bx_grid.proofs.Shared.{share, differ}
use Rattle.bx_grid.proofs.Whole.{rows_whole}
use Rattle.bx_grid.specs.Glyphs.{AreWhole}
use Rattle.bx_grid.proofs.pictures_differ_in_whole_glyphs.Goals as goal

whole : (p : PictureState) → IsPicture p → AreWhole p.columns
whole p is = rows_whole p.height p.width p.columns is.grid.sized.each is.grid.rows

same_size : (p q : PictureState) → IsPicture p → IsPicture q → p.height ≡ q.height → p.width ≡ q.width → length p.columns ≡ length q.columns
same_size p q a b eh ew = a.grid.sized.each ∙ ap (λ (h : ℕ). h * p.width) eh ∙ ap (λ (w : ℕ). q.height * w) ew ∙ sym b.grid.sized.each

pub returns-clause-common : goal.returns-clause-common
returns-clause-common c p q a b eh ew = share p.columns q.columns (same_size p q a b eh ew) (whole p a) (whole q b)

pub returns-clause-differing : goal.returns-clause-differing
returns-clause-differing c p q a b eh ew = (
  differ p.columns q.columns (same_size p q a b eh ew) (whole p a) (whole q b),
  differ q.columns p.columns (sym (same_size p q a b eh ew)) (whole q b) (whole p a),
)
