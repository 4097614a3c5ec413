-- Steps of counting the units that fit.
use Rattle.std.proofs.Common.{◌≡◌, ℕ, ◌+◌, ◌<◌, ◌≤◌, List, length, get_or, drop, ◌∙◌, arith}
use Rattle.std.proofs.lemmas.List.{at_drop_more}
use Rattle.std.proofs.Math.Seq.{drop-length}
use Rattle.bx_rows.specs.declared.cells.unit.Unit.{Unit}
use Rattle.bx_rows.specs.Wrapping.{columns_at, fit_count_from}
use Rattle.bx_rows.proofs.Wraps.{fit_cons, no_unit}

pub fits_more : (us : List Unit) (w c i : ℕ) → i < length us → c < w → c + columns_at w c (get_or us i no_unit).face ≤ w
    → fit_count_from w c (drop i us) ≡ 1 + fit_count_from w (c + columns_at w c (get_or us i no_unit).face) (drop (i + 1) us)
fits_more us w c i h k m = at_drop_more (fit_count_from w c) us i no_unit h ∙ fit_cons w c (get_or us i no_unit) (drop (i + 1) us) k m ∙ omega arith

pub fits_all : (us : List Unit) (w c : ℕ) → fit_count_from w c (drop (length us) us) ≡ 0
fits_all us w c = rw drop-length
