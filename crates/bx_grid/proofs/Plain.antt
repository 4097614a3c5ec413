-- A column that is blank is the one blank.
use Rattle.std.proofs.Common.{◌≡◌, true, false, ◌&&◌, nat_eq, [], ◌∷◌, refl, arith}
use Rattle.std.proofs.lemmas.Bool.Decides.{nat_tests}
use Rattle.bx_grid.specs.Columns.{Col, Unknown, Glyph, blank, is_blank}
use Rattle.bx_grid.proofs.Reading.{and_right}

pub blank_is : (x : Col) → is_blank x ≡ true → x ≡ blank
blank_is Unknown h = absurd (cc h)
blank_is (Glyph [] columns offset negative) h = absurd (cc h)
blank_is (Glyph (b ∷ c ∷ rest) columns offset negative) h = absurd (cc h)
blank_is (Glyph (b ∷ []) columns offset true) h = absurd (let n = and_right ((nat_eq 32 b && nat_eq columns 1) && nat_eq offset 0) false h in cc n)
blank_is (Glyph (b ∷ []) columns offset false) h =
    let t : b ≡ 32 = grind (arith, nat_tests) in
    let c : columns ≡ 1 = grind (arith, nat_tests) in
    let o : offset ≡ 0 = grind (arith, nat_tests) in
    rw (t, c, o) refl
