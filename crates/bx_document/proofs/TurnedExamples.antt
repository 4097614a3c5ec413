-- Worked examples: turned columns.
use Rattle.std.proofs.Common.{◌≡◌, ℕ, true, false, List, [], ◌∷◌, refl}
use Rattle.bx_grid.specs.Columns.{Col, Glyph, Unknown}
use Rattle.bx_grid.specs.Grid.{turned_in}

abbrev plain : ℕ → Col
plain b = Glyph (b ∷ []) 1 0 false

abbrev negative : ℕ → Col
negative b = Glyph (b ∷ []) 1 0 true

-- U+4E16
abbrev wide : List ℕ
wide = 0xE4 ∷ 0xB8 ∷ 0x96 ∷ []

-- two columns from the second on are turned: from negative to normal, and one of which nothing is known stays
pub turned_back : turned_in (negative 0x61 ∷ negative 0x62 ∷ Unknown ∷ negative 0x63 ∷ []) 1 2
    ≡ negative 0x61 ∷ plain 0x62 ∷ Unknown ∷ negative 0x63 ∷ []
turned_back = refl

-- both columns of a wide glyph are turned
pub turned_wide : turned_in (Glyph wide 2 0 false ∷ Glyph wide 2 1 false ∷ plain 0x61 ∷ []) 0 2
    ≡ Glyph wide 2 0 true ∷ Glyph wide 2 1 true ∷ plain 0x61 ∷ []
turned_wide = refl
