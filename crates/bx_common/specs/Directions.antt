-- The words that name base directions on a command line.
use Rattle.std.specs.Prelude.{◌≡◌, ◌≢◌, ℕ, List, codes, Result, MatchResult}
use Rattle.bx_common.specs.declared.base.Base.{Base}
use Rattle.bx_common.specs.declared.base.Base.TheVariants.{Auto, Ltr, Rtl}

-- the word that names a base direction
abbrev pub word_of : Base → List ℕ
word_of Auto = codes "auto"
word_of Ltr = codes "ltr"
word_of Rtl = codes "rtl"

-- the word names this base direction, or is refused and names none
abbrev pub NamesBase : {E : Type 0} → List ℕ → Result Base E → Type 0
NamesBase word named = MatchResult named (λ base. word ≡ word_of base) (λ _. (base : Base) → word ≢ word_of base)
