-- N1, N2, I1 and I2, over the types of a sequence. `n1_at`, `n2_at` and `implicit_at` are of one type, `n1`, `n2` and `implicit` of all.
use Rattle.std.specs.Prelude.{ℕ, ◌+◌, ◌%◌, true, false, List, [], ◌∷◌, map}
use Rattle.std.proofs.Common.{zero, suc}
use Rattle.bx_ucd.specs.declared.class.Class.{Class}
use Rattle.bx_ucd.specs.declared.class.Class.TheVariants.{L, R, EN, AN}
use Rattle.bx_ucd.specs.Class.{is_neutral}
use Rattle.bx_levels.specs.resolve.Weak.{at_each}

-- the direction that a type counts as beside neutrals: EN and AN count as R
abbrev pub side_of : Class → Class
side_of L = L
side_of _ = R

-- the direction next to a run of neutrals, whose types and the types beyond are listed from the nearest on; at the sequence's end
-- `end`, which is its sos or eos
abbrev pub side : Class → List Class → Class
side end [] = end
side end (t ∷ ts) = elim (is_neutral t) [ true ↦ side end ts | false ↦ side_of t ]

-- the type of a neutral `t`, given the directions on both sides of its run: their direction if they agree
abbrev pub agreed : Class → Class → Class → Class
agreed t L L = L
agreed t R R = R
agreed t _ _ = t

-- N1: a neutral takes the direction of both sides of its run, if they agree; the types `before` and `after` it are listed from the
-- nearest on
abbrev pub n1_at : Class → Class → List Class → Class → List Class → Class
n1_at sos eos before t after = elim (is_neutral t) [ true ↦ agreed t (side sos before) (side eos after) | false ↦ t ]

abbrev pub n1 : Class → Class → List Class → List Class
n1 sos eos ts = at_each (n1_at sos eos) [] ts

-- N2: any remaining neutral takes the embedding direction
abbrev pub n2_at : Class → Class → Class
n2_at embedding t = elim (is_neutral t) [ true ↦ embedding | false ↦ t ]

abbrev pub n2 : Class → List Class → List Class
n2 embedding ts = map (n2_at embedding) ts

-- I1: at an even level, R goes up one level, and AN and EN go up two
abbrev pub rise_even : Class → ℕ
rise_even R = 1
rise_even AN = 2
rise_even EN = 2
rise_even _ = 0

-- I2: at an odd level, L, EN and AN go up one level
abbrev pub rise_odd : Class → ℕ
rise_odd L = 1
rise_odd EN = 1
rise_odd AN = 1
rise_odd _ = 0

-- I1 and I2: the level of a character of resolved type `t`, in a sequence at `level`
abbrev pub implicit_at : ℕ → Class → ℕ
implicit_at level t = elim (level % 2) [ zero ↦ level + rise_even t | suc n ↦ level + rise_odd t ]

abbrev pub implicit : ℕ → List Class → List ℕ
implicit level ts = map (implicit_at level) ts
