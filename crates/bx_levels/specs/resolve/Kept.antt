-- Which characters X9 keeps, which level is the highest, and N2 where an embedding direction is given.
use Rattle.std.specs.Prelude.{ℕ, ◌+◌, Bool, true, false, List, Option, Some, None}
use Rattle.bx_ucd.specs.declared.class.Class.{Class}
use Rattle.bx_ucd.specs.declared.class.Class.TheVariants.{BN, LRE, LRO, PDF, RLE, RLO}
use Rattle.bx_levels.specs.embedding.Stack.{max_depth}
use Rattle.bx_levels.specs.resolve.Neutral.{n2, n2_at}

-- X9 keeps characters of the class, so they have a level
abbrev pub is_kept : Class → Bool
is_kept RLE = false
is_kept LRE = false
is_kept RLO = false
is_kept LRO = false
is_kept PDF = false
is_kept BN = false
is_kept _ = true

-- the highest level: I2 raises the highest explicit level, which is odd, by one, and I1 the one below it by two
abbrev pub max_level : ℕ
max_level = max_depth + 1

-- N2 applied to a type, and to all types, if an embedding direction is given; else they stay
abbrev pub taken : Option Class → Class → Class
taken None t = t
taken (Some embedding) t = n2_at embedding t

abbrev pub all_taken : Option Class → List Class → List Class
all_taken None ts = ts
all_taken (Some embedding) ts = n2 embedding ts
