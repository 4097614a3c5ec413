-- The matching PDI of an isolate initiator, BD9, and the paragraph level, P2 and P3.
use Rattle.std.specs.Prelude.{ℕ, true, false, List, [], ◌∷◌, Option, Some, None, take, ◌+◌, length, drop}
use Rattle.std.proofs.Common.{zero, suc, pred}
use Rattle.bx_ucd.specs.declared.class.Class.{Class}
use Rattle.bx_ucd.specs.declared.class.Class.TheVariants.{R, AL, LRI, RLI, FSI, PDI}
use Rattle.bx_ucd.specs.Class.{is_initiator, is_strong}
use Rattle.bx_common.specs.declared.base.Base.{Base}
use Rattle.bx_common.specs.declared.base.Base.TheVariants.{Auto, Ltr, Rtl}

-- the number of open isolates after a character: an initiator adds one, a PDI takes one away, if there is one
abbrev pub count_after : ℕ → Class → ℕ
count_after n LRI = suc n
count_after n RLI = suc n
count_after n FSI = suc n
count_after n PDI = pred n
count_after n _ = n

-- one character more
abbrev pub one_more : Option ℕ → Option ℕ
one_more None = None
one_more (Some k) = Some (suc k)

-- the number of characters before the first one that leaves no open isolate, where `n` isolates, at least 1, are open before the first;
-- for `n` = 1 it is the matching PDI
abbrev pub before_pdi : ℕ → List Class → Option ℕ
before_pdi n [] = None
before_pdi n (c ∷ cs) = elim (count_after n c) [ zero ↦ Some 0 | suc m ↦ one_more (before_pdi (suc m) cs) ]

-- the number if there is one, else the length of the list
abbrev pub or_end : Option ℕ → List Class → ℕ
or_end None cs = length cs
or_end (Some k) cs = k

-- the number of characters in an isolate, of those after its initiator: up to the matching PDI, or to the end
abbrev pub isolated : List Class → ℕ
isolated cs = or_end (before_pdi 1 cs) cs

-- the index of the matching PDI of the character at index `i`, if it is an initiator and has one; the list begins with this character
abbrev pub match_after : ℕ → List Class → Option ℕ
match_after i [] = None
match_after i (c ∷ cs) = elim (is_initiator c) [ false ↦ None | true ↦ elim (before_pdi 1 cs) [ None ↦ None | Some k ↦ Some (i + 1 + k) ] ]

-- the index of the matching PDI of the character at index `i` of a whole text, if it is an initiator and has one
abbrev pub match_of : List Class → ℕ → Option ℕ
match_of cs i = match_after i (drop i cs)

-- the number of characters to skip after `c`: after an initiator, those of its isolate; `cs` is the text after `c`
abbrev pub skipped : Class → List Class → ℕ
skipped c cs = elim (is_initiator c) [ true ↦ isolated cs | false ↦ 0 ]

-- P2: the first L, R or AL outside isolates, after `skip` characters
abbrev pub first_strong : ℕ → List Class → Option Class
first_strong skip [] = None
first_strong (suc skip) (c ∷ cs) = first_strong skip cs
first_strong zero (c ∷ cs) = elim (is_strong c) [ true ↦ Some c | false ↦ first_strong (skipped c cs) cs ]

-- P3: 1 if the class is R or AL, else 0
abbrev pub level_of_strong : Class → ℕ
level_of_strong R = 1
level_of_strong AL = 1
level_of_strong _ = 0

-- P3: the level by the first strong class, or 0 if there is none
abbrev pub level_of : Option Class → ℕ
level_of None = 0
level_of (Some c) = level_of_strong c

-- P2 and P3: the paragraph level of a text whose characters have the classes `cs`
abbrev pub paragraph_level : List Class → ℕ
paragraph_level cs = level_of (first_strong 0 cs)

-- X5c: the paragraph level of an isolate's text, given the text after its initiator
abbrev pub isolate_level : List Class → ℕ
isolate_level cs = paragraph_level (take (isolated cs) cs)

-- the paragraph level under a base direction: found from the text, or given (HL1)
abbrev pub base_level : Base → List Class → ℕ
base_level Auto cs = paragraph_level cs
base_level Ltr cs = 0
base_level Rtl cs = 1
