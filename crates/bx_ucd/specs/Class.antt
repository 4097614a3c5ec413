-- The groups of bidirectional classes that the rules name.
use Rattle.std.specs.Prelude.{ℕ, zero, suc, ◌%◌, Bool, true, false, List, codes}
use Rattle.bx_ucd.specs.declared.class.Class.{Class}
use Rattle.bx_ucd.specs.declared.class.Class.TheVariants.{L, R, AL, EN, ES, ET, AN, CS, NSM, BN, B, S, WS, ON, LRE, LRO, RLE, RLO, PDF, LRI, RLI, FSI, PDI}

-- an isolate initiator
abbrev pub is_initiator : Class → Bool
is_initiator LRI = true
is_initiator RLI = true
is_initiator FSI = true
is_initiator _ = false

-- a strong class
abbrev pub is_strong : Class → Bool
is_strong L = true
is_strong R = true
is_strong AL = true
is_strong _ = false

-- a neutral or isolate formatting class, "NI"
abbrev pub is_neutral : Class → Bool
is_neutral B = true
is_neutral S = true
is_neutral WS = true
is_neutral ON = true
is_neutral FSI = true
is_neutral LRI = true
is_neutral RLI = true
is_neutral PDI = true
is_neutral _ = false

-- the class of nonspacing marks
abbrev pub is_nsm : Class → Bool
is_nsm NSM = true
is_nsm _ = false

-- a class of combining marks (NSM), of joiners and control characters (BN), or of formatting characters: none has a letter of its
-- own
abbrev pub is_unlettered : Class → Bool
is_unlettered NSM = true
is_unlettered BN = true
is_unlettered LRE = true
is_unlettered RLE = true
is_unlettered LRO = true
is_unlettered RLO = true
is_unlettered PDF = true
is_unlettered LRI = true
is_unlettered RLI = true
is_unlettered FSI = true
is_unlettered PDI = true
is_unlettered _ = false

-- the direction of a level: L if it is even, R if odd
abbrev pub direction : ℕ → Class
direction level = elim (level % 2) [ zero ↦ L | suc n ↦ R ]

-- the short name of a class
abbrev pub class_name : Class → List ℕ
class_name L = codes "L"
class_name R = codes "R"
class_name AL = codes "AL"
class_name EN = codes "EN"
class_name ES = codes "ES"
class_name ET = codes "ET"
class_name AN = codes "AN"
class_name CS = codes "CS"
class_name NSM = codes "NSM"
class_name BN = codes "BN"
class_name B = codes "B"
class_name S = codes "S"
class_name WS = codes "WS"
class_name ON = codes "ON"
class_name LRE = codes "LRE"
class_name LRO = codes "LRO"
class_name RLE = codes "RLE"
class_name RLO = codes "RLO"
class_name PDF = codes "PDF"
class_name LRI = codes "LRI"
class_name RLI = codes "RLI"
class_name FSI = codes "FSI"
class_name PDI = codes "PDI"
