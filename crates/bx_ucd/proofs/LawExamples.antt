-- Consequences of the law of the small tables: properties of single codes by the sample files.
use Rattle.std.proofs.Common.{◌≡◌, ℕ, Some, None, sym}
use Rattle.bx_ucd.specs.Reading.{class_in_file, bracket_in_file, mirror_in_file}
use Rattle.bx_ucd.specs.SmallTables.{class, bracket, mirror}
use Rattle.bx_ucd.specs.declared.class.Class.TheVariants.{L, R}
use Rattle.bx_ucd.specs.declared.data.Side.TheVariants.{Opener}
use Rattle.bx_ucd.specs.declared.sample.TheConstants.{CLASSES, BRACKETS, MIRRORING}

-- the letter alef
alef_is_right : ((code : ℕ) → class code ≡ class_in_file CLASSES.now code) → class_in_file CLASSES.now 0x5D0 ≡ R
alef_is_right law = sym (law 0x5D0)

-- the last code, which no line covers
last_code_is_left : ((code : ℕ) → class code ≡ class_in_file CLASSES.now code) → class_in_file CLASSES.now 0x10FFFF ≡ L
last_code_is_left law = sym (law 0x10FFFF)

parenthesis_opens : ((code : ℕ) → bracket code ≡ bracket_in_file BRACKETS.now code) → bracket_in_file BRACKETS.now 0x28 ≡ Some (Opener, 0x29)
parenthesis_opens law = sym (law 0x28)

letter_is_no_bracket : ((code : ℕ) → bracket code ≡ bracket_in_file BRACKETS.now code) → bracket_in_file BRACKETS.now 0x61 ≡ None
letter_is_no_bracket law = sym (law 0x61)

parenthesis_mirrors : ((code : ℕ) → mirror code ≡ mirror_in_file MIRRORING.now code) → mirror_in_file MIRRORING.now 0x29 ≡ Some 0x28
parenthesis_mirrors law = sym (law 0x29)
