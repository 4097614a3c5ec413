-- The definitions, computed on small examples of lines and codes.
use Rattle.std.proofs.Common.{◌≡◌, ℕ, List, [], ◌∷◌, Option, Some, None, refl}
use Rattle.std.specs.Prelude.{codes, map, replicate, ◌++◌, take, Result, Ok, Err}
use Rattle.bx_ucd.specs.Reading.{refusal, class_in_file, bracket_in_file, mirror_in_file}
use Rattle.bx_ucd.specs.declared.class.Class.{Class}
use Rattle.bx_ucd.specs.declared.class.Class.TheVariants.{L, R, AL, EN, ES, ET, AN, CS, NSM, BN, B, S, WS, ON, LRE, LRO, RLE, RLO, PDF, LRI, RLI, FSI, PDI}
use Rattle.bx_ucd.specs.declared.data.Side.{Side}
use Rattle.bx_ucd.specs.declared.data.Side.TheVariants.{Opener, Closer}
use Rattle.bx_ucd.specs.declared.error.UcdError.{UcdError}
use Rattle.bx_ucd.specs.declared.error.UcdFile.TheVariants.{Classes, Brackets, Mirroring}
use Rattle.bx_ucd.specs.declared.error.Cause.{Cause}
use Rattle.bx_ucd.specs.declared.error.Cause.TheVariants.{BadLine, BadCode, BadRange, UnknownValue, ControlInMirror}

-- ---- shorthands

-- classes, brackets and mirrors
abbrev Answers : Type 0
Answers = List Class × List (Option (Side × ℕ)) × List (Option ℕ)

-- the properties of some codes by the files, or the first refused line
abbrev answers : List ℕ → List ℕ → List ℕ → List ℕ → List ℕ → List ℕ → Result Answers UcdError
answers classes brackets mirroring cs bs ms = elim (refusal classes brackets mirroring None) [
  | None ↦ Ok (map (class_in_file classes) cs, map (bracket_in_file brackets) bs, map (mirror_in_file mirroring) ms)
  | (Some error) ↦ Err error
]

-- ---- refusals

pub one_field : answers (codes "0041") [] [] [] [] []
    ≡ Err (record { file = Classes; line = 1; cause = BadLine })
one_field = refl

-- the code is refused before the class
pub past_the_last_code : answers (codes "110000 ; Q") [] [] [] [] []
    ≡ Err (record { file = Classes; line = 1; cause = BadCode })
past_the_last_code = refl

-- so is the range
pub range_upside_down : answers (codes "0042..0041 ; Q") [] [] [] [] []
    ≡ Err (record { file = Classes; line = 1; cause = BadRange })
range_upside_down = refl

pub range_upside_down_alone : answers (codes "0042..0041 ; L") [] [] [] [] []
    ≡ Err (record { file = Classes; line = 1; cause = BadRange })
range_upside_down_alone = refl

pub unknown_class : answers (codes "0041 ; Q") [] [] [] [] []
    ≡ Err (record { file = Classes; line = 1; cause = UnknownValue })
unknown_class = refl

pub past_the_last_code_alone : answers (codes "110000 ; L") [] [] [] [] []
    ≡ Err (record { file = Classes; line = 1; cause = BadCode })
past_the_last_code_alone = refl

pub three_digits : answers (codes "041 ; L") [] [] [] [] []
    ≡ Err (record { file = Classes; line = 1; cause = BadCode })
three_digits = refl

pub eight_digits : answers (codes "00000041; L") [] [] [] [] []
    ≡ Err (record { file = Classes; line = 1; cause = BadCode })
eight_digits = refl

-- an empty line counts
pub second_line : answers (codes "\n0041") [] [] [] [] []
    ≡ Err (record { file = Classes; line = 2; cause = BadLine })
second_line = refl

pub control_as_a_mirror : answers [] [] (codes "0028; 001B") [] [] []
    ≡ Err (record { file = Mirroring; line = 1; cause = ControlInMirror })
control_as_a_mirror = refl

-- a surrogate is refused before a control
pub control_mirrored : answers [] [] (codes "001B; D800") [] [] []
    ≡ Err (record { file = Mirroring; line = 1; cause = BadCode })
control_mirrored = refl

pub line_separator : answers [] [] (codes "2028; 0028") [] [] []
    ≡ Err (record { file = Mirroring; line = 1; cause = ControlInMirror })
line_separator = refl

pub surrogate_bracket : answers [] (codes "D800; 0028; o") [] [] [] []
    ≡ Err (record { file = Brackets; line = 1; cause = BadCode })
surrogate_bracket = refl

-- a surrogate is neither a bracket nor a mirror, on either side
pub surrogate_paired : answers [] (codes "0028; DFFF; o") [] [] [] []
    ≡ Err (record { file = Brackets; line = 1; cause = BadCode })
surrogate_paired = refl

pub surrogate_mirrored : answers [] [] (codes "DBFF; 0028") [] [] []
    ≡ Err (record { file = Mirroring; line = 1; cause = BadCode })
surrogate_mirrored = refl

pub surrogate_as_a_mirror : answers [] [] (codes "0028; DC00") [] [] []
    ≡ Err (record { file = Mirroring; line = 1; cause = BadCode })
surrogate_as_a_mirror = refl

pub beside_the_surrogates : answers [] [] (codes "D7FF; E000\nE000; D7FF") [] [] (0xD7FF ∷ 0xE000 ∷ [])
    ≡ Ok ([], [], ((Some 0xE000) ∷ (Some 0xD7FF) ∷ []))
beside_the_surrogates = refl

pub two_fields : answers [] (codes "0028; 0029") [] [] [] []
    ≡ Err (record { file = Brackets; line = 1; cause = BadLine })
two_fields = refl

pub unknown_side : answers [] (codes "0028; 0029; x") [] [] [] []
    ≡ Err (record { file = Brackets; line = 1; cause = UnknownValue })
unknown_side = refl

-- the code that is paired is read before the side
pub capital_side : answers [] (codes "0028; 029; O") [] [] [] []
    ≡ Err (record { file = Brackets; line = 1; cause = BadCode })
capital_side = refl

pub small_class_name : answers (codes "0041 ; l") [] [] [] [] []
    ≡ Err (record { file = Classes; line = 1; cause = UnknownValue })
small_class_name = refl

pub long_name_in_other_case : answers (codes "0041 ; left_to_right") [] [] [] [] []
    ≡ Err (record { file = Classes; line = 1; cause = UnknownValue })
long_name_in_other_case = refl

pub blanks_in_a_range : answers (codes "0041 .. 0042; L") [] [] [] [] []
    ≡ Err (record { file = Classes; line = 1; cause = BadCode })
blanks_in_a_range = refl

pub three_dots : answers (codes "0041...0042; L") [] [] [] [] []
    ≡ Err (record { file = Classes; line = 1; cause = BadCode })
three_dots = refl

pub no_second_code : answers (codes "0041.. ; L") [] [] [] [] []
    ≡ Err (record { file = Classes; line = 1; cause = BadCode })
no_second_code = refl

pub third_field : answers (codes "0041; L;") [] [] [] [] []
    ≡ Err (record { file = Classes; line = 1; cause = BadLine })
third_field = refl

-- a byte that no field has
pub not_a_comment : answers (codes "ÿ") [] [] [] [] []
    ≡ Err (record { file = Classes; line = 1; cause = BadLine })
not_a_comment = refl

-- the error names the first file with a refused line
pub files_in_order : answers (codes "0041 ; L\n\n041 ; L\n") (codes "0028") (codes "0028") [] [] []
    ≡ Err (record { file = Classes; line = 3; cause = BadCode })
files_in_order = refl

pub brackets_before_mirrors : answers (codes "0041 ; L\n") (codes "# o\n0028") (codes "0028") [] [] []
    ≡ Err (record { file = Brackets; line = 2; cause = BadLine })
brackets_before_mirrors = refl

-- ---- line ends

-- it belongs to a line's end only before a line feed
pub carriage_return_at_the_end : answers (codes "0041 ; R\r") [] [] (0x41 ∷ []) [] []
    ≡ Err (record { file = Classes; line = 1; cause = UnknownValue })
carriage_return_at_the_end = refl

pub carriage_return_alone : answers (codes "\r") [] [] [] [] []
    ≡ Err (record { file = Classes; line = 1; cause = BadLine })
carriage_return_alone = refl

-- and only one of them
pub two_carriage_returns : answers (codes "0041 ; R\r\r\n") [] [] [] [] []
    ≡ Err (record { file = Classes; line = 1; cause = UnknownValue })
two_carriage_returns = refl

pub carriage_return_and_line_feed : answers (codes "0041 ; R # ÿ\r\n0042 ; R") [] [] (0x41 ∷ 0x42 ∷ 0x43 ∷ []) [] []
    ≡ Ok ((R ∷ R ∷ L ∷ []), [], [])
carriage_return_and_line_feed = refl

pub no_line_end : answers (codes "0041 ; R # ÿ") [] [] (0x41 ∷ []) [] []
    ≡ Ok ((R ∷ []), [], [])
no_line_end = refl

pub no_bytes : answers [] [] [] (0x41 ∷ []) [] []
    ≡ Ok ((L ∷ []), [], [])
no_bytes = refl

-- ---- answers

-- a data line wins over a default
pub data_line_default_and_neither : answers (codes "# @missing: 0041..0042; Right_To_Left\n0041 ; L") [] [] (0x41 ∷ 0x42 ∷ 0x43 ∷ []) [] []
    ≡ Ok ((L ∷ R ∷ L ∷ []), [], [])
data_line_default_and_neither = refl

-- whichever is later
pub data_line_before_a_default : answers (codes "0041 ; L\n# @missing: 0041..0042; Right_To_Left\n") [] [] (0x41 ∷ 0x42 ∷ []) [] []
    ≡ Ok ((L ∷ R ∷ []), [], [])
data_line_before_a_default = refl

-- a later line wins, and need not cover all
pub later_line : answers (codes "0041..0050 ; R\n0045 ; Left_To_Right") [] [] (0x45 ∷ 0x46 ∷ []) [] []
    ≡ Ok ((L ∷ R ∷ []), [], [])
later_line = refl

pub later_default : answers (codes "# @missing: 0000..10FFFF; ON\n\t#@missing:0042;\tWS\n") [] [] (0x41 ∷ 0x42 ∷ 0x10FFFF ∷ []) [] []
    ≡ Ok ((ON ∷ WS ∷ ON ∷ []), [], [])
later_default = refl

pub surrogates_in_a_range : answers (codes "D800..DFFF ; L\nD800 ; B") [] [] (0xD7FF ∷ 0xD800 ∷ []) [] []
    ≡ Ok ((L ∷ B ∷ []), [], [])
surrogates_in_a_range = refl

-- and of four to six digits
pub digits_of_either_case : answers (codes "00aB..0000Ac\t;AN") [] [] (0xAA ∷ 0xAB ∷ 0xAC ∷ 0xAD ∷ []) [] []
    ≡ Ok ((L ∷ AN ∷ AN ∷ L ∷ []), [], [])
digits_of_either_case = refl

-- the class of a default runs to the end of the line
pub missing_with_a_comment : answers (codes "# @missing: 0041; R # x\n") [] [] (0x41 ∷ []) [] []
    ≡ Ok ((L ∷ []), [], [])
missing_with_a_comment = refl

-- a malformed default is a comment
pub missing_that_reads_badly : answers
    (codes
    "# @missing: 0041; Q\n# @missing: 0042..0041; R\n# @missing: 041; R\n# @missing: 0041; R; R\n#@ missing: 0041; R\n## @missing: 0041; R\n# @Missing: 0041; R")
    [] [] (0x41 ∷ []) [] []
    ≡ Ok ((L ∷ []), [], [])
missing_that_reads_badly = refl

-- and so is one after a data line
pub missing_after_data : answers (codes "0042; R # @missing: 0041; R") [] [] (0x41 ∷ 0x42 ∷ []) [] []
    ≡ Ok ((L ∷ R ∷ []), [], [])
missing_after_data = refl

-- lines of blanks and comments are skipped
pub blanks_alone : answers (codes " \t\n \t# 0041; Q\n#\n0041 ; EN") [] [] (0x41 ∷ []) [] []
    ≡ Ok ((EN ∷ []), [], [])
blanks_alone = refl

-- the later line for a bracket wins
pub later_bracket : answers [] (codes "0028; 0029; o\n0028; 005D; c # x\n# @missing: 0029; 0028; c\n") [] [] (0x28 ∷ 0x29 ∷ []) []
    ≡ Ok ([], ((Some (Closer, 0x5D)) ∷ None ∷ []), [])
later_bracket = refl

pub later_mirror : answers [] [] (codes "0028; 0029\n0028;005D\n") [] [] (0x28 ∷ 0x29 ∷ [])
    ≡ Ok ([], [], ((Some 0x5D) ∷ None ∷ []))
later_mirror = refl

-- each class by its short and its long name
pub short_names : answers (codes
    "0041;L\n0042;R\n0043;AL\n0044;EN\n0045;ES\n0046;ET\n0047;AN\n0048;CS\n0049;NSM\n004A;BN\n004B;B\n004C;S\n004D;WS\n004E;ON\n004F;LRE\n0050;LRO\n0051;RLE\n0052;RLO\n0053;PDF\n0054;LRI\n0055;RLI\n0056;FSI\n0057;PDI\n")
    [] [] (0x41 ∷ 0x42 ∷ 0x43 ∷ 0x44 ∷ 0x45 ∷ 0x46 ∷ 0x47 ∷ 0x48 ∷ 0x49 ∷ 0x4A ∷ 0x4B ∷ 0x4C ∷ 0x4D ∷ 0x4E ∷ 0x4F ∷ 0x50 ∷ 0x51 ∷ 0x52 ∷ 0x53 ∷ 0x54 ∷ 0x55
    ∷ 0x56 ∷ 0x57 ∷ 0x58 ∷ []) [] []
    ≡ Ok ((L ∷ R ∷ AL ∷ EN ∷ ES ∷ ET ∷ AN ∷ CS ∷ NSM ∷ BN ∷ B ∷ S ∷ WS ∷ ON ∷ LRE ∷ LRO ∷ RLE ∷ RLO ∷ PDF ∷ LRI ∷ RLI ∷ FSI ∷ PDI ∷ L ∷ []), [], [])
short_names = refl

pub long_names : answers (codes
    "0041;Left_To_Right\n0042;Right_To_Left\n0043;Arabic_Letter\n0044;European_Number\n0045;European_Separator\n0046;European_Terminator\n0047;Arabic_Number\n0048;Common_Separator\n0049;Nonspacing_Mark\n004A;Boundary_Neutral\n004B;Paragraph_Separator\n004C;Segment_Separator\n004D;White_Space\n004E;Other_Neutral\n004F;Left_To_Right_Embedding\n0050;Left_To_Right_Override\n0051;Right_To_Left_Embedding\n0052;Right_To_Left_Override\n0053;Pop_Directional_Format\n0054;Left_To_Right_Isolate\n0055;Right_To_Left_Isolate\n0056;First_Strong_Isolate\n0057;Pop_Directional_Isolate\n")
    [] [] (0x41 ∷ 0x42 ∷ 0x43 ∷ 0x44 ∷ 0x45 ∷ 0x46 ∷ 0x47 ∷ 0x48 ∷ 0x49 ∷ 0x4A ∷ 0x4B ∷ 0x4C ∷ 0x4D ∷ 0x4E ∷ 0x4F ∷ 0x50 ∷ 0x51 ∷ 0x52 ∷ 0x53 ∷ 0x54 ∷ 0x55
    ∷ 0x56 ∷ 0x57 ∷ 0x58 ∷ []) [] []
    ≡ Ok ((L ∷ R ∷ AL ∷ EN ∷ ES ∷ ET ∷ AN ∷ CS ∷ NSM ∷ BN ∷ B ∷ S ∷ WS ∷ ON ∷ LRE ∷ LRO ∷ RLE ∷ RLO ∷ PDF ∷ LRI ∷ RLI ∷ FSI ∷ PDI ∷ L ∷ []), [], [])
long_names = refl

-- ---- random files, with the answers of another reader

pub classes_bad_line : answers
    (codes
    "\t0042..00042; \t PDI \t \r\n  ##@missing: \t 00005d\t;RLI\t\r\n\t0042; \t PDF\t\r\n\t000044;  RLE\t # x; y\r\n\r\r\n \t #@missing: \t 10ffff ..0043\t;  ON ")
    (codes "  000042  ;00029  ;\tc  \r\n  00041  ;  005b ; \t o\r\n") (codes "  00042;  0042 \t \n  D800 ;\t00042\n")
    (0x41 ∷ 0x42 ∷ 0x43 ∷ 0x44 ∷ 0x28 ∷ 0x5B ∷ []) (0x28 ∷ 0x29 ∷ 0x41 ∷ 0x42 ∷ []) (0x28 ∷ 0x29 ∷ 0x41 ∷ 0x42 ∷ [])
    ≡ Err (record { file = Classes; line = 5; cause = BadLine })
classes_bad_line = refl

pub classes_bad_code : answers
    (codes
    " \t 000042 \t ;\tNSM \n \n0005B ..005b\t;  Arabic_Letter  \r\n\t00005b..0028  ;Segment_Separator\n \t 00043 ;  L L \t # @missing: 0041; R\n  0041\t; Right_To_Left_Override#\n")
    (codes "  0028 \t ;009f \t ;c\t\r\n") (codes " \t 000044; 00028  #\n") (0x41 ∷ 0x42 ∷ 0x43 ∷ 0x44 ∷ 0x28 ∷ 0x5B ∷ []) (0x28 ∷ 0x29 ∷ 0x41 ∷ 0x42 ∷ [])
    (0x28 ∷ 0x29 ∷ 0x41 ∷ 0x42 ∷ [])
    ≡ Err (record { file = Classes; line = 3; cause = BadCode })
classes_bad_code = refl

pub classes_bad_range : answers (codes " 0044;\tLeft_To_Right_Embedding \r\n\t\r\n0042..00041 \t ;  LRE#\n  \n")
    (codes "\t0041  ; 0005D;  c\r\n\t0044 ;000029 \t ;  c\t\r\n  005D;  000028\t; \t c \t \r\n \t # @missing: 0041; R") []
    (0x41 ∷ 0x42 ∷ 0x43 ∷ 0x44 ∷ 0x28 ∷ 0x5B ∷ []) (0x28 ∷ 0x29 ∷ 0x41 ∷ 0x42 ∷ []) (0x28 ∷ 0x29 ∷ 0x41 ∷ 0x42 ∷ [])
    ≡ Err (record { file = Classes; line = 3; cause = BadRange })
classes_bad_range = refl

pub classes_unknown_value : answers
    (codes " \t 005b  ;  FSI \t \n \t #\t@missing  0044 ;\tleft_to_right\t\n \t 0029 \t ;Q\t\n \t 000029 ..0005B \t ; \t CS\t # x; y\r\n")
    (codes "\t0041 ;  0029 ;o  \r\n") (codes " \t 005B  ; 0005D  # x; y\r\n 000029 ;  0042\t\r\n") (0x41 ∷ 0x42 ∷ 0x43 ∷ 0x44 ∷ 0x28 ∷ 0x5B ∷ [])
    (0x28 ∷ 0x29 ∷ 0x41 ∷ 0x42 ∷ []) (0x28 ∷ 0x29 ∷ 0x41 ∷ 0x42 ∷ [])
    ≡ Err (record { file = Classes; line = 3; cause = UnknownValue })
classes_unknown_value = refl

pub brackets_bad_line : answers (codes " \t #\t#@missing:00043..000043 \t ;Nonspacing_Mark\t\n") (codes "  0043\t; \t 000044  ;c # x; y\n\r") []
    (0x41 ∷ 0x42 ∷ 0x43 ∷ 0x44 ∷ 0x28 ∷ 0x5B ∷ []) (0x28 ∷ 0x29 ∷ 0x41 ∷ 0x42 ∷ []) (0x28 ∷ 0x29 ∷ 0x41 ∷ 0x42 ∷ [])
    ≡ Err (record { file = Brackets; line = 2; cause = BadLine })
brackets_bad_line = refl

pub brackets_bad_code : answers
    (codes
    "  # \t @Missing: 009f..000042  ;\tLeft_To_Right_Override \n  \n \t \n \n \t 000043 ;  Right_To_Left_Override\t\n #@missing:  0043  ; B  \n 005b\t; \t B ")
    (codes "\t0044  ;0042 \t ;  c\t # x; y\n \n\t0042 ;0x41 ;  o  #\r\n") (codes "  0029; 0041  \r\n 00042 \t ;  005B \t \r\n")
    (0x41 ∷ 0x42 ∷ 0x43 ∷ 0x44 ∷ 0x28 ∷ 0x5B ∷ []) (0x28 ∷ 0x29 ∷ 0x41 ∷ 0x42 ∷ []) (0x28 ∷ 0x29 ∷ 0x41 ∷ 0x42 ∷ [])
    ≡ Err (record { file = Brackets; line = 3; cause = BadCode })
brackets_bad_code = refl

pub brackets_unknown_value : answers (codes "\r\n  # @missing:\t000044;RLE")
    (codes " \n005D  ; \t 00028;  C \t # @missing: 0041; R\n 0041;  10FFFF  ;oc  #\n  0005D ;0043 ; o \n") (codes "  005d\t; 00005b \t \r\n  0029  ;005D \t \n")
    (0x41 ∷ 0x42 ∷ 0x43 ∷ 0x44 ∷ 0x28 ∷ 0x5B ∷ []) (0x28 ∷ 0x29 ∷ 0x41 ∷ 0x42 ∷ []) (0x28 ∷ 0x29 ∷ 0x41 ∷ 0x42 ∷ [])
    ≡ Err (record { file = Brackets; line = 2; cause = UnknownValue })
brackets_unknown_value = refl

pub mirroring_bad_line : answers (codes "  0005B  ; RLI#\n\t#  @missing00029..00A0  ; \t CS \n")
    (codes " \t 000043  ; \t 0042 \t ;  c  \r\n\t00005b  ;  005D  ; \t o \r\n  005b  ;  00041 ;  c \t ")
    (codes "00044 ;  00043\t\n  # @missing: 0041; R\r\n \t \r\r\n") (0x41 ∷ 0x42 ∷ 0x43 ∷ 0x44 ∷ 0x28 ∷ 0x5B ∷ []) (0x28 ∷ 0x29 ∷ 0x41 ∷ 0x42 ∷ [])
    (0x28 ∷ 0x29 ∷ 0x41 ∷ 0x42 ∷ [])
    ≡ Err (record { file = Mirroring; line = 3; cause = BadLine })
mirroring_bad_line = refl

pub mirroring_bad_code : answers (codes "\r\n0041;  WS \t \r\n00042..0043; ET  \r\n0042..000044  ;  RLO\t\r\n  #  @missing:  0x41 \t ;PDI\r\n")
    (codes " \t \n \t 005D; 00042  ;  c # x; y\n 000042 ;\t005D \t ; \t o")
    (codes " \t 00041 \t ; \t 00005d\r\n 0042 ;\t0044\r\n  0005D  ; \t 000028 \t #\n000028 ;00000041   # x; y") (0x41 ∷ 0x42 ∷ 0x43 ∷ 0x44 ∷ 0x28 ∷ 0x5B ∷ [])
    (0x28 ∷ 0x29 ∷ 0x41 ∷ 0x42 ∷ []) (0x28 ∷ 0x29 ∷ 0x41 ∷ 0x42 ∷ [])
    ≡ Err (record { file = Mirroring; line = 4; cause = BadCode })
mirroring_bad_code = refl

pub mirroring_control : answers (codes "\t# #@missing: 000043..00005d ;\tRight_To_Left_Embedding  \r\n") (codes " 00044\t; 0028 ; \t c\t\r\n")
    (codes "0042\t; \t 00043# @missing: 0041; R\n0029\t; 2028 ") (0x41 ∷ 0x42 ∷ 0x43 ∷ 0x44 ∷ 0x28 ∷ 0x5B ∷ []) (0x28 ∷ 0x29 ∷ 0x41 ∷ 0x42 ∷ [])
    (0x28 ∷ 0x29 ∷ 0x41 ∷ 0x42 ∷ [])
    ≡ Err (record { file = Mirroring; line = 2; cause = ControlInMirror })
mirroring_control = refl

pub data_and_defaults : answers (codes "  0029;ET\r\n 00041;\tLeft_To_Right#\r\n \t # @missing: \t 005B ;\tFSI \r\n  005b  ;\tLRO \r\n")
    (codes " 00043;  0005B\t;o \t \n000044 ;\t0028  ;o  # @missing: 0041; R\n \n \t 000042 ;  000044 ; c\t") (codes " 005b ;0029  ")
    (0x41 ∷ 0x42 ∷ 0x43 ∷ 0x44 ∷ 0x28 ∷ 0x5B ∷ []) (0x28 ∷ 0x29 ∷ 0x41 ∷ 0x42 ∷ []) (0x28 ∷ 0x29 ∷ 0x41 ∷ 0x42 ∷ [])
    ≡ Ok ((L ∷ L ∷ L ∷ L ∷ L ∷ LRO ∷ []), (None ∷ None ∷ None ∷ (Some (Closer, 0x44)) ∷ []), (None ∷ None ∷ None ∷ None ∷ []))
data_and_defaults = refl

pub overlapping_defaults : answers
    (codes
    "# @missing: 0041; R\n \t #@missing: \t 000028; Boundary_Neutral# x\n\t#@missing: \t 0028..00044  ; BN  \n \t #\t@missing:\t0044 ..000029 \t ; \t L  \n")
    (codes "  00041;00005b; o\t# @missing: 0041; R") [] (0x41 ∷ 0x42 ∷ 0x43 ∷ 0x44 ∷ 0x28 ∷ 0x5B ∷ []) (0x28 ∷ 0x29 ∷ 0x41 ∷ 0x42 ∷ [])
    (0x28 ∷ 0x29 ∷ 0x41 ∷ 0x42 ∷ [])
    ≡ Ok ((BN ∷ BN ∷ BN ∷ BN ∷ BN ∷ L ∷ []), (None ∷ None ∷ (Some (Opener, 0x5B)) ∷ None ∷ []), (None ∷ None ∷ None ∷ None ∷ []))
overlapping_defaults = refl

pub overlapping_data : answers
    (codes
    "  # @missing:  0005D..000042 \t ;European_Terminator  ; y\r\n  001B ; PDI \t \r\n\t000041; \t L\r\n 00028..10ffff \t ; Left_To_Right_Embedding\t\r\n\t # x; y")
    (codes "00044 \t ;  000029  ;  c\n \t \n \t 000041; 005b \t ;\tc  \n00005d ;\t005b ;c") (codes "00029; 005d\t\r\n 005d;00005b #\r\n  ")
    (0x41 ∷ 0x42 ∷ 0x43 ∷ 0x44 ∷ 0x28 ∷ 0x5B ∷ []) (0x28 ∷ 0x29 ∷ 0x41 ∷ 0x42 ∷ []) (0x28 ∷ 0x29 ∷ 0x41 ∷ 0x42 ∷ [])
    ≡ Ok ((LRE ∷ LRE ∷ LRE ∷ LRE ∷ LRE ∷ LRE ∷ []), (None ∷ None ∷ (Some (Closer, 0x5B)) ∷ None ∷ []), (None ∷ (Some 0x5D) ∷ None ∷ None ∷ []))
overlapping_data = refl

pub repeated_brackets : answers (codes "  #\t@missing:  0029..005d \t ;L L  \n  005D; \t Common_Separator\n  # \t @Missing:000044\t;  ON\n")
    (codes "000041 \t ; 000028 \t ;\tc \n\t00041\t;\t000028\t;  o\t\n") (codes " 005b; 0043 \t \r\n  005B  ;\t005B\t\r\n")
    (0x41 ∷ 0x42 ∷ 0x43 ∷ 0x44 ∷ 0x28 ∷ 0x5B ∷ []) (0x28 ∷ 0x29 ∷ 0x41 ∷ 0x42 ∷ []) (0x28 ∷ 0x29 ∷ 0x41 ∷ 0x42 ∷ [])
    ≡ Ok ((L ∷ L ∷ L ∷ L ∷ L ∷ L ∷ []), (None ∷ None ∷ (Some (Opener, 0x28)) ∷ None ∷ []), (None ∷ None ∷ None ∷ None ∷ []))
repeated_brackets = refl

pub repeated_mirrors : answers (codes " \t # #@missing:\t00005d...0041 ;  Q  \n\t\n#\t@missing\t005B \t ;\tCommon_Separator \t \n")
    (codes "\t0028;000044 \t ;  o #\n \t 005B\t; \t 0044 \t ;c # x; y\n  000044 \t ; 00043  ; \t c #\n")
    (codes "  000044;00005d \t  # x; y\n\t0044;00042  #\n  000042\t;00041\n") (0x41 ∷ 0x42 ∷ 0x43 ∷ 0x44 ∷ 0x28 ∷ 0x5B ∷ []) (0x28 ∷ 0x29 ∷ 0x41 ∷ 0x42 ∷ [])
    (0x28 ∷ 0x29 ∷ 0x41 ∷ 0x42 ∷ [])
    ≡ Ok ((L ∷ L ∷ L ∷ L ∷ L ∷ L ∷ []), ((Some (Opener, 0x44)) ∷ None ∷ None ∷ None ∷ []), (None ∷ None ∷ None ∷ (Some 0x41) ∷ []))
repeated_mirrors = refl

-- ---- cut short and very long

abbrev refused : Cause → Result Answers UcdError
refused cause = Err (record { file = Classes; line = 1; cause = cause })

-- each beginning of a line, from none of its bytes to all
pub cut_short : map (λ n. answers (take n (codes "0041 ; R")) [] [] (0x41 ∷ []) [] []) (0 ∷ 1 ∷ 2 ∷ 3 ∷ 4 ∷ 5 ∷ 6 ∷ 7 ∷ 8 ∷ [])
    ≡ Ok (L ∷ [], [], []) ∷ refused BadLine ∷ refused BadLine ∷ refused BadLine ∷ refused BadLine ∷ refused BadLine ∷ refused UnknownValue ∷ refused
    UnknownValue ∷ Ok (R ∷ [], [], []) ∷ []
cut_short = refl

pub many_digits : answers (replicate 500 0x30) [] [] [] [] [] ≡ refused BadLine
many_digits = refl

pub many_digits_and_a_class : answers (replicate 500 0x30 ++ codes " ; L") [] [] [] [] [] ≡ refused BadCode
many_digits_and_a_class = refl
