-- The files by which letters join, computed on small examples of lines.
use Rattle.std.proofs.Common.{◌≡◌, ℕ, List, [], ◌∷◌, ◌++◌, Option, Some, None, refl}
use Rattle.std.specs.Prelude.{codes, map, Result, Ok, Err}
use Rattle.bx_ucd.specs.Reading.{class_in_file, form_if_any, joining_if_any, refusal}
use Rattle.bx_ucd.specs.declared.error.UcdError.{UcdError}
use Rattle.bx_ucd.specs.declared.error.UcdFile.{UcdFile}
use Rattle.bx_ucd.specs.declared.error.UcdFile.TheVariants.{Classes, Joining as OfJoining, Characters}
use Rattle.bx_ucd.specs.declared.error.Cause.{Cause}
use Rattle.bx_ucd.specs.declared.error.Cause.TheVariants.{BadLine, BadCode, UnknownValue, ControlInMirror}
use Rattle.bx_ucd.specs.declared.joining.Joining.{Joining}
use Rattle.bx_ucd.specs.declared.joining.Joining.TheVariants.{R, D, C, U, T}
use Rattle.bx_ucd.specs.declared.joining.Form.{Form}
use Rattle.bx_ucd.specs.declared.joining.Form.TheVariants.{Isolated, Initial, Medial, Final}
use Rattle.bx_ucd.specs.declared.sample.TheConstants.{CLASSES}

-- ---- shorthands

-- joining types of some codes, and forms of some letters
abbrev Answers : Type 0
Answers = List Joining × List (Option ℕ)

-- the answers by the two files and the sample of classes, or the first refused line
abbrev answers : List ℕ → List ℕ → List ℕ → List (ℕ × Form) → Result Answers UcdError
answers joining characters cs fs = elim (refusal [] [] [] (Some (joining, characters))) [
  | None ↦ Ok
      (map (λ c. joining_if_any (Some (joining, characters)) (class_in_file CLASSES.now c) c) cs, map (λ (c, f). form_if_any (Some (joining, characters)) c f) fs)
  | (Some error) ↦ Err error
]

abbrev refused : UcdFile → Cause → Result Answers UcdError
refused file cause = Err (record { file = file; line = 1; cause = cause })

-- a line of the characters file: a code and a decomposition
abbrev line : List ℕ → List ℕ → List ℕ
line code decomposition = code ++ codes ";NAME;Lo;0;AL;" ++ decomposition ++ codes ";;;;N;;;;;\n"

abbrev types : List ℕ
types = codes "0628; BEH; D; BEH\n0627; ALEF; R; ALEF\n0640; TATWEEL; C; No_Joining_Group\n"

abbrev forms : List ℕ
forms =
    line (codes "FE91") (codes "<initial> 0628") ++ line (codes "FE92") (codes "<medial> 0628") ++ line (codes "FE90") (codes "<final> 0628")
    ++ line (codes "FE8E") (codes "<final> 0627")

-- ---- answers

-- by a line, by class, and neither: marks and formatting characters are transparent, a control is not
types_of : answers types forms (0x628 ∷ 0x627 ∷ 0x640 ∷ 0x301 ∷ 0x202B ∷ 0x2069 ∷ 0x200F ∷ 1 ∷ 0x78 ∷ 0x5D0 ∷ []) []
    ≡ Ok (D ∷ R ∷ C ∷ T ∷ T ∷ T ∷ T ∷ U ∷ U ∷ U ∷ [], [])
types_of = refl

forms_of : answers types forms [] ((0x628, Isolated) ∷ (0x628, Initial) ∷ (0x628, Medial) ∷ (0x628, Final) ∷ (0x627, Final) ∷ (0xFE91, Initial) ∷ [])
    ≡ Ok ([], None ∷ Some 0xFE91 ∷ Some 0xFE92 ∷ Some 0xFE90 ∷ Some 0xFE8E ∷ None ∷ [])
forms_of = refl

without_the_files : joining_if_any None (class_in_file CLASSES.now 0x301) 0x301 ≡ U
without_the_files = refl

-- a letter without any form counts as U; one form of any kind is enough
letters_without_a_form : answers (codes "0645; M; D; M\n0644; L; R; L\n0643; K; L; K\n0642; Q; C; Q\n0641; F; T; F\n0626; Y; D; Y\n")
    (line (codes "FE89") (codes "<isolated> 0626")) (0x645 ∷ 0x644 ∷ 0x643 ∷ 0x642 ∷ 0x641 ∷ 0x626 ∷ []) []
    ≡ Ok (U ∷ U ∷ U ∷ C ∷ T ∷ D ∷ [], [])
letters_without_a_form = refl

-- the later line wins, and a line wins over the class
later_lines : answers (types ++ codes "0628; X; U; Y\n0301; X; U; Y\n200F; X; U; Y\n0001; X; T; Y\n") (forms ++ line (codes "0078") (codes "<final> 0628"))
    (0x628 ∷ 0x301 ∷ 0x200F ∷ 1 ∷ []) ((0x628, Final) ∷ (0x628, Medial) ∷ [])
    ≡ Ok (U ∷ U ∷ U ∷ T ∷ [], Some 0x78 ∷ Some 0xFE92 ∷ [])
later_lines = refl

-- ---- refusals of joining types

three_fields : answers (codes "0628; BEH; D") [] [] [] ≡ refused OfJoining BadLine
three_fields = refl

-- comments and empty lines count
fifth_field : answers (codes "# x\n\n0628; BEH; D; BEH; x") [] [] [] ≡ Err (record { file = OfJoining; line = 3; cause = BadLine })
fifth_field = refl

past_the_last_code : answers (codes "110000; X; D; Y") [] [] [] ≡ refused OfJoining BadCode
past_the_last_code = refl

surrogate : answers (codes "D800; X; D; Y") [] [] [] ≡ refused OfJoining BadCode
surrogate = refl

a_range : answers (codes "0628..0629; X; D; Y") [] [] [] ≡ refused OfJoining BadCode
a_range = refl

-- the code is refused before the type
code_before_type : answers (codes "062; X; Q; Y") [] [] [] ≡ refused OfJoining BadCode
code_before_type = refl

unknown_type : answers (codes "0628; X; Q; Y") [] [] [] ≡ refused OfJoining UnknownValue
unknown_type = refl

small_type : answers (codes "0628; X; d; Y") [] [] [] ≡ refused OfJoining UnknownValue
small_type = refl

comment_and_line_end : answers (codes "0628; X; D; Y # ÿ\r\n0627;;R;") forms (0x627 ∷ 0x628 ∷ []) [] ≡ Ok (R ∷ D ∷ [], [])
comment_and_line_end = refl

-- ---- refusals of characters

few_fields : answers [] (codes "0628;X;Lo") [] [] ≡ refused Characters BadLine
few_fields = refl

sixteen_fields : answers [] (codes "FE90;NAME;Lo;0;AL;<final> 0628;;;;N;;;;;;\n") [] [] ≡ refused Characters BadLine
sixteen_fields = refl

three_digits : answers [] (line (codes "FE90") (codes "<final> 062")) [] [] ≡ refused Characters BadCode
three_digits = refl

no_digits : answers [] (line (codes "FE90") (codes "<isolated> x")) [] [] ≡ refused Characters BadCode
no_digits = refl

surrogate_as_a_form : answers [] (line (codes "D800") (codes "<final> 0628")) [] [] ≡ refused Characters BadCode
surrogate_as_a_form = refl

surrogate_as_a_letter : answers [] (line (codes "FE90") (codes "<final> D800")) [] [] ≡ refused Characters BadCode
surrogate_as_a_letter = refl

no_code : answers [] (line (codes "ZZ") (codes "<isolated> 0628")) [] [] ≡ refused Characters BadCode
no_code = refl

control_as_a_form : answers [] (line (codes "001B") (codes "<final> 0628")) [] [] ≡ refused Characters ControlInMirror
control_as_a_form = refl

control_as_a_letter : answers [] (line (codes "FE90") (codes "<isolated> 2028")) [] [] ≡ refused Characters ControlInMirror
control_as_a_letter = refl

-- of other lines only the fields are counted
other_lines : answers []
    (line (codes "D800") [] ++ line (codes "ZZ") (codes "<font> 0628") ++ line (codes "ZZ") (codes "<final>") ++ line (codes "001B") (codes "<wide> 0628")
    ++ line (codes "FE90") (codes "<final> 0644 0622") ++ line (codes "FE90") (codes "0628 0628") ++ line (codes "FE90") (codes "0628")
    ++ line (codes "FE90") (codes "<Final> 0628") ++ line (codes "FE90") (codes "<final>0628"))
    [] ((0x628, Final) ∷ (0x644, Final) ∷ [])
    ≡ Ok ([], None ∷ None ∷ [])
other_lines = refl

blanks_between : answers [] (codes "FE90;NAME;Lo;0;AL; <final> \t 0628 ;;;;N;;;;;\r\n" ++ line (codes "FE8F") (codes "<isolated> 0628")) []
    ((0x628, Final) ∷ (0x628, Isolated) ∷ [])
    ≡ Ok ([], Some 0xFE90 ∷ Some 0xFE8F ∷ [])
blanks_between = refl

-- ---- the order of the files

joining_before_characters : answers (codes "0628") (codes "0628") [] [] ≡ refused OfJoining BadLine
joining_before_characters = refl

classes_before_joining : refusal (codes "0041") [] [] (Some (codes "0628", [])) ≡ Some (record { file = Classes; line = 1; cause = BadLine })
classes_before_joining = refl
