-- What the files give, read in the order of `UcdFile`: the first refused line, or else the properties of each code.
use Rattle.std.specs.Prelude.{◌≡◌, ◌⊎◌, ℕ, List, Option, Some, None, unwrap_or}
use Rattle.std.specs.Option.{option_or}
use Rattle.bx_ucd.specs.Lines.{entries, first_refusal, no_memory_in, TellsRefusal}
use Rattle.bx_ucd.specs.ClassFile.{class_lines}
use Rattle.bx_ucd.specs.BracketFile.{bracket_lines}
use Rattle.bx_ucd.specs.MirroringFile.{mirror_lines}
use Rattle.bx_ucd.specs.JoiningFile.{joining_lines}
use Rattle.bx_ucd.specs.CharactersFile.{character_lines}
use Rattle.bx_ucd.specs.Answers.{class_by_lines, bracket_by_lines, mirror_by_lines}
use Rattle.bx_ucd.specs.Joining.{counted, form_by_lines, has_form, joining_by_class, joining_by_lines}
use Rattle.bx_ucd.specs.declared.class.Class.{Class}
use Rattle.bx_ucd.specs.declared.data.Side.{Side}
use Rattle.bx_ucd.specs.declared.joining.Joining.{Joining}
use Rattle.bx_ucd.specs.declared.joining.Joining.TheVariants.{U}
use Rattle.bx_ucd.specs.declared.joining.Form.{Form}
use Rattle.bx_ucd.specs.declared.joined_letters.JoiningFiles.{JoiningFiles}
use Rattle.bx_ucd.specs.declared.error.UcdFile.{UcdFile}
use Rattle.bx_ucd.specs.declared.error.UcdFile.TheVariants.{Classes, Brackets, Mirroring, Joining as OfJoining, Characters}
use Rattle.bx_ucd.specs.declared.error.UcdError.{UcdError}

-- ---- refusals

-- the texts of the files of joining types and of characters
abbrev pub JoiningTexts : Type 0
JoiningTexts = List ℕ × List ℕ

-- the texts of the two files, if they are given
abbrev pub texts_of : Option JoiningFiles → Option JoiningTexts
texts_of None = None
texts_of (Some files) = Some (files.joining.now, files.characters.now)

-- the first refused line of the first of the two files that has one
abbrev pub joining_refusal : JoiningTexts → Option UcdError
joining_refusal texts =
    option_or (first_refusal OfJoining (joining_lines texts.0)) (first_refusal Characters (character_lines texts.1))

-- that refusal, if the two files are given
abbrev pub joining_refusal_if_any : Option JoiningTexts → Option UcdError
joining_refusal_if_any None = None
joining_refusal_if_any (Some texts) = joining_refusal texts

-- the first refused line of the first of the three other files that has one
abbrev pub bidi_refusal : List ℕ → List ℕ → List ℕ → Option UcdError
bidi_refusal classes brackets mirroring =
    option_or (first_refusal Classes (class_lines classes))
    (option_or (first_refusal Brackets (bracket_lines brackets)) (first_refusal Mirroring (mirror_lines mirroring)))

-- the first refused line of the first file that has one
abbrev pub refusal : List ℕ → List ℕ → List ℕ → Option JoiningTexts → Option UcdError
refusal classes brackets mirroring texts = option_or (bidi_refusal classes brackets mirroring) (joining_refusal_if_any texts)

-- ---- failed allocations

-- no line is refused in the files read before this one, and this one is given
abbrev pub AcceptedBefore : UcdFile → List ℕ → List ℕ → List ℕ → Option JoiningTexts → Type 0
AcceptedBefore Classes classes brackets mirroring texts = Unit {0}
AcceptedBefore Brackets classes brackets mirroring texts = first_refusal Classes (class_lines classes) ≡ None
AcceptedBefore Mirroring classes brackets mirroring texts =
    (first_refusal Classes (class_lines classes) ≡ None) × (first_refusal Brackets (bracket_lines brackets) ≡ None)
AcceptedBefore OfJoining classes brackets mirroring None = ⊥
AcceptedBefore OfJoining classes brackets mirroring (Some texts) = bidi_refusal classes brackets mirroring ≡ None
AcceptedBefore Characters classes brackets mirroring None = ⊥
AcceptedBefore Characters classes brackets mirroring (Some texts) =
    (bidi_refusal classes brackets mirroring ≡ None) × (first_refusal OfJoining (joining_lines texts.0) ≡ None)

-- an allocation failed while a file was read, and no line of the files before it is refused
abbrev pub NoMemoryAfter : List ℕ → List ℕ → List ℕ → Option JoiningTexts → UcdError → Type 0
NoMemoryAfter classes brackets mirroring texts e = (e ≡ no_memory_in e.file) × AcceptedBefore e.file classes brackets mirroring texts

-- the error is the first refused line of the two files, or an allocation that failed while one of them was read
abbrev pub TellsJoining : JoiningTexts → UcdError → Type 0
TellsJoining texts e =
    TellsRefusal OfJoining e (joining_refusal texts)
    ⊎ ((e ≡ no_memory_in Characters) × (first_refusal OfJoining (joining_lines texts.0) ≡ None))

-- ---- the properties of a code by the lines of the files

-- the class of a code, by the bytes of the file of classes
abbrev pub class_in_file : List ℕ → ℕ → Class
class_in_file bytes code = class_by_lines (entries (class_lines bytes)) code

-- the side of a bracket and its counterpart, by the bytes of the file of brackets
abbrev pub bracket_in_file : List ℕ → ℕ → Option (Side × ℕ)
bracket_in_file bytes code = bracket_by_lines (entries (bracket_lines bytes)) code

-- the mirror of a character, by the bytes of the file of mirrored characters
abbrev pub mirror_in_file : List ℕ → ℕ → Option ℕ
mirror_in_file bytes code = mirror_by_lines (entries (mirror_lines bytes)) code

-- the character that is this form of a letter, by the bytes of the file of characters
abbrev pub form_in_file : List ℕ → ℕ → Form → Option ℕ
form_in_file bytes letter form = form_by_lines (entries (character_lines bytes)) letter form

-- a character's joining type: its line gives it, or else its class; R, L and D count as U if the character has no form
abbrev pub joining_in_files : JoiningTexts → Class → ℕ → Joining
joining_in_files texts class c =
    counted (unwrap_or (joining_by_lines (entries (joining_lines texts.0)) c) (joining_by_class class c)) (has_form (form_in_file texts.1 c))

-- without the two files each character is of type U and has no form
abbrev pub joining_if_any : Option JoiningTexts → Class → ℕ → Joining
joining_if_any None class c = U
joining_if_any (Some texts) class c = joining_in_files texts class c

abbrev pub form_if_any : Option JoiningTexts → ℕ → Form → Option ℕ
form_if_any None letter form = None
form_if_any (Some texts) letter form = form_in_file texts.1 letter form
