-- Worked examples: which fault a refused opening tells, each from the law of first causes alone.
use Rattle.std.proofs.Common.{◌≡◌, ℕ, zero, suc, ◌<◌, true, false, List, [], ◌∷◌, Option, Some, None, ◌⊎◌, ⊎_elim, inl, inr, length}
use Rattle.std.proofs.Common.{take, IsUtf8, refl, sym, ap, subst, ◌∙◌, arith}
use Rattle.std.specs.Global.{Vec}
use Rattle.std.specs.Prelude.{◌&&◌, codes}
use Rattle.std.specs.Str.{chars, is_utf8}
use Rattle.std.proofs.lemmas.List.{take_all}
use Rattle.std.proofs.lemmas.Str.{is_utf8-from_IsUtf8}
use Rattle.bx_common.specs.Characters.{is_side, largest_text}
use Rattle.bx_grid.specs.Picture.{is_size}
use Rattle.bx_ucd.specs.ClassFile.{class_lines}
use Rattle.bx_ucd.specs.Lines.{first_refusal, no_memory_in}
use Rattle.bx_ucd.specs.Reading.{AcceptedBefore, JoiningTexts, bidi_refusal, refusal}
use Rattle.bx_ucd.specs.declared.error.Cause.TheVariants.{BadLine}
use Rattle.bx_ucd.specs.declared.error.UcdError.{UcdError}
use Rattle.bx_ucd.specs.declared.error.UcdFile.{UcdFile}
use Rattle.bx_ucd.specs.declared.error.UcdFile.TheVariants.{Classes, Brackets, Mirroring, Joining, Characters}
use Rattle.bx_command.specs.shared.Tables.{NoMemoryInTables, joining_texts, refused_line}
use Rattle.bx_command.specs.declared.shared.unicode.UnicodeFiles.{UnicodeFiles}
use Rattle.bx_store.specs.declared.faults.Faults.{Faults}
use Rattle.bx_editor.specs.Editor.{Causes}
use Rattle.bx_editor.specs.declared.opening.OpenError.{OpenError}
use Rattle.bx_editor.specs.declared.opening.OpenError.TheVariants as text
use Rattle.bx_recovery.specs.declared.beginning.Beginning.{Beginning}
use Rattle.bx_recovery.specs.declared.fault.RecoveryFault.{RecoveryFault}
use Rattle.bx_recovery.specs.declared.fault.RecoveryFault.TheVariants.{Tables, Open, Unwritten, OutOfMemory}
use Rattle.bx_recovery.specs.Beginnings.{bytes_of}
use Rattle.bx_recovery.specs.Refusals.{CanOpen, IsFirstCause, IsRecoveryCause}

-- ---- Unicode's files come before the text

-- with a refused line the fault is of the tables: that line, or a want of memory; nothing is told of the text
pub a_refused_line_comes_first : (b : Beginning) (line : UcdError) (fault : RecoveryFault) → refused_line b.unicode.now ≡ Some line
    → IsFirstCause b fault → (error : UcdError) × (fault ≡ Tables error) × ((error ≡ line) ⊎ NoMemoryInTables b.unicode.now error)
a_refused_line_comes_first b line (Tables error) is cause =
    (error, refl, ⊎_elim (λ told. let e : Some error ≡ Some line = sym told ∙ is in inl (cc e)) inr cause)
a_refused_line_comes_first b line (Open error) is cause = absurd (let e : None ≡ Some line = sym cause.0 ∙ is in cc e)
a_refused_line_comes_first b line Unwritten is cause = absurd cause
a_refused_line_comes_first b line OutOfMemory is cause = absurd (let e : None ≡ Some line = sym cause.accepted ∙ is in cc e)

-- the first line of the file of classes has no class
abbrev without_a_class : UcdError
without_a_class = record { file = Classes; line = 1; cause = BadLine }

refuses : (files : UnicodeFiles (Vec ℕ)) → files.classes.items ≡ codes "0041" → refused_line files ≡ Some without_a_class
refuses files is = ap (λ classes. refusal classes files.brackets.items files.mirroring.items (joining_texts files.joining)) is

never_accepted : (classes : List ℕ) → classes ≡ codes "0041" → first_refusal Classes (class_lines classes) ≡ None → ⊥
never_accepted classes is none =
    let e : Some without_a_class ≡ None = sym (ap (λ bytes. first_refusal Classes (class_lines bytes)) is) ∙ none in cc e

nor_with_more : (classes brackets mirroring : List ℕ) → classes ≡ codes "0041" → bidi_refusal classes brackets mirroring ≡ None → ⊥
nor_with_more classes brackets mirroring is none =
    let e : Some without_a_class ≡ None = sym (ap (λ bytes. bidi_refusal bytes brackets mirroring) is) ∙ none in cc e

-- no later file is read
only_classes_are_read : (file : UcdFile) (classes brackets mirroring : List ℕ) (texts : Option JoiningTexts) → classes ≡ codes "0041"
    → AcceptedBefore file classes brackets mirroring texts → file ≡ Classes
only_classes_are_read Classes classes brackets mirroring texts is before = refl
only_classes_are_read Brackets classes brackets mirroring texts is before = absurd (never_accepted classes is before)
only_classes_are_read Mirroring classes brackets mirroring texts is before = absurd (never_accepted classes is before.0)
only_classes_are_read Joining classes brackets mirroring None is before = absurd before
only_classes_are_read Joining classes brackets mirroring (Some texts) is before =
    absurd (nor_with_more classes brackets mirroring is before)
only_classes_are_read Characters classes brackets mirroring None is before = absurd before
only_classes_are_read Characters classes brackets mirroring (Some texts) is before =
    absurd (nor_with_more classes brackets mirroring is before.0)

-- A file of classes with the line 0041 alone, and a text that begins with FF: line 1 of the file of classes is told, or that memory
-- ran out while it was read.
pub a_bad_table_and_a_bad_text : (b : Beginning) (rest : List ℕ) (fault : RecoveryFault) → b.unicode.now.classes.items ≡ codes "0041"
    → bytes_of b.text ≡ 0xFF ∷ rest → IsFirstCause b fault
    → (fault ≡ Tables without_a_class) ⊎ (fault ≡ Tables (no_memory_in Classes))
a_bad_table_and_a_bad_text b rest fault is text_is cause =
    let found = a_refused_line_comes_first b without_a_class fault (refuses b.unicode.now is) cause in
    ⊎_elim (λ line. inl (found.1 ∙ ap Tables line))
    (λ out. let file = only_classes_are_read found.0.file _ _ _ _ is out.1 in inr (found.1 ∙ ap Tables (out.0 ∙ ap no_memory_in file)))
    found.2

-- ---- the text's length comes before its bytes, and its bytes before the window

-- a text that is too long is told as that, whether or not it is UTF-8
pub too_long_comes_before_not_utf8 : (b : Beginning) (error : OpenError) → largest_text < length (bytes_of b.text)
    → IsFirstCause b (Open error) → error ≡ text.TooLong
too_long_comes_before_not_utf8 b text.TooLong long cause = refl
too_long_comes_before_not_utf8 b (text.NotUtf8 n) long cause = absurd (omega (arith, long, cause.1.0))
too_long_comes_before_not_utf8 b text.SizeOutOfRange long cause = absurd (omega (arith, long, cause.1.0))
too_long_comes_before_not_utf8 b text.OutOfMemory long cause = absurd (omega (arith, long, cause.1.0))

not_utf8 : (bytes : List ℕ) → is_utf8 bytes ≡ false → IsUtf8 bytes → ⊥
not_utf8 bytes is utf8 = let e : true ≡ false = sym (is_utf8-from_IsUtf8 bytes utf8) ∙ is in cc e

-- the bytes FF and a are not UTF-8, nor is FF alone
bad_text : IsUtf8 (0xFF ∷ 0x61 ∷ []) → ⊥
unfolding chars is_utf8
bad_text = not_utf8 (0xFF ∷ 0x61 ∷ []) refl

bad_byte : IsUtf8 (0xFF ∷ []) → ⊥
unfolding chars is_utf8
bad_byte = not_utf8 (0xFF ∷ []) refl

at_the_first_byte : (error : OpenError) (height width : ℕ) → Causes (0xFF ∷ 0x61 ∷ []) height width error → error ≡ text.NotUtf8 0
at_the_first_byte text.TooLong height width cause = absurd (omega (arith, cause))
at_the_first_byte (text.NotUtf8 zero) height width cause = refl
at_the_first_byte (text.NotUtf8 (suc zero)) height width cause = absurd (bad_byte cause.2.utf8)
at_the_first_byte (text.NotUtf8 (suc (suc n))) height width cause = absurd (omega (arith, cause.1))
at_the_first_byte text.SizeOutOfRange height width cause = absurd (bad_text cause.1)
at_the_first_byte text.OutOfMemory height width cause = absurd (bad_text cause.1)

-- the bytes FF and a are told as not UTF-8 from the first byte on
pub a_bad_first_byte : (b : Beginning) (error : OpenError) → bytes_of b.text ≡ 0xFF ∷ 0x61 ∷ [] → IsFirstCause b (Open error)
    → error ≡ text.NotUtf8 0
a_bad_first_byte b error is cause = at_the_first_byte error b.rows b.cols (subst (λ bytes. Causes bytes b.rows b.cols error) is cause.1)

-- a session's start has a window of a size that is in range
pub the_window_is_never_told : (b : Beginning) → IsFirstCause b (Open text.SizeOutOfRange) → ⊥
the_window_is_never_told b cause =
    let fits : is_size b.rows b.cols ≡ true = ap (λ side. side && is_side b.cols) b.has_rows ∙ b.has_cols in
    let e : true ≡ false = sym fits ∙ cause.1.2 in cc e

-- ---- where nothing is in the way, only a want of memory is told

abbrev IsMemory : Beginning → RecoveryFault → Type 0
IsMemory b (Tables error) = NoMemoryInTables b.unicode.now error
IsMemory b (Open error) = error ≡ text.OutOfMemory
IsMemory b Unwritten = ⊥
IsMemory b OutOfMemory = Unit {0}

nothing_but_memory : (b : Beginning) (error : OpenError) → CanOpen b → Causes (bytes_of b.text) b.rows b.cols error
    → error ≡ text.OutOfMemory
nothing_but_memory b text.TooLong can cause = absurd (omega (arith, can.text.short, cause))
nothing_but_memory b (text.NotUtf8 n) can cause =
    let bytes = bytes_of b.text in
    let whole : IsUtf8 (take (length bytes) bytes) = subst IsUtf8 (sym (take_all (length bytes) bytes (omega arith))) can.text.utf8 in
    absurd (cause.2.longest (length bytes) cause.1 (omega arith) whole)
nothing_but_memory b text.SizeOutOfRange can cause = absurd (the_window_is_never_told b (can.accepted, cause))
nothing_but_memory b text.OutOfMemory can cause = refl

pub only_memory_is_told : (b : Beginning) (fault : RecoveryFault) → CanOpen b → IsFirstCause b fault → IsMemory b fault
only_memory_is_told b (Tables error) can cause =
    ⊎_elim (λ told. absurd (let e : Some error ≡ None = sym told ∙ can.accepted in cc e)) (λ out. out) cause
only_memory_is_told b (Open error) can cause = nothing_but_memory b error can cause.1
only_memory_is_told b Unwritten can cause = absurd cause
only_memory_is_told b OutOfMemory can cause = tt

-- ---- recovery

-- a text that is not UTF-8 is not told as not written, and no call of the store has failed
pub a_bad_text_is_not_stored : (b : Beginning) (faults faults' : Faults) (fault : RecoveryFault) → bytes_of b.text ≡ 0xFF ∷ 0x61 ∷ []
    → IsRecoveryCause b faults faults' fault → faults' ≡ faults
a_bad_text_is_not_stored b faults faults' (Tables error) is cause = cause.1
a_bad_text_is_not_stored b faults faults' (Open error) is cause = cause.1
a_bad_text_is_not_stored b faults faults' Unwritten is cause = absurd (bad_text (subst IsUtf8 is cause.0.text.utf8))
a_bad_text_is_not_stored b faults faults' OutOfMemory is cause = cause.1
