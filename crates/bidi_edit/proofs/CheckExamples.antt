-- Worked examples: what `--check` answers, each from the law of its answers alone.
use Rattle.std.specs.Global.{Vec}
use Rattle.std.proofs.Common.{◌≡◌, ℕ, zero, suc, ◌<◌, List, [], ◌∷◌, Option, None, Some, Result, Ok, Err, length, IsUtf8}
use Rattle.std.proofs.Common.{refl, ap, subst, ◌∙◌, arith}
use Rattle.std.specs.Char.{encode_utf8}
use Rattle.std.specs.Str.{IsValidUpTo}
use Rattle.std.specs.declared.io.ErrorKind.{ErrorKind}
use Rattle.std.specs.declared.io.ErrorKind.TheVariants as kinds
use Rattle.bx_common.specs.Characters.{largest_text}
use Rattle.bx_command.specs.declared.shared.files.FileFault.{FileFault}
use Rattle.bx_command.specs.shared.Files.{ReadsText, for_text}
use Rattle.bx_command.specs.Check.{Refuses, line_of}
use Rattle.bx_command.specs.declared.check.TextFault.{TextFault}
use Rattle.bx_command.specs.declared.check.TextFault.TheVariants.{NotUtf8, TooLong}
use Rattle.bx_recovery.specs.Beginnings.{bytes_of}
use Rattle.bidi_edit.specs.declared.fault.ProgramFault.{ProgramFault}
use Rattle.bidi_edit.specs.declared.fault.ProgramFault.TheVariants as fault
use Rattle.bidi_edit.specs.Check.{Checks, IsChecked}

-- a FILE that is told as too long was read, and is
pub what_is_too_long_was_read : (answers : List ℕ → Option ℕ → Result (List ℕ) ErrorKind → Type 0) (path : List ℕ) (checked : IsChecked answers path (Err (fault.Text TooLong)))
    → (text : Option (Vec ℕ)) × (checked.read ≡ Ok text) × (largest_text < length (bytes_of text))
what_is_too_long_was_read answers path checked = of_read checked.read checked.checks where
  of_read : (read : Result (Option (Vec ℕ)) FileFault) → Checks read (Err (fault.Text TooLong))
      → (text : Option (Vec ℕ)) × (read ≡ Ok text) × (largest_text < length (bytes_of text))
  of_read (Err unread) answers = absurd (cc answers)
  of_read (Ok text) answers = (text, refl, answers)

-- a FILE that cannot be read for another cause than that nothing has its path is not accepted
pub an_unreadable_file_is_refused : (answers : List ℕ → Option ℕ → Result (List ℕ) ErrorKind → Type 0) (path : List ℕ)
    → ((outcome : Result (List ℕ) ErrorKind) → answers path (for_text answers) outcome → outcome ≡ Err kinds.PermissionDenied) → IsChecked answers path (Ok tt) → ⊥
an_unreadable_file_is_refused answers path denied checked = of_read checked.read checked.reads checked.checks where
  of_read : (read : Result (Option (Vec ℕ)) FileFault) → ReadsText answers path read → Checks read (Ok tt) → ⊥
  of_read (Ok None) reads checks = cc (denied (Err kinds.NotFound) reads)
  of_read (Ok (Some bytes)) reads checks = cc (denied (Ok bytes.items) reads)
  of_read (Err fault) reads checks = cc checks

-- a text that is too long is told as that, whether or not it is UTF-8
pub too_long_comes_before_not_utf8 : (text : Option (Vec ℕ)) (cause : TextFault) → largest_text < length (bytes_of text)
    → Checks (Ok text) (Err (fault.Text cause)) → cause ≡ TooLong
too_long_comes_before_not_utf8 text TooLong long answers = refl
too_long_comes_before_not_utf8 text (NotUtf8 line) long answers = absurd (omega (arith, long, answers.0))

-- a FILE that does not exist can be opened
pub no_file_is_accepted : (answer : Result (Unit {0}) ProgramFault) → Checks (Ok None) answer → answer ≡ Ok tt
no_file_is_accepted (Ok done) answers = refl
no_file_is_accepted (Err (fault.Text TooLong)) answers = absurd (omega (arith, answers))
no_file_is_accepted (Err (fault.Text (NotUtf8 line))) answers = absurd (omega (arith, answers.1.valid.short))
no_file_is_accepted (Err (fault.Tables error)) answers = absurd answers
no_file_is_accepted (Err (fault.File unread)) answers = absurd answers
no_file_is_accepted (Err (fault.Open error)) answers = absurd answers
no_file_is_accepted (Err (fault.Run cause)) answers = absurd answers
no_file_is_accepted (Err fault.Unsaved) answers = absurd answers
no_file_is_accepted (Err fault.Unwritten) answers = absurd answers
no_file_is_accepted (Err fault.Untold) answers = absurd answers
no_file_is_accepted (Err fault.OutOfMemory) answers = absurd answers

-- the letter a and a line feed, and then FF
abbrev text : List ℕ
text = 0x61 ∷ 0x0A ∷ 0xFF ∷ []

one_byte_more : IsUtf8 (0x61 ∷ [])
unfolding encode_utf8
one_byte_more = (0x61 ∷ [], (refl, refl))

two_bytes_more : IsUtf8 (0x61 ∷ 0x0A ∷ [])
unfolding encode_utf8
two_bytes_more = (0x61 ∷ 0x0A ∷ [], (refl, refl))

behind_two : (front : ℕ) → IsValidUpTo text front → front ≡ 2
behind_two zero valid = absurd (valid.longest 1 (omega arith) one_byte_more)
behind_two (suc zero) valid = absurd (valid.longest 2 (omega arith) two_bytes_more)
behind_two (suc (suc zero)) valid = refl
behind_two (suc (suc (suc n))) valid = absurd (omega (arith, valid.short))

in_the_second : (cause : TextFault) → Refuses text cause → cause ≡ NotUtf8 2
in_the_second TooLong refused = absurd (omega (arith, refused))
in_the_second (NotUtf8 line) refused = ap NotUtf8 (refused.1.is_line ∙ ap (line_of text) (behind_two refused.1.front refused.1.valid))

-- it is told as not UTF-8 in the second line
pub a_bad_second_line : (read : Option (Vec ℕ)) (cause : TextFault) → bytes_of read ≡ text → Checks (Ok read) (Err (fault.Text cause))
    → cause ≡ NotUtf8 2
a_bad_second_line read cause is answers = in_the_second cause (subst (λ bytes. Refuses bytes cause) is answers)
