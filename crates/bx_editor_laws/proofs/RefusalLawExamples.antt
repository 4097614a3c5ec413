-- Worked examples, each from a law of refusals alone.
use Rattle.std.proofs.Common.{◌≡◌, ℕ, zero, suc, ◌<◌, ◌≤◌, true, false, List, [], ◌∷◌, ◌++◌, take, IsUtf8, refl, sym, ap, ◌∙◌, arith}
use Rattle.std.specs.Prelude.{◌≢◌, codes, Option, Some, None}
use Rattle.std.specs.Fmt.{digits}
use Rattle.std.specs.Str.{chars, is_utf8}
use lib.Utf8.{encode}
use Rattle.std.specs.declared.io.ErrorKind.{ErrorKind}
use Rattle.std.specs.declared.io.ErrorKind.TheVariants as kinds
use Rattle.std.proofs.lemmas.Str.{IsUtf8-nil, is_utf8-from_IsUtf8}
use Rattle.ucd_case.proofs.Computing.{ucd_case}
use Rattle.unicode_normalization.proofs.Computing.{unicode_normalization}
use Rattle.unicode_segmentation.proofs.Computing.{unicode_segmentation}
use Rattle.unicode_width.proofs.Computing.{unicode_width}
use Rattle.bx_keys.specs.declared.key.Key.{Key}
use Rattle.bx_keys.specs.declared.key.Key.TheVariants.{Find, Quit, Save}
use Rattle.bx_store.specs.Stores.{cause_of_kind}
use Rattle.bx_store.specs.declared.cause.SaveCause.{SaveCause}
use Rattle.bx_store.specs.declared.cause.SaveCause.TheVariants.{NoSpace, Changed}
use Rattle.bx_ucd.specs.Data.{Data}
use Rattle.bx_editor.specs.Editor.{Editor, Causes}
use Rattle.bx_editor.specs.Keys.{after_key, is_edit_or_move, may_refuse}
use Rattle.bx_editor.specs.Status.{failed_text}
use Rattle.bx_editor.specs.declared.opening.OpenError.{OpenError}
use Rattle.bx_editor.specs.declared.opening.OpenError.TheVariants.{NotUtf8, SizeOutOfRange}
use Rattle.bx_editor_laws.specs.RefusalLaws.{KeepsTexts, KindsTellCauses, OpeningHasOneCause, RefusableChangeTexts, UnrefusedKeepTexts, WordsTellCauses}
use Rattle.bx_editor.proofs.Computed.{tables, start, after, letters}

-- ---- keys

-- x was typed before ab, and then a is sought
abbrev searched : Editor
searched = after (start (codes "ab") 2 40) (letters (codes "x") ++ Find ∷ letters (codes "a"))

pub quit_in_a_search_keeps_the_text : UnrefusedKeepTexts → (after searched (Quit ∷ [])).content.text ≡ codes "xab"
unfolding unicode_segmentation unicode_width digits unicode_normalization ucd_case
quit_in_a_search_keeps_the_text law = ap (λ c. c.text) (law.keeps tables None searched Quit refl).content_is

pub what_was_typed_can_be_saved : UnrefusedKeepTexts → may_refuse searched Save ≡ false
unfolding unicode_segmentation unicode_width digits unicode_normalization ucd_case
what_was_typed_can_be_saved law = law.saves searched refl

-- a key that keeps the texts of each editor is not refused outside a paste
pub no_other_key_is_refused : RefusableChangeTexts → (key : Key) → ((d : Data) (e : Editor) → e.pasted ≡ None → KeepsTexts e (after_key d None e key))
    → ¬ (is_edit_or_move key ≡ true)
no_other_key_is_refused law key keeps is = let some = law key is in some.changes (keeps some.tables _ some.settled)

-- so by both laws a Save is not
pub a_save_is_not_refused : UnrefusedKeepTexts → RefusableChangeTexts → ¬ (is_edit_or_move Save ≡ true)
a_save_is_not_refused unrefused refusable = no_other_key_is_refused refusable Save (λ d e none. unrefused.keeps d None e Save (unrefused.saves e none))

-- ---- the opening of a file

not_utf8 : (bytes : List ℕ) → is_utf8 bytes ≡ false → ¬ (IsUtf8 bytes)
not_utf8 bytes is utf8 = let e : true ≡ false = sym (is_utf8-from_IsUtf8 bytes utf8) ∙ is in cc e

-- a, FF and b are UTF-8 up to the a
longest_is_1 : (more : ℕ) → 1 < more → more ≤ 3 → ¬ (IsUtf8 (take more (0x61 ∷ 0xFF ∷ 0x62 ∷ [])))
unfolding chars is_utf8 encode
longest_is_1 zero above upto = absurd (omega (arith, above))
longest_is_1 (suc zero) above upto = absurd (omega (arith, above))
longest_is_1 (suc (suc zero)) above upto = not_utf8 (0x61 ∷ 0xFF ∷ []) refl
longest_is_1 (suc (suc (suc zero))) above upto = not_utf8 (0x61 ∷ 0xFF ∷ 0x62 ∷ []) refl
longest_is_1 (suc (suc (suc (suc more)))) above upto = absurd (omega (arith, upto))

-- in a window without rows too they are told as not UTF-8 behind the first byte, and as nothing else
pub a_bad_byte_is_told_alone : OpeningHasOneCause → (error : OpenError) → Causes (0x61 ∷ 0xFF ∷ 0x62 ∷ []) 0 80 error → error ≡ NotUtf8 1
unfolding encode
a_bad_byte_is_told_alone law error is =
    let one = law (0x61 ∷ 0xFF ∷ 0x62 ∷ []) 0 80 in
    let a_is_utf8 : IsUtf8 (0x61 ∷ []) = (0x61 ∷ [], (refl, refl)) in
    one.only error is ∙ sym (one.only (NotUtf8 1) (omega arith, omega arith, record { utf8 = a_is_utf8; longest = longest_is_1 }))

pub an_empty_file_needs_a_window : OpeningHasOneCause → (error : OpenError) → Causes [] 0 80 error → error ≡ SizeOutOfRange
an_empty_file_needs_a_window law error is =
    let one = law [] 0 80 in one.only error is ∙ sym (one.only SizeOutOfRange (omega arith, IsUtf8-nil, refl))

-- ---- saves that failed

pub no_space_is_told_alone : WordsTellCauses → (cause : Option SaveCause) → failed_text cause ≡ codes "save failed: no space" → cause ≡ Some NoSpace
no_space_is_told_alone law cause is = law cause (Some NoSpace) is

pub a_used_up_quota_is_a_full_disk : KindsTellCauses → cause_of_kind kinds.StorageFull ≡ cause_of_kind kinds.QuotaExceeded
a_used_up_quota_is_a_full_disk law = (law.apart kinds.StorageFull kinds.QuotaExceeded (λ is. cc is)).1 refl

pub a_missing_folder_is_no_full_disk : KindsTellCauses → cause_of_kind kinds.NotFound ≢ cause_of_kind kinds.StorageFull
a_missing_folder_is_no_full_disk law is = let e = (law.apart kinds.NotFound kinds.StorageFull (λ is. cc is)).0 is in cc e

pub no_fault_of_the_system_is_told_as_a_change : KindsTellCauses → (kind : ErrorKind) → cause_of_kind kind ≢ Changed
no_fault_of_the_system_is_told_as_a_change law kind is = let e : true ≡ false = (law.of_system Changed).1 (kind, is) in cc e
