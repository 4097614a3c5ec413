-- Two messages have the same words only if they are the same.
use Rattle.std.proofs.Common.{◌≡◌, List, [], ◌∷◌, ◌++◌, map, refl, sym, ap, ◌∙◌, if◌then◌else◌}
use Rattle.std.specs.Prelude.{◌≢◌, ℕ, Option, Some, None, bytes_eq}
use Rattle.bx_common.specs.declared.base.Base.TheVariants.{Auto, Ltr, Rtl}
use Rattle.bx_keys.specs.declared.notice.Notice as told
use Rattle.bx_keys.specs.declared.notice.Notice.TheVariants as notices
use Rattle.bx_store.specs.declared.cause.SaveCause.{SaveCause}
use Rattle.bx_store.specs.declared.cause.SaveCause.TheVariants as causes
use Rattle.bx_editor.specs.declared.message.Message.{Message}
use Rattle.bx_editor.specs.declared.message.Message.TheVariants.{Saved, SaveFailed, TextFull, NothingToUndo, NothingToRedo, Unsaved, Direction}
use Rattle.bx_editor.specs.declared.message.Message.TheVariants.{MarkSet, MarkOff, Copied, LineCopied, Cut, NothingToCopy, NothingToPut, FromStart}
use Rattle.bx_editor.specs.declared.message.Message.TheVariants.{FromEnd, NoLetter, NotFound, ViewOnly, Help, MoreHelp, MoreThanOneLine, NoSuchCharacter, Pasting}
use Rattle.bx_editor.specs.declared.message.Message.TheVariants.{Replaced, Told, TooLongForClipboard, Notice}
use Rattle.bx_editor.specs.Status.{failed_text, message_text}
use Rattle.bx_editor_laws.specs.RefusalLaws.{WordsTellCauses, WordsTellMessages, without_number}

-- ---- all messages

abbrev of_text : List Message
of_text = Saved ∷ TextFull ∷ NothingToUndo ∷ NothingToRedo ∷ Unsaved ∷ Pasting ∷ MoreThanOneLine ∷ NoSuchCharacter ∷ ViewOnly ∷ []

abbrev of_region : List Message
of_region = MarkSet ∷ MarkOff ∷ Copied ∷ LineCopied ∷ NothingToCopy ∷ NothingToPut ∷ TooLongForClipboard ∷ []

abbrev of_search : List Message
of_search = FromStart ∷ FromEnd ∷ NotFound ∷ NoLetter ∷ Replaced 0 ∷ []

abbrev of_user : List Message
of_user = Help ∷ MoreHelp ∷ map Direction (Auto ∷ Ltr ∷ Rtl ∷ [])

abbrev system_causes : List SaveCause
system_causes =
    causes.NoSpace ∷ causes.NotPermitted ∷ causes.FolderGone ∷ causes.ReadOnly ∷ causes.TooLarge ∷ causes.OutOfMemory ∷ causes.Other ∷ []

abbrev host_causes : List SaveCause
host_causes = causes.Changed ∷ causes.NotPlain ∷ causes.CutOff ∷ causes.Exists ∷ []

abbrev of_saves : List Message
of_saves = map SaveFailed (None ∷ map Some (system_causes ++ host_causes))

abbrev kept_less : List told.Notice
kept_less = notices.NoSpace ∷ notices.FolderGone ∷ notices.NotPermitted ∷ notices.ReadOnly ∷ notices.Unkept ∷ []

abbrev other_notices : List told.Notice
other_notices = notices.KeptAgain ∷ notices.Recovered ∷ notices.RecoveredAside ∷ notices.InPlace ∷ []

abbrev every_message : List Message
every_message = of_text ++ of_region ++ of_search ++ of_user ++ of_saves ++ map Notice (kept_less ++ other_notices)

-- ---- each is found by its words

-- the first of these messages that has these words
abbrev message_in : List Message → List ℕ → Option Message
message_in [] words = None
message_in (message ∷ more) words = if bytes_eq (message_text message) words then Some message else message_in more words

found : (message : Message) → message_text message ≢ [] → message_in every_message (message_text message) ≡ Some (without_number message)
found Saved some = refl
found TextFull some = refl
found NothingToUndo some = refl
found NothingToRedo some = refl
found Unsaved some = refl
found MarkSet some = refl
found MarkOff some = refl
found Copied some = refl
found LineCopied some = refl
found NothingToCopy some = refl
found NothingToPut some = refl
found FromStart some = refl
found FromEnd some = refl
found NotFound some = refl
found Help some = refl
found MoreHelp some = refl
found MoreThanOneLine some = refl
found NoSuchCharacter some = refl
found Pasting some = refl
found TooLongForClipboard some = refl
found Told some = absurd (some refl)
found Cut some = absurd (some refl)
found ViewOnly some = refl
found NoLetter some = refl
found (Replaced n) some = refl
found (Direction Auto) some = refl
found (Direction Ltr) some = refl
found (Direction Rtl) some = refl
found (SaveFailed None) some = refl
found (SaveFailed (Some causes.NoSpace)) some = refl
found (SaveFailed (Some causes.NotPermitted)) some = refl
found (SaveFailed (Some causes.FolderGone)) some = refl
found (SaveFailed (Some causes.ReadOnly)) some = refl
found (SaveFailed (Some causes.TooLarge)) some = refl
found (SaveFailed (Some causes.OutOfMemory)) some = refl
found (SaveFailed (Some causes.Changed)) some = refl
found (SaveFailed (Some causes.NotPlain)) some = refl
found (SaveFailed (Some causes.CutOff)) some = refl
found (SaveFailed (Some causes.Exists)) some = refl
found (SaveFailed (Some causes.Other)) some = refl
found (Notice notices.NoSpace) some = refl
found (Notice notices.FolderGone) some = refl
found (Notice notices.NotPermitted) some = refl
found (Notice notices.ReadOnly) some = refl
found (Notice notices.Unkept) some = refl
found (Notice notices.KeptAgain) some = refl
found (Notice notices.Recovered) some = refl
found (Notice notices.RecoveredAside) some = refl
found (Notice notices.InPlace) some = refl

same-message : (one other : Message) → Some one ≡ Some other → one ≡ other
same-message one other same = cc same

pub words-tell-messages : WordsTellMessages
words-tell-messages one other some same =
    same-message (without_number one) (without_number other)
    (sym (found one some) ∙ ap (message_in every_message) same ∙ found other (λ none. some (same ∙ none)))

-- ---- a failed save

abbrev cause_told : Message → Option SaveCause
cause_told (SaveFailed cause) = cause
cause_told _ = None

failed-some : (cause : Option SaveCause) → failed_text cause ≢ []
failed-some None none = cc none
failed-some (Some causes.NoSpace) none = cc none
failed-some (Some causes.NotPermitted) none = cc none
failed-some (Some causes.FolderGone) none = cc none
failed-some (Some causes.ReadOnly) none = cc none
failed-some (Some causes.TooLarge) none = cc none
failed-some (Some causes.OutOfMemory) none = cc none
failed-some (Some causes.Changed) none = cc none
failed-some (Some causes.NotPlain) none = cc none
failed-some (Some causes.CutOff) none = cc none
failed-some (Some causes.Exists) none = cc none
failed-some (Some causes.Other) none = cc none

pub words-tell-causes : WordsTellCauses
words-tell-causes one other same = ap cause_told (words-tell-messages (SaveFailed one) (SaveFailed other) (failed-some one) same)
