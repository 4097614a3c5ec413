-- Which faults of the system have one cause.
use Rattle.std.proofs.Common.{◌≡◌, false, refl, sym, ap, ◌∙◌}
use Rattle.std.specs.Prelude.{◌≢◌}
use Rattle.std.specs.declared.io.ErrorKind.{ErrorKind}
use Rattle.std.specs.declared.io.ErrorKind.TheVariants as kinds
use Rattle.bx_store.specs.Stores.{cause_of_kind}
use Rattle.bx_store.specs.declared.cause.SaveCause.{SaveCause}
use Rattle.bx_store.specs.declared.cause.SaveCause.TheVariants.{NoSpace, NotPermitted, FolderGone, ReadOnly, TooLarge, OutOfMemory, Changed, NotPlain}
use Rattle.bx_store.specs.declared.cause.SaveCause.TheVariants.{CutOff, Exists, Other}
use Rattle.bx_editor_laws.specs.RefusalLaws.{KindsTellCauses, as_seen, is_of_host}

-- ---- which causes they have

of-kind : (kind : ErrorKind) → is_of_host (cause_of_kind kind) ≡ false
of-kind kinds.StorageFull = refl
of-kind kinds.QuotaExceeded = refl
of-kind kinds.PermissionDenied = refl
of-kind kinds.NotFound = refl
of-kind kinds.NotADirectory = refl
of-kind kinds.ReadOnlyFilesystem = refl
of-kind kinds.FileTooLarge = refl
of-kind kinds.OutOfMemory = refl
of-kind kinds.AlreadyExists = refl
of-kind kind = refl

some-kind : (cause : SaveCause) → is_of_host cause ≡ false → (kind : ErrorKind) × (cause_of_kind kind ≡ cause)
some-kind NoSpace is = (kinds.StorageFull, refl)
some-kind NotPermitted is = (kinds.PermissionDenied, refl)
some-kind FolderGone is = (kinds.NotFound, refl)
some-kind ReadOnly is = (kinds.ReadOnlyFilesystem, refl)
some-kind TooLarge is = (kinds.FileTooLarge, refl)
some-kind OutOfMemory is = (kinds.OutOfMemory, refl)
some-kind Changed is = absurd (cc is)
some-kind NotPlain is = absurd (cc is)
some-kind CutOff is = absurd (cc is)
some-kind Exists is = (kinds.AlreadyExists, refl)
some-kind Other is = (kinds.Other, refl)

-- ---- which have one cause

-- what a user sees, by the cause
abbrev seen_by : SaveCause → ErrorKind
seen_by NoSpace = kinds.StorageFull
seen_by NotPermitted = kinds.PermissionDenied
seen_by FolderGone = kinds.NotFound
seen_by ReadOnly = kinds.ReadOnlyFilesystem
seen_by TooLarge = kinds.FileTooLarge
seen_by OutOfMemory = kinds.OutOfMemory
seen_by Exists = kinds.AlreadyExists
seen_by _ = kinds.Other

back : (kind : ErrorKind) → cause_of_kind kind ≢ Other → seen_by (cause_of_kind kind) ≡ as_seen kind
back kinds.StorageFull known = refl
back kinds.QuotaExceeded known = refl
back kinds.PermissionDenied known = refl
back kinds.NotFound known = refl
back kinds.NotADirectory known = refl
back kinds.ReadOnlyFilesystem known = refl
back kinds.FileTooLarge known = refl
back kinds.OutOfMemory known = refl
back kinds.AlreadyExists known = refl
back kind known = absurd (known refl)

by-seen : (kind : ErrorKind) → cause_of_kind (as_seen kind) ≡ cause_of_kind kind
by-seen kinds.QuotaExceeded = refl
by-seen kinds.NotADirectory = refl
by-seen kind = refl

pub kinds-tell-causes : KindsTellCauses
kinds-tell-causes = record {
  of_system = λ cause. (some-kind cause, λ told. ap is_of_host (sym told.1) ∙ of-kind told.0);
  apart = λ one other known. (
    λ same. sym (back one known) ∙ ap seen_by same ∙ back other (λ is. known (same ∙ is)),
    λ same. sym (by-seen one) ∙ ap cause_of_kind same ∙ by-seen other,
  );
}
