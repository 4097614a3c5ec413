-- The failed calls of a store, and the words for their causes.
use Rattle.std.specs.Prelude.{ℕ, suc, ◌-◌, ◌^◌, min, Some, List, codes}
use Rattle.bx_store.specs.declared.faults.Faults.{Faults}
use Rattle.bx_store.specs.declared.store.StoreFault.{StoreFault}
use Rattle.bx_store.specs.declared.cause.SaveCause.{SaveCause}
use Rattle.bx_store.specs.declared.cause.SaveCause.TheVariants as cause

-- the greatest u64, at which counts of failures and calls stay
abbrev pub greatest : ℕ
greatest = 2 ^ 64 - 1

-- a saturating increment
abbrev pub one_more : ℕ → ℕ
one_more count = min greatest (suc count)

abbrev pub with_fault : StoreFault → Faults → Faults
with_fault fault faults = record { count = one_more faults.count; latest = Some fault }

-- the words for the status row
abbrev pub cause_text : SaveCause → List ℕ
cause_text cause.NoSpace = codes "no space"
cause_text cause.NotPermitted = codes "not permitted"
cause_text cause.FolderGone = codes "folder gone"
cause_text cause.ReadOnly = codes "read-only disk"
cause_text cause.TooLarge = codes "file too large"
cause_text cause.OutOfMemory = codes "out of memory"
cause_text cause.Changed = codes "file changed on disk"
cause_text cause.NotPlain = codes "not a plain file"
cause_text cause.CutOff = codes "file incomplete, its whole text is in a .bx file next to it"
cause_text cause.Other = codes "disk error"
cause_text cause.Exists = codes "file exists"
