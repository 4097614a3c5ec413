-- Where a text is stored, as the code tells it.
use Rattle.bx_editor.specs.declared.saving.Saving.{Saving as Told}
use Rattle.bx_editor.specs.declared.saving.Saving.TheVariants as told
use Rattle.bx_editor.specs.Saving.{Saving, Own, Under, Over}

-- the same, with a name's bytes in place of their borrow
abbrev pub saving_state : Told → Saving
saving_state told.Own = Own
saving_state (told.Under name) = Under name.now
saving_state told.Over = Over
