-- One more entry is set.
use Rattle.std.proofs.Common.{◌∙◌}
use Rattle.bx_ucd.specs.Forms.{form_in_map}
use Rattle.bx_ucd.proofs.FormLemmas.{form_more}
use Rattle.bx_ucd.proofs.forms.form_map.Goals as goal

pub loop-entry-preserved : goal.loop-entry-preserved
loop-entry-preserved c letter form =
    c.loop-entry.invariant letter form
    ∙ form_more c.args.entries.now c.loop-entry.entry-index _ letter form (form_in_map c.loop-entry.forms letter form) _ c.loop-entry-test.true
    (c.in_ok-insert_form.ensures letter form)
