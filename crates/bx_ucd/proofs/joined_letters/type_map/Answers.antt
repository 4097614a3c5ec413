-- One more entry is set.
use Rattle.std.proofs.Common.{◌∙◌}
use Rattle.bx_ucd.specs.CodeMap.{value_in}
use Rattle.bx_ucd.specs.Forms.{form_in_map}
use Rattle.bx_ucd.proofs.FormLemmas.{type_more}
use Rattle.bx_ucd.proofs.joined_letters.type_map.Goals as goal

pub loop-entry-preserved : goal.loop-entry-preserved
loop-entry-preserved c code =
    c.loop-entry.invariant code
    ∙ type_more c.args.entries.now c.loop-entry.entry-index _ code (form_in_map c.args.forms.now) c.has_form.result c.counted-joining.result
    (value_in c.loop-entry.types code) (value_in c.insert.new.self code) c.loop-entry-test.true
    c.has_form.ensures c.counted-joining.ensures (c.in_ok-insert.ensures code)
