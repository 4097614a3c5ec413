-- The form is set among those that the letter has.
use Rattle.std.proofs.Common.{◌∙◌, ap}
use Rattle.std.specs.Prelude.{unwrap_or}
use Rattle.bx_ucd.specs.CodeMap.{value_in}
use Rattle.bx_ucd.proofs.FormLemmas.{set_form}
use Rattle.bx_ucd.proofs.forms.insert_form.Goals as goal

pub returns : goal.returns
returns c letter form =
    set_form c.args.entry letter form (value_in c.args.forms.now) c.none.result c.unwrap_or-known.result c.set.new.self _ c.none.ensures
    (c.unwrap_or-known.ensures ∙ ap (λ o. unwrap_or o c.none.result) c.get.ensures) c.set.ensures
    (c.in_ok-insert.ensures letter)
