-- The types that were stored count as the lines say, and no accepted line gives a control as a form.
use Rattle.std.proofs.Common.{ap, sym, ◌∙◌}
use Rattle.bx_ucd.specs.CodeMap.{value_in}
use Rattle.bx_ucd.specs.Forms.{form_in_map}
use Rattle.bx_ucd.specs.Joining.{counted_by_lines}
use Rattle.bx_ucd.specs.JoiningFile.{joining_lines}
use Rattle.bx_ucd.specs.Lines.{entries}
use Rattle.bx_ucd.specs.Reading.{form_in_file}
use Rattle.bx_ucd.proofs.FormLaws.{no_form_is_control}
use Rattle.bx_ucd.proofs.FormLemmas.{types_are}
use Rattle.bx_ucd.proofs.joined_letters.JoinedLetters.read.Goals as goal

pub invariant_of-result : goal.invariant_of-result
invariant_of-result c = record {
  no_control = λ letter form m is. no_form_is_control c.args.characters.now letter form m (sym (c.in_ok-forms.ensures.answers letter form) ∙ is);
}

pub returns-in-Ok-clause-joining : goal.returns-in-Ok-clause-joining
returns-in-Ok-clause-joining c class code =
    types_are (entries (joining_lines c.args.joining.now)) (form_in_map c.in_ok-forms.forms) (form_in_file c.args.characters.now) class code
    (value_in c.in-Ok.types code)
    (c.in-Ok.ensures code ∙ ap (λ es. counted_by_lines es (form_in_map c.in_ok-forms.forms) code) (c.deref.ensures.value ∙ c.in_ok-entries.ensures.entries))
    (c.in_ok-forms.ensures.answers code)
