-- No forms, so none that is a control.
use Rattle.std.proofs.Common.{◌≡◌, ap, sym, ◌∙◌, Some, None}
use Rattle.bx_ucd.specs.Forms.{form_if_any}
use Rattle.bx_ucd.proofs.joined_letters.JoinedLetters.none.Goals as goal

pub invariant_of-result : goal.invariant_of-result
invariant_of-result c = record {
  no_control = λ letter form m is. let clash : None ≡ Some m = sym (ap (λ o. form_if_any o form) (c.in_ok-forms.ensures letter)) ∙ is in cc;
}
