use Rattle.std.proofs.Common.{◌<◌, ◌∙◌, subst, sym}
use Rattle.std.specs.Prelude.{IfSome}
use Rattle.bx_editor.proofs.questions_lemmas.Numbers.{digit-small}
use Rattle.bx_editor.proofs.questions.key_letters.code_letter.Goals as goal

pub ascii_digit-requires : goal.ascii_digit-requires
ascii_digit-requires c = subst (λ o. IfSome o (λ d. d < 10)) (sym c.digit_of.ensures ∙ c.in-Some.is) (digit-small c.args.c)
