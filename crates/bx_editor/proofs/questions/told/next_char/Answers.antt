use Rattle.std.proofs.Common.{◌∙◌, ℕ, List, drop, ap, sym}
use Rattle.std.specs.Prelude.{slice_get}
use Rattle.bx_editor.proofs.questions_lemmas.OneMore.{no-chars}
use Rattle.bx_editor.proofs.questions.told.next_char.Goals as goal

pub returns-in-None-clause-first : goal.returns-in-None-clause-first
returns-in-None-clause-first c = sym (ap (λ (cs : List ℕ). slice_get cs 0) (no-chars c.args.text.now c.in-None.ensures))

pub returns-in-None-clause-others : goal.returns-in-None-clause-others
returns-in-None-clause-others c =
    let none = no-chars c.args.text.now c.in-None.ensures in
    none ∙ sym (ap (λ (cs : List ℕ). drop 1 cs) none)
