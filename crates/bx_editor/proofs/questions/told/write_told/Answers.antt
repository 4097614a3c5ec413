use Rattle.std.proofs.Common.{◌∙◌, ◌++◌, ℕ, List, ap, chars, sym, string_bytes}
use Rattle.bx_editor.specs.questions.Told.{told_text}
use Rattle.bx_editor.proofs.questions_lemmas.OneMore.{no-chars}
use Rattle.bx_editor.proofs.questions_lemmas.Printable.{told-by-level}
use Rattle.bx_editor.proofs.questions.told.write_told.Goals as goal

pub returns-in_ok-push_level-in-None-clause-told : goal.returns-in_ok-push_level-in-None-clause-told
returns-in_ok-push_level-in-None-clause-told g c =
    let ucd = g.D.BidiData.data c.args.tables.now in
    c.in_ok-push_level-in-None.ensures.told
    ∙ ap (λ (cs : List ℕ). string_bytes c.args.line.now ++ told_text ucd cs c.args.level) (sym (no-chars c.args.unit.now c.in-None.ensures))

pub returns-in_ok-push_level-in-None-clause-printable : goal.returns-in_ok-push_level-in-None-clause-printable
returns-in_ok-push_level-in-None-clause-printable g c =
    told-by-level (g.D.BidiData.data c.args.tables.now) (chars c.args.unit.now) c.args.level c.in_ok-push_level-in-None.ensures.printable

pub returns-in_ok-push_level-in-Some-clause-printable : goal.returns-in_ok-push_level-in-Some-clause-printable
returns-in_ok-push_level-in-Some-clause-printable g c =
    told-by-level (g.D.BidiData.data c.args.tables.now) (chars c.args.unit.now) c.args.level c.in_ok-push_level-in-Some.ensures.printable
