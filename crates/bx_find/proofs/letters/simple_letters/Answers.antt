use Rattle.std.proofs.Common.{ℕ, List, ◌∙◌, ◌++◌, [], ◌∷◌, ap, ap₂, sym, if◌then◌else◌}
use Rattle.bx_find.specs.Short.{simple_letter}
use Rattle.bx_find.proofs.LettersOf.{simple}
use Rattle.bx_find.proofs.letters.simple_letters.Goals as goal

pub returns-then-not-is_passed_over : goal.returns-then-not-is_passed_over
returns-then-not-is_passed_over g c =
    let ucd = g.D.BidiData.data c.args.tables.now in
    c.push.ensures.items
    ∙ ap₂ (λ (ls : List ℕ) l. ls ++ l ∷ []) c.new-letters.ensures c.simple_letter.ensures
    ∙ sym (simple ucd c.args.reading c.args.c c.requires
    ∙ ap (λ passed. if passed then [] else simple_letter c.args.reading c.args.c ∷ []) (sym c.is_passed_over.ensures ∙ c.if-not-is_passed_over.true))

pub returns-else-not-is_passed_over : goal.returns-else-not-is_passed_over
returns-else-not-is_passed_over g c =
    let ucd = g.D.BidiData.data c.args.tables.now in
    c.new-letters.ensures
    ∙ sym (simple ucd c.args.reading c.args.c c.requires
    ∙ ap (λ passed. if passed then [] else simple_letter c.args.reading c.args.c ∷ []) (sym c.is_passed_over.ensures ∙ c.if-not-is_passed_over.false))
