use Rattle.std.proofs.Common.{Some, None, ap, sym, ◌∙◌, ◌≡◌}
use Rattle.bx_text.specs.index.Paragraphs.{is_separator}
use Rattle.bx_text.proofs.index_lemmas.Scans.{within_character, begins_there, none_found}
use Rattle.bx_text.proofs.index.scan.separator_at.Goals as goal

pub returns-then-not-is_char_boundary : goal.returns-then-not-is_char_boundary
returns-then-not-is_char_boundary g c =
    within_character (g.D.BidiData.data c.args.tables.now) c.args.piece.now c.utf8.piece c.args.at
    (λ b. let t = c.is_char_boundary.ensures.test.1 b in absurd (cc))

pub returns-in-Some : goal.returns-in-Some
returns-in-Some g c =
    begins_there (g.D.BidiData.data c.args.tables.now) c.args.piece.now c.utf8.piece c.args.at c.in-Some.c
    (c.is_char_boundary.ensures.test.0 cc) (sym c.in-Some.ensures) (sym c.separates.ensures ∙ c.if-separates.true)

pub returns-in_default : goal.returns-in_default
returns-in_default g c =
    none_found (g.D.BidiData.data c.args.tables.now) c.args.piece.now c.utf8.piece c.args.at (Some c.in-Some.c) c.in-Some.ensures
    (λ d e. let same : c.in-Some.c ≡ d = cc in ap (λ k. is_separator ((g.D.BidiData.data c.args.tables.now).class k)) (sym same) ∙ sym c.separates.ensures
    ∙ c.if-separates.false)

pub returns-in_default-2 : goal.returns-in_default-2
returns-in_default-2 g c =
    none_found (g.D.BidiData.data c.args.tables.now) c.args.piece.now c.utf8.piece c.args.at None c.in_default.ensures (λ d e. absurd (cc))
