use Rattle.std.proofs.Common.{◌++◌, ◌∙◌, List, ℕ, encode_utf8, ap, sym}
use Rattle.bx_rows.specs.cells.Units.{face}
use Rattle.bx_rows.specs.RowPicture.{is_own}
use Rattle.bx_rows.specs.Shown.{glyph_of}
use Rattle.bx_rows.proofs.Leveled.{joined_if_none, joined_if_own, joined_if_other}
use Rattle.bx_rows.proofs.joined_text.join_at.Goals as goal

pub returns-in_default : goal.returns-in_default
returns-in_default g c =
    joined_if_none (g.D.BidiData.data c.args.lines.now.tables.now) c.args.lines.now.w (glyph_of c.args.drawn.now) c.args.level c.args.letter _ c.shown_form.result
    c.if-level-eq0.false c.shown_form.ensures c.in_default.is

pub returns-then-is_own : goal.returns-then-is_own
returns-then-is_own g c =
    let text = c.in_ok-push.ensures.bytes ∙ ap (λ (bs : List ℕ). bs ++ encode_utf8 c.in-Some.shown) c.new-other.ensures.bytes in
    joined_if_own (g.D.BidiData.data c.args.lines.now.tables.now) c.args.lines.now.w (glyph_of c.args.drawn.now) c.args.level c.args.letter _ c.shown_form.result
    c.in-Some.shown _
    c.if-level-eq0.false c.shown_form.ensures c.in-Some.is text
    (ap (λ (t : List ℕ). is_own 1 (face (g.D.BidiData.data c.args.lines.now.tables.now) c.args.lines.now.w t)) (sym c.as_str.ensures.value)
    ∙ ap (is_own 1) (sym c.face.ensures) ∙ sym c.is_own.ensures ∙ c.if-is_own.true)

pub returns-else-is_own : goal.returns-else-is_own
returns-else-is_own g c =
    let text = c.in_ok-push.ensures.bytes ∙ ap (λ (bs : List ℕ). bs ++ encode_utf8 c.in-Some.shown) c.new-other.ensures.bytes in
    joined_if_other (g.D.BidiData.data c.args.lines.now.tables.now) c.args.lines.now.w (glyph_of c.args.drawn.now) c.args.level c.args.letter _ c.shown_form.result
    c.in-Some.shown _
    c.if-level-eq0.false c.shown_form.ensures c.in-Some.is text
    (ap (λ (t : List ℕ). is_own 1 (face (g.D.BidiData.data c.args.lines.now.tables.now) c.args.lines.now.w t)) (sym c.as_str.ensures.value)
    ∙ ap (is_own 1) (sym c.face.ensures) ∙ sym c.is_own.ensures ∙ c.if-is_own.false)
