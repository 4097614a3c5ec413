use Rattle.std.proofs.Common.{◌∷◌, [], List, ℕ, IsUtf8, chars, subst}
use Rattle.bx_rows.specs.joining.JoinedText.{AreFormless}
use Rattle.bx_rows.proofs.Leveled.{formless-shown}
use Rattle.bx_rows.proofs.mirrors.mirror_at.Goals as goal

pub returns-in_ok-mirror_text-clause-formless : goal.returns-in_ok-mirror_text-clause-formless
returns-in_ok-mirror_text-clause-formless g c none form =
    let ucd = g.D.BidiData.data c.args.tables.now in
    let bytes = c.as_str-text.ensures.value in
    formless-shown ucd c.args.w 1 c.args.level (form ∷ []) _ (subst IsUtf8 bytes c.as_str-text.utf8)
    (subst (λ (t : List ℕ). AreFormless ucd (chars t)) bytes (c.has_forms-joins.ensures none))

pub returns-else-has_mirror-clause-formless : goal.returns-else-has_mirror-clause-formless
returns-else-has_mirror-clause-formless g c none form =
    let ucd = g.D.BidiData.data c.args.tables.now in
    let bytes = c.as_str-text.ensures.value in
    formless-shown ucd c.args.w 1 c.args.level (form ∷ []) _ (subst IsUtf8 bytes c.as_str-text.utf8)
    (subst (λ (t : List ℕ). AreFormless ucd (chars t)) bytes (c.has_forms-joins.ensures none))
