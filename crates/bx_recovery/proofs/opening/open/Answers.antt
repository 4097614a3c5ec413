use Rattle.std.proofs.Common.{◌≡◌, ap, refl, subst, sym, ◌∙◌}
use Rattle.bx_ucd.specs.declared.tables.Tables.{Tables}
use Rattle.bx_session.specs.Feeding.{SessionState}
use Rattle.bx_recovery.proofs.TablesData.{ucd}
use Rattle.bx_recovery.proofs.Causes.{can_open, ran_out}
use Rattle.bx_recovery.proofs.Opened.{bytes_or_none, opened_is}
use Rattle.bx_command.specs.shared.Tables.{AreOfFiles}
use Rattle.bx_recovery.specs.Beginnings.{beginning_of, offset_of}
use Rattle.bx_recovery.specs.declared.fault.RecoveryFault.TheVariants.{OutOfMemory}
use Rattle.bx_recovery.proofs.opening.open.Goals as goal

pub returns-clause-tables : goal.returns-clause-tables
returns-clause-tables c =
    let b = c.args.beginning in
    let stays = ap (λ (s : SessionState Tables). s.tables) c.in_ok-session.ensures.ok in
    let kept = ap (λ (s : SessionState Tables). s.tables) c.in_ok-prepare.ensures.ok ∙ c.set.ensures.tables ∙ stays in
    subst (λ (t : Tables). AreOfFiles (ucd t) b.unicode.now) (sym kept) c.in_ok-tables.ensures.accepted

pub returns-clause-opens : goal.returns-clause-opens
returns-clause-opens c =
    let b = c.args.beginning in
    let text_is = bytes_or_none b.text c.new.result c.unwrap_or-text.result c.new.ensures.items c.unwrap_or-text.ensures in
    opened_is ucd c.in_ok-tables.tables c.in_ok-session.session c.set.new.self c.prepare.new.session _ (beginning_of b) c.offset_of-start.result
    c.in_ok-session.ensures.ok c.set.ensures.tables c.in_ok-set.ensures.ok c.in_ok-set.ensures.paints text_is
    (c.offset_of-start.ensures ∙ ap (λ text. offset_of text b.line) (c.as_slice.ensures.value ∙ text_is))
    c.in_ok-prepare.ensures.ok

pub returns-clause-openable : goal.returns-clause-openable
returns-clause-openable c =
    let b = c.args.beginning in
    let text_is = bytes_or_none b.text c.new.result c.unwrap_or-text.result c.new.ensures.items c.unwrap_or-text.ensures in
    can_open b _ text_is c.in_ok-tables.ensures.accepted.accepted c.in_ok-session.ensures.short c.in_ok-session.ensures.utf8

pub returns-in_err-set-clause-refused : goal.returns-in_err-set-clause-refused
returns-in_err-set-clause-refused c =
    let b = c.args.beginning in
    let text_is = bytes_or_none b.text c.new.result c.unwrap_or-text.result c.new.ensures.items c.unwrap_or-text.ensures in
    ran_out b c.from_residual-in_err-set.result _ c.from_residual-in_err-set.ensures.1 refl
    (can_open b _ text_is c.in_ok-tables.ensures.accepted.accepted c.in_ok-session.ensures.short c.in_ok-session.ensures.utf8)

pub returns-in_err-prepare-clause-refused : goal.returns-in_err-prepare-clause-refused
returns-in_err-prepare-clause-refused c =
    let b = c.args.beginning in
    let text_is = bytes_or_none b.text c.new.result c.unwrap_or-text.result c.new.ensures.items c.unwrap_or-text.ensures in
    let out : c.in_err-prepare.field-0.0 ≡ OutOfMemory = cc c.in_err-prepare.ensures.err in
    ran_out b c.from_residual-in_err-prepare.result _ c.from_residual-in_err-prepare.ensures.1 out
    (can_open b _ text_is c.in_ok-tables.ensures.accepted.accepted c.in_ok-session.ensures.short c.in_ok-session.ensures.utf8)
