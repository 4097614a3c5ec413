use Rattle.std.proofs.Common.{refl, subst, sym, arith}
use Rattle.std.specs.Prelude.{vec_capacity}
use Rattle.std.proofs.KnownBytes.{Appends-nil}
use Rattle.bx_session.specs.declared.journal.Backlog.{Backlog}
use Rattle.bx_session.specs.declared.journal.Backlog.TheVariants.{Empty}
use Rattle.bx_session.specs.Journal.{HasKept, HasTried}
use Rattle.bx_session.proofs.Recorded.{kept_new, tried_new}
use Rattle.bx_session.proofs.journal.append_to.Goals as goal

pub returns-in-Empty-clause-keeps : goal.returns-in-Empty-clause-keeps
returns-in-Empty-clause-keeps g c =
    subst (λ (k : Backlog). HasKept g.J.Journal.contents g.J.Journal.failure_count (record { journal = c.args.journal.now; backlog = k })
    (record { journal = c.append_new.new.journal; backlog = c.append_new.result }) c.args.bytes.now) (sym c.in-Empty.is)
    (kept_new g.J.Journal.contents g.J.Journal.failure_count (record { journal = c.args.journal.now; backlog = Empty })
    (record { journal = c.append_new.new.journal; backlog = c.append_new.result }) c.args.bytes.now (vec_capacity c.new.result) c.args.journal.now
    c.append_new.result refl (Appends-nil (g.J.Journal.contents c.args.journal.now)) refl c.append_new.ensures.appends refl)

pub returns-in-Empty-clause-tries : goal.returns-in-Empty-clause-tries
returns-in-Empty-clause-tries g c =
    subst (λ (k : Backlog). HasTried g.J.Journal.contents g.J.Journal.failure_count (record { journal = c.args.journal.now; backlog = k })
    (record { journal = c.append_new.new.journal; backlog = c.append_new.result }) c.args.bytes.now) (sym c.in-Empty.is)
    (tried_new g.J.Journal.contents g.J.Journal.failure_count (record { journal = c.args.journal.now; backlog = Empty })
    (record { journal = c.append_new.new.journal; backlog = c.append_new.result }) c.args.bytes.now (vec_capacity c.new.result) c.args.journal.now
    c.append_new.result refl (omega arith) (Appends-nil (g.J.Journal.contents c.args.journal.now)) refl c.append_new.ensures.appends refl)
