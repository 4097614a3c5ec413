use Rattle.std.proofs.Common.{◌++◌, ap, arith, drop, refl, subst, sym, take, take-append-drop, ◌∙◌, append_assoc}
use Rattle.std.specs.Prelude.{vec_capacity}
use Rattle.std.specs.Io.KnownBytes.{Appends}
use Rattle.bx_session.specs.declared.journal.Backlog.TheVariants.{Waiting}
use Rattle.bx_session.specs.Journal.{Holds}
use Rattle.bx_session.proofs.Recorded.{kept_new, kept_part, tried_new, tried_part}
use Rattle.bx_session.proofs.journal.append_waiting.Goals as goal

pub returns-in-Ok-clause-keeps : goal.returns-in-Ok-clause-keeps
returns-in-Ok-clause-keeps g c =
    kept_new g.J.Journal.contents g.J.Journal.failure_count (record { journal = c.args.journal.now; backlog = Waiting c.args.waiting })
    (record { journal = c.append_new.new.journal; backlog = c.append_new.result }) c.args.bytes.now (vec_capacity c.clear.new.self) c.append.new.self
    c.append_new.result refl
    (subst (Appends (g.J.Journal.contents c.args.journal.now) (g.J.Journal.contents c.append.new.self)) c.as_slice.ensures.value c.in-Ok.ensures.all)
    c.in-Ok.ensures.no_failure c.append_new.ensures.appends refl

pub returns-in-Err-clause-keeps : goal.returns-in-Err-clause-keeps
returns-in-Err-clause-keeps g c =
    let all = c.args.waiting.items in
    let n = c.in-Err.fault.written in
    kept_part g.J.Journal.contents g.J.Journal.failure_count (record { journal = c.args.journal.now; backlog = Waiting c.args.waiting })
    (record { journal = c.append.new.self; backlog = c.held.result }) c.args.bytes.now (vec_capacity c.drop_first.new.waiting) (take n all) (drop n all)
    c.args.bytes.now
    (ap (λ xs. xs ++ c.args.bytes.now) (sym (take-append-drop n all)) ∙ append_assoc (take n all) (drop n all) c.args.bytes.now)
    (omega arith)
    (subst (λ xs. Holds (vec_capacity c.drop_first.new.waiting) xs c.args.bytes.now c.held.result) c.drop_first.ensures.items c.held.ensures)
    (subst (λ xs. Appends (g.J.Journal.contents c.args.journal.now) (g.J.Journal.contents c.append.new.self) (take n xs)) c.as_slice.ensures.value
    c.in-Err.ensures.part) c.in-Err.ensures.failure refl

pub returns-in-Ok-clause-tries : goal.returns-in-Ok-clause-tries
returns-in-Ok-clause-tries g c =
    tried_new g.J.Journal.contents g.J.Journal.failure_count (record { journal = c.args.journal.now; backlog = Waiting c.args.waiting })
    (record { journal = c.append_new.new.journal; backlog = c.append_new.result }) c.args.bytes.now (vec_capacity c.clear.new.self) c.append.new.self
    c.append_new.result refl (omega arith)
    (subst (Appends (g.J.Journal.contents c.args.journal.now) (g.J.Journal.contents c.append.new.self)) c.as_slice.ensures.value c.in-Ok.ensures.all)
    c.in-Ok.ensures.no_failure c.append_new.ensures.appends refl

pub returns-in-Err-clause-tries : goal.returns-in-Err-clause-tries
returns-in-Err-clause-tries g c =
    let all = c.args.waiting.items in
    let n = c.in-Err.fault.written in
    tried_part g.J.Journal.contents g.J.Journal.failure_count (record { journal = c.args.journal.now; backlog = Waiting c.args.waiting })
    (record { journal = c.append.new.self; backlog = c.held.result }) c.args.bytes.now (vec_capacity c.drop_first.new.waiting) (take n all) (drop n all)
    c.args.bytes.now
    (ap (λ xs. xs ++ c.args.bytes.now) (sym (take-append-drop n all)) ∙ append_assoc (take n all) (drop n all) c.args.bytes.now)
    (omega arith)
    (subst (λ xs. Holds (vec_capacity c.drop_first.new.waiting) xs c.args.bytes.now c.held.result) c.drop_first.ensures.items c.held.ensures)
    (subst (λ xs. Appends (g.J.Journal.contents c.args.journal.now) (g.J.Journal.contents c.append.new.self) (take n xs)) c.as_slice.ensures.value
    c.in-Err.ensures.part) c.in-Err.ensures.failure refl
