use Rattle.std.proofs.Common.{◌++◌, ap, refl, subst, sym, take, take-append-drop, ◌∙◌}
use Rattle.std.specs.Io.KnownBytes.{Appends}
use Rattle.bx_session.specs.declared.journal.Backlog.TheVariants.{Lost}
use Rattle.bx_session.proofs.Recorded.{kept_last}
use Rattle.bx_session.proofs.journal.append_last.Goals as goal

pub returns-in-Err-clause-keeps : goal.returns-in-Err-clause-keeps
returns-in-Err-clause-keeps g c =
    let all = c.args.waiting.items in
    let n = c.in-Err.fault.written in
    kept_last g.J.Journal.contents g.J.Journal.failure_count (record { journal = c.args.journal.now; backlog = Lost c.args.waiting })
    (record { journal = c.append.new.self; backlog = Lost c.drop_first.new.waiting }) c.args.bytes.now 1 (take n all) refl refl
    (sym (take-append-drop n all) ∙ ap (λ xs. take n all ++ xs) (sym c.drop_first.ensures.items))
    (subst (λ xs. Appends (g.J.Journal.contents c.args.journal.now) (g.J.Journal.contents c.append.new.self) (take n xs)) c.as_slice.ensures.value
    c.in-Err.ensures.part) c.in-Err.ensures.failure
