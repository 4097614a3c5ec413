use Rattle.std.proofs.Common.{◌∙◌, ◌+◌, false, get_or, ap, sym, arith}
use Rattle.bx_text.proofs.index_lemmas.Scans.{none_next, unflagged_from, found_there, none_there}
use Rattle.bx_text.proofs.index.scan.separator_in.Goals as goal

pub loop-at-init : goal.loop-at-init
loop-at-init g c =
    let flags = c.args.lead_bytes.now.may_separate in
    unflagged_from (g.D.BidiData.data c.args.tables.now) c.args.piece.now c.utf8.piece flags 0 c.next_lead-at.result c.requires
    (λ front d rest e l. absurd (omega arith))
    (λ i a b. ap (λ bs. get_or flags (get_or bs i 0) false) (sym c.as_bytes-bytes.ensures.value) ∙ c.next_lead-at.ensures.none_between i a b)

pub returns-in-Some : goal.returns-in-Some
returns-in-Some g c =
    found_there (g.D.BidiData.data c.args.tables.now) c.args.piece.now c.utf8.piece c.loop-at.at c.in-Some.c c.in-Some.ensures c.loop-at.invariant

pub loop-at-preserved : goal.loop-at-preserved
loop-at-preserved g c =
    let ucd = g.D.BidiData.data c.args.tables.now in
    let flags = c.args.lead_bytes.now.may_separate in
    unflagged_from ucd c.args.piece.now c.utf8.piece flags (c.loop-at.at + 1) c.next_lead-at-in-loop-at.result c.requires
    (none_next ucd c.args.piece.now c.utf8.piece c.loop-at.at c.loop-at.invariant c.in_default.ensures)
    (λ i a b. ap (λ bs. get_or flags (get_or bs i 0) false) (sym c.as_bytes-bytes.ensures.value) ∙ c.next_lead-at-in-loop-at.ensures.none_between i a b)

pub returns : goal.returns
returns g c =
    none_there (g.D.BidiData.data c.args.tables.now) c.args.piece.now c.utf8.piece c.loop-at.at
    (omega (arith, c.loop-at-test.false, c.as_bytes-bytes.ensures.len)) c.loop-at.invariant
