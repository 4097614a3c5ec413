use Rattle.std.proofs.Common.{◌+◌, ◌∙◌, ap₂, subst}
use Rattle.bx_paragraph.specs.Slots.{reading_start}
use Rattle.bx_view.specs.FoundRow.{IsNext, StandsOn}
use Rattle.bx_view.specs.Moves.{place_in}
use Rattle.bx_view.proofs.Beyond.{no-start, some-start}
use Rattle.bx_view.proofs.moves.visual.start_after.Goals as goal

pub returns-in_default-clause-place : goal.returns-in_default-clause-place
returns-in_default-clause-place g c = λ n on.
    let ucd = g.D.BidiData.data c.args.text_ref.now.tables.now in
    let text = c.args.text_ref.now.text.now.edited.text in
    no-start ucd c.args.view.now c.next_row.new.self text c.next_row.ensures.keeps n
    (subst (IsNext ucd c.next_row.new.self text n) c.in_default.is (c.in_ok-there.ensures.next n on))

pub row-requires : goal.row-requires
row-requires g c =
    let ucd = g.D.BidiData.data c.args.text_ref.now.tables.now in
    let text = c.args.text_ref.now.text.now.edited.text in
    let row = c.requires.row in
    let there : StandsOn ucd c.next_row.new.self text c.in-Some.there (row.0 + 1) =
    subst (IsNext ucd c.next_row.new.self text row.0) c.in-Some.is (c.in_ok-there.ensures.next row.0 row.1) in
    record { row = (row.0 + 1, there) }

pub returns-clause-place : goal.returns-clause-place
returns-clause-place g c = λ n on.
    let ucd = g.D.BidiData.data c.args.text_ref.now.tables.now in
    let text = c.args.text_ref.now.text.now.edited.text in
    let there : StandsOn ucd c.next_row.new.self text c.in-Some.there (n + 1) =
    subst (IsNext ucd c.next_row.new.self text n) c.in-Some.is (c.in_ok-there.ensures.next n on) in
    some-start ucd c.args.view.now c.next_row.new.self text c.next_row.ensures.keeps n c.in-Some.there c.in_ok-place.place
    c.args.text_ref.now.utf8 there
    (c.in_ok-place.ensures ∙ ap₂ (λ w r. place_in r (reading_start w r.row)) c.row.ensures.columns (c.row.ensures.row (n + 1) there))
