use Rattle.std.proofs.Common.{ℕ, ◌-◌, List, arith, refl, string_bytes, ap, ap₂, ◌∙◌}
use Rattle.bx_text.specs.Text.{TextState}
use Rattle.bx_view.specs.FoundRow.{rows_by}
use Rattle.bx_view.specs.Moves.{place_from}
use Rattle.bx_document.proofs.PlaceAfter.{found, splice_short}
use Rattle.bx_document.proofs.touched.place_inside.Goals as goal

pub overflow_add-result : goal.overflow_add-result
overflow_add-result g c =
    let s = c.args.text_ref.now in
    let copy = ap (λ (t : TextState). t.edited.text) c.of-copy.ensures.text ∙ c.in_ok-text.ensures.text in
    let is = found (g.D.BidiData.data s.tables.now) c.args.view.now s.text.now.edited.text
    c.args.range.start c.args.range.end c.args.new.now (string_bytes c.in_ok-first.characters) c.in_ok-first.first c.args.offset _ c.in_ok-place.place
    c.in_ok-place.ensures.side s.utf8 c.requires.range c.utf8.new c.requires.inside.0 c.requires.inside.1
    c.in_ok-first.ensures.start c.in_ok-first.ensures.text refl
    (c.in_ok-place.ensures.place ∙ ap₂ (λ t (b : List ℕ). place_from (rows_by (g.D.BidiData.data t) c.args.view.now b) (c.args.offset - c.in_ok-first.first))
    c.of-copy.ensures.tables copy) in
    omega (arith, is.boundary.0, splice_short s.text.now.edited.text c.args.range.start c.args.range.end c.args.new.now c.requires.range c.requires.fits)

pub returns-clause-place : goal.returns-clause-place
returns-clause-place g c =
    let s = c.args.text_ref.now in
    let copy = ap (λ (t : TextState). t.edited.text) c.of-copy.ensures.text ∙ c.in_ok-text.ensures.text in
    (found (g.D.BidiData.data s.tables.now) c.args.view.now s.text.now.edited.text
    c.args.range.start c.args.range.end c.args.new.now (string_bytes c.in_ok-first.characters) c.in_ok-first.first c.args.offset _ c.in_ok-place.place
    c.in_ok-place.ensures.side s.utf8 c.requires.range c.utf8.new c.requires.inside.0 c.requires.inside.1
    c.in_ok-first.ensures.start c.in_ok-first.ensures.text refl
    (c.in_ok-place.ensures.place ∙ ap₂ (λ t (b : List ℕ). place_from (rows_by (g.D.BidiData.data t) c.args.view.now b) (c.args.offset - c.in_ok-first.first))
    c.of-copy.ensures.tables copy)).place

pub returns-clause-text_place : goal.returns-clause-text_place
returns-clause-text_place g c =
    let s = c.args.text_ref.now in
    let copy = ap (λ (t : TextState). t.edited.text) c.of-copy.ensures.text ∙ c.in_ok-text.ensures.text in
    (found (g.D.BidiData.data s.tables.now) c.args.view.now s.text.now.edited.text
    c.args.range.start c.args.range.end c.args.new.now (string_bytes c.in_ok-first.characters) c.in_ok-first.first c.args.offset _ c.in_ok-place.place
    c.in_ok-place.ensures.side s.utf8 c.requires.range c.utf8.new c.requires.inside.0 c.requires.inside.1
    c.in_ok-first.ensures.start c.in_ok-first.ensures.text refl
    (c.in_ok-place.ensures.place ∙ ap₂ (λ t (b : List ℕ). place_from (rows_by (g.D.BidiData.data t) c.args.view.now b) (c.args.offset - c.in_ok-first.first))
    c.of-copy.ensures.tables copy)).text_place
