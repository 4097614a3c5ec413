use Rattle.std.proofs.Common.{◌≡◌, ◌∙◌, ℕ, IsCharBoundary, IsUtf8, ap, length, refl, rules, string_bytes, subst, sym, take}
use Rattle.std.proofs.lemmas.Str.{IsUtf8-string_bytes}
use Rattle.bx_text.specs.Changes.{IsRange}
use Rattle.bx_document.specs.InputLine.{line_rows}
use Rattle.bx_view.specs.declared.moves.Logical.TheVariants.{Back, Forward}
use Rattle.bx_view.specs.declared.moves.Move.TheVariants.{Logical, Word}
use Rattle.bx_view.proofs.TextPlaces.{place-between}
use Rattle.bx_editor.specs.LineState.{LineState}
use Rattle.bx_editor.specs.questions.Answers.{shortened}
use Rattle.bx_editor.proofs.LineLength.{last-range}
use Rattle.bx_editor.proofs.StepOrder.{between-back, between-on}
use Rattle.bx_editor.proofs.input_line.InputLine.erased_part.Goals as goal

pub range-requires-clause-end_boundary : goal.range-requires-clause-end_boundary
range-requires-clause-end_boundary g c =
    let i = c.self.inside in
    let l : LineState = c.args.self.now in
    let d = g.D.BidiData.data c.args.document.now.tables in
    let utf8 = subst (λ (x : LineState). IsUtf8 x.text) c.self.view_is (IsUtf8-string_bytes i.text) in
    let bounds = place-between d l.text l.cursor utf8 c.requires.place in
    subst (λ t. IsCharBoundary t i.cursor) (sym c.as_str-line.ensures.value)
    (subst (λ (x : LineState). IsCharBoundary x.text x.cursor) (sym c.self.view_is) bounds)

pub returns-in_ok-before-in-LastCharacter-clause-range : goal.returns-in_ok-before-in-LastCharacter-clause-range
returns-in_ok-before-in-LastCharacter-clause-range g c =
    let l : LineState = c.args.self.now in
    let d = g.D.BidiData.data c.args.document.now.tables in
    let utf8 = subst (λ (x : LineState). IsUtf8 x.text) c.self.view_is (IsUtf8-string_bytes c.self.inside.text) in
    let bounds = place-between d l.text l.cursor utf8 c.requires.place in
    subst (λ n. IsRange l.text c.len.result n) (sym (ap (λ (x : LineState). x.cursor) c.self.view_is))
    (last-range l.text l.cursor c.len.result utf8 bounds (search rules))

pub returns-in_ok-moved_in_line-in-Unit-clause-range : goal.returns-in_ok-moved_in_line-in-Unit-clause-range
returns-in_ok-moved_in_line-in-Unit-clause-range g c =
    let i = c.self.inside in
    let l : LineState = c.args.self.now in
    let d = g.D.BidiData.data c.args.document.now.tables in
    let utf8 = subst (λ (x : LineState). IsUtf8 x.text) c.self.view_is (IsUtf8-string_bytes i.text) in
    let bounds = place-between d l.text l.cursor utf8 c.requires.place in
    let line = c.as_str-line.result.now in
    let here : IsCharBoundary line i.cursor = subst (λ t. IsCharBoundary t i.cursor) (sym c.as_str-line.ensures.value)
    (subst (λ (x : LineState). IsCharBoundary x.text x.cursor) (sym c.self.view_is) bounds) in
    let same = sym (c.as_str-line.ensures.value ∙ ap (λ (x : LineState). x.text) c.self.view_is) in
    let moved = c.in_ok-moved_in_line-in-Unit in
    between-on d (line_rows d line) 500 (Logical Forward) line l.text i.cursor moved.field-0 same refl here (moved.ensures.boundary here) moved.ensures.place

pub returns-in_ok-moved_in_line-in-WordBack-clause-range : goal.returns-in_ok-moved_in_line-in-WordBack-clause-range
returns-in_ok-moved_in_line-in-WordBack-clause-range g c =
    let i = c.self.inside in
    let l : LineState = c.args.self.now in
    let d = g.D.BidiData.data c.args.document.now.tables in
    let utf8 = subst (λ (x : LineState). IsUtf8 x.text) c.self.view_is (IsUtf8-string_bytes i.text) in
    let bounds = place-between d l.text l.cursor utf8 c.requires.place in
    let line = c.as_str-line.result.now in
    let here : IsCharBoundary line i.cursor = subst (λ t. IsCharBoundary t i.cursor) (sym c.as_str-line.ensures.value)
    (subst (λ (x : LineState). IsCharBoundary x.text x.cursor) (sym c.self.view_is) bounds) in
    let same = sym (c.as_str-line.ensures.value ∙ ap (λ (x : LineState). x.text) c.self.view_is) in
    let moved = c.in_ok-moved_in_line-in-WordBack in
    between-back d (line_rows d line) 500 (Word Back) line l.text moved.field-0 i.cursor same refl (moved.ensures.boundary here) here moved.ensures.place

pub returns-in_ok-moved_in_line-in-WordOn-clause-range : goal.returns-in_ok-moved_in_line-in-WordOn-clause-range
returns-in_ok-moved_in_line-in-WordOn-clause-range g c =
    let i = c.self.inside in
    let l : LineState = c.args.self.now in
    let d = g.D.BidiData.data c.args.document.now.tables in
    let utf8 = subst (λ (x : LineState). IsUtf8 x.text) c.self.view_is (IsUtf8-string_bytes i.text) in
    let bounds = place-between d l.text l.cursor utf8 c.requires.place in
    let line = c.as_str-line.result.now in
    let here : IsCharBoundary line i.cursor = subst (λ t. IsCharBoundary t i.cursor) (sym c.as_str-line.ensures.value)
    (subst (λ (x : LineState). IsCharBoundary x.text x.cursor) (sym c.self.view_is) bounds) in
    let same = sym (c.as_str-line.ensures.value ∙ ap (λ (x : LineState). x.text) c.self.view_is) in
    let moved = c.in_ok-moved_in_line-in-WordOn in
    between-on d (line_rows d line) 500 (Word Forward) line l.text i.cursor moved.field-0 same refl here (moved.ensures.boundary here) moved.ensures.place
