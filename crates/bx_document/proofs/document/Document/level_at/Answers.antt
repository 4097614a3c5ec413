use Rattle.std.proofs.Common.{◌∙◌, ap, chars, subst, sym}
use Rattle.std.specs.Prelude.{slice_range}
use Rattle.bx_text.specs.Changes.{IsRange}
use Rattle.bx_text.specs.index.Paragraphs.{paragraph_of}
use Rattle.bx_levels.specs.resolve.Levels.{levels_under}
use Rattle.bx_view.specs.Places.{IsTextPlace}
use Rattle.bx_view.proofs.Numbers.{IsUnder, paragraph-under}
use Rattle.bx_document.specs.PlaceLevel.{place_level}
use Rattle.bx_document.proofs.PlaceLevels.{bound-of-body, level-is, place-of-body}
use Rattle.bx_document.proofs.SameState.{lent}
use Rattle.bx_document.proofs.document.Document.level_at.Goals as goal
use Rattle.bx_document.proofs.document.Document.level_at.Goals.{After-span_at-span}

-- the paragraph that the place falls in
under : (g : _) (c : After-span_at-span g)
    → IsUnder (g.D.BidiData.data c.text_ref-text_ref.result.tables.now) c.text_ref-text_ref.result.text.now.edited.text c.args.place
    c.span_at-span.result.number c.span_at-span.result.start c.span_at-span.result.stop
under g c =
    let s = c.text_ref-text_ref.result in
    paragraph-under (g.D.BidiData.data s.tables.now) s.text.now.edited.text s.index.now.paragraphs c.args.place
    c.span_at-span.result.number c.span_at-span.result.start c.span_at-span.result.stop
    c.text_ref-text_ref.result.utf8 s.indexed c.span_at-span.ensures.number c.span_at-span.ensures.span

pub copy-requires : goal.copy-requires
copy-requires g c =
    let same = lent c.text_ref-text_ref.ensures.tables c.text_ref-text_ref.ensures.text c.self.view_is in
    record {
      range = subst (λ s. IsRange s.document.content.text c.span_at-span.result.start c.span_at-span.result.stop) same (under g c).span.range;
    }

pub overflow_sub-place : goal.overflow_sub-place
overflow_sub-place g c = (under g ((goal.at.overflow_sub-place g c).After-span_at-span)).before

pub unit_level-requires-clause-place : goal.unit_level-requires-clause-place
unit_level-requires-clause-place g c =
    let same = lent c.text_ref-text_ref.ensures.tables c.text_ref-text_ref.ensures.text c.self.view_is in
    let s = c.text_ref-text_ref.result in
    let u = under g ((goal.at.unit_level-requires-clause-place g c).After-span_at-span) in
    let place = subst (λ s. IsTextPlace (g.D.BidiData.data s.tables) s.document.content.text c.args.place) (sym same) c.requires.text_place in
    let body = c.as_str-body.ensures.value ∙ c.in_ok-copy.ensures
    ∙ ap (λ s. slice_range s.document.content.text c.span_at-span.result.start c.span_at-span.result.stop) (sym same) ∙ u.span.body in
    place-of-body (g.D.BidiData.data s.tables.now) s.text.now.edited.text c.text_ref-text_ref.result.utf8 c.args.place
    c.span_at-span.result.number c.span_at-span.result.start c.as_str-body.result.now
    (c.span_at-span.ensures.number ∙ ap (λ ls. paragraph_of ls c.args.place) s.indexed) u.span.start body place

pub unit_level-requires-clause-bounds : goal.unit_level-requires-clause-bounds
unit_level-requires-clause-bounds g c =
    let same = lent c.text_ref-text_ref.ensures.tables c.text_ref-text_ref.ensures.text c.self.view_is in
    let s = c.text_ref-text_ref.result in
    let u = under g ((goal.at.unit_level-requires-clause-bounds g c).After-span_at-span) in
    let place = subst (λ s. IsTextPlace (g.D.BidiData.data s.tables) s.document.content.text c.args.place) (sym same) c.requires.text_place in
    let body = c.as_str-body.ensures.value ∙ c.in_ok-copy.ensures
    ∙ ap (λ s. slice_range s.document.content.text c.span_at-span.result.start c.span_at-span.result.stop) (sym same) ∙ u.span.body in
    bound-of-body (g.D.BidiData.data s.tables.now) s.text.now.edited.text c.text_ref-text_ref.result.utf8 c.args.place
    c.span_at-span.result.number c.span_at-span.result.start c.as_str-body.result.now
    (c.span_at-span.ensures.number ∙ ap (λ ls. paragraph_of ls c.args.place) s.indexed) u.span.start body place

pub returns : goal.returns
returns g c =
    let same = lent c.text_ref-text_ref.ensures.tables c.text_ref-text_ref.ensures.text c.self.view_is in
    let i = c.self.inside in
    let s = c.text_ref-text_ref.result in
    let ucd = g.D.BidiData.data s.tables.now in
    let u = under g ((goal.at.returns g c).After-span_at-span) in
    let body = c.as_str-body.ensures.value ∙ c.in_ok-copy.ensures
    ∙ ap (λ s. slice_range s.document.content.text c.span_at-span.result.start c.span_at-span.result.stop) (sym same) ∙ u.span.body in
    let each = c.as_slice.ensures.value ∙ c.in_ok-levels.ensures.each ∙ ap (λ b. levels_under ucd b (chars c.as_str-body.result.now)) c.base.ensures in
    c.unit_level.ensures
    ∙ level-is ucd s.text.now.edited.text c.text_ref-text_ref.result.utf8 c.args.place
    c.span_at-span.result.number c.span_at-span.result.start c.as_str-body.result.now
    (c.span_at-span.ensures.number ∙ ap (λ ls. paragraph_of ls c.args.place) s.indexed) u.span.start body
    i.view.base c.as_slice.result.now each
    ∙ ap (λ s. place_level (g.D.BidiData.data s.tables) s.document.base s.document.content.text c.args.place) same
