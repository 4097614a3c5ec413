use Rattle.std.proofs.Common.{◌++◌, ◌∷◌, [], ◌∙◌, ap, sym, subst, map, take, append_assoc}
use Rattle.std.specs.Prelude.{All}
use Rattle.std.proofs.lemmas.List.{map_more, map_push}
use Rattle.std.proofs.lemmas.List.Elements.{All-push}
use Rattle.bx_rows.specs.Shown.{glyph_of}
use Rattle.bx_document.specs.Narrow.{IsWellDrawn}
use Rattle.bx_document.proofs.status_row.push_glyphs.Goals as goal

pub loop-glyph-preserved : goal.loop-glyph-preserved
loop-glyph-preserved c =
    let i = c.loop-glyph.glyph-index in
    let more = c.args.more.now in
    let d = c.glyph-item.result in
    let old = map glyph_of c.args.glyphs.now.items in
    let was = c.loop-glyph.glyphs.items in
    let more-is = map_more glyph_of more i d c.loop-glyph-test.true ∙ ap (λ g. map glyph_of (take i more) ++ g ∷ []) (ap glyph_of (sym c.glyph-item.is)) in
    let items = c.in_ok-push.ensures.items in (
      ap (map glyph_of) items ∙ map_push glyph_of was c.borrowed.result
          ∙ ap (λ g. map glyph_of was ++ g ∷ []) c.borrowed.ensures.same
          ∙ ap (λ gs. gs ++ glyph_of d ∷ []) c.loop-glyph.invariant.0
          ∙ append_assoc old (map glyph_of (take i more)) (glyph_of d ∷ [])
          ∙ ap (λ gs. old ++ gs) (sym more-is),
      λ all. subst (All IsWellDrawn) (sym items) (All-push IsWellDrawn was c.borrowed.result (c.loop-glyph.invariant.1 all)
          (c.borrowed.ensures.drawn (subst IsWellDrawn (sym c.glyph-item.is) (c.requires.drawn i d c.loop-glyph-test.true)))),
    )
