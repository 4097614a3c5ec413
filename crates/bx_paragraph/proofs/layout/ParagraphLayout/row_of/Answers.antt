use Rattle.std.proofs.Common.{◌≡◌, ◌-◌, true, ap, subst, sym, IsUtf8, ◌∙◌}
use Rattle.std.specs.List.Sorted.{IsNonDecreasingBy}
use Rattle.std.specs.Prelude.{map}
use Rattle.std.proofs.lemmas.Str.{IsUtf8-string_bytes}
use Rattle.bx_rows.specs.declared.start_search.RowStart.{RowStart}
use Rattle.bx_common.specs.Characters.{is_side}
use Rattle.bx_paragraph.specs.BodyRows.{falls_in}
use Rattle.bx_paragraph.specs.Layout.{IsSound}
use Rattle.bx_paragraph.proofs.StartOrder.{starts-rise}
use Rattle.bx_paragraph.proofs.Starts.{row_falls}
use Rattle.bx_paragraph.proofs.layout.ParagraphLayout.row_of.Goals as goal

pub returns-clause-row : goal.returns-clause-row
returns-clause-row c = λ ucd is.
    let l = c.args.self.now in
    let same = c.deref.ensures.value ∙ ap (λ m. m.starts) c.self.view_is in
    let valid = subst IsUtf8 (ap (λ m. m.body) c.self.view_is) (IsUtf8-string_bytes c.self.inside.body) in
    let rise = subst (IsNonDecreasingBy (λ (s : RowStart). s.offset)) (sym (same ∙ is.starts)) (starts-rise ucd l.w l.body valid) in
    c.saturating_sub.ensures ∙ ap (λ n. n - 1) (c.starts_up_to.ensures.count rise)
    ∙ ap (λ xs. falls_in (map (λ s. s.offset) xs) c.args.offset) same
    ∙ row_falls l c.args.offset (subst (λ m. is_side m.w ≡ true) c.self.view_is c.self.invariant.0) ucd is

pub returns-clause-sound : goal.returns-clause-sound
returns-clause-sound c =
    subst IsSound c.self.view_is (record { side = c.self.invariant.0; utf8 = IsUtf8-string_bytes c.self.inside.body })
