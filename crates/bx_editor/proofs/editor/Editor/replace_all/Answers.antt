use Rattle.std.proofs.Common.{◌≤◌, ◌∙◌, IsUtf8, ap, ap₂, arith, length, string_bytes, subst, sym}
use Rattle.bx_find.specs.Matches.{spans_from}
use Rattle.bx_document.specs.Swapped.{last_stop}
use Rattle.bx_editor.specs.Functions.{EditorState}
use Rattle.bx_editor.specs.Search.{reading, sought}
use Rattle.bx_editor.proofs.ShownMatch.{at-match, query-letters, room-for-all}
use Rattle.bx_editor.proofs.editor.Editor.replace_all.Goals as goal

pub exchange-requires-clause-few : goal.exchange-requires-clause-few
exchange-requires-clause-few g c =
    let i = c.self.inside in
    let d = g.D.BidiData.data i.document.tables in
    let text = i.document.document.content.text in
    let query = string_bytes i.query in
    let all = spans_from d (reading i.purpose) (query-letters d i.purpose query text) text i.at in
    let shown = at-match d i.purpose query text i.cursor.search_state i.at i.count
    (ap (λ (s : EditorState g.row.D.Denot). s.editor.search_state) c.self.view_is ∙ c.requires.shown) c.self.invariant.10 in
    let same = ap₂ (λ r q. spans_from d r q text i.at) c.reading_of-reading.ensures
    (c.shown_query-query.ensures.query
    ∙ sym (ap (λ (s : EditorState g.row.D.Denot). sought (g.D.BidiData.data s.tables) s.editor) c.self.view_is)) in
    let told = rw c.in-Some.is at (c.in_ok-swap.ensures.swap all (sym same)) in
    let range = rw c.in-Some.is at c.in_ok-swap.ensures.range in
    let bounds = range.stop_bounds in
    let inside : last_stop i.at all ≤ length text = omega (arith, told.1, bounds.0) in
    let utf8 = subst (λ (s : EditorState g.row.D.Denot). IsUtf8 s.editor.content.text) (sym c.self.view_is) c.shown_query-query.ensures.utf8 in
    let room = room-for-all d i.purpose query text i.at i.count utf8 shown inside in
    let count = ap (λ (s : EditorState g.row.D.Denot). s.editor.count) c.self.view_is in
    omega (arith, room, told.2, count)
