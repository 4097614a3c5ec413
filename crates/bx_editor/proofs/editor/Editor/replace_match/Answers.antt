use Rattle.std.proofs.Common.{◌≡◌, ◌+◌, ◌≤◌, ◌∙◌, ℕ, Bool, true, List, ap, ap₂, string_bytes, subst, sym, IsUtf8}
use Rattle.std.specs.Prelude.{Some, None, if◌then◌else◌}
use Rattle.bx_common.specs.Characters.{largest_text}
use Rattle.bx_text.specs.Edits.{fits, splice}
use Rattle.bx_ucd.specs.Data.{Data}
use Rattle.bx_document.proofs.TouchedPlace.{splice_utf8}
use Rattle.bx_view.specs.Places.{IsTextPlace}
use Rattle.bx_editor.specs.Editor.{Editor, cleared}
use Rattle.bx_editor.specs.Functions.{EditorState, next_behind}
use Rattle.bx_editor.specs.Origin.{IsAtMatch}
use Rattle.bx_editor.specs.Replacing.{after_ending, with_matches_replaced}
use Rattle.bx_editor.specs.declared.search_state.SearchState.TheVariants.{Replacing}
use Rattle.bx_editor.proofs.Begin.{begin-is-place}
use Rattle.bx_editor.proofs.Exchanged.{held-in}
use Rattle.bx_editor.proofs.InLine.{line-of-match}
use Rattle.bx_editor.proofs.NextShown.{found-behind, replaced-last, replaced-next}
use Rattle.bx_editor.proofs.ShownMatch.{replaced-one, room-for-one, shown-in}
use Rattle.bx_editor.proofs.editor.Editor.replace_match.Goals as goal

-- there was room
exchanged : {D : Type 0} (ucd : D → Data) (now s new : EditorState D) (stop : ℕ) (o : List ℕ) (room : Bool) → s ≡ now
    → new ≡ record s { editor = if room then with_matches_replaced (ucd s.tables) s.editor stop o 1 else s.editor }
    → room ≡ fits s.editor.content.text s.editor.at stop o → o ≡ now.editor.replacement
    → fits now.editor.content.text now.editor.at stop now.editor.replacement ≡ true
    → new ≡ record now { editor = with_matches_replaced (ucd now.tables) now.editor stop now.editor.replacement 1 }
exchanged {D = D} ucd now s new stop o room same is told other fit =
    let given : EditorState D → List ℕ → Bool → EditorState D = λ t ls b.
    record t { editor = if b then with_matches_replaced (ucd t.tables) t.editor stop ls 1 else t.editor } in
    let room-in : EditorState D → List ℕ → Bool = λ t ls. fits t.editor.content.text t.editor.at stop ls in
    is ∙ ap (given s o) (told ∙ ap₂ room-in same other ∙ fit) ∙ ap₂ (λ t ls. given t ls true) same other

pub exchange-requires-clause-few : goal.exchange-requires-clause-few
exchange-requires-clause-few g c =
    let now : EditorState g.row.D.Denot = c.args.self.now in
    let e = now.editor in
    let d = g.D.BidiData.data now.tables in
    let utf8 = c.match_stop-stop.ensures.utf8 in
    let match = shown-in g.D.BidiData.data _ now c.self.view_is c.requires.shown c.self.invariant.10 in
    let bounds = c.match_stop-stop.ensures.range.stop_bounds in
    let room : e.count + 1 ≤ largest_text =
    room-for-one d e.purpose e.query e.content.text e.at e.count utf8 match c.match_stop-stop.result c.match_stop-stop.ensures.stop
    bounds.0 in
    subst (λ (s : EditorState g.row.D.Denot). s.editor.count + 1 ≤ largest_text) (sym c.in_ok-next.ensures.same) room

pub returns-in_default-clause-ok : goal.returns-in_default-clause-ok
returns-in_default-clause-ok g c =
    let now : EditorState g.row.D.Denot = c.args.self.now in
    let e = now.editor in
    let d = g.D.BidiData.data now.tables in
    let i = c.self.inside in
    let stop = c.match_stop-stop.result in
    let other = c.in_ok-replacement.ensures.cases ∙ ap (λ (s : EditorState g.row.D.Denot). s.editor.replacement) c.self.view_is in
    let room : fits e.content.text e.at stop e.replacement ≡ true =
    sym (c.has_room.ensures ∙ ap (fits i.document.document.content.text i.at stop) c.as_str.ensures.value
    ∙ ap (λ (s : EditorState g.row.D.Denot). fits s.editor.content.text s.editor.at stop s.editor.replacement) c.self.view_is)
    ∙ c.if-not-has_room.false in
    let done = exchanged g.D.BidiData.data now c.next_behind.new.self c.exchange.new.self stop c.as_str-3.result.now
    c.in_ok-exchange.field-0 c.in_ok-next.ensures.same c.in_ok-exchange.ensures.ok c.in_ok-exchange.ensures.room
    (c.as_str-3.ensures.value ∙ other) room in
    let none : None ≡ next_behind d e stop e.replacement =
    sym c.in_default.is ∙ c.in_ok-next.ensures.next ∙ ap (next_behind d e stop) (c.as_str-2.ensures.value ∙ other) in
    c.end_replacing.ensures
    ∙ ap (λ (s : EditorState g.row.D.Denot). (let t : EditorState g.row.D.Denot = record s {
      editor = after_ending (cleared s.editor);
    } in t)) done
    ∙ ap (λ (x : Editor). (let t : EditorState g.row.D.Denot = record now { editor = x } in t))
    (replaced-last d e stop c.match_stop-stop.ensures.stop room c.match_stop-stop.ensures.range.start_bounds.0 none)

pub invariant_of-self : goal.invariant_of-self
invariant_of-self g c =
    let now : EditorState g.row.D.Denot = c.args.self.now in
    let e = now.editor in
    let d = g.D.BidiData.data now.tables in
    let i = c.self.inside in
    let stop = c.match_stop-stop.result in
    let range = c.match_stop-stop.ensures.range in
    let at = c.in-Some.at in
    let place = c.in-Some.place in
    let kept = c.self-2.invariant in
    let utf8 = c.match_stop-stop.ensures.utf8 in
    let match = shown-in g.D.BidiData.data _ now c.self.view_is c.requires.shown c.self.invariant.10 in
    let other = c.in_ok-replacement.ensures.cases ∙ ap (λ (s : EditorState g.row.D.Denot). s.editor.replacement) c.self.view_is in
    let put = c.as_str-2.ensures.value ∙ other in
    let text = splice e.content.text e.at stop e.replacement in
    let room : fits e.content.text e.at stop e.replacement ≡ true =
    sym (c.has_room.ensures ∙ ap (fits i.document.document.content.text i.at stop) c.as_str.ensures.value
    ∙ ap (λ (s : EditorState g.row.D.Denot). fits s.editor.content.text s.editor.at stop s.editor.replacement) c.self.view_is)
    ∙ c.if-not-has_room.false in
    let done = exchanged g.D.BidiData.data now c.next_behind.new.self c.exchange.new.self stop c.as_str-3.result.now
    c.in_ok-exchange.field-0 c.in_ok-next.ensures.same c.in_ok-exchange.ensures.ok c.in_ok-exchange.ensures.room
    (c.as_str-3.ensures.value ∙ other) room in
    let found = found-behind d e stop e.replacement at place
    (sym c.in-Some.is ∙ c.in_ok-next.ensures.next ∙ ap (next_behind d e stop) put) in
    let here = replaced-one d e.purpose e.query e.content.text e.at e.count stop at e.replacement utf8
    (splice_utf8 d e.content.text utf8 e.at stop e.replacement range (subst IsUtf8 put c.as_str-2.utf8)) match range
    c.match_stop-stop.ensures.stop found in
    let there = subst (λ (ls : List ℕ). IsTextPlace d (splice e.content.text e.at stop ls) place) put
    (rw c.in-Some.is at c.in_ok-next.ensures.text_place) in
    let all = subst (λ (s : EditorState g.row.D.Denot). IsTextPlace (g.D.BidiData.data s.tables) s.editor.content.text place
    × IsAtMatch (g.D.BidiData.data s.tables) s.editor.purpose s.editor.query s.editor.content.text at s.editor.count
    × IsTextPlace (g.D.BidiData.data s.tables) s.editor.content.text s.editor.origin) (sym (c.self-2.view_is ∙ done))
    (held-in d e stop e.replacement 1
    (λ purpose query new count origin. IsTextPlace d new place × IsAtMatch d purpose query new at count × IsTextPlace d new origin)
    range.start_bounds.0 (there, here, begin-is-place d text)) in
    let after = c.self-2.inside in
    let line = line-of-match (g.D.BidiData.data after.document.tables) (string_bytes after.query) (string_bytes after.replacement)
    (string_bytes after.answer) after.input_cursor after.prompt after.cursor.search_state kept.7 in
    (all.0, kept.1, kept.2, kept.3, kept.4, kept.5, kept.6, line, kept.8, all.2, all.1)

pub returns-clause-ok : goal.returns-clause-ok
returns-clause-ok g c =
    let now : EditorState g.row.D.Denot = c.args.self.now in
    let e = now.editor in
    let d = g.D.BidiData.data now.tables in
    let i = c.self.inside in
    let stop = c.match_stop-stop.result in
    let at = c.in-Some.at in
    let place = c.in-Some.place in
    let other = c.in_ok-replacement.ensures.cases ∙ ap (λ (s : EditorState g.row.D.Denot). s.editor.replacement) c.self.view_is in
    let room : fits e.content.text e.at stop e.replacement ≡ true =
    sym (c.has_room.ensures ∙ ap (fits i.document.document.content.text i.at stop) c.as_str.ensures.value
    ∙ ap (λ (s : EditorState g.row.D.Denot). fits s.editor.content.text s.editor.at stop s.editor.replacement) c.self.view_is)
    ∙ c.if-not-has_room.false in
    let done = exchanged g.D.BidiData.data now c.next_behind.new.self c.exchange.new.self stop c.as_str-3.result.now
    c.in_ok-exchange.field-0 c.in_ok-next.ensures.same c.in_ok-exchange.ensures.ok c.in_ok-exchange.ensures.room
    (c.as_str-3.ensures.value ∙ other) room in
    let found : Some (at, place) ≡ next_behind d e stop e.replacement =
    sym c.in-Some.is ∙ c.in_ok-next.ensures.next ∙ ap (next_behind d e stop) (c.as_str-2.ensures.value ∙ other) in
    c.reset_after_key.ensures
    ∙ ap (λ (s : EditorState g.row.D.Denot). (let t : EditorState g.row.D.Denot = record s {
      editor = cleared (record s.editor { search_state = Replacing; at = at; place = place });
    } in t)) (c.self-2.view_is ∙ done)
    ∙ ap (λ (x : Editor). (let t : EditorState g.row.D.Denot = record now { editor = x } in t))
    (replaced-next d e stop c.match_stop-stop.ensures.stop room at place c.match_stop-stop.ensures.range.start_bounds.0 found)
