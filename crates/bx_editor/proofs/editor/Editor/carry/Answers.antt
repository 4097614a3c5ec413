use Rattle.std.proofs.Common.{◌≡◌, ◌∙◌, ℕ, Some, ap, ap₂}
use Rattle.bx_ucd.specs.Data.{Data}
use Rattle.bx_view.specs.declared.moves.Goal.{Goal}
use Rattle.bx_view.specs.Top.{to_shown}
use Rattle.bx_editor.specs.declared.cursor.Soft.{Soft}
use Rattle.bx_editor.specs.declared.questions.answers.Prompt.TheVariants as prompts
use Rattle.bx_editor.specs.declared.search_state.SearchState.TheVariants as search_states
use Rattle.bx_editor.specs.Asking.{without_prompt}
use Rattle.bx_editor.specs.Editor.{Editor, cleared, rows, text_height, with_place}
use Rattle.bx_editor.specs.Functions.{EditorState}
use Rattle.bx_editor.specs.Region.{aged, soft_left, unselected}
use Rattle.bx_editor.specs.RowMoves.{kept_goal}
use Rattle.bx_editor.specs.Search.{without_search}
use Rattle.bx_editor.proofs.Viewed.{value, value_with}
use Rattle.bx_editor.proofs.editor.Editor.carry.Goals as goal

pub returns-clause-ok : goal.returns-clause-ok
returns-clause-ok g c =
    let now : EditorState g.row.D.Denot = c.args.self.now in
    let e : Editor = now.editor in
    let d : Data = g.D.BidiData.data now.tables in
    let to : Goal = c.in_ok-goal.goal in
    let there : ℕ = c.in_ok-place.place in
    let top : ℕ = c.args.top in
    let before : value g.D.BidiData c.self-2.inside ≡ now = c.self-2.view_is ∙ c.in_ok-goal.ensures.same in
    let count : c.text_height-count.result ≡ text_height e.height =
    c.text_height-count.ensures.rows ∙ ap (λ (s : EditorState g.row.D.Denot). text_height s.editor.height) c.self.view_is in
    let place : there ≡ to_shown e.width (rows d e) top (text_height e.height) (kept_goal d e) e.place =
    c.in_ok-place.ensures.place
    ∙ ap (λ (s : EditorState g.row.D.Denot). to_shown s.editor.width (rows (g.D.BidiData.data s.tables) s.editor) top c.text_height-count.result to s.editor.place) before
    ∙ ap₂ (λ (n : ℕ) (k : Goal). to_shown e.width (rows d e) top n k e.place) count c.in_ok-goal.ensures.goal in
    let kept : Soft → EditorState g.row.D.Denot → EditorState g.row.D.Denot = λ soft s. record s {
      editor = without_search (without_prompt (record s.editor { goal = Some to; soft = soft }));
    } in
    let left : EditorState g.row.D.Denot → EditorState g.row.D.Denot = λ s. kept (aged s.editor.soft) s in
    let free : EditorState g.row.D.Denot → EditorState g.row.D.Denot = λ s. record s { editor = unselected s.editor } in
    let gone : EditorState g.row.D.Denot → EditorState g.row.D.Denot = λ s. record s { editor = with_place (cleared s.editor) there } in
    let with : ℕ → Goal → EditorState g.row.D.Denot = λ p k. record {
      tables = now.tables;
      editor = record (unselected (cleared e)) {
        place = p;
        goal = Some k;
        soft = aged (soft_left e.soft);
        prompt = prompts.Off;
        search_state = search_states.Off;
      };
    } in
    c.leave_search.ensures
    ∙ ap (λ (s : EditorState g.row.D.Denot). (let t : EditorState g.row.D.Denot = record s { editor = without_search s.editor } in t)) c.leave_question.ensures
    ∙ ap (λ soft. kept soft (value g.D.BidiData c.self-3.inside)) c.aged-self-inside.ensures
    ∙ ap left (c.self-3.view_is ∙ c.unselect.ensures)
    ∙ ap (λ s. left (free s)) c.set_place.ensures
    ∙ ap (λ s. left (free (gone s))) (ap (value_with g.D.BidiData c.self-2.inside) c.in_ok-place.ensures.same ∙ before)
    ∙ ap₂ with place c.in_ok-goal.ensures.goal
