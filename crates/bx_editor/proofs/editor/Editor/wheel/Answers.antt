use Rattle.std.proofs.Common.{◌≡◌, ◌∙◌, ℕ, Bool, true, false, ap, sym, subst, ne_eqb}
use Rattle.std.specs.Prelude.{◌==◌, Option, OnOk}
use Rattle.std.proofs.lemmas.Bool.{eq-eqb}
use Rattle.bx_ucd.specs.Data.{Data}
use Rattle.bx_document.specs.Document.{DocumentState}
use Rattle.bx_view.specs.Moves.{row_home}
use Rattle.bx_view.specs.Top.{is_shown, top_away}
use Rattle.bx_editor.specs.declared.message.Message.{Message}
use Rattle.bx_editor.specs.Before.{before}
use Rattle.bx_editor.specs.Editor.{Editor, cleared, rows, text_height}
use Rattle.bx_editor.specs.Functions.{EditorState}
use Rattle.bx_editor.specs.RowMoves.{carried, shows_place, wheel_top}
use Rattle.bx_editor.specs.Scrolling.{wheel_rows}
use Rattle.bx_editor.proofs.Viewed.{value, value_with}
use Rattle.bx_editor.proofs.WheelSteps.{wheel-carried, wheel-shown}
use Rattle.bx_editor.proofs.editor.Editor.wheel.Goals as goal

pub returns-then-not-branch-clause-ok : goal.returns-then-not-branch-clause-ok
returns-then-not-branch-clause-ok g c =
    let now : EditorState g.row.D.Denot = c.args.self.now in
    let d : Data = g.D.BidiData.data now.tables in
    let e : Editor = now.editor in
    let i = c.self.inside in
    let top : ℕ = c.in_ok-top.top in
    let count : c.text_height-count.result ≡ text_height i.height = c.text_height-count.ensures.rows in
    let was : EditorState g.row.D.Denot = value g.D.BidiData i in
    let is : top ≡ wheel_top d e c.args.way =
    c.in_ok-top.ensures.top
    ∙ ap (λ n. top_away (rows (g.D.BidiData.data was.tables) was.editor) c.args.way wheel_rows i.top n) count
    ∙ ap (λ (s : EditorState g.row.D.Denot). wheel_top (g.D.BidiData.data s.tables) s.editor c.args.way) c.self.view_is in
    let shows : ℕ → EditorState g.row.D.Denot → Bool = λ n s. is_shown (rows (g.D.BidiData.data s.tables) s.editor) top s.editor.place n in
    let shown : c.in_ok-is_shown.field-0 ≡ shows_place d e top =
    c.in_ok-is_shown.ensures.shown
    ∙ ap (λ t. shows c.text_height-count.result (value_with g.D.BidiData i t)) c.in_ok-top.ensures.same
    ∙ ap (λ n. shows n was) count
    ∙ ap (λ (s : EditorState g.row.D.Denot). shows_place (g.D.BidiData.data s.tables) s.editor top) c.self.view_is in
    let back = ap (value_with g.D.BidiData i) (c.in_ok-is_shown.ensures.same ∙ c.in_ok-top.ensures.same) ∙ c.self.view_is in
    subst (λ (x : Editor). OnOk c.carry.result (c.carry.new.self ≡ (let t : EditorState g.row.D.Denot = record { tables = now.tables; editor = x } in t)))
    (wheel-carried d (before e) (cleared e) c.args.way top is (sym shown ∙ c.if-not-branch.true))
    (subst (λ (s : EditorState g.row.D.Denot). OnOk c.carry.result (c.carry.new.self ≡ (let t : EditorState g.row.D.Denot = record s {
      editor = carried (g.D.BidiData.data s.tables) (cleared s.editor) top;
    } in t))) back c.carry.ensures.ok)

pub returns-then-top-old-clause-ok : goal.returns-then-top-old-clause-ok
returns-then-top-old-clause-ok g c =
    let now : EditorState g.row.D.Denot = c.args.self.now in
    let d : Data = g.D.BidiData.data now.tables in
    let e : Editor = now.editor in
    let i = c.self.inside in
    let top : ℕ = c.in_ok-top.top in
    let count : c.text_height-count.result ≡ text_height i.height = c.text_height-count.ensures.rows in
    let was : EditorState g.row.D.Denot = value g.D.BidiData i in
    let is : top ≡ wheel_top d e c.args.way =
    c.in_ok-top.ensures.top
    ∙ ap (λ n. top_away (rows (g.D.BidiData.data was.tables) was.editor) c.args.way wheel_rows i.top n) count
    ∙ ap (λ (s : EditorState g.row.D.Denot). wheel_top (g.D.BidiData.data s.tables) s.editor c.args.way) c.self.view_is in
    let shows : ℕ → EditorState g.row.D.Denot → Bool = λ n s. is_shown (rows (g.D.BidiData.data s.tables) s.editor) top s.editor.place n in
    let shown : c.in_ok-is_shown.field-0 ≡ shows_place d e top =
    c.in_ok-is_shown.ensures.shown
    ∙ ap (λ t. shows c.text_height-count.result (value_with g.D.BidiData i t)) c.in_ok-top.ensures.same
    ∙ ap (λ n. shows n was) count
    ∙ ap (λ (s : EditorState g.row.D.Denot). shows_place (g.D.BidiData.data s.tables) s.editor top) c.self.view_is in
    let same = c.in_ok-is_shown.ensures.same ∙ c.in_ok-top.ensures.same in
    let home : EditorState g.row.D.Denot → ℕ = λ s. row_home (rows (g.D.BidiData.data s.tables) s.editor) s.editor.top in
    let old : c.in_ok-old.old ≡ home now = c.in_ok-old.ensures.place ∙ ap (λ t. home (value_with g.D.BidiData i t)) same ∙ ap home c.self.view_is in
    let back = ap (value_with g.D.BidiData i) (c.in_ok-old.ensures.same ∙ same) ∙ c.self.view_is in
    let told : Option Message → EditorState g.row.D.Denot → EditorState g.row.D.Denot = λ m s. record s { editor = record (cleared s.editor) { message = m } } in
    ap (λ (s : EditorState g.row.D.Denot). (let t : EditorState g.row.D.Denot = record s { editor = record s.editor { message = i.message } } in t))
    (c.self-2.view_is ∙ c.reset_after_key.ensures)
    ∙ ap (told i.message) back
    ∙ ap (λ m. told m now) (ap (λ (s : EditorState g.row.D.Denot). s.editor.message) c.self.view_is)
    ∙ ap (λ (x : Editor). (let s : EditorState g.row.D.Denot = record { tables = now.tables; editor = x } in s))
    (wheel-shown d (before e) (cleared e) c.args.way top is (sym shown ∙ c.if-not-branch.false) true (eq-eqb top (home now) (c.if-top-old.true ∙ old)))

pub returns-else-top-old-clause-ok : goal.returns-else-top-old-clause-ok
returns-else-top-old-clause-ok g c =
    let now : EditorState g.row.D.Denot = c.args.self.now in
    let d : Data = g.D.BidiData.data now.tables in
    let e : Editor = now.editor in
    let i = c.self.inside in
    let top : ℕ = c.in_ok-top.top in
    let count : c.text_height-count.result ≡ text_height i.height = c.text_height-count.ensures.rows in
    let was : EditorState g.row.D.Denot = value g.D.BidiData i in
    let is : top ≡ wheel_top d e c.args.way =
    c.in_ok-top.ensures.top
    ∙ ap (λ n. top_away (rows (g.D.BidiData.data was.tables) was.editor) c.args.way wheel_rows i.top n) count
    ∙ ap (λ (s : EditorState g.row.D.Denot). wheel_top (g.D.BidiData.data s.tables) s.editor c.args.way) c.self.view_is in
    let shows : ℕ → EditorState g.row.D.Denot → Bool = λ n s. is_shown (rows (g.D.BidiData.data s.tables) s.editor) top s.editor.place n in
    let shown : c.in_ok-is_shown.field-0 ≡ shows_place d e top =
    c.in_ok-is_shown.ensures.shown
    ∙ ap (λ t. shows c.text_height-count.result (value_with g.D.BidiData i t)) c.in_ok-top.ensures.same
    ∙ ap (λ n. shows n was) count
    ∙ ap (λ (s : EditorState g.row.D.Denot). shows_place (g.D.BidiData.data s.tables) s.editor top) c.self.view_is in
    let same = c.in_ok-is_shown.ensures.same ∙ c.in_ok-top.ensures.same in
    let home : EditorState g.row.D.Denot → ℕ = λ s. row_home (rows (g.D.BidiData.data s.tables) s.editor) s.editor.top in
    let old : c.in_ok-old.old ≡ home now = c.in_ok-old.ensures.place ∙ ap (λ t. home (value_with g.D.BidiData i t)) same ∙ ap home c.self.view_is in
    let back = ap (value_with g.D.BidiData i) (c.in_ok-old.ensures.same ∙ same) ∙ c.self.view_is in
    c.reset_after_key.ensures
    ∙ ap (λ (s : EditorState g.row.D.Denot). (let t : EditorState g.row.D.Denot = record s { editor = cleared s.editor } in t)) back
    ∙ ap (λ (x : Editor). (let s : EditorState g.row.D.Denot = record { tables = now.tables; editor = x } in s))
    (wheel-shown d (before e) (cleared e) c.args.way top is (sym shown ∙ c.if-not-branch.false) false
    (ne_eqb top (home now) (λ here. c.if-top-old.false (here ∙ sym old))))
