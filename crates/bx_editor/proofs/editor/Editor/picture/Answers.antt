use Rattle.std.proofs.Common.{◌≡◌, ℕ, ◌+◌, ◌-◌, ◌*◌, ◌≤◌, ◌∙◌, ◌++◌, List, IsUtf8, ap, ap₂, arith, replicate, string_bytes, subst, sym, take}
use Rattle.std.specs.Prelude.{if◌then◌else◌, IfSome, None, Option}
use Rattle.bx_grid.specs.Columns.{blank}
use Rattle.bx_grid.specs.Grid.{GridState, IsWithin}
use Rattle.bx_grid.specs.Picture.{PictureState}
use Rattle.bx_view.specs.Places.{IsTextPlace}
use Rattle.bx_view.specs.Position.{IsPosition}
use Rattle.bx_view.specs.TextRows.{TextRow, cell_of, row_of}
use Rattle.bx_view.specs.Top.{follow, shown_rows}
use Rattle.bx_document.specs.Drawing.{IsAmong, region_rows}
use Rattle.bx_document.specs.Shown.{with_rows, shown_columns}
use Rattle.bx_document.specs.Document.{rows as document_rows}
use Rattle.bx_ucd.specs.Data.{Data}
use Rattle.bx_editor.specs.Editor.{Editor, rows, text_height}
use Rattle.bx_editor.specs.Functions.{EditorState}
use Rattle.bx_editor.specs.Picture.{blank_picture, next_top, picture, text_picture, top_behind, with_cursor}
use Rattle.bx_editor.specs.Replacing.{seen}
use Rattle.bx_editor.specs.Scrolling.{moved_top}
use Rattle.bx_editor.specs.Status.{input_column, status_columns}
use Rattle.bx_editor.proofs.OnItsCell.{stands}
use Rattle.bx_editor.proofs.Shown.{all-blank, cursor-within, drawn-front, picture-is}
use Rattle.bx_editor.proofs.Viewed.{value, value_with}
use Rattle.bx_editor.proofs.editor.Editor.picture.Goals as goal

pub put_status-requires-clause-position : goal.put_status-requires-clause-position
put_status-requires-clause-position g c =
    let i = c.self-2.inside in
    subst (λ t. (let s = value_with g.D.BidiData i t in
    let ucd : Data = g.D.BidiData.data s.tables in
    IsPosition ucd s.editor.width s.editor.content.text (rows ucd s.editor) s.editor.place c.in_ok-shown.shown.position))
    (sym c.show.ensures.same) c.in_ok-shown.ensures.position

pub returns-clause-top : goal.returns-clause-top
returns-clause-top g c =
    let i = c.self-2.inside in
    let d : Data = g.D.BidiData.data i.document.tables in
    let e : Editor = (value g.D.BidiData i).editor in
    let now : EditorState g.row.D.Denot = c.args.self.now in
    let same = c.self-2.view_is ∙ c.in_ok-region.ensures.same ∙ c.in_ok-top.ensures.same in
    let live = sym (ap (λ (s : EditorState g.row.D.Denot). s.editor.ended) c.self.view_is) ∙ c.if-self.false in
    let top = c.in_ok-top.top in
    let moved : top ≡ moved_top (g.D.BidiData.data now.tables) now.editor c.args.top c.args.scroll = c.in_ok-top.ensures.top in
    let next : EditorState g.row.D.Denot → ℕ → ℕ = λ s x. follow (rows (g.D.BidiData.data s.tables) s.editor) x s.editor.place (text_height s.editor.height) in
    let count = c.text_height-count.ensures.rows ∙ ap (λ (s : EditorState g.row.D.Denot). text_height s.editor.height) (c.self.view_is ∙ sym same) in
    c.in_ok-shown.ensures.top ∙ ap (follow (rows d e) top e.place) count
    ∙ ap (λ s. next s top) same ∙ ap (next now) moved
    ∙ sym (ap₂ (λ b o. if b then c.args.top else if o then moved_top (g.D.BidiData.data now.tables) now.editor c.args.top c.args.scroll
    else next now (moved_top (g.D.BidiData.data now.tables) now.editor c.args.top c.args.scroll)) live live)

pub new-requires-2 : goal.new-requires-2
new-requires-2 g c =
    let i = c.self-2.inside in
    let was = c.args.page in
    let mid = c.show.new.grid in
    let new = c.put_status.new.page in
    let drawn = c.in_ok-shown.ensures.drawn in
    let typed = c.in_ok-typed.typed in
    let at = c.cursor_cell-cursor.result in
    let status = subst (λ t. (let s = value_with g.D.BidiData i t in
    new ≡ record mid {
      columns = take (text_height s.editor.height * s.editor.width) mid.columns
          ++ status_columns (g.D.BidiData.data s.tables) s.editor;
    })) c.show.ensures.same c.in_ok-typed.ensures.status in
    let height : new.height ≡ c.height-height.result = ap (λ x. x.height) status ∙ ap (λ x. x.height) drawn ∙ sym c.height-height.ensures.height in
    let same = c.self-2.view_is ∙ c.in_ok-region.ensures.same ∙ c.in_ok-top.ensures.same in
    let width : new.width ≡ i.document.document.w =
    ap (λ x. x.width) status ∙ ap (λ x. x.width) drawn ∙ c.requires.width ∙ sym (ap (λ (s : EditorState g.row.D.Denot). s.editor.width) same) in
    let inside = subst (λ t. (let s = value_with g.D.BidiData i t in IfSome typed (λ k. (1 ≤ k) × (k ≤ s.editor.width))))
    c.show.ensures.same c.in_ok-typed.ensures.inside in
    let column = c.in_ok-shown.ensures.inside in
    let few = c.in_ok-shown.ensures.few in
    let low = c.text_height-count.ensures.inside in
    let high : c.height-height.result ≡ i.height =
    c.height-height.ensures.height ∙ c.requires.height ∙ sym (ap (λ (s : EditorState g.row.D.Denot). s.editor.height) same) in
    let side : i.height ≡ c.self.inside.height = ap (λ (s : EditorState g.row.D.Denot). s.editor.height) (same ∙ sym c.self.view_is) in
    let all = cursor-within c.height-height.result i.document.document.w at.line at.column typed inside c.cursor_cell-cursor.ensures.typed
    (λ none. (let here = c.cursor_cell-cursor.ensures.text none in record {
      top = omega (arith, here.0);
      bottom = omega (arith, here.0, few, low, high, side);
      left = omega (arith, here.1, column.0);
      right = omega (arith, here.1, column.1);
    })) (omega (arith, few, low, high, side)) in
    subst (λ h. IsWithin h new.width at.line at.column) (sym height)
    (subst (λ w. IsWithin c.height-height.result w at.line at.column) (sym width) all)

pub returns-clause-picture : goal.returns-clause-picture
returns-clause-picture g c =
    let i = c.self-2.inside in
    let d : Data = g.D.BidiData.data i.document.tables in
    let e : Editor = (value g.D.BidiData i).editor in
    let same = c.self-2.view_is ∙ c.in_ok-region.ensures.same ∙ c.in_ok-top.ensures.same in
    let all : List TextRow = rows d e in
    let top = c.in_ok-shown.shown.top in
    let was = c.args.page in
    let mid = c.show.new.grid in
    let new = c.put_status.new.page in
    let typed = c.in_ok-typed.typed in
    let at = c.cursor_cell-cursor.result in
    let drawn = c.in_ok-shown.ensures.drawn in
    let row = c.in_ok-shown.ensures.row in
    let cell = c.in_ok-shown.ensures.position.column in
    let n = c.text_height-count.result in
    let rows-count : n ≡ text_height i.height =
    c.text_height-count.ensures.rows ∙ ap (λ (s : EditorState g.row.D.Denot). text_height s.editor.height) (c.self.view_is ∙ sym same) in
    let status = subst (λ t. (let s = value_with g.D.BidiData i t in
    new ≡ record mid {
      columns = take (text_height s.editor.height * s.editor.width) mid.columns
          ++ status_columns (g.D.BidiData.data s.tables) s.editor;
    })) c.show.ensures.same c.in_ok-typed.ensures.status in
    let column : typed ≡ input_column d e = subst (λ t. (let s = value_with g.D.BidiData i t in
    typed ≡ input_column (g.D.BidiData.data s.tables) s.editor)) c.show.ensures.same c.in_ok-typed.ensures.column in
    let high : was.height ≡ i.height = c.requires.height ∙ sym (ap (λ (s : EditorState g.row.D.Denot). s.editor.height) same) in
    let wide : mid.width ≡ i.document.document.w =
    ap (λ x. x.width) drawn ∙ c.requires.width ∙ sym (ap (λ (s : EditorState g.row.D.Denot). s.editor.width) same) in
    let part : ℕ × ℕ = (c.in_ok-region.region.start, c.in_ok-region.region.stop) in
    let told : part ≡ seen d e = ap₂ (λ (a b : ℕ). (a, b)) c.in_ok-region.ensures.start c.in_ok-region.ensures.stop
    ∙ ap (λ (s : EditorState g.row.D.Denot). seen (g.D.BidiData.data s.tables) s.editor) (c.in_ok-top.ensures.same ∙ sym same) in
    let inside : n ≤ was.height =
    omega (arith, high, c.text_height-count.ensures.inside, ap (λ (s : EditorState g.row.D.Denot). s.editor.height) (c.self.view_is ∙ sym same)) in
    let front = drawn-front was mid (shown_columns d i.document.document top part n) n inside
    c.height-height.ensures.sized c.put_status.ensures.sized drawn in
    let shown : take (text_height i.height * i.document.document.w) mid.columns
    ≡ region_rows d e.width (seen d e) (text_height i.height) (shown_rows all top (text_height i.height)) =
    ap₂ (λ t w. take (t * w) mid.columns) (sym rows-count) (sym wide) ∙ front
    ∙ ap₂ (λ p t. region_rows d e.width p t (shown_rows all top t)) told rows-count in
    let last : c.height-height.result ≡ e.height = c.height-height.ensures.height ∙ high in
    let columns = region_rows d e.width (seen d e) (text_height e.height) (shown_rows all top (text_height e.height)) ++ status_columns d e in
    let drawn-is = picture-is new columns e.height e.width (row_of all e.place - row_of all top) (cell_of e.width all e.place) at.line at.column typed
    c.new-2.result c.new-2.ensures
    (ap (λ x. x.height) status ∙ ap (λ x. x.height) drawn ∙ high) (ap (λ x. x.width) status ∙ wide)
    (ap (λ x. x.columns) status ∙ ap (λ cs. cs ++ status_columns d e) shown)
    (subst (λ h. IfSome typed (λ k. (at.line ≡ h) × (at.column ≡ k))) last c.cursor_cell-cursor.ensures.typed)
    (λ none. (let here = c.cursor_cell-cursor.ensures.text none in (here.0 ∙ ap (λ k. k + 1) row, here.1 ∙ cell))) in
    let live = ap (λ (s : EditorState g.row.D.Denot). s.editor.ended) (same ∙ sym c.self.view_is) ∙ c.if-self.false in
    subst (λ (s : EditorState g.row.D.Denot). c.new-2.result ≡ picture (g.D.BidiData.data s.tables) s.editor top) same
    (drawn-is ∙ ap (λ (o : Option ℕ). with_cursor o (record {
      height = e.height;
      width = e.width;
      columns = columns;
      row = row_of all e.place - row_of all top;
      column = cell_of e.width all e.place - 1;
    })) column
    ∙ sym (ap (λ b. if b then blank_picture e.height e.width else text_picture d e top all) live))

pub returns-clause-cursor : goal.returns-clause-cursor
returns-clause-cursor g c = λ live none.
    let i = c.self-2.inside in
    let same = c.self-2.view_is ∙ c.in_ok-region.ensures.same ∙ c.in_ok-top.ensures.same in
    let top = c.in_ok-shown.shown.top in
    let count = c.text_height-count.ensures.rows
    ∙ ap (λ (s : EditorState g.row.D.Denot). text_height s.editor.height) (c.self.view_is ∙ sym same) in
    let column = c.in_ok-shown.ensures.inside in
    let wide : 1 ≤ i.document.document.w = omega (arith, column.0, column.1) in
    let some = subst (λ (s : EditorState g.row.D.Denot). 1 ≤ s.editor.width) same wide in
    let utf8 = subst (λ (s : EditorState g.row.D.Denot). IsUtf8 s.editor.content.text) same c.show.ensures.utf8 in
    let place = subst (λ (s : EditorState g.row.D.Denot). IsTextPlace (g.D.BidiData.data s.tables) s.editor.content.text s.editor.place) same
    c.self-2.invariant.0 in
    let shown = subst (λ (s : EditorState g.row.D.Denot). IsAmong (rows (g.D.BidiData.data s.tables) s.editor) top s.editor.place (text_height s.editor.height)) same
    (subst (λ n. IsAmong (document_rows (g.D.BidiData.data i.document.tables) i.document.document) top i.cursor.place n) count c.in_ok-shown.ensures.among) in
    let now : EditorState g.row.D.Denot = c.args.self.now in
    let e : Editor = now.editor in
    let d : Data = g.D.BidiData.data now.tables in
    stands d e top c.new-2.result some utf8 place shown none
    (returns-clause-picture g c ∙ ap (λ b. if b then blank_picture e.height e.width else text_picture d e top (rows d e)) live)

-- once the session has ended
pub returns-then-self-clause-picture : goal.returns-then-self-clause-picture
returns-then-self-clause-picture g c =
    let i = c.self.inside in
    let now : EditorState g.row.D.Denot = c.args.self.now in
    let e : Editor = now.editor in
    let d : Data = g.D.BidiData.data now.tables in
    let was = c.args.page in
    let step = c.blank_rows.ensures ∙ ap (λ h. with_rows was 0 (replicate ((h - 0) * was.width) blank)) c.height-height.ensures.height in
    let ended = sym (ap (λ (s : EditorState g.row.D.Denot). s.editor.ended) c.self.view_is) ∙ c.if-self.true in
    c.new.ensures
    ∙ ap (λ (x : GridState). record { height = x.height; width = x.width; columns = x.columns; row = 1 - 1; column = 1 - 1 })
    (all-blank was c.blank_rows.new.self c.height-height.ensures.sized step)
    ∙ ap₂ (λ h w. blank_picture h w) c.requires.height c.requires.width
    ∙ sym (ap (λ b. if b then blank_picture e.height e.width else text_picture d e c.args.top (rows d e)) ended)
