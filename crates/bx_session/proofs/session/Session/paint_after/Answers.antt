use Rattle.std.proofs.Common.{◌≡◌, ◌≤◌, ◌∙◌, ◌++◌, ℕ, List, sym, ap, subst, drop, length, arith}
use Rattle.std.proofs.lemmas.List.{length-append}
use Rattle.bx_grid.specs.Picture.{PictureState}
use Rattle.bx_ucd.specs.Data.{Data}
use Rattle.bx_editor.specs.Editor.{Editor, with_top}
use Rattle.bx_editor.specs.Functions.{EditorState}
use Rattle.bx_editor.specs.Picture.{top_behind}
use Rattle.bx_session.proofs.Pictures.{IsUnseen, fits_next, picture_height, picture_width, longer_by_both, painting_is, painting_queues, painting_appends, then_clip_longer, value_of}
use Rattle.bx_session.specs.Painting.{text_in}
use Rattle.bx_session.specs.Session.{Session, clip_after, painted_after, painting}
use Rattle.bx_session.specs.Feeding.{SessionState, known_if}
use Rattle.bx_session.proofs.session.Session.paint_after.Goals as goal

pub invariant_of-self-2 : goal.invariant_of-self-2
invariant_of-self-2 g c =
    let d : Data = g.D.BidiData.data c.self.inside.editor.tables in
    let e : Editor = c.self.inside.editor.editor in
    let drawn : c.picture.new.self.editor ≡ e = ap (λ (x : EditorState g.row.D.Denot). x.editor) c.in-Ok-picture.ensures.same in
    let same : c.set_top.new.self.editor ≡ with_top e c.in-Ok-picture.top =
    ap (λ (x : EditorState g.row.D.Denot). x.editor) c.set_top.ensures ∙ ap (λ (x : Editor). with_top x c.in-Ok-picture.top) drawn in
    let more : List ℕ = painting (known_if c.self.inside.is_known c.self.inside.painted) c.in-Ok-picture.picture in
    let fits : c.self.inside.taken ≤ length (c.self.inside.queue.items ++ more) = omega (arith, c.self.invariant.0, length-append c.self.inside.queue.items more) in (
      subst (λ (xs : List ℕ). c.self.inside.taken ≤ length xs) (sym c.in-Ok-append_both.ensures.bytes)
          (then_clip_longer c.self.inside.taken (c.self.inside.queue.items ++ more) (text_in c.clip_after-clip.result) fits),
      (
        ap (λ (p : PictureState). p.height) c.in-Ok-picture.ensures.picture ∙ picture_height d e c.in-Ok-picture.top ∙ ap (λ (x : Editor). x.height) (sym same),
        ap (λ (p : PictureState). p.width) c.in-Ok-picture.ensures.picture ∙ picture_width d e c.in-Ok-picture.top ∙ ap (λ (x : Editor). x.width) (sym same),
      ),
    )

pub append_both-requires : goal.append_both-requires
append_both-requires g c =
    let d : Data = g.D.BidiData.data c.self.inside.editor.tables in
    let e : Editor = c.self.inside.editor.editor in record {
      fits = fits_next (known_if c.self.inside.is_known c.self.inside.painted) e c.in-Ok-picture.picture c.self.invariant.1
          (ap (λ (p : PictureState). p.height) c.in-Ok-picture.ensures.picture ∙ picture_height d e c.in-Ok-picture.top)
          (ap (λ (p : PictureState). p.width) c.in-Ok-picture.ensures.picture ∙ picture_width d e c.in-Ok-picture.top);
    }

pub returns-clause-ok : goal.returns-clause-ok
returns-clause-ok g c =
    let d : Data = g.D.BidiData.data c.self.inside.editor.tables in
    let s : Session = value_of c.self.inside in
    let drawn : c.picture.new.self.editor ≡ s.editor = ap (λ (x : EditorState g.row.D.Denot). x.editor) c.in-Ok-picture.ensures.same in
    painting_is d s c.set_top.new.self.editor c.in-Ok-picture.top c.in-Ok-picture.picture (text_in c.clip_after-clip.result)
    (drop c.self.inside.taken c.append_both.new.queue.items)
    (ap (λ (x : EditorState g.row.D.Denot). x.editor) c.set_top.ensures ∙ ap (λ (x : Editor). with_top x c.in-Ok-picture.top) drawn)
    c.in-Ok-picture.ensures.picture
    (longer_by_both c.self.inside.taken c.self.inside.queue.items (painting (known_if c.self.inside.is_known c.self.inside.painted) c.in-Ok-picture.picture)
    c.append_both.new.queue.items (text_in c.clip_after-clip.result) c.self.invariant.0 c.in-Ok-append_both.ensures.bytes)
    c.args.scroll c.args.key (c.in-Ok-picture.ensures.top ∙ ap (λ t. top_behind d s.editor t c.args.scroll) c.top-top.ensures) (c.clip_after-clip.ensures ∙ ap (λ (x : Editor). clip_after x c.args.key) drawn)
    ∙ ap (λ (x : SessionState g.row.D.Denot). painted_after (g.D.BidiData.data x.tables) c.args.scroll x.session c.args.key) c.self.view_is

pub returns-clause-paints : goal.returns-clause-paints
returns-clause-paints g c =
    let d : Data = g.D.BidiData.data c.self.inside.editor.tables in
    let s : Session = value_of c.self.inside in
    let drawn : c.picture.new.self.editor ≡ s.editor = ap (λ (x : EditorState g.row.D.Denot). x.editor) c.in-Ok-picture.ensures.same in
    let unseen : IsUnseen (text_in c.clip_after-clip.result) =
    record { shows = c.in-Ok-append_both.ensures.shows; tokens = c.in-Ok-append_both.ensures.whole; gives = c.in-Ok-append_both.ensures.gives } in
    rw (← c.self.view_is)
    (painting_queues d s c.set_top.new.self.editor c.in-Ok-picture.top c.in-Ok-picture.picture (text_in c.clip_after-clip.result)
    (drop c.self.inside.taken c.append_both.new.queue.items)
    (ap (λ (x : EditorState g.row.D.Denot). x.editor) c.set_top.ensures ∙ ap (λ (x : Editor). with_top x c.in-Ok-picture.top) drawn)
    c.in-Ok-picture.ensures.picture
    (longer_by_both c.self.inside.taken c.self.inside.queue.items (painting (known_if c.self.inside.is_known c.self.inside.painted) c.in-Ok-picture.picture)
    c.append_both.new.queue.items (text_in c.clip_after-clip.result) c.self.invariant.0 c.in-Ok-append_both.ensures.bytes)
    c.append_both.ensures.tokens c.append_both.ensures.updates c.append_both.ensures.is_picture c.in-Ok-picture.ensures.cursor unseen)

pub returns-clause-appends : goal.returns-clause-appends
returns-clause-appends g c =
    let d : Data = g.D.BidiData.data c.self.inside.editor.tables in
    let s : Session = value_of c.self.inside in
    let drawn : c.picture.new.self.editor ≡ s.editor = ap (λ (x : EditorState g.row.D.Denot). x.editor) c.in-Ok-picture.ensures.same in
    let unseen : IsUnseen (text_in c.clip_after-clip.result) =
    record { shows = c.in-Ok-append_both.ensures.shows; tokens = c.in-Ok-append_both.ensures.whole; gives = c.in-Ok-append_both.ensures.gives } in
    rw (← c.self.view_is)
    (painting_appends d s c.set_top.new.self.editor c.in-Ok-picture.top c.in-Ok-picture.picture (text_in c.clip_after-clip.result)
    (drop c.self.inside.taken c.append_both.new.queue.items)
    (ap (λ (x : EditorState g.row.D.Denot). x.editor) c.set_top.ensures ∙ ap (λ (x : Editor). with_top x c.in-Ok-picture.top) drawn)
    c.in-Ok-picture.ensures.picture
    (longer_by_both c.self.inside.taken c.self.inside.queue.items (painting (known_if c.self.inside.is_known c.self.inside.painted) c.in-Ok-picture.picture)
    c.append_both.new.queue.items (text_in c.clip_after-clip.result) c.self.invariant.0 c.in-Ok-append_both.ensures.bytes)
    c.args.key (c.clip_after-clip.ensures ∙ ap (λ (x : Editor). clip_after x c.args.key) drawn) unseen)
