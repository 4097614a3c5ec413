use Rattle.std.proofs.Common.{◌≡◌, ◌++◌, ◌∙◌, get_or, map, take, drop, ap, refl, rules}
use Rattle.std.specs.Str.{IsUtf8}
use Rattle.std.proofs.lemmas.Str.{IsCharBoundary-start}
use Rattle.bx_rows.specs.LaterRows.{behind}
use Rattle.bx_rows.specs.RowStarts.{row_starts}
use Rattle.bx_paragraph.specs.BodyEdits.{changed}
use Rattle.bx_paragraph.specs.RowEdits.{origin}
use Rattle.bx_paragraph.proofs.EditedRows.{behind-origin, room-left, room-whole, rows-joined}
use Rattle.bx_paragraph.proofs.EditedText.{changed-kept, changed-short, changed-utf8}
use Rattle.bx_paragraph.proofs.Starts.{side-some}
use Rattle.bx_paragraph.proofs.edited_rows.edited_starts.Goals as goal

pub push_rest-requires-clause-room : goal.push_rest-requires-clause-room
push_rest-requires-clause-room g c =
    let ucd = g.D.BidiData.data c.args.tables.now in
    let e = c.args.edit.now in
    let row = c.in-Some.row in
    let body_is : IsUtf8 e.body.now = search rules in
    let inserted_is : IsUtf8 e.inserted.now = search rules in
    let kept = changed-kept e c.requires.edit ucd row body_is inserted_is (side-some e.w c.requires.side) c.requires.starts c.in-Some.ensures in
    room-left ucd e.w (changed e) e.starts.now row (changed-utf8 e c.requires.edit body_is inserted_is) (changed-short e c.requires.edit c.requires.short) kept

pub returns-then-is_char_boundary : goal.returns-then-is_char_boundary
returns-then-is_char_boundary g c =
    let ucd = g.D.BidiData.data c.args.tables.now in
    let e = c.args.edit.now in
    let row = c.in-Some.row in
    let starts = e.starts.now in
    let first = get_or starts row origin in
    let body_is : IsUtf8 e.body.now = search rules in
    let inserted_is : IsUtf8 e.inserted.now = search rules in
    let kept = changed-kept e c.requires.edit ucd row body_is inserted_is (side-some e.w c.requires.side) c.requires.starts c.in-Some.ensures in
    let front : c.extend_from_slice.new.self.items ≡ take row starts = search rules in
    let rest = row_starts ucd e.w (drop first.offset (changed e)) in
    c.in_ok-push_rest.ensures ∙ ap (λ xs. xs ++ map (behind first) rest) front
    ∙ rows-joined ucd e.w (changed e) starts rest row (changed-utf8 e c.requires.edit body_is inserted_is) kept refl

pub push_rest-requires-2-clause-first : goal.push_rest-requires-2-clause-first
push_rest-requires-2-clause-first g c =
    let body_is : IsUtf8 c.args.edit.now.body.now = search rules in IsCharBoundary-start c.args.edit.now.body.now body_is

pub push_rest-requires-2-clause-room : goal.push_rest-requires-2-clause-room
push_rest-requires-2-clause-room g c =
    let e = c.args.edit.now in
    let body_is : IsUtf8 e.body.now = search rules in
    let inserted_is : IsUtf8 e.inserted.now = search rules in
    room-whole (g.D.BidiData.data c.args.tables.now) e.w (changed e) (changed-utf8 e c.requires.edit body_is inserted_is)
    (changed-short e c.requires.edit c.requires.short)

pub returns : goal.returns
returns g c =
    let e = c.args.edit.now in
    let starts = row_starts (g.D.BidiData.data c.args.tables.now) e.w (changed e) in
    c.in_ok-push_rest-2.ensures ∙ ap (λ xs. xs ++ map (behind origin) starts) c.clear.ensures.items ∙ behind-origin starts
