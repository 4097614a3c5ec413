use Rattle.std.proofs.Common.{ℕ, List, ◌<◌, ◌-◌, ◌++◌, ◌∙◌, All, length, take, drop, get_or, map, refl, ap, ap₂, sym, subst, append_assoc, arith, rules}
use Rattle.std.specs.Str.{IsUtf8}
use Rattle.std.proofs.lemmas.List.{get_or_read, take_rest}
use Rattle.bx_rows.specs.declared.start_search.RowStart.{RowStart}
use Rattle.bx_rows.specs.LaterRows.{behind, moved}
use Rattle.bx_rows.specs.RowStarts.{row_starts}
use Rattle.bx_paragraph.specs.BodyEdits.{changed}
use Rattle.bx_paragraph.specs.RowEdits.{DoMeetNear, HasRoom, origin}
use Rattle.bx_paragraph.specs.declared.body_edit.BodyEdit.{BodyEdit}
use Rattle.bx_paragraph.proofs.EditedRows.{AreMet}
use Rattle.bx_paragraph.proofs.EditedText.{met-edit}
use Rattle.bx_paragraph.proofs.Starts.{side-some}
use Rattle.bx_paragraph.proofs.edited_rows.push_rest.Goals as goal
use Rattle.bx_paragraph.proofs.edited_rows.push_rest.Goals.{After-deref-in-Some}

-- ---- the rows found meet the old ones

module _ (g : _) (c : After-deref-in-Some g) where
  abbrev e : BodyEdit
  e = c.args.edit.now

  abbrev found : List RowStart
  found = c.in_ok-found.found.items

  abbrev i : ℕ
  i = c.in-Some.i

  abbrev k : ℕ
  k = c.in-Some.k

  abbrev size : ℕ
  size = length c.as_str-text.result.now

  abbrev shift : ℕ
  shift = size - length c.near_text-near.result.now

  meet : DoMeetNear e.w size shift e.stop found e.starts.now i k
  meet = subst (λ xs. DoMeetNear e.w size shift e.stop xs e.starts.now i k) c.deref.ensures.value c.in-Some.ensures

  inside : i < length found
  inside = omega (arith, meet.meet.found_inside, meet.well.inside)

  met : AreMet c.args.first (get_or e.starts.now k origin) (get_or found i origin) (take i found) (drop k e.starts.now)
      (row_starts (g.D.BidiData.data c.args.tables.now) e.w (drop c.args.first.offset (changed e)))
  met =
      let near = c.near_text-near in
      let text = c.as_str-text in
      let body_is : IsUtf8 e.body.now = search rules in
      let inserted_is : IsUtf8 e.inserted.now = search rules in
      met-edit e c.requires.edit c.args.first.offset c.range-before.result.now c.range_from-rest.result.now near.result.now text.result.now
      c.requires.before c.requires.first body_is inserted_is c.range-before.ensures.value c.range_from-rest.ensures.value near.ensures.near near.ensures.boundary
      (text.ensures.value ∙ c.in_ok-piece.ensures) (g.D.BidiData.data c.args.tables.now) shift i k c.args.first found (side-some e.w c.requires.side)
      c.requires.starts c.in_ok-found.ensures refl meet c.requires.room

pub push_behind-requires : goal.push_behind-requires
push_behind-requires g c =
    let room = (met g (goal.at.push_behind-requires g c).After-deref-in-Some).room_front in
    subst (λ xs. All (λ s. HasRoom (behind c.args.first s)) (take c.in-Some.i xs)) (sym c.deref-in-Some.ensures.value) room

pub behind-requires : goal.behind-requires
behind-requires g c =
    let at = (goal.at.behind-requires g c).After-deref-in-Some in
    subst (λ t. HasRoom (behind c.args.first t)) (sym (get_or_read (found g at) c.in-Some.i _ (inside g at) c.index.ensures origin)) (met g at).room_at

pub push_moved-requires : goal.push_moved-requires
push_moved-requires g c =
    let at = (goal.at.push_moved-requires g c).After-deref-in-Some in
    let k = c.in-Some.k in
    let starts = c.args.edit.now.starts.now in
    let new = c.behind.ensures ∙ ap (behind c.args.first) (get_or_read (found g at) c.in-Some.i _ (inside g at) c.index.ensures origin) in
    subst (λ xs. All (λ s. HasRoom (moved (get_or starts k origin) c.behind.result s)) xs) (sym (take_rest starts k))
    (subst (λ t. All (λ s. HasRoom (moved (get_or starts k origin) t s)) (drop k starts)) (sym new) (met g at).room_back)

pub returns-in-Some : goal.returns-in-Some
returns-in-Some g c =
    let at = (goal.at.returns-in-Some g c).After-deref-in-Some in
    let first = c.args.first in
    let found = c.in_ok-found.found.items in
    let i = c.in-Some.i in
    let k = c.in-Some.k in
    let starts = c.args.edit.now.starts.now in
    let before = c.args.starts.now.items in
    let new = c.behind.ensures ∙ ap (behind first) (get_or_read found i _ (inside g at) c.index.ensures origin) in
    let o = get_or starts k origin in
    let t = get_or found i origin in
    c.in_ok-push_moved.ensures
    ∙ ap₂ (λ xs ys. xs ++ ys) (c.in_ok-push_behind.ensures ∙ ap (λ ys. before ++ map (behind first) (take i ys)) c.deref-in-Some.ensures.value)
    (ap₂ (λ n ys. map (moved o n) ys) new (take_rest starts k))
    ∙ append_assoc before (map (behind first) (take i found)) (map (moved o (behind first t)) (drop k starts)) ∙ ap (λ xs. before ++ xs) (met g at).joined
