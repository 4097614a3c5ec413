-- The edited body from an offset on, in pieces.
use Rattle.std.proofs.Common.{◌≡◌, ℕ, ◌+◌, ◌-◌, ◌^◌, ◌<◌, ◌≤◌, ◌∙◌, List, ◌++◌, length, take, drop, get_or, refl, sym, ap, ap₂, subst, arith}
use Rattle.std.proofs.Common.{All, append_assoc, length-append, length-drop, length-take-le, take-append-drop}
use Rattle.std.specs.List.{splice}
use Rattle.std.specs.Str.{IsCharBoundary, IsUtf8}
use Rattle.std.proofs.lemmas.Str.{IsCharBoundary-at_seam, IsUtf8-append, IsUtf8-between, IsUtf8-drop, IsUtf8-take}
use Rattle.std.proofs.Math.Seq.{drop-append-add, drop-append_seam, take-append_seam}
use Rattle.bx_ucd.specs.Data.{Data}
use Rattle.unicode_segmentation.proofs.TextLemmas.{take_split}
use Rattle.bx_rows.specs.declared.start_search.RowStart.{RowStart}
use Rattle.bx_rows.specs.LaterRows.{behind}
use Rattle.bx_rows.specs.RowStarts.{row_starts}
use Rattle.bx_paragraph.specs.BodyEdits.{IsEdit, changed}
use Rattle.bx_paragraph.specs.RowEdits.{DoMeetNear, HasRoom, IsWellBefore, origin}
use Rattle.bx_paragraph.specs.declared.body_edit.BodyEdit.{BodyEdit}
use Rattle.bx_paragraph.proofs.EditedRows.{AreKept, AreMet, kept-rows, met-near}

left-of : (body inserted : List ℕ) (from start stop : ℕ) → from ≤ start → start ≤ length body
    → drop from (splice body start stop inserted) ≡ take (start - from) (drop from body) ++ (inserted ++ drop stop body)
left-of body inserted from start stop le h =
    let front = take from body in
    let before = take (start - from) (drop from body) in
    let rest = inserted ++ drop stop body in
    let size : length front ≡ from = length-take-le from body (omega (arith, h, le)) in
    ap₂ (λ k xs. drop k (xs ++ rest)) (sym size) (take_split body from start le) ∙ ap (λ xs. drop (length front) xs) (append_assoc front before rest)
    ∙ drop-append_seam front (before ++ rest)

module _ (e : BodyEdit) (is : IsEdit e) where
  pub changed-left : (from : ℕ) → from ≤ e.start
      → drop from (changed e) ≡ take (e.start - from) (drop from e.body.now) ++ (e.inserted.now ++ drop e.stop e.body.now)
  changed-left from le = left-of e.body.now e.inserted.now from e.start e.stop le is.start.0

  behind-utf8 : IsUtf8 e.body.now → IsUtf8 e.inserted.now → IsUtf8 (e.inserted.now ++ drop e.stop e.body.now)
  behind-utf8 u v = IsUtf8-append e.inserted.now (drop e.stop e.body.now) v (IsUtf8-drop e.body.now e.stop u is.stop)

  pub changed-utf8 : IsUtf8 e.body.now → IsUtf8 e.inserted.now → IsUtf8 (changed e)
  changed-utf8 u v =
      IsUtf8-append (take e.start e.body.now) (e.inserted.now ++ drop e.stop e.body.now) (IsUtf8-take e.body.now e.start u is.start) (behind-utf8 u v)

  -- the rows of the body up to one well before the edit stay
  pub changed-kept : (ucd : Data) (row : ℕ) → IsUtf8 e.body.now → IsUtf8 e.inserted.now → 1 ≤ e.w
      → e.starts.now ≡ row_starts ucd e.w e.body.now → IsWellBefore e.w e.start e.starts.now row → AreKept ucd e.w (changed e) e.starts.now row
  changed-kept ucd row u v some f well =
      let front = take e.start e.body.now in
      let rest = e.inserted.now ++ drop e.stop e.body.now in
      let size : length front ≡ e.start = length-take-le e.start e.body.now is.start.0 in
      let at_start = subst (IsCharBoundary (changed e)) size (IsCharBoundary-at_seam (changed e) front rest refl (behind-utf8 u v)) in
      let shared : front ≡ take e.start (changed e) = sym (ap (λ k. take k (front ++ rest)) (sym size) ∙ take-append_seam front rest) in
      kept-rows ucd e.w e.body.now (changed e) e.start row e.starts.now some u (changed-utf8 u v) is.start at_start shared f well

  pub changed-short : length e.body.now + length e.inserted.now < 2 ^ 64 → length (changed e) < 2 ^ 64
  changed-short short =
      let order = is.order in
      let within = is.stop.0 in
      let taken = length-take-le e.start e.body.now is.start.0 in
      let behind_is = drop e.stop e.body.now in
      omega (
        arith,
        order,
        within,
        short,
        taken,
        length-append (take e.start e.body.now) (e.inserted.now ++ behind_is),
        length-append e.inserted.now behind_is,
        length-drop e.stop e.body.now,
      )

  -- what is left of it from an offset on, in pieces: what stands before the inserted text, and the rest, after it; `text` has as much of
  -- the rest as `near`
  module _ (from : ℕ) (before rest near text : List ℕ) (le : from ≤ e.start) (at_from : IsCharBoundary e.body.now from) (u : IsUtf8 e.body.now)
      (v : IsUtf8 e.inserted.now) (before_is : before ≡ take (e.start - from) (drop from e.body.now)) (rest_is : rest ≡ drop e.stop e.body.now)
      (near_is : near ≡ take (length near) rest) (at_near : IsCharBoundary rest (length near)) (text_is : text ≡ before ++ (e.inserted.now ++ near)) where
    abbrev whole : List ℕ
    whole = before ++ (e.inserted.now ++ rest)

    pieces : drop from (changed e) ≡ whole
    pieces = changed-left from le ∙ ap₂ (λ xs ys. xs ++ (e.inserted.now ++ ys)) (sym before_is) (sym rest_is)

    before-utf8 : IsUtf8 before
    before-utf8 = subst IsUtf8 (sym before_is) (IsUtf8-between e.body.now from e.start u le at_from is.start)

    rest-utf8 : IsUtf8 rest
    rest-utf8 = subst IsUtf8 (sym rest_is) (IsUtf8-drop e.body.now e.stop u is.stop)

    near-utf8 : IsUtf8 near
    near-utf8 = subst IsUtf8 (sym near_is) (IsUtf8-take rest (length near) rest-utf8 at_near)

    whole-utf8 : IsUtf8 whole
    whole-utf8 = IsUtf8-append before (e.inserted.now ++ rest) before-utf8 (IsUtf8-append e.inserted.now rest v rest-utf8)

    text-utf8 : IsUtf8 text
    text-utf8 =
        subst IsUtf8 (sym text_is) (IsUtf8-append before (e.inserted.now ++ near) before-utf8 (IsUtf8-append e.inserted.now near v near-utf8))

    cut : whole ≡ text ++ drop (length near) rest
    cut =
        let tail = drop (length near) rest in
        ap (λ xs. before ++ (e.inserted.now ++ xs)) (sym (take-append-drop (length near) rest) ∙ ap (λ xs. xs ++ tail) (sym near_is))
        ∙ ap (λ xs. before ++ xs) (sym (append_assoc e.inserted.now near tail)) ∙ sym (append_assoc before (e.inserted.now ++ near) tail)
        ∙ ap (λ xs. xs ++ tail) (sym text_is)

    at-cut : IsCharBoundary whole (length text)
    at-cut = IsCharBoundary-at_seam whole text (drop (length near) rest) cut (IsUtf8-drop rest (length near) rest-utf8 at_near)

    taken : text ≡ take (length text) whole
    taken = sym (ap (λ xs. take (length text) xs) cut ∙ take-append_seam text (drop (length near) rest))

    pub text-length : length text ≡ length before + (length e.inserted.now + length near)
    text-length =
        ap length text_is ∙ length-append before (e.inserted.now ++ near) ∙ ap (λ n. length before + n) (length-append e.inserted.now near)

    left : (shift : ℕ) → shift ≡ length text - length near → drop e.stop e.body.now ≡ drop shift whole
    left shift h =
        let n : shift ≡ length before + length e.inserted.now = omega (arith, h, text-length) in
        sym (ap (λ k. drop k whole) n ∙ drop-append-add before (e.inserted.now ++ rest) (length e.inserted.now) ∙ drop-append_seam e.inserted.now rest ∙ rest_is)

    pub met-edit : (ucd : Data) (shift i k : ℕ) (first : RowStart) (found : List RowStart) → 1 ≤ e.w → e.starts.now ≡ row_starts ucd e.w e.body.now
        → found ≡ row_starts ucd e.w text → shift ≡ length text - length near
        → DoMeetNear e.w (length text) shift e.stop found e.starts.now i k
        → All (λ s. HasRoom (behind first s)) (row_starts ucd e.w (drop from (changed e)))
        → AreMet first (get_or e.starts.now k origin) (get_or found i origin) (take i found) (drop k e.starts.now)
        (row_starts ucd e.w (drop from (changed e)))
    met-edit ucd shift i k first found some f g h meet room =
        let here = subst (λ xs. All (λ s. HasRoom (behind first s)) (row_starts ucd e.w xs)) pieces room in
        let met = met-near ucd e.w e.body.now whole text e.stop shift i k first e.starts.now found some u whole-utf8 text-utf8 at-cut taken f g (left shift h) meet here in
        subst (λ xs. AreMet first (get_or e.starts.now k origin) (get_or found i origin) (take i found) (drop k e.starts.now) (row_starts ucd e.w xs))
        (sym pieces) met
