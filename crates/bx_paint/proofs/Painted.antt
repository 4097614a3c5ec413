-- A terminal that reads the bytes sent for a row, and for all rows.
use Rattle.std.proofs.Common.{◌≡◌, ℕ, ◌+◌, ◌*◌, ◌-◌, ◌<◌, ◌≤◌, Bool, true, false, List, [], ◌∷◌, ◌++◌, length, take, drop, replicate, Option, Some, None, zero}
use Rattle.std.proofs.Common.{suc, refl, ap, sym, ◌∙◌, append_assoc, length-append, arith}
use Rattle.std.specs.List.{list_all}
use Rattle.std.proofs.lemmas.List.{append-nil, take-append-drop, length-take-le, length-drop, length-replicate, replicate-append-replicate, drop_all}
use Rattle.std.proofs.lemmas.List.{nil_from_length}
use Rattle.bx_grid.specs.Columns.{Col, blank, is_blank, put, cut_after}
use Rattle.bx_grid.specs.Effects.{Effect, Erases}
use Rattle.bx_grid.specs.Glyphs.{AreWhole, AreWholeRows}
use Rattle.bx_grid.specs.Terminal.{Terminal}
use Rattle.bx_grid.specs.Picture.{PictureState}
use Rattle.bx_grid.proofs.Blanks.{blanks_are}
use Rattle.bx_grid.proofs.Doing.{run, run-append}
use Rattle.bx_grid.proofs.Whole.{whole-nil, whole-append, whole_along, whole_right, whole_blanks}
use Rattle.bx_paint.specs.Painting.{then_sent, before_tail, leading_blanks, columns_sent, tail_sent, row_sent, rows_sent, move_bytes, render_change}
use Rattle.bx_paint.specs.Painting.{erase_bytes}
use Rattle.bx_paint.specs.Changed.{glyphs_changed, tail_changed, row_changed, rows_changed}
use Rattle.bx_paint.proofs.Rest.{partly, IsAtColumn, kept_blanks, put_partly}
use Rattle.bx_paint.proofs.Tails.{blanks_first, front_le, front_blanks, whole_front}
use Rattle.bx_paint.proofs.Sent.{leading_blanks_le, all_blank_is}
use Rattle.bx_paint.proofs.Sequences.{screen, Leaves, plain_leaves, Fits, moves, turned, erases}
use Rattle.bx_paint.proofs.Drawn.{Comes, come_by, come_after, Stands, columns_do}

-- ---- the tail

not_all_lead : (olds : List Col) → list_all is_blank olds ≡ false → leading_blanks olds ≡ length olds → ⊥
not_all_lead olds e h = let t : true ≡ false = sym (all_blank_is olds h) ∙ e in cc t

-- blanks that are there already are done
blanks_done : (k : ℕ) (above done before olds below : List Col) → take k olds ≡ replicate k blank → AreWhole (before ++ olds)
    → partly above done olds below ≡ partly above (done ++ replicate k blank) (drop k olds) below
blanks_done k above done before olds below blanks whole =
    let split : olds ≡ replicate k blank ++ drop k olds = sym (take-append-drop k olds) ∙ ap (λ xs. xs ++ drop k olds) blanks in
    ap (λ xs. above ++ (xs ++ below))
    (ap (λ xs. done ++ cut_after 0 xs) split
    ∙ ap (λ xs. done ++ xs) (kept_blanks k before (drop k olds)
    (whole_along (before ++ olds) (before ++ (replicate k blank ++ drop k olds)) (ap (λ xs. before ++ xs) split) whole))
    ∙ sym (append_assoc done (replicate k blank) (cut_after 0 (drop k olds))))

-- blanks put over the rest of a tail, from its first column that is not a blank
tail_put : (r f w k m : ℕ) (above done before olds below : List Col) → IsAtColumn r f w above done olds → AreWhole (before ++ olds)
    → take k olds ≡ replicate k blank → k + m ≡ length olds
    → put w (partly above done olds below) r (f + k) (replicate m blank) ≡ above ++ ((done ++ replicate (length olds) blank) ++ below)
tail_put r f w k m above done before olds below index whole first count =
    let start = done ++ replicate k blank in
    let news = replicate m blank in
    let left : length (drop k olds) ≡ m = length-drop k olds ∙ omega (arith, count) in
    let there : IsAtColumn r (f + k) w above start (drop k olds) = record {
      high = index.high;
      at = length-append done (replicate k blank) ∙ omega (arith, index.at, length-replicate k blank);
      wide = omega (arith, left, count, index.wide);
      whole = whole-append done (replicate k blank) index.whole (whole_blanks k);
    } in
    let none : drop (length news) (drop k olds) ≡ [] = drop_all (length news) (drop k olds) (omega (arith, left, length-replicate m blank)) in
    let blanks : start ++ news ≡ done ++ replicate (length olds) blank =
    append_assoc done (replicate k blank) news ∙ ap (λ xs. done ++ xs) (replicate-append-replicate k m blank ∙ ap (λ n. replicate n blank) count) in
    ap (λ cs. put w cs r (f + k) news) (blanks_done k above done before olds below first whole)
    ∙ put_partly above start (drop k olds) below news r (f + k) w there
    ∙ ap (λ xs. partly above (start ++ news) xs below) none
    ∙ ap (λ xs. above ++ (xs ++ below)) (append-nil (start ++ news) ∙ blanks)

-- an erasure at an index, in whatever rendition
erased_at : (p : PictureState) (r c : ℕ) (negative : Bool) (columns : List Col) (w : Terminal × List Effect) (q : Option (ℕ × ℕ)) (all : List Effect)
    → Fits p → r < p.height → c < p.width → Leaves p w columns q negative all
    → run w (move_bytes r c ++ (render_change negative false ++ erase_bytes))
    ≡ (screen p (put p.width columns r c (replicate (p.width - c) blank)) None false [], all ++ Erases (r * p.width + c) ∷ [])
erased_at p r c negative columns w q all fits rh small leaves =
    run-append w (move_bytes r c) (render_change negative false ++ erase_bytes)
    ∙ ap (λ v. run v (render_change negative false ++ erase_bytes)) (moves p w columns q negative all r c leaves rh small fits.height fits.width)
    ∙ run-append (screen p columns (Some (r, c)) negative [], all) (render_change negative false) erase_bytes
    ∙ ap (λ v. run v erase_bytes) (turned p columns (Some (r, c)) negative false all)
    ∙ erases p columns r c all

erased : (p : PictureState) (r f : ℕ) (negative : Bool) (above done before olds below : List Col) (w : Terminal × List Effect) (q : Option (ℕ × ℕ))
    (all : List Effect)
    → Fits p → r < p.height → IsAtColumn r f p.width above done olds → AreWhole (before ++ olds)
    → Leaves p w (partly above done olds below) q negative all → leading_blanks olds < length olds
    → run w (move_bytes r (f + leading_blanks olds) ++ (render_change negative false ++ erase_bytes))
    ≡ (screen p (above ++ ((done ++ replicate (length olds) blank) ++ below)) None false [], all ++ Erases (r * p.width + f + leading_blanks olds) ∷ [])
erased p r f negative above done before olds below w q all fits rh index whole leaves some =
    let k = leading_blanks olds in
    let put_is = tail_put r f p.width k (p.width - (f + k)) above done before olds below index whole (blanks_first olds) (omega (arith, some, index.wide)) in
    let next : r * p.width + (f + k) ≡ r * p.width + f + k = omega arith in
    erased_at p r (f + k) negative (partly above done olds below) w q all fits rh (omega (arith, some, index.wide)) leaves
    ∙ rw (put_is, next) refl

tail_by : (t : Bool) (p : PictureState) (r f : ℕ) (negative : Bool) (above done before olds below : List Col) (w : Terminal × List Effect) (q : Option (ℕ × ℕ))
    (all : List Effect)
    → Fits p → r < p.height → IsAtColumn r f p.width above done olds → AreWhole (before ++ olds)
    → Leaves p w (partly above done olds below) q negative all → list_all is_blank olds ≡ t
    → Comes p (run w (tail_sent r f negative olds).bytes) (above ++ ((done ++ replicate (length olds) blank) ++ below)) (tail_sent r f negative olds).negative
    (all ++ tail_changed (r * p.width + f) olds)
tail_by true p r f negative above done before olds below w q all fits rh index whole leaves e =
    let blanks : cut_after 0 olds ≡ replicate (length olds) blank =
    ap (cut_after 0) (blanks_are olds e) ∙ whole_right 0 (replicate (length olds) blank) (whole_blanks (length olds)) in
    rw e (
      q,
      record {
        no_token = leaves.no_token;
        effect = leaves.effect ∙ ap (λ xs. screen p (above ++ ((done ++ xs) ++ below)) q negative []) blanks;
        told = leaves.told ∙ sym (append-nil all);
      },
    )
tail_by false p r f negative above done before olds below w q all fits rh index whole leaves e =
    let some : leading_blanks olds < length olds = omega (arith, leading_blanks_le olds, not_all_lead olds e) in
    let is = erased p r f negative above done before olds below w q all fits rh index whole leaves some in
    rw (e, is) (
      None,
      plain_leaves p (above ++ ((done ++ replicate (length olds) blank) ++ below)) None false
          (all ++ Erases (r * p.width + f + leading_blanks olds) ∷ []),
    )

-- ---- a row

row_does : (p : PictureState) (r : ℕ) (negative : Bool) (above old new below : List Col) (w : Terminal × List Effect) (q : Option (ℕ × ℕ)) (all : List Effect)
    → Fits p → r < p.height → length above ≡ r * p.width → length old ≡ p.width → length new ≡ p.width → AreWhole old → AreWhole new
    → Leaves p w (above ++ (old ++ below)) q negative all
    → Comes p (run w (row_sent r negative old new).bytes) ((above ++ new) ++ below) (row_sent r negative old new).negative
    (all ++ row_changed (r * p.width) old new)
row_does p r negative above old new below w q all fits rh high wide wide' whole whole' leaves =
    let front = before_tail new in
    let f = length front in
    let olds = take f old in
    let rest = drop f old in
    let fle : f ≤ length new = front_le new in
    let olen : length olds ≡ f = length-take-le f old (omega (arith, fle, wide, wide')) in
    let rlen : length rest ≡ p.width - f = length-drop f old ∙ omega (arith, wide) in
    let split : olds ++ rest ≡ old = take-append-drop f old in
    let parts_whole : AreWhole (olds ++ rest) = whole_along old (olds ++ rest) (sym split) whole in
    let there : cut_after 0 (olds ++ rest) ≡ old = ap (cut_after 0) split ∙ whole_right 0 old whole in
    let begin : IsAtColumn r 0 p.width above [] (olds ++ rest) =
    record { high = high; at = refl; wide = omega (arith, ap length split, wide); whole = whole-nil } in
    let stands : Stands p w false negative above [] (olds ++ rest) below r 0 all = record {
      position = q;
      leaves = record {
        no_token = leaves.no_token;
        effect = leaves.effect ∙ ap (λ xs. screen p (above ++ (xs ++ below)) q negative []) (sym there);
        told = leaves.told;
      };
      near_by = λ e. absurd (cc e);
    } in
    let first = columns_do p r above rest below front fits rh (whole_front new whole') olds [] [] w 0 false negative all begin parts_whole olen stands in
    let s = columns_sent r 0 false negative olds front in
    let zero_index : r * p.width + 0 ≡ r * p.width = omega arith in
    let effects = all ++ glyphs_changed (r * p.width + 0) olds front in
    let index : IsAtColumn r f p.width above front rest =
    record { high = high; at = refl; wide = omega (arith, rlen, fle, wide'); whole = whole_front new whole' } in
    let second = tail_by (list_all is_blank rest) p r f s.negative above front olds rest below (run w s.bytes) first.0 effects fits rh index parts_whole first.1
    refl in
    let t = tail_sent r f s.negative rest in
    let new_is : front ++ replicate (length rest) blank ≡ new =
    ap (λ n. front ++ replicate n blank) (let e : length rest ≡ length new - f = omega (arith, rlen, wide') in e) ∙ front_blanks new in
    come_by p w (row_sent r negative old new) (then_sent s.bytes t) ((above ++ new) ++ below) (above ++ ((front ++ replicate (length rest) blank) ++ below))
    (all ++ row_changed (r * p.width) old new) (effects ++ tail_changed (r * p.width + f) rest)
    refl (append_assoc above new below ∙ ap (λ xs. above ++ (xs ++ below)) (sym new_is))
    (ap (λ n. all ++ (glyphs_changed n olds front ++ tail_changed (r * p.width + f) rest)) (sym zero_index)
    ∙ sym (append_assoc all (glyphs_changed (r * p.width + 0) olds front) (tail_changed (r * p.width + f) rest)))
    (come_after p w s.bytes t.bytes _ _ _ second)

-- ---- all rows

pub rows_do : (p : PictureState) (count r : ℕ) (negative : Bool) (above old new : List Col) (w : Terminal × List Effect) (q : Option (ℕ × ℕ))
    (all : List Effect)
    → Fits p → r + count ≤ p.height → length above ≡ r * p.width → length old ≡ count * p.width → length new ≡ count * p.width
    → AreWholeRows count p.width old → AreWholeRows count p.width new
    → Leaves p w (above ++ old) q negative all
    → Comes p (run w (rows_sent count r p.width negative old new).bytes) (above ++ new) (rows_sent count r p.width negative old new).negative
    (all ++ rows_changed count p.width (r * p.width) old new)
rows_do p zero r negative above old new w q all fits rh high tall tall' whole whole' leaves =
    let none : old ≡ new = nil_from_length old (omega (arith, tall)) ∙ sym (nil_from_length new (omega (arith, tall'))) in (
      q,
      record {
        no_token = leaves.no_token;
        effect = leaves.effect ∙ ap (λ cs. screen p (above ++ cs) q negative []) none;
        told = leaves.told ∙ sym (append-nil all);
      },
    )
rows_do p (suc count) r negative above old new w q all fits rh high tall tall' whole whole' leaves =
    let v = p.width in
    let olds = take v old in
    let news = take v new in
    let more : suc count * v ≡ v + count * v = omega arith in
    let olen : length olds ≡ v = length-take-le v old (omega (arith, tall, more)) in
    let nlen : length news ≡ v = length-take-le v new (omega (arith, tall', more)) in
    let split : above ++ old ≡ above ++ (olds ++ drop v old) = ap (λ xs. above ++ xs) (sym (take-append-drop v old)) in
    let first = row_does p r negative above olds news (drop v old) w q all fits (omega (arith, rh)) high olen nlen whole.0 whole'.0
    (record { no_token = leaves.no_token; effect = leaves.effect ∙ ap (λ cs. screen p cs q negative []) split; told = leaves.told }) in
    let s = row_sent r negative olds news in
    let effects = row_changed (r * v) olds news in
    let next : r * v + v ≡ (r + 1) * v = omega arith in
    let second = rows_do p count (r + 1) s.negative (above ++ news) (drop v old) (drop v new) (run w s.bytes) first.0 (all ++ effects) fits (omega (arith, rh))
    (length-append above news ∙ omega (arith, high, nlen)) (length-drop v old ∙ omega (arith, tall, more)) (length-drop v new ∙ omega (arith, tall', more))
    whole.1 whole'.1 first.1 in
    let t = rows_sent count (r + 1) v s.negative (drop v old) (drop v new) in
    let rest = rows_changed count v ((r + 1) * v) (drop v old) (drop v new) in
    let new_is : (above ++ news) ++ drop v new ≡ above ++ new = append_assoc above news (drop v new) ∙ ap (λ xs. above ++ xs) (take-append-drop v new) in
    let all_is : all ++ rows_changed (suc count) v (r * v) old new ≡ (all ++ effects) ++ rest =
    ap (λ n. all ++ (effects ++ rows_changed count v n (drop v old) (drop v new))) next ∙ sym (append_assoc all effects rest) in
    rw (all_is, ← new_is) (come_after p w s.bytes t.bytes ((above ++ news) ++ drop v new) t.negative ((all ++ effects) ++ rest) second)
