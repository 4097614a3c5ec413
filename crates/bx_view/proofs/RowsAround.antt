-- The rows of a text around one paragraph: those before it, its own, and those after it.
use Rattle.std.proofs.Common.{◌≡◌, ℕ, ◌+◌, ◌-◌, ◌<◌, ◌≤◌, nat_le, List, [], ◌∷◌, ◌++◌, map, length, IsUtf8, refl}
use Rattle.std.proofs.Common.{cond, sym, ap, subst, ◌∙◌, arith, append_assoc, length-append}
use Rattle.std.proofs.lemmas.Bool.Decides.{nat_tests}
use Rattle.std.proofs.lemmas.List.{map-append, length-map, get_or-map, get_or_append_left, get_or-append-add}
use Rattle.std.proofs.lemmas.List.Sums.{sum_by-cons}
use Rattle.bx_ucd.specs.Data.{Data}
use Rattle.bx_common.specs.declared.base.Base.{Base}
use Rattle.bx_text.specs.index.Paragraphs.{Paragraph, lengths_of, paragraphs, bytes_of, total}
use Rattle.bx_paragraph.specs.BodyRows.{BodyRow, body_rows, first_of, no_row}
use Rattle.bx_paragraph.specs.BodyRows.{row_at as row_at_body}
use Rattle.bx_paragraph.specs.Layout.{row_of as row_of_body}
use Rattle.bx_view.specs.TextRows.{TextRow, first, no_text_row, row_at, row_of, rows_from, text_row, text_rows}
use Rattle.bx_view.proofs.Parts.{AreEnded, AreUtf8}
use Rattle.bx_view.proofs.Rising.{Rises, all-rank, rank, rank-append, rank-few, rank-first, none-rank, rises-append, rises-further, rises-moved}

-- the rows of a body begin at its begin, and then further on in it
pub record BodyFirsts (body : List ℕ) (rows : List BodyRow) : Type 0 where
  pub others : List ℕ
  pub firsts : map first_of rows ≡ 0 ∷ others
  pub rise : Rises 1 others (length body + 1)

-- a text's paragraphs around the one of a number, which begins at the offset `start`
pub record IsAmong (ucd : Data) (text : List ℕ) (number start : ℕ) (p : Paragraph) (ahead behind : List Paragraph) : Type 0 where
  pub parts : paragraphs ucd text ≡ ahead ++ p ∷ behind
  pub number_is : number ≡ length ahead
  pub start_is : start ≡ total (map lengths_of ahead)

-- an offset lies before `stop`, if there are further paragraphs
abbrev pub EndsBefore : List Paragraph → ℕ → ℕ → Type 0
EndsBefore [] offset stop = Unit {0}
EndsBefore (p ∷ ps) offset stop = offset < stop

-- each of some paragraphs ends with a separator
abbrev pub AllEnded : List Paragraph → Type 0
AllEnded [] = Unit {0}
AllEnded (p ∷ ps) = (0 < length p.separator) × AllEnded ps

pub ahead-ended : (ps : List Paragraph) (p : Paragraph) (qs : List Paragraph) → AreEnded (ps ++ p ∷ qs) → AllEnded ps
ahead-ended [] p qs h = tt
ahead-ended (a ∷ []) p qs h = (h.0, tt)
ahead-ended (a ∷ b ∷ ps) p qs h = (h.0, ahead-ended (b ∷ ps) p qs h.1)

pub behind-ended : (ps qs : List Paragraph) → AreEnded (ps ++ qs) → AreEnded qs
behind-ended [] qs h = h
behind-ended (a ∷ []) [] h = tt
behind-ended (a ∷ []) (q ∷ qs) h = h.1
behind-ended (a ∷ b ∷ ps) qs h = behind-ended (b ∷ ps) qs h.1

pub ahead-utf8 : (ps qs : List Paragraph) → AreUtf8 (ps ++ qs) → AreUtf8 ps
ahead-utf8 [] qs h = tt
ahead-utf8 (p ∷ ps) qs h = (h.0, ahead-utf8 ps qs h.1)

pub behind-utf8 : (ps qs : List Paragraph) → AreUtf8 (ps ++ qs) → AreUtf8 qs
behind-utf8 [] qs h = h
behind-utf8 (p ∷ ps) qs h = behind-utf8 ps qs h.1

pub firsts-moved : (start : ℕ) (rs : List BodyRow) → map first (map (text_row start) rs) ≡ map (λ o. start + o) (map first_of rs)
firsts-moved start [] = refl
firsts-moved start (r ∷ rs) = ap (λ os. (start + first_of r) ∷ os) (firsts-moved start rs)

-- as many begin at or before an offset of the text as at or before the offset in the body
pub rank-moved : (offset start : ℕ) (os : List ℕ) → start ≤ offset → rank offset (map (λ o. start + o) os) ≡ rank (offset - start) os
rank-moved offset start [] h = refl
rank-moved offset start (o ∷ os) h =
    let same : nat_le (start + o) offset ≡ nat_le o (offset - start) = grind (arith, nat_tests) in
    sum_by-cons (λ b. cond (nat_le b offset) 1 0) (start + o) (map (λ o. start + o) os)
    ∙ ap (λ b. cond b 1 0 + rank offset (map (λ o. start + o) os)) same
    ∙ ap (λ n. cond (nat_le o (offset - start)) 1 0 + n) (rank-moved offset start os h)
    ∙ sym (sum_by-cons (λ b. cond (nat_le b (offset - start)) 1 0) o os)

module _ (ucd : Data) (base : Base) (w : ℕ) where
  abbrev pub own : Paragraph → List BodyRow
  own p = body_rows ucd base w p.body

  abbrev pub from : ℕ → List Paragraph → List TextRow
  from start ps = rows_from ucd base w start ps

  pub from-append : (start : ℕ) (ps qs : List Paragraph) → from start (ps ++ qs) ≡ from start ps ++ from (start + total (map lengths_of ps)) qs
  from-append start [] qs = let same : start ≡ start + 0 = omega arith in ap (λ s. from s qs) same
  from-append start (p ∷ ps) qs =
      let here = map (text_row start) (own p) in
      let next = start + bytes_of (lengths_of p) in
      let same : next + total (map lengths_of ps) ≡ start + total (map lengths_of (p ∷ ps)) = omega arith in
      ap (λ rs. here ++ rs) (from-append next ps qs) ∙ sym (append_assoc here (from next ps) (from (next + total (map lengths_of ps)) qs))
      ∙ ap (λ s. here ++ from next ps ++ from s qs) same

  -- ---- where the rows of some paragraphs begin

  module _ (firsts : (body : List ℕ) → IsUtf8 body → BodyFirsts body (body_rows ucd base w body)) where
    own-rise : (start : ℕ) (p : Paragraph) → IsUtf8 p.body → Rises start (map first (map (text_row start) (own p))) (start + length p.body + 1)
    own-rise start p u =
        let f = firsts p.body u in
        let all : Rises 0 (map first_of (own p)) (length p.body + 1) = subst (λ os. Rises 0 os (length p.body + 1)) (sym f.firsts) (omega arith, f.rise) in
        let same : start + (length p.body + 1) ≡ start + length p.body + 1 = omega arith in
        let low : start + 0 ≡ start = omega arith in
        subst (λ os. Rises start os (start + length p.body + 1)) (sym (firsts-moved start (own p)))
        (subst (λ s. Rises s (map (λ o. start + o) (map first_of (own p))) (start + length p.body + 1)) low
        (subst (λ h. Rises (start + 0) (map (λ o. start + o) (map first_of (own p))) h) same
        (rises-moved start 0 (map first_of (own p)) (length p.body + 1) all)))

    firsts-from : (start : ℕ) (p : Paragraph) (ps : List Paragraph)
        → map first (from start (p ∷ ps)) ≡ map first (map (text_row start) (own p)) ++ map first (from (start + bytes_of (lengths_of p)) ps)
    firsts-from start p ps = map-append first (map (text_row start) (own p)) (from (start + bytes_of (lengths_of p)) ps)

    -- of paragraphs that all end
    pub ended-rise : (start : ℕ) (ps : List Paragraph) → AreUtf8 ps → AllEnded ps → Rises start (map first (from start ps)) (start + total (map lengths_of ps))
    ended-rise start [] u e = omega arith
    ended-rise start (p ∷ ps) u e =
        let next = start + bytes_of (lengths_of p) in
        let same : next + total (map lengths_of ps) ≡ start + total (map lengths_of (p ∷ ps)) = omega arith in
        subst (λ os. Rises start os (start + total (map lengths_of (p ∷ ps)))) (sym (firsts-from start p ps))
        (rises-append start (map first (map (text_row start) (own p))) next (map first (from next ps)) (start + total (map lengths_of (p ∷ ps)))
        (rises-further start (map first (map (text_row start) (own p))) (start + length p.body + 1) next (omega (arith, e.0)) (own-rise start p u.0.body))
        (subst (λ h. Rises next (map first (from next ps)) h) same (ended-rise next ps u.1 e.1)))

    -- of paragraphs that all end, except maybe the last
    pub all-rise : (start : ℕ) (ps : List Paragraph) → AreUtf8 ps → AreEnded ps
        → Rises start (map first (from start ps)) (start + total (map lengths_of ps) + 1)
    all-rise start [] u e = omega arith
    all-rise start (p ∷ []) u e =
        subst (λ os. Rises start os (start + total (map lengths_of (p ∷ [])) + 1)) (sym (firsts-from start p []))
        (rises-append start (map first (map (text_row start) (own p))) (start + length p.body + 1) [] (start + total (map lengths_of (p ∷ [])) + 1)
        (own-rise start p u.0.body) (omega arith))
    all-rise start (p ∷ q ∷ ps) u e =
        let next = start + bytes_of (lengths_of p) in
        let same : next + total (map lengths_of (q ∷ ps)) + 1 ≡ start + total (map lengths_of (p ∷ q ∷ ps)) + 1 = omega arith in
        subst (λ os. Rises start os (start + total (map lengths_of (p ∷ q ∷ ps)) + 1)) (sym (firsts-from start p (q ∷ ps)))
        (rises-append start (map first (map (text_row start) (own p))) next (map first (from next (q ∷ ps))) (start + total (map lengths_of (p ∷ q ∷ ps)) + 1)
        (rises-further start (map first (map (text_row start) (own p))) (start + length p.body + 1) next (omega (arith, e.0)) (own-rise start p u.0.body))
        (subst (λ h. Rises next (map first (from next (q ∷ ps))) h) same (all-rise next (q ∷ ps) u.1 e.1)))

    -- none of the rows after an offset begins at it or before it
    none-behind : (offset stop : ℕ) (ps : List Paragraph) → AreUtf8 ps → AreEnded ps → EndsBefore ps offset stop → rank offset (map first (from stop ps)) ≡ 0
    none-behind offset stop [] u e h = refl
    none-behind offset stop (p ∷ ps) u e h =
        none-rank offset stop (map first (from stop (p ∷ ps))) (stop + total (map lengths_of (p ∷ ps)) + 1) (all-rise stop (p ∷ ps) u e) h

    -- the first row of a body begins at or before each offset in it
    pub own-rank : (p : Paragraph) (n : ℕ) → IsUtf8 p.body → 1 ≤ rank n (map first_of (own p))
    own-rank p n u =
        let f = firsts p.body u in
        omega (arith, ap (rank n) f.firsts, rank-first n 0 f.others (omega arith))

    pub own-some : (p : Paragraph) → IsUtf8 p.body → 0 < length (own p)
    own-some p u = omega (arith, own-rank p 0 u, rank-few 0 (map first_of (own p)), length-map (own p) first_of)

    pub own-within : (p : Paragraph) (n : ℕ) → IsUtf8 p.body → row_of_body (own p) n < length (own p)
    own-within p n u = omega (arith, own-rank p n u, rank-few n (map first_of (own p)), length-map (own p) first_of)

    module _ (text : List ℕ) (number start : ℕ) (p : Paragraph) (ahead behind : List Paragraph) (is : IsAmong ucd text number start p ahead behind) where
      -- the rows of the text are those ahead, its own, and those after
      pub rows-around : text_rows ucd base w text
          ≡ from 0 ahead ++ (map (text_row start) (own p) ++ from (start + bytes_of (lengths_of p)) behind)
      rows-around =
          let same : 0 + total (map lengths_of ahead) ≡ start = omega (arith, is.start_is) in
          ap (from 0) is.parts ∙ from-append 0 ahead (p ∷ behind) ∙ ap (λ s. from 0 ahead ++ from s (p ∷ behind)) same

      abbrev stop : ℕ
      stop = start + bytes_of (lengths_of p)

      -- the number of rows that begin at or before an offset that falls in the paragraph
      pub rank-around : (offset : ℕ) → AreUtf8 (ahead ++ p ∷ behind) → AreEnded (ahead ++ p ∷ behind) → start ≤ offset → EndsBefore behind offset stop
          → rank offset (map first (text_rows ucd base w text)) ≡ length (from 0 ahead) + rank (offset - start) (map first_of (own p))
      rank-around offset u e low high =
          let mine = map (text_row start) (own p) in
          let others = from stop behind in
          let u' = behind-utf8 ahead (p ∷ behind) u in
          let e' = behind-ended (p ∷ []) behind (behind-ended ahead (p ∷ behind) e) in
          let first-part : rank offset (map first (from 0 ahead)) ≡ length (map first (from 0 ahead)) =
          all-rank offset 0 (map first (from 0 ahead)) (0 + total (map lengths_of ahead))
          (ended-rise 0 ahead (ahead-utf8 ahead (p ∷ behind) u) (ahead-ended ahead p behind e)) (omega (arith, is.start_is, low)) in
          let own-part : rank offset (map first mine) ≡ rank (offset - start) (map first_of (own p)) =
          ap (rank offset) (firsts-moved start (own p)) ∙ rank-moved offset start (map first_of (own p)) low in
          let last-part : rank offset (map first others) ≡ 0 = none-behind offset stop behind u'.1 e' high in
          let split : map first (text_rows ucd base w text) ≡ map first (from 0 ahead) ++ (map first mine ++ map first others) =
          ap (map first) rows-around ∙ map-append first (from 0 ahead) (mine ++ others)
          ∙ ap (λ os. map first (from 0 ahead) ++ os) (map-append first mine others) in
          ap (rank offset) split ∙ rank-append offset (map first (from 0 ahead)) (map first mine ++ map first others)
          ∙ omega (
            arith,
            first-part,
            own-part,
            last-part,
            rank-append offset (map first mine) (map first others),
            length-map (from 0 ahead) first,
          )

      -- so the row that it falls in
      pub row-falls : (offset : ℕ) → AreUtf8 (ahead ++ p ∷ behind) → AreEnded (ahead ++ p ∷ behind) → start ≤ offset → EndsBefore behind offset stop
          → row_of (text_rows ucd base w text) offset ≡ length (from 0 ahead) + row_of_body (own p) (offset - start)
      row-falls offset u e low high =
          let u' = behind-utf8 ahead (p ∷ behind) u in
          omega (arith, rank-around offset u e low high, own-rank p (offset - start) u'.0.body)

      -- and a row of the paragraph by its number in the text
      pub row-there : (k : ℕ) → k < length (own p)
          → row_at (text_rows ucd base w text) (length (from 0 ahead) + k) ≡ text_row start (row_at_body (own p) k)
      row-there k h =
          let mine = map (text_row start) (own p) in
          let others = from stop behind in
          ap (λ rs. row_at rs (length (from 0 ahead) + k)) rows-around ∙ get_or-append-add (from 0 ahead) (mine ++ others) k no_text_row
          ∙ get_or_append_left mine others no_text_row k (omega (arith, h, length-map (own p) (text_row start)))
          ∙ get_or-map (text_row start) (own p) k no_row no_text_row h

      pub count-around : length (text_rows ucd base w text) ≡ length (from 0 ahead) + length (own p) + length (from stop behind)
      count-around =
          let mine = map (text_row start) (own p) in
          let others = from stop behind in
          ap length rows-around
          ∙ omega (arith, length-append (from 0 ahead) (mine ++ others), length-append mine others, length-map (own p) (text_row start))
