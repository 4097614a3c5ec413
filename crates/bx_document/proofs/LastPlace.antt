-- The last place of a text at or before an offset, from a part of the text that starts or ends at a paragraph's boundary.
use Rattle.std.proofs.Common.{◌≡◌, ℕ, ◌+◌, ◌-◌, ◌<◌, ◌≤◌, nat_le, cond, Bool, true, false, List, [], ◌∷◌, ◌++◌, map, length}
use Rattle.std.proofs.Common.{chars, find, reverse, Option, Some, None, unwrap_or, IsUtf8, refl, sym, ap, ◌∙◌, arith, length-append}
use Rattle.std.specs.List.{concat}
use Rattle.std.specs.Option.{option_or}
use Rattle.std.specs.Prelude.{flat_map}
use Rattle.std.proofs.lemmas.Bool.Decides.{nat_tests}
use Rattle.std.proofs.lemmas.Grind.{flat_map-append}
use Rattle.std.proofs.lemmas.List.{reverse-append}
use Rattle.std.proofs.lemmas.List.Folds.{concat-append, find-append}
use Rattle.std.proofs.lemmas.Str.{chars-append, IsUtf8-append, IsUtf8-nil}
use Rattle.bx_ucd.specs.Data.{Data}
use Rattle.bx_common.specs.declared.base.Base.{Base}
use Rattle.bx_text.specs.index.Paragraphs.{bare, cut, paragraphs}
use Rattle.bx_text.proofs.index_lemmas.Cuts.{parts}
use Rattle.bx_view.specs.Moves.{place_at}
use Rattle.bx_view.specs.Places.{pieces, pieces_of, text_places}
use Rattle.bx_view.specs.Numbers.{boundaries}
use Rattle.bx_view.specs.TextRows.{TextRow, places, text_rows}
use Rattle.bx_view.proofs.Cutting.{joins}
use Rattle.bx_view.proofs.TextPlaces.{pieces-bytes, places-are, places-span}

-- ---- the last of some offsets

-- the last of some offsets that is at or before one; `d`, if there is none
abbrev latest : ℕ → ℕ → List ℕ → ℕ
latest offset d [] = d
latest offset d (o ∷ os) = latest offset (cond (nat_le o offset) o d) os

or_one : (x : Option ℕ) (b : Bool) (o d : ℕ) → unwrap_or (option_or x (cond b (Some o) None)) d ≡ unwrap_or x (cond b o d)
or_one (Some q) b o d = refl
or_one None true o d = refl
or_one None false o d = refl

latest_is : (offset d : ℕ) (os : List ℕ) → unwrap_or (find (λ p. nat_le p offset) (reverse os)) d ≡ latest offset d os
latest_is offset d [] = refl
latest_is offset d (o ∷ os) =
    let test : ℕ → Bool = λ p. nat_le p offset in
    ap (λ ps. unwrap_or (find test ps) d) (reverse-append (o ∷ []) os)
    ∙ ap (λ x. unwrap_or x d) (find-append test (reverse os) (o ∷ []))
    ∙ or_one (find test (reverse os)) (nat_le o offset) o d ∙ latest_is offset (cond (nat_le o offset) o d) os

latest_append : (offset d : ℕ) (os ps : List ℕ) → latest offset d (os ++ ps) ≡ latest offset (latest offset d os) ps
latest_append offset d [] ps = refl
latest_append offset d (o ∷ os) ps = latest_append offset (cond (nat_le o offset) o d) os ps

cond_moved : (a : ℕ) (b : Bool) (o d : ℕ) → cond b (a + o) (a + d) ≡ a + cond b o d
cond_moved a true o d = refl
cond_moved a false o d = refl

-- offsets that are moved
latest_moved : (a offset d : ℕ) (os : List ℕ) → a ≤ offset
    → latest offset (a + d) (map (λ o. a + o) os) ≡ a + latest (offset - a) d os
latest_moved a offset d [] h = refl
latest_moved a offset d (o ∷ os) h =
    let moved = map (λ p. a + p) os in
    let same : nat_le (a + o) offset ≡ nat_le o (offset - a) = grind (arith, nat_tests) in
    ap (λ b. latest offset (cond b (a + o) (a + d)) moved) same
    ∙ ap (λ n. latest offset n moved) (cond_moved a (nat_le o (offset - a)) o d)
    ∙ latest_moved a offset (cond (nat_le o (offset - a)) o d) os h

-- ---- the boundaries of pieces

-- the start of each piece
abbrev starts : ℕ → List (List ℕ) → List ℕ
starts start [] = []
starts start (p ∷ ps) = start ∷ starts (start + length p) ps

bounds_append : (start : ℕ) (ps qs : List (List ℕ))
    → boundaries start (ps ++ qs) ≡ starts start ps ++ boundaries (start + length (concat ps)) qs
bounds_append start [] qs = let none : start ≡ start + 0 = omega arith in ap (λ n. boundaries n qs) none
bounds_append start (p ∷ ps) qs =
    let next = start + length p in
    let sum : next + length (concat ps) ≡ start + length (concat (p ∷ ps)) = omega (arith, length-append p (concat ps)) in
    ap (λ os. start ∷ os) (bounds_append next ps qs ∙ ap (λ n. starts next ps ++ boundaries n qs) sum)

bounds_moved : (a start : ℕ) (ps : List (List ℕ)) → boundaries (a + start) ps ≡ map (λ o. a + o) (boundaries start ps)
bounds_moved a start [] = refl
bounds_moved a start (p ∷ ps) =
    let sum : a + start + length p ≡ a + (start + length p) = omega arith in
    ap (λ os. (a + start) ∷ os) (ap (λ n. boundaries n ps) sum ∙ bounds_moved a (start + length p) ps)

-- an offset in front of all of them
latest_past : (offset d start : ℕ) (ps : List (List ℕ)) → offset < start → latest offset d (boundaries start ps) ≡ d
latest_past offset d start [] h = let e : nat_le start offset ≡ false = grind (arith, nat_tests) in ap (λ b. cond b start d) e
latest_past offset d start (p ∷ ps) h =
    let e : nat_le start offset ≡ false = grind (arith, nat_tests) in
    ap (λ b. latest offset (cond b start d) (boundaries (start + length p) ps)) e
    ∙ latest_past offset d (start + length p) ps (omega (arith, h))

-- and one behind the first
latest_from : (offset d start : ℕ) (ps : List (List ℕ)) → start ≤ offset
    → latest offset d (boundaries start ps) ≡ latest offset start (boundaries start ps)
latest_from offset d start [] h =
    let e : nat_le start offset ≡ true = grind (arith, nat_tests) in
    ap (λ b. cond b start d) e ∙ sym (ap (λ b. cond b start start) e)
latest_from offset d start (p ∷ ps) h =
    let e : nat_le start offset ≡ true = grind (arith, nat_tests) in
    let rest = boundaries (start + length p) ps in
    ap (λ b. latest offset (cond b start d) rest) e ∙ sym (ap (λ b. latest offset (cond b start start) rest) e)

-- and one at or behind the last
latest_end : (offset d start : ℕ) (ps : List (List ℕ)) → start + length (concat ps) ≤ offset
    → latest offset d (boundaries start ps) ≡ start + length (concat ps)
latest_end offset d start [] h =
    let e : nat_le start offset ≡ true = grind (arith, nat_tests) in
    let none : start ≡ start + 0 = omega arith in ap (λ b. cond b start d) e ∙ none
latest_end offset d start (p ∷ ps) h =
    let next = start + length p in
    let sum : next + length (concat ps) ≡ start + length (concat (p ∷ ps)) = omega (arith, length-append p (concat ps)) in
    latest_end offset (cond (nat_le start offset) start d) next ps (omega (arith, h, sum)) ∙ sum

-- ---- the places of a text

module _ (ucd : Data) where
  -- the places of a text, alone and with another behind it, where the text ends with a separator
  record IsSplit (x v : List ℕ) : Type 0 where
    front : List (List ℕ)
    rest : List (List ℕ)
    alone : text_places ucd x ≡ starts 0 front ++ boundaries (length x) rest
    together : text_places ucd (x ++ v) ≡ starts 0 front ++ boundaries (length x) (pieces ucd v)

  split : (x v : List ℕ) → IsUtf8 x → parts ucd (chars x) (chars v) ≡ true → IsSplit x v
  split x v utf8 p =
      let j = joins ucd (chars x) (chars v) p in
      let ps = flat_map pieces_of j.front in
      let qs = flat_map pieces_of (bare [] ∷ []) in
      let alone : pieces ucd x ≡ ps ++ qs = ap (flat_map pieces_of) j.alone ∙ flat_map-append pieces_of j.front (bare [] ∷ []) in
      let together : pieces ucd (x ++ v) ≡ ps ++ pieces ucd v =
      ap (λ cs. flat_map pieces_of (cut ucd cs)) (chars-append x v utf8) ∙ ap (flat_map pieces_of) j.together
      ∙ flat_map-append pieces_of j.front (paragraphs ucd v) in
      let none : concat qs ≡ [] = pieces-bytes (bare [] ∷ []) (record { body = IsUtf8-nil; separator = IsUtf8-nil }, tt) in
      let whole : concat ps ++ concat qs ≡ x =
      sym (concat-append ps qs) ∙ ap concat (sym alone) ∙ (places-span ucd x utf8).whole in
      let size : 0 + length (concat ps) ≡ length x =
      omega (arith, ap length whole, length-append (concat ps) (concat qs), ap length none) in
      record {
        front = ps;
        rest = qs;
        alone = ap (boundaries 0) alone ∙ bounds_append 0 ps qs ∙ ap (λ n. starts 0 ps ++ boundaries n qs) size;
        together = ap (boundaries 0) together ∙ bounds_append 0 ps (pieces ucd v)
            ∙ ap (λ n. starts 0 ps ++ boundaries n (pieces ucd v)) size;
      }

module _ (ucd : Data) (base : Base) (w : ℕ) (h : 1 ≤ w) where
  abbrev rows : List ℕ → List TextRow
  rows text = text_rows ucd base w text

  last_is : (text : List ℕ) (offset : ℕ) → IsUtf8 text → place_at (rows text) offset ≡ latest offset 0 (text_places ucd text)
  last_is text offset utf8 = latest_is offset 0 (places (rows text)) ∙ ap (latest offset 0) (places-are ucd base w h text utf8)

  -- the text before a paragraph's start
  pub last_after_front : (x v : List ℕ) (offset : ℕ) → IsUtf8 x → IsUtf8 v → parts ucd (chars x) (chars v) ≡ true
      → length x ≤ offset
      → place_at (rows (x ++ v)) offset ≡ length x + place_at (rows v) (offset - length x)
  last_after_front x v offset ux uv p order =
      let s = split ucd x v ux p in
      let a = length x in
      let none : a ≡ a + 0 = omega arith in
      last_is (x ++ v) offset (IsUtf8-append x v ux uv) ∙ ap (latest offset 0) s.together
      ∙ latest_append offset 0 (starts 0 s.front) (boundaries a (pieces ucd v))
      ∙ latest_from offset (latest offset 0 (starts 0 s.front)) a (pieces ucd v) order
      ∙ ap (λ n. latest offset n (boundaries n (pieces ucd v))) none
      ∙ ap (latest offset (a + 0)) (bounds_moved a 0 (pieces ucd v))
      ∙ latest_moved a offset 0 (text_places ucd v) order ∙ ap (λ n. a + n) (sym (last_is v (offset - a) uv))

  -- the text after a paragraph's end
  pub last_before_back : (x y : List ℕ) (offset : ℕ) → IsUtf8 x → IsUtf8 y → parts ucd (chars x) (chars y) ≡ true
      → offset < length x
      → place_at (rows (x ++ y)) offset ≡ place_at (rows x) offset
  last_before_back x y offset ux uy p within =
      let s = split ucd x y ux p in
      let ahead = latest offset 0 (starts 0 s.front) in
      last_is (x ++ y) offset (IsUtf8-append x y ux uy) ∙ ap (latest offset 0) s.together
      ∙ latest_append offset 0 (starts 0 s.front) (boundaries (length x) (pieces ucd y))
      ∙ latest_past offset ahead (length x) (pieces ucd y) within
      ∙ sym (last_is x offset ux ∙ ap (latest offset 0) s.alone
      ∙ latest_append offset 0 (starts 0 s.front) (boundaries (length x) s.rest)
      ∙ latest_past offset ahead (length x) s.rest within)

  -- a text's end is its last place
  pub last_at_end : (text : List ℕ) → IsUtf8 text → place_at (rows text) (length text) ≡ length text
  last_at_end text utf8 =
      let size : 0 + length (concat (pieces ucd text)) ≡ length text =
      omega (arith, ap length (places-span ucd text utf8).whole) in
      last_is text (length text) utf8 ∙ latest_end (length text) 0 0 (pieces ucd text) (omega (arith, size)) ∙ size
