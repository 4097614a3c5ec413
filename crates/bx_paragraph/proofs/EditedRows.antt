-- The rows of a body with the start and the end of an old one.
use Rattle.std.proofs.Common.{◌≡◌, ℕ, zero, suc, ◌+◌, ◌-◌, ◌^◌, ◌<◌, ◌≤◌, ◌∙◌, List, [], ◌∷◌, ◌++◌, map, length, take, drop, get_or, Some, refl, sym, ap, ap₂}
use Rattle.std.proofs.Common.{All, subst, arith, drop-drop, length-append, length-drop, take-append-drop, take_all}
use Rattle.std.specs.Prelude.{slice_get}
use Rattle.std.specs.Str.{IsCharBoundary, IsUtf8}
use Rattle.std.proofs.lemmas.List.{get_or_append_left, get_or-append-add, get_or-map, length-map, map-append}
use Rattle.std.proofs.lemmas.List.Elements.{All-drop}
use Rattle.std.proofs.lemmas.Option.{slice_get-get_or}
use Rattle.std.proofs.lemmas.Str.{IsCharBoundary-end}
use Rattle.bx_ucd.specs.Data.{Data}
use Rattle.bx_rows.specs.declared.start_search.RowStart.{RowStart}
use Rattle.bx_rows.specs.LaterRows.{behind, moved}
use Rattle.bx_rows.specs.RowStarts.{row_starts}
use Rattle.bx_rows.proofs.RowsLeft.{rows-are-of-rest, rows-meet-again}
use Rattle.bx_paragraph.specs.RowEdits.{DoMeet, DoMeetNear, HasRoom, IsWellBefore, origin}
use Rattle.bx_paragraph.proofs.SharedRows.{rows-before-stay}
use Rattle.bx_paragraph.proofs.StartOrder.{IsInBody, starts-in-body}

take-fewer : {X : Type 0} (n m : ℕ) (xs ys : List X) → n ≤ m → take m xs ≡ take m ys → take n xs ≡ take n ys
take-fewer zero m xs ys h e = refl
take-fewer (suc n) zero xs ys h e = absurd (omega (arith, h))
take-fewer (suc n) (suc m) [] [] h e = refl
take-fewer (suc n) (suc m) [] (y ∷ ys) h e = absurd (cc)
take-fewer (suc n) (suc m) (x ∷ xs) [] h e = absurd (cc)
take-fewer (suc n) (suc m) (x ∷ xs) (y ∷ ys) h e =
    let head : x ≡ y = cc in
    let tail : take m xs ≡ take m ys = cc in
    ap₂ (λ z zs. z ∷ zs) head (take-fewer n m xs ys (omega (arith, h)) tail)

get-taken : {X : Type 0} (k n : ℕ) (xs : List X) → k < n → slice_get (take n xs) k ≡ slice_get xs k
get-taken k zero xs h = absurd (omega (arith, h))
get-taken k (suc n) [] h = refl
get-taken zero (suc n) (x ∷ xs) h = refl
get-taken (suc k) (suc n) (x ∷ xs) h = get-taken k n xs (omega (arith, h))

-- the rows of a body up to a row are those that another one has
pub record AreKept (ucd : Data) (w : ℕ) (body : List ℕ) (starts : List RowStart) (k : ℕ) : Type 0 where
  pub inside : k < length starts
  pub taken : take (k + 1) (row_starts ucd w body) ≡ take (k + 1) starts

kept-at : (ucd : Data) (w : ℕ) (body : List ℕ) (starts : List RowStart) (k i : ℕ) → AreKept ucd w body starts k → i ≤ k
    → slice_get (row_starts ucd w body) i ≡ Some (get_or starts i origin)
kept-at ucd w body starts k i h le =
    let inside = h.inside in
    sym (get-taken i (k + 1) (row_starts ucd w body) (omega (arith, le))) ∙ ap (λ xs. slice_get xs i) h.taken
    ∙ get-taken i (k + 1) starts (omega (arith, le)) ∙ slice_get-get_or starts i origin (omega (arith, le, inside))

pub kept-rows : (ucd : Data) (w : ℕ) (old new : List ℕ) (offset k : ℕ) (starts : List RowStart) → 1 ≤ w → IsUtf8 old → IsUtf8 new
    → IsCharBoundary old offset → IsCharBoundary new offset → take offset old ≡ take offset new → starts ≡ row_starts ucd w old
    → IsWellBefore w offset starts k → AreKept ucd w new starts k
kept-rows ucd w old new offset k starts some valid also at_old at_new shared e h =
    let at : (i : ℕ) → i < length starts → slice_get (row_starts ucd w old) i ≡ Some (get_or starts i origin) =
    λ i less. ap (λ xs. slice_get xs i) (sym e) ∙ slice_get-get_or starts i origin less in
    record {
      inside = h.inside;
      taken = rows-before-stay ucd w old new offset k h.row (get_or starts k origin) (get_or starts h.row origin) some valid also at_old at_new shared
          (at k h.inside) (at h.row h.row_inside) h.begins h.ahead
          ∙ ap (take (k + 1)) (sym e);
    }

-- the rows up to one, and those of the rest
pub rows-joined : (ucd : Data) (w : ℕ) (body : List ℕ) (starts found : List RowStart) (k : ℕ) → IsUtf8 body → AreKept ucd w body starts k
    → found ≡ row_starts ucd w (drop (get_or starts k origin).offset body)
    → take k starts ++ map (behind (get_or starts k origin)) found ≡ row_starts ucd w body
rows-joined ucd w body starts found k valid h e =
    let s = get_or starts k origin in
    ap₂ (λ xs ys. xs ++ ys) (sym (take-fewer k (k + 1) (row_starts ucd w body) starts (omega arith) h.taken))
    (ap (map (behind s)) e ∙ sym (rows-are-of-rest ucd w body k s valid (kept-at ucd w body starts k k h (omega arith))))
    ∙ take-append-drop k (row_starts ucd w body)

same-left : (body rest : List ℕ) (stop shift a b : ℕ) → stop ≤ a → shift ≤ b → b - shift ≡ a - stop → drop stop body ≡ drop shift rest
    → drop a body ≡ drop b rest
same-left body rest stop shift a b le less e same =
    let n : stop + (a - stop) ≡ a = omega arith in
    let m : shift + (b - shift) ≡ b = omega arith in
    ap (λ k. drop k body) (sym n) ∙ sym (drop-drop (a - stop) stop body) ∙ ap₂ (λ k xs. drop k xs) (sym e) same
    ∙ drop-drop (b - shift) shift rest ∙ ap (λ k. drop k rest) m

-- the rows of a text up to where those of its beginning meet others
pub rows-met : (ucd : Data) (w : ℕ) (body rest near : List ℕ) (stop shift last i k : ℕ) (starts found : List RowStart) → 1 ≤ w → IsUtf8 body
    → IsUtf8 rest → IsUtf8 near → IsCharBoundary rest (length near) → near ≡ take (length near) rest → starts ≡ row_starts ucd w body
    → found ≡ row_starts ucd w near → drop stop body ≡ drop shift rest → IsWellBefore w (length near) found last
    → DoMeet shift stop found starts last i k
    → take i found ++ map (moved (get_or starts k origin) (get_or found i origin)) (drop k starts) ≡ row_starts ucd w rest
rows-met ucd w body rest near stop shift last i k starts found some valid also utf8 at_rest near_is e f same h meet =
    let whole : take (length near) near ≡ near = take_all (length near) near (omega arith) in
    let kept = kept-rows ucd w near rest (length near) last found some utf8 also (IsCharBoundary-end near) at_rest (whole ∙ near_is) f h in
    let o = get_or starts k origin in
    let t = get_or found i origin in
    let here = kept-at ucd w rest found last i kept meet.found_inside in
    let there = ap (λ xs. slice_get xs k) (sym e) ∙ slice_get-get_or starts k origin meet.old_inside in
    let left = same-left body rest stop shift o.offset t.offset meet.place.behind_stop meet.place.behind_shift meet.place.same same in
    let le = meet.found_inside in
    ap₂ (λ xs ys. xs ++ ys) (sym (take-fewer i (last + 1) (row_starts ucd w rest) found (omega (arith, le)) kept.taken))
    (ap (λ xs. map (moved o t) (drop k xs)) e ∙ sym (rows-meet-again ucd w body rest k i o t valid also there here left))
    ∙ take-append-drop i (row_starts ucd w rest)

-- ---- rows after the start of another

all-front : {X : Type 0} (P : X → Type 0) (xs ys : List X) → All P (xs ++ ys) → All P xs
all-front P xs ys h i d less = subst P (get_or_append_left xs ys d i less) (h i d (omega (arith, less, length-append xs ys)))

all-back : {X : Type 0} (P : X → Type 0) (xs ys : List X) → All P (xs ++ ys) → All P ys
all-back P xs ys h i d less = subst P (get_or-append-add xs ys i d) (h (length xs + i) d (omega (arith, less, length-append xs ys)))

all-of-map : {X Y : Type 0} (P : Y → Type 0) (f : X → Y) (xs : List X) → All P (map f xs) → All (λ x. P (f x)) xs
all-of-map P f xs h i d less = subst P (get_or-map f xs i d (f d) less) (h i (f d) (omega (arith, less, length-map xs f)))

abbrev start_from : ℕ → ℕ → ℕ → RowStart
start_from offset units chars = record { offset = offset; units = units; chars = chars }

behind-moved : (f o t x : RowStart) → behind f (moved o t x) ≡ moved o (behind f t) x
behind-moved f o t x =
    let a : f.offset + (t.offset + (x.offset - o.offset)) ≡ f.offset + t.offset + (x.offset - o.offset) = omega arith in
    let b : f.units + (t.units + (x.units - o.units)) ≡ f.units + t.units + (x.units - o.units) = omega arith in
    let c : f.chars + (t.chars + (x.chars - o.chars)) ≡ f.chars + t.chars + (x.chars - o.chars) = omega arith in
    ap₂ (λ n m. start_from n m (f.chars + (t.chars + (x.chars - o.chars)))) a b
    ∙ ap (start_from (f.offset + t.offset + (x.offset - o.offset)) (f.units + t.units + (x.units - o.units))) c

all-behind-moved : (f o t : RowStart) (xs : List RowStart) → map (behind f) (map (moved o t) xs) ≡ map (moved o (behind f t)) xs
all-behind-moved f o t [] = refl
all-behind-moved f o t (x ∷ xs) = ap₂ (λ y ys. y ∷ ys) (behind-moved f o t x) (all-behind-moved f o t xs)

-- the rows `whole` after the start `f` of one, of which some are `front` and the others those of `back`, moved from after `o` to after `t`
pub record AreMet (f o t : RowStart) (front back whole : List RowStart) : Type 0 where
  pub joined : map (behind f) front ++ map (moved o (behind f t)) back ≡ map (behind f) whole
  pub room_front : All (λ s. HasRoom (behind f s)) front
  pub room_at : HasRoom (behind f t)
  pub room_back : All (λ s. HasRoom (moved o (behind f t) s)) back

are-met : (f o t : RowStart) (front back whole : List RowStart) → front ++ map (moved o t) back ≡ whole → 0 < length back
    → All (λ s. HasRoom (behind f s)) whole → AreMet f o t front back whole
are-met f o t front back whole e some room =
    let here = subst (All (λ s. HasRoom (behind f s))) (sym e) room in
    let later = all-of-map (λ s. HasRoom (behind f s)) (moved o t) back (all-back (λ s. HasRoom (behind f s)) front (map (moved o t) back) here) in
    let further : All (λ s. HasRoom (moved o (behind f t) s)) back =
    λ i d less. subst HasRoom (behind-moved f o t (get_or back i d)) (later i d less) in
    let first = further 0 origin some in
    record {
      joined = ap (λ xs. map (behind f) front ++ xs) (sym (all-behind-moved f o t back)) ∙ sym (map-append (behind f) front (map (moved o t) back))
          ∙ ap (map (behind f)) e;
      room_front = all-front (λ s. HasRoom (behind f s)) front (map (moved o t) back) here;
      room_at = (omega (arith, first.0), omega (arith, first.1), omega (arith, first.2));
      room_back = further;
    }

pub met-near : (ucd : Data) (w : ℕ) (body rest near : List ℕ) (stop shift i k : ℕ) (first : RowStart) (starts found : List RowStart) → 1 ≤ w
    → IsUtf8 body → IsUtf8 rest → IsUtf8 near → IsCharBoundary rest (length near) → near ≡ take (length near) rest → starts ≡ row_starts ucd w body
    → found ≡ row_starts ucd w near → drop stop body ≡ drop shift rest → DoMeetNear w (length near) shift stop found starts i k
    → All (λ s. HasRoom (behind first s)) (row_starts ucd w rest)
    → AreMet first (get_or starts k origin) (get_or found i origin) (take i found) (drop k starts) (row_starts ucd w rest)
met-near ucd w body rest near stop shift i k first starts found some valid also utf8 at_rest near_is e f same m room =
    let inside = m.meet.old_inside in
    are-met first (get_or starts k origin) (get_or found i origin) (take i found) (drop k starts) (row_starts ucd w rest)
    (rows-met ucd w body rest near stop shift m.last i k starts found some valid also utf8 at_rest near_is e f same m.well m.meet)
    (omega (arith, inside, length-drop k starts)) room

-- ---- there is room for the rows of a body

room-in : (body : List ℕ) (starts : List RowStart) → length body < 2 ^ 64 → All (IsInBody body) starts → All HasRoom starts
room-in body starts short h i d less =
    let s = h i d less in
    let within = s.boundary.0 in
    (omega (arith, short, within), omega (arith, short, s.units_few), omega (arith, short, s.chars_few))

pub room-left : (ucd : Data) (w : ℕ) (body : List ℕ) (starts : List RowStart) (k : ℕ) → IsUtf8 body → length body < 2 ^ 64
    → AreKept ucd w body starts k
    → All (λ s. HasRoom (behind (get_or starts k origin) s)) (row_starts ucd w (drop (get_or starts k origin).offset body))
room-left ucd w body starts k valid short h =
    let s = get_or starts k origin in
    let rest = row_starts ucd w (drop s.offset body) in
    let all = room-in body (row_starts ucd w body) short (starts-in-body ucd w body valid) in
    all-of-map HasRoom (behind s) rest
    (subst (All HasRoom) (rows-are-of-rest ucd w body k s valid (kept-at ucd w body starts k k h (omega arith))) (All-drop HasRoom k (row_starts ucd w body) all))

pub room-whole : (ucd : Data) (w : ℕ) (body : List ℕ) → IsUtf8 body → length body < 2 ^ 64
    → All (λ s. HasRoom (behind origin s)) (row_starts ucd w body)
room-whole ucd w body valid short i d less =
    let s = room-in body (row_starts ucd w body) short (starts-in-body ucd w body valid) i d less in
    (omega (arith, s.0), omega (arith, s.1), omega (arith, s.2))

none-more : (n : ℕ) → 0 + n ≡ n
none-more n = omega arith

pub behind-origin : (starts : List RowStart) → map (behind origin) starts ≡ starts
behind-origin [] = refl
behind-origin (s ∷ ss) =
    ap₂ (λ x xs. x ∷ xs) (ap₂ (λ n m. start_from n m (0 + s.chars)) (none-more s.offset) (none-more s.units) ∙ ap (start_from s.offset s.units) (none-more s.chars))
    (behind-origin ss)
