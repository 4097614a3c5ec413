-- Bodies with a common start begin with the same units.
use Rattle.std.proofs.Common.{◌≡◌, ℕ, zero, suc, ◌+◌, ◌-◌, ◌<◌, ◌≤◌, Bool, true, false, cond, List, [], ◌∷◌, ◌++◌, map, length, take, drop, refl, sym, ap, ap₂}
use Rattle.std.proofs.Common.{subst, ◌∙◌, arith, append_assoc, length-append, encode_utf8_all}
use Rattle.std.specs.Bool.{⊤}
use Rattle.std.specs.List.{concat}
use Rattle.std.specs.Prelude.{slice_range}
use Rattle.std.specs.Str.{chars, IsUtf8, IsCharBoundary}
use Rattle.std.proofs.lemmas.List.{take-append-drop, take-map, length-take-le}
use Rattle.std.proofs.lemmas.List.Folds.{concat-append}
use Rattle.std.proofs.lemmas.Str.{chars-append, encodes-append, encodes-chars, IsUtf8-take, IsUtf8-between}
use Rattle.std.proofs.Math.Seq.{drop-append_seam, take-append_seam}
use Rattle.bx_ucd.specs.Data.{Data}
use Rattle.unicode_segmentation.specs.Grapheme.{is_grapheme_break}
use Rattle.unicode_segmentation.specs.Segments.{cut, prepend, segments, with_offsets}
use Rattle.bx_rows.specs.declared.cells.unit.Unit.{Unit}
use Rattle.bx_rows.specs.cells.Units.{only_char, unit_at, units}
use Rattle.bx_rows.proofs.cells_lemmas.Locality.{concat-own}
use Rattle.bx_rows.proofs.cells_lemmas.Rest.{chars_encoded}
use Rattle.unicode_segmentation.proofs.TextLemmas.{take_split}
use Rattle.bx_rows.specs.Wrapping.{is_break, is_one_blank}

-- ---- clusters

-- the number of characters of pieces
abbrev pub count_of : List (List ℕ) → ℕ
count_of [] = 0
count_of (p ∷ ps) = length p + count_of ps

count-concat : (ps : List (List ℕ)) → count_of ps ≡ length (concat ps)
count-concat [] = refl
count-concat (p ∷ ps) = ap (λ n. length p + n) (count-concat ps) ∙ sym (length-append p (concat ps))

none-taken : {X : Type 0} (m : ℕ) → take {A = X} m [] ≡ []
none-taken zero = refl
none-taken (suc m) = refl

take-prepend : (m : ℕ) (part : List ℕ) (ps : List (List ℕ)) → take (suc m) (prepend part ps) ≡ prepend part (take (suc m) ps)
take-prepend m part [] = ap (λ xs. part ∷ xs) (none-taken m)
take-prepend m part (p ∷ ps) = refl

count-prepend : (part : List ℕ) (ps : List (List ℕ)) → count_of (prepend part ps) ≡ length part + count_of ps
count-prepend part [] = refl
count-prepend part (p ∷ ps) = let n = length-append part p in omega (arith, n)

-- the first character after a cluster says whether it ends
same-test : (before : List ℕ) (c : ℕ) (cs : List ℕ) (n : ℕ) (ys zs : List ℕ)
    → is_grapheme_break true (c ∷ before) ((cs ++ n ∷ ys) ++ []) ≡ is_grapheme_break true (c ∷ before) ((cs ++ n ∷ zs) ++ [])
unfolding is_grapheme_break
same-test before c [] n ys zs = refl
same-test before c (d ∷ ds) n ys zs = refl

one : (c : ℕ) → length (c ∷ []) ≡ 1
one c = refl

step : (t : Bool) (c m n : ℕ) (ys zs : List (List ℕ)) → ((k : ℕ) → count_of (take k ys) ≤ n → take k ys ≡ take k zs)
    → count_of (take (suc m) (cond t ((c ∷ []) ∷ ys) (prepend (c ∷ []) ys))) ≤ suc n
    → take (suc m) (cond t ((c ∷ []) ∷ ys) (prepend (c ∷ []) ys)) ≡ take (suc m) (cond t ((c ∷ []) ∷ zs) (prepend (c ∷ []) zs))
step true c m n ys zs h few = ap (λ xs. (c ∷ []) ∷ xs) (h m (omega (arith, few, one c)))
step false c m n ys zs h few =
    let count = ap count_of (take-prepend m (c ∷ []) ys) ∙ count-prepend (c ∷ []) (take (suc m) ys) in
    take-prepend m (c ∷ []) ys ∙ ap (prepend (c ∷ [])) (h (suc m) (omega (arith, few, count, one c))) ∙ sym (take-prepend m (c ∷ []) zs)

some-count : (t : Bool) (c m : ℕ) (ys : List (List ℕ)) → 0 < count_of (take (suc m) (cond t ((c ∷ []) ∷ ys) (prepend (c ∷ []) ys)))
some-count true c m ys = omega (arith, one c)
some-count false c m ys = omega (arith, ap count_of (take-prepend m (c ∷ []) ys) ∙ count-prepend (c ∷ []) (take (suc m) ys), one c)

-- the clusters that end before the character `n` are the same, whatever follows it
same-pieces : (before xs : List ℕ) (n : ℕ) (ys zs : List ℕ) (k : ℕ) → count_of (take k (cut (is_grapheme_break true) before (xs ++ n ∷ ys) [])) ≤ length xs
    → take k (cut (is_grapheme_break true) before (xs ++ n ∷ ys) []) ≡ take k (cut (is_grapheme_break true) before (xs ++ n ∷ zs) [])
unfolding cut
same-pieces before xs n ys zs zero h = refl
same-pieces before [] n ys zs (suc m) h =
    absurd (let some = some-count (is_grapheme_break true (n ∷ before) (ys ++ [])) n m (cut (is_grapheme_break true) (n ∷ before) ys []) in omega (arith, some, h))
same-pieces before (c ∷ cs) n ys zs (suc m) h =
    let rest : List ℕ → List (List ℕ) = λ tail. cut (is_grapheme_break true) (c ∷ before) (cs ++ n ∷ tail) [] in
    let test = is_grapheme_break true (c ∷ before) ((cs ++ n ∷ ys) ++ []) in
    let size : length (c ∷ cs) ≡ suc (length cs) = refl in
    step test c m (length cs) (rest ys) (rest zs) (λ k few. same-pieces (c ∷ before) cs n ys zs k few) (omega (arith, h, size))
    ∙ ap (λ b. take (suc m) (cond b ((c ∷ []) ∷ rest zs) (prepend (c ∷ []) (rest zs)))) (same-test before c cs n ys zs)

-- ---- units

offsets-taken : (k at : ℕ) (ps : List (List ℕ)) → take k (with_offsets at ps) ≡ with_offsets at (take k ps)
unfolding with_offsets
offsets-taken zero at ps = refl
offsets-taken (suc k) at [] = refl
offsets-taken (suc k) at (p ∷ ps) = ap (λ xs. (at, p) ∷ xs) (offsets-taken k (at + length p) ps)

-- a unit begins after the bytes of those before it
offset-behind : (ucd : Data) (w k at : ℕ) (ps : List (List ℕ)) (u : Unit) (rest : List Unit) → drop k (map (unit_at ucd w) (with_offsets at ps)) ≡ u ∷ rest
    → u.start ≡ at + length (concat (take k ps))
unfolding with_offsets
offset-behind ucd w zero at [] u rest e = absurd (cc)
offset-behind ucd w (suc k) at [] u rest e = absurd (cc)
offset-behind ucd w zero at (p ∷ ps) u rest e =
    let same : unit_at ucd w (at, p) ≡ u = cc in
    let start : at ≡ u.start = ap (λ x. x.start) same in
    omega (arith, start)
offset-behind ucd w (suc k) at (p ∷ ps) u rest e =
    let n = offset-behind ucd w k (at + length p) ps u rest e in
    omega (arith, n, length-append p (concat (take k ps)))

concat-encoded : (gs : List (List ℕ)) → concat (map encode_utf8_all gs) ≡ encode_utf8_all (concat gs)
concat-encoded [] = refl
concat-encoded (g ∷ gs) = ap (λ xs. encode_utf8_all g ++ xs) (concat-encoded gs) ∙ sym (encodes-append g (concat gs))

abbrev pieces : List ℕ → List (List ℕ)
pieces body = cut (is_grapheme_break true) [] (chars body) []

units-taken : (ucd : Data) (w k : ℕ) (body : List ℕ) → take k (units ucd w body) ≡ map (unit_at ucd w) (with_offsets 0 (map encode_utf8_all (take k (pieces body))))
unfolding segments
units-taken ucd w k body =
    take-map (unit_at ucd w) k (with_offsets 0 (map encode_utf8_all (pieces body)))
    ∙ ap (map (unit_at ucd w)) (offsets-taken k 0 (map encode_utf8_all (pieces body)) ∙ ap (with_offsets 0) (take-map encode_utf8_all k (pieces body)))

zero-more : (n : ℕ) → 0 + n ≡ n
zero-more n = omega arith

-- the clusters before a unit make up the text before it
record EndsAt (body : List ℕ) (k o : ℕ) : Type 0 where
  text : chars (take o body) ≡ concat (take k (pieces body))
  bytes : take o body ≡ concat (map encode_utf8_all (take k (pieces body)))

ends-at : (ucd : Data) (w k : ℕ) (body : List ℕ) (u : Unit) (rest : List Unit) → IsUtf8 body → IsCharBoundary body u.start
    → drop k (units ucd w body) ≡ u ∷ rest → EndsAt body k u.start
unfolding segments
ends-at ucd w k body u rest valid b e =
    let front = concat (take k (pieces body)) in
    let back = concat (drop k (pieces body)) in
    let all : chars body ≡ front ++ back =
    sym (concat-own [] (chars body)) ∙ ap concat (sym (take-append-drop k (pieces body))) ∙ concat-append (take k (pieces body)) (drop k (pieces body)) in
    let encoded : body ≡ encode_utf8_all front ++ encode_utf8_all back =
    sym (encodes-chars body valid) ∙ ap encode_utf8_all all ∙ encodes-append front back in
    let n : u.start ≡ length (encode_utf8_all front) =
    offset-behind ucd w k 0 (map encode_utf8_all (pieces body)) u rest e
    ∙ ap (λ xs. 0 + length (concat xs)) (take-map encode_utf8_all k (pieces body)) ∙ ap (λ xs. 0 + length xs) (concat-encoded (take k (pieces body)))
    ∙ zero-more (length (encode_utf8_all front)) in
    let bytes : take u.start body ≡ encode_utf8_all front =
    ap₂ (λ k xs. take k xs) n encoded ∙ take-append_seam (encode_utf8_all front) (encode_utf8_all back) in
    record {
      text = ap chars bytes ∙ chars_encoded front (subst IsUtf8 bytes (IsUtf8-take body u.start valid b));
      bytes = bytes ∙ sym (concat-encoded (take k (pieces body)));
    }

take-less : (o s : ℕ) (xs ys : List ℕ) → o ≤ s → take s xs ≡ take s ys → take o xs ≡ take o ys
take-less zero s xs ys h e = refl
take-less (suc o) zero xs ys h e = absurd (omega (arith, h))
take-less (suc o) (suc s) [] [] h e = refl
take-less (suc o) (suc s) [] (y ∷ ys) h e = absurd (cc)
take-less (suc o) (suc s) (x ∷ xs) [] h e = absurd (cc)
take-less (suc o) (suc s) (x ∷ xs) (y ∷ ys) h e =
    let head : x ≡ y = cc in
    let tail : take s xs ≡ take s ys = cc in
    ap₂ (λ z zs. z ∷ zs) head (take-less o s xs ys (omega (arith, h)) tail)

-- a unit shared by two bodies: a row may end after it in both or in neither, and the text before it is the same
pub record AgreeAt (p q : Unit → Bool) (old new : List ℕ) (u : Unit) : Type 0 where
  pub same : p u ≡ q u
  pub before : take u.start old ≡ take u.start new

abbrev pub Agrees : (Unit → Bool) → (Unit → Bool) → List ℕ → List ℕ → List Unit → Type 0
Agrees p q old new [] = ⊤
Agrees p q old new (u ∷ us) = AgreeAt p q old new u × Agrees p q old new us

text-at : (done g tail : List ℕ) (at : ℕ) → at ≡ length done → slice_range (done ++ (g ++ tail)) at (at + length g) ≡ g
text-at done g tail at e =
    let n : at + length g - at ≡ length g = omega arith in
    ap (λ k. take k (drop at (done ++ (g ++ tail)))) n
    ∙ ap (take (length g)) (ap (λ k. drop k (done ++ (g ++ tail))) e ∙ drop-append_seam done (g ++ tail)) ∙ take-append_seam g tail

start-at : (done x : List ℕ) (at : ℕ) → at ≡ length done → take at (done ++ x) ≡ done
start-at done x at e = ap (λ k. take k (done ++ x)) e ∙ take-append_seam done x

agree-from : (ucd : Data) (w : ℕ) (old new done : List ℕ) (gs : List (List ℕ)) (x y : List ℕ) (at : ℕ) → at ≡ length done
    → old ≡ done ++ (concat gs ++ x) → new ≡ done ++ (concat gs ++ y)
    → Agrees (is_break ucd old) (is_break ucd new) old new (map (unit_at ucd w) (with_offsets at gs))
unfolding with_offsets
agree-from ucd w old new done [] x y at e a b = tt
agree-from ucd w old new done (g ∷ gs) x y at e a b =
    let a' : old ≡ done ++ (g ++ (concat gs ++ x)) = a ∙ ap (λ xs. done ++ xs) (append_assoc g (concat gs) x) in
    let b' : new ≡ done ++ (g ++ (concat gs ++ y)) = b ∙ ap (λ xs. done ++ xs) (append_assoc g (concat gs) y) in
    let texts : slice_range old at (at + length g) ≡ slice_range new at (at + length g) =
    ap (λ xs. slice_range xs at (at + length g)) a' ∙ text-at done g (concat gs ++ x) at e
    ∙ sym (ap (λ xs. slice_range xs at (at + length g)) b' ∙ text-at done g (concat gs ++ y) at e) in
    let n : at + length g ≡ length (done ++ g) = omega (arith, e, length-append done g) in (
      record {
        same = ap (λ text. is_one_blank ucd (only_char (chars text))) texts;
        before = ap (take at) a' ∙ start-at done (g ++ (concat gs ++ x)) at e ∙ sym (ap (take at) b' ∙ start-at done (g ++ (concat gs ++ y)) at e);
      },
      agree-from ucd w old new (done ++ g) gs x y (at + length g) n (a' ∙ sym (append_assoc done g (concat gs ++ x)))
          (b' ∙ sym (append_assoc done g (concat gs ++ y))),
    )

no-chars : (m : List ℕ) → IsUtf8 m → chars m ≡ [] → m ≡ []
no-chars m u e = sym (encodes-chars m u) ∙ ap encode_utf8_all e

same-cut : (old new : List ℕ) (k : ℕ) (xs ms ys zs : List ℕ) → (ms ≡ [] → ⊥) → chars old ≡ (xs ++ ms) ++ ys → chars new ≡ (xs ++ ms) ++ zs
    → count_of (take k (pieces old)) ≤ length xs → take k (pieces old) ≡ take k (pieces new)
same-cut old new k xs [] ys zs some e f few = absurd (some refl)
same-cut old new k xs (n ∷ ms) ys zs some e f few =
    let a : chars old ≡ xs ++ (n ∷ (ms ++ ys)) = e ∙ append_assoc xs (n ∷ ms) ys in
    let b : chars new ≡ xs ++ (n ∷ (ms ++ zs)) = f ∙ append_assoc xs (n ∷ ms) zs in
    let cut-of : List ℕ → List (List ℕ) = λ cs. take k (cut (is_grapheme_break true) [] cs []) in
    ap cut-of a ∙ same-pieces [] xs n (ms ++ ys) (ms ++ zs) k (subst (λ cs. count_of (cut-of cs) ≤ length xs) a few) ∙ sym (ap cut-of b)

-- the units before one of an old body stay in a new body that is the same up to after its first character
pub record AreShared (p q : Unit → Bool) (old new : List ℕ) (us vs : List Unit) (k : ℕ) : Type 0 where
  pub same : take k us ≡ take k vs
  pub agree : Agrees p q old new (take k us)

pub units-shared : (ucd : Data) (w : ℕ) (old new : List ℕ) (start k : ℕ) (u : Unit) (rest : List Unit) → IsUtf8 old → IsUtf8 new
    → IsCharBoundary old start → IsCharBoundary new start → take start old ≡ take start new → drop k (units ucd w old) ≡ u ∷ rest
    → IsCharBoundary old u.start → u.start < start
    → AreShared (is_break ucd old) (is_break ucd new) old new (units ucd w old) (units ucd w new) k
units-shared ucd w old new start k u rest valid also at_old at_new shared e b less =
    let o = u.start in
    let m = slice_range old o start in
    let le : o ≤ start = omega (arith, less) in
    let x = ends-at ucd w k old u rest valid b e in
    let xs = concat (take k (pieces old)) in
    let split : take start old ≡ take o old ++ m = take_split old o start le in
    let front : chars (take start old) ≡ xs ++ chars m =
    ap chars split ∙ chars-append (take o old) m (IsUtf8-take old o valid b) ∙ ap (λ cs. cs ++ chars m) x.text in
    let of_old : chars old ≡ (xs ++ chars m) ++ chars (drop start old) =
    ap chars (sym (take-append-drop start old)) ∙ chars-append (take start old) (drop start old) (IsUtf8-take old start valid at_old)
    ∙ ap (λ cs. cs ++ chars (drop start old)) front in
    let of_new : chars new ≡ (xs ++ chars m) ++ chars (drop start new) =
    ap chars (sym (take-append-drop start new)) ∙ chars-append (take start new) (drop start new) (IsUtf8-take new start also at_new)
    ∙ ap (λ cs. cs ++ chars (drop start new)) (ap chars (sym shared) ∙ front) in
    let long : length (take start old) ≡ start = length-take-le start old at_old.0 in
    let short : length (take o old) ≡ o = length-take-le o old b.0 in
    let size = ap length split ∙ length-append (take o old) m in
    let some : chars m ≡ [] → ⊥ = λ none. omega (arith, long, short, size, less, ap length (no-chars m (IsUtf8-between old o start valid le b at_old) none)) in
    let few : count_of (take k (pieces old)) ≤ length xs = omega (arith, count-concat (take k (pieces old))) in
    let same = same-cut old new k xs (chars m) (chars (drop start old)) (chars (drop start new)) some of_old of_new few in
    let gs = map encode_utf8_all (take k (pieces old)) in
    record {
      same = units-taken ucd w k old ∙ ap (λ ps. map (unit_at ucd w) (with_offsets 0 (map encode_utf8_all ps))) same ∙ sym (units-taken ucd w k new);
      agree = subst (Agrees (is_break ucd old) (is_break ucd new) old new) (sym (units-taken ucd w k old))
          (agree-from ucd w old new [] gs (drop o old) (drop o new) 0 refl
          (sym (take-append-drop o old) ∙ ap (λ t. t ++ drop o old) x.bytes)
          (sym (take-append-drop o new) ∙ ap (λ t. t ++ drop o new) (sym (take-less o start old new le shared) ∙ x.bytes)));
    }
