-- A body's clusters one after another: the first cluster of the rest, and the units after it.
use Rattle.std.proofs.Common.{◌≡◌, ℕ, zero, suc, ◌+◌, ◌<◌, ◌≤◌, true, List, [], ◌∷◌, ◌++◌, map, length, drop, take, refl, sym, ap, ap₂, subst, ◌∙◌, arith}
use Rattle.std.proofs.Common.{append_assoc, append-nil, length-append, encode_utf8, encode_utf8_all}
use Rattle.std.specs.List.{concat}
use Rattle.std.specs.Str.{chars, IsUtf8, IsCharBoundary, all_scalars}
use Rattle.bx_ucd.specs.Data.{Data}
use lib.Utf8.{scalar}
use Rattle.std.proofs.lemmas.Bool.{and_parts, and_from}
use Rattle.std.proofs.lemmas.List.{drop-drop, drop_at, drop_all, length-drop, take_all}
use Rattle.std.proofs.lemmas.Str.{chars-nil, chars_past_char, encodes-append, encodes-chars, IsUtf8-past_char, IsUtf8-drop}
use Rattle.std.proofs.lemmas.Str.{IsCharBoundary-from_drop, IsCharBoundary-start}
use Rattle.unicode_segmentation.specs.Grapheme.{graphemes, is_grapheme_break}
use Rattle.unicode_segmentation.specs.Segments.{cut, segments, with_offsets}
use Rattle.unicode_segmentation.proofs.SegmentsLemmas.{AllPieces, segments_nonempty}
use Rattle.bx_rows.specs.declared.cells.unit.Unit.{Unit}
use Rattle.bx_rows.specs.declared.cells.unit.Face.{Face}
use Rattle.bx_rows.specs.cells.Units.{face, unit_at, units}
use Rattle.bx_rows.specs.cells.UnitFacts.{units_from}
use Rattle.bx_rows.proofs.cells_lemmas.Locality.{concat-own, TailsOwn, tails-own}

-- ---- characters in front of a text

pub IsUtf8-past_all : (cs rest bs : List ℕ) → IsUtf8 bs → bs ≡ encode_utf8_all cs ++ rest → IsUtf8 rest
IsUtf8-past_all [] rest bs u e = subst IsUtf8 e u
IsUtf8-past_all (c ∷ cs) rest bs u e =
    let first : bs ≡ encode_utf8 c ++ (encode_utf8_all cs ++ rest) = e ∙ append_assoc (encode_utf8 c) (encode_utf8_all cs) rest in
    IsUtf8-past_all cs rest (encode_utf8_all cs ++ rest) (IsUtf8-past_char bs (encode_utf8_all cs ++ rest) c u first) refl

pub chars_past_all : (cs rest bs : List ℕ) → IsUtf8 bs → bs ≡ encode_utf8_all cs ++ rest → chars bs ≡ cs ++ chars rest
chars_past_all [] rest bs u e = ap chars e
chars_past_all (c ∷ cs) rest bs u e =
    let first : bs ≡ encode_utf8 c ++ (encode_utf8_all cs ++ rest) = e ∙ append_assoc (encode_utf8 c) (encode_utf8_all cs) rest in
    chars_past_char bs (encode_utf8_all cs ++ rest) c u first
    ∙ ap (λ xs. c ∷ xs) (chars_past_all cs rest (encode_utf8_all cs ++ rest) (IsUtf8-past_char bs (encode_utf8_all cs ++ rest) c u first) refl)

pub chars_encoded : (cs : List ℕ) → IsUtf8 (encode_utf8_all cs) → chars (encode_utf8_all cs) ≡ cs
chars_encoded cs u =
    chars_past_all cs [] (encode_utf8_all cs) u (sym (append-nil (encode_utf8_all cs))) ∙ ap (λ xs. cs ++ xs) chars-nil ∙ append-nil cs

pub scalars_front : (cs ds : List ℕ) → all_scalars (cs ++ ds) ≡ true → all_scalars cs ≡ true
scalars_front [] ds h = refl
scalars_front (c ∷ cs) ds h =
    let p = and_parts (scalar c) (all_scalars (cs ++ ds)) h in and_from (scalar c) (all_scalars cs) p.0 (scalars_front cs ds p.1)

-- ---- the first cluster of a text

pub record IsFirst (bs p : List ℕ) (ps : List (List ℕ)) : Type 0 where
  pub bytes : bs ≡ p ++ drop (length p) bs
  pub utf8 : IsUtf8 (drop (length p) bs)
  pub own : ps ≡ graphemes true (drop (length p) bs)

first_of : (gs : List (List ℕ)) (bs p : List ℕ) (ps : List (List ℕ)) → IsUtf8 bs → encode_utf8_all (concat gs) ≡ bs → TailsOwn gs
    → map encode_utf8_all gs ≡ p ∷ ps → IsFirst bs p ps
unfolding segments
first_of [] bs p ps u e t h = cc
first_of (g ∷ gs) bs p ps u e t h =
    let head : encode_utf8_all g ≡ p = cc in
    let tail : map encode_utf8_all gs ≡ ps = cc in
    let rest = encode_utf8_all (concat gs) in
    let parts : bs ≡ encode_utf8_all g ++ rest = sym e ∙ encodes-append g (concat gs) in
    let left : drop (length p) bs ≡ rest = ap (drop (length p)) parts ∙ drop_at (encode_utf8_all g) rest (length p) (ap length head) in
    let valid : IsUtf8 rest = IsUtf8-past_all g rest bs u parts in
    record {
      bytes = parts ∙ ap₂ (λ x y. x ++ y) head (sym left);
      utf8 = subst IsUtf8 (sym left) valid;
      own = sym tail ∙ ap (map encode_utf8_all) (t ∙ ap (λ x. cut (is_grapheme_break true) [] x []) (sym (chars_encoded (concat gs) valid)))
          ∙ ap (λ x. map encode_utf8_all (cut (is_grapheme_break true) [] (chars x) [])) (sym left);
    }

pub first-cluster : (bs p : List ℕ) (ps : List (List ℕ)) → IsUtf8 bs → graphemes true bs ≡ p ∷ ps → IsFirst bs p ps
unfolding segments
first-cluster bs p ps u h =
    first_of (cut (is_grapheme_break true) [] (chars bs) []) bs p ps u
    (ap encode_utf8_all (concat-own [] (chars bs)) ∙ encodes-chars bs u) (tails-own [] (chars bs)) h

none_of : (gs : List (List ℕ)) → map encode_utf8_all gs ≡ [] → encode_utf8_all (concat gs) ≡ []
none_of [] h = refl
none_of (g ∷ gs) h = cc

-- a text of no clusters has no bytes
pub no-cluster : (bs : List ℕ) → IsUtf8 bs → graphemes true bs ≡ [] → bs ≡ []
unfolding segments
no-cluster bs u h =
    sym (ap encode_utf8_all (concat-own [] (chars bs)) ∙ encodes-chars bs u) ∙ none_of (cut (is_grapheme_break true) [] (chars bs) []) h

-- ---- units

-- the cluster at an offset of a body, and the rest after it
pub record IsNext (ucd : Data) (w : ℕ) (body : List ℕ) (at : ℕ) (p : List ℕ) (ps : List (List ℕ)) : Type 0 where
  pub units : units_from ucd w body at ≡ unit_at ucd w (at, p) ∷ units_from ucd w body (at + length p)
  pub own : ps ≡ graphemes true (drop (at + length p) body)
  pub boundary : IsCharBoundary body (at + length p)

pub next-cluster : (ucd : Data) (w : ℕ) (body : List ℕ) (at : ℕ) (p : List ℕ) (ps : List (List ℕ)) → IsUtf8 body → IsCharBoundary body at
    → graphemes true (drop at body) ≡ p ∷ ps → IsNext ucd w body at p ps
unfolding with_offsets
next-cluster ucd w body at p ps u b h =
    let f = first-cluster (drop at body) p ps (IsUtf8-drop body at u b) h in
    let left : drop (length p) (drop at body) ≡ drop (at + length p) body = drop-drop (length p) at body in
    let own : ps ≡ graphemes true (drop (at + length p) body) = f.own ∙ ap (graphemes true) left in
    let count = ap length f.bytes ∙ length-append p (drop (length p) (drop at body)) in
    let within : at ≤ length body = b.0 in
    record {
      units = ap (λ x. map (unit_at ucd w) (with_offsets at x)) h
          ∙ ap (λ x. unit_at ucd w (at, p) ∷ map (unit_at ucd w) (with_offsets (at + length p) x)) own;
      own = own;
      boundary = IsCharBoundary-from_drop body (at + length p) (omega (arith, count, within, length-drop at body)) (subst IsUtf8 left f.utf8);
    }

-- nothing is left at the end
pub none-behind : (ucd : Data) (w : ℕ) (body : List ℕ) (at : ℕ) → length body ≤ at → units_from ucd w body at ≡ []
unfolding segments with_offsets cut
none-behind ucd w body at h =
    ap (λ x. map (unit_at ucd w) (with_offsets at (map encode_utf8_all (cut (is_grapheme_break true) [] (chars x) [])))) (drop_all at body h)
    ∙ ap (λ x. map (unit_at ucd w) (with_offsets at (map encode_utf8_all (cut (is_grapheme_break true) [] x [])))) chars-nil

pub past-all : (body : List ℕ) (at : ℕ) → IsUtf8 body → IsCharBoundary body at → graphemes true (drop at body) ≡ [] → length body ≤ at
past-all body at u b h = omega (arith, ap length (no-cluster (drop at body) (IsUtf8-drop body at u b) h), length-drop at body)

head_some : (ps : List (List ℕ)) (p : List ℕ) (rest : List (List ℕ)) → AllPieces (λ p. 0 < length p) ps → ps ≡ p ∷ rest → 0 < length p
head_some [] p rest h e = cc
head_some (q ∷ qs) p rest h e = let same : q ≡ p = cc in omega (arith, h.0, ap length same)

-- no cluster is empty
pub cluster-grows : (body : List ℕ) (at : ℕ) (p : List ℕ) (ps : List (List ℕ)) → graphemes true (drop at body) ≡ p ∷ ps → 0 < length p
cluster-grows body at p ps e = head_some (graphemes true (drop at body)) p ps (segments_nonempty (is_grapheme_break true) (drop at body)) e

-- the unit of the next cluster, with its face
pub unit-next : (ucd : Data) (w : ℕ) (body : List ℕ) (at : ℕ) (p : List ℕ) (ps : List (List ℕ)) (f : Face) → IsNext ucd w body at p ps
    → f ≡ face ucd w p → units_from ucd w body at ≡ record { start = at; stop = at + length p; face = f } ∷ units_from ucd w body (at + length p)
unit-next ucd w body at p ps f n e = n.units
    ∙ ap (λ x. record { start = at; stop = at + length p; face = x } ∷ units_from ucd w body (at + length p)) (sym e)

-- ---- a unit among the units of the rest

-- the unit is the first one from its own offset on, and `rest` are the ones after it
pub record IsUnitAt (ucd : Data) (w : ℕ) (body : List ℕ) (u : Unit) (rest : List Unit) : Type 0 where
  pub units : units_from ucd w body u.start ≡ u ∷ rest
  pub boundary : IsCharBoundary body u.start

unit-first : (ucd : Data) (w : ℕ) (body : List ℕ) (at : ℕ) (p : List ℕ) (ps : List (List ℕ)) (u : Unit) (rest : List Unit) → IsCharBoundary body at
    → graphemes true (drop at body) ≡ p ∷ ps → unit_at ucd w (at, p) ∷ map (unit_at ucd w) (with_offsets (at + length p) ps) ≡ u ∷ rest
    → IsUnitAt ucd w body u rest
unfolding with_offsets
unit-first ucd w body at p ps u rest b e h =
    let head : unit_at ucd w (at, p) ≡ u = cc in
    let start : at ≡ u.start = ap (λ x. x.start) head in
    record {
      units = ap (units_from ucd w body) (sym start) ∙ ap (λ x. map (unit_at ucd w) (with_offsets at x)) e ∙ h;
      boundary = subst (IsCharBoundary body) start b;
    }

unit-later : (ucd : Data) (w : ℕ) (body : List ℕ) → IsUtf8 body → (i : ℕ) (ps : List (List ℕ)) (at : ℕ) → IsCharBoundary body at
    → graphemes true (drop at body) ≡ ps → (u : Unit) (rest : List Unit) → drop i (map (unit_at ucd w) (with_offsets at ps)) ≡ u ∷ rest
    → IsUnitAt ucd w body u rest
unfolding with_offsets
unit-later ucd w body valid zero [] at b e u rest h = cc
unit-later ucd w body valid (suc i) [] at b e u rest h = cc
unit-later ucd w body valid zero (p ∷ ps) at b e u rest h = unit-first ucd w body at p ps u rest b e h
unit-later ucd w body valid (suc i) (p ∷ ps) at b e u rest h =
    let n = next-cluster ucd w body at p ps valid b e in unit-later ucd w body valid i ps (at + length p) n.boundary (sym n.own) u rest h

-- each unit of a body is such
pub unit-behind : (ucd : Data) (w : ℕ) (body : List ℕ) (i : ℕ) (u : Unit) (rest : List Unit) → IsUtf8 body
    → drop i (units ucd w body) ≡ u ∷ rest → IsUnitAt ucd w body u rest
unit-behind ucd w body i u rest valid h =
    unit-later ucd w body valid i (graphemes true body) 0 (IsCharBoundary-start body valid) refl u rest h

few-from : (ucd : Data) (w : ℕ) (body : List ℕ) → IsUtf8 body → (ps : List (List ℕ)) (at : ℕ) → IsCharBoundary body at
    → graphemes true (drop at body) ≡ ps → at + length (map (unit_at ucd w) (with_offsets at ps)) ≤ length body
unfolding with_offsets
few-from ucd w body valid [] at b e = let within = b.0 in omega (arith, within)
few-from ucd w body valid (p ∷ ps) at b e =
    let n = next-cluster ucd w body at p ps valid b e in
    omega (arith, cluster-grows body at p ps e, few-from ucd w body valid ps (at + length p) n.boundary (sym n.own))

-- a body has no more units than bytes
pub few-units : (ucd : Data) (w : ℕ) (body : List ℕ) → IsUtf8 body → length (units ucd w body) ≤ length body
few-units ucd w body valid =
    let few = few-from ucd w body valid (graphemes true body) 0 (IsCharBoundary-start body valid) refl in omega (arith, few)

-- so the first units, as many as bytes, are all
pub all_taken : (ucd : Data) (w : ℕ) (body : List ℕ) (us : List Unit) → IsUtf8 body → us ≡ take (length body) (units_from ucd w body 0)
    → us ≡ units ucd w body
all_taken ucd w body us valid e = e ∙ take_all (length body) (units ucd w body) (few-units ucd w body valid)
