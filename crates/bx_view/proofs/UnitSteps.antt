-- The units of a body one after another, up to the one with a given number.
use Rattle.std.proofs.Common.{◌≡◌, ◌⊎◌, ℕ, zero, suc, ◌+◌, ◌-◌, ◌<◌, ◌≤◌, true, List, [], ◌∷◌, length, drop, get_or, IsUtf8, IsCharBoundary}
use Rattle.std.proofs.Common.{refl, sym, ap, subst, ◌∙◌, ⊎_elim, arith, length-append, length-drop}
use Rattle.std.proofs.lemmas.List.{drop-drop}
use Rattle.std.proofs.lemmas.Str.{IsCharBoundary-from_drop, IsUtf8-drop}
use Rattle.unicode_segmentation.specs.Grapheme.{graphemes}
use Rattle.bx_rows.proofs.cells_lemmas.Rest.{first-cluster}
use Rattle.bx_view.specs.Numbers.{boundaries}
use Rattle.bx_view.proofs.WordParts.{none-left}

-- the unit at an offset ends at a boundary, and the boundaries go on from there
pub record IsNextBound (body : List ℕ) (at stop : ℕ) : Type 0 where
  pub bounds : IsCharBoundary body stop
  pub places : boundaries at (graphemes true (drop at body)) ≡ at ∷ boundaries stop (graphemes true (drop stop body))

pub next-bound : (body : List ℕ) (at : ℕ) (p : List ℕ) (ps : List (List ℕ)) → IsUtf8 body → IsCharBoundary body at
    → graphemes true (drop at body) ≡ p ∷ ps → IsNextBound body at (at + length p)
next-bound body at p ps u b h =
    let f = first-cluster (drop at body) p ps (IsUtf8-drop body at u b) h in
    let left : drop (length p) (drop at body) ≡ drop (at + length p) body = drop-drop (length p) at body in
    let own : ps ≡ graphemes true (drop (at + length p) body) = f.own ∙ ap (graphemes true) left in
    let count = ap length f.bytes ∙ length-append p (drop (length p) (drop at body)) in
    let within : at ≤ length body = b.0 in
    record {
      bounds = IsCharBoundary-from_drop body (at + length p) (omega (arith, count, within, length-drop at body)) (subst IsUtf8 left f.utf8);
      places = ap (boundaries at) h ∙ ap (λ x. at ∷ boundaries (at + length p) x) own;
    }

-- one boundary later, one number less
pub one-later : (a : ℕ) (os : List ℕ) (k d : ℕ) → 0 < k → get_or (a ∷ os) k d ≡ get_or os (k - 1) d
one-later a os zero d h = absurd (omega (arith, h))
one-later a os (suc k) d h = let same : k ≡ suc k - 1 = omega arith in ap (λ n. get_or os n d) same

first-is : (start d : ℕ) (gs : List (List ℕ)) → start ≡ get_or (boundaries start gs) 0 d
first-is start d [] = refl
first-is start d (g ∷ gs) = refl

one-or : (at k d : ℕ) → at ≡ d → at ≡ get_or (at ∷ []) k d
one-or at zero d e = refl
one-or at (suc k) d e = e

-- where the number is 0 or the body ends
pub reached : (body : List ℕ) (at k : ℕ) → IsCharBoundary body at → (k ≡ 0) ⊎ (length body ≤ at)
    → at ≡ get_or (boundaries at (graphemes true (drop at body))) k (0 + length body)
reached body at k b h =
    let d = 0 + length body in
    let gs = graphemes true (drop at body) in
    let within : at ≤ length body = b.0 in
    ⊎_elim (λ none. first-is at d gs ∙ ap (λ n. get_or (boundaries at gs) n d) (sym none))
    (λ past. one-or at k d (omega (arith, past, within)) ∙ sym (ap (λ x. get_or (boundaries at x) k d) (none-left body at past))) h

-- boundaries of a body within a text
pub moved-bounds : (start at : ℕ) (gs : List (List ℕ)) (k d : ℕ) → start + get_or (boundaries at gs) k d ≡ get_or (boundaries (start + at) gs) k (start + d)
moved-bounds start at [] zero d = refl
moved-bounds start at [] (suc k) d = refl
moved-bounds start at (g ∷ gs) zero d = refl
moved-bounds start at (g ∷ gs) (suc k) d =
    let next : start + (at + length g) ≡ start + at + length g = omega arith in
    moved-bounds start (at + length g) gs k d ∙ ap (λ n. get_or (boundaries n gs) k (start + d)) next

-- the unit's place in the text, from its place in the body
pub placed-in : (start : ℕ) (body : List ℕ) (k : ℕ) → start + get_or (boundaries 0 (graphemes true body)) k (0 + length body)
    ≡ get_or (boundaries start (graphemes true body)) k (start + length body)
placed-in start body k =
    let gs = graphemes true body in
    let begin : start + 0 ≡ start = omega arith in
    let stop : start + (0 + length body) ≡ start + length body = omega arith in
    moved-bounds start 0 gs k (0 + length body) ∙ ap (λ n. get_or (boundaries n gs) k (start + (0 + length body))) begin
    ∙ ap (λ d. get_or (boundaries start gs) k d) stop
