-- The answers of a walk for the paragraph that it is at.
use Rattle.std.proofs.Common.{◌≡◌, ◌<◌, ◌≤◌, ◌+◌, ◌∙◌, ℕ, Bool, true, false, nat_lt, List, [], ◌∷◌, ◌++◌, length, take, get_or, slice_get, Some}
use Rattle.std.proofs.Common.{refl, ap, sym, arith, length-append}
use Rattle.std.proofs.lemmas.Bool.Decides.{nat_tests}
use Rattle.std.proofs.lemmas.List.{get_or_append_left}
use Rattle.bx_text.specs.declared.index.lengths.Lengths.{Lengths}
use Rattle.bx_text.specs.declared.index.spot.Spot.{Spot}
use Rattle.bx_text.specs.index.Flat.{flat}
use Rattle.bx_text.specs.index.Paragraphs.{bytes_of, total, spans}
use Rattle.bx_text.specs.index.Walk.{separators}
use Rattle.bx_text.specs.index.Spots.{IsSpot, closed}
use Rattle.bx_text.proofs.index_lemmas.Asked.{span_at, separator_at}
use Rattle.bx_text.proofs.index_lemmas.Cuts.{unended}
use Rattle.bx_text.proofs.index_lemmas.Flats.{entry_at, length_flat_more, length_flat_front}
use Rattle.bx_text.proofs.index_lemmas.Totals.{total_more, total_front}

-- ---- in the blocks

number_at : (bs : List (List Lengths)) (s : Spot) → IsSpot bs s → (less : Bool) → nat_lt s.block (length bs) ≡ less → s.number ≤ length (flat bs)
number_at bs s h true e =
    let l : s.block < length bs = grind (arith, nat_tests) in
    let held : s.within < length (get_or bs s.block []) = h.held l in
    omega (arith, h.counted, held, length_flat_more bs s.block [] l, length_flat_front (s.block + 1) bs)
number_at bs s h false e =
    let l : length bs ≤ s.block = grind (arith, nat_tests) in
    let none : s.within ≡ 0 = h.behind l in
    omega (arith, h.counted, none, length_flat_front s.block bs)

pub before_last : (bs : List (List Lengths)) (s : Spot) → IsSpot bs s → s.block < length bs → s.number < length (flat bs)
before_last bs s h l =
    let held : s.within < length (get_or bs s.block []) = h.held l in
    omega (arith, h.counted, held, length_flat_more bs s.block [] l, length_flat_front (s.block + 1) bs)

-- the next one, in the same block or in a later one
module _ (bs : List (List Lengths)) (s : Spot) (h : IsSpot bs s) (ls : List Lengths) (l : s.block < length bs) (e : ls ≡ get_or bs s.block []) where
  pub next_within : s.within + 1 < length ls → IsSpot bs (record { number = s.number + 1; block = s.block; within = s.within + 1 })
  next_within k = record {
    inside = omega arith;
    counted = omega (arith, h.counted);
    held = λ _. omega (arith, k, ap length e);
    behind = λ m. absurd (omega arith);
  }

  pub next_behind : (f : ℕ) → length ls ≤ s.within + 1 → f ≤ length bs → length (flat (take f bs)) ≡ length (flat (take (s.block + 1) bs))
      → (f < length bs → 0 < length (get_or bs f [])) → IsSpot bs (record { number = s.number + 1; block = f; within = 0 })
  next_behind f k i n filled =
      let held : s.within < length (get_or bs s.block []) = h.held l in
      record {
        inside = i;
        counted = omega (arith, h.counted, held, k, n, ap length e, length_flat_more bs s.block [] l);
        held = filled;
        behind = λ _. refl;
      }

pub number_inside : (bs : List (List Lengths)) (last : ℕ) (s : Spot) → IsSpot bs s → s.number < length (closed bs last)
number_inside bs last s h = omega (arith, number_at bs s h (nat_lt s.block (length bs)) refl, length-append (flat bs) (unended last ∷ []))

pub paragraph_in : (bs : List (List Lengths)) (u d : Lengths) (ls : List Lengths) (block within number : ℕ) → block < length bs → ls ≡ get_or bs block []
    → ls ≡ get_or bs block ls → number ≡ length (flat (take block bs)) + within → within < length ls
    → get_or ls within d ≡ get_or (flat bs ++ u ∷ []) number (get_or ls within d)
paragraph_in bs u d ls block within number h e f n l =
    let k = entry_at bs block ls h f bs ls refl refl number within _ _ d n refl refl l in
    k.2 ∙ sym (get_or_append_left (flat bs) (u ∷ []) (get_or ls within d) number k.0)

-- ---- the paragraph's span and separator

pub span_is : (ps : List Lengths) (n start : ℕ) (here : Lengths) → n < length ps → start ≡ total (take n ps) → here ≡ get_or ps n here
    → slice_get (spans ps) n ≡ Some (start, start + here.body)
span_is ps n start here h e k =
    let same : 0 + total (take n ps) ≡ start = omega (arith, e) in
    span_at 0 n ps here h ∙ ap (λ s. Some (s, s + (get_or ps n here).body)) same ∙ ap (λ (q : Lengths). Some (start, start + q.body)) (sym k)

pub separator_is : (ps : List Lengths) (n : ℕ) (here : Lengths) → n < length ps → here ≡ get_or ps n here → slice_get (separators ps) n ≡ Some here.separator
separator_is ps n here h k = separator_at ps n here h ∙ ap (λ (q : Lengths). Some q.separator) (sym k)

-- the offset after the paragraph
pub behind_is : (ps : List Lengths) (n start : ℕ) (here : Lengths) → n < length ps → start ≡ total (take n ps) → here ≡ get_or ps n here
    → start + bytes_of here ≤ total ps
behind_is ps n start here h e k = omega (arith, e, ap bytes_of k, total_more ps n here h, total_front (n + 1) ps)

-- ---- a step

pub begins_next : (ps : List Lengths) (n m start b : ℕ) (here : Lengths) → n < length ps → start ≡ total (take n ps) → here ≡ get_or ps n here
    → b ≡ bytes_of here → m ≡ n + 1 → start + b ≡ total (take m ps)
begins_next ps n m start b here h e k w f = omega (arith, e, ap bytes_of k, w, total_more ps n here h, ap (λ i. total (take i ps)) f)
