-- How deep a balanced tree can be.
use Rattle.std.proofs.Common.{◌≡◌, ℕ, ◌+◌, ◌/◌, ◌^◌, ◌<◌, ◌≤◌, max, zero, suc, Bool, true, false, nat_le, refl, Option, List, ◌∷◌, ◌++◌, length, length-append}
use Rattle.std.proofs.Common.{arith}
use Rattle.std.proofs.Math.Pow.{pow_mono}
use Rattle.std.proofs.lemmas.Grind.{pow_more}
use Rattle.std.proofs.lemmas.Bool.Decides.{nat_tests}
use Rattle.bx_text.specs.declared.pieces.piece.Piece.{Piece}
use Rattle.bx_text.specs.pieces.Pieces.{total}
use Rattle.bx_text.specs.pieces.Tree.{Shape, sequence, depth_of, DifferByAtMost, IsShallow, IsBalanced}
use Rattle.std.specs.declared.boxed.Box.{Box}
use Rattle.std.specs.declared.alloc.Global.{Global}
use Rattle.bx_text.proofs.pieces_lemmas.Cuts.{total_append}

-- with two levels more there are twice as many
two_deeper : (d l r nl nr : ℕ) → d ≤ l → d ≤ r → 2 ^ (l / 2) ≤ nl + 1 → 2 ^ (r / 2) ≤ nr + 1 → 2 ^ ((d + 2) / 2) ≤ nl + (nr + 1) + 1
two_deeper d l r nl nr hl hr left right =
    let half : (d + 2) / 2 ≡ d / 2 + 1 = omega arith in
    let below_left : 2 ^ (d / 2) ≤ 2 ^ (l / 2) = pow_mono {i = d / 2} {j = l / 2} (omega arith) in
    let below_right : 2 ^ (d / 2) ≤ 2 ^ (r / 2) = pow_mono {i = d / 2} {j = r / 2} (omega arith) in
    rw half (omega (arith, pow_more 2 (d / 2)))

fork_at : (h l r nl nr : ℕ) → h ≡ max l r + 1 → DifferByAtMost 1 l r → 2 ^ (l / 2) ≤ nl + 1 → 2 ^ (r / 2) ≤ nr + 1 → 2 ^ (h / 2) ≤ nl + (nr + 1) + 1
fork_at zero l r nl nr e b left right = absurd (omega (arith, e))
fork_at (suc zero) l r nl nr e b left right = omega arith
fork_at (suc (suc d)) l r nl nr e b left right =
    let same : suc (suc d) ≡ d + 2 = omega arith in
    rw same (two_deeper d l r nl nr (omega (arith, e, b.0, b.1)) (omega (arith, e, b.0, b.1)) left right)

-- a piece between two sides that are about as deep
pub shallow_fork : (l r : ℕ) (xs : List Piece) (p : Piece) (ys : List Piece) → DifferByAtMost 1 l r → 0 < p.len → IsShallow l xs → IsShallow r ys
    → IsShallow (max l r + 1) (xs ++ p ∷ ys)
shallow_fork l r xs p ys b some left right =
    let deep : 2 ^ ((max l r + 1) / 2) ≤ length xs + (length ys + 1) + 1 =
    fork_at (max l r + 1) l r (length xs) (length ys) (omega arith) b left.logarithmic right.logarithmic in
    record {
      logarithmic = omega (arith, deep, length-append xs (p ∷ ys));
      no_more_than_bytes = omega (arith, length-append xs (p ∷ ys), total_append xs (p ∷ ys), left.no_more_than_bytes, right.no_more_than_bytes);
    }

-- a piece and the side after it that have more bytes, and as many pieces as deep
pub balanced_longer : (left : Option (Box Shape Global)) (p q : Piece) (old new : Option (Box Shape Global)) (len by height : ℕ)
    → IsBalanced left p old len height
    → depth_of new ≡ depth_of old → p.len ≤ q.len → q.len + total (sequence new) ≡ p.len + total (sequence old) + by
    → length (sequence new) ≡ length (sequence old)
    → IsBalanced left q new (len + by) height
balanced_longer left p q old new len by height h deep more bytes count =
    let counted_old : length (sequence left ++ p ∷ sequence old) ≡ length (sequence left) + (length (sequence old) + 1) =
    omega (arith, length-append (sequence left) (p ∷ sequence old)) in
    let counted : length (sequence left ++ q ∷ sequence new) ≡ length (sequence left ++ p ∷ sequence old) =
    omega (arith, length-append (sequence left) (q ∷ sequence new), counted_old) in
    let summed : total (sequence left ++ q ∷ sequence new) ≡ total (sequence left ++ p ∷ sequence old) + by =
    omega (arith, total_append (sequence left) (q ∷ sequence new), total_append (sequence left) (p ∷ sequence old)) in
    record {
      balanced = rw deep h.balanced;
      some = omega (arith, h.some);
      bytes = omega (arith, h.bytes);
      depth = rw deep h.depth;
      shallow = rw deep (record { logarithmic = omega (arith, h.shallow.logarithmic); no_more_than_bytes = omega (arith, h.shallow.no_more_than_bytes) });
    }

deep_at : (d n : ℕ) → 130 ≤ d → 2 ^ (d / 2) ≤ n → 2 ^ 65 ≤ n
deep_at d n h e = let more : 2 ^ 65 ≤ 2 ^ (d / 2) = pow_mono {i = 65} {j = d / 2} (omega arith) in omega arith

small_at : (high : Bool) (d n : ℕ) → nat_le 130 d ≡ high → 2 ^ (d / 2) ≤ n → n ≤ 2 ^ 64 → d < 130
small_at true d n e h fits = let deep : 130 ≤ d = grind (arith, nat_tests) in absurd (omega (arith, deep_at d n deep h))
small_at false d n e h fits = grind (arith, nat_tests)

-- whose bytes a machine can count
pub small_depth : (d : ℕ) (ps : List Piece) → IsShallow d ps → total ps < 2 ^ 64 → d < 130
small_depth d ps h fits = small_at (nat_le 130 d) d (length ps + 1) refl h.logarithmic (omega (arith, h.no_more_than_bytes))
