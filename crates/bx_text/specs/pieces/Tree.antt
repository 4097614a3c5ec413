-- The model of a tree of pieces, and its invariant.
use Rattle.std.specs.Prelude.{◌≡◌, ℕ, ◌+◌, ◌/◌, ◌^◌, ◌<◌, ◌≤◌, max, List, [], ◌∷◌, ◌++◌, length, Option, Some, None}
use Rattle.std.specs.declared.boxed.Box.{Box}
use Rattle.std.specs.declared.alloc.Global.{Global}
use Rattle.bx_text.specs.declared.pieces.piece.Piece.{Piece}
use Rattle.bx_text.specs.pieces.Pieces.{total}

-- the pieces in order, and the number of pieces on the longest path down, which the code calls height
pub record Shape : Type 0 where
  pub pieces : List Piece
  pub depth : ℕ

-- the pieces of a tree, in order; an empty tree has none
abbrev pub sequence : Option (Box Shape Global) → List Piece
sequence None = []
sequence (Some tree) = tree.value.pieces

-- the number of pieces on the longest path down
abbrev pub depth_of : Option (Box Shape Global) → ℕ
depth_of None = 0
depth_of (Some tree) = tree.value.depth

-- a piece with its left and right subtrees
abbrev pub fork : Option (Box Shape Global) → Piece → Option (Box Shape Global) → Shape
fork left piece right = record {
  pieces = sequence left ++ piece ∷ sequence right;
  depth = max (depth_of left) (depth_of right) + 1;
}

-- two depths differ by at most `by`
abbrev pub DifferByAtMost : ℕ → ℕ → ℕ → Type 0
DifferByAtMost by left right = (left ≤ right + by) × (right ≤ left + by)

-- the depth is at most about twice the logarithm of the number of pieces, and each piece has a byte
pub record IsShallow (depth : ℕ) (pieces : List Piece) : Type 0 where
  pub logarithmic : 2 ^ (depth / 2) ≤ length pieces + 1
  pub no_more_than_bytes : length pieces ≤ total pieces

-- the invariant of a tree: the depths of the two sides differ by at most one, its piece is not empty, the stored length (in bytes) and
-- height are right, and so the tree is shallow
pub record IsBalanced (left : Option (Box Shape Global)) (piece : Piece) (right : Option (Box Shape Global)) (len height : ℕ) : Type 0 where
  pub balanced : DifferByAtMost 1 (depth_of left) (depth_of right)
  pub some : 0 < piece.len
  pub bytes : len ≡ total (sequence left ++ piece ∷ sequence right)
  pub depth : height ≡ max (depth_of left) (depth_of right) + 1
  pub shallow : IsShallow (max (depth_of left) (depth_of right) + 1) (sequence left ++ piece ∷ sequence right)

-- the depth of two joined sides: the deeper one's or one more, and one more if they differ by at most one
pub record IsJoined (left right depth : ℕ) : Type 0 where
  pub not_less : max left right ≤ depth
  pub one_more : depth ≤ max left right + 1
  pub even : DifferByAtMost 1 left right → depth ≡ max left right + 1
