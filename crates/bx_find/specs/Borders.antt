-- The borders of a query's beginnings. The border of the first k letters is their longest beginning, of fewer than k, that is
-- also their end. A search that has read these letters keeps the border where the next letter does not go on with them.
use Rattle.std.specs.Prelude.{◌≡◌, ℕ, ◌<◌, ◌-◌, ◌+◌, ◌≤◌, List, length, take, slice_range, get_or}

-- the first i letters are the last i of the first k
abbrev pub Ends : List ℕ → ℕ → ℕ → Type 0
Ends ls k i = take i ls ≡ slice_range ls (k - i) k

-- the border of the first k letters has f letters: the greatest i below k for which `Ends` holds
pub record IsBorder (ls : List ℕ) (k f : ℕ) : Type 0 where
  pub below : f < k
  pub ends : Ends ls k f
  pub greatest : (i : ℕ) → f < i → i < k → ¬ (Ends ls k i)

-- each beginning of the letters has its border in the table
abbrev pub AreBorders : List ℕ → List ℕ → Type 0
AreBorders ls borders = (k : ℕ) → 0 < k → k ≤ length ls → IsBorder ls k (get_or borders k 0)

-- some letters, at most 256 (four for each of 64 characters), with the border of each beginning, the empty one too
pub record IsQuery (ls table : List ℕ) : Type 0 where
  pub some : 0 < length ls
  pub few : length ls ≤ 256
  pub count : length table ≡ length ls + 1
  pub borders : AreBorders ls table
