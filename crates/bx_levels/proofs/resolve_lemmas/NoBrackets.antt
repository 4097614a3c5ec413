-- Without a type ON there is no bracket.
use Rattle.std.proofs.Common.{◌≡◌, ◌+◌, ℕ, List, [], ◌∷◌, refl, ap, true, false, Option, None}
use Rattle.std.specs.Prelude.{◌||◌}
use Rattle.std.specs.List.{list_any}
use Rattle.bx_ucd.specs.Data.{Data}
use Rattle.bx_ucd.specs.declared.class.Class.{Class}
use Rattle.bx_ucd.specs.declared.data.Side.{Side}
use Rattle.bx_levels.specs.brackets.Pairs.{is_on, meet, Search, search_from, pairs}

-- a search that has found nothing
abbrev start : Search
start = record { openers = []; pairs = []; is_over = false }

none_found : (ucd : Data) (j : ℕ) (cs : List ℕ) (ts : List Class) → list_any is_on ts ≡ false → search_from ucd start j cs ts ≡ start
none_found ucd j [] ts e = refl
none_found ucd j (c ∷ cs) [] e = refl
none_found ucd j (c ∷ cs) (t ∷ ts) e =
    (elim (is_on t) as (λ b. (b || list_any is_on ts) ≡ false
    → search_from ucd (meet start j c (elim b as (λ x. Option (Side × ℕ)) [ true ↦ ucd.bracket c | false ↦ None ])) (j + 1) cs ts ≡ start) [
      | true ↦ λ k. absurd (cc)
      | false ↦ λ k. none_found ucd (j + 1) cs ts k
    ]) e

pub no_pairs : (ucd : Data) (cs : List ℕ) (ts : List Class) → list_any is_on ts ≡ false → pairs ucd cs ts ≡ []
no_pairs ucd cs ts e = ap (λ (s : Search). s.pairs) (none_found ucd 0 cs ts e)
