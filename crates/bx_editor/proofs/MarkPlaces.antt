-- The mark, and where the region begins, are places where mark and cursor are.
use Rattle.std.proofs.Common.{◌≡◌, ℕ, Option, Some, None, min, subst, arith, ⊎_elim}
use Rattle.std.specs.Prelude.{IfSome, unwrap_or}
use Rattle.std.proofs.lemmas.Bool.{cases_lt}

module _ (P : ℕ → Type 0) (place : ℕ) (here : P place) where
  pub mark-place : (mark : Option ℕ) → IfSome mark P → P (unwrap_or mark place)
  mark-place None h = here
  mark-place (Some m) h = h

  lower : (m : ℕ) → P m → P (min m place)
  lower m h =
      ⊎_elim
      (λ less. let e : m ≡ min m place = omega (arith, less) in subst P e h)
      (λ more. let e : place ≡ min m place = omega (arith, more) in subst P e here)
      (cases_lt m place)

  pub region-place : (mark : Option ℕ) → IfSome mark P → P (min (unwrap_or mark place) place)
  region-place mark h = lower (unwrap_or mark place) (mark-place mark h)
