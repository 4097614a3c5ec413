-- Texts that a store keeps elsewhere, by their fields and by what these mean.
use Rattle.std.proofs.Common.{◌≡◌, ℕ, Bool, true, false, ◌||◌, List, [], ◌∷◌, map, cond, Option, Some, refl, ap, sym}
use Rattle.std.proofs.lemmas.Bool.{cond-false}
use Rattle.std.specs.Prelude.{find, option_map}
use Rattle.std.specs.List.{list_any}
use Rattle.bx_store.specs.Kept.{kept_of}
use Rattle.bx_store.specs.Stores as spec
use Rattle.bx_store.specs.Stores.{MemoryState, has_name, is_at, is_taken, kept_at}
use Rattle.bx_store.specs.declared.kept.Kept.{Kept}

pub any_kept : (name : List ℕ) (kept : List Kept) → list_any (λ k. has_name name (kept_of k).name) kept ≡ list_any (λ k. has_name name k.name) (map kept_of kept)
any_kept name [] = refl
any_kept name (k ∷ kept) = ap (λ t. has_name name (kept_of k).name || t) (any_kept name kept)

abbrev by_text : Option Kept → Option (List ℕ)
by_text found = option_map (λ k. (kept_of k).text) found

found_by : (t : Bool) (k : Kept) (found : Option Kept) (found' : Option spec.Kept) → by_text found ≡ option_map (λ (k : spec.Kept). k.text) found'
    → by_text (cond t (Some k) found) ≡ option_map (λ (k : spec.Kept). k.text) (cond t (Some (kept_of k)) found')
found_by true k found found' h = refl
found_by false k found found' h = h

pub found_kept : (place : Option (List ℕ)) (kept : List Kept)
    → option_map (λ k. (kept_of k).text) (find (λ k. is_at place (kept_of k).name) kept) ≡ option_map (λ (k : spec.Kept). k.text) (find (λ k. is_at place k.name) (map kept_of kept))
found_kept place [] = refl
found_kept place (k ∷ kept) =
    found_by (is_at place (kept_of k).name) k (find (λ k. is_at place (kept_of k).name) kept) (find (λ k. is_at place k.name) (map kept_of kept)) (found_kept place kept)

-- where the contents are elsewhere
pub not_named : (name : List ℕ) (s : MemoryState) → has_name name s.name ≡ false → list_any (λ k. has_name name k.name) s.elsewhere ≡ is_taken name s
not_named name s h = sym (ap (λ t. t || list_any (λ k. has_name name k.name) s.elsewhere) h)

pub not_here : (place : Option (List ℕ)) (s : MemoryState) → is_at place s.name ≡ false
    → option_map (λ (k : spec.Kept). k.text) (find (λ k. is_at place k.name) s.elsewhere) ≡ kept_at place s
not_here place s h = sym (cond-false (is_at place s.name) (Some s.contents) _ h)
