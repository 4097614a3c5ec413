-- A text with no formatting characters is kept as it is, at the paragraph level.
use Rattle.std.proofs.Common.{◌≡◌, ◌+◌, ◌∙◌, ℕ, zero, suc, List, [], ◌∷◌, length, get_or, drop, map, refl, ap, sym, arith, Bool, true, None}
use Rattle.bx_ucd.specs.declared.class.Class.{Class}
use Rattle.bx_ucd.specs.declared.class.Class.TheVariants.{L, R, AL, EN, ES, ET, AN, CS, NSM, B, S, WS, ON}
use Rattle.bx_levels.specs.embedding.Explicit.{explicit_from, explicit_levels, start}
use Rattle.bx_levels.proofs.embedding_lemmas.OneSequence.{kept_as, indexes_from, kept_length}
use Rattle.bx_levels.specs.resolve.Levels.{type_of, types_at, chars_at}
use Rattle.bx_levels.specs.resolve.Uniform.{is_unformatted}

-- each class passes a test
abbrev pub Each : (Class → Bool) → List Class → Type 0
Each p [] = Unit {0}
Each p (c ∷ cs) = (p c ≡ true) × Each p cs

plain_step : (p : ℕ) (c : Class) (cs : List Class) → is_unformatted c ≡ true → explicit_from (start p) (c ∷ cs) ≡ kept_as p c ∷ explicit_from (start p) cs
plain_step p L cs e = refl
plain_step p R cs e = refl
plain_step p AL cs e = refl
plain_step p EN cs e = refl
plain_step p ES cs e = refl
plain_step p ET cs e = refl
plain_step p AN cs e = refl
plain_step p CS cs e = refl
plain_step p NSM cs e = refl
plain_step p B cs e = refl
plain_step p S cs e = refl
plain_step p WS cs e = refl
plain_step p ON cs e = refl
plain_step p _ cs e = absurd (cc)

pub explicit_plain : (p : ℕ) (cs : List Class) → Each is_unformatted cs → explicit_levels p cs ≡ map (kept_as p) cs
explicit_plain p [] h = refl
explicit_plain p (c ∷ cs) h = plain_step p c cs h.0 ∙ ap (λ ks. kept_as p c ∷ ks) (explicit_plain p cs h.1)

-- the items at all indexes are the list
drop_get : {A : Type 0} (d : A) (whole : List A) (k : ℕ) (x : A) (xs : List A) → drop k whole ≡ x ∷ xs
    → (get_or whole k d ≡ x) × (drop (suc k) whole ≡ xs)
drop_get d [] zero x xs e = absurd (cc)
drop_get d [] (suc k) x xs e = absurd (cc)
drop_get d (y ∷ ys) zero x xs e = (cc, cc)
drop_get d (y ∷ ys) (suc k) x xs e = drop_get d ys k x xs e

map_at : {A B : Type 0} (f : A → B) (d : A) (whole : List A) (k : ℕ) (xs : List A) → drop k whole ≡ xs
    → map (λ p. f (get_or whole p d)) (indexes_from k (length xs)) ≡ map f xs
map_at f d whole k [] e = refl
map_at f d whole k (x ∷ xs) e =
    let h : get_or whole k d ≡ x = (drop_get d whole k x xs e).0 in
    let s : k + 1 ≡ suc k = omega arith in
    let t : drop (k + 1) whole ≡ xs = ap (λ n. drop n whole) s ∙ (drop_get d whole k x xs e).1 in
    ap (λ y. f y ∷ map (λ p. f (get_or whole p d)) (indexes_from (k + 1) (length xs))) h ∙ ap (λ ys. f x ∷ ys) (map_at f d whole (k + 1) xs t)

map_same : (xs : List ℕ) → map (λ x. x) xs ≡ xs
map_same [] = refl
map_same (x ∷ xs) = ap (λ ys. x ∷ ys) (map_same xs)

map_kept : (p : ℕ) (cs : List Class) → map type_of (map (kept_as p) cs) ≡ cs
map_kept p [] = refl
map_kept p (c ∷ cs) = ap (λ ds. c ∷ ds) (map_kept p cs)

pub chars_whole : (chars : List ℕ) (n : ℕ) → length chars ≡ n → chars_at chars (indexes_from 0 n) ≡ chars
chars_whole chars n e = ap (λ k. chars_at chars (indexes_from 0 k)) (sym e) ∙ map_at (λ x. x) 0 chars 0 chars refl ∙ map_same chars

pub types_whole : (p : ℕ) (cs : List Class) (n : ℕ) → length cs ≡ n → types_at (map (kept_as p) cs) (indexes_from 0 n) ≡ cs
types_whole p cs n e = ap (λ k. types_at (map (kept_as p) cs) (indexes_from 0 k)) (sym (kept_length p cs ∙ e))
    ∙ map_at type_of None (map (kept_as p) cs) 0 (map (kept_as p) cs) refl ∙ map_kept p cs
