-- Texts in a list.
use Rattle.std.proofs.Common.{◌≡◌, ◌<◌, ℕ, zero, suc, Bool, true, false, List, [], ◌∷◌, length, get_or, Contains, ◌⊎◌, ⊎_elim, inl, inr, refl, arith}
use Rattle.bx_recovery.specs.Recovery.{with_text_if}

pub no_text_is_there : {text : List ℕ} → Contains [] text → ⊥
no_text_is_there c = omega (arith, c.1)

at_cases : (x z : List ℕ) (xs : List (List ℕ)) (k : ℕ) → k < length (x ∷ xs) → get_or (x ∷ xs) k z ≡ z → (x ≡ z) ⊎ Contains xs z
at_cases x z xs zero l e = inl e
at_cases x z xs (suc k) l e = inr (k, omega arith, e)

pub first_or_later : (x z : List ℕ) (xs : List (List ℕ)) → Contains (x ∷ xs) z → (x ≡ z) ⊎ Contains xs z
first_or_later x z xs c = at_cases x z xs c.0 c.1 c.2

pub first_is_there : (x z : List ℕ) (xs : List (List ℕ)) → x ≡ z → Contains (x ∷ xs) z
first_is_there x z xs e = (0, omega arith, e)

pub later_is_there : (x z : List ℕ) (xs : List (List ℕ)) → Contains xs z → Contains (x ∷ xs) z
later_is_there x z xs c = (suc c.0, omega (arith, c.1), c.2)

-- the text at a Save, or a later one
pub saved_or_later : (save : Bool) (text file : List ℕ) (later : List (List ℕ)) → Contains (with_text_if save text later) file
    → ((save ≡ true) × (text ≡ file)) ⊎ Contains later file
saved_or_later true text file later c = ⊎_elim (λ e. inl (refl, e)) inr (first_or_later text file later c)
saved_or_later false text file later c = inr c

pub saved_is_there : (save : Bool) (text file : List ℕ) (later : List (List ℕ)) → save ≡ true → text ≡ file → Contains (with_text_if save text later) file
saved_is_there true text file later is e = first_is_there text file later e
saved_is_there false text file later is e = absurd (cc is)

pub passed_is_there : (save : Bool) (text file : List ℕ) (later : List (List ℕ)) → Contains later file → Contains (with_text_if save text later) file
passed_is_there true text file later c = later_is_there text file later c
passed_is_there false text file later c = c
