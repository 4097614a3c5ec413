-- One more byte in a sequence, and one more digit of a number.
use Rattle.std.proofs.Common.{◌≡◌, ℕ, ◌+◌, ◌*◌, ◌-◌, ◌<◌, ◌≤◌, ◌⊎◌, Bool, true, false, min, List, [], ◌∷◌, ◌++◌, length, take, get_or, None, inl, inr, refl, ap}
use Rattle.std.proofs.Common.{sym, ◌∙◌, arith, zero, suc}
use Rattle.std.specs.List.{list_all}
use Rattle.std.specs.Str.{all_ascii_digits}
use Rattle.std.specs.Char.{is_ascii_digit}
use Rattle.std.specs.Str.Parse.{digits_value}
use Rattle.std.proofs.lemmas.Bool.Decides.{nat_tests}
use Rattle.std.proofs.lemmas.List.{take_all, take_more}
use Rattle.std.proofs.lemmas.Int.Digits.{digits_value_more}
use Rattle.std.proofs.lemmas.Str.{digit_value_digit}
use Rattle.std.proofs.Math.Bool.{and-false, and-true}
use Rattle.bx_grid.proofs.Reading.{and_left, and_right}
use Rattle.bx_grid.specs.Tokens.{is_param, is_intermediate, is_final, after_params, after_intermediates, final_fate, number}
use Rattle.bx_bytes.specs.declared.fate.Fate.TheVariants.{Ends, Breaks}

pub inter_rest : (t : Bool) (x : ℕ) (rest : List ℕ) → is_intermediate x ≡ t → after_intermediates (x ∷ rest) ≡ []
    → (is_intermediate x ≡ true) × (after_intermediates rest ≡ [])
inter_rest true x rest e h = (e, rw e at h)
inter_rest false x rest e h = absurd (let g : x ∷ rest ≡ [] = rw e at h in cc g)

inter_stays : (xs : List ℕ) (b : ℕ) → after_intermediates xs ≡ [] → is_intermediate b ≡ true → after_intermediates (xs ++ b ∷ []) ≡ []
inter_stays [] b h e = rw e refl
inter_stays (x ∷ xs) b h e =
    let r = inter_rest (is_intermediate x) x xs refl h in rw r.0 (inter_stays xs b r.1 e)

inter_ends : (xs : List ℕ) (b : ℕ) → after_intermediates xs ≡ [] → is_intermediate b ≡ false → after_intermediates (xs ++ b ∷ []) ≡ b ∷ []
inter_ends [] b h e = rw e refl
inter_ends (x ∷ xs) b h e =
    let r = inter_rest (is_intermediate x) x xs refl h in rw r.0 (inter_ends xs b r.1 e)

-- the parameters go on in rest, or end before x
params_rest : (P : List ℕ → Type 0) (t : Bool) (x : ℕ) (rest : List ℕ) → is_param x ≡ t
    → (is_param x ≡ true → P (after_params rest)) → (is_param x ≡ false → P (x ∷ rest)) → P (after_params (x ∷ rest))
params_rest P true x rest e goes stops = rw e (goes e)
params_rest P false x rest e goes stops = rw e (stops e)

pub stays : (body : List ℕ) (b : ℕ) → after_intermediates (after_params body) ≡ [] → is_intermediate b ≡ true
    → after_intermediates (after_params (body ++ b ∷ [])) ≡ []
stays [] b h e =
    let n : is_param b ≡ false = grind (arith, nat_tests) in rw (n, e) refl
stays (x ∷ rest) b h e =
    params_rest (λ ys. after_intermediates ys ≡ []) (is_param x) x (rest ++ b ∷ []) refl
    (λ goes. stays rest b (rw goes at h) e)
    (λ stops. inter_stays (x ∷ rest) b (rw stops at h) e)

pub param_stays : (body : List ℕ) (b : ℕ) → list_all is_param body ≡ true → is_param b ≡ true
    → after_intermediates (after_params (body ++ b ∷ [])) ≡ []
param_stays [] b h e = rw e refl
param_stays (x ∷ rest) b h e =
    let here : is_param x ≡ true = and_left (is_param x) (list_all is_param rest) h in
    rw here (param_stays rest b (and_right (is_param x) (list_all is_param rest) h) e)

pub ends : (body : List ℕ) (b : ℕ) → after_intermediates (after_params body) ≡ [] → is_intermediate b ≡ false
    → (is_param b ≡ false) ⊎ (list_all is_param body ≡ false)
    → after_intermediates (after_params (body ++ b ∷ [])) ≡ b ∷ []
ends [] b h e (inl n) = rw (n, e) refl
ends [] b h e (inr n) = absurd (cc n)
ends (x ∷ rest) b h e (inl n) =
    params_rest (λ ys. after_intermediates ys ≡ b ∷ []) (is_param x) x (rest ++ b ∷ []) refl
    (λ goes. ends rest b (rw goes at h) e (inl n))
    (λ stops. inter_ends (x ∷ rest) b (rw stops at h) e)
ends (x ∷ rest) b h e (inr n) =
    params_rest (λ ys. after_intermediates ys ≡ b ∷ []) (is_param x) x (rest ++ b ∷ []) refl
    (λ goes. ends rest b (rw goes at h) e (inr (rw goes at n)))
    (λ stops. inter_ends (x ∷ rest) b (rw stops at h) e)

-- the last of bytes that are all intermediate is not a parameter
no_param : (xs : List ℕ) (b : ℕ) → after_intermediates (xs ++ b ∷ []) ≡ [] → is_param b ≡ false
no_param [] b h =
    let r = inter_rest (is_intermediate b) b [] refl h in
    let e : is_intermediate b ≡ true = r.0 in
    grind (arith, nat_tests)
no_param (x ∷ xs) b h =
    let r = inter_rest (is_intermediate x) x (xs ++ b ∷ []) refl h in no_param xs b r.1

-- ---- the last byte tells whether all are parameters

push_by : (t : Bool) (x b : ℕ) (xs : List ℕ) → is_param x ≡ t
    → (after_intermediates (after_params (xs ++ b ∷ [])) ≡ [] → list_all is_param (xs ++ b ∷ []) ≡ is_param b)
    → after_intermediates (after_params (x ∷ xs ++ b ∷ [])) ≡ [] → list_all is_param (x ∷ xs ++ b ∷ []) ≡ is_param b
push_by true x b xs e more h = rw e (more (rw e at h))
push_by false x b xs e more h = rw e (sym (no_param (x ∷ xs) b (rw e at h)))

pub params_told : (xs : List ℕ) (b : ℕ) → after_intermediates (after_params (xs ++ b ∷ [])) ≡ [] → list_all is_param (xs ++ b ∷ []) ≡ is_param b
params_told [] b h = and-true (is_param b)
params_told (x ∷ xs) b h = push_by (is_param x) x b xs refl (params_told xs b) h

pub params_at : (body : List ℕ) (r : Bool) → 0 < length body → after_intermediates (after_params body) ≡ [] → r ≡ is_param (get_or body (length body - 1) 0)
    → r ≡ list_all is_param body
params_at body r some h e =
    let n = length body - 1 in
    let split : take n body ++ get_or body n 0 ∷ [] ≡ body = sym (take_more body n 0 (omega arith)) ∙ take_all (n + 1) body (omega arith) in
    e
    ∙ sym (params_told (take n body) (get_or body n 0) (ap (λ xs. after_intermediates (after_params xs)) split ∙ h))
    ∙ ap (list_all is_param) split

-- ---- what the code answers

pub ends_at_final : (body : List ℕ) (b : ℕ) → after_intermediates (after_params body) ≡ [] → is_final b ≡ true
    → Ends ≡ final_fate (after_intermediates (after_params (body ++ b ∷ [])))
ends_at_final body b h e =
    let i : is_intermediate b ≡ false = grind (arith, nat_tests) in
    let p : is_param b ≡ false = grind (arith, nat_tests) in
    rw (ends body b h i (inl p), e) refl

pub breaks_at : (body : List ℕ) (b : ℕ) → after_intermediates (after_params body) ≡ [] → is_final b ≡ false → is_intermediate b ≡ false
    → (is_param b ≡ false) ⊎ (list_all is_param body ≡ false)
    → Breaks ≡ final_fate (after_intermediates (after_params (body ++ b ∷ [])))
breaks_at body b h e i why = rw (ends body b h i why, e) refl

-- ---- digits

pub not_all_digits : (ds : List ℕ) (i : ℕ) → i < length ds → is_ascii_digit (get_or ds i 0) ≡ false → all_ascii_digits ds ≡ false
not_all_digits [] i low stops = absurd (omega arith)
not_all_digits (d ∷ ds) zero low stops = rw stops refl
not_all_digits (d ∷ ds) (suc i) low stops = rw (not_all_digits ds i (omega arith) stops) (and-false (is_ascii_digit d))

pub number_none : (ds : List ℕ) (i : ℕ) → i < length ds → is_ascii_digit (get_or ds i 0) ≡ false → number ds ≡ None
number_none [] i low stops = absurd (omega arith)
number_none (d ∷ ds) i low stops = rw (not_all_digits (d ∷ ds) i low stops) refl

digits_push : (ds : List ℕ) (d : ℕ) → all_ascii_digits ds ≡ true → is_ascii_digit d ≡ true → all_ascii_digits (ds ++ d ∷ []) ≡ true
digits_push [] d h e = rw e refl
digits_push (x ∷ ds) d h e =
    rw (and_left (is_ascii_digit x) (all_ascii_digits ds) h) (digits_push ds d (and_right (is_ascii_digit x) (all_ascii_digits ds) h) e)

pub number_more : (ds : List ℕ) (i n m : ℕ) → i < length ds → n ≡ min 1000 (digits_value 10 (take i ds)) → all_ascii_digits (take i ds) ≡ true
    → is_ascii_digit (get_or ds i 0) ≡ true → m ≡ min (n * 10 + (get_or ds i 0 - 48)) 1000
    → (m ≡ min 1000 (digits_value 10 (take (i + 1) ds))) × (all_ascii_digits (take (i + 1) ds) ≡ true)
number_more ds i n m low so_far digits digit next =
    let range : (48 ≤ get_or ds i 0) × (get_or ds i 0 ≤ 57) = grind (arith, nat_tests) in (
      omega (arith, digits_value_more 10 ds i low, digit_value_digit (get_or ds i 0) range, so_far, next),
      rw (take_more ds i 0 low) (digits_push (take i ds) (get_or ds i 0) digits digit),
    )
