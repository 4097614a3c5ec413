-- Presses of bytes, and the bytes that wait, of one input after another.
use Rattle.std.proofs.Common.{◌≡◌, ℕ, List, [], ◌∷◌, ◌++◌, ◌+◌, Option, take, refl, sym, ap, ◌∙◌, append_assoc}
use Rattle.std.specs.Prelude.{option_to_list}
use Rattle.std.proofs.lemmas.List.{map-append}
use Rattle.bx_keys.specs.declared.key.Key.{Key}
use Rattle.bx_keys.specs.Keys.{key_after, rest_after}
use Rattle.bx_keys.specs.Waiting.{head_of, keys_from}
use Rattle.bx_session.specs.Inputs.{keys_in, presses_from, rest_from}
use Rattle.bx_session.specs.Running.{PressAnswer, presses_in}

pub presses_from_both : (rest bs more : List ℕ) → presses_from rest (bs ++ more) ≡ presses_from rest bs ++ presses_from (rest_from rest bs) more
presses_from_both rest [] more = refl
presses_from_both rest (b ∷ bs) more = ap (λ xs. key_after rest b ∷ xs) (presses_from_both (head_of (rest_after rest b)) bs more)

pub rest_from_both : (rest bs more : List ℕ) → rest_from rest (bs ++ more) ≡ rest_from (rest_from rest bs) more
rest_from_both rest [] more = refl
rest_from_both rest (b ∷ bs) more = rest_from_both (head_of (rest_after rest b)) bs more

-- answered presses of bytes, and then of more
pub presses_joined : (rest typed typed' : List ℕ) (answered answered' : List PressAnswer) → presses_in answered ≡ presses_from rest typed
    → presses_in answered' ≡ presses_from (rest_from rest typed) typed' → presses_in (answered ++ answered') ≡ presses_from rest (typed ++ typed')
presses_joined rest typed typed' answered answered' first next =
    map-append (λ (a : PressAnswer). a.0) answered answered'
    ∙ ap (λ xs. xs ++ presses_in answered') first
    ∙ ap (λ xs. presses_from rest typed ++ xs) next
    ∙ sym (presses_from_both rest typed typed')

pub keys_in_both : (first others : List (Option Key)) → keys_in (first ++ others) ≡ keys_in first ++ keys_in others
keys_in_both [] others = refl
keys_in_both (key ∷ first) others =
    ap (λ xs. option_to_list key ++ xs) (keys_in_both first others) ∙ sym (append_assoc (option_to_list key) (keys_in first) (keys_in others))

pub keys_are : (rest bs : List ℕ) → keys_in (presses_from rest bs) ≡ keys_from rest bs
keys_are rest [] = refl
keys_are rest (b ∷ bs) = ap (λ xs. option_to_list (key_after rest b) ++ xs) (keys_are (head_of (rest_after rest b)) bs)

-- one byte more is decoded
pub decoded_more : (rest bytes now next : List ℕ) (i b : ℕ) (presses presses' : List (Option Key)) (key : Option Key)
    → presses ≡ presses_from rest (take i bytes) → now ≡ rest_from rest (take i bytes) → take (i + 1) bytes ≡ take i bytes ++ b ∷ []
    → key ≡ key_after now b → next ≡ head_of (rest_after now b) → presses' ≡ presses ++ key ∷ []
    → (presses' ≡ presses_from rest (take (i + 1) bytes)) × (next ≡ rest_from rest (take (i + 1) bytes))
decoded_more rest bytes now next i b presses presses' key was waits more completes left is = (
  is
      ∙ ap (λ xs. xs ++ key ∷ []) was
      ∙ ap (λ k. presses_from rest (take i bytes) ++ k ∷ []) (completes ∙ ap (λ xs. key_after xs b) waits)
      ∙ sym (presses_from_both rest (take i bytes) (b ∷ []))
      ∙ sym (ap (presses_from rest) more),
  left ∙ ap (λ xs. head_of (rest_after xs b)) waits ∙ sym (rest_from_both rest (take i bytes) (b ∷ [])) ∙ sym (ap (rest_from rest) more),
)
