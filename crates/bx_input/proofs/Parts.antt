-- The keys of parts, one after another.
use Rattle.std.proofs.Common.{◌≡◌, ℕ, List, [], ◌∷◌, ◌++◌, refl, ap, sym, ◌∙◌, append_assoc}
use Rattle.std.specs.Prelude.{option_to_list}
use Rattle.bx_keys.specs.Keys.{key_after, rest_after, head_of}
use Rattle.bx_keys.specs.declared.key.Key.{Key}
use Rattle.bx_input.specs.Machine.{read}
use Rattle.bx_input.specs.Scan.{Part, Passed, Known}

pub rest_of_two : (rest : List ℕ) (xs ys : List Part) → (read rest (xs ++ ys)).rest ≡ (read (read rest xs).rest ys).rest
rest_of_two rest [] ys = refl
rest_of_two rest (Passed b ∷ xs) ys = rest_of_two (head_of (rest_after rest b)) xs ys
rest_of_two rest (Known keys ∷ xs) ys = rest_of_two [] xs ys

pub keys_of_two : (rest : List ℕ) (xs ys : List Part) → (read rest (xs ++ ys)).keys ≡ (read rest xs).keys ++ (read (read rest xs).rest ys).keys
keys_of_two rest [] ys = refl
keys_of_two rest (Passed b ∷ xs) ys =
    let next : List ℕ = head_of (rest_after rest b) in
    ap (λ keys. option_to_list (key_after rest b) ++ keys) (keys_of_two next xs ys)
    ∙ sym (append_assoc (option_to_list (key_after rest b)) (read next xs).keys (read (read next xs).rest ys).keys)
keys_of_two rest (Known keys ∷ xs) ys =
    ap (λ more. keys ++ more) (keys_of_two [] xs ys)
    ∙ sym (append_assoc keys (read [] xs).keys (read (read [] xs).rest ys).keys)

module _ (first second third last : List ℕ) (xs ys zs : List Part) (a : second ≡ (read first xs).rest) (b : third ≡ (read second ys).rest) where
  pub rest_of_three : last ≡ (read third zs).rest → last ≡ (read first (xs ++ (ys ++ zs))).rest
  rest_of_three c =
      c ∙ ap (λ r. (read r zs).rest) b ∙ ap (λ r. (read (read r ys).rest zs).rest) a
      ∙ sym (rest_of_two (read first xs).rest ys zs) ∙ sym (rest_of_two first xs (ys ++ zs))

  pub keys_of_three : (out more most all : List Key) → more ≡ out ++ (read first xs).keys → most ≡ more ++ (read second ys).keys
      → all ≡ most ++ (read third zs).keys → all ≡ out ++ (read first (xs ++ (ys ++ zs))).keys
  keys_of_three out more most all d e f =
      let one : List Key = (read first xs).keys in
      let two : List Key = (read second ys).keys in
      let three : List Key = (read third zs).keys in
      let later : (read second (ys ++ zs)).keys ≡ two ++ three = keys_of_two second ys zs ∙ ap (λ r. two ++ (read r zs).keys) (sym b) in
      let whole : (read first (xs ++ (ys ++ zs))).keys ≡ one ++ (two ++ three) =
      keys_of_two first xs (ys ++ zs) ∙ ap (λ r. one ++ (read r (ys ++ zs)).keys) (sym a) ∙ ap (λ keys. one ++ keys) later in
      f ∙ ap (λ keys. keys ++ three) (e ∙ ap (λ keys. keys ++ two) d)
      ∙ append_assoc (out ++ one) two three ∙ append_assoc out one (two ++ three) ∙ ap (λ keys. out ++ keys) (sym whole)
