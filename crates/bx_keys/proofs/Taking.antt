-- A decoder that took some bytes.
use Rattle.std.proofs.Common.{◌≡◌, ℕ, List, [], ◌∷◌, ◌++◌, Option, ap, sym, ◌∙◌, append_assoc}
use Rattle.std.specs.Option.{option_to_list}
use Rattle.std.proofs.lemmas.List.{append-nil}
use Rattle.bx_keys.specs.Keys.{Decoding, decoding, key_after, rest_after}
use Rattle.bx_keys.specs.Waiting.{StandsFor}
use Rattle.bx_keys.specs.declared.key.Key.{Key}
use Rattle.bx_keys.proofs.Feeding.{waits_decoding}
use Rattle.bx_keys.proofs.Cuts.{byte_by_byte}

-- whatever bytes wait in the first decoder, these are the keys, and the second has the bytes left over
pub record HasTaken (before bytes : List ℕ) (keys : List Key) (after : List ℕ) : Type 0 where
  pub are_keys : (rest : List ℕ) → StandsFor before rest → keys ≡ (decoding (rest ++ bytes)).keys
  pub stands : (rest : List ℕ) → StandsFor before rest → StandsFor after (decoding (rest ++ bytes)).rest

waiting_alone : (before rest : List ℕ) → StandsFor before rest → decoding (rest ++ []) ≡ record { keys = []; rest = rest }
waiting_alone before rest s = ap decoding (append-nil rest) ∙ waits_decoding rest s.waits

pub none_taken : (before : List ℕ) → HasTaken before [] [] before
none_taken before = record {
  are_keys = λ rest s. sym (ap (λ (d : Decoding). d.keys) (waiting_alone before rest s));
  stands = λ rest s. let left : (decoding (rest ++ [])).rest ≡ rest = ap (λ (d : Decoding). d.rest) (waiting_alone before rest s) in rw left s;
}

one_more : (rest bytes : List ℕ) (b : ℕ) → decoding (rest ++ (bytes ++ b ∷ []))
    ≡ record {
      keys = (decoding (rest ++ bytes)).keys ++ option_to_list (key_after (decoding (rest ++ bytes)).rest b);
      rest = rest_after (decoding (rest ++ bytes)).rest b;
    }
one_more rest bytes b = ap decoding (sym (append_assoc rest bytes (b ∷ []))) ∙ byte_by_byte (rest ++ bytes) b

pub one_more_taken : (before bytes : List ℕ) (keys : List Key) (after next : List ℕ) (b : ℕ) (key : Option Key) → HasTaken before bytes keys after
    → ((rest : List ℕ) → StandsFor after rest → key ≡ key_after rest b)
    → ((rest : List ℕ) → StandsFor after rest → StandsFor next (rest_after rest b))
    → HasTaken before (bytes ++ b ∷ []) (keys ++ option_to_list key) next
one_more_taken before bytes keys after next b key took is_key is_rest = record {
  are_keys = λ rest s.
      ap (λ ks. ks ++ option_to_list key) (took.are_keys rest s)
      ∙ ap (λ k. (decoding (rest ++ bytes)).keys ++ option_to_list k) (is_key (decoding (rest ++ bytes)).rest (took.stands rest s))
      ∙ sym (ap (λ (d : Decoding). d.keys) (one_more rest bytes b));
  stands = λ rest s.
      let left : (decoding (rest ++ (bytes ++ b ∷ []))).rest ≡ rest_after (decoding (rest ++ bytes)).rest b =
      ap (λ (d : Decoding). d.rest) (one_more rest bytes b) in
      rw left (is_rest (decoding (rest ++ bytes)).rest (took.stands rest s));
}
