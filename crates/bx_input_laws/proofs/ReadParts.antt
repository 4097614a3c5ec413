-- The keys of parts: bytes that pass on have those of the grammar of items.
use Rattle.std.proofs.Common.{◌≡◌, ℕ, Bool, List, [], ◌∷◌, ◌++◌, None, refl, ap, sym, ◌∙◌, append_assoc, subst}
use Rattle.std.specs.Prelude.{option_to_list}
use Rattle.std.proofs.lemmas.List.{append-nil}
use Rattle.bx_bytes.specs.declared.fate.Fate.{Fate}
use Rattle.bx_bytes.specs.declared.fate.Fate.TheVariants.{Waits, Ends, Breaks}
use Rattle.bx_keys.specs.Items.{items}
use Rattle.bx_keys.specs.Keys.{Decoding, decoding, key_after, rest_after}
use Rattle.bx_keys.specs.Waiting.{fate, head_of, StandsFor}
use Rattle.bx_keys.specs.declared.key.Key.{Key}
use Rattle.bx_keys.proofs.Cuts.{in_pieces, one_key, rest_waits}
use Rattle.bx_keys.proofs.Feeding.{feeds_waiting, feeds_end, feeds_break, waits_decoding}
use Rattle.bx_keys.proofs.Heads.{head_waits, head_fate, head_key, head_more}
use Rattle.bx_input.specs.Machine.{read}
use Rattle.bx_input.specs.Scan as scan
use Rattle.bx_input.specs.Scan.{Part, Passed, Known, passed, Step, step_to, start, at_end}
use Rattle.bx_input.proofs.Parts.{keys_of_two}
use Rattle.bx_input_laws.specs.Laws.{PassedAreDecoded, keys}
use Rattle.bx_input_laws.proofs.Firsts.{breaks_at}

-- ---- a byte behind the kept bytes

record Same (rest : List ℕ) (b : ℕ) : Type 0 where
  is_key : key_after (head_of rest) b ≡ key_after rest b
  stands : StandsFor (head_of (rest_after (head_of rest) b)) (rest_after rest b)

same_by : (f : Fate) (rest : List ℕ) (b : ℕ) → fate rest ≡ Waits → fate (rest ++ b ∷ []) ≡ f → Same rest b
same_by Waits rest b w h =
    let kept = feeds_waiting (head_of rest) b (head_fate rest b w ∙ h) in
    let all = feeds_waiting rest b h in
    record {
      is_key = kept.is_key ∙ sym all.is_key;
      stands = record {
        waits = rest_waits (rest ++ b ∷ []);
        is_head = ap head_of kept.is_rest ∙ head_more rest b ∙ ap head_of (sym all.is_rest);
      };
    }
same_by Ends rest b w h =
    let kept = feeds_end (head_of rest) b (head_fate rest b w ∙ h) in
    let all = feeds_end rest b h in
    record {
      is_key = kept.is_key ∙ head_key rest b w ∙ sym all.is_key;
      stands = record { waits = rest_waits (rest ++ b ∷ []); is_head = ap head_of (kept.is_rest ∙ sym all.is_rest) };
    }
same_by Breaks rest b w h =
    let kept = feeds_break (head_of rest) b (head_waits rest w) (head_fate rest b w ∙ h) in
    let all = feeds_break rest b w h in
    record {
      is_key = kept.is_key ∙ sym all.is_key;
      stands = record { waits = rest_waits (rest ++ b ∷ []); is_head = ap head_of (kept.is_rest ∙ sym all.is_rest) };
    }

same : (kept rest : List ℕ) (b : ℕ) → StandsFor kept rest
    → (key_after kept b ≡ key_after rest b) × StandsFor (head_of (rest_after kept b)) (rest_after rest b)
same kept rest b s =
    let is : Same rest b = same_by (fate (rest ++ b ∷ [])) rest b s.waits refl in
    subst (λ v. (key_after v b ≡ key_after rest b) × StandsFor (head_of (rest_after v b)) (rest_after rest b)) (sym s.is_head) (is.is_key, is.stands)

-- ---- bytes that pass on

pub passed_keys : (kept rest bs : List ℕ) → StandsFor kept rest → (read kept (passed bs)).keys ≡ (decoding (rest ++ bs)).keys
passed_keys kept rest [] s = sym (ap (λ xs. (decoding xs).keys) (append-nil rest) ∙ ap (λ (d : Decoding). d.keys) (waits_decoding rest s.waits))
passed_keys kept rest (b ∷ bs) s =
    let is = same kept rest b s in
    let next : List ℕ = rest_after rest b in
    ap (λ keys. option_to_list (key_after kept b) ++ keys) (passed_keys (head_of (rest_after kept b)) next bs is.1)
    ∙ ap (λ key. option_to_list key ++ (decoding (next ++ bs)).keys) is.0
    ∙ ap (λ keys. keys ++ (decoding (next ++ bs)).keys) (sym (one_key rest b s.waits))
    ∙ sym (ap (λ (d : Decoding). d.keys) (in_pieces (rest ++ b ∷ []) bs))
    ∙ ap (λ xs. (decoding xs).keys) (append_assoc rest (b ∷ []) bs)

none_stands : StandsFor [] []
none_stands = record { waits = refl; is_head = refl }

pub passed_are_decoded : PassedAreDecoded
passed_are_decoded bs = passed_keys [] [] bs none_stands

-- ---- what waits in an item

pub read_waits : (rest : List ℕ) (parts : List Part) → fate rest ≡ Waits → fate (read rest parts).rest ≡ Waits
read_waits rest [] w = w
read_waits rest (Passed b ∷ ps) w = read_waits (head_of (rest_after rest b)) ps (head_waits (rest_after rest b) (rest_waits (rest ++ b ∷ [])))
read_waits rest (Known ks ∷ ps) w = read_waits [] ps refl

-- ESC completes no key
escape_quiet : (rest : List ℕ) → fate rest ≡ Waits → key_after rest 0x1B ≡ None
escape_quiet [] w = refl
escape_quiet (x ∷ xs) w = (feeds_break (x ∷ xs) 0x1B w (breaks_at items x xs 0x1B refl)).is_key

pub escape_adds_none : (parts : List Part) → (read [] (parts ++ Passed 0x1B ∷ [])).keys ≡ (read [] parts).keys
escape_adds_none parts =
    let rest : List ℕ = (read [] parts).rest in
    keys_of_two [] parts (Passed 0x1B ∷ [])
    ∙ ap (λ key. (read [] parts).keys ++ (option_to_list key ++ [])) (escape_quiet rest (read_waits [] parts refl))
    ∙ append-nil (read [] parts).keys

-- ---- a known sequence

pub known_last : (parts : List Part) (ks : List Key) → (read [] (parts ++ Known ks ∷ [])).keys ≡ (read [] parts).keys ++ ks
known_last parts ks = keys_of_two [] parts (Known ks ∷ []) ∙ ap (λ more. (read [] parts).keys ++ more) (append-nil ks)

pub whole_keys : (by_delete : Bool) (bs : List ℕ) (parts : List Part) → scan.run by_delete start bs ≡ step_to start parts → keys by_delete bs ≡ (read [] parts).keys
whole_keys by_delete bs parts h =
    ap (λ (x : Step). (read [] (x.parts ++ at_end x.state)).keys) h ∙ ap (λ ps. (read [] ps).keys) (append-nil parts)
