-- The kept part of the input represents the whole unfinished input.
use Rattle.std.proofs.Common.{◌≡◌, ℕ, List, [], ◌∷◌, ◌++◌, length, refl, sym, ap, ◌∙◌, append_assoc, arith}
use Rattle.std.specs.Prelude.{option_to_list}
use Rattle.std.proofs.lemmas.List.{append-nil, length-take}
use Rattle.bx_bytes.specs.declared.fate.Fate.{Fate}
use Rattle.bx_bytes.specs.declared.fate.Fate.TheVariants.{Waits, Ends, Breaks}
use Rattle.bx_keys.specs.declared.key.Key.{Key}
use Rattle.bx_keys.specs.Keys.{key_after, rest_after}
use Rattle.bx_keys.specs.Waiting.{fate, head_of, keys_from, StandsFor}
use Rattle.bx_keys.proofs.Heads.{head_waits}
use Rattle.bx_keys.proofs.Standing.{stands_for_itself, waiting_key, waiting_rest, ending_key, ending_rest, breaking_key, breaking_rest}
use Rattle.bx_keys.proofs.Taking.{HasTaken, none_taken, one_more_taken}
use Rattle.bx_session.specs.Laws.{HasKeysOfInput}
use Rattle.bx_session.proofs.Typing.{keys_are}

-- with one more byte the kept part gives the same key, and still represents the unfinished input
record Agrees (v rest : List ℕ) (b : ℕ) : Type 0 where
  pub key : key_after v b ≡ key_after rest b
  pub stands : StandsFor (head_of (rest_after v b)) (rest_after rest b)

same_head : (x v rest : List ℕ) → StandsFor x v → StandsFor x rest → StandsFor (head_of v) rest
same_head x v rest s t = record { waits = t.waits; is_head = sym s.is_head ∙ t.is_head }

agrees_by : (f : Fate) (v rest : List ℕ) (b : ℕ) → StandsFor v v → StandsFor v rest → fate (v ++ b ∷ []) ≡ f → Agrees v rest b
agrees_by Waits v rest b own s is = record {
  key = sym (waiting_key v v b own is) ∙ waiting_key v rest b s is;
  stands = same_head (head_of (v ++ b ∷ [])) (rest_after v b) (rest_after rest b) (waiting_rest v v b own is) (waiting_rest v rest b s is);
}
agrees_by Ends v rest b own s is = record {
  key = sym (ending_key v v b own is) ∙ ending_key v rest b s is;
  stands = same_head [] (rest_after v b) (rest_after rest b) (ending_rest v v b own is) (ending_rest v rest b s is);
}
agrees_by Breaks v rest b own s is = record {
  key = sym (breaking_key v v b own is) ∙ breaking_key v rest b s is;
  stands = same_head (rest_after [] b) (rest_after v b) (rest_after rest b) (breaking_rest v v b own is) (breaking_rest v rest b s is);
}

own : (v rest : List ℕ) → StandsFor v rest → StandsFor v v
own v rest s = stands_for_itself v (ap fate s.is_head ∙ head_waits rest s.waits)
    (omega (arith, ap (λ (xs : List ℕ). length xs) s.is_head, length-take 12 rest))

agrees : (v rest : List ℕ) (b : ℕ) → StandsFor v rest → Agrees v rest b
agrees v rest b s = agrees_by (fate (v ++ b ∷ [])) v rest b (own v rest s) s refl

record Takes (before bytes : List ℕ) (keys : List Key) : Type 0 where
  pub after : List ℕ
  pub takes : HasTaken before bytes keys after

takes_all : (before taken : List ℕ) (keys : List Key) (v bs : List ℕ) → HasTaken before taken keys v → Takes before (taken ++ bs) (keys ++ keys_from v bs)
takes_all before taken keys v [] t = record { after = v; takes = rw (append-nil taken, append-nil keys) t }
takes_all before taken keys v (b ∷ bs) t =
    let key = key_after v b in
    let next = head_of (rest_after v b) in
    let more = one_more_taken before taken keys v next b key t (λ rest s. (agrees v rest b s).key) (λ rest s. (agrees v rest b s).stands) in
    let all = takes_all before (taken ++ b ∷ []) (keys ++ option_to_list key) next bs more in
    rw (← append_assoc taken (b ∷ []) bs, ← append_assoc keys (option_to_list key) (keys_from next bs)) all

pub keys_of_input : HasKeysOfInput
keys_of_input bs =
    let all = takes_all [] [] [] [] bs (none_taken []) in
    keys_are [] bs ∙ all.takes.are_keys [] (record { waits = refl; is_head = refl })
