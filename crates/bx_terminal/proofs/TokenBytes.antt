-- The tokens of bytes, joined, are the bytes, and no two runs are adjacent.
use Rattle.std.proofs.Common.{◌≡◌, ℕ, zero, suc, max, Bool, true, false, cond, nat_eq, List, [], ◌∷◌, ◌++◌, length, take, drop, flat_map, refl, ap, ap₂, sym, ◌∙◌}
use Rattle.std.proofs.Common.{append_assoc, take-append-drop}
use Rattle.std.proofs.lemmas.List.{append-nil}
use Rattle.bx_bytes.specs.Utf8.{are_printable}
use Rattle.bx_terminal.specs.Cutting.{Cut, Cutting, Token, Run, Sequence, Other, is_item, beginning, token_of, with_token, cut_within, run_token, with_tokens}
use Rattle.bx_terminal.specs.Cutting.{joined, cutting}
use Rattle.bx_terminal.specs.Laws.{are_runs_apart, token_bytes}

bytes_by : (e p : Bool) (bs : List ℕ) → token_bytes (cond e (Sequence bs) (cond p (Run bs) (Other bs))) ≡ bs
bytes_by true p bs = refl
bytes_by false true bs = refl
bytes_by false false bs = refl

item_bytes : (bs : List ℕ) → token_bytes (token_of bs) ≡ bs
item_bytes [] = refl
item_bytes (b ∷ bs) = bytes_by (nat_eq b 0x1B) (are_printable (b ∷ bs)) (b ∷ bs)

abbrev cut_bytes : Cut → List ℕ
cut_bytes c = flat_map token_bytes c.tokens ++ c.rest

with_bytes : (token : Token) (k n : ℕ) (all : List ℕ) → token_bytes token ≡ take k all → cut_bytes (cut_within n (drop k all)) ≡ drop k all
    → cut_bytes (with_token token (cut_within n (drop k all))) ≡ all
with_bytes token k n all e h =
    let c = cut_within n (drop k all) in
    append_assoc (token_bytes token) (flat_map token_bytes c.tokens) c.rest ∙ ap₂ (λ x y. x ++ y) e h ∙ take-append-drop k all

cut_by : (e w : Bool) (whole waiting broken : Cut) (all : List ℕ) → cut_bytes whole ≡ all → cut_bytes waiting ≡ all → cut_bytes broken ≡ all
    → cut_bytes (cond e whole (cond w waiting broken)) ≡ all
cut_by true w whole waiting broken all a b c = a
cut_by false true whole waiting broken all a b c = b
cut_by false false whole waiting broken all a b c = c

cut_made : (n : ℕ) (bs : List ℕ) → cut_bytes (cut_within n bs) ≡ bs
cut_made zero bs = refl
cut_made (suc n) [] = refl
cut_made (suc n) (b ∷ bs) =
    let all : List ℕ = b ∷ bs in
    let long = beginning all in
    let front = take long all in
    let k = max 1 long in
    cut_by (is_item front) (nat_eq long (length all)) (with_token (token_of front) (cut_within n (drop long all))) (record { tokens = []; rest = all })
    (with_token (Other (take k all)) (cut_within n (drop k all))) all
    (with_bytes (token_of front) long n all (item_bytes front) (cut_made n (drop long all))) refl
    (with_bytes (Other (take k all)) k n all refl (cut_made n (drop k all)))

abbrev cutting_bytes : Cutting → List ℕ
cutting_bytes c = flat_map token_bytes c.tokens ++ (c.run ++ c.rest)

run_bytes : (run rest : List ℕ) → flat_map token_bytes (run_token run) ++ rest ≡ run ++ rest
run_bytes [] rest = refl
run_bytes (b ∷ bs) rest = ap (λ x. x ++ rest) (append-nil (b ∷ bs))

last_bytes : (e : Bool) (run rest : List ℕ)
    → cutting_bytes (cond e (record { tokens = run_token run; run = []; rest = rest }) (record { tokens = []; run = run; rest = rest })) ≡ run ++ rest
last_bytes true run rest = run_bytes run rest
last_bytes false run rest = refl

behind_bytes : (run : List ℕ) (token : Token) (tokens : List Token)
    → flat_map token_bytes ((run_token run ++ token ∷ []) ++ tokens) ≡ run ++ (token_bytes token ++ flat_map token_bytes tokens)
behind_bytes [] token tokens = refl
behind_bytes (b ∷ bs) token tokens = refl

with_run : (run : List ℕ) (token : Token) (c : Cutting) (tokens : List Token) (rest : List ℕ)
    → cutting_bytes c ≡ flat_map token_bytes tokens ++ rest
    → cutting_bytes (with_tokens (run_token run ++ token ∷ []) c) ≡ run ++ (flat_map token_bytes (token ∷ tokens) ++ rest)
with_run run token c tokens rest h =
    let own = token_bytes token in
    let made = flat_map token_bytes c.tokens in
    ap (λ x. x ++ (c.run ++ c.rest)) (behind_bytes run token c.tokens)
    ∙ append_assoc run (own ++ made) (c.run ++ c.rest)
    ∙ ap (λ x. run ++ x) (append_assoc own made (c.run ++ c.rest) ∙ ap (λ x. own ++ x) h ∙ sym (append_assoc own (flat_map token_bytes tokens) rest))

joined_made : (run : List ℕ) (tokens : List Token) (rest : List ℕ) → cutting_bytes (joined run tokens rest) ≡ run ++ (flat_map token_bytes tokens ++ rest)
joined_made run [] [] = refl
joined_made run [] (b ∷ bs) = last_bytes (nat_eq b 0x1B) run (b ∷ bs)
joined_made run (Run text ∷ tokens) rest =
    joined_made (run ++ text) tokens rest
    ∙ append_assoc run text (flat_map token_bytes tokens ++ rest)
    ∙ ap (λ x. run ++ x) (sym (append_assoc text (flat_map token_bytes tokens) rest))
joined_made run (Sequence bytes ∷ tokens) rest = with_run run (Sequence bytes) (joined [] tokens rest) tokens rest (joined_made [] tokens rest)
joined_made run (Other bytes ∷ tokens) rest = with_run run (Other bytes) (joined [] tokens rest) tokens rest (joined_made [] tokens rest)

pub tokens-make-bytes : (bs : List ℕ) → let c : Cutting = cutting bs in flat_map token_bytes c.tokens ++ (c.run ++ c.rest) ≡ bs
tokens-make-bytes bs =
    let c = cut_within (length bs) bs in joined_made [] c.tokens c.rest ∙ cut_made (length bs) bs

-- ---- runs

abbrev runs_apart : Cutting → Bool
runs_apart c = are_runs_apart (c.tokens ++ run_token c.run)

run_apart : (run : List ℕ) → are_runs_apart (run_token run) ≡ true
run_apart [] = refl
run_apart (b ∷ bs) = refl

last_apart : (e : Bool) (run rest : List ℕ)
    → runs_apart (cond e (record { tokens = run_token run; run = []; rest = rest }) (record { tokens = []; run = run; rest = rest })) ≡ true
last_apart true run rest = ap are_runs_apart (append-nil (run_token run)) ∙ run_apart run
last_apart false run rest = run_apart run

joined_apart : (run : List ℕ) (tokens : List Token) (rest : List ℕ) → runs_apart (joined run tokens rest) ≡ true
joined_apart run [] [] = run_apart run
joined_apart run [] (b ∷ bs) = last_apart (nat_eq b 0x1B) run (b ∷ bs)
joined_apart run (Run text ∷ tokens) rest = joined_apart (run ++ text) tokens rest
joined_apart [] (Sequence bytes ∷ tokens) rest = joined_apart [] tokens rest
joined_apart (b ∷ bs) (Sequence bytes ∷ tokens) rest = joined_apart [] tokens rest
joined_apart [] (Other bytes ∷ tokens) rest = joined_apart [] tokens rest
joined_apart (b ∷ bs) (Other bytes ∷ tokens) rest = joined_apart [] tokens rest

pub runs-are-longest : (bs : List ℕ) → let c : Cutting = cutting bs in are_runs_apart (c.tokens ++ run_token c.run) ≡ true
runs-are-longest bs = let c = cut_within (length bs) bs in joined_apart [] c.tokens c.rest
