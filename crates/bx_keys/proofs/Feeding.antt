-- The definition, applied to bytes that wait and one more.
use Rattle.std.proofs.Common.{◌≡◌, ℕ, max, Bool, true, false, cond, nat_eq, List, [], ◌∷◌, ◌++◌, length, take, drop, Option, Some, None, refl, ap, sym, ◌∙◌}
use Rattle.std.proofs.Common.{zero, suc, arith, length-append}
use Rattle.std.specs.Option.{option_to_list}
use Rattle.std.proofs.lemmas.List.{take_all, take_at, drop_at, drop_all, append-nil}
use Rattle.std.proofs.lemmas.Bool.{ne_eqb, eq-eqb, cond-true, cond-false}
use Rattle.bx_bytes.proofs.Patterns.{matches_any_begins}
use Rattle.bx_bytes.specs.declared.fate.Fate.{Fate}
use Rattle.bx_bytes.specs.declared.fate.Fate.TheVariants.{Waits, Ends, Breaks}
use Rattle.bx_bytes.proofs.Encoded.{ends_by}
use Rattle.bx_keys.specs.Items.{items, is_item, begins_item}
use Rattle.bx_keys.specs.Keys.{Decoding, key_of, with_key, beginning_up_to, beginning, decoding_within, decoding, first_key, key_after, rest_after}
use Rattle.bx_keys.specs.Waiting.{fate}
use Rattle.bx_keys.specs.declared.key.Key.{Key}

-- ---- the meaning of a fate

pub record IsBeginning (bs : List ℕ) : Type 0 where
  pub not_item : is_item bs ≡ false
  pub begins : begins_item bs ≡ true

waits_by : (m b : Bool) → cond m Ends (cond b Waits Breaks) ≡ Waits → (m ≡ false) × (b ≡ true)
waits_by true b h = absurd (cc h)
waits_by false true h = (refl, refl)
waits_by false false h = absurd (cc h)

pub waits_says : (bs : List ℕ) → fate bs ≡ Waits → IsBeginning bs
waits_says bs h =
    let parts = waits_by (is_item bs) (begins_item bs) h in record { not_item = parts.0; begins = parts.1 }

pub breaks_by : (m b : Bool) → cond m Ends (cond b Waits Breaks) ≡ Breaks → (m ≡ false) × (b ≡ false)
breaks_by true b h = absurd (cc h)
breaks_by false true h = absurd (cc h)
breaks_by false false h = (refl, refl)

-- ---- the first cut

abbrev pub cut : ℕ → List ℕ → ℕ → Decoding
cut n bs long =
    cond (is_item (take long bs)) (with_key (key_of (take long bs)) (decoding_within n (drop long bs)))
    (cond (nat_eq long (length bs)) (record { keys = []; rest = bs }) (decoding_within n (drop (max 1 long) bs)))

pub take_whole : (bs : List ℕ) → take (length bs) bs ≡ bs
take_whole bs = take_all (length bs) bs (omega arith)

beginning_whole : (b : ℕ) (bs : List ℕ) → begins_item (b ∷ bs) ≡ true → beginning (b ∷ bs) ≡ length (b ∷ bs)
beginning_whole b bs h =
    cond-true (begins_item (take (length (b ∷ bs)) (b ∷ bs))) (length (b ∷ bs)) (beginning_up_to (length bs) (b ∷ bs))
    (ap begins_item (take_whole (b ∷ bs)) ∙ h)

pub nothing_left : (n : ℕ) → decoding_within n [] ≡ record { keys = []; rest = [] }
nothing_left zero = refl
nothing_left (suc n) = refl

with_key_alone : (key : Option Key) → with_key key (record { keys = []; rest = [] }) ≡ record { keys = option_to_list key; rest = [] }
with_key_alone key = ap (λ keys. record { keys = keys; rest = [] }) (append-nil (option_to_list key))

-- a whole item is cut off whole
item_cut : (n b : ℕ) (bs : List ℕ) → is_item (b ∷ bs) ≡ true → begins_item (b ∷ bs) ≡ true
    → decoding_within (suc n) (b ∷ bs) ≡ record { keys = option_to_list (key_of (b ∷ bs)); rest = [] }
item_cut n b bs h g =
    let all : List ℕ = b ∷ bs in
    let front : take (length all) all ≡ all = take_whole all in
    let none : drop (length all) all ≡ [] = drop_all (length all) all (omega arith) in
    ap (cut n all) (beginning_whole b bs g)
    ∙ cond-true (is_item (take (length all) all)) _ _ (ap is_item front ∙ h)
    ∙ ap (λ xs. with_key (key_of xs) (decoding_within n (drop (length all) all))) front
    ∙ ap (λ xs. with_key (key_of all) (decoding_within n xs)) none
    ∙ ap (with_key (key_of all)) (nothing_left n)
    ∙ with_key_alone (key_of all)

-- ---- one byte more

pub record Feeds (rest : List ℕ) (b : ℕ) (key : Option Key) (left : List ℕ) : Type 0 where
  pub is_key : key_after rest b ≡ key
  pub is_rest : rest_after rest b ≡ left

pub first_of_option : (key : Option Key) → first_key (option_to_list key) ≡ key
first_of_option None = refl
first_of_option (Some key) = refl

pub item_decoding : (bs : List ℕ) → is_item bs ≡ true → decoding bs ≡ record { keys = option_to_list (key_of bs); rest = [] }
item_decoding [] h = absurd (cc h)
item_decoding (b ∷ bs) h = item_cut (length bs) b bs h (matches_any_begins items (b ∷ bs) h)

pub feeds_end : (rest : List ℕ) (b : ℕ) → fate (rest ++ b ∷ []) ≡ Ends → Feeds rest b (key_of (rest ++ b ∷ [])) []
feeds_end rest b h =
    let bs : List ℕ = rest ++ b ∷ [] in
    let is = item_decoding bs (ends_by (is_item bs) (begins_item bs) h) in
    record { is_key = ap (λ (d : Decoding). first_key d.keys) is ∙ first_of_option (key_of bs); is_rest = ap (λ (d : Decoding). d.rest) is }

-- a proper beginning waits
waits_cut : (n b : ℕ) (bs : List ℕ) → fate (b ∷ bs) ≡ Waits → decoding_within (suc n) (b ∷ bs) ≡ record { keys = []; rest = b ∷ bs }
waits_cut n b bs h =
    let all : List ℕ = b ∷ bs in
    let ucd = waits_says all h in
    ap (cut n all) (beginning_whole b bs ucd.begins)
    ∙ cond-false (is_item (take (length all) all)) _ _ (ap is_item (take_whole all) ∙ ucd.not_item)
    ∙ cond-true (nat_eq (length all) (length all)) _ _ (eq-eqb (length all) (length all) refl)

pub waits_decoding : (bs : List ℕ) → fate bs ≡ Waits → decoding bs ≡ record { keys = []; rest = bs }
waits_decoding [] h = refl
waits_decoding (b ∷ bs) h = waits_cut (length bs) b bs h

pub feeds_waiting : (rest : List ℕ) (b : ℕ) → fate (rest ++ b ∷ []) ≡ Waits → Feeds rest b None (rest ++ b ∷ [])
feeds_waiting rest b h =
    let is = waits_decoding (rest ++ b ∷ []) h in
    record { is_key = ap (λ (d : Decoding). first_key d.keys) is; is_rest = ap (λ (d : Decoding). d.rest) is }

-- a lone byte that begins no item is dropped
pub alone_dropped : (n b : ℕ) → fate (b ∷ []) ≡ Breaks → decoding_within (suc n) (b ∷ []) ≡ record { keys = []; rest = [] }
alone_dropped n b h =
    let none : begins_item (b ∷ []) ≡ false = (breaks_by (is_item (b ∷ [])) (begins_item (b ∷ [])) h).1 in
    let long : beginning (b ∷ []) ≡ 0 = cond-false (begins_item (b ∷ [])) 1 0 none in
    ap (cut n (b ∷ [])) long ∙ nothing_left n

alone_by : (f : Fate) (n b : ℕ) → fate (b ∷ []) ≡ f → decoding_within (suc n) (b ∷ []) ≡ decoding (b ∷ [])
alone_by Ends n b h =
    let is = ends_by (is_item (b ∷ [])) (begins_item (b ∷ [])) h in
    let begins = matches_any_begins items (b ∷ []) is in
    item_cut n b [] is begins ∙ sym (item_cut 0 b [] is begins)
alone_by Waits n b h = waits_cut n b [] h ∙ sym (waits_cut 0 b [] h)
alone_by Breaks n b h = alone_dropped n b h ∙ sym (alone_dropped 0 b h)

-- the longest beginning stops before the byte that breaks it
beginning_broken : (x : ℕ) (xs : List ℕ) (b : ℕ) → begins_item (x ∷ xs) ≡ true → begins_item (x ∷ (xs ++ b ∷ [])) ≡ false
    → beginning (x ∷ (xs ++ b ∷ [])) ≡ length (x ∷ xs)
beginning_broken x xs b h g =
    let all : List ℕ = x ∷ (xs ++ b ∷ []) in
    let one_less : length (xs ++ b ∷ []) ≡ length (x ∷ xs) = omega (arith, length-append xs (b ∷ [])) in
    let front : take (length (x ∷ xs)) all ≡ x ∷ xs = take_at (x ∷ xs) (b ∷ []) (length (x ∷ xs)) refl in
    cond-false (begins_item (take (length all) all)) _ _ (ap begins_item (take_whole all) ∙ g)
    ∙ ap (λ n. beginning_up_to n all) one_less
    ∙ cond-true (begins_item (take (length (x ∷ xs)) all)) _ _ (ap begins_item front ∙ h)

broken_cut : (n x : ℕ) (xs : List ℕ) (b : ℕ) → fate (x ∷ xs) ≡ Waits → fate (x ∷ (xs ++ b ∷ [])) ≡ Breaks
    → decoding_within (suc (suc n)) (x ∷ (xs ++ b ∷ [])) ≡ decoding (b ∷ [])
broken_cut n x xs b h g =
    let all : List ℕ = x ∷ (xs ++ b ∷ []) in
    let ucd = waits_says (x ∷ xs) h in
    let long : ℕ = length (x ∷ xs) in
    let front : take long all ≡ x ∷ xs = take_at (x ∷ xs) (b ∷ []) long refl in
    let back : drop long all ≡ b ∷ [] = drop_at (x ∷ xs) (b ∷ []) long refl in
    let longer : length all ≡ suc long = omega (arith, length-append xs (b ∷ [])) in
    let not_all : long ≡ length all → ⊥ = λ e. omega (arith, longer, e) in
    let most : max 1 long ≡ long = omega arith in
    ap (cut (suc n) all) (beginning_broken x xs b ucd.begins (breaks_by (is_item all) (begins_item all) g).1)
    ∙ cond-false (is_item (take long all)) _ _ (ap is_item front ∙ ucd.not_item)
    ∙ cond-false (nat_eq long (length all)) _ _ (ne_eqb long (length all) not_all)
    ∙ ap (λ k. decoding_within (suc n) (drop k all)) most
    ∙ ap (decoding_within (suc n)) back
    ∙ alone_by (fate (b ∷ [])) n b refl

pub broken_decoding : (rest : List ℕ) (b : ℕ) → fate rest ≡ Waits → fate (rest ++ b ∷ []) ≡ Breaks → decoding (rest ++ b ∷ []) ≡ decoding (b ∷ [])
broken_decoding [] b h g = refl
broken_decoding (x ∷ xs) b h g =
    let longer : length (xs ++ b ∷ []) ≡ suc (length xs) = omega (arith, length-append xs (b ∷ [])) in
    ap (λ n. decoding_within (suc n) (x ∷ (xs ++ b ∷ []))) longer ∙ broken_cut (length xs) x xs b h g

-- the byte that breaks off the waiting bytes is read afresh
pub feeds_break : (rest : List ℕ) (b : ℕ) → fate rest ≡ Waits → fate (rest ++ b ∷ []) ≡ Breaks → Feeds rest b (key_after [] b) (rest_after [] b)
feeds_break rest b h g =
    let is = broken_decoding rest b h g in
    record { is_key = ap (λ (d : Decoding). first_key d.keys) is; is_rest = ap (λ (d : Decoding). d.rest) is }

-- a byte that begins nothing is dropped
pub feeds_alone : (b : ℕ) → fate (b ∷ []) ≡ Breaks → Feeds [] b None []
feeds_alone b h =
    let is = alone_dropped 0 b h in
    record { is_key = ap (λ (d : Decoding). first_key d.keys) is; is_rest = ap (λ (d : Decoding). d.rest) is }
