-- The cuts of input, and input that comes in pieces.
use Rattle.std.proofs.Common.{◌≡◌, ℕ, ◌+◌, ◌<◌, ◌≤◌, ◌⊎◌, inl, inr, max, true, false, cond, nat_eq, List, [], ◌∷◌, ◌++◌, length, take, drop, get_or, Option}
use Rattle.std.proofs.Common.{refl, ap, sym, ◌∙◌, zero, suc, arith, append_assoc, length-append}
use Rattle.std.specs.Option.{option_to_list}
use Rattle.std.proofs.lemmas.List.{take-take, take_more, take-append-le, drop-append-le, length-drop, take-append-drop}
use Rattle.std.proofs.lemmas.Bool.{cases_eq, cases_Bool, cond-true, cond-false, ne_eqb, eq-eqb, both_ways}
use Rattle.bx_bytes.specs.Grammar.{is_grammar}
use Rattle.bx_bytes.specs.declared.fate.Fate.{Fate}
use Rattle.bx_bytes.specs.declared.fate.Fate.TheVariants.{Waits, Ends, Breaks}
use Rattle.bx_bytes.proofs.Patterns.{begins_any_front, none_begins_longer}
use Rattle.bx_bytes.proofs.Encoded.{ends_by}
use Rattle.bx_keys.specs.Items.{items, is_item, begins_item}
use Rattle.bx_keys.specs.Keys.{Decoding, key_of, with_key, beginning_up_to, beginning, decoding_within, decoding, first_key, key_after, rest_after}
use Rattle.bx_keys.specs.Waiting.{fate}
use Rattle.bx_keys.specs.declared.key.Key.{Key}
use Rattle.bx_keys.proofs.Feeding.{nothing_left, take_whole, waits_decoding, item_decoding, broken_decoding, alone_dropped, first_of_option}

items_are_grammar : is_grammar items ≡ true
items_are_grammar = refl

-- ---- the longest beginning

-- nothing longer begins an item, since each front of a beginning does
longer_not : (k n : ℕ) (bs : List ℕ) → begins_item (take k bs) ≡ false → k ≤ n → begins_item (take n bs) ≡ false
longer_not k n bs h le = elim (cases_Bool (begins_item (take n bs))) [
  | inr stops ↦ stops
  | inl begun ↦ absurd (
      let front : take n bs ≡ take k (take n bs) ++ drop k (take n bs) = sym (take-append-drop k (take n bs)) in
      let same : take k (take n bs) ≡ take k bs = take-take k n bs le in
      let short : begins_item (take k (take n bs)) ≡ true =
      begins_any_front items (take k (take n bs)) (drop k (take n bs)) (ap begins_item (sym front) ∙ begun) in
      both_ways (begins_item (take k bs)) h (ap begins_item (sym same) ∙ short))
]

pub up_to_begins : (n : ℕ) (bs : List ℕ) → begins_item (take (beginning_up_to n bs) bs) ≡ true
up_to_begins zero bs = refl
up_to_begins (suc n) bs = elim (cases_Bool (begins_item (take (suc n) bs))) [
  | inl begun ↦ ap (λ k. begins_item (take k bs)) (cond-true (begins_item (take (suc n) bs)) (suc n) (beginning_up_to n bs) begun) ∙ begun
  | inr stops ↦ ap (λ k. begins_item (take k bs)) (cond-false (begins_item (take (suc n) bs)) (suc n) (beginning_up_to n bs) stops) ∙ up_to_begins n bs
]

up_to_le : (n : ℕ) (bs : List ℕ) → beginning_up_to n bs ≤ n
up_to_le zero bs = omega arith
up_to_le (suc n) bs = elim (cases_Bool (begins_item (take (suc n) bs))) [
  | inl begun ↦ omega (arith, cond-true (begins_item (take (suc n) bs)) (suc n) (beginning_up_to n bs) begun)
  | inr stops ↦ omega (arith, cond-false (begins_item (take (suc n) bs)) (suc n) (beginning_up_to n bs) stops, up_to_le n bs)
]

-- the greatest is where nothing longer begins an item
up_to_is : (n k : ℕ) (bs : List ℕ) → k ≤ n → begins_item (take k bs) ≡ true → (k < n → begins_item (take (k + 1) bs) ≡ false) → beginning_up_to n bs ≡ k
up_to_is zero k bs le begun stops = omega arith
up_to_is (suc n) k bs le begun stops = elim (cases_eq k (suc n)) [
  | inl last ↦ cond-true (begins_item (take (suc n) bs)) (suc n) (beginning_up_to n bs) (ap (λ j. begins_item (take j bs)) (sym last) ∙ begun) ∙ sym last
  | inr less ↦ (
      let below : k < suc n = omega arith in
      cond-false (begins_item (take (suc n) bs)) (suc n) (beginning_up_to n bs) (longer_not (k + 1) (suc n) bs (stops below) (omega arith))
      ∙ up_to_is n k bs (omega arith) begun (λ h. stops (omega arith)))
]

up_to_next : (n : ℕ) (bs : List ℕ) → beginning_up_to n bs < n → begins_item (take (beginning_up_to n bs + 1) bs) ≡ false
up_to_next zero bs h = absurd (omega arith)
up_to_next (suc n) bs h = elim (cases_Bool (begins_item (take (suc n) bs))) [
  | inl begun ↦ absurd (omega (arith, cond-true (begins_item (take (suc n) bs)) (suc n) (beginning_up_to n bs) begun))
  | inr stops ↦ (
      let same : beginning_up_to (suc n) bs ≡ beginning_up_to n bs = cond-false (begins_item (take (suc n) bs)) (suc n) (beginning_up_to n bs) stops in
      ap (λ k. begins_item (take (k + 1) bs)) same
      ∙ elim (cases_eq (beginning_up_to n bs) n) [
        | inl all ↦ ap (λ k. begins_item (take k bs)) (let e : beginning_up_to n bs + 1 ≡ suc n = omega arith in e) ∙ stops
        | inr less ↦ up_to_next n bs (omega (arith, up_to_le n bs))
      ])
]

pub next_not : (bs : List ℕ) → beginning bs < length bs → begins_item (take (beginning bs + 1) bs) ≡ false
next_not bs h = up_to_next (length bs) bs h

-- ---- the three ways to cut

pub long_le : (bs : List ℕ) → beginning bs ≤ length bs
long_le bs = up_to_le (length bs) bs

pub item_not_empty : (k : ℕ) (bs : List ℕ) → is_item (take k bs) ≡ true → 1 ≤ k
item_not_empty zero bs h = absurd (cc h)
item_not_empty (suc k) bs h = omega arith

-- more input changes no cut that was made
same_beginning : (bs ys : List ℕ) → (is_item (take (beginning bs) bs) ≡ true) ⊎ (beginning bs < length bs) → beginning (bs ++ ys) ≡ beginning bs
same_beginning bs ys why =
    let long : ℕ = beginning bs in
    let le : long ≤ length bs = long_le bs in
    let front : take long (bs ++ ys) ≡ take long bs = take-append-le long bs ys le in
    let count : length (bs ++ ys) ≡ length bs + length ys = length-append bs ys in
    up_to_is (length (bs ++ ys)) long (bs ++ ys) (omega arith) (ap begins_item front ∙ up_to_begins (length bs) bs)
    (λ more. elim why [
      | inl item ↦ (
          let next : take (long + 1) (bs ++ ys) ≡ take long (bs ++ ys) ++ get_or (bs ++ ys) long 0 ∷ [] = take_more (bs ++ ys) long 0 more in
          ap begins_item (next ∙ ap (λ xs. xs ++ get_or (bs ++ ys) long 0 ∷ []) front)
          ∙ none_begins_longer items items_are_grammar (take long bs) (get_or (bs ++ ys) long 0) [] item)
      | inr dropped ↦ ap begins_item (take-append-le (long + 1) bs ys (omega arith)) ∙ next_not bs dropped
    ])

-- ---- as many cuts as there are bytes are enough

pub drop_shorter : (k n : ℕ) (bs : List ℕ) → 1 ≤ k → length bs ≤ suc n → length (drop k bs) ≤ n
drop_shorter k n bs l h = omega (arith, length-drop k bs)

same_cuts : (n m b : ℕ) (bs : List ℕ) → length bs ≤ n → length bs ≤ m
    → ((cs : List ℕ) → length cs ≤ length bs → decoding_within n cs ≡ decoding_within m cs)
    → decoding_within (suc n) (b ∷ bs) ≡ decoding_within (suc m) (b ∷ bs)
same_cuts n m b bs hn hm rest =
    let all : List ℕ = b ∷ bs in
    let long : ℕ = beginning all in
    elim (cases_Bool (is_item (take long all))) [
      | inl item ↦ cond-true (is_item (take long all)) (with_key (key_of (take long all)) (decoding_within n (drop long all))) _ item
          ∙ ap (with_key (key_of (take long all))) (rest (drop long all) (drop_shorter long (length bs) all (item_not_empty long all item) (omega arith)))
          ∙ sym (cond-true (is_item (take long all)) (with_key (key_of (take long all)) (decoding_within m (drop long all))) _ item)
      | inr other ↦ cond-false (is_item (take long all)) _
          (cond (nat_eq long (length all)) (record { keys = []; rest = all }) (decoding_within n (drop (max 1 long) all))) other
          ∙ ap (λ d. cond (nat_eq long (length all)) (record { keys = []; rest = all }) d)
          (rest (drop (max 1 long) all) (drop_shorter (max 1 long) (length bs) all (omega arith) (omega arith)))
          ∙ sym (cond-false (is_item (take long all)) _
          (cond (nat_eq long (length all)) (record { keys = []; rest = all }) (decoding_within m (drop (max 1 long) all))) other)
    ]

enough : (n m : ℕ) (bs : List ℕ) → length bs ≤ n → length bs ≤ m → decoding_within n bs ≡ decoding_within m bs
enough n m [] hn hm = nothing_left n ∙ sym (nothing_left m)
enough zero m (b ∷ bs) hn hm = absurd (omega arith)
enough (suc n) zero (b ∷ bs) hn hm = absurd (omega arith)
enough (suc n) (suc m) (b ∷ bs) hn hm = same_cuts n m b bs (omega arith) (omega arith) (λ cs short. enough n m cs (omega arith) (omega arith))

-- ---- the three ways, on all of the input

pub item_first : (bs : List ℕ) → is_item (take (beginning bs) bs) ≡ true
    → decoding bs ≡ with_key (key_of (take (beginning bs) bs)) (decoding (drop (beginning bs) bs))
item_first [] h = absurd (cc h)
item_first (b ∷ bs) h =
    let all : List ℕ = b ∷ bs in
    let long : ℕ = beginning all in
    let shorter : length (drop long all) ≤ length bs = drop_shorter long (length bs) all (item_not_empty long all h) (omega arith) in
    cond-true (is_item (take long all)) (with_key (key_of (take long all)) (decoding_within (length bs) (drop long all))) _ h
    ∙ ap (with_key (key_of (take long all))) (enough (length bs) (length (drop long all)) (drop long all) shorter (omega arith))

pub waits_first : (bs : List ℕ) → is_item (take (beginning bs) bs) ≡ false → beginning bs ≡ length bs → decoding bs ≡ record { keys = []; rest = bs }
waits_first [] h e = refl
waits_first (b ∷ bs) h e =
    let all : List ℕ = b ∷ bs in
    cond-false (is_item (take (beginning all) all)) _ _ h ∙ cond-true (nat_eq (beginning all) (length all)) _ _ (eq-eqb (beginning all) (length all) e)

pub dropped_first : (bs : List ℕ) → is_item (take (beginning bs) bs) ≡ false → beginning bs < length bs → decoding bs ≡ decoding (drop (max 1 (beginning bs)) bs)
dropped_first [] h l = absurd (omega arith)
dropped_first (b ∷ bs) h l =
    let all : List ℕ = b ∷ bs in
    let long : ℕ = beginning all in
    let shorter : length (drop (max 1 long) all) ≤ length bs = drop_shorter (max 1 long) (length bs) all (omega arith) (omega arith) in
    cond-false (is_item (take long all)) _ _ h
    ∙ cond-false (nat_eq long (length all)) _ _ (ne_eqb long (length all) (λ e. omega arith))
    ∙ enough (length bs) (length (drop (max 1 long) all)) (drop (max 1 long) all) shorter (omega arith)

-- ---- input in pieces

abbrev after_keys : List Key → Decoding → Decoding
after_keys keys d = record { keys = keys ++ d.keys; rest = d.rest }

abbrev continued : Decoding → List ℕ → Decoding
continued d ys = after_keys d.keys (decoding (d.rest ++ ys))

after_with_key : (key : Option Key) (d : Decoding) (ys : List ℕ) → with_key key (continued d ys) ≡ continued (with_key key d) ys
after_with_key key d ys = ap (λ keys. record { keys = keys; rest = (decoding (d.rest ++ ys)).rest })
    (sym (append_assoc (option_to_list key) d.keys (decoding (d.rest ++ ys)).keys))

item_more : (bs ys : List ℕ) → is_item (take (beginning bs) bs) ≡ true
    → decoding (drop (beginning bs) bs ++ ys) ≡ continued (decoding (drop (beginning bs) bs)) ys
    → decoding (bs ++ ys) ≡ continued (decoding bs) ys
item_more bs ys h more =
    let long : ℕ = beginning bs in
    let same : beginning (bs ++ ys) ≡ long = same_beginning bs ys (inl h) in
    let front : take (beginning (bs ++ ys)) (bs ++ ys) ≡ take long bs = ap (λ k. take k (bs ++ ys)) same ∙ take-append-le long bs ys (long_le bs) in
    let back : drop (beginning (bs ++ ys)) (bs ++ ys) ≡ drop long bs ++ ys = ap (λ k. drop k (bs ++ ys)) same ∙ drop-append-le long bs ys (long_le bs) in
    item_first (bs ++ ys) (ap is_item front ∙ h)
    ∙ ap (λ xs. with_key (key_of xs) (decoding (drop (beginning (bs ++ ys)) (bs ++ ys)))) front
    ∙ ap (λ xs. with_key (key_of (take long bs)) (decoding xs)) back
    ∙ ap (with_key (key_of (take long bs))) more
    ∙ after_with_key (key_of (take long bs)) (decoding (drop long bs)) ys
    ∙ ap (λ d. continued d ys) (sym (item_first bs h))

dropped_more : (bs ys : List ℕ) → is_item (take (beginning bs) bs) ≡ false → beginning bs < length bs
    → decoding (drop (max 1 (beginning bs)) bs ++ ys) ≡ continued (decoding (drop (max 1 (beginning bs)) bs)) ys → decoding (bs ++ ys) ≡ continued
    (decoding bs) ys
dropped_more bs ys h l more =
    let long : ℕ = beginning bs in
    let same : beginning (bs ++ ys) ≡ long = same_beginning bs ys (inr l) in
    let front : take (beginning (bs ++ ys)) (bs ++ ys) ≡ take long bs = ap (λ k. take k (bs ++ ys)) same ∙ take-append-le long bs ys (long_le bs) in
    let back : drop (max 1 (beginning (bs ++ ys))) (bs ++ ys) ≡ drop (max 1 long) bs ++ ys =
    ap (λ k. drop (max 1 k) (bs ++ ys)) same ∙ drop-append-le (max 1 long) bs ys (omega arith) in
    dropped_first (bs ++ ys) (ap is_item front ∙ h) (omega (arith, same, length-append bs ys))
    ∙ ap decoding back
    ∙ more
    ∙ ap (λ d. continued d ys) (sym (dropped_first bs h l))

pieces_within : (n : ℕ) (bs ys : List ℕ) → length bs ≤ n → decoding (bs ++ ys) ≡ continued (decoding bs) ys
pieces_within n [] ys l = refl
pieces_within zero (b ∷ bs) ys l = absurd (omega arith)
pieces_within (suc n) (b ∷ bs) ys l =
    let all : List ℕ = b ∷ bs in
    let long : ℕ = beginning all in
    elim (cases_Bool (is_item (take long all))) [
      | inl item ↦ item_more all ys item (pieces_within n (drop long all) ys (drop_shorter long n all (item_not_empty long all item) l))
      | inr other ↦ elim (cases_eq long (length all)) [
        | inl whole ↦ ap (λ d. continued d ys) (sym (waits_first all other whole))
        | inr less ↦ (
            let short : long < length all = omega (arith, long_le all) in
            dropped_more all ys other short (pieces_within n (drop (max 1 long) all) ys (drop_shorter (max 1 long) n all (omega arith) l)))
      ]
    ]

-- input cut in two has the keys of the first part, then those of the bytes that waited and the second
pub in_pieces : (bs ys : List ℕ) → decoding (bs ++ ys)
    ≡ record { keys = (decoding bs).keys ++ (decoding ((decoding bs).rest ++ ys)).keys; rest = (decoding ((decoding bs).rest ++ ys)).rest }
in_pieces bs ys = pieces_within (length bs) bs ys (omega arith)

-- ---- the bytes that are left wait

pub fate_waits : (bs : List ℕ) → is_item bs ≡ false → begins_item bs ≡ true → fate bs ≡ Waits
fate_waits bs h g = cond-false (is_item bs) _ _ h ∙ cond-true (begins_item bs) _ _ g

left_waits : (n : ℕ) (bs : List ℕ) → length bs ≤ n → fate (decoding bs).rest ≡ Waits
left_waits n [] l = refl
left_waits zero (b ∷ bs) l = absurd (omega arith)
left_waits (suc n) (b ∷ bs) l =
    let all : List ℕ = b ∷ bs in
    let long : ℕ = beginning all in
    elim (cases_Bool (is_item (take long all))) [
      | inl item ↦ ap (λ (d : Decoding). fate d.rest) (item_first all item)
          ∙ left_waits n (drop long all) (drop_shorter long n all (item_not_empty long all item) l)
      | inr other ↦ elim (cases_eq long (length all)) [
        | inl whole ↦ (
            let front : take long all ≡ all = ap (λ k. take k all) whole ∙ take_whole all in
            ap (λ (d : Decoding). fate d.rest) (waits_first all other whole)
            ∙ fate_waits all (ap is_item (sym front) ∙ other) (ap begins_item (sym front) ∙ up_to_begins (length all) all))
        | inr less ↦ (
            let short : long < length all = omega (arith, long_le all) in
            ap (λ (d : Decoding). fate d.rest) (dropped_first all other short)
            ∙ left_waits n (drop (max 1 long) all) (drop_shorter (max 1 long) n all (omega arith) l))
      ]
    ]

pub rest_waits : (bs : List ℕ) → fate (decoding bs).rest ≡ Waits
rest_waits bs = left_waits (length bs) bs (omega arith)

-- ---- byte by byte

alone_by : (f : Fate) (b : ℕ) → fate (b ∷ []) ≡ f → (decoding (b ∷ [])).keys ≡ option_to_list (first_key (decoding (b ∷ [])).keys)
alone_by Waits b e =
    let is = waits_decoding (b ∷ []) e in ap (λ (d : Decoding). d.keys) is ∙ sym (ap (λ (d : Decoding). option_to_list (first_key d.keys)) is)
alone_by Ends b e =
    let is = item_decoding (b ∷ []) (ends_by (is_item (b ∷ [])) (begins_item (b ∷ [])) e) in
    ap (λ (d : Decoding). d.keys) is
    ∙ ap option_to_list (sym (first_of_option (key_of (b ∷ []))))
    ∙ sym (ap (λ (d : Decoding). option_to_list (first_key d.keys)) is)
alone_by Breaks b e =
    let is = alone_dropped 0 b e in ap (λ (d : Decoding). d.keys) is ∙ sym (ap (λ (d : Decoding). option_to_list (first_key d.keys)) is)

one_by : (f : Fate) (rest : List ℕ) (b : ℕ) → fate rest ≡ Waits → fate (rest ++ b ∷ []) ≡ f → (decoding (rest ++ b ∷ [])).keys ≡ option_to_list
    (key_after rest b)
one_by Waits rest b h e =
    let is = waits_decoding (rest ++ b ∷ []) e in ap (λ (d : Decoding). d.keys) is ∙ sym (ap (λ (d : Decoding). option_to_list (first_key d.keys)) is)
one_by Ends rest b h e =
    let is = item_decoding (rest ++ b ∷ []) (ends_by (is_item (rest ++ b ∷ [])) (begins_item (rest ++ b ∷ [])) e) in
    ap (λ (d : Decoding). d.keys) is
    ∙ ap option_to_list (sym (first_of_option (key_of (rest ++ b ∷ []))))
    ∙ sym (ap (λ (d : Decoding). option_to_list (first_key d.keys)) is)
one_by Breaks rest b h e =
    let is = broken_decoding rest b h e in
    ap (λ (d : Decoding). d.keys) is ∙ alone_by (fate (b ∷ [])) b refl ∙ sym (ap (λ (d : Decoding). option_to_list (first_key d.keys)) is)

-- no byte ends two keys
pub one_key : (rest : List ℕ) (b : ℕ) → fate rest ≡ Waits → (decoding (rest ++ b ∷ [])).keys ≡ option_to_list (key_after rest b)
one_key rest b h = one_by (fate (rest ++ b ∷ [])) rest b h refl

pub byte_by_byte : (bs : List ℕ) (b : ℕ)
    → decoding (bs ++ b ∷ []) ≡ record { keys = (decoding bs).keys ++ option_to_list (key_after (decoding bs).rest b); rest = rest_after (decoding bs).rest b }
byte_by_byte bs b =
    in_pieces bs (b ∷ [])
    ∙ ap (λ keys. record { keys = (decoding bs).keys ++ keys; rest = rest_after (decoding bs).rest b }) (one_key (decoding bs).rest b (rest_waits bs))
