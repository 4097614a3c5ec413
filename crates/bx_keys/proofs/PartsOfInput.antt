-- Input is cut into items, dropped bytes, and waiting bytes.
use Rattle.std.proofs.Common.{◌≡◌, ℕ, ◌+◌, ◌<◌, ◌≤◌, inl, inr, max, true, false, List, [], ◌∷◌, ◌++◌, length, take, drop}
use Rattle.std.proofs.Common.{refl, ap, sym, ◌∙◌, subst, zero, suc, arith, append_assoc, drop-cons}
use Rattle.std.specs.Option.{option_to_list}
use Rattle.std.specs.List.{concat}
use Rattle.std.proofs.lemmas.List.{append-nil, length-take-le, take_more, take-append-drop}
use Rattle.std.proofs.lemmas.Bool.{both_ways, cases_eq, cases_Bool, cond-true, cond-false}
use Rattle.bx_bytes.specs.declared.fate.Fate.{Fate}
use Rattle.bx_bytes.specs.declared.fate.Fate.TheVariants.{Waits, Ends, Breaks}
use Rattle.bx_bytes.proofs.Encoded.{ends_by}
use Rattle.bx_bytes.proofs.Patterns.{matches_any_begins}
use Rattle.bx_keys.specs.Items.{items, is_item, begins_item}
use Rattle.bx_keys.specs.Keys.{Decoding, decoding, key_of, beginning}
use Rattle.bx_keys.specs.Waiting.{fate}
use Rattle.bx_keys.specs.Laws.{IsPart, IsPartBy, AreParts, HasParts, keys_of_items}
use Rattle.bx_keys.proofs.Feeding.{waits_decoding, item_decoding, broken_decoding, alone_dropped, breaks_by, waits_says}
use Rattle.bx_keys.proofs.Cuts.{in_pieces, item_first, waits_first, dropped_first, next_not, up_to_begins, long_le, item_not_empty, drop_shorter, fate_waits, rest_waits}

-- ---- parts give their keys

abbrev continued : Decoding → List ℕ → Decoding
continued d more = record { keys = d.keys ++ (decoding (d.rest ++ more)).keys; rest = (decoding (d.rest ++ more)).rest }

-- a byte that breaks off the waiting bytes is read afresh
broken_off : (part : List ℕ) (b : ℕ) (more : List ℕ) → fate part ≡ Waits → fate (part ++ b ∷ []) ≡ Breaks → decoding (part ++ b ∷ more) ≡ decoding (b ∷ more)
broken_off part b more w h =
    ap decoding (sym (append_assoc part (b ∷ []) more))
    ∙ in_pieces (part ++ b ∷ []) more
    ∙ ap (λ d. continued d more) (broken_decoding part b w h)
    ∙ sym (in_pieces (b ∷ []) more)

broken_by : (part after : List ℕ) → fate part ≡ Waits → fate (part ++ take 1 after) ≡ Breaks → decoding (part ++ after) ≡ decoding after
broken_by part [] w h = absurd (let same : Waits ≡ Breaks = sym w ∙ ap fate (sym (append-nil part)) ∙ h in cc same)
broken_by part (b ∷ more) w h = broken_off part b more w h

item_keys : (part : List ℕ) (parts : List (List ℕ)) → is_item part ≡ true → keys_of_items (part ∷ parts) ≡ option_to_list (key_of part) ++ keys_of_items parts
item_keys part parts h = rw h refl

dropped_keys : (part : List ℕ) (parts : List (List ℕ)) → is_item part ≡ false → keys_of_items (part ∷ parts) ≡ keys_of_items parts
dropped_keys part parts h = rw h refl

dropped : (part after rest : List ℕ) (parts : List (List ℕ)) → is_item part ≡ false → decoding (part ++ after) ≡ decoding after
    → decoding after ≡ record { keys = keys_of_items parts; rest = rest }
    → decoding (part ++ after) ≡ record { keys = keys_of_items (part ∷ parts); rest = rest }
dropped part after rest parts other same d =
    same ∙ d ∙ ap (λ keys. record { keys = keys; rest = rest }) (sym (dropped_keys part parts other))

-- a part before the others
one_part : (f : Fate) (part after rest : List ℕ) (parts : List (List ℕ)) → fate part ≡ f → IsPartBy f part after
    → decoding after ≡ record { keys = keys_of_items parts; rest = rest }
    → decoding (part ++ after) ≡ record { keys = keys_of_items (part ∷ parts); rest = rest }
one_part Ends part after rest parts h is d =
    let item : is_item part ≡ true = ends_by (is_item part) (begins_item part) h in
    in_pieces part after
    ∙ ap (λ first. continued first after) (item_decoding part item)
    ∙ ap (λ (next : Decoding). record { keys = option_to_list (key_of part) ++ next.keys; rest = next.rest }) d
    ∙ ap (λ keys. record { keys = keys; rest = rest }) (sym (item_keys part parts item))
one_part Waits part after rest parts h is d =
    dropped part after rest parts (waits_says part h).not_item (broken_by part after h is.1) d
one_part Breaks [] after rest parts h is d = absurd (omega (arith, is))
one_part Breaks (b ∷ []) after rest parts h is d =
    let other : is_item (b ∷ []) ≡ false = (breaks_by (is_item (b ∷ [])) (begins_item (b ∷ [])) h).0 in
    dropped (b ∷ []) after rest parts other (in_pieces (b ∷ []) after ∙ ap (λ first. continued first after) (alone_dropped 0 b h)) d
one_part Breaks (b ∷ c ∷ bs) after rest parts h is d = absurd (omega (arith, is))

parts_decoded : (parts : List (List ℕ)) (rest : List ℕ) → AreParts parts rest → decoding (concat parts ++ rest) ≡ record { keys = keys_of_items parts; rest = rest }
parts_decoded [] rest is = waits_decoding rest is
parts_decoded (part ∷ parts) rest is =
    ap decoding (append_assoc part (concat parts) rest)
    ∙ one_part (fate part) part (concat parts ++ rest) rest parts refl is.0 (parts_decoded parts rest is.1)

-- ---- input has parts

record IsCut (bs rest : List ℕ) : Type 0 where
  pub parts : List (List ℕ)
  pub joined : concat parts ++ rest ≡ bs
  pub are : AreParts parts rest

part_before : (part after rest : List ℕ) → IsPart part after → IsCut after rest → IsCut (part ++ after) rest
part_before part after rest is c = record {
  parts = part ∷ c.parts;
  joined = append_assoc part (concat c.parts) rest ∙ ap (λ xs. part ++ xs) c.joined;
  are = (subst (IsPart part) (sym c.joined) is, c.are);
}

-- the first bytes are a part
cut_at : (n : ℕ) (bs : List ℕ) → IsPart (take n bs) (drop n bs) → (decoding bs).rest ≡ (decoding (drop n bs)).rest
    → IsCut (drop n bs) (decoding (drop n bs)).rest → IsCut bs (decoding bs).rest
cut_at n bs is same c =
    let whole : IsCut (take n bs ++ drop n bs) (decoding bs).rest = part_before (take n bs) (drop n bs) (decoding bs).rest is (subst (IsCut (drop n bs)) (sym same) c) in
    subst (λ xs. IsCut xs (decoding bs).rest) (take-append-drop n bs) whole

none_left : (rest : List ℕ) → fate rest ≡ Waits → IsCut rest rest
none_left rest w = record { parts = []; joined = refl; are = w }

fate_ends : (bs : List ℕ) → is_item bs ≡ true → fate bs ≡ Ends
fate_ends bs h = cond-true (is_item bs) Ends _ h

fate_breaks : (bs : List ℕ) → begins_item bs ≡ false → fate bs ≡ Breaks
fate_breaks bs h = elim (cases_Bool (is_item bs)) [
  | inl item ↦ absurd (both_ways (begins_item bs) h (matches_any_begins items bs item))
  | inr other ↦ cond-false (is_item bs) _ _ other ∙ cond-false (begins_item bs) _ _ h
]

next_byte : (k : ℕ) (bs : List ℕ) → k < length bs → take k bs ++ take 1 (drop k bs) ≡ take (k + 1) bs
next_byte k bs l =
    ap (λ xs. take k bs ++ take 1 xs) (drop-cons bs k 0 l) ∙ sym (take_more bs k 0 l)

-- the longest beginning of an item that is no item
dropped_part : (bs : List ℕ) → is_item (take (beginning bs) bs) ≡ false → beginning bs < length bs
    → IsPart (take (max 1 (beginning bs)) bs) (drop (max 1 (beginning bs)) bs)
dropped_part bs h l = elim (cases_eq (beginning bs) 0) [
  | inl none ↦ (
      let next : begins_item (take 1 bs) ≡ false = ap (λ k. begins_item (take (k + 1) bs)) (sym none) ∙ next_not bs l in
      let one : max 1 (beginning bs) ≡ 1 = omega (arith, none) in
      let is : IsPartBy Breaks (take 1 bs) (drop 1 bs) = omega (arith, length-take-le 1 bs (omega arith)) in
      subst (λ k. IsPart (take k bs) (drop k bs)) (sym one) (subst (λ f. IsPartBy f (take 1 bs) (drop 1 bs)) (sym (fate_breaks (take 1 bs) next)) is))
  | inr some ↦ (
      let long : ℕ = beginning bs in
      let same : max 1 long ≡ long = omega arith in
      let waits : fate (take long bs) ≡ Waits = fate_waits (take long bs) h (up_to_begins (length bs) bs) in
      let breaks : fate (take long bs ++ take 1 (drop long bs)) ≡ Breaks = ap fate (next_byte long bs l) ∙ fate_breaks (take (long + 1) bs) (next_not bs l) in
      let is : IsPartBy Waits (take long bs) (drop long bs) = (omega (arith, length-take-le long bs (long_le bs)), breaks) in
      subst (λ k. IsPart (take k bs) (drop k bs)) (sym same) (subst (λ f. IsPartBy f (take long bs) (drop long bs)) (sym waits) is))
]

cut_within : (n : ℕ) (bs : List ℕ) → length bs ≤ n → IsCut bs (decoding bs).rest
cut_within n [] l = none_left [] refl
cut_within zero (b ∷ bs) l = absurd (omega arith)
cut_within (suc n) (b ∷ bs) l =
    let all : List ℕ = b ∷ bs in
    let long : ℕ = beginning all in
    elim (cases_Bool (is_item (take long all))) [
      | inl item ↦ cut_at long all (subst (λ f. IsPartBy f (take long all) (drop long all)) (sym (fate_ends (take long all) item)) tt)
          (ap (λ (d : Decoding). d.rest) (item_first all item)) (cut_within n (drop long all) (drop_shorter long n all (item_not_empty long all item) l))
      | inr other ↦ elim (cases_eq long (length all)) [
        | inl whole ↦ (
            let left : (decoding all).rest ≡ all = ap (λ (d : Decoding). d.rest) (waits_first all other whole) in
            subst (IsCut all) (sym left) (none_left all (ap fate (sym left) ∙ rest_waits all)))
        | inr less ↦ (
            let short : long < length all = omega (arith, long_le all) in
            cut_at (max 1 long) all (dropped_part all other short) (ap (λ (d : Decoding). d.rest) (dropped_first all other short))
            (cut_within n (drop (max 1 long) all) (drop_shorter (max 1 long) n all (omega arith) l)))
      ]
    ]

pub has_parts : HasParts
has_parts = record {
  cut = λ bs. let c = cut_within (length bs) bs (omega arith) in (c.parts, c.joined, c.are);
  decoded = parts_decoded;
}
