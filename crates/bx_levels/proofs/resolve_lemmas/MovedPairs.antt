-- The bracket pairs of a list with an addition without brackets in its middle: the same, with the indexes after the middle moved.
use Rattle.std.proofs.Common.{◌≡◌, ◌<◌, ◌≤◌, ◌+◌, ◌∙◌, inl, inr, ℕ, suc, List, [], ◌∷◌, ◌++◌, length, map, refl, ap, ap₂, sym, arith, Bool}
use Rattle.std.proofs.Common.{true, false, cond, Option, Some, None}
use Rattle.std.specs.Prelude.{◌&&◌, ◌||◌, ◌==◌, not, nat_lt, nat_le, filter, find}
use Rattle.std.specs.List.{list_any}
use Rattle.std.proofs.lemmas.Bool.Decides.{nat_tests}
use Rattle.std.proofs.lemmas.List.{length-map}
use Rattle.std.proofs.lemmas.Bool.{cases_lt}
use Rattle.bx_ucd.specs.Data.{Data}
use Rattle.bx_ucd.specs.declared.class.Class.{Class}
use Rattle.bx_ucd.specs.declared.data.Side.{Side}
use Rattle.bx_ucd.specs.declared.data.Side.TheVariants.{Opener, Closer}
use Rattle.bx_levels.specs.brackets.Pairs.{Search, insert_pair, is_open, open_openers, bracket_room, meet_opener, meet_closer, meet, canonical, bracket_at}
use Rattle.bx_levels.specs.brackets.Pairs.{search_from, pairs}
use Rattle.bx_levels.specs.brackets.Search.{IsFalling}
use Rattle.bx_levels.proofs.resolve_lemmas.PlainPairs.{AreInside, IsSound, search_sound}

abbrev pub moved_opener : (ℕ → ℕ) → ℕ × ℕ → ℕ × ℕ
moved_opener f o = (f o.0, o.1)

abbrev pub moved_pair : (ℕ → ℕ) → ℕ × ℕ → ℕ × ℕ
moved_pair f p = (f p.0, f p.1)

abbrev pub moved : (ℕ → ℕ) → Search → Search
moved f s = record { openers = map (moved_opener f) s.openers; pairs = map (moved_pair f) s.pairs; is_over = s.is_over }

abbrev moved_found : (ℕ → ℕ) → Option (ℕ × ℕ) → Option (ℕ × ℕ)
moved_found f None = None
moved_found f (Some o) = Some (moved_opener f o)

filter_map : (g : ℕ × ℕ → ℕ × ℕ) (p q : ℕ × ℕ → Bool) → ((x : ℕ × ℕ) → q (g x) ≡ p x) → (xs : List (ℕ × ℕ)) → filter q (map g xs) ≡ map g (filter p xs)
filter_map g p q same [] = refl
filter_map g p q same (x ∷ xs) =
    let ih : filter q (map g xs) ≡ map g (filter p xs) = filter_map g p q same xs in
    ap (λ b. cond b (g x ∷ filter q (map g xs)) (filter q (map g xs))) (same x)
    ∙ elim (p x) as (λ b. cond b (g x ∷ filter q (map g xs)) (filter q (map g xs)) ≡ map g (cond b (x ∷ filter p xs) (filter p xs))) [
      | true ↦ ap (λ r. g x ∷ r) ih
      | false ↦ ih
    ]

-- a map of indexes that keeps their order
module _ (f : ℕ → ℕ) (lt_same : (a b : ℕ) → nat_lt (f a) (f b) ≡ nat_lt a b) (le_same : (a b : ℕ) → nat_le (f a) (f b) ≡ nat_le a b) where
  insert_moved : (p : ℕ × ℕ) (qs : List (ℕ × ℕ)) → insert_pair (moved_pair f p) (map (moved_pair f) qs) ≡ map (moved_pair f) (insert_pair p qs)
  insert_moved p [] = refl
  insert_moved p (q ∷ qs) =
      let g : ℕ × ℕ → ℕ × ℕ = moved_pair f in
      ap (λ b. elim b as (λ x. List (ℕ × ℕ)) [ true ↦ g p ∷ g q ∷ map g qs | false ↦ g q ∷ insert_pair (g p) (map g qs) ]) (lt_same p.0 q.0)
      ∙ elim (nat_lt p.0 q.0) as (λ b. elim b as (λ x. List (ℕ × ℕ)) [ true ↦ g p ∷ g q ∷ map g qs | false ↦ g q ∷ insert_pair (g p) (map g qs) ]
      ≡ map g (elim b as (λ x. List (ℕ × ℕ)) [ true ↦ p ∷ q ∷ qs | false ↦ q ∷ insert_pair p qs ])) [
        | true ↦ refl
        | false ↦ ap (λ r. g q ∷ r) (insert_moved p qs)
      ]

  any_moved : (ps : List (ℕ × ℕ)) (o : ℕ × ℕ) → list_any (λ p. nat_le p.0 (f o.0) && nat_lt (f o.0) p.1) (map (moved_pair f) ps)
      ≡ list_any (λ p. nat_le p.0 o.0 && nat_lt o.0 p.1) ps
  any_moved [] o = refl
  any_moved (p ∷ ps) o = ap₂ (λ a r. a || r) (ap₂ (λ a b. a && b) (le_same p.0 o.0) (lt_same o.0 p.1)) (any_moved ps o)

  open_moved : (s : Search) → open_openers (moved f s) ≡ map (moved_opener f) (open_openers s)
  open_moved s = filter_map (moved_opener f) (is_open s.pairs) (is_open (map (moved_pair f) s.pairs)) (λ o. ap not (any_moved s.pairs o)) s.openers

  find_moved : (c : ℕ) (os : List (ℕ × ℕ)) → find (λ (o : ℕ × ℕ). o.1 == c) (map (moved_opener f) os) ≡ moved_found f (find (λ (o : ℕ × ℕ). o.1 == c) os)
  find_moved c [] = refl
  find_moved c (o ∷ os) =
      elim (o.1 == c) as (λ b. cond b (Some (moved_opener f o)) (find (λ (x : ℕ × ℕ). x.1 == c) (map (moved_opener f) os))
      ≡ moved_found f (cond b (Some o) (find (λ (x : ℕ × ℕ). x.1 == c) os))) [ true ↦ refl | false ↦ find_moved c os ]

  opener_moved : (s : Search) (j m : ℕ) → meet_opener (moved f s) (f j) m ≡ moved f (meet_opener s j m)
  opener_moved s j m =
      let n : length (open_openers (moved f s)) ≡ length (open_openers s) = ap length (open_moved s) ∙ length-map (open_openers s) (moved_opener f) in
      let yes_now : Search = record (moved f s) { openers = (f j, canonical m) ∷ map (moved_opener f) s.openers } in
      let no_now : Search = record (moved f s) { is_over = true } in
      ap (λ k. elim (nat_lt k bracket_room) as (λ x. Search) [ true ↦ yes_now | false ↦ no_now ]) n
      ∙ elim (nat_lt (length (open_openers s)) bracket_room) as (λ b. elim b as (λ x. Search) [ true ↦ yes_now | false ↦ no_now ]
      ≡ moved f (elim b as (λ x. Search) [ true ↦ record s { openers = (j, canonical m) ∷ s.openers } | false ↦ record s { is_over = true } ]))
      [ true ↦ refl | false ↦ refl ]

  closer_by : (s : Search) (j : ℕ) (r : Option (ℕ × ℕ))
      → elim (moved_found f r) as (λ x. Search) [ None ↦ moved f s | Some o ↦ record (moved f s) { pairs = insert_pair (o.0, f j) (map (moved_pair f) s.pairs) } ]
      ≡ moved f (elim r as (λ x. Search) [ None ↦ s | Some o ↦ record s { pairs = insert_pair (o.0, j) s.pairs } ])
  closer_by s j None = refl
  closer_by s j (Some o) = ap (λ ps. record (moved f s) { pairs = ps }) (insert_moved (o.0, j) s.pairs)

  closer_moved : (s : Search) (j c : ℕ) → meet_closer (moved f s) (f j) c ≡ moved f (meet_closer s j c)
  closer_moved s j c =
      let e : find (λ (o : ℕ × ℕ). o.1 == canonical c) (open_openers (moved f s)) ≡ moved_found f (find (λ (o : ℕ × ℕ). o.1 == canonical c) (open_openers s)) =
      ap (find (λ (o : ℕ × ℕ). o.1 == canonical c)) (open_moved s) ∙ find_moved (canonical c) (open_openers s) in
      ap (λ r. elim r as (λ x. Search) [
        | None ↦ moved f s
        | Some o ↦ record (moved f s) { pairs = insert_pair (o.0, f j) (map (moved_pair f) s.pairs) }
      ]) e ∙ closer_by s j (find (λ (o : ℕ × ℕ). o.1 == canonical c) (open_openers s))

  meet_moved : (s : Search) (j c : ℕ) (b : Option (Side × ℕ)) → meet (moved f s) (f j) c b ≡ moved f (meet s j c b)
  meet_moved s j c None = refl
  meet_moved s j c (Some (Opener, m)) = opener_moved s j m
  meet_moved s j c (Some (Closer, m)) = closer_moved s j c

  pub search_moved : (ucd : Data) (s : Search) (j : ℕ) (cs : List ℕ) (ts : List Class) → ((k : ℕ) → j ≤ k → f (k + 1) ≡ f k + 1)
      → search_from ucd (moved f s) (f j) cs ts ≡ moved f (search_from ucd s j cs ts)
  search_moved ucd s j [] ts h = refl
  search_moved ucd s j (c ∷ cs) [] h = refl
  search_moved ucd s j (c ∷ cs) (t ∷ ts) h =
      let b : Option (Side × ℕ) = bracket_at ucd c t in
      let m : meet (moved f s) (f j) c b ≡ moved f (meet s j c b) = meet_moved s j c b in
      let one : f (j + 1) ≡ f j + 1 = h j (omega arith) in
      let later : (k : ℕ) → j + 1 ≤ k → f (k + 1) ≡ f k + 1 = λ k l. h k (omega arith) in
      let ih : search_from ucd (moved f (meet s j c b)) (f (j + 1)) cs ts ≡ moved f (search_from ucd (meet s j c b) (j + 1) cs ts) =
      search_moved ucd (meet s j c b) (j + 1) cs ts later in
      elim (s.is_over) as (λ v. elim v as (λ x. Search) [ true ↦ moved f s | false ↦ search_from ucd (meet (moved f s) (f j) c b) (f j + 1) cs ts ]
      ≡ moved f (elim v as (λ x. Search) [ true ↦ s | false ↦ search_from ucd (meet s j c b) (j + 1) cs ts ])) [
        | true ↦ refl
        | false ↦ ap (λ u. search_from ucd u (f j + 1) cs ts) m ∙ ap (λ i. search_from ucd (moved f (meet s j c b)) i cs ts) (sym one) ∙ ih
      ]

-- `m` more at `n`
abbrev pub shift : ℕ → ℕ → ℕ → ℕ
shift n m j = elim (nat_lt j n) [ true ↦ j | false ↦ j + m ]

pub shift_below : (n m j : ℕ) → j < n → shift n m j ≡ j
shift_below n m j h = let e : nat_lt j n ≡ true = grind (arith, nat_tests) in rw (e, shift)

pub shift_from : (n m j : ℕ) → n ≤ j → shift n m j ≡ j + m
shift_from n m j h = let e : nat_lt j n ≡ false = grind (arith, nat_tests) in rw (e, shift)

pub lt_alike : (a b c d : ℕ) → (a < b → c < d) → (b ≤ a → d ≤ c) → nat_lt c d ≡ nat_lt a b
lt_alike a b c d h k = elim (cases_lt a b) [
  | inl l ↦ let u : c < d = h l in let e : nat_lt c d ≡ true = grind (arith, nat_tests) in let i : nat_lt a b ≡ true = grind (arith, nat_tests) in e ∙ sym i
  | inr l ↦ let u : d ≤ c = k l in let e : nat_lt c d ≡ false = grind (arith, nat_tests) in let i : nat_lt a b ≡ false = grind (arith, nat_tests) in e ∙ sym i
]

pub le_alike : (a b c d : ℕ) → (b < a → d < c) → (a ≤ b → c ≤ d) → nat_le c d ≡ nat_le a b
le_alike a b c d h k = elim (cases_lt b a) [
  | inl l ↦ let u : d < c = h l in let e : nat_le c d ≡ false = grind (arith, nat_tests) in let i : nat_le a b ≡ false = grind (arith, nat_tests) in e ∙ sym i
  | inr l ↦ let u : c ≤ d = k l in let e : nat_le c d ≡ true = grind (arith, nat_tests) in let i : nat_le a b ≡ true = grind (arith, nat_tests) in e ∙ sym i
]

shift_lt : (n m a b : ℕ) → a < b → shift n m a < shift n m b
shift_lt n m a b h = elim (cases_lt a n) [
  | inl l ↦ elim (cases_lt b n) [
    | inl k ↦ let e : shift n m a ≡ a = shift_below n m a l in let i : shift n m b ≡ b = shift_below n m b k in omega arith
    | inr k ↦ let e : shift n m a ≡ a = shift_below n m a l in let i : shift n m b ≡ b + m = shift_from n m b k in omega arith
  ]
  | inr l ↦ let e : shift n m a ≡ a + m = shift_from n m a l in let i : shift n m b ≡ b + m = shift_from n m b (omega arith) in omega arith
]

shift_le : (n m a b : ℕ) → a ≤ b → shift n m a ≤ shift n m b
shift_le n m a b h = elim (cases_lt a n) [
  | inl l ↦ elim (cases_lt b n) [
    | inl k ↦ let e : shift n m a ≡ a = shift_below n m a l in let i : shift n m b ≡ b = shift_below n m b k in omega arith
    | inr k ↦ let e : shift n m a ≡ a = shift_below n m a l in let i : shift n m b ≡ b + m = shift_from n m b k in omega arith
  ]
  | inr l ↦ let e : shift n m a ≡ a + m = shift_from n m a l in let i : shift n m b ≡ b + m = shift_from n m b (omega arith) in omega arith
]

shift_lt_same : (n m a b : ℕ) → nat_lt (shift n m a) (shift n m b) ≡ nat_lt a b
shift_lt_same n m a b = lt_alike a b (shift n m a) (shift n m b) (shift_lt n m a b) (shift_le n m b a)

shift_le_same : (n m a b : ℕ) → nat_le (shift n m a) (shift n m b) ≡ nat_le a b
shift_le_same n m a b = le_alike a b (shift n m a) (shift n m b) (shift_lt n m b a) (shift_le n m a b)

shift_step : (n m k : ℕ) → n ≤ k → shift n m (k + 1) ≡ shift n m k + 1
shift_step n m k h =
    let a : shift n m k ≡ k + m = shift_from n m k h in
    let b : shift n m (k + 1) ≡ k + 1 + m = shift_from n m (k + 1) (omega arith) in
    omega arith

-- an index before `n` is not moved
openers_stay : (n m j : ℕ) (os : List (ℕ × ℕ)) → j ≤ n → IsFalling j os → map (moved_opener (shift n m)) os ≡ os
openers_stay n m j [] l h = refl
openers_stay n m j (o ∷ os) l h =
    let b : o.0 < j = h.0 in
    let e : shift n m o.0 ≡ o.0 = shift_below n m o.0 (omega arith) in
    ap₂ (λ i r. (i, o.1) ∷ r) e (openers_stay n m o.0 os (omega arith) h.1)

pairs_stay : (n m : ℕ) (ps : List (ℕ × ℕ)) → AreInside n ps → map (moved_pair (shift n m)) ps ≡ ps
pairs_stay n m [] h = refl
pairs_stay n m (p ∷ ps) h =
    let a : p.0 < p.1 = h.0 in
    let b : p.1 < n = h.1 in
    let d : shift n m p.0 ≡ p.0 = shift_below n m p.0 (omega arith) in
    let e : shift n m p.1 ≡ p.1 = shift_below n m p.1 b in
    ap₂ (λ q r. q ∷ r) (ap₂ (λ x y. (x, y)) d e) (pairs_stay n m ps h.2)

search_stays : (n m : ℕ) (s : Search) → IsSound n s → moved (shift n m) s ≡ s
search_stays n m s h = ap₂ (λ os ps. record s { openers = os; pairs = ps }) (openers_stay n m n s.openers (omega arith) h.falling) (pairs_stay n m s.pairs h.inside)

-- no character of a list is a bracket
abbrev pub HasNoBracket : Data → List ℕ → List Class → Type 0
HasNoBracket ucd [] ts = Unit {0}
HasNoBracket ucd (c ∷ cs) [] = Unit {0}
HasNoBracket ucd (c ∷ cs) (t ∷ ts) = (bracket_at ucd c t ≡ None) × HasNoBracket ucd cs ts

over_stays : (ucd : Data) (s : Search) (j : ℕ) (cs : List ℕ) (ts : List Class) → s.is_over ≡ true → search_from ucd s j cs ts ≡ s
over_stays ucd s j [] ts e = refl
over_stays ucd s j (c ∷ cs) [] e = refl
over_stays ucd s j (c ∷ cs) (t ∷ ts) e =
    ap (λ v. elim v as (λ x. Search) [ true ↦ s | false ↦ search_from ucd (meet s j c (bracket_at ucd c t)) (j + 1) cs ts ]) e

pub none_met : (ucd : Data) (s : Search) (j : ℕ) (cs : List ℕ) (ts : List Class) → HasNoBracket ucd cs ts
    → search_from ucd s j cs ts ≡ s
none_met ucd s j [] ts h = refl
none_met ucd s j (c ∷ cs) [] h = refl
none_met ucd s j (c ∷ cs) (t ∷ ts) h =
    let e : search_from ucd (meet s j c (bracket_at ucd c t)) (j + 1) cs ts ≡ s =
    ap (λ b. search_from ucd (meet s j c b) (j + 1) cs ts) h.0 ∙ none_met ucd s (j + 1) cs ts h.1 in
    elim (s.is_over) as (λ v. elim v as (λ x. Search) [ true ↦ s | false ↦ search_from ucd (meet s j c (bracket_at ucd c t)) (j + 1) cs ts ] ≡ s)
    [ true ↦ refl | false ↦ e ]

-- a search goes on where the one before it ended
pub search_more : (ucd : Data) (s : Search) (j : ℕ) (cs ds : List ℕ) (ts us : List Class) → length cs ≡ length ts
    → search_from ucd s j (cs ++ ds) (ts ++ us) ≡ search_from ucd (search_from ucd s j cs ts) (j + length ts) ds us
search_more ucd s j [] ds [] us e = let z : j ≡ j + 0 = omega arith in ap (λ i. search_from ucd s i ds us) z
search_more ucd s j [] ds (t ∷ ts) us e = absurd (omega arith)
search_more ucd s j (c ∷ cs) ds [] us e = absurd (omega arith)
search_more ucd s j (c ∷ cs) ds (t ∷ ts) us e =
    let u : Search = meet s j c (bracket_at ucd c t) in
    let n : j + 1 + length ts ≡ j + suc (length ts) = omega arith in
    let ih : search_from ucd u (j + 1) (cs ++ ds) (ts ++ us) ≡ search_from ucd (search_from ucd u (j + 1) cs ts) (j + suc (length ts)) ds us =
    search_more ucd u (j + 1) cs ds ts us (omega arith) ∙ ap (λ i. search_from ucd (search_from ucd u (j + 1) cs ts) i ds us) n in
    (elim (s.is_over) as (λ v. s.is_over ≡ v → elim v as (λ x. Search) [ true ↦ s | false ↦ search_from ucd u (j + 1) (cs ++ ds) (ts ++ us) ]
    ≡ search_from ucd (elim v as (λ x. Search) [ true ↦ s | false ↦ search_from ucd u (j + 1) cs ts ]) (j + suc (length ts)) ds us) [
      | true ↦ λ o. sym (over_stays ucd s (j + suc (length ts)) ds us o)
      | false ↦ λ o. ih
    ]) refl

-- with more in the middle that has no bracket, each pair is the same, moved
pub pairs_moved : (ucd : Data) (cu cm cv : List ℕ) (us ms vs : List Class) → length cu ≡ length us → length cm ≡ length ms
    → HasNoBracket ucd cm ms
    → pairs ucd (cu ++ (cm ++ cv)) (us ++ (ms ++ vs)) ≡ map (moved_pair (shift (length us) (length ms))) (pairs ucd (cu ++ cv) (us ++ vs))
pairs_moved ucd cu cm cv us ms vs a b h =
    let n : ℕ = length us in
    let m : ℕ = length ms in
    let f : ℕ → ℕ = shift n m in
    let start : Search = record { openers = []; pairs = []; is_over = false } in
    let s : Search = search_from ucd start 0 cu us in
    let z : 0 + length us ≡ n = omega arith in
    let sound : IsSound n s = search_sound ucd n 0 cu us start (omega arith) (record { falling = tt; inside = tt }) in
    let whole : search_from ucd start 0 (cu ++ (cm ++ cv)) (us ++ (ms ++ vs)) ≡ search_from ucd s (n + m) cv vs =
    search_more ucd start 0 cu (cm ++ cv) us (ms ++ vs) a ∙ ap (λ i. search_from ucd s i (cm ++ cv) (ms ++ vs)) z
    ∙ search_more ucd s n cm cv ms vs b ∙ ap (λ u. search_from ucd u (n + m) cv vs) (none_met ucd s n cm ms h) in
    let short : search_from ucd start 0 (cu ++ cv) (us ++ vs) ≡ search_from ucd s n cv vs =
    search_more ucd start 0 cu cv us vs a ∙ ap (λ i. search_from ucd s i cv vs) z in
    let same : search_from ucd s (n + m) cv vs ≡ moved f (search_from ucd s n cv vs) =
    ap₂ (λ u i. search_from ucd u i cv vs) (sym (search_stays n m s sound)) (sym (shift_from n m n (omega arith)))
    ∙ search_moved f (shift_lt_same n m) (shift_le_same n m) ucd s n cv vs (shift_step n m) in
    ap (λ (r : Search). r.pairs) (whole ∙ same ∙ ap (moved f) (sym short))
