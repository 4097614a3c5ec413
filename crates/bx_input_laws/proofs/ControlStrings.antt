-- Control strings give nothing.
use Rattle.std.proofs.Common.{◌≡◌, ℕ, ◌+◌, ◌-◌, ◌≤◌, inl, inr, Bool, true, false, not, ◌&&◌, ◌||◌, nat_eq, nat_le, List, [], ◌∷◌, ◌++◌, length, map, None, refl, ap, sym, ◌∙◌, append_assoc, arith}
use Rattle.std.proofs.lemmas.Bool.{and_parts, and_from, or_parts, cond-true, cond-false}
use Rattle.std.proofs.lemmas.Bool.Decides.{nat_tests}
use Rattle.std.proofs.lemmas.List.{append-nil, get_or_push, length_push}
use Rattle.bx_input.specs.Scan.{Outside}
use Rattle.bx_input.specs.Strings.{is_introducer, ends_by_escape, ends_string, is_short_string}
use Rattle.bx_keys.specs.declared.key.Key.{Key}
use Rattle.bx_input.specs.Machine.{Machine, Moved, Typed, quiet, after_all, after_typed, after_held, after_whole, after_scanned}
use Rattle.bx_input.specs.declared.pause.Pause.{Pause}
use Rattle.bx_input.specs.declared.pause.Pause.TheVariants as pauses
use Rattle.bx_input_laws.specs.Strings.{IsEnd, StringsGiveNothing, has_end, idle_machine}

-- ---- bytes that leave a string open

abbrev goes_on : List ℕ → List ℕ → Bool
goes_on held [] = true
goes_on held (b ∷ cs) = (not (ends_string held b) && is_short_string (held ++ b ∷ [])) && goes_on (held ++ b ∷ []) cs

-- no backslash behind an ESC
abbrev no_backslash : List ℕ → List ℕ → Bool
no_backslash held [] = true
no_backslash held (b ∷ cs) = not (nat_eq b 0x5C && ends_by_escape held)

last_is : (held : List ℕ) (b : ℕ) → ends_by_escape (held ++ b ∷ []) ≡ nat_eq b 0x1B
last_is held b = ap (λ last. nat_eq last 0x1B) (get_or_push held b 0 (length (held ++ b ∷ []) - 1) (omega (arith, length_push held b)))

short_push : (held : List ℕ) (b : ℕ) → length held + 1 ≤ 4097 → is_short_string (held ++ b ∷ []) ≡ true
short_push held b l =
    let count = length_push held b in
    let few : nat_le (length (held ++ b ∷ [])) 4097 ≡ true = grind (arith, nat_tests, count, l) in
    ap (λ t. t || (nat_le (length (held ++ b ∷ [])) 4098 && ends_by_escape (held ++ b ∷ []))) few

no_end_here : (x y z : Bool) → x ≡ false → not (y && z) ≡ true → not (x || (y && z)) ≡ true
no_end_here x y z e n = rw e n

or_right : (x y : Bool) → y ≡ true → x || y ≡ true
or_right true y h = refl
or_right false y h = h

short_escape : (held : List ℕ) → length held + 1 ≤ 4098 → is_short_string (held ++ 0x1B ∷ []) ≡ true
short_escape held l =
    let count = length_push held 0x1B in
    let few : nat_le (length (held ++ 0x1B ∷ [])) 4098 ≡ true = grind (arith, nat_tests, count, l) in
    or_right (nat_le (length (held ++ 0x1B ∷ [])) 4097) (nat_le (length (held ++ 0x1B ∷ [])) 4098 && ends_by_escape (held ++ 0x1B ∷ []))
    (and_from (nat_le (length (held ++ 0x1B ∷ [])) 4098) (ends_by_escape (held ++ 0x1B ∷ [])) few (last_is held 0x1B))

flipped : (x y : Bool) → x && y ≡ false → not (y && x) ≡ true
flipped true true h = absurd (cc h)
flipped true false h = refl
flipped false true h = refl
flipped false false h = refl

never : (t : Bool) → not (t && false) ≡ true
never true = refl
never false = refl

next_no_backslash : (held : List ℕ) (b : ℕ) (cs : List ℕ) → has_end (b ∷ cs) ≡ false → no_backslash (held ++ b ∷ []) cs ≡ true
next_no_backslash held b [] h = refl
next_no_backslash held b (c ∷ cs) h =
    let first = or_parts (nat_eq b 0x07 || (nat_eq b 0x1B && nat_eq c 0x5C)) (has_end (c ∷ cs)) h in
    let pair = (or_parts (nat_eq b 0x07) (nat_eq b 0x1B && nat_eq c 0x5C) first.0).1 in
    ap (λ t. not (nat_eq c 0x5C && t)) (last_is held b) ∙ flipped (nat_eq b 0x1B) (nat_eq c 0x5C) pair

later_end : (b : ℕ) (cs : List ℕ) → has_end (b ∷ cs) ≡ false → (nat_eq b 0x07 ≡ false) × (has_end cs ≡ false)
later_end b [] h = (h, refl)
later_end b (c ∷ cs) h =
    let first = or_parts (nat_eq b 0x07 || (nat_eq b 0x1B && nat_eq c 0x5C)) (has_end (c ∷ cs)) h in
    ((or_parts (nat_eq b 0x07) (nat_eq b 0x1B && nat_eq c 0x5C) first.0).0, first.1)

content_goes : (held cs : List ℕ) → length held + length cs ≤ 4097 → no_backslash held cs ≡ true → has_end cs ≡ false → goes_on held cs ≡ true
content_goes held [] l n h = refl
content_goes held (b ∷ cs) l n h =
    let later = later_end b cs h in
    let stays : not (ends_string held b) ≡ true = no_end_here (nat_eq b 0x07) (nat_eq b 0x5C) (ends_by_escape held) later.0 n in
    let count = length_push held b in
    and_from (not (ends_string held b) && is_short_string (held ++ b ∷ [])) (goes_on (held ++ b ∷ []) cs)
    (and_from (not (ends_string held b)) (is_short_string (held ++ b ∷ [])) stays (short_push held b (omega (arith, l))))
    (content_goes (held ++ b ∷ []) cs (omega (arith, l, count)) (next_no_backslash held b cs h) later.1)

-- ---- the way through a string

module _ (by_delete : Bool) (rest : List ℕ) where
  -- the ESC waits, and these bytes behind it
  abbrev holding : List ℕ → Machine
  holding held = record { erases_by_delete = by_delete; state = Outside (0x1B ∷ []); pause = pauses.No; string = held; rest = rest; notice = None }

  abbrev keys_of : List ℕ → Machine → List Key
  keys_of bs m = (after_all (map Typed bs) m).keys

  not_of : (t : Bool) → not t ≡ true → t ≡ false
  not_of true h = absurd (cc h)
  not_of false h = refl

  escape_read : (pause : Pause) → after_typed 0x1B (idle_machine by_delete pause rest) ≡ quiet (holding [])
  escape_read pause = refl

  content_byte : (x : ℕ) (xs : List ℕ) (b : ℕ) → ends_string (x ∷ xs) b ≡ false → is_short_string (x ∷ (xs ++ b ∷ [])) ≡ true
      → after_typed b (holding (x ∷ xs)) ≡ quiet (holding (x ∷ (xs ++ b ∷ [])))
  content_byte x xs b e s =
      cond-false (ends_string (x ∷ xs) b) (after_whole (holding (x ∷ xs))) (after_held (x ∷ (xs ++ b ∷ [])) (holding (x ∷ xs))) e
      ∙ cond-true (is_short_string (x ∷ (xs ++ b ∷ []))) (quiet (holding (x ∷ (xs ++ b ∷ [])))) _ s

  after_nothing : (b : ℕ) (bs : List ℕ) (m m' : Machine) → after_typed b m ≡ quiet m' → keys_of (b ∷ bs) m ≡ keys_of bs m'
  after_nothing b bs m m' h = ap (λ (z : Moved). z.keys ++ (after_all (map Typed bs) z.machine).keys) h

  through : (x : ℕ) (xs cs more : List ℕ) → goes_on (x ∷ xs) cs ≡ true → keys_of (cs ++ more) (holding (x ∷ xs)) ≡ keys_of more (holding (x ∷ (xs ++ cs)))
  through x xs [] more h = ap (λ ys. keys_of more (holding (x ∷ ys))) (sym (append-nil xs))
  through x xs (b ∷ cs) more h =
      let parts = and_parts (not (ends_string (x ∷ xs) b) && is_short_string (x ∷ (xs ++ b ∷ []))) (goes_on (x ∷ (xs ++ b ∷ [])) cs) h in
      let tests = and_parts (not (ends_string (x ∷ xs) b)) (is_short_string (x ∷ (xs ++ b ∷ []))) parts.0 in
      after_nothing b (cs ++ more) (holding (x ∷ xs)) (holding (x ∷ (xs ++ b ∷ []))) (content_byte x xs b (not_of (ends_string (x ∷ xs) b) tests.0) tests.1)
      ∙ through x (xs ++ b ∷ []) cs more parts.1
      ∙ ap (λ ys. keys_of more (holding (x ∷ ys))) (append_assoc xs (b ∷ []) cs)

  -- the end
  by_bel : (x : ℕ) (xs : List ℕ) → keys_of (0x07 ∷ []) (holding (x ∷ xs)) ≡ []
  by_bel x xs = refl

  by_backslash : (x : ℕ) (xs : List ℕ) → ends_by_escape (x ∷ xs) ≡ true → keys_of (0x5C ∷ []) (holding (x ∷ xs)) ≡ []
  by_backslash x xs h =
      ap (λ (z : Moved). z.keys ++ (after_all [] z.machine).keys)
      (cond-true (ends_string (x ∷ xs) 0x5C) (after_whole (holding (x ∷ xs))) (after_held (x ∷ (xs ++ 0x5C ∷ [])) (holding (x ∷ xs))) h)

  by_escape : (x : ℕ) (xs : List ℕ) → length xs ≤ 4096 → keys_of (0x1B ∷ 0x5C ∷ []) (holding (x ∷ xs)) ≡ []
  by_escape x xs l =
      let last : ends_by_escape (x ∷ (xs ++ 0x1B ∷ [])) ≡ true = last_is (x ∷ xs) 0x1B in
      after_nothing 0x1B (0x5C ∷ []) (holding (x ∷ xs)) (holding (x ∷ (xs ++ 0x1B ∷ []))) (content_byte x xs 0x1B refl (short_escape (x ∷ xs) (omega (arith, l))))
      ∙ by_backslash x (xs ++ 0x1B ∷ []) last

  by_end : (x : ℕ) (xs end : List ℕ) → length xs ≤ 4096 → IsEnd end → keys_of end (holding (x ∷ xs)) ≡ []
  by_end x xs end l (inl bel) = ap (λ bs. keys_of bs (holding (x ∷ xs))) bel ∙ by_bel x xs
  by_end x xs end l (inr escape) = ap (λ bs. keys_of bs (holding (x ∷ xs))) escape ∙ by_escape x xs l

  introduced : (introducer : ℕ) → is_introducer introducer ≡ true → after_typed introducer (holding []) ≡ quiet (holding (introducer ∷ []))
  introduced introducer h = cond-true (is_introducer introducer) (quiet (holding (introducer ∷ []))) (after_scanned introducer (holding [])) h

no_escape : (introducer : ℕ) → is_introducer introducer ≡ true → nat_eq introducer 0x1B ≡ false
no_escape introducer h = grind (arith, nat_tests)

first_no_backslash : (introducer : ℕ) (cs : List ℕ) → is_introducer introducer ≡ true → no_backslash (introducer ∷ []) cs ≡ true
first_no_backslash introducer [] h = refl
first_no_backslash introducer (b ∷ cs) h =
    ap (λ t. not (nat_eq b 0x5C && t)) (last_is [] introducer ∙ no_escape introducer h) ∙ never (nat_eq b 0x5C)

pub strings_give_nothing : StringsGiveNothing
strings_give_nothing by_delete pause rest content end introducer is has is_end =
    let more : List ℕ = content ++ end in
    let goes : goes_on (introducer ∷ []) content ≡ true =
    content_goes (introducer ∷ []) content (omega (arith, has.short)) (first_no_backslash introducer content is) has.no_end in
    after_nothing by_delete rest 0x1B (introducer ∷ more) (idle_machine by_delete pause rest) (holding by_delete rest []) (escape_read by_delete rest pause)
    ∙ after_nothing by_delete rest introducer more (holding by_delete rest []) (holding by_delete rest (introducer ∷ [])) (introduced by_delete rest introducer is)
    ∙ through by_delete rest introducer [] content end goes
    ∙ by_end by_delete rest introducer content end has.short is_end
