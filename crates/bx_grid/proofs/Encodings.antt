-- Base64 of bytes: it is printable ASCII, it decodes to the bytes, and nothing else decodes.
use Rattle.std.proofs.Common.{◌≡◌, ℕ, zero, suc, ◌+◌, ◌*◌, ◌/◌, ◌%◌, ◌<◌, ◌≤◌, ◌⊎◌, Bool, true, false, List, [], ◌∷◌, ◌++◌, length, take, drop, replicate, slice_index}
use Rattle.std.proofs.Common.{refl, sym, subst, ap, arith, inl, inr, Option, Some, None, Ok, Err}
use Rattle.std.specs.Prelude.{Result, is_ok, if◌then◌else◌}
use Rattle.std.specs.List.{list_all}
use Rattle.std.proofs.lemmas.Bool.Decides.{nat_tests}
use Rattle.std.proofs.lemmas.List.{get_or-drop, length-drop}
use Rattle.base64.specs.declared.decode.DecodeError.{DecodeError}
use Rattle.base64.specs.declared.engine.general_purpose.GeneralPurpose.{GeneralPurpose}
use Rattle.base64.specs.Decode.{decode_group, decode_outcome, decoded_bytes, group_error, groups_before_last, groups_bytes, groups_error, no_leftover}
use Rattle.base64.specs.Decode.{or_else, scan_last, suffix_bytes, lone_error, symbol_error}
use Rattle.base64.specs.Engines.{standard}
use Rattle.base64.specs.GeneralPurpose.{IsBytes, decode_of, encode_of}
use Rattle.base64.specs.Rfc4648.{encode_symbols}
use Rattle.base64.specs.Tables.{is_inverse}
use Rattle.base64.proofs.Canonical.{IsScanned-scan}
use Rattle.base64.proofs.EngineFacts.{decode_of-encode_of, decode_of_bytes, decode_of_strict}
use Rattle.base64.proofs.Tables.{are_tables_alphabet, are_tables_inverse, encode-decode_table, is_alphabet_printable}
use Rattle.bx_common.specs.Characters.{is_ascii_printable, are_ascii_printable}
use Rattle.bx_grid.specs.Tokens.{is_base64, AreBase64}
use Rattle.bx_grid.proofs.Reading.{all-append}

-- ---- base64 is printable ASCII

symbols_printable : (t : List ℕ) → ((i : ℕ) → i < 64 → is_ascii_printable (slice_index t i) ≡ true) → (m : List ℕ) → IsBytes m
    → are_ascii_printable (encode_symbols t m) ≡ true
unfolding encode_symbols
symbols_printable t p [] h = refl
symbols_printable t p (a ∷ []) h =
    let x : a < 256 = h 0 in
    rw (p (a / 4) (omega arith), p (a % 4 * 16) (omega arith)) refl
symbols_printable t p (a ∷ b ∷ []) h =
    let x : a < 256 = h 0 in
    let y : b < 256 = h 1 in
    rw (p (a / 4) (omega arith), p (a % 4 * 16 + b / 16) (omega arith), p (b % 16 * 4) (omega arith)) refl
symbols_printable t p (a ∷ b ∷ c ∷ rest) h =
    let x : a < 256 = h 0 in
    let y : b < 256 = h 1 in
    let z : c < 256 = h 2 in
    rw (p (a / 4) (omega arith), p (a % 4 * 16 + b / 16) (omega arith), p (b % 16 * 4 + c / 64) (omega arith), p (c % 64) (omega arith))
    (symbols_printable t p rest (λ i. h (suc (suc (suc i)))))

all-replicate : (p : ℕ → Bool) (n x : ℕ) → p x ≡ true → list_all p (replicate n x) ≡ true
all-replicate p zero x h = refl
all-replicate p (suc n) x h = rw h (all-replicate p n x h)

padded_printable : (symbols : List ℕ) (n pad : ℕ) (padding : Bool) → are_ascii_printable symbols ≡ true → is_ascii_printable pad ≡ true
    → are_ascii_printable (symbols ++ (if padding then replicate n pad else [])) ≡ true
padded_printable symbols n pad true h g = all-append is_ascii_printable symbols (replicate n pad) h (all-replicate is_ascii_printable n pad g)
padded_printable symbols n pad false h g = all-append is_ascii_printable symbols [] h refl

pad_printable : (pad : ℕ) → 32 ≤ pad → pad ≤ 126 → is_ascii_printable pad ≡ true
pad_printable pad low high = grind (arith, nat_tests)

pub encoded_printable : (e : GeneralPurpose) (m : List ℕ) → IsBytes m → are_ascii_printable (encode_of e m) ≡ true
encoded_printable e m h =
    let tables = are_tables_alphabet e.encode_table e.decode_table e.padding.value e.tables in
    let range = e.padding.printable in
    padded_printable (encode_symbols e.encode_table m) _ e.padding.value e.config.encode_padding
    (symbols_printable e.encode_table (λ i low. is_alphabet_printable e.encode_table e.padding.value i tables low) m h)
    (pad_printable e.padding.value range.0 range.1)

-- ---- what decodes are bytes

bytes_cons : (x : ℕ) (xs : List ℕ) → x < 256 → IsBytes xs → IsBytes (x ∷ xs)
bytes_cons x xs low h zero = low
bytes_cons x xs low h (suc i) = h i

bytes-append : (xs ys : List ℕ) → IsBytes xs → IsBytes ys → IsBytes (xs ++ ys)
bytes-append [] ys h g = g
bytes-append (x ∷ xs) ys h g = bytes_cons x (xs ++ ys) (h 0) (bytes-append xs ys (λ k. h (suc k)) g)

bytes-take : (n : ℕ) (xs : List ℕ) → IsBytes xs → IsBytes (take n xs)
bytes-take zero xs h i = omega arith
bytes-take (suc n) [] h i = omega arith
bytes-take (suc n) (x ∷ xs) h zero = h 0
bytes-take (suc n) (x ∷ xs) h (suc i) = bytes-take n xs (λ k. h (suc k)) i

group_is : (a b c d : ℕ) → a < 64 → b < 64 → c < 64 → d < 64 → IsBytes (decode_group a b c d)
group_is a b c d ha hb hc hd zero = omega arith
group_is a b c d ha hb hc hd (suc zero) = omega arith
group_is a b c d ha hb hc hd (suc (suc zero)) = omega arith
group_is a b c d ha hb hc hd (suc (suc (suc i))) = omega arith

both_none : (x y : Option DecodeError) → or_else x y ≡ None → (x ≡ None) × (y ≡ None)
both_none None y h = (refl, h)
both_none (Some e) y h = cc h

symbol_is : (enc dec s : List ℕ) (i : ℕ) → is_inverse enc dec ≡ true → IsBytes s → symbol_error dec s i ≡ None → slice_index dec (slice_index s i) < 64
symbol_is enc dec s i inv bytes h = elim (encode-decode_table enc dec inv (slice_index s i) (bytes i)) [
  | inl bad ↦ cc (rw bad at h)
  | inr good ↦ good.0
]

groups_are : (enc dec s : List ℕ) (q : ℕ) → is_inverse enc dec ≡ true → IsBytes s → groups_error dec s q ≡ None → IsBytes (groups_bytes dec s q)
unfolding groups_error groups_bytes
groups_are enc dec s zero inv bytes none = λ i. omega arith
groups_are enc dec s (suc q) inv bytes none =
    let at : ℕ = 4 * q in
    let parts = both_none (groups_error dec s q) (group_error dec s at) none in
    let p0 = both_none (symbol_error dec s at) _ parts.1 in
    let p1 = both_none (symbol_error dec s (at + 1)) _ p0.1 in
    let p2 = both_none (symbol_error dec s (at + 2)) (symbol_error dec s (at + 3)) p1.1 in
    bytes-append (groups_bytes dec s q) _ (groups_are enc dec s q inv bytes parts.0)
    (group_is _ _ _ _ (symbol_is enc dec s at inv bytes p0.0) (symbol_is enc dec s (at + 1) inv bytes p1.0)
    (symbol_is enc dec s (at + 2) inv bytes p2.0) (symbol_is enc dec s (at + 3) inv bytes p2.1))

zeros_below : (k : ℕ) → slice_index (0 ∷ 0 ∷ 0 ∷ 0 ∷ []) k < 64
zeros_below zero = omega arith
zeros_below (suc zero) = omega arith
zeros_below (suc (suc zero)) = omega arith
zeros_below (suc (suc (suc zero))) = omega arith
zeros_below (suc (suc (suc (suc k)))) = omega arith

either_result : {A E : Type 0} (r : Result A E) → ((x : A) × (r ≡ Ok x)) ⊎ ((e : E) × (r ≡ Err e))
either_result (Ok x) = inl (x, refl)
either_result (Err e) = inr (e, refl)

last_is : (enc dec s : List ℕ) (pad at : ℕ) → is_inverse enc dec ≡ true → IsBytes s → length (drop at s) ≤ 4 → IsBytes (suffix_bytes dec pad at s)
last_is enc dec s pad at inv bytes short = elim (either_result (scan_last dec pad at s)) [
  | inl ok ↦ (
      let rest = drop at s in
      let rest_bytes : IsBytes rest = λ k. rw (get_or-drop at s k 0) (bytes (at + k)) in
      let held = IsScanned-scan enc dec rest pad at rest no_leftover ok.0 0 inv rest_bytes short (omega arith) refl
      ((refl, refl, λ j lt. absurd (omega arith), λ j low lt. absurd (omega arith)), (omega arith, omega arith, omega arith, zeros_below)) ok.1 in
      let small = held.1.3 in
      rw ok.1 (bytes-take _ _ (group_is _ _ _ _ (small 0) (small 1) (small 2) (small 3))))
  | inr bad ↦ rw bad.1 (λ i. omega arith)
]

decoded_are : (enc dec s : List ℕ) (pad : ℕ) → is_inverse enc dec ≡ true → IsBytes s → groups_error dec s (groups_before_last (length s)) ≡ None
    → IsBytes (decoded_bytes dec pad s)
decoded_are enc dec s pad inv bytes none =
    let q : ℕ = groups_before_last (length s) in
    bytes-append (groups_bytes dec s q) _ (groups_are enc dec s q inv bytes none)
    (last_is enc dec s pad (4 * q) inv bytes (omega (arith, length-drop (4 * q) s)))

-- ---- exactly the encodings decode

value_of : (r : Result (List ℕ) DecodeError) → is_ok r ≡ true → (b : List ℕ) × (r ≡ Ok b)
value_of (Ok b) h = (b, refl)
value_of (Err e) h = cc h

no_error : (x : Option DecodeError) (d b : List ℕ) → decode_outcome x d ≡ Ok b → x ≡ None
no_error None d b h = refl
no_error (Some e) d b h = cc h

decoded_bytes_are : (text b : List ℕ) → IsBytes text → decode_of standard text ≡ Ok b → IsBytes b
decoded_bytes_are text b bytes ok =
    let e : GeneralPurpose = standard in
    let q : ℕ = groups_before_last (length text) in
    let none = no_error _ _ b ok in
    let p0 = both_none (lone_error e.decode_table e.padding.value text) _ none in
    let p1 = both_none (groups_error e.decode_table text q) _ p0.1 in
    decode_of_bytes e text b
    (decoded_are e.encode_table e.decode_table text e.padding.value (are_tables_inverse e.encode_table e.decode_table e.padding.value e.tables) bytes p1.0) ok

pub encoded_decodes : (bytes : List ℕ) → IsBytes bytes → decode_of standard (encode_of standard bytes) ≡ Ok bytes
encoded_decodes bytes h = decode_of-encode_of standard bytes refl h

pub encoded_is_base64 : (bytes : List ℕ) → IsBytes bytes → is_base64 (encode_of standard bytes) ≡ true
unfolding is_base64
encoded_is_base64 bytes h = ap is_ok (encoded_decodes bytes h)

base64_decodes : (text : List ℕ) → is_base64 text ≡ true → (b : List ℕ) × (decode_of standard text ≡ Ok b)
unfolding is_base64
base64_decodes text h = value_of (decode_of standard text) h

pub are_base64 : AreBase64
are_base64 text h = (
  λ is. (let found = base64_decodes text is in
      (found.0, decoded_bytes_are text found.0 h found.1, sym (decode_of_strict standard text found.0 (refl, refl) h found.1))),
  λ found. subst (λ x. is_base64 x ≡ true) found.2 (encoded_is_base64 found.0 found.1),
)
