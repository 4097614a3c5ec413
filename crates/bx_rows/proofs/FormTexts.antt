-- Texts of characters of three bytes each, one after another.
use Rattle.std.proofs.Common.{◌≡◌, ℕ, zero, suc, ◌+◌, ◌-◌, ◌*◌, ◌<◌, ◌≤◌, List, [], ◌++◌, length, take, drop, refl, sym, ap, subst, ◌∙◌, arith}
use Rattle.std.proofs.Common.{append_assoc, encode_utf8, IsUtf8}
use Rattle.std.specs.Prelude.{encode_utf8_all}
use Rattle.std.specs.Char.{IsScalar}
use Rattle.std.specs.Str.{IsCharBoundary}
use Rattle.std.specs.List.{range_with_len, slice_range}
use Rattle.std.proofs.Math.Seq.{drop-append_seam, take-append_seam}
use Rattle.std.proofs.lemmas.Bool.Decides.{nat_tests}
use Rattle.std.proofs.lemmas.List.{length-append}
use Rattle.std.proofs.lemmas.Str.{length-encode, IsCharBoundary-at_seam, IsUtf8-append, IsUtf8-encode, IsUtf8-nil}

-- the text of `n` characters from `a` on
abbrev pub run : ℕ → ℕ → List ℕ
run a n = encode_utf8_all (range_with_len a n)

three : (c : ℕ) → 0xE000 ≤ c → c < 0x10000 → length (encode_utf8 c) ≡ 3
three c low high = length-encode c ∙ grind (arith, nat_tests)

scalar-high : (c : ℕ) → 0xE000 ≤ c → c < 0x10000 → IsScalar c
scalar-high c low high = grind (arith, nat_tests)

run-utf8 : (a n : ℕ) → 0xE000 ≤ a → a + n ≤ 0x10000 → IsUtf8 (run a n)
run-utf8 a zero low high = IsUtf8-nil
run-utf8 a (suc n) low high =
    IsUtf8-append (encode_utf8 a) (run (a + 1) n) (IsUtf8-encode a (scalar-high a low (omega (arith, high))))
    (run-utf8 (a + 1) n (omega (arith, low)) (omega (arith, high)))

-- a character's text among them
pub record Part (bs : List ℕ) (c at : ℕ) : Type 0 where
  pub front : List ℕ
  pub back : List ℕ
  pub whole : bs ≡ front ++ (encode_utf8 c ++ back)
  pub before : length front ≡ at
  pub own : length (encode_utf8 c) ≡ 3
  pub utf8 : IsUtf8 (encode_utf8 c)
  pub back_utf8 : IsUtf8 back

part-at : (a n k : ℕ) → 0xE000 ≤ a → a + n ≤ 0x10000 → k < n → Part (run a n) (a + k) (k * 3)
part-at a zero k low high h = absurd (omega (arith, h))
part-at a (suc n) zero low high h =
    subst (λ c. Part (run a (suc n)) c 0) (omega arith) (record {
      front = [];
      back = run (a + 1) n;
      whole = refl;
      before = refl;
      own = three a low (omega (arith, high));
      utf8 = IsUtf8-encode a (scalar-high a low (omega (arith, high)));
      back_utf8 = run-utf8 (a + 1) n (omega (arith, low)) (omega (arith, high));
    })
part-at a (suc n) (suc k) low high h =
    let rest = part-at (a + 1) n k (omega (arith, low)) (omega (arith, high)) (omega (arith, h)) in
    subst (λ c. Part (run a (suc n)) c (suc k * 3)) (omega arith) (record {
      front = encode_utf8 a ++ rest.front;
      back = rest.back;
      whole = ap (λ xs. encode_utf8 a ++ xs) rest.whole ∙ sym (append_assoc (encode_utf8 a) rest.front (encode_utf8 (a + 1 + k) ++ rest.back));
      before = omega (arith, length-append (encode_utf8 a) rest.front, three a low (omega (arith, high)), rest.before);
      own = rest.own;
      utf8 = rest.utf8;
      back_utf8 = rest.back_utf8;
    })

pub part : (bs : List ℕ) (a n c at : ℕ) → bs ≡ run a n → 0xE000 ≤ a → a + n ≤ 0x10000 → a ≤ c → c < a + n → at ≡ (c - a) * 3 → Part bs c at
part bs a n c at e low high from to is =
    subst (λ x. Part x c at) (sym e) (subst (λ j. Part (run a n) c j) (sym is)
    (subst (λ x. Part (run a n) x ((c - a) * 3)) (omega (arith, from)) (part-at a n (c - a) low high (omega (arith, from, to)))))

module _ {bs : List ℕ} {c at : ℕ} (p : Part bs c at) where
  pub part-start : IsCharBoundary bs at
  part-start =
      subst (IsCharBoundary bs) p.before
      (IsCharBoundary-at_seam bs p.front (encode_utf8 c ++ p.back) p.whole (IsUtf8-append (encode_utf8 c) p.back p.utf8 p.back_utf8))

  pub part-end : IsCharBoundary bs (at + 3)
  part-end =
      subst (IsCharBoundary bs) (length-append p.front (encode_utf8 c) ∙ omega (arith, p.before, p.own))
      (IsCharBoundary-at_seam bs (p.front ++ encode_utf8 c) p.back (p.whole ∙ sym (append_assoc p.front (encode_utf8 c) p.back)) p.back_utf8)

  pub part-text : slice_range bs at (at + 3) ≡ encode_utf8 c
  part-text =
      let rest : drop at bs ≡ encode_utf8 c ++ p.back =
      ap (λ j. drop j bs) (sym p.before) ∙ ap (drop (length p.front)) p.whole ∙ drop-append_seam p.front (encode_utf8 c ++ p.back) in
      ap (take (at + 3 - at)) rest ∙ ap (λ j. take j (encode_utf8 c ++ p.back)) (omega (arith, p.own))
      ∙ take-append_seam (encode_utf8 c) p.back
