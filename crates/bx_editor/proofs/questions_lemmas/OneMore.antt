-- An answer with one more character, and without its last one.
use Rattle.std.proofs.Common.{◌≡◌, ℕ, ◌+◌, ◌-◌, ◌≤◌, List, [], ◌∷◌, ◌++◌, length, take, Option}
use Rattle.std.proofs.Common.{Some, None, chars, encode_utf8, IsUtf8, refl, sym, ap, ap₂, ◌∙◌, arith, length-append, append_assoc, append-nil, subst}
use Rattle.std.specs.Prelude.{encode_utf8_all, IfNone, IfSome}
use Rattle.std.proofs.lemmas.Str.{chars-append, chars-nil, chars_past_char, encodes-chars, IsUtf8-past_char}
use Rattle.std.proofs.lemmas.List.{take_at}
use Rattle.bx_editor.specs.questions.Answers.{shortened}

-- what follows whole characters is text
pub past-all : (cs rest bs : List ℕ) → IsUtf8 bs → bs ≡ encode_utf8_all cs ++ rest → IsUtf8 rest
past-all [] rest bs u e = subst IsUtf8 e u
past-all (c ∷ cs) rest bs u e =
    let first : bs ≡ encode_utf8 c ++ (encode_utf8_all cs ++ rest) = e ∙ append_assoc (encode_utf8 c) (encode_utf8_all cs) rest in
    past-all cs rest (encode_utf8_all cs ++ rest) (IsUtf8-past_char bs (encode_utf8_all cs ++ rest) c u first) refl

alone : (c : ℕ) → IsUtf8 (encode_utf8 c) → chars (encode_utf8 c) ≡ c ∷ []
alone c u = chars_past_char (encode_utf8 c) [] c u (sym (append-nil (encode_utf8 c))) ∙ ap (λ (t : List ℕ). c ∷ t) chars-nil

pub one_more : (q : List ℕ) (c : ℕ) → IsUtf8 q → IsUtf8 (encode_utf8 c) → chars (q ++ encode_utf8 c) ≡ chars q ++ c ∷ []
one_more q c utf8 one = chars-append q (encode_utf8 c) utf8 ∙ ap (λ xs. chars q ++ xs) (alone c one)

-- the characters after a text that ends between characters
behind : (old new : List ℕ) (c : ℕ) → IsUtf8 old → IsUtf8 new → old ≡ new ++ encode_utf8 c → IsUtf8 (encode_utf8 c)
behind old new c all utf8 e = past-all (chars new) (encode_utf8 c) old all (e ∙ ap (λ t. t ++ encode_utf8 c) (sym (encodes-chars new utf8)))

pub longer_by_one : (old new : List ℕ) (c : ℕ) → IsUtf8 old → IsUtf8 new → old ≡ new ++ encode_utf8 c → length (chars old) ≡ length (chars new) + 1
longer_by_one old new c all utf8 e =
    ap (λ t. length (chars t)) e ∙ ap length (one_more new c utf8 (behind old new c all utf8 e)) ∙ length-append (chars new) (c ∷ [])

pub shorter-is : (old new : List ℕ) (c : ℕ) → IsUtf8 old → IsUtf8 new → old ≡ new ++ encode_utf8 c → new ≡ shortened old
shorter-is old new c all utf8 e =
    let cs : chars old ≡ chars new ++ c ∷ [] = ap chars e ∙ one_more new c utf8 (behind old new c all utf8 e) in
    let n : length (chars old) - 1 ≡ length (chars new) = omega (arith, ap length cs, length-append (chars new) (c ∷ [])) in
    sym (ap₂ (λ k xs. encode_utf8_all (take k xs)) n cs ∙ ap encode_utf8_all (take_at (chars new) (c ∷ []) (length (chars new)) refl) ∙ encodes-chars new utf8)

empty : (t : List ℕ) → length t ≡ 0 → t ≡ []
empty [] e = refl
empty (b ∷ bs) e = absurd (omega (arith, e))

none-is : (old new : List ℕ) → length old ≡ 0 → length new ≤ length old → new ≡ shortened old
none-is old new none shorter =
    empty new (omega (arith, none, shorter)) ∙ sym (ap shortened (empty old none) ∙ ap (λ cs. encode_utf8_all (take (length cs - 1) cs)) chars-nil)

-- the last character leaves, if there is one; m and n are the lengths
pub popped : (last : Option ℕ) (old new : List ℕ) (m n : ℕ) → IsUtf8 old → IsUtf8 new → m ≡ length old → n ≡ length new
    → IfSome last (λ c. old ≡ new ++ encode_utf8 c) → IfNone last (m ≡ 0) → n ≤ m → (new ≡ shortened old) × (length (chars new) ≤ length (chars old))
popped None old new m n all utf8 was is some none shorter =
    let all-none : length old ≡ 0 = omega (arith, was, none) in
    let fewer : length new ≤ length old = omega (arith, was, is, shorter) in
    let gone : length new ≡ 0 = omega (arith, all-none, fewer) in
    (none-is old new all-none fewer, omega (arith, ap (λ t. length (chars t)) (empty new gone ∙ sym (empty old all-none))))
popped (Some c) old new m n all utf8 was is some none shorter =
    (shorter-is old new c all utf8 some, omega (arith, longer_by_one old new c all utf8 some))

pub no-chars : (t : List ℕ) → length t ≡ 0 → chars t ≡ []
no-chars t none = ap chars (empty t none) ∙ chars-nil
