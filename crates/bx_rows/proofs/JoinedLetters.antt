-- The letters and forms of a row's glyphs, one after another.
use Rattle.std.proofs.Common.{◌≡◌, ℕ, zero, suc, ◌+◌, ◌<◌, ◌≤◌, List, [], ◌∷◌, ◌++◌, length, get_or, take}
use Rattle.std.proofs.Common.{drop, chars, IsUtf8, All, refl, sym, subst, ap, ap₂, ◌∙◌, arith, take_all, length-append, length-drop, append_assoc}
use Rattle.std.specs.Prelude.{encode_utf8, encode_utf8_all, Option}
use Rattle.std.specs.List.{zip}
use Rattle.std.proofs.lemmas.List.Elements.{All-cons, All-nil}
use Rattle.std.proofs.lemmas.Str.{IsCharBoundary-start, IsUtf8-past_char}
use Rattle.bx_rows.proofs.RowPlaces.{char-at}
use Rattle.std.proofs.lemmas.List.{drop-drop, get_or-drop}
use Rattle.bx_rows.proofs.cells_lemmas.Rest.{chars_past_all}
use Rattle.bx_ucd.specs.Data.{Data}
use Rattle.bx_ucd.specs.declared.joining.Form.{Form}
use Rattle.bx_ucd.specs.declared.joining.Form.TheVariants.{Isolated}
use Rattle.bx_rows.specs.joining.Joining.{body_forms, first_forms}
use Rattle.bx_rows.proofs.joining_lemmas.TextForms.{length-first_forms}
use Rattle.bx_rows.specs.PlainRows.{char_forms, joined_glyph, leveled_glyphs, mirrored_glyphs}
use Rattle.bx_rows.specs.RowPicture.{Glyph}
use Rattle.bx_rows.proofs.Leveled.{changed, joined-leveled}

-- the levels, letters and forms of a row's glyphs, of which there are as many as levels
abbrev pub given : Data → List ℕ → List (Option ℕ) → ℕ → List ℕ → List ℕ → List (ℕ × (ℕ × Form))
given ucd body each number letters levels = zip levels (zip letters (first_forms (length levels) (drop number (body_forms ucd body each))))

zip-within : {A B : Type 0} (xs : List A) (ys : List B) → length (zip xs ys) ≤ length xs
zip-within [] ys = omega arith
zip-within (x ∷ xs) [] = omega arith
zip-within (x ∷ xs) (y ∷ ys) = let rest = zip-within xs ys in omega (arith, rest)

pub first_forms-at : (n i : ℕ) (fs : List Form) → i < n → get_or (first_forms n fs) i Isolated ≡ get_or fs i Isolated
first_forms-at zero i fs h = absurd (omega arith)
first_forms-at (suc n) zero [] h = refl
first_forms-at (suc n) zero (f ∷ fs) h = refl
first_forms-at (suc n) (suc i) [] h = first_forms-at n i [] (omega arith)
first_forms-at (suc n) (suc i) (f ∷ fs) h = first_forms-at n i fs (omega arith)

-- one of the three lists' places
pub record IsGiven (xs : List (ℕ × (ℕ × Form))) (i : ℕ) (x : ℕ × (ℕ × Form)) : Type 0 where
  pub within : i < length xs
  pub is : get_or xs i x ≡ x

zipped-at : (levels letters : List ℕ) (forms : List Form) (i c : ℕ) (more : List ℕ) → i < length levels → i < length forms → drop i letters ≡ c ∷ more
    → IsGiven (zip levels (zip letters forms)) i (get_or levels i 0, (c, get_or forms i Isolated))
zipped-at [] letters forms i c more h k d = absurd (omega arith)
zipped-at (l ∷ ls) letters [] i c more h k d = absurd (omega arith)
zipped-at (l ∷ ls) [] (f ∷ fs) zero c more h k d = absurd (cc d)
zipped-at (l ∷ ls) [] (f ∷ fs) (suc i) c more h k d = absurd (cc d)
zipped-at (l ∷ ls) (x ∷ xs) (f ∷ fs) zero c more h k d =
    let same : x ≡ c = ap (λ ys. get_or ys 0 0) d in
    record { within = omega arith; is = ap (λ y. (l, (y, f))) same }
zipped-at (l ∷ ls) (x ∷ xs) (f ∷ fs) (suc i) c more h k d =
    let rest = zipped-at ls xs fs i c more (omega arith) (omega arith) d in
    let inside = rest.within in
    record { within = omega (arith, inside); is = rest.is }

pub given-at : (ucd : Data) (body : List ℕ) (each : List (Option ℕ)) (number i c : ℕ) (letters levels more : List ℕ) → i < length levels → drop i letters ≡ c ∷ more
    → IsGiven (given ucd body each number letters levels) i (get_or levels i 0, (c, get_or (body_forms ucd body each) (number + i) Isolated))
given-at ucd body each number i c letters levels more h d =
    let all = body_forms ucd body each in
    let n = length levels in
    let own : get_or (first_forms n (drop number all)) i Isolated ≡ get_or all (number + i) Isolated =
    first_forms-at n i (drop number all) h ∙ get_or-drop number all i Isolated in
    let many = length-first_forms n (drop number all) in
    subst (λ f. IsGiven (given ucd body each number letters levels) i (get_or levels i 0, (c, f))) own
    (zipped-at levels letters (first_forms n (drop number all)) i c more h (omega (arith, h, many)) d)

-- ---- the end

pub none-left : (cs more letters behind : List ℕ) (i : ℕ) → letters ≡ cs ++ more → i < length cs → drop i letters ≡ behind → length behind ≡ 0 → ⊥
none-left cs more letters behind i e h d z =
    omega (arith, h, z, ap length d, length-drop i letters, ap length e, length-append cs more)

pub all-joined : (ucd : Data) (w : ℕ) (body : List ℕ) (each : List (Option ℕ)) (number i : ℕ) (cs more letters levels : List ℕ) (gs new : List Glyph)
    → All (λ c. chars (encode_utf8 c) ≡ c ∷ []) cs → letters ≡ cs ++ more → length cs ≡ length levels → length levels ≤ i → gs ≡ mirrored_glyphs ucd w cs levels
    → new ≡ changed (joined_glyph ucd w) gs (take i (given ucd body each number letters levels))
    → new ≡ leveled_glyphs ucd w cs levels (char_forms ucd body each number cs)
all-joined ucd w body each number i cs more letters levels gs new alone e many end mirrored same =
    let forms = char_forms ucd body each number cs in
    let xs = given ucd body each number letters levels in
    let inner = zip-within levels (zip letters (first_forms (length levels) (drop number (body_forms ucd body each)))) in
    let are : xs ≡ zip levels (zip (cs ++ more) forms) =
    ap₂ (λ n ls. zip levels (zip ls (first_forms n (drop number (body_forms ucd body each))))) (sym many) e in
    same ∙ ap₂ (λ hs ys. changed (joined_glyph ucd w) hs ys) mirrored (take_all i xs (omega (arith, end, inner)) ∙ are)
    ∙ joined-leveled ucd w cs more levels forms alone many (length-first_forms (length cs) (drop number (body_forms ucd body each)))

-- the letters of a row, from its start on
pub letters-are : (body cs rest : List ℕ) (at : ℕ) → IsUtf8 (drop at body) → drop at body ≡ encode_utf8_all cs ++ rest → chars (drop at body) ≡ cs ++ chars rest
letters-are body cs rest at u e = chars_past_all cs rest (drop at body) u e

pub letters-on : (letters left behind : List ℕ) (i c : ℕ) → left ≡ drop i letters → left ≡ c ∷ behind → behind ≡ drop (i + 1) letters
letters-on letters left behind i c e f =
    ap (drop 1) (sym f ∙ e) ∙ drop-drop 1 i letters

-- each letter by itself is one character
pub letters-alone : (cs rest bs : List ℕ) → IsUtf8 bs → bs ≡ encode_utf8_all cs ++ rest → All (λ c. chars (encode_utf8 c) ≡ c ∷ []) cs
letters-alone [] rest bs u e = All-nil (λ c. chars (encode_utf8 c) ≡ c ∷ [])
letters-alone (c ∷ cs) rest bs u e =
    let more = encode_utf8_all cs ++ rest in
    let split : bs ≡ encode_utf8 c ++ more = e ∙ append_assoc (encode_utf8 c) (encode_utf8_all cs) rest in
    All-cons (λ d. chars (encode_utf8 d) ≡ d ∷ []) c cs (char-at bs 0 c more u (IsCharBoundary-start bs u) split).alone
    (letters-alone cs rest more (IsUtf8-past_char bs more c u split) refl)
