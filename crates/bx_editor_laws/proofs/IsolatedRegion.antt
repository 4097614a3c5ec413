-- A region that a letter isolates, in its paragraph.
use Rattle.std.proofs.Common.{◌≡◌, ℕ, zero, suc, ◌+◌, ◌-◌, ◌<◌, ◌==◌, ◌||◌, Bool, true, false, cond, List, [], ◌∷◌, ◌++◌, length, map, take, drop}
use Rattle.std.proofs.Common.{get_or, append_assoc, chars, encode_utf8, encode_utf8_all, IsUtf8, IsCharBoundary, Option, Some, None, refl, sym, ap}
use Rattle.std.proofs.Common.{subst, ◌∙◌, arith}
use Rattle.std.specs.Prelude.{find}
use Rattle.std.specs.List.{list_all, list_any}
use Rattle.std.specs.Option.{option_map}
use lib.Utf8.{scalar}
use Rattle.std.proofs.lemmas.Bool.{and_parts}
use Rattle.std.proofs.lemmas.List.{drop-drop, drop_at, length-drop, length-map, length-take, map-append, take-append-drop}
use Rattle.std.proofs.lemmas.Str.{chars-append, chars_past_char, encodes-chars, IsUtf8-append, IsUtf8-between, IsUtf8-drop, IsUtf8-encode, IsUtf8-take}
use Rattle.bx_ucd.specs.Class.{is_initiator}
use Rattle.bx_ucd.specs.Data.{Data}
use Rattle.bx_ucd.specs.declared.class.Class.{Class}
use Rattle.bx_ucd.specs.declared.class.Class.TheVariants.{B, PDI}
use Rattle.bx_levels.specs.embedding.ParagraphLevel.{before_pdi, count_after, match_after, match_of, one_more}
use Rattle.bx_levels.specs.resolve.Laws.{level_at}
use Rattle.bx_editor.specs.questions.Names.{beside, closing, closings, named, names}
use Rattle.bx_keys.specs.declared.key.Key.TheVariants.{Insert, Name}
use Rattle.bx_text.specs.index.Paragraphs.{Paragraph, bare, cut, is_separator, paragraphs}
use Rattle.bx_view.specs.Numbers.{body_at, count}
use Rattle.bx_view.proofs.Numbers.{body-utf8}
use Rattle.bx_view.proofs.Parts.{text-parts}
use Rattle.bx_editor_laws.specs.AskingLaws.{CanIsolate, IsAbove, Isolates, IsWhole, LetterIsolates, embedding_at, region_chars}
use Rattle.bx_editor.specs.Editor.{Editor}
use Rattle.bx_editor.specs.Functions.{after_keys}
use Rattle.bx_editor_laws.specs.Laws.{IsPart}
use Rattle.bx_editor.specs.Region.{bytes_in, region}
use Rattle.bx_editor_laws.proofs.IsolateLevels.{isolates-raise}
use Rattle.bx_editor_laws.proofs.LettersPut.{letter-wraps}
use Rattle.bx_editor_laws.proofs.ParagraphAround.{AreInLine, DifferInOne, chars-behind, differ, differ-as, here-is, number-within, others-same}

-- ---- the named characters

beside-by : (letter c : ℕ) (p : ℕ × ℕ) (pairs : List (ℕ × ℕ)) (b : Bool) → scalar p.1 ≡ true → (beside letter pairs ≡ Some c → scalar c ≡ true)
    → option_map (λ (q : ℕ × ℕ). q.1) (cond b (Some p) (find (λ (q : ℕ × ℕ). q.0 == letter) pairs)) ≡ Some c → scalar c ≡ true
beside-by letter c p pairs true one ih is = let same : p.1 ≡ c = cc is in ap scalar (sym same) ∙ one
beside-by letter c p pairs false one ih is = ih is

beside-scalar : (letter c : ℕ) (pairs : List (ℕ × ℕ)) → list_all (λ p. scalar p.1) pairs ≡ true → beside letter pairs ≡ Some c → scalar c ≡ true
beside-scalar letter c [] all is = absurd (cc is)
beside-scalar letter c (p ∷ pairs) all is =
    let both = and_parts (scalar p.1) (list_all (λ (q : ℕ × ℕ). scalar q.1) pairs) all in
    beside-by letter c p pairs (p.0 == letter) both.0 (beside-scalar letter c pairs both.1) is

named-utf8 : (letter c : ℕ) → named letter ≡ Some c → IsUtf8 (encode_utf8 c)
named-utf8 letter c is = IsUtf8-encode c (beside-scalar letter c names refl is)

closing-utf8 : (letter c : ℕ) → closing letter ≡ Some c → IsUtf8 (encode_utf8 c)
closing-utf8 letter c is = IsUtf8-encode c (beside-scalar letter c closings refl is)

-- ---- characters in one line

none-of : (a b : Bool) → (a || b) ≡ false → (a ≡ false) × (b ≡ false)
none-of true b e = absurd (cc e)
none-of false b e = (refl, e)

in-line : (d : Data) (cs : List ℕ) → list_any (λ c. is_separator (d.class c)) cs ≡ false → AreInLine d cs
in-line d [] h = tt
in-line d (c ∷ cs) h = let both = none-of (is_separator (d.class c)) (list_any (λ c. is_separator (d.class c)) cs) h in (both.0, in-line d cs both.1)

in-line-append : (d : Data) (cs rest : List ℕ) → AreInLine d cs → AreInLine d rest → AreInLine d (cs ++ rest)
in-line-append d [] rest h more = more
in-line-append d (c ∷ cs) rest h more = (h.0, in-line-append d cs rest h.1 more)

initiator-plain : (c : Class) → is_initiator c ≡ true → is_separator c ≡ false
initiator-plain B h = absurd (cc h)
initiator-plain _ h = refl

-- ---- the match of the opener

less-one : (x : Option ℕ) (k : ℕ) → one_more x ≡ Some k → (n : ℕ) × (x ≡ Some n) × (k ≡ suc n)
less-one None k e = absurd (cc e)
less-one (Some n) k e = let same : suc n ≡ k = cc e in (n, refl, sym same)

pdi-by : (cs more : List Class) (k m : ℕ) → ((n j : ℕ) → before_pdi n cs ≡ Some j → before_pdi n (cs ++ more) ≡ Some j)
    → elim m as (λ x. Option ℕ) [ zero ↦ Some 0 | suc n ↦ one_more (before_pdi (suc n) cs) ] ≡ Some k
    → elim m as (λ x. Option ℕ) [ zero ↦ Some 0 | suc n ↦ one_more (before_pdi (suc n) (cs ++ more)) ] ≡ Some k
pdi-by cs more k zero ih e = e
pdi-by cs more k (suc m) ih e =
    let less = less-one (before_pdi (suc m) cs) k e in
    ap one_more (ih (suc m) less.0 less.1) ∙ ap Some (sym less.2)

pdi-further : (cs more : List Class) (n k : ℕ) → before_pdi n cs ≡ Some k → before_pdi n (cs ++ more) ≡ Some k
pdi-further [] more n k e = absurd (cc e)
pdi-further (c ∷ cs) more n k e = pdi-by cs more k (count_after n c) (pdi-further cs more) e

matched-by : (n k : ℕ) (o : Class) (cs : List Class) → is_initiator o ≡ true → before_pdi 1 cs ≡ Some k → match_after n (o ∷ cs) ≡ Some (n + 1 + k)
matched-by n k o cs begins is =
    ap (λ b. elim b as (λ x. Option ℕ) [ false ↦ None | true ↦ elim (before_pdi 1 cs) [ None ↦ None | Some j ↦ Some (n + 1 + j) ] ]) begins
    ∙ ap (λ (x : Option ℕ). elim x as (λ y. Option ℕ) [ None ↦ None | Some j ↦ Some (n + 1 + j) ]) is

match-is : (d : Data) (front inside back : List ℕ) (opener closer : ℕ) → is_initiator (d.class opener) ≡ true → d.class closer ≡ PDI → IsWhole d inside
    → match_of (map d.class (front ++ opener ∷ (inside ++ closer ∷ back))) (length front) ≡ Some (length front + 1 + length inside)
match-is d front inside back opener closer begins ends whole =
    let is = map d.class inside in
    let bs = map d.class back in
    let rest = map d.class (inside ++ closer ∷ back) in
    let parts : map d.class (front ++ opener ∷ (inside ++ closer ∷ back)) ≡ map d.class front ++ d.class opener ∷ rest = map-append d.class front (opener ∷ (inside ++ closer ∷ back)) in
    let behind : rest ≡ (is ++ PDI ∷ []) ++ bs =
    map-append d.class inside (closer ∷ back) ∙ ap (λ c. is ++ c ∷ bs) ends ∙ sym (append_assoc is (PDI ∷ []) bs) in
    ap (λ cs. match_after (length front) (drop (length front) cs)) parts
    ∙ ap (match_after (length front)) (drop_at (map d.class front) (d.class opener ∷ rest) (length front) (length-map front d.class))
    ∙ matched-by (length front) (length inside) (d.class opener) rest begins (ap (before_pdi 1) behind ∙ pdi-further (is ++ PDI ∷ []) bs 1 (length inside) whole)

-- ---- the texts

cons-of : (cs : List ℕ) → 0 < length cs → (c : ℕ) × (rest : List ℕ) × (cs ≡ c ∷ rest)
cons-of [] some = absurd (omega (arith, some))
cons-of (c ∷ cs) some = (c, cs, refl)

cons-paragraph : (ps : List Paragraph) → 0 < length ps → (p : Paragraph) × (rest : List Paragraph) × (ps ≡ p ∷ rest)
cons-paragraph [] some = absurd (omega (arith, some))
cons-paragraph (p ∷ ps) some = (p, ps, refl)

some-of : (cs bs : List ℕ) → encode_utf8_all cs ≡ bs → 0 < length bs → 0 < length cs
some-of [] bs is some = absurd (omega (arith, some, ap length is))
some-of (c ∷ cs) bs is some = omega arith

some-chars : (bs : List ℕ) → IsUtf8 bs → 0 < length bs → 0 < length (chars bs)
some-chars bs u some = some-of (chars bs) bs (encodes-chars bs u) some

module _ (d : Data) (e : Editor) (letter opener closer : ℕ) (can : CanIsolate d e letter opener closer) where
  abbrev text : List ℕ
  text = e.content.text

  abbrev start : ℕ
  start = (region e).0

  abbrev stop : ℕ
  stop = (region e).1

  abbrev before : List ℕ
  before = chars (take start text)

  abbrev inside : List ℕ
  inside = region_chars e

  abbrev after : List ℕ
  after = chars (drop stop text)

  abbrev new : Editor
  new = after_keys d None e (Name ∷ Insert letter ∷ [])

  before-utf8 : IsUtf8 (take start text)
  before-utf8 = IsUtf8-take text start can.text can.range.start_bounds

  inside-utf8 : IsUtf8 (bytes_in e (region e))
  inside-utf8 = IsUtf8-between text start stop can.text can.range.in_order can.range.start_bounds can.range.stop_bounds

  after-utf8 : IsUtf8 (drop stop text)
  after-utf8 = IsUtf8-drop text stop can.text can.range.stop_bounds

  text-parts-are : take start text ++ (bytes_in e (region e) ++ drop stop text) ≡ text
  text-parts-are =
      let order : start + (stop - start) ≡ stop = omega (arith, can.range.in_order) in
      let tail : drop (stop - start) (drop start text) ≡ drop stop text = drop-drop (stop - start) start text ∙ ap (λ n. drop n text) order in
      ap (λ xs. take start text ++ (bytes_in e (region e) ++ xs)) (sym tail)
      ∙ ap (λ xs. take start text ++ xs) (take-append-drop (stop - start) (drop start text)) ∙ take-append-drop start text

  old-chars : chars text ≡ before ++ (inside ++ after)
  old-chars =
      ap chars (sym text-parts-are) ∙ chars-append (take start text) (bytes_in e (region e) ++ drop stop text) before-utf8
      ∙ ap (λ xs. before ++ xs) (chars-append (bytes_in e (region e)) (drop stop text) inside-utf8)

  abbrev front_bytes : List ℕ
  front_bytes = encode_utf8 opener

  abbrev back_bytes : List ℕ
  back_bytes = encode_utf8 closer

  part : IsPart e (region e)
  part = let bounds : IsCharBoundary text stop = can.range.stop_bounds in record { some = can.some; inside = bounds.0 }

  tail-utf8 : IsUtf8 (back_bytes ++ drop stop text)
  tail-utf8 = IsUtf8-append back_bytes (drop stop text) (closing-utf8 letter closer can.closer_is) after-utf8

  middle-utf8 : IsUtf8 (bytes_in e (region e) ++ (back_bytes ++ drop stop text))
  middle-utf8 = IsUtf8-append (bytes_in e (region e)) (back_bytes ++ drop stop text) inside-utf8 tail-utf8

  wrapped-utf8 : IsUtf8 (front_bytes ++ (bytes_in e (region e) ++ (back_bytes ++ drop stop text)))
  wrapped-utf8 = IsUtf8-append front_bytes (bytes_in e (region e) ++ (back_bytes ++ drop stop text)) (named-utf8 letter opener can.opener_is) middle-utf8

  new-text : new.content.text ≡ take start text ++ (front_bytes ++ (bytes_in e (region e) ++ (back_bytes ++ drop stop text)))
  new-text =
      ((letter-wraps d e letter opener closer can.can can.opener_is can.closer_is part).fits can.one_line can.room).text_is
      ∙ append_assoc (take start text ++ front_bytes ++ bytes_in e (region e)) back_bytes (drop stop text)
      ∙ append_assoc (take start text ++ front_bytes) (bytes_in e (region e)) (back_bytes ++ drop stop text)
      ∙ append_assoc (take start text) front_bytes (bytes_in e (region e) ++ (back_bytes ++ drop stop text))

  new-utf8 : IsUtf8 new.content.text
  new-utf8 = subst IsUtf8 (sym new-text) (IsUtf8-append (take start text) (front_bytes ++ (bytes_in e (region e) ++ (back_bytes ++ drop stop text))) before-utf8 wrapped-utf8)

  -- the characters in the region's place
  abbrev isolated : List ℕ
  isolated = opener ∷ (inside ++ closer ∷ [])

  new-chars : chars new.content.text ≡ before ++ (isolated ++ after)
  new-chars =
      let tail = back_bytes ++ drop stop text in
      let middle = bytes_in e (region e) ++ tail in
      ap chars new-text ∙ chars-append (take start text) (front_bytes ++ middle) before-utf8
      ∙ ap (λ xs. before ++ xs) (chars_past_char (front_bytes ++ middle) middle opener wrapped-utf8 refl)
      ∙ ap (λ xs. before ++ opener ∷ xs) (chars-append (bytes_in e (region e)) tail inside-utf8)
      ∙ ap (λ xs. before ++ opener ∷ (inside ++ xs)) (chars_past_char tail (drop stop text) closer tail-utf8 refl)
      ∙ ap (λ xs. before ++ opener ∷ xs) (sym (append_assoc inside (closer ∷ []) after))

  -- ---- the paragraphs

  some-inside : 0 < length inside
  some-inside =
      let bounds : IsCharBoundary text stop = can.range.stop_bounds in
      let size : length (bytes_in e (region e)) ≡ stop - start = omega (arith, length-take (stop - start) (drop start text), length-drop start text, bounds.0) in
      some-chars (bytes_in e (region e)) inside-utf8 (omega (arith, size, can.some))

  isolated-line : AreInLine d isolated
  isolated-line =
      let last = ap is_separator can.ends in
      (initiator-plain (d.class opener) can.begins, in-line-append d inside (closer ∷ []) (in-line d inside can.one_line) (last, tt))

  differing : DifferInOne (paragraphs d text) (paragraphs d new.content.text) (encode_utf8_all inside) (encode_utf8_all isolated)
  differing =
      let first = cons-of inside some-inside in
      let rest = cons-paragraph (cut d after) (text-parts d (drop stop text) after-utf8).some in
      let olds : AreInLine d (first.0 ∷ first.1) = subst (AreInLine d) first.2 (in-line d inside can.one_line) in
      let there = differ d first.0 opener first.1 (inside ++ closer ∷ []) after olds isolated-line rest.0 rest.1 rest.2 before in
      differ-as (paragraphs d text) (paragraphs d new.content.text) (cut d (before ++ (inside ++ after))) (cut d (before ++ (isolated ++ after)))
      (ap (cut d) old-chars) (ap (cut d) new-chars)
      (subst (λ xs. DifferInOne (cut d (before ++ (xs ++ after))) (cut d (before ++ (isolated ++ after))) (encode_utf8_all xs) (encode_utf8_all isolated)) (sym first.2) there)

  abbrev number : ℕ
  number = length differing.ahead

  -- a paragraph whose body is known
  body-chars : (xs : List ℕ) → IsUtf8 xs → (cs : List ℕ) → paragraphs d xs
      ≡ differing.ahead ++ record { body = encode_utf8_all differing.front ++ (encode_utf8_all cs ++ differing.tail); separator = differing.separator } ∷ differing.behind
      → chars (body_at d xs number) ≡ differing.front ++ (cs ++ chars differing.tail)
  body-chars xs u cs is =
      let p : Paragraph = record { body = encode_utf8_all differing.front ++ (encode_utf8_all cs ++ differing.tail); separator = differing.separator } in
      let body-is : body_at d xs number ≡ p.body =
      ap (λ ps. (get_or ps number (bare [])).body) is ∙ ap (λ (q : Paragraph). q.body) (here-is differing.ahead p differing.behind (bare [])) in
      let within : number < count d xs = number-within differing.ahead p differing.behind (paragraphs d xs) is in
      let utf8 : IsUtf8 p.body = subst IsUtf8 body-is (body-utf8 d xs number within u) in
      let outer = chars-behind differing.front (encode_utf8_all cs ++ differing.tail) utf8 in
      ap chars body-is ∙ outer.0 ∙ ap (λ ys. differing.front ++ ys) ((chars-behind cs differing.tail outer.1).0)

  abbrev back : List ℕ
  back = chars differing.tail

  now-chars : chars (body_at d new.content.text number) ≡ differing.front ++ opener ∷ (inside ++ closer ∷ back)
  now-chars =
      body-chars new.content.text new-utf8 isolated differing.new_is
      ∙ ap (λ xs. differing.front ++ opener ∷ xs) (append_assoc inside (closer ∷ []) back)

  isolates : Isolates d e opener closer new
  isolates = record {
    number = number;
    front = differing.front;
    back = back;
    old = body-chars text can.text inside differing.old_is;
    now = now-chars;
    others = λ m other.
        let p : Paragraph = record { body = encode_utf8_all differing.front ++ (encode_utf8_all inside ++ differing.tail); separator = differing.separator } in
        let q : Paragraph = record { body = encode_utf8_all differing.front ++ (encode_utf8_all isolated ++ differing.tail); separator = differing.separator } in
        ap (λ ps. get_or ps m (bare [])) differing.new_is ∙ others-same differing.ahead q p differing.behind (bare []) m other
        ∙ sym (ap (λ ps. get_or ps m (bare [])) differing.old_is);
    levels = λ whole few i there kept.
        let raised = isolates-raise d e.base differing.front inside (closer ∷ back) opener
        (match-is d differing.front inside back opener closer can.begins can.ends whole) few i there kept in
        subst (λ cs. IsAbove (embedding_at d e.base cs (length differing.front)) (level_at d e.base cs (length differing.front + 1 + i))) (sym now-chars) raised;
  }

pub letter-isolates : LetterIsolates
letter-isolates d e letter opener closer can = isolates d e letter opener closer can
