-- Glyphs that are changed one after another: mirrored by their levels, and shown in their letters' forms.
use Rattle.std.proofs.Common.{◌≡◌, ℕ, zero, suc, ◌+◌, ◌%◌, ◌<◌, ◌≤◌, List, [], ◌∷◌, map, length, get_or, take, set}
use Rattle.std.proofs.Common.{◌++◌, ⊎_elim, false, refl, sym, subst, ap, ap₂, ◌∙◌, arith, take_all, append-nil, chars, All, Bool, true, IsUtf8}
use Rattle.std.specs.Prelude.{◌||◌, encode_utf8, encode_utf8_all, unwrap_or, Option, None, Some}
use Rattle.std.specs.List.{zip}
use Rattle.std.proofs.lemmas.List.{map-set, get_or-map, length-map}
use Rattle.std.proofs.lemmas.Bool.{cases_lt}
use Rattle.std.proofs.lemmas.List.Elements.{All-rest}
use Rattle.std.proofs.lemmas.Str.{encodes-chars}
use Rattle.bx_ucd.specs.Data.{Data}
use Rattle.bx_ucd.specs.declared.joining.Form.{Form}
use Rattle.bx_rows.specs.cells.Units.{face}
use Rattle.bx_rows.proofs.cells_lemmas.Rest.{chars_encoded}
use Rattle.bx_rows.specs.joining.JoinedText.{AreFormless}
use Rattle.bx_rows.specs.joining.Joining.{in_forms}
use Rattle.bx_rows.proofs.joining_lemmas.TextForms.{as_it_is}
use Rattle.bx_rows.specs.declared.drawn.Drawn.{Drawn}
use Rattle.bx_rows.specs.PlainRows.{IsFormless, formed_glyph, joined_glyph, leveled_glyphs, mirrored_glyphs, single_glyph, mirrored_text}
use Rattle.bx_rows.specs.RowPicture.{Glyph, glyph, blank, is_own, joined_image_within, mirror_image, mirror_image_within, mirrored_chars, shown_text}
use Rattle.bx_rows.specs.Shown.{glyph_of}

-- ---- the first glyphs changed, each by what is given with it

module _ {X : Type 0} (f : Glyph → X → Glyph) where
  abbrev pub changed : List Glyph → List X → List Glyph
  changed [] xs = []
  changed (g ∷ gs) [] = g ∷ gs
  changed (g ∷ gs) (x ∷ xs) = f g x ∷ changed gs xs

  pub none-changed : (gs : List Glyph) → gs ≡ changed gs []
  none-changed [] = refl
  none-changed (g ∷ gs) = refl

  -- a glyph with nothing given is as it was
  later-same : (gs : List Glyph) (xs : List X) (i : ℕ) → get_or (changed gs (take i xs)) i blank ≡ get_or gs i blank
  later-same [] xs i = refl
  later-same (g ∷ gs) xs zero = refl
  later-same (g ∷ gs) [] (suc i) = refl
  later-same (g ∷ gs) (x ∷ xs) (suc i) = later-same gs xs i

  one-changed : (gs : List Glyph) (xs : List X) (i : ℕ) (d : X) → i < length xs
      → set (changed gs (take i xs)) i (f (get_or gs i blank) (get_or xs i d)) ≡ changed gs (take (suc i) xs)
  one-changed [] xs i d h = refl
  one-changed (g ∷ gs) [] i d h = absurd (omega arith)
  one-changed (g ∷ gs) (x ∷ xs) zero d h = ap (λ ys. f g x ∷ ys) (none-changed gs)
  one-changed (g ∷ gs) (x ∷ xs) (suc i) d h = ap (λ ys. f g x ∷ ys) (one-changed gs xs i d (omega arith))

  -- the glyph that is next is still as it was
  pub still : (gs : List Glyph) (xs : List X) (ds : List Drawn) (i : ℕ) (d : Drawn) → i < length ds
      → map glyph_of ds ≡ changed gs (take i xs) → glyph_of (get_or ds i d) ≡ get_or gs i blank
  still gs xs ds i d h same = sym (get_or-map glyph_of ds i d blank h) ∙ ap (λ ys. get_or ys i blank) same ∙ later-same gs xs i

  -- a turn that writes glyph `i`
  pub turn : (gs : List Glyph) (xs : List X) (ds : List Drawn) (i : ℕ) (d new : Drawn) (e : X)
      → i < length ds → i < length xs → map glyph_of ds ≡ changed gs (take i xs)
      → glyph_of new ≡ f (glyph_of (get_or ds i d)) (get_or xs i e)
      → map glyph_of (set ds i new) ≡ changed gs (take (i + 1) xs)
  turn gs xs ds i d new e h within same written =
      let one : suc i ≡ i + 1 = omega arith in
      map-set glyph_of ds i new ∙ ap₂ (λ ys g. set ys i g) same (written ∙ ap (λ g. f g (get_or xs i e)) (still gs xs ds i d h same))
      ∙ one-changed gs xs i e within ∙ ap (λ n. changed gs (take n xs)) one

-- ---- mirrored

-- a glyph of one column at a level
abbrev pub at_level : Data → ℕ → Glyph → ℕ → Glyph
at_level ucd w g level = glyph (mirrored_text ucd w 1 level g.text) g.columns g.negative

-- the glyphs of characters at their levels
leveled-single : (ucd : Data) (w : ℕ) (cs levels : List ℕ) → length cs ≡ length levels
    → changed (at_level ucd w) (map single_glyph cs) levels ≡ mirrored_glyphs ucd w cs levels
leveled-single ucd w [] levels e = refl
leveled-single ucd w (c ∷ cs) [] e = absurd (omega arith)
leveled-single ucd w (c ∷ cs) (l ∷ ls) e =
    ap (λ xs. at_level ucd w (single_glyph c) l ∷ xs) (leveled-single ucd w cs ls (omega arith))

pub single-count : (old : List Drawn) (cs levels : List ℕ) → length old ≡ length levels → map glyph_of old ≡ map single_glyph cs
    → length cs ≡ length levels
single-count old cs levels count single = sym (length-map cs single_glyph) ∙ ap length (sym single) ∙ length-map old glyph_of ∙ count

-- after the last turn
pub turned : (ucd : Data) (w : ℕ) (old : List Drawn) (cs levels : List ℕ) (i : ℕ) (new : List Glyph)
    → length old ≡ length levels → length levels ≤ i → map glyph_of old ≡ map single_glyph cs
    → new ≡ changed (at_level ucd w) (map glyph_of old) (take i levels) → new ≡ mirrored_glyphs ucd w cs levels
turned ucd w old cs levels i new count end single same =
    same ∙ ap₂ (λ gs ls. changed (at_level ucd w) gs ls) single (take_all i levels end)
    ∙ leveled-single ucd w cs levels (single-count old cs levels count single)

-- ---- without forms

-- the first `i` glyphs have no forms
abbrev pub FormlessUpTo : Data → ℕ → List Glyph → List ℕ → ℕ → Type 0
FormlessUpTo ucd w gs levels i = (k : ℕ) → k < i → IsFormless ucd w (get_or levels k 0) (get_or gs k blank).text

pub more-formless : (ucd : Data) (w : ℕ) (gs : List Glyph) (levels : List ℕ) (i level : ℕ) (text : List ℕ) → FormlessUpTo ucd w gs levels i
    → text ≡ (get_or gs i blank).text → level ≡ get_or levels i 0 → IsFormless ucd w level text → FormlessUpTo ucd w gs levels (i + 1)
more-formless ucd w gs levels i level text before e f own k h =
    let last : i ≤ k → IsFormless ucd w (get_or levels k 0) (get_or gs k blank).text = λ past.
    let same : i ≡ k = omega (arith, past, h) in
    subst (λ j. IsFormless ucd w (get_or levels j 0) (get_or gs j blank).text) same
    (subst (λ t. IsFormless ucd w (get_or levels i 0) t) e (subst (λ l. IsFormless ucd w l text) f own)) in
    ⊎_elim (λ below. before k below) last (cases_lt k i)

-- such glyphs are as they are mirrored
formless-same : (ucd : Data) (w : ℕ) (cs levels : List ℕ) (forms : List Form) → length cs ≡ length levels → length forms ≡ length cs
    → FormlessUpTo ucd w (map single_glyph cs) levels (length cs) → mirrored_glyphs ucd w cs levels ≡ leveled_glyphs ucd w cs levels forms
formless-same ucd w [] levels forms e f all = refl
formless-same ucd w (c ∷ cs) [] forms e f all = absurd (omega arith)
formless-same ucd w (c ∷ cs) (l ∷ ls) [] e f all = absurd (omega arith)
formless-same ucd w (c ∷ cs) (l ∷ ls) (x ∷ xs) e f all =
    ap₂ (λ t gs. glyph t 1 false ∷ gs) (sym (all 0 (omega arith) x))
    (formless-same ucd w cs ls xs (omega arith) (omega arith) (λ k h. all (suc k) (omega arith)))

-- neither of two
pub neither : (a b : Bool) → (a || b) ≡ false → (a ≡ false) × (b ≡ false)
neither true b e = absurd (cc e)
neither false true e = absurd (cc e)
neither false false e = (refl, refl)

pub formless-turned : (ucd : Data) (w : ℕ) (old : List Drawn) (cs levels : List ℕ) (forms : List Form) (i : ℕ) (new : List Glyph)
    → length old ≡ length levels → length levels ≤ i → map glyph_of old ≡ map single_glyph cs → length forms ≡ length cs
    → new ≡ mirrored_glyphs ucd w cs levels → FormlessUpTo ucd w (map glyph_of old) levels i → new ≡ leveled_glyphs ucd w cs levels forms
formless-turned ucd w old cs levels forms i new count end single many same all =
    let n = single-count old cs levels count single in
    same ∙ formless-same ucd w cs levels forms n many
    (λ k h. subst (λ gs. IsFormless ucd w (get_or levels k 0) (get_or gs k blank).text) single (all k (omega (arith, n))))

-- ---- in their forms

same-both : (b : Bool) (t : List ℕ) → glyph t 1 false ≡ glyph (elim b as (λ _. List ℕ) [ true ↦ t | false ↦ t ]) 1 false
same-both true t = refl
same-both false t = refl

choose : (b : Bool) (t m : List ℕ) → elim b as (λ _. Glyph) [ true ↦ glyph t 1 false | false ↦ glyph m 1 false ]
    ≡ glyph (elim b as (λ _. List ℕ) [ true ↦ t | false ↦ m ]) 1 false
choose true t m = refl
choose false t m = refl

pub same-either : (b : Bool) (x y : List ℕ) → x ≡ y → elim b as (λ _. List ℕ) [ true ↦ x | false ↦ y ] ≡ y
same-either true x y e = e
same-either false x y e = refl

either-level : (odd : ℕ) (text x y : List ℕ) → x ≡ y
    → elim odd as (λ _. List ℕ) [ zero ↦ text | suc _ ↦ x ] ≡ elim odd as (λ _. List ℕ) [ zero ↦ text | suc _ ↦ y ]
either-level zero text x y e = refl
either-level (suc k) text x y e = e

pub whole-mirrored : (b : Bool) (others cs text : List ℕ) → encode_utf8_all cs ≡ text
    → encode_utf8_all (elim b as (λ _. List ℕ) [ true ↦ others | false ↦ cs ]) ≡ elim b as (λ _. List ℕ) [ true ↦ encode_utf8_all others | false ↦ text ]
whole-mirrored true others cs text e = refl
whole-mirrored false others cs text e = e

-- the mirrored text of one letter is the mirrored character's
one-mirrored : (ucd : Data) (w c : ℕ) (b : Bool) → chars (encode_utf8 c) ≡ c ∷ []
    → encode_utf8_all (elim b as (λ _. List ℕ) [ true ↦ unwrap_or (ucd.mirror c) c ∷ [] | false ↦ c ∷ [] ])
    ≡ elim b as (λ _. List ℕ) [ true ↦ mirror_image ucd (encode_utf8 c) | false ↦ encode_utf8 c ]
one-mirrored ucd w c true e = sym (ap (λ cs. encode_utf8_all (map (λ d. unwrap_or (ucd.mirror d) d) cs)) e)
one-mirrored ucd w c false e = append-nil (encode_utf8 c)

-- the character in place of one letter
abbrev instead : Data → ℕ → ℕ → ℕ
instead ucd w c =
    let d = unwrap_or (ucd.mirror c) c in elim (is_own 1 (face ucd w (encode_utf8_all (d ∷ [])))) as (λ _. ℕ) [ true ↦ d | false ↦ c ]

mirrored-one : (ucd : Data) (w c : ℕ) (b : Bool)
    → elim b as (λ _. List ℕ) [ true ↦ unwrap_or (ucd.mirror c) c ∷ [] | false ↦ c ∷ [] ]
    ≡ elim b as (λ _. ℕ) [ true ↦ unwrap_or (ucd.mirror c) c | false ↦ c ] ∷ []
mirrored-one ucd w c true = refl
mirrored-one ucd w c false = refl

same-image : (ucd : Data) (w c : ℕ) → chars (encode_utf8 c) ≡ c ∷ [] → mirror_image_within ucd w 1 (encode_utf8 c) ≡ encode_utf8_all (instead ucd w c ∷ [])
same-image ucd w c e =
    let d = unwrap_or (ucd.mirror c) c in
    let image : mirror_image ucd (encode_utf8 c) ≡ encode_utf8_all (d ∷ []) = ap (λ cs. encode_utf8_all (map (λ x. unwrap_or (ucd.mirror x) x) cs)) e in
    let b = is_own 1 (face ucd w (encode_utf8_all (d ∷ []))) in
    ap (λ t. elim (is_own 1 (face ucd w t)) as (λ _. List ℕ) [ true ↦ mirror_image ucd (encode_utf8 c) | false ↦ encode_utf8 c ]) image
    ∙ sym (one-mirrored ucd w c b e) ∙ ap encode_utf8_all (mirrored-one ucd w c b)

-- a letter's form, or what is in its place
formed : (ucd : Data) (w d : ℕ) (o : Option ℕ) → formed_glyph ucd w (glyph (encode_utf8_all (d ∷ [])) 1 false) o
    ≡ glyph (elim (is_own 1 (face ucd w (encode_utf8_all (unwrap_or o d ∷ [])))) as (λ _. List ℕ) [
      | true ↦ encode_utf8_all (unwrap_or o d ∷ [])
      | false ↦ encode_utf8_all (d ∷ [])
    ]) 1 false
formed ucd w d None = same-both (is_own 1 (face ucd w (encode_utf8_all (d ∷ [])))) (encode_utf8_all (d ∷ []))
formed ucd w d (Some x) =
    let one : encode_utf8_all (x ∷ []) ≡ encode_utf8 x = append-nil (encode_utf8 x) in
    choose (is_own 1 (face ucd w (encode_utf8 x))) (encode_utf8 x) (encode_utf8_all (d ∷ []))
    ∙ ap (λ t. glyph (elim (is_own 1 (face ucd w t)) as (λ _. List ℕ) [ true ↦ t | false ↦ encode_utf8_all (d ∷ []) ]) 1 false) (sym one)

one-joined : (ucd : Data) (w c : ℕ) (form : Form) → chars (encode_utf8 c) ≡ c ∷ []
    → formed_glyph ucd w (glyph (mirror_image_within ucd w 1 (encode_utf8 c)) 1 false) (ucd.form c form)
    ≡ glyph (joined_image_within ucd w 1 (form ∷ []) (encode_utf8 c)) 1 false
one-joined ucd w c form e =
    let d = instead ucd w c in
    let o = ucd.form c form in
    let image = same-image ucd w c e in
    let b = is_own 1 (face ucd w (encode_utf8_all (unwrap_or (ucd.mirror c) c ∷ []))) in
    let letters : in_forms ucd (form ∷ []) (chars (encode_utf8 c)) (mirrored_chars ucd w 1 (chars (encode_utf8 c))) ≡ unwrap_or o d ∷ [] =
    ap (λ cs. in_forms ucd (form ∷ []) cs (mirrored_chars ucd w 1 cs)) e ∙ ap (in_forms ucd (form ∷ []) (c ∷ [])) (mirrored-one ucd w c b) in
    ap (λ t. formed_glyph ucd w (glyph t 1 false) o) image ∙ formed ucd w d o
    ∙ ap₂ (λ t m. glyph (elim (is_own 1 (face ucd w t)) as (λ _. List ℕ) [ true ↦ t | false ↦ m ]) 1 false) (ap encode_utf8_all (sym letters)) (sym image)

one-shown : (ucd : Data) (w c odd : ℕ) (form : Form) → chars (encode_utf8 c) ≡ c ∷ []
    → elim odd as (λ _. Glyph) [
      | zero ↦ glyph (elim odd as (λ _. List ℕ) [ zero ↦ encode_utf8 c | suc _ ↦ mirror_image_within ucd w 1 (encode_utf8 c) ]) 1 false
      | suc _ ↦ formed_glyph ucd w (glyph (elim odd as (λ _. List ℕ) [ zero ↦ encode_utf8 c | suc _ ↦ mirror_image_within ucd w 1 (encode_utf8 c) ]) 1 false)
          (ucd.form c form)
    ]
    ≡ glyph (elim odd as (λ _. List ℕ) [ zero ↦ encode_utf8 c | suc _ ↦ joined_image_within ucd w 1 (form ∷ []) (encode_utf8 c) ]) 1 false
one-shown ucd w c zero form e = refl
one-shown ucd w c (suc k) form e = one-joined ucd w c form e

-- the mirrored glyphs of letters in their forms; there may be more letters
pub joined-leveled : (ucd : Data) (w : ℕ) (cs more levels : List ℕ) (forms : List Form) → All (λ c. chars (encode_utf8 c) ≡ c ∷ []) cs
    → length cs ≡ length levels → length forms ≡ length cs
    → changed (joined_glyph ucd w) (mirrored_glyphs ucd w cs levels) (zip levels (zip (cs ++ more) forms)) ≡ leveled_glyphs ucd w cs levels forms
joined-leveled ucd w [] more levels forms a e f = refl
joined-leveled ucd w (c ∷ cs) more [] forms a e f = absurd (omega arith)
joined-leveled ucd w (c ∷ cs) more (l ∷ ls) [] a e f = absurd (omega arith)
joined-leveled ucd w (c ∷ cs) more (l ∷ ls) (x ∷ xs) a e f =
    ap₂ (λ g gs. g ∷ gs) (one-shown ucd w c (l % 2) x (a 0 c (omega arith)))
    (joined-leveled ucd w cs more ls xs (All-rest (λ d. chars (encode_utf8 d) ≡ d ∷ []) c cs (c ∷ cs) refl a) (omega arith) (omega arith))

-- ---- letters without forms

-- of a whole text
pub formless-text : (ucd : Data) (w n : ℕ) (forms : List Form) (text : List ℕ) → IsUtf8 text → AreFormless ucd (chars text)
    → joined_image_within ucd w n forms text ≡ mirror_image_within ucd w n text
formless-text ucd w n forms text u none =
    let cs = chars text in
    let others = map (λ c. unwrap_or (ucd.mirror c) c) cs in
    let same = as_it_is ucd forms cs (mirrored_chars ucd w n cs) none in
    let image : encode_utf8_all (mirrored_chars ucd w n cs) ≡ mirror_image_within ucd w n text =
    whole-mirrored (is_own n (face ucd w (encode_utf8_all others))) others cs text (encodes-chars text u) in
    same-either (is_own n (face ucd w (encode_utf8_all (in_forms ucd forms cs (mirrored_chars ucd w n cs))))) _ (mirror_image_within ucd w n text)
    (ap encode_utf8_all same ∙ image)

-- of a text shown at a level
pub formless-shown : (ucd : Data) (w n level : ℕ) (forms : List Form) (text : List ℕ) → IsUtf8 text → AreFormless ucd (chars text)
    → shown_text ucd w n level forms text ≡ mirrored_text ucd w n level text
formless-shown ucd w n level forms text u none =
    either-level (level % 2) text (joined_image_within ucd w n forms text) (mirror_image_within ucd w n text) (formless-text ucd w n forms text u none)

-- at an odd level
pub shown_if_odd : (odd : ℕ) (new text shown : List ℕ) → (odd ≡ 0 → ⊥) → new ≡ shown → new ≡ elim odd as (λ _. List ℕ) [ zero ↦ text | suc _ ↦ shown ]
shown_if_odd zero new text shown h e = absurd (h refl)
shown_if_odd (suc k) new text shown h e = e

-- the characters of the mirrored text
pub mirrored-are : (ucd : Data) (w n : ℕ) (text shown : List ℕ) → IsUtf8 text → IsUtf8 shown → shown ≡ mirror_image_within ucd w n text
    → chars shown ≡ mirrored_chars ucd w n (chars text)
mirrored-are ucd w n text shown u v e =
    let cs = chars text in
    let others = map (λ c. unwrap_or (ucd.mirror c) c) cs in
    let all : shown ≡ encode_utf8_all (mirrored_chars ucd w n cs) =
    e ∙ sym (whole-mirrored (is_own n (face ucd w (encode_utf8_all others))) others cs text (encodes-chars text u)) in
    ap chars all ∙ chars_encoded (mirrored_chars ucd w n cs) (subst IsUtf8 all v)

-- ---- one glyph in its letter's form

odd-glyph : (odd : ℕ) (new old shown : Glyph) → (odd ≡ 0 → ⊥) → new ≡ shown → new ≡ elim odd as (λ _. Glyph) [ zero ↦ old | suc _ ↦ shown ]
odd-glyph zero new old shown h e = absurd (h refl)
odd-glyph (suc k) new old shown h e = e

pub joined_if_none : (ucd : Data) (w : ℕ) (g : Glyph) (level letter : ℕ) (form : Form) (o : Option ℕ) → (level % 2 ≡ 0 → ⊥) → o ≡ ucd.form letter form
    → o ≡ None → g ≡ joined_glyph ucd w g (level, (letter, form))
joined_if_none ucd w g level letter form o odd e none =
    odd-glyph (level % 2) g g (formed_glyph ucd w g (ucd.form letter form)) odd (ap (formed_glyph ucd w g) (sym none ∙ e))

module _ (ucd : Data) (w : ℕ) (g : Glyph) (level letter : ℕ) (form : Form) (o : Option ℕ) (x : ℕ) (text : List ℕ)
    (odd : level % 2 ≡ 0 → ⊥) (e : o ≡ ucd.form letter form) (some : o ≡ Some x) (is : text ≡ encode_utf8 x) where
  choice : (b : Bool) → is_own 1 (face ucd w text) ≡ b
      → elim b as (λ _. Glyph) [ true ↦ glyph text g.columns g.negative | false ↦ g ] ≡ formed_glyph ucd w g (ucd.form letter form)
  choice b own =
      ap (λ c. elim c as (λ _. Glyph) [ true ↦ glyph text g.columns g.negative | false ↦ g ]) (sym own)
      ∙ ap (λ t. elim (is_own 1 (face ucd w t)) as (λ _. Glyph) [ true ↦ glyph t g.columns g.negative | false ↦ g ]) is
      ∙ ap (formed_glyph ucd w g) (sym some ∙ e)

  pub joined_if_own : is_own 1 (face ucd w text) ≡ true → glyph text g.columns g.negative ≡ joined_glyph ucd w g (level, (letter, form))
  joined_if_own own =
      odd-glyph (level % 2) (glyph text g.columns g.negative) g (formed_glyph ucd w g (ucd.form letter form)) odd (choice true own)

  pub joined_if_other : is_own 1 (face ucd w text) ≡ false → g ≡ joined_glyph ucd w g (level, (letter, form))
  joined_if_other other = odd-glyph (level % 2) g g (formed_glyph ucd w g (ucd.form letter form)) odd (choice false other)
