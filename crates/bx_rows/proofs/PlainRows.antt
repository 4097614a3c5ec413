-- Rows of single characters: their units, and their levels.
use Rattle.std.proofs.Common.{◌≡◌, ℕ, zero, suc, ◌+◌, ◌-◌, ◌<◌, ◌≤◌, ◌==◌, Bool, true, false, Some, None, Option, List, [], ◌∷◌, ◌++◌, map, length, take, drop}
use Rattle.std.proofs.Common.{refl, sym, ap, ap₂, subst, ◌∙◌, inr, ⊎_elim, arith, get_or}
use Rattle.std.proofs.Common.{append_assoc, append-nil, length-append, length-drop, encode_utf8, encode_utf8_all}
use Rattle.std.specs.Prelude.{flat_map}
use Rattle.std.specs.List.{zip}
use Rattle.std.proofs.lemmas.Bool.Decides.{nat_tests}
use Rattle.std.specs.Str.{chars, IsUtf8, IsCharBoundary, all_scalars}
use Rattle.std.proofs.lemmas.List.{take_at, drop_at, map-append, length-map, length_push}
use Rattle.std.proofs.lemmas.Str.{chars-encodes, scalars-chars, IsUtf8-drop, IsUtf8-past_char, IsCharBoundary-from_drop}
use Rattle.bx_ucd.specs.Data.{Data}
use Rattle.bx_ucd.specs.declared.class.Class.{Class}
use Rattle.bx_rows.specs.declared.cells.unit.Face.TheVariants.{Own}
use Rattle.bx_rows.specs.declared.cells.unit.Unit.{Unit}
use Rattle.bx_rows.specs.cells.Simple.{begins}
use Rattle.bx_rows.specs.cells.SimpleFace.{simple_face}
use Rattle.bx_rows.specs.cells.Units.{unit_chars}
use Rattle.bx_rows.specs.cells.UnitFacts.{units_from}
use Rattle.bx_rows.proofs.cells_lemmas.OpenCluster.{open-first, open-next, open-last, open-none, open-left, open-boundary}
use Rattle.bx_rows.proofs.cells_lemmas.Rest.{chars_past_all, scalars_front, none-behind}
use Rattle.bx_rows.specs.declared.drawn.Drawn.{Drawn}
use Rattle.bx_rows.specs.Shown.{glyph_of}
use Rattle.bx_rows.specs.PlainRows.{IsClusterEnd, single_glyph, single_units}
use Rattle.bx_rows.specs.RowLevels.{CharLevel, chars_before, l1, levels_or_before, only_trailing, row_levels, trails, unit_levels}
use Rattle.bx_rows.specs.LevelReads.{Reads, levels_from, settled, settled_if, with_levels_behind}
use Rattle.bx_rows.proofs.LevelSteps.{char-first, char-read}

-- ---- the first character of a text

part-end : (text behind : List ℕ) (c : ℕ) → text ≡ encode_utf8 c ++ behind → length (encode_utf8 c) ≡ length text - length behind
part-end text behind c e = let size = ap length e ∙ length-append (encode_utf8 c) behind in omega (arith, size)

pub part-boundary : (text behind : List ℕ) (c : ℕ) → IsUtf8 text → text ≡ encode_utf8 c ++ behind → IsCharBoundary text (length text - length behind)
part-boundary text behind c u e =
    let n = length text - length behind in
    let at : drop n text ≡ behind = ap (drop n) e ∙ drop_at (encode_utf8 c) behind n (part-end text behind c e) in
    IsCharBoundary-from_drop text n (omega arith) (subst IsUtf8 (sym at) (IsUtf8-past_char text behind c u e))

-- ---- single characters

-- each character begins a cluster, and shows itself in one column where it is one
abbrev pub ArePlain : Data → ℕ → List ℕ → Type 0
ArePlain ucd w [] = Rattle.std.specs.Prelude.⊤
ArePlain ucd w (c ∷ cs) = ((begins c ≡ true) × (simple_face ucd w c false ≡ Own 1)) × ArePlain ucd w cs

pub plain-push : (ucd : Data) (w : ℕ) (cs : List ℕ) (c : ℕ) → ArePlain ucd w cs → begins c ≡ true → simple_face ucd w c false ≡ Own 1
    → ArePlain ucd w (cs ++ c ∷ [])
plain-push ucd w [] c a b f = ((b, f), tt)
plain-push ucd w (x ∷ cs) c a b f = (a.0, plain-push ucd w cs c a.1 b f)

-- ---- the units

-- a cluster ends before each of them
end-before : (ucd : Data) (w : ℕ) (cs rest : List ℕ) → ArePlain ucd w cs → IsClusterEnd rest → IsClusterEnd (encode_utf8_all cs ++ rest)
end-before ucd w [] rest a e = e
end-before ucd w (c ∷ cs) rest a e = inr (c, encode_utf8_all cs ++ rest, append_assoc (encode_utf8 c) (encode_utf8_all cs) rest, a.0.0)

stop-is : (body : List ℕ) (at c : ℕ) (rest : List ℕ) → at ≤ length body → drop at body ≡ encode_utf8 c ++ rest
    → at + length (encode_utf8 c) + length rest ≡ length body
stop-is body at c rest h e =
    let size = ap length e ∙ length-append (encode_utf8 c) rest in
    omega (arith, h, size, length-drop at body)

-- the first of them is a unit
first-single : (ucd : Data) (w : ℕ) (body : List ℕ) (at c : ℕ) (rest : List ℕ) → IsUtf8 body → IsCharBoundary body at
    → drop at body ≡ encode_utf8 c ++ rest → begins c ≡ true → simple_face ucd w c false ≡ Own 1 → IsClusterEnd rest
    → units_from ucd w body at ≡ record { start = at; stop = at + length (encode_utf8 c); face = Own 1 }
    ∷ units_from ucd w body (at + length (encode_utf8 c))
first-single ucd w body at c rest u b e begin face end =
    let o = open-first body at c rest e begin in
    let stop = at + length (encode_utf8 c) in
    let whole = stop-is body at c rest b.0 e in
    let own = ap (λ f. record { start = at; stop = stop; face = f } ∷ units_from ucd w body stop) face in
    ⊎_elim
    (λ none. let last : stop ≡ length body = omega (arith, whole, none) in
    open-last body at c false rest u b o ucd w stop last none
    ∙ ap (λ x. record { start = at; stop = stop; face = simple_face ucd w c false } ∷ x) (sym (open-none body at c false rest u b o ucd w stop last none))
    ∙ own)
    (λ next. open-next body at c false rest u b o ucd w stop next.0 next.1 whole next.2 next.3 ∙ own)
    end

pub single-from : (ucd : Data) (w : ℕ) (body : List ℕ) (at : ℕ) (cs rest : List ℕ) → IsUtf8 body → IsCharBoundary body at
    → drop at body ≡ encode_utf8_all cs ++ rest → ArePlain ucd w cs → IsClusterEnd rest
    → units_from ucd w body at ≡ single_units at cs ++ units_from ucd w body (length body - length rest)
single-from ucd w body at [] rest u b e a end =
    let size = ap length e in
    let within = b.0 in
    let stop : at ≡ length body - length rest = omega (arith, size, within, length-drop at body) in
    ap (units_from ucd w body) stop
single-from ucd w body at (c ∷ cs) rest u b e a end =
    let behind = encode_utf8_all cs ++ rest in
    let first : drop at body ≡ encode_utf8 c ++ behind = e ∙ append_assoc (encode_utf8 c) (encode_utf8_all cs) rest in
    let o = open-first body at c behind first a.0.0 in
    let stop = at + length (encode_utf8 c) in
    let whole = stop-is body at c behind b.0 first in
    first-single ucd w body at c behind u b first a.0.0 a.0.1 (end-before ucd w cs rest a.1 end)
    ∙ ap (λ x. record { start = at; stop = stop; face = Own 1 } ∷ x)
    (single-from ucd w body stop cs rest u (open-boundary body at c false behind u b o stop whole)
    (open-left body at c false behind u b o stop whole) a.1 end)

pub single-length : (at : ℕ) (cs : List ℕ) → length (single_units at cs) ≡ length cs
single-length at [] = refl
single-length at (c ∷ cs) = ap suc (single-length (at + length (encode_utf8 c)) cs)

-- ---- the characters of the units

single-chars : (body : List ℕ) (at c : ℕ) (rest : List ℕ) → IsUtf8 body → IsCharBoundary body at → drop at body ≡ encode_utf8 c ++ rest
    → chars (encode_utf8 c) ≡ c ∷ []
single-chars body at c rest u b e =
    let valid = IsUtf8-drop body at u b in
    let all : drop at body ≡ encode_utf8_all (c ∷ []) ++ rest = e ∙ ap (λ x. x ++ rest) (sym (append-nil (encode_utf8 c))) in
    let front = chars_past_all (c ∷ []) rest (drop at body) valid all in
    ap chars (sym (append-nil (encode_utf8 c)))
    ∙ chars-encodes (c ∷ []) (scalars_front (c ∷ []) (chars rest) (ap all_scalars (sym front) ∙ scalars-chars (drop at body) valid))

unit-chars : (body : List ℕ) (at c : ℕ) (rest : List ℕ) → IsUtf8 body → IsCharBoundary body at → drop at body ≡ encode_utf8 c ++ rest
    → unit_chars body (record { start = at; stop = at + length (encode_utf8 c); face = Own 1 }) ≡ c ∷ []
unit-chars body at c rest u b e =
    let n = length (encode_utf8 c) in
    let width : n ≡ at + n - at = omega arith in
    ap (λ x. chars (take (at + n - at) x)) e ∙ ap chars (take_at (encode_utf8 c) rest (at + n - at) width) ∙ single-chars body at c rest u b e

-- one character for each of some
abbrev pub ones : List ℕ → List ℕ
ones [] = []
ones (c ∷ cs) = 1 ∷ ones cs

-- the characters of single units are those that they are of
pub record HasChars (body : List ℕ) (us : List Unit) (cs : List ℕ) : Type 0 where
  pub all : flat_map (unit_chars body) us ≡ cs
  pub counts : map (λ v. length (unit_chars body v)) us ≡ ones cs

chars-single : (ucd : Data) (w : ℕ) (body : List ℕ) (at : ℕ) (cs rest : List ℕ) → IsUtf8 body → IsCharBoundary body at
    → drop at body ≡ encode_utf8_all cs ++ rest → ArePlain ucd w cs → HasChars body (single_units at cs) cs
chars-single ucd w body at [] rest u b e a = record { all = refl; counts = refl }
chars-single ucd w body at (c ∷ cs) rest u b e a =
    let behind = encode_utf8_all cs ++ rest in
    let first : drop at body ≡ encode_utf8 c ++ behind = e ∙ append_assoc (encode_utf8 c) (encode_utf8_all cs) rest in
    let o = open-first body at c behind first a.0.0 in
    let stop = at + length (encode_utf8 c) in
    let whole = stop-is body at c behind b.0 first in
    let more = chars-single ucd w body stop cs rest u (open-boundary body at c false behind u b o stop whole)
    (open-left body at c false behind u b o stop whole)
    a.1 in
    let own = unit-chars body at c behind u b first in
    record {
      all = ap₂ (λ x y. x ++ y) own more.all;
      counts = ap₂ (λ x y. length x ∷ y) own more.counts;
    }

-- ---- the levels

nothing-waits : (b : Bool) (p : ℕ) → settled_if b p 0 [] ≡ []
nothing-waits true p = refl
nothing-waits false p = refl

from-nothing : (p : ℕ) (counts : List ℕ) (xs : List CharLevel) → levels_from p [] 0 0 counts xs ≡ levels_or_before p (unit_levels counts (l1 p xs))
from-nothing p counts xs = ap (λ found. with_levels_behind p found (unit_levels counts (l1 p xs))) (nothing-waits (only_trailing xs) p)

settled-length : (p waiting : ℕ) (ls : List ℕ) → length (settled p waiting ls) ≡ length ls
settled-length p zero [] = refl
settled-length p (suc n) [] = refl
settled-length p zero (l ∷ ls) = ap suc (settled-length p zero ls)
settled-length p (suc n) (l ∷ ls) = ap suc (settled-length p n ls)

settled_if-length : (b : Bool) (p waiting : ℕ) (ls : List ℕ) → length (settled_if b p waiting ls) ≡ length ls
settled_if-length true p waiting ls = settled-length p waiting ls
settled_if-length false p waiting ls = refl

reads-length : (p : ℕ) (class : Class) (old : List ℕ) (waiting : ℕ) (new : List ℕ) (next : ℕ) → Reads p class old waiting new next → length new ≡ length old
reads-length p class old waiting new next reads = ap length (reads 0 false) ∙ settled_if-length (trails (class, Some 0) false) p waiting old

-- a row read up to `rest`: single characters, their glyphs, and their levels except the waiting ones
pub record IsReadTo (ucd : Data) (w p : ℕ) (body : List ℕ) (at : ℕ) (levels : List (Option ℕ)) (glyphs : List Drawn) (found : List ℕ) (waiting : ℕ)
    (left : List (Option ℕ)) (rest : List ℕ) : Type 0 where
  pub cs : List ℕ
  pub bytes : drop at body ≡ encode_utf8_all cs ++ rest
  pub plain : ArePlain ucd w cs
  pub glyphs_are : map glyph_of glyphs ≡ map single_glyph cs
  pub count : length found ≡ length cs
  pub within : waiting ≤ length found
  pub levels_are : (more counts : List ℕ) → levels_from p [] 0 0 (ones cs ++ counts) (zip (map ucd.class (cs ++ more)) levels)
      ≡ levels_from p found waiting 0 counts (zip (map ucd.class more) left)

ones-push : (cs : List ℕ) (c : ℕ) (counts : List ℕ) → ones (cs ++ c ∷ []) ++ counts ≡ ones cs ++ 1 ∷ counts
ones-push [] c counts = refl
ones-push (x ∷ cs) c counts = ap (λ xs. 1 ∷ xs) (ones-push cs c counts)

encodes-push : (cs : List ℕ) (c : ℕ) → encode_utf8_all (cs ++ c ∷ []) ≡ encode_utf8_all cs ++ encode_utf8 c
encodes-push [] c = append-nil (encode_utf8 c)
encodes-push (x ∷ cs) c = ap (λ xs. encode_utf8 x ++ xs) (encodes-push cs c) ∙ sym (append_assoc (encode_utf8 x) (encode_utf8_all cs) (encode_utf8 c))

pub read-more : (ucd : Data) (w p : ℕ) (body : List ℕ) (at : ℕ) (levels : List (Option ℕ)) (glyphs new : List Drawn) (found found' : List ℕ)
    (waiting next : ℕ) (left after : List (Option ℕ)) (rest behind : List ℕ) (c l : ℕ) (d : Drawn) (level : Option ℕ)
    → IsReadTo ucd w p body at levels glyphs found waiting left rest → rest ≡ encode_utf8 c ++ behind → begins c ≡ true
    → simple_face ucd w c false ≡ Own 1 → new ≡ glyphs ++ d ∷ [] → glyph_of d ≡ single_glyph c → level ≡ get_or left 0 None → after ≡ drop 1 left
    → level ≡ Some l → next ≤ length found' → Reads p (ucd.class c) (found ++ l ∷ []) waiting found' next
    → IsReadTo ucd w p body at levels new found' next after behind
read-more ucd w p body at levels glyphs new found found' waiting next left after rest behind c l d level i e begin face pushed shown first after_is is within
    reads =
    record {
      cs = i.cs ++ c ∷ [];
      bytes = i.bytes ∙ ap (λ x. encode_utf8_all i.cs ++ x) e ∙ sym (append_assoc (encode_utf8_all i.cs) (encode_utf8 c) behind)
          ∙ ap (λ x. x ++ behind) (sym (encodes-push i.cs c));
      plain = plain-push ucd w i.cs c i.plain begin face;
      glyphs_are = ap (map glyph_of) pushed ∙ map-append glyph_of glyphs (d ∷ []) ∙ ap₂ (λ x y. x ++ y ∷ []) i.glyphs_are shown
          ∙ sym (map-append single_glyph i.cs (c ∷ []));
      count = reads-length p (ucd.class c) (found ++ l ∷ []) waiting found' next reads ∙ length_push found l ∙ ap (λ n. n + 1) i.count ∙ sym (length_push i.cs c);
      within = within;
      levels_are = λ more counts.
          ap₂ (λ x y. levels_from p [] 0 0 x (zip (map ucd.class y) levels)) (ones-push i.cs c counts) (append_assoc i.cs (c ∷ []) more)
          ∙ i.levels_are (c ∷ more) (1 ∷ counts)
          ∙ char-read ucd p false c more left after level found found' waiting next 0 counts first after_is
          (char-first p l (ucd.class c) false level found found' waiting next refl is i.within reads)
          ∙ ap (λ o. Rattle.bx_rows.specs.LevelReads.unit_from (Rattle.std.specs.Prelude.is_some o) p found' next 0 counts (zip (map ucd.class more) after)) is;
    }

-- ---- the row

pub none_if : (n : ℕ) → true ≡ (n == 0) → n ≡ 0
none_if n h = let e : (n == 0) ≡ true = sym h in grind (arith, nat_tests)

pub pushed-length : (old new : List Drawn) (d : Drawn) → new ≡ old ++ d ∷ [] → length new ≡ length old + 1
pushed-length old new d e = ap length e ∙ length-append old (d ∷ [])

taken-is : (us vs : List Unit) (n : ℕ) → length us ≤ n → (length us < n → vs ≡ []) → take n (us ++ vs) ≡ us
taken-is [] vs zero h none = refl
taken-is [] vs (suc n) h none = ap (take (suc n)) (none (omega arith))
taken-is (x ∷ us) vs zero h none = absurd (omega (arith, h))
taken-is (x ∷ us) vs (suc n) h none = ap (λ xs. x ∷ xs) (taken-is us vs n (omega (arith, h)) (λ less. none (omega (arith, less))))

-- the units read are the first ones
pub units-single : (ucd : Data) (w p : ℕ) (body : List ℕ) (at count : ℕ) (levels : List (Option ℕ)) (glyphs : List Drawn) (found : List ℕ) (waiting : ℕ)
    (left : List (Option ℕ)) (rest : List ℕ) → IsUtf8 body → IsCharBoundary body at → (i : IsReadTo ucd w p body at levels glyphs found waiting left rest)
    → IsClusterEnd rest → length glyphs ≤ count → (length glyphs < count → length rest ≡ 0) → take count (units_from ucd w body at) ≡ single_units at i.cs
units-single ucd w p body at count levels glyphs found waiting left rest u b i end few none =
    let all = single-from ucd w body at i.cs rest u b i.bytes i.plain end in
    let size = single-length at i.cs in
    let read = sym (length-map glyphs glyph_of) ∙ ap length i.glyphs_are ∙ length-map i.cs single_glyph in
    ap (take count) all
    ∙ taken-is (single_units at i.cs) (units_from ucd w body (length body - length rest)) count (omega (arith, size, read, few))
    (λ less. none-behind ucd w body (length body - length rest) (let empty = none (omega (arith, size, read, less)) in omega (arith, empty)))

same-levels : (ucd : Data) (each : List (Option ℕ)) (k m : ℕ) (cs : List ℕ) (us : List Unit) → length us ≡ length cs → (0 < length us → k ≡ m)
    → zip (map ucd.class cs) (drop k each) ≡ zip (map ucd.class cs) (drop m each)
same-levels ucd each k m [] us size h = refl
same-levels ucd each k m (c ∷ cs) us size h =
    let some : suc (length cs) ≡ length (c ∷ cs) = refl in
    ap (λ n. zip (map ucd.class (c ∷ cs)) (drop n each)) (h (omega (arith, size, some)))

-- the levels are those of the first units, once the waiting ones are settled
pub levels-are : (ucd : Data) (w p : ℕ) (body : List ℕ) (at count k : ℕ) (each : List (Option ℕ)) (glyphs : List Drawn) (found new : List ℕ)
    (waiting : ℕ) (left : List (Option ℕ)) (rest : List ℕ) (us : List Unit) → IsUtf8 body → IsCharBoundary body at
    → (i : IsReadTo ucd w p body at (drop k each) glyphs found waiting left rest) → us ≡ single_units at i.cs → (0 < length us → k ≡ chars_before body us)
    → new ≡ settled p waiting found → new ≡ row_levels ucd body p each us
levels-are ucd w p body at count k each glyphs found new waiting left rest us u b i own before settle =
    let cs = i.cs in
    let has = subst (λ x. HasChars body x cs) (sym own) (chars-single ucd w body at cs rest u b i.bytes i.plain) in
    let size = ap length own ∙ single-length at cs in
    settle ∙ sym (append-nil (settled p waiting found)) ∙ sym (i.levels_are [] [])
    ∙ ap₂ (λ x y. levels_from p [] 0 0 x (zip (map ucd.class y) (drop k each))) (append-nil (ones cs)) (append-nil cs)
    ∙ from-nothing p (ones cs) (zip (map ucd.class cs) (drop k each))
    ∙ ap (λ x. levels_or_before p (unit_levels (ones cs) (l1 p x))) (same-levels ucd each k (chars_before body us) cs us size before)
    ∙ ap₂ (λ x y. levels_or_before p (unit_levels x (l1 p (zip (map ucd.class y) (drop (chars_before body us) each))))) (sym has.counts) (sym has.all)
