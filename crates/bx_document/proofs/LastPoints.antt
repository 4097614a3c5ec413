-- The last character of a unit, and the bytes of those before it.
use Rattle.std.proofs.Common.{◌≡◌, ℕ, Bool, true, false, ◌+◌, ◌-◌, ◌≤◌, List, [], ◌∷◌, ◌++◌, length, take, drop, get_or, chars, slice_range, IsUtf8, IsCharBoundary}
use Rattle.std.proofs.Common.{refl, sym, ap, ap₂, subst, ◌∙◌, ⊎_elim, arith, append-nil, length-append}
use Rattle.std.specs.Prelude.{encode_utf8, encode_utf8_all}
use Rattle.std.proofs.Math.Seq.{drop-append_seam, take-append_seam, get_or-append_seam}
use Rattle.std.proofs.lemmas.Bool.{cases_lt}
use Rattle.std.proofs.lemmas.List.{get_or-drop, get_or-take}
use Rattle.std.proofs.lemmas.Str.{chars-append, chars-nil, chars_past_char, encodes-chars, IsCharBoundary-from_take, IsUtf8-drop}
use Rattle.unicode_segmentation.proofs.TextLemmas.{length-slice_range}
use Rattle.bx_text.specs.Changes.{IsRange}
use Rattle.bx_ucd.specs.Data.{Data}
use Rattle.bx_document.specs.Points.{before_last, is_point, last_character, point_start}

pub chars-to-last : (bs before : List ℕ) (c : ℕ) → IsUtf8 bs → IsUtf8 before → bs ≡ before ++ encode_utf8 c → chars bs ≡ chars before ++ c ∷ []
chars-to-last bs before c u v e =
    let n = length before in
    let front : take n bs ≡ before = ap (take n) e ∙ take-append_seam before (encode_utf8 c) in
    let back : drop n bs ≡ encode_utf8 c = ap (drop n) e ∙ drop-append_seam before (encode_utf8 c) in
    let within : n ≤ length bs = omega (arith, ap length e, length-append before (encode_utf8 c)) in
    let boundary : IsCharBoundary bs n = IsCharBoundary-from_take bs n u within (subst IsUtf8 (sym front) v) in
    let w : IsUtf8 (encode_utf8 c) = subst IsUtf8 back (IsUtf8-drop bs n u boundary) in
    let one : chars (encode_utf8 c) ≡ c ∷ [] =
    chars_past_char (encode_utf8 c) [] c w (sym (append-nil (encode_utf8 c))) ∙ ap (λ cs. c ∷ cs) chars-nil in
    ap chars e ∙ chars-append before (encode_utf8 c) v ∙ ap (λ cs. chars before ++ cs) one

module _ (bs before : List ℕ) (c : ℕ) (v : IsUtf8 before) (e : chars bs ≡ chars before ++ c ∷ []) where
  count : length (chars bs) - 1 ≡ length (chars before)
  count = omega (arith, ap length e, length-append (chars before) (c ∷ []))

  pub last-is : last_character (chars bs) ≡ c
  last-is = ap₂ (λ cs k. get_or cs k 0) e count ∙ get_or-append_seam (chars before) c [] 0

  pub before-is : before_last (chars bs) ≡ before
  before-is = ap₂ (λ cs k. encode_utf8_all (take k cs)) e count ∙ ap encode_utf8_all (take-append_seam (chars before) (c ∷ [])) ∙ encodes-chars before v

-- the last character of a text begins at a boundary
pub last-bounds : (bs before : List ℕ) (c : ℕ) → IsUtf8 bs → IsUtf8 before → bs ≡ before ++ encode_utf8 c → IsCharBoundary bs (length before)
last-bounds bs before c u v e =
    let front : take (length before) bs ≡ before = ap (take (length before)) e ∙ take-append_seam before (encode_utf8 c) in
    IsCharBoundary-from_take bs (length before) u (omega (arith, ap length e, length-append before (encode_utf8 c))) (subst IsUtf8 (sym front) v)

-- a boundary of a part of a text is one of the text
pub part-range : (text : List ℕ) (start stop k : ℕ) → IsRange text start stop → IsCharBoundary (slice_range text start stop) k
    → IsRange text (start + k) stop
part-range text start stop k range b =
    let part = slice_range text start stop in
    let end : IsCharBoundary text stop = range.stop_bounds in
    let order : start ≤ stop = range.in_order in
    let inside : stop ≤ length text = end.0 in
    let size : length part ≡ stop - start = length-slice_range text start stop inside in
    let upto : k ≤ length part = b.0 in
    let bounds : IsCharBoundary text (start + k) =
    ⊎_elim
    (λ less.
    let same : get_or part k 0 ≡ get_or text (start + k) 0 =
    get_or-take (stop - start) (drop start text) k 0 (omega (arith, less, size)) ∙ get_or-drop start text k 0 in
    (omega (arith, upto, size, order, inside), λ within big. subst (λ v. 192 ≤ v) same (b.1 less (subst (λ v. 128 ≤ v) (sym same) big))))
    (λ not. let whole : stop ≡ start + k = omega (arith, upto, size, order, not) in subst (IsCharBoundary text) whole end)
    (cases_lt k (length part)) in
    record { start_bounds = bounds; stop_bounds = end; in_order = omega (arith, upto, size, order) }

-- ---- where a point begins

module _ (ucd : Data) where
  none-at : (b : Bool) → ◌≡◌ {A = ℕ} 0 (elim b [ true ↦ length (before_last []) | false ↦ 0 ])
  none-at true = refl
  none-at false = refl

  pub of-nothing : (unit : List ℕ) → length unit ≡ 0 → 0 ≡ point_start ucd unit
  of-nothing [] h =
      none-at (is_point ucd (last_character []))
      ∙ sym (ap (λ cs. elim (is_point ucd (last_character cs)) [ true ↦ length (before_last cs) | false ↦ 0 ]) chars-nil)
  of-nothing (b ∷ bs) h = absurd (omega (arith, h))

  module _ (unit before : List ℕ) (c : ℕ) (v : IsUtf8 before) (e : chars unit ≡ chars before ++ c ∷ []) where
    starts : point_start ucd unit ≡ elim (is_point ucd c) [ true ↦ length before | false ↦ 0 ]
    starts = ap₂ (λ x k. elim (is_point ucd x) [ true ↦ length k | false ↦ 0 ]) (last-is unit before c v e) (before-is unit before c v e)

    pub of-point : is_point ucd c ≡ true → length before ≡ point_start ucd unit
    of-point p = sym (starts ∙ ap (λ t. elim t [ true ↦ length before | false ↦ 0 ]) p)

    pub of-other : is_point ucd c ≡ false → 0 ≡ point_start ucd unit
    of-other p = sym (starts ∙ ap (λ t. elim t [ true ↦ length before | false ↦ 0 ]) p)
