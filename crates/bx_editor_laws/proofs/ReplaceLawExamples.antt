-- Worked examples, each from a law of replacing alone.
use Rattle.std.proofs.Common.{◌≡◌, ℕ, zero, suc, ◌<◌, ◌≤◌, false, List, [], ◌∷◌, ◌++◌, length, map, get_or, drop, refl, sym, ap, ap₂}
use Rattle.std.proofs.Common.{subst, ◌∙◌, arith, inl, inr}
use Rattle.std.specs.Prelude.{codes, encode_utf8_all, All, IsUtf8, Option, None}
use Rattle.std.specs.Fmt.{digits}
use Rattle.std.specs.Str.{chars}
use Rattle.std.proofs.lemmas.List.Elements.{All-cons, All-contains, All-head, All-nil, All-tail, All-weaker}
use Rattle.unicode_segmentation.proofs.Computing.{unicode_segmentation}
use Rattle.unicode_width.proofs.Computing.{unicode_width}
use Rattle.bx_common.specs.Characters.{largest_text}
use Rattle.bx_common.specs.declared.base.Base.TheVariants.{Auto}
use Rattle.bx_keys.specs.declared.key.Key.{Key}
use Rattle.bx_keys.specs.declared.key.Key.TheVariants.{Find, Insert, Replace, Undo}
use Rattle.bx_store.specs.declared.store.StoreFault.{StoreFault}
use Rattle.bx_find.specs.Nearest.{MatchesAt}
use Rattle.bx_find.specs.Letters.{letters}
use Rattle.bx_find.specs.Matches.{is_attached, match_end}
use Rattle.bx_find.specs.declared.letters.Reading.TheVariants.{Close}
use Rattle.bx_view.specs.Moves.{place_at}
use Rattle.bx_editor.specs.Editor.{Editor, rows}
use Rattle.bx_editor_laws.specs.ReplaceLaws.{with_all, AreApart, EnterReplaces, FindPassesOver, IsMatch, IsShowing, LiesIn}
use Rattle.bx_editor_laws.specs.ReplaceLaws.{MatchTakesMarks, ReplacedComesBack, ReplaceReplacesAll, SameLettersStay, ShownStands}
use Rattle.bx_editor.proofs.Computed.{tables, start, after, letters as keys_of}

abbrev enter : Key
enter = Insert 0xA

-- a match of the query is shown, to be replaced by the replacement
abbrev showing : List ℕ → List ℕ → List ℕ → Editor
showing text query other = after (start text 2 60) (Replace ∷ keys_of query ++ (enter ∷ keys_of other) ++ (enter ∷ []))

-- the letters of a text, closely read
abbrev spelt : List ℕ → List ℕ
spelt text = letters tables Close (chars text)

-- ---- the match that is shown

abbrev typed : List Key → List (Key × Option StoreFault)
typed keys = map (λ key. (key, None)) keys

pub b_stands_at_one : ShownStands → MatchesAt tables Close (codes "b") (codes "abcb") 1
unfolding unicode_segmentation unicode_width digits
b_stands_at_one law =
    let text : IsUtf8 (codes "abcb") = (codes "abcb", (refl, refl)) in
    (law tables (codes "abcb") 2 60 Auto (typed (Replace ∷ Insert 0x62 ∷ enter ∷ enter ∷ [])) (
      record { text = text; columns = refl },
      (
        record { text = text; columns = refl },
        (record { text = text; columns = refl }, (record { text = text; columns = refl }, record { text = text; columns = refl })),
      ),
    )
    refl).here

-- ---- one is replaced

-- the first b of abcb, to give way to XY
abbrev at_b : Editor
at_b = showing (codes "abcb") (codes "b") (codes "XY")

b_place : at_b.place ≡ 1
unfolding unicode_segmentation unicode_width digits
b_place = refl

b_at : place_at (rows tables at_b) at_b.at ≡ 1
unfolding unicode_segmentation unicode_width digits
b_at = refl

b_is_shown : IsShowing tables at_b
unfolding unicode_segmentation unicode_width digits
b_is_shown = record {
  text = (codes "abcb", (refl, refl));
  replacement = (codes "XY", (refl, refl));
  unasked = refl;
  settled = refl;
  writes = refl;
  shown = refl;
  stands = record { purpose_is = refl; here = ((omega arith, λ inside high. absurd (omega (arith, high))), refl); place_is = b_place ∙ sym b_at };
}

pub enter_puts_xy_in : EnterReplaces → let e = after at_b (enter ∷ []) in (e.content.text ≡ codes "aXYcb") × (e.count ≡ 1)
unfolding unicode_segmentation unicode_width digits
enter_puts_xy_in law = let one = (law tables at_b enter b_is_shown refl refl).fits (omega arith) in (one.text_is, one.count_is)

-- alef and bet, and a mark of direction behind each
abbrev at_alef : Editor
at_alef = showing (0x5d0 ∷ 0x200f ∷ 0x5d1 ∷ 0x200f ∷ 0x79 ∷ []) (0x5d0 ∷ 0x5d1 ∷ []) (codes "z")

alef_is_shown : IsShowing tables at_alef
unfolding unicode_segmentation unicode_width digits
alef_is_shown = record {
  text = (0x5d0 ∷ 0x200f ∷ 0x5d1 ∷ 0x200f ∷ 0x79 ∷ [], (refl, refl));
  replacement = (codes "z", (refl, refl));
  unasked = refl;
  settled = refl;
  writes = refl;
  shown = refl;
  stands = record { purpose_is = refl; here = ((omega arith, λ inside high. omega arith), refl); place_is = refl };
}

pub the_mark_behind_it_stays : EnterReplaces → (after at_alef (enter ∷ [])).content.text ≡ encode_utf8_all (0x7a ∷ 0x200f ∷ 0x79 ∷ [])
unfolding unicode_segmentation unicode_width digits
the_mark_behind_it_stays law = ((law tables at_alef enter alef_is_shown refl refl).fits (omega arith)).text_is

-- ---- one is passed over

b_stands_at_three : MatchesAt tables Close (codes "b") (codes "abcb") 3
unfolding unicode_segmentation unicode_width digits
b_stands_at_three = ((omega arith, λ inside high. absurd (omega (arith, high))), refl)

not_at_two : ¬ (MatchesAt tables Close (codes "b") (codes "abcb") 2)
unfolding unicode_segmentation unicode_width digits
not_at_two here = absurd (cc here.1)

-- the first from two on
is_three : (at : ℕ) → 2 ≤ at → at ≤ 3 → MatchesAt tables Close (codes "b") (codes "abcb") at → at ≡ 3
is_three zero from to here = absurd (omega (arith, from))
is_three (suc zero) from to here = absurd (omega (arith, from))
is_three (suc (suc zero)) from to here = absurd (not_at_two here)
is_three (suc (suc (suc zero))) from to here = refl
is_three (suc (suc (suc (suc at)))) from to here = absurd (omega (arith, to))

pub the_next_b_is_at_three : FindPassesOver → let e = after at_b (Find ∷ []) in (e.content.text ≡ codes "abcb") × (e.place ≡ 3)
unfolding unicode_segmentation unicode_width digits
the_next_b_is_at_three law =
    let passed = law tables at_b b_is_shown in
    let e = after at_b (Find ∷ []) in (
      ap (λ t. t.text) passed.content_is,
      elim passed.goes_on [
        | inl shown ↦
            let first = shown.1.0 in
            let at = is_three e.at first.not_before (first.least 3 (omega arith) b_stands_at_three) first.is_match in
            shown.1.1 ∙ ap (place_at (rows tables e)) at
        | inr ended ↦ absurd (ended.1.1 3 (omega arith) b_stands_at_three)
      ],
    )

-- ---- what was replaced comes back, and the same letters stay

pub xy_is_taken_back : ReplacedComesBack → let e = after at_b (enter ∷ Undo ∷ []) in (e.content.text ≡ codes "abcb") × (e.place ≡ 1)
unfolding unicode_segmentation unicode_width digits
xy_is_taken_back law = let back = law tables at_b enter refl refl refl refl (inl refl) (omega arith) in (back.text_is, back.unmarked.place_is)

pub both_are_taken_back : ReplacedComesBack → let e = after at_b (Replace ∷ Undo ∷ []) in (e.content.text ≡ codes "abcb") × (e.place ≡ 1)
unfolding unicode_segmentation unicode_width digits
both_are_taken_back law = let back = law tables at_b Replace refl refl refl refl (inr refl) (omega arith) in (back.text_is, back.unmarked.place_is)

-- alef and bet with points, for alef and bet with others
abbrev at_points : Editor
at_points = showing (0x78 ∷ 0x5d0 ∷ 0x301 ∷ 0x5d1 ∷ 0x301 ∷ 0x79 ∷ []) (0x5d0 ∷ 0x5d1 ∷ []) (0x5d0 ∷ 0x5d1 ∷ [])

points_place : at_points.place ≡ 1
unfolding unicode_segmentation unicode_width digits
points_place = refl

points_at : place_at (rows tables at_points) at_points.at ≡ 1
unfolding unicode_segmentation unicode_width digits
points_at = refl

points_are_shown : IsShowing tables at_points
unfolding unicode_segmentation unicode_width digits
points_are_shown = record {
  text = (0x78 ∷ 0x5d0 ∷ 0x301 ∷ 0x5d1 ∷ 0x301 ∷ 0x79 ∷ [], (refl, refl));
  replacement = (0x5d0 ∷ 0x5d1 ∷ [], (refl, refl));
  unasked = refl;
  settled = refl;
  writes = refl;
  shown = refl;
  stands = record { purpose_is = refl; here = ((omega arith, λ inside high. omega arith), refl); place_is = points_place ∙ sym points_at };
}

abbrev points_letters : List ℕ
points_letters = 0x78 ∷ 0x5d0 ∷ 0x5d1 ∷ 0x79 ∷ []

pub points_go_and_letters_stay : SameLettersStay
    → (spelt (after at_points (enter ∷ [])).content.text ≡ points_letters) × (spelt (after at_points (Replace ∷ [])).content.text ≡ points_letters)
unfolding unicode_segmentation unicode_width digits
points_go_and_letters_stay law = (law tables at_points enter points_are_shown (inl refl) refl, law tables at_points Replace points_are_shown (inr refl) refl)

-- the mark behind bet goes with it
pub no_match_ends_before_a_mark : MatchTakesMarks → (stop : ℕ) → IsMatch tables at_points (1, stop) → stop ≡ 7 → ⊥
unfolding unicode_segmentation unicode_width digits
no_match_ends_before_a_mark law stop is seven =
    let text = at_points.content.text in
    let left : is_attached tables 0x301 ≡ false =
    law tables at_points (1, stop) points_are_shown.text is 0x301 (0x79 ∷ []) (ap (λ n. chars (drop n text)) seven) in
    absurd (cc left)

-- ---- all are replaced

-- both b of bb, to give way to x
abbrev at_both : Editor
at_both = showing (codes "bb") (codes "b") (codes "x")

both_are_shown : IsShowing tables at_both
unfolding unicode_segmentation unicode_width digits
both_are_shown = record {
  text = (codes "bb", (refl, refl));
  replacement = (codes "x", (refl, refl));
  unasked = refl;
  settled = refl;
  writes = refl;
  shown = refl;
  stands = record { purpose_is = refl; here = ((omega arith, λ inside high. absurd (omega (arith, high))), refl); place_is = refl };
}

-- matches that lie apart begin in order
later : (from : ℕ) (spans : List (ℕ × ℕ)) → AreApart from spans → All (λ t. from ≤ t.0) spans
later from [] apart = All-nil (λ (t : ℕ × ℕ). from ≤ t.0)
later from (s ∷ ss) apart =
    All-cons (λ (t : ℕ × ℕ). from ≤ t.0) s ss apart.0
    (All-weaker (λ (t : ℕ × ℕ). s.1 ≤ t.0) (λ (t : ℕ × ℕ). from ≤ t.0) (λ t h. omega (arith, apart.0, apart.1.0, h)) ss (later s.1 ss apart.1.1))

-- so an offset at or before all of them can lie in the first alone
first_begins : (i from : ℕ) (s : ℕ × ℕ) (ss : List (ℕ × ℕ)) → AreApart from (s ∷ ss) → i ≤ from → LiesIn i (s ∷ ss) → s.0 ≡ i
first_begins i from s ss apart before lies =
    let order = All-contains (λ (t : ℕ × ℕ). s.0 ≤ t.0) (s ∷ ss) lies.0 (later s.0 (s ∷ ss) (omega arith, apart.1)) lies.1 in
    omega (arith, apart.0, before, order, lies.2)

-- behind both nothing stands
none_at : (n : ℕ) → 2 ≤ n → ¬ (MatchesAt tables Close (codes "b") (codes "bb") n)
unfolding unicode_segmentation unicode_width digits
none_at zero past here = absurd (omega (arith, past))
none_at (suc zero) past here = absurd (omega (arith, past))
none_at (suc (suc zero)) past here = absurd (cc here.1)
none_at (suc (suc (suc n))) past here = absurd (omega (arith, here.0.0))

abbrev AreMatches : List (ℕ × ℕ) → Type 0
AreMatches spans = All (IsMatch tables at_both) spans

none_behind : (from : ℕ) (spans : List (ℕ × ℕ)) → 2 ≤ from → AreApart from spans → AreMatches spans → spans ≡ []
unfolding unicode_segmentation unicode_width digits
none_behind from [] past apart are = refl
none_behind from (s ∷ ss) past apart are =
    absurd (none_at s.0 (omega (arith, past, apart.0)) (All-head (IsMatch tables at_both) s ss are).0)

-- the match that begins at an offset
begins_at : (s : ℕ × ℕ) (n : ℕ) → IsMatch tables at_both s → s.0 ≡ n → s ≡ (n, match_end tables Close (codes "b") (codes "bb") n)
unfolding unicode_segmentation unicode_width digits
begins_at s n is begins = ap₂ (λ (a b : ℕ). (a, b)) begins (is.1 ∙ ap (match_end tables Close (codes "b") (codes "bb")) begins)

first_at : (i from : ℕ) (s : ℕ × ℕ) (ss : List (ℕ × ℕ)) → AreApart from (s ∷ ss) → AreMatches (s ∷ ss) → i ≤ from → LiesIn i (s ∷ ss)
    → s ≡ (i, match_end tables Close (codes "b") (codes "bb") i)
first_at i from s ss apart are before lies =
    begins_at s i (All-head (IsMatch tables at_both) s ss are) (first_begins i from s ss apart before lies)

-- the second is the last
second : (spans : List (ℕ × ℕ)) → AreApart 1 spans → AreMatches spans → LiesIn 1 spans → spans ≡ (1, 2) ∷ []
unfolding unicode_segmentation unicode_width digits
second [] apart are lies = absurd (omega (arith, lies.1.1))
second (s ∷ ss) apart are lies =
    let here : s ≡ (1, 2) = first_at 1 1 s ss apart are (omega arith) lies in
    let stop : 2 ≤ s.1 = omega (arith, ap (λ (t : ℕ × ℕ). t.1) here) in
    let none = none_behind s.1 ss stop apart.1.1 (All-tail (IsMatch tables at_both) s ss are) in ap₂ (λ (t : ℕ × ℕ) (ts : List (ℕ × ℕ)). t ∷ ts) here none

lies_behind : (s t : ℕ × ℕ) (ss : List (ℕ × ℕ)) (i : ℕ) → s.1 ≤ 1 → i < length (s ∷ ss) → get_or (s ∷ ss) i t ≡ t → t.0 ≤ 1 → 1 < t.1
    → LiesIn 1 ss
lies_behind s t ss zero stop inside is before after = absurd (omega (arith, stop, after, ap (λ (u : ℕ × ℕ). u.1) is))
lies_behind s t ss (suc i) stop inside is before after = (t, (i, omega (arith, inside), is), before, after)

behind_first : (s : ℕ × ℕ) (ss : List (ℕ × ℕ)) → s.1 ≤ 1 → LiesIn 1 (s ∷ ss) → LiesIn 1 ss
behind_first s ss stop lies = lies_behind s lies.0 ss lies.1.0 stop lies.1.1 lies.1.2 lies.2 lies.3

both : (spans : List (ℕ × ℕ)) → AreApart 0 spans → AreMatches spans → LiesIn 0 spans → LiesIn 1 spans → spans ≡ (0, 1) ∷ (1, 2) ∷ []
unfolding unicode_segmentation unicode_width digits
both [] apart are lies also = absurd (omega (arith, lies.1.1))
both (s ∷ ss) apart are lies also =
    let here : s ≡ (0, 1) = first_at 0 0 s ss apart are (omega arith) lies in
    let stop : s.1 ≡ 1 = ap (λ (t : ℕ × ℕ). t.1) here in
    let rest = second ss (subst (λ n. AreApart n ss) stop apart.1.1) (All-tail (IsMatch tables at_both) s ss are) (behind_first s ss (omega (arith, stop)) also) in
    ap₂ (λ (t : ℕ × ℕ) (ts : List (ℕ × ℕ)). t ∷ ts) here rest

pub both_are_replaced : ReplaceReplacesAll → let e = after at_both (Replace ∷ []) in (e.content.text ≡ codes "xx") × (e.count ≡ 2)
unfolding unicode_segmentation unicode_width digits
both_are_replaced law =
    let all = law tables at_both both_are_shown in
    let first : MatchesAt tables Close (codes "b") (codes "bb") 0 = ((omega arith, λ inside high. absurd (omega (arith, high))), refl) in
    let next : MatchesAt tables Close (codes "b") (codes "bb") 1 = ((omega arith, λ inside high. absurd (omega (arith, high))), refl) in
    let are = both all.spans all.are.apart all.are.are_matches (all.are.all 0 (omega arith) first) (all.are.all 1 (omega arith) next) in
    let text : with_all at_both all.spans ≡ codes "xx" = ap (with_all at_both) are in
    let put = all.fits (subst (λ bytes. length bytes ≤ largest_text) (sym text) (omega arith)) in
    (put.text_is ∙ text, omega (arith, put.count_is, ap (λ (ss : List (ℕ × ℕ)). length ss) are))
