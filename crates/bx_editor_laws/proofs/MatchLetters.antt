-- The letters of a match, closely read, are the sought ones; so they are of a text with other ones in place of its matches.
use Rattle.std.proofs.Common.{◌≡◌, ◌≤◌, ◌<◌, ◌+◌, ◌-◌, ◌∙◌, ℕ, zero, suc, Bool, true, false, List, [], ◌∷◌, ◌++◌, length, take, drop, chars, refl, sym, ap, ap₂, subst}
use Rattle.std.proofs.Common.{arith, if◌then◌else◌, length-append, append_assoc, IsCharBoundary}
use Rattle.std.specs.Prelude.{◌==◌, ◌||◌, encode_utf8, encode_utf8_all, slice_range, IsUtf8}
use Rattle.std.specs.Char.{to_ascii_lowercase}
use Rattle.std.proofs.lemmas.Bool.{and_from, and_parts}
use Rattle.std.proofs.lemmas.Bool.Decides.{nat_tests}
use Rattle.std.proofs.lemmas.List.{take-append-drop, take_at}
use Rattle.std.proofs.lemmas.List.Concat.{flat_map-append}
use Rattle.std.proofs.lemmas.List.Folds.{drop_split}
use Rattle.std.proofs.lemmas.Str.{chars-append, chars-encodes, encodes-append, encodes-chars, scalars-chars, IsUtf8-between, IsUtf8-drop, IsUtf8-take}
use lib.Utf8.{scalar, scalars}
use Rattle.bx_ucd.specs.Class.{is_unlettered}
use Rattle.bx_ucd.specs.Data.{Data}
use Rattle.bx_ucd.specs.declared.class.Class.{Class}
use Rattle.bx_ucd.specs.declared.class.Class.TheVariants.{NSM}
use Rattle.bx_common.specs.Characters.{is_direction_mark}
use Rattle.bx_find.specs.declared.letters.Reading.TheVariants.{Close}
use Rattle.bx_find_laws.specs.Laws.{AreSpans}
use Rattle.bx_find.specs.Nearest.{MatchesAt}
use Rattle.bx_find.specs.Letters.{is_passed_over, letters, letters_of}
use Rattle.bx_find.specs.Matches.{begins, begins_some, is_match, is_some, behind_letters, is_attached, match_end}
use Rattle.bx_ucd.specs.Class.{is_nsm}
use Rattle.bx_find.proofs.Offsets.{widths, width-some, widths-more}
use Rattle.bx_find.proofs.SpansOf.{end_bound, ends_here, goes_on}
use Rattle.bx_document.specs.Swapped.{last_stop, swapped}

-- ---- lists that begin with others

pub begins-take : (q cs : List ℕ) → begins q cs ≡ true → (length q ≤ length cs) × (take (length q) cs ≡ q)
begins-take [] cs h = (omega arith, refl)
begins-take (q ∷ qs) [] h = absurd (cc h)
begins-take (q ∷ qs) (c ∷ cs) h =
    let both = and_parts (q == c) (begins qs cs) h in
    let same : q ≡ c = grind (arith, nat_tests, both.0) in
    let rest = begins-take qs cs both.1 in (omega (arith, rest.0), ap₂ ◌∷◌ (sym same) rest.1)

some-begins : (q cs : List ℕ) → begins_some q cs ≡ true → (0 < length q) × (begins q cs ≡ true)
some-begins [] cs h = absurd (cc h)
some-begins (q ∷ qs) cs h = (omega arith, h)

scalars-front : (front rest : List ℕ) → scalars (front ++ rest) ≡ true → scalars front ≡ true
scalars-front [] rest h = refl
scalars-front (c ∷ front) rest h =
    let both = and_parts (scalar c) (scalars (front ++ rest)) h in and_from (scalar c) (scalars front) both.0 (scalars-front front rest both.1)

-- ---- attached characters give no letters

nonspacing-none : (class : Class) → is_nsm class ≡ true → is_unlettered class ≡ true
nonspacing-none NSM h = refl
nonspacing-none _ h = absurd (cc h)

or-weaker : (a b c e : Bool) → (a ≡ true → c ≡ true) → (a || b) ≡ true → (c || (b || e)) ≡ true
or-weaker true b c e h is = ap (λ x. x || (b || e)) (h refl)
or-weaker false true true e h is = refl
or-weaker false true false e h is = refl
or-weaker false false c e h is = absurd (cc is)

module _ (d : Data) where
  attached-passed : (c : ℕ) → is_attached d c ≡ true → is_passed_over d c ≡ true
  attached-passed c h =
      or-weaker (is_nsm (d.class c)) (c == 0x640) (is_unlettered (d.class c)) (is_direction_mark c) (nonspacing-none (d.class c)) h

  no-letter : (c : ℕ) → is_passed_over d c ≡ true → letters_of d Close c ≡ []
  no-letter c passed = ap (λ b. if b then [] else to_ascii_lowercase c ∷ []) passed

  one-letter : (c : ℕ) → is_passed_over d c ≡ false → letters_of d Close c ≡ to_ascii_lowercase c ∷ []
  one-letter c kept = ap (λ b. if b then [] else to_ascii_lowercase c ∷ []) kept

  -- ---- the characters up to an end

  -- the end is behind a beginning of the characters, which gives their first letters
  record Reads (n at : ℕ) (cs : List ℕ) (end : ℕ) : Type 0 where
    pub front : List ℕ
    pub rest : List ℕ
    pub whole : cs ≡ front ++ rest
    pub offset : end ≡ at + widths front
    pub letters_are : letters d Close front ≡ take n (letters d Close cs)

  reads-nowhere : (at : ℕ) (cs : List ℕ) (end : ℕ) → end ≡ at → Reads 0 at cs end
  reads-nowhere at cs end e = record { front = []; rest = cs; whole = refl; offset = omega (arith, e); letters_are = refl }

  reads-more : (n m at c : ℕ) (cs : List ℕ) (end : ℕ) → letters_of d Close c ++ take m (letters d Close cs) ≡ take n (letters d Close (c ∷ cs))
      → Reads m (at + length (encode_utf8 c)) cs end → Reads n at (c ∷ cs) end
  reads-more n m at c cs end e h =
      record {
        front = c ∷ h.front;
        rest = h.rest;
        whole = ap (λ ds. c ∷ ds) h.whole;
        offset = omega (arith, h.offset, widths-more c h.front);
        letters_are = ap (λ (ls : List ℕ). letters_of d Close c ++ ls) h.letters_are ∙ e;
      }

  -- a character that gives no letter is read
  reads-passed : (n at c : ℕ) (cs : List ℕ) → is_passed_over d c ≡ true → (n ≡ 0 → is_attached d c ≡ true)
      → Reads n (at + length (encode_utf8 c)) cs (behind_letters d Close n (at + length (encode_utf8 c)) cs)
      → Reads n at (c ∷ cs) (behind_letters d Close n at (c ∷ cs))
  reads-passed n at c cs passed attached more =
      let none = no-letter c passed in
      let all : n - length (letters_of d Close c) ≡ n = omega (arith, ap length none) in
      subst (Reads n at (c ∷ cs)) (sym (goes_on d Close n at c cs attached ∙ ap (λ m. behind_letters d Close m (at + length (encode_utf8 c)) cs) all))
      (reads-more n n at c cs (behind_letters d Close n (at + length (encode_utf8 c)) cs)
      (ap (λ (ls : List ℕ). ls ++ take n (letters d Close cs)) none ∙ ap (λ (ls : List ℕ). take n (ls ++ letters d Close cs)) (sym none)) more)

  -- a character that gives a letter is read
  reads-letter : (n at c : ℕ) (cs : List ℕ) → is_passed_over d c ≡ false
      → Reads n (at + length (encode_utf8 c)) cs (behind_letters d Close n (at + length (encode_utf8 c)) cs)
      → Reads (suc n) at (c ∷ cs) (behind_letters d Close (suc n) at (c ∷ cs))
  reads-letter n at c cs kept more =
      let one = one-letter c kept in
      let left : suc n - length (letters_of d Close c) ≡ n = omega (arith, ap length one) in
      subst (Reads (suc n) at (c ∷ cs)) (sym (ap (λ m. behind_letters d Close m (at + length (encode_utf8 c)) cs) left))
      (reads-more (suc n) n at c cs (behind_letters d Close n (at + length (encode_utf8 c)) cs)
      (ap (λ (ls : List ℕ). ls ++ take n (letters d Close cs)) one ∙ ap (λ (ls : List ℕ). take (suc n) (ls ++ letters d Close cs)) (sym one)) more)

  few-behind : (n c : ℕ) (cs ls : List ℕ) → letters_of d Close c ≡ ls → n ≤ length (letters d Close (c ∷ cs)) → n - length ls ≤ length (letters d Close cs)
  few-behind n c cs ls e few = omega (arith, few, ap length e, length-append (letters_of d Close c) (letters d Close cs))

  reads-by : (n at c : ℕ) (cs : List ℕ) (attached passed : Bool) → is_attached d c ≡ attached → is_passed_over d c ≡ passed → n ≤ length (letters d Close (c ∷ cs))
      → ((m : ℕ) → m ≤ length (letters d Close cs) → Reads m (at + length (encode_utf8 c)) cs (behind_letters d Close m (at + length (encode_utf8 c)) cs))
      → Reads n at (c ∷ cs) (behind_letters d Close n at (c ∷ cs))
  reads-by zero at c cs false passed e f few more = reads-nowhere at (c ∷ cs) (behind_letters d Close 0 at (c ∷ cs)) (ends_here d Close 0 at c cs refl e)
  reads-by zero at c cs true passed e f few more = reads-passed zero at c cs (attached-passed c e) (λ none. e) (more 0 (omega arith))
  reads-by (suc n) at c cs attached true e f few more =
      reads-passed (suc n) at c cs f (λ none. absurd (omega (arith, none))) (more (suc n) (omega (arith, few-behind (suc n) c cs [] (no-letter c f) few)))
  reads-by (suc n) at c cs attached false e f few more =
      reads-letter n at c cs f (more n (omega (arith, few-behind (suc n) c cs (to_ascii_lowercase c ∷ []) (one-letter c f) few)))

  reads : (n at : ℕ) (cs : List ℕ) → n ≤ length (letters d Close cs) → Reads n at cs (behind_letters d Close n at cs)
  reads zero at [] few = reads-nowhere at [] at refl
  reads (suc n) at [] few = absurd (omega (arith, few))
  reads n at (c ∷ cs) few =
      reads-by n at c cs (is_attached d c) (is_passed_over d c) refl refl few (λ m left. reads m (at + length (encode_utf8 c)) cs left)

  -- ---- a match

  match-begins : (sought cs : List ℕ) → is_match d Close sought cs ≡ true → begins_some sought (letters d Close cs) ≡ true
  match-begins sought [] h = absurd (cc h)
  match-begins sought (c ∷ cs) h = (and_parts (is_some (letters_of d Close c)) (begins_some sought (letters d Close (c ∷ cs))) h).1

  -- the characters of a match, and those behind it
  pub record Stretch (sought text : List ℕ) (at : ℕ) : Type 0 where
    pub front : List ℕ
    pub rest : List ℕ
    pub whole : chars (drop at text) ≡ front ++ rest
    pub stop : match_end d Close sought text at ≡ at + widths front
    pub some : 0 < widths front
    pub letters_are : letters d Close front ≡ sought

  some-wide : (front sought : List ℕ) → letters d Close front ≡ sought → 0 < length sought → 0 < widths front
  some-wide [] sought e some = absurd (omega (arith, some, ap length e))
  some-wide (c ∷ front) sought e some = omega (arith, width-some c, widths-more c front)

  pub stretch : (sought text : List ℕ) (at : ℕ) → MatchesAt d Close sought text at → Stretch sought text at
  stretch sought text at h =
      let cs = chars (drop at text) in
      let begun = some-begins sought (letters d Close cs) (match-begins sought cs h.1) in
      let front = begins-take sought (letters d Close cs) begun.1 in
      let read = reads (length sought) at cs front.0 in
      let same : letters d Close read.front ≡ sought = read.letters_are ∙ front.1 in
      record {
        front = read.front;
        rest = read.rest;
        whole = read.whole;
        stop = read.offset;
        some = some-wide read.front sought same begun.0;
        letters_are = same;
      }

  -- ---- the letters of a text

  abbrev pub spelt : List ℕ → List ℕ
  spelt text = letters d Close (chars text)

  pub spelt-append : (xs ys : List ℕ) → IsUtf8 xs → spelt (xs ++ ys) ≡ spelt xs ++ spelt ys
  spelt-append xs ys u = ap (letters d Close) (chars-append xs ys u) ∙ flat_map-append (letters_of d Close) (chars xs) (chars ys)

  module _ (text : List ℕ) (u : IsUtf8 text) where
    abbrev part : ℕ → ℕ → List ℕ
    part start stop = slice_range text start stop

    -- a match has the sought letters
    front-chars : (front rest : List ℕ) (at : ℕ) → IsCharBoundary text at → chars (drop at text) ≡ front ++ rest → chars (take (widths front) (drop at text)) ≡ front
    front-chars front rest at b whole =
        let v = IsUtf8-drop text at u b in
        let bytes : drop at text ≡ encode_utf8_all front ++ encode_utf8_all rest =
        sym (encodes-chars (drop at text) v) ∙ ap encode_utf8_all whole ∙ encodes-append front rest in
        ap chars (ap (take (widths front)) bytes ∙ take_at (encode_utf8_all front) (encode_utf8_all rest) (widths front) refl)
        ∙ chars-encodes front (scalars-front front rest (ap scalars (sym whole) ∙ scalars-chars (drop at text) v))

    pub match-letters : (sought : List ℕ) (at : ℕ) → MatchesAt d Close sought text at → spelt (part at (match_end d Close sought text at)) ≡ sought
    match-letters sought at h =
        let s = stretch sought text at h in
        let wide : match_end d Close sought text at - at ≡ widths s.front = omega (arith, s.stop) in
        ap (λ n. spelt (take n (drop at text))) wide ∙ ap (letters d Close) (front-chars s.front s.rest at h.0 s.whole) ∙ s.letters_are

    pub match-some : (sought : List ℕ) (at : ℕ) → MatchesAt d Close sought text at → at < match_end d Close sought text at
    match-some sought at h = let s = stretch sought text at h in omega (arith, s.stop, s.some)

    pub match-bound : (sought : List ℕ) (at : ℕ) → MatchesAt d Close sought text at → IsCharBoundary text (match_end d Close sought text at)
    match-bound sought at h = end_bound d Close sought text u at h.0

    -- ---- other letters in place of some

    cut-letters : (start stop : ℕ) → start ≤ stop → IsCharBoundary text start → IsCharBoundary text stop
        → spelt (drop start text) ≡ spelt (part start stop) ++ spelt (drop stop text)
    cut-letters start stop h b c =
        ap spelt (drop_split text start stop h) ∙ spelt-append (part start stop) (drop stop text) (IsUtf8-between text start stop u h b c)

    -- the same ones in place of a text's end
    pub end-letters : (start : ℕ) (new : List ℕ) → IsCharBoundary text start → spelt new ≡ spelt (drop start text) → spelt (take start text ++ new) ≡ spelt text
    end-letters start new b same =
        let v = IsUtf8-take text start u b in
        spelt-append (take start text) new v ∙ ap (λ (ls : List ℕ). spelt (take start text) ++ ls) same
        ∙ sym (ap spelt (sym (take-append-drop start text)) ∙ spelt-append (take start text) (drop start text) v)

    pub one-swapped : (start stop : ℕ) (other : List ℕ) → start ≤ stop → IsCharBoundary text start → IsCharBoundary text stop → IsUtf8 other
        → spelt other ≡ spelt (part start stop) → spelt (other ++ drop stop text) ≡ spelt (drop start text)
    one-swapped start stop other h b c v same =
        spelt-append other (drop stop text) v ∙ ap (λ (ls : List ℕ). ls ++ spelt (drop stop text)) same ∙ sym (cut-letters start stop h b c)

    module _ (sought other : List ℕ) (v : IsUtf8 other) (same : spelt other ≡ sought) where
      abbrev behind : ℕ → List (ℕ × ℕ) → List ℕ
      behind start spans = swapped start text other spans ++ drop (last_stop start spans) text

      behind-more : (start : ℕ) (s : ℕ × ℕ) (ss : List (ℕ × ℕ)) → behind start (s ∷ ss) ≡ part start s.0 ++ (other ++ behind s.1 ss)
      behind-more start s ss =
          append_assoc (part start s.0 ++ other) (swapped s.1 text other ss) (drop (last_stop s.1 ss) text)
          ∙ append_assoc (part start s.0) other (behind s.1 ss)

      pub all-swapped : (start : ℕ) (spans : List (ℕ × ℕ)) → IsCharBoundary text start → AreSpans d Close sought text start spans
          → spelt (behind start spans) ≡ spelt (drop start text)
      all-swapped start [] b are = refl
      all-swapped start (s ∷ ss) b are =
          let first = are.0 in
          let here = first.is_match in
          let stop = are.1 in
          let ends : IsCharBoundary text s.1 = subst (IsCharBoundary text) (sym stop) (match-bound sought s.0 here) in
          let after : s.0 ≤ s.1 = omega (arith, stop, match-some sought s.0 here) in
          let spells : spelt other ≡ spelt (part s.0 s.1) = same ∙ sym (ap (λ n. spelt (part s.0 n)) stop ∙ match-letters sought s.0 here) in
          ap spelt (behind-more start s ss)
          ∙ spelt-append (part start s.0) (other ++ behind s.1 ss) (IsUtf8-between text start s.0 u first.not_before b here.0)
          ∙ ap (λ (ls : List ℕ). spelt (part start s.0) ++ ls)
          (spelt-append other (behind s.1 ss) v ∙ ap (λ (ls : List ℕ). spelt other ++ ls) (all-swapped s.1 ss ends are.2)
          ∙ ap (λ (ls : List ℕ). ls ++ spelt (drop s.1 text)) spells ∙ sym (cut-letters s.0 s.1 after here.0 ends))
          ∙ sym (cut-letters start s.0 first.not_before b here.0)
