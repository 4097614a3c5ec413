-- The slot that a column leads to among the slots of a row.
use Rattle.std.proofs.Common.{◌≡◌, ◌⊎◌, ℕ, zero, suc, ◌+◌, ◌-◌, ◌<◌, ◌≤◌, ◌&&◌, nat_le, nat_lt, min, max, cond, Bool, true, false}
use Rattle.std.proofs.Common.{List, [], ◌∷◌, ◌++◌, length, map, reverse, find, Option, Some, None, option_map, refl, sym, ap, subst, ◌∙◌, arith, inl, inr, ⊎_elim}
use Rattle.std.specs.Prelude.{All, Contains}
use Rattle.std.specs.Option.{option_or}
use Rattle.std.proofs.lemmas.Bool.{and_parts, cases_lt}
use Rattle.std.proofs.lemmas.Bool.Decides.{nat_tests}
use Rattle.std.proofs.lemmas.List.{length-map, length-reverse, map-append, reverse-append}
use Rattle.std.proofs.lemmas.List.Elements.{All-append, All-cons, All-contains, All-nil, All-weaker, Contains-append_left, Contains-append_right}
use Rattle.std.proofs.lemmas.List.Folds.{find-append}
use Rattle.std.proofs.lemmas.List.Sums.{sum_by-cons}
use Rattle.bx_paragraph.specs.declared.moves.Visual.TheVariants.{Left, Right}
use Rattle.bx_paragraph.specs.declared.slots.Slot.{Slot}
use Rattle.bx_paragraph.specs.Slots.{covers, first_in, opposite, or_else, side_by_side, slot, toward}
use Rattle.bx_view_laws.specs.Entry.{Covers, IsNearest}
use Rattle.bx_view.proofs.CellColumns.{end_of, left_of, total}

abbrev offset_of : Slot → ℕ
offset_of s = s.offset

here : (s : Slot) (ss : List Slot) → Contains (s ∷ ss) s
here s ss = (0, omega arith, refl)

there : (s : Slot) (ss : List Slot) (t : Slot) → Contains ss t → Contains (s ∷ ss) t
there s ss t c = Contains-append_right (s ∷ []) ss t c

-- ---- a search

fails-by : (p : Slot → Bool) (s : Slot) (ss : List Slot) (b : Bool) → p s ≡ b → cond b (Some s) (find p ss) ≡ None
    → (find p ss ≡ None → All (λ t. p t ≡ false) ss) → All (λ t. p t ≡ false) (s ∷ ss)
fails-by p s ss true e none rest = absurd (cc)
fails-by p s ss false e none rest = All-cons (λ t. p t ≡ false) s ss e (rest none)

fails : (p : Slot → Bool) (ss : List Slot) → find p ss ≡ None → All (λ t. p t ≡ false) ss
fails p [] none = All-nil (λ t. p t ≡ false)
fails p (s ∷ ss) none = fails-by p s ss (p s) refl none (fails p ss)

found-by : (p : Slot → Bool) (s : Slot) (ss : List Slot) (t : Slot) (b : Bool) → p s ≡ b → cond b (Some s) (find p ss) ≡ Some t
    → (find p ss ≡ Some t → Contains ss t × (p t ≡ true)) → Contains (s ∷ ss) t × (p t ≡ true)
found-by p s ss t true e is rest =
    let same : s ≡ t = cc in subst (λ x. Contains (s ∷ ss) x × (p x ≡ true)) same (here s ss, e)
found-by p s ss t false e is rest = let later = rest is in (there s ss t later.0, later.1)

found : (p : Slot → Bool) (ss : List Slot) (t : Slot) → find p ss ≡ Some t → Contains ss t × (p t ≡ true)
found p [] t is = absurd (cc)
found p (s ∷ ss) t is = found-by p s ss t (p s) refl is (found p ss t)

-- ---- columns

pub covered-in : (column : ℕ) (s : Slot) → covers column s ≡ true → (s.column ≤ column) × (column < s.column + s.columns)
covered-in column s e =
    let p = and_parts (nat_le s.column column) (nat_lt column (s.column + s.columns)) e in
    let low : nat_le s.column column ≡ true = p.0 in
    let high : nat_lt column (s.column + s.columns) ≡ true = p.1 in
    let from : s.column ≤ column = grind (arith, nat_tests) in
    let upto : column < s.column + s.columns = grind (arith, nat_tests) in (from, upto)

pub both-hold : (a b : Bool) → a ≡ true → b ≡ true → (a && b) ≡ true
both-hold a b e f = rw (e, f) refl

-- a slot that begins at or before a column and does not cover it ends at or before it
ends-before : (column : ℕ) (s : Slot) → covers column s ≡ false → s.column ≤ column → s.column + s.columns ≤ column
ends-before column s e from = ⊎_elim
    (λ inside.
    let low : nat_le s.column column ≡ true = grind (arith, nat_tests) in
    let high : nat_lt column (s.column + s.columns) ≡ true = grind (arith, nat_tests) in
    let is = both-hold (nat_le s.column column) (nat_lt column (s.column + s.columns)) low high in
    let never : false ≡ true = sym e ∙ is in absurd (cc))
    (λ past. past) (cases_lt column (s.column + s.columns))

-- ---- slots side by side

side-from : (at : ℕ) (us : List (ℕ × ℕ)) → All (λ t. at ≤ t.column) (side_by_side at us)
side-from at [] = All-nil (λ (t : Slot). at ≤ t.column)
side-from at (u ∷ us) =
    All-cons (λ (t : Slot). at ≤ t.column) (slot u.0 at u.1) (side_by_side (at + u.1) us) (omega arith)
    (All-weaker (λ (t : Slot). at + u.1 ≤ t.column) (λ t. at ≤ t.column) (λ t h. omega (arith, h)) (side_by_side (at + u.1) us) (side-from (at + u.1) us))

side-upto : (at : ℕ) (us : List (ℕ × ℕ)) → All (λ t. t.column ≤ at + total us) (side_by_side at us)
side-upto at [] = All-nil (λ (t : Slot). t.column ≤ at + total [])
side-upto at (u ∷ us) =
    let sum = sum_by-cons (λ (x : ℕ × ℕ). x.1) u us in
    All-cons (λ (t : Slot). t.column ≤ at + total (u ∷ us)) (slot u.0 at u.1) (side_by_side (at + u.1) us) (omega arith)
    (All-weaker (λ (t : Slot). t.column ≤ at + u.1 + total us) (λ t. t.column ≤ at + total (u ∷ us)) (λ t h. omega (arith, h, sum))
    (side_by_side (at + u.1) us) (side-upto (at + u.1) us))

module _ (column : ℕ) where
  abbrev covered : Slot → Bool
  covered s = covers column s

  abbrev Alone : Slot → Slot → Type 0
  Alone s t = covered t ≡ true → t.offset ≡ s.offset

  alone-by : (at : ℕ) (u : ℕ × ℕ) (us : List (ℕ × ℕ)) (s : Slot) (b : Bool) → covered (slot u.0 at u.1) ≡ b
      → cond b (Some (slot u.0 at u.1)) (find covered (side_by_side (at + u.1) us)) ≡ Some s
      → (find covered (side_by_side (at + u.1) us) ≡ Some s → All (Alone s) (side_by_side (at + u.1) us))
      → All (Alone s) (slot u.0 at u.1 ∷ side_by_side (at + u.1) us)
  alone-by at u us s true e is rest =
      let same : slot u.0 at u.1 ≡ s = cc in
      let mine = covered-in column (slot u.0 at u.1) e in
      let others = side_by_side (at + u.1) us in
      subst (λ x. All (Alone x) (slot u.0 at u.1 ∷ others)) same
      (All-cons (Alone (slot u.0 at u.1)) (slot u.0 at u.1) others (λ c. refl)
      (All-weaker (λ (t : Slot). at + u.1 ≤ t.column) (Alone (slot u.0 at u.1))
      (λ t h c. let its = covered-in column t c in absurd (omega (arith, h, mine.1, its.0))) others (side-from (at + u.1) us)))
  alone-by at u us s false e is rest =
      All-cons (Alone s) (slot u.0 at u.1) (side_by_side (at + u.1) us) (λ c. let never : true ≡ false = sym c ∙ e in absurd (cc)) (rest is)

  alone-in : (at : ℕ) (us : List (ℕ × ℕ)) (s : Slot) → find covered (side_by_side at us) ≡ Some s → All (Alone s) (side_by_side at us)
  alone-in at [] s is = absurd (cc)
  alone-in at (u ∷ us) s is = alone-by at u us s (covered (slot u.0 at u.1)) refl is (alone-in (at + u.1) us s)

  -- a column that none covers is before all of them or after all
  none-by : (at : ℕ) (u : ℕ × ℕ) (us : List (ℕ × ℕ)) (b : Bool) → covered (slot u.0 at u.1) ≡ b
      → cond b (Some (slot u.0 at u.1)) (find covered (side_by_side (at + u.1) us)) ≡ None
      → (find covered (side_by_side (at + u.1) us) ≡ None → at + u.1 ≤ column → at + u.1 + total us ≤ column)
      → at ≤ column → at + total (u ∷ us) ≤ column
  none-by at u us true e none rest low = absurd (cc)
  none-by at u us false e none rest low =
      let past = ends-before column (slot u.0 at u.1) e low in
      let all = rest none past in omega (arith, all, sum_by-cons (λ (x : ℕ × ℕ). x.1) u us)

  none-in : (at : ℕ) (us : List (ℕ × ℕ)) → find covered (side_by_side at us) ≡ None → at ≤ column → at + total us ≤ column
  none-in at [] none low = omega (arith, low)
  none-in at (u ∷ us) none low = none-by at u us (covered (slot u.0 at u.1)) refl none (none-in (at + u.1) us) low

-- ---- the rightmost one

first-more : (xs ys : List ℕ) → 0 < length xs → first_in (xs ++ ys) ≡ first_in xs
first-more [] ys h = absurd (omega (arith, h))
first-more (x ∷ xs) ys h = refl

-- the last of slots side by side
pub record IsRightmost (at : ℕ) (us : List (ℕ × ℕ)) (o : ℕ) : Type 0 where
  pub slot : Slot
  pub is_slot : Contains (side_by_side at us) slot
  pub offset_is : slot.offset ≡ o
  pub most : All (λ t. t.column ≤ slot.column) (side_by_side at us)
  pub upto : slot.column ≤ at + total us

rightmost : (at : ℕ) (us : List (ℕ × ℕ)) (o : ℕ) → first_in (reverse (map offset_of (side_by_side at us))) ≡ Some o → IsRightmost at us o
rightmost at [] o is = absurd (cc)
rightmost at (u ∷ []) o is =
    let mine = slot u.0 at u.1 in
    let same : u.0 ≡ o = cc in record {
      slot = mine;
      is_slot = here mine [];
      offset_is = same;
      most = All-cons (λ (t : Slot). t.column ≤ at) mine [] (omega arith) (All-nil (λ (t : Slot). t.column ≤ at));
      upto = omega arith;
    }
rightmost at (u ∷ v ∷ us) o is =
    let mine = slot u.0 at u.1 in
    let others = side_by_side (at + u.1) (v ∷ us) in
    let names = map offset_of others in
    let some : 0 < length (reverse names) = omega (arith, length-reverse names, length-map others offset_of) in
    let apart : first_in (reverse (u.0 ∷ names)) ≡ first_in (reverse names) =
    ap first_in (reverse-append (u.0 ∷ []) names) ∙ first-more (reverse names) (u.0 ∷ []) some in
    let later = rightmost (at + u.1) (v ∷ us) o (sym apart ∙ is) in
    let past = All-contains (λ (t : Slot). at + u.1 ≤ t.column) others later.slot (side-from (at + u.1) (v ∷ us)) later.is_slot in
    let behind : at ≤ later.slot.column = omega (arith, past) in record {
      slot = later.slot;
      is_slot = there mine others later.slot later.is_slot;
      offset_is = later.offset_is;
      most = All-cons (λ (t : Slot). t.column ≤ later.slot.column) mine others behind later.most;
      upto = omega (arith, later.upto, sum_by-cons (λ (x : ℕ × ℕ). x.1) u (v ∷ us));
    }

-- ---- with the slot of the end

abbrev pub with-end : ℕ → Bool → Slot → List Slot → List Slot
with-end n b end ss = elim b [ true ↦ elim n [ zero ↦ ss ++ end ∷ [] | suc _ ↦ end ∷ ss ] | false ↦ ss ]

-- the first offset from the reading end
abbrev pub from-end : ℕ → List ℕ → Option ℕ
from-end n os = first_in (toward (opposite (elim n [ zero ↦ Right | suc _ ↦ Left ])) os)

abbrev pub Chosen : ℕ → List Slot → ℕ → Type 0
Chosen column ss o = (s : Slot) × Contains ss s × (s.offset ≡ o) × (Covers ss column s ⊎ IsNearest ss column s)

all-with-end : (P : Slot → Type 0) (n : ℕ) (b : Bool) (end : Slot) (ss : List Slot) → P end → All P ss → All P (with-end n b end ss)
all-with-end P zero true end ss h a = All-append P ss (end ∷ []) a (All-cons P end [] h (All-nil P))
all-with-end P (suc n) true end ss h a = All-cons P end ss h a
all-with-end P n false end ss h a = a

pub contains-with-end : (n : ℕ) (b : Bool) (end : Slot) (ss : List Slot) (t : Slot) → Contains ss t → Contains (with-end n b end ss) t
contains-with-end zero true end ss t c = Contains-append_left ss (end ∷ []) t c
contains-with-end (suc n) true end ss t c = there end ss t c
contains-with-end n false end ss t c = c

or-none : (x : Option Slot) → option_or x None ≡ x
or-none None = refl
or-none (Some s) = refl

module _ (column : ℕ) (end : Slot) (no_columns : end.columns ≡ 0) where
  end-by : (b : Bool) → covers column end ≡ b → b ≡ false
  end-by false e = refl
  end-by true e = let within = covered-in column end e in absurd (omega (arith, within.0, within.1, no_columns))

  end-uncovered : covers column end ≡ false
  end-uncovered = end-by (covers column end) refl

  find-with-end : (n : ℕ) (b : Bool) (ss : List Slot) → find (covers column) (with-end n b end ss) ≡ find (covers column) ss
  find-with-end zero true ss =
      find-append (covers column) ss (end ∷ [])
      ∙ ap (λ c. option_or (find (covers column) ss) (cond c (Some end) None)) end-uncovered ∙ or-none (find (covers column) ss)
  find-with-end (suc n) true ss = ap (λ c. cond c (Some end) (find (covers column) ss)) end-uncovered
  find-with-end n false ss = refl

  covering-chosen : (n : ℕ) (b : Bool) (at : ℕ) (us : List (ℕ × ℕ)) (s : Slot) → find (covers column) (with-end n b end (side_by_side at us)) ≡ Some s
      → Chosen column (with-end n b end (side_by_side at us)) s.offset
  covering-chosen n b at us s is =
      let ss = side_by_side at us in
      let own : find (covers column) ss ≡ Some s = sym (find-with-end n b ss) ∙ is in
      let f = found (covers column) ss s own in (
        s,
        contains-with-end n b end ss s f.0,
        refl,
        inl record {
          is_covered = f.1;
          alone = all-with-end (Alone column s) n b end ss (λ c. let never : true ≡ false = sym c ∙ end-uncovered in absurd (cc)) (alone-in column at us s own);
        },
      )

  -- ---- where none covers the column

  module _ (w used at : ℕ) (us : List (ℕ × ℕ)) (sum : total us ≡ used) (fits : used ≤ w) (some : 1 ≤ column) (inside : column ≤ w) where
    abbrev units : List Slot
    units = side_by_side at us

    abbrev Last : Slot → Slot → Type 0
    Last s t = t.column ≤ column → (t.column ≤ s.column) × (s.column ≤ column)

    abbrev First : Slot → Slot → Type 0
    First s t = column < t.column → s.column ≤ t.column

    -- the units are left of the column
    left-units : at ≡ 1 → find (covers column) units ≡ None → 1 + used ≤ column
    left-units e none = let past = none-in column at us none (omega (arith, e, some)) in omega (arith, past, e, sum)

    -- the units are right of it
    right-units : at ≡ w - used + 1 → find (covers column) units ≡ None → column < at
    right-units e none =
        ⊎_elim (λ less. less)
        (λ from. let past = none-in column at us none from in absurd (omega (arith, past, e, sum, fits, inside))) (cases_lt column at)

    even-end : (o : ℕ) → at ≡ 1 → end.column ≡ min (used + 1) w → find (covers column) units ≡ None
        → from-end 0 (map offset_of (units ++ end ∷ [])) ≡ Some o → Chosen column (units ++ end ∷ []) o
    even-end o e beside none is =
        let all = units ++ end ∷ [] in
        let past = left-units e none in
        let last : end.column ≡ used + 1 = omega (arith, beside, past, inside) in
        let names : reverse (map offset_of all) ≡ end.offset ∷ reverse (map offset_of units) =
        ap reverse (map-append offset_of units (end ∷ [])) ∙ reverse-append (map offset_of units) (end.offset ∷ []) in
        let read : Some end.offset ≡ Some o = sym (ap first_in names) ∙ is in
        let same : end.offset ≡ o = cc in
        let upto = side-upto at us in (
          end,
          Contains-append_right units (end ∷ []) end (here end []),
          same,
          inr record {
            uncovered = all-with-end (λ t. covers column t ≡ false) 0 true end units end-uncovered (fails (covers column) units none);
            last = all-with-end (Last end) 0 true end units (λ h. (omega arith, h))
                (All-weaker (λ (t : Slot). t.column ≤ at + total us) (Last end)
                (λ t h low. (omega (arith, h, e, sum, last), omega (arith, last, past))) units upto);
            else_first = all-with-end (First end) 0 true end units (λ h. omega arith)
                (All-weaker (λ (t : Slot). t.column ≤ at + total us) (First end) (λ t h more. absurd (omega (arith, h, e, sum, past, more))) units upto);
          },
        )

    even-units : (o : ℕ) → at ≡ 1 → find (covers column) units ≡ None → from-end 0 (map offset_of units) ≡ Some o → Chosen column units o
    even-units o e none is =
        let past = left-units e none in
        let right = rightmost at us o is in
        let s = right.slot in
        let low : s.column ≤ column = omega (arith, right.upto, e, sum, past) in (
          s,
          right.is_slot,
          right.offset_is,
          inr record {
            uncovered = fails (covers column) units none;
            last = All-weaker (λ (t : Slot). t.column ≤ s.column) (Last s) (λ t h l. (h, low)) units right.most;
            else_first = All-weaker (λ (t : Slot). t.column ≤ s.column) (First s) (λ t h more. absurd (omega (arith, h, low, more))) units right.most;
          },
        )

    odd-end : (o : ℕ) → at ≡ w - used + 1 → end.column ≡ max (w - used) 1 → find (covers column) units ≡ None
        → end.offset ≡ o → Chosen column (end ∷ units) o
    odd-end o e beside none same =
        let past = right-units e none in
        let first : end.column ≡ w - used = omega (arith, beside, past, e, some) in
        let from = side-from at us in (
          end,
          here end units,
          same,
          inr record {
            uncovered = All-cons (λ t. covers column t ≡ false) end units end-uncovered (fails (covers column) units none);
            last = All-cons (Last end) end units (λ h. (omega arith, h))
                (All-weaker (λ (t : Slot). at ≤ t.column) (Last end) (λ t h low. absurd (omega (arith, h, past, low))) units from);
            else_first = All-cons (First end) end units (λ h. omega arith)
                (All-weaker (λ (t : Slot). at ≤ t.column) (First end) (λ t h more. omega (arith, h, first, e)) units from);
          },
        )

odd-units : (column w used at : ℕ) (us : List (ℕ × ℕ)) → column < at → find (covers column) (side_by_side at us) ≡ None
    → (o : ℕ) → first_in (map offset_of (side_by_side at us)) ≡ Some o → Chosen column (side_by_side at us) o
odd-units column w used at [] past none o is = absurd (cc)
odd-units column w used at (u ∷ us) past none o is =
    let s = slot u.0 at u.1 in
    let all = side_by_side at (u ∷ us) in
    let same : u.0 ≡ o = cc in
    let from = side-from at (u ∷ us) in (
      s,
      here s (side_by_side (at + u.1) us),
      same,
      inr record {
        uncovered = fails (covers column) all none;
        last = All-weaker (λ (t : Slot). at ≤ t.column) (λ t. t.column ≤ column → (t.column ≤ s.column) × (s.column ≤ column))
            (λ t h low. absurd (omega (arith, h, past, low))) all from;
        else_first = All-weaker (λ (t : Slot). at ≤ t.column) (λ t. column < t.column → s.column ≤ t.column) (λ t h more. h) all from;
      },
    )

-- ---- the slots of a row

module _ (column : ℕ) (end : Slot) (no_columns : end.columns ≡ 0) (w used : ℕ) (us : List (ℕ × ℕ)) (sum : total us ≡ used) (fits : used ≤ w)
    (some : 1 ≤ column) (inside : column ≤ w) where
  uncovered-chosen : (n : ℕ) (b : Bool) (at o : ℕ) → at ≡ left_of n w used → end.column ≡ end_of n w used
      → find (covers column) (with-end n b end (side_by_side at us)) ≡ None → from-end n (map offset_of (with-end n b end (side_by_side at us))) ≡ Some o
      → Chosen column (with-end n b end (side_by_side at us)) o
  uncovered-chosen zero true at o e beside none is =
      even-end column end no_columns w used at us sum fits some inside o e beside
      (sym (find-with-end column end no_columns 0 true (side_by_side at us)) ∙ none) is
  uncovered-chosen zero false at o e beside none is = even-units column end no_columns w used at us sum fits some inside o e none is
  uncovered-chosen (suc n) true at o e beside none is =
      let same : end.offset ≡ o = cc in
      odd-end column end no_columns w used at us sum fits some inside o e beside
      (sym (find-with-end column end no_columns 1 true (side_by_side at us)) ∙ none) same
  uncovered-chosen (suc n) false at o e beside none is =
      odd-units column w used at us (right-units column end no_columns w used at us sum fits some inside e none) none o is

  pub chosen : (n : ℕ) (b : Bool) (at o : ℕ) → at ≡ left_of n w used → end.column ≡ end_of n w used
      → (x : Option Slot) → find (covers column) (with-end n b end (side_by_side at us)) ≡ x
      → or_else (option_map offset_of x) (from-end n (map offset_of (with-end n b end (side_by_side at us)))) ≡ Some o
      → Chosen column (with-end n b end (side_by_side at us)) o
  chosen n b at o e beside None none is = uncovered-chosen n b at o e beside none is
  chosen n b at o e beside (Some s) found-is is =
      let same : s.offset ≡ o = cc in
      subst (Chosen column (with-end n b end (side_by_side at us))) same (covering-chosen column end no_columns n b at us s found-is)
