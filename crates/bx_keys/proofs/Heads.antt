-- The first twelve waiting bytes give the same keys as all of them.
use Rattle.std.proofs.Common.{◌≡◌, ℕ, ◌+◌, ◌-◌, ◌≤◌, ◌⊎◌, inl, inr, Bool, true, false, ◌&&◌, nat_eq, nat_le, List, [], ◌∷◌, ◌++◌, length, take, None, refl, ap}
use Rattle.std.proofs.Common.{sym, ◌∙◌, zero, suc, arith, length-append}
use Rattle.std.specs.List.{slice_split, join_with_byte}
use Rattle.std.specs.Option.{option_map}
use Rattle.std.proofs.lemmas.List.{take_all, length-take-le}
use Rattle.std.proofs.lemmas.List.Splits.{join_with_byte-slice_split}
use Rattle.std.proofs.lemmas.Bool.{cases_lt, cases_eq, cases_Bool, and_parts, leb-true, cond-true, cond-false}
use Rattle.bx_bytes.specs.Pattern.{One, is_within, past, fate_in}
use Rattle.bx_bytes.specs.declared.fate.Fate.TheVariants.{Waits, Breaks}
use Rattle.bx_bytes.proofs.Codes.{too_long}
use Rattle.bx_keys.specs.Keys.{is_number, is_side_in_digits, sides_key, final_byte, before_final, sequence_key, key_of}
use Rattle.bx_keys.specs.Waiting.{fate, head_of}
use Rattle.bx_keys.proofs.Characters.{no_escape}
use Rattle.bx_keys.proofs.OtherFinals.{longer_no_key}
use Rattle.bx_keys.proofs.Sides.{no_long_kind}
use Rattle.bx_keys.proofs.Sequences.{past_by, only_waits, after_escape, after_intermediate, control_more, shift_more, long_more}

-- ---- the rest that is kept waits too

past_front : (low high n : ℕ) (bs : List ℕ) → past low high bs ≡ [] → past low high (take n bs) ≡ []
past_front low high zero bs h = refl
past_front low high (suc n) [] h = refl
past_front low high (suc n) (b ∷ bs) h =
    let parts = past_by (is_within low high b) low high b bs refl h in
    rw parts.0 (past_front low high n bs parts.1)

control_front : (n : ℕ) (bs : List ℕ) → fate (0x1B ∷ 0x5B ∷ bs) ≡ Waits → fate (0x1B ∷ 0x5B ∷ take n bs) ≡ Waits
control_front n bs h =
    ap (fate_in ((One 0x40 0x7E ∷ []) ∷ [])) (past_front 0x20 0x3F n bs (only_waits 0x40 0x7E (past 0x20 0x3F bs) h))

long_front : (m n : ℕ) (bs : List ℕ) → 0x20 ≤ m → m ≤ 0x2F → fate (0x1B ∷ m ∷ bs) ≡ Waits → fate (0x1B ∷ m ∷ take n bs) ≡ Waits
long_front m n bs l h e =
    let none = only_waits 0x30 0x7E (past 0x20 0x2F bs) (sym (after_intermediate m bs l h) ∙ e) in
    after_intermediate m (take n bs) l h ∙ ap (fate_in ((One 0x30 0x7E ∷ []) ∷ [])) (past_front 0x20 0x2F n bs none)

-- a rest that is kept whole, or a sequence of more than twelve bytes
pub record IsCut (rest : List ℕ) : Type 0 where
  pub second : ℕ
  pub others : List ℕ
  pub bytes : rest ≡ 0x1B ∷ second ∷ others
  pub many : 11 ≤ length others
  pub waits : fate (0x1B ∷ second ∷ take 10 others) ≡ Waits

cut_sequence : (x : ℕ) (bs : List ℕ) → 11 ≤ length bs → fate (0x1B ∷ x ∷ bs) ≡ Waits → IsCut (0x1B ∷ x ∷ bs)
cut_sequence x bs l h = elim (cases_eq x 0x5B) [
  | inl csi ↦ record {
    second = x;
    others = bs;
    bytes = refl;
    many = l;
    waits = ap (λ y. fate (0x1B ∷ y ∷ take 10 bs)) csi ∙ control_front 10 bs (ap (λ y. fate (0x1B ∷ y ∷ bs)) (sym csi) ∙ h);
  }
  | inr not_csi ↦ elim (cases_eq x 0x4F) [
    | inl ss3 ↦ absurd (let none : bs ≡ [] = only_waits 0x20 0x7E bs (ap (λ y. fate (0x1B ∷ y ∷ bs)) (sym ss3) ∙ h) in omega (arith, ap length none))
    | inr not_ss3 ↦ (let inside = after_escape x bs not_csi not_ss3 h in
        record { second = x; others = bs; bytes = refl; many = l; waits = long_front x 10 bs inside.0 inside.1 h })
  ]
]

cut_at : (a : ℕ) (bs : List ℕ) → 12 ≤ length bs → fate (a ∷ bs) ≡ Waits → IsCut (a ∷ bs)
cut_at a [] l h = absurd (omega arith)
cut_at a (b ∷ []) l h = absurd (omega arith)
cut_at a (b ∷ c ∷ []) l h = absurd (omega arith)
cut_at a (b ∷ c ∷ d ∷ []) l h = absurd (omega arith)
cut_at a (b ∷ c ∷ d ∷ e ∷ bs) l h = elim (cases_eq a 0x1B) [
  | inl esc ↦ (let cut : IsCut (0x1B ∷ b ∷ c ∷ d ∷ e ∷ bs) = cut_sequence b (c ∷ d ∷ e ∷ bs) (omega arith)
      (ap (λ y. fate (y ∷ b ∷ c ∷ d ∷ e ∷ bs)) (sym esc) ∙ h) in
      record { second = cut.second; others = cut.others; bytes = ap (λ y. y ∷ b ∷ c ∷ d ∷ e ∷ bs) esc ∙ cut.bytes; many = cut.many; waits = cut.waits })
  | inr other ↦ absurd (let no : Breaks ≡ Waits = sym (too_long a b c d e bs) ∙ (sym (no_escape a (b ∷ c ∷ d ∷ e ∷ bs) other) ∙ h) in cc no)
]

whole_or_cut : (rest : List ℕ) → fate rest ≡ Waits → (head_of rest ≡ rest) ⊎ IsCut rest
whole_or_cut [] h = inl refl
whole_or_cut (a ∷ bs) h = elim (cases_lt (length bs) 12) [
  | inl few ↦ inl (take_all 12 (a ∷ bs) (omega arith))
  | inr many ↦ inr (cut_at a bs many h)
]

head_of_cut : (rest : List ℕ) (cut : IsCut rest) → head_of rest ≡ 0x1B ∷ cut.second ∷ take 10 cut.others
head_of_cut rest cut = ap head_of cut.bytes

pub head_waits : (rest : List ℕ) → fate rest ≡ Waits → fate (head_of rest) ≡ Waits
head_waits rest h = elim (whole_or_cut rest h) [
  | inl whole ↦ ap fate whole ∙ h
  | inr cut ↦ ap fate (head_of_cut rest cut) ∙ cut.waits
]

-- ---- a byte does the same

cut_fate : (x : ℕ) (bs cs : List ℕ) (b : ℕ) → fate (0x1B ∷ x ∷ bs) ≡ Waits → fate (0x1B ∷ x ∷ cs) ≡ Waits
    → fate (0x1B ∷ x ∷ (bs ++ b ∷ [])) ≡ fate (0x1B ∷ x ∷ (cs ++ b ∷ []))
cut_fate x bs cs b h g = elim (cases_eq x 0x5B) [
  | inl csi ↦ control_more (x ∷ bs) b (omega arith) csi h ∙ sym (control_more (x ∷ cs) b (omega arith) csi g)
  | inr not_csi ↦ elim (cases_eq x 0x4F) [
    | inl ss3 ↦ shift_more (x ∷ bs) b (omega arith) ss3 h ∙ sym (shift_more (x ∷ cs) b (omega arith) ss3 g)
    | inr not_ss3 ↦ long_more (x ∷ bs) b (omega arith) not_csi not_ss3 h ∙ sym (long_more (x ∷ cs) b (omega arith) not_csi not_ss3 g)
  ]
]

pub head_fate : (rest : List ℕ) (b : ℕ) → fate rest ≡ Waits → fate (head_of rest ++ b ∷ []) ≡ fate (rest ++ b ∷ [])
head_fate rest b h = elim (whole_or_cut rest h) [
  | inl whole ↦ ap (λ bs. fate (bs ++ b ∷ [])) whole
  | inr cut ↦ (
      let waits : fate (0x1B ∷ cut.second ∷ cut.others) ≡ Waits = ap fate (sym cut.bytes) ∙ h in
      ap (λ bs. fate (bs ++ b ∷ [])) (head_of_cut rest cut)
      ∙ cut_fate cut.second (take 10 cut.others) cut.others b cut.waits waits
      ∙ ap (λ bs. fate (bs ++ b ∷ [])) (sym cut.bytes))
]

-- ---- a sequence this long has no key

side_len : (ds : List ℕ) → is_side_in_digits ds ≡ true → length ds ≤ 3
side_len ds h =
    let number = and_parts (is_number ds) _ h in
    let lens = and_parts (nat_le 1 (length ds) && nat_le (length ds) 3) _ number.0 in
    leb-true (length ds) 3 (and_parts (nat_le 1 (length ds)) (nat_le (length ds) 3) lens.0).1

three_fields : (t : Bool) (kind h w : List ℕ) → is_side_in_digits h && is_side_in_digits w ≡ t → 8 ≤ length kind + length h + length w
    → sides_key (kind ∷ h ∷ w ∷ []) ≡ None
three_fields true kind h w e long =
    let sides = and_parts (is_side_in_digits h) (is_side_in_digits w) e in
    no_long_kind kind (h ∷ w ∷ []) (omega (arith, long, side_len h sides.0, side_len w sides.1))
three_fields false kind h w e long = rw e refl

joined_three : (kind h w : List ℕ) → length (join_with_byte 0x3B (kind ∷ h ∷ w ∷ [])) ≡ length kind + length h + length w + 2
joined_three kind h w = omega (arith, length-append kind (0x3B ∷ (h ++ 0x3B ∷ w)), length-append h (0x3B ∷ w))

long_fields : (fields : List (List ℕ)) → 10 ≤ length (join_with_byte 0x3B fields) → sides_key fields ≡ None
long_fields [] l = refl
long_fields (kind ∷ []) l = refl
long_fields (kind ∷ h ∷ []) l = refl
long_fields (kind ∷ h ∷ w ∷ []) l = three_fields (is_side_in_digits h && is_side_in_digits w) kind h w refl (omega (arith, joined_three kind h w, l))
long_fields (kind ∷ h ∷ w ∷ x ∷ fields) l = refl

long_sides : (between : List ℕ) → 10 ≤ length between → sides_key (slice_split (λ b. nat_eq b 0x3B) between) ≡ None
long_sides between l = long_fields (slice_split (λ b. nat_eq b 0x3B) between) (omega (arith, ap length (join_with_byte-slice_split 0x3B between), l))

by_final : (t : Bool) (body : List ℕ) → nat_eq (final_byte body) 0x74 ≡ t → 11 ≤ length body → sequence_key body ≡ None
by_final true body e l =
    cond-true (nat_eq (final_byte body) 0x74) _ _ e
    ∙ long_sides (before_final body) (omega (arith, length-take-le (length body - 1) body (omega arith), l))
by_final false body e l = cond-false (nat_eq (final_byte body) 0x74) _ _ e ∙ ap (option_map (λ k. k.1)) (longer_no_key body (omega (arith, l)))

long_no_key : (body : List ℕ) → 11 ≤ length body → sequence_key body ≡ None
long_no_key body l = by_final (nat_eq (final_byte body) 0x74) body refl l

long_escape_key : (x : ℕ) (bs : List ℕ) → 11 ≤ length bs → key_of (0x1B ∷ x ∷ bs) ≡ None
long_escape_key x bs l = elim (cases_Bool (nat_eq x 0x5B)) [
  | inl csi ↦ cond-true (nat_eq x 0x5B) (sequence_key bs) None csi ∙ long_no_key bs l
  | inr other ↦ cond-false (nat_eq x 0x5B) (sequence_key bs) None other
]

-- the kept bytes give the same key as all of them
pub head_key : (rest : List ℕ) (b : ℕ) → fate rest ≡ Waits → key_of (head_of rest ++ b ∷ []) ≡ key_of (rest ++ b ∷ [])
head_key rest b h = elim (whole_or_cut rest h) [
  | inl whole ↦ ap (λ bs. key_of (bs ++ b ∷ [])) whole
  | inr cut ↦ (
      let head_len : length (take 10 cut.others) ≡ 10 = length-take-le 10 cut.others (omega (arith, cut.many)) in
      let head_many : 11 ≤ length (take 10 cut.others ++ b ∷ []) = omega (arith, length-append (take 10 cut.others) (b ∷ []), head_len) in
      let many : 11 ≤ length (cut.others ++ b ∷ []) = omega (arith, length-append cut.others (b ∷ []), cut.many) in
      ap (λ bs. key_of (bs ++ b ∷ [])) (head_of_cut rest cut)
      ∙ long_escape_key cut.second (take 10 cut.others ++ b ∷ []) head_many
      ∙ sym (long_escape_key cut.second (cut.others ++ b ∷ []) many)
      ∙ ap (λ bs. key_of (bs ++ b ∷ [])) (sym cut.bytes))
]

take_more_after : (n : ℕ) (bs cs : List ℕ) → take n (take n bs ++ cs) ≡ take n (bs ++ cs)
take_more_after zero bs cs = refl
take_more_after (suc n) [] cs = refl
take_more_after (suc n) (b ∷ bs) cs = ap (λ xs. b ∷ xs) (take_more_after n bs cs)

pub head_more : (rest : List ℕ) (b : ℕ) → head_of (head_of rest ++ b ∷ []) ≡ head_of (rest ++ b ∷ [])
head_more rest b = take_more_after 12 rest (b ∷ [])
