-- A paste is the text that its definition says.
use Rattle.std.proofs.Common.{◌≡◌, ℕ, ◌⊎◌, inl, inr, Bool, true, false, nat_eq, List, [], ◌∷◌, ◌++◌, drop, refl, ap, sym, ◌∙◌, append_assoc, subst, arith}
use Rattle.std.specs.Str.{bytes_eq}
use Rattle.std.proofs.lemmas.Bool.{cases_eq, both_ways, false≢true, cond-true, cond-false}
use Rattle.std.proofs.lemmas.Bool.Decides.{nat_tests}
use Rattle.std.proofs.lemmas.List.{append-nil}
use Rattle.std.proofs.lemmas.Slice.Eq.{bytes_eq-Decides}
use Rattle.bx_bytes.specs.Pattern.{matches_any}
use Rattle.bx_bytes.specs.declared.fate.Fate.{Fate}
use Rattle.bx_bytes.specs.declared.fate.Fate.TheVariants.{Waits, Ends, Breaks}
use Rattle.bx_input.specs.Scan as scan
use Rattle.bx_input.specs.Table.{exact, paste_start, paste_end}
use Rattle.bx_input.specs.Paste.{is_c1, pasted_byte, pasted_after, pasted, pasted_part, paste_fate, paste_sequences}
use Rattle.bx_keys.specs.declared.key.Key.TheVariants.{PasteStart, PasteEnd}
use Rattle.bx_input.specs.Scan.{State, Part, Passed, Known, passed, Within, Step, step_to, with_front, ended_in_paste, paste_step_by, fresh_in_paste, start}
use Rattle.bx_input.specs.PasteTail.{tail_bytes}
use Rattle.bx_input_laws.specs.Laws.{HasNone, PastesText}
use Rattle.bx_input.specs.declared.paste_tail.PasteTail.{PasteTail}
use Rattle.bx_input.specs.declared.paste_tail.PasteTail.TheVariants as tail
use Rattle.bx_input_laws.proofs.Firsts.{waits_says, any_fewer, breaks_at}
use Rattle.bx_input_laws.proofs.Passing.{none_behind, passed_joined, whole_sequence}
use Rattle.bx_input_laws.proofs.Runs.{in_pieces}
use Rattle.bx_input_laws.proofs.States.{IsSound, run_sound}

-- ---- the waiting bytes

abbrev IsTail : List ℕ → Type 0
IsTail waiting = (h : PasteTail) × (tail_bytes h ≡ waiting)

one_tail : (a : ℕ) → paste_fate (a ∷ []) ≡ Waits → (a ≡ 0x1B) ⊎ (a ≡ 0xC2)
one_tail a h = elim (cases_eq a 0x1B) [
  | inl escape ↦ inl escape
  | inr other ↦ inr (grind (arith, nat_tests))
]

tail_by_one : (a : ℕ) → (a ≡ 0x1B) ⊎ (a ≡ 0xC2) → IsTail (a ∷ [])
tail_by_one a (inl e) = rw e (tail.Escape, refl)
tail_by_one a (inr e) = rw e (tail.Lead, refl)

is_tail : (waiting : List ℕ) → paste_fate waiting ≡ Waits → IsTail waiting
is_tail [] h = (tail.Nothing, refl)
is_tail (a ∷ []) h = tail_by_one a (one_tail a h)
is_tail (a ∷ b ∷ []) h =
    let e : a ≡ 0x1B = grind (arith, nat_tests) in
    let f : b ≡ 0x5B = grind (arith, nat_tests) in
    rw (e, f) (tail.Csi, refl)
is_tail (a ∷ b ∷ c ∷ []) h =
    let e : a ≡ 0x1B = grind (arith, nat_tests) in
    let f : b ≡ 0x5B = grind (arith, nat_tests) in
    let g : c ≡ 0x32 = grind (arith, nat_tests) in
    rw (e, f, g) (tail.Two, refl)
is_tail (a ∷ b ∷ c ∷ d ∷ []) h =
    let e : a ≡ 0x1B = grind (arith, nat_tests) in
    let f : b ≡ 0x5B = grind (arith, nat_tests) in
    let g : c ≡ 0x32 = grind (arith, nat_tests) in
    let k : d ≡ 0x30 = grind (arith, nat_tests) in
    rw (e, f, g, k) (tail.Twenty, refl)
is_tail (a ∷ b ∷ c ∷ d ∷ x ∷ []) h =
    let e : a ≡ 0x1B = grind (arith, nat_tests) in
    let f : b ≡ 0x5B = grind (arith, nat_tests) in
    let g : c ≡ 0x32 = grind (arith, nat_tests) in
    let k : d ≡ 0x30 = grind (arith, nat_tests) in
    let l : x ≡ 0x31 = grind (arith, nat_tests) in
    rw (e, f, g, k, l) (tail.TwoHundredOne, refl)
is_tail (a ∷ b ∷ c ∷ d ∷ x ∷ y ∷ rest) h =
    let ucd = waits_says paste_sequences (a ∷ b ∷ c ∷ d ∷ x ∷ y ∷ rest) h in
    absurd (omega (arith, any_fewer paste_sequences 6 (a ∷ b ∷ c ∷ d ∷ x ∷ y ∷ rest) refl ucd.begins ucd.not_whole))

-- ---- the text of the waiting bytes and more

-- the text of the waiting bytes alone is that of bytes broken off
alone : (h : PasteTail) (after_return : Bool) → (after_return ≡ true → tail_bytes h ≡ []) → pasted_after after_return (tail_bytes h) ≡ pasted_part (tail_bytes h)
alone tail.Nothing after_return e = refl
alone tail.Lead true e = absurd (let n = e refl in cc n)
alone tail.Lead false e = refl
alone tail.Escape true e = absurd (let n = e refl in cc n)
alone tail.Escape false e = refl
alone tail.Csi true e = absurd (let n = e refl in cc n)
alone tail.Csi false e = refl
alone tail.Two true e = absurd (let n = e refl in cc n)
alone tail.Two false e = refl
alone tail.Twenty true e = absurd (let n = e refl in cc n)
alone tail.Twenty false e = refl
alone tail.TwoHundredOne true e = absurd (let n = e refl in cc n)
alone tail.TwoHundredOne false e = refl

not_c1 : (b : ℕ) → paste_fate (0xC2 ∷ b ∷ []) ≡ Breaks → is_c1 0xC2 b ≡ false
not_c1 b h = grind (arith, nat_tests)

-- where the next byte breaks it off
broken_off : (h : PasteTail) (after_return : Bool) (b : ℕ) (bs : List ℕ) → (after_return ≡ true → tail_bytes h ≡ []) → paste_fate (tail_bytes h ++ b ∷ []) ≡ Breaks
    → pasted_after after_return (tail_bytes h ++ b ∷ bs) ≡ pasted_part (tail_bytes h) ++ pasted_after after_return (b ∷ bs)
broken_off tail.Nothing after_return b bs e f = refl
broken_off tail.Lead true b bs e f = absurd (let n = e refl in cc n)
broken_off tail.Lead false b bs e f = let no = not_c1 b f in rw no refl
broken_off tail.Escape true b bs e f = absurd (let n = e refl in cc n)
broken_off tail.Escape false b bs e f = refl
broken_off tail.Csi true b bs e f = absurd (let n = e refl in cc n)
broken_off tail.Csi false b bs e f = refl
broken_off tail.Two true b bs e f = absurd (let n = e refl in cc n)
broken_off tail.Two false b bs e f = refl
broken_off tail.Twenty true b bs e f = absurd (let n = e refl in cc n)
broken_off tail.Twenty false b bs e f = refl
broken_off tail.TwoHundredOne true b bs e f = absurd (let n = e refl in cc n)
broken_off tail.TwoHundredOne false b bs e f = refl

-- ESC and C2 are the same after a CR
same_text : (b : ℕ) (bs : List ℕ) → (b ≡ 0x1B) ⊎ (b ≡ 0xC2) → (after_return : Bool) → pasted_after after_return (b ∷ bs) ≡ pasted_after false (b ∷ bs)
same_text b [] (inl e) after_return = rw e refl
same_text b [] (inr e) after_return = rw e refl
same_text b (c ∷ bs) (inl e) after_return = rw e refl
same_text b (c ∷ bs) (inr e) after_return = rw e refl

begun_text : (waiting : List ℕ) (b : ℕ) (bs : List ℕ) (after_return : Bool) → (after_return ≡ true → waiting ≡ [])
    → paste_fate (waiting ++ b ∷ []) ≡ Waits → pasted_after false ((waiting ++ b ∷ []) ++ bs) ≡ pasted_after after_return (waiting ++ b ∷ bs)
begun_text waiting b bs false e h = ap (pasted_after false) (append_assoc waiting (b ∷ []) bs)
begun_text waiting b bs true e h =
    let none : waiting ≡ [] = e refl in
    let alone : paste_fate (b ∷ []) ≡ Waits = ap (λ w. paste_fate (w ++ b ∷ [])) (sym none) ∙ h in
    ap (λ w. pasted_after false ((w ++ b ∷ []) ++ bs)) none
    ∙ sym (same_text b bs (one_tail b alone) true)
    ∙ ap (λ w. pasted_after true (w ++ b ∷ bs)) (sym none)

-- a byte that begins nothing
other_first : (b c : ℕ) → (paste_fate (b ∷ []) ≡ Waits → ⊥) → is_c1 b c ≡ false
other_first b c n = elim (cases_eq b 0xC2) [
  | inl lead ↦ absurd (n (rw lead refl))
  | inr other ↦ grind (arith, nat_tests)
]

fresh_text : (b : ℕ) (bs : List ℕ) (after_return : Bool) → (paste_fate (b ∷ []) ≡ Waits → ⊥)
    → pasted_after after_return (b ∷ bs) ≡ pasted_byte after_return b ++ pasted_after (nat_eq b 0x0D) bs
fresh_text b [] after_return n = sym (append-nil (pasted_byte after_return b))
fresh_text b (c ∷ bs) after_return n =
    cond-false (is_c1 b c) (pasted_after false bs) (pasted_byte after_return b ++ pasted_after (nat_eq b 0x0D) (c ∷ bs)) (other_first b c n)

-- a control character of C1
c1_tail : (h : PasteTail) (b : ℕ) → paste_fate (tail_bytes h ++ b ∷ []) ≡ Ends → bytes_eq (tail_bytes h ++ b ∷ []) paste_end ≡ false
    → (tail_bytes h ≡ 0xC2 ∷ []) × (is_c1 0xC2 b ≡ true)
c1_tail tail.Nothing b h n = absurd (grind (arith, nat_tests))
c1_tail tail.Lead b h n = (refl, grind (arith, nat_tests))
c1_tail tail.Escape b h n = absurd (grind (arith, nat_tests))
c1_tail tail.Csi b h n = absurd (grind (arith, nat_tests))
c1_tail tail.Two b h n = absurd (grind (arith, nat_tests))
c1_tail tail.Twenty b h n = absurd (grind (arith, nat_tests))
c1_tail tail.TwoHundredOne b h n = absurd (grind (arith, nat_tests))

c1_text : (waiting : List ℕ) (b : ℕ) (bs : List ℕ) (after_return : Bool) → (waiting ≡ 0xC2 ∷ []) × (is_c1 0xC2 b ≡ true)
    → pasted_after false bs ≡ pasted_after after_return (waiting ++ b ∷ bs)
c1_text waiting b bs after_return h = sym (ap (λ w. pasted_after after_return (w ++ b ∷ bs)) h.0 ∙ cond-true (is_c1 0xC2 b) _ _ h.1)

-- ---- the way through the text

pub record IsPasted (s : Step) (text : List ℕ) : Type 0 where
  pub waiting : List ℕ
  pub after_return : Bool
  pub is_state : s.state ≡ Within waiting after_return
  pub is_text : s.parts ++ passed (pasted_part waiting) ≡ passed text

in_front : (front : List ℕ) (s : Step) (text : List ℕ) → IsPasted s text → IsPasted (with_front (passed front) s) (front ++ text)
in_front front s text h = record {
  waiting = h.waiting;
  after_return = h.after_return;
  is_state = h.is_state;
  is_text = append_assoc (passed front) s.parts (passed (pasted_part h.waiting)) ∙ ap (λ xs. passed front ++ xs) h.is_text ∙ passed_joined front text;
}

-- ---- whether or not the terminal's own erase character is DELETE

module _ (by_delete : Bool) where
  abbrev step : State → ℕ → Step
  step = scan.step by_delete

  abbrev run : State → List ℕ → Step
  run = scan.run by_delete

  abbrev scanned : List ℕ → List Part
  scanned = scan.scanned by_delete

  -- the output for the rest of the text, in any state within the paste
  abbrev Goes : List ℕ → Type 0
  Goes bs = (w : List ℕ) (r : Bool) → IsSound (Within w r) → HasNone (exact paste_end ∷ []) (w ++ bs) → IsPasted (run (Within w r) bs) (pasted_after r (w ++ bs))

  fresh_other : (r : Bool) (b : ℕ) (bs : List ℕ) → (paste_fate (b ∷ []) ≡ Waits → ⊥) → HasNone (exact paste_end ∷ []) (b ∷ bs) → Goes bs
      → IsPasted (with_front (passed (pasted_byte r b)) (run (Within [] (nat_eq b 0x0D)) bs)) (pasted_after r (b ∷ bs))
  fresh_other r b bs n none rest =
      subst (IsPasted (with_front (passed (pasted_byte r b)) (run (Within [] (nat_eq b 0x0D)) bs))) (sym (fresh_text b bs r n))
      (in_front (pasted_byte r b) (run (Within [] (nat_eq b 0x0D)) bs) (pasted_after (nat_eq b 0x0D) bs)
      (rest [] (nat_eq b 0x0D) (refl, λ e. refl) (none_behind (exact paste_end ∷ []) (b ∷ []) bs none)))

  fresh_by : (f : Fate) (r : Bool) (b : ℕ) (bs : List ℕ) → paste_fate (b ∷ []) ≡ f → HasNone (exact paste_end ∷ []) (b ∷ bs) → Goes bs
      → IsPasted (with_front (fresh_in_paste f r b).parts (run (fresh_in_paste f r b).state bs)) (pasted_after r (b ∷ bs))
  fresh_by Waits r b bs h none rest =
      subst (IsPasted (run (Within (b ∷ []) false) bs)) (sym (same_text b bs (one_tail b h) r))
      (in_front [] (run (Within (b ∷ []) false) bs) (pasted_after false (b ∷ bs)) (rest (b ∷ []) false (h, λ e. absurd (false≢true e)) none))
  fresh_by Ends r b bs h none rest = fresh_other r b bs (λ e. let n : Ends ≡ Waits = sym h ∙ e in cc n) none rest
  fresh_by Breaks r b bs h none rest = fresh_other r b bs (λ e. let n : Breaks ≡ Waits = sym h ∙ e in cc n) none rest

  same_bytes : (xs ys : List ℕ) → bytes_eq xs ys ≡ true → xs ≡ ys
  same_bytes xs ys h = (bytes_eq-Decides xs ys).0 h

  is_end : (bs : List ℕ) → bytes_eq bs paste_end ≡ true → matches_any (exact paste_end ∷ []) bs ≡ true
  is_end bs h = let e : bs ≡ paste_end = same_bytes bs paste_end h in rw e refl

  ends_by : (t : Bool) (w : List ℕ) (r : Bool) (b : ℕ) (bs : List ℕ) → bytes_eq (w ++ b ∷ []) paste_end ≡ t → IsTail w → paste_fate (w ++ b ∷ []) ≡ Ends
      → HasNone (exact paste_end ∷ []) (w ++ b ∷ bs) → Goes bs
      → IsPasted (with_front (ended_in_paste t).parts (run (ended_in_paste t).state bs)) (pasted_after r (w ++ b ∷ bs))
  ends_by true w r b bs t is h none rest =
      absurd (both_ways (matches_any (exact paste_end ∷ []) (w ++ b ∷ [])) (none [] (w ++ b ∷ []) bs (sym (append_assoc w (b ∷ []) bs)))
      (is_end (w ++ b ∷ []) t))
  ends_by false w r b bs t is h none rest =
      let back : tail_bytes is.0 ≡ w = is.1 in
      let ucd = c1_tail is.0 b (ap (λ x. paste_fate (x ++ b ∷ [])) back ∙ h) (ap (λ x. bytes_eq (x ++ b ∷ []) paste_end) back ∙ t) in
      let none_left : HasNone (exact paste_end ∷ []) bs = none_behind (exact paste_end ∷ []) (b ∷ []) bs (none_behind (exact paste_end ∷ []) w (b ∷ bs) none) in
      subst (IsPasted (with_front [] (run (Within [] false) bs))) (c1_text w b bs r (sym back ∙ ucd.0, ucd.1))
      (in_front [] (run (Within [] false) bs) (pasted_after false bs) (rest [] false (refl, λ e. refl) none_left))

  way_by : (f : Fate) (w : List ℕ) (r : Bool) (b : ℕ) (bs : List ℕ) → paste_fate (w ++ b ∷ []) ≡ f → IsSound (Within w r)
      → HasNone (exact paste_end ∷ []) (w ++ b ∷ bs) → Goes bs
      → IsPasted (with_front (paste_step_by f w r b).parts (run (paste_step_by f w r b).state bs)) (pasted_after r (w ++ b ∷ bs))
  way_by Waits w r b bs h sound none rest =
      let joined : (w ++ b ∷ []) ++ bs ≡ w ++ b ∷ bs = append_assoc w (b ∷ []) bs in
      subst (IsPasted (with_front [] (run (Within (w ++ b ∷ []) false) bs))) (begun_text w b bs r sound.1 h)
      (in_front [] (run (Within (w ++ b ∷ []) false) bs) (pasted_after false ((w ++ b ∷ []) ++ bs))
      (rest (w ++ b ∷ []) false (h, λ e. absurd (false≢true e)) (subst (HasNone (exact paste_end ∷ [])) (sym joined) none)))
  way_by Ends w r b bs h sound none rest =
      ends_by (bytes_eq (w ++ b ∷ []) paste_end) w r b bs refl (is_tail w sound.0) h none rest
  way_by Breaks w r b bs h sound none rest =
      let is : IsTail w = is_tail w sound.0 in
      let fresh : Step = fresh_in_paste (paste_fate (b ∷ [])) r b in
      let text : pasted_after r (w ++ b ∷ bs) ≡ pasted_part w ++ pasted_after r (b ∷ bs) =
      subst (λ x. pasted_after r (x ++ b ∷ bs) ≡ pasted_part x ++ pasted_after r (b ∷ bs)) is.1
      (broken_off is.0 r b bs (λ e. is.1 ∙ sound.1 e) (ap (λ x. paste_fate (x ++ b ∷ [])) is.1 ∙ h)) in
      let back : IsPasted (with_front fresh.parts (run fresh.state bs)) (pasted_after r (b ∷ bs)) =
      fresh_by (paste_fate (b ∷ [])) r b bs refl (none_behind (exact paste_end ∷ []) w (b ∷ bs) none) rest in
      let all : IsPasted (with_front (passed (pasted_part w)) (with_front fresh.parts (run fresh.state bs))) (pasted_part w ++ pasted_after r (b ∷ bs)) =
      in_front (pasted_part w) (with_front fresh.parts (run fresh.state bs)) (pasted_after r (b ∷ bs)) back in
      let same : with_front (passed (pasted_part w) ++ fresh.parts) (run fresh.state bs) ≡ with_front (passed (pasted_part w)) (with_front fresh.parts (run fresh.state bs)) =
      ap (step_to (run fresh.state bs).state) (append_assoc (passed (pasted_part w)) fresh.parts (run fresh.state bs).parts) in
      subst (λ x. IsPasted x (pasted_after r (w ++ b ∷ bs))) (sym same)
      (subst (IsPasted (with_front (passed (pasted_part w)) (with_front fresh.parts (run fresh.state bs)))) (sym text) all)

  text_goes : (bs w : List ℕ) (r : Bool) → IsSound (Within w r) → HasNone (exact paste_end ∷ []) (w ++ bs)
      → IsPasted (run (Within w r) bs) (pasted_after r (w ++ bs))
  text_goes [] w r sound none =
      let is : IsTail w = is_tail w sound.0 in
      record {
        waiting = w;
        after_return = r;
        is_state = refl;
        is_text = ap passed (subst (λ x. pasted_part x ≡ pasted_after r x) is.1 (sym (alone is.0 r (λ e. is.1 ∙ sound.1 e))) ∙ ap (pasted_after r) (sym (append-nil w)));
      }
  text_goes (b ∷ bs) w r sound none = way_by (paste_fate (w ++ b ∷ [])) w r b bs refl sound none (text_goes bs)

  -- ---- the end

  abbrev ending : List Part
  ending = Known (PasteEnd ∷ []) ∷ []

  at_escape : (w : List ℕ) (r : Bool) → paste_fate w ≡ Waits → step (Within w r) 0x1B ≡ step_to (Within (0x1B ∷ []) false) (passed (pasted_part w))
  at_escape [] r h = refl
  at_escape (x ∷ xs) r h =
      let breaks : paste_fate (x ∷ (xs ++ 0x1B ∷ [])) ≡ Breaks = breaks_at paste_sequences x xs 0x1B refl in
      ap (λ f. paste_step_by f (x ∷ xs) r 0x1B) breaks
      ∙ ap (step_to (Within (0x1B ∷ []) false)) (append-nil (passed (pasted_part (x ∷ xs))))

  end_goes : (w : List ℕ) (r : Bool) → paste_fate w ≡ Waits → run (Within w r) paste_end ≡ step_to start (passed (pasted_part w) ++ ending)
  end_goes w r h =
      ap (λ (x : Step). with_front x.parts (run x.state (drop 1 paste_end))) (at_escape w r h)

  pub text_and_end : (text : List ℕ) → HasNone (exact paste_end ∷ []) text → run (Within [] false) (text ++ paste_end) ≡ step_to start (passed (pasted text) ++ ending)
  text_and_end text none =
      let s : Step = run (Within [] false) text in
      let is : IsPasted s (pasted text) = text_goes text [] false (refl, λ e. refl) none in
      let sound : IsSound (Within is.waiting is.after_return) = subst IsSound is.is_state (run_sound by_delete (Within [] false) text (refl, λ e. refl)) in
      in_pieces by_delete (Within [] false) text paste_end
      ∙ ap (λ x. with_front s.parts (run x paste_end)) is.is_state
      ∙ ap (with_front s.parts) (end_goes is.waiting is.after_return sound.0)
      ∙ ap (step_to start) (sym (append_assoc s.parts (passed (pasted_part is.waiting)) ending) ∙ ap (λ xs. xs ++ ending) is.is_text)

  pub pastes_text : PastesText by_delete
  pastes_text bs waiting text at none =
      let beginning : List Part = Known (PasteStart ∷ []) ∷ [] in
      let first : run start (bs ++ paste_start) ≡ step_to (Within [] false) (scanned bs ++ beginning) =
      whole_sequence by_delete (step_to (Within [] false) beginning) (drop 1 paste_start) bs waiting (refl, refl) at in
      ap (run start) (sym (append_assoc bs paste_start (text ++ paste_end)))
      ∙ in_pieces by_delete start (bs ++ paste_start) (text ++ paste_end)
      ∙ ap (λ (x : Step). with_front x.parts (run x.state (text ++ paste_end))) first
      ∙ ap (with_front (scanned bs ++ beginning)) (text_and_end text none)
      ∙ ap (step_to start) (append_assoc (scanned bs) beginning (passed (pasted text) ++ ending))
