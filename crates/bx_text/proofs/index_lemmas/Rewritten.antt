-- The paragraphs of a text after a change: those in front of it stay, some are found anew, and those after it stay.
use Rattle.std.proofs.Common.{◌≡◌, ◌<◌, ◌≤◌, ◌+◌, ◌-◌, ◌∙◌, ℕ, true, List, [], ◌∷◌, ◌++◌, length, take, drop, chars, IsUtf8, IsCharBoundary, ap, sym, subst}
use Rattle.std.proofs.Common.{arith, length-append, append_assoc, append-nil}
use Rattle.std.proofs.lemmas.Str.{length-le-encodes}
use Rattle.bx_ucd.specs.Data.{Data}
use Rattle.bx_text.specs.declared.change.Change.{Change}
use Rattle.bx_text.specs.Changes.{IsChange}
use Rattle.bx_text.specs.declared.index.lengths.Lengths.{Lengths}
use Rattle.bx_text.specs.index.Paragraphs.{lengths, bytes_of, total}
use Rattle.bx_text.specs.index.Index.{separator_count}
use Rattle.bx_text.specs.index.Ended.{ended_within}
use Rattle.bx_text.proofs.index_lemmas.Cuts.{widths, widths_append, unended, lens, parts}
use Rattle.bx_text.proofs.index_lemmas.Totals.{total_append}
use Rattle.bx_text.proofs.index_lemmas.Seams.{before_last, before_last_append, lens_append, lens_before}
use Rattle.bx_text.proofs.index_lemmas.Counts.{AreEnded, count, cut_of, total_lens, count_few, count_together}
use Rattle.bx_text.proofs.index_lemmas.Edits.{Front, Back, front_of, back_of, last_of, ended_all, ended_in_none}
use Rattle.bx_text.proofs.index_lemmas.Changes.{AreAround, around, cut_at}

-- the paragraphs of a text that stay in front, those that end from there to an offset, and those that stay after
pub record IsRewritten (ucd : Data) (text : List ℕ) (front : List Lengths) (stop separators : ℕ) (back : List Lengths) : Type 0 where
  pub bounds : IsCharBoundary text (total front)
  pub kept : lengths ucd text ≡ front ++ (ended_within (stop - total front) (lengths ucd (drop (total front) text)) ++ back)
  pub few : length (ended_within (stop - total front) (lengths ucd (drop (total front) text))) ≤ separators + 2

-- the text that a change adds has no more separators than bytes
pub few_separators : (ucd : Data) (old : List ℕ) (c : Change) (new : List ℕ) → IsUtf8 old → IsUtf8 new → IsChange old c new
    → separator_count ucd (take c.added (drop c.start new)) ≤ c.added
few_separators ucd old c new utf8 utf8' is_change =
    let cs : List ℕ = chars (take c.added (drop c.start new)) in
    omega (arith, count_few ucd cs, length-le-encodes cs, (around old c new utf8 utf8' is_change).come)

module _ (ucd : Data) where
  ended_before : (g : List ℕ) → AreEnded (before_last (lens ucd g))
  ended_before g =
      let c = cut_of ucd g in
      subst AreEnded (sym (ap before_last c.is ∙ before_last_append c.front (unended c.last))) c.are_ended

  -- the paragraphs found anew, where others stay after them
  record IsFound (r : List ℕ) (k separators : ℕ) (back : List Lengths) : Type 0 where
    ends : List Lengths
    are_found : ended_within k (lens ucd r) ≡ ends
    then_back : lens ucd r ≡ ends ++ back
    few : length ends ≤ separators + 2

  found_before : (h n d : List ℕ) (past k added separators : ℕ) (back : List Lengths) → count ucd h ≤ 2 → count ucd n ≤ separators + 1
      → widths n ≡ added → widths h + (added + past) ≡ k → Back ucd d past back
      → IsFound (h ++ (n ++ d)) k separators back
  found_before h n d past k added separators back few counted w e b =
      let g : List ℕ = (h ++ n) ++ b.t in
      let es : List Lengths = before_last (lens ucd g) in
      let all : h ++ (n ++ d) ≡ g ++ b.y = sym (append_assoc h n d) ∙ ap (λ v. (h ++ n) ++ v) b.whole ∙ sym (append_assoc (h ++ n) b.t b.y) in
      let p : parts ucd g b.y ≡ true = b.parts (h ++ n) in
      let joined : lens ucd (h ++ (n ++ d)) ≡ es ++ back = ap (lens ucd) all ∙ lens_append ucd g b.y p ∙ ap (λ ls. es ++ ls) b.rest in
      let alone : lens ucd g ≡ es ++ unended 0 ∷ [] = lens_before ucd g b.y p in
      let sum : total es + total (unended 0 ∷ []) ≡ widths g = sym (total_append es (unended 0 ∷ [])) ∙ ap total (sym alone) ∙ total_lens ucd g in
      let len : total es + 0 ≡ k = omega (arith, sum, widths_append (h ++ n) b.t, widths_append h n, b.bytes) in
      let number : count ucd g ≡ length es + 1 = ap length alone ∙ length-append es (unended 0 ∷ []) in
      record {
        ends = es;
        are_found = ap (ended_within k) joined ∙ ended_all es back k 0 (ended_before g) len ∙ ap (λ ls. es ++ ls) (ended_in_none back) ∙ append-nil es;
        then_back = joined;
        few = omega (arith, number, count_together ucd (h ++ n) b.t, count_together ucd h n, counted, b.few);
      }

  found_last : (h n d : List ℕ) (separators : ℕ) → count ucd h ≤ 2 → count ucd n ≤ separators + 1 → count ucd d ≤ 1
      → (last : ℕ) × IsFound (h ++ (n ++ d)) (widths (h ++ (n ++ d))) separators (unended last ∷ [])
  found_last h n d separators few counted one =
      let r : List ℕ = h ++ (n ++ d) in
      let c = cut_of ucd r in
      let sum : total c.front + total (unended c.last ∷ []) ≡ widths r = sym (total_append c.front (unended c.last ∷ [])) ∙ ap total (sym c.is)
      ∙ total_lens ucd r in
      let len : total c.front + c.last ≡ widths r = omega (arith, sum) in
      let number : count ucd r ≡ length c.front + 1 = ap length c.is ∙ length-append c.front (unended c.last ∷ []) in
      let whole : count ucd r ≡ count ucd ((h ++ n) ++ d) = ap (count ucd) (sym (append_assoc h n d)) in (
        c.last,
        record {
          ends = c.front;
          are_found = ap (ended_within (widths r)) c.is ∙ ended_all c.front (unended c.last ∷ []) (widths r) c.last c.are_ended len ∙ append-nil c.front;
          then_back = c.is;
          few = omega (arith, number, whole, count_together ucd (h ++ n) d, count_together ucd h n, counted);
        },
      )

  -- the whole text, from the paragraphs found
  rewritten : (new x r : List ℕ) (front : List Lengths) (stop separators : ℕ) (back : List Lengths) → IsUtf8 new → chars new ≡ x ++ r → widths x ≡ total front
      → lens ucd (x ++ r) ≡ front ++ lens ucd r → IsFound r (stop - total front) separators back → IsRewritten ucd new front stop separators back
  rewritten new x r front stop separators back utf8 e w kept f =
      let c = cut_at new x r (total front) utf8 e w in
      let again : ended_within (stop - total front) (lengths ucd (drop (total front) new)) ≡ f.ends =
      ap (λ cs. ended_within (stop - total front) (lens ucd cs)) c.rest ∙ f.are_found in
      record {
        bounds = c.bounds;
        kept = ap (lens ucd) e ∙ kept ∙ ap (λ ls. front ++ ls) (f.then_back ∙ ap (λ ls. ls ++ back) (sym again));
        few = omega (arith, ap length again, f.few);
      }

  module _ (old : List ℕ) (c : Change) (new : List ℕ) (utf8 : IsUtf8 old) (utf8' : IsUtf8 new) (h : IsChange old c new)
      (front : List Lengths) (l : Lengths) (behind : List Lengths) (first : lengths ucd old ≡ front ++ l ∷ behind)
      (start_before : total front ≤ c.start - 1) (holds : c.start ≤ total front + bytes_of l) where
    a : List ℕ
    a = chars (take c.start old)

    o : List ℕ
    o = chars (take c.removed (drop c.start old))

    n : List ℕ
    n = chars (take c.added (drop c.start new))

    d : List ℕ
    d = chars (drop (c.start + c.removed) old)

    abbrev separators : ℕ
    separators = separator_count ucd (take c.added (drop c.start new))

    counted : count ucd n ≤ separators + 1
    unfolding n
    counted = omega arith

    around_change : AreAround old c new a o n d
    unfolding a o n d
    around_change = around old c new utf8 utf8' h

    in_front : Front ucd a front
    in_front = front_of ucd a (o ++ d) front l behind (ap (lens ucd) (sym around_change.old_chars) ∙ first) (omega (arith, around_change.before))
        (omega (arith, around_change.before))

    -- the new characters after those of the front
    abbrev found : List ℕ
    found = in_front.h ++ (n ++ d)

    whole : chars new ≡ in_front.x ++ found
    whole = around_change.new_chars ∙ ap (λ v. v ++ (n ++ d)) in_front.whole ∙ append_assoc in_front.x in_front.h (n ++ d)

    kept : lens ucd (in_front.x ++ found) ≡ front ++ lens ucd found
    kept = ap (lens ucd) (sym (append_assoc in_front.x in_front.h (n ++ d)) ∙ ap (λ v. v ++ (n ++ d)) (sym in_front.whole)) ∙ in_front.kept (n ++ d)

    to_change : c.start ≡ total front + widths in_front.h
    to_change = omega (arith, around_change.before, ap widths in_front.whole, widths_append in_front.x in_front.h, in_front.bytes)

    replaced : lens ucd ((a ++ o) ++ d) ≡ lengths ucd old
    replaced = ap (lens ucd) (append_assoc a o d ∙ sym around_change.old_chars)

    to_rest : widths (a ++ o) ≡ c.start + c.removed
    to_rest = omega (arith, widths_append a o, around_change.before, around_change.gone)

    -- a paragraph ends after the change
    pub change_inside : (upto : List Lengths) (q m : Lengths) (back : List Lengths) → lengths ucd old ≡ upto ++ q ∷ m ∷ back
        → total upto ≤ c.start + c.removed → c.start + c.removed < total upto + bytes_of q
        → IsRewritten ucd new front (((total upto + bytes_of q) - (c.start + c.removed)) + (c.start + c.added)) separators (m ∷ back)
    change_inside upto q m back e f g =
        let past : ℕ = (total upto + bytes_of q) - widths (a ++ o) in
        let b : Back ucd d past (m ∷ back) = back_of ucd (a ++ o) d upto q m back (replaced ∙ e) (omega (arith, to_rest)) (omega (arith, to_rest)) in
        let len : widths in_front.h + (c.added + past) ≡ (((total upto + bytes_of q) - (c.start + c.removed)) + (c.start + c.added)) - total front =
        omega (arith, to_rest, to_change) in
        rewritten new in_front.x found front _ separators (m ∷ back) utf8' whole in_front.bytes kept
        (found_before in_front.h n d past _ c.added separators (m ∷ back) in_front.few counted around_change.come len b)

    -- the change reaches into the last paragraph
    pub change_at_end : (upto : List Lengths) (q : Lengths) → lengths ucd old ≡ upto ++ q ∷ [] → total upto ≤ c.start + c.removed
        → (last : ℕ) × IsRewritten ucd new front (length new) separators (unended last ∷ [])
    change_at_end upto q e f =
        let one : count ucd d ≤ 1 = last_of ucd (a ++ o) d upto q (replaced ∙ e) (omega (arith, to_rest)) in
        let (last, is_found) = found_last in_front.h n d separators in_front.few counted one in
        let cut = cut_at new in_front.x found (total front) utf8' whole in_front.bytes in
        let len : widths found ≡ length new - total front = omega (arith, cut.bytes) in (
          last,
          rewritten new in_front.x found front (length new) separators (unended last ∷ []) utf8' whole in_front.bytes kept
              (subst (λ k. IsFound found k separators (unended last ∷ [])) len is_found),
        )
