-- Where a walk over the paragraphs goes from one of them.
use Rattle.std.proofs.Common.{◌≡◌, ◌<◌, ◌≤◌, ◌+◌, ◌-◌, ◌∙◌, ℕ, Bool, true, false, nat_lt, List, length, take, if◌then◌else◌, ap, arith, sym}
use Rattle.std.proofs.lemmas.Bool.Decides.{nat_tests}
use Rattle.bx_text.specs.declared.index.lengths.Lengths.{Lengths}
use Rattle.bx_text.specs.index.Paragraphs.{lengths, total}
use Rattle.bx_text.specs.index.Walk.{WalkState}
use Rattle.bx_ucd.specs.Data.{Data}
use Rattle.bx_view.specs.Numbers.{count, start_at}
use Rattle.bx_view.specs.declared.in_row.RowAt.{RowAt}
use Rattle.bx_view.proofs.Numbers.{lengths-count}

module _ (ps : List Lengths) (n : ℕ) (walk : WalkState) (stands : walk ≡ record { paragraphs = ps; number = n }) (moved : Bool) where
  number-is : walk.number ≡ n
  number-is = ap (λ (w : WalkState). w.number) stands

  size-is : length walk.paragraphs ≡ length ps
  size-is = ap (λ (w : WalkState). length w.paragraphs) stands

  pub no-next : moved ≡ nat_lt (walk.number + 1) (length walk.paragraphs) → moved ≡ false → length ps ≤ n + 1
  no-next there stayed =
      let e : nat_lt (walk.number + 1) (length walk.paragraphs) ≡ false = sym there ∙ stayed in
      let l : length walk.paragraphs ≤ walk.number + 1 = grind (arith, nat_tests) in
      omega (arith, l, number-is, size-is)

  pub next-inside : moved ≡ nat_lt (walk.number + 1) (length walk.paragraphs) → moved ≡ true → n + 1 < length ps
  next-inside there went =
      let e : nat_lt (walk.number + 1) (length walk.paragraphs) ≡ true = sym there ∙ went in
      let l : walk.number + 1 < length walk.paragraphs = grind (arith, nat_tests) in
      omega (arith, l, number-is, size-is)

  pub next-number : (m : ℕ) → m ≡ (if moved then walk.number + 1 else walk.number) → moved ≡ true → m ≡ n + 1
  next-number m e went = e ∙ ap (λ b. if b then walk.number + 1 else walk.number) went ∙ omega (arith, number-is)

  pub no-previous : moved ≡ nat_lt 0 walk.number → moved ≡ false → n ≡ 0
  no-previous there stayed =
      let e : nat_lt 0 walk.number ≡ false = sym there ∙ stayed in
      let l : walk.number ≤ 0 = grind (arith, nat_tests) in
      omega (arith, l, number-is)

  pub previous-number : (m : ℕ) → moved ≡ nat_lt 0 walk.number → moved ≡ true → m ≡ walk.number - 1 → n ≡ m + 1
  previous-number m there went e =
      let k : nat_lt 0 walk.number ≡ true = sym there ∙ went in
      let l : 0 < walk.number = grind (arith, nat_tests) in
      omega (arith, l, e, number-is)

-- ---- a walk at a row's paragraph

module _ (ucd : Data) (text : List ℕ) (ps : List Lengths) (indexed : ps ≡ lengths ucd text) (at : RowAt) where
  pub at-inside : at.paragraph < count ucd text → at.paragraph < length ps
  at-inside within = omega (arith, within, ap length indexed, lengths-count ucd text)

  pub at-begin : at.start ≡ start_at ucd text at.paragraph → at.start ≡ total (take at.paragraph ps)
  at-begin begins = begins ∙ ap (λ ls. total (take at.paragraph ls)) (sym indexed)

pub along-at : {ps qs : List Lengths} {n : ℕ} {walk : WalkState} → ps ≡ qs → walk ≡ record { paragraphs = ps; number = n }
    → (walk.paragraphs ≡ qs) × (walk.number ≡ n)
along-at indexed is = (ap (λ (w : WalkState). w.paragraphs) is ∙ indexed, ap (λ (w : WalkState). w.number) is)
