-- Steps that apply to a text one after another make one change.
use Rattle.std.proofs.Common.{◌≡◌, ℕ, zero, suc, ◌+◌, ◌≤◌, List, [], ◌∷◌, ◌++◌, length, take, drop, map, reverse, Some, refl, ap, sym, subst, ◌∙◌, arith}
use Rattle.std.proofs.lemmas.List.{reverse-append}
use Rattle.std.proofs.lemmas.Str.{IsUtf8-append, IsUtf8-take, IsUtf8-drop}
use Rattle.std.specs.List.{fold, reduce}
use Rattle.std.specs.Str.{IsUtf8}
use Rattle.bx_text.specs.pieces.Pieces.{total}
use Rattle.bx_text.specs.declared.change.Change.{Change}
use Rattle.bx_text.specs.declared.step.Step.{Step}
use Rattle.bx_text.specs.declared.step.Way.{Way}
use Rattle.bx_text.specs.Buffers.{Buffers, bytes_of}
use Rattle.bx_text.specs.Edits.{splice, largest_text, merged}
use Rattle.bx_text.specs.Changes.{IsChange, IsRange}
use Rattle.bx_text.specs.Steps.{Apply, AreSteps, after_swap, place_of, step_change}
use Rattle.bx_text.proofs.Bytes.{length-bytes_of, IsUtf8-bytes_of}
use Rattle.bx_text.proofs.Merged.{merged_leads}
use Rattle.bx_text.proofs.Versions.{splice_leads}

pub IsUtf8-splice : (text new : List ℕ) (start stop : ℕ) → IsUtf8 text → IsUtf8 new → IsRange text start stop → IsUtf8 (splice text start stop new)
IsUtf8-splice text new start stop utf8 more r =
    IsUtf8-append (take start text ++ new) (drop stop text) (IsUtf8-append (take start text) new (IsUtf8-take text start utf8 r.start_bounds) more)
    (IsUtf8-drop text stop utf8 r.stop_bounds)

-- ---- one step

pub record IsSwap (b : Buffers) (text : List ℕ) (c : Change) (new : List ℕ) (others : List Step) : Type 0 where
  pub leads : IsChange text c new
  pub utf8 : IsUtf8 new
  pub short : length new ≤ largest_text
  pub applied : AreSteps b new others

pub one_swap : (b : Buffers) (text : List ℕ) (s : Step) (others : List Step) (way : Way) → IsUtf8 text → AreSteps b text (s ∷ others)
    → IsSwap b text (step_change way s) (after_swap b text s) others
one_swap b text s others way utf8 h =
    let more : IsUtf8 (bytes_of b s.span) = IsUtf8-bytes_of b s.span h.1 in
    record {
      leads = subst (λ n. IsChange text (record { start = s.start; removed = s.len; added = n; place = place_of way s }) (after_swap b text s))
          (length-bytes_of b s.span h.1) (splice_leads text (bytes_of b s.span) s.start s.len (place_of way s) utf8 more h.0);
      utf8 = IsUtf8-splice text (bytes_of b s.span) s.start (s.start + s.len) utf8 more h.0;
      short = h.2;
      applied = h.3;
    }

-- ---- many steps

-- the change made so far, and the steps that apply to the text after it
pub record IsSoFar (whole : Change) (rest : List Step) : Type 0 where
  pub buffers : Buffers
  pub old : List ℕ
  pub now : List ℕ
  pub leads : IsChange old whole now
  pub old_short : length old ≤ largest_text
  pub utf8 : IsUtf8 now
  pub short : length now ≤ largest_text
  pub applied : AreSteps buffers now (reverse rest)

last_first : (steps rest : List Step) (s : Step) → steps ≡ rest ++ s ∷ [] → reverse steps ≡ s ∷ reverse rest
last_first steps rest s e = ap reverse e ∙ reverse-append rest (s ∷ [])

pub first_so_far : (steps rest : List Step) (s : Step) (way : Way) → Apply steps → steps ≡ rest ++ s ∷ [] → IsSoFar (step_change way s) rest
first_so_far steps rest s way h e =
    let applied : AreSteps h.buffers h.text (s ∷ reverse rest) = subst (AreSteps h.buffers h.text) (last_first steps rest s e) h.applied in
    let one = one_swap h.buffers h.text s (reverse rest) way h.utf8 applied in
    record {
      buffers = h.buffers;
      old = h.text;
      now = after_swap h.buffers h.text s;
      leads = one.leads;
      old_short = h.short;
      utf8 = one.utf8;
      short = one.short;
      applied = one.applied;
    }

module _ (whole : Change) (rest fewer : List Step) (s : Step) (way : Way) (h : IsSoFar whole rest) (e : rest ≡ fewer ++ s ∷ []) where
  applied : AreSteps h.buffers h.now (s ∷ reverse fewer)
  applied = subst (AreSteps h.buffers h.now) (last_first rest fewer s e) h.applied

  one : IsSwap h.buffers h.now (step_change way s) (after_swap h.buffers h.now s) (reverse fewer)
  one = one_swap h.buffers h.now s (reverse fewer) way h.utf8 applied

  pub next_so_far : IsSoFar (merged whole (step_change way s)) fewer
  next_so_far = record {
    buffers = h.buffers;
    old = h.old;
    now = after_swap h.buffers h.now s;
    leads = merged_leads h.old h.now (after_swap h.buffers h.now s) whole (step_change way s) h.leads one.leads;
    old_short = h.old_short;
    utf8 = one.utf8;
    short = one.short;
    applied = one.applied;
  }

  pub small_between : (whole.start + whole.added ≤ largest_text) × (s.start + s.len ≤ largest_text)
  small_between = (omega (arith, h.leads.new_range.stop_bounds.0, h.short), omega (arith, one.leads.old_range.stop_bounds.0, h.short))

  pub small_before : whole.removed ≤ largest_text
  small_before = omega (arith, h.leads.old_range.stop_bounds.0, h.old_short)

  pub small_after : total s.span ≤ largest_text
  small_after = omega (arith, one.leads.new_range.stop_bounds.0, one.short)

-- ---- the change that is left to make

-- the change so far and the next n steps make the whole
abbrev pub all_merged : Way → Change → ℕ → List Step → Change
all_merged way whole n rest = fold merged whole (map (step_change way) (take n (reverse rest)))

take_none : (n : ℕ) → take {A = Step} n [] ≡ []
take_none zero = refl
take_none (suc n) = refl

pub none_left : (way : Way) (whole : Change) (n : ℕ) (rest : List Step) → length rest ≡ 0 → all_merged way whole n rest ≡ whole
none_left way whole n [] e = ap (λ ss. fold merged whole (map (step_change way) ss)) (take_none n)
none_left way whole n (s ∷ rest) e = absurd (omega arith)

pub none_wanted : (way : Way) (whole : Change) (n : ℕ) (rest : List Step) → n ≡ 0 → all_merged way whole n rest ≡ whole
none_wanted way whole n rest e = rw e refl

take_more : (n m : ℕ) (s : Step) (ss : List Step) → n ≡ suc m → take n (s ∷ ss) ≡ s ∷ take m ss
take_more n m s ss e = rw e refl

pub one_merged : (way : Way) (whole : Change) (n m : ℕ) (rest fewer : List Step) (s : Step) → n ≡ m + 1 → rest ≡ fewer ++ s ∷ []
    → all_merged way (merged whole (step_change way s)) m fewer ≡ all_merged way whole n rest
one_merged way whole n m rest fewer s more e =
    let f : n ≡ suc m = omega arith in
    sym (ap (λ ss. fold merged whole (map (step_change way) (take n ss))) (last_first rest fewer s e)
    ∙ ap (λ ss. fold merged whole (map (step_change way) ss)) (take_more n m s (reverse fewer) f))

pub first_merged : (way : Way) (n m : ℕ) (steps rest : List Step) (s : Step) → n ≡ m + 1 → steps ≡ rest ++ s ∷ []
    → Some (all_merged way (step_change way s) m rest) ≡ reduce merged (map (step_change way) (take n (reverse steps)))
first_merged way n m steps rest s more e =
    let f : n ≡ suc m = omega arith in
    sym (ap (λ ss. reduce merged (map (step_change way) (take n ss))) (last_first steps rest s e)
    ∙ ap (λ ss. reduce merged (map (step_change way) ss)) (take_more n m s (reverse rest) f))
