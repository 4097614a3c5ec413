-- An index that follows a change: the paragraphs that it removes, and those that it inserts.
use Rattle.std.proofs.Common.{◌≡◌, ◌<◌, ◌≤◌, ◌+◌, ◌-◌, ◌∙◌, ◌⊎◌, inl, inr, ℕ, Bool, true, false, nat_le, List, [], ◌∷◌, ◌++◌, length, take, drop, get_or}
use Rattle.std.proofs.Common.{Option, Some, None, IfSome, ◌*◌, MatchOption, IsUtf8, IsCharBoundary, min, refl, ap, sym, subst, arith, length-append}
use Rattle.std.proofs.Common.{append_assoc, append-nil}
use Rattle.std.proofs.lemmas.Bool.Decides.{nat_tests}
use Rattle.std.proofs.Common.{chars}
use Rattle.std.proofs.lemmas.List.{length-take-le, take-append-drop, take-take, take_at, drop_at, drop_more, take_all, drop_all}
use Rattle.bx_ucd.specs.Data.{Data}
use Rattle.bx_text.specs.declared.change.Change.{Change}
use Rattle.bx_text.specs.Edits.{largest_text, splice}
use Rattle.bx_text.specs.Changes.{IsChange}
use Rattle.bx_text.specs.declared.index.lengths.Lengths.{Lengths}
use Rattle.bx_text.specs.declared.index.paragraph_span.ParagraphSpan.{ParagraphSpan}
use Rattle.bx_text.specs.index.Paragraphs.{lengths, bytes_of, total}
use Rattle.bx_text.specs.index.Scan.{separating}
use Rattle.bx_text.specs.index.Index.{separator_count, CoversBytes, HasSpares}
use Rattle.bx_text.specs.index.Capacity.{block_capacity}
use Rattle.bx_text.specs.index.Ended.{ended_within}
use Rattle.bx_text.specs.Text.{HasRoomFor}
use Rattle.bx_text.specs.index.Flat.{IsSpanAround}
use Rattle.bx_text.specs.index.Touched.{IsTouched}
use Rattle.bx_text.proofs.index_lemmas.Counts.{count_separating}
use Rattle.bx_text.proofs.index_lemmas.Cuts.{unended}
use Rattle.bx_text.proofs.index_lemmas.Totals.{total_append, total_more, total_push, total_front}
use Rattle.bx_text.proofs.index_lemmas.Rewritten.{IsRewritten, change_inside, change_at_end, few_separators}
use Rattle.bx_text.proofs.index_lemmas.Turns.{total_lengths, few_lengths}

-- ---- positions

-- the meaning of a position with an end
pub record HasEnd (ps : List Lengths) (offset : ℕ) (p : ParagraphSpan) (e : ℕ) : Type 0 where
  pub inside : p.number < length ps
  pub end : e ≡ total (take (p.number + 1) ps)
  pub past : offset < e

pub has_end : (ps : List Lengths) (offset : ℕ) (p : ParagraphSpan) (e : ℕ) → IsSpanAround ps offset p → p.end ≡ Some e → HasEnd ps offset p e
has_end ps offset p e h k =
    let both : (p.number < length ps) × (e ≡ total (take (p.number + 1) ps))
    × (offset < e) = subst (λ o. MatchOption o (p.number ≡ length ps) (λ n. (p.number < length ps) × (n ≡ total (take (p.number + 1) ps)) × (offset < n))) k
    h.end_is in
    record { inside = both.0; end = both.1; past = both.2 }

pub no_end : (ps : List Lengths) (offset : ℕ) (p : ParagraphSpan) → IsSpanAround ps offset p → p.end ≡ None → p.number ≡ length ps
no_end ps offset p h k = subst (λ o. MatchOption o (p.number ≡ length ps) (λ n. (p.number < length ps) × (n ≡ total (take (p.number + 1) ps)) × (offset < n))) k
    h.end_is

-- a list cut at one of its paragraphs
pub parted_at : (ps : List Lengths) (u d : Lengths) (n : ℕ) → n < length ps → ps ++ u ∷ [] ≡ take n ps ++ get_or ps n d ∷ (drop (n + 1) ps ++ u ∷ [])
parted_at ps u d n h =
    ap (λ ls. ls ++ u ∷ []) (sym (take-append-drop n ps) ∙ ap (λ ls. take n ps ++ ls) (drop_more ps n d h))
    ∙ append_assoc (take n ps) (get_or ps n d ∷ drop (n + 1) ps) (u ∷ [])

-- the paragraph at a position, and those after it
record IsParted (ps : List Lengths) (u : Lengths) (offset : ℕ) (p : ParagraphSpan) : Type 0 where
  here : Lengths
  behind : List Lengths
  whole : ps ++ u ∷ [] ≡ take p.number ps ++ here ∷ behind
  holds : (offset < total (take p.number ps) + bytes_of here) ⊎ (total (ps ++ u ∷ []) ≡ total (take p.number ps) + bytes_of here)

parted_by : (ps : List Lengths) (u : Lengths) (offset : ℕ) (p : ParagraphSpan) (e : Option ℕ) → p.end ≡ e → IsSpanAround ps offset p → IsParted ps u offset p
parted_by ps u offset p (Some e) k h =
    let t = has_end ps offset p e h k in
    record {
      here = get_or ps p.number u;
      behind = drop (p.number + 1) ps ++ u ∷ [];
      whole = parted_at ps u u p.number t.inside;
      holds = inl (omega (arith, t.past, t.end, total_more ps p.number u t.inside));
    }
parted_by ps u offset p None k h =
    let all : take p.number ps ≡ ps = take_all p.number ps (omega (arith, no_end ps offset p h k)) in
    record {
      here = u;
      behind = [];
      whole = ap (λ ls. ls ++ u ∷ []) (sym all);
      holds = inr (total_push ps u ∙ ap (λ ls. total ls + bytes_of u) (sym all));
    }

reached : (n s b all : ℕ) → (s - 1 < b) ⊎ (all ≡ b) → s ≤ all → s ≤ b
reached n s b all (inl l) h = omega arith
reached n s b all (inr e) h = omega arith

-- ---- a change

module _ {ucd : Data} {old : List ℕ} {c : Change} {new : List ℕ} {ps : List Lengths} {u : Lengths} {first last : ParagraphSpan}
    (touched : IsTouched ucd old c new ps u first last) where
  before : IsParted ps u (c.start - 1) first
  before = parted_by ps u (c.start - 1) first first.end refl touched.first_is

  pub start_inside : c.start ≤ length old
  start_inside = touched.is_change.old_range.start_bounds.0

  pub old_bytes : total (ps ++ u ∷ []) ≡ length old
  old_bytes = ap total touched.were ∙ total_lengths ucd old touched.old_utf8

  starts : total (take first.number ps) ≤ c.start - 1
  starts = omega (arith, touched.first_is.start, touched.first_is.start_before)

  holds : c.start ≤ total (take first.number ps) + bytes_of before.here
  holds = reached 0 c.start _ (total (ps ++ u ∷ [])) before.holds (omega (arith, start_inside, old_bytes))

  -- how many separators it adds
  abbrev pub added_separators : ℕ
  added_separators = separator_count ucd (take c.added (drop c.start new))

  pub few_added : added_separators ≤ c.added
  few_added = few_separators ucd old c new touched.old_utf8 touched.new_utf8 touched.is_change

  ordered_at : {end : ℕ} → HasEnd ps (c.start + c.removed) last end → (less : Bool) → nat_le first.number (last.number + 1) ≡ less
      → first.number ≤ last.number + 1
  ordered_at t true e = grind (arith, nat_tests)
  ordered_at t false e =
      let behind : last.number + 1 ≤ first.number = grind (arith, nat_tests) in
      let few : total (take (last.number + 1) ps) ≤ total (take first.number ps) =
      omega (arith, total_front (last.number + 1) (take first.number ps), ap total (take-take (last.number + 1) first.number ps behind)) in
      absurd (omega (arith, few, starts, t.end, t.past))

  inside_of : (q : Lengths) (n : ℕ) (ds : List Lengths) → lengths ucd old ≡ take n ps ++ q ∷ (ds ++ u ∷ []) → total (take n ps) ≤ c.start + c.removed
      → c.start + c.removed < total (take n ps) + bytes_of q
      → IsRewritten ucd new (take first.number ps) (((total (take n ps) + bytes_of q) - (c.start + c.removed)) + (c.start + c.added)) added_separators
      (ds ++ u ∷ [])
  inside_of q n [] e f g = change_inside ucd old c new touched.old_utf8 touched.new_utf8 touched.is_change (take first.number ps) before.here before.behind
      (sym touched.were ∙ before.whole) starts holds (take n ps) q u [] e f g
  inside_of q n (d ∷ ds) e f g = change_inside ucd old c new touched.old_utf8 touched.new_utf8 touched.is_change (take first.number ps) before.here before.behind
      (sym touched.were ∙ before.whole) starts holds (take n ps) q d (ds ++ u ∷ []) e f g

  -- where a paragraph ends after the change
  pub follow_inside : (end : ℕ) → last.end ≡ Some end
      → IsRewritten ucd new (take first.number ps) ((end - c.removed) + c.added) added_separators (drop (last.number + 1) ps ++ u ∷ [])
  follow_inside end k =
      let h = touched.last_is in
      let t = has_end ps (c.start + c.removed) last end h k in
      let sum : end ≡ total (take last.number ps) + bytes_of (get_or ps last.number u) = t.end ∙ total_more ps last.number u t.inside in
      let stop : ((total (take last.number ps) + bytes_of (get_or ps last.number u)) - (c.start + c.removed)) + (c.start + c.added)
      ≡ (end - c.removed) + c.added = omega (arith, sum, t.past) in
      subst (λ s. IsRewritten ucd new (take first.number ps) s added_separators (drop (last.number + 1) ps ++ u ∷ [])) stop
      (inside_of (get_or ps last.number u) last.number (drop (last.number + 1) ps) (sym touched.were ∙ parted_at ps u u last.number t.inside)
      (omega (arith, h.start, h.start_before)) (omega (arith, t.past, sum)))

  -- where the change reaches into the last paragraph
  pub follow_at_end : last.end ≡ None → (r : ℕ) × IsRewritten ucd new (take first.number ps) (length new) added_separators (unended r ∷ [])
  follow_at_end k =
      let h = touched.last_is in
      let n : last.number ≡ length ps = no_end ps (c.start + c.removed) last h k in
      let all : take last.number ps ≡ ps = take_all last.number ps (omega (arith, n)) in
      change_at_end ucd old c new touched.old_utf8 touched.new_utf8 touched.is_change (take first.number ps) before.here before.behind
      (sym touched.were ∙ before.whole) starts holds ps u (sym touched.were) (omega (arith, h.start, h.start_before, ap total all))

  -- the first paragraph of the change is not after its last
  pub in_order : (end : ℕ) → last.end ≡ Some end → first.number ≤ last.number + 1
  in_order end k = ordered_at (has_end ps (c.start + c.removed) last end touched.last_is k) (nat_le first.number (last.number + 1)) refl

  -- the new text's bytes, by the paragraphs kept and found
  pub bytes_of_found : (stop : ℕ) (back : List Lengths) (w : List Lengths) → lengths ucd new ≡ take first.number ps ++ (w ++ back)
      → length new ≡ total (take first.number ps) + (total w + total back)
  bytes_of_found stop back w e =
      sym (total_lengths ucd new touched.new_utf8) ∙ ap total e ∙ total_append (take first.number ps) (w ++ back)
      ∙ ap (λ n. total (take first.number ps) + n) (total_append w back)

  -- ---- by the offset where the first paragraph begins

  -- the paragraphs that end from there to an offset in the new text
  abbrev pub found : ℕ → List Lengths
  found stop = ended_within (stop - first.start) (lengths ucd (drop first.start new))

  pub record IsFollowed (stop : ℕ) (back : List Lengths) : Type 0 where
    pub bounds : IsCharBoundary new first.start
    pub kept : lengths ucd new ≡ take first.number ps ++ (found stop ++ back)
    pub few : length (found stop) ≤ added_separators + 2
    pub bytes : length new ≡ first.start + (total (found stop) + total back)

  rewrite_follows : (stop : ℕ) (back : List Lengths) → IsRewritten ucd new (take first.number ps) stop added_separators back → IsFollowed stop back
  rewrite_follows stop back r =
      let e : total (take first.number ps) ≡ first.start = sym touched.first_is.start in
      let kept : lengths ucd new ≡ take first.number ps ++ (found stop ++ back) =
      subst (λ n. lengths ucd new ≡ take first.number ps ++ (ended_within (stop - n) (lengths ucd (drop n new)) ++ back)) e r.kept in
      record {
        bounds = subst (IsCharBoundary new) e r.bounds;
        kept = kept;
        few = subst (λ n. length (ended_within (stop - n) (lengths ucd (drop n new))) ≤ added_separators + 2) e r.few;
        bytes = omega (arith, bytes_of_found stop back (found stop) kept, e);
      }

  pub inside : (end : ℕ) → last.end ≡ Some end → IsFollowed ((end - c.removed) + c.added) (drop (last.number + 1) ps ++ u ∷ [])
  inside end k = rewrite_follows _ _ (follow_inside end k)

  pub at_end : (stop : ℕ) → stop ≡ length new → last.end ≡ None → (r : ℕ) × IsFollowed stop (unended r ∷ [])
  at_end stop e k =
      let (r, w) = follow_at_end k in
      (r, rewrite_follows stop (unended r ∷ []) (subst (λ n. IsRewritten ucd new (take first.number ps) n added_separators (unended r ∷ [])) (sym e) w))

  -- the paragraphs in blocks, with the last, are those of the new text
  pub closed_inside : (stop to : ℕ) (fs : List Lengths) → IsFollowed stop (drop to ps ++ u ∷ []) → fs ≡ take first.number ps ++ (found stop ++ drop to ps)
      → fs ++ u ∷ [] ≡ lengths ucd new
  closed_inside stop to fs f e =
      ap (λ ls. ls ++ u ∷ []) e ∙ append_assoc (take first.number ps) (found stop ++ drop to ps) (u ∷ [])
      ∙ ap (λ ls. take first.number ps ++ ls) (append_assoc (found stop) (drop to ps) (u ∷ [])) ∙ sym f.kept

  pub closed_at_end : (stop to r v : ℕ) (fs : List Lengths) → to ≡ length ps → v ≡ r → IsFollowed stop (unended r ∷ [])
      → fs ≡ take first.number ps ++ (found stop ++ drop to ps)
      → fs ++ unended v ∷ [] ≡ lengths ucd new
  closed_at_end stop to r v fs n same f e =
      let none : drop to ps ≡ [] = drop_all to ps (omega (arith, n)) in
      ap (λ k. fs ++ unended k ∷ []) same
      ∙ ap (λ ls. ls ++ unended r ∷ []) (e ∙ ap (λ ls. take first.number ps ++ (found stop ++ ls)) none
      ∙ ap (λ ls. take first.number ps ++ ls) (append-nil (found stop)))
      ∙ append_assoc (take first.number ps) (found stop) (unended r ∷ []) ∙ sym f.kept

  -- the old text is within the bounds of the index
  pub old_in : (n : ℕ) → total (ps ++ u ∷ []) ≤ n → c.start + c.removed ≤ n
  old_in n h = let inside : c.start + c.removed ≤ length old = touched.is_change.old_range.stop_bounds.0 in omega (arith, old_bytes)

  pub added_in : c.start + c.added ≤ length new
  added_in = touched.is_change.new_range.stop_bounds.0

  -- how many there are
  pub few_in : (fs : List Lengths) (v : Lengths) → fs ++ v ∷ [] ≡ lengths ucd new → length fs ≤ length new
  few_in fs v e = omega (arith, ap length e, length-append fs (v ∷ []), few_lengths ucd new touched.new_utf8)

-- the room that was made covers the added text
pub has_spares : (room : Option ℕ) (spares separators : ℕ) → IfSome room (HasSpares spares) → HasRoomFor room separators → separators ≤ largest_text
    → separators + 2 * block_capacity + 2 ≤ block_capacity * spares
has_spares None spares separators h k few = absurd k
has_spares (Some room) spares separators h k few = let enough : min room largest_text + 2 * block_capacity + 2 ≤ block_capacity * spares = h in omega (arith, k)

-- so does as much room as bytes
pub room_for_bytes : (ucd : Data) (old : List ℕ) (c : Change) (new : List ℕ) → IsUtf8 old → IsUtf8 new → IsChange old c new
    → (room : Option ℕ) (n : ℕ) → room ≡ Some n → c.added ≤ n → HasRoomFor room (separator_count ucd (take c.added (drop c.start new)))
room_for_bytes ucd old c new utf8 utf8' is_change room n e enough =
    let few : separator_count ucd (take c.added (drop c.start new)) ≤ n = omega (arith, few_separators ucd old c new utf8 utf8' is_change, enough) in
    rw e few

pub covers_bytes : (room : Option ℕ) (n : ℕ) → room ≡ Some n → CoversBytes room n
covers_bytes room n e ucd text utf8 enough =
    let few : separator_count ucd text ≤ n = omega (arith, few_lengths ucd text utf8, enough) in
    rw e few

-- so does as much room as separators, where a text is put in: it is all that is added
put_in : (old new : List ℕ) (at : ℕ) → at ≤ length old → take (length new) (drop at (splice old at at new)) ≡ new
put_in old new at within =
    ap (λ xs. take (length new) (drop at xs)) (append_assoc (take at old) new (drop at old))
    ∙ ap (take (length new)) (drop_at (take at old) (new ++ drop at old) at (length-take-le at old within))
    ∙ take_at new (drop at old) (length new) refl

pub room_for_put : (ucd : Data) (old new : List ℕ) (at : ℕ) → at ≤ length old → (room : Option ℕ) (n : ℕ) → room ≡ Some n → separating ucd new ≤ n
    → HasRoomFor room (separator_count ucd (take (length new) (drop at (splice old at at new))))
room_for_put ucd old new at within room n e enough =
    let few : separator_count ucd new ≤ n = omega (arith, count_separating ucd (chars new), enough) in
    rw e (subst (λ t. separator_count ucd t ≤ n) (sym (put_in old new at within)) few)
