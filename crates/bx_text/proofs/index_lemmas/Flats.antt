-- Paragraphs in blocks, cut between the blocks.
use Rattle.std.proofs.Common.{◌≡◌, ◌<◌, ◌≤◌, ◌+◌, ◌-◌, ◌∙◌, ℕ, List, [], ◌∷◌, ◌++◌, length, take, drop, get_or, Some, Bool, true, false, nat_lt, refl, ap, sym}
use Rattle.std.proofs.Common.{subst, arith, length-append, append_assoc, append-nil}
use Rattle.std.proofs.lemmas.Bool.Decides.{nat_tests}
use Rattle.std.proofs.lemmas.List.{take-append-drop, take_more, drop_more, take-take, take-append-le, drop-append-le, get_or_append_left, get_or-append-add}
use Rattle.std.proofs.lemmas.List.{get_or_default}
use Rattle.bx_text.specs.declared.index.lengths.Lengths.{Lengths}
use Rattle.bx_text.specs.index.Paragraphs.{total}
use Rattle.std.proofs.Math.Seq.{take-append-add, drop-append-add, take-append_seam, drop-append_seam}
use Rattle.bx_text.specs.declared.index.paragraph_span.ParagraphSpan.{ParagraphSpan}
use Rattle.bx_text.specs.index.Flat.{flat, separator_of, IsSpanAround}
use Rattle.bx_text.proofs.index_lemmas.Totals.{total_append}

pub flat_append : (bs ds : List (List Lengths)) → flat (bs ++ ds) ≡ flat bs ++ flat ds
flat_append [] ds = refl
flat_append (b ∷ bs) ds = ap (λ ls. b ++ ls) (flat_append bs ds) ∙ sym (append_assoc b (flat bs) (flat ds))

pub flat_one : (b : List Lengths) → flat (b ∷ []) ≡ b
flat_one b = append-nil b

-- the blocks in front of a position, and those after it
pub flat_cut : (n : ℕ) (bs : List (List Lengths)) → flat bs ≡ flat (take n bs) ++ flat (drop n bs)
flat_cut n bs = ap flat (sym (take-append-drop n bs)) ∙ flat_append (take n bs) (drop n bs)

pub flat_more : (bs : List (List Lengths)) (n : ℕ) (d : List Lengths) → n < length bs → flat (take (n + 1) bs) ≡ flat (take n bs) ++ get_or bs n d
flat_more bs n d h = ap flat (take_more bs n d h) ∙ flat_append (take n bs) (get_or bs n d ∷ []) ∙ ap (λ ls. flat (take n bs) ++ ls) (flat_one (get_or bs n d))

pub total_flat_more : (bs : List (List Lengths)) (n : ℕ) (d : List Lengths) → n < length bs
    → total (flat (take (n + 1) bs)) ≡ total (flat (take n bs)) + total (get_or bs n d)
total_flat_more bs n d h = ap total (flat_more bs n d h) ∙ total_append (flat (take n bs)) (get_or bs n d)

pub length_flat_more : (bs : List (List Lengths)) (n : ℕ) (d : List Lengths) → n < length bs
    → length (flat (take (n + 1) bs)) ≡ length (flat (take n bs)) + length (get_or bs n d)
length_flat_more bs n d h = ap length (flat_more bs n d h) ∙ length-append (flat (take n bs)) (get_or bs n d)

pub total_flat_front : (n : ℕ) (bs : List (List Lengths)) → total (flat (take n bs)) ≤ total (flat bs)
total_flat_front n bs = omega (arith, ap total (flat_cut n bs), total_append (flat (take n bs)) (flat (drop n bs)))

pub length_flat_front : (n : ℕ) (bs : List (List Lengths)) → length (flat (take n bs)) ≤ length (flat bs)
length_flat_front n bs = omega (arith, ap length (flat_cut n bs), length-append (flat (take n bs)) (flat (drop n bs)))

pub length_flat_front_of : (bs : List (List Lengths)) (n k : ℕ) → n ≤ k → length (flat (take n bs)) ≤ length (flat (take k bs))
length_flat_front_of bs n k h = omega (arith, ap (λ cs. length (flat cs)) (take-take n k bs h), length_flat_front n (take k bs))

ordered_at : (bs : List (List Lengths)) (k n : ℕ) (less : Bool) → nat_lt k n ≡ less → length (flat (take k bs)) < length (flat (take n bs)) → k < n
ordered_at bs k n true e h = grind (arith, nat_tests)
ordered_at bs k n false e h = let le : n ≤ k = grind (arith, nat_tests) in absurd (omega (arith, h, length_flat_front_of bs n k le))

pub whole_front : (bs : List (List Lengths)) (n m : ℕ) → m ≡ length (flat (take n bs)) → take m (flat bs) ≡ flat (take n bs)
whole_front bs n m e = ap (take m) (flat_cut n bs) ∙ ap (λ k. take k (flat (take n bs) ++ flat (drop n bs))) e
    ∙ take-append_seam (flat (take n bs)) (flat (drop n bs))

pub whole_back : (bs : List (List Lengths)) (n m : ℕ) → m ≡ length (flat (take n bs)) → drop m (flat bs) ≡ flat (drop n bs)
whole_back bs n m e = ap (drop m) (flat_cut n bs) ∙ ap (λ k. drop k (flat (take n bs) ++ flat (drop n bs))) e
    ∙ drop-append_seam (flat (take n bs)) (flat (drop n bs))

-- of two cuts between blocks the one with more paragraphs in front is after
pub ordered : (bs : List (List Lengths)) (k n : ℕ) → length (flat (take k bs)) < length (flat (take n bs)) → k < n
ordered bs k n h = ordered_at bs k n (nat_lt k n) refl h

-- ---- a position among the blocks

module _ (bs : List (List Lengths)) (i : ℕ) (b : List Lengths) (h : i < length bs) (e : b ≡ get_or bs i b) where
  -- the paragraphs are those in front of a block, the block, and those after it
  pub around : flat bs ≡ flat (take i bs) ++ (b ++ flat (drop (i + 1) bs))
  around =
      flat_cut (i + 1) bs ∙ ap (λ ls. ls ++ flat (drop (i + 1) bs)) (flat_more bs i b h ∙ ap (λ c. flat (take i bs) ++ c) (sym e))
      ∙ append_assoc (flat (take i bs)) b (flat (drop (i + 1) bs))

  pub behind : flat (drop i bs) ≡ b ++ flat (drop (i + 1) bs)
  behind = ap flat (drop_more bs i b h) ∙ ap (λ c. c ++ flat (drop (i + 1) bs)) (sym e)

  pub length_around : length (flat bs) ≡ length (flat (take i bs)) + (length b + length (flat (drop (i + 1) bs)))
  length_around = ap length around ∙ length-append (flat (take i bs)) (b ++ flat (drop (i + 1) bs))
      ∙ ap (λ m. length (flat (take i bs)) + m) (length-append b (flat (drop (i + 1) bs)))

  -- the paragraphs in front of one in a block, and those from it on
  pub front_in_block : (k : ℕ) → k ≤ length b → take (length (flat (take i bs)) + k) (flat bs) ≡ flat (take i bs) ++ take k b
  front_in_block k l =
      ap (take (length (flat (take i bs)) + k)) around
      ∙ take-append-add (flat (take i bs)) (b ++ flat (drop (i + 1) bs)) k
      ∙ ap (λ ls. flat (take i bs) ++ ls) (take-append-le k b (flat (drop (i + 1) bs)) l)

  pub back_in_block : (k : ℕ) → k ≤ length b → drop (length (flat (take i bs)) + k) (flat bs) ≡ drop k b ++ flat (drop (i + 1) bs)
  back_in_block k l =
      ap (drop (length (flat (take i bs)) + k)) around
      ∙ drop-append-add (flat (take i bs)) (b ++ flat (drop (i + 1) bs)) k
      ∙ drop-append-le k b (flat (drop (i + 1) bs)) l

  pub total_in_block : (k : ℕ) → k ≤ length b → total (take (length (flat (take i bs)) + k) (flat bs)) ≡ total (flat (take i bs)) + total (take k b)
  total_in_block k l = ap total (front_in_block k l) ∙ total_append (flat (take i bs)) (take k b)

  -- a paragraph of the block
  pub get_at : (n left : ℕ) (d f : Lengths) → n ≡ length (flat (take i bs)) + left → left < length b → get_or b left d ≡ get_or (flat bs) n f
  get_at n left d f e l =
      get_or_default b left d f l
      ∙ sym (get_or_append_left b (flat (drop (i + 1) bs)) f left l)
      ∙ sym (get_or-append-add (flat (take i bs)) (b ++ flat (drop (i + 1) bs)) left f)
      ∙ ap (λ ls. get_or ls (length (flat (take i bs)) + left) f) (sym around)
      ∙ ap (λ m. get_or (flat bs) m f) (sym e)

  abbrev none : Lengths
  none = record { body = 0; separator = 0 }

  pub position_at : (n s offset within before past separator : ℕ) → n ≡ length (flat (take i bs)) → s ≡ total (flat (take i bs)) → s ≤ offset
      → within < length b → before ≡ total (take within b) → before ≤ offset - s → past ≡ total (take (within + 1) b) → offset - s < past
      → separator ≡ separator_of b within
      → IsSpanAround (flat bs) offset (record { number = n + within; start = s + before; end = Some (s + past); separator = separator })
  position_at n s offset within before past separator en es start_before inside eb lb ep lp sep =
      let there : n + within ≡ length (flat (take i bs)) + within = omega (arith, en) in
      let next : n + within + 1 ≡ length (flat (take i bs)) + (within + 1) = omega (arith, en) in
      record {
        number = omega (arith, en, length_around);
        start = omega (arith, es, eb, total_in_block within (omega arith), ap (λ m. total (take m (flat bs))) there);
        start_before = omega (arith);
        end_is = (
          omega (arith, en, length_around),
          omega (arith, es, ep, total_in_block (within + 1) (omega arith), ap (λ m. total (take m (flat bs))) next),
          omega arith,
        );
        separator_is = sep ∙ ap (λ (l : Lengths). l.separator) (get_at (n + within) within none none there inside);
      }

  pub entry_at : (ds : List (List Lengths)) (ls : List Lengths) → bs ≡ ds → ls ≡ b → (n left start t : ℕ) (d : Lengths)
      → n ≡ length (flat (take i bs)) + left → start ≡ total (flat (take i bs)) → t ≡ total (take left ls) → left < length ls
      → (n < length (flat ds)) × (start + t ≡ total (take n (flat ds))) × (get_or ls left d ≡ get_or (flat ds) n (get_or ls left d))
  entry_at ds ls same block n left start t d en es et l =
      let inside : left < length b = omega (arith, ap length block) in
      let sum : start + t ≡ total (take n (flat bs)) =
      omega (arith, es, et, ap (λ ks. total (take left ks)) block, total_in_block left (omega arith), ap (λ m. total (take m (flat bs))) en) in
      let found : get_or ls left d ≡ get_or (flat bs) n (get_or ls left d) = ap (λ ks. get_or ks left d) block
      ∙ get_at n left d (get_or ls left d) en inside in (
        omega (arith, en, length_around, ap (λ es. length (flat es)) same),
        sum ∙ ap (λ es. total (take n (flat es))) same,
        found ∙ ap (λ es. get_or (flat es) n (get_or ls left d)) same,
      )

pub IsSpanAround-same : (bs ds : List (List Lengths)) (offset : ℕ) (p : ParagraphSpan) → bs ≡ ds → IsSpanAround (flat bs) offset p → IsSpanAround (flat ds) offset p
IsSpanAround-same bs ds offset p e h = subst (λ cs. IsSpanAround (flat cs) offset p) e h
