-- The paragraphs of blocks that are cut, lengthened and joined.
use Rattle.std.proofs.Common.{◌≡◌, ◌<◌, ◌≤◌, ◌+◌, ◌∙◌, ◌⊎◌, inl, inr, ℕ, Bool, true, List, [], ◌∷◌, ◌++◌, length, take, drop, get_or, insert}
use Rattle.std.proofs.Common.{ap, sym, subst, arith, length-append, append_assoc, append-nil, if◌then◌else◌}
use Rattle.std.proofs.lemmas.List.{take-append-drop, take-append-le, take-take, drop_at, length-take-le, length-take, length-drop, get_or_default}
use Rattle.std.proofs.Math.Seq.{take-append_seam}
use Rattle.bx_text.specs.declared.index.lengths.Lengths.{Lengths}
use Rattle.bx_text.specs.index.Paragraphs.{bytes_of, total}
use Rattle.bx_text.specs.index.Flat.{flat}
use Rattle.bx_text.proofs.index_lemmas.Totals.{total_append, total_push, total_cut, total_front}
use Rattle.bx_text.proofs.index_lemmas.Flats.{flat_append, flat_one, flat_cut, flat_more, total_flat_more, total_flat_front, length_flat_front, length_flat_front_of}
use Rattle.bx_text.proofs.index_lemmas.Flats.{whole_back, ordered, front_in_block, back_in_block}

-- lists cut after one element
take_behind : (bs ds : List (List Lengths)) (b : List Lengths) (n : ℕ) → length bs ≡ n → take (n + 1) (bs ++ b ∷ ds) ≡ bs ++ b ∷ []
take_behind bs ds b n e =
    let long : length (bs ++ b ∷ []) ≡ n + 1 = omega (arith, length-append bs (b ∷ []), e) in
    ap (take (n + 1)) (sym (append_assoc bs (b ∷ []) ds)) ∙ ap (λ k. take k ((bs ++ b ∷ []) ++ ds)) (sym long) ∙ take-append_seam (bs ++ b ∷ []) ds

drop_behind : (bs ds : List (List Lengths)) (b : List Lengths) (n : ℕ) → length bs ≡ n → drop (n + 1) (bs ++ b ∷ ds) ≡ ds
drop_behind bs ds b n e =
    let long : length (bs ++ b ∷ []) ≡ n + 1 = omega (arith, length-append bs (b ∷ []), e) in
    ap (drop (n + 1)) (sym (append_assoc bs (b ∷ []) ds)) ∙ drop_at (bs ++ b ∷ []) ds (n + 1) long

flat_behind : (bs ds : List (List Lengths)) (b : List Lengths) (n : ℕ) → length bs ≡ n → flat (take (n + 1) (bs ++ b ∷ ds)) ≡ flat bs ++ b
flat_behind bs ds b n e = ap flat (take_behind bs ds b n e) ∙ flat_append bs (b ∷ []) ∙ ap (λ ls. flat bs ++ ls) (flat_one b)

module _ (bs : List (List Lengths)) (i : ℕ) (h : i < length bs) where
  front_len : length (take i bs) ≡ i
  front_len = length-take-le i bs (omega arith)

  one_block : flat (take (i + 1) bs) ≡ flat (take i bs) ++ get_or bs i []
  one_block = flat_more bs i [] h

  abbrev cut_blocks : ℕ → List (List Lengths)
  cut_blocks w = take i bs ++ take w (get_or bs i []) ∷ drop w (get_or bs i []) ∷ drop (i + 1) bs

  pub cut_front : (w : ℕ) → flat (take (i + 1) (cut_blocks w)) ≡ flat (take i bs) ++ take w (get_or bs i [])
  cut_front w = flat_behind (take i bs) (drop w (get_or bs i []) ∷ drop (i + 1) bs) (take w (get_or bs i [])) i front_len

  pub cut_back : (w : ℕ) → flat (drop (i + 1) (cut_blocks w)) ≡ drop w (get_or bs i []) ++ flat (drop (i + 1) bs)
  cut_back w = ap flat (drop_behind (take i bs) (drop w (get_or bs i []) ∷ drop (i + 1) bs) (take w (get_or bs i [])) i front_len)

  pub cut_flat : (w : ℕ) → flat (cut_blocks w) ≡ flat bs
  cut_flat w =
      flat_cut (i + 1) (cut_blocks w) ∙ ap (λ ls. ls ++ flat (drop (i + 1) (cut_blocks w))) (cut_front w)
      ∙ ap (λ ls. (flat (take i bs) ++ take w (get_or bs i [])) ++ ls) (cut_back w)
      ∙ append_assoc (flat (take i bs)) (take w (get_or bs i [])) (drop w (get_or bs i []) ++ flat (drop (i + 1) bs))
      ∙ ap (λ ls. flat (take i bs) ++ ls) (sym (append_assoc (take w (get_or bs i [])) (drop w (get_or bs i [])) (flat (drop (i + 1) bs)))
      ∙ ap (λ ls. ls ++ flat (drop (i + 1) bs)) (take-append-drop w (get_or bs i [])))
      ∙ sym (append_assoc (flat (take i bs)) (get_or bs i []) (flat (drop (i + 1) bs)))
      ∙ ap (λ ls. ls ++ flat (drop (i + 1) bs)) (sym one_block) ∙ sym (flat_cut (i + 1) bs)

  -- the blocks before the cut stay
  pub cut_before : (w k : ℕ) → w < length (get_or bs i []) → length (flat (take k bs)) ≤ length (flat (take i bs)) + w → k ≤ i
  cut_before w k l f =
      let less : length (flat (take k bs)) < length (flat (take (i + 1) bs)) =
      omega (arith, ap length one_block, length-append (flat (take i bs)) (get_or bs i [])) in
      let behind : k < i + 1 = ordered bs k (i + 1) less in
      omega arith

  pub cut_stays : (w k : ℕ) → k ≤ i → take k (cut_blocks w) ≡ take k bs
  cut_stays w k l = take-append-le k (take i bs) _ (omega (arith, front_len)) ∙ take-take k i bs l

  abbrev pushed_blocks : Lengths → List (List Lengths)
  pushed_blocks p = take i bs ++ (get_or bs i [] ++ p ∷ []) ∷ drop (i + 1) bs

  pub pushed_front : (p : Lengths) → flat (take (i + 1) (pushed_blocks p)) ≡ flat (take (i + 1) bs) ++ p ∷ []
  pushed_front p =
      flat_behind (take i bs) (drop (i + 1) bs) (get_or bs i [] ++ p ∷ []) i front_len ∙ sym (append_assoc (flat (take i bs)) (get_or bs i []) (p ∷ []))
      ∙ ap (λ ls. ls ++ p ∷ []) (sym one_block)

  pub pushed_back : (p : Lengths) → drop (i + 1) (pushed_blocks p) ≡ drop (i + 1) bs
  pushed_back p = drop_behind (take i bs) (drop (i + 1) bs) (get_or bs i [] ++ p ∷ []) i front_len

-- ---- a block inserted

module _ (bs : List (List Lengths)) (at : ℕ) (h : at ≤ length bs) (p : Lengths) where
  put_len : length (take at bs) ≡ at
  put_len = length-take-le at bs h

  abbrev put_blocks : List (List Lengths)
  put_blocks = take at bs ++ (p ∷ []) ∷ drop at bs

  pub put_front : flat (take (at + 1) put_blocks) ≡ flat (take at bs) ++ p ∷ []
  put_front = flat_behind (take at bs) (drop at bs) (p ∷ []) at put_len

  pub put_back : drop (at + 1) put_blocks ≡ drop at bs
  put_back = drop_behind (take at bs) (drop at bs) (p ∷ []) at put_len

-- ---- one paragraph more among others

pub total_among : (front back : List Lengths) (p : Lengths) → total ((front ++ p ∷ []) ++ back) ≡ total (front ++ back) + bytes_of p
total_among front back p = omega (arith, total_append (front ++ p ∷ []) back, total_push front p, total_append front back)

pub length_among : (front back : List Lengths) (p : Lengths) → length ((front ++ p ∷ []) ++ back) ≡ length (front ++ back) + 1
length_among front back p = omega (arith, length-append (front ++ p ∷ []) back, length-append front (p ∷ []), length-append front back)

-- ---- two blocks joined

pub join_flat : (bs : List (List Lengths)) (i : ℕ) → i + 1 < length bs
    → flat (take i bs ++ (get_or bs i [] ++ get_or bs (i + 1) []) ∷ drop (i + 2) bs) ≡ flat bs
join_flat bs i h =
    let next : i + 1 + 1 ≡ i + 2 = omega arith in
    let whole : flat bs ≡ flat (take (i + 2) bs) ++ flat (drop (i + 2) bs) = flat_cut (i + 2) bs in
    let two : flat (take (i + 2) bs) ≡ (flat (take i bs) ++ get_or bs i []) ++ get_or bs (i + 1) [] =
    ap (λ n. flat (take n bs)) (sym next) ∙ flat_more bs (i + 1) [] h ∙ ap (λ ls. ls ++ get_or bs (i + 1) []) (flat_more bs i [] (omega arith)) in
    flat_append (take i bs) ((get_or bs i [] ++ get_or bs (i + 1) []) ∷ drop (i + 2) bs)
    ∙ sym (append_assoc (flat (take i bs)) (get_or bs i [] ++ get_or bs (i + 1) []) (flat (drop (i + 2) bs)))
    ∙ ap (λ ls. ls ++ flat (drop (i + 2) bs)) (sym (append_assoc (flat (take i bs)) (get_or bs i []) (get_or bs (i + 1) [])) ∙ sym two)
    ∙ sym whole

-- ---- a cut in front of a paragraph

pub record IsCutBefore (bs ds : List (List Lengths)) (at number : ℕ) : Type 0 where
  pub front : flat (take at ds) ≡ take number (flat bs)
  pub back : flat (drop at ds) ≡ drop number (flat bs)
  pub whole : flat ds ≡ flat bs
  pub before : (k : ℕ) → k ≤ length bs → length (flat (take k bs)) ≤ number → (take k ds ≡ take k bs) × (k ≤ length ds)

in_block : {P : Type 0} (w : ℕ) → (w ≡ 0) ⊎ P → 0 < w → P
in_block w (inl e) h = absurd (omega arith)
in_block w (inr p) h = p

cut_within : (bs : List (List Lengths)) (i w number : ℕ) → i < length bs → w < length (get_or bs i []) → number ≡ length (flat (take i bs)) + w
    → IsCutBefore bs (take i bs ++ take w (get_or bs i []) ∷ drop w (get_or bs i []) ∷ drop (i + 1) bs) (i + 1) number
cut_within bs i w number h l e =
    let b : List Lengths = get_or bs i [] in
    let same : b ≡ get_or bs i b = get_or_default bs i [] b h in
    record {
      front = cut_front bs i h w ∙ sym (front_in_block bs i b h same w (omega arith)) ∙ ap (λ n. take n (flat bs)) (sym e);
      back = cut_back bs i h w ∙ sym (back_in_block bs i b h same w (omega arith)) ∙ ap (λ n. drop n (flat bs)) (sym e);
      whole = cut_flat bs i h w;
      before = λ k inside few.
          let le : k ≤ i = cut_before bs i h w k l (omega (arith, few, e)) in
          (cut_stays bs i h w k le, omega (arith, length-append (take i bs) (take w b ∷ drop w b ∷ drop (i + 1) bs), front_len bs i h));
    }

pub cut_is : (ds bs new : List (List Lengths)) (i w number : ℕ) → ds ≡ bs
    → new ≡ take i ds ++ take w (get_or ds i []) ∷ drop w (get_or ds i []) ∷ drop (i + 1) ds
    → number ≡ length (flat (take i bs)) + w → (w ≡ 0) ⊎ ((i < length bs) × (w < length (get_or bs i []))) → 0 < w → IsCutBefore bs new (i + 1) number
cut_is ds bs new i w number same e n within some =
    let inside : (i < length bs) × (w < length (get_or bs i [])) = in_block w within some in
    subst (λ cs. IsCutBefore bs cs (i + 1) number) (sym (e ∙ ap (λ cs. take i cs ++ take w (get_or cs i []) ∷ drop w (get_or cs i []) ∷ drop (i + 1) cs) same))
    (cut_within bs i w number inside.0 inside.1 n)

-- ---- a paragraph inserted

pub record IsPushed (bs ds : List (List Lengths)) (at behind : ℕ) (p : Lengths) : Type 0 where
  pub front : flat (take behind ds) ≡ flat (take at bs) ++ p ∷ []
  pub back : flat (drop behind ds) ≡ flat (drop at bs)
  pub bytes : total (flat ds) ≡ total (flat bs) + bytes_of p
  pub count : length (flat ds) ≡ length (flat bs) + 1

pub pushed_from : (bs ds : List (List Lengths)) (at behind : ℕ) (p : Lengths) → flat (take behind ds) ≡ flat (take at bs) ++ p ∷ []
    → flat (drop behind ds) ≡ flat (drop at bs) → IsPushed bs ds at behind p
pushed_from bs ds at behind p f b =
    let new : flat ds ≡ (flat (take at bs) ++ p ∷ []) ++ flat (drop at bs) = flat_cut behind ds ∙ ap (λ ls. ls ++ flat (drop behind ds)) f
    ∙ ap (λ ls. (flat (take at bs) ++ p ∷ []) ++ ls) b in
    let old : flat bs ≡ flat (take at bs) ++ flat (drop at bs) = flat_cut at bs in
    record {
      front = f;
      back = b;
      bytes = omega (arith, ap total new, ap total old, total_among (flat (take at bs)) (flat (drop at bs)) p);
      count = omega (arith, ap length new, ap length old, length_among (flat (take at bs)) (flat (drop at bs)) p);
    }

-- into the block in front of the position
pub pushed_in_block : (ds bs new : List (List Lengths)) (i at : ℕ) (p : Lengths) → ds ≡ bs → new ≡ take i ds ++ (get_or ds i [] ++ p ∷ []) ∷ drop (i + 1) ds
    → i < length bs → i + 1 ≡ at → IsPushed bs new at at p
pushed_in_block ds bs new i at p same e h n =
    subst (λ cs. IsPushed bs cs at at p) (sym (e ∙ ap (λ cs. take i cs ++ (get_or cs i [] ++ p ∷ []) ∷ drop (i + 1) cs) same))
    (subst (λ k. IsPushed bs (take i bs ++ (get_or bs i [] ++ p ∷ []) ∷ drop (i + 1) bs) k k p) n
    (pushed_from bs _ (i + 1) (i + 1) p (pushed_front bs i h p) (ap flat (pushed_back bs i h p))))

-- into a block of its own
pub pushed_alone : (ds bs new : List (List Lengths)) (at : ℕ) (p : Lengths) → ds ≡ bs → new ≡ take at ds ++ (p ∷ []) ∷ drop at ds → at ≤ length bs
    → IsPushed bs new at (at + 1) p
pushed_alone ds bs new at p same e h =
    subst (λ cs. IsPushed bs cs at (at + 1) p) (sym (e ∙ ap (λ cs. take at cs ++ (p ∷ []) ∷ drop at cs) same))
    (pushed_from bs _ at (at + 1) p (put_front bs at h p) (ap flat (put_back bs at h p)))

-- the blocks after an insertion that succeeds
pub alone_in : (ok : Bool) (new ds : List (List Lengths)) (at : ℕ) (b e : List Lengths) (p : Lengths) → new ≡ (if ok then insert ds at b else ds) → ok ≡ true
    → b ≡ e ++ p ∷ [] → e ≡ []
    → new ≡ take at ds ++ (p ∷ []) ∷ drop at ds
alone_in ok new ds at b e p made yes' pushed empty =
    made ∙ ap (λ t. if t then insert ds at b else ds) yes' ∙ ap (λ c. take at ds ++ c ∷ drop at ds) (pushed ∙ ap (λ ls. ls ++ p ∷ []) empty)

-- ---- blocks removed

pub record IsTaken (bs ds : List (List Lengths)) (from to : ℕ) : Type 0 where
  pub back : flat (drop from ds) ≡ flat (drop to bs)
  pub front : take from ds ≡ take from bs
  pub bytes : total (flat ds) ≤ total (flat bs)
  pub count : length (flat ds) ≤ length (flat bs)
  pub position : from ≤ length ds
  pub fewer : length ds ≤ length bs

pub taken : (bs ds : List (List Lengths)) (from to : ℕ) → ds ≡ take from bs ++ drop to bs → from ≤ to → to ≤ length bs → IsTaken bs ds from to
taken bs ds from to e l h =
    let long : length (take from bs) ≡ from = length-take-le from bs (omega arith) in
    let new : flat ds ≡ flat (take from bs) ++ flat (drop to bs) = ap flat e ∙ flat_append (take from bs) (drop to bs) in
    let whole : flat bs ≡ flat (take to bs) ++ flat (drop to bs) = flat_cut to bs in
    let fronts : take from (take to bs) ≡ take from bs = take-take from to bs l in
    record {
      back = ap (λ cs. flat (drop from cs)) e ∙ ap flat (drop_at (take from bs) (drop to bs) from long);
      front = ap (take from) e ∙ ap (λ k. take k (take from bs ++ drop to bs)) (sym long) ∙ take-append_seam (take from bs) (drop to bs);
      bytes = omega (
        arith,
        ap total new,
        total_append (flat (take from bs)) (flat (drop to bs)),
        ap total whole,
        total_append (flat (take to bs)) (flat (drop to bs)),
        total_flat_front from (take to bs),
        ap (λ cs. total (flat cs)) fronts,
      );
      count = omega (
        arith,
        ap length new,
        length-append (flat (take from bs)) (flat (drop to bs)),
        ap length whole,
        length-append (flat (take to bs)) (flat (drop to bs)),
        length_flat_front from (take to bs),
        ap (λ cs. length (flat cs)) fronts,
      );
      position = omega (arith, ap length e, length-append (take from bs) (drop to bs), long);
      fewer = omega (arith, ap length e, length-append (take from bs) (drop to bs), long, length-drop to bs);
    }

-- two cuts have nothing between them if the second is not after the first
pub nothing_between : (bs ds : List (List Lengths)) (first last from to : ℕ) → length (flat (take first bs)) ≡ from → take first ds ≡ take first bs
    → length (flat (take last ds)) ≡ to
    → last ≤ first → from ≤ to → flat ds ≡ flat bs → flat (drop first ds) ≡ drop to (flat bs)
nothing_between bs ds first last from to a same b l le whole =
    let few : length (flat (take last ds)) ≤ length (flat (take first ds)) = length_flat_front_of ds last first l in
    let here : to ≡ length (flat (take first ds)) = omega (arith, ap (λ cs. length (flat cs)) same) in
    sym (whole_back ds first to here) ∙ ap (drop to) whole

pub joined_is : (bs ds : List (List Lengths)) (i : ℕ) → ds ≡ take i bs ++ (get_or bs i [] ++ get_or bs (i + 1) []) ∷ drop (i + 2) bs → i + 1 < length bs
    → flat ds ≡ flat bs
joined_is bs ds i e h = ap flat e ∙ join_flat bs i h

-- two blocks have no more bytes than all
pub two_blocks : (bs : List (List Lengths)) (i : ℕ) → i + 1 < length bs → total (get_or bs i []) + total (get_or bs (i + 1) []) ≤ total (flat bs)
two_blocks bs i h =
    omega (arith, total_flat_more bs i [] (omega arith), total_flat_more bs (i + 1) [] h, total_flat_front (i + 1 + 1) bs)

-- a paragraph inserted after all
pub pushed_behind : (bs ds : List (List Lengths)) (at behind : ℕ) (p : Lengths) → flat (take behind ds) ≡ flat (take at bs) ++ p ∷ []
    → flat (drop behind ds) ≡ flat (drop at bs) → flat (drop at bs) ≡ [] → flat ds ≡ flat bs ++ p ∷ []
pushed_behind bs ds at behind p f b none =
    let old : flat bs ≡ flat (take at bs) = flat_cut at bs ∙ ap (λ ls. flat (take at bs) ++ ls) none ∙ append-nil (flat (take at bs)) in
    flat_cut behind ds ∙ ap (λ ls. ls ++ flat (drop behind ds)) f ∙ ap (λ ls. (flat (take at bs) ++ p ∷ []) ++ ls) (b ∙ none)
    ∙ append-nil (flat (take at bs) ++ p ∷ []) ∙ ap (λ ls. ls ++ p ∷ []) (sym old)

-- ---- paragraphs removed and inserted

outside_by : (ps : List Lengths) (from to : ℕ) → from ≤ to → take from (take to ps) ≡ take from ps
outside_by ps from to l = take-take from to ps l

pub total_outside : (bs : List (List Lengths)) (ps : List Lengths) (at from to : ℕ) → flat (take at bs) ≡ take from ps → flat (drop at bs) ≡ drop to ps
    → from ≤ to → total (flat bs) ≤ total ps
total_outside bs ps at from to f b l =
    omega (
      arith,
      ap total (flat_cut at bs),
      total_append (flat (take at bs)) (flat (drop at bs)),
      ap total f,
      ap total b,
      total_cut to ps,
      total_front from (take to ps),
      ap total (outside_by ps from to l),
    )

pub length_outside : (bs : List (List Lengths)) (ps : List Lengths) (at from to : ℕ) → flat (take at bs) ≡ take from ps → flat (drop at bs) ≡ drop to ps
    → from ≤ to → length (flat bs) ≤ length ps
length_outside bs ps at from to f b l =
    omega (
      arith,
      ap length (flat_cut at bs),
      length-append (flat (take at bs)) (flat (drop at bs)),
      ap length f,
      ap length b,
      ap length (take-append-drop to ps),
      length-append (take to ps) (drop to ps),
      length-take from (take to ps),
      ap length (outside_by ps from to l),
    )

pub put_between : (bs : List (List Lengths)) (at : ℕ) (taken front w left back : List Lengths) → flat (take at bs) ≡ taken ++ w → taken ≡ front
    → flat (drop at bs) ≡ left → left ≡ back → flat bs ≡ front ++ (w ++ back)
put_between bs at taken front w left back f t b l =
    flat_cut at bs ∙ ap (λ ls. ls ++ flat (drop at bs)) (f ∙ ap (λ ls. ls ++ w) t) ∙ ap (λ ls. (front ++ w) ++ ls) (b ∙ l) ∙ append_assoc front w back
