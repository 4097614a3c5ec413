-- The levels of a sequence without a strong type up to its end: the eos takes its place.
use Rattle.std.proofs.Common.{append_assoc, ◌≡◌, ◌<◌, ◌+◌, ◌∙◌, inr, ℕ, suc, List, [], ◌∷◌, ◌++◌, length, take, drop, map}
use Rattle.std.proofs.Common.{refl, ap, ap₂, sym, arith, Bool, true, false, length-append, append-nil}
use Rattle.std.specs.List.{list_any}
use Rattle.std.proofs.lemmas.List.{map-append, length-map, take-append-le, drop_all, length-take-le}
use Rattle.bx_ucd.specs.Data.{Data}
use Rattle.bx_ucd.specs.declared.class.Class.{Class}
use Rattle.bx_ucd.specs.Class.{is_strong, is_nsm}
use Rattle.bx_levels.specs.embedding.Sequences.{direction}
use Rattle.bx_levels.specs.brackets.Pairs.{Search, search_from, pairs}
use Rattle.bx_levels.specs.brackets.Resolve.{resolve_pair, resolve_pairs}
use Rattle.bx_levels.specs.resolve.Weak.{weak, is_left_or_right}
use Rattle.bx_levels.specs.resolve.Neutral.{n1, n2, implicit, implicit_at}
use Rattle.bx_levels.specs.resolve.Levels.{sequence_levels}
use Rattle.bx_levels.proofs.resolve_lemmas.PlainPairs.{AreInside, pairs_inside}
use Rattle.bx_levels.proofs.resolve_lemmas.PlainLengths.{weak_length, levels_length}
use Rattle.bx_levels.proofs.resolve_lemmas.Cuts.{strong_no_nsm, turned_strong}
use Rattle.bx_levels.proofs.resolve_lemmas.MovedPairs.{HasNoBracket, none_met, search_more}
use Rattle.bx_levels.proofs.resolve_lemmas.FramedPairs.{in_front}
use Rattle.bx_levels.proofs.resolve_lemmas.MiddlePairs.{resolved_length}
use Rattle.bx_levels.proofs.resolve_lemmas.PairPlaces.{no_bracket}
use Rattle.bx_levels.proofs.resolve_lemmas.CutPairs.{turned_no_on}
use Rattle.bx_levels.proofs.resolve_lemmas.CutLevels.{take_front}
use Rattle.bx_levels.specs.resolve.Edited.{is_listed}
use Rattle.bx_levels.proofs.resolve_lemmas.CutClasses.{cut_off}
use Rattle.bx_levels.proofs.resolve_lemmas.CutEnds.{weak_end, ends_end}

abbrev nothing : Search
nothing = record { openers = []; pairs = []; is_over = false }

module _ (ucd : Data) (x : Class) (x_is : is_left_or_right x ≡ true) where
  -- one type more at the end
  pairs_end : (c : ℕ) (cs : List ℕ) (ts : List Class) → length cs ≡ length ts → pairs ucd (cs ++ c ∷ []) (ts ++ x ∷ []) ≡ pairs ucd cs ts
  pairs_end c cs ts l =
      let h : HasNoBracket ucd (c ∷ []) (x ∷ []) = (no_bracket ucd c x (turned_no_on x x_is), tt) in
      ap (λ (s : Search). s.pairs) (search_more ucd nothing 0 cs (c ∷ []) ts (x ∷ []) l
      ∙ none_met ucd (search_from ucd nothing 0 cs ts) (0 + length ts) (c ∷ []) (x ∷ []) h)

  resolved_end : (e sos : Class) (was : List Bool) (ps : List (ℕ × ℕ)) (n : ℕ) (ts : List Class) → AreInside n ps → length was ≡ n → length ts ≡ n
      → resolve_pairs e sos (was ++ false ∷ []) ps (ts ++ x ∷ []) ≡ resolve_pairs e sos was ps ts ++ x ∷ []
  resolved_end e sos was [] n ts h w l = refl
  resolved_end e sos was (p ∷ ps) n ts h w l =
      let o : p.0 < p.1 = h.0 in
      let z : p.1 < n = h.1 in
      let s : resolve_pair e sos (was ++ false ∷ []) (p.0, p.1) (ts ++ x ∷ []) ≡ resolve_pair e sos was (p.0, p.1) ts ++ x ∷ [] =
      in_front e sos was [] ts (x ∷ []) p.0 p.1 (omega arith) o (omega arith) in
      ap (resolve_pairs e sos (was ++ false ∷ []) ps) s
      ∙ resolved_end e sos was ps n (resolve_pair e sos was p ts) h.2 w (resolved_length e sos was p.0 p.1 ts o (omega arith) ∙ l)

  pub end_levels : (level : ℕ) (sos : Class) (c : ℕ) (cs : List ℕ) (ts : List Class) → length cs ≡ length ts
      → sequence_levels ucd level sos x (cs ++ c ∷ []) (ts ++ x ∷ []) ≡ sequence_levels ucd level sos x cs ts ++ implicit_at level x ∷ []
  end_levels level sos c cs ts l =
      let e : Class = direction level in
      let w : List Class = weak sos ts in
      let was : List Bool = map is_nsm ts in
      let k : length w ≡ length ts = weak_length sos ts in
      let flags : map is_nsm (ts ++ x ∷ []) ≡ was ++ false ∷ [] =
      map-append is_nsm ts (x ∷ []) ∙ ap (λ b. was ++ b ∷ []) (strong_no_nsm x (turned_strong x x_is)) in
      let rest : List Class → List ℕ = λ zs. implicit level (n2 e (n1 sos x zs)) in
      ap₂ (λ bs zs. rest (resolve_pairs e sos bs (pairs ucd (cs ++ c ∷ []) zs) zs)) flags (weak_end x x_is sos ts)
      ∙ ap (λ ps. rest (resolve_pairs e sos (was ++ false ∷ []) ps (w ++ x ∷ []))) (pairs_end c cs w (l ∙ sym k))
      ∙ ap rest (resolved_end e sos was (pairs ucd cs w) (length w) w (pairs_inside ucd cs w) (length-map ts is_nsm ∙ sym k) refl)
      ∙ ends_end x x_is level e sos (resolve_pairs e sos was (pairs ucd cs w) w)

-- no strong type after the edit: the sequence ends there
module _ (ucd : Data) (level : ℕ) (sos eos x : Class) (eos_is : is_left_or_right eos ≡ true) (x_is : is_strong x ≡ true)
    (cf : List ℕ) (cx : ℕ) (cm : List ℕ) (u m : List Class) (cf_is : length cf ≡ length u) (cm_is : length cm ≡ length m)
    (none : list_any (is_listed ucd) cm ≡ false) where
  same_front : (xs zs : List ℕ) (p n : ℕ) → length xs ≡ n → length zs ≡ n → xs ++ p ∷ [] ≡ zs ++ p ∷ [] → xs ≡ zs
  same_front xs zs p n a b e = sym (take_front xs (p ∷ []) n a) ∙ ap (take n) e ∙ take_front zs (p ∷ []) n b

  pub cut_off_end : sequence_levels ucd level sos eos (cf ++ (cx ∷ cm)) (u ++ (x ∷ m))
      ≡ take (length u) (sequence_levels ucd level sos eos (cf ++ cx ∷ []) (u ++ x ∷ [])) ++ sequence_levels ucd level sos eos (cx ∷ cm) (x ∷ m)
  cut_off_end =
      let p : ℕ = implicit_at level eos in
      let n : ℕ = length u in
      let whole : List ℕ = sequence_levels ucd level sos eos (cf ++ (cx ∷ cm)) (u ++ (x ∷ m)) in
      let front : List ℕ = sequence_levels ucd level sos eos (cf ++ cx ∷ []) (u ++ x ∷ []) in
      let back : List ℕ = sequence_levels ucd level sos eos (cx ∷ cm) (x ∷ m) in
      let cs : List ℕ = cf ++ (cx ∷ (cm ++ 0 ∷ [])) in
      let ts : List Class = u ++ (x ∷ (m ++ eos ∷ [])) in
      let i : length (cf ++ (cx ∷ cm)) ≡ length (u ++ (x ∷ m)) =
      length-append cf (cx ∷ cm) ∙ ap₂ (λ a b. a + suc b) cf_is cm_is ∙ sym (length-append u (x ∷ m)) in
      let j : length (cf ++ cx ∷ []) ≡ length (u ++ x ∷ []) = length-append cf (cx ∷ []) ∙ ap (λ a. a + 1) cf_is ∙ sym (length-append u (x ∷ [])) in
      let h : length (cx ∷ cm) ≡ length (x ∷ m) = ap (λ a. suc a) cm_is in
      let a : sequence_levels ucd level sos eos cs ts ≡ whole ++ p ∷ [] =
      ap₂ (sequence_levels ucd level sos eos) (sym (append_assoc cf (cx ∷ cm) (0 ∷ []))) (sym (append_assoc u (x ∷ m) (eos ∷ [])))
      ∙ end_levels ucd eos eos_is level sos 0 (cf ++ (cx ∷ cm)) (u ++ (x ∷ m)) i in
      let b : sequence_levels ucd level sos eos (cx ∷ (cm ++ 0 ∷ [])) (x ∷ (m ++ eos ∷ [])) ≡ back ++ p ∷ [] =
      end_levels ucd eos eos_is level sos 0 (cx ∷ cm) (x ∷ m) h in
      let c : sequence_levels ucd level sos eos (cf ++ (cx ∷ 0 ∷ [])) (u ++ (x ∷ eos ∷ [])) ≡ front ++ p ∷ [] =
      ap₂ (sequence_levels ucd level sos eos) (sym (append_assoc cf (cx ∷ []) (0 ∷ []))) (sym (append_assoc u (x ∷ []) (eos ∷ [])))
      ∙ end_levels ucd eos eos_is level sos 0 (cf ++ cx ∷ []) (u ++ x ∷ []) j in
      let k : sequence_levels ucd level sos eos cs ts
      ≡ take n (sequence_levels ucd level sos eos (cf ++ (cx ∷ 0 ∷ [])) (u ++ (x ∷ eos ∷ [])))
      ++ (sequence_levels ucd level sos eos (cx ∷ (cm ++ 0 ∷ [])) (x ∷ (m ++ eos ∷ []))
      ++ drop (n + 2) (sequence_levels ucd level sos eos (cf ++ (cx ∷ 0 ∷ [])) (u ++ (x ∷ eos ∷ [])))) =
      cut_off ucd level sos eos x eos x_is (turned_strong eos eos_is) cf cx 0 [] u [] cf_is refl cm m cm_is (none, inr (inr refl)) in
      let fl : length front ≡ n + 1 = levels_length ucd level sos eos (cf ++ cx ∷ []) (u ++ x ∷ []) ∙ length-append u (x ∷ []) in
      let long : length (front ++ p ∷ []) ≡ n + 2 = length-append front (p ∷ []) ∙ ap (λ z. z + 1) fl ∙ omega arith in
      let t : take n (front ++ p ∷ []) ≡ take n front = take-append-le n front (p ∷ []) (omega arith) in
      let d : drop (n + 2) (front ++ p ∷ []) ≡ [] = drop_all (n + 2) (front ++ p ∷ []) (omega arith) in
      let r : whole ++ p ∷ [] ≡ (take n front ++ back) ++ p ∷ [] =
      sym a ∙ k ∙ ap₂ (λ xs ys. take n xs ++ (ys ++ drop (n + 2) xs)) c b
      ∙ ap₂ (λ xs ys. xs ++ ((back ++ p ∷ []) ++ ys)) t d
      ∙ ap (λ ys. take n front ++ ys) (append-nil (back ++ p ∷ []))
      ∙ sym (append_assoc (take n front) back (p ∷ [])) in
      let wl : length whole ≡ n + suc (length m) = levels_length ucd level sos eos (cf ++ (cx ∷ cm)) (u ++ (x ∷ m)) ∙ length-append u (x ∷ m) in
      let tl : length (take n front) ≡ n = length-take-le n front (omega arith) in
      let bl : length back ≡ suc (length m) = levels_length ucd level sos eos (cx ∷ cm) (x ∷ m) in
      let rl : length (take n front ++ back) ≡ n + suc (length m) = length-append (take n front) back ∙ ap₂ (λ a b. a + b) tl bl in
      same_front whole (take n front ++ back) p (n + suc (length m)) wl rl r
