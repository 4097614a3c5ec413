-- The levels of a text with no formatting characters, and of a plain one.
use Rattle.std.proofs.Common.{◌≡◌, ◌<◌, ◌+◌, ◌∙◌, ℕ, zero, suc, List, [], ◌∷◌, ◌++◌, length, get_or, set, drop, map, replicate, refl, ap, sym, arith, Bool}
use Rattle.std.proofs.Common.{true, false, Option, Some, None}
use Rattle.std.specs.Prelude.{◌&&◌}
use Rattle.std.proofs.lemmas.List.{at_drop_more, length-map}
use Rattle.std.proofs.Math.Seq.{drop-length}
use Rattle.bx_ucd.specs.Data.{Data}
use Rattle.bx_ucd.specs.declared.class.Class.{Class}
use Rattle.bx_ucd.specs.declared.class.Class.TheVariants.{L, R, AL, EN, AN, ES, ET, CS, NSM, B, S, WS, ON}
use Rattle.bx_levels.specs.declared.embedding.entry.ExplicitChar.{ExplicitChar}
use Rattle.bx_levels.specs.embedding.Sequences.{sequences, direction}
use Rattle.bx_levels.specs.resolve.Levels.{with_levels, with_sequences, levels_in, sequence_types, sequence_levels, paragraph_levels, types_at}
use Rattle.bx_levels.specs.brackets.Pairs.{pairs}
use Rattle.bx_levels.specs.brackets.Resolve.{resolve_pairs}
use Rattle.bx_levels.specs.resolve.Weak.{weak}
use Rattle.bx_ucd.specs.Class.{is_nsm}
use Rattle.bx_levels.specs.resolve.Neutral.{n1, n2, implicit_at}
use Rattle.bx_levels.specs.resolve.Uniform.{is_plain, is_plain_right, is_from_right, is_unformatted, all_pass}
use Rattle.bx_levels.proofs.embedding_lemmas.OneSequence.{kept_as, indexes_from, whole, sequences_plain}
use Rattle.bx_levels.proofs.resolve_lemmas.PlainKept.{Each, explicit_plain, chars_whole, types_whole}
use Rattle.bx_levels.proofs.resolve_lemmas.PlainLengths.{levels_length}
use Rattle.bx_levels.proofs.resolve_lemmas.PlainTypes.{plain_sequence}
use Rattle.bx_levels.proofs.resolve_lemmas.RightTypes.{plain_right_sequence}
use Rattle.bx_levels.proofs.resolve_lemmas.RightLevels.{right_sequence}

-- a level that is found
abbrev pub found : ℕ → Option ℕ
found l = Some l

set_seam : (xs : List (Option ℕ)) (y z : Option ℕ) (ys : List (Option ℕ)) (n : ℕ) → length xs ≡ n → set (xs ++ y ∷ ys) n z ≡ xs ++ z ∷ ys
set_seam [] y z ys zero e = refl
set_seam [] y z ys (suc n) e = absurd (omega arith)
set_seam (x ∷ xs) y z ys zero e = absurd (omega arith)
set_seam (x ∷ xs) y z ys (suc n) e = ap (λ ws. x ∷ ws) (set_seam xs y z ys n (omega arith))

append_one : (xs : List (Option ℕ)) (y : Option ℕ) (ys : List (Option ℕ)) → xs ++ y ∷ ys ≡ (xs ++ y ∷ []) ++ ys
append_one [] y ys = refl
append_one (x ∷ xs) y ys = ap (λ ws. x ∷ ws) (append_one xs y ys)

one_longer : (xs : List (Option ℕ)) (y : Option ℕ) (n : ℕ) → length xs ≡ n → length (xs ++ y ∷ []) ≡ n + 1
one_longer [] y n e = omega arith
one_longer (x ∷ xs) y zero e = absurd (omega arith)
one_longer (x ∷ xs) y (suc n) e = let h : length (xs ++ y ∷ []) ≡ n + 1 = one_longer xs y n (omega arith) in omega arith

-- levels written from index `k` on, after the earlier ones
write_all : (ls : List ℕ) (ys : List (Option ℕ)) (k : ℕ) → length ys ≡ k
    → with_levels (indexes_from k (length ls)) ls (ys ++ replicate (length ls) None) ≡ ys ++ map found ls
write_all [] ys k e = refl
write_all (l ∷ ls) ys k e =
    let rest : List (Option ℕ) = replicate (length ls) None in
    ap (with_levels (indexes_from (k + 1) (length ls)) ls) (set_seam ys None (found l) rest k e ∙ append_one ys (found l) rest)
    ∙ write_all ls (ys ++ found l ∷ []) (k + 1) (one_longer ys (found l) k e) ∙ sym (append_one ys (found l) (map found ls))

levels_whole : (ucd : Data) (p : ℕ) (chars : List ℕ) (cs : List Class) (n : ℕ) → length chars ≡ n → length cs ≡ n
    → levels_in ucd chars (map (kept_as p) cs) (whole p n) ≡ sequence_levels ucd p (direction p) (direction p) chars cs
levels_whole ucd p chars cs n e f = ap (λ xs. sequence_levels ucd p (direction p) (direction p) xs (types_at (map (kept_as p) cs) (indexes_from 0 n)))
    (chars_whole chars n e) ∙ ap (sequence_levels ucd p (direction p) (direction p) chars) (types_whole p cs n f)

levels_at_all : (n : ℕ) (ls : List ℕ) → length ls ≡ n → with_levels (indexes_from 0 n) ls (replicate n None) ≡ map found ls
levels_at_all n ls e = ap (λ k. with_levels (indexes_from 0 k) ls (replicate k None)) (sym e) ∙ write_all ls [] 0 refl

by_classes : (ucd : Data) (p : ℕ) (chars : List ℕ) (cs : List Class) (n : ℕ) → length chars ≡ n → length cs ≡ n
    → with_sequences ucd chars (map (kept_as p) cs) (sequences p cs (map (kept_as p) cs)) (replicate n None)
    ≡ map found (sequence_levels ucd p (direction p) (direction p) chars cs)
by_classes ucd p [] [] zero e f = refl
by_classes ucd p (c ∷ chars) [] zero e f = absurd (omega arith)
by_classes ucd p chars [] (suc n) e f = absurd (omega arith)
by_classes ucd p chars (c ∷ cs) n e f =
    let kept : List (Option ExplicitChar) = map (kept_as p) (c ∷ cs) in
    let levels : List ℕ = sequence_levels ucd p (direction p) (direction p) chars (c ∷ cs) in
    let s : sequences p (c ∷ cs) kept ≡ whole p n ∷ [] = sequences_plain p c cs ∙ ap (λ k. whole p k ∷ []) f in
    ap (λ ss. with_sequences ucd chars kept ss (replicate n None)) s
    ∙ ap (λ ls. with_levels (indexes_from 0 n) ls (replicate n None)) (levels_whole ucd p chars (c ∷ cs) n e f)
    ∙ levels_at_all n levels (levels_length ucd p (direction p) (direction p) chars (c ∷ cs) ∙ f)

pub each_pass : (p : Class → Bool) (cs : List Class) → all_pass p cs ≡ true → Each p cs
each_pass p [] e = tt
each_pass p (c ∷ cs) e = (elim (p c) as (λ b. p c ≡ b → elim b as (λ x. Bool) [ true ↦ all_pass p cs | false ↦ false ] ≡ true → (p c ≡ true) × Each p cs) [
  | true ↦ λ q k. (q, each_pass p cs k)
  | false ↦ λ q k. absurd (cc)
]) refl e

pass_at : (p : Class → Bool) (c : Class) (cs : List Class) (b : Bool) → p c ≡ b → all_pass p (c ∷ cs) ≡ elim b [ true ↦ all_pass p cs | false ↦ false ]
pass_at p c cs true e = rw (e, all_pass)
pass_at p c cs false e = rw (e, all_pass)

-- with no formatting characters the paragraph is one sequence
pub unformatted_levels : (ucd : Data) (paragraph : ℕ) (chars : List ℕ)
    → all_pass is_unformatted (map ucd.class chars) ≡ true → paragraph_levels ucd paragraph chars
    ≡ map found (sequence_levels ucd paragraph (direction paragraph) (direction paragraph) chars (map ucd.class chars))
unformatted_levels ucd paragraph chars e =
    let cs : List Class = map ucd.class chars in
    let h : Each is_unformatted cs = each_pass is_unformatted cs e in
    let l : length cs ≡ length chars = length-map chars ucd.class in
    ap (λ ks. with_sequences ucd chars ks (sequences paragraph cs ks) (replicate (length chars) None)) (explicit_plain paragraph cs h)
    ∙ by_classes ucd paragraph chars cs (length chars) refl l

unformatted_from : (ucd : Data) (paragraph : ℕ) (chars : List ℕ) (cs : List Class) (side : Class) (ls : List ℕ)
    (each : List (Option ℕ)) → cs ≡ map ucd.class chars → all_pass is_unformatted cs ≡ true → side ≡ direction paragraph
    → ls ≡ sequence_levels ucd paragraph side side chars cs → each ≡ map found ls → each ≡ paragraph_levels ucd paragraph chars
unformatted_from ucd paragraph chars cs side ls each c e s l m =
    let p : all_pass is_unformatted (map ucd.class chars) ≡ true = ap (all_pass is_unformatted) (sym c) ∙ e in
    m ∙ ap (map found) (l ∙ ap (λ d. sequence_levels ucd paragraph d d chars cs) s
    ∙ ap (sequence_levels ucd paragraph (direction paragraph) (direction paragraph) chars) c) ∙ sym (unformatted_levels ucd paragraph chars p)

plain_passes : (c : Class) → is_plain c ≡ true → is_unformatted c ≡ true
plain_passes L e = refl
plain_passes EN e = refl
plain_passes ES e = refl
plain_passes ET e = refl
plain_passes CS e = refl
plain_passes NSM e = refl
plain_passes B e = refl
plain_passes S e = refl
plain_passes WS e = refl
plain_passes ON e = refl
plain_passes _ e = absurd (cc)

all_unformatted : (cs : List Class) → Each is_plain cs → all_pass is_unformatted cs ≡ true
all_unformatted [] h = refl
all_unformatted (c ∷ cs) h = pass_at is_unformatted c cs true (plain_passes c h.0) ∙ all_unformatted cs h.1

map_zeros : (n : ℕ) → map found (replicate n 0) ≡ replicate n (found 0)
map_zeros zero = refl
map_zeros (suc n) = ap (λ ws. found 0 ∷ ws) (map_zeros n)

-- the levels of a paragraph of level 0 whose classes are plain
pub plain_levels : (ucd : Data) (paragraph : ℕ) (chars : List ℕ) → paragraph ≡ 0
    → all_pass is_plain (map ucd.class chars) ≡ true → paragraph_levels ucd paragraph chars ≡ replicate (length (map ucd.class chars)) (Some 0)
plain_levels ucd paragraph chars z e =
    let cs : List Class = map ucd.class chars in
    let h : Each is_plain cs = each_pass is_plain cs e in
    ap (λ p. paragraph_levels ucd p chars) z ∙ unformatted_levels ucd 0 chars (all_unformatted cs h)
    ∙ ap (map found) (plain_sequence ucd chars cs h) ∙ map_zeros (length cs)

right_passes : (c : Class) → is_plain_right c ≡ true → is_unformatted c ≡ true
right_passes R e = refl
right_passes AL e = refl
right_passes ES e = refl
right_passes ET e = refl
right_passes CS e = refl
right_passes NSM e = refl
right_passes B e = refl
right_passes S e = refl
right_passes WS e = refl
right_passes ON e = refl
right_passes _ e = absurd (cc)

right_unformatted : (cs : List Class) → Each is_plain_right cs → all_pass is_unformatted cs ≡ true
right_unformatted [] h = refl
right_unformatted (c ∷ cs) h = pass_at is_unformatted c cs true (right_passes c h.0) ∙ right_unformatted cs h.1

map_ones : (n : ℕ) → map found (replicate n 1) ≡ replicate n (found 1)
map_ones zero = refl
map_ones (suc n) = ap (λ ws. found 1 ∷ ws) (map_ones n)

-- the same of level 1
pub plain_right_levels : (ucd : Data) (paragraph : ℕ) (chars : List ℕ) → paragraph ≡ 1
    → all_pass is_plain_right (map ucd.class chars) ≡ true → paragraph_levels ucd paragraph chars ≡ replicate (length (map ucd.class chars)) (Some 1)
plain_right_levels ucd paragraph chars z e =
    let cs : List Class = map ucd.class chars in
    let h : Each is_plain_right cs = each_pass is_plain_right cs e in
    ap (λ p. paragraph_levels ucd p chars) z
    ∙ unformatted_levels ucd 1 chars (right_unformatted cs h)
    ∙ ap (map found) (plain_right_sequence ucd chars cs h)
    ∙ map_ones (length cs)

module _ (p : Class → Bool) where
  pub pass_more : (cs : List Class) (i : ℕ) → i < length cs → p (get_or cs i L) ≡ true → all_pass p (drop i cs) ≡ all_pass p (drop (i + 1) cs)
  pass_more cs i h e = at_drop_more (all_pass p) cs i L h ∙ pass_at p (get_or cs i L) (drop (i + 1) cs) true e

  pub pass_stop : (cs : List Class) (i : ℕ) → i < length cs → p (get_or cs i L) ≡ false → all_pass p (drop i cs) ≡ false
  pass_stop cs i h e = at_drop_more (all_pass p) cs i L h ∙ pass_at p (get_or cs i L) (drop (i + 1) cs) false e

  pass_and : (b : Bool) (r : Bool) → elim b [ true ↦ r | false ↦ false ] ≡ (b && r)
  pass_and true r = refl
  pass_and false r = refl

  and_assoc : (a b r : Bool) → (a && (b && r)) ≡ ((a && b) && r)
  and_assoc true b r = refl
  and_assoc false b r = refl

  -- a scan that goes on to the end
  pub both_pass : (cs : List Class) (i : ℕ) (a : Bool) → i < length cs
      → (a && all_pass p (drop i cs)) ≡ ((a && p (get_or cs i L)) && all_pass p (drop (i + 1) cs))
  both_pass cs i a h =
      let rest = all_pass p (drop (i + 1) cs) in
      ap (λ r. a && r) (at_drop_more (all_pass p) cs i L h ∙ pass_and (p (get_or cs i L)) rest) ∙ and_assoc a (p (get_or cs i L)) rest

  pub pass_all : (cs : List Class) → all_pass p (drop (length cs) cs) ≡ true
  pass_all cs = rw drop-length

map_both : {A B C : Type 0} (f : A → B) (g : B → C) (xs : List A) → map (λ x. g (f x)) xs ≡ map g (map f xs)
map_both f g [] = refl
map_both f g (x ∷ xs) = ap (λ ws. g (f x) ∷ ws) (map_both f g xs)

-- the types that rule after rule gives
pub types_from : (ucd : Data) (level : ℕ) (sos eos : Class) (chars : List ℕ) (ts ws ps us : List Class) (nsms : List Bool)
    → ws ≡ weak sos ts → nsms ≡ map is_nsm ts
    → ps ≡ resolve_pairs (direction level) sos nsms (pairs ucd chars ws) ws → us ≡ n2 (direction level) (n1 sos eos ps)
    → us ≡ sequence_types ucd level sos eos chars ts
types_from ucd level sos eos chars ts ws ps us nsms w m p u =
    let d : Class = direction level in
    let first : ps ≡ resolve_pairs d sos (map is_nsm ts) (pairs ucd chars ws) ws = p ∙ ap (λ x. resolve_pairs d sos x (pairs ucd chars ws) ws) m in
    let second : ps ≡ resolve_pairs d sos (map is_nsm ts) (pairs ucd chars (weak sos ts)) (weak sos ts) = first
    ∙ ap (λ x. resolve_pairs d sos (map is_nsm ts) (pairs ucd chars x) x) w in
    u ∙ ap (λ x. n2 d (n1 sos eos x)) second

pub found_from : (ucd : Data) (paragraph : ℕ) (chars : List ℕ) (cs ts : List Class) (side : Class)
    (each : List (Option ℕ)) → cs ≡ map ucd.class chars → all_pass is_unformatted cs ≡ true
    → side ≡ direction paragraph → ts ≡ sequence_types ucd paragraph side side chars cs → each ≡ map (λ t. Some (implicit_at paragraph t)) ts
    → each ≡ paragraph_levels ucd paragraph chars
found_from ucd paragraph chars cs ts side each c e s t m =
    unformatted_from ucd paragraph chars cs side (map (implicit_at paragraph) ts) each c e s (ap (map (implicit_at paragraph)) t)
    (m ∙ map_both (implicit_at paragraph) found ts)

from_right_passes : (c : Class) → is_from_right c ≡ true → is_unformatted c ≡ true
from_right_passes R e = refl
from_right_passes AL e = refl
from_right_passes EN e = refl
from_right_passes ES e = refl
from_right_passes ET e = refl
from_right_passes AN e = refl
from_right_passes CS e = refl
from_right_passes NSM e = refl
from_right_passes B e = refl
from_right_passes S e = refl
from_right_passes WS e = refl
from_right_passes ON e = refl
from_right_passes _ e = absurd (cc)

from_right_unformatted : (cs : List Class) → Each is_from_right cs → all_pass is_unformatted cs ≡ true
from_right_unformatted [] h = refl
from_right_unformatted (c ∷ cs) h = pass_at is_unformatted c cs true (from_right_passes c h.0) ∙ from_right_unformatted cs h.1

-- and without L: the types after W7 tell the levels
pub from_right_levels : (ucd : Data) (paragraph : ℕ) (chars : List ℕ) → paragraph ≡ 1
    → all_pass is_from_right (map ucd.class chars) ≡ true
    → paragraph_levels ucd paragraph chars ≡ map (λ t. Some (implicit_at 1 t)) (weak R (map ucd.class chars))
from_right_levels ucd paragraph chars z e =
    let cs : List Class = map ucd.class chars in
    let h : Each is_from_right cs = each_pass is_from_right cs e in
    ap (λ p. paragraph_levels ucd p chars) z
    ∙ unformatted_levels ucd 1 chars (from_right_unformatted cs h)
    ∙ ap (map found) (right_sequence ucd chars cs h)
    ∙ sym (map_both (implicit_at 1) found (weak R cs))
