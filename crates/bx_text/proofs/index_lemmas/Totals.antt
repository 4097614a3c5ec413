-- The bytes of joined and cut paragraphs.
use Rattle.std.proofs.Common.{◌≡◌, ◌<◌, ◌≤◌, ◌+◌, ◌-◌, ◌∙◌, ℕ, List, [], ◌∷◌, ◌++◌, length, take, drop, get_or, ap, sym, arith}
use Rattle.std.proofs.lemmas.List.{take-append-drop, take_more, take_all, length-drop}
use Rattle.bx_text.specs.declared.index.lengths.Lengths.{Lengths}
use Rattle.bx_text.specs.index.Paragraphs.{bytes_of, total}

pub total_append : (ks ls : List Lengths) → total (ks ++ ls) ≡ total ks + total ls
total_append [] ls = omega arith
total_append (k ∷ ks) ls = omega (arith, total_append ks ls)

pub total_push : (ks : List Lengths) (l : Lengths) → total (ks ++ l ∷ []) ≡ total ks + bytes_of l
total_push ks l = omega (arith, total_append ks (l ∷ []))

pub total_cut : (n : ℕ) (ls : List Lengths) → total (take n ls) + total (drop n ls) ≡ total ls
total_cut n ls = sym (total_append (take n ls) (drop n ls)) ∙ ap total (take-append-drop n ls)

pub total_more : (ls : List Lengths) (n : ℕ) (d : Lengths) → n < length ls → total (take (n + 1) ls) ≡ total (take n ls) + bytes_of (get_or ls n d)
total_more ls n d h = ap total (take_more ls n d h) ∙ total_push (take n ls) (get_or ls n d)

pub total_front : (n : ℕ) (ls : List Lengths) → total (take n ls) ≤ total ls
total_front n ls = omega (arith, total_cut n ls)

-- the bytes of a slice to the end
pub total_rest : (ls : List Lengths) (at : ℕ) → total (take at ls) + total (take (length ls - at) (drop at ls)) ≡ total ls
total_rest ls at = ap (λ ks. total (take at ls) + total ks) (take_all (length ls - at) (drop at ls) (omega (arith, length-drop at ls))) ∙ total_cut at ls
