-- Lemmas on the words of a text.
use Rattle.std.proofs.Common.{◌≡◌, ◌<◌, ◌≤◌, ◌+◌, ℕ, zero, suc, Bool, true, false, cond, List, [], ◌∷◌, length, take, drop, get_or, refl, ap, sym, ◌∙◌, arith, drop-cons}
use Rattle.std.proofs.Common.{inl, inr, take_all, length-drop, length-take}
use Rattle.std.specs.Prelude.{◌==◌, filter, nat_lt}
use Rattle.std.specs.List.{position_or_len, prefix_len, slice_split}
use Rattle.std.proofs.lemmas.Bool.{cases_lt, false≢true, lt-ltb}
use Rattle.std.proofs.lemmas.List.{drop_all, get_or-drop}
use Rattle.std.proofs.lemmas.List.Splits.{slice_split-cons_yes, slice_split_first}
use Rattle.std.proofs.lemmas.List.Sums.{passes_at_first, prefix_len-le-length, prefix_len_stops}
use Rattle.bx_ucd.specs.CharactersFile.{words}
use Rattle.bx_ucd.specs.Lines.{is_blank, without_leading_blanks}
use Rattle.bx_ucd.proofs.LineLemmas.{slice_split_whole}

-- a text that begins with a blank has the words of its rest
words_past_blank : (b : ℕ) (bs : List ℕ) → is_blank b ≡ true → words (b ∷ bs) ≡ words bs
words_past_blank b bs e = ap (filter (λ word. nat_lt 0 (length word))) (slice_split-cons_yes is_blank b bs e)

words_past_cons : (b : ℕ) (bs : List ℕ) (blank : Bool) → is_blank b ≡ blank → words (without_leading_blanks bs) ≡ words bs
    → words (drop (cond blank (1 + prefix_len is_blank bs) 0) (b ∷ bs)) ≡ words (b ∷ bs)
words_past_cons b bs true e rest =
    let one : 1 + prefix_len is_blank bs ≡ suc (prefix_len is_blank bs) = omega arith in
    ap (λ n. words (drop n (b ∷ bs))) one ∙ rest ∙ sym (words_past_blank b bs e)
words_past_cons b bs false e rest = refl

pub words_past_blanks : (bs : List ℕ) → words (without_leading_blanks bs) ≡ words bs
words_past_blanks [] = refl
words_past_blanks (b ∷ bs) = words_past_cons b bs (is_blank b) refl (words_past_blanks bs)

-- a part that is not empty is a word
word_first : (part : List ℕ) (parts : List (List ℕ)) → 0 < length part
    → filter (λ word. nat_lt 0 (length word)) (part ∷ parts) ≡ part ∷ filter (λ word. nat_lt 0 (length word)) parts
word_first part parts some =
    let e : nat_lt 0 (length part) ≡ true = lt-ltb 0 (length part) some in
    ap (λ b. cond b (part ∷ filter (λ word. nat_lt 0 (length word)) parts) (filter (λ word. nat_lt 0 (length word)) parts)) e

-- a blank is not the first byte if that is none
first_later : (bs : List ℕ) (n : ℕ) → is_blank (get_or bs 0 0) ≡ false → is_blank (get_or bs n 0) ≡ true → 0 < n
first_later bs zero begins stops = absurd (false≢true (sym begins ∙ stops))
first_later bs (suc n) begins stops = omega arith

-- the first word ends at the first blank
words_at : (bs : List ℕ) → 0 < length bs → is_blank (get_or bs 0 0) ≡ false
    → words bs ≡ take (position_or_len is_blank bs) bs ∷ words (drop (position_or_len is_blank bs) bs)
words_at bs some begins =
    let n = position_or_len is_blank bs in
    let within : n ≤ length bs = prefix_len-le-length _ bs in
    elim (cases_lt n (length bs)) [
      | inl lt ↦
          let stops : is_blank (get_or bs n 0) ≡ true = passes_at_first is_blank bs 0 lt in
          let later : 0 < n = first_later bs n begins stops in
          let one : n + 1 ≡ suc n = omega arith in
          let split : get_or bs n 0 ∷ drop (n + 1) bs ≡ drop n bs = ap (λ k. get_or bs n 0 ∷ drop k bs) one ∙ sym (drop-cons bs n 0 lt) in
          let long : 0 < length (take n bs) = omega (arith, length-take n bs) in
          ap (filter (λ word. nat_lt 0 (length word))) (slice_split_first is_blank bs 0 lt)
          ∙ word_first (take n bs) (slice_split is_blank (drop (n + 1) bs)) long
          ∙ ap (λ ws. take n bs ∷ ws) (sym (words_past_blank (get_or bs n 0) (drop (n + 1) bs) stops) ∙ ap words split)
      | inr past ↦
          let all : n ≡ length bs = omega arith in
          ap (filter (λ word. nat_lt 0 (length word))) (slice_split_whole is_blank bs all)
          ∙ word_first bs [] some
          ∙ ap (λ w. w ∷ []) (sym (take_all n bs (omega arith)))
          ∙ ap (λ ws. take n bs ∷ words ws) (sym (drop_all n bs (omega arith)))
    ]

pub not_zero : (n : ℕ) → false ≡ (n == 0) → 0 < n
not_zero zero e = absurd (false≢true e)
not_zero (suc n) e = omega arith

pub words_after : (text lead : List ℕ) (n : ℕ) (first rest : List ℕ) → lead ≡ without_leading_blanks text → 0 < length lead
    → n ≡ position_or_len is_blank lead → first ≡ take n lead → rest ≡ drop n lead → words text ≡ first ∷ words rest
words_after text lead n first rest leading some at one more =
    let here : prefix_len is_blank text < length text = omega (arith, length-drop (prefix_len is_blank text) text, ap length leading) in
    let begins : is_blank (get_or lead 0 0) ≡ false =
    ap (λ bs. is_blank (get_or bs 0 0)) leading ∙ ap is_blank (get_or-drop (prefix_len is_blank text) text 0 0)
    ∙ ap (λ k. is_blank (get_or text k 0)) (omega arith) ∙ prefix_len_stops is_blank text 0 here in
    sym (words_past_blanks text) ∙ ap words (sym leading) ∙ words_at lead some begins
    ∙ ap (λ k. take k lead ∷ words (drop k lead)) (sym at) ∙ ap (λ w. w ∷ words (drop n lead)) (sym one) ∙ ap (λ bs. first ∷ words bs) (sym more)
