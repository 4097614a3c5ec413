-- The paragraph that begins at an offset, found piece by piece.
use Rattle.std.proofs.Common.{◌≡◌, ◌<◌, ◌≤◌, ◌+◌, ◌∙◌, ◌==◌, ◌&&◌, ℕ, Bool, true, false, List, [], ◌∷◌, ◌++◌, length, take, drop, chars, IsUtf8, IsCharBoundary}
use Rattle.std.proofs.Common.{refl, ap, sym, subst, arith, append_assoc, if◌then◌else◌}
use Rattle.std.proofs.lemmas.Bool.Decides.{nat_tests}
use Rattle.std.proofs.lemmas.List.{take-append-drop, drop-drop, drop_all}
use Rattle.std.proofs.lemmas.Str.{chars-append, chars-nil, length-encode, len_utf8_ascii, IsUtf8-take}
use Rattle.bx_ucd.specs.Data.{Data}
use Rattle.bx_text.specs.declared.index.lengths.Lengths.{Lengths}
use Rattle.bx_text.specs.index.Paragraphs.{begins_with_lf, lengths}
use Rattle.bx_text.specs.index.Ended.{first, further}
use Rattle.bx_text.specs.index.Scan.{HasNone, IsAt}
use Rattle.bx_text.proofs.index_lemmas.Changes.{cut_at, front_len, between, spelt}
use Rattle.bx_text.proofs.index_lemmas.Counts.{paired_ends, count_is_some}
use Rattle.bx_text.proofs.index_lemmas.Cuts.{width, widths, widths_more, widths_append, one_width, grown, joined, lens, ends, is_paired, lens_plain, lens_paired}
use Rattle.bx_text.proofs.index_lemmas.Cuts.{lens_ended}

pub further_none : (p : Lengths) → p ≡ further 0 p
further_none p = let same : p.body ≡ 0 + p.body = omega arith in ap (λ n. record { body = n; separator = p.separator }) same

pub further_more : (n m k : ℕ) (p : Lengths) → n + m ≡ k → further n (further m p) ≡ further k p
further_more n m k p e = let same : n + (m + p.body) ≡ k + p.body = omega arith in ap (λ b. record { body = b; separator = p.separator }) same

pub same_lengths : (a b c d : ℕ) → a ≡ b → c ≡ d → ◌≡◌ {A = Lengths} (record { body = a; separator = c }) (record { body = b; separator = d })
same_lengths a b c d e f = ap (λ n. record { body = n; separator = c }) e ∙ ap (λ n. record { body = b; separator = n }) f

pub first_grown : (w : ℕ) (ls : List Lengths) → 0 < length ls → first (grown w ls) ≡ further w (first ls)
first_grown w [] h = absurd (omega arith)
first_grown w (l ∷ ls) h = refl

-- a character below 128 has one byte
pub one_byte : (c : ℕ) → c < 128 → width c ≡ 1
one_byte c h = length-encode c ∙ len_utf8_ascii c h

module _ (ucd : Data) where
  -- characters with no separator in front of others
  pub first_behind : (cs ds : List ℕ) → HasNone ucd cs → first (lens ucd (cs ++ ds)) ≡ further (widths cs) (first (lens ucd ds))
  first_behind [] ds h = further_none (first (lens ucd ds))
  first_behind (c ∷ cs) ds h =
      ap first (lens_plain ucd c (cs ++ ds) h.0)
      ∙ first_grown (width c) (lens ucd (cs ++ ds)) (count_is_some ucd (cs ++ ds))
      ∙ ap (further (width c)) (first_behind cs ds h.1)
      ∙ further_more (width c) (widths cs) (widths (c ∷ cs)) (first (lens ucd ds)) (sym (widths_more c cs))

  -- a separator in front of others
  first_pair : (c d : ℕ) (cs : List ℕ) → ends ucd c ≡ true → is_paired ucd c (d ∷ cs) ≡ true
      → first (lens ucd (c ∷ d ∷ cs)) ≡ record { body = 0; separator = 2 }
  first_pair c d cs e p =
      let lf : d ≡ 10 = grind (arith, nat_tests) in
      let two : width 13 + width d ≡ 2 = omega (arith, one_byte 13 (omega arith), one_byte d (omega arith)) in
      ap first (lens_paired ucd c (d ∷ cs) e p ∙ ap (joined (width 13)) (paired_ends ucd c d cs p)) ∙ ap (λ n. record { body = 0; separator = n }) two

  pub first_at : (c : ℕ) (cs : List ℕ) (paired : Bool) → ends ucd c ≡ true → is_paired ucd c cs ≡ paired
      → first (lens ucd (c ∷ cs)) ≡ record { body = 0; separator = if paired then 2 else width c }
  first_at c cs false e p = ap first (lens_ended ucd c cs e p)
  first_at c [] true e p = absurd (grind (arith, nat_tests))
  first_at c (d ∷ cs) true e p = first_pair c d cs e p

  -- ---- in a text

  module _ (text s : List ℕ) (at : ℕ) (utf8 : IsUtf8 text) (bounds : IsCharBoundary text at) (e : take (length s) (drop at text) ≡ s)
      (next : IsCharBoundary text (at + length s)) where
    -- the characters after the piece
    abbrev behind : List ℕ
    behind = chars (drop (at + length s) text)

    piece_utf8 : IsUtf8 s
    piece_utf8 = subst IsUtf8 e (between text at (length s) utf8 bounds next)

    here : chars (drop at text) ≡ chars s ++ behind
    here =
        let halves : drop at text ≡ s ++ drop (at + length s) text = sym (take-append-drop (length s) (drop at text))
        ∙ ap (λ f. f ++ drop (length s) (drop at text)) e ∙ ap (λ r. s ++ r) (drop-drop (length s) at text) in
        ap chars halves ∙ chars-append s (drop (at + length s) text) piece_utf8

    whole : chars text ≡ chars (take at text) ++ chars (drop at text)
    whole = ap chars (sym (take-append-drop at text)) ∙ chars-append (take at text) (drop at text) (IsUtf8-take text at utf8 bounds)

    -- a piece with no separator
    pub past_piece : HasNone ucd (chars s) → first (lengths ucd (drop at text)) ≡ further (length s) (first (lengths ucd (drop (at + length s) text)))
    past_piece none =
        ap (λ cs. first (lens ucd cs)) here ∙ first_behind (chars s) behind none
        ∙ ap (λ n. further n (first (lens ucd behind))) (spelt s piece_utf8)

    -- the first separator of a piece
    pub record IsFound (before c : ℕ) : Type 0 where
      pub ends_between : IsCharBoundary text (at + before + width c)
      pub inside : at + before + width c ≤ length text
      pub is : first (lengths ucd (drop at text))
          ≡ record { body = before; separator = if (c == 13) && begins_with_lf ucd (chars (drop (at + before + width c) text)) then 2 else width c }

    pub found_in_piece : (before c : ℕ) → IsAt ucd (chars s) before c → IsFound before c
    found_in_piece before c f =
        let more : List ℕ = f.rest ++ behind in
        let split : chars (drop at text) ≡ f.front ++ c ∷ more = here ∙ ap (λ cs. cs ++ behind) f.whole ∙ append_assoc f.front (c ∷ f.rest) behind in
        let x : List ℕ = chars (take at text) ++ (f.front ++ c ∷ []) in
        let cut : chars text ≡ x ++ more =
        whole ∙ ap (λ cs. chars (take at text) ++ cs) (split ∙ sym (append_assoc f.front (c ∷ []) more))
        ∙ sym (append_assoc (chars (take at text)) (f.front ++ c ∷ []) more) in
        let len : widths x ≡ at + before + width c =
        omega (
          arith,
          widths_append (chars (take at text)) (f.front ++ c ∷ []),
          widths_append f.front (c ∷ []),
          one_width c,
          front_len text at utf8 bounds,
          f.bytes,
        ) in
        let k = cut_at text x more (at + before + width c) utf8 cut len in
        record {
          ends_between = k.bounds;
          inside = omega (arith, k.bytes);
          is = ap (λ cs. first (lens ucd cs)) split ∙ first_behind f.front (c ∷ more) f.none
              ∙ ap (further (widths f.front)) (first_at c more (is_paired ucd c more) f.separates refl)
              ∙ ap (λ n. record { body = n; separator = if is_paired ucd c more then 2 else width c }) (omega (arith, f.bytes))
              ∙ ap (λ cs. record { body = before; separator = if (c == 13) && begins_with_lf ucd cs then 2 else width c }) (sym k.rest);
        }

  -- no character is left
  pub first_at_end : (text : List ℕ) (at : ℕ) → length text ≤ at → first (lengths ucd (drop at text)) ≡ record { body = 0; separator = 0 }
  first_at_end text at h = ap (λ bs. first (lengths ucd bs)) (drop_all at text h) ∙ ap (λ cs. first (lens ucd cs)) chars-nil
