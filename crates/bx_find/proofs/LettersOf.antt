-- The letters of one character.
use Rattle.std.proofs.Common.{drop, ◌<◌, length-drop, ◌≡◌, ◌≤◌, ◌+◌, ◌∙◌, ℕ, Bool, true, false, List, [], ◌∷◌, ◌++◌, length, map, flat_map, refl, ap}
use Rattle.std.proofs.Common.{sym, arith, append-nil, length-append, if◌then◌else◌}
use Rattle.std.specs.Prelude.{filter}
use Rattle.std.proofs.lemmas.List.{length-map}
use Rattle.std.specs.Char.{to_ascii_lowercase}
use Rattle.ucd_normal.specs.declared.forms.Form.TheVariants.{Nfd}
use Rattle.ucd_case.specs.CaseFolding.{full_fold, full_folding, or_itself}
use Rattle.unicode_normalization.specs.Decompose.{decompose}
use Rattle.bx_ucd.specs.Data.{Data}
use Rattle.bx_find.specs.Letters.{is_passed_over, main_letter, folded, letters_of_parts, letters_of}
use Rattle.bx_find.specs.Short.{is_short, is_simple, simple_letter}
use Rattle.bx_find.specs.declared.letters.Reading.{Reading}
use Rattle.bx_find.specs.declared.letters.Reading.TheVariants.{Wide, Close}
use Rattle.bx_find.proofs.UnicodeFacts.{nfd_one, few_folded, short_whole, short_fold}

or-long : (c : ℕ) (cs : List ℕ) → 0 < length cs → length (or_itself c cs) ≡ length cs
or-long c [] h = absurd (omega arith)
or-long c (d ∷ ds) h = refl

-- room for the next letter of a folding
pub fold_room : (c i : ℕ) (cs items init : List ℕ) → cs ≡ full_folding c → i < length cs
    → items ++ map main_letter (drop i cs) ≡ init ++ map main_letter cs → length init + length (folded c) ≤ 4 → length items < 4
fold_room c i cs items init e inside whole fits =
    omega (
      arith,
      inside,
      fits,
      ap length whole,
      length-append items (map main_letter (drop i cs)),
      length-append init (map main_letter cs),
      length-map (drop i cs) main_letter,
      length-map cs main_letter,
      length-map (full_fold c) main_letter,
      length-drop i cs,
      ap (λ ds. length (or_itself c ds)) e,
      or-long c cs (omega (arith, inside)),
    )

module _ (ucd : Data) where
  abbrev kept : List ℕ → List ℕ
  kept cs = letters_of_parts ucd cs

  pub by_parts : (c : ℕ) → letters_of ucd Wide c ≡ kept (decompose Nfd c)
  by_parts c = ap kept (nfd_one c)

  few-kept-by : (c : ℕ) (cs : List ℕ) (passed : Bool) → is_passed_over ucd c ≡ passed → length (kept cs) ≤ length (flat_map full_fold cs)
      → length (kept (c ∷ cs)) ≤ length (flat_map full_fold (c ∷ cs))
  few-kept-by c cs true e h =
      let none : kept (c ∷ cs) ≡ kept cs = rw (e, filter) refl in
      omega (arith, ap length none, h, length-append (full_fold c) (flat_map full_fold cs))
  few-kept-by c cs false e h =
      let some : kept (c ∷ cs) ≡ folded c ++ kept cs = rw (e, filter) refl in
      omega (
        arith,
        ap length some,
        h,
        length-append (folded c) (kept cs),
        length-map (full_fold c) main_letter,
        length-append (full_fold c) (flat_map full_fold cs),
      )

  more-by : (c : ℕ) (cs : List ℕ) (passed : Bool) → is_passed_over ucd c ≡ passed → kept (c ∷ cs) ≡ kept (c ∷ []) ++ kept cs
  more-by c cs true e = rw (e, filter) refl
  more-by c cs false e = rw (e, filter) (ap (λ (ls : List ℕ). ls ++ kept cs) (sym (append-nil (folded c))))

  pub parts_more : (c : ℕ) (cs : List ℕ) → letters_of_parts ucd (c ∷ cs) ≡ letters_of_parts ucd (c ∷ []) ++ letters_of_parts ucd cs
  parts_more c cs = more-by c cs (is_passed_over ucd c) refl

  passed-none : (c : ℕ) → is_passed_over ucd c ≡ true → kept (c ∷ []) ≡ []
  passed-none c e = rw (e, filter) refl

  pub part_passed : (c : ℕ) (passed : Bool) → passed ≡ is_passed_over ucd c → passed ≡ true → [] ≡ letters_of_parts ucd (c ∷ [])
  part_passed c passed e h = sym (passed-none c (sym e ∙ h))

  kept-one : (c : ℕ) → is_passed_over ucd c ≡ false → kept (c ∷ []) ≡ folded c
  kept-one c e = rw (e, filter) (append-nil (folded c))

  pub part_kept : (c : ℕ) (passed : Bool) → passed ≡ is_passed_over ucd c → passed ≡ false → folded c ≡ letters_of_parts ucd (c ∷ [])
  part_kept c passed e h = sym (kept-one c (sym e ∙ h))

  few-kept : (cs : List ℕ) → length (kept cs) ≤ length (flat_map full_fold cs)
  few-kept [] = omega arith
  few-kept (c ∷ cs) = few-kept-by c cs (is_passed_over ucd c) refl (few-kept cs)

  -- room for the letters of the next part
  pub room : (c i x : ℕ) (parts items : List ℕ) → parts ≡ decompose Nfd c → drop i parts ≡ x ∷ drop (i + 1) parts
      → items ++ letters_of_parts ucd (drop i parts) ≡ letters_of_parts ucd parts → length items + length (letters_of_parts ucd (x ∷ [])) ≤ 4
  room c i x parts items e next whole =
      let left : letters_of_parts ucd (drop i parts) ≡ letters_of_parts ucd (x ∷ []) ++ letters_of_parts ucd (drop (i + 1) parts) =
      ap (letters_of_parts ucd) next ∙ parts_more x (drop (i + 1) parts) in
      omega (
        arith,
        ap length whole,
        length-append items (letters_of_parts ucd (drop i parts)),
        ap length left,
        length-append (letters_of_parts ucd (x ∷ [])) (letters_of_parts ucd (drop (i + 1) parts)),
        ap (λ cs. length (letters_of_parts ucd cs)) e,
        few-kept (decompose Nfd c),
        few_folded c,
      )

  one-short : (c : ℕ) (passed : Bool) → is_short c ≡ true → is_passed_over ucd c ≡ passed
      → kept (c ∷ []) ≡ (if passed then [] else main_letter (to_ascii_lowercase c) ∷ [])
  one-short c true short e = rw (e, filter) refl
  one-short c false short e = rw (e, filter) (append-nil (folded c)) ∙ ap (map main_letter) (short_fold c short)

  -- a simple character gives its simple letter, or none
  pub simple : (reading : Reading) (c : ℕ) → is_simple reading c ≡ true
      → letters_of ucd reading c ≡ (if is_passed_over ucd c then [] else simple_letter reading c ∷ [])
  simple Wide c h = by_parts c ∙ ap kept (short_whole c h) ∙ one-short c (is_passed_over ucd c) h refl
  simple Close c h = refl

  close-few : (c : ℕ) (passed : Bool) → length (if passed then [] else to_ascii_lowercase c ∷ []) ≤ 4
  close-few c true = omega arith
  close-few c false = omega arith

  -- no character gives more than four letters
  pub few_letters : (reading : Reading) (c : ℕ) → length (letters_of ucd reading c) ≤ 4
  few_letters Wide c = omega (arith, ap length (by_parts c), few-kept (decompose Nfd c), few_folded c)
  few_letters Close c = close-few c (is_passed_over ucd c)
