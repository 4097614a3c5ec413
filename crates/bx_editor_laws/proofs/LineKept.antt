-- What the held text keeps where none of its characters that are typed is a line end.
use Rattle.std.proofs.Common.{◌≡◌, ◌∙◌, ℕ, suc, ◌+◌, Bool, true, false, not, List, [], ◌∷◌, Some, chars, refl, ap, arith}
use Rattle.std.specs.Prelude.{◌==◌, ◌||◌, fold}
use Rattle.std.specs.List.{before_first, list_all, position_or_len}
use Rattle.std.proofs.lemmas.Bool.{and_from}
use Rattle.bx_ucd.specs.Data.{Data}
use Rattle.bx_editor.specs.declared.message.Message.TheVariants.{NothingToPut}
use Rattle.bx_editor.specs.Editor.{Editor, cleared}
use Rattle.bx_editor.specs.InputLines.{first_line, is_no_letter}
use Rattle.bx_editor.specs.LinePuts.{after_line_put, is_in_line, typed_alone, typed_in, typed_one_by_one}
use Rattle.bx_editor.proofs.LinePutsLeft.{first-of, others-of}

-- ---- the characters that are typed

-- a character that ends what an input line takes of a text
abbrev pub ends : Data → ℕ → Bool
ends d c = (c == 0xA) || is_no_letter d c

free : (b other : Bool) → (b || other) ≡ false → not b ≡ true
free true other h = absurd (cc h)
free false other h = refl

before-here : (p : ℕ → Bool) (c : ℕ) (cs : List ℕ) → p c ≡ true → before_first p (c ∷ cs) ≡ []
before-here p c cs h = rw h refl

before-more : (p : ℕ → Bool) (c : ℕ) (cs : List ℕ) → p c ≡ false → before_first p (c ∷ cs) ≡ c ∷ before_first p cs
before-more p c cs h =
    let n = position_or_len p cs in
    let e : 1 + n ≡ suc n = omega arith in
    rw (h, e) refl

in-line-by : (d : Data) (c : ℕ) (cs : List ℕ) (b : Bool) → ends d c ≡ b → list_all is_in_line (before_first (ends d) cs) ≡ true
    → list_all is_in_line (before_first (ends d) (c ∷ cs)) ≡ true
in-line-by d c cs true h rest = ap (list_all is_in_line) (before-here (ends d) c cs h)
in-line-by d c cs false h rest =
    ap (list_all is_in_line) (before-more (ends d) c cs h)
    ∙ and_from (is_in_line c) (list_all is_in_line (before_first (ends d) cs)) (free (c == 0xA) (is_no_letter d c) h) rest

pub in-line-before : (d : Data) (cs : List ℕ) → list_all is_in_line (before_first (ends d) cs) ≡ true
in-line-before d [] = refl
in-line-before d (c ∷ cs) = in-line-by d c cs (ends d c) refl (in-line-before d cs)

-- ---- what they keep

-- such a character keeps this property of editors, and so does what each key finds
pub record IsKeptInLine (d : Data) (P : Editor → Type 0) : Type 0 where
  pub cleared : (e : Editor) → P e → P (cleared e)
  pub told : (e : Editor) → P e → P (record e { message = Some NothingToPut })
  pub typed : (e : Editor) (c : ℕ) → is_in_line c ≡ true → P e → P (typed_in d e.prompt e.search_state e c)

module _ (d : Data) (P : Editor → Type 0) (keeps : IsKeptInLine d P) where
  alone : (e : Editor) (c : ℕ) → is_in_line c ≡ true → P e → P (typed_alone d e c)
  alone e c inside h = keeps.typed (cleared e) c inside (keeps.cleared e h)

  many : (e : Editor) (cs : List ℕ) → list_all is_in_line cs ≡ true → P e → P (fold (typed_alone d) e cs)
  many e [] inside h = h
  many e (c ∷ cs) inside h = many (typed_alone d e c) cs (others-of c cs inside) (alone e c (first-of c cs inside) h)

  one-by-one : (e : Editor) (cs : List ℕ) → list_all is_in_line cs ≡ true → P e → P (typed_one_by_one d e cs)
  one-by-one e [] inside h = keeps.told (cleared e) (keeps.cleared e h)
  one-by-one e (c ∷ cs) inside h = many e (c ∷ cs) inside h

  pub in-line-keeps : (e : Editor) → P e → P (after_line_put d e)
  in-line-keeps e h = one-by-one e (first_line d e.held) (in-line-before d (chars e.held)) h
