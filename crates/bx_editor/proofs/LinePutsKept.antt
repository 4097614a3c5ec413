-- What the held text keeps, put into an input line.
use Rattle.std.proofs.Common.{ℕ, List, [], ◌∷◌, Some, None}
use Rattle.std.specs.Prelude.{fold}
use Rattle.bx_ucd.specs.Data.{Data}
use Rattle.bx_editor.specs.declared.message.Message.TheVariants.{NothingToPut}
use Rattle.bx_editor.specs.Editor.{Editor, cleared}
use Rattle.bx_editor.specs.InputLines.{first_line}
use Rattle.bx_editor.specs.LinePuts.{after_line_put, typed_alone, typed_in, typed_one_by_one}

-- a character that is typed keeps this property of editors, and so does what each key finds
pub record IsKeptTyping (d : Data) (P : Editor → Type 0) : Type 0 where
  pub cleared : (e : Editor) → P e → P (cleared e)
  pub told : (e : Editor) → P e → P (record e { message = Some NothingToPut })
  pub typed : (e : Editor) (c : ℕ) → P e → P (typed_in d e.prompt e.search_state e c)

module _ (d : Data) (P : Editor → Type 0) (keeps : IsKeptTyping d P) where
  alone : (e : Editor) (c : ℕ) → P e → P (typed_alone d e c)
  alone e c h = keeps.typed (cleared e) c (keeps.cleared e h)

  many : (e : Editor) (cs : List ℕ) → P e → P (fold (typed_alone d) e cs)
  many e [] h = h
  many e (c ∷ cs) h = many (typed_alone d e c) cs (alone e c h)

  one-by-one : (e : Editor) (cs : List ℕ) → P e → P (typed_one_by_one d e cs)
  one-by-one e [] h = keeps.told (cleared e) (keeps.cleared e h)
  one-by-one e (c ∷ cs) h = many e (c ∷ cs) h

  pub line-put-keeps : (e : Editor) → P e → P (after_line_put d e)
  line-put-keeps e h = one-by-one e (first_line d e.held) h
