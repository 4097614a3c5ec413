-- Bytes of the text give way to others: the text and the place are those after one edit.
use Rattle.std.proofs.Common.{◌≡◌, ◌≤◌, ◌+◌, ◌∙◌, ℕ, List, [], ◌∷◌, ◌++◌, length, take, drop}
use Rattle.std.proofs.Common.{refl, ap, ap₂, sym, subst, append-nil}
use Rattle.std.proofs.lemmas.List.{length-take-le, take_at, drop_at}
use Rattle.bx_ucd.specs.Data.{Data}
use Rattle.bx_text.specs.Edits.{splice}
use Rattle.bx_editor.specs.declared.search_state.SearchPurpose.{SearchPurpose}
use Rattle.bx_editor.specs.Editor.{Editor, cleared, place_after, with_exchange}
use Rattle.bx_editor.specs.Replacing.{with_matches_replaced}

-- bytes are taken out, and others are put in where they stood
pub out-and-in : (text : List ℕ) (start stop : ℕ) (new : List ℕ) → start ≤ length text
    → splice (splice text start stop []) start start new ≡ splice text start stop new
out-and-in text start stop new inside =
    let front : splice text start stop [] ≡ take start text ++ drop stop text =
    ap (λ xs. xs ++ drop stop text) (append-nil (take start text)) in
    let long = length-take-le start text inside in
    ap (λ xs. take start xs ++ new ++ drop start xs) front
    ∙ ap₂ (λ xs ys. xs ++ new ++ ys) (take_at (take start text) (drop stop text) start long)
    (drop_at (take start text) (drop stop text) start long)

module _ (d : Data) (e : Editor) (start stop : ℕ) where
  pub exchanged-text : (new : List ℕ) → start ≤ length e.content.text
      → (with_exchange d e start stop new).content.text ≡ splice e.content.text start stop new
  exchanged-text [] inside = refl
  exchanged-text (b ∷ bs) inside = out-and-in e.content.text start stop (b ∷ bs) inside

  -- with the place of the one edit that puts the others in their place
  abbrev pub exchange_once : List ℕ → Editor
  exchange_once new = record (with_exchange d e start stop new) { place = place_after d e (splice e.content.text start stop new) (start + length new) }

  pub exchanged-once : (new : List ℕ) → start ≤ length e.content.text → exchange_once new ≡ with_exchange d e start stop new
  exchanged-once new inside =
      ap (λ text. record (with_exchange d e start stop new) { place = place_after d e text (start + length new) }) (sym (exchanged-text new inside))

-- a key's message is cleared before or behind
pub cleared-replaced : (d : Data) (e : Editor) (stop : ℕ) (new : List ℕ) (n : ℕ)
    → cleared (with_matches_replaced d e stop new n) ≡ with_matches_replaced d (cleared e) stop new n
cleared-replaced d e stop new n = refl

-- what holds of the text with `new` put in holds once it was put in
pub held-in : (d : Data) (e : Editor) (stop : ℕ) (new : List ℕ) (n : ℕ) (P : SearchPurpose → List ℕ → List ℕ → ℕ → ℕ → Type 0)
    → e.at ≤ length e.content.text → P e.purpose e.query (splice e.content.text e.at stop new) (e.count + n) 0
    → (let x = with_matches_replaced d e stop new n in P x.purpose x.query x.content.text x.count x.origin)
held-in d e stop [] n P inside h = h
held-in d e stop (b ∷ bs) n P inside h =
    subst (λ text. P e.purpose e.query text (e.count + n) 0) (sym (out-and-in e.content.text e.at stop (b ∷ bs) inside)) h
