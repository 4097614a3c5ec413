-- What moves from row to row keep.
use Rattle.std.proofs.Common.{◌≡◌, ℕ, Bool, true, false, List, [], ◌∷◌, Some, None, refl, sym, ap, ◌∙◌}
use Rattle.std.specs.Prelude.{All}
use Rattle.std.proofs.lemmas.List.Elements.{All-cons, All-head, All-tail}
use Rattle.bx_keys.specs.declared.key.Key.{Key}
use Rattle.bx_keys.specs.declared.key.Key.TheVariants.{LineDown, LineUp, PageBack, PageOn}
use Rattle.bx_ucd.specs.Data.{Data}
use Rattle.bx_view.specs.declared.moves.Vertical.{Vertical}
use Rattle.bx_view.specs.declared.moves.Vertical.TheVariants.{Up, Down}
use Rattle.bx_view.specs.declared.moves.Goal.{Goal}
use Rattle.bx_view.specs.Moves.{goal_of, rows_away}
use Rattle.bx_editor.specs.declared.questions.answers.Prompt.TheVariants as prompts
use Rattle.bx_editor.specs.declared.search_state.SearchState.TheVariants.{Off}
use Rattle.bx_editor.specs.Editor.{Editor, rows}
use Rattle.bx_editor.specs.Keys.{after_key}
use Rattle.bx_editor.specs.Functions.{after_keys}
use Rattle.bx_editor_laws.specs.WorkLaws.{ColumnIsKept, keeps_column}
use Rattle.bx_editor_laws.proofs.RowMoves.{Marks, key-moves, kept-at, keys-from, left, move_key, size}

-- a key that keeps the column is one by rows or by pages
is-move : (key : Key) → keeps_column key ≡ true → (paged : Bool) × (way : Vertical) × (key ≡ move_key paged way)
is-move LineUp is = (false, Up, refl)
is-move LineDown is = (false, Down, refl)
is-move PageBack is = (true, Up, refl)
is-move PageOn is = (true, Down, refl)
is-move _ is = absurd (cc is)

module _ (d : Data) (e : Editor) (off : e.search_state ≡ Off) (settled : e.pasted ≡ None) (unasked : e.prompt ≡ prompts.Off) (goal : Goal) where
  keeps : (keys : List Key) (m : Marks) (place : ℕ) → All (λ key. keeps_column key ≡ true) keys
      → (after_keys d None (kept-at d e off settled unasked false goal m place) keys).goal ≡ Some goal
  keeps [] m place all = refl
  keeps (key ∷ keys) m place all =
      let Is = λ (key : Key). keeps_column key ≡ true in
      let move = is-move key (All-head Is key keys all) in
      let moved = key-moves d e off settled unasked move.0 goal move.1 m place in
      ap (λ k. (after_keys d None (after_key d None (kept-at d e off settled unasked false goal m place) k) keys).goal) move.2
      ∙ ap (λ (x : Editor). (after_keys d None x keys).goal) moved
      ∙ keeps keys (left m) (rows_away e.width (rows d e) move.1 (size move.0 e.height) goal place) (All-tail Is key keys all)

pub column-is-kept : ColumnIsKept
column-is-kept d e first keys off settled unasked none is all =
    let goal = goal_of e.width (rows d e) e.place in
    let own : Marks = (e.mark, e.soft) in
    let move = is-move first is in
    let goal-after = λ (x : Editor) (key : Key). (after_keys d None x (key ∷ keys)).goal in
    ap (goal-after e) move.2
    ∙ ap (λ (x : Editor). x.goal) (keys-from d e off settled unasked move.0 goal none refl move.1 keys)
    ∙ ap (goal-after (kept-at d e off settled unasked false goal own e.place)) (sym move.2)
    ∙ keeps d e off settled unasked goal (first ∷ keys) own e.place (All-cons (λ key. keeps_column key ≡ true) first keys is all)
