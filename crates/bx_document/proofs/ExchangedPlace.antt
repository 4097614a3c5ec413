-- Bytes are removed, and others inserted where they stood: the text and the place are those after one edit.
use Rattle.std.proofs.Common.{◌≡◌, ℕ, ◌<◌, ◌≤◌, List, [], ◌∷◌, ◌++◌, ◌+◌, length, take, drop, append-nil, sym, ap, ap₂, ◌∙◌, arith}
use Rattle.std.proofs.lemmas.List.{drop_at, length-take-le, take_at}
use Rattle.bx_text.specs.Edits.{Edited, splice}
use Rattle.bx_text.specs.Changes.{exchanged}
use Rattle.bx_ucd.specs.Data.{Data}
use Rattle.bx_view.specs.Moves.{place_from}
use Rattle.bx_document.specs.Document.{Document, DocumentState, after_exchange, place_after, place_after_removal, rows_of}

pub exchanged_text : (text : List ℕ) (start stop : ℕ) (new : List ℕ) → start ≤ length text
    → splice (splice text start stop []) start start new ≡ splice text start stop new
exchanged_text text start stop new inside =
    let front = take start text in
    let back = drop stop text in
    let left : splice text start stop [] ≡ front ++ back = ap (λ xs. xs ++ back) (append-nil front) in
    let size : length front ≡ start = length-take-le start text inside in
    ap₂ (λ xs ys. xs ++ new ++ ys) (ap (take start) left ∙ take_at front back start size)
    (ap (drop start) left ∙ drop_at front back start size)

-- the document after both edits
exchanged_document : (d : Data) (t : Document) (start stop : ℕ) (new : List ℕ) (place between after : ℕ) → 0 < length new
    → start ≤ length t.content.text → between ≡ place_after_removal d t start stop → after ≡ place_after d t start stop new
    → record t { content = exchanged t.content start stop start new place between after } ≡ after_exchange d t start stop new place
exchanged_document d t start stop [] place between after some inside e f = absurd (omega (arith, some))
exchanged_document d t start stop (b ∷ bs) place between after some inside e f =
    let new : List ℕ = b ∷ bs in
    let same = ap (λ xs. place_from (rows_of d t xs) (start + length new))
    (sym (exchanged_text t.content.text start stop new inside)) in
    ap₂ (λ m n. record t { content = exchanged t.content start stop start new place m n }) e (f ∙ same)

-- `inner` is the opened value of the document `now`
pub exchanged_state : {D : Type 0} (ucd : D → Data) (inner now : DocumentState D) (u : Edited) (start stop : ℕ)
    (new : List ℕ) (place between after : ℕ)
    → inner ≡ now → u ≡ exchanged inner.document.content start stop start new place between after → 0 < length new
    → start ≤ length now.document.content.text → between ≡ place_after_removal (ucd now.tables) now.document start stop
    → after ≡ place_after (ucd now.tables) now.document start stop new
    → record inner { document = record inner.document { content = u } }
    ≡ record now { document = after_exchange (ucd now.tables) now.document start stop new place }
exchanged_state {D} ucd inner now u start stop new place between after same is some inside e f =
    ap (λ (x : Edited). record inner { document = record inner.document { content = x } }) is
    ∙ ap (λ (s : DocumentState D). record s {
      document = record s.document { content = exchanged s.document.content start stop start new place between after };
    }) same
    ∙ ap (λ (t : Document). record now { document = t })
    (exchanged_document (ucd now.tables) now.document start stop new place between after some inside e f)
