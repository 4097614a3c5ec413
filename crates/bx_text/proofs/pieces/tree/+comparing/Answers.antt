use Rattle.std.proofs.Common.{◌≡◌, ◌-◌, ◌<◌, ◌∷◌, ◌++◌, ◌∙◌, length, take, drop, refl, ap, sym, subst, arith, rules}
use Rattle.std.proofs.lemmas.List.{length-drop, length-take, take-append-drop, take_rest}
use Rattle.bx_text.specs.pieces.Bytes.{AreWithin, buffers, bytes_of, piece_bytes}
use Rattle.bx_text.specs.pieces.Tree.{Shape, sequence}
use Rattle.bx_text.proofs.pieces_lemmas.Begun.{in_turn, on_right, within_left, within_own, within_rest}
use Rattle.bx_text.proofs.pieces.tree.+comparing.Goals as goal
use Rattle.bx_text.proofs.pieces.tree.+comparing.Goals.{has_in-else-before-at-via-then-before-at+else-tree-at, has_in-else-before-at-via-else-before-at}

pub has_in-has-requires : goal.has_in-has-requires
has_in-has-requires t c =
    let o = c.args.opened.now in
    let a = c.args.added.now in
    let within = subst (λ (s : Shape). AreWithin (buffers o a) s.pieces) (sym c.tree.view_is) c.requires.within in
    (search rules, within_rest o a (sequence c.tree.inside.left) c.tree.inside.piece (sequence c.tree.inside.right) within)

pub has_in-returns-then-tree-at : goal.has_in-returns-then-tree-at
has_in-returns-then-tree-at t c = λ same.
    let o = c.args.opened.now in
    let a = c.args.added.now in
    let within = subst (λ (s : Shape). AreWithin (buffers o a) s.pieces) (sym c.tree.view_is) c.requires.within in
    subst (λ (s : Shape). take (length c.args.bytes.now) (drop c.args.at (bytes_of (buffers o a) s.pieces)) ≡ c.args.bytes.now) c.tree.view_is
    (on_right o a (sequence c.tree.inside.left) c.tree.inside.piece (sequence c.tree.inside.right) within c.len-before.result c.len-before.ensures
    c.args.bytes.now c.args.at c.if-before-at.true c.if-tree-at.true (c.has.ensures same))

pub has_in-has-requires-2 : goal.has_in-has-requires-2
has_in-has-requires-2 t c =
    let o = c.args.opened.now in
    let a = c.args.added.now in
    let within = subst (λ (s : Shape). AreWithin (buffers o a) s.pieces) (sym c.tree.view_is) c.requires.within in
    (search rules, within_left o a (sequence c.tree.inside.left) (c.tree.inside.piece ∷ sequence c.tree.inside.right) within)

pub has_in-piece_has-requires-clause-within : goal.has_in-piece_has-requires-clause-within
has_in-piece_has-requires-clause-within t c =
    let o = c.args.opened.now in
    let a = c.args.added.now in
    let within = subst (λ (s : Shape). AreWithin (buffers o a) s.pieces) (sym c.tree.view_is) c.requires.within in
    within_own o a (sequence c.tree.inside.left) c.tree.inside.piece (sequence c.tree.inside.right) within

pub has_in-has-requires-3 : goal.has_in-has-requires-3
has_in-has-requires-3 t c =
    let o = c.args.opened.now in
    let a = c.args.added.now in
    let within = subst (λ (s : Shape). AreWithin (buffers o a) s.pieces) (sym c.tree.view_is) c.requires.within in
    (search rules, within_rest o a (sequence c.tree.inside.left) c.tree.inside.piece (sequence c.tree.inside.right) within)

pub has_in-returns : goal.has_in-returns
has_in-returns t c = λ same.
    let o = c.args.opened.now in
    let a = c.args.added.now in
    let bytes = c.args.bytes.now in
    let n = c.min-on_left.result in
    let k = c.min-own.result in
    let before = c.len-before.result in
    let rest = take (length bytes - n) (drop n bytes) in
    let rest-is = take_rest bytes n in
    let within = subst (λ (s : Shape). AreWithin (buffers o a) s.pieces) (sym c.tree.view_is) c.requires.within in
    let inside : c.args.at - before < c.tree.inside.piece.len = elim c.else-before-at.branch [
      | has_in-else-before-at-via-then-before-at+else-tree-at w ↦ omega (arith, w.if-tree-at.false)
      | has_in-else-before-at-via-else-before-at w ↦ omega (arith, w.if-before-at.false, c.tree.invariant.some)
    ] in
    subst (λ (s : Shape). take (length bytes) (drop c.args.at (bytes_of (buffers o a) s.pieces)) ≡ bytes) c.tree.view_is
    (in_turn o a (sequence c.tree.inside.left) c.tree.inside.piece (sequence c.tree.inside.right) within before c.len-before.ensures bytes c.args.at
    (take n bytes) (take k rest) (take (length rest - k) (drop k rest))
    (ap (λ l. take n bytes ++ (take k rest ++ l)) (take_rest rest k) ∙ ap (λ l. take n bytes ++ l) (take-append-drop k rest ∙ rest-is)
    ∙ take-append-drop n bytes)
    (omega (arith, length-take n bytes, c.min-on_left.ensures, c.saturating_sub.ensures))
    (omega (
      arith,
      length-take k rest,
      ap length rest-is,
      length-drop n bytes,
      length-take n bytes,
      c.min-own.ensures,
      c.min-on_left.ensures,
      c.saturating_sub-skipped.ensures,
    ))
    inside
    (c.if-not-has.ensures refl)
    (subst (λ s. take (length (take k rest)) (drop s (piece_bytes (buffers o a) c.tree.inside.piece)) ≡ take k rest) c.saturating_sub-skipped.ensures
    (c.if-not-piece_has.ensures refl))
    (c.has-3.ensures same))
