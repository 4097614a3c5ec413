use Rattle.std.proofs.Common.{◌≡◌, ℕ, ◌+◌, ◌-◌, ◌≤◌, ◌∙◌, List, length, take, drop, refl, sym, ap, subst, arith}
use Rattle.std.specs.Str.{IsUtf8, IsCharBoundary}
use Rattle.bx_text.specs.pieces.Pieces.{rest_of}
use Rattle.bx_text.specs.Buffers.{Buffers, piece_bytes, bytes_of}
use Rattle.bx_text.proofs.Bytes.{length-bytes_of}
use Rattle.bx_text.proofs.Held.{holds, held_none, bounds_text, bounds_buffer, bounds_end, is_rest}
use Rattle.bx_text.proofs.buffers.rest_in.Goals as goal

pub returns-in_err-piece-clause-there : goal.returns-in_err-piece-clause-there
returns-in_err-piece-clause-there c =
    let b : Buffers = record { opened = c.args.opened.now; added = c.args.added.now } in
    let past : length (bytes_of b c.args.pieces.now) ≤ c.args.at =
    omega (arith, length-bytes_of b c.args.pieces.now c.requires, held_none c.args.pieces.now c.args.at (sym c.holding.ensures ∙ c.in_err-piece.was)) in
    rw c.from_residual.ensures (λ some. absurd (cc), λ at. absurd (omega (arith, at.1)))

pub overflow_add-start : goal.overflow_add-start
overflow_add-start c =
    let b : Buffers = record { opened = c.args.opened.now; added = c.args.added.now } in
    let h = holds b c.args.pieces.now c.args.at c.in_ok-piece.piece c.in_ok-piece.before c.requires (sym c.holding.ensures ∙ c.in_ok-piece.was) in
    omega (arith, h.in_buffers.inside, h.before_end, ap length c.buffer_of-text.ensures)

pub returns-then-not-is_char_boundary-clause-there : goal.returns-then-not-is_char_boundary-clause-there
returns-then-not-is_char_boundary-clause-there c =
    let b : Buffers = record { opened = c.args.opened.now; added = c.args.added.now } in
    let h = holds b c.args.pieces.now c.args.at c.in_ok-piece.piece c.in_ok-piece.before c.requires (sym c.holding.ensures ∙ c.in_ok-piece.was) in (
      λ e. absurd (cc),
      λ at. c.if-not-is_char_boundary.ensures.test.1
          (subst (λ (t : List ℕ). IsCharBoundary t (c.in_ok-piece.piece.start + c.in_ok-piece.before)) (sym c.buffer_of-text.ensures)
          (bounds_buffer b c.args.pieces.now c.args.at c.in_ok-piece.piece c.in_ok-piece.before h at.0)),
    )

pub overflow_add-piece : goal.overflow_add-piece
overflow_add-piece c =
    let b : Buffers = record { opened = c.args.opened.now; added = c.args.added.now } in
    let h = holds b c.args.pieces.now c.args.at c.in_ok-piece.piece c.in_ok-piece.before c.requires (sym c.holding.ensures ∙ c.in_ok-piece.was) in
    omega (arith, h.in_buffers.inside, ap length c.buffer_of-text.ensures)

pub range-requires-clause-start_le_end : goal.range-requires-clause-start_le_end
range-requires-clause-start_le_end c =
    let b : Buffers = record { opened = c.args.opened.now; added = c.args.added.now } in
    let h = holds b c.args.pieces.now c.args.at c.in_ok-piece.piece c.in_ok-piece.before c.requires (sym c.holding.ensures ∙ c.in_ok-piece.was) in
    omega (arith, h.before_end)

pub range-requires-clause-end_boundary : goal.range-requires-clause-end_boundary
range-requires-clause-end_boundary c =
    let b : Buffers = record { opened = c.args.opened.now; added = c.args.added.now } in
    let h = holds b c.args.pieces.now c.args.at c.in_ok-piece.piece c.in_ok-piece.before c.requires (sym c.holding.ensures ∙ c.in_ok-piece.was) in
    subst (λ (t : List ℕ). IsCharBoundary t (c.in_ok-piece.piece.start + c.in_ok-piece.piece.len)) (sym c.buffer_of-text.ensures)
    (bounds_end b c.args.pieces.now c.args.at c.in_ok-piece.piece c.in_ok-piece.before h (subst IsUtf8 c.buffer_of-text.ensures c.buffer_of-text.utf8))

pub returns-clause-there : goal.returns-clause-there
returns-clause-there c =
    let b : Buffers = record { opened = c.args.opened.now; added = c.args.added.now } in
    let h = holds b c.args.pieces.now c.args.at c.in_ok-piece.piece c.in_ok-piece.before c.requires (sym c.holding.ensures ∙ c.in_ok-piece.was) in
    let at : IsCharBoundary (bytes_of b c.args.pieces.now) c.args.at =
    bounds_text b c.args.pieces.now c.args.at c.in_ok-piece.piece c.in_ok-piece.before h
    (subst (λ (t : List ℕ). IsCharBoundary t (c.in_ok-piece.piece.start + c.in_ok-piece.before)) c.buffer_of-text.ensures
    (c.if-not-is_char_boundary.ensures.test.0 refl)) in
    (λ e. (at, h.inside), λ e. refl)

pub returns-clause-rest : goal.returns-clause-rest
returns-clause-rest c =
    let b : Buffers = record { opened = c.args.opened.now; added = c.args.added.now } in
    let p = c.in_ok-piece.piece in
    let j = c.in_ok-piece.before in
    let h = holds b c.args.pieces.now c.args.at p j c.requires (sym c.holding.ensures ∙ c.in_ok-piece.was) in
    let at : IsCharBoundary (bytes_of b c.args.pieces.now) c.args.at =
    bounds_text b c.args.pieces.now c.args.at p j h
    (subst (λ (t : List ℕ). IsCharBoundary t (p.start + j)) c.buffer_of-text.ensures (c.if-not-is_char_boundary.ensures.test.0 refl)) in
    let count : (p.start + p.len) - (p.start + j) ≡ p.len - j = omega arith in
    let bytes : c.range.result.now ≡ piece_bytes b (rest_of p j) =
    c.range.ensures.value ∙ ap (λ (n : ℕ). take n (drop (p.start + j) c.buffer_of-text.result.now)) count
    ∙ ap (λ (t : List ℕ). take (p.len - j) (drop (p.start + j) t)) c.buffer_of-text.ensures in
    is_rest b c.args.pieces.now c.args.at p j c.range.result.now h c.requires at c.range.utf8 bytes
    (omega (arith, c.range.ensures.len, count))
