use Rattle.std.proofs.Common.{◌≡◌, ℕ, ◌≤◌, ◌==◌, Bool, true, false, List, [], length, refl, take, sym, subst, ◌∙◌, arith}
use Rattle.std.specs.Prelude.{string_bytes}
use Rattle.std.specs.Str.{IsUtf8}
use Rattle.std.proofs.lemmas.List.{take_all}
use Rattle.std.proofs.lemmas.Str.{IsUtf8-string_bytes}
use Rattle.bx_text.specs.declared.pieces.piece.Piece.{Piece}
use Rattle.bx_text.specs.declared.pieces.piece.Buffer.TheVariants.{Opened}
use Rattle.bx_text.specs.pieces.Pieces.{total, pushed}
use Rattle.bx_text.specs.Buffers.{Buffers, AreInBuffers}
use Rattle.bx_text.proofs.Bytes.{length-bytes_of}
use Rattle.bx_text.proofs.text.Text.open.Goals as goal

-- the pieces of a text as it is opened
record IsWhole (b : Buffers) (ps : List Piece) : Type 0 where
  pub in_buffers : AreInBuffers b ps
  pub count : total ps ≤ length b.opened

whole_of : (b : Buffers) (n : ℕ) → n ≡ length b.opened → IsUtf8 b.opened
    → (none : Bool) → (n == 0) ≡ none → IsWhole b (pushed [] (record { buffer = Opened; start = 0; len = n }))
whole_of b n f utf8 true e = rw e (record { in_buffers = tt; count = omega arith })
whole_of b n f utf8 false e =
    let same : take n b.opened ≡ b.opened = take_all n b.opened (omega (arith, f)) in
    rw e (record { in_buffers = (record { inside = omega (arith, f); utf8 = subst IsUtf8 (sym same) utf8 }, tt); count = omega (arith, f) })

pub invariant_of-result : goal.invariant_of-result
invariant_of-result c =
    let b : Buffers = record { opened = string_bytes c.args.text; added = string_bytes c.new.result } in
    let whole : IsWhole b c.of-pieces.result =
    rw c.of-pieces.ensures.pieces
    (whole_of b c.len-len.result (c.len-len.ensures ∙ c.args.text.bytes.ok.0) (IsUtf8-string_bytes c.args.text) (c.len-len.result == 0) refl) in
    record {
      in_buffers = whole.in_buffers;
      short = omega (
        arith,
        whole.count,
        length-bytes_of b c.of-pieces.result whole.in_buffers,
        c.if-len-gt-LARGEST_TEXT.false,
        c.len-len.ensures,
        c.args.text.bytes.ok.0,
      );
      past_steps = rw c.new-2.ensures.items tt;
      future_steps = rw c.new-3.ensures.items tt;
      has_room = tt;
    }
