use Rattle.std.proofs.Common.{ℕ, List, ◌≡◌, ◌+◌, ◌∙◌, ◌++◌, length, chars, ap, ap₂, sym, arith, length-append}
use Rattle.std.specs.Prelude.{slice_get, encode_utf8}
use Rattle.std.proofs.lemmas.Str.{chars_past_char, IsUtf8-past_char}
use Rattle.bx_find.specs.Prefix.{to_come}
use Rattle.bx_find.proofs.ReadOn.{no_chars}
use Rattle.bx_find.proofs.forward.first_in.Goals as goal

pub returns-in-Some-first_at-clause-found : goal.returns-in-Some-first_at-clause-found
returns-in-Some-first_at-clause-found g c cs =
    let come = to_come (g.D.BidiData.data c.args.sought.now.tables.now) c.args.sought.now.reading c.args.sought.now.query.now in
    let behind = c.in-Some.behind.now in
    let read = chars_past_char c.loop-c.rest.now behind c.in-Some.c c.loop-c.invariant.text c.in-Some.ensures.0 in
    ap (λ (os : List ℕ). slice_get os 0) (c.loop-c.invariant.found cs ∙ ap (λ (xs : List ℕ). come c.loop-c.prefix c.loop-c.at (xs ++ cs)) read)
    ∙ c.in-Some-first_at.ensures.found (chars behind ++ cs)

pub loop-c-preserved : goal.loop-c-preserved
loop-c-preserved g c =
    let come = to_come (g.D.BidiData.data c.args.sought.now.tables.now) c.args.sought.now.reading c.args.sought.now.query.now in
    let behind = c.in-Some.behind.now in
    let read = chars_past_char c.loop-c.rest.now behind c.in-Some.c c.loop-c.invariant.text c.in-Some.ensures.0 in
    let bytes = ap length c.in-Some.ensures.0 ∙ length-append (encode_utf8 c.in-Some.c) behind in
    record {
      text = IsUtf8-past_char c.loop-c.rest.now behind c.in-Some.c c.loop-c.invariant.text c.in-Some.ensures.0;
      fewer = c.in_default-first_at.ensures.fewer;
      bytes = omega (arith, bytes, c.len_utf8-at.ensures.len, c.loop-c.invariant.bytes);
      found = λ cs. c.loop-c.invariant.found cs
          ∙ ap (λ (xs : List ℕ). come c.loop-c.prefix c.loop-c.at (xs ++ cs)) read
          ∙ c.in_default-first_at.ensures.found (chars behind ++ cs)
          ∙ ap (λ n. come c.first_at.new.prefix (c.loop-c.at + n) (chars behind ++ cs)) (sym c.len_utf8-at.ensures.len);
    }

pub returns-clause-found : goal.returns-clause-found
returns-clause-found g c cs =
    let come = to_come (g.D.BidiData.data c.args.sought.now.tables.now) c.args.sought.now.reading c.args.sought.now.query.now in
    let at : c.loop-c.at ≡ c.args.start + length c.args.piece.now = omega (arith, c.in_default.ensures, c.loop-c.invariant.bytes) in
    c.loop-c.invariant.found cs
    ∙ ap₂ (λ n (xs : List ℕ). come c.loop-c.prefix n (xs ++ cs)) at (no_chars c.loop-c.rest.now c.in_default.ensures)
