use Rattle.std.proofs.Common.{ℕ, List, ◌≡◌, ◌≤◌, ◌+◌, ◌∙◌, ◌++◌, ◌∷◌, length, chars, ap, ap₂, sym, arith, length-append}
use Rattle.std.specs.Prelude.{encode_utf8}
use Rattle.std.proofs.lemmas.Str.{chars_past_char, IsUtf8-past_char}
use Rattle.bx_find.specs.Prefix.{to_come}
use Rattle.bx_find.specs.Matches.{last_below}
use Rattle.bx_find.proofs.Offsets.{none_left}
use Rattle.bx_find.proofs.ReadOn.{no_chars}
use Rattle.bx_find.proofs.backward.last_in.Goals as goal

-- the prefix is empty, and what follows is past the bound, in this piece and behind it
pub returns-then-len-eq0-clause-found : goal.returns-then-len-eq0-clause-found
returns-then-len-eq0-clause-found g c cs =
    let ucd = g.D.BidiData.data c.args.sought.now.tables.now in
    let none : length c.loop-c.prefix ≡ 0 = sym c.len.ensures ∙ c.if-len-eq0.true in
    let past : c.args.latest.now.before ≤ c.loop-c.at = omega (arith, c.if-at-latest.true, c.loop-c.invariant.before) in
    let left = none_left ucd c.args.sought.now.reading c.args.sought.now.query.now c.args.latest.now.before c.loop-c.at c.loop-c.latest.found c.loop-c.prefix
    (chars c.loop-c.rest.now ++ cs) none past in
    let behind = none_left ucd c.args.sought.now.reading c.args.sought.now.query.now c.args.latest.now.before (c.args.start + length c.args.piece.now) c.loop-c.latest.found c.loop-c.prefix cs none
    (omega (arith, past, c.loop-c.invariant.bytes)) in
    c.loop-c.invariant.found cs ∙ left ∙ sym behind

pub loop-c-preserved : goal.loop-c-preserved
loop-c-preserved g c =
    let come = to_come (g.D.BidiData.data c.args.sought.now.tables.now) c.args.sought.now.reading c.args.sought.now.query.now in
    let behind = c.in-Some.behind.now in
    let read = chars_past_char c.loop-c.rest.now behind c.in-Some.c c.loop-c.invariant.text c.in-Some.ensures.0 in
    let bytes = ap length c.in-Some.ensures.0 ∙ length-append (encode_utf8 c.in-Some.c) behind in
    let before = c.loop-c.invariant.before in
    record {
      text = IsUtf8-past_char c.loop-c.rest.now behind c.in-Some.c c.loop-c.invariant.text c.in-Some.ensures.0;
      fewer = c.last_at.ensures.fewer;
      bytes = omega (arith, bytes, c.len_utf8-at.ensures.len, c.loop-c.invariant.bytes);
      before = c.last_at.ensures.before ∙ before;
      found = λ cs. c.loop-c.invariant.found cs
          ∙ ap (λ (xs : List ℕ). last_below c.args.latest.now.before c.loop-c.latest.found (come c.loop-c.prefix c.loop-c.at (xs ++ cs))) read
          ∙ ap (λ b. last_below b c.loop-c.latest.found (come c.loop-c.prefix c.loop-c.at (c.in-Some.c ∷ chars behind ++ cs))) (sym before)
          ∙ c.last_at.ensures.found (chars behind ++ cs)
          ∙ ap₂ (λ b n. last_below b c.last_at.new.latest.found (come c.last_at.new.prefix (c.loop-c.at + n) (chars behind ++ cs))) before
          (sym c.len_utf8-at.ensures.len);
    }

pub returns-clause-found : goal.returns-clause-found
returns-clause-found g c cs =
    let come = to_come (g.D.BidiData.data c.args.sought.now.tables.now) c.args.sought.now.reading c.args.sought.now.query.now in
    let at : c.loop-c.at ≡ c.args.start + length c.args.piece.now = omega (arith, c.in_default.ensures, c.loop-c.invariant.bytes) in
    c.loop-c.invariant.found cs
    ∙ ap₂ (λ n (xs : List ℕ). last_below c.args.latest.now.before c.loop-c.latest.found (come c.loop-c.prefix n (xs ++ cs))) at
    (no_chars c.loop-c.rest.now c.in_default.ensures)
