use Rattle.std.proofs.Common.{ℕ, List, ◌≡◌, ◌∙◌, ◌++◌, length, chars, ap, sym, arith, append_assoc, append-nil, length-append}
use Rattle.std.proofs.lemmas.Str.{chars_past_char, IsUtf8-past_char}
use Rattle.bx_find.specs.Letters.{letters_of, letters}
use Rattle.bx_find.proofs.LettersOf.{few_letters}
use Rattle.bx_find.proofs.ReadOn.{no_chars}
use Rattle.bx_find.proofs.query.letters_in.Goals as goal

pub push_letters-requires : goal.push_letters-requires
push_letters-requires g c =
    let ucd = g.D.BidiData.data c.args.tables.now in
    let read = chars_past_char c.loop-c.rest.now c.in-Some.behind.now c.in-Some.c c.loop-c.invariant.text c.in-Some.ensures.0 in
    omega (
      arith,
      ap length read,
      c.loop-c.invariant.fits,
      few_letters ucd c.args.reading c.in-Some.c,
      ap length c.deref.ensures.0,
      ap length c.letters_of.ensures,
    )

pub loop-c-preserved : goal.loop-c-preserved
loop-c-preserved g c =
    let ucd = g.D.BidiData.data c.args.tables.now in
    let behind = c.in-Some.behind.now in
    let items = c.loop-c.letters.items in
    let more = letters_of ucd c.args.reading c.in-Some.c in
    let read = chars_past_char c.loop-c.rest.now behind c.in-Some.c c.loop-c.invariant.text c.in-Some.ensures.0 in
    let pushed : c.push_letters.new.letters.items ≡ items ++ more =
    c.push_letters.ensures ∙ ap (λ (ls : List ℕ). items ++ ls) (c.deref.ensures.0 ∙ c.letters_of.ensures) in
    record {
      text = IsUtf8-past_char c.loop-c.rest.now behind c.in-Some.c c.loop-c.invariant.text c.in-Some.ensures.0;
      whole = ap (λ (ls : List ℕ). ls ++ letters ucd c.args.reading (chars behind)) pushed
          ∙ append_assoc items more (letters ucd c.args.reading (chars behind))
          ∙ ap (λ (cs : List ℕ). items ++ letters ucd c.args.reading cs) (sym read) ∙ c.loop-c.invariant.whole;
      fits = omega (
        arith,
        ap length read,
        ap length pushed,
        length-append items more,
        few_letters ucd c.args.reading c.in-Some.c,
        c.loop-c.invariant.fits,
      );
    }

pub returns : goal.returns
returns g c =
    let ucd = g.D.BidiData.data c.args.tables.now in
    sym (append-nil c.loop-c.letters.items)
    ∙ ap (λ (cs : List ℕ). c.loop-c.letters.items ++ letters ucd c.args.reading cs) (sym (no_chars c.loop-c.rest.now c.in_default.ensures))
    ∙ c.loop-c.invariant.whole
