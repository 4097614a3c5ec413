use Rattle.std.proofs.Common.{rules, ◌≡◌, ◌<◌, inl, inr, true, false, length, get_or, sym, subst, arith}
use Rattle.std.proofs.lemmas.Bool.{cases_lt, cases_eq}
use Rattle.std.specs.Char.{IsScalar}
use Rattle.bx_text.specs.index.Paragraphs.{is_separator}
use Rattle.bx_text.specs.index.LeadBytes.{lead_of}
use Rattle.bx_text.proofs.index_lemmas.FirstBytes.{still_set, set_more, lead_rises, lead_is_byte, scalar_below}
use Rattle.bx_text.proofs.index.lead_bytes.lead_bytes_of.Goals as goal

pub loop-code-preserved : goal.loop-code-preserved
loop-code-preserved g c = record {
  len = c.set_flag.ensures.len;
  asked = λ d s l e. elim (cases_eq d c.loop-code.code) [
    | inl here ↦
        subst (λ k. IsScalar k → is_separator ((g.D.BidiData.data c.args.tables.now).class k) ≡ true → get_or c.set_flag.new.flags (lead_of k) false ≡ true)
        (sym here) c.set_flag.ensures.marked s e
    | inr other ↦ c.set_flag.ensures.same (lead_of d) (c.loop-code.invariant.asked d s (omega arith) e)
  ];
}

pub loop-byte-init : goal.loop-byte-init
loop-byte-init g c = record {
  len = c.loop-code.invariant.len;
  asked = λ d s l e. c.loop-code.invariant.asked d s (omega (arith, l, c.loop-code-test.false)) e;
  later = λ b l m. absurd (omega (arith, l, m, c.lead_byte-byte.ensures));
}

pub loop-byte-preserved : goal.loop-byte-preserved
loop-byte-preserved g c =
    let flags = c.loop-byte.may_separate in
    let k : c.loop-byte.byte < length flags = omega (arith, c.loop-byte.invariant.len, c.loop-byte-test.true) in
    record {
      len = search rules;
      asked = λ d s l e. still_set flags c.loop-byte.byte (lead_of d) k (c.loop-byte.invariant.asked d s l e);
      later = set_more flags c.loop-byte.byte (lead_of c.asked_below-limit.result) k c.loop-byte.invariant.later;
    }

pub returns : goal.returns
returns g c = λ d s e. elim (cases_lt d c.asked_below-limit.result) [
  | inl l ↦ c.loop-byte.invariant.asked d s l e
  | inr l ↦ c.loop-byte.invariant.later (lead_of d) (lead_rises c.asked_below-limit.result d l (scalar_below d s))
      (omega (arith, lead_is_byte d (scalar_below d s), c.loop-byte-test.false))
]
