-- Past the last code both answer L.
use Rattle.std.proofs.Common.{◌≡◌, suc, false, ltb, ap, sym, ◌∙◌, inl, inr, arith}
use Rattle.std.proofs.lemmas.Bool.{cases_lt, lt-leb}
use Rattle.bx_ucd.specs.Answers.{class_by_lines}
use Rattle.bx_ucd.specs.ClassTable.{class_in_table}
use Rattle.bx_ucd.specs.Reading.{class_in_file}
use Rattle.bx_ucd.proofs.BoundLemmas.{class_past_last}
use Rattle.bx_ucd.proofs.tables.read_classes.Goals as goal

pub returns-in-Ok-clause-answers : goal.returns-in-Ok-clause-answers
returns-in-Ok-clause-answers c code =
    elim (cases_lt code 0x110000) as (λ _. class_in_table c.in-Ok.table code ≡ class_in_file c.args.bytes.now code) [
      | inl lt ↦ c.in-Ok.ensures code lt ∙ ap (λ es. class_by_lines es code) (c.deref.ensures.value ∙ c.in_ok-entries.ensures.entries)
      | inr past ↦ let small : ltb code 0x110000 ≡ false =
          lt-leb (suc code) 0x110000 (omega arith) in rw small (sym (class_past_last c.args.bytes.now code (omega arith)))
    ]
