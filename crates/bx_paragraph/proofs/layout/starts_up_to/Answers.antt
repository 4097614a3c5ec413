use Rattle.std.proofs.Common.{◌∙◌, nat_le, sym, rules}
use Rattle.std.proofs.lemmas.List.Sorted.{IsPartitionPoint-from_clause, IsPartitionedBy-leb}
use Rattle.bx_paragraph.specs.RowEdits.{origin}
use Rattle.bx_paragraph.proofs.StartOrder.{count-map, count-passed}
use Rattle.bx_paragraph.proofs.layout.starts_up_to.Goals as goal

pub returns-clause-count : goal.returns-clause-count
returns-clause-count c = λ rise.
    let starts = c.args.starts.now in
    let parted = IsPartitionedBy-leb (λ s. s.offset) starts c.args.offset rise in
    let point = IsPartitionPoint-from_clause (λ s. nat_le s.offset c.args.offset) starts _ c.partition_point.ensures.partitioned parted
    (λ a r q k. search rules) in
    sym (count-map (λ o. nat_le o c.args.offset) (λ s. s.offset) starts
    ∙ count-passed (λ s. nat_le s.offset c.args.offset) starts c.partition_point.result origin c.partition_point.ensures.bound point)
