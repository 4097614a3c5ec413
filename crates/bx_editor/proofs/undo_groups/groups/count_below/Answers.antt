use Rattle.std.proofs.Common.{nat_lt, rules}
use Rattle.std.proofs.lemmas.List.Sorted.{IsPartitionPoint-from_clause, IsPartitionedBy-ltb}
use Rattle.bx_editor.proofs.undo_groups_lemmas.Bisected.{not-falling, passed-first}
use Rattle.bx_editor.proofs.undo_groups.groups.count_below.Goals as goal

pub returns-clause-below : goal.returns-clause-below
returns-clause-below c =
    let xs = c.args.numbers.now in
    let parted = IsPartitionedBy-ltb (λ r. r) xs c.args.n (not-falling xs c.requires) in
    let point = IsPartitionPoint-from_clause (λ r. nat_lt r c.args.n) xs _ c.partition_point.ensures.partitioned parted (λ a r q k. search rules) in
    passed-first (λ r. nat_lt r c.args.n) xs c.partition_point.result c.partition_point.ensures.bound point
