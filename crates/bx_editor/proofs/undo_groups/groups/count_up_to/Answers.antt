use Rattle.std.proofs.Common.{nat_le, nat_lt, rules}
use Rattle.std.proofs.lemmas.Bool.{le-ltb, lt-ltb, leb-true, leb-false}
use Rattle.std.proofs.lemmas.List.Sorted.{IsPartitionPoint-from_clause, IsPartitionedBy-leb}
use Rattle.bx_editor.proofs.undo_groups_lemmas.Bisected.{not-falling, passed-last}
use Rattle.bx_editor.proofs.undo_groups.groups.count_up_to.Goals as goal

pub returns-clause-above : goal.returns-clause-above
returns-clause-above c =
    let n = c.args.n in
    let xs = c.args.numbers.now in
    let parted = IsPartitionedBy-leb (λ r. r) xs n (not-falling xs c.requires) in
    let point = IsPartitionPoint-from_clause (λ r. nat_le r n) xs _ c.partition_point.ensures.partitioned parted (λ a r q k. search rules) in
    passed-last (λ r. nat_lt n r) xs c.partition_point.result c.partition_point.ensures.bound
    (λ k d low high. le-ltb n _ (leb-true _ n (point.0 k d low high)), λ k d low high. lt-ltb n _ (leb-false _ n (point.1 k d low high)))
