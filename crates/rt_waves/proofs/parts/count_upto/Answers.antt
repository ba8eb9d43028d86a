use Rattle.rt_waves.proofs.Common.{arith}
use Rattle.std.proofs.Common.{leb, leb-true, leb-false, rules}
use Rattle.std.proofs.lemmas.List.Sorted.{IsPartitionPoint-from_clause, IsPartitionedBy-leb}
use Rattle.rt_waves.proofs.parts.count_upto.Goals as goal

pub returns-clause-upto : goal.returns-clause-upto
returns-clause-upto c =
    let parted = IsPartitionedBy-leb (λ p. p) _ c.args.address c.requires in
    let point = IsPartitionPoint-from_clause (λ p. leb p c.args.address) _ _ c.partition_point.ensures.partitioned parted (λ a r q k. search rules) in
    λ k below. leb-true _ _ (point.0 k 0 (omega arith) below)

pub returns-clause-above : goal.returns-clause-above
returns-clause-above c =
    let parted = IsPartitionedBy-leb (λ p. p) _ c.args.address c.requires in
    let point = IsPartitionPoint-from_clause (λ p. leb p c.args.address) _ _ c.partition_point.ensures.partitioned parted (λ a r q k. search rules) in
    λ k from below. leb-false _ _ (point.1 k 0 from below)
