use Rattle.rt_names.proofs.Common.{nat_le, arith, Symbol}
use Rattle.std.proofs.Common.{leb-true, rules}
use Rattle.std.proofs.lemmas.Bool.Decides.{nat_tests}
use Rattle.std.proofs.lemmas.List.Sorted.{IsPartitionPoint-from_clause, IsPartitionedBy-leb}
use Rattle.rt_names.proofs.places.count_to.Goals as goal

pub returns-clause-split : goal.returns-clause-split
returns-clause-split c =
    let parted = IsPartitionedBy-leb (λ (s : Symbol). s.address) c.args.rising.now c.args.address c.requires in
    let point = IsPartitionPoint-from_clause (λ (s : Symbol). nat_le s.address c.args.address) _ _ c.partition_point.ensures.partitioned parted (λ a r q k. search rules) in
    record {
      below = λ k d less. leb-true _ _ (point.0 k d (omega arith) less);
      above = λ k d more less. let it = point.1 k d more less in grind (arith, nat_tests, it);
    }
