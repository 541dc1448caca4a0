use Rattle.std.proofs.Common.{refl}
use Rattle.std.specs.Int.{int_wrap}
use Rattle.gb_defs.specs.Hash.{null_hash, partition_of}
use Rattle.gb_defs.specs.Classes.{class, firsts, groups, is_first}
use Rattle.gb_defs.specs.Partitions.{by_partition, partition_groups}
use Rattle.gb_defs.proofs.hashes.partitions.Goals as goal

pub returns-clause-by_partition : goal.returns-clause-by_partition
unfolding partition_groups by_partition partition_of firsts is_first class null_hash int_wrap
returns-clause-by_partition c = refl

pub returns-clause-by_first_row : goal.returns-clause-by_first_row
unfolding groups firsts is_first class
returns-clause-by_first_row c = refl
