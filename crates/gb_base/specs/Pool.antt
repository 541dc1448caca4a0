-- What contracts see of a pool.
use Rattle.std.specs.Prelude.{ℕ}
use Rattle.gb_base.specs.declared.pool.Pool.{Pool}

abbrev pub workers_of : Pool → ℕ
workers_of pool = pool.workers

abbrev pub partitions_of : Pool → ℕ
partitions_of pool = pool.partitions

abbrev pub threshold_of : Pool → ℕ
threshold_of pool = pool.row_threshold

abbrev pub piece_of : Pool → ℕ
piece_of pool = pool.piece_rows

abbrev pub seed_of : Pool → ℕ
seed_of pool = pool.seed
