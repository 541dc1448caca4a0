use Rattle.std.specs.Prelude.{ℕ, ◌≤◌}

-- the values that a pool may have
pub record FitsPool (workers partitions row_threshold piece_rows : ℕ) : Type 0 where
  pub some_workers : 1 ≤ workers
  pub few_workers : workers ≤ 64
  pub some_partitions : 1 ≤ partitions
  pub few_partitions : partitions ≤ 1024
  pub threshold : 1 ≤ row_threshold
  pub piece : 1 ≤ piece_rows
