-- Rows by buckets of near groups.
use Rattle.std.specs.Prelude.{◌≡◌, ℕ, ◌/◌, ◌<◌, List, get_or, length, map}
use Rattle.gb_groups.specs.Numbers.{rows_of}
use Rattle.gb_groups.specs.declared.row_buckets.RowBucket.{RowBucket}

-- the bucket of a group
abbrev pub bucket_of : ℕ → ℕ
bucket_of number = number / 2048

-- the rows whose groups are of a bucket, and their numbers
pub record IsBucket (rows numbers : List ℕ) (b : ℕ) (bucket : RowBucket) : Type 0 where
  pub its_rows : bucket.rows.items ≡ rows_of rows (map bucket_of numbers) b
  pub its_numbers : bucket.numbers.items ≡ rows_of numbers (map bucket_of numbers) b

abbrev pub AreBuckets : List ℕ → List ℕ → List RowBucket → Type 0
AreBuckets rows numbers buckets = (b : ℕ) (d : RowBucket) → b < length buckets → IsBucket rows numbers b (get_or buckets b d)
