-- Keys in the order that is found: what the order tells, and the groups by them.
use Rattle.std.proofs.Common.{◌≡◌, ◌<◌, Bool, true, [], ◌∷◌, length, refl, arith}
use Rattle.gb_defs.specs.Classes.{agree_by, groups, rows_below}
use Rattle.gb_defs.specs.Column.{Ascending, ColumnValue, Descending, Frame, IsDetected, IsFlagTrue, NotSorted, SortedFlag, frame_height}
use Rattle.gb_base.specs.Pool.{threshold_of, workers_of}
use Rattle.gb_base.specs.declared.pool.Pool.{Pool}
use Rattle.gb_defs.specs.Notes.{AreDetected, detected, in_order, keys_path}
use Rattle.gb_paths.specs.Tuples.{all_path, slots_of, tuples_by}
use Rattle.gb_paths.proofs.SeveralLemmas.{classes_by}

-- a flag that is found is true
pub detected_true : (flag : SortedFlag) (column : ColumnValue) → IsDetected flag column → IsFlagTrue flag column.dtype column.slots
detected_true Ascending column found = found
detected_true Descending column found = found.0
detected_true NotSorted column found = tt

-- several keys are as they are
pub several_found : (keys : Frame) → 1 < length keys → AreDetected NotSorted keys
several_found [] many = tt
several_found (key ∷ []) many = absurd (omega (arith, many))
several_found (key ∷ other ∷ keys) many = tt

pub several_detected : (keys : Frame) → 1 < length keys → keys ≡ detected NotSorted keys
several_detected [] many = refl
several_detected (key ∷ []) many = absurd (omega (arith, many))
several_detected (key ∷ other ∷ keys) many = refl

pub several_path : (keys : Frame) (multithreaded : Bool) (pool : Pool) → 1 < length keys → all_path keys multithreaded pool ≡ keys_path (detected NotSorted keys) multithreaded (workers_of pool) (threshold_of pool)
several_path [] multithreaded pool many = refl
several_path (key ∷ []) multithreaded pool many = absurd (omega (arith, many))
several_path (key ∷ other ∷ keys) multithreaded pool many = refl

-- an order changes no class
pub detected_classes : (flag : SortedFlag) (keys : Frame) (multithreaded : Bool) (pool : Pool) → 0 < length keys → (tuples_by (detected flag keys) multithreaded true pool).pairs ≡ groups (agree_by (slots_of keys)) (rows_below (frame_height keys))
detected_classes flag [] multithreaded pool some = absurd (omega (arith, some))
detected_classes flag (key ∷ []) multithreaded pool some = classes_by (in_order flag key ∷ []) multithreaded pool some
detected_classes flag (key ∷ other ∷ keys) multithreaded pool some = classes_by (key ∷ other ∷ keys) multithreaded pool some
