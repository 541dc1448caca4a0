-- What contracts see of the devices in memory.
use Rattle.std.specs.Prelude.{◌≡◌, ℕ, ◌-◌, ◌+◌, ◌==◌, nat_lt, min, Bool, ◌||◌, ◌&&◌, List, take, drop, length}
use Rattle.std.specs.List.{list_any}
use Rattle.gb_base.specs.declared.memory.SoundSource.{SoundSource}
use Rattle.gb_base.specs.declared.memory.MemSink.{MemSink}

-- the bytes that are left
abbrev pub bytes_left : SoundSource → List ℕ
bytes_left s = drop s.at s.bytes.items

-- the bytes that were taken
abbrev pub bytes_in : MemSink → List ℕ
bytes_in s = take s.filled s.buffer.items

-- how many more may be taken
abbrev pub room_in : MemSink → ℕ
room_in s = length s.buffer.items - s.filled

-- how many bytes a call takes at most
abbrev pub most_of : MemSink → ℕ
most_of s = s.most

-- the numbers of the calls that fail, from 1
abbrev pub failing_of : MemSink → List ℕ
failing_of s = s.failing.items

-- how many calls there were
abbrev pub calls_of : MemSink → ℕ
calls_of s = s.calls

-- how many calls failed
abbrev pub faults_of : MemSink → ℕ
faults_of s = s.faults

-- a count raised by one, which stays at the last value of its counter
abbrev pub raised : ℕ → ℕ
raised count = min (count + 1) 18446744073709551615

-- the number of the next call
abbrev pub next_call : MemSink → ℕ
next_call s = raised s.calls

-- whether a write of the piece fails: the call is listed, or a piece finds no room
abbrev pub fails_at : MemSink → List ℕ → Bool
fails_at s piece = list_any (λ call. call == next_call s) (failing_of s) || ((room_in s == 0) && nat_lt 0 (length piece))

-- how many bytes of the piece a write takes that does not fail
abbrev pub taken_by : MemSink → List ℕ → ℕ
taken_by s piece = min (length piece) (min (most_of s) (room_in s))

-- one call more of the same sink
pub record IsNextCall (old new : MemSink) : Type 0 where
  pub calls : calls_of new ≡ next_call old
  pub most : most_of new ≡ most_of old
  pub failing : failing_of new ≡ failing_of old

-- the room is less by so many bytes, and no fault is counted
pub record HasTaken (count : ℕ) (old new : MemSink) : Type 0 where
  pub room : room_in new + count ≡ room_in old
  pub faults : faults_of new ≡ faults_of old

-- the room is what it was, and one fault more is counted
pub record HasFailed (old new : MemSink) : Type 0 where
  pub room : room_in new ≡ room_in old
  pub faults : faults_of new ≡ raised (faults_of old)
