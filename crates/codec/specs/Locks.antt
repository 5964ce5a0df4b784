-- How a frame's outcome moves the lock. Assumes nothing.
use Rattle.std.specs.Prelude.{◌+◌, cond, nat_lt}
use Rattle.codec.specs.declared.lock.Lock.{Lock}
use Rattle.codec.specs.declared.lock.Lock.TheVariants.{Locked, Lost}
use Rattle.codec.specs.declared.lock.FrameOutcome.{FrameOutcome}
use Rattle.codec.specs.declared.lock.FrameOutcome.TheVariants.{Accepted, BeyondRepair}

-- acceptance sets the run of bad frames back to none; with forty in a row the lock is gone, and stays so
abbrev pub next_lock : Lock → FrameOutcome → Lock
next_lock (Locked bad) Accepted = Locked 0
next_lock (Locked bad) BeyondRepair = cond (nat_lt (bad + 1) 40) (Locked (bad + 1)) Lost
next_lock Lost Accepted = Lost
next_lock Lost BeyondRepair = Lost

abbrev pub new_lock : Lock
new_lock = Locked 0
