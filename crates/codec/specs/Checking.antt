-- What a call on an end is refused for. Assumes nothing.
use Rattle.std.specs.Prelude.{◌≡◌, [], Some, Ok, Err, Result}
use Rattle.codec.specs.Calls.{Call, faults, first_of}
use Rattle.codec.specs.declared.faults.EndFault.{EndFault}
use Rattle.codec.specs.declared.lock.Lock.{Lock}

-- a call has no fault, or this one first
abbrev pub Checked : {X : Type 0} → Lock → Call → Result X EndFault → Type 0
Checked lock asked (Ok x) = faults lock asked ≡ []
Checked lock asked (Err fault) = first_of (faults lock asked) ≡ Some fault
