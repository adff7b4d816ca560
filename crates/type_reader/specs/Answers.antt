-- What the answers of checks say.
use Rattle.std.specs.Prelude.{◌≡◌, Some, None, Result, Ok, Err}
use Rattle.tl_base.specs.declared.refusal.Failure.{Failure}
use Rattle.tl_base.specs.declared.refusal.Failure.TheVariants as failure
use Rattle.type_reader.specs.Faults.{Fault}

-- there is no fault, or the refusal is the fault, or memory ran out
abbrev pub Answers : {A : Type 0} → Fault → Result A Failure → Type 0
Answers f (Ok x) = f ≡ None
Answers f (Err (failure.Refused r)) = f ≡ Some r
Answers f (Err failure.NoMemory) = Unit {0}
