-- The calls of an object in memory, and which of them fail.
use Rattle.std.specs.Prelude.{ℕ, ◌+◌, ◌-◌, ◌^◌, ◌==◌, min, List, Bool, if◌then◌else◌}
use Rattle.std.specs.List.{list_any}
use Rattle.tl_edge.specs.declared.calls.Calls.{Calls}

-- one more, up to the greatest u64
abbrev pub counted : ℕ → ℕ
counted n = min (n + 1) (2 ^ 64 - 1)

-- before the first call, where those with these numbers are to fail
abbrev pub no_call : List ℕ → Calls
no_call failing = record { failing = failing; made = 0; faults = 0 }

-- whether the next call fails: its number, from 1, is listed
abbrev pub fails_next : Calls → Bool
fails_next calls = list_any (λ number. number == counted calls.made) calls.failing

-- the calls when one more was made
abbrev pub after_call : Calls → Calls
after_call calls = record calls { made = counted calls.made; faults = if fails_next calls then counted calls.faults else calls.faults }
