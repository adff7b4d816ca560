-- What a piece that is handed to a sink leaves there.
use Rattle.std.specs.Prelude.{◌≡◌, ◌⊎◌, ℕ, List, Option, Result, MatchResult}
use Rattle.std.specs.Io.KnownBytes.{Appends}
use Rattle.tl_edge.specs.declared.outside.SinkError.{SinkError}
use Rattle.tl_edge.specs.declared.outside.SinkError.TheVariants as sink
use Rattle.tlua_top.specs.declared.status.Status.{Status}
use Rattle.tlua_top.specs.declared.status.Status.TheVariants as ends
use Rattle.tlua_top.specs.Outcome.{Stopped, IsFront}

-- the status of a call that stops since a sink didn't take its bytes
abbrev pub stop_of : SinkError → Status
stop_of sink.Failed = ends.WriteFault
stop_of sink.NoMemory = ends.NoMemory

-- at Ok all of the piece was appended, at an error what it begins with
abbrev pub WritesAll : {E : Type 0} → Option (List ℕ) → Option (List ℕ) → Result (Unit {0}) E → List ℕ → Type 0
WritesAll old new result piece =
    MatchResult result (λ _. Appends old new piece) (λ _. (front : List ℕ) × IsFront front piece × Appends old new front)

-- Lines are reported, and the status is theirs; or a front of them is, and the call stops.
pub record Reports (old new : Option (List ℕ)) (lines : List ℕ) (status result : Status) : Type 0 where
  pub front : List ℕ
  pub wrote : Appends old new front
  pub is_front : IsFront front lines
  pub ends : Stopped result ⊎ ((result ≡ status) × (front ≡ lines))
