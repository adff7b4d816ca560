use Rattle.std.proofs.Common.{◌≤◌, []}
use Rattle.std.specs.Io.KnownBytes.{Appends}
use Rattle.lua_meaning.specs.Programs.{Result as Whole}
use Rattle.tlua_top.specs.Words.{Text}
use Rattle.tlua_top.specs.Serving.{ComesTo}
use Rattle.tlua_top.proofs.serve.serve.Given as goal

-- what was written is what the run has written so far, and the rest of the run is the machine's
abbrev pub invariant-events : goal.invariant-events
invariant-events g l = record {
  bytes : (input : Text) (whole : Whole) → ComesTo [] input l.fn.machine whole → (out : Text) × Appends (g.O.Sink.written l.fn.output) (g.O.Sink.written l.output) out × ComesTo out input l.machine whole;
  later : g.O.Sink.faults l.fn.output ≤ g.O.Sink.faults l.output;
}
