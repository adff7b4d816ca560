-- The run of a machine whose output is written as it comes.
use Rattle.std.specs.Prelude.{◌≡◌, ℕ, ◌-◌, [], ◌++◌, Option, Result, Ok, Err}
use Rattle.std.specs.Io.KnownBytes.{Appends}
use Rattle.lua_meaning.specs.World.{World}
use Rattle.lua_meaning.specs.Programs as program
use Rattle.lua_meaning.specs.Programs.{finished, failed, spent, ended, module_of}
use Rattle.lua_code.specs.Configurations.{stop}
use Rattle.lua_machine.specs.Machines.{Sight}
use Rattle.lua_machine.specs.Outside.{with_outside}
use Rattle.lua_machine.specs.Runs.{after}
use Rattle.tlua_top.specs.declared.accept.Program.{Program}
use Rattle.tlua_top.specs.declared.serve.Over.{Over}
use Rattle.tlua_top.specs.declared.serve.Over.TheVariants as over
use Rattle.tlua_top.specs.declared.start.Started.{Started}
use Rattle.tlua_top.specs.declared.status.Status.{Status}
use Rattle.tlua_top.specs.declared.status.Status.TheVariants as status
use Rattle.tlua_top.specs.Words.{Text}
use Rattle.tlua_top.specs.Outcome.{IsFront}
use Rattle.tlua_top.specs.Lines.{crossing_lines, kind_lines, last_line}
use Rattle.tlua_top.specs.Defined.{budget, run_of}

-- From where a machine is, with these bytes written before and this input left, its run comes to this result.
pub record ComesTo (written input : Text) (m : Sight) (whole : program.Result) : Type 0 where
  pub steps : ℕ
  pub ending : program.Ending
  pub world : World
  pub comes : after m.code.functions steps (with_outside written input m.next) ≡ stop ending world
  pub is : whole ≡ ended budget ending world

abbrev pub over_of : Over → program.Ending
over_of over.Done = finished
over_of (over.Raised v) = failed v
over_of over.Spent = spent

-- A run's result is what was written, this ending, and what the machine tells of its turns and errors.
pub record IsOver (whole : program.Result) (out : Text) (o : Over) (m : Sight) : Type 0 where
  pub output : whole.output ≡ out
  pub ending : whole.ending ≡ over_of o
  pub turns : whole.turns ≡ budget - m.turns
  pub error : whole.error ≡ m.error

-- At its end a run has written all of its output; stopped on the way, what its output begins with.
abbrev pub Serves : program.Result → Option Text → Option Text → Sight → Result Over Status → Type 0
Serves whole old new m (Ok o) = (out : Text) × Appends old new out × IsOver whole out o m
Serves whole old new m (Err result) = (front : Text) × IsFront front whole.output × Appends old new front

-- a stop that isn't the input's or the files'
abbrev pub StopsWriting : Status → Type 0
StopsWriting status.WriteFault = Unit {0}
StopsWriting status.NoMemory = Unit {0}
StopsWriting s = ⊥

-- a program that is about to run: the lines before its run, and a machine whose run is the program's
pub record IsStarted (p : Program) (s : Started) : Type 0 where
  pub file : s.file ≡ p.file
  pub ahead : s.ahead ≡ crossing_lines p.file p.crossings
  pub runs : (input : Text) → ComesTo [] input s.machine (run_of p.file input (module_of p.scoped))

-- the lines behind a run
abbrev pub lines_after : Text → Over → Sight → Text
lines_after file o m = kind_lines file m.error ++ last_line (over_of o) (budget - m.turns)

-- the status of a call whose program was run
abbrev pub IsOfRun : Status → Type 0
IsOfRun status.Done = Unit {0}
IsOfRun status.LuaError = Unit {0}
IsOfRun status.TurnsSpent = Unit {0}
IsOfRun status.WriteFault = Unit {0}
IsOfRun status.NoMemory = Unit {0}
IsOfRun status.Usage = ⊥
IsOfRun status.Refused = ⊥
IsOfRun status.ReadFault = ⊥
