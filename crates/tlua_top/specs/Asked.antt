-- What the code knows of a call before it writes, and of a program before it runs.
use Rattle.std.specs.Prelude.{◌≡◌, Result, Ok, Err}
use Rattle.tl_base.specs.declared.refusal.Failure.{Failure}
use Rattle.tl_base.specs.declared.refusal.Failure.TheVariants as failure
use Rattle.lua_tree.specs.declared.scoped.Scoped.{Scoped}
use Rattle.lua_tree.specs.View.{block_of}
use Rattle.tl_rules.specs.Crossings.{block_marks, IsCrossingList}
use Rattle.lua_meaning.specs.Programs.{module_of}
use Rattle.tlua_top.specs.declared.accept.Program.{Program}
use Rattle.tlua_top.specs.declared.asked.Asked.{Asked}
use Rattle.tlua_top.specs.declared.asked.Asked.TheVariants as asked
use Rattle.tlua_top.specs.declared.status.Status.TheVariants as status
use Rattle.tlua_top.specs.Words.{Text}
use Rattle.tlua_top.specs.Outcome.{Ending, Stopped, only_reports}
use Rattle.tlua_top.specs.Phases.{refused}
use Rattle.tlua_top.specs.Defined.{ran, run_of}

-- how a program ends that is run with this input
abbrev pub run_ending : Text → Program → Ending
run_ending input p = ran p.file p.crossings (run_of p.file input (module_of p.scoped))

-- The answer of the phases so far: a program whose run is the defined ending, or the defined refusal, or want of memory.
abbrev pub Accepts : (Ending → Type 0) → Text → Text → Result Program Failure → Type 0
Accepts defined file input (Ok p) = defined (run_ending input p)
Accepts defined file input (Err (failure.Refused r)) = defined (refused file r)
Accepts defined file input (Err failure.NoMemory) = Unit {0}

-- how a call ends whose words ask for this
abbrev pub ending_of : Text → Asked → Ending
ending_of input (asked.Report status line) = only_reports status line
ending_of input (asked.Run p) = run_ending input p

-- a report that is made without a run tells no stop
abbrev pub IsSettled : Asked → Type 0
IsSettled (asked.Report all line) = Stopped all → ⊥
IsSettled (asked.Run p) = Unit {0}

abbrev pub IsUsage : Asked → Type 0
IsUsage (asked.Report all line) = all ≡ status.Usage
IsUsage (asked.Run p) = ⊥

-- a file is asked for, which is refused or run
abbrev pub IsOfFile : Asked → Type 0
IsOfFile (asked.Report all line) = all ≡ status.Refused
IsOfFile (asked.Run p) = Unit {0}

-- a program is this module, run from the file of this word, with the list of its crossings
pub record IsListed (file : Text) (s : Scoped) (p : Program) : Type 0 where
  pub file_is : p.file ≡ file
  pub scoped_is : p.scoped ≡ s
  pub listed : IsCrossingList (block_marks (block_of s.chunk.body)) p.crossings
