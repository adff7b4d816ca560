-- What words ask for, with these files and this input.
use Rattle.std.specs.Prelude.{◌≡◌, ℕ, List, [], ◌∷◌, ◌++◌, Option, Some, None, Ok, Err}
use Rattle.tl_base.specs.declared.place.ModuleKind.{ModuleKind}
use Rattle.tl_base.specs.declared.crossing.Crossing.{Crossing}
use Rattle.tl_edge.specs.declared.outside.FileBytes.{FileBytes}
use Rattle.tl_edge.specs.Files.{bytes_of}
use Rattle.lua_tree.specs.declared.syntax.Chunk.{Chunk}
use Rattle.lua_tree.specs.declared.scoped.Scoped.{Scoped}
use Rattle.lua_tree.specs.Scopes.Resolved.{resolution}
use Rattle.lua_tree.specs.Tree.{Block}
use Rattle.lua_lexer.specs.declared.token.Token.{Token}
use Rattle.lua_lexer.specs.Tokens.{Lexed, Refused}
use Rattle.lua_parser.specs.Words.{words_of}
use Rattle.lua_parser.specs.Parsing.{IsModule, IsRefused}
use Rattle.tl_rules.specs.Crossings.{block_marks, IsCrossingList}
use Rattle.lua_meaning.specs.Programs as program
use Rattle.lua_meaning.specs.Programs.{Module, finished, failed, spent, meaning}
use Rattle.tlua_top.specs.declared.status.Status.{Status}
use Rattle.tlua_top.specs.declared.status.Status.TheVariants as status
use Rattle.tlua_top.specs.Words.{Text, file_to_run}
use Rattle.tlua_top.specs.Outcome.{Ending, only_reports}
use Rattle.tlua_top.specs.Lines.{usage_line, crossing_lines, kind_lines, last_line}
use Rattle.tlua_top.specs.Phases.{phase, IsMisnamed, HasKind, IsUnread, IsRead, IsNotBuilt, IsBuilt, IsFaulty, IsMarked}

-- ---- the run

-- the number of turns that a run may take
abbrev pub budget : ℕ
budget = 10000000

abbrev pub status_of : program.Ending → Status
status_of finished = status.Done
status_of (failed v) = status.LuaError
status_of spent = status.TurnsSpent

-- a run: the crossings before it, the kind line and the last line behind it
abbrev pub ran : Text → List Crossing → program.Result → Ending
ran file list r = record { status = status_of r.ending; output = r.output; ahead = crossing_lines file list; after = kind_lines file r.error ++ last_line r.ending r.turns }

-- a module with its marks
abbrev pub marked_module : Scoped → Block → Module
marked_module s marked = record { kind = s.chunk.kind; names = record { uses = s.uses; required = s.required }; body = marked }

-- the meaning of a program of this one module, run from the file of this word
abbrev pub run_of : Text → Text → Module → program.Result
run_of file input m = meaning (m ∷ []) (file ∷ []) input budget

-- the program runs, and its crossings are listed before
abbrev pub OfRun : Text → Text → Module → Ending → Type 0
OfRun file input m ending = (list : List Crossing) × IsCrossingList (block_marks m.body) list × (ending ≡ ran file list (run_of file input m))

-- ---- the phases of a file, in their order

abbrev pub OfScoped : Text → Text → Scoped → Ending → Type 0
OfScoped file input s =
    phase file (IsNotBuilt s) (IsBuilt s) λ _.
    phase file (IsFaulty s) (IsMarked s) λ marked.
    OfRun file input (marked_module s marked)

abbrev pub OfTree : Text → Text → Chunk → Ending → Type 0
OfTree file input tree = phase file (λ r. resolution tree ≡ Err r) (λ s. resolution tree ≡ Ok s) (OfScoped file input)

abbrev pub OfTokens : Text → Text → ModuleKind → Text → List Token → Ending → Type 0
OfTokens file input kind source tokens = phase file (IsRefused kind (words_of source tokens)) (IsModule 0 kind (words_of source tokens)) (OfTree file input)

abbrev pub OfSource : Text → Text → ModuleKind → Text → Ending → Type 0
OfSource file input kind source = phase file (Refused 0 source) (Lexed 0 source) (OfTokens file input kind source)

abbrev pub OfBytes : Text → Text → Option Text → ModuleKind → Ending → Type 0
OfBytes file input found kind = phase file (IsUnread found) (IsRead found) (OfSource file input kind)

abbrev pub OfFile : Text → List FileBytes → Text → Ending → Type 0
OfFile file files input = phase file (IsMisnamed file) (HasKind file) (OfBytes file input (bytes_of files file))

-- ---- the call

abbrev pub OfWords : Option Text → List FileBytes → Text → Ending → Type 0
OfWords None files input ending = ending ≡ only_reports status.Usage usage_line
OfWords (Some file) files input ending = OfFile file files input ending

-- what these words ask for, with these files and this input
abbrev pub Defined : List Text → List FileBytes → Text → Ending → Type 0
Defined words files input ending = OfWords (file_to_run words) files input ending
