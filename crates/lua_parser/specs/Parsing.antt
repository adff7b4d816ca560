-- What the reading of a module's tokens answers.
use Rattle.std.specs.Prelude.{◌≡◌, ℕ, ◌⊎◌, Bool, ◌∷◌, ◌++◌, [], if◌then◌else◌, Option, None, Result, Ok, Err}
use Rattle.tl_base.specs.declared.place.ModuleKind.{ModuleKind}
use Rattle.tl_base.specs.declared.refusal.Refusal.{Refusal}
use Rattle.tl_base.specs.declared.refusal.RefusalCode.{RefusalCode}
use Rattle.tl_base.specs.declared.refusal.RefusalCode.TheVariants as code
use Rattle.tl_base.specs.declared.refusal.Failure.{Failure}
use Rattle.tl_base.specs.declared.refusal.Failure.TheVariants as failure
use Rattle.lua_tree.specs.declared.syntax.Block.{Block}
use Rattle.lua_tree.specs.declared.syntax.Chunk.{Chunk}
use Rattle.lua_parser.specs.Words.{Word, Words}
use Rattle.lua_parser.specs.Grammar.Syntax.{SpellsChunk}
use Rattle.lua_parser.specs.Grammar.Fault.{IsViable, IsDead, HasCode, foreign}
use Rattle.lua_parser.specs.Grammar.TooDeep.{TooDeepAt, limits}

-- No word that can be read is too deep.
abbrev pub IsShallow : ModuleKind → Words → Type 0
IsShallow kind ts = (rest : Words) → TooDeepAt limits kind ts rest → ⊥

-- a module of this number and kind whose tree the words spell, none of which is too deep
abbrev pub IsModule : ℕ → ModuleKind → Words → Chunk → Type 0
IsModule m kind ts c = (c.«module» ≡ m) × (c.kind ≡ kind) × SpellsChunk kind c.body ts × IsShallow kind ts

-- The first word with which no spelling goes on, its code and its place, where no word before it is too deep.
pub record IsFault (kind : ModuleKind) (ts : Words) (r : Refusal) : Type 0 where
  pub front : Words
  pub word : Word
  pub rest : Words
  pub whole : ts ≡ front ++ word ∷ rest
  pub begins : IsViable kind front
  pub stops : IsDead kind front (word ∷ rest)
  pub code : HasCode front (word ∷ rest) r.code
  pub pos : r.pos ≡ word.pos
  pub shallow : IsShallow kind ts

-- The first word that is too deep, and its place.
pub record IsTooDeep (kind : ModuleKind) (ts : Words) (r : Refusal) : Type 0 where
  pub word : Word
  pub rest : Words
  pub deep : TooDeepAt limits kind ts (word ∷ rest)
  pub code : r.code ≡ code.P4
  pub pos : r.pos ≡ word.pos

-- a word that is too deep or, where none is, one with which no spelling goes on
abbrev pub IsRefused : ModuleKind → Words → Refusal → Type 0
IsRefused kind ts r = IsTooDeep kind ts r ⊎ IsFault kind ts r

-- Words are refused, or memory is wanted.
abbrev pub IsFailure : ModuleKind → Words → Failure → Type 0
IsFailure kind ts (failure.Refused r) = IsRefused kind ts r
IsFailure kind ts failure.NoMemory = Unit {0}

-- The answer is this tree, or memory is wanted.
abbrev pub IsTree : Block → Result Chunk Failure → Type 0
IsTree b (Ok c) = c.body ≡ b
IsTree b (Err (failure.Refused r)) = ⊥
IsTree b (Err failure.NoMemory) = Unit {0}

-- The answer is this refusal, or memory is wanted.
abbrev pub IsRefusal : Refusal → Result Chunk Failure → Type 0
IsRefusal r (Ok c) = ⊥
IsRefusal r (Err (failure.Refused q)) = q ≡ r
IsRefusal r (Err failure.NoMemory) = Unit {0}

-- the code that the first word has by itself
abbrev pub head_foreign : Words → Option RefusalCode
head_foreign [] = None
head_foreign (x ∷ ts) = foreign x.kind

-- the code of a word that would go on in a typed module, or wouldn't
abbrev pub code_if : Bool → RefusalCode
code_if goes = if goes then code.P5 else code.P1
