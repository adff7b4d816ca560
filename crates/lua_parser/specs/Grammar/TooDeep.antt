-- The first word that is too deep.
use Rattle.std.specs.Prelude.{◌≡◌, ℕ, ◌<◌, ◌⊎◌, length, get_or, ◌++◌}
use Rattle.tl_base.specs.declared.place.ModuleKind.{ModuleKind}
use Rattle.lua_tree.specs.declared.syntax.Block.{Block}
use Rattle.lua_parser.specs.Words.{Words}
use Rattle.lua_parser.specs.Grammar.Syntax.{SpellsChunk}
use Rattle.lua_parser.specs.Grammar.Fault.{IsViable, IsDead}
use Rattle.lua_parser.specs.Grammar.Depth.{Label, labels}

-- how many constructs a word may be inside of, and how high an expression or type may be
pub record Limits : Type 0 where
  pub nesting : ℕ
  pub height : ℕ

-- those of every module
abbrev pub limits : Limits
limits = record { nesting = 200; height = 1000 }

abbrev pub IsOver : Limits → Label → Type 0
IsOver m l = (m.nesting < l.inside) ⊎ (m.height < l.ends)

-- the label of a word that nothing stands round and that ends nothing
abbrev pub plain : Label
plain = record { inside = 0; ends = 0 }

-- The second are the words before the first with which no spelling goes on, or all words where they spell a module.
pub data Readable (kind : ModuleKind) (all : Words) : Words → Type 0 where
  whole : {b : Block} → SpellsChunk kind b all → Readable kind all all
  before_fault : {front : Words} (rest : Words) → all ≡ front ++ rest → IsViable kind front → IsDead kind front rest → Readable kind all front

-- In some module that begins with these words, the one of this number among them is over the limits.
abbrev pub IsOverIn : Limits → ModuleKind → Words → ℕ → Type 0
IsOverIn m kind ts n = (n < length ts) × (more : Words) × (b : Block) × (d : SpellsChunk kind b (ts ++ more)) × IsOver m (get_or (labels d) n plain)

-- The first word that is over the limits, of those that can be read, is the first of the rest.
abbrev pub TooDeepAt : Limits → ModuleKind → Words → Words → Type 0
TooDeepAt m kind all rest = (read front : Words) × Readable kind all read × (all ≡ front ++ rest) × IsOverIn m kind read (length front) × ((n : ℕ) → n < length front → IsOverIn m kind read n → ⊥)
