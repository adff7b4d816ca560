-- The first word with which no spelling goes on, and its code.
use Rattle.std.specs.Prelude.{◌≡◌, [], ◌∷◌, ◌++◌, Option, Some, None}
use Rattle.tl_base.specs.declared.place.ModuleKind.{ModuleKind}
use Rattle.tl_base.specs.declared.place.ModuleKind.TheVariants as module_kind
use Rattle.tl_base.specs.declared.refusal.RefusalCode.{RefusalCode}
use Rattle.tl_base.specs.declared.refusal.RefusalCode.TheVariants as code
use Rattle.lua_tree.specs.declared.syntax.Block.{Block}
use Rattle.lua_lexer.specs.declared.token.Keyword.TheVariants as w
use Rattle.lua_lexer.specs.declared.token.Symbol.TheVariants as s
use Rattle.lua_parser.specs.Words.{Word, Words, WordKind, mark, key, sign}
use Rattle.lua_parser.specs.Grammar.Syntax.{SpellsChunk}

-- Some module of the kind begins with these words.
abbrev pub IsViable : ModuleKind → Words → Type 0
IsViable kind ts = (more : Words) × (b : Block) × SpellsChunk kind b (ts ++ more)

-- No module begins with these words and the first of the rest; where nothing is left, they spell none.
abbrev pub IsDead : ModuleKind → Words → Words → Type 0
IsDead kind ts [] = (b : Block) → SpellsChunk kind b ts → ⊥
IsDead kind ts (x ∷ rest) = IsViable kind (ts ++ x ∷ []) → ⊥

-- the codes of words that only other languages have
abbrev pub foreign : WordKind → Option RefusalCode
foreign (mark (sign s.Slash)) = Some code.P2
foreign (mark (sign s.Caret)) = Some code.P2
foreign (mark (key w.Goto)) = Some code.P3
foreign (mark (sign s.DoubleColon)) = Some code.P3
foreign kind = None

-- the code of the first word of the rest, behind a front: its own, or whether it would go on in a typed module
pub data HasCode (front : Words) : Words → RefusalCode → Type 0 where
  foreign_word : {rest : Words} {c : RefusalCode} (x : Word) → foreign x.kind ≡ Some c → HasCode front (x ∷ rest) c
  types : {rest : Words} (x : Word) → foreign x.kind ≡ None → IsViable module_kind.Typed (front ++ x ∷ []) → HasCode front (x ∷ rest) code.P5
  other : {rest : Words} (x : Word) → foreign x.kind ≡ None → (IsViable module_kind.Typed (front ++ x ∷ []) → ⊥) → HasCode front (x ∷ rest) code.P1

-- The first word with which no spelling goes on is the first of the rest.
abbrev pub FaultAt : ModuleKind → Words → Words → Type 0
FaultAt kind all rest = (front : Words) × (all ≡ front ++ rest) × IsViable kind front × IsDead kind front rest
