-- The code of an operation around that of its operands: what stands between them, and what stands behind both.
use Rattle.std.specs.Prelude.{ℕ, [], length}
use Rattle.tl_base.specs.declared.place.Pos.{Pos}
use Rattle.lua_tree.specs.declared.syntax.BinaryOperator.{BinaryOperator}
use Rattle.lua_tree.specs.declared.syntax.BinaryOperator.TheVariants as binary
use Rattle.lua_code.specs.declared.code.Instr.TheVariants as instr
use Rattle.lua_code.specs.Generated.{Placed, one}
use Rattle.std.specs.Prelude.{◌∷◌}
use Rattle.code_gen.specs.Work.{Work, patched}

-- between them, with a free slot and the place behind the operation
abbrev pub between : BinaryOperator → Pos → ℕ → ℕ → Placed
between binary.Or p slot end = one (instr.KeepIf end) p
between binary.And p slot end = one (instr.KeepIfNot end) p
between binary.Greater p slot end = one (instr.SetSlot slot) p
between binary.GreaterEqual p slot end = one (instr.SetSlot slot) p
between o p slot end = []

-- once both operands are written, what stands between them, at a place, leads to where the writing stands
abbrev pub settled : BinaryOperator → Pos → ℕ → Work → Work
settled binary.Or p at w = patched at (instr.KeepIf (length w.code)) p w
settled binary.And p at w = patched at (instr.KeepIfNot (length w.code)) p w
settled o p at w = w

-- behind both
abbrev pub behind : BinaryOperator → Pos → ℕ → Placed
behind binary.Or p slot = []
behind binary.And p slot = []
behind binary.Less p slot = one instr.Lt p
behind binary.Greater p slot = (instr.GetSlot slot, p) ∷ one instr.Lt p
behind binary.LessEqual p slot = one instr.Le p
behind binary.GreaterEqual p slot = (instr.GetSlot slot, p) ∷ one instr.Le p
behind binary.NotEqual p slot = (instr.Eq, p) ∷ one instr.Not p
behind binary.Equal p slot = one instr.Eq p
behind binary.BitOr p slot = one instr.BOr p
behind binary.BitXor p slot = one instr.BXor p
behind binary.BitAnd p slot = one instr.BAnd p
behind binary.ShiftLeft p slot = one instr.Shl p
behind binary.ShiftRight p slot = one instr.Shr p
behind binary.Concat p slot = one instr.Concat p
behind binary.Add p slot = one instr.Add p
behind binary.Subtract p slot = one instr.Sub p
behind binary.Multiply p slot = one instr.Mul p
behind binary.Divide p slot = one instr.IDiv p
behind binary.Modulo p slot = one instr.Mod p
