-- The instruction that a machine finds.
use Rattle.std.specs.Prelude.{Option, Some, None}
use Rattle.std.specs.Option.{option_map}
use Rattle.tl_base.specs.declared.place.Pos.{Pos}
use Rattle.lua_code.specs.declared.code.Instr.{Instr}
use Rattle.std.specs.Borrow.{Bor}

abbrev pub seen_of : Option (Bor Instr × Pos) → Option (Instr × Pos)
seen_of None = None
seen_of (Some i) = Some (i.0.now, i.1)
