use Rattle.std.proofs.Common.{◌≡◌, ◌+◌, ◌-◌}
use Rattle.lua_code.specs.Generated.{new_cells}
use Rattle.code_gen.specs.Work.{put_all}
use Rattle.code_gen.proofs.writer.Writer.new_cells.Given as goal

abbrev pub invariant-loop-i : goal.invariant-loop-i
invariant-loop-i l = put_all (new_cells (l.first + l.i) (l.count - l.i) l.pos) l.self ≡ put_all (new_cells l.first l.count l.pos) l.initial.self
