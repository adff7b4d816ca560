use Rattle.std.proofs.Common.{◌≡◌, ◌-◌}
use Rattle.lua_code.specs.Generated.{set_slots}
use Rattle.code_gen.specs.Work.{put_all}
use Rattle.code_gen.proofs.writer.Writer.set_slots.Given as goal

abbrev pub invariant-loop-i : goal.invariant-loop-i
invariant-loop-i l = put_all (set_slots l.first (l.count - l.i) l.pos) l.self ≡ put_all (set_slots l.first l.count l.pos) l.initial.self
