use Rattle.std.proofs.Common.{◌≡◌, ◌-◌, take, length}
use Rattle.lua_tree.specs.View.{targets_of}
use Rattle.lua_code.specs.Generated.{stores}
use Rattle.code_gen.specs.Work.{put_all}
use Rattle.code_gen.proofs.writer.Writer.stores.Given as goal

abbrev pub invariant-loop-i : goal.invariant-loop-i
invariant-loop-i l =
    (put_all (stores (targets_of (take (length l.targets - l.i) l.targets)) l.pos l.initial.self.scope) l.self ≡ put_all (stores (targets_of l.targets) l.pos l.initial.self.scope) l.initial.self)
    × (l.self.scope ≡ l.initial.self.scope)
