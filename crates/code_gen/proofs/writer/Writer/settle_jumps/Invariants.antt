use Rattle.std.proofs.Common.{◌≡◌, drop}
use Rattle.lua_code.specs.declared.code.Instr.TheVariants as instr
use Rattle.code_gen.specs.Work.{all_patched}
use Rattle.code_gen.proofs.writer.Writer.settle_jumps.Given as goal

abbrev pub invariant-loop-place : goal.invariant-loop-place
invariant-loop-place l = all_patched (drop l.place-index l.places) (instr.Jump l.end) l.pos l.self ≡ all_patched l.places (instr.Jump l.end) l.pos l.initial.self
