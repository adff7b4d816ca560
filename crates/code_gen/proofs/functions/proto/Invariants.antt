use Rattle.std.proofs.Common.{◌≡◌, map}
use Rattle.code_gen.proofs.functions.proto.Given as goal

abbrev pub invariant-loop-instr : goal.invariant-loop-instr
invariant-loop-instr l = (l.code ≡ map (λ c. c.0) l.yielded) × (l.places ≡ map (λ c. c.1) l.yielded)
