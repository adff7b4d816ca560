use Rattle.std.proofs.Common.{◌≡◌, map}
use Rattle.code_gen.proofs.scope.Scope.inner_captured.Given as goal

abbrev pub invariant-loop-local : goal.invariant-loop-local
invariant-loop-local l = l.locals.items ≡ map (λ o. o.now.0) l.yielded
