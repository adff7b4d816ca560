use Rattle.std.proofs.Common.{◌≡◌, take, map}
use Rattle.type_reader.specs.Declarations.{first_type}
use Rattle.type_reader.specs.Lent.{declared_in}
use Rattle.type_reader.proofs.typing.first_types.Given as goal

abbrev pub invariant-loop-declaration : goal.invariant-loop-declaration
invariant-loop-declaration l = l.types.items ≡ map (λ d. first_type d.form) (declared_in (take l.declaration-index l.declared))
