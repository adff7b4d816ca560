use Rattle.std.proofs.Common.{◌≡◌, drop, take}
use Rattle.type_reader.specs.Declarations.{own_names, repeated_after, repeated_name}
use Rattle.type_reader.specs.Lent.{declared_in}
use Rattle.type_reader.proofs.declarations.own_names.Given as goal

abbrev pub invariant-loop-declaration : goal.invariant-loop-declaration
invariant-loop-declaration l = record {
  names : l.own ≡ own_names (declared_in (take l.declaration-index l.declared));
  fault : repeated_after l.own (declared_in (drop l.declaration-index l.declared)) ≡ repeated_name (declared_in l.declared);
}
