-- The uses of type names in the code, which are lent from the tree, as the definition has them.
use Rattle.std.specs.Prelude.{map}
use Rattle.type_reader.specs.declared.uses.Used as code_used
use Rattle.type_reader.specs.declared.uses.Uses as code_uses
use Rattle.type_reader.specs.Types.{Used, Uses}

abbrev pub used_of : code_used.Used → Used
used_of u = record { parts = u.parts.now; name = u.name.now }

abbrev pub used_in : code_uses.Uses → Uses
used_in u = map used_of u.items.items
