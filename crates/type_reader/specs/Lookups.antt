-- What the code finds of a type name, and the names that it knows.
use Rattle.std.specs.Prelude.{Bool, true, false, Option, Some, None}
use Rattle.tl_types.specs.declared.types.Ty.{Ty}
use Rattle.tl_types.specs.declared.types.Ty.TheVariants as ty
use Rattle.tl_types.specs.Unions.{boolean}
use Rattle.type_reader.specs.declared.lookups.BuiltIn.{BuiltIn}
use Rattle.type_reader.specs.declared.lookups.BuiltIn.TheVariants as b
use Rattle.type_reader.specs.declared.lookups.Found.{Found}
use Rattle.type_reader.specs.declared.lookups.Found.TheVariants as f
use Rattle.type_reader.specs.declared.lookups.Lookups.{Lookups}
use Rattle.type_reader.specs.Names.{Names, names_of}

abbrev pub built_in_type : BuiltIn → Ty
built_in_type b.Boolean = boolean
built_in_type b.Integer = ty.Int
built_in_type b.String = ty.Str
built_in_type b.Value = ty.Value
built_in_type b.Any = ty.Any

abbrev pub is_found : Found → Bool
is_found f.Unknown = false
is_found x = true

abbrev pub found_type : Found → Option Ty
found_type (f.BuiltIn x) = Some (built_in_type x)
found_type (f.Type t) = Some t.now
found_type x = None

abbrev pub names_in : Lookups → Names
names_in l = names_of l.known.now l.own.now l.types.now
