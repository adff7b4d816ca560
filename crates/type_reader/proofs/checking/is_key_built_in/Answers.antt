use Rattle.std.proofs.Common.{ap, sym, ◌∙◌}
use Rattle.tl_types.specs.declared.types.Ty.TheVariants as ty
use Rattle.tl_types.specs.declared.types.Ty.TheOpen.{Int, Str, Value, Any}
use Rattle.type_reader.specs.Faults.{is_key}
use Rattle.type_reader.specs.Lookups.{built_in_type}
use Rattle.type_reader.proofs.Keys.{key_of}
use Rattle.type_reader.proofs.checking.is_key_built_in.Goals as goal

pub returns-in-Integer : goal.returns-in-Integer
returns-in-Integer c = sym (ap (λ b. is_key (built_in_type b)) c.in-Integer.is ∙ key_of ty.Int Int ty.rolls-Int)

pub returns-in-String : goal.returns-in-String
returns-in-String c = sym (ap (λ b. is_key (built_in_type b)) c.in-String.is ∙ key_of ty.Str Str ty.rolls-Str)

pub returns-in-Value : goal.returns-in-Value
returns-in-Value c = sym (ap (λ b. is_key (built_in_type b)) c.in-Value.is ∙ key_of ty.Value Value ty.rolls-Value)

pub returns-in-Any : goal.returns-in-Any
returns-in-Any c = sym (ap (λ b. is_key (built_in_type b)) c.in-Any.is ∙ key_of ty.Any Any ty.rolls-Any)
