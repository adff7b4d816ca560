-- What the answers of reading say.
use Rattle.std.specs.Prelude.{◌≡◌, ℕ, List, map, Result, Some, IfOk}
use Rattle.tl_base.specs.declared.refusal.Failure.{Failure}
use Rattle.lua_tree.specs.declared.scoped.Scoped.{Scoped}
use Rattle.type_reader.specs.declared.names.TypeName.{TypeName}
use Rattle.type_reader.specs.declared.names.TypeNames.{TypeNames}
use Rattle.type_reader.specs.declared.reading.Read.{Read}
use Rattle.type_reader.specs.Annotations.{Annotations}
use Rattle.type_reader.specs.Names.{Names}
use Rattle.type_reader.specs.Types.{every}
use Rattle.type_reader.specs.Declarations.{Declaration, names_in}
use Rattle.type_reader.specs.Reading.{annotation_type, entry_of, bodies_of, faults_after_names, fault_in, types_in, added_names, added_bodies}
use Rattle.type_reader.specs.Answers.{Answers}

-- what is read of annotations and declarations where names have these types: their first fault, or all that they give
pub record IsReadOf (of : List ℕ) (names : Names) (ds : List Declaration) (xs : Annotations) (r : Result Read Failure) : Type 0 where
  pub answers : Answers (faults_after_names ds names xs) r
  pub types : IfOk r (λ x. every (map (annotation_type names) xs) ≡ Some x.types)
  pub names_added : IfOk r (λ x. every (map (entry_of of names) ds) ≡ Some x.names.items)
  pub bodies_added : IfOk r (λ x. every (bodies_of names ds) ≡ Some x.bodies)

abbrev pub IsRead : List ℕ → List TypeName → List Declaration → Annotations → Result Read Failure → Type 0
IsRead of known ds xs r = IsReadOf of (names_in known ds) ds xs r

-- what is read of a module
pub record IsReadModule (of : List ℕ) (known : TypeNames) (s : Scoped) (r : Result Read Failure) : Type 0 where
  pub answers : Answers (fault_in known s) r
  pub types : IfOk r (λ x. types_in known s ≡ Some x.types)
  pub names_added : IfOk r (λ x. added_names of known s ≡ Some x.names.items)
  pub bodies_added : IfOk r (λ x. added_bodies known s ≡ Some x.bodies)
