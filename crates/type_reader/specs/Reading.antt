-- What is read of a module's annotations: the first fault, else the types and the names that are known from then on.
use Rattle.std.specs.Prelude.{◌≡◌, ℕ, ◌&&◌, List, [], ◌∷◌, ◌++◌, map, length, Option, Some, None, is_none}
use Rattle.std.specs.List.{flat_map}
use Rattle.std.specs.Option.{option_or, option_map}
use Rattle.tl_base.specs.declared.place.Pos.{Pos}
use Rattle.tl_base.specs.declared.refusal.RefusalCode.TheVariants as code
use Rattle.lua_tree.specs.declared.annotation.TypeExpr.{TypeExpr}
use Rattle.lua_tree.specs.declared.annotation.TypeField.{TypeField}
use Rattle.lua_tree.specs.declared.annotation.TypeResults.{TypeResults, out-TypeResults}
use Rattle.lua_tree.specs.declared.scoped.Scoped.{Scoped}
use Rattle.tl_types.specs.declared.types.Ty.{Ty}
use Rattle.tl_types.specs.Types.{Field}
use Rattle.type_reader.specs.declared.names.TypeName.{TypeName}
use Rattle.type_reader.specs.declared.names.TypeNames.{TypeNames}
use Rattle.type_reader.specs.Annotations as a
use Rattle.type_reader.specs.Annotations.{Annotation, Annotations, block_of}
use Rattle.type_reader.specs.Names.{Names}
use Rattle.type_reader.specs.Types.{Uses, all, uses_of, uses_of_field, uses_of_results, are_typed, type_of, body_of, record_of, fields_of, every}
use Rattle.type_reader.specs.Faults.{Fault, fault_where, first_of, type_fault, record_fault, results_fault, told_of}
use Rattle.type_reader.specs.Declarations as d
use Rattle.type_reader.specs.Declarations.{Declaration, declarations, repeated_name, names_in, is_circular}

abbrev pub place_of : Names → TypeExpr → Pos
place_of names e = (told_of names e).place

-- where all names have types, and yet there is none
abbrev pub too_large : Names → Pos → Uses → Option Ty → Fault
too_large names p us t = fault_where (are_typed names us && is_none t) code.Y1 p

-- the first fault of a type, of the results of a body and of the fields of an interface; the place is where one that is too large is told
abbrev pub type_faults : Names → Pos → TypeExpr → Fault
type_faults names p e = option_or (type_fault names e) (too_large names p (uses_of e) (type_of names e))

abbrev pub results_faults : Names → TypeResults → Fault
results_faults names r = option_or (results_fault names r) (too_large names (out-TypeResults r).pos (uses_of_results r) (body_of names r))

abbrev pub record_faults : Names → Pos → List TypeField → Fault
record_faults names p fs = option_or (record_fault names fs) (too_large names p (all (map uses_of_field fs)) (record_of names fs))

-- an alias that leads to itself, which has no type
abbrev pub circle_fault : List Declaration → Names → Pos → List ℕ → Fault
circle_fault ds names p name = fault_where (is_none (names.ty [] name) && is_circular ds name) code.Y5 p

-- a declaration's own fault: a name without a type has its fault elsewhere
abbrev pub form_fault : List Declaration → Names → Pos → List ℕ → d.Form → Fault
form_fault ds names p name (d.interface n fs) = record_faults names p fs
form_fault ds names p name (d.alias e) = option_or (circle_fault ds names p name) (type_faults names p e)

abbrev pub declared_fault : List Declaration → Names → Declaration → Fault
declared_fault ds names x = form_fault ds names x.place x.name.text x.form

-- an annotation that declares nothing
abbrev pub used_fault : Names → Annotation → Fault
used_fault names (a.of_type e) = type_faults names (place_of names e) e
used_fault names (a.of_results r) = results_faults names r
used_fault names (a.interface p n fs) = None
used_fault names (a.alias p n e) = None

-- declarations come before the other annotations, each in order of place
abbrev pub faults_after_names : List Declaration → Names → Annotations → Fault
faults_after_names ds names xs = option_or (first_of (map (declared_fault ds names) ds)) (first_of (map (used_fault names) xs))

-- repeated names come first of all
abbrev pub module_fault : List Declaration → Names → Annotations → Fault
module_fault ds names xs = option_or (repeated_name ds) (faults_after_names ds names xs)

-- ---- what stands for an annotation, where there is no fault

abbrev pub annotation_type : Names → Annotation → Option Ty
annotation_type names (a.of_type e) = type_of names e
annotation_type names (a.of_results r) = body_of names r
annotation_type names (a.interface p n fs) = names.ty [] n.text
annotation_type names (a.alias p n e) = names.ty [] n.text

-- the names that a module adds
abbrev pub entry_of : List ℕ → Names → Declaration → Option TypeName
entry_of «module» names x = option_map (λ t. record { «module» = «module»; name = x.name.text; ty = t }) (names.ty [] x.name.text)

-- the records that it adds
abbrev pub bodies_of_form : Names → d.Form → List (Option (List Field))
bodies_of_form names (d.interface n fs) = fields_of names fs ∷ []
bodies_of_form names (d.alias e) = []

abbrev pub bodies_of : Names → List Declaration → List (Option (List Field))
bodies_of names ds = flat_map (λ x. bodies_of_form names x.form) ds

abbrev pub annotations_in : Scoped → Annotations
annotations_in s = block_of s.chunk.body

abbrev pub declarations_in : TypeNames → Scoped → List Declaration
declarations_in known s = declarations (length known.interfaces.bodies) (annotations_in s)

abbrev pub names_for : TypeNames → Scoped → Names
names_for known s = names_in known.names (declarations_in known s)

abbrev pub fault_in : TypeNames → Scoped → Fault
fault_in known s = module_fault (declarations_in known s) (names_for known s) (annotations_in s)

abbrev pub types_in : TypeNames → Scoped → Option (List Ty)
types_in known s = every (map (annotation_type (names_for known s)) (annotations_in s))

abbrev pub added_names : List ℕ → TypeNames → Scoped → Option (List TypeName)
added_names «module» known s = every (map (entry_of «module» (names_for known s)) (declarations_in known s))

abbrev pub added_bodies : TypeNames → Scoped → Option (List (List Field))
added_bodies known s = every (bodies_of (names_for known s) (declarations_in known s))

-- the names that are known afterwards
abbrev pub IsJoined : List ℕ → TypeNames → Scoped → TypeNames → Type 0
IsJoined «module» known s after =
    (names : List TypeName) × (bodies : List (List Field)) × (added_names «module» known s ≡ Some names) × (added_bodies known s ≡ Some bodies)
    × (after.names ≡ known.names ++ names) × (after.interfaces.bodies ≡ known.interfaces.bodies ++ bodies)
