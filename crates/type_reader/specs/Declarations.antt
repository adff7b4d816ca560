-- The type names that a module declares, what they stand for, and which aliases lead to themselves.
use Rattle.std.specs.Prelude.{ℕ, zero, suc, ◌+◌, Bool, false, ◌||◌, cond, List, [], ◌∷◌, ◌++◌, map, length, Option, Some, None, is_some, slice_index_or}
use Rattle.std.specs.List.{list_any, flat_map}
use Rattle.std.specs.Option.{option_or, option_map_or}
use Rattle.std.specs.Str.{bytes_eq}
use Rattle.tl_base.specs.declared.place.Pos.{Pos}
use Rattle.tl_base.specs.declared.refusal.RefusalCode.TheVariants as code
use Rattle.lua_tree.specs.declared.annotation.Name.{Name}
use Rattle.lua_tree.specs.declared.annotation.TypeExpr.{TypeExpr}
use Rattle.lua_tree.specs.declared.annotation.TypeField.{TypeField}
use Rattle.tl_types.specs.declared.types.Ty.{Ty}
use Rattle.tl_types.specs.declared.types.Ty.TheVariants as ty
use Rattle.type_reader.specs.declared.names.TypeName.{TypeName}
use Rattle.type_reader.specs.Annotations as a
use Rattle.type_reader.specs.Annotations.{Annotations}
use Rattle.type_reader.specs.Names.{Names, names_of, built_in, place_in}
use Rattle.type_reader.specs.Types.{Uses, uses_of, type_of, are_typed}
use Rattle.type_reader.specs.Faults.{Fault, fault_where}

pub data Form : Type 0 where
  -- an interface, by its number, and its fields
  interface : ℕ → List TypeField → Form
  alias : TypeExpr → Form

pub record Declaration : Type 0 where
  pub place : Pos
  pub name : Name
  pub form : Form

-- those of these annotations, in order of place; the interfaces are numbered from n
abbrev pub declarations : ℕ → Annotations → List Declaration
declarations n [] = []
declarations n (a.interface p name fs ∷ xs) = record { place = p; name = name; form = interface n fs } ∷ declarations (n + 1) xs
declarations n (a.alias p name e ∷ xs) = record { place = p; name = name; form = alias e } ∷ declarations n xs
declarations n (x ∷ xs) = declarations n xs

abbrev pub own_names : List Declaration → List (List ℕ)
own_names ds = map (λ d. d.name.text) ds

-- the first name that is built in or declared before
abbrev pub repeated_after : List (List ℕ) → List Declaration → Fault
repeated_after before [] = None
repeated_after before (d ∷ ds) =
    option_or (fault_where (is_some (built_in d.name.text) || list_any (bytes_eq d.name.text) before) code.Y3 d.name.pos)
    (repeated_after (before ++ d.name.text ∷ []) ds)

abbrev pub repeated_name : List Declaration → Fault
repeated_name ds = repeated_after [] ds

-- ---- the types of the names, where an alias stands for its type to so many steps

abbrev pub alias_type : Names → TypeExpr → Option Ty
alias_type names e = cond (are_typed names (uses_of e)) (type_of names e) None

abbrev pub form_type : Names → Form → Option Ty
form_type names (interface n fs) = Some (ty.Iface n)
form_type names (alias e) = alias_type names e

-- to no step an alias stands for nothing
abbrev pub first_type : Form → Option Ty
first_type (interface n fs) = Some (ty.Iface n)
first_type (alias e) = None

abbrev mutual
  pub types_to : List TypeName → List Declaration → ℕ → List (Option Ty)
  types_to known ds zero = map (λ d. first_type d.form) ds
  types_to known ds (suc n) = map (λ d. form_type (names_of known (own_names ds) (types_to known ds n)) d.form) ds

abbrev pub names_to : List TypeName → List Declaration → ℕ → Names
names_to known ds n = names_of known (own_names ds) (types_to known ds n)

-- as many steps as there are declarations are enough
abbrev pub names_in : List TypeName → List Declaration → Names
names_in known ds = names_to known ds (length ds)

-- ---- which aliases lead to themselves

abbrev pub own_name : List (List ℕ) → List ℕ → List (List ℕ)
own_name [] name = name ∷ []
own_name (p ∷ ps) name = []

-- the module's own names that are used
abbrev pub own_uses : Uses → List (List ℕ)
own_uses us = flat_map (λ u. own_name u.parts u.name) us

abbrev pub form_uses : Form → List (List ℕ)
form_uses (alias e) = own_uses (uses_of e)
form_uses (interface n fs) = []

-- whether a name of the module's own has its flag
abbrev pub own_flag : List (List ℕ) → List Bool → List ℕ → Bool
own_flag own flags name = option_map_or (λ i. slice_index_or flags i false) (place_in own name) false

-- one of the names is the one looked for, or has its flag
abbrev pub uses_lead : List (List ℕ) → List ℕ → List Bool → List (List ℕ) → Bool
uses_lead own to flags us = list_any (λ u. bytes_eq u to || own_flag own flags u) us

-- which names lead to this one by aliases, by so many uses or fewer
abbrev mutual
  pub leads_to : List Declaration → List ℕ → ℕ → List Bool
  leads_to ds to zero = map (λ d. false) ds
  leads_to ds to (suc n) = map (λ d. uses_lead (own_names ds) to (leads_to ds to n) (form_uses d.form)) ds

-- a way that comes back needs no more uses than there are declarations
abbrev pub is_circular : List Declaration → List ℕ → Bool
is_circular ds name = own_flag (own_names ds) (leads_to ds name (length ds)) name
