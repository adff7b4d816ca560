-- What the type names of a module stand for.
use Rattle.std.specs.Prelude.{ℕ, Bool, cond, ◌&&◌, ◌||◌, List, [], ◌∷◌, ◌++◌, Option, Some, None, is_some, find, codes, slice_index_or}
use Rattle.std.specs.List.{position, flat_map}
use Rattle.std.specs.Option.{option_map, option_and_then, option_or}
use Rattle.std.specs.Str.{bytes_eq}
use Rattle.tl_types.specs.declared.types.Ty.{Ty}
use Rattle.tl_types.specs.declared.types.Ty.TheVariants as ty
use Rattle.tl_types.specs.Unions.{boolean}
use Rattle.type_reader.specs.declared.names.TypeName.{TypeName}

-- a name behind the parts of its module's name, of which there are none where the name is the module's own
pub record Names : Type 0 where
  -- whether it is known
  pub has : List (List ℕ) → List ℕ → Bool
  -- its type, if it has one
  pub ty : List (List ℕ) → List ℕ → Option Ty

-- the parts of a module's name with dots between them
abbrev pub dotted : List ℕ → List (List ℕ) → List ℕ
dotted p ps = p ++ flat_map (λ q. 46 ∷ q) ps

-- the names that each module has without a declaration; `nil` is one too, but no name in a text
abbrev pub built_in : List ℕ → Option Ty
built_in name =
    cond (bytes_eq name (codes "boolean")) (Some boolean)
    (cond (bytes_eq name (codes "integer")) (Some ty.Int)
    (cond (bytes_eq name (codes "string")) (Some ty.Str)
    (cond (bytes_eq name (codes "value")) (Some ty.Value)
    (cond (bytes_eq name (codes "any")) (Some ty.Any) None))))

-- the type name of another module
abbrev pub elsewhere : List TypeName → List ℕ → List ℕ → Option TypeName
elsewhere known «module» name = find (λ k. bytes_eq k.«module» «module» && bytes_eq k.name name) known

-- where a name stands among the module's own
abbrev pub place_in : List (List ℕ) → List ℕ → Option ℕ
place_in own name = position (bytes_eq name) own

abbrev pub own_type : List (List ℕ) → List (Option Ty) → List ℕ → Option Ty
own_type own types name = option_and_then (λ i. slice_index_or types i None) (place_in own name)

abbrev pub has_name : List TypeName → List (List ℕ) → List (List ℕ) → List ℕ → Bool
has_name known own [] name = is_some (built_in name) || is_some (place_in own name)
has_name known own (p ∷ ps) name = is_some (elsewhere known (dotted p ps) name)

abbrev pub name_type : List TypeName → List (List ℕ) → List (Option Ty) → List (List ℕ) → List ℕ → Option Ty
name_type known own types [] name = option_or (built_in name) (own_type own types name)
name_type known own types (p ∷ ps) name = option_map (λ k. k.ty) (elsewhere known (dotted p ps) name)

-- the names of the other modules, and the module's own with the types that they have
abbrev pub names_of : List TypeName → List (List ℕ) → List (Option Ty) → Names
names_of known own types = record { has = has_name known own; ty = name_type known own types }
