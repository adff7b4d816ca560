-- What typing knows of locals.
use Rattle.std.specs.Prelude.{ℕ, Bool, true, false, cond, List, [], Option, Some, None}
use Rattle.std.specs.List.{slice_get}
use Rattle.lua_tree.specs.declared.scoped.Use.{Use}
use Rattle.lua_tree.specs.declared.scoped.Use.TheVariants as means
use Rattle.tl_types.specs.declared.types.Ty.{Ty, out-Ty}
use Rattle.tl_types.specs.declared.types.Ty.TheVariants as ty
use Rattle.tl_types.specs.declared.types.Ty.TheOpen.{Ty-F, Nil, Union}
use Rattle.tl_types.specs.Unions.{is_any, general_form}
use Rattle.tl_rules.specs.declared.local.Local.{Local}

-- the locals by their numbers
abbrev pub Env : Type 0
Env = List Local

-- the local that a use of a name means
abbrev pub number_of : Option Use → Option ℕ
number_of (Some (means.Local x)) = Some x
number_of u = None

-- what is known of it, none where it isn't declared
abbrev pub local_in : Env → Option ℕ → Option Local
local_in env (Some x) = slice_get env x
local_in env None = None

-- a local into which a value of a type was put. One that is declared `any` keeps the type `any`.
abbrev pub local_with : Ty → Ty → Local
local_with declared known = record { declared = declared; current = cond (is_any declared) ty.Any known }

-- nothing can be said of a local that begins with `nil`, or with no value at all
abbrev pub says_nothing : Ty-F Ty → Bool
says_nothing Nil = true
says_nothing (Union []) = true
says_nothing x = false

abbrev pub any_for_nothing : Ty → Ty
any_for_nothing t = cond (says_nothing (out-Ty t)) ty.Any t

-- the declared type without annotation: the general form of the initialiser's type, and `any` for `nil` and `never`
abbrev pub general_declared : Ty → Ty
general_declared t = any_for_nothing (general_form t)
