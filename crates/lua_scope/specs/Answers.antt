-- What the answers of `resolve` and `bind` say.
use Rattle.std.specs.Prelude.{◌≡◌, ℕ, List, map, find, option_map, is_none, Option, Result, Err}
use Rattle.std.specs.Str.{bytes_eq}
use Rattle.tl_base.specs.declared.refusal.Refusal.{Refusal}
use Rattle.tl_base.specs.declared.refusal.RefusalCode.TheVariants as code
use Rattle.tl_base.specs.declared.refusal.Failure.{Failure}
use Rattle.tl_base.specs.declared.refusal.Failure.TheVariants as failure
use Rattle.lua_tree.specs.declared.scoped.Require.{Require}
use Rattle.lua_tree.specs.declared.scoped.Scoped.{Scoped}
use Rattle.lua_scope.specs.declared.modules.NamedModule.{NamedModule}

-- the failure is the refusal that the definition has, or want of memory
abbrev pub IsRefusalOf : {A : Type 0} → Result A Refusal → Failure → Type 0
IsRefusalOf r (failure.Refused f) = r ≡ Err f
IsRefusalOf r failure.NoMemory = Unit {0}

-- the number of the module of a name
abbrev pub module_named : List NamedModule → List ℕ → Option ℕ
module_named names name = option_map (λ n. n.«module») (find (λ n. bytes_eq n.name name) names)

-- a call of `require` with the number of its module
abbrev pub bound_to : List NamedModule → Require → Require
bound_to names r = record r { «module» = module_named names r.name }

abbrev pub with_modules : List NamedModule → Scoped → Scoped
with_modules names s = record s { required = map (bound_to names) s.required }

-- the refusal at the first call of `require` whose module isn't among the names
abbrev pub first_missing : List NamedModule → List Require → Option Refusal
first_missing names rs = option_map (λ r. record { code = code.G1; pos = r.pos }) (find (λ r. is_none (module_named names r.name)) rs)
