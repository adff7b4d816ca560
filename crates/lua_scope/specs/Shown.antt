-- The locals in scope as the code keeps them: the latest local of each name in a map, and with each local the one of its name before it.
use Rattle.std.specs.Prelude.{◌≡◌, ℕ, List, [], ◌∷◌, map, reverse, find, option_map, Option}
use Rattle.std.specs.Str.{bytes_eq}
use Rattle.lua_scope.specs.Newest.{newest_in}
use Rattle.lua_scope.specs.declared.visible.Local.{Local}
use Rattle.lua_scope.specs.declared.visible.Binding as code_binding
use Rattle.lua_scope.specs.declared.visible.Shown.{Shown}
use Rattle.lua_scope.specs.declared.visible.Visible.TheInside.{Inside}
use Rattle.lua_tree.specs.Scopes.Places as places

abbrev pub local_of : Local → places.Local
local_of l = record { number = l.number; function = l.function }

abbrev pub binding_of : code_binding.Binding → places.Binding
binding_of b = record { name = b.name.now; local = local_of b.local }

abbrev pub found : List ℕ → List Shown → Option Local
found name shown = option_map (λ s. s.binding.local) (find (λ s. bytes_eq s.binding.name.now name) shown)

-- each local has the one of its name that it hides
abbrev pub Hides : List Shown → Type 0
Hides [] = Unit {0}
Hides (s ∷ shown) = (s.shadowed ≡ found s.binding.name.now shown) × Hides shown

abbrev pub bindings : List Shown → List places.Binding
bindings shown = map (λ s. binding_of s.binding) (reverse shown)

-- the map has the latest local of each name
pub record IsIndexed (v : Inside) : Type 0 where
  pub latest : (name : List ℕ) → newest_in name v.latest ≡ found name (reverse v.shown.items)
  pub hides : Hides (reverse v.shown.items)
