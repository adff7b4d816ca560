-- The code of an untyped module runs as the module means, with so many turns and in fewer than 4000 steps.
use Rattle.std.proofs.Common.{◌≡◌, ℕ, List, [], ◌∷◌, map, Some, codes}
use Rattle.tl_base.specs.declared.place.ModuleKind.TheVariants.{Untyped}
use Rattle.lua_tree.specs.Tree.{Stat}
use Rattle.lua_meaning.specs.Programs.{Module, meaning}
use Rattle.lua_meaning.proofs.Rows.Shorthand.{body, module_with}
use Rattle.lua_code.specs.Generated.{program}
use Rattle.lua_code.specs.Steps.{run}

abbrev pub modules : List Stat → List Module
modules b = module_with Untyped (body b) ∷ []

abbrev pub Agrees : ℕ → List Stat → Type 0
Agrees turns b =
    run (program (modules b)) (map (λ m. m.kind) (modules b)) (codes "main.lua" ∷ []) [] turns 4000 ≡ Some (meaning (modules b) (codes "main.lua" ∷ []) [] turns)
