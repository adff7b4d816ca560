-- The latest local of a name, in the map that has it for each name that was declared, and none once no such local is in scope.
use Rattle.std.specs.Prelude.{ℕ, List, Option, option_and_then}
use Rattle.std.specs.Str.{bytes_eq}
use Rattle.std.specs.Borrow.{Bor}
use Rattle.indexmap.specs.IndexMap.{get_by, IndexMap}
use Rattle.lua_scope.specs.declared.visible.Local.{Local}

abbrev pub newest_in : {S : Type 0} → List ℕ → IndexMap (Bor (List ℕ)) (Option Local) S → Option Local
newest_in name latest = option_and_then (λ l. l) (get_by (λ k. bytes_eq name k.now) latest)
