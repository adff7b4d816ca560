-- The type names of other modules, as the code finds them.
use Rattle.std.specs.Prelude.{◌≡◌, ℕ, List, Bool, ◌&&◌, option_map, option_copied}
use Rattle.std.specs.Str.{bytes_eq}
use Rattle.std.specs.Borrow.{Bor}
use Rattle.indexmap.specs.IndexMap.{get, IndexMap}
use Rattle.tl_types.specs.declared.types.Ty.{Ty}
use Rattle.type_reader.specs.declared.names.TypeName.{TypeName}
use Rattle.type_reader.specs.declared.other_names.OtherNames.TheInside.{Inside}
use Rattle.type_reader.specs.Names.{elsewhere}

-- a module's name and a type name
abbrev pub Pair : Type 0
Pair = Bor (List ℕ) × Bor (List ℕ)

abbrev pub same_pair : Pair → Pair → Bool
same_pair p q = bytes_eq p.0.now q.0.now && bytes_eq p.1.now q.1.now

-- the map has the type of each name that is known, and no other
abbrev pub IsIndexOf : {S : Type 0} → List TypeName → IndexMap Pair (Bor Ty) S → Type 0
IsIndexOf names types = (q : Pair) → option_copied (get same_pair types q) ≡ option_map (λ k. k.ty) (elsewhere names q.0.now q.1.now)

abbrev pub IsIndexed : Inside → Type 0
IsIndexed o = IsIndexOf o.names.now o.types
