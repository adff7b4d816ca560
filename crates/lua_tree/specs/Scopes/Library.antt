-- How a program names what the library has: alone, or behind one of the library's tables (Lua 5.3 manual, section 6).
use Rattle.std.specs.Prelude.{ℕ, Bool, false, ◌&&◌, ◌||◌, List, [], ◌∷◌, Option, Some, None, codes}
use Rattle.std.specs.List.{find}
use Rattle.std.specs.Str.{bytes_eq}
use Rattle.lua_tree.specs.Names.{spelling}
use Rattle.lua_tree.specs.declared.names.LibName.{LibName}
use Rattle.lua_tree.specs.declared.names.LibName.TheVariants as lib

abbrev pub is_at : List ℕ → List ℕ → Option (List ℕ × List ℕ) → Bool
is_at table key None = false
is_at table key (Some (own_table, own_key)) = bytes_eq own_table table && bytes_eq own_key key

abbrev pub all_names : List LibName
all_names =
    lib.Print ∷ lib.TypeOf ∷ lib.ToString ∷ lib.ToNumber ∷ lib.Pairs ∷ lib.Ipairs ∷ lib.Next ∷ lib.Select ∷ lib.RawGet ∷ lib.RawSet ∷ lib.RawEqual
    ∷ lib.RawLen ∷ lib.SetMetatable ∷ lib.GetMetatable ∷ lib.Pcall ∷ lib.Error ∷ lib.Assert ∷ lib.Require
    ∷ lib.StringLen ∷ lib.StringSub ∷ lib.StringUpper ∷ lib.StringLower ∷ lib.StringReverse ∷ lib.StringRep ∷ lib.StringByte ∷ lib.StringChar ∷ lib.StringFormat
    ∷ lib.TableInsert ∷ lib.TableRemove ∷ lib.TableConcat ∷ lib.TableUnpack ∷ lib.TableSort
    ∷ lib.MathAbs ∷ lib.MathFloor ∷ lib.MathMax ∷ lib.MathMin ∷ lib.MathUlt ∷ lib.MathType ∷ lib.MathMaxInteger ∷ lib.MathMinInteger
    ∷ lib.IoWrite ∷ lib.IoRead ∷ []

-- the library's name `table.key`, or `key` alone where `table` is empty
unfoldable pub named : List ℕ → List ℕ → Option LibName
named table key = find (λ n. is_at table key (spelling n)) all_names

abbrev pub is_library_table : List ℕ → Bool
is_library_table name = bytes_eq name (codes "string") || bytes_eq name (codes "table") || bytes_eq name (codes "math") || bytes_eq name (codes "io")
