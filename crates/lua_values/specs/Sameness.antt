-- That two values are the same (Lua 5.3 manual, section 3.4.4) exactly where they are equal, and that equal keys are hashed alike.
use Rattle.std.specs.Prelude.{◌≡◌, true}
use Rattle.std.specs.Cmp.{IsEquivalence, IsPartialEquivalence, partial_equiv_from_equiv, decided, booleans_Decides, signed_Decides, unsigned_Decides}
use Rattle.std.specs.Cmp.Lexicographic.{pointwise_decides}
use Rattle.std.specs.Bool.{Decides}
use Rattle.std.proofs.Common.{ap, refl}
use Rattle.lua_tree.specs.Names as library
use Rattle.lua_tree.proofs.Library.{one_number}
use Rattle.lua_values.specs.Values.{same_value, value_writes}
use Rattle.lua_values.specs.declared.value.Value.{Value}
use Rattle.lua_values.specs.declared.value.Value.TheVariants.{Nil, Bool as Truth, Int, Str, Table, Closure, Builtin}

pub same_value-Decides : (x y : Value) → Decides (same_value x y) (x ≡ y)
same_value-Decides Nil Nil = (λ _. refl, λ _. refl)
same_value-Decides (Truth a) (Truth b) = (λ e. ap Truth ((booleans_Decides a b).0 e), λ e. (booleans_Decides a b).1 (let f : Truth a ≡ Truth b = e in cc))
same_value-Decides (Int a) (Int b) = (λ e. ap Int ((signed_Decides a b).0 e), λ e. (signed_Decides a b).1 (let f : Int a ≡ Int b = e in cc))
same_value-Decides (Str a) (Str b) =
    (λ e. ap Str ((pointwise_decides unsigned_Decides a b).0 e), λ e. (pointwise_decides unsigned_Decides a b).1 (let f : Str a ≡ Str b = e in cc))
same_value-Decides (Table a) (Table b) = (λ e. ap Table ((unsigned_Decides a b).0 e), λ e. (unsigned_Decides a b).1 (let f : Table a ≡ Table b = e in cc))
same_value-Decides (Closure a) (Closure b) = (λ e. ap Closure ((unsigned_Decides a b).0 e), λ e. (unsigned_Decides a b).1 (let f : Closure a ≡ Closure b = e in cc))
same_value-Decides (Builtin a) (Builtin b) =
    (λ e. ap Builtin (one_number a b ((unsigned_Decides (library.number a) (library.number b)).0 e)), λ e. (unsigned_Decides (library.number a) (library.number b)).1 (ap library.number (let f : Builtin a ≡ Builtin b = e in cc)))
same_value-Decides _ _ = (λ e. cc, λ e. cc)

pub same_value_equiv : IsEquivalence same_value
same_value_equiv = decided same_value same_value-Decides

pub same_value_per : IsPartialEquivalence same_value
same_value_per = partial_equiv_from_equiv same_value_equiv

pub value_alike : (x y : Value) → same_value x y ≡ true → value_writes x ≡ value_writes y
value_alike x y same = ap value_writes ((same_value-Decides x y).0 same)
