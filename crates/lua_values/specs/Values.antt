-- When two values are the same (Lua 5.3 manual, section 3.4.4, without metamethods), and what a table's hash reads of them.
use Rattle.std.specs.Prelude.{Bool, true, false, cond, nat_eq}
use Rattle.std.specs.Hash as fed
use Rattle.std.specs.Ordering.{int_eq}
use Rattle.std.specs.Cmp.Lexicographic.{pointwise}
use Rattle.std.proofs.Math.Bool.{beq}
use Rattle.lua_tree.specs.Names as library
use Rattle.lua_values.specs.Texts.{text_writes}
use Rattle.lua_values.specs.declared.value.Value.{Value}
use Rattle.lua_values.specs.declared.value.Value.TheVariants.{Nil, Bool as Truth, Int, Str, Table, Closure, Builtin}

abbrev pub same_value : Value → Value → Bool
same_value Nil Nil = true
same_value (Truth a) (Truth b) = beq a b
same_value (Int a) (Int b) = int_eq a b
same_value (Str a) (Str b) = pointwise nat_eq a b
same_value (Table a) (Table b) = nat_eq a b
same_value (Closure a) (Closure b) = nat_eq a b
same_value (Builtin a) (Builtin b) = nat_eq (library.number a) (library.number b)
same_value _ _ = false

abbrev pub is_nil : Value → Bool
is_nil v = same_value v Nil

-- what a table's hash reads of a key
abbrev pub value_writes : Value → fed.HashWrites
value_writes Nil = fed.u8 0
value_writes (Truth b) = fed.u8 (cond b 2 1)
value_writes (Int n) = fed.i64 n
value_writes (Str text) = text_writes text
value_writes (Table number) = fed.u64 number
value_writes (Closure number) = fed.u64 number
value_writes (Builtin name) = fed.u8 (library.number name)
