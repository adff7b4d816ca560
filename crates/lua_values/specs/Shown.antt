-- The texts of values (Lua 5.3 manual, section 6.1, `tostring`).
use Rattle.std.specs.Prelude.{ℕ, List, ◌++◌, codes, cond}
use Rattle.std.specs.Fmt.{decimal, signed_decimal}
use Rattle.lua_tree.specs.Names.{text_of}
use Rattle.lua_values.specs.declared.value.Value.{Value}
use Rattle.lua_values.specs.declared.value.Value.TheVariants.{Nil, Bool as Truth, Int, Str, Table, Closure, Builtin}

-- what `tostring` gives where there is no metatable
abbrev pub shown_text : Value → List ℕ
shown_text Nil = codes "nil"
shown_text (Truth b) = cond b (codes "true") (codes "false")
shown_text (Int n) = signed_decimal n
shown_text (Str text) = text
shown_text (Table number) = codes "table: " ++ decimal number
shown_text (Closure number) = codes "function: " ++ decimal number
shown_text (Builtin name) = codes "builtin: " ++ text_of name
