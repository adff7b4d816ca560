-- The names of the library (Lua 5.3 manual, section 6).
use Rattle.std.specs.Prelude.{◌≡◌, ℕ, map, option_map, slice_get, List, [], ◌++◌, Option, Some, None, codes}
use Rattle.std.specs.Option.{option_map_or}
use Rattle.lua_tree.specs.declared.names.LibName.{LibName}
use Rattle.lua_tree.specs.declared.names.Entry.{Entry}
use Rattle.lua_tree.specs.declared.names.LibName.TheVariants as lib

-- the table and the key by which a program finds a name, the empty table where the name stands alone; none where no program can spell it
abbrev pub spelling : LibName → Option (List ℕ × List ℕ)
spelling lib.Print = Some ([], codes "print")
spelling lib.TypeOf = Some ([], codes "type")
spelling lib.ToString = Some ([], codes "tostring")
spelling lib.ToNumber = Some ([], codes "tonumber")
spelling lib.Pairs = Some ([], codes "pairs")
spelling lib.Ipairs = Some ([], codes "ipairs")
spelling lib.Next = Some ([], codes "next")
spelling lib.Select = Some ([], codes "select")
spelling lib.RawGet = Some ([], codes "rawget")
spelling lib.RawSet = Some ([], codes "rawset")
spelling lib.RawEqual = Some ([], codes "rawequal")
spelling lib.RawLen = Some ([], codes "rawlen")
spelling lib.SetMetatable = Some ([], codes "setmetatable")
spelling lib.GetMetatable = Some ([], codes "getmetatable")
spelling lib.Pcall = Some ([], codes "pcall")
spelling lib.Error = Some ([], codes "error")
spelling lib.Assert = Some ([], codes "assert")
spelling lib.Require = Some ([], codes "require")
spelling lib.StringLen = Some (codes "string", codes "len")
spelling lib.StringSub = Some (codes "string", codes "sub")
spelling lib.StringUpper = Some (codes "string", codes "upper")
spelling lib.StringLower = Some (codes "string", codes "lower")
spelling lib.StringReverse = Some (codes "string", codes "reverse")
spelling lib.StringRep = Some (codes "string", codes "rep")
spelling lib.StringByte = Some (codes "string", codes "byte")
spelling lib.StringChar = Some (codes "string", codes "char")
spelling lib.StringFormat = Some (codes "string", codes "format")
spelling lib.TableInsert = Some (codes "table", codes "insert")
spelling lib.TableRemove = Some (codes "table", codes "remove")
spelling lib.TableConcat = Some (codes "table", codes "concat")
spelling lib.TableUnpack = Some (codes "table", codes "unpack")
spelling lib.TableSort = Some (codes "table", codes "sort")
spelling lib.MathAbs = Some (codes "math", codes "abs")
spelling lib.MathFloor = Some (codes "math", codes "floor")
spelling lib.MathMax = Some (codes "math", codes "max")
spelling lib.MathMin = Some (codes "math", codes "min")
spelling lib.MathUlt = Some (codes "math", codes "ult")
spelling lib.MathType = Some (codes "math", codes "type")
spelling lib.MathMaxInteger = Some (codes "math", codes "maxinteger")
spelling lib.MathMinInteger = Some (codes "math", codes "mininteger")
spelling lib.IoWrite = Some (codes "io", codes "write")
spelling lib.IoRead = Some (codes "io", codes "read")
spelling lib.IpairsStep = None

abbrev pub place_of : Entry → List ℕ × List ℕ
place_of e = (e.1.now, e.2.now)

-- each entry gives its name's spelling
abbrev pub AreRight : List Entry → Type 0
AreRight es = map (λ e. spelling e.0) es ≡ map (λ e. Some (place_of e)) es

-- the place of a name among the variants
abbrev pub number : LibName → ℕ
number lib.Print = 0
number lib.TypeOf = 1
number lib.ToString = 2
number lib.ToNumber = 3
number lib.Pairs = 4
number lib.Ipairs = 5
number lib.Next = 6
number lib.Select = 7
number lib.RawGet = 8
number lib.RawSet = 9
number lib.RawEqual = 10
number lib.RawLen = 11
number lib.SetMetatable = 12
number lib.GetMetatable = 13
number lib.Pcall = 14
number lib.Error = 15
number lib.Assert = 16
number lib.Require = 17
number lib.StringLen = 18
number lib.StringSub = 19
number lib.StringUpper = 20
number lib.StringLower = 21
number lib.StringReverse = 22
number lib.StringRep = 23
number lib.StringByte = 24
number lib.StringChar = 25
number lib.StringFormat = 26
number lib.TableInsert = 27
number lib.TableRemove = 28
number lib.TableConcat = 29
number lib.TableUnpack = 30
number lib.TableSort = 31
number lib.MathAbs = 32
number lib.MathFloor = 33
number lib.MathMax = 34
number lib.MathMin = 35
number lib.MathUlt = 36
number lib.MathType = 37
number lib.MathMaxInteger = 38
number lib.MathMinInteger = 39
number lib.IoWrite = 40
number lib.IoRead = 41
number lib.IpairsStep = 42

-- where a program can spell the name, its entry stands at its number
abbrev pub IsListed : List Entry → LibName → Type 0
IsListed es n = option_map place_of (slice_get es (number n)) ≡ spelling n

abbrev pub dotted : List ℕ × List ℕ → List ℕ
dotted ([], key) = key
dotted (table, key) = table ++ codes "." ++ key

-- the name as messages write it
abbrev pub text_of : LibName → List ℕ
text_of name = option_map_or dotted (spelling name) (codes "ipairs step")
