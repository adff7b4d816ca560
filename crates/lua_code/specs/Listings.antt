-- How code is written: a line for each function, and a line for each of its instructions behind it. Strings hold any bytes
-- (Lua 5.3 manual, 2.1), so they are written in hexadecimal.
use Rattle.std.specs.Prelude.{ℕ, ◌+◌, ◌/◌, ◌%◌, Bool, true, false, List, [], ◌∷◌, ◌++◌, length, flat_map, decimal, slice_get, Option, option_and_then, codes}
use Rattle.std.specs.Fmt.{signed_decimal}
use Rattle.std.specs.Char.{digit_char}
use Rattle.tl_base.specs.Names.{cross_name}
use Rattle.lua_tree.specs.Names.{text_of}
use Rattle.lua_code.specs.declared.code.Code.{Code}
use Rattle.lua_code.specs.declared.code.Proto.{Proto}
use Rattle.lua_code.specs.declared.code.Instr.{Instr}
use Rattle.lua_code.specs.declared.code.Instr.TheVariants as instr

-- ---- an instruction's name and its arguments

abbrev pub name_of : Instr → List ℕ
name_of instr.Nil = codes "Nil"
name_of instr.True = codes "True"
name_of instr.False = codes "False"
name_of (instr.Int n) = codes "Int"
name_of (instr.Str s) = codes "Str"
name_of (instr.Lib n) = codes "Lib"
name_of (instr.GetSlot i) = codes "GetSlot"
name_of (instr.SetSlot i) = codes "SetSlot"
name_of (instr.NewCell i) = codes "NewCell"
name_of (instr.GetCell i) = codes "GetCell"
name_of (instr.SetCell i) = codes "SetCell"
name_of (instr.GetUp i) = codes "GetUp"
name_of (instr.SetUp i) = codes "SetUp"
name_of (instr.Closure n) = codes "Closure"
name_of instr.Rest = codes "Rest"
name_of (instr.Pack n) = codes "Pack"
name_of (instr.Cons n) = codes "Cons"
name_of instr.First = codes "First"
name_of (instr.Spread n) = codes "Spread"
name_of instr.Dup = codes "Dup"
name_of instr.Pop = codes "Pop"
name_of instr.Call = codes "Call"
name_of (instr.Method s) = codes "Method"
name_of instr.Return = codes "Return"
name_of (instr.Require m) = codes "Require"
name_of instr.NewTable = codes "NewTable"
name_of instr.Entry = codes "Entry"
name_of (instr.Append n) = codes "Append"
name_of instr.Get = codes "Get"
name_of instr.Put = codes "Put"
name_of instr.Add = codes "Add"
name_of instr.Sub = codes "Sub"
name_of instr.Mul = codes "Mul"
name_of instr.IDiv = codes "IDiv"
name_of instr.Mod = codes "Mod"
name_of instr.BAnd = codes "BAnd"
name_of instr.BOr = codes "BOr"
name_of instr.BXor = codes "BXor"
name_of instr.Shl = codes "Shl"
name_of instr.Shr = codes "Shr"
name_of instr.Concat = codes "Concat"
name_of instr.Eq = codes "Eq"
name_of instr.Lt = codes "Lt"
name_of instr.Le = codes "Le"
name_of instr.Neg = codes "Neg"
name_of instr.BNot = codes "BNot"
name_of instr.Len = codes "Len"
name_of instr.Not = codes "Not"
name_of (instr.Jump t) = codes "Jump"
name_of (instr.JumpIf t) = codes "JumpIf"
name_of (instr.JumpIfNot t) = codes "JumpIfNot"
name_of (instr.KeepIf t) = codes "KeepIf"
name_of (instr.KeepIfNot t) = codes "KeepIfNot"
name_of (instr.ForPrep i t) = codes "ForPrep"
name_of (instr.ForStep i t) = codes "ForStep"
name_of instr.Bound = codes "Bound"
name_of instr.Turn = codes "Turn"
name_of (instr.Mark k line column) = codes "Mark"

-- a string is written by its bytes, each as two lower-case hexadecimal digits
abbrev pub hex_byte : ℕ → List ℕ
hex_byte b = digit_char (b / 16) ∷ digit_char (b % 16) ∷ []

abbrev pub hex_text : List ℕ → List ℕ
hex_text s = flat_map hex_byte s

abbrev pub arguments_of : Instr → List (List ℕ)
arguments_of (instr.Int n) = signed_decimal n ∷ []
arguments_of (instr.Str s) = hex_text s ∷ []
arguments_of (instr.Lib n) = text_of n ∷ []
arguments_of (instr.GetSlot i) = decimal i ∷ []
arguments_of (instr.SetSlot i) = decimal i ∷ []
arguments_of (instr.NewCell i) = decimal i ∷ []
arguments_of (instr.GetCell i) = decimal i ∷ []
arguments_of (instr.SetCell i) = decimal i ∷ []
arguments_of (instr.GetUp i) = decimal i ∷ []
arguments_of (instr.SetUp i) = decimal i ∷ []
arguments_of (instr.Closure n) = decimal n ∷ []
arguments_of (instr.Pack n) = decimal n ∷ []
arguments_of (instr.Cons n) = decimal n ∷ []
arguments_of (instr.Spread n) = decimal n ∷ []
arguments_of (instr.Method s) = hex_text s ∷ []
arguments_of (instr.Require m) = decimal m ∷ []
arguments_of (instr.Append n) = decimal n ∷ []
arguments_of (instr.Jump t) = decimal t ∷ []
arguments_of (instr.JumpIf t) = decimal t ∷ []
arguments_of (instr.JumpIfNot t) = decimal t ∷ []
arguments_of (instr.KeepIf t) = decimal t ∷ []
arguments_of (instr.KeepIfNot t) = decimal t ∷ []
arguments_of (instr.ForPrep i t) = decimal i ∷ decimal t ∷ []
arguments_of (instr.ForStep i t) = decimal i ∷ decimal t ∷ []
arguments_of (instr.Mark k line column) = cross_name k ∷ decimal line ∷ decimal column ∷ []
arguments_of i = []

-- ---- lines

-- the parts, with a space before each
abbrev pub spaced : List (List ℕ) → List ℕ
spaced parts = flat_map (λ part. 32 ∷ part) parts

-- `F:P NAME ARGUMENTS`, for instruction P of function F, both from 0
abbrev pub line_of : ℕ → ℕ → Instr → List ℕ
line_of f p i = decimal f ++ codes ":" ++ decimal p ++ codes " " ++ name_of i ++ spaced (arguments_of i)

-- the lines of instructions from P on, each with its line end
abbrev pub lines_from : ℕ → ℕ → List Instr → List ℕ
lines_from f p [] = []
lines_from f p (i ∷ is) = line_of f p i ++ codes "\n" ++ lines_from f (p + 1) is

abbrev pub flag : Bool → List ℕ
flag false = codes "0"
flag true = codes "1"

abbrev pub heading_of : ℕ → Proto → List ℕ
heading_of f proto =
    codes "function " ++ decimal f ++ codes " params " ++ decimal proto.params ++ codes " vararg " ++ flag proto.vararg
    ++ codes " slots " ++ decimal proto.slots ++ codes " captures " ++ decimal (length proto.captures)

abbrev pub function_lines : ℕ → Proto → List ℕ
function_lines f proto = heading_of f proto ++ codes "\n" ++ lines_from f 0 proto.code

-- the functions from F on
abbrev pub functions_from : ℕ → List Proto → List ℕ
functions_from f [] = []
functions_from f (proto ∷ protos) = function_lines f proto ++ functions_from (f + 1) protos

abbrev pub listing_of : Code → List ℕ
listing_of code = functions_from 0 code.functions

-- instruction P of function F, if there is one
abbrev pub instruction_at : Code → ℕ → ℕ → Option Instr
instruction_at code f p = option_and_then (λ proto. slice_get proto.code p) (slice_get code.functions f)
