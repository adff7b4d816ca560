-- Words to write small programs with. Every text stands at the first place, unless a place is given.
-- The use of a name below 20 means the local of that number, and use 20 means `print`.
use Rattle.std.specs.Prelude.{ℕ, pos, Bool, List, [], ◌∷◌, replicate, codes, Some, None}
use Rattle.tl_base.specs.declared.place.Pos.{Pos}
use Rattle.tl_base.specs.declared.place.ModuleKind.{ModuleKind}
use Rattle.tl_base.specs.declared.place.ModuleKind.TheVariants.{Untyped}
use Rattle.lua_tree.specs.declared.annotation.Name as declared_name
use Rattle.lua_tree.specs.declared.annotation.Typed as declared_typed
use Rattle.lua_tree.specs.declared.names.LibName.TheVariants as lib
use Rattle.lua_tree.specs.declared.scoped.Use.{Use}
use Rattle.lua_tree.specs.declared.scoped.Use.TheVariants.{Local, Lib}
use Rattle.lua_tree.specs.declared.syntax.BinaryOperator.{BinaryOperator}
use Rattle.lua_tree.specs.declared.syntax.UnaryOperator.{UnaryOperator}
use Rattle.lua_tree.specs.Tree as tree
use Rattle.lua_tree.specs.Tree.{Exp, Multi, Exps, Targets, Function, Stat, Clauses, Block}
use Rattle.lua_meaning.specs.Programs.{Module, Ending, Result, meaning}

abbrev pub at : ℕ → ℕ → Pos
at l c = record { «module» = 0; line = l; column = c }

abbrev pub here : Pos
here = at 1 1

-- ---- expressions

abbrev pub num : ℕ → Exp
num n = tree.integer here (pos n)

abbrev pub nil : Exp
nil = tree.nothing here

abbrev pub boolean : Bool → Exp
boolean b = tree.truth here b

abbrev pub str : List ℕ → Exp
str s = tree.text here s

abbrev pub var : ℕ → Exp
var x = tree.name here x []

abbrev pub op : BinaryOperator → Exp → Exp → Exp
op o a b = tree.binary here o a b

abbrev pub un : UnaryOperator → Exp → Exp
un o a = tree.unary here o a

abbrev pub list : List Exp → Exps
list [] = tree.none
list (e ∷ es) = tree.more e (list es)

-- a list that ends with a call or `...`
abbrev pub list_with : List Exp → Multi → Exps
list_with [] m = tree.ends m
list_with (e ∷ es) m = tree.more e (list_with es m)

abbrev pub called : Exp → List Exp → Multi
called f es = tree.call here f (list es)

abbrev pub call : Exp → List Exp → Exp
call f es = tree.one_of (called f es)

abbrev pub dots : Multi
dots = tree.vararg here

-- ---- declarations and functions

abbrev pub word : declared_name.Name
word = record { pos = here; text = [] }

abbrev pub names : ℕ → List declared_typed.Typed
names n = replicate n (record { name = word; ty = None })

abbrev pub body : List Stat → Block
body [] = tree.finish
body (s ∷ ss) = tree.next s (body ss)

-- a block that ends with a `return`
abbrev pub body_with : List Stat → Exps → Block
body_with [] es = tree.returns here es
body_with (s ∷ ss) es = tree.next s (body_with ss es)

abbrev pub func : ℕ → Block → Exp
func params b = tree.function here (tree.function_of (names params) None None b)

abbrev pub func_with_rest : ℕ → Block → Exp
func_with_rest params b = tree.function here (tree.function_of (names params) (Some (record { pos = here; ty = None })) None b)

-- ---- statements

abbrev pub locals : ℕ → Exps → Stat
locals n es = tree.declare here (names n) es

abbrev pub local_function : Exp → Stat
local_function f = tree.declare_function here word f

abbrev pub targets : List ℕ → Targets
targets [] = tree.no_target
targets (x ∷ xs) = tree.target (var x) (targets xs)

abbrev pub set : List ℕ → Exps → Stat
set xs es = tree.assign here (targets xs) es

abbrev pub print_all : Exps → Stat
print_all es = tree.run here (tree.one_of (tree.call here (var 20) es))

abbrev pub print : List Exp → Stat
print es = print_all (list es)

abbrev pub run : Exp → List Exp → Stat
run f es = tree.run here (call f es)

abbrev pub when : Exp → List Stat → Stat
when e b = tree.choose here (tree.clause e (body b) tree.no_clause) tree.no_else

abbrev pub when_or : Exp → List Stat → List Stat → Stat
when_or e b c = tree.choose here (tree.clause e (body b) tree.no_clause) (tree.else_do (body c))

abbrev pub while : Exp → List Stat → Stat
while e b = tree.while here e (body b)

abbrev pub repeat : List Stat → Exp → Stat
repeat b e = tree.repeat here (body b) e

abbrev pub count : Exp → Exp → List Stat → Stat
count a b d = tree.count here word a b tree.no_step (body d)

abbrev pub count_by : Exp → Exp → Exp → List Stat → Stat
count_by a b c d = tree.count here word a b (tree.step c) (body d)

abbrev pub each : ℕ → Exps → List Stat → Stat
each n es b = tree.each here (replicate n word) es (body b)

abbrev pub leave : Stat
leave = tree.leave here

abbrev pub scope : List Stat → Stat
scope b = tree.scope here (body b)

-- ---- programs

abbrev pub uses : List Use
uses = Local 0 ∷ Local 1 ∷ Local 2 ∷ Local 3 ∷ Local 4 ∷ Local 5 ∷ Local 6 ∷ Local 7 ∷ Local 8 ∷ Local 9
    ∷ Local 10 ∷ Local 11 ∷ Local 12 ∷ Local 13 ∷ Local 14 ∷ Local 15 ∷ Local 16 ∷ Local 17 ∷ Local 18 ∷ Local 19
    ∷ Lib lib.Print ∷ Lib lib.MathMaxInteger ∷ Lib lib.MathMinInteger ∷ []

abbrev pub module_with : ModuleKind → Block → Module
module_with k b = record { kind = k; names = record { uses = uses; required = [] }; body = b }

-- what an untyped module does, with so many turns
abbrev pub result : ℕ → Block → Result
result n b = meaning (module_with Untyped b ∷ []) (codes "main.lua" ∷ []) [] n

-- its output, its ending and the turns that it uses
abbrev pub seen : Result → List ℕ × Ending × ℕ
seen r = (r.output, r.ending, r.turns)

abbrev pub runs : ℕ → List Stat → List ℕ × Ending × ℕ
runs n b = seen (result n (body b))
