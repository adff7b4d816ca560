-- Small modules that the machine reads as they are meant.
use Rattle.std.proofs.Common.{◌≡◌, ℕ, pos, [], ◌∷◌, Some, None, Ok, Err, refl}
use Rattle.std.specs.Prelude.{codes}
use Rattle.tl_base.specs.declared.place.Pos.{Pos}
use Rattle.tl_base.specs.declared.place.ModuleKind.TheVariants as module_kind
use Rattle.lua_tree.specs.declared.syntax.BinaryOperator.TheVariants as b
use Rattle.lua_tree.specs.declared.syntax.Expr.TheVariants as e
use Rattle.lua_tree.specs.declared.syntax.Stat.TheVariants as stat
use Rattle.lua_tree.specs.declared.annotation.TypeExpr.TheVariants as t
use Rattle.lua_lexer.specs.declared.token.Keyword.TheVariants as w
use Rattle.lua_lexer.specs.declared.token.Symbol.TheVariants as s
use Rattle.lua_parser.specs.Words.{Words, keyword, symbol, named, name_at, numeral, end_of_file}
use Rattle.lua_parser.specs.Grammar.Types.{tuple, results}
use Rattle.lua_parser.specs.Grammar.Syntax.{block, typed}
use Rattle.lua_parser.specs.Machine.Run.{run, module_plan}

abbrev at : ℕ → Pos
at n = record { «module» = 0; line = 1; column = n }

abbrev call_line : Words
call_line = named (name_at (at 1) (codes "x")) ∷ symbol s.Assign (at 2) ∷ named (name_at (at 3) (codes "f")) ∷ symbol s.OpenParen (at 4) ∷ named (name_at (at 5) (codes "g")) ∷ symbol s.CloseParen (at 6) ∷ symbol s.OpenParen (at 7) ∷ symbol s.CloseParen (at 8) ∷ end_of_file (at 9) ∷ []

reads_call_of_call : run module_kind.Untyped module_plan call_line ≡ Ok (block (stat.Assign (at 1) (e.Name (at 1) 0 (codes "x") ∷ []) (e.Call (at 3) (e.Call (at 3) (e.Name (at 3) 1 (codes "f")) (e.Name (at 5) 2 (codes "g") ∷ [])) [] ∷ []) ∷ []) None)
reads_call_of_call = refl

abbrev sum_line : Words
sum_line = keyword w.Local (at 1) ∷ named (name_at (at 2) (codes "x")) ∷ symbol s.Assign (at 3) ∷ numeral (pos 1) (at 4) ∷ symbol s.Plus (at 5) ∷ numeral (pos 2) (at 6) ∷ symbol s.Star (at 7) ∷ numeral (pos 3) (at 8) ∷ symbol s.Minus (at 9) ∷ numeral (pos 4) (at 10) ∷ end_of_file (at 11) ∷ []

reads_sum : run module_kind.Untyped module_plan sum_line ≡ Ok (block (stat.Local (at 1) (typed (name_at (at 2) (codes "x")) None ∷ []) (e.Binary (at 4) b.Subtract (e.Binary (at 4) b.Add (e.Int (at 4) (pos 1)) (e.Binary (at 6) b.Multiply (e.Int (at 6) (pos 2)) (e.Int (at 8) (pos 3)))) (e.Int (at 10) (pos 4)) ∷ []) ∷ []) None)
reads_sum = refl

-- `local f: (a) -> (b) | (c) | d`
abbrev type_line : Words
type_line = keyword w.Local (at 1) ∷ named (name_at (at 2) (codes "f")) ∷ symbol s.Colon (at 3) ∷ symbol s.OpenParen (at 4) ∷ named (name_at (at 5) (codes "a")) ∷ symbol s.CloseParen (at 6) ∷ symbol s.Arrow (at 7) ∷ symbol s.OpenParen (at 8) ∷ named (name_at (at 9) (codes "b")) ∷ symbol s.CloseParen (at 10) ∷ symbol s.Pipe (at 11) ∷ symbol s.OpenParen (at 12) ∷ named (name_at (at 13) (codes "c")) ∷ symbol s.CloseParen (at 14) ∷ symbol s.Pipe (at 15) ∷ named (name_at (at 16) (codes "d")) ∷ end_of_file (at 17) ∷ []

reads_type : run module_kind.Typed module_plan type_line ≡ Ok (block (stat.Local (at 1) (typed (name_at (at 2) (codes "f")) (Some (t.Union (at 4) (t.Function (at 4) (tuple (t.Named (at 5) [] (codes "a") ∷ []) None) (results (at 8) (tuple (t.Named (at 9) [] (codes "b") ∷ []) None ∷ tuple (t.Named (at 13) [] (codes "c") ∷ []) None ∷ [])) ∷ t.Named (at 16) [] (codes "d") ∷ []))) ∷ []) [] ∷ []) None)
reads_type = refl

refuses_type : run module_kind.Untyped module_plan type_line ≡ Err (symbol s.Colon (at 3) ∷ symbol s.OpenParen (at 4) ∷ named (name_at (at 5) (codes "a")) ∷ symbol s.CloseParen (at 6) ∷ symbol s.Arrow (at 7) ∷ symbol s.OpenParen (at 8) ∷ named (name_at (at 9) (codes "b")) ∷ symbol s.CloseParen (at 10) ∷ symbol s.Pipe (at 11) ∷ symbol s.OpenParen (at 12) ∷ named (name_at (at 13) (codes "c")) ∷ symbol s.CloseParen (at 14) ∷ symbol s.Pipe (at 15) ∷ named (name_at (at 16) (codes "d")) ∷ end_of_file (at 17) ∷ [])
refuses_type = refl
