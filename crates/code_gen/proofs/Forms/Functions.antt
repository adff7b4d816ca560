-- What a function adds, from what its body adds.
use Rattle.std.proofs.Common.{◌≡◌, refl, ℕ, ◌+◌, zero-add, List, [], ◌++◌, length, add_assoc, append_assoc}
use Rattle.std.proofs.lemmas.List.{length-append, append-nil}
use Rattle.std.proofs.Common.{Option}
use Rattle.tl_base.specs.declared.place.Pos.{Pos}
use Rattle.lua_tree.specs.Tree as tree
use Rattle.lua_tree.specs.declared.annotation.Typed.{Typed}
use Rattle.lua_tree.specs.Tree.{Exp, Targets, Multi, Exps, Entries, Function, Stat, Clauses, Else, Step, Block}
use Rattle.lua_code.specs.Sizes.{block_slots, function_inner}
use Rattle.lua_code.specs.Generated.{body_code, captures_in, inside, block_protos}
use Rattle.lua_code.proofs.Faithful.Lengths.{block_count, new_cells_length}
use Rattle.code_gen.proofs.Forms.Statements.{behind_next}
use Rattle.std.specs.Option.{is_some}
use Rattle.lua_tree.specs.declared.syntax.Rest.{Rest}
use Rattle.lua_tree.specs.declared.annotation.TypeResults.{TypeResults}
use Rattle.code_gen.specs.Work.{Work, base, put_all, with_function, with_body, at_work, finished, with_block}

pub function_written : (ps : List Typed) (rest : Option Rest) (rs : Option TypeResults) (b : Block) (p : Pos) (w : Work)
    → finished w.code w.scope (length ps) (is_some rest) (length ps + block_slots b) (captures_in w.scope) (with_body (length ps) b p (at_work [] (inside (length ps) w.scope) w))
    ≡ with_function (tree.function_of ps rest rs b) p w
unfolding with_function with_block put_all
function_written ps rest rs b p w = simp (append_assoc, append-nil, length-append, new_cells_length, behind_next, zero-add, add_assoc)

pub function_number : (ps : List Typed) (rest : Option Rest) (rs : Option TypeResults) (b : Block) (p : Pos) (w : Work)
    → base (with_body (length ps) b p (at_work [] (inside (length ps) w.scope) w)) ≡ base w + function_inner (tree.function_of ps rest rs b)
unfolding with_block put_all
function_number ps rest rs b p w = simp (length-append, block_count, add_assoc)

-- the body of a function or of a module, from the beginning
pub body_code_written : (params : ℕ) (b : Block) (p : Pos) (w : Work) → w.code ≡ [] → (with_body params b p w).code ≡ body_code params b p w.scope (base w)
unfolding with_block put_all
body_code_written params b p w e = rw e (simp (append_assoc, length-append, new_cells_length, zero-add))

pub body_protos_written : (params : ℕ) (b : Block) (p : Pos) (w : Work) → (with_body params b p w).protos ≡ w.protos ++ block_protos b w.scope (base w)
unfolding with_block put_all
body_protos_written params b p w = refl
