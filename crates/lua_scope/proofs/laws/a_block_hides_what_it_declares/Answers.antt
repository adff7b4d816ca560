use Rattle.lua_tree.specs.Scopes.Trees.{block_of}
use Rattle.lua_tree.proofs.Lexical.{keeps_block, keeps_loop}
use Rattle.lua_tree.proofs.LexicalTrees.{blocks_open}
use Rattle.lua_scope.proofs.laws.a_block_hides_what_it_declares.Goals as goal

pub returns : goal.returns
returns c = record {
  in_block = λ b. keeps_block (block_of b) (blocks_open b);
  in_loop = λ b. keeps_loop (block_of b) (blocks_open b);
}
