-- The plain tree of a module, which is one of the manual's (Lua 5.3 manual, section 9): the same without annotations, type statements and marks, every place kept.
use Rattle.std.specs.Prelude.{map, None}
use Rattle.std.specs.Option.{option_map}
use Rattle.lua_tree.specs.declared.annotation.Typed.{Typed}
use Rattle.lua_tree.specs.declared.syntax.Rest.{Rest}
use Rattle.lua_tree.specs.Tree as tree
use Rattle.lua_tree.specs.Tree.{Exp, Multi, Exps, Entries, Function, Stat, Targets, Clauses, Else, Step, Block}

abbrev pub plain_name : Typed → Typed
plain_name n = record n { ty = None }

abbrev pub plain_rest : Rest → Rest
plain_rest r = record r { ty = None }

abbrev mutual
  pub plain_exp : Exp → Exp
  plain_exp (tree.nothing p) = tree.nothing p
  plain_exp (tree.truth p b) = tree.truth p b
  plain_exp (tree.integer p n) = tree.integer p n
  plain_exp (tree.text p s) = tree.text p s
  plain_exp (tree.function p f) = tree.function p (plain_function f)
  plain_exp (tree.name p n s) = tree.name p n s
  plain_exp (tree.paren p e) = tree.paren p (plain_exp e)
  plain_exp (tree.field p e n) = tree.field p (plain_exp e) n
  plain_exp (tree.index p e k) = tree.index p (plain_exp e) (plain_exp k)
  plain_exp (tree.table p es) = tree.table p (plain_entries es)
  plain_exp (tree.unary p o e) = tree.unary p o (plain_exp e)
  plain_exp (tree.binary p o a b) = tree.binary p o (plain_exp a) (plain_exp b)
  plain_exp (tree.mark k e) = plain_exp e
  plain_exp (tree.one_of m) = tree.one_of (plain_multi m)

  pub plain_multi : Multi → Multi
  plain_multi (tree.vararg p) = tree.vararg p
  plain_multi (tree.call p f es) = tree.call p (plain_exp f) (plain_exps es)
  plain_multi (tree.method p e n es) = tree.method p (plain_exp e) n (plain_exps es)
  plain_multi (tree.mark_all k m) = plain_multi m

  pub plain_exps : Exps → Exps
  plain_exps tree.none = tree.none
  plain_exps (tree.ends m) = tree.ends (plain_multi m)
  plain_exps (tree.more e es) = tree.more (plain_exp e) (plain_exps es)

  pub plain_entries : Entries → Entries
  plain_entries tree.no_entry = tree.no_entry
  plain_entries (tree.all_items m) = tree.all_items (plain_multi m)
  plain_entries (tree.item e es) = tree.item (plain_exp e) (plain_entries es)
  plain_entries (tree.named n e es) = tree.named n (plain_exp e) (plain_entries es)
  plain_entries (tree.keyed k e es) = tree.keyed (plain_exp k) (plain_exp e) (plain_entries es)

  pub plain_function : Function → Function
  plain_function (tree.function_of ps rest rs b) = tree.function_of (map plain_name ps) (option_map plain_rest rest) None (plain_block b)

  pub plain_targets : Targets → Targets
  plain_targets tree.no_target = tree.no_target
  plain_targets (tree.target e ts) = tree.target (plain_exp e) (plain_targets ts)

  pub plain_clauses : Clauses → Clauses
  plain_clauses tree.no_clause = tree.no_clause
  plain_clauses (tree.clause e b cs) = tree.clause (plain_exp e) (plain_block b) (plain_clauses cs)

  pub plain_else : Else → Else
  plain_else tree.no_else = tree.no_else
  plain_else (tree.else_do b) = tree.else_do (plain_block b)

  pub plain_step : Step → Step
  plain_step tree.no_step = tree.no_step
  plain_step (tree.step e) = tree.step (plain_exp e)

  -- a type statement becomes nothing
  pub plain_stat : Stat → Block → Block
  plain_stat (tree.empty p) rest = tree.next (tree.empty p) rest
  plain_stat (tree.assign p ts es) rest = tree.next (tree.assign p (plain_targets ts) (plain_exps es)) rest
  plain_stat (tree.run p e) rest = tree.next (tree.run p (plain_exp e)) rest
  plain_stat (tree.leave p) rest = tree.next (tree.leave p) rest
  plain_stat (tree.scope p b) rest = tree.next (tree.scope p (plain_block b)) rest
  plain_stat (tree.while p e b) rest = tree.next (tree.while p (plain_exp e) (plain_block b)) rest
  plain_stat (tree.repeat p b e) rest = tree.next (tree.repeat p (plain_block b) (plain_exp e)) rest
  plain_stat (tree.choose p cs b) rest = tree.next (tree.choose p (plain_clauses cs) (plain_else b)) rest
  plain_stat (tree.count p n a b c d) rest = tree.next (tree.count p n (plain_exp a) (plain_exp b) (plain_step c) (plain_block d)) rest
  plain_stat (tree.each p ns es b) rest = tree.next (tree.each p ns (plain_exps es) (plain_block b)) rest
  plain_stat (tree.define p e f) rest = tree.next (tree.define p (plain_exp e) (plain_exp f)) rest
  plain_stat (tree.define_method p e n f) rest = tree.next (tree.define_method p (plain_exp e) n (plain_exp f)) rest
  plain_stat (tree.declare_function p n f) rest = tree.next (tree.declare_function p n (plain_exp f)) rest
  plain_stat (tree.declare p ns es) rest = tree.next (tree.declare p (map plain_name ns) (plain_exps es)) rest
  plain_stat (tree.interface p n fs) rest = rest
  plain_stat (tree.alias p n t) rest = rest

  pub plain_block : Block → Block
  plain_block tree.finish = tree.finish
  plain_block (tree.returns p es) = tree.returns p (plain_exps es)
  plain_block (tree.next s b) = plain_stat s (plain_block b)
