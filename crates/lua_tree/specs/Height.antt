-- The height of an expression (Lua 5.3 manual, section 3.4): 1 where no expression stands in it, and for a function whatever stands in its body; else one more than the
-- highest that stands directly in it. Parentheses and marks count.
use Rattle.std.specs.Prelude.{ℕ, ◌+◌, max}
use Rattle.lua_tree.specs.Tree as tree
use Rattle.lua_tree.specs.Tree.{Exp, Multi, Exps, Entries}
use Rattle.lua_tree.specs.View.{SeenEntry, item, named, keyed}

abbrev mutual
  pub height : Exp → ℕ
  height (tree.nothing p) = 1
  height (tree.truth p b) = 1
  height (tree.integer p n) = 1
  height (tree.text p s) = 1
  height (tree.function p f) = 1
  height (tree.name p n s) = 1
  height (tree.paren p e) = height e + 1
  height (tree.field p e n) = height e + 1
  height (tree.index p e k) = max (height e) (height k) + 1
  height (tree.table p es) = highest_entry es + 1
  height (tree.unary p o e) = height e + 1
  height (tree.binary p o a b) = max (height a) (height b) + 1
  height (tree.mark k e) = height e + 1
  height (tree.one_of m) = multi_height m

  pub multi_height : Multi → ℕ
  multi_height (tree.vararg p) = 1
  multi_height (tree.call p f es) = max (height f) (highest es) + 1
  multi_height (tree.method p e n es) = max (height e) (highest es) + 1
  multi_height (tree.mark_all k m) = multi_height m + 1

  -- the highest of a list, 0 where there is none
  pub highest : Exps → ℕ
  highest tree.none = 0
  highest (tree.ends m) = multi_height m
  highest (tree.more e es) = max (height e) (highest es)

  pub highest_entry : Entries → ℕ
  highest_entry tree.no_entry = 0
  highest_entry (tree.all_items m) = multi_height m
  highest_entry (tree.item e es) = max (height e) (highest_entry es)
  highest_entry (tree.named n e es) = max (height e) (highest_entry es)
  highest_entry (tree.keyed k e es) = max (max (height k) (height e)) (highest_entry es)

-- the height of an entry: that of the higher of its key and its value
abbrev pub entry_height : SeenEntry → ℕ
entry_height (keyed k e) = max (height k) (height e)
entry_height (named n e) = height e
entry_height (item e) = height e
