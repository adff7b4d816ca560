-- The highest of a list is the higher of its first and of the highest of the rest.
use Rattle.std.proofs.Common.{◌≡◌, refl, max, List, ◌∷◌, map, arith}
use Rattle.lua_tree.specs.declared.syntax.Entry.{Entry}
use Rattle.lua_tree.specs.declared.syntax.Expr.{Expr}
use Rattle.lua_tree.specs.Tree as tree
use Rattle.lua_tree.specs.Tree.{Exp, Exps, Entries, push, push_item}
use Rattle.lua_tree.specs.View.{SeenEntry, item, named, keyed, entries_from, exp_of, exps_of, entry_of, entries_of}
use Rattle.lua_tree.specs.Height.{height, highest, highest_entry, entry_height}

push_height : (e : Exp) (es : Exps) → highest (push e es) ≡ max (height e) (highest es)
push_height (tree.one_of m) tree.none = Prim.grind arith
push_height (tree.one_of m) es = refl
push_height e es = refl

pub highest_more : (e : Expr) (es : List Expr) → highest (exps_of (e ∷ es)) ≡ max (height (exp_of e)) (highest (exps_of es))
highest_more e es = push_height (exp_of e) (exps_of es)

item_height : (e : Exp) (es : Entries) → highest_entry (push_item e es) ≡ max (height e) (highest_entry es)
item_height (tree.one_of m) tree.no_entry = Prim.grind arith
item_height (tree.one_of m) es = refl
item_height e es = refl

entries_more : (x : SeenEntry) (xs : List SeenEntry) → highest_entry (entries_from (x ∷ xs)) ≡ max (entry_height x) (highest_entry (entries_from xs))
entries_more (keyed k e) xs = refl
entries_more (named n e) xs = refl
entries_more (item e) xs = item_height e (entries_from xs)

pub highest_entry_more : (e : Entry) (es : List Entry) → highest_entry (entries_of (e ∷ es)) ≡ max (entry_height (entry_of e)) (highest_entry (entries_of es))
highest_entry_more e es = entries_more (entry_of e) (map entry_of es)
