-- The marks of a list of values or of entries are those of its first and of the rest, in order.
use Rattle.std.proofs.Common.{◌≡◌, refl, sym, List, ◌∷◌, ◌++◌, map, append_assoc}
use Rattle.std.proofs.lemmas.List.{append-nil}
use Rattle.lua_tree.specs.declared.syntax.Entry.{Entry}
use Rattle.lua_tree.specs.declared.syntax.Expr.{Expr}
use Rattle.lua_tree.specs.Tree as tree
use Rattle.lua_tree.specs.Tree.{Exp, Exps, Entries, push, push_item}
use Rattle.lua_tree.specs.View.{SeenEntry, item, named, keyed, entries_from, exp_of, exps_of, entry_of, entries_of}
use Rattle.tl_rules.specs.Crossings.{marks_of, multi_marks, list_marks, entry_marks}
use Rattle.crossings.specs.Entries.{seen_marks}

push_marks : (e : Exp) (es : Exps) → list_marks (push e es) ≡ marks_of e ++ list_marks es
push_marks (tree.one_of m) tree.none = sym (append-nil (multi_marks m))
push_marks (tree.one_of m) es = refl
push_marks e es = refl

pub list_more : (e : Expr) (es : List Expr) → list_marks (exps_of (e ∷ es)) ≡ marks_of (exp_of e) ++ list_marks (exps_of es)
list_more e es = push_marks (exp_of e) (exps_of es)

item_marks : (e : Exp) (es : Entries) → entry_marks (push_item e es) ≡ marks_of e ++ entry_marks es
item_marks (tree.one_of m) tree.no_entry = sym (append-nil (multi_marks m))
item_marks (tree.one_of m) es = refl
item_marks e es = refl

seen_more : (x : SeenEntry) (xs : List SeenEntry) → entry_marks (entries_from (x ∷ xs)) ≡ seen_marks x ++ entry_marks (entries_from xs)
seen_more (keyed k e) xs = sym (append_assoc (marks_of k) (marks_of e) (entry_marks (entries_from xs)))
seen_more (named n e) xs = refl
seen_more (item e) xs = item_marks e (entries_from xs)

pub entries_more : (e : Entry) (es : List Entry) → entry_marks (entries_of (e ∷ es)) ≡ seen_marks (entry_of e) ++ entry_marks (entries_of es)
entries_more e es = seen_more (entry_of e) (map entry_of es)
