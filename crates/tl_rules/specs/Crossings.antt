-- The crossings of a marked tree, and the list of them that a report prints.
use Rattle.std.specs.Prelude.{ℕ, List, [], ◌∷◌, ◌++◌, Contains}
use Rattle.std.specs.Ordering.{nat_cmp, ordering_then}
use Rattle.std.specs.declared.cmp.Ordering.{Ordering}
use Rattle.std.specs.List.Sorted.{IsStrictlySortedBy}
use Rattle.tl_base.specs.declared.place.Pos.{Pos}
use Rattle.tl_base.specs.declared.crossing.CrossKind.{CrossKind}
use Rattle.tl_base.specs.declared.crossing.CrossKind.TheVariants as cross
use Rattle.tl_base.specs.declared.crossing.Crossing.{Crossing}
use Rattle.lua_tree.specs.Tree as tree
use Rattle.lua_tree.specs.Tree.{Exp, Multi, Exps, Entries, Function, Stat, Targets, Clauses, Else, Step, Block}
use Rattle.lua_tree.specs.Places.{place_of, multi_place}

-- the marks of a tree, each as often as it stands there
abbrev mutual
  pub marks_of : Exp → List Crossing
  marks_of (tree.nothing p) = []
  marks_of (tree.truth p b) = []
  marks_of (tree.integer p n) = []
  marks_of (tree.text p s) = []
  marks_of (tree.function p f) = function_marks f
  marks_of (tree.name p n s) = []
  marks_of (tree.paren p e) = marks_of e
  marks_of (tree.field p e n) = marks_of e
  marks_of (tree.index p e k) = marks_of e ++ marks_of k
  marks_of (tree.table p es) = entry_marks es
  marks_of (tree.unary p o e) = marks_of e
  marks_of (tree.binary p o a b) = marks_of a ++ marks_of b
  marks_of (tree.mark k e) = marks_of e ++ record { pos = place_of e; kind = k } ∷ []
  marks_of (tree.one_of m) = multi_marks m

  pub multi_marks : Multi → List Crossing
  multi_marks (tree.vararg p) = []
  multi_marks (tree.call p f es) = marks_of f ++ list_marks es
  multi_marks (tree.method p e n es) = marks_of e ++ list_marks es
  multi_marks (tree.mark_all k m) = multi_marks m ++ record { pos = multi_place m; kind = k } ∷ []

  pub list_marks : Exps → List Crossing
  list_marks tree.none = []
  list_marks (tree.ends m) = multi_marks m
  list_marks (tree.more e es) = marks_of e ++ list_marks es

  pub entry_marks : Entries → List Crossing
  entry_marks tree.no_entry = []
  entry_marks (tree.all_items m) = multi_marks m
  entry_marks (tree.item e es) = marks_of e ++ entry_marks es
  entry_marks (tree.named n e es) = marks_of e ++ entry_marks es
  entry_marks (tree.keyed k e es) = marks_of k ++ (marks_of e ++ entry_marks es)

  pub function_marks : Function → List Crossing
  function_marks (tree.function_of ps rest rs b) = block_marks b

  pub target_marks : Targets → List Crossing
  target_marks tree.no_target = []
  target_marks (tree.target e ts) = marks_of e ++ target_marks ts

  pub clause_marks : Clauses → List Crossing
  clause_marks tree.no_clause = []
  clause_marks (tree.clause e b cs) = marks_of e ++ (block_marks b ++ clause_marks cs)

  pub else_marks : Else → List Crossing
  else_marks tree.no_else = []
  else_marks (tree.else_do b) = block_marks b

  pub step_marks : Step → List Crossing
  step_marks tree.no_step = []
  step_marks (tree.step e) = marks_of e

  pub stat_marks : Stat → List Crossing
  stat_marks (tree.empty p) = []
  stat_marks (tree.assign p ts es) = target_marks ts ++ list_marks es
  stat_marks (tree.run p e) = marks_of e
  stat_marks (tree.leave p) = []
  stat_marks (tree.scope p b) = block_marks b
  stat_marks (tree.while p e b) = marks_of e ++ block_marks b
  stat_marks (tree.repeat p b e) = block_marks b ++ marks_of e
  stat_marks (tree.choose p cs b) = clause_marks cs ++ else_marks b
  stat_marks (tree.count p n a b c d) = marks_of a ++ (marks_of b ++ (step_marks c ++ block_marks d))
  stat_marks (tree.each p ns es b) = list_marks es ++ block_marks b
  stat_marks (tree.define p e f) = marks_of e ++ marks_of f
  stat_marks (tree.define_method p e n f) = marks_of e ++ marks_of f
  stat_marks (tree.declare_function p n f) = marks_of f
  stat_marks (tree.declare p ns es) = list_marks es
  stat_marks (tree.interface p n fs) = []
  stat_marks (tree.alias p n t) = []

  pub block_marks : Block → List Crossing
  block_marks tree.finish = []
  block_marks (tree.returns p es) = list_marks es
  block_marks (tree.next s b) = stat_marks s ++ block_marks b

-- the kinds in the order in which a report lists those of one place
abbrev pub kind_rank : CrossKind → ℕ
kind_rank cross.Place = 0
kind_rank cross.Operand = 1
kind_rank cross.Equal = 2
kind_rank cross.Expose = 3

-- by module in the order of the command line, then line and column
abbrev pub place_order : Pos → Pos → Ordering
place_order p q = ordering_then (nat_cmp p.module q.module) (ordering_then (nat_cmp p.line q.line) (nat_cmp p.column q.column))

-- by place, then by kind
abbrev pub crossing_order : Crossing → Crossing → Ordering
crossing_order a b = ordering_then (place_order a.pos b.pos) (nat_cmp (kind_rank a.kind) (kind_rank b.kind))

-- the list of these marks: in order, each once, and nothing else
pub record IsCrossingList (marks list : List Crossing) : Type 0 where
  pub ordered : IsStrictlySortedBy crossing_order list
  pub marked : (c : Crossing) → Contains list c → Contains marks c
  pub listed : (c : Crossing) → Contains marks c → Contains list c
