-- The scopes of locals follow the blocks of the text: each tree keeps them, by induction.
use Rattle.std.proofs.Common.{◌≡◌, List, [], ◌∷◌, ◌++◌, Option, Some, None, map, sym, subst}
use Rattle.std.specs.Prelude.{is_some}
use Rattle.std.specs.List.{flat_map}
use Rattle.lua_tree.specs.declared.syntax.Entry.{Entry, fold-roll-Entry}
use Rattle.lua_tree.specs.declared.syntax.Entry.TheOpen as open_tree
use Rattle.lua_tree.specs.declared.syntax.Entry.TheOpen.{Entry-F, Stat-F, Block-F, Body-F, Clause-F, Return-F}
use Rattle.lua_tree.specs.declared.syntax.Entry.TheFolds.{map-Entry, map-Expr, map-Stat, map-Block, map-Body, map-Clause, map-Return, ind-Expr, ind-Stat, ind-Block, fold-roll-Expr, fold-roll-Stat, fold-roll-Block, fold-roll-Body, fold-roll-Clause, fold-roll-Return}
use Rattle.lua_tree.specs.declared.syntax.Entry.TheViews.{roll-Entry, roll-Expr, roll-Stat, roll-Block, roll-Body, roll-Clause, roll-Return}
use Rattle.lua_tree.specs.declared.syntax.Expr.{Expr, Expr-F}
use Rattle.lua_tree.specs.declared.syntax.Stat.{Stat}
use Rattle.lua_tree.specs.declared.syntax.Block.{Block}
use Rattle.lua_tree.specs.declared.syntax.Body.{Body}
use Rattle.lua_tree.specs.declared.syntax.Clause.{Clause}
use Rattle.lua_tree.specs.declared.syntax.Return.{Return}
use Rattle.lua_tree.specs.Scopes.Events as says
use Rattle.lua_tree.specs.Scopes.Trees.{Events, Said, Bodied, said_of, entry_of, stat_of, block_of, body_of, clause_of, return_of, entry_at, expr_at, stat_at, block_at, body_at, clause_at, return_at, names, declares, appear, shows, scope, values, targets, call_value, self_at}
use Rattle.lua_tree.specs.Scopes.Lexical.{Keeps, Opens}
use Rattle.lua_tree.proofs.Lexical.{keeps_nothing, keeps_both, opens_both, opens_of, keeps_each, opens_each, keeps_block, keeps_loop, keeps_function, keeps_use, keeps_assign, keeps_leave, keeps_vararg, keeps_field, keeps_field_target, keeps_call, opens_declared, opens_declared_then, opens_shows, opens_bounds}

abbrev AllKeep : Said → Type 0
AllKeep e = Keeps e.value × Keeps e.target × Keeps e.method

abbrev BodyKeeps : Bodied → Type 0
BodyKeeps f = (hidden : Events) → Opens hidden → Keeps (f hidden)

all_keep : (e : Events) → Keeps e → Keeps e × Keeps e × Keeps e
all_keep e k = (k, k, k)

module _ (E0 E1 E2 E3 E4 E5 E6 : Type 0) (g0 : E0 → Entry) (g1 : E1 → Expr) (g2 : E2 → Stat) (g3 : E3 → Block) (g4 : E4 → Body) (g5 : E5 → Clause) (g6 : E6 → Return)
    (p0 : (e : E0) → Keeps (entry_of (g0 e))) (p1 : (e : E1) → AllKeep (said_of (g1 e))) (p2 : (e : E2) → Opens (stat_of (g2 e))) (p3 : (e : E3) → Opens (block_of (g3 e)))
    (p4 : (e : E4) → BodyKeeps (body_of (g4 e))) (p5 : (e : E5) → Keeps (clause_of (g5 e))) (p6 : (e : E6) → Keeps (return_of (g6 e))) where
  values_keep : (es : List E1) → Keeps (flat_map (λ e. e.value) (map said_of (map g1 es)))
  values_keep es = keeps_each g1 said_of (λ e. e.value) (λ e. (p1 e).0) es

  targets_keep : (es : List E1) → Keeps (flat_map (λ e. e.target) (map said_of (map g1 es)))
  targets_keep es = keeps_each g1 said_of (λ e. e.target) (λ e. (p1 e).1) es

  expr_keeps : (y : Expr-F E0 E1 E2 E3 E4 E5 E6) → AllKeep (expr_at (map-Expr _ _ _ _ _ _ _ _ _ _ _ _ _ _ entry_of said_of stat_of block_of body_of clause_of return_of (map-Expr _ _ _ _ _ _ _ _ _ _ _ _ _ _ g0 g1 g2 g3 g4 g5 g6 y)))
  expr_keeps (open_tree.Nil p) = all_keep [] keeps_nothing
  expr_keeps (open_tree.Bool p b) = all_keep [] keeps_nothing
  expr_keeps (open_tree.Int p n) = all_keep [] keeps_nothing
  expr_keeps (open_tree.Str p t) = all_keep [] keeps_nothing
  expr_keeps (open_tree.Vararg p) = all_keep (says.vararg p ∷ []) (keeps_vararg p)
  expr_keeps (open_tree.«Expr::Function» p f) =
      (p4 f [] (opens_of [] keeps_nothing), p4 f [] (opens_of [] keeps_nothing), p4 f (shows (self_at p ∷ [])) (opens_shows (self_at p ∷ [])))
  expr_keeps (open_tree.Name p n t) = (keeps_use p t, keeps_assign p t, keeps_use p t)
  expr_keeps (open_tree.Paren p e) = all_keep (said_of (g1 e)).value (p1 e).0
  expr_keeps (open_tree.Field p e n) =
      let w = (said_of (g1 e)).name in
      let es = (said_of (g1 e)).value in
      (keeps_field w es n (p1 e).0, keeps_field_target w es n (p1 e).0, keeps_field w es n (p1 e).0)
  expr_keeps (open_tree.Index p e k) = all_keep ((said_of (g1 e)).value ++ (said_of (g1 k)).value) (keeps_both (said_of (g1 e)).value (said_of (g1 k)).value (p1 e).0 (p1 k).0)
  expr_keeps (open_tree.«Expr::Call» p f es) =
      let args = (said_of (g1 f)).value ++ values (map said_of (map g1 es)) in
      let texts = map (λ e. e.literal) (map said_of (map g1 es)) in
      all_keep (call_value (said_of (g1 f)).name texts args) (keeps_call (said_of (g1 f)).name texts args (keeps_both (said_of (g1 f)).value (values (map said_of (map g1 es))) (p1 f).0 (values_keep es)))
  expr_keeps (open_tree.«Expr::Method» p e n es) =
      all_keep ((said_of (g1 e)).value ++ values (map said_of (map g1 es))) (keeps_both (said_of (g1 e)).value (values (map said_of (map g1 es))) (p1 e).0 (values_keep es))
  expr_keeps (open_tree.Table p es) = all_keep (flat_map (λ e. e) (map entry_of (map g0 es))) (keeps_each g0 entry_of (λ e. e) p0 es)
  expr_keeps (open_tree.Unary p o e) = all_keep (said_of (g1 e)).value (p1 e).0
  expr_keeps (open_tree.Binary p o a b) = all_keep ((said_of (g1 a)).value ++ (said_of (g1 b)).value) (keeps_both (said_of (g1 a)).value (said_of (g1 b)).value (p1 a).0 (p1 b).0)
  expr_keeps (open_tree.Mark k e) = p1 e

  entry_keeps : (y : Entry-F E0 E1 E2 E3 E4 E5 E6) → Keeps (entry_at (map-Entry _ _ _ _ _ _ _ _ _ _ _ _ _ _ entry_of said_of stat_of block_of body_of clause_of return_of (map-Entry _ _ _ _ _ _ _ _ _ _ _ _ _ _ g0 g1 g2 g3 g4 g5 g6 y)))
  entry_keeps (open_tree.Keyed k e) = keeps_both (said_of (g1 k)).value (said_of (g1 e)).value (p1 k).0 (p1 e).0
  entry_keeps (open_tree.Named n e) = (p1 e).0
  entry_keeps (open_tree.Item e) = (p1 e).0

  stat_opens : (y : Stat-F E0 E1 E2 E3 E4 E5 E6) → Opens (stat_at (map-Stat _ _ _ _ _ _ _ _ _ _ _ _ _ _ entry_of said_of stat_of block_of body_of clause_of return_of (map-Stat _ _ _ _ _ _ _ _ _ _ _ _ _ _ g0 g1 g2 g3 g4 g5 g6 y)))
  stat_opens (open_tree.Empty p) = opens_of [] keeps_nothing
  stat_opens (open_tree.Assign p ts es) =
      opens_of (targets (map said_of (map g1 ts)) ++ values (map said_of (map g1 es))) (keeps_both (targets (map said_of (map g1 ts))) (values (map said_of (map g1 es))) (targets_keep ts) (values_keep es))
  stat_opens (open_tree.«Stat::Call» p e) = opens_of (said_of (g1 e)).value (p1 e).0
  stat_opens (open_tree.Break p) = opens_of (says.leave p ∷ []) (keeps_leave p)
  stat_opens (open_tree.Do p b) = opens_of (scope says.block (block_of (g3 b))) (keeps_block (block_of (g3 b)) (p3 b))
  stat_opens (open_tree.While p e b) =
      let loop = scope says.loop (block_of (g3 b)) in
      opens_of ((said_of (g1 e)).value ++ loop) (keeps_both (said_of (g1 e)).value loop (p1 e).0 (keeps_loop (block_of (g3 b)) (p3 b)))
  stat_opens (open_tree.Repeat p b e) =
      let all = block_of (g3 b) ++ (said_of (g1 e)).value in
      opens_of (scope says.loop all) (keeps_loop all (opens_both (block_of (g3 b)) (said_of (g1 e)).value (p3 b) (opens_of (said_of (g1 e)).value (p1 e).0)))
  stat_opens (open_tree.If p cs None) =
      let clauses = flat_map (λ c. c) (map clause_of (map g5 cs)) in
      opens_of (clauses ++ []) (keeps_both clauses [] (keeps_each g5 clause_of (λ c. c) p5 cs) keeps_nothing)
  stat_opens (open_tree.If p cs (Some b)) =
      let clauses = flat_map (λ c. c) (map clause_of (map g5 cs)) in
      let last = scope says.block (block_of (g3 b)) in
      opens_of (clauses ++ last) (keeps_both clauses last (keeps_each g5 clause_of (λ c. c) p5 cs) (keeps_block (block_of (g3 b)) (p3 b)))
  stat_opens (open_tree.NumericFor p n a b None d) =
      let x = (said_of (g1 a)).value in
      let y = (said_of (g1 b)).value in
      let all = declares (n ∷ []) ++ x ++ y ++ [] ++ appear (n ∷ []) ∷ block_of (g3 d) in
      opens_of (scope says.loop all) (keeps_loop all (opens_bounds (n ∷ []) x y [] (block_of (g3 d)) (p1 a).0 (p1 b).0 keeps_nothing (p3 d)))
  stat_opens (open_tree.NumericFor p n a b (Some c) d) =
      let x = (said_of (g1 a)).value in
      let y = (said_of (g1 b)).value in
      let all = declares (n ∷ []) ++ x ++ y ++ (said_of (g1 c)).value ++ appear (n ∷ []) ∷ block_of (g3 d) in
      opens_of (scope says.loop all) (keeps_loop all (opens_bounds (n ∷ []) x y (said_of (g1 c)).value (block_of (g3 d)) (p1 a).0 (p1 b).0 (p1 c).0 (p3 d)))
  stat_opens (open_tree.GenericFor p ns es b) =
      let vs = values (map said_of (map g1 es)) in
      let all = declares ns ++ vs ++ appear ns ∷ block_of (g3 b) in
      opens_of (scope says.loop all) (keeps_loop all (opens_declared_then ns vs (block_of (g3 b)) (values_keep es) (p3 b)))
  stat_opens (open_tree.«Stat::Function» p e f) = opens_of ((said_of (g1 e)).target ++ (said_of (g1 f)).value) (keeps_both (said_of (g1 e)).target (said_of (g1 f)).value (p1 e).1 (p1 f).0)
  stat_opens (open_tree.«Stat::Method» p e n f) = opens_of ((said_of (g1 e)).value ++ (said_of (g1 f)).method) (keeps_both (said_of (g1 e)).value (said_of (g1 f)).method (p1 e).0 (p1 f).2)
  stat_opens (open_tree.LocalFunction p n f) = opens_both (shows (n ∷ [])) (said_of (g1 f)).value (opens_shows (n ∷ [])) (opens_of (said_of (g1 f)).value (p1 f).0)
  stat_opens (open_tree.Local p ns es) = opens_declared (names ns) (values (map said_of (map g1 es))) (values_keep es)
  stat_opens (open_tree.Interface p n fs) = opens_of [] keeps_nothing
  stat_opens (open_tree.Alias p n t) = opens_of [] keeps_nothing

  block_opens_at : (stats : List E2) (result : Option E6) → let y : Block-F E0 E1 E2 E3 E4 E5 E6 = record { stats = stats; result = result } in Opens (block_at (map-Block _ _ _ _ _ _ _ _ _ _ _ _ _ _ entry_of said_of stat_of block_of body_of clause_of return_of (map-Block _ _ _ _ _ _ _ _ _ _ _ _ _ _ g0 g1 g2 g3 g4 g5 g6 y)))
  block_opens_at stats None =
      let all = flat_map (λ s. s) (map stat_of (map g2 stats)) in
      opens_both all [] (opens_each g2 stat_of (λ s. s) p2 stats) (opens_of [] keeps_nothing)
  block_opens_at stats (Some r) =
      let all = flat_map (λ s. s) (map stat_of (map g2 stats)) in
      opens_both all (return_of (g6 r)) (opens_each g2 stat_of (λ s. s) p2 stats) (opens_of (return_of (g6 r)) (p6 r))

  block_opens : (y : Block-F E0 E1 E2 E3 E4 E5 E6) → Opens (block_at (map-Block _ _ _ _ _ _ _ _ _ _ _ _ _ _ entry_of said_of stat_of block_of body_of clause_of return_of (map-Block _ _ _ _ _ _ _ _ _ _ _ _ _ _ g0 g1 g2 g3 g4 g5 g6 y)))
  block_opens y = block_opens_at y.stats y.result

  body_keeps : (y : Body-F E0 E1 E2 E3 E4 E5 E6) → BodyKeeps (body_at (map-Body _ _ _ _ _ _ _ _ _ _ _ _ _ _ entry_of said_of stat_of block_of body_of clause_of return_of (map-Body _ _ _ _ _ _ _ _ _ _ _ _ _ _ g0 g1 g2 g3 g4 g5 g6 y)))
  body_keeps y hidden o =
      let shown = shows (names y.params) in
      keeps_function (is_some y.rest) (hidden ++ shown ++ block_of (g3 y.block))
      (opens_both (hidden ++ shown) (block_of (g3 y.block)) (opens_both hidden shown o (opens_shows (names y.params))) (p3 y.block))

  clause_keeps : (y : Clause-F E0 E1 E2 E3 E4 E5 E6) → Keeps (clause_at (map-Clause _ _ _ _ _ _ _ _ _ _ _ _ _ _ entry_of said_of stat_of block_of body_of clause_of return_of (map-Clause _ _ _ _ _ _ _ _ _ _ _ _ _ _ g0 g1 g2 g3 g4 g5 g6 y)))
  clause_keeps y = keeps_both (said_of (g1 y.condition)).value (scope says.block (block_of (g3 y.block))) (p1 y.condition).0 (keeps_block (block_of (g3 y.block)) (p3 y.block))

  return_keeps : (y : Return-F E0 E1 E2 E3 E4 E5 E6) → Keeps (return_at (map-Return _ _ _ _ _ _ _ _ _ _ _ _ _ _ entry_of said_of stat_of block_of body_of clause_of return_of (map-Return _ _ _ _ _ _ _ _ _ _ _ _ _ _ g0 g1 g2 g3 g4 g5 g6 y)))
  return_keeps y = values_keep y.values

abbrev P0 : Entry → Type 0
P0 e = Keeps (entry_of e)

abbrev P1 : Expr → Type 0
P1 e = AllKeep (said_of e)

abbrev P2 : Stat → Type 0
P2 e = Opens (stat_of e)

abbrev P3 : Block → Type 0
P3 e = Opens (block_of e)

abbrev P4 : Body → Type 0
P4 e = BodyKeeps (body_of e)

abbrev P5 : Clause → Type 0
P5 e = Keeps (clause_of e)

abbrev P6 : Return → Type 0
P6 e = Keeps (return_of e)

-- each part of a tree, with the law of it
abbrev S0 : Type 0
S0 = (e : Entry) × P0 e

abbrev S1 : Type 0
S1 = (e : Expr) × P1 e

abbrev S2 : Type 0
S2 = (e : Stat) × P2 e

abbrev S3 : Type 0
S3 = (e : Block) × P3 e

abbrev S4 : Type 0
S4 = (e : Body) × P4 e

abbrev S5 : Type 0
S5 = (e : Clause) × P5 e

abbrev S6 : Type 0
S6 = (e : Return) × P6 e

entry_step : (x : Entry-F Entry Expr Stat Block Body Clause Return) (y : Entry-F S0 S1 S2 S3 S4 S5 S6) → map-Entry _ _ _ _ _ _ _ _ _ _ _ _ _ _ (λ e. e.0) (λ e. e.0) (λ e. e.0) (λ e. e.0) (λ e. e.0) (λ e. e.0) (λ e. e.0) y ≡ x → P0 (roll-Entry x)
entry_step x y is = subst Keeps (sym (fold-roll-Entry Events Said Events Events Bodied Events Events entry_at expr_at stat_at block_at body_at clause_at return_at x)) (subst (λ z. Keeps (entry_at (map-Entry _ _ _ _ _ _ _ _ _ _ _ _ _ _ entry_of said_of stat_of block_of body_of clause_of return_of z))) is (entry_keeps _ _ _ _ _ _ _ (λ e. e.0) (λ e. e.0) (λ e. e.0) (λ e. e.0) (λ e. e.0) (λ e. e.0) (λ e. e.0) (λ e. e.1) (λ e. e.1) (λ e. e.1) (λ e. e.1) (λ e. e.1) (λ e. e.1) (λ e. e.1) y))

expr_step : (x : Expr-F Entry Expr Stat Block Body Clause Return) (y : Expr-F S0 S1 S2 S3 S4 S5 S6) → map-Expr _ _ _ _ _ _ _ _ _ _ _ _ _ _ (λ e. e.0) (λ e. e.0) (λ e. e.0) (λ e. e.0) (λ e. e.0) (λ e. e.0) (λ e. e.0) y ≡ x → P1 (roll-Expr x)
expr_step x y is = subst AllKeep (sym (fold-roll-Expr Events Said Events Events Bodied Events Events entry_at expr_at stat_at block_at body_at clause_at return_at x)) (subst (λ z. AllKeep (expr_at (map-Expr _ _ _ _ _ _ _ _ _ _ _ _ _ _ entry_of said_of stat_of block_of body_of clause_of return_of z))) is (expr_keeps _ _ _ _ _ _ _ (λ e. e.0) (λ e. e.0) (λ e. e.0) (λ e. e.0) (λ e. e.0) (λ e. e.0) (λ e. e.0) (λ e. e.1) (λ e. e.1) (λ e. e.1) (λ e. e.1) (λ e. e.1) (λ e. e.1) (λ e. e.1) y))

stat_step : (x : Stat-F Entry Expr Stat Block Body Clause Return) (y : Stat-F S0 S1 S2 S3 S4 S5 S6) → map-Stat _ _ _ _ _ _ _ _ _ _ _ _ _ _ (λ e. e.0) (λ e. e.0) (λ e. e.0) (λ e. e.0) (λ e. e.0) (λ e. e.0) (λ e. e.0) y ≡ x → P2 (roll-Stat x)
stat_step x y is = subst Opens (sym (fold-roll-Stat Events Said Events Events Bodied Events Events entry_at expr_at stat_at block_at body_at clause_at return_at x)) (subst (λ z. Opens (stat_at (map-Stat _ _ _ _ _ _ _ _ _ _ _ _ _ _ entry_of said_of stat_of block_of body_of clause_of return_of z))) is (stat_opens _ _ _ _ _ _ _ (λ e. e.0) (λ e. e.0) (λ e. e.0) (λ e. e.0) (λ e. e.0) (λ e. e.0) (λ e. e.0) (λ e. e.1) (λ e. e.1) (λ e. e.1) (λ e. e.1) (λ e. e.1) (λ e. e.1) (λ e. e.1) y))

block_step : (x : Block-F Entry Expr Stat Block Body Clause Return) (y : Block-F S0 S1 S2 S3 S4 S5 S6) → map-Block _ _ _ _ _ _ _ _ _ _ _ _ _ _ (λ e. e.0) (λ e. e.0) (λ e. e.0) (λ e. e.0) (λ e. e.0) (λ e. e.0) (λ e. e.0) y ≡ x → P3 (roll-Block x)
block_step x y is = subst Opens (sym (fold-roll-Block Events Said Events Events Bodied Events Events entry_at expr_at stat_at block_at body_at clause_at return_at x)) (subst (λ z. Opens (block_at (map-Block _ _ _ _ _ _ _ _ _ _ _ _ _ _ entry_of said_of stat_of block_of body_of clause_of return_of z))) is (block_opens _ _ _ _ _ _ _ (λ e. e.0) (λ e. e.0) (λ e. e.0) (λ e. e.0) (λ e. e.0) (λ e. e.0) (λ e. e.0) (λ e. e.1) (λ e. e.1) (λ e. e.1) (λ e. e.1) (λ e. e.1) (λ e. e.1) (λ e. e.1) y))

body_step : (x : Body-F Entry Expr Stat Block Body Clause Return) (y : Body-F S0 S1 S2 S3 S4 S5 S6) → map-Body _ _ _ _ _ _ _ _ _ _ _ _ _ _ (λ e. e.0) (λ e. e.0) (λ e. e.0) (λ e. e.0) (λ e. e.0) (λ e. e.0) (λ e. e.0) y ≡ x → P4 (roll-Body x)
body_step x y is = subst BodyKeeps (sym (fold-roll-Body Events Said Events Events Bodied Events Events entry_at expr_at stat_at block_at body_at clause_at return_at x)) (subst (λ z. BodyKeeps (body_at (map-Body _ _ _ _ _ _ _ _ _ _ _ _ _ _ entry_of said_of stat_of block_of body_of clause_of return_of z))) is (body_keeps _ _ _ _ _ _ _ (λ e. e.0) (λ e. e.0) (λ e. e.0) (λ e. e.0) (λ e. e.0) (λ e. e.0) (λ e. e.0) (λ e. e.1) (λ e. e.1) (λ e. e.1) (λ e. e.1) (λ e. e.1) (λ e. e.1) (λ e. e.1) y))

clause_step : (x : Clause-F Entry Expr Stat Block Body Clause Return) (y : Clause-F S0 S1 S2 S3 S4 S5 S6) → map-Clause _ _ _ _ _ _ _ _ _ _ _ _ _ _ (λ e. e.0) (λ e. e.0) (λ e. e.0) (λ e. e.0) (λ e. e.0) (λ e. e.0) (λ e. e.0) y ≡ x → P5 (roll-Clause x)
clause_step x y is = subst Keeps (sym (fold-roll-Clause Events Said Events Events Bodied Events Events entry_at expr_at stat_at block_at body_at clause_at return_at x)) (subst (λ z. Keeps (clause_at (map-Clause _ _ _ _ _ _ _ _ _ _ _ _ _ _ entry_of said_of stat_of block_of body_of clause_of return_of z))) is (clause_keeps _ _ _ _ _ _ _ (λ e. e.0) (λ e. e.0) (λ e. e.0) (λ e. e.0) (λ e. e.0) (λ e. e.0) (λ e. e.0) (λ e. e.1) (λ e. e.1) (λ e. e.1) (λ e. e.1) (λ e. e.1) (λ e. e.1) (λ e. e.1) y))

return_step : (x : Return-F Entry Expr Stat Block Body Clause Return) (y : Return-F S0 S1 S2 S3 S4 S5 S6) → map-Return _ _ _ _ _ _ _ _ _ _ _ _ _ _ (λ e. e.0) (λ e. e.0) (λ e. e.0) (λ e. e.0) (λ e. e.0) (λ e. e.0) (λ e. e.0) y ≡ x → P6 (roll-Return x)
return_step x y is = subst Keeps (sym (fold-roll-Return Events Said Events Events Bodied Events Events entry_at expr_at stat_at block_at body_at clause_at return_at x)) (subst (λ z. Keeps (return_at (map-Return _ _ _ _ _ _ _ _ _ _ _ _ _ _ entry_of said_of stat_of block_of body_of clause_of return_of z))) is (return_keeps _ _ _ _ _ _ _ (λ e. e.0) (λ e. e.0) (λ e. e.0) (λ e. e.0) (λ e. e.0) (λ e. e.0) (λ e. e.0) (λ e. e.1) (λ e. e.1) (λ e. e.1) (λ e. e.1) (λ e. e.1) (λ e. e.1) (λ e. e.1) y))

pub exprs_keep : (e : Expr) → AllKeep (said_of e)
exprs_keep = ind-Expr P0 P1 P2 P3 P4 P5 P6 entry_step expr_step stat_step block_step body_step clause_step return_step

pub stats_open : (s : Stat) → Opens (stat_of s)
stats_open = ind-Stat P0 P1 P2 P3 P4 P5 P6 entry_step expr_step stat_step block_step body_step clause_step return_step

pub blocks_open : (b : Block) → Opens (block_of b)
blocks_open = ind-Block P0 P1 P2 P3 P4 P5 P6 entry_step expr_step stat_step block_step body_step clause_step return_step
