-- The loops over arguments and statements: what is done, and what the rules say of the rest.
use Rattle.std.proofs.Common.{◌≡◌, refl, sym, ◌∙◌, ap, subst, ℕ, length, arith, List, [], ◌∷◌, ◌++◌, map, Option, Some, None, Err}
use Rattle.std.specs.Option.{option_map}
use Rattle.std.proofs.lemmas.List.{map-append}
use Rattle.tl_base.specs.declared.refusal.Failure.{Failure}
use Rattle.tl_base.specs.declared.refusal.Failure.TheVariants as failure
use Rattle.tl_base.specs.declared.refusal.RefusalCode.TheVariants as code
use Rattle.lua_tree.specs.declared.scoped.Use.{Use}
use Rattle.lua_tree.specs.declared.syntax.Expr.{Expr}
use Rattle.lua_tree.specs.declared.syntax.Stat as declared_stat
use Rattle.lua_tree.specs.declared.syntax.Entry.TheViews.{roll-Block, the_lemmas}
use Rattle.lua_tree.proofs.Views.{block_of-roll}
use Rattle.lua_tree.specs.Tree as tree
use Rattle.lua_tree.specs.Tree.{Exp, Exps, Stat, Block, Function}
use Rattle.lua_tree.specs.declared.syntax.Return.{Return, out-Return}
use Rattle.lua_tree.specs.declared.syntax.Block as declared_block
use Rattle.lua_tree.specs.declared.syntax.Block.{out-Block}
use Rattle.lua_tree.specs.declared.syntax.Entry.TheFolds.{fold_out-Return}
use Rattle.lua_tree.specs.View.{SeenEntry, SeenReturn, SeenClause, entry_at, expr_at, stat_at, block_at, body_at, clause_at, return_at, exp_of, exps_of, stat_of, return_of, block_of, block_from, exps_from}
use Rattle.tl_types.specs.declared.types.Ty.TheVariants as ty
use Rattle.tl_rules.specs.Checked.{Checked, fine, fault, then_check}
use Rattle.tl_rules.specs.Locals.{Env}
use Rattle.tl_rules.specs.Expressions.{TypedExp}
use Rattle.tl_rules.specs.Orders.{plain_order, loose_order}
use Rattle.tl_rules.specs.Statements.{TypedExps, TypedStat, TypedBlock, check_value, check_arguments, check_stat, check_block}
use Rattle.tl_check.specs.declared.expressions.Typed.{Typed}
use Rattle.tl_check.specs.Answers.{Answers, typed_view, exps_view, stat_view, block_view}
use Rattle.tl_check.specs.Sequences.{statements_of, stats_view}

rolls : (b : declared_block.Block) → roll-Block (out-Block b) ≡ b
rolls b = search the_lemmas

block_seen : (b : declared_block.Block) → block_of b ≡ block_from (map stat_of (out-Block b).stats) (option_map return_of (out-Block b).result)
block_seen b = ap block_of (sym (rolls b)) ∙ block_of-roll (out-Block b).stats (out-Block b).result

return_place : (r : Return) → (return_of r).place ≡ (out-Return r).pos
return_place r = ap (λ s. s.place) (fold_out-Return SeenEntry Exp Stat Block Function SeenClause SeenReturn entry_at expr_at stat_at block_at body_at clause_at return_at r)

pub none_left : {A : Type 0} (n : ℕ) (xs : List A) → n ≡ 0 → n ≡ length xs → xs ≡ []
none_left n [] e h = refl
none_left n (x ∷ xs) e h = absurd (omega arith)

-- values before others
abbrev pub pushed : List Exp → Exps → Exps
pushed [] es = es
pushed (d ∷ ds) es = tree.push d (pushed ds es)

pushed_on : (ds : List Exp) (d : Exp) (es : Exps) → pushed (ds ++ d ∷ []) es ≡ pushed ds (tree.push d es)
pushed_on [] d es = refl
pushed_on (x ∷ ds) d es = ap (tree.push x) (pushed_on ds d es)

pushed_all : (ds : List Exp) → pushed ds tree.none ≡ exps_from ds
pushed_all [] = refl
pushed_all (d ∷ ds) = ap (tree.push d) (pushed_all ds)

module _ (uses : List Use) where
  abbrev arguments : Env → Exps → Checked TypedExps
  arguments env es = check_arguments uses plain_order loose_order env es

  abbrev valued : Env → Exp → Checked TypedExp
  valued env e = check_value uses plain_order loose_order env ty.Value e

  -- an argument before others, be it one that gives many values
  abbrev first_then : Env → Exp → Exps → Checked TypedExps
  first_then env e es = then_check (valued env e) (λ v. then_check (arguments v.env es) (λ vs. fine (record { env = vs.env; trees = tree.push v.tree vs.trees })))

  arguments_push : (env : Env) (e : Exp) (es : Exps) → arguments env (tree.push e es) ≡ first_then env e es
  arguments_push env (tree.one_of m) tree.none = refl
  arguments_push env (tree.one_of m) (tree.ends n) = refl
  arguments_push env (tree.one_of m) (tree.more a es) = refl
  arguments_push env e es = refl

  abbrev pub after_exps : List Exp → Checked TypedExps → Checked TypedExps
  after_exps done r = then_check r (λ vs. fine (record { env = vs.env; trees = pushed done vs.trees }))

  exps_none : (r : Checked TypedExps) → after_exps [] r ≡ r
  exps_none (fine vs) = refl
  exps_none (fault c p) = refl

  exps_one : (done : List Exp) (e : Exp) (r : Checked TypedExps) → after_exps done (then_check r (λ vs. fine (record { env = vs.env; trees = tree.push e vs.trees }))) ≡ after_exps (done ++ e ∷ []) r
  exps_one done e (fine vs) = ap (λ ts. fine (record { env = vs.env; trees = ts })) (sym (pushed_on done e vs.trees))
  exps_one done e (fault c p) = refl

  pub exps_start : (env : Env) (done items all : List Expr) → done ≡ [] → items ≡ all → after_exps (map exp_of done) (arguments env (exps_of items)) ≡ arguments env (exps_of all)
  exps_start env done items all d i = rw d (rw i (exps_none (arguments env (exps_of all))))

  pub exps_step : (env : Env) (done done1 items rest : List Expr) (e : Expr) (r : Checked TypedExps) (v : Typed) → items ≡ e ∷ rest → done1 ≡ done ++ v.tree ∷ [] → valued env (exp_of e) ≡ fine (typed_view env v)
      → after_exps (map exp_of done) (arguments env (exps_of items)) ≡ r → after_exps (map exp_of done1) (arguments env (exps_of rest)) ≡ r
  exps_step env done done1 items rest e r v i d h inv =
      let pushed : map exp_of done1 ≡ map exp_of done ++ exp_of v.tree ∷ [] = ap (map exp_of) d ∙ map-append exp_of done (v.tree ∷ []) in
      let rest_of = λ (w : TypedExp). then_check (arguments w.env (exps_of rest)) (λ vs. fine (record { env = vs.env; trees = tree.push w.tree vs.trees })) in
      let one : after_exps (map exp_of done) (arguments env (exps_of (e ∷ rest))) ≡ after_exps (map exp_of done ++ exp_of v.tree ∷ []) (arguments env (exps_of rest)) =
      ap (after_exps (map exp_of done)) (arguments_push env (exp_of e) (exps_of rest) ∙ ap (λ z. then_check z rest_of) h) ∙ exps_one (map exp_of done) (exp_of v.tree) (arguments env (exps_of rest)) in
      ap (λ z. after_exps z (arguments env (exps_of rest))) pushed ∙ sym one ∙ subst (λ xs. after_exps (map exp_of done) (arguments env (exps_of xs)) ≡ r) i inv

  pub exps_stop : (env : Env) (done items rest : List Expr) (e : Expr) (r : Checked TypedExps) (x : Failure) → items ≡ e ∷ rest → after_exps (map exp_of done) (arguments env (exps_of items)) ≡ r → Answers (typed_view env) (valued env (exp_of e)) (Err x)
      → Answers (exps_view env) r (Err x)
  exps_stop env done items rest e r (failure.Refused y) i inv h =
      let rest_of = λ (w : TypedExp). then_check (arguments w.env (exps_of rest)) (λ vs. fine (record { env = vs.env; trees = tree.push w.tree vs.trees })) in
      sym (subst (λ xs. after_exps (map exp_of done) (arguments env (exps_of xs)) ≡ r) i inv) ∙ ap (after_exps (map exp_of done)) (arguments_push env (exp_of e) (exps_of rest) ∙ ap (λ z. then_check z rest_of) h)
  exps_stop env done items rest e r failure.NoMemory i inv h = tt

  pub exps_done : (env : Env) (done items : List Expr) (r : Checked TypedExps) → items ≡ [] → after_exps (map exp_of done) (arguments env (exps_of items)) ≡ r → r ≡ fine (exps_view env done)
  exps_done env done items r i inv = sym inv ∙ rw i (ap (λ ts. fine (record { env = env; trees = ts })) (pushed_all (map exp_of done)))

  -- ---- the same for statements
  abbrev checked : Env → Block → Checked TypedBlock
  checked env b = check_block uses plain_order loose_order env b

  abbrev stats_before : List Stat → Block → Block
  stats_before [] b = b
  stats_before (s ∷ ss) b = tree.next s (stats_before ss b)

  abbrev pub after_stats : List Stat → Checked TypedBlock → Checked TypedBlock
  after_stats done r = then_check r (λ t. fine (record { env = t.env; tree = stats_before done t.tree }))

  before_on : (ds : List Stat) (d : Stat) (b : Block) → stats_before (ds ++ d ∷ []) b ≡ stats_before ds (tree.next d b)
  before_on [] d b = refl
  before_on (x ∷ ds) d b = ap (tree.next x) (before_on ds d b)

  before_all : (ds : List Stat) → stats_before ds tree.finish ≡ block_from ds None
  before_all [] = refl
  before_all (d ∷ ds) = ap (tree.next d) (before_all ds)

  stats_none : (r : Checked TypedBlock) → after_stats [] r ≡ r
  stats_none (fine t) = refl
  stats_none (fault c p) = refl

  stats_one : (done : List Stat) (s : Stat) (r : Checked TypedBlock) → after_stats done (then_check r (λ t. fine (record { env = t.env; tree = tree.next s t.tree }))) ≡ after_stats (done ++ s ∷ []) r
  stats_one done s (fine t) = ap (λ b. fine (record { env = t.env; tree = b })) (sym (before_on done s t.tree))
  stats_one done s (fault c p) = refl

  pub stats_start : (env : Env) (last : Option SeenReturn) (done items all : List declared_stat.Stat) → done ≡ [] → items ≡ all
      → after_stats (map stat_of done) (checked env (block_from (map stat_of items) last)) ≡ checked env (block_from (map stat_of all) last)
  stats_start env last done items all d i = rw d (rw i (stats_none (checked env (block_from (map stat_of all) last))))

  pub stats_step : (env env1 : Env) (last : Option SeenReturn) (done done1 items rest : List declared_stat.Stat) (s t : declared_stat.Stat) (r : Checked TypedBlock) → items ≡ s ∷ rest → done1 ≡ done ++ t ∷ []
      → check_stat uses plain_order loose_order env (stat_of s) ≡ fine (stat_view env1 t)
      → after_stats (map stat_of done) (checked env (block_from (map stat_of items) last)) ≡ r → after_stats (map stat_of done1) (checked env1 (block_from (map stat_of rest) last)) ≡ r
  stats_step env env1 last done done1 items rest s t r i d h inv =
      let pushed : map stat_of done1 ≡ map stat_of done ++ stat_of t ∷ [] = ap (map stat_of) d ∙ map-append stat_of done (t ∷ []) in
      let one : after_stats (map stat_of done) (checked env (block_from (map stat_of (s ∷ rest)) last)) ≡ after_stats (map stat_of done ++ stat_of t ∷ []) (checked env1 (block_from (map stat_of rest) last)) = rw h (stats_one (map stat_of done) (stat_of t) (checked env1 (block_from (map stat_of rest) last))) in
      ap (λ z. after_stats z (checked env1 (block_from (map stat_of rest) last))) pushed ∙ sym one ∙ subst (λ xs. after_stats (map stat_of done) (checked env (block_from (map stat_of xs) last)) ≡ r) i inv

  pub stats_stop : (env env1 : Env) (last : Option SeenReturn) (done items rest : List declared_stat.Stat) (s : declared_stat.Stat) (r : Checked TypedBlock) (x : Failure) → items ≡ s ∷ rest
      → after_stats (map stat_of done) (checked env (block_from (map stat_of items) last)) ≡ r → Answers (stat_view env1) (check_stat uses plain_order loose_order env (stat_of s)) (Err x) → Answers (stats_view env1) r (Err x)
  stats_stop env env1 last done items rest s r (failure.Refused y) i inv h = rw (sym inv) (rw i (rw h refl))
  stats_stop env env1 last done items rest s r failure.NoMemory i inv h = tt

  -- at the end of the statements
  pub stats_done : (env : Env) (done items : List declared_stat.Stat) (r : Checked TypedBlock) → items ≡ [] → after_stats (map stat_of done) (checked env (block_from (map stat_of items) None)) ≡ r → r ≡ fine (stats_view env done)
  stats_done env done items r i inv = sym inv ∙ rw i (ap (λ b. fine (record { env = env; tree = b })) (before_all (map stat_of done)))

  -- a `return` behind statements has no rule
  abbrev pub ended : Option SeenReturn → TypedBlock → Checked TypedBlock
  ended None t = fine t
  ended (Some r) t = fault code.X1 r.place

  next_ended : (s : Stat) (last : Option SeenReturn) (r : Checked TypedBlock) → then_check (then_check r (ended last)) (λ t. fine (record { env = t.env; tree = tree.next s t.tree })) ≡ then_check (then_check r (λ t. fine (record { env = t.env; tree = tree.next s t.tree }))) (ended last)
  next_ended s None (fine t) = refl
  next_ended s (Some l) (fine t) = refl
  next_ended s last (fault c p) = refl

  stat_ended : (o : Checked TypedStat) (ss : List Stat) (last : Option SeenReturn) → ((env : Env) → checked env (block_from ss last) ≡ then_check (checked env (block_from ss None)) (ended last))
      → then_check o (λ t. then_check (checked t.env (block_from ss last)) (λ ts. fine (record { env = ts.env; tree = tree.next t.tree ts.tree })))
      ≡ then_check (then_check o (λ t. then_check (checked t.env (block_from ss None)) (λ ts. fine (record { env = ts.env; tree = tree.next t.tree ts.tree })))) (ended last)
  stat_ended (fine t) ss last h = ap (λ r. then_check r (λ ts. fine (record { env = ts.env; tree = tree.next t.tree ts.tree }))) (h t.env) ∙ next_ended t.tree last (checked t.env (block_from ss None))
  stat_ended (fault c p) ss last h = refl

  -- a block is its statements, and then its end
  pub block_ends : (env : Env) (ss : List Stat) (last : Option SeenReturn) → checked env (block_from ss last) ≡ then_check (checked env (block_from ss None)) (ended last)
  block_ends env [] None = refl
  block_ends env [] (Some l) = refl
  block_ends env (s ∷ ss) last = stat_ended (check_stat uses plain_order loose_order env s) ss last (λ e. block_ends e ss last)

  pub block_stops : (env env1 : Env) (b : declared_block.Block) (x : Failure) → Answers (stats_view env1) (checked env (statements_of (out-Block b).stats)) (Err x) → Answers (block_view env1) (checked env (block_of b)) (Err x)
  block_stops env env1 b (failure.Refused y) h =
      ap (checked env) (block_seen b) ∙ block_ends env (map stat_of (out-Block b).stats) (option_map return_of (out-Block b).result) ∙ ap (λ r. then_check r (ended (option_map return_of (out-Block b).result))) h
  block_stops env env1 b failure.NoMemory h = tt

  pub block_returns : (env env1 : Env) (b : declared_block.Block) (done : List declared_stat.Stat) (last : Return) → (out-Block b).result ≡ Some last
      → checked env (statements_of (out-Block b).stats) ≡ fine (stats_view env1 done) → checked env (block_of b) ≡ fault code.X1 (out-Return last).pos
  block_returns env env1 b done last i h =
      ap (checked env) (block_seen b) ∙ (block_ends env (map stat_of (out-Block b).stats) (option_map return_of (out-Block b).result) ∙ (ap (λ r. then_check r (ended (option_map return_of (out-Block b).result))) h
      ∙ (ap (λ r. ended (option_map return_of r) (stats_view env1 done)) i ∙ ap (fault code.X1) (return_place last))))

  pub block_done : (env env1 : Env) (b : declared_block.Block) (done : List declared_stat.Stat) → (out-Block b).result ≡ None → checked env (statements_of (out-Block b).stats) ≡ fine (stats_view env1 done)
      → checked env (block_of b) ≡ fine (block_view env1 (roll-Block (record { stats = done; result = None })))
  block_done env env1 b done i h =
      ap (checked env) (block_seen b) ∙ (block_ends env (map stat_of (out-Block b).stats) (option_map return_of (out-Block b).result) ∙ (ap (λ r. then_check r (ended (option_map return_of (out-Block b).result))) h
      ∙ (ap (λ r. ended (option_map return_of r) (stats_view env1 done)) i ∙ ap (λ t. fine (record { env = env1; tree = t })) (sym (block_of-roll done None)))))
