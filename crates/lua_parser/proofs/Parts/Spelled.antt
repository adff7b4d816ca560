-- A spelled tree's uses are numbered one after the other, and it has no more parts than words.
use Rattle.std.proofs.Common.{◌≡◌, ℕ, ◌+◌, ◌≤◌, ◌<◌, Bool, List, [], ◌∷◌, ◌++◌, length, Option, refl, sym, ap, subst, append_assoc, append-nil, arith}
use Rattle.std.specs.Option.{option_map}
use Rattle.std.proofs.lemmas.List.{length-append, length-map}
use Rattle.tl_base.specs.declared.place.ModuleKind.{ModuleKind}
use Rattle.lua_tree.specs.declared.annotation.Name.{Name}
use Rattle.lua_tree.specs.declared.annotation.Typed.{Typed}
use Rattle.lua_tree.specs.declared.syntax.Rest.{Rest}
use Rattle.lua_tree.specs.declared.syntax.Body.{Body}
use Rattle.lua_tree.specs.declared.syntax.Block.{Block}
use Rattle.lua_tree.specs.declared.syntax.Clause.{Clause}
use Rattle.lua_tree.specs.declared.syntax.Return.{Return}
use Rattle.lua_tree.specs.declared.syntax.Entry.{Entry}
use Rattle.lua_tree.specs.declared.syntax.Expr.{Expr}
use Rattle.lua_tree.specs.declared.syntax.Expr.TheVariants as e
use Rattle.lua_tree.specs.declared.syntax.Stat.{Stat}
use Rattle.lua_lexer.specs.declared.token.Token.{Token}
use Rattle.lua_lexer.specs.Tokens.{Lexed, InOrder}
use Rattle.lua_lexer.proofs.Order.{in_order}
use Rattle.lua_parser.specs.Words.{Word, Words, end_of_file, word_of, words_of}
use Rattle.lua_parser.specs.Grammar.Syntax.{Form, place, clause, block, SpellsTyped, SpellsTypeds, SpellsParams, SpellsParameters, SpellsNames, SpellsPath, Spells, SpellsPrefix, SpellsArguments, SpellsList, SpellsEntries, SpellsEntry, SpellsBody, SpellsBlock, SpellsValues, SpellsStat, SpellsTargets, SpellsClauses, SpellsElse, SpellsStep, SpellsInit, SpellsChunk}
use Rattle.lua_parser.specs.Parts.{Parts, use_of, local, body, locals, maybe_of, parts_of, parts_of_expr, parts_of_entry, parts_of_stat, parts_of_body, parts_of_clause, parts_of_return, AreNumbered}
use Rattle.lua_parser.proofs.Parts.Forms.{parts_of_exprs, parts_of_entries, parts_of_stats, parts_of_clauses, parts-Nil, parts-Bool, parts-Int, parts-Str, parts-Vararg, parts-Function, parts-Name, parts-Paren, parts-Field, parts-Index, parts-Call, parts-Method, parts-Table, parts-Unary, parts-Binary, parts-Keyed, parts-Named, parts-Item, parts-stat-Empty, parts-stat-Assign, parts-stat-Call, parts-stat-Break, parts-stat-Do, parts-stat-While, parts-stat-Repeat, parts-stat-If, parts-stat-NumericFor, parts-stat-GenericFor, parts-stat-Function, parts-stat-Method, parts-stat-LocalFunction, parts-stat-Local, parts-stat-Interface, parts-stat-Alias, parts-block, parts-returns, parts-clause, parts-body}

-- The uses among these are numbered from the first number on, up to the second.
abbrev pub Numbers : ℕ → Parts → ℕ → Type 0
Numbers n [] m = n ≡ m
Numbers n (use_of k ∷ ps) m = (k ≡ n) × Numbers (n + 1) ps m
Numbers n (local ∷ ps) m = Numbers n ps m
Numbers n (body ∷ ps) m = Numbers n ps m

numbers_both : (ps qs : Parts) (n m k : ℕ) → Numbers n ps m → Numbers m qs k → Numbers n (ps ++ qs) k
numbers_both [] qs n m k a b = subst (λ z. Numbers z qs k) (sym a) b
numbers_both (use_of j ∷ ps) qs n m k a b = (a.0, numbers_both ps qs (n + 1) m k a.1 b)
numbers_both (local ∷ ps) qs n m k a b = numbers_both ps qs n m k a b
numbers_both (body ∷ ps) qs n m k a b = numbers_both ps qs n m k a b

are_numbered : (ps : Parts) (n m : ℕ) → Numbers n ps m → AreNumbered n ps
are_numbered [] n m a = tt
are_numbered (use_of j ∷ ps) n m a = (a.0, are_numbered ps (n + 1) m a.1)
are_numbered (local ∷ ps) n m a = are_numbered ps n m a
are_numbered (body ∷ ps) n m a = are_numbered ps n m a

record Fits (n m : ℕ) (ps : Parts) (ts : Words) : Type 0 where
  numbers : Numbers n ps m
  few : length ps ≤ length ts

-- ---- from fewer words to more

nothing : {n : ℕ} {ts : Words} → Fits n n [] ts
nothing = record { numbers = refl; few = omega arith }

both : {n m k : ℕ} {ps qs : Parts} {ts us : Words} → Fits n m ps ts → Fits m k qs us → Fits n k (ps ++ qs) (ts ++ us)
both {n = n} {m = m} {k = k} {ps = ps} {qs = qs} {ts = ts} {us = us} f g = record { numbers = numbers_both ps qs n m k f.numbers g.numbers; few = omega (arith, f.few, g.few, length-append ps qs, length-append ts us) }

behind : {n m : ℕ} {ps : Parts} {ts : Words} (x : Word) → Fits n m ps ts → Fits n m ps (x ∷ ts)
behind x f = record { numbers = f.numbers; few = omega (arith, f.few) }

past : {n m : ℕ} {ps : Parts} {ts : Words} (us : Words) → Fits n m ps ts → Fits n m ps (us ++ ts)
past {ts = ts} us f = record { numbers = f.numbers; few = omega (arith, f.few, length-append us ts) }

before : {n m : ℕ} {ps : Parts} {ts : Words} → Fits n m ps ts → (us : Words) → Fits n m ps (ts ++ us)
before {ts = ts} f us = record { numbers = f.numbers; few = omega (arith, f.few, length-append ts us) }

one_use : {n : ℕ} (x : Word) → Fits n (n + 1) (use_of n ∷ []) (x ∷ [])
one_use x = record { numbers = (refl, refl); few = omega arith }

a_local : {n m : ℕ} {ps : Parts} {ts : Words} (x : Word) → Fits n m ps ts → Fits n m (local ∷ ps) (x ∷ ts)
a_local x f = record { numbers = f.numbers; few = omega (arith, f.few) }

a_body : {n m : ℕ} {ps : Parts} {ts : Words} (x : Word) → Fits n m ps ts → Fits n m (body ∷ ps) (x ∷ ts)
a_body x f = record { numbers = f.numbers; few = omega (arith, f.few) }

is : {n m : ℕ} {ps qs : Parts} {ts : Words} → qs ≡ ps → Fits n m ps ts → Fits n m qs ts
is {n = n} {m = m} {ts = ts} e f = subst (λ z. Fits n m z ts) (sym e) f

-- one in a row
alone : {n m : ℕ} {ps : Parts} {ts : Words} → Fits n m ps ts → Fits n m (ps ++ []) ts
alone {ps = ps} f = is (append-nil ps) f

-- the first of a row, and what stands behind the row
first : {n m : ℕ} {ts : Words} (ps qs rs : Parts) → Fits n m (ps ++ (qs ++ rs)) ts → Fits n m ((ps ++ qs) ++ rs) ts
first ps qs rs f = is (append_assoc ps qs rs) f

in_block : {n m : ℕ} {ts : Words} (ss : List Stat) (end : Option Return) → Fits n m (parts_of_stats ss ++ maybe_of (option_map parts_of_return end)) ts → Fits n m (parts_of (block ss end)) ts
in_block ss end f = is (parts-block ss end) f

-- ---- declarations

names_fit : {n : ℕ} {xs : List Name} {ts : Words} → SpellsNames xs ts → Fits n n (locals xs) ts
names_fit (SpellsNames.last_name x) = a_local _ nothing
names_fit (SpellsNames.more_names x q d) = a_local _ (behind _ (names_fit d))

typeds_fit : {kind : ModuleKind} {n : ℕ} {xs : List Typed} {ts : Words} → SpellsTypeds kind xs ts → Fits n n (locals xs) ts
typeds_fit (SpellsTypeds.last_typed (SpellsTyped.declared x d)) = a_local _ nothing
typeds_fit (SpellsTypeds.more_typed q (SpellsTyped.declared {ts = ts} x d) f) = a_local _ (past ts (behind _ (typeds_fit f)))

params_fit : {kind : ModuleKind} {n : ℕ} {xs : List Typed} {r : Option Rest} {ts : Words} → SpellsParams kind xs r ts → Fits n n (locals xs) ts
params_fit (SpellsParams.last_param (SpellsTyped.declared x d)) = a_local _ nothing
params_fit (SpellsParams.rest_param p d) = nothing
params_fit (SpellsParams.more_params q (SpellsTyped.declared {ts = ts} x d) f) = a_local _ (past ts (behind _ (params_fit f)))

parameters_fit : {kind : ModuleKind} {n : ℕ} {xs : List Typed} {r : Option Rest} {ts : Words} → SpellsParameters kind xs r ts → Fits n n (locals xs) ts
parameters_fit SpellsParameters.no_params = nothing
parameters_fit (SpellsParameters.some_params d) = params_fit d

path_fits : {n m : ℕ} {a : Expr} {ts : Words} → SpellsPath n m a ts → Fits n m (parts_of_expr a) ts
path_fits (SpellsPath.path_name n x) = is (parts-Name x.pos n x.text) (one_use _)
path_fits (SpellsPath.path_field {a = a} q x d) = is (parts-Field (place a) a x) (before (path_fits d) _)

-- ---- expressions, statements and blocks

module _ (kind : ModuleKind) where
  mutual
    expr_fits : {l n m : ℕ} {c : Bool} {a : Expr} {ts : Words} → Spells kind l n m c a ts → Fits n m (parts_of_expr a) ts
    expr_fits (Spells.nil p) = is (parts-Nil p) nothing
    expr_fits (Spells.false_word p) = is (parts-Bool p _) nothing
    expr_fits (Spells.true_word p) = is (parts-Bool p _) nothing
    expr_fits (Spells.integer p i) = is (parts-Int p i) nothing
    expr_fits (Spells.string p x) = is (parts-Str p x) nothing
    expr_fits (Spells.vararg p) = is (parts-Vararg p) nothing
    expr_fits (Spells.function {b = b} p d) = is (parts-Function p b) (behind _ (body_fits d))
    expr_fits (Spells.prefix d) = prefix_fits d
    expr_fits (Spells.table {es = es} p d) = is (parts-Table p es) (behind _ (entries_fit d))
    expr_fits (Spells.unary {a = a} p o d) = is (parts-Unary p o a) (behind _ (expr_fits d))
    expr_fits (Spells.binary {a = a} {b = b} q o l d f) = is (parts-Binary (place a) o a b) (both (expr_fits d) (behind _ (expr_fits f)))

    prefix_fits : {g : Form} {n m : ℕ} {a : Expr} {ts : Words} → SpellsPrefix kind g n m a ts → Fits n m (parts_of_expr a) ts
    prefix_fits (SpellsPrefix.name n x) = is (parts-Name x.pos n x.text) (one_use _)
    prefix_fits (SpellsPrefix.paren {a = a} p q d) = is (parts-Paren p a) (behind _ (before (expr_fits d) _))
    prefix_fits (SpellsPrefix.field {a = a} q x d) = is (parts-Field (place a) a x) (before (prefix_fits d) _)
    prefix_fits (SpellsPrefix.index {a = a} {b = b} p q d f) = is (parts-Index (place a) a b) (both (prefix_fits d) (behind _ (before (expr_fits f) _)))
    prefix_fits (SpellsPrefix.call {a = a} {es = es} d f) = is (parts-Call (place a) a es) (both (prefix_fits d) (arguments_fit f))
    prefix_fits (SpellsPrefix.method {a = a} {es = es} q x d f) = is (parts-Method (place a) a x es) (both (prefix_fits d) (behind _ (behind _ (arguments_fit f))))

    arguments_fit : {n m : ℕ} {es : List Expr} {ts : Words} → SpellsArguments kind n m es ts → Fits n m (parts_of_exprs es) ts
    arguments_fit (SpellsArguments.no_arguments p q) = nothing
    arguments_fit (SpellsArguments.arguments p q d) = behind _ (before (list_fits d) _)
    arguments_fit (SpellsArguments.table_argument {es = es} p d) = alone (is (parts-Table p es) (behind _ (entries_fit d)))
    arguments_fit (SpellsArguments.string_argument p x) = alone (is (parts-Str p x) nothing)

    list_fits : {n m : ℕ} {c : Bool} {es : List Expr} {ts : Words} → SpellsList kind n m c es ts → Fits n m (parts_of_exprs es) ts
    list_fits (SpellsList.last d) = alone (expr_fits d)
    list_fits (SpellsList.more q d f) = both (expr_fits d) (behind _ (list_fits f))

    entries_fit : {n m : ℕ} {es : List Entry} {ts : Words} → SpellsEntries kind n m es ts → Fits n m (parts_of_entries es) ts
    entries_fit (SpellsEntries.no_entry q) = nothing
    entries_fit (SpellsEntries.last_entry q d) = alone (before (entry_fits d) _)
    entries_fit (SpellsEntries.more_entries d b f) = both (entry_fits d) (behind _ (entries_fit f))

    entry_fits : {n m : ℕ} {x : Entry} {ts : Words} → SpellsEntry kind n m x ts → Fits n m (parts_of_entry x) ts
    entry_fits (SpellsEntry.keyed {a = a} {b = b} p q o d f) = is (parts-Keyed a b) (behind _ (both (expr_fits d) (behind _ (behind _ (expr_fits f)))))
    entry_fits (SpellsEntry.named_entry {a = a} x q d) = is (parts-Named x a) (behind _ (behind _ (expr_fits d)))
    entry_fits (SpellsEntry.item {a = a} d) = is (parts-Item a) (expr_fits d)

    body_fits : {n m : ℕ} {b : Body} {ts : Words} → SpellsBody kind n m b ts → Fits n m (parts_of_body b) ts
    body_fits (SpellsBody.function_body {xs = xs} {r = r} {o = o} {ss = ss} {end = end} {us = us} p q z d f g) =
        is (parts-body xs r o (block ss end)) (a_body _ (both (parameters_fit d) (behind _ (past us (before (in_block ss end (stats_fit g)) _)))))

    stats_fit : {outer : Bool} {n m : ℕ} {ss : List Stat} {end : Option Return} {ts : Words} → SpellsBlock kind outer n m ss end ts → Fits n m (parts_of_stats ss ++ maybe_of (option_map parts_of_return end)) ts
    stats_fit SpellsBlock.no_stats = nothing
    stats_fit (SpellsBlock.return_stat {es = es} p d j) = is (parts-returns p es) (behind _ (before (values_fit d) _))
    stats_fit (SpellsBlock.next_stat {x = x} {ss = ss} {end = end} d f h) = first (parts_of_stat x) (parts_of_stats ss) (maybe_of (option_map parts_of_return end)) (both (stat_fits d) (stats_fit f))

    values_fit : {n m : ℕ} {es : List Expr} {ts : Words} → SpellsValues kind n m es ts → Fits n m (parts_of_exprs es) ts
    values_fit SpellsValues.no_values = nothing
    values_fit (SpellsValues.values d) = list_fits d

    stat_fits : {outer : Bool} {n m : ℕ} {c : Bool} {x : Stat} {ts : Words} → SpellsStat kind outer n m c x ts → Fits n m (parts_of_stat x) ts
    stat_fits (SpellsStat.empty p) = is (parts-stat-Empty p) nothing
    stat_fits (SpellsStat.assign {x = x} {xs = xs} {es = es} q d f) = is (parts-stat-Assign (place x) (x ∷ xs) es) (both (targets_fit d) (behind _ (list_fits f)))
    stat_fits (SpellsStat.call_stat {a = a} d) = is (parts-stat-Call (place a) a) (prefix_fits d)
    stat_fits (SpellsStat.break_stat p) = is (parts-stat-Break p) nothing
    stat_fits (SpellsStat.do_stat {ss = ss} {end = end} p z d) = is (parts-stat-Do p (block ss end)) (behind _ (before (in_block ss end (stats_fit d)) _))
    stat_fits (SpellsStat.while_stat {a = a} {ss = ss} {end = end} p q z d f) = is (parts-stat-While p a (block ss end)) (behind _ (both (expr_fits d) (behind _ (before (in_block ss end (stats_fit f)) _))))
    stat_fits (SpellsStat.repeat_stat {a = a} {ss = ss} {end = end} p q d f) = is (parts-stat-Repeat p (block ss end) a) (behind _ (both (in_block ss end (stats_fit d)) (behind _ (expr_fits f))))
    stat_fits (SpellsStat.if_stat {cs = cs} {d = b} p d) = is (parts-stat-If p cs b) (behind _ (clauses_fit d))
    stat_fits (SpellsStat.numeric_for {a = a} {b = b} {step = step} {ss = ss} {end = end} p x q o y z d f j g) =
        is (parts-stat-NumericFor p x a b step (block ss end)) (behind _ (a_local _ (behind _ (both (expr_fits d) (behind _ (both (expr_fits f) (both (step_fits j) (behind _ (before (in_block ss end (stats_fit g)) _)))))))))
    stat_fits (SpellsStat.generic_for {xs = xs} {es = es} {ss = ss} {end = end} p q y z d f g) =
        is (parts-stat-GenericFor p xs es (block ss end)) (behind _ (both (names_fit d) (behind _ (both (list_fits f) (behind _ (before (in_block ss end (stats_fit g)) _))))))
    stat_fits (SpellsStat.function_stat {a = a} {b = b} p d f) = is (parts-stat-Function p a (e.Function p b)) (behind _ (both (path_fits d) (is (parts-Function p b) (body_fits f))))
    stat_fits (SpellsStat.method_stat {a = a} {b = b} p q x d f) = is (parts-stat-Method p a x (e.Function p b)) (behind _ (both (path_fits d) (behind _ (a_local _ (is (parts-Function p b) (body_fits f))))))
    stat_fits (SpellsStat.local_function {b = b} p q x d) = is (parts-stat-LocalFunction p x (e.Function p b)) (behind _ (behind _ (a_local _ (is (parts-Function p b) (body_fits d)))))
    stat_fits (SpellsStat.local_stat {xs = xs} {es = es} p d f) = is (parts-stat-Local p xs es) (behind _ (both (typeds_fit d) (init_fits f)))
    stat_fits (SpellsStat.interface_stat {fs = fs} p x z h d) = is (parts-stat-Interface p x fs) nothing
    stat_fits (SpellsStat.alias_stat {a = a} p x q h d) = is (parts-stat-Alias p x a) nothing

    targets_fit : {n m : ℕ} {a : Expr} {bs : List Expr} {ts : Words} → SpellsTargets kind n m a bs ts → Fits n m (parts_of_exprs (a ∷ bs)) ts
    targets_fit (SpellsTargets.last_target d) = alone (prefix_fits d)
    targets_fit (SpellsTargets.more_targets q d f) = both (prefix_fits d) (behind _ (targets_fit f))

    clauses_fit : {n m : ℕ} {cs : List Clause} {d : Option Block} {ts : Words} → SpellsClauses kind n m cs d ts → Fits n m (parts_of_clauses cs ++ maybe_of (option_map parts_of d)) ts
    clauses_fit (SpellsClauses.next_clause {a = a} {ss = ss} {end = end} {cs = cs} {d = b} q d f g) =
        first (parts_of_clause (clause a (block ss end))) (parts_of_clauses cs) (maybe_of (option_map parts_of b))
        (is (ap (λ z. z ++ (parts_of_clauses cs ++ maybe_of (option_map parts_of b))) (parts-clause a (block ss end)))
        (first (parts_of_expr a) (parts_of (block ss end)) (parts_of_clauses cs ++ maybe_of (option_map parts_of b)) (both (expr_fits d) (behind _ (both (in_block ss end (stats_fit f)) (else_fits g))))))

    else_fits : {n m : ℕ} {cs : List Clause} {d : Option Block} {ts : Words} → SpellsElse kind n m cs d ts → Fits n m (parts_of_clauses cs ++ maybe_of (option_map parts_of d)) ts
    else_fits (SpellsElse.no_else z) = nothing
    else_fits (SpellsElse.else_block {ss = ss} {end = end} q z d) = behind _ (before (in_block ss end (stats_fit d)) _)
    else_fits (SpellsElse.else_if q d) = behind _ (clauses_fit d)

    step_fits : {n m : ℕ} {a : Option Expr} {ts : Words} → SpellsStep kind n m a ts → Fits n m (maybe_of (option_map parts_of_expr a)) ts
    step_fits SpellsStep.no_step = nothing
    step_fits (SpellsStep.some_step q d) = behind _ (expr_fits d)

    init_fits : {n m : ℕ} {c : Bool} {es : List Expr} {ts : Words} → SpellsInit kind n m c es ts → Fits n m (parts_of_exprs es) ts
    init_fits SpellsInit.no_init = nothing
    init_fits (SpellsInit.some_init q d) = behind _ (list_fits d)

  pub numbered : {b : Block} {ts : Words} → SpellsChunk kind b ts → AreNumbered 0 (parts_of b)
  numbered (SpellsChunk.chunk {m = m} {ss = ss} {end = end} z d) = are_numbered (parts_of (block ss end)) 0 m (in_block ss end (stats_fit d)).numbers

  -- the end of the file is one word more
  pub fewer : {b : Block} {ts : Words} → SpellsChunk kind b ts → length (parts_of b) < length ts
  fewer (SpellsChunk.chunk {ss = ss} {end = end} {ts = ts} z d) = omega (arith, (in_block ss end (stats_fit d)).few, length-append ts (end_of_file z ∷ []))

-- ---- tokens and bytes

in_order_few : {all from : ℕ} {ts : List Token} → InOrder all from ts → length ts + from ≤ all + 1
in_order_few (InOrder.last t l k s z) = omega (arith, l)
in_order_few (InOrder.next t l s o) = omega (arith, l, s, in_order_few o)

pub fewer_than_tokens : {kind : ModuleKind} {b : Block} (source : List ℕ) (ts : List Token) → SpellsChunk kind b (words_of source ts) → length (parts_of b) < length ts
fewer_than_tokens {kind = kind} source ts d = omega (arith, fewer kind d, length-map ts (word_of source))

pub no_more_than_bytes : {kind : ModuleKind} {b : Block} (m : ℕ) (source : List ℕ) (ts : List Token) → Lexed m source ts → SpellsChunk kind b (words_of source ts) → length (parts_of b) ≤ length source
no_more_than_bytes m source ts l d = omega (arith, fewer_than_tokens source ts d, in_order_few (in_order l))
