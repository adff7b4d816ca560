-- What the forms of the language say of names, in order of place.
use Rattle.std.specs.Prelude.{ℕ, List, [], ◌∷◌, ◌++◌, map, length, Option, Some, None, is_some, codes}
use Rattle.std.specs.Option.{option_map_or}
use Rattle.std.specs.List.{flat_map}
use Rattle.tl_base.specs.declared.place.Pos.{Pos}
use Rattle.lua_tree.specs.declared.annotation.Name.{Name}
use Rattle.lua_tree.specs.declared.annotation.Typed.{Typed}
use Rattle.lua_tree.specs.declared.syntax.Entry.{Entry, fold-Entry}
use Rattle.lua_tree.specs.declared.syntax.Entry.TheOpen as open_tree
use Rattle.lua_tree.specs.declared.syntax.Entry.TheOpen.{Entry-F, Stat-F, Block-F, Body-F, Clause-F, Return-F}
use Rattle.lua_tree.specs.declared.syntax.Expr.{Expr, Expr-F, fold-Expr}
use Rattle.lua_tree.specs.declared.syntax.Stat.{Stat, fold-Stat}
use Rattle.lua_tree.specs.declared.syntax.Block.{Block, fold-Block}
use Rattle.lua_tree.specs.declared.syntax.Body.{Body, fold-Body}
use Rattle.lua_tree.specs.declared.syntax.Clause.{Clause, fold-Clause}
use Rattle.lua_tree.specs.declared.syntax.Return.{Return, fold-Return}
use Rattle.lua_tree.specs.Scopes.Events as says
use Rattle.lua_tree.specs.Scopes.Events.{Event}

abbrev pub Events : Type 0
Events = List Event

-- a text at its place
pub record Word : Type 0 where
  pub pos : Pos
  pub text : List ℕ

-- an expression: as a value, as the target of an assignment, as the function of a method statement; and what it is where it is a bare name or a literal string
pub record Said : Type 0 where
  pub value : Events
  pub target : Events
  pub method : Events
  pub name : Option Word
  pub literal : Option Word

-- a function, after what its parameters begin with that isn't written
abbrev pub Bodied : Type 0
Bodied = Events → Events

abbrev pub said : Events → Said
said es = record { value = es; target = es; method = es; name = None; literal = None }

abbrev pub values : List Said → Events
values es = flat_map (λ e. e.value) es

abbrev pub targets : List Said → Events
targets es = flat_map (λ e. e.target) es

abbrev pub optional : Option Said → Events
optional e = option_map_or (λ x. x.value) e []

-- names are declared one by one, and become visible together
abbrev pub declares : List Name → Events
declares ns = map (λ n. says.declare n.pos n.text) ns

abbrev pub appear : List Name → Event
appear ns = says.appear (length ns)

abbrev pub shows : List Name → Events
shows ns = declares ns ++ appear ns ∷ []

abbrev pub names : List Typed → List Name
names ps = map (λ p. p.name) ps

-- what stands in a scope of its own
abbrev pub scope : Event → Events → Events
scope begins es = begins ∷ es ++ says.finish ∷ []

abbrev pub self_at : Pos → Name
self_at p = record { pos = p; text = codes "self" }

abbrev pub hidden_self : Option Pos → Events
hidden_self p = option_map_or (λ q. shows (self_at q ∷ [])) p []

abbrev pub field_value : Option Word → Events → Name → Events
field_value None es key = es
field_value (Some w) es key = says.use_field w.pos w.text key.pos key.text ∷ []

abbrev pub field_target : Option Word → Events → Name → Events
field_target None es key = es
field_target (Some w) es key = says.assign_field w.pos w.text key.pos key.text ∷ []

-- a call of a bare name with one literal string says more
abbrev pub call_value : Option Word → List (Option Word) → Events → Events
call_value (Some f) (Some text ∷ []) es = says.call_text f.pos f.text text.pos text.text ∷ []
call_value f args es = es

abbrev pub expr_at : Expr-F Events Said Events Events Bodied Events Events → Said
expr_at (open_tree.Nil p) = said []
expr_at (open_tree.Bool p b) = said []
expr_at (open_tree.Int p n) = said []
expr_at (open_tree.Str p s) = record (said []) { literal = Some (record { pos = p; text = s }) }
expr_at (open_tree.Vararg p) = said (says.vararg p ∷ [])
expr_at (open_tree.«Expr::Function» p f) = record (said (f (hidden_self None))) { method = f (hidden_self (Some p)) }
expr_at (open_tree.Name p n s) = record (said (says.use_name p s ∷ [])) { target = says.assign_name p s ∷ []; name = Some (record { pos = p; text = s }) }
expr_at (open_tree.Paren p e) = said e.value
expr_at (open_tree.Field p e n) = record (said (field_value e.name e.value n)) { target = field_target e.name e.value n }
expr_at (open_tree.Index p e k) = said (e.value ++ k.value)
expr_at (open_tree.«Expr::Call» p f es) = said (call_value f.name (map (λ e. e.literal) es) (f.value ++ values es))
expr_at (open_tree.«Expr::Method» p e n es) = said (e.value ++ values es)
expr_at (open_tree.Table p es) = said (flat_map (λ e. e) es)
expr_at (open_tree.Unary p o e) = said e.value
expr_at (open_tree.Binary p o a b) = said (a.value ++ b.value)
-- a mark changes nothing
expr_at (open_tree.Mark k e) = e

abbrev pub entry_at : Entry-F Events Said Events Events Bodied Events Events → Events
entry_at (open_tree.Keyed k e) = k.value ++ e.value
entry_at (open_tree.Named n e) = e.value
entry_at (open_tree.Item e) = e.value

abbrev pub stat_at : Stat-F Events Said Events Events Bodied Events Events → Events
stat_at (open_tree.Empty p) = []
stat_at (open_tree.Assign p ts es) = targets ts ++ values es
stat_at (open_tree.«Stat::Call» p e) = e.value
stat_at (open_tree.Break p) = says.leave p ∷ []
stat_at (open_tree.Do p b) = scope says.block b
stat_at (open_tree.While p e b) = e.value ++ scope says.loop b
-- the condition sees the body's locals
stat_at (open_tree.Repeat p b e) = scope says.loop (b ++ e.value)
stat_at (open_tree.If p cs b) = flat_map (λ c. c) cs ++ option_map_or (scope says.block) b []
-- the variables of a loop are seen in its body, not where its bounds and its iterator are computed
stat_at (open_tree.NumericFor p n a b c d) = scope says.loop (declares (n ∷ []) ++ a.value ++ b.value ++ optional c ++ appear (n ∷ []) ∷ d)
stat_at (open_tree.GenericFor p ns es b) = scope says.loop (declares ns ++ values es ++ appear ns ∷ b)
stat_at (open_tree.«Stat::Function» p e f) = e.target ++ f.value
stat_at (open_tree.«Stat::Method» p e n f) = e.value ++ f.method
-- a local function sees itself
stat_at (open_tree.LocalFunction p n f) = shows (n ∷ []) ++ f.value
-- a local isn't seen in its own statement
stat_at (open_tree.Local p ns es) = declares (names ns) ++ values es ++ appear (names ns) ∷ []
stat_at (open_tree.Interface p n fs) = []
stat_at (open_tree.Alias p n t) = []

abbrev pub return_at : Return-F Events Said Events Events Bodied Events Events → Events
return_at r = values r.values

abbrev pub block_at : Block-F Events Said Events Events Bodied Events Events → Events
block_at b = flat_map (λ s. s) b.stats ++ option_map_or (λ r. r) b.result []

abbrev pub body_at : Body-F Events Said Events Events Bodied Events Events → Bodied
body_at b hidden = scope (says.function (is_some b.rest)) (hidden ++ shows (names b.params) ++ b.block)

abbrev pub clause_at : Clause-F Events Said Events Events Bodied Events Events → Events
clause_at c = c.condition.value ++ scope says.block c.block

abbrev pub said_of : Expr → Said
said_of = fold-Expr Events Said Events Events Bodied Events Events entry_at expr_at stat_at block_at body_at clause_at return_at

abbrev pub entry_of : Entry → Events
entry_of = fold-Entry Events Said Events Events Bodied Events Events entry_at expr_at stat_at block_at body_at clause_at return_at

abbrev pub stat_of : Stat → Events
stat_of = fold-Stat Events Said Events Events Bodied Events Events entry_at expr_at stat_at block_at body_at clause_at return_at

abbrev pub block_of : Block → Events
block_of = fold-Block Events Said Events Events Bodied Events Events entry_at expr_at stat_at block_at body_at clause_at return_at

abbrev pub body_of : Body → Bodied
body_of = fold-Body Events Said Events Events Bodied Events Events entry_at expr_at stat_at block_at body_at clause_at return_at

abbrev pub clause_of : Clause → Events
clause_of = fold-Clause Events Said Events Events Bodied Events Events entry_at expr_at stat_at block_at body_at clause_at return_at

abbrev pub return_of : Return → Events
return_of = fold-Return Events Said Events Events Bodied Events Events entry_at expr_at stat_at block_at body_at clause_at return_at
