-- What the reader still has to read, by what it has put away: each part that is open as the plan that it stands for.
use Rattle.std.specs.Prelude.{◌≡◌, ℕ, ◌+◌, ◌*◌, ◌<◌, ◌≤◌, ◌&&◌, Bool, true, false, List, [], ◌∷◌, length, Option, Some, None, Result, Ok, Err}
use Rattle.tl_base.specs.declared.place.Pos.{Pos}
use Rattle.lua_tree.specs.declared.annotation.Name.{Name}
use Rattle.lua_tree.specs.declared.annotation.Typed.{Typed}
use Rattle.lua_tree.specs.declared.annotation.TypeExpr.{TypeExpr}
use Rattle.lua_tree.specs.declared.syntax.Rest.{Rest}
use Rattle.lua_tree.specs.declared.syntax.Block.{Block}
use Rattle.lua_tree.specs.declared.syntax.Return.{Return}
use Rattle.lua_tree.specs.declared.syntax.Entry.{Entry}
use Rattle.lua_tree.specs.declared.syntax.Entry.TheVariants as entry
use Rattle.lua_tree.specs.declared.syntax.Stat.{Stat}
use Rattle.lua_tree.specs.declared.syntax.Stat.TheVariants as stat
use Rattle.lua_tree.specs.declared.syntax.Body.{Body}
use Rattle.lua_tree.specs.declared.syntax.Expr.{Expr}
use Rattle.lua_tree.specs.declared.syntax.Expr.TheVariants as e
use Rattle.lua_lexer.specs.declared.token.Keyword.TheVariants as w
use Rattle.lua_lexer.specs.declared.token.Symbol.TheVariants as s
use Rattle.lua_parser.specs.Words.{Words, key, sign, finish, keyword}
use Rattle.lua_parser.specs.Grammar.Levels.{level, unary_level}
use Rattle.lua_parser.specs.Grammar.Syntax.{Form, Target, Called, Enclosed, place, clause, block, returns, body, typed, rest_at}
use Rattle.lua_parser.specs.Machine.Plan.{Item, Plan, done, want, want_name, read, onward}
use Rattle.lua_parser.specs.Machine.Steps.{operand, suffix, block_then, is_typed}
use Rattle.lua_parser.specs.Machine.Run.{run}
use Rattle.lua_parser.specs.declared.starters.Start.{Start}
use Rattle.lua_parser.specs.declared.starters.Start.TheVariants as starts
use Rattle.lua_parser.specs.Outcomes.{IsOther, head_is, head_is_name}
use Rattle.lua_parser.specs.Readings.{first_place}
use Rattle.lua_parser.specs.declared.cursor.Stop.{Stop}
use Rattle.lua_parser.specs.declared.cursor.Stop.TheVariants as stop
use Rattle.lua_parser.specs.declared.reader.Form as declared_form
use Rattle.lua_parser.specs.declared.reader.Form.TheVariants as form
use Rattle.lua_parser.specs.declared.reader.Within.{Within}
use Rattle.lua_parser.specs.declared.reader.Within.TheVariants as within
use Rattle.lua_parser.specs.declared.reader.Called as declared_called
use Rattle.lua_parser.specs.declared.reader.ListOf.{ListOf}
use Rattle.lua_parser.specs.declared.reader.ListOf.TheVariants as list_of
use Rattle.lua_parser.specs.declared.reader.TableOf.TheVariants as table_of
use Rattle.lua_parser.specs.declared.reader.Table.{Table}
use Rattle.lua_parser.specs.declared.reader.Range.{Range}
use Rattle.lua_parser.specs.declared.reader.Frame.{Frame}
use Rattle.lua_parser.specs.declared.reader.Frame.TheVariants as frame
use Rattle.lua_parser.specs.declared.reader.Held.{Held}
use Rattle.lua_parser.specs.declared.reader.Signature.{Signature}
use Rattle.lua_parser.specs.declared.reader.Header.{Header}
use Rattle.lua_parser.specs.declared.reader.BodyOf.{BodyOf}
use Rattle.lua_parser.specs.declared.reader.BodyOf.TheVariants as body_of
use Rattle.lua_parser.specs.declared.reader.BlockOf.{BlockOf}
use Rattle.lua_parser.specs.declared.reader.BlockOf.TheVariants as block_of
use Rattle.lua_parser.specs.declared.reader.Outer.{Outer}
use Rattle.lua_parser.specs.declared.reader.Mode.{Mode}
use Rattle.lua_parser.specs.declared.reader.Mode.TheVariants as mode
use Rattle.lua_parser.specs.declared.reader.Reader.{Reader}
use Rattle.lua_parser.specs.declared.parsing.Step.{Step}
use Rattle.lua_parser.specs.declared.parsing.Step.TheVariants as steps

-- a stack, whose last element stands first, before a list
abbrev pub onto : {A : Type 0} → List A → List A → List A
onto [] ys = ys
onto (x ∷ xs) ys = onto xs (x ∷ ys)

abbrev pub form_of : declared_form.Form → Form
form_of form.Target = Target
form_of form.Called = Called
form_of form.Enclosed = Enclosed

-- how it goes on behind a whole expression, a whole statement and a `return` with its values
abbrev pub OnExpr : Type 0
OnExpr = Expr × ℕ × Bool → Plan Block

abbrev pub OnStat : Type 0
OnStat = Stat × ℕ × Bool → Plan Block

abbrev pub OnReturn : Type 0
OnReturn = Pos → List Expr × ℕ → Plan Block

-- behind an operand of an expression of at least this level
abbrev pub operated : ℕ → OnExpr → OnExpr
operated l f a = read (Item.operations l unary_level a.0 a.1 a.2) f

abbrev pub function_of : Signature → Block → Body
function_of g b = body g.params g.rest g.results b

-- behind a block that is for this
abbrev pub closed : BlockOf → List Stat × Option Return × ℕ → OnStat → OnExpr → Plan Block
closed (block_of.Do p) d k f = want (key w.End) λ _. k (stat.Do p (block d.0 d.1), d.2, false)
closed (block_of.While p a) d k f = want (key w.End) λ _. k (stat.While p a (block d.0 d.1), d.2, false)
closed (block_of.Repeat p) d k f = want (key w.Until) λ _. read (Item.an_expr 1 d.2) λ a. k (stat.Repeat p (block d.0 d.1) a.0, a.1, a.2)
closed (block_of.Then p cs a) d k f = read (Item.more_clauses d.2) λ r. k (stat.If p (onto cs (clause a (block d.0 d.1) ∷ r.0)) r.1, r.2, false)
closed (block_of.Else p cs) d k f = want (key w.End) λ _. k (stat.If p (onto cs []) (Some (block d.0 d.1)), d.2, false)
closed (block_of.Numeric r i) d k f = want (key w.End) λ _. k (stat.NumericFor r.pos r.name r.first r.limit i (block d.0 d.1), d.2, false)
closed (block_of.Generic p xs es) d k f = want (key w.End) λ _. k (stat.GenericFor p xs es (block d.0 d.1), d.2, false)
closed (block_of.Body (body_of.Operand l p) g) d k f = want (key w.End) λ _. operated l f (e.Function p (function_of g (block d.0 d.1)), d.2, false)
closed (block_of.Body (body_of.Function p a) g) d k f = want (key w.End) λ _. k (stat.Function p a (e.Function p (function_of g (block d.0 d.1))), d.2, false)
closed (block_of.Body (body_of.Method p a x) g) d k f = want (key w.End) λ _. k (stat.Method p a x (e.Function p (function_of g (block d.0 d.1))), d.2, false)
closed (block_of.Body (body_of.Local p x) g) d k f = want (key w.End) λ _. k (stat.LocalFunction p x (e.Function p (function_of g (block d.0 d.1))), d.2, false)

-- a block that is for this
abbrev pub opened : BlockOf → ℕ → OnStat → OnExpr → Plan Block
opened b n k f = read (Item.a_block false n false) λ d. closed b d k f

abbrev pub assignment : List Expr → List Expr → Stat
assignment ts es = stat.Assign (first_place ts) ts es

-- behind a part of a prefix
abbrev pub prefixed : Within → OnStat → OnExpr → Form → Expr → ℕ → Plan Block
prefixed (within.Expression l) k f c a n = read (Item.suffixes c a n) λ v. operated l f (v.1, v.2, true)
prefixed within.Statement k f c a n = read (Item.rest_of_stat c a n) k
prefixed (within.Targets ts) k f c a n = read (Item.targets c a n) λ r. k (assignment (onto ts (r.0 ∷ r.1)) r.2, r.3, r.4)

abbrev pub call_of : Expr → Option Name → List Expr → Expr
call_of a None es = e.Call (place a) a es
call_of a (Some x) es = e.Method (place a) a x es

-- behind the arguments of a call
abbrev pub called : declared_called.Called → OnStat → OnExpr → List Expr → ℕ → Plan Block
called c k f es n = prefixed c.within k f Called (call_of c.callee c.method es) n

-- behind a list of expressions
abbrev pub listed : ListOf → OnStat → OnReturn → OnExpr → List Expr × ℕ × Bool → Plan Block
listed (list_of.Arguments c) k r f es = want (sign s.CloseParen) λ _. called c k f es.0 es.1
listed (list_of.Assigned ts) k r f es = k (assignment (onto ts []) es.0, es.1, es.2)
listed (list_of.Locals p xs) k r f es = k (stat.Local p (onto xs []) es.0, es.1, es.2)
listed (list_of.Returned p) k r f es = r p (es.0, es.1)
listed (list_of.Iterated p xs) k r f es = want (key w.Do) λ _. opened (block_of.Generic p (onto xs []) es.0) es.1 k f

-- behind the entries of a table
abbrev pub tabled : Table → OnStat → OnExpr → List Entry × ℕ → Plan Block
tabled t k f r = elim t.of [ table_of.Operand l ↦ operated l f (e.Table t.pos (onto t.entries r.0), r.1, false) | table_of.Argument c ↦ called c k f (e.Table t.pos (onto t.entries r.0) ∷ []) r.1 ]

abbrev pub behind_entry : Table → OnStat → OnExpr → Entry → ℕ → Plan Block
behind_entry t k f x n = read (Item.behind_entry n) λ r. tabled t k f (x ∷ r.0, r.1)

-- behind a body
abbrev pub bodied : BodyOf → OnStat → OnExpr → Body × ℕ → Plan Block
bodied (body_of.Operand l p) k f b = operated l f (e.Function p b.0, b.1, false)
bodied (body_of.Function p a) k f b = k (stat.Function p a (e.Function p b.0), b.1, false)
bodied (body_of.Method p a x) k f b = k (stat.Method p a x (e.Function p b.0), b.1, false)
bodied (body_of.Local p x) k f b = k (stat.LocalFunction p x (e.Function p b.0), b.1, false)

-- behind the parameters of a body
abbrev pub signed : BodyOf → ℕ → OnStat → OnExpr → List Typed × Option Rest → Plan Block
signed o n k f ps = read Item.outcome λ r. opened (block_of.Body o (record { params = ps.0; rest = ps.1; results = r })) n k f

-- behind the names of a `local`, of a `for`, and behind what a function statement declares
abbrev pub local_of : Pos → List Typed → ℕ → OnStat → Plan Block
local_of p xs n k = read (Item.maybe_init n) λ i. k (stat.Local p xs i.0, i.1, i.2)

abbrev pub iterated : Pos → List Name → ℕ → OnStat → OnExpr → Plan Block
iterated p xs n k f = read (Item.exprs n) λ es. want (key w.Do) λ _. opened (block_of.Generic p xs es.0) es.1 k f

abbrev pub stat_of : OnStat → Stat × ℕ → Plan Block
stat_of k x = k (x.0, x.1, false)

abbrev pub range : Pos → Name → Expr → Expr → Range
range p x a b = record { pos = p; name = x; first = a; limit = b }

-- behind the limit of a numeric `for`
abbrev pub limited : Pos → Name → Expr → OnStat → OnExpr → OnExpr
limited p x a k f v = read (Item.maybe_step v.1) λ i. want (key w.Do) λ _. opened (block_of.Numeric (range p x a v.0) i.0) i.1 k f

-- behind an expression that is for this
abbrev pub framed : Frame → OnStat → OnReturn → OnExpr → OnExpr
framed (frame.Unary l p o) k r f v = operated l f (e.Unary p o v.0, v.1, v.2)
framed (frame.Right l o a) k r f v = read (Item.operations l (level o) (e.Binary (place a) o a v.0) v.1 v.2) f
framed (frame.Paren c p) k r f v = want (sign s.CloseParen) λ _. prefixed c k f Enclosed (e.Paren p v.0) v.1
framed (frame.Index c a) k r f v = want (sign s.CloseBracket) λ _. prefixed c k f Target (e.Index (place a) a v.0) v.1
framed (frame.Listed o es) k r f v = read (Item.more_exprs v.1 v.2) λ d. listed o k r f (onto es (v.0 ∷ d.0), d.1, d.2)
framed (frame.Key t) k r f v = want (sign s.CloseBracket) λ _. want (sign s.Assign) λ _. read (Item.an_expr 1 v.1) λ d. behind_entry t k f (entry.Keyed v.0 d.0) d.1
framed (frame.Keyed t a) k r f v = behind_entry t k f (entry.Keyed a v.0) v.1
framed (frame.Named t x) k r f v = behind_entry t k f (entry.Named x v.0) v.1
framed (frame.Item t) k r f v = behind_entry t k f (entry.Item v.0) v.1
framed (frame.While p) k r f v = want (key w.Do) λ _. opened (block_of.While p v.0) v.1 k f
framed (frame.Until p b) k r f v = k (stat.Repeat p b v.0, v.1, v.2)
framed (frame.Condition p cs) k r f v = want (key w.Then) λ _. opened (block_of.Then p cs v.0) v.1 k f
framed (frame.First p x) k r f v = want (sign s.Comma) λ _. read (Item.an_expr 1 v.1) λ d. limited p x v.0 k f d
framed (frame.Limit p x a) k r f v = limited p x a k f v
framed (frame.Step g) k r f v = want (key w.Do) λ _. opened (block_of.Numeric g (Some v.0)) v.1 k f

-- Behind an expression that is for the first of these. One that is for nothing stands as an empty statement; there is none.
abbrev pub valued : OnStat → OnReturn → List Held → OnExpr
valued k r [] v = k (stat.Empty (place v.0), v.1, v.2)
valued k r (h ∷ hs) v = framed h.frame k r (valued k r hs) v

abbrev pub is_outermost : List Outer → Bool
is_outermost [] = true
is_outermost (o ∷ os) = false

-- behind a whole block, and behind a statement and a `return` in one, with the statements before it
abbrev pub ended : List Outer → List Stat × Option Return × ℕ → Plan Block
ended [] d = want finish λ _. done (block d.0 d.1)
ended (o ∷ os) d = closed o.of d
    (λ x. read (Item.a_block (is_outermost os) x.1 x.2) λ r. ended os (onto o.stats (x.0 ∷ r.0), r.1, r.2))
    (valued (λ x. read (Item.a_block (is_outermost os) x.1 x.2) λ r. ended os (onto o.stats (x.0 ∷ r.0), r.1, r.2))
    (λ p es. read Item.maybe_semicolon λ _. ended os (onto o.stats [], Some (returns p es.0), es.1)) o.frames)

abbrev pub stated : List Outer → List Stat → OnStat
stated os ss x = read (Item.a_block (is_outermost os) x.1 x.2) λ r. ended os (onto ss (x.0 ∷ r.0), r.1, r.2)

abbrev pub returned : List Outer → List Stat → OnReturn
returned os ss p es = read Item.maybe_semicolon λ _. ended os (onto ss [], Some (returns p es.0), es.1)

-- All that is still to be read: in blocks in these, behind these statements, with expressions for these, where this is the next number of a use
-- and a call may follow or not.
abbrev pub plan_at : List Outer → List Stat → List Held → ℕ → Bool → Mode → Plan Block
plan_at os ss hs n c mode.Block = read (Item.a_block (is_outermost os) n c) λ d. ended os (onto ss d.0, d.1, d.2)
plan_at os ss hs n c (mode.Operand l) = read (Item.an_expr l n) (valued (stated os ss) (returned os ss) hs)
plan_at os ss hs n c (mode.Operation l h a) = read (Item.operations l h a n c) (valued (stated os ss) (returned os ss) hs)
plan_at os ss hs n c (mode.Prefix x f a) = prefixed x (stated os ss) (valued (stated os ss) (returned os ss) hs) (form_of f) a n
plan_at os ss hs n c (mode.Value a) = valued (stated os ss) (returned os ss) hs (a, n, c)
plan_at os ss hs n c (mode.Entries t) = read (Item.entries n) (tabled t (stated os ss) (valued (stated os ss) (returned os ss) hs))
plan_at os ss hs n c (mode.BehindEntry t) = read (Item.behind_entry n) (tabled t (stated os ss) (valued (stated os ss) (returned os ss) hs))
plan_at os ss hs n c (mode.Locals p xs) = read Item.more_typed λ ys. local_of p (onto xs ys) n (stated os ss)
plan_at os ss hs n c (mode.Names p xs d) = read Item.more_names λ ys. want (key w.In) λ _. iterated p (onto xs ys) n (stated os ss) (valued (stated os ss) (returned os ss) hs)
plan_at os ss hs n c (mode.Path p a) = read (Item.rest_of_function p a n) (stat_of (stated os ss))
plan_at os ss hs n c (mode.Params h may_end) = read (Item.params may_end) λ ps. signed h.of n (stated os ss) (valued (stated os ss) (returned os ss) hs) (onto h.params ps.0, ps.1)
plan_at os ss hs n c (mode.Statement x) = stated os ss (x, n, c)
plan_at os ss hs n c (mode.Ended x) = ended os (onto ss [], x, n)

abbrev pub plan : Reader → Mode → Plan Block
plan r m = plan_at r.outer r.stats r.frames r.uses r.takes_call m

-- how many expressions are open in the blocks around
abbrev pub held : List Outer → ℕ
held [] = 0
held (o ∷ os) = length o.frames + held os

abbrev pub rank : Mode → ℕ
rank mode.Block = 1
rank (mode.Operand l) = 0
rank (mode.Operation l h a) = 4
rank (mode.Prefix c f a) = 5
rank (mode.Value a) = 3
rank (mode.Entries t) = 3
rank (mode.BehindEntry t) = 0
rank (mode.Locals p xs) = 3
rank (mode.Names p xs d) = 0
rank (mode.Path p a) = 0
rank (mode.Params h may_end) = 0
rank (mode.Statement x) = 2
rank (mode.Ended x) = 0

-- what is left to do
abbrev pub weight_at : Words → List Held → List Outer → Mode → ℕ
weight_at ts hs os m = 8 * length ts + 2 * (length hs + held os) + rank m

abbrev pub weight : Reader → Mode → ℕ
weight r m = weight_at r.cursor r.frames r.outer m

-- One step of a plan, with so much left to do: what was to be read from the words before is to be read from the words behind, and less is
-- left to do; or no spelling goes on with the first word that is left.
abbrev pub GoesBy : Plan Block → ℕ → Reader → Result Mode Stop → Reader → Type 0
GoesBy p w r (Ok m) r' = (r'.kind ≡ r.kind) × (weight r' m < w) × (run r.kind (plan r' m) r'.cursor ≡ run r.kind p r.cursor)
GoesBy p w r (Err stop.Unexpected) r' = run r.kind p r.cursor ≡ Err r'.cursor
GoesBy p w r (Err e) r' = Unit {0}

abbrev pub Goes : Reader → Mode → Result Mode Stop → Reader → Type 0
Goes r m result r' = GoesBy (plan r m) (weight r m) r result r'

-- The first word is this operand alone.
abbrev pub IsConstant : ℕ → Expr → Words → Type 0
IsConstant n a [] = ⊥
IsConstant n a (x ∷ ts) = operand n x.pos x.kind ≡ Some (done (a, n, false))

-- with these frames
abbrev pub with_frames : List Held → Reader → Reader
with_frames hs r = record { alloc = r.alloc; kind = r.kind; cursor = r.cursor; uses = r.uses; takes_call = r.takes_call; stats = r.stats; frames = hs; outer = r.outer }

-- before these words
abbrev pub with_cursor : Words → Reader → Reader
with_cursor ts r = record { alloc = r.alloc; kind = r.kind; cursor = ts; uses = r.uses; takes_call = r.takes_call; stats = r.stats; frames = r.frames; outer = r.outer }

abbrev pub Pushes : Frame → ℕ → ℕ → Reader → Result (Unit {0}) Stop → Reader → Type 0
Pushes x h d r (Ok u) r' = r' ≡ with_frames (record { frame = x; height = h; depth = d } ∷ r.frames) r
Pushes x h d r (Err e) r' = IsOther e

-- the next use has another number
abbrev pub Numbers : Reader → Result ℕ Stop → Reader → Type 0
Numbers r (Ok n) r' = (n ≡ r.uses) × (r' ≡ record { alloc = r.alloc; kind = r.kind; cursor = r.cursor; uses = r.uses + 1; takes_call = r.takes_call; stats = r.stats; frames = r.frames; outer = r.outer })
Numbers r (Err e) r' = IsOther e

-- There is a first word, and no part of a prefix begins with it.
abbrev pub NoSuffix : Words → Type 0
NoSuffix [] = ⊥
NoSuffix (x ∷ ts) = (a : Expr) (n : ℕ) → suffix a n x.pos x.kind ≡ None

abbrev pub on_stat : Reader → OnStat
on_stat r = stated r.outer r.stats

abbrev pub on_return : Reader → OnReturn
on_return r = returned r.outer r.stats

abbrev pub on_expr : Reader → OnExpr
on_expr r = valued (on_stat r) (on_return r) r.frames

-- a statement behind its first word, which no name and no parenthesis is
abbrev pub stat_after : Start → Pos → ℕ → Plan (Stat × ℕ × Bool)
stat_after starts.Semicolon p n = done (stat.Empty p, n, false)
stat_after starts.Break p n = done (stat.Break p, n, false)
stat_after starts.Do p n = block_then n w.End λ d. done (stat.Do p d.0, d.1, false)
stat_after starts.While p n = read (Item.an_expr 1 n) λ a. want (key w.Do) λ _. block_then a.1 w.End λ d. done (stat.While p a.0 d.0, d.1, false)
stat_after starts.Repeat p n = block_then n w.Until λ d. read (Item.an_expr 1 d.1) λ a. done (stat.Repeat p d.0 a.0, a.1, a.2)
stat_after starts.If p n = read (Item.an_expr 1 n) λ a. want (key w.Then) λ _. read (Item.a_block false a.1 false) λ d. read (Item.more_clauses d.2) λ r. done (stat.If p (clause a.0 (block d.0 d.1) ∷ r.0) r.1, r.2, false)
stat_after starts.For p n = want_name λ x. read (Item.rest_of_for p x n) λ r. done (r.0, r.1, false)
stat_after starts.Function p n = want_name λ x. read (Item.rest_of_function p (e.Name x.pos n x.text) (n + 1)) λ r. done (r.0, r.1, false)
stat_after starts.Local p n = read (Item.rest_of_local p n) done

-- a statement behind its first word, and what stands behind it
abbrev pub begun_stat : Reader → Start → Pos → Plan Block
begun_stat r x p = onward (stat_after x p r.uses) (on_stat r)

-- An `end` is taken, and no call may follow.
abbrev pub Ends : Reader → Result (Unit {0}) Stop → Reader → Type 0
Ends r (Ok u) r' = (p : Pos) × (r.cursor ≡ keyword w.End p ∷ r'.cursor) × (r'.kind ≡ r.kind) × (r'.uses ≡ r.uses) × (r'.takes_call ≡ false) × (r'.stats ≡ r.stats) × (r'.frames ≡ r.frames) × (r'.outer ≡ r.outer)
Ends r (Err stop.Unexpected) r' = (r'.cursor ≡ r.cursor) × (head_is (key w.End) r.cursor ≡ false)
Ends r (Err e) r' = IsOther e

-- a name with its annotation, in modules of the reader's kind
abbrev pub ReadsAnnotation : Reader → Result (Option TypeExpr) Stop → Reader → Type 0
ReadsAnnotation r (Ok a) r' = (r' ≡ with_cursor r'.cursor r) × (length r'.cursor ≤ length r.cursor) × ((k : Option TypeExpr → Plan Block) → run r.kind (read Item.annotation k) r.cursor ≡ run r.kind (k a) r'.cursor)
ReadsAnnotation r (Err stop.Unexpected) r' = (k : Option TypeExpr → Plan Block) → run r.kind (read Item.annotation k) r.cursor ≡ Err r'.cursor
ReadsAnnotation r (Err e) r' = IsOther e

abbrev pub typed_plan : (Typed → Plan Block) → Plan Block
typed_plan k = want_name λ x. read Item.annotation λ a. k (typed x a)

abbrev pub ReadsTyped : Reader → Result Typed Stop → Reader → Type 0
ReadsTyped r (Ok a) r' = (r' ≡ with_cursor r'.cursor r) × (length r'.cursor < length r.cursor) × ((k : Typed → Plan Block) → run r.kind (typed_plan k) r.cursor ≡ run r.kind (k a) r'.cursor)
ReadsTyped r (Err stop.Unexpected) r' = (k : Typed → Plan Block) → run r.kind (typed_plan k) r.cursor ≡ Err r'.cursor
ReadsTyped r (Err e) r' = IsOther e

-- One step of the reading, or the end of it.
abbrev pub Steps : Reader → Mode → Result Step Stop → Reader → Type 0
Steps r m (Ok (steps.Next m')) r' = GoesBy (plan r m) (weight r m) r (Ok m') r'
Steps r m (Ok (steps.Done b)) r' = run r.kind (plan r m) r.cursor ≡ Ok b
Steps r m (Err e) r' = GoesBy (plan r m) (weight r m) r (Err e) r'

-- what all the reading gives
abbrev pub Reaches : Plan Block → Reader → Result Block Stop → Reader → Type 0
Reaches p r (Ok b) r' = run r.kind p r.cursor ≡ Ok b
Reaches p r (Err stop.Unexpected) r' = run r.kind p r.cursor ≡ Err r'.cursor
Reaches p r (Err e) r' = Unit {0}

-- Whether a name stands where the name of a type would, behind the first word of a statement.
abbrev pub is_type_stat : Reader → Bool
is_type_stat r = is_outermost r.outer && (is_typed r.kind && head_is_name r.cursor)

-- parameters behind these: behind `...`, from a parameter on, and behind one
abbrev pub rest_plan : Header → Pos → Reader → Plan Block
rest_plan h p r = read Item.annotation λ a. want (sign s.CloseParen) λ _. signed h.of r.uses (on_stat r) (on_expr r) (onto h.params [], Some (rest_at p a))

abbrev pub param_plan : Header → Reader → Plan Block
param_plan h r = typed_plan λ x. read Item.more_params λ ps. signed h.of r.uses (on_stat r) (on_expr r) (onto h.params (x ∷ ps.0), ps.1)

abbrev pub more_params_plan : Header → Reader → Plan Block
more_params_plan h r = read Item.more_params λ ps. signed h.of r.uses (on_stat r) (on_expr r) (onto h.params ps.0, ps.1)
