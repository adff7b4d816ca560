-- Single steps of the reader, as equations between runs.
use Rattle.std.proofs.Common.{◌≡◌, ℕ, ◌<◌, ◌≤◌, Bool, true, false, List, [], ◌∷◌, Option, Some, None, Result, Ok, Err, drop, refl, sym, ap, ◌∙◌, subst, arith}
use Rattle.std.specs.Prelude.{if◌then◌else◌}
use Rattle.tl_base.specs.declared.place.Pos.{Pos}
use Rattle.tl_base.specs.declared.place.ModuleKind.{ModuleKind}
use Rattle.lua_tree.specs.declared.syntax.Expr.{Expr}
use Rattle.lua_tree.specs.declared.syntax.Expr.TheVariants as e
use Rattle.lua_tree.specs.declared.syntax.Block.{Block}
use Rattle.lua_tree.specs.declared.syntax.Stat.TheVariants as stat
use Rattle.lua_lexer.specs.declared.token.Keyword.TheVariants as w
use Rattle.lua_lexer.specs.declared.token.Symbol.TheVariants as s
use Rattle.lua_parser.specs.Words.{Word, Words, WordKind, Mark, mark, marked, symbol, quoted, key, sign, finish}
use Rattle.lua_parser.specs.Grammar.Syntax.{Form, Target, Called, place}
use Rattle.lua_parser.specs.Machine.Plan.{Item, Plan, Reply, stuck, takes, done, want, want_name, read, onward}
use Rattle.lua_parser.specs.Machine.Steps.{is_sign, suffix, end_of_stat, values_step, assigned, or_ends, or_else, both, going, begun, start_expr, start_exprs}
use Rattle.lua_parser.specs.Machine.Run.{run}
use Rattle.lua_parser.specs.Outcomes.{head_is, head_pos, head_starter, head_suffix, starter_of, suffix_of, begins_arguments, TakesMark}
use Rattle.lua_parser.specs.declared.starters.Starter.TheVariants as starts
use Rattle.lua_parser.specs.declared.starters.Suffix.TheVariants as suffixes
use Rattle.lua_parser.specs.declared.reader.Within.{Within}
use Rattle.lua_parser.specs.declared.reader.Within.TheVariants as within
use Rattle.lua_parser.specs.declared.cursor.Stop.{Stop}
use Rattle.lua_parser.specs.declared.cursor.Stop.TheVariants as stop
use Rattle.lua_parser.specs.declared.reader.ListOf.{ListOf}
use Rattle.lua_parser.specs.declared.reader.ListOf.TheVariants as list_of
use Rattle.lua_parser.specs.declared.reader.Called.{Called as Called-of}
use Rattle.lua_parser.specs.declared.reader.Held.{Held}
use Rattle.lua_parser.specs.declared.reader.Frame.TheVariants as frame
use Rattle.lua_parser.specs.declared.reader.Mode.{Mode}
use Rattle.lua_parser.specs.declared.reader.Reader.{Reader}
use Rattle.lua_parser.specs.Stacks.{OnExpr, OnStat, OnReturn, operated, prefixed, framed, listed, called, call_of, onto, assignment, plan, plan_at, weight, weight_at, with_frames, with_cursor, GoesBy, Goes, NoSuffix}
use Rattle.lua_parser.proofs.Viability.Plans.{word_is}
use Rattle.lua_parser.proofs.Completeness.Plans.{on, read_on, onward_assoc, begins_as, on_going, if_false}

onward_done : {A : Type 0} (p : Plan A) → onward p done ≡ p
onward_done (done a) = refl
onward_done (want m k) = λ i. want m (λ q. onward_done (k q) i)
onward_done (want_name k) = λ i. want_name (λ q. onward_done (k q) i)
onward_done (read j k) = λ i. read j (λ q. onward_done (k q) i)

abbrev word_with : Pos → Words → WordKind → Words
word_with p us k = record { kind = k; pos = p } ∷ us

-- what begins with a mark has it as its first word
pub begun_by : (m : Mark) (ts new : Words) → head_is m ts ≡ true → new ≡ drop 1 ts → ts ≡ marked m (head_pos ts) ∷ new
begun_by m [] new h e = cc
begun_by m (x ∷ us) new h e = ap (λ y. y ∷ us) (word_is m x.kind x.pos h) ∙ ap (λ y. marked m x.pos ∷ y) (sym e)

paren_kind : (k : WordKind) → starter_of k ≡ starts.OpenParen → k ≡ mark (sign s.OpenParen)
paren_kind (mark (key w.Nil)) h = cc
paren_kind (mark (key w.False)) h = cc
paren_kind (mark (key w.True)) h = cc
paren_kind (mark (sign s.Dots)) h = cc
paren_kind (mark (key w.Function)) h = cc
paren_kind (mark (sign s.OpenParen)) h = refl
paren_kind (mark (sign s.OpenBrace)) h = cc
paren_kind (mark (key w.Not)) h = cc
paren_kind (mark (sign s.Hash)) h = cc
paren_kind (mark (sign s.Minus)) h = cc
paren_kind (mark (sign s.Tilde)) h = cc
paren_kind (WordKind.number i) h = cc
paren_kind (WordKind.text t) h = cc
paren_kind (WordKind.name t) h = cc
paren_kind k h = cc

pub paren_begins : (ts new : Words) → head_starter ts ≡ starts.OpenParen → new ≡ drop 1 ts → ts ≡ marked (sign s.OpenParen) (head_pos ts) ∷ new
paren_begins [] new h e = cc
paren_begins (x ∷ us) new h e = ap (word_with x.pos us) (paren_kind x.kind h) ∙ ap (λ y. marked (sign s.OpenParen) x.pos ∷ y) (sym e)

brace_kind : (k : WordKind) → starter_of k ≡ starts.OpenBrace → k ≡ mark (sign s.OpenBrace)
brace_kind (mark (key w.Nil)) h = cc
brace_kind (mark (key w.False)) h = cc
brace_kind (mark (key w.True)) h = cc
brace_kind (mark (sign s.Dots)) h = cc
brace_kind (mark (key w.Function)) h = cc
brace_kind (mark (sign s.OpenParen)) h = cc
brace_kind (mark (sign s.OpenBrace)) h = refl
brace_kind (mark (key w.Not)) h = cc
brace_kind (mark (sign s.Hash)) h = cc
brace_kind (mark (sign s.Minus)) h = cc
brace_kind (mark (sign s.Tilde)) h = cc
brace_kind (WordKind.number i) h = cc
brace_kind (WordKind.text t) h = cc
brace_kind (WordKind.name t) h = cc
brace_kind k h = cc

pub brace_begins : (ts new : Words) → head_starter ts ≡ starts.OpenBrace → new ≡ drop 1 ts → ts ≡ marked (sign s.OpenBrace) (head_pos ts) ∷ new
brace_begins [] new h e = cc
brace_begins (x ∷ us) new h e = ap (word_with x.pos us) (brace_kind x.kind h) ∙ ap (λ y. marked (sign s.OpenBrace) x.pos ∷ y) (sym e)

function_kind : (k : WordKind) → starter_of k ≡ starts.Function → k ≡ mark (key w.Function)
function_kind (mark (key w.Nil)) h = cc
function_kind (mark (key w.False)) h = cc
function_kind (mark (key w.True)) h = cc
function_kind (mark (sign s.Dots)) h = cc
function_kind (mark (key w.Function)) h = refl
function_kind (mark (sign s.OpenParen)) h = cc
function_kind (mark (sign s.OpenBrace)) h = cc
function_kind (mark (key w.Not)) h = cc
function_kind (mark (sign s.Hash)) h = cc
function_kind (mark (sign s.Minus)) h = cc
function_kind (mark (sign s.Tilde)) h = cc
function_kind (WordKind.number i) h = cc
function_kind (WordKind.text t) h = cc
function_kind (WordKind.name t) h = cc
function_kind k h = cc

pub function_begins : (ts new : Words) → head_starter ts ≡ starts.Function → new ≡ drop 1 ts → ts ≡ marked (key w.Function) (head_pos ts) ∷ new
function_begins [] new h e = cc
function_begins (x ∷ us) new h e = ap (word_with x.pos us) (function_kind x.kind h) ∙ ap (λ y. marked (key w.Function) x.pos ∷ y) (sym e)

bracket_kind : (k : WordKind) → suffix_of k ≡ suffixes.OpenBracket → k ≡ mark (sign s.OpenBracket)
bracket_kind (mark (sign s.Dot)) h = cc
bracket_kind (mark (sign s.OpenBracket)) h = refl
bracket_kind (mark (sign s.Colon)) h = cc
bracket_kind (mark (sign s.OpenParen)) h = cc
bracket_kind (mark (sign s.OpenBrace)) h = cc
bracket_kind (WordKind.text t) h = cc
bracket_kind k h = cc

pub bracket_begins : (ts new : Words) → head_suffix ts ≡ suffixes.OpenBracket → new ≡ drop 1 ts → ts ≡ marked (sign s.OpenBracket) (head_pos ts) ∷ new
bracket_begins [] new h e = cc
bracket_begins (x ∷ us) new h e = ap (word_with x.pos us) (bracket_kind x.kind h) ∙ ap (λ y. marked (sign s.OpenBracket) x.pos ∷ y) (sym e)

colon_kind : (k : WordKind) → suffix_of k ≡ suffixes.Colon → k ≡ mark (sign s.Colon)
colon_kind (mark (sign s.Dot)) h = cc
colon_kind (mark (sign s.OpenBracket)) h = cc
colon_kind (mark (sign s.Colon)) h = refl
colon_kind (mark (sign s.OpenParen)) h = cc
colon_kind (mark (sign s.OpenBrace)) h = cc
colon_kind (WordKind.text t) h = cc
colon_kind k h = cc

pub colon_begins : (ts new : Words) → head_suffix ts ≡ suffixes.Colon → new ≡ drop 1 ts → ts ≡ marked (sign s.Colon) (head_pos ts) ∷ new
colon_begins [] new h e = cc
colon_begins (x ∷ us) new h e = ap (word_with x.pos us) (colon_kind x.kind h) ∙ ap (λ y. marked (sign s.Colon) x.pos ∷ y) (sym e)

module _ (kind : ModuleKind) where
  -- a part of a prefix at a word: what it is read for sees it
  pub suffix_goes : (c : Within) (k : OnStat) (f : OnExpr) (b : Form) (a : Expr) (n : ℕ) (x : Word) (us : Words) (p : Plan (Form × Expr × ℕ)) → suffix a n x.pos x.kind ≡ Some p
      → run kind (prefixed c k f b a n) (x ∷ us) ≡ run kind (onward p (λ v. prefixed c k f v.0 v.1 v.2)) us
  suffix_goes (within.Expression l) k f b a n x us p h =
      read_on kind (Item.suffixes b a n) _ x us ∙ ap (λ o. on kind x us (or_ends (going o (λ v. read (Item.suffixes v.0 v.1 v.2) done)) (b, a, n)) (λ v. operated l f (v.1, v.2, true))) h ∙ ap (λ z. run kind z us) (onward_assoc p (λ v. read (Item.suffixes v.0 v.1 v.2) done) (λ v. operated l f (v.1, v.2, true)))
  suffix_goes within.Statement k f b a n x us p h =
      read_on kind (Item.rest_of_stat b a n) k x us ∙ ap (λ o. on kind x us (or_else (going o (λ v. read (Item.rest_of_stat v.0 v.1 v.2) done)) (end_of_stat b a n x.kind)) k) h ∙ ap (λ z. run kind z us) (onward_assoc p (λ v. read (Item.rest_of_stat v.0 v.1 v.2) done) k)
  suffix_goes (within.Targets ts) k f b a n x us p h =
      read_on kind (Item.targets b a n) _ x us ∙ ap (λ o. on kind x us (or_else (going o (λ v. read (Item.targets v.0 v.1 v.2) done)) (values_step b a n x.kind)) (λ r. k (assignment (onto ts (r.0 ∷ r.1)) r.2, r.3, r.4))) h ∙ ap (λ z. run kind z us) (onward_assoc p (λ v. read (Item.targets v.0 v.1 v.2) done) (λ r. k (assignment (onto ts (r.0 ∷ r.1)) r.2, r.3, r.4)))

-- what is read for a part at another place is read for the whole
pub goes_as : (p q : Plan Block) (w v : ℕ) (r0 r1 r' : Reader) (result : Result Mode Stop) → r1.kind ≡ r0.kind → w ≤ v → run r0.kind p r1.cursor ≡ run r0.kind q r0.cursor → GoesBy p w r1 result r' → GoesBy q v r0 result r'
goes_as p q w v r0 r1 r' (Ok m) a b e g =
    (g.0 ∙ a, omega (arith, b, g.1), subst (λ z. run z (plan r' m) r'.cursor ≡ run z p r1.cursor) a g.2 ∙ e)
goes_as p q w v r0 r1 r' (Err stop.Unexpected) a b e g = sym e ∙ subst (λ z. run z p r1.cursor ≡ Err r'.cursor) a g
goes_as p q w v r0 r1 r' (Err stop.NoMemory) a b e g = tt
goes_as p q w v r0 r1 r' (Err stop.Deep) a b e g = tt
goes_as p q w v r0 r1 r' (Err stop.NotBuilt) a b e g = tt

-- a plan that is read behind some words, for what was to be read before them
pub goes_on : (m : Mode) (r0 : Reader) (p : Plan Block) (w : ℕ) (ts : Words) (result : Result Mode Stop) (r' : Reader) → w ≤ weight r0 m → run r0.kind p ts ≡ run r0.kind (plan r0 m) r0.cursor → GoesBy p w (with_cursor ts r0) result r' → Goes r0 m result r'
goes_on m r0 p w ts result r' a e g = goes_as p (plan r0 m) w (weight r0 m) r0 (with_cursor ts r0) r' result refl a e g

-- a mark that was to be taken, if it is there
pub taken : (m : Mark) (ts new : Words) (b : Bool) → TakesMark m ts (Ok b) new → b ≡ true → (p : Pos) × (ts ≡ marked m p ∷ new)
taken m ts new true h e = h
taken m ts new false h e = cc

pub left : (m : Mark) (ts new : Words) (b : Bool) → TakesMark m ts (Ok b) new → b ≡ false → (new ≡ ts) × (head_is m ts ≡ false)
left m ts new true h e = cc
left m ts new false h e = h

going_done : {A : Type 0} (o : Option (Plan A)) → going o done ≡ o
going_done None = refl
going_done (Some p) = ap Some (onward_done p)

-- what is put away stands for what is read next
pub pushed : (p : Plan Block) (w : ℕ) (r0 r r' : Reader) (m : Mode) (h : Held) → r' ≡ with_frames (h ∷ r.frames) r → r.kind ≡ r0.kind → weight_at r.cursor (h ∷ r.frames) r.outer m < w
    → run r0.kind (plan_at r.outer r.stats (h ∷ r.frames) r.uses r.takes_call m) r.cursor ≡ run r0.kind p r0.cursor → GoesBy p w r0 (Ok m) r'
pushed p w r0 r r' m h e a b d = subst (λ z. GoesBy p w r0 (Ok m) z) (sym e) (a, b, d)

module _ (kind : ModuleKind) (k : OnStat) (r : OnReturn) (f : OnExpr) where
  pub list_goes : (o : ListOf) (n : ℕ) (ts : Words) → run kind (read (Item.an_expr 1 n) (framed (frame.Listed o []) k r f)) ts ≡ run kind (read (Item.exprs n) (listed o k r f)) ts
  list_goes o n [] = refl
  list_goes o n (x ∷ us) = sym (begins_as kind (Item.exprs n) (Item.an_expr 1 n) x us (start_expr 1 n x.pos x.kind) (λ a. read (Item.more_exprs a.1 a.2) λ d. done (a.0 ∷ d.0, d.1, d.2)) (listed o k r f) refl refl)

  pub paren_goes : (l n : ℕ) (ts new : Words) (p q : Pos) → ts ≡ symbol s.OpenParen q ∷ new → p ≡ head_pos ts
      → run kind (read (Item.an_expr 1 n) (framed (frame.Paren (within.Expression l) p) k r f)) new ≡ run kind (read (Item.an_expr l n) f) ts
  paren_goes l n ts new p q e h =
      subst (λ z. run kind (read (Item.an_expr 1 n) (framed (frame.Paren (within.Expression l) p) k r f)) new ≡ run kind (read (Item.an_expr l n) f) z) (sym e)
      (subst (λ y. run kind (read (Item.an_expr 1 n) (framed (frame.Paren (within.Expression l) y) k r f)) new ≡ run kind (read (Item.an_expr l n) f) (symbol s.OpenParen q ∷ new)) (sym (h ∙ ap head_pos e)) refl)

  pub target_paren_goes : (us : List Expr) (n : ℕ) (ts new : Words) (p q : Pos) → ts ≡ symbol s.OpenParen q ∷ new → p ≡ head_pos ts
      → run kind (read (Item.an_expr 1 n) (framed (frame.Paren (within.Targets us) p) k r f)) new ≡ run kind (read (Item.next_target n) (λ d. k (assignment (onto us (d.0 ∷ d.1)) d.2, d.3, d.4))) ts
  target_paren_goes us n ts new p q e h =
      subst (λ z. run kind (read (Item.an_expr 1 n) (framed (frame.Paren (within.Targets us) p) k r f)) new ≡ run kind (read (Item.next_target n) (λ d. k (assignment (onto us (d.0 ∷ d.1)) d.2, d.3, d.4))) z) (sym e)
      (subst (λ y. run kind (read (Item.an_expr 1 n) (framed (frame.Paren (within.Targets us) y) k r f)) new ≡ run kind (read (Item.next_target n) (λ d. k (assignment (onto us (d.0 ∷ d.1)) d.2, d.3, d.4))) (symbol s.OpenParen q ∷ new)) (sym (h ∙ ap head_pos e)) refl)

  -- the arguments of a call, from behind their parenthesis
  pub first_argument_goes : (o : Called-of) (n : ℕ) (ts : Words) → head_is (sign s.CloseParen) ts ≡ false
      → run kind (read (Item.an_expr 1 n) (framed (frame.Listed (list_of.Arguments o) []) k r f)) ts ≡ run kind (read (Item.rest_of_arguments n) (λ es. called o k f es.0 es.1)) ts
  first_argument_goes o n [] h = refl
  first_argument_goes o n (x ∷ us) h =
      list_goes (list_of.Arguments o) n (x ∷ us)
      ∙ begins_as kind (Item.exprs n) (Item.exprs n) x us (start_exprs n x.pos x.kind) done (listed (list_of.Arguments o) k r f) refl (ap begun (sym (going_done (start_exprs n x.pos x.kind))))
      ∙ sym (read_on kind (Item.rest_of_arguments n) (λ es. called o k f es.0 es.1) x us
      ∙ ap (λ z. on kind x us z (λ es. called o k f es.0 es.1)) (if_false (is_sign s.CloseParen x.kind) _ _ h)
      ∙ on_going kind x us (start_exprs n x.pos x.kind) (λ es. want (sign s.CloseParen) λ _. done (es.0, es.1)) (λ es. called o k f es.0 es.1)
      ∙ sym (read_on kind (Item.exprs n) (listed (list_of.Arguments o) k r f) x us))

  pub no_argument_goes : (o : Called-of) (n : ℕ) (ts new : Words) (q : Pos) → ts ≡ symbol s.CloseParen q ∷ new
      → run kind (prefixed o.within k f Called (call_of o.callee o.method []) n) new ≡ run kind (read (Item.rest_of_arguments n) (λ es. called o k f es.0 es.1)) ts
  no_argument_goes o n ts new q e = ap (run kind (read (Item.rest_of_arguments n) (λ es. called o k f es.0 es.1))) (sym e)

  -- what begins the arguments of a call
  pub arguments_goes : (o : Called-of) (n : ℕ) (ts new : Words) (q : Pos) → ts ≡ symbol s.OpenParen q ∷ new
      → run kind (read (Item.rest_of_arguments n) (λ es. called o k f es.0 es.1)) new ≡ run kind (read (Item.some_arguments n) (λ es. called o k f es.0 es.1)) ts
  arguments_goes o n ts new q e = ap (run kind (read (Item.some_arguments n) (λ es. called o k f es.0 es.1))) (sym e)

  pub call_goes : (c : Within) (b : Form) (a : Expr) (n : ℕ) (ts : Words) → begins_arguments (head_suffix ts) ≡ true
      → run kind (read (Item.some_arguments n) (λ es. prefixed c k f Called (e.Call (place a) a es.0) es.1)) ts ≡ run kind (prefixed c k f b a n) ts
  call_goes c b a n [] h = cc
  call_goes c b a n (x ∷ us) h = go x.kind h
    where
      go : (z : WordKind) → begins_arguments (suffix_of z) ≡ true → run kind (read (Item.some_arguments n) (λ es. prefixed c k f Called (e.Call (place a) a es.0) es.1)) (record { kind = z; pos = x.pos } ∷ us) ≡ run kind (prefixed c k f b a n) (record { kind = z; pos = x.pos } ∷ us)
      go (mark (sign s.OpenParen)) g = sym (suffix_goes kind c k f b a n (symbol s.OpenParen x.pos) us _ refl)
      go (mark (sign s.OpenBrace)) g = sym (suffix_goes kind c k f b a n (symbol s.OpenBrace x.pos) us _ refl)
      go (WordKind.text t) g = sym (suffix_goes kind c k f b a n (quoted t x.pos) us _ refl)
      go (mark (sign s.Dot)) g = cc
      go (mark (sign s.OpenBracket)) g = cc
      go (mark (sign s.Colon)) g = cc
      go z g = cc

  pub index_goes : (c : Within) (b : Form) (a : Expr) (n : ℕ) (ts new : Words) (q : Pos) → ts ≡ symbol s.OpenBracket q ∷ new
      → run kind (read (Item.an_expr 1 n) (framed (frame.Index c a) k r f)) new ≡ run kind (prefixed c k f b a n) ts
  index_goes c b a n ts new q e =
      sym (suffix_goes kind c k f b a n (symbol s.OpenBracket q) new _ refl) ∙ ap (run kind (prefixed c k f b a n)) (sym e)

  pub assign_goes : (us : List Expr) (a : Expr) (n : ℕ) (ts new : Words) (q : Pos) → ts ≡ symbol s.Assign q ∷ new
      → run kind (read (Item.exprs n) (listed (list_of.Assigned (a ∷ us)) k r f)) new ≡ run kind (prefixed (within.Targets us) k f Target a n) ts
  assign_goes us a n ts new q e = ap (run kind (prefixed (within.Targets us) k f Target a n)) (sym e)

  pub comma_goes : (us : List Expr) (a : Expr) (n : ℕ) (ts new : Words) (q : Pos) → ts ≡ symbol s.Comma q ∷ new
      → run kind (read (Item.next_target n) (λ d. k (assignment (onto (a ∷ us) (d.0 ∷ d.1)) d.2, d.3, d.4))) new ≡ run kind (prefixed (within.Targets us) k f Target a n) ts
  comma_goes us a n ts new q e = ap (run kind (prefixed (within.Targets us) k f Target a n)) (sym e)

  pub called_goes : (a : Expr) (n : ℕ) (ts : Words) → NoSuffix ts → run kind (k (stat.Call (place a) a, n, true)) ts ≡ run kind (prefixed within.Statement k f Called a n) ts
  called_goes a n [] h = absurd h
  called_goes a n (x ∷ us) h =
      sym (read_on kind (Item.rest_of_stat Called a n) k x us ∙ ap (λ o. on kind x us (or_else (going o (λ v. read (Item.rest_of_stat v.0 v.1 v.2) done)) (end_of_stat Called a n x.kind)) k) (h a n))

  pub first_target_goes : (a : Expr) (n : ℕ) (ts : Words) → NoSuffix ts → run kind (prefixed (within.Targets []) k f Target a n) ts ≡ run kind (prefixed within.Statement k f Target a n) ts
  first_target_goes a n [] h = absurd h
  first_target_goes a n (x ∷ us) h =
      read_on kind (Item.targets Target a n) behind x us ∙ ap (λ o. on kind x us (or_else (going o (λ v. read (Item.targets v.0 v.1 v.2) done)) (values_step Target a n x.kind)) behind) (h a n)
      ∙ go (is_sign s.Assign x.kind) (is_sign s.Comma x.kind)
      ∙ sym (read_on kind (Item.rest_of_stat Target a n) k x us ∙ ap (λ o. on kind x us (or_else (going o (λ v. read (Item.rest_of_stat v.0 v.1 v.2) done)) (end_of_stat Target a n x.kind)) k) (h a n))
    where
      behind : Expr × List Expr × List Expr × ℕ × Bool → Plan Block
      behind d = k (assignment (d.0 ∷ d.1) d.2, d.3, d.4)

      valued_by : Bool → Bool → Reply (Expr × List Expr × List Expr × ℕ × Bool)
      valued_by b c = if b then takes (read (Item.exprs n) λ es. done (a, [], es.0, es.1, es.2)) else (if c then takes (read (Item.next_target n) λ d. done (a, d.0 ∷ d.1, d.2, d.3, d.4)) else stuck)

      go : (b c : Bool) → on kind x us (valued_by b c) behind ≡ on kind x us (both (valued_by b c) (λ d. stuck) (λ d. done (assigned d))) k
      go true c = refl
      go false true = refl
      go false false = refl

-- no part of a prefix begins here
pub other_suffix : (k : WordKind) (a : Expr) (n : ℕ) (p : Pos) → suffix_of k ≡ suffixes.Other → suffix a n p k ≡ None
other_suffix (mark (key w.And)) a n p h = refl
other_suffix (mark (key w.Break)) a n p h = refl
other_suffix (mark (key w.Do)) a n p h = refl
other_suffix (mark (key w.Else)) a n p h = refl
other_suffix (mark (key w.Elseif)) a n p h = refl
other_suffix (mark (key w.End)) a n p h = refl
other_suffix (mark (key w.False)) a n p h = refl
other_suffix (mark (key w.For)) a n p h = refl
other_suffix (mark (key w.Function)) a n p h = refl
other_suffix (mark (key w.Goto)) a n p h = refl
other_suffix (mark (key w.If)) a n p h = refl
other_suffix (mark (key w.In)) a n p h = refl
other_suffix (mark (key w.Local)) a n p h = refl
other_suffix (mark (key w.Nil)) a n p h = refl
other_suffix (mark (key w.Not)) a n p h = refl
other_suffix (mark (key w.Or)) a n p h = refl
other_suffix (mark (key w.Repeat)) a n p h = refl
other_suffix (mark (key w.Return)) a n p h = refl
other_suffix (mark (key w.Then)) a n p h = refl
other_suffix (mark (key w.True)) a n p h = refl
other_suffix (mark (key w.Until)) a n p h = refl
other_suffix (mark (key w.While)) a n p h = refl
other_suffix (mark (sign s.Plus)) a n p h = refl
other_suffix (mark (sign s.Minus)) a n p h = refl
other_suffix (mark (sign s.Star)) a n p h = refl
other_suffix (mark (sign s.Slash)) a n p h = refl
other_suffix (mark (sign s.Percent)) a n p h = refl
other_suffix (mark (sign s.Caret)) a n p h = refl
other_suffix (mark (sign s.Hash)) a n p h = refl
other_suffix (mark (sign s.Ampersand)) a n p h = refl
other_suffix (mark (sign s.Tilde)) a n p h = refl
other_suffix (mark (sign s.Pipe)) a n p h = refl
other_suffix (mark (sign s.ShiftLeft)) a n p h = refl
other_suffix (mark (sign s.ShiftRight)) a n p h = refl
other_suffix (mark (sign s.DoubleSlash)) a n p h = refl
other_suffix (mark (sign s.Equal)) a n p h = refl
other_suffix (mark (sign s.NotEqual)) a n p h = refl
other_suffix (mark (sign s.LessEqual)) a n p h = refl
other_suffix (mark (sign s.GreaterEqual)) a n p h = refl
other_suffix (mark (sign s.Less)) a n p h = refl
other_suffix (mark (sign s.Greater)) a n p h = refl
other_suffix (mark (sign s.Assign)) a n p h = refl
other_suffix (mark (sign s.OpenParen)) a n p h = cc
other_suffix (mark (sign s.CloseParen)) a n p h = refl
other_suffix (mark (sign s.OpenBrace)) a n p h = cc
other_suffix (mark (sign s.CloseBrace)) a n p h = refl
other_suffix (mark (sign s.OpenBracket)) a n p h = cc
other_suffix (mark (sign s.CloseBracket)) a n p h = refl
other_suffix (mark (sign s.DoubleColon)) a n p h = refl
other_suffix (mark (sign s.Semicolon)) a n p h = refl
other_suffix (mark (sign s.Colon)) a n p h = cc
other_suffix (mark (sign s.Comma)) a n p h = refl
other_suffix (mark (sign s.Dot)) a n p h = cc
other_suffix (mark (sign s.Concat)) a n p h = refl
other_suffix (mark (sign s.Dots)) a n p h = refl
other_suffix (mark (sign s.Question)) a n p h = refl
other_suffix (mark (sign s.Arrow)) a n p h = refl
other_suffix (mark finish) a n p h = refl
other_suffix (WordKind.name t) a n p h = refl
other_suffix (WordKind.number t) a n p h = refl
other_suffix (WordKind.text t) a n p h = cc
