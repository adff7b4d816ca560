-- How parts end and what follows them, as equations between runs.
use Rattle.std.proofs.Common.{◌≡◌, ℕ, ◌+◌, ◌<◌, Bool, true, false, List, [], ◌∷◌, length, Option, Some, None, Result, Ok, Err, refl, sym, ap, ◌∙◌, subst, arith}
use Rattle.std.specs.Prelude.{if◌then◌else◌, ◌&&◌, ◌≤◌}
use Rattle.tl_base.specs.declared.place.Pos.{Pos}
use Rattle.tl_base.specs.declared.place.ModuleKind.{ModuleKind}
use Rattle.lua_tree.specs.declared.annotation.Typed.{Typed}
use Rattle.lua_tree.specs.declared.syntax.Block.{Block}
use Rattle.lua_tree.specs.declared.syntax.Return.{Return}
use Rattle.lua_tree.specs.declared.syntax.Stat.{Stat}
use Rattle.lua_tree.specs.declared.syntax.Stat.TheVariants as stat
use Rattle.lua_tree.specs.declared.syntax.Expr.{Expr}
use Rattle.lua_tree.specs.declared.syntax.Expr.TheVariants as e
use Rattle.lua_tree.specs.declared.syntax.Entry.{Entry}
use Rattle.lua_tree.specs.declared.syntax.Entry.TheVariants as entry
use Rattle.lua_tree.specs.declared.annotation.Name.{Name}
use Rattle.lua_tree.specs.declared.syntax.Rest.{Rest}
use Rattle.lua_lexer.specs.declared.token.Keyword.TheVariants as w
use Rattle.lua_lexer.specs.declared.token.Symbol.TheVariants as s
use Rattle.lua_parser.specs.Words.{Words, WordKind, Mark, symbol, keyword, named, name_at, key, sign}
use Rattle.lua_parser.specs.Grammar.Syntax.{Form, Target, Called, place, typed, rest_at, block}
use Rattle.lua_parser.specs.Grammar.Levels.{unary_level}
use Rattle.lua_parser.specs.Machine.Plan.{Item, Plan, Gives, stuck, ends, takes, done, want, read}
use Rattle.lua_parser.specs.Machine.Steps.{is_mark, is_sign, if_name, start_expr, both, suffix_step, operations_step, step}
use Rattle.lua_parser.specs.Machine.Run.{run}
use Rattle.lua_parser.specs.Outcomes.{head_is, head_pos, head_name, head_is_name, NeedsName, Needs}
use Rattle.lua_parser.specs.declared.cursor.Stop.{Stop}
use Rattle.lua_parser.specs.declared.cursor.Stop.TheVariants as stop
use Rattle.lua_parser.specs.declared.reader.Within.{Within}
use Rattle.lua_parser.specs.declared.reader.Table.{Table}
use Rattle.lua_parser.specs.declared.reader.Frame.TheVariants as frame
use Rattle.lua_parser.specs.declared.reader.Mode.{Mode}
use Rattle.lua_parser.specs.declared.reader.Reader.{Reader}
use Rattle.lua_parser.specs.declared.reader.Signature.{Signature}
use Rattle.lua_parser.specs.declared.reader.BodyOf.{BodyOf}
use Rattle.lua_parser.specs.declared.reader.BodyOf.TheVariants as body_of
use Rattle.lua_parser.specs.declared.reader.BlockOf.TheVariants as block_of
use Rattle.lua_parser.specs.Stacks.{OnStat, OnExpr, OnReturn, closed, bodied, signed, function_of, local_of, onto, prefixed, typed_plan, framed, tabled, plan_at, weight_at, with_cursor, GoesBy, ReadsTyped, Ends, on_stat, on_expr}
use Rattle.lua_parser.proofs.Completeness.Plans.{on, on_both, after, read_on, if_false, begins_as}
use Rattle.lua_parser.proofs.Goings.{suffix_goes, goes_as}

-- the end of a body is that of its function, whatever it is for
closed_body : (o : BodyOf) (g : Signature) (d : List Stat × Option Return × ℕ) (k : OnStat) (f : OnExpr) → closed (block_of.Body o g) d k f ≡ want (key w.End) (λ _. bodied o k f (function_of g (block d.0 d.1), d.2))
closed_body (body_of.Operand l p) g d k f = refl
closed_body (body_of.Function p a) g d k f = refl
closed_body (body_of.Method p a x) g d k f = refl
closed_body (body_of.Local p x) g d k f = refl

module _ (kind : ModuleKind) where
  pub body_goes : (o : BodyOf) (n : ℕ) (k : OnStat) (f : OnExpr) (ts new : Words) (q : Pos) → ts ≡ symbol s.OpenParen q ∷ new
      → run kind (read (Item.params true) (λ ps. signed o n k f (ps.0, ps.1))) new ≡ run kind (read (Item.a_body n) (bodied o k f)) ts
  body_goes o n k f ts new q e =
      (λ i. run kind (read (Item.params true) λ ps. read Item.outcome λ r. read (Item.a_block false n false) λ d. closed_body o (record { params = ps.0; rest = ps.1; results = r }) d k f i) new)
      ∙ ap (run kind (read (Item.a_body n) (bodied o k f))) (sym e)

  -- a part that isn't there, where its mark isn't
  pub without : (m : Mark) (j : Item) (p : Pos → Plan (Gives j)) (v : Gives j) (k : Gives j → Plan Block) → ((q : Pos) (z : WordKind) → step kind j q z ≡ (if is_mark m z then takes (p q) else ends v)) → (ts : Words) → 0 < length ts → head_is m ts ≡ false
      → run kind (read j k) ts ≡ run kind (k v) ts
  without m j p v k h [] l e = absurd (omega (arith, l))
  without m j p v k h (x ∷ us) l e = read_on kind j k x us ∙ ap (λ r. on kind x us r k) (h x.pos x.kind ∙ if_false (is_mark m x.kind) (takes (p x.pos)) (ends v) e)

  -- a mark that is missing
  pub missing : (m : Mark) (k : Pos → Plan Block) (ts : Words) → head_is m ts ≡ false → run kind (want m k) ts ≡ Err ts
  missing m k [] e = refl
  missing m k (x ∷ us) e = ap (after kind x us) (if_false (is_mark m x.kind) (takes (k x.pos)) stuck e)

  pub local_ends : (p : Pos) (xs : List Typed) (n : ℕ) (k : OnStat) (ts : Words) → 0 < length ts → head_is (sign s.Comma) ts ≡ false → head_is (sign s.Assign) ts ≡ false
      → run kind (read Item.more_typed λ ys. local_of p (onto xs ys) n k) ts ≡ run kind (local_of p (onto xs []) n k) ts
  local_ends p xs n k ts l e d = without (sign s.Comma) Item.more_typed _ [] (λ ys. local_of p (onto xs ys) n k) (λ q z. refl) ts l e

  -- an entry that begins with a name and is no named one
  pub item_goes : (x : Name) (n : ℕ) (k : Entry × ℕ → Plan Block) (ts : Words) → head_is (sign s.Assign) ts ≡ false
      → run kind (read (Item.suffixes Target (e.Name x.pos n x.text) (n + 1)) λ v. read (Item.operations 1 unary_level v.1 v.2 true) λ c. k (entry.Item c.0, c.1)) ts ≡ run kind (read (Item.named_or_item x n) k) ts
  item_goes x n k [] h = refl
  item_goes x n k (y ∷ us) h =
      read_on kind (Item.suffixes Target (e.Name x.pos n x.text) (n + 1)) behind y us
      ∙ sym (read_on kind (Item.named_or_item x n) k y us
      ∙ ap (λ r. on kind y us r k) (if_false (is_mark (sign s.Assign) y.kind) _ _ h)
      ∙ on_both kind y us (suffix_step Target (e.Name x.pos n x.text) (n + 1) y.pos y.kind)
      (λ v. both (operations_step 1 unary_level v.1 v.2 true y.kind) (λ c. ends (entry.Item c.0, c.1)) (λ c. done (entry.Item c.0, c.1)))
      (λ v. read (Item.operations 1 unary_level v.1 v.2 true) λ c. done (entry.Item c.0, c.1)) k behind operated (λ v. refl))
    where
      behind : Form × Expr × ℕ → Plan Block
      behind v = read (Item.operations 1 unary_level v.1 v.2 true) λ c. k (entry.Item c.0, c.1)

      operated : (v : Form × Expr × ℕ) → on kind y us (both (operations_step 1 unary_level v.1 v.2 true y.kind) (λ c. ends (entry.Item c.0, c.1)) (λ c. done (entry.Item c.0, c.1))) k ≡ run kind (behind v) (y ∷ us)
      operated v =
          on_both kind y us (operations_step 1 unary_level v.1 v.2 true y.kind) (λ c. ends (entry.Item c.0, c.1)) (λ c. done (entry.Item c.0, c.1)) k (λ c. k (entry.Item c.0, c.1)) (λ c. refl) (λ c. refl)
          ∙ sym (read_on kind (Item.operations 1 unary_level v.1 v.2 true) (λ c. k (entry.Item c.0, c.1)) y us)

  -- a function's first word
  pub function_goes : (k : OnStat) (f : OnExpr) (l n : ℕ) (ts new : Words) (p : Pos) → ts ≡ keyword w.Function (head_pos ts) ∷ new → p ≡ head_pos ts
      → run kind (read (Item.a_body n) (bodied (body_of.Operand l p) k f)) new ≡ run kind (read (Item.an_expr l n) f) ts
  function_goes k f l n ts new p b h = ap (λ z. run kind (read (Item.a_body n) (bodied (body_of.Operand l z) k f)) new) h ∙ ap (run kind (read (Item.an_expr l n) f)) (sym b)

  -- a method's name
  pub method_goes : (k : OnStat) (f : OnExpr) (c : Within) (b : Form) (a : Expr) (n : ℕ) (x : Name) (ts mid new : Words) (q : Pos) → ts ≡ symbol s.Colon q ∷ mid → mid ≡ named x ∷ new
      → run kind (read (Item.some_arguments n) (λ es. prefixed c k f Called (e.Method (place a) a x es.0) es.1)) new ≡ run kind (prefixed c k f b a n) ts
  method_goes k f c b a n x ts mid new q h j =
      sym (suffix_goes kind c k f b a n (symbol s.Colon q) (named x ∷ new) _ refl) ∙ ap (run kind (prefixed c k f b a n)) (sym (h ∙ ap (λ z. symbol s.Colon q ∷ z) j))

  -- names of a `local`
  pub local_goes : (p : Pos) (n : ℕ) (k : OnStat) (ts : Words) → head_is (key w.Function) ts ≡ false
      → run kind (typed_plan λ x. read Item.more_typed λ r. local_of p (x ∷ r) n k) ts ≡ run kind (read (Item.rest_of_local p n) k) ts
  local_goes p n k [] h = refl
  local_goes p n k (x ∷ us) h = go x.kind ∙ sym (read_on kind (Item.rest_of_local p n) k x us ∙ ap (λ r. on kind x us r k) (if_false (is_mark (key w.Function) x.kind) _ _ h))
    where
      go : (z : WordKind) → run kind (typed_plan λ y. read Item.more_typed λ r. local_of p (y ∷ r) n k) (record { kind = z; pos = x.pos } ∷ us)
          ≡ on kind (record { kind = z; pos = x.pos }) us (if_name z (λ y. takes (read Item.annotation λ a. read Item.more_typed λ r. read (Item.maybe_init n) λ i. done (stat.Local p (typed (name_at x.pos y) a ∷ r) i.0, i.1, i.2))) stuck) k
      go (WordKind.name y) = refl
      go (WordKind.mark m) = refl
      go (WordKind.number i) = refl
      go (WordKind.text t) = refl

  pub local_none : (p : Pos) (xs : List Typed) (n : ℕ) (k : OnStat) (ts : Words) → 0 < length ts → head_is (sign s.Comma) ts ≡ false → head_is (sign s.Assign) ts ≡ false
      → run kind (k (stat.Local p (onto xs []) [], n, false)) ts ≡ run kind (read Item.more_typed λ ys. local_of p (onto xs ys) n k) ts
  local_none p xs n k ts l h d =
      sym (without (sign s.Comma) Item.more_typed _ [] (λ ys. local_of p (onto xs ys) n k) (λ q z. refl) ts l h
      ∙ without (sign s.Assign) (Item.maybe_init n) _ ([], n, false) (λ i. k (stat.Local p (onto xs []) i.0, i.1, i.2)) (λ q z. refl) ts l d)

  -- an entry that begins with no name and no bracket
  pub entry_goes : (k : OnStat) (r : OnReturn) (f : OnExpr) (t : Table) (n : ℕ) (ts : Words) → head_is (sign s.CloseBrace) ts ≡ false → head_is (sign s.OpenBracket) ts ≡ false → head_is_name ts ≡ false
      → run kind (read (Item.an_expr 1 n) (framed (frame.Item t) k r f)) ts ≡ run kind (read (Item.entries n) (tabled t k f)) ts
  entry_goes k r f t n [] a b d = refl
  entry_goes k r f t n (x ∷ us) a b d =
      sym (begins_as kind (Item.entries n) (Item.an_expr 1 n) x us (start_expr 1 n x.pos x.kind) (λ v. read (Item.behind_entry v.1) λ r. done (entry.Item v.0 ∷ r.0, r.1)) (tabled t k f) refl
      (if_false (is_sign s.CloseBrace x.kind) _ _ a ∙ if_false (is_sign s.OpenBracket x.kind) _ _ b ∙ no_name _ _ x.kind d))
    where
      no_name : {B : Type 0} (g : List ℕ → B) (o : B) (z : WordKind) → if_name z (λ y. true) false ≡ false → if_name z g o ≡ o
      no_name g o (WordKind.name y) h = cc
      no_name g o (WordKind.mark m) h = refl
      no_name g o (WordKind.number i) h = refl
      no_name g o (WordKind.text t) h = refl

  -- parameters that end with `...`
  pub rest_goes : (b : Bool) (k : List Typed × Option Rest → Plan Block) (ts new : Words) (p q : Pos) → ts ≡ symbol s.Dots q ∷ new → p ≡ head_pos ts
      → run kind (read Item.annotation λ a. want (sign s.CloseParen) λ _. k ([], Some (rest_at p a))) new ≡ run kind (read (Item.params b) k) ts
  rest_goes true k ts new p q h d = ap (λ z. run kind (read Item.annotation λ a. want (sign s.CloseParen) λ _. k ([], Some (rest_at z a))) new) (d ∙ ap head_pos h) ∙ ap (run kind (read (Item.params true) k)) (sym h)
  rest_goes false k ts new p q h d = ap (λ z. run kind (read Item.annotation λ a. want (sign s.CloseParen) λ _. k ([], Some (rest_at z a))) new) (d ∙ ap head_pos h) ∙ ap (run kind (read (Item.params false) k)) (sym h)

  -- a table that is an argument
  pub table_goes : (k : List Expr × ℕ → Plan Block) (n : ℕ) (ts new : Words) (p q : Pos) → ts ≡ symbol s.OpenBrace q ∷ new → p ≡ head_pos ts
      → run kind (read (Item.entries n) (λ r. k (e.Table p r.0 ∷ [], r.1))) new ≡ run kind (read (Item.some_arguments n) k) ts
  table_goes k n ts new p q h d = ap (λ z. run kind (read (Item.entries n) (λ r. k (e.Table z r.0 ∷ [], r.1))) new) (d ∙ ap head_pos h) ∙ ap (run kind (read (Item.some_arguments n) k)) (sym h)

-- a name that stands is one that can be taken
pub name_stands : (ts : Words) → head_is_name ts ≡ true → head_name ts ≡ None → ⊥
name_stands [] h e = cc
name_stands (x ∷ us) h e = go x.kind h e
  where
    go : (z : WordKind) → if_name z (λ n. true) false ≡ true → if_name z (λ n. Some n) None ≡ None → ⊥
    go (WordKind.name y) a b = cc
    go (WordKind.mark m) a b = cc
    go (WordKind.number i) a b = cc
    go (WordKind.text t) a b = cc

-- parameters end here where they may
pub both_true : (a b : Bool) → (a && b) ≡ true → a ≡ true
both_true true b h = refl
both_true false b h = cc

-- ---- steps that take words by way of another part

-- a step to a reader that is as before but for its words
pub stepped : (p : Plan Block) (w : ℕ) (r0 r r' : Reader) (m : Mode) (c : Words) → r' ≡ with_cursor c r → r.kind ≡ r0.kind → weight_at c r.frames r.outer m < w
    → run r0.kind (plan_at r.outer r.stats r.frames r.uses r.takes_call m) c ≡ run r0.kind p r0.cursor → GoesBy p w r0 (Ok m) r'
stepped p w r0 r r' m c h a b d = subst (λ z. GoesBy p w r0 (Ok m) z) (sym h) (a, b, d)

-- what goes on from a reader that is as before but for its words
pub goes_from : (q : Plan Block) (v : ℕ) (r0 r1 r' : Reader) (result : Result Mode Stop) (c : Words) (p : Reader → Plan Block) (u : Reader → ℕ) → r1 ≡ with_cursor c r0 → u (with_cursor c r0) ≤ v
    → run r0.kind (p (with_cursor c r0)) c ≡ run r0.kind q r0.cursor → GoesBy (p r1) (u r1) r1 result r' → GoesBy q v r0 result r'
goes_from q v r0 r1 r' result c p u h a b g =
    goes_as (p (with_cursor c r0)) q (u (with_cursor c r0)) v r0 (with_cursor c r0) r' result refl a b (subst (λ z. GoesBy (p z) (u z) z result r') h g)

-- a step that fails
pub fails_as : (p : Plan Block) (w : ℕ) (r0 r' : Reader) (e : Stop) → (e ≡ stop.Unexpected → run r0.kind p r0.cursor ≡ Err r'.cursor) → GoesBy p w r0 (Err e) r'
fails_as p w r0 r' stop.Unexpected h = h refl
fails_as p w r0 r' stop.NoMemory h = tt
fails_as p w r0 r' stop.Deep h = tt
fails_as p w r0 r' stop.NotBuilt h = tt

pub typed_stops : (r : Reader) (e : Stop) (r' : Reader) → ReadsTyped r (Err e) r' → e ≡ stop.Unexpected → (k : Typed → Plan Block) → run r.kind (typed_plan k) r.cursor ≡ Err r'.cursor
typed_stops r stop.Unexpected r' h d = h
typed_stops r stop.NoMemory r' h d = cc
typed_stops r stop.Deep r' h d = cc
typed_stops r stop.NotBuilt r' h d = cc

pub end_stops : (r : Reader) (e : Stop) (r' : Reader) → Ends r (Err e) r' → e ≡ stop.Unexpected → (r'.cursor ≡ r.cursor) × (head_is (key w.End) r.cursor ≡ false)
end_stops r stop.Unexpected r' h d = h
end_stops r stop.NoMemory r' h d = cc
end_stops r stop.Deep r' h d = cc
end_stops r stop.NotBuilt r' h d = cc

-- a body whose end is missing
pub body_stops : (o : BodyOf) (g : Signature) (d : List Stat × Option Return × ℕ) (w : ℕ) (r : Reader) (e : Stop) (r' : Reader) → Ends r (Err e) r' → GoesBy (closed (block_of.Body o g) d (on_stat r) (on_expr r)) w r (Err e) r'
body_stops o g d v r e r' h =
    fails_as (closed (block_of.Body o g) d (on_stat r) (on_expr r)) v r r' e (λ q.
    let b = end_stops r e r' h q in
    ap (λ z. run r.kind z r.cursor) (closed_body o g d (on_stat r) (on_expr r)) ∙ missing r.kind (key w.End) _ r.cursor b.1 ∙ ap Err (sym b.0))

pub no_name_taken : (ts : Words) (e : Stop) (new : Words) → NeedsName ts (Err e) new → head_is_name ts ≡ true → e ≡ stop.Unexpected → ⊥
no_name_taken ts stop.Unexpected new h a d = name_stands ts a h.1
no_name_taken ts stop.NoMemory new h a d = cc
no_name_taken ts stop.Deep new h a d = cc
no_name_taken ts stop.NotBuilt new h a d = cc

pub need_stops : (m : Mark) (ts : Words) (e : Stop) (new : Words) → Needs m ts (Err e) new → e ≡ stop.Unexpected → (new ≡ ts) × (head_is m ts ≡ false)
need_stops m ts stop.Unexpected new h d = h
need_stops m ts stop.NoMemory new h d = cc
need_stops m ts stop.Deep new h d = cc
need_stops m ts stop.NotBuilt new h d = cc
