-- How statements begin, as equations between runs.
use Rattle.std.proofs.Common.{◌≡◌, ℕ, ◌+◌, Bool, true, false, List, [], ◌∷◌, Option, Some, None, Ok, Err, drop, refl, sym, ap, ◌∙◌, subst, arith}
use Rattle.std.specs.Prelude.{◌&&◌, length}
use Rattle.tl_base.specs.declared.place.Pos.{Pos}
use Rattle.tl_base.specs.declared.place.ModuleKind.{ModuleKind}
use Rattle.tl_base.specs.declared.place.ModuleKind.TheVariants as module_kind
use Rattle.lua_tree.specs.declared.annotation.Name.{Name}
use Rattle.lua_tree.specs.declared.syntax.Block.{Block}
use Rattle.lua_tree.specs.declared.syntax.Stat.{Stat}
use Rattle.lua_tree.specs.declared.syntax.Return.{Return}
use Rattle.lua_tree.specs.declared.syntax.Expr.TheVariants as e
use Rattle.lua_lexer.specs.declared.token.Keyword.TheVariants as w
use Rattle.lua_lexer.specs.declared.token.Symbol.TheVariants as s
use Rattle.lua_parser.specs.Words.{Word, Words, WordKind, mark, marked, symbol, keyword, named, key, sign, finish}
use Rattle.lua_parser.specs.Grammar.Types.{opens}
use Rattle.lua_parser.specs.Grammar.Syntax.{Enclosed, Target, block}
use Rattle.lua_parser.specs.Machine.Plan.{Item, Plan, done, want, read, onward}
use Rattle.lua_parser.specs.Machine.Steps.{is_key, is_mark, is_typed, if_name, start_stat, or_ends, going}
use Rattle.lua_parser.specs.Machine.Run.{run}
use Rattle.lua_parser.specs.declared.starters.Start.{Start}
use Rattle.lua_parser.specs.declared.starters.Start.TheVariants as starts
use Rattle.lua_parser.specs.declared.starters.Opener.{Opener}
use Rattle.lua_parser.specs.declared.starters.Opener.TheVariants as openers
use Rattle.lua_parser.specs.declared.reader.Held.{Held}
use Rattle.lua_parser.specs.declared.reader.Outer.{Outer}
use Rattle.lua_parser.specs.declared.reader.Mode.TheVariants as mode
use Rattle.lua_parser.specs.declared.reader.Frame.TheVariants as frame
use Rattle.lua_parser.specs.declared.reader.Within.TheVariants as within
use Rattle.lua_parser.specs.declared.reader.ListOf.TheVariants as list_of
use Rattle.lua_parser.specs.Outcomes.{head_pos, head_is, head_opener, opener_of, starter_of, head_starter, is_starter, head_is_name}
use Rattle.lua_parser.specs.Stacks.{OnStat, OnExpr, OnReturn, framed, listed, returned, onto, ended, is_outermost, stated, plan_at, stat_after}
use Rattle.lua_parser.proofs.Completeness.Plans.{on, after, read_on, onward_assoc, if_false}

start_in : Opener → Start → Start
start_in (openers.Plain x) y = x
start_in z y = y

plain_once : (x y : Start) → openers.Plain x ≡ openers.Plain y → x ≡ y
unfolding start_in
plain_once x y h = ap (λ z. start_in z x) h

-- what begins so is read so
pub plain_starts : (k : WordKind) (x : Start) (outer : Bool) (n : ℕ) (p : Pos) → opener_of k ≡ openers.Plain x → start_stat outer n p k ≡ Some (stat_after x p n)
plain_starts (mark (sign s.Semicolon)) x outer n p h = subst (λ z. start_stat outer n p (mark (sign s.Semicolon)) ≡ Some (stat_after z p n)) (plain_once starts.Semicolon x h) refl
plain_starts (mark (key w.Break)) x outer n p h = subst (λ z. start_stat outer n p (mark (key w.Break)) ≡ Some (stat_after z p n)) (plain_once starts.Break x h) refl
plain_starts (mark (key w.Do)) x outer n p h = subst (λ z. start_stat outer n p (mark (key w.Do)) ≡ Some (stat_after z p n)) (plain_once starts.Do x h) refl
plain_starts (mark (key w.While)) x outer n p h = subst (λ z. start_stat outer n p (mark (key w.While)) ≡ Some (stat_after z p n)) (plain_once starts.While x h) refl
plain_starts (mark (key w.Repeat)) x outer n p h = subst (λ z. start_stat outer n p (mark (key w.Repeat)) ≡ Some (stat_after z p n)) (plain_once starts.Repeat x h) refl
plain_starts (mark (key w.If)) x outer n p h = subst (λ z. start_stat outer n p (mark (key w.If)) ≡ Some (stat_after z p n)) (plain_once starts.If x h) refl
plain_starts (mark (key w.For)) x outer n p h = subst (λ z. start_stat outer n p (mark (key w.For)) ≡ Some (stat_after z p n)) (plain_once starts.For x h) refl
plain_starts (mark (key w.Function)) x outer n p h = subst (λ z. start_stat outer n p (mark (key w.Function)) ≡ Some (stat_after z p n)) (plain_once starts.Function x h) refl
plain_starts (mark (key w.Local)) x outer n p h = subst (λ z. start_stat outer n p (mark (key w.Local)) ≡ Some (stat_after z p n)) (plain_once starts.Local x h) refl
plain_starts (mark (key w.Return)) x outer n p h = cc
plain_starts (mark (sign s.OpenParen)) x outer n p h = cc
plain_starts (WordKind.name t) x outer n p h = cc
plain_starts k x outer n p h = cc

pub plain_no_return : (k : WordKind) (x : Start) → opener_of k ≡ openers.Plain x → is_key w.Return k ≡ false
plain_no_return (mark (sign s.Semicolon)) x h = refl
plain_no_return (mark (key w.Break)) x h = refl
plain_no_return (mark (key w.Do)) x h = refl
plain_no_return (mark (key w.While)) x h = refl
plain_no_return (mark (key w.Repeat)) x h = refl
plain_no_return (mark (key w.If)) x h = refl
plain_no_return (mark (key w.For)) x h = refl
plain_no_return (mark (key w.Function)) x h = refl
plain_no_return (mark (key w.Local)) x h = refl
plain_no_return (mark (key w.Return)) x h = cc
plain_no_return (mark (sign s.OpenParen)) x h = cc
plain_no_return (WordKind.name t) x h = cc
plain_no_return k x h = cc

pub plain_no_open : (k : WordKind) (x : Start) → opener_of k ≡ openers.Plain x → opens k ≡ false
plain_no_open (mark (sign s.Semicolon)) x h = refl
plain_no_open (mark (key w.Break)) x h = refl
plain_no_open (mark (key w.Do)) x h = refl
plain_no_open (mark (key w.While)) x h = refl
plain_no_open (mark (key w.Repeat)) x h = refl
plain_no_open (mark (key w.If)) x h = refl
plain_no_open (mark (key w.For)) x h = refl
plain_no_open (mark (key w.Function)) x h = refl
plain_no_open (mark (key w.Local)) x h = refl
plain_no_open (mark (key w.Return)) x h = cc
plain_no_open (mark (sign s.OpenParen)) x h = cc
plain_no_open (WordKind.name t) x h = cc
plain_no_open k x h = cc

pub return_kind : (k : WordKind) → opener_of k ≡ openers.Return → k ≡ mark (key w.Return)
return_kind (mark (sign s.Semicolon)) h = cc
return_kind (mark (key w.Break)) h = cc
return_kind (mark (key w.Do)) h = cc
return_kind (mark (key w.While)) h = cc
return_kind (mark (key w.Repeat)) h = cc
return_kind (mark (key w.If)) h = cc
return_kind (mark (key w.For)) h = cc
return_kind (mark (key w.Function)) h = cc
return_kind (mark (key w.Local)) h = cc
return_kind (mark (key w.Return)) h = refl
return_kind (mark (sign s.OpenParen)) h = cc
return_kind (WordKind.name t) h = cc
return_kind k h = cc

pub open_kind : (k : WordKind) → opener_of k ≡ openers.OpenParen → k ≡ mark (sign s.OpenParen)
open_kind (mark (sign s.Semicolon)) h = cc
open_kind (mark (key w.Break)) h = cc
open_kind (mark (key w.Do)) h = cc
open_kind (mark (key w.While)) h = cc
open_kind (mark (key w.Repeat)) h = cc
open_kind (mark (key w.If)) h = cc
open_kind (mark (key w.For)) h = cc
open_kind (mark (key w.Function)) h = cc
open_kind (mark (key w.Local)) h = cc
open_kind (mark (key w.Return)) h = cc
open_kind (mark (sign s.OpenParen)) h = refl
open_kind (WordKind.name t) h = cc
open_kind k h = cc

abbrev word_with : Pos → Words → WordKind → Words
word_with p us k = record { kind = k; pos = p } ∷ us

pub return_begins : (ts new : Words) → head_opener ts ≡ openers.Return → new ≡ drop 1 ts → ts ≡ marked (key w.Return) (head_pos ts) ∷ new
return_begins [] new h e = cc
return_begins (x ∷ us) new h e = ap (word_with x.pos us) (return_kind x.kind h) ∙ ap (λ y. marked (key w.Return) x.pos ∷ y) (sym e)

pub open_begins : (ts new : Words) → head_opener ts ≡ openers.OpenParen → new ≡ drop 1 ts → ts ≡ marked (sign s.OpenParen) (head_pos ts) ∷ new
open_begins [] new h e = cc
open_begins (x ∷ us) new h e = ap (word_with x.pos us) (open_kind x.kind h) ∙ ap (λ y. marked (sign s.OpenParen) x.pos ∷ y) (sym e)

-- no statement begins here
other_stat : (k : WordKind) (outer : Bool) (n : ℕ) (p : Pos) → opener_of k ≡ openers.Other → start_stat outer n p k ≡ None
other_stat (mark (key w.And)) outer n p h = refl
other_stat (mark (key w.Break)) outer n p h = cc
other_stat (mark (key w.Do)) outer n p h = cc
other_stat (mark (key w.Else)) outer n p h = refl
other_stat (mark (key w.Elseif)) outer n p h = refl
other_stat (mark (key w.End)) outer n p h = refl
other_stat (mark (key w.False)) outer n p h = refl
other_stat (mark (key w.For)) outer n p h = cc
other_stat (mark (key w.Function)) outer n p h = cc
other_stat (mark (key w.Goto)) outer n p h = refl
other_stat (mark (key w.If)) outer n p h = cc
other_stat (mark (key w.In)) outer n p h = refl
other_stat (mark (key w.Local)) outer n p h = cc
other_stat (mark (key w.Nil)) outer n p h = refl
other_stat (mark (key w.Not)) outer n p h = refl
other_stat (mark (key w.Or)) outer n p h = refl
other_stat (mark (key w.Repeat)) outer n p h = cc
other_stat (mark (key w.Return)) outer n p h = cc
other_stat (mark (key w.Then)) outer n p h = refl
other_stat (mark (key w.True)) outer n p h = refl
other_stat (mark (key w.Until)) outer n p h = refl
other_stat (mark (key w.While)) outer n p h = cc
other_stat (mark (sign s.Plus)) outer n p h = refl
other_stat (mark (sign s.Minus)) outer n p h = refl
other_stat (mark (sign s.Star)) outer n p h = refl
other_stat (mark (sign s.Slash)) outer n p h = refl
other_stat (mark (sign s.Percent)) outer n p h = refl
other_stat (mark (sign s.Caret)) outer n p h = refl
other_stat (mark (sign s.Hash)) outer n p h = refl
other_stat (mark (sign s.Ampersand)) outer n p h = refl
other_stat (mark (sign s.Tilde)) outer n p h = refl
other_stat (mark (sign s.Pipe)) outer n p h = refl
other_stat (mark (sign s.ShiftLeft)) outer n p h = refl
other_stat (mark (sign s.ShiftRight)) outer n p h = refl
other_stat (mark (sign s.DoubleSlash)) outer n p h = refl
other_stat (mark (sign s.Equal)) outer n p h = refl
other_stat (mark (sign s.NotEqual)) outer n p h = refl
other_stat (mark (sign s.LessEqual)) outer n p h = refl
other_stat (mark (sign s.GreaterEqual)) outer n p h = refl
other_stat (mark (sign s.Less)) outer n p h = refl
other_stat (mark (sign s.Greater)) outer n p h = refl
other_stat (mark (sign s.Assign)) outer n p h = refl
other_stat (mark (sign s.OpenParen)) outer n p h = cc
other_stat (mark (sign s.CloseParen)) outer n p h = refl
other_stat (mark (sign s.OpenBrace)) outer n p h = refl
other_stat (mark (sign s.CloseBrace)) outer n p h = refl
other_stat (mark (sign s.OpenBracket)) outer n p h = refl
other_stat (mark (sign s.CloseBracket)) outer n p h = refl
other_stat (mark (sign s.DoubleColon)) outer n p h = refl
other_stat (mark (sign s.Semicolon)) outer n p h = cc
other_stat (mark (sign s.Colon)) outer n p h = refl
other_stat (mark (sign s.Comma)) outer n p h = refl
other_stat (mark (sign s.Dot)) outer n p h = refl
other_stat (mark (sign s.Concat)) outer n p h = refl
other_stat (mark (sign s.Dots)) outer n p h = refl
other_stat (mark (sign s.Question)) outer n p h = refl
other_stat (mark (sign s.Arrow)) outer n p h = refl
other_stat (mark finish) outer n p h = refl
other_stat (WordKind.name t) outer n p h = cc
other_stat (WordKind.number t) outer n p h = refl
other_stat (WordKind.text t) outer n p h = refl

other_no_return : (k : WordKind) → opener_of k ≡ openers.Other → is_key w.Return k ≡ false
other_no_return (mark (key w.And)) h = refl
other_no_return (mark (key w.Break)) h = cc
other_no_return (mark (key w.Do)) h = cc
other_no_return (mark (key w.Else)) h = refl
other_no_return (mark (key w.Elseif)) h = refl
other_no_return (mark (key w.End)) h = refl
other_no_return (mark (key w.False)) h = refl
other_no_return (mark (key w.For)) h = cc
other_no_return (mark (key w.Function)) h = cc
other_no_return (mark (key w.Goto)) h = refl
other_no_return (mark (key w.If)) h = cc
other_no_return (mark (key w.In)) h = refl
other_no_return (mark (key w.Local)) h = cc
other_no_return (mark (key w.Nil)) h = refl
other_no_return (mark (key w.Not)) h = refl
other_no_return (mark (key w.Or)) h = refl
other_no_return (mark (key w.Repeat)) h = cc
other_no_return (mark (key w.Return)) h = cc
other_no_return (mark (key w.Then)) h = refl
other_no_return (mark (key w.True)) h = refl
other_no_return (mark (key w.Until)) h = refl
other_no_return (mark (key w.While)) h = cc
other_no_return (mark (sign s.Plus)) h = refl
other_no_return (mark (sign s.Minus)) h = refl
other_no_return (mark (sign s.Star)) h = refl
other_no_return (mark (sign s.Slash)) h = refl
other_no_return (mark (sign s.Percent)) h = refl
other_no_return (mark (sign s.Caret)) h = refl
other_no_return (mark (sign s.Hash)) h = refl
other_no_return (mark (sign s.Ampersand)) h = refl
other_no_return (mark (sign s.Tilde)) h = refl
other_no_return (mark (sign s.Pipe)) h = refl
other_no_return (mark (sign s.ShiftLeft)) h = refl
other_no_return (mark (sign s.ShiftRight)) h = refl
other_no_return (mark (sign s.DoubleSlash)) h = refl
other_no_return (mark (sign s.Equal)) h = refl
other_no_return (mark (sign s.NotEqual)) h = refl
other_no_return (mark (sign s.LessEqual)) h = refl
other_no_return (mark (sign s.GreaterEqual)) h = refl
other_no_return (mark (sign s.Less)) h = refl
other_no_return (mark (sign s.Greater)) h = refl
other_no_return (mark (sign s.Assign)) h = refl
other_no_return (mark (sign s.OpenParen)) h = cc
other_no_return (mark (sign s.CloseParen)) h = refl
other_no_return (mark (sign s.OpenBrace)) h = refl
other_no_return (mark (sign s.CloseBrace)) h = refl
other_no_return (mark (sign s.OpenBracket)) h = refl
other_no_return (mark (sign s.CloseBracket)) h = refl
other_no_return (mark (sign s.DoubleColon)) h = refl
other_no_return (mark (sign s.Semicolon)) h = cc
other_no_return (mark (sign s.Colon)) h = refl
other_no_return (mark (sign s.Comma)) h = refl
other_no_return (mark (sign s.Dot)) h = refl
other_no_return (mark (sign s.Concat)) h = refl
other_no_return (mark (sign s.Dots)) h = refl
other_no_return (mark (sign s.Question)) h = refl
other_no_return (mark (sign s.Arrow)) h = refl
other_no_return (mark finish) h = refl
other_no_return (WordKind.name t) h = cc
other_no_return (WordKind.number t) h = refl
other_no_return (WordKind.text t) h = refl

other_no_open : (k : WordKind) → opener_of k ≡ openers.Other → opens k ≡ false
other_no_open (mark (sign s.OpenParen)) h = cc
other_no_open k h = refl

and_false : (c b : Bool) → b ≡ false → (c && b) ≡ false
and_false true b h = h
and_false false b h = refl

module _ (kind : ModuleKind) (os : List Outer) (ss : List Stat) (hs : List Held) (n : ℕ) (c : Bool) where
  abbrev behind : List Stat × Option Return × ℕ → Plan Block
  behind d = ended os (onto ss d.0, d.1, d.2)

  abbrev next : Stat × ℕ × Bool → Plan (List Stat × Option Return × ℕ)
  next x = read (Item.a_block (is_outermost os) x.1 x.2) λ r. done (x.0 ∷ r.0, r.1, r.2)

  block_at : (x : Word) (us : Words) (o : Option (Plan (Stat × ℕ × Bool))) → is_key w.Return x.kind ≡ false → (c && opens x.kind) ≡ false → start_stat (is_outermost os) n x.pos x.kind ≡ o
      → run kind (plan_at os ss hs n c mode.Block) (x ∷ us) ≡ on kind x us (or_ends (going o next) ([], None, n)) behind
  block_at x us o r b e =
      read_on kind (Item.a_block (is_outermost os) n c) behind x us
      ∙ ap (λ z. on kind x us z behind) (if_false (is_key w.Return x.kind) _ _ r ∙ if_false (c && opens x.kind) _ _ b)
      ∙ ap (λ z. on kind x us (or_ends (going z next) ([], None, n)) behind) e

  -- a statement begins
  pub stat_goes : (x : Word) (us : Words) (q : Plan (Stat × ℕ × Bool)) → is_key w.Return x.kind ≡ false → (c && opens x.kind) ≡ false → start_stat (is_outermost os) n x.pos x.kind ≡ Some q
      → run kind (onward q (stated os ss)) us ≡ run kind (plan_at os ss hs n c mode.Block) (x ∷ us)
  stat_goes x us q r b e = sym (block_at x us (Some q) r b e ∙ ap (λ z. run kind z us) (onward_assoc q next behind))

  -- no statement begins
  pub block_ends : (x : Word) (us : Words) → opener_of x.kind ≡ openers.Other → run kind (plan_at os ss hs n c (mode.Ended None)) (x ∷ us) ≡ run kind (plan_at os ss hs n c mode.Block) (x ∷ us)
  block_ends x us h = sym (block_at x us None (other_no_return x.kind h) (and_false c (opens x.kind) (other_no_open x.kind h)) (other_stat x.kind (is_outermost os) n x.pos h))

  pub plain_goes : (ts new : Words) (x : Start) (p : Pos) → head_opener ts ≡ openers.Plain x → new ≡ drop 1 ts → p ≡ head_pos ts
      → run kind (onward (stat_after x p n) (stated os ss)) new ≡ run kind (plan_at os ss hs n c mode.Block) ts
  plain_goes [] new x p h e q = cc
  plain_goes (y ∷ us) new x p h e q =
      ap (run kind (onward (stat_after x p n) (stated os ss))) e ∙ ap (λ z. run kind (onward (stat_after x z n) (stated os ss)) us) q
      ∙ stat_goes y us (stat_after x y.pos n) (plain_no_return y.kind x h) (and_false c (opens y.kind) (plain_no_open y.kind x h)) (plain_starts y.kind x (is_outermost os) n y.pos h)

  -- a name begins a statement
  pub name_goes : (x : Name) (ts new : Words) → ts ≡ named x ∷ new → run kind (read (Item.behind_name (is_outermost os) x n) (stated os ss)) new ≡ run kind (plan_at os ss hs n c mode.Block) ts
  name_goes x ts new e = stat_goes (named x) new (read (Item.behind_name (is_outermost os) x n) done) refl (and_false c false refl) refl ∙ ap (run kind (plan_at os ss hs n c mode.Block)) (sym e)

  pub enclosed_goes : (r : OnReturn) (f : OnExpr) (ts new : Words) (p : Pos) → ts ≡ symbol s.OpenParen (head_pos ts) ∷ new → p ≡ head_pos ts → c ≡ false
      → run kind (read (Item.an_expr 1 n) (framed (frame.Paren within.Statement p) (stated os ss) r f)) new ≡ run kind (plan_at os ss hs n c mode.Block) ts
  enclosed_goes r f ts new p b h d =
      ap (λ z. run kind (read (Item.an_expr 1 n) (framed (frame.Paren within.Statement z) (stated os ss) r f)) new) h
      ∙ stat_goes (symbol s.OpenParen (head_pos ts)) new (read (Item.an_expr 1 n) λ a. want (sign s.CloseParen) λ _. read (Item.rest_of_stat Enclosed (e.Paren (head_pos ts) a.0) a.1) done) refl (ap (λ z. z && true) d) refl
      ∙ ap (run kind (plan_at os ss hs n c mode.Block)) (sym b)

  pub return_goes : (ts new : Words) (p : Pos) → ts ≡ keyword w.Return (head_pos ts) ∷ new → p ≡ head_pos ts
      → run kind (read (Item.return_values n) (returned os ss p)) new ≡ run kind (plan_at os ss hs n c mode.Block) ts
  return_goes ts new p e h =
      ap (λ z. run kind (read (Item.return_values n) (returned os ss z)) new) h ∙ ap (run kind (plan_at os ss hs n c mode.Block)) (sym e)

-- `(` begins no statement where it would go on with the last one
pub open_stuck : (kind : ModuleKind) (os : List Outer) (ss : List Stat) (hs : List Held) (n : ℕ) (c : Bool) (ts : Words) → head_opener ts ≡ openers.OpenParen → c ≡ true → run kind (plan_at os ss hs n c mode.Block) ts ≡ Err ts
open_stuck kind os ss hs n c [] h d = cc
open_stuck kind os ss hs n c (x ∷ us) h d =
    let e = open_begins (x ∷ us) us h refl in
    ap (λ z. run kind (plan_at os ss hs n z mode.Block) (x ∷ us)) d ∙ ap (run kind (plan_at os ss hs n true mode.Block)) e ∙ ap Err (sym e)

-- values stand behind `return`
pub values_goes : (kind : ModuleKind) (k : OnStat) (r : OnReturn) (f : OnExpr) (n : ℕ) (p : Pos) (ts : Words) → is_starter (head_starter ts) ≡ true
    → run kind (read (Item.exprs n) (listed (list_of.Returned p) k r f)) ts ≡ run kind (read (Item.return_values n) (r p)) ts
values_goes kind k r f n p [] h = cc
values_goes kind k r f n p (x ∷ us) h = go x.kind h
  where
    go : (z : WordKind) → is_starter (starter_of z) ≡ true → run kind (read (Item.exprs n) (listed (list_of.Returned p) k r f)) (record { kind = z; pos = x.pos } ∷ us) ≡ run kind (read (Item.return_values n) (r p)) (record { kind = z; pos = x.pos } ∷ us)
    go (mark (key w.Nil)) g = refl
    go (mark (key w.False)) g = refl
    go (mark (key w.True)) g = refl
    go (mark (sign s.Dots)) g = refl
    go (mark (key w.Function)) g = refl
    go (mark (sign s.OpenParen)) g = refl
    go (mark (sign s.OpenBrace)) g = refl
    go (mark (key w.Not)) g = refl
    go (mark (sign s.Hash)) g = refl
    go (mark (sign s.Minus)) g = refl
    go (mark (sign s.Tilde)) g = refl
    go (WordKind.number i) g = refl
    go (WordKind.text t) g = refl
    go (WordKind.name t) g = refl
    go z g = cc

-- no type's name stands behind a name
pub behind_goes : (kind : ModuleKind) (k : OnStat) (o : Bool) (x : Name) (n : ℕ) (ts : Words) → (o && (is_typed kind && head_is_name ts)) ≡ false
    → run kind (read (Item.rest_of_stat Target (e.Name x.pos n x.text) (n + 1)) k) ts ≡ run kind (read (Item.behind_name o x n) k) ts
behind_goes kind k o x n [] h = refl
behind_goes kind k true x n (y ∷ us) h = go kind y.kind h
  where
    go : (m : ModuleKind) (z : WordKind) → (is_typed m && if_name z (λ t. true) false) ≡ false
        → run m (read (Item.rest_of_stat Target (e.Name x.pos n x.text) (n + 1)) k) (record { kind = z; pos = y.pos } ∷ us) ≡ run m (read (Item.behind_name true x n) k) (record { kind = z; pos = y.pos } ∷ us)
    go module_kind.Typed (WordKind.name t) g = cc
    go module_kind.Typed (mark t) g = refl
    go module_kind.Typed (WordKind.number t) g = refl
    go module_kind.Typed (WordKind.text t) g = refl
    go module_kind.Untyped z g = refl
behind_goes kind k false x n (y ∷ us) h = refl

pub plain_length : (ts new : Words) (x : Start) → head_opener ts ≡ openers.Plain x → new ≡ drop 1 ts → length ts ≡ length new + 1
plain_length [] new x h e = cc
plain_length (y ∷ us) new x h e = let d : length new ≡ length us = ap (λ z. length z) e in omega (arith, d)

-- the end of the file ends the outermost block
pub finish_goes : (kind : ModuleKind) (os : List Outer) (d : List Stat × Option Return × ℕ) (ts new : Words) (p : Pos) → os ≡ [] → ts ≡ marked finish p ∷ new → new ≡ [] → run kind (ended os d) ts ≡ Ok (block d.0 d.1)
finish_goes kind os d ts new p e h l = ap (λ z. run kind (ended z d) ts) e ∙ ap (run kind (ended [] d)) (h ∙ ap (λ z. marked finish p ∷ z) l)

pub finish_stuck : (kind : ModuleKind) (os : List Outer) (d : List Stat × Option Return × ℕ) (ts new : Words) (p : Pos) → os ≡ [] → ts ≡ marked finish p ∷ new → (new ≡ [] → ⊥) → run kind (ended os d) ts ≡ Err new
finish_stuck kind os d ts [] p e h l = absurd (l refl)
finish_stuck kind os d ts (x ∷ us) p e h l = ap (λ z. run kind (ended z d) ts) e ∙ ap (run kind (ended [] d)) h

pub finish_missing : (kind : ModuleKind) (os : List Outer) (d : List Stat × Option Return × ℕ) (ts : Words) → os ≡ [] → head_is finish ts ≡ false → run kind (ended os d) ts ≡ Err ts
finish_missing kind os d [] e h = ap (λ z. run kind (ended z d) []) e
finish_missing kind os d (x ∷ us) e h = ap (λ z. run kind (ended z d) (x ∷ us)) e ∙ ap (after kind x us) (if_false (is_mark finish x.kind) _ _ h)
