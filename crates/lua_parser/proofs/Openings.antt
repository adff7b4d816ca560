-- No plan of the reader is at its end before the file's end is read.
use Rattle.std.proofs.Common.{◌≡◌, ℕ, Bool, List, [], ◌∷◌, Option, Err, refl, ap, sym, ◌∙◌}
use Rattle.tl_base.specs.declared.place.ModuleKind.{ModuleKind}
use Rattle.lua_tree.specs.declared.syntax.Block.{Block}
use Rattle.lua_tree.specs.declared.syntax.Expr.{Expr}
use Rattle.lua_tree.specs.declared.syntax.Stat.{Stat}
use Rattle.lua_tree.specs.declared.syntax.Return.{Return}
use Rattle.lua_parser.specs.Words.{Words}
use Rattle.lua_parser.specs.Grammar.Syntax.{Form}
use Rattle.lua_parser.specs.Machine.Plan.{Plan}
use Rattle.lua_parser.specs.Machine.Run.{run}
use Rattle.lua_parser.specs.declared.reader.Within.{Within}
use Rattle.lua_parser.specs.declared.reader.Within.TheVariants as within
use Rattle.lua_parser.specs.declared.reader.Frame.{Frame}
use Rattle.lua_parser.specs.declared.reader.Frame.TheVariants as frame
use Rattle.lua_parser.specs.declared.reader.Held.{Held}
use Rattle.lua_parser.specs.declared.reader.BodyOf.TheVariants as body_of
use Rattle.lua_parser.specs.declared.reader.BlockOf.{BlockOf}
use Rattle.lua_parser.specs.declared.reader.BlockOf.TheVariants as block_of
use Rattle.lua_parser.specs.declared.reader.Outer.{Outer}
use Rattle.lua_parser.specs.declared.reader.Mode.{Mode}
use Rattle.lua_parser.specs.declared.reader.Mode.TheVariants as mode
use Rattle.lua_parser.specs.declared.reader.Reader.{Reader}
use Rattle.lua_parser.specs.Stacks.{OnExpr, OnStat, prefixed, framed, valued, closed, stated, returned, ended, form_of, plan_at, plan}

module _ (kind : ModuleKind) where
  -- some word is still to come
  abbrev Open : Plan Block → Type 0
  Open p = run kind p [] ≡ Err []

  open_prefix : (x : Within) (k : OnStat) (f : OnExpr) (c : Form) (a : Expr) (n : ℕ) → Open (prefixed x k f c a n)
  open_prefix (within.Expression l) k f c a n = refl
  open_prefix within.Statement k f c a n = refl
  open_prefix (within.Targets ts) k f c a n = refl

  open_frame : (x : Frame) (os : List Outer) (ss : List Stat) (f : OnExpr) (v : Expr × ℕ × Bool) → Open (framed x (stated os ss) (returned os ss) f v)
  open_frame (frame.Unary l p o) os ss f v = refl
  open_frame (frame.Right l o a) os ss f v = refl
  open_frame (frame.Paren c p) os ss f v = refl
  open_frame (frame.Index c a) os ss f v = refl
  open_frame (frame.Listed o es) os ss f v = refl
  open_frame (frame.Key t) os ss f v = refl
  open_frame (frame.Keyed t a) os ss f v = refl
  open_frame (frame.Named t x) os ss f v = refl
  open_frame (frame.Item t) os ss f v = refl
  open_frame (frame.While p) os ss f v = refl
  open_frame (frame.Until p b) os ss f v = refl
  open_frame (frame.Condition p cs) os ss f v = refl
  open_frame (frame.First p x) os ss f v = refl
  open_frame (frame.Limit p x a) os ss f v = refl
  open_frame (frame.Step g) os ss f v = refl

  open_value : (hs : List Held) (os : List Outer) (ss : List Stat) (v : Expr × ℕ × Bool) → Open (valued (stated os ss) (returned os ss) hs v)
  open_value [] os ss v = refl
  open_value (h ∷ hs) os ss v = open_frame h.frame os ss (valued (stated os ss) (returned os ss) hs) v

  open_closed : (x : BlockOf) (d : List Stat × Option Return × ℕ) (k : OnStat) (f : OnExpr) → Open (closed x d k f)
  open_closed (block_of.Do p) d k f = refl
  open_closed (block_of.While p a) d k f = refl
  open_closed (block_of.Repeat p) d k f = refl
  open_closed (block_of.Then p cs a) d k f = refl
  open_closed (block_of.Else p cs) d k f = refl
  open_closed (block_of.Numeric r i) d k f = refl
  open_closed (block_of.Generic p xs es) d k f = refl
  open_closed (block_of.Body (body_of.Operand l p) g) d k f = refl
  open_closed (block_of.Body (body_of.Function p a) g) d k f = refl
  open_closed (block_of.Body (body_of.Method p a x) g) d k f = refl
  open_closed (block_of.Body (body_of.Local p x) g) d k f = refl

  open_end : (os : List Outer) (d : List Stat × Option Return × ℕ) → Open (ended os d)
  open_end [] d = refl
  open_end (o ∷ os) d = open_closed o.of d _ _

  open_at : (os : List Outer) (ss : List Stat) (hs : List Held) (n : ℕ) (c : Bool) (m : Mode) → Open (plan_at os ss hs n c m)
  open_at os ss hs n c mode.Block = refl
  open_at os ss hs n c (mode.Operand l) = refl
  open_at os ss hs n c (mode.Operation l h a) = refl
  open_at os ss hs n c (mode.Prefix x f a) = open_prefix x _ _ (form_of f) a n
  open_at os ss hs n c (mode.Value a) = open_value hs os ss (a, n, c)
  open_at os ss hs n c (mode.Entries t) = refl
  open_at os ss hs n c (mode.BehindEntry t) = refl
  open_at os ss hs n c (mode.Locals p xs) = refl
  open_at os ss hs n c (mode.Names p xs d) = refl
  open_at os ss hs n c (mode.Path p a) = refl
  open_at os ss hs n c (mode.Params h may_end) = refl
  open_at os ss hs n c (mode.Statement x) = refl
  open_at os ss hs n c (mode.Ended x) = open_end os _

  -- where no word is left, the reading has stopped there
  pub stops_at_end : (r : Reader) (m : Mode) (ts : Words) → ts ≡ [] → run kind (plan r m) ts ≡ Err ts
  stops_at_end r m ts e = ap (run kind (plan r m)) e ∙ open_at r.outer r.stats r.frames r.uses r.takes_call m ∙ ap Err (sym e)
