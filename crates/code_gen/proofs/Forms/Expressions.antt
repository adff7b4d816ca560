-- What each form of expression adds, from what its parts add.
use Rattle.std.proofs.Common.{◌≡◌, refl, ℕ, ◌+◌, ℤ, pos, Bool, true, false, List, ◌++◌, length, add_assoc, append_assoc, add-zero}
use Rattle.std.proofs.lemmas.List.{length-append, append-nil}
use Rattle.tl_base.specs.declared.place.Pos.{Pos}
use Rattle.tl_base.specs.declared.crossing.CrossKind.{CrossKind}
use Rattle.lua_tree.specs.Tree as tree
use Rattle.lua_tree.specs.declared.annotation.Name.{Name}
use Rattle.lua_tree.specs.declared.syntax.BinaryOperator.{BinaryOperator}
use Rattle.lua_tree.specs.declared.syntax.BinaryOperator.TheVariants as binary
use Rattle.lua_tree.specs.declared.syntax.UnaryOperator.{UnaryOperator}
use Rattle.lua_tree.specs.Tree.{Exp, Multi, Exps, Entries, Function, Stat, Clauses, Else, Step, Block}
use Rattle.lua_tree.specs.Places.{place_of, multi_place}
use Rattle.lua_meaning.specs.Locals.{entries_locals, exp_locals, exps_locals}
use Rattle.lua_code.specs.declared.code.Instr.TheVariants as instr
use Rattle.lua_code.specs.Sizes.{operator_gap, operator_slots, exp_size, function_inner}
use Rattle.lua_code.specs.Generated.{Placed, read_use, use_in, field_instr, truth_instr, unary_instr, binary_code}
use Rattle.lua_code.proofs.Faithful.Lengths.{exp_length, exp_count}
use Rattle.code_gen.specs.Pieces.{between, behind}
use Rattle.code_gen.specs.Work.{Work, declaring, leaving, base, skip, free_from, next_from, put_all, put, with_exp, with_multi, with_values, is_open, with_list, with_step, with_function}

-- ---- lists of values

pub list_none : (p : Pos) (n : ℕ) (w : Work) → put (instr.Pack n) p w ≡ with_list tree.none p n w
unfolding with_list put_all skip free_from next_from declaring leaving
list_none p n w = simp (append-nil, add-zero)

pub list_more : (e : Exp) (es : Exps) (p : Pos) (n : ℕ) (w : Work) → with_list es p (n + 1) (with_exp e w) ≡ with_list (tree.more e es) p n w
unfolding with_list with_exp skip free_from next_from declaring leaving
list_more e es p n w = simp (append_assoc, length-append, exp_length, exp_count, add_assoc)

pub list_ends : (m : Multi) (p : Pos) (n : ℕ) (w : Work) → put (instr.Cons n) p (with_multi m w) ≡ with_list (tree.ends m) p n w
unfolding with_list with_multi put_all skip free_from next_from declaring leaving
list_ends m p n w = simp append_assoc

-- ---- what gives any number of values

pub vararg_form : (p : Pos) (w : Work) → put instr.Rest p w ≡ with_multi (tree.vararg p) w
unfolding with_multi put_all skip free_from next_from declaring leaving
vararg_form p w = simp (append-nil, add-zero)

pub call_form : (p : Pos) (f : Exp) (es : Exps) (w : Work) → put instr.Call p (with_list es p 0 (with_exp f w)) ≡ with_multi (tree.call p f es) w
unfolding with_multi with_list with_exp put_all skip free_from next_from declaring leaving
call_form p f es w = simp (append_assoc, length-append, exp_length, exp_count, add_assoc)

pub method_form : (p : Pos) (e : Exp) (n : Name) (es : Exps) (w : Work) → put (instr.Pack 0) p (skip (exp_locals e + exps_locals es) w) ≡ with_multi (tree.method p e n es) w
unfolding with_multi put_all skip free_from next_from declaring leaving
method_form p e n es w = simp append-nil

pub first_form : (m : Multi) (w : Work) → put instr.First (multi_place m) (with_multi m w) ≡ with_exp (tree.one_of m) w
unfolding with_multi with_exp put_all skip free_from next_from declaring leaving
first_form m w = simp append_assoc

pub values_form : (e : Exp) (w : Work) → is_open e ≡ true → put instr.First (place_of e) (with_values e w) ≡ with_exp e w
values_form (tree.one_of m) w h = first_form m w
values_form e w h = cc

pub value_form : (e : Exp) (w : Work) → is_open e ≡ false → with_values e w ≡ with_exp e w
value_form (tree.one_of m) w h = cc
value_form e w h = refl

mark_form : (k : CrossKind) (e : Exp) (w : Work) → put (instr.Mark k (place_of e).line (place_of e).column) (place_of e) (with_exp e w) ≡ with_exp (tree.mark k e) w
unfolding with_exp put_all skip free_from next_from declaring leaving
mark_form k e w = simp append_assoc

mark_all_form : (k : CrossKind) (m : Multi) (w : Work) → put (instr.Mark k (multi_place m).line (multi_place m).column) (multi_place m) (with_multi m w) ≡ with_multi (tree.mark_all k m) w
unfolding with_multi put_all skip free_from next_from declaring leaving
mark_all_form k m w = simp append_assoc

pub marked_form : (k : CrossKind) (e : Exp) (w : Work) → put (instr.Mark k (place_of e).line (place_of e).column) (place_of e) (with_values e w) ≡ with_values (tree.marked k e) w
marked_form k (tree.one_of m) w = mark_all_form k m w
marked_form k e w = mark_form k e w

pub marked_open : (k : CrossKind) (e : Exp) → is_open (tree.marked k e) ≡ is_open e
marked_open k (tree.one_of m) = refl
marked_open k e = refl

-- ---- one value

pub nothing_form : (p : Pos) (w : Work) → put instr.Nil p w ≡ with_exp (tree.nothing p) w
unfolding with_exp put_all skip free_from next_from declaring leaving
nothing_form p w = simp (append-nil, add-zero)

pub truth_form : (p : Pos) (b : Bool) (w : Work) → put (truth_instr b) p w ≡ with_exp (tree.truth p b) w
unfolding with_exp put_all skip free_from next_from declaring leaving
truth_form p b w = simp (append-nil, add-zero)

pub integer_form : (p : Pos) (n : ℤ) (w : Work) → put (instr.Int n) p w ≡ with_exp (tree.integer p n) w
unfolding with_exp put_all skip free_from next_from declaring leaving
integer_form p n w = simp (append-nil, add-zero)

pub text_form : (p : Pos) (s : List ℕ) (w : Work) → put (instr.Str s) p w ≡ with_exp (tree.text p s) w
unfolding with_exp put_all skip free_from next_from declaring leaving
text_form p s w = simp (append-nil, add-zero)

pub name_form : (p : Pos) (u : ℕ) (s : List ℕ) (w : Work) → put (read_use w.scope (use_in w.scope u)) p w ≡ with_exp (tree.name p u s) w
unfolding with_exp put_all skip free_from next_from declaring leaving
name_form p u s w = simp (append-nil, add-zero)

pub field_form : (p : Pos) (e : Exp) (n : Name) (w : Work) → put (field_instr e w.scope) p (skip (exp_locals e) w) ≡ with_exp (tree.field p e n) w
unfolding with_exp put_all skip free_from next_from declaring leaving
field_form p e n w = simp append-nil

pub index_form : (p : Pos) (e k : Exp) (w : Work) → put instr.Nil p (skip (exp_locals e + exp_locals k) w) ≡ with_exp (tree.index p e k) w
unfolding with_exp put_all skip free_from next_from declaring leaving
index_form p e k w = simp append-nil

pub table_form : (p : Pos) (es : Entries) (w : Work) → put instr.Nil p (skip (entries_locals es) w) ≡ with_exp (tree.table p es) w
unfolding with_exp put_all skip free_from next_from declaring leaving
table_form p es w = simp append-nil

pub paren_form : (p : Pos) (e : Exp) (w : Work) → with_exp e w ≡ with_exp (tree.paren p e) w
unfolding with_exp skip free_from next_from declaring leaving
paren_form p e w = refl

pub function_form : (p : Pos) (f : Function) (w : Work) → put (instr.Closure (base w + function_inner f)) p (with_function f p w) ≡ with_exp (tree.function p f) w
unfolding with_exp with_function put_all skip free_from next_from declaring leaving
function_form p f w = simp append-nil

pub unary_form : (p : Pos) (o : UnaryOperator) (e : Exp) (w : Work) → put (unary_instr o) p (with_exp e w) ≡ with_exp (tree.unary p o e) w
unfolding with_exp put_all skip free_from next_from declaring leaving
unary_form p o e w = simp append_assoc

around : (o : BinaryOperator) (p : Pos) (slot end : ℕ) (a b : Placed) → binary_code o p slot end a b ≡ a ++ (between o p slot end ++ (b ++ behind o p slot))
around binary.Or p slot end a b = simp append-nil
around binary.And p slot end a b = simp append-nil
around binary.Less p slot end a b = refl
around binary.Greater p slot end a b = refl
around binary.LessEqual p slot end a b = refl
around binary.GreaterEqual p slot end a b = refl
around binary.NotEqual p slot end a b = refl
around binary.Equal p slot end a b = refl
around binary.BitOr p slot end a b = refl
around binary.BitXor p slot end a b = refl
around binary.BitAnd p slot end a b = refl
around binary.ShiftLeft p slot end a b = refl
around binary.ShiftRight p slot end a b = refl
around binary.Concat p slot end a b = refl
around binary.Add p slot end a b = refl
around binary.Subtract p slot end a b = refl
around binary.Multiply p slot end a b = refl
around binary.Divide p slot end a b = refl
around binary.Modulo p slot end a b = refl

between_length : (o : BinaryOperator) (p : Pos) (slot end : ℕ) → length (between o p slot end) ≡ operator_gap o
between_length binary.Or p slot end = refl
between_length binary.And p slot end = refl
between_length binary.Less p slot end = refl
between_length binary.Greater p slot end = refl
between_length binary.LessEqual p slot end = refl
between_length binary.GreaterEqual p slot end = refl
between_length binary.NotEqual p slot end = refl
between_length binary.Equal p slot end = refl
between_length binary.BitOr p slot end = refl
between_length binary.BitXor p slot end = refl
between_length binary.BitAnd p slot end = refl
between_length binary.ShiftLeft p slot end = refl
between_length binary.ShiftRight p slot end = refl
between_length binary.Concat p slot end = refl
between_length binary.Add p slot end = refl
between_length binary.Subtract p slot end = refl
between_length binary.Multiply p slot end = refl
between_length binary.Divide p slot end = refl
between_length binary.Modulo p slot end = refl

pub binary_form : (p : Pos) (o : BinaryOperator) (a b : Exp) (w : Work)
    → put_all (behind o p w.scope.free) (free_from w.scope.free (with_exp b (free_from (w.scope.free + operator_slots o) (put_all (between o p w.scope.free (length w.code + exp_size (tree.binary p o a b))) (with_exp a w)))))
    ≡ with_exp (tree.binary p o a b) w
unfolding with_exp put_all skip free_from next_from declaring leaving
binary_form p o a b w = simp (append_assoc, length-append, exp_length, exp_count, between_length, around, add_assoc)

-- ---- the step of a loop

pub no_step_form : (p : Pos) (w : Work) → put (instr.Int (pos 1)) p w ≡ with_step tree.no_step p w
unfolding with_step put_all skip free_from next_from declaring leaving
no_step_form p w = simp (append-nil, add-zero)

pub step_form : (p : Pos) (e : Exp) (w : Work) → put instr.Bound (place_of e) (with_exp e w) ≡ with_step (tree.step e) p w
unfolding with_step with_exp put_all skip free_from next_from declaring leaving
step_form p e w = simp append_assoc
