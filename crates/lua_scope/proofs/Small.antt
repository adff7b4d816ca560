-- What small modules say of names, and what their names mean.
use Rattle.std.proofs.Common.{◌≡◌, ℕ, List, [], ◌∷◌, ◌++◌, Option, Some, None, refl, ap, sym, ◌∙◌, subst, Bool, true, false, cond, option_map}
use Rattle.std.proofs.lemmas.Cmp.{nat_list_eq_equiv}
use Rattle.std.specs.Prelude.{Ok, Err, map, codes}
use Rattle.tl_base.specs.declared.place.Pos.{Pos}
use Rattle.lua_tree.specs.declared.annotation.Typed.{Typed}
use Rattle.lua_tree.specs.declared.syntax.Expr.{Expr}
use Rattle.lua_tree.specs.declared.syntax.Expr.TheVariants as e
use Rattle.lua_tree.specs.declared.syntax.Stat.{Stat}
use Rattle.lua_tree.specs.declared.syntax.Stat.TheVariants as st
use Rattle.lua_tree.specs.declared.syntax.Block.{Block}
use Rattle.lua_tree.specs.declared.syntax.Entry.TheOpen as open_tree
use Rattle.lua_tree.specs.declared.syntax.Entry.TheFolds.{fold-roll-Expr, fold-roll-Stat, fold-roll-Block}
use Rattle.lua_tree.specs.Scopes.Events as says
use Rattle.lua_tree.specs.Scopes.Trees.{Events, Said, Bodied, said_of, stat_of, block_of, entry_at, expr_at, stat_at, block_at, body_at, clause_at, return_at, names, declares, values, appear, scope}
use Rattle.lua_tree.specs.Scopes.Places.{State, Local, Binding}
use Rattle.lua_tree.specs.Scopes.Library.{named, is_library_table}
use Rattle.lua_tree.specs.Scopes.Binding.{Outcome, run, refused, use_library, use_local, with_library, declared_local, appeared, begin_loop, local_named}
use Rattle.lua_tree.specs.declared.names.LibName.{LibName}
use Rattle.tl_base.specs.declared.refusal.RefusalCode.TheVariants as code
use Rattle.std.specs.Option.{option_map_or}
use Rattle.std.specs.Str.{bytes_eq}
use Rattle.lua_tree.specs.Scopes.Resolved.{resolution, bound, first_state}
use Rattle.lua_scope.specs.Examples.{own_initialiser, until_sees, typed, block_with, IsNoName, S1_at, one_local_used}

name_said : (p : Pos) (n : ℕ) (x : List ℕ) → (said_of (e.Name p n x)).value ≡ says.use_name p x ∷ []
name_said p n x = ap (λ k. k.value) (ap said_of (sym (e.rolls-Name p n x)) ∙ fold-roll-Expr Events Said Events Events Bodied Events Events entry_at expr_at stat_at block_at body_at clause_at return_at (open_tree.Name p n x))

local_said : (p : Pos) (ns : List Typed) (es : List Expr) → stat_of (st.Local p ns es) ≡ declares (names ns) ++ values (map said_of es) ++ appear (names ns) ∷ []
local_said p ns es = ap stat_of (sym (st.rolls-Local p ns es)) ∙ fold-roll-Stat Events Said Events Events Bodied Events Events entry_at expr_at stat_at block_at body_at clause_at return_at (open_tree.Local p ns es)

repeat_said : (p : Pos) (b : Block) (c : Expr) → stat_of (st.Repeat p b c) ≡ scope says.loop (block_of b ++ (said_of c).value)
repeat_said p b c = ap stat_of (sym (st.rolls-Repeat p b c)) ∙ fold-roll-Stat Events Said Events Events Bodied Events Events entry_at expr_at stat_at block_at body_at clause_at return_at (open_tree.Repeat p b c)

block_said : (s : Stat) → block_of (block_with (s ∷ [])) ≡ stat_of s ++ [] ++ []
block_said s = fold-roll-Block Events Said Events Events Bodied Events Events entry_at expr_at stat_at block_at body_at clause_at return_at (record { stats = s ∷ []; result = None })

own_said : (p q r : Pos) (x : List ℕ) → block_of (block_with (st.Local p (typed q x ∷ []) (e.Name r 0 x ∷ []) ∷ [])) ≡ says.declare q x ∷ says.use_name r x ∷ says.appear 1 ∷ []
own_said p q r x =
    block_said (st.Local p (typed q x ∷ []) (e.Name r 0 x ∷ []))
    ∙ ap (λ es. es ++ [] ++ []) (local_said p (typed q x ∷ []) (e.Name r 0 x ∷ []))
    ∙ ap (λ es. says.declare q x ∷ (es ++ [] ++ says.appear 1 ∷ []) ++ [] ++ []) (name_said r 0 x)

until_said : (p q r : Pos) (x : List ℕ) → block_of (block_with (st.Repeat p (block_with (st.Local p (typed q x ∷ []) [] ∷ [])) (e.Name r 0 x) ∷ []))
    ≡ says.loop ∷ says.declare q x ∷ says.appear 1 ∷ says.use_name r x ∷ says.finish ∷ []
until_said p q r x =
    let inner = block_with (st.Local p (typed q x ∷ []) [] ∷ []) in
    block_said (st.Repeat p inner (e.Name r 0 x))
    ∙ ap (λ es. es ++ [] ++ []) (repeat_said p inner (e.Name r 0 x))
    ∙ ap (λ es. (scope says.loop (es ++ (said_of (e.Name r 0 x)).value)) ++ [] ++ []) (block_said (st.Local p (typed q x ∷ []) []) ∙ ap (λ es. es ++ [] ++ []) (local_said p (typed q x ∷ []) []))
    ∙ ap (λ es. (scope says.loop (says.declare q x ∷ says.appear 1 ∷ es)) ++ [] ++ []) (name_said r 0 x)

unknown : (table require : Bool) (n : Option LibName) (r : Pos) (s : State) → table ≡ false → require ≡ false → n ≡ None
    → cond table (refused code.S3 r) (cond require (refused code.S4 r) (option_map_or (λ m. Ok (with_library s m)) n (refused code.S1 r))) ≡ refused code.S1 r
unknown true require n r s t q e = cc
unknown false true n r s t q e = cc
unknown false false (Some m) r s t q e = cc
unknown false false None r s t q e = refl

no_name : (r : Pos) (x : List ℕ) (s : State) → IsNoName x → use_library r x s ≡ refused code.S1 r
no_name r x s h = unknown (is_library_table x) (bytes_eq x (codes "require")) (named [] x) r s h.table h.require h.alone

abbrev then : Events → Outcome → Outcome
then es (Ok t) = run es t
then es (Err f) = Err f

pub not_seen : (p q r : Pos) (x : List ℕ) → IsNoName x → S1_at r (resolution (own_initialiser p q r x))
not_seen p q r x h =
    ap (λ es. bound (own_initialiser p q r x) (run es first_state)) (own_said p q r x)
    ∙ ap (λ o. bound (own_initialiser p q r x) (then (says.appear 1 ∷ []) o)) (no_name r x (declared_local x first_state) h)

abbrev in_body : List ℕ → State
in_body x = appeared 1 (declared_local x (begin_loop first_state))

found : (x : List ℕ) → local_named x (in_body x) ≡ Some (record { number = 0; function = 0 })
found x = ap (λ b. let l : Binding = record { name = x; local = record { number = 0; function = 0 } } in option_map (λ c. c.local) (cond b (Some l) None)) (nat_list_eq_equiv.refl x)

pub seen_until : (p q r : Pos) (x : List ℕ) → one_local_used (resolution (until_sees p q r x))
seen_until p q r x =
    let P : Option Local → Type 0 = λ o. one_local_used (bound (until_sees p q r x) (then (says.finish ∷ []) (option_map_or (use_local false r (in_body x)) o (use_library r x (in_body x))))) in
    subst one_local_used (sym (ap (λ es. bound (until_sees p q r x) (run es first_state)) (until_said p q r x)))
    (subst P (sym (found x)) refl)
