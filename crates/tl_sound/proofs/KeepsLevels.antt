-- Every program keeps what is stable: by induction on the turns.
use Rattle.std.proofs.Common.{ℕ, zero, suc, List, [], length}
use Rattle.tl_base.specs.declared.place.Pos.{Pos}
use Rattle.tl_base.specs.declared.crossing.Crossing.{Crossing}
use Rattle.lua_tree.specs.declared.names.LibName.{LibName}
use Rattle.lua_tree.specs.declared.names.LibName.TheVariants as lib
use Rattle.lua_tree.specs.Tree as tree
use Rattle.lua_tree.specs.Tree.{Function, Block}
use Rattle.lua_values.specs.declared.value.Value.{Value}
use Rattle.lua_values.specs.declared.value.Value.TheVariants as value
use Rattle.lua_meaning.specs.World.{World, write}
use Rattle.lua_meaning.specs.Environment.{Env, behind}
use Rattle.lua_meaning.specs.Outcomes.{Act, Closure, change, results_of}
use Rattle.lua_meaning.specs.Trees.{Loop, adjust, exec_all}
use Rattle.lua_meaning.specs.Calls.{Below, apply, below_of, body_of, counted, further, library_call, printed}
use Rattle.tl_rules.specs.Crossings.{function_marks, block_marks}
use Rattle.tl_sound.proofs.Keeps.{Each, Stable, Keep, then_keep, next_keep, give_keep, fail_keep, turn_keep, enter_keep, kind_error_keep}
use Rattle.tl_sound.proofs.KeepsTrees.{loop_marks, declare_all_keep, block_keeps, round_keeps}

module _ (I : World → Type 0) (M : Crossing → Type 0) where
  pub record BelowKeeps (below : Below) : Type 0 where
    pub enters : (c : ℕ) (k : Closure) (vs : List Value) → Each M (function_marks k.function) → Keep I M (below.enter c k vs)
    pub loops : (c : ℕ) (l : Loop) (env : Env) → Each M (loop_marks l) → Keep I M (below.loop c l env)

  counted_keep : {A : Type 0} (p : Pos) (c : ℕ) (f : ℕ → Act A) → ((left : ℕ) → Keep I M (f left)) → Keep I M (counted p c f)
  counted_keep p zero f k = fail_keep I M p _
  counted_keep p (suc c) f k = k c

  module _ (s : Stable I M) where
    write_keep : (bytes : List ℕ) → Keep I M (change (write bytes))
    write_keep bytes = record { at = λ w cs i h. (s.output _ w i, h) }

    library_call_keep : (n : LibName) (vs : List Value) → Keep I M (library_call n vs)
    library_call_keep lib.Print vs = next_keep I M _ _ (write_keep (printed vs)) (give_keep I M [])
    library_call_keep n vs = give_keep I M []

    module _ (below : Below) (keeps : BelowKeeps below) where
      pub apply_keep : (c : ℕ) (p : Pos) (f : Value) (vs : List Value) → Keep I M (apply below c p f vs)
      apply_keep c p (value.Closure number) vs =
          counted_keep p c _ (λ left.
          next_keep I M _ _ (turn_keep I M s) (enter_keep I M number (λ k. below.enter left k vs) (λ k m. keeps.enters left k vs m)))
      apply_keep c p (value.Builtin n) vs = counted_keep p c _ (λ left. library_call_keep n vs)
      apply_keep c p value.Nil vs = kind_error_keep I M s p _
      apply_keep c p (value.Bool b) vs = kind_error_keep I M s p _
      apply_keep c p (value.Int n) vs = kind_error_keep I M s p _
      apply_keep c p (value.Str t) vs = kind_error_keep I M s p _
      apply_keep c p (value.Table t) vs = kind_error_keep I M s p _

      body_keep : (c : ℕ) (f : Function) (env : Env) (vs : List Value) → Each M (function_marks f) → Keep I M (body_of below c f env vs)
      body_keep c (tree.function_of ps rest rs b) env vs m =
          then_keep I M _ _ (declare_all_keep I M s (adjust (length ps) vs) env.next env) (λ env1.
          then_keep I M _ _ (block_keeps I M s (apply below c) (below.loop c) (apply_keep c) (keeps.loops c) b (behind (length ps) (record env1 { rest = further rest (length ps) vs })) m) (λ flow.
          give_keep I M (results_of flow)))

    pub below_keeps : (n : ℕ) → BelowKeeps (below_of n)
    below_keeps zero = record {
      enters = λ c k vs m. record { at = λ w cs i h. i };
      loops = λ c l env m. record { at = λ w cs i h. i };
    }
    below_keeps (suc n) = record {
      enters = λ c k vs m. body_keep (below_of n) (below_keeps n) c k.function k.env vs m;
      loops = λ c l env m. round_keeps I M s (apply (below_of n) c) ((below_of n).loop c) (apply_keep (below_of n) (below_keeps n) c) ((below_keeps n).loops c) l env m;
    }

    -- a block that runs with so many turns left
    pub main_keeps : (n c : ℕ) (b : Block) (env : Env) → Each M (block_marks b) → Keep I M (exec_all (apply (below_of n) c) ((below_of n).loop c) b env)
    main_keeps n c b env m = block_keeps I M s (apply (below_of n) c) ((below_of n).loop c) (apply_keep (below_of n) (below_keeps n) c) ((below_keeps n).loops c) b env m
