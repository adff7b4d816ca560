use Rattle.std.proofs.Common.{◌≡◌, arith, ap, ◌∙◌}
use Rattle.lua_tree.specs.Tree as tree
use Rattle.lua_tree.proofs.Views.{stat_of-Assign}
use Rattle.lua_tree.specs.View.{exps_of, targets_of, stat_of}
use Rattle.lua_code.specs.Sizes.{exps_size}
use Rattle.code_gen.proofs.Lists.{targets_long}
use Rattle.code_gen.proofs.sizes.+sizes_of_blocks.Goals as goal

pub stat_size-returns-in_ok-total-in-Assign : goal.stat_size-returns-in_ok-total-in-Assign
stat_size-returns-in_ok-total-in-Assign t c =
    let seen : stat_of c.args.stat.now ≡ tree.assign c.in-Assign.field-0 (targets_of c.in-Assign.targets) (exps_of c.in-Assign.values) = ap stat_of c.in-Assign.is ∙ stat_of-Assign c.in-Assign.field-0 c.in-Assign.targets c.in-Assign.values in
    let values : exps_size (exps_of c.as_slice.result.now) ≡ exps_size (exps_of c.in-Assign.values) = ap (λ l. exps_size (exps_of l)) c.as_slice.ensures in
    rw seen (omega (arith, values, targets_long c.in-Assign.targets, c.in_ok-total-in-Assign.ensures, c.in_ok-all_size-in-Assign.ensures, c.in_ok-stores-in-Assign.ensures, c.len.ensures))
