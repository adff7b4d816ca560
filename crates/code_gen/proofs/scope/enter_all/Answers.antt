use Rattle.std.proofs.Common.{◌≡◌, ◌+◌, ◌++◌, ap₂, ◌∙◌, [], ◌∷◌}
use Rattle.code_gen.proofs.Scopes.{entered_step}
use Rattle.code_gen.proofs.scope.enter_all.Goals as goal

pub loop-i-preserved : goal.loop-i-preserved
loop-i-preserved c =
    let e : c.push.new.self.items ≡ c.loop-i.own.items ++ (c.args.first + c.loop-i.i, c.args.slot + c.loop-i.i) ∷ [] =
    c.in_ok-push.ensures.items ∙ ap₂ (λ x y. c.loop-i.own.items ++ (x, y) ∷ []) c.in_ok-sum.ensures c.in_ok-sum-2.ensures in
    entered_step c.args.count c.loop-i.i c.args.first c.args.slot c.loop-i.own.items c.push.new.self.items c.loop-i-test.true e ∙ c.loop-i.invariant
