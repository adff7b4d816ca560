use Rattle.std.proofs.Common.{◌∙◌, ap, sym}
use Rattle.lua_scope.specs.Shown.{local_of}
use Rattle.lua_tree.specs.Scopes.Binding.{captured_by, crossed}
use Rattle.std.proofs.lemmas.Result.{IfOk-weaker}
use Rattle.lua_scope.proofs.Crossing.{all_crossed, none_crossed}
use Rattle.lua_scope.proofs.scopes.Scopes.capture.Goals as goal

pub returns-then-not-branch : goal.returns-then-not-branch
returns-then-not-branch c =
    let l = local_of c.args.local in
    let none = rw (c.if-not-branch.true, c.deref.ensures.value) at c.in_ok-cross_all.ensures in
    ap (λ s. captured_by l.number (crossed l s.place s.around) c.args.captures.now) (sym c.self.view_is)
    ∙ none_crossed l c.self.inside.visible c.self.inside.here c.self.inside.around.items c.args.captures.now c.if-local-self.false none

pub returns : goal.returns
returns c =
    let l = local_of c.args.local in
    let before = rw (c.if-not-branch.false, c.deref.ensures.value) at c.in_ok-cross_all.ensures in
    IfOk-weaker c.cross.result _ _ (λ fits one.
    ap (λ s. captured_by l.number (crossed l s.place s.around) c.args.captures.now) (sym c.self.view_is)
    ∙ all_crossed l c.self.inside.visible c.self.inside.here c.self.inside.around.items c.args.captures.now c.cross_all.new.captures _ c.if-local-self.false before one) c.cross.ensures
