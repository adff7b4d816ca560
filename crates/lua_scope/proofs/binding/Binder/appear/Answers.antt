use Rattle.std.proofs.Common.{◌≡◌, ◌-◌, ◌∙◌, ap, sym, length, refl}
use Rattle.lua_scope.proofs.Declared.{shown_last, kept_first}
use Rattle.lua_scope.proofs.binding.Binder.appear.Goals as goal

pub returns : goal.returns
returns c =
    let items = c.args.self.now.declared.items in
    let from : c.saturating_sub-first.result ≡ length items - c.args.count = c.saturating_sub-first.ensures ∙ ap (λ k. k - c.args.count) (c.len.ensures ∙ sym c.deref.ensures.len ∙ ap length c.deref.ensures.value) in
    let shown = shown_last c.args.count c.saturating_sub-first.result items c.deref.result.now c.deref.ensures.value from in
    let kept = kept_first c.args.count c.saturating_sub-first.result items c.truncate.new.self.items c.truncate.ensures.items from in
    let scopes = c.in_ok-enter_all.ensures in
    rw (scopes, shown, kept) refl
