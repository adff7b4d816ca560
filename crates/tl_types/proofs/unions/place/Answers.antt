use Rattle.std.proofs.Common.{◌≡◌, sym, ap, ◌∙◌, subst, IfOk}
use Rattle.std.specs.Option.{option_copied}
use Rattle.tl_types.specs.Unions.{or_nil}
use Rattle.tl_types.proofs.Places.{place_past}
use Rattle.tl_types.proofs.unions.place.Goals as goal

pub returns-in-None : goal.returns-in-None
returns-in-None c =
    let here = ap or_nil c.get-in-None.ensures ∙ sym (place_past c.args.tuple.now c.args.index (sym c.get.ensures.value ∙ ap option_copied c.in-None.is)) in
    subst (λ u. IfOk c.with_nil.result (λ t. t ≡ u)) here c.with_nil.ensures
