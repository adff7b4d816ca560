use Rattle.std.proofs.Common.{sym, ap, ◌∙◌}
use Rattle.std.specs.Option.{option_copied}
use Rattle.tl_types.specs.Unions.{or_nil}
use Rattle.tl_types.proofs.Places.{place_past}
use Rattle.subtyping.proofs.compare.place.Goals as goal

pub returns-in-None : goal.returns-in-None
returns-in-None c = ap or_nil c.get-in-None.ensures ∙ sym (place_past c.args.tuple.now c.args.i (sym c.get.ensures.value ∙ ap option_copied c.in-None.is))
