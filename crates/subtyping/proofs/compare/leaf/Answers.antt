use Rattle.std.proofs.Common.{sym}
use Rattle.tl_types.specs.Below.{member_below, map_below}
use Rattle.subtyping.proofs.Steps.{same_claim}
use Rattle.subtyping.proofs.compare.leaf.Goals as goal

pub returns-in-Maps : goal.returns-in-Maps
returns-in-Maps c =
    same_claim c.args.rules.loose c.args.rules.bodies.now (λ R. map_below R c.in-Maps.k.now c.in-Maps.v.now c.in-Maps.l.now c.in-Maps.w.now) (λ R. member_below c.args.rules.bodies.now R c.args.s.now c.args.t.now) _ _ _
    (λ R. sym (c.in-Maps.ensures R)) c.map.ensures
