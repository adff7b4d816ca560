use Rattle.std.proofs.Common.{◌≡◌, drop, map}
use Rattle.type_reader.specs.Declarations.{uses_lead, own_uses}
use Rattle.type_reader.specs.SeenUses.{used_of}
use Rattle.type_reader.proofs.circles.one_leads.Given as goal

abbrev pub invariant-loop-used : goal.invariant-loop-used
invariant-loop-used l = uses_lead l.own l.to l.flags (own_uses (map used_of (drop l.used-index l.used-items))) ≡ uses_lead l.own l.to l.flags (own_uses (map used_of l.used-items))
