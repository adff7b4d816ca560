use Rattle.std.proofs.Common.{◌≡◌, drop, map}
use Rattle.type_reader.specs.Declarations.{own_uses}
use Rattle.type_reader.specs.Ranks.{uses_fall}
use Rattle.type_reader.specs.SeenUses.{used_of}
use Rattle.type_reader.proofs.ranks.uses_fall.Given as goal

abbrev pub invariant-loop-used : goal.invariant-loop-used
invariant-loop-used l = uses_fall l.own l.ranks l.limit (own_uses (map used_of (drop l.used-index l.used-items))) ≡ uses_fall l.own l.ranks l.limit (own_uses (map used_of l.used-items))
