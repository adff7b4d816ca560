use Rattle.std.proofs.Common.{◌≡◌, ◌++◌, drop}
use Rattle.lua_code.specs.Listings.{functions_from}
use Rattle.lua_code.proofs.writing.listing.Given as goal

abbrev pub invariant-loop-proto : goal.invariant-loop-proto
invariant-loop-proto l = l.text ++ functions_from l.function (drop l.proto-index l.proto-items) ≡ functions_from 0 l.proto-items
