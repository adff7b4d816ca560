use Rattle.std.proofs.Common.{◌≡◌, ◌++◌, drop}
use Rattle.lua_code.specs.Listings.{hex_text}
use Rattle.lua_code.proofs.writing.push_hex.Given as goal

abbrev pub invariant-loop-byte : goal.invariant-loop-byte
invariant-loop-byte l = l.to ++ hex_text (drop l.byte-index l.bytes) ≡ l.initial.to ++ hex_text l.bytes
