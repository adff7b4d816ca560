-- The outside of a run: what was written before, and the input that is left.
use Rattle.std.specs.Prelude.{ℕ, List, ◌++◌}
use Rattle.lua_meaning.specs.World.{World}
use Rattle.lua_code.specs.Configurations.{Config, running, calling, giving, raising, Next, go, stop, stuck}

-- the same world, with a text written before all that was written in it, and with this input left
abbrev pub outside : List ℕ → List ℕ → World → World
outside out input w = record w { output = out ++ w.output; input = input }

abbrev pub config_outside : List ℕ → List ℕ → Config → Config
config_outside out input (running f levels w ks) = running f levels (outside out input w) ks
config_outside out input (calling p v vs levels w ks) = calling p v vs levels (outside out input w) ks
config_outside out input (giving vs levels w ks) = giving vs levels (outside out input w) ks
config_outside out input (raising v levels w ks) = raising v levels (outside out input w) ks

abbrev pub with_outside : List ℕ → List ℕ → Next → Next
with_outside out input (go c) = go (config_outside out input c)
with_outside out input (stop e w) = stop e (outside out input w)
with_outside out input stuck = stuck
