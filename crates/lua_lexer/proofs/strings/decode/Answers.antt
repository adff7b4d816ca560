use Rattle.std.proofs.Common.{◌++◌}
use Rattle.lua_lexer.proofs.Parts.{reads_to, never_ends_part}
use Rattle.lua_lexer.specs.Strings.{Reads, Spoils}
use Rattle.lua_lexer.proofs.strings.decode.Goals as goal

pub loop-after-preserved : goal.loop-after-preserved
loop-after-preserved c =
    let k = c.in-Part.ensures in
    record {
      reads = λ more r f. reads_to _ k.0 more k.2 (c.loop-after.invariant.reads (k.0 ++ more) r (Reads.part k.1 f));
      spoils = λ r f. c.loop-after.invariant.spoils r (Spoils.later k.1 f);
      broken = λ out. c.loop-after.invariant.broken (never_ends_part c.requires k.1 out);
    }
