use Rattle.std.proofs.Common.{[], ◌∷◌, ◌++◌}
use Rattle.lua_lexer.proofs.Fences.{closes_span, closes_from, pre_further, closes_further, never_closes, never_closes_empty}
use Rattle.lua_lexer.specs.Brackets.{Closes}
use Rattle.lua_lexer.proofs.brackets.closing.Goals as goal

pub returns-in-Some-shutting : goal.returns-in-Some-shutting
returns-in-Some-shutting c =
    let i = c.loop-byte.invariant in
    closes_span i.0 _ i.1 (i.2 [] c.in-Some-shutting.after.now (Closes.here c.in-Some-shutting.ensures))

pub loop-byte-preserved : goal.loop-byte-preserved
loop-byte-preserved c =
    let i = c.loop-byte.invariant in
    let h = c.in-Some.ensures in (
      i.0 ++ c.in-Some._byte ∷ [],
      pre_further i.0 i.1 h,
      (λ bs r f. closes_from i.0 bs c.in-Some._byte (i.2 (c.in-Some._byte ∷ bs) r (closes_further h c.in_default-shutting.ensures f))),
      (λ out. i.3 (never_closes h c.in_default-shutting.ensures out)),
    )

pub returns : goal.returns
returns c = c.loop-byte.invariant.3 (never_closes_empty c.in_default.ensures)
