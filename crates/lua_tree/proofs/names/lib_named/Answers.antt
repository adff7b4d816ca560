use Rattle.std.proofs.Common.{◌≡◌, true, sym, arith}
use Rattle.lua_tree.proofs.Library.{right_place, none_more, listed_found}
use Rattle.lua_tree.proofs.Named.{named_found, named_missing}
use Rattle.lua_tree.proofs.names.lib_named.Goals as goal

pub returns-then-is_at-clause-found : goal.returns-then-is_at-clause-found
returns-then-is_at-clause-found c = right_place _ _ _ _ c.library-entries.ensures.sound c.loop-entry-test.true (c.is_at.ensures.0 c.if-is_at.true)

pub loop-entry-preserved : goal.loop-entry-preserved
loop-entry-preserved c = none_more _ _ _ _ c.loop-entry.invariant c.loop-entry-test.true (λ there. let here : c.is_at.result ≡ true = c.is_at.ensures.1 there in cc)

pub returns-clause-missing : goal.returns-clause-missing
returns-clause-missing c = λ _ n is. listed_found _ n _ (c.library-entries.ensures.complete n) is (λ k h. c.loop-entry.invariant k (omega arith))

pub returns-then-is_at-clause-is : goal.returns-then-is_at-clause-is
returns-then-is_at-clause-is c = sym (named_found _ c.args.table.now c.args.name.now (returns-then-is_at-clause-found c))

pub returns-clause-is : goal.returns-clause-is
returns-clause-is c = named_missing c.args.table.now c.args.name.now (λ n is. listed_found _ n _ (c.library-entries.ensures.complete n) is (λ k h. c.loop-entry.invariant k (omega arith)))
