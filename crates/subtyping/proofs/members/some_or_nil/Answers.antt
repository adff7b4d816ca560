use Rattle.std.proofs.Common.{◌||◌, subst}
use Rattle.std.specs.List.{list_any}
use Rattle.tl_types.specs.declared.types.Ty.TheVariants as ty
use Rattle.tl_types.specs.Types.{members}
use Rattle.tl_types.specs.Unions.{or_nil}
use Rattle.tl_types.specs.Below.{Test, member_below}
use Rattle.subtyping.specs.Pairs.{Compared}
use Rattle.subtyping.proofs.Monotone.{member_mono, some_mono}
use Rattle.subtyping.proofs.Sides.{right_nil}
use Rattle.subtyping.proofs.Steps.{at_ok, same_claim, or_hit, or_else}
use Rattle.subtyping.proofs.members.some_or_nil.Goals as goal

pub returns-then-branch : goal.returns-then-branch
returns-then-branch c =
    let loose = c.args.rules.loose in
    let bodies = c.args.rules.bodies.now in
    let s = c.args.s.now in
    let t = c.args.t.now in
    let first = λ (R : Test). list_any (member_below bodies R s) (members t) in
    let second = λ (R : Test). member_below bodies R s ty.Nil in
    same_claim loose bodies (λ R. first R || second R) (λ R. list_any (member_below bodies R s) (members (or_nil t))) _ _ _ (λ R. right_nil loose bodies R s t)
    (or_hit loose bodies first second _ _ (at_ok loose bodies _ _ _ _ _ _ c.some.ensures c.in_ok-some.was c.if-branch.true))

pub returns : goal.returns
returns c =
    let loose = c.args.rules.loose in
    let bodies = c.args.rules.bodies.now in
    let s = c.args.s.now in
    let t = c.args.t.now in
    let first = λ (R : Test). list_any (member_below bodies R s) (members t) in
    let second = λ (R : Test). member_below bodies R s ty.Nil in
    let leaf = subst (λ u. Compared loose bodies c.some.new.assumed.pairs.items c.leaf.new.assumed.pairs.items (λ R. member_below bodies R s u) c.leaf.result) c.requires.nil c.leaf.ensures in
    same_claim loose bodies (λ R. first R || second R) (λ R. list_any (member_below bodies R s) (members (or_nil t))) _ _ _ (λ R. right_nil loose bodies R s t)
    (or_else loose bodies first second (some_mono bodies s t) (λ A B to. member_mono A B to bodies s ty.Nil) _ _ _ _ (at_ok loose bodies _ _ _ _ _ _ c.some.ensures c.in_ok-some.was c.if-branch.false) leaf)
