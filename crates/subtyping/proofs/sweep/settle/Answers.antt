use Rattle.std.proofs.Common.{◌≡◌, sym, ap, ◌∙◌}
use Rattle.std.specs.Prelude.{Some, slice_get}
use Rattle.std.proofs.lemmas.Option.{slice_get-get_or}
use Rattle.subtyping.proofs.Steps.{at_ok}
use Rattle.subtyping.proofs.Sweeps.{settled_dead, settled_kept, settled_taken}
use Rattle.subtyping.proofs.sweep.settle.Goals as goal

pub returns-then-not-pair : goal.returns-then-not-pair
returns-then-not-pair c =
    let items = c.args.assumed.now.pairs.items in
    let pair = c.index-pair.result.now in
    let is : slice_get items c.args.k ≡ Some pair = slice_get-get_or items c.args.k pair c.requires.within ∙ ap Some (sym c.index-pair.ensures) in
    settled_dead c.args.rules.loose c.args.rules.bodies.now items c.args.k pair is c.if-not-pair.true c.requires.sound

pub returns-then-branch : goal.returns-then-branch
returns-then-branch c =
    let loose = c.args.rules.loose in
    let bodies = c.args.rules.bodies.now in
    let items = c.args.assumed.now.pairs.items in
    let pair = c.index-pair.result.now in
    let is : slice_get items c.args.k ≡ Some pair = slice_get-get_or items c.args.k pair c.requires.within ∙ ap Some (sym c.index-pair.ensures) in
    settled_kept loose bodies items c.each_of.new.assumed.pairs.items c.args.k pair is c.requires.sound (at_ok loose bodies _ _ _ _ _ _ c.each_of.ensures c.in_ok-each_of.was c.if-branch.true)

pub returns : goal.returns
returns c =
    let loose = c.args.rules.loose in
    let bodies = c.args.rules.bodies.now in
    let items = c.args.assumed.now.pairs.items in
    let pair = c.index-pair.result.now in
    let is : slice_get items c.args.k ≡ Some pair = slice_get-get_or items c.args.k pair c.requires.within ∙ ap Some (sym c.index-pair.ensures) in
    settled_taken loose bodies items c.each_of.new.assumed.pairs.items c.args.k pair c.index_mut.result.now is c.index_mut.ensures.value c.requires.sound (at_ok loose bodies _ _ _ _ _ _ c.each_of.ensures c.in_ok-each_of.was c.if-branch.false)
