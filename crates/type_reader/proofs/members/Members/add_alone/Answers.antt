use Rattle.std.proofs.Common.{◌≡◌, ◌<◌, ◌∷◌, ◌++◌, [], false, List, ap, sym, ◌∙◌, subst, arith}
use Rattle.std.specs.List.{list_any}
use Rattle.tl_types.specs.declared.types.Ty.{Ty}
use Rattle.tl_types.specs.Same.{same_type}
use Rattle.tl_types.specs.Sizes.{type_size}
use Rattle.tl_types.specs.Unions.{is_any, is_value}
use Rattle.type_reader.specs.Gathered.{IsCounted, lasts, nodes_that_last}
use Rattle.type_reader.proofs.Standing.{or_false, stand_old, stand_full, counted_more, counted_by}
use Rattle.type_reader.proofs.members.Members.add_alone.Goals as goal

pub returns-then-contains-clause-stand : goal.returns-then-contains-clause-stand
returns-then-contains-clause-stand c =
    let kept = c.args.self.now.kept in
    let t = c.args.ty.now in
    stand_old kept t c.requires.counted.flat c.requires.alone (ap (list_any (same_type t)) (sym c.as_slice.ensures) ∙ sym c.contains.ensures ∙ c.if-contains.true)

pub returns-then-not-absorbs-clause-stand : goal.returns-then-not-absorbs-clause-stand
returns-then-not-absorbs-clause-stand c =
    let kept = c.args.self.now.kept in
    let t = c.args.ty.now in
    let apart = or_false (is_any t) (is_value t) (sym c.absorbs.ensures ∙ c.if-not-absorbs.true) in
    let large : 65536 < nodes_that_last kept = omega (arith, c.requires.counted.counted) in
    stand_full kept t c.requires.counted.flat c.requires.alone apart.0 apart.1 large

pub returns-clause-counted : goal.returns-clause-counted
returns-clause-counted c =
    let kept = c.args.self.now.kept in
    let t = c.args.ty.now in
    let more = c.saturating_add-self.result in
    let new : list_any (same_type t) kept ≡ false = ap (list_any (same_type t)) (sym c.as_slice.ensures) ∙ sym c.contains.ensures ∙ c.if-contains.false in
    let here = counted_by (lasts t) c.args.self.now.nodes (type_size t) more (omega (arith, c.saturating_add-self.ensures, c.nodes_that_last.ensures)) in
    let P : List Ty → Type 0 = λ ks. IsCounted ks more in
    subst P (sym (c.in_ok-push.ensures.ok ∙ ap (λ x. kept ++ x ∷ []) c.in_ok-copy.ensures)) (counted_more kept t c.args.self.now.nodes more c.requires.counted c.requires.alone new here)
