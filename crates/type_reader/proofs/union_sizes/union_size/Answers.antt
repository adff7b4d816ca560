use Rattle.std.proofs.Common.{◌≡◌, List, length, ap, ◌∙◌, sym, arith}
use Rattle.tl_types.specs.declared.types.Ty.{Ty}
use Rattle.tl_types.specs.Sizes.{type_size}
use Rattle.type_reader.specs.Gathered.{uncovered}
use Rattle.type_reader.proofs.UnionSizes.{form_left, size_one, size_more}
use Rattle.type_reader.proofs.union_sizes.union_size.Goals as goal

pub returns-then-left-eq1 : goal.returns-then-left-eq1
returns-then-left-eq1 c =
    let kept = c.args.kept.now in
    let kinds = c.kinds_of-kinds.result in
    let is = c.kinds_of-kinds.ensures in
    let form = form_left kept kinds.int kinds.str c.requires.flat c.requires.once (sym is.any ∙ c.if-kinds.false) (sym is.value ∙ c.if-kinds-2.false) is.int is.str in
    let left : List Ty = uncovered kinds.int kinds.str kept in
    let one : length left ≡ 1 = omega (arith, c.left_of-left.ensures.count, c.if-left-eq1.true) in
    omega (arith, c.left_of-left.ensures.nodes, ap type_size form, size_one left one)

pub returns : goal.returns
returns c =
    let kept = c.args.kept.now in
    let kinds = c.kinds_of-kinds.result in
    let is = c.kinds_of-kinds.ensures in
    let form = form_left kept kinds.int kinds.str c.requires.flat c.requires.once (sym is.any ∙ c.if-kinds.false) (sym is.value ∙ c.if-kinds-2.false) is.int is.str in
    let left : List Ty = uncovered kinds.int kinds.str kept in
    let more : length left ≡ 1 → ⊥ = λ e. c.if-left-eq1.false (omega (arith, c.left_of-left.ensures.count, e)) in
    omega (arith, c.saturating_add.ensures, c.left_of-left.ensures.nodes, ap type_size form, size_more left more)
