use Rattle.std.proofs.Common.{arith, sym, ap, ◌∙◌}
use Rattle.tl_types.specs.declared.types.Ty.TheVariants as ty
use Rattle.tl_types.proofs.Measures.{size_union, size_of_func, size_rec, depth_union, depth_of_func, depth_rec}
use Rattle.tl_types.proofs.sizes.+extents.Goals as goal

pub of_type-returns-in-Func-clause-depth : goal.of_type-returns-in-Func-clause-depth
of_type-returns-in-Func-clause-depth t c = omega (arith, depth_of_func c.args.ty.now c.get.result.now (c.in-Func.is ∙ ap ty.Func (sym c.get.ensures)))

pub of_type-returns-in-Func-clause-nodes : goal.of_type-returns-in-Func-clause-nodes
of_type-returns-in-Func-clause-nodes t c = omega (arith, size_of_func c.args.ty.now c.get.result.now (c.in-Func.is ∙ ap ty.Func (sym c.get.ensures)))

pub of_type-returns-in-Rec-clause-depth : goal.of_type-returns-in-Rec-clause-depth
of_type-returns-in-Rec-clause-depth t c = omega (arith, depth_rec c.args.ty.now c.as_slice-in-Rec.result.now (c.in-Rec.is ∙ ap ty.Rec (sym c.as_slice-in-Rec.ensures)))

pub of_type-returns-in-Rec-clause-nodes : goal.of_type-returns-in-Rec-clause-nodes
of_type-returns-in-Rec-clause-nodes t c = omega (arith, size_rec c.args.ty.now c.as_slice-in-Rec.result.now (c.in-Rec.is ∙ ap ty.Rec (sym c.as_slice-in-Rec.ensures)))

pub of_type-returns-in-Union-clause-depth : goal.of_type-returns-in-Union-clause-depth
of_type-returns-in-Union-clause-depth t c = omega (arith, depth_union c.args.ty.now c.as_slice.result.now (c.in-Union.is ∙ ap ty.Union (sym c.as_slice.ensures)))

pub of_type-returns-in-Union-clause-nodes : goal.of_type-returns-in-Union-clause-nodes
of_type-returns-in-Union-clause-nodes t c = omega (arith, size_union c.args.ty.now c.as_slice.result.now (c.in-Union.is ∙ ap ty.Union (sym c.as_slice.ensures)))

pub of_type-of_func-requires : goal.of_type-of_func-requires
of_type-of_func-requires t c = (omega (arith, c.decreases, size_of_func c.args.ty.now c.get.result.now (c.in-Func.is ∙ ap ty.Func (sym c.get.ensures))), tt)
