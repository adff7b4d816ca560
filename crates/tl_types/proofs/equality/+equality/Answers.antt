use Rattle.std.proofs.Common.{arith, sym, ap, ◌∙◌}
use Rattle.tl_types.specs.declared.types.Ty.TheVariants as ty
use Rattle.tl_types.proofs.Measures.{size_of_func}
use Rattle.tl_types.proofs.equality.+equality.Goals as goal

pub same-same_funcs-requires : goal.same-same_funcs-requires
same-same_funcs-requires t c = (omega (arith, c.decreases, size_of_func c.args.a.now c.get.result.now (c.in-Func-Func.is-0 ∙ ap ty.Func (sym c.get.ensures))), tt)
