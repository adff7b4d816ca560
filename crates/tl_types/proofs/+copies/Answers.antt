use Rattle.std.proofs.Common.{arith, sym, ap, ◌∙◌}
use Rattle.tl_types.specs.declared.types.Ty.TheVariants as ty
use Rattle.tl_types.proofs.Measures.{size_of_func}
use Rattle.tl_types.proofs.+copies.Goals as goal

pub types::Ty::copy-copy_func-requires : goal.types::Ty::copy-copy_func-requires
types::Ty::copy-copy_func-requires t c = (omega (arith, c.decreases, size_of_func c.args.self.now c.get.result.now (c.in-Func.is ∙ ap ty.Func (sym c.get.ensures))), tt)
