use Rattle.std.proofs.Common.{refl}
use Rattle.std.proofs.lemmas.Result.{err_from_is_err_and}
use Rattle.tl_check.proofs.Combined.{module_refused, module_made}
use Rattle.tl_check.proofs.modules.typed_module.Goals as goal

pub returns-in_err-body : goal.returns-in_err-body
returns-in_err-body c =
    let p = err_from_is_err_and c.from_residual.result c.from_residual.ensures.1 in
    record {
      typed = rw (p.1, p.2) (module_refused c.args.scoped.uses c.as_slice.result.now c.new-env.result.items c.block.new.env.items c.args.scoped.chunk.body _ c.as_slice.ensures c.new-env.ensures.items c.in_err-body.ensures);
      kept = rw p.1 tt;
    }

pub returns : goal.returns
returns c =
    record {
      typed = module_made c.args.scoped.uses c.as_slice.result.now c.new-env.result.items c.block.new.env.items c.args.scoped.chunk.body c.in_ok-body.body c.as_slice.ensures c.new-env.ensures.items c.in_ok-body.ensures;
      kept = refl;
    }
