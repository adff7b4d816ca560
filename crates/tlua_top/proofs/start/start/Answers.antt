use Rattle.std.proofs.Common.{refl, ◌∙◌, ap, subst, []}
use Rattle.lua_meaning.specs.Programs.{module_of}
use Rattle.tlua_top.specs.Lines.{crossing_lines}
use Rattle.tlua_top.specs.Defined.{run_of}
use Rattle.tlua_top.specs.Serving.{ComesTo}
use Rattle.tlua_top.proofs.start.start.Goals as goal

pub returns : goal.returns
returns c = record {
  file = refl;
  ahead = c.in_ok-ahead.ensures ∙ ap (λ f. crossing_lines f c.as_slice-2.result.now) c.as_slice.ensures ∙ ap (crossing_lines c.args.program.file) c.as_slice-2.ensures;
  runs = λ input. subst (λ f. ComesTo [] input c.in_ok-machine.machine (run_of f input (module_of c.args.program.scoped))) c.as_slice-3.ensures (c.in_ok-machine.ensures input);
}
