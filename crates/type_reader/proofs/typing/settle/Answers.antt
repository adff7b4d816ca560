use Rattle.std.proofs.Common.{◌<◌, length, arith, refl, ap, sym, ◌∙◌}
use Rattle.std.specs.Prelude.{is_some}
use borrow.Author.Tests.{ltb-true}
use Rattle.type_reader.specs.Lent.{declared_in}
use Rattle.type_reader.specs.Growing.{entry_type}
use Rattle.type_reader.proofs.Entries.{found_at, absent_at, get_at}
use Rattle.type_reader.proofs.typing.settle.Goals as goal

pub returns-in-Some-2 : goal.returns-in-Some-2
returns-in-Some-2 c =
    let within : c.args.at < length c.args.«module».declared.now = ltb-true c.args.at (length c.args.«module».declared.now) (sym c.in-Some.ensures.lookup.0) in
    let in_types : c.args.at < length c.args.types.now.items = omega arith in
    let get = get_at c.args.«module».declared.now c.args.at c.in-Some.declaration.now within c.in-Some.ensures.lookup.1 in
    record {
      ty = c.in-Some-2.ty;
      within = in_types;
      absent = absent_at c.args.types.now.items c.args.at c.index.result.now in_types (ap is_some (sym c.index.ensures) ∙ sym c.is_some.ensures ∙ c.if-is_some.false);
      found = ap (λ ts. entry_type c.args.«module».known.now (declared_in c.args.«module».declared.now) ts c.args.at) (sym c.as_slice.ensures.value) ∙ found_at c.args.«module».known.now c.args.«module».declared.now c.args.«module».own.now c.as_slice.result.now c.args.at c.in-Some.declaration.now c.in_ok-ty.field-0 get c.requires.own c.in_ok-ty.ensures ∙ c.in-Some-2.is;
      written = refl;
    }

pub returns-in-None : goal.returns-in-None
returns-in-None c =
    let within : c.args.at < length c.args.«module».declared.now = ltb-true c.args.at (length c.args.«module».declared.now) (sym c.in-Some.ensures.lookup.0) in
    let get = get_at c.args.«module».declared.now c.args.at c.in-Some.declaration.now within c.in-Some.ensures.lookup.1 in
    record {
      same = refl;
      closed = λ absent. ap (λ ts. entry_type c.args.«module».known.now (declared_in c.args.«module».declared.now) ts c.args.at) (sym c.as_slice.ensures.value) ∙ found_at c.args.«module».known.now c.args.«module».declared.now c.args.«module».own.now c.as_slice.result.now c.args.at c.in-Some.declaration.now c.in_ok-ty.field-0 get c.requires.own c.in_ok-ty.ensures ∙ c.in-None.is;
    }
