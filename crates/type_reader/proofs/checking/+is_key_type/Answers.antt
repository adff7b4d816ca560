use Rattle.std.proofs.Common.{ap, sym, ◌∙◌}
use Rattle.tl_types.specs.declared.types.Ty.TheVariants as ty
use Rattle.type_reader.specs.Faults.{is_key}
use Rattle.type_reader.proofs.Keys.{key_union, no_keys, all_keys}
use Rattle.type_reader.proofs.checking.+is_key_type.Goals as goal

pub returns-then-not-is_key_type : goal.returns-then-not-is_key_type
returns-then-not-is_key_type t c =
    sym (key_union c.args.ty.now c.as_slice-member-items.result.now (c.in-Union.is ∙ ap ty.Union (sym c.as_slice-member-items.ensures))
    ∙ no_keys c.as_slice-member-items.result.now c.loop-member.member-index c.member-item.result c.loop-member-test.true (ap is_key (sym c.member-item.is) ∙ sym c.if-not-is_key_type.ensures))

pub returns-after-loop-member : goal.returns-after-loop-member
returns-after-loop-member t c =
    sym (key_union c.args.ty.now c.as_slice-member-items.result.now (c.in-Union.is ∙ ap ty.Union (sym c.as_slice-member-items.ensures))
    ∙ all_keys c.as_slice-member-items.result.now c.loop-member.member-index c.loop-member-test.false c.loop-member.invariant)
