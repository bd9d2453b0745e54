-- `literal` is right because the number that it reads is a whole operand, and its literal stands in the next slot.
use Rattle.std.proofs.Common.{arith}
use Rattle.std.proofs.lemmas.List.{length-map}
use Rattle.formula.specs.declared.Slot.{Slot}
use Rattle.text.proofs.ReadFactors.{literal_fits, literal_read}
use Rattle.text.proofs.readers.literal.Goals as goal

pub put-requires : goal.put-requires
put-requires c =
    let h = literal_fits c.requires.ready c.number-read.ensures in
    omega (arith, c.requires.ready.kinds_room, length-map c.args.slots.now (λ (s : Slot). s.kind))

pub overflow_add-result : goal.overflow_add-result
overflow_add-result c =
    let h = literal_fits c.requires.ready c.number-read.ensures in
    omega arith

pub returns : goal.returns
returns c =
    literal_read c.requires.ready c.number-read.ensures c.args.sense c.skip.ensures c.put.ensures.kinds_after c.literal_number.ensures
    c.put.ensures.spans_after
