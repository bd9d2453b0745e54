-- A slot written holds both its numbers, since a list of numbers taken from the slots changes where they do.
use Rattle.std.proofs.lemmas.List.{map-set}
use Rattle.formula.specs.declared.Slot.{Slot}
use Rattle.formula.proofs.put.Goals as goal

pub returns-clause-kinds_after : goal.returns-clause-kinds_after
returns-clause-kinds_after c = map-set (λ (s : Slot). s.kind) c.args.slots.now c.args.i (record { kind = c.args.kind; span = c.args.span })

pub returns-clause-spans_after : goal.returns-clause-spans_after
returns-clause-spans_after c = map-set (λ (s : Slot). s.span) c.args.slots.now c.args.i (record { kind = c.args.kind; span = c.args.span })
