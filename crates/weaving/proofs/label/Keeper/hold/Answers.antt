-- `hold` gives a place that holds no label the lowest free one, and leaves any other as it is.
use Rattle.std.proofs.Common.{arith, ap, not, ◌∙◌}
use Rattle.weaving.proofs.CodeKeep.{some_held, none_held, numbers_set, long_numbers, keeps_held, keeps_handed}
use Rattle.weaving.proofs.label.Keeper.hold.Goals as goal

pub returns-then-is_none : goal.returns-then-is_none
returns-then-is_none c =
    record {
      each = λ s k. rw (numbers_set c.args.self.now.held c.from-at.result _)
          (keeps_handed _ _ s k _ _ _ _ c.from-at.ensures (none_held c.args.self.now.held _ (c.is_none.ensures ∙ ap not c.if-is_none.true))
          (omega (arith, long_numbers c.args.self.now.held)) c.lowest_free-label.ensures c.take-self.ensures);
    }

pub returns-else-is_none : goal.returns-else-is_none
returns-else-is_none c =
    record { each = λ s k. keeps_held _ _ s k _ _ c.from-at.ensures (some_held c.args.self.now.held _ (c.is_none.ensures ∙ ap not c.if-is_none.false)) }
