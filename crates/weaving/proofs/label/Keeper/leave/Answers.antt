-- `leave` gives back the label that a gate after the first holds, and does nothing for the first.
use Rattle.std.proofs.Common.{◌≡◌, ◌+◌, ◌<◌, length, get_or, arith, rules}
use Rattle.std.proofs.lemmas.Grind.{common_steps}
use Rattle.weaving.specs.Code.Kept.{numbers_of}
use Rattle.weaving.proofs.Store.{left_later}
use Rattle.weaving.proofs.CodeKeep.{numbers_set, keeps_given}
use Rattle.weaving.proofs.label.Keeper.leave.Goals as goal

pub returns-clause-gave_back : goal.returns-clause-gave_back
returns-clause-gave_back c =
    let later : 0 < c.args.k.0 = omega arith in
    let own : c.unwrap-own.result.0 + 1 ≡ get_or (numbers_of c.args.self.now.held) c.args.k.0 0 = grind (arith, common_steps) in
    let within : c.args.k.0 < length (numbers_of c.args.self.now.held) = grind (arith, common_steps) in
    record {
      each = λ s k has. rw (left_later c.args.k.0 s later, numbers_set c.args.self.now.held c.from.result _, c.take.ensures.after)
          (keeps_given _ _ s k _ _ _ _ c.from.ensures (has later) within own (search rules));
    }
