-- As many numbers as the most literals stand before the one that is found.
use Rattle.std.proofs.Common.{rules, arith, tests, length, ap, sym, ◌∙◌}
use Rattle.std.proofs.lemmas.Iterator.{YieldsList-from_range}
use Rattle.std.proofs.lemmas.Iterator.Consumers.{YieldsList-from_filter, nth_from_yields_List}
use Rattle.grammar.specs.Twins.Places.{run_starts}
use Rattle.text.specs.Code.Found.{found_as}
use Rattle.text.proofs.ScanFirst.{found_same}
use Rattle.text.proofs.ScanRuns.{surplus_found}
use Rattle.text.proofs.scan.surplus.Goals as goal

pub returns : goal.returns
returns c =
    let text = c.args.text.now in
    let n = length text in
    let found = nth_from_yields_List c.nth.result c.nth.new.self c.from.result c.nth.ensures.ran
    (YieldsList-from_filter _ (run_starts text) (YieldsList-from_range 0 n n (cc) (omega arith)) c.filter.ensures.closure (λ x r q k. search (rules, tests))) in
    sym (found_same c.nth.result) ∙ ap found_as found ∙ rw c.from.ensures (surplus_found text)
