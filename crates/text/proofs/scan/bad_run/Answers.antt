-- The search through the places of the text is the row's.
use Rattle.std.proofs.Common.{rules, arith, tests, length, ap, sym, ◌∙◌}
use Rattle.std.proofs.lemmas.Iterator.{YieldsList-from_range}
use Rattle.std.proofs.lemmas.Iterator.Search.{find_from_yields_List}
use Rattle.grammar.specs.Twins.Places.{bad_run_at}
use Rattle.text.specs.Code.Found.{found_as}
use Rattle.text.proofs.ScanFirst.{found_same, found_in_range}
use Rattle.text.proofs.scan.bad_run.Goals as goal

pub returns : goal.returns
returns c =
    let text = c.args.text.now in
    let n = length text in
    let found =
    find_from_yields_List (bad_run_at text) _ _ c.find.result c.find.ensures.ran (YieldsList-from_range 0 n n (cc) (omega arith)) (λ x b q k. search (rules, tests)) in
    sym (found_same c.find.result) ∙ ap found_as found ∙ found_in_range (bad_run_at text) 0 n
