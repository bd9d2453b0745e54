-- The first byte that passes the test stands at the first place that does.
use Rattle.std.proofs.Common.{ℕ, Bool, rules, tests, ap, ◌∙◌}
use Rattle.std.proofs.lemmas.Iterator.{YieldsList-from_slice}
use Rattle.std.proofs.lemmas.Iterator.Search.{position_from_yields_List}
use Rattle.grammar.specs.Bytes.{sign_of, is_other}
use Rattle.text.specs.Code.Found.{found_as}
use Rattle.text.proofs.ScanFirst.{position_found}
use Rattle.text.proofs.scan.foreign.Goals as goal

pub returns : goal.returns
returns c =
    let text = c.args.text.now in
    let test : ℕ → Bool = λ b. is_other (sign_of b) in
    let found = position_from_yields_List test _ _ c.position.result c.position.ensures.ran (YieldsList-from_slice text (cc)) (λ x b q k. search (rules, tests)) in
    ap found_as found ∙ position_found test text
