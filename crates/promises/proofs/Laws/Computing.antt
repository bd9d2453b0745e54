-- What is unfolded where an example is computed: `unfolding computing` opens all of it.
-- Assumes nothing.
use Rattle.terms.specs.First.{first_from}
use Rattle.terms.specs.Texts.{bytes}
use Rattle.formula.specs.Formula.{literals, operators, value}
use Rattle.formula.specs.Typed.{numbers, positive, typed_value}
use Rattle.formula.specs.Marks.{arranged}
use Rattle.formula.specs.Occurrences.{occurrences, truth_at}
use Rattle.grammar.specs.Bytes.{sign_of, numeral_from}
use Rattle.grammar.specs.Twins.Reader.{complemented, read_from, read}
use Rattle.grammar.specs.Twins.Places.{leading_digits, opened, shut, runs_before}
use Rattle.grammar.specs.Twins.Reading.{typed_reading, reading}
use Rattle.turning.specs.Tags.{price, inserted, row, smaller}
use Rattle.turning.specs.Turning.{marks, turned}
use Rattle.weaving.specs.Gates.{in_order, holders, lowest, gate_at, gates_on, gates}
use Rattle.weaving.specs.Awaited.{names, awaited, count_below, waiting, greatest_below, most_awaited}
use Rattle.weaving.specs.Labels.{has_label, slot_of, give_back, hand_out, labelled, step, records, stored, weave}
use Rattle.table.specs.Twins.Faults.{table_fault}
use Rattle.compiler.specs.Compiled.{all_records, table_of}
use Rattle.compiler.specs.Twins.Compiling.{finished, compiled}
use Rattle.run.specs.Whole.{fed_all, whole_run}
use Rattle.run.specs.Twins.Answers.{started, fed, answered}
use Rattle.listing.specs.Lines.{digits, gate_lines, lines, refusal_line}

unfoldable pub computing : Unit {0}
unfolding first_from bytes literals operators value numbers positive typed_value arranged occurrences truth_at sign_of numeral_from complemented read_from read leading_digits opened shut runs_before typed_reading reading price inserted row smaller marks turned in_order holders lowest gate_at gates_on gates names awaited count_below waiting greatest_below most_awaited has_label slot_of give_back hand_out labelled step records stored weave table_fault all_records table_of finished compiled started fed answered fed_all whole_run digits gate_lines lines refusal_line
computing = tt
