-- Each turn puts the word once more behind those before it.
use Rattle.examples.specs.Code.Texts.{Put, repeated}
use Rattle.examples.proofs.texts.Text.words.Given as goal

abbrev pub invariant-loop : goal.invariant-loop
invariant-loop l = Put l.initial.self.bytes l.self.bytes l.initial.self.end (repeated l.counter l.word) l.self.end
