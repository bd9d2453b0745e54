-- Each turn puts the next byte of the word behind those before it.
use Rattle.std.proofs.Common.{take}
use Rattle.examples.specs.Code.Texts.{Put}
use Rattle.examples.proofs.texts.Text.word.Given as goal

abbrev pub invariant-loop-byte : goal.invariant-loop-byte
invariant-loop-byte l = Put l.initial.self.bytes l.self.bytes l.initial.self.end (take l.byte-index l.word) l.self.end
