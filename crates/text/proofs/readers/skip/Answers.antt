-- `skip` is right because each byte that it leads over is a blank, which the machine passes too, and it ends at one that is none.
use Rattle.std.proofs.lemmas.List.{take_rest}
use Rattle.text.proofs.ReadPlaces.{skipped_all}
use Rattle.text.proofs.readers.skip.Goals as goal

pub returns : goal.returns
returns c = rw (c.blanks.ensures, take_rest c.args.text.now c.args.at) (skipped_all c.args.text.now c.args.at c.requires)
