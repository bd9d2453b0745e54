-- The bytes copied stand where so many stores one behind the other put them.
use Rattle.std.proofs.Common.{◌∙◌, length, append_assoc, arith, refl}
use Rattle.std.proofs.lemmas.List.Edits.{sets-eq, paste_all}
use Rattle.std.proofs.lemmas.Slice.{put_mid-paste}
use Rattle.table.proofs.write.put.Goals as goal

pub returns : goal.returns
returns c =
    rw (sets-eq c.args.bytes.now c.args.out.now c.args.at c.requires, append_assoc)
    (put_mid-paste _ _ _ _ c.args.bytes.now (length c.args.bytes.now) c.copy_from_slice.ensures.after (omega arith) refl
    ∙ paste_all c.args.out.now c.args.at c.args.bytes.now _ refl)
