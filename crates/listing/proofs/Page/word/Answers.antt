-- The bytes copied stand where so many stores one behind the other put them.
use Rattle.std.proofs.Common.{◌∙◌, ◌≡◌, length, append_assoc, arith, refl, rules}
use Rattle.std.proofs.lemmas.List.Edits.{sets-eq, paste_all}
use Rattle.std.proofs.lemmas.Slice.{put_mid-paste}
use Rattle.listing.proofs.Page.word.Goals as goal

pub returns : goal.returns
returns c =
    let long : length c.args.self.now.out.now ≡ 32768 = search rules in
    record {
      same_buffer = refl;
      stored =
          rw (sets-eq c.args.word.now c.args.self.now.out.now c.args.self.now.at (omega (arith, c.requires)), append_assoc)
          (put_mid-paste _ _ _ _ c.args.word.now (length c.args.word.now) c.copy_from_slice.ensures.after (omega arith) refl
          ∙ paste_all c.args.self.now.out.now c.args.self.now.at c.args.word.now _ refl);
      place = refl;
    }
