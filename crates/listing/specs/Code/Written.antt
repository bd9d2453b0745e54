-- What it is to write a text into a lent buffer.
--   Written before after text == the text has been written on a page, behind what stood on it
--   Printed old new text r    == the text has been written at the start of a buffer, and r counts its bytes
--   Listable table            == a table that can be listed: no more gates than there may be, and as long as it says
-- Assumes nothing.
use Rattle.std.specs.Prelude.{ℕ, ◌+◌, ◌≤◌, ◌≡◌, List, ◌++◌, length, take, drop}
use Rattle.std.proofs.lemmas.List.Edits.{sets}
use Rattle.terms.specs.Terms.{most_literals}
use Rattle.table.specs.Layout.{length_by, header_of}
use Rattle.listing.specs.declared.Page.{Page}

pub record Written (before after : Page) (text : List ℕ) : Type 0 where
  pub same_buffer : after.out.ghost_name ≡ before.out.ghost_name
  pub stored : after.out.now ≡ sets before.out.now before.at text
  pub place : after.at ≡ before.at + length text

-- as above, and the text has no more than so many bytes
pub record WrittenWithin (most : ℕ) (before after : Page) (text : List ℕ) : Type 0 where
  pub written : Written before after text
  pub near : after.at ≤ before.at + most

-- the first r bytes are the text, and the others are as before
pub record Printed (old new text : List ℕ) (r : ℕ) : Type 0 where
  pub stored : new ≡ text ++ drop (length text) old
  pub count : r ≡ length text
  pub within : r ≤ length new
  pub counted : r ≡ length (take r new)

-- a well-formed table is one
pub record Listable (table : List ℕ) : Type 0 where
  pub few_gates : (header_of table).gates ≤ most_literals
  pub long : length table ≡ length_by (header_of table)
