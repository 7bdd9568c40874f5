-- A section at its place. Assumes nothing.
use Rattle.std.specs.Prelude.{List}
use Rattle.jobfile.specs.Items.{Kind}
use Rattle.jobfile.specs.Format.{GoodSection, section_bytes}
use Rattle.items.specs.declared.cursor.Cursor.{Cursor}
use Rattle.items.specs.Reads.{Reads}

-- xs is the section that begins at from, and after is the cursor behind it
pub record SectionAt {A : Type 0} (kind : Kind A) (from : Cursor) (xs : List A) (after : Cursor) : Type 0 where
  pub good : GoodSection kind xs
  pub reads : Reads (section_bytes kind xs) from after
