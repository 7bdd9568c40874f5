-- What a reader says of the place that it began at and of the one after what it read. Assumes nothing.
use Rattle.std.specs.Prelude.{◌≡◌, ℕ, ◌+◌, List, ◌++◌, length}
use Rattle.items.specs.declared.cursor.Cursor.{Cursor}

-- front stands at the cursor from, and after is the cursor behind it
pub record Reads (front : List ℕ) (from after : Cursor) : Type 0 where
  pub cut : from.rest.now ≡ front ++ after.rest.now
  pub place : after.at ≡ from.at + length front
