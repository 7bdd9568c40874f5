-- A text that grows within its room. Assumes nothing.
use Rattle.std.specs.Prelude.{◌≡◌, ℕ, ◌+◌, ◌≤◌, List, ◌++◌, length}

-- what is written, and how many bytes more there is room for
pub record Sheet : Type 0 where
  pub bytes : List ℕ
  pub room : ℕ

-- `text`, of at most `most` bytes, was written after what stood there, and took no more room than it has bytes
pub record Adds (old new : Sheet) (text : List ℕ) (most : ℕ) : Type 0 where
  pub bytes : new.bytes ≡ old.bytes ++ text
  pub short : length text ≤ most
  pub room : old.room ≤ new.room + length text
