-- Count: integers modulo 2 ^ 32, from -2 ^ 31 to 2 ^ 31 - 1. Assumes nothing.
use Rattle.std.specs.Prelude.{ℤ, pos}
use Rattle.std.proofs.lemmas.Int.{SFits-int_wrap}
use Rattle.std.specs.Int.{int_wrap, w32}
use Rattle.scalar.specs.Ops.{Ops}
use Rattle.integers.specs.Rounds.{truncated}
use Rattle.integers.specs.Integers.{integer_ops}
use Rattle.numbers.specs.declared.types.Count.{Count}

-- the count of any integer: it wraps
abbrev pub count : ℤ → Count
count z = record { value = int_wrap w32 z; fits = (SFits-int_wrap w32 z).sfits }

abbrev pub count_ops : Ops Count
count_ops = integer_ops (λ a. a.value) count (pos 1) (λ z. z) truncated
