-- Integers that are clamped at the ends of i32, whatever they count. Assumes nothing.
use Rattle.std.specs.Prelude.{Bool, ℤ}
use Rattle.scalar.specs.Ops.{Ops}
use Rattle.integers.specs.Rounds.{clamped, clamped_fits}
use Rattle.integers.specs.Integers.{integer_ops, integer_less, integer_absolute}
use Rattle.pixels.specs.declared.types.Clamped.{Clamped}

module _ {M : Type 0} where
  -- the scalar of any integer: it is clamped
  abbrev pub clamp : ℤ → Clamped M
  clamp z = record { value = clamped z; measure = record {}; fits = clamped_fits z }

  -- `one` of what is counted make one, and `scaled` and `quotient` say what a product and a quotient are before they are clamped
  abbrev pub clamped_ops : ℤ → (ℤ → ℤ) → (ℤ → ℤ → ℤ) → Ops (Clamped M)
  clamped_ops one scaled quotient = integer_ops (λ a. a.value) clamp one scaled quotient

  abbrev pub clamped_less : Clamped M → Clamped M → Bool
  clamped_less = integer_less (λ a. a.value)

  abbrev pub clamped_absolute : Clamped M → Clamped M
  clamped_absolute = integer_absolute (λ a. a.value) clamp
