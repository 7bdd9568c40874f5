-- Real: IEEE 754 binary64, each operation rounded once. Assumes nothing.
use Rattle.std.specs.Prelude.{Bool, false, from_bits, Float}
use Rattle.std.specs.Float.Ieee.{add, sub, mul, div, neg, eq, lt}
use Rattle.std.specs.Float.{float_with_sign, binary64}
use Rattle.scalar.specs.Ops.{Ops}
use Rattle.numbers.specs.declared.types.Real.{Real}

abbrev real : Float → Real
real x = record { value = x }

-- 0.0 and 1.0 are given by their bits
abbrev pub real_ops : Ops Real
real_ops = record {
  zero = real (from_bits binary64 0);
  one = real (from_bits binary64 4607182418800017408);
  add = λ a b. real (add binary64 a.value b.value);
  sub = λ a b. real (sub binary64 a.value b.value);
  mul = λ a b. real (mul binary64 a.value b.value);
  neg = λ a. real (neg a.value);
  div = λ a b. real (div binary64 a.value b.value);
  eq = λ a b. eq a.value b.value;
}

abbrev pub real_less : Real → Real → Bool
real_less a b = lt a.value b.value

abbrev pub real_absolute : Real → Real
real_absolute a = real (float_with_sign false a.value)
