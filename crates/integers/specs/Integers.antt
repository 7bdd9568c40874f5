-- Scalars that are held as an integer: one text for the operations of all of them. Assumes nothing.
use Rattle.std.specs.Prelude.{Bool, false, ℤ, pos, negsuc, ◌+ℤ◌, ◌-ℤ◌, ◌*ℤ◌, neg_ℤ, ◌==◌, int_lt, unsigned_abs}
use Rattle.scalar.specs.Ops.{Ops}

-- whether two integers are the same
abbrev pub eq_z : ℤ → ℤ → Bool
eq_z (pos a) (pos b) = a == b
eq_z (pos a) (negsuc b) = false
eq_z (negsuc a) (pos b) = false
eq_z (negsuc a) (negsuc b) = a == b

-- `value` is the integer that a scalar holds, and `fit` makes a scalar of the exact result of an operation. `unit` stands for one, and `scaled` and `quotient` say what a product and a quotient are before they are made to fit
module _ {S : Type 0} (value : S → ℤ) (fit : ℤ → S) (unit : ℤ) (scaled : ℤ → ℤ) (quotient : ℤ → ℤ → ℤ) where
  abbrev pub integer_ops : Ops S
  integer_ops = record {
    zero = fit (pos 0);
    one = fit unit;
    add = λ a b. fit (value a +ℤ value b);
    sub = λ a b. fit (value a -ℤ value b);
    mul = λ a b. fit (scaled (value a *ℤ value b));
    neg = λ a. fit (neg_ℤ (value a));
    div = λ a b. fit (quotient (value a) (value b));
    eq = λ a b. eq_z (value a) (value b);
  }

module _ {S : Type 0} (value : S → ℤ) where
  abbrev pub integer_less : S → S → Bool
  integer_less a b = int_lt (value a) (value b)

  abbrev pub integer_absolute : (ℤ → S) → S → S
  integer_absolute fit a = fit (pos (unsigned_abs (value a)))
