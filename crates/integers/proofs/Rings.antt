-- Integers modulo a number form a ring, whichever integer stands for each class. Assumes nothing.
use Rattle.std.proofs.Common.{◌≡◌, ℤ, pos, ◌+ℤ◌, ◌*ℤ◌, sym, ap, ◌∙◌}
use lib.IntN.{+ℤ_assoc, +ℤ_comm, +ℤ_idr, +ℤ_invr, *ℤ_comm, *ℤ-one, one}
use Rattle.std.proofs.lemmas.Float.{T_from_true}
use Rattle.scalar.specs.Laws.{RingLaws, FieldLaws}
use Rattle.integers.specs.Integers.{integer_ops}
use Rattle.integers.proofs.Tests.{holds}
use Rattle.integers.proofs.Ints.{*ℤ_assoc, *ℤ-+ℤ, eq_z_same, eq_z_refl}

times_one : (a : ℤ) → a *ℤ pos 1 ≡ a
unfolding one
times_one a = *ℤ-one a

-- to make an operand fit first changes neither a sum nor a product
module _ {S : Type 0} (value : S → ℤ) (fit : ℤ → S)
    (back : (a : S) → fit (value a) ≡ a)
    (sum_left : (a b : ℤ) → fit (value (fit a) +ℤ b) ≡ fit (a +ℤ b))
    (product_left : (a b : ℤ) → fit (value (fit a) *ℤ b) ≡ fit (a *ℤ b)) where
  sum_right : (a b : ℤ) → fit (a +ℤ value (fit b)) ≡ fit (a +ℤ b)
  sum_right a b = ap fit (+ℤ_comm a _) ∙ sum_left b a ∙ ap fit (+ℤ_comm b a)

  product_right : (a b : ℤ) → fit (a *ℤ value (fit b)) ≡ fit (a *ℤ b)
  product_right a b = ap fit (*ℤ_comm a _) ∙ product_left b a ∙ ap fit (*ℤ_comm b a)

  pub ring : (quotient : ℤ → ℤ → ℤ) → ¬ (fit (pos 1) ≡ fit (pos 0)) → RingLaws (integer_ops value fit (pos 1) (λ z. z) quotient)
  ring quotient apart = record {
    add_assoc = λ x y z. sum_left _ _ ∙ ap fit (+ℤ_assoc (value x) (value y) (value z)) ∙ sym (sum_right _ _);
    add_comm = λ x y. ap fit (+ℤ_comm (value x) (value y));
    add_zero = λ x. sum_right _ _ ∙ ap fit (+ℤ_idr (value x)) ∙ back x;
    add_neg = λ x. sum_right _ _ ∙ ap fit (+ℤ_invr (value x));
    sub_neg = λ x y. sym (sum_right _ _);
    mul_assoc = λ x y z. product_left _ _ ∙ ap fit (*ℤ_assoc (value x) (value y) (value z)) ∙ sym (product_right _ _);
    mul_comm = λ x y. ap fit (*ℤ_comm (value x) (value y));
    mul_one = λ x. product_right _ _ ∙ ap fit (times_one (value x)) ∙ back x;
    mul_add = λ x y z. product_right _ _ ∙ ap fit (*ℤ-+ℤ (value x) (value y) (value z)) ∙ sym (sum_left _ _ ∙ sum_right _ _);
    one_zero = apart;
    eq_same = λ x y e. sym (back x) ∙ ap fit (eq_z_same (value x) (value y) (holds e)) ∙ back y;
    eq_self = λ x. T_from_true _ (eq_z_refl (value x));
  }

  -- a quotient by y is a product with an inverse of y
  pub field : (inverse : ℤ → ℤ) → ((y : S) → ¬ (y ≡ fit (pos 0)) → fit (inverse (value y) *ℤ value y) ≡ fit (pos 1)) → FieldLaws (integer_ops value fit (pos 1) (λ z. z) (λ a b. a *ℤ inverse b))
  field inverse undoes = record {
    div_mul = λ x y some.
        product_left _ _ ∙ ap fit (*ℤ_assoc (value x) (inverse (value y)) (value y)) ∙ sym (product_right _ _)
        ∙ ap (λ s. fit (value x *ℤ value s)) (undoes y some) ∙ product_right _ _ ∙ ap fit (times_one (value x)) ∙ back x;
  }
