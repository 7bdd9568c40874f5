-- The laws that a scalar may claim, over its operations. Assumes nothing.
use Rattle.std.specs.Prelude.{Bool, ◌≡◌, T}
use Rattle.scalar.specs.Ops.{Ops}

-- a commutative ring whose one is not zero, and whose equality says yes exactly on identical values
pub record RingLaws {S : Type 0} (o : Ops S) : Type 0 where
  pub add_assoc : (a b c : S) → o.add (o.add a b) c ≡ o.add a (o.add b c)
  pub add_comm : (a b : S) → o.add a b ≡ o.add b a
  pub add_zero : (a : S) → o.add a o.zero ≡ a
  pub add_neg : (a : S) → o.add a (o.neg a) ≡ o.zero
  pub sub_neg : (a b : S) → o.sub a b ≡ o.add a (o.neg b)
  pub mul_assoc : (a b c : S) → o.mul (o.mul a b) c ≡ o.mul a (o.mul b c)
  pub mul_comm : (a b : S) → o.mul a b ≡ o.mul b a
  pub mul_one : (a : S) → o.mul a o.one ≡ a
  pub mul_add : (a b c : S) → o.mul a (o.add b c) ≡ o.add (o.mul a b) (o.mul a c)
  pub one_zero : ¬ (o.one ≡ o.zero)
  pub eq_same : (a b : S) → T (o.eq a b) → a ≡ b
  pub eq_self : (a : S) → T (o.eq a a)

-- a quotient by what is not zero, times it, gives back the dividend
pub record FieldLaws {S : Type 0} (o : Ops S) : Type 0 where
  pub div_mul : (a b : S) → ¬ (b ≡ o.zero) → o.mul (o.div a b) b ≡ a

-- A strict total order. Adding the same value on either side never reverses it; nor does a right factor that is not below zero;
-- and a right factor below zero never keeps it. Two results may become equal each time, since sums and products may round and clamp.
pub record OrderLaws {S : Type 0} (o : Ops S) (less : S → S → Bool) : Type 0 where
  pub irreflexive : (a : S) → ¬ (T (less a a))
  pub transitive : (a b c : S) → T (less a b) → T (less b c) → T (less a c)
  pub total : (a b : S) → ¬ (T (less a b)) → ¬ (T (less b a)) → a ≡ b
  pub add_left : (a b c : S) → T (less a b) → ¬ (T (less (o.add c b) (o.add c a)))
  pub add_right : (a b c : S) → T (less a b) → ¬ (T (less (o.add b c) (o.add a c)))
  pub mul_keeps : (a b c : S) → ¬ (T (less c o.zero)) → T (less a b) → ¬ (T (less (o.mul b c) (o.mul a c)))
  pub mul_turns : (a b c : S) → T (less c o.zero) → T (less a b) → ¬ (T (less (o.mul a c) (o.mul b c)))
