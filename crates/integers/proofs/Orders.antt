-- Sums and products that round and clamp keep the order of the integers. Assumes nothing.
use Rattle.std.proofs.Common.{◌≡◌, suc, ◌+◌, ◌≤◌, true, false, T, ℤ, pos, negsuc, ◌+ℤ◌, ◌*ℤ◌, ◌≤ℤ◌, sym, ap, ◌∙◌, true≢false, mul-le-mul_right, add-mul, arith}
use borrow.Author.Differences.{up, down, product_is, ints}
use lib.Signed.{lt_z}
use Rattle.std.proofs.lemmas.Float.{T_from_true}
use Rattle.scalar.specs.Laws.{OrderLaws}
use Rattle.integers.specs.Integers.{integer_ops, integer_less}
use Rattle.integers.proofs.Tests.{holds, fails}

pub mul_rises : (a b c : ℤ) → lt_z c (pos 0) ≡ false → a ≤ℤ b → (a *ℤ c) ≤ℤ (b *ℤ c)
mul_rises a b (pos n) s h =
    let e : up a + down b ≤ up b + down a = omega (arith, ints) in
    let m = simp add-mul at (mul-le-mul_right n e) in
    omega (arith, ints, product_is a (pos n), product_is b (pos n))
mul_rises a b (negsuc n) s h = absurd (true≢false s)

pub mul_falls : (a b c : ℤ) → lt_z c (pos 0) ≡ true → a ≤ℤ b → (b *ℤ c) ≤ℤ (a *ℤ c)
mul_falls a b (pos n) s h = absurd (omega (arith, ints))
mul_falls a b (negsuc n) s h =
    let e : up a + down b ≤ up b + down a = omega (arith, ints) in
    let m = simp add-mul at (mul-le-mul_right (suc n) e) in
    omega (arith, ints, product_is a (negsuc n), product_is b (negsuc n))

module _ {S : Type 0} (value : S → ℤ) (fit : ℤ → S) (unit : ℤ) (scaled : ℤ → ℤ) (quotient : ℤ → ℤ → ℤ)
    (same : (a b : S) → value a ≡ value b → a ≡ b)
    (nought : value (fit (pos 0)) ≡ pos 0)
    (fit_rises : (a b : ℤ) → a ≤ℤ b → value (fit a) ≤ℤ value (fit b))
    (scaled_rises : (a b : ℤ) → a ≤ℤ b → scaled a ≤ℤ scaled b) where
  not_below : (a b : ℤ) → a ≤ℤ b → ¬ (T (lt_z (value (fit b)) (value (fit a))))
  not_below a b h t = let r = fit_rises a b h in let s = holds t in omega (arith, ints)

  pub order : OrderLaws (integer_ops value fit unit scaled quotient) (integer_less value)
  order = record {
    irreflexive = λ x t. let s = holds t in omega (arith, ints);
    transitive = λ x y z p q. let s = holds p in let r = holds q in T_from_true _ (sym (omega (arith, ints)));
    total = λ x y p q. let s = fails p in let r = fails q in same x y (omega (arith, ints));
    add_left = λ x y z p. let s = holds p in not_below (value z +ℤ value x) (value z +ℤ value y) (omega (arith, ints));
    add_right = λ x y z p. let s = holds p in not_below (value x +ℤ value z) (value y +ℤ value z) (omega (arith, ints));
    mul_keeps = λ x y z s p. not_below _ _ (scaled_rises _ _ (mul_rises (value x) (value y) (value z) (ap (lt_z (value z)) (sym nought) ∙ fails s) (at_most x y p)));
    mul_turns = λ x y z s p. not_below _ _ (scaled_rises _ _ (mul_falls (value x) (value y) (value z) (ap (lt_z (value z)) (sym nought) ∙ holds s) (at_most x y p)));
  }
    where
      at_most : (x y : S) → T (lt_z (value x) (value y)) → value x ≤ℤ value y
      at_most x y p = let s = holds p in omega (arith, ints)
