-- Residues modulo any prime form a field, whichever integer stands for each. Assumes nothing.
use Rattle.std.proofs.Common.{◌≡◌, ℕ, ◌*◌, ◌<◌, ℤ, pos, ◌+ℤ◌, ◌*ℤ◌, nat_abs, sym, ap, ◌∙◌, mod-eq_of_lt, arith}
use native.Mathlib.Nat.{zero-mod}
use lib.IntN.{*ℤ_comm}
use Rattle.scalar.specs.Laws.{RingLaws, FieldLaws}
use Rattle.integers.specs.Integers.{integer_ops}
use Rattle.integers.specs.Moduli.{Prime, reduced, inverse, inverse_of}
use Rattle.integers.proofs.Moduli.{Congruent, congruent-add, congruent-mul, reduced_near, reduced_same, reduced_is}
use Rattle.integers.proofs.Primes.{inverse_undoes}
use Rattle.integers.proofs.Rings.{ring, field}

-- A scalar made of an integer holds a congruent one, and the same for all that are congruent.
module _ {S : Type 0} (value : S → ℤ) (fit : ℤ → S) (p : ℕ) (prime : Prime p)
    (back : (a : S) → fit (value a) ≡ a)
    (near : (z : ℤ) → Congruent p (value (fit z)) z)
    (same : (a b : ℤ) → Congruent p a b → fit a ≡ fit b) where
  some : 0 < p
  some = let h = prime.above in omega arith

  one_is : reduced p (pos 1) ≡ pos 1
  one_is = ap pos (mod-eq_of_lt prime.above)

  -- equal scalars come of equal remainders, and a remainder makes the same scalar
  remainders : (a b : ℤ) → fit a ≡ fit b → reduced p a ≡ reduced p b
  remainders a b e = sym (reduced_same p some _ _ (near a)) ∙ ap (λ s. reduced p (value s)) e ∙ reduced_same p some _ _ (near b)

  from_remainder : (a : ℤ) (n : ℕ) → reduced p a ≡ pos n → fit a ≡ fit (pos n)
  from_remainder a n e = let (j, k, h) = reduced_near p some a in same a (pos n) (k, j, sym h ∙ ap (λ z. z +ℤ pos (j * p)) e)

  sum : (a b : ℤ) → fit (value (fit a) +ℤ b) ≡ fit (a +ℤ b)
  sum a b = same _ _ (congruent-add p (value (fit a)) a b (near a))

  product : (a b : ℤ) → fit (value (fit a) *ℤ b) ≡ fit (a *ℤ b)
  product a b = same _ _ (congruent-mul p (value (fit a)) a b (near a))

  pub prime_ring : RingLaws (integer_ops value fit (pos 1) (λ z. z) (λ a b. a *ℤ inverse_of p b))
  prime_ring = ring value fit back sum product (λ a b. a *ℤ inverse_of p b) apart
    where
      apart : ¬ (fit (pos 1) ≡ fit (pos 0))
      apart e = let z : ◌≡◌ {A = ℕ} 1 0 = ap nat_abs (sym one_is ∙ remainders (pos 1) (pos 0) e ∙ ap pos (zero-mod p)) in omega arith

  pub prime_field : FieldLaws (integer_ops value fit (pos 1) (λ z. z) (λ a b. a *ℤ inverse_of p b))
  prime_field = field value fit back sum product (inverse_of p) undone
    where
      undone : (y : S) → ¬ (y ≡ fit (pos 0)) → fit (inverse_of p (value y) *ℤ value y) ≡ fit (pos 1)
      undone y apart =
          let (n, less, e) = reduced_is p some (value y) in
          let is : y ≡ fit (pos n) = sym (back y) ∙ from_remainder (value y) n e in
          let more : ¬ (n ≡ 0) = λ z. apart (is ∙ ap (λ k. fit (pos k)) z) in
          let i = inverse p n in
          ap (λ z. fit (pos (inverse p (nat_abs z)) *ℤ value y)) e ∙ ap (λ s. fit (pos i *ℤ value s)) is
          ∙ ap fit (*ℤ_comm (pos i) _) ∙ product (pos n) (pos i) ∙ ap fit (*ℤ_comm (pos n) (pos i))
          ∙ from_remainder _ 1 (ap pos (inverse_undoes p prime n (omega arith) less))
