use Rattle.std.proofs.Common.{◌≡◌, ℕ, nat_abs, ap, arith, w32}
use Rattle.std.proofs.lemmas.Int.{int_wrap_fits, int_wrap-add_left, int_wrap-mul_left}
use Rattle.std.specs.Int.{int_wrap}
use Rattle.integers.specs.Rounds.{truncated}
use Rattle.integers.proofs.Rings.{ring}
use Rattle.numbers.proofs.Same.{same_count}
use Rattle.numbers.specs.Counts.{count}
use Rattle.numbers.proofs.count.CountRing.ring_laws.Goals as goal

pub returns : goal.returns
unfolding int_wrap
returns c = ring (λ a. a.value) count
    (λ a. same_count _ _ (int_wrap_fits w32 a.value (record { sfits = a.fits })))
    (λ a b. same_count _ _ (int_wrap-add_left w32 a b))
    (λ a b. same_count _ _ (int_wrap-mul_left w32 a b))
    truncated
    (λ e. let no_way : ◌≡◌ {A = ℕ} 1 0 = ap (λ a. nat_abs a.value) e in omega arith)
