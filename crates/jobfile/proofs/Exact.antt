-- Bytes are cut into items in one way only.
use Rattle.std.proofs.Common.{◌≡◌, ℕ, zero, suc, ◌+◌, ◌*◌, ◌/◌, ◌%◌, ◌<◌, List, [], ◌∷◌, ◌++◌, length, take, drop, sym, refl, ap, ◌∙◌, subst, ⊎_elim, append_assoc, arith, length-append, w16, w32, to_z, of_z}
use Rattle.std.specs.List.{flat_map, AllByRecursion}
use Rattle.std.proofs.lemmas.Int.{to_z-of_z}
use Rattle.std.proofs.lemmas.Nat.{from_le_bytes-to_le_bytes_2, from_le_bytes-to_le_bytes_4}
use Rattle.std.proofs.Math.Facts.{Fits-of_z}
use Rattle.std.specs.Int.{from_le_bytes}
use Rattle.jobfile.proofs.Runs.{run_length, den_after}
use Rattle.jobfile.specs.declared.faults.Fault.TheVariants.{Reader as FromReader, Frame as FromFrame}
use Rattle.jobfile.specs.declared.faults.Fault.{Fault}
use Rattle.jobfile.specs.declared.faults.ReaderFault.{ReaderFault}
use Rattle.integers.specs.declared.fraction.Fraction.{Fraction}
use Rattle.jobfile.specs.Items.{two, fraction_bytes, Sound, Numbers, BadNumbers, OutOfRange, den_at, OfReader, Kind}

pub two_same : (m n : ℕ) → m < 65536 → n < 65536 → two m ≡ two n → m ≡ n
two_same m n p q e = sym (from_le_bytes-to_le_bytes_2 m p) ∙ ap (from_le_bytes w16) e ∙ from_le_bytes-to_le_bytes_2 n q

pub fraction_cut : (f g : Fraction) (r s : List ℕ) → Sound f → Sound g → fraction_bytes f ++ r ≡ fraction_bytes g ++ s → (f ≡ g) × (r ≡ s)
unfolding fraction_bytes
fraction_cut f g r s p q e =
    let m = of_z w32 f.num in
    let n = of_z w32 g.num in
    let bits : m ≡ n = sym (from_le_bytes-to_le_bytes_4 m (Fits-of_z p.fits).fits) ∙ ap (λ t. from_le_bytes w32 (take 4 t)) e ∙ from_le_bytes-to_le_bytes_4 n (Fits-of_z q.fits).fits in
    let num : f.num ≡ g.num = sym (to_z-of_z w32 f.num p.fits) ∙ ap (to_z w32) bits ∙ to_z-of_z w32 g.num q.fits in
    let den : f.den ≡ g.den = two_same f.den g.den (omega (arith, p.most)) (omega (arith, q.most)) (ap (λ t. take 2 (drop 4 t)) e) in
    (λ i. record { num = num i; den = den i }, ap (drop 6) e)

-- a kind of item whose bytes are cut in one way only
pub record Exact {A : Type 0} (kind : Kind A) : Type 0 where
  pub cut : (a b : A) (r s : List ℕ) → kind.Good a → kind.Good b → kind.bytes a ++ r ≡ kind.bytes b ++ s → (a ≡ b) × (r ≡ s)
  pub clash : (a : A) (r : List ℕ) (p i : ℕ) (f : Fault) → kind.Good a → kind.Bad (kind.bytes a ++ r) p i f → ⊥
  pub one : (bs : List ℕ) (p i : ℕ) (f g : Fault) → kind.Bad bs p i f → kind.Bad bs p i g → f ≡ g

-- items whose bytes are cut in one way only, and as many on either side
pub items_cut : {A : Type 0} (bytes : A → List ℕ) (Good : A → Type 0) → ((a b : A) (r s : List ℕ) → Good a → Good b → bytes a ++ r ≡ bytes b ++ s → (a ≡ b) × (r ≡ s)) → (xs ys : List A) (r s : List ℕ) → AllByRecursion Good xs → AllByRecursion Good ys → length xs ≡ length ys → flat_map bytes xs ++ r ≡ flat_map bytes ys ++ s → (xs ≡ ys) × (r ≡ s)
items_cut bytes Good cut [] [] r s p q l e = (refl, e)
items_cut bytes Good cut [] (y ∷ ys) r s p q l e = absurd (omega arith)
items_cut bytes Good cut (x ∷ xs) [] r s p q l e = absurd (omega arith)
items_cut bytes Good cut (x ∷ xs) (y ∷ ys) r s p q l e =
    let first = cut x y (flat_map bytes xs ++ r) (flat_map bytes ys ++ s) p.0 q.0 (sym (append_assoc (bytes x) (flat_map bytes xs) r) ∙ e ∙ append_assoc (bytes y) (flat_map bytes ys) s) in
    let more = items_cut bytes Good cut xs ys r s p.1 q.1 (omega arith) first.1 in
    (λ i. first.0 i ∷ more.0 i, more.1)

pub numbers_cut : (n : ℕ) (fs gs : List Fraction) (r s : List ℕ) → Numbers n fs → Numbers n gs → flat_map fraction_bytes fs ++ r ≡ flat_map fraction_bytes gs ++ s → (fs ≡ gs) × (r ≡ s)
numbers_cut n fs gs r s p q e = items_cut fraction_bytes Sound fraction_cut fs gs r s p.sound q.sound (p.many ∙ sym q.many) e

-- the denominator at place k of a run of sound numbers is in range
den_sound : (fs : List Fraction) (r : List ℕ) (k : ℕ) → k < length fs → AllByRecursion Sound fs → OutOfRange (den_at k (flat_map fraction_bytes fs ++ r)) → ⊥
unfolding fraction_bytes
den_sound [] r k lt p bad = absurd (omega arith)
den_sound (f ∷ fs) r zero lt p bad =
    let few = p.0.most in
    let some = p.0.some in
    let a : f.den / 256 % 256 ≡ f.den / 256 = omega arith in
    let b : f.den % 256 + (f.den / 256 % 256) * 256 ≡ f.den = omega (arith, a) in
    ⊎_elim (λ e. omega (arith, b)) (λ e. omega (arith, b)) bad
den_sound (f ∷ fs) r (suc k) lt p bad =
    let whole = append_assoc (fraction_bytes f) (flat_map fraction_bytes fs) r in
    let same = ap (den_at (suc k)) whole ∙ den_after (fraction_bytes f) (flat_map fraction_bytes fs ++ r) (suc k) 1 k refl (omega arith) in
    den_sound fs r k (omega arith) p.1 (subst OutOfRange same bad)

pub numbers_clash : (n : ℕ) (fs : List Fraction) (r : List ℕ) (p : ℕ) (f : ReaderFault) → Numbers n fs → BadNumbers n (flat_map fraction_bytes fs ++ r) p f → ⊥
numbers_clash n fs r p f good (BadNumbers.short h) = omega (arith, h, length-append (flat_map fraction_bytes fs) r, run_length fs, good.many)
numbers_clash n fs r p f good (BadNumbers.denominator k le lt bad) = den_sound fs r k (omega (arith, good.many)) good.sound bad

pub numbers_one : {n : ℕ} {bs : List ℕ} {p : ℕ} {f g : ReaderFault} → BadNumbers n bs p f → BadNumbers n bs p g → f ≡ g
numbers_one (BadNumbers.short h) (BadNumbers.short h') = refl
numbers_one (BadNumbers.short h) (BadNumbers.denominator k le lt bad) = absurd (omega arith)
numbers_one (BadNumbers.denominator k le lt bad) (BadNumbers.short h) = absurd (omega arith)
numbers_one (BadNumbers.denominator k le lt bad) (BadNumbers.denominator k' le' lt' bad') = refl

-- what holds of the reader's faults, of the job's
pub never : {P : ReaderFault → Type 0} → ((f : ReaderFault) → P f → ⊥) → (f : Fault) → OfReader P f → ⊥
never h (FromReader f) bad = h f bad
never h (FromFrame f) bad = bad

pub alike : {P : ReaderFault → Type 0} → ((f g : ReaderFault) → P f → P g → f ≡ g) → (f g : Fault) → OfReader P f → OfReader P g → f ≡ g
alike h (FromReader f) (FromReader g) a b = ap FromReader (h f g a b)
alike h (FromReader f) (FromFrame g) a b = absurd b
alike h (FromFrame f) g a b = absurd a
