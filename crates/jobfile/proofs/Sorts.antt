-- Steps, points and frames are each cut in one way only.
use Rattle.std.proofs.Common.{◌≡◌, ℕ, ◌+◌, ◌≤◌, List, [], ◌∷◌, ◌++◌, length, sym, refl, ap, ◌∙◌, subst, inl, inr, arith}
use Rattle.std.specs.List.{flat_map}
use Rattle.jobfile.specs.declared.faults.Fault.{Fault}
use Rattle.jobfile.specs.declared.faults.Fault.TheVariants.{Reader as FromReader, Frame as FromFrame}
use Rattle.jobfile.specs.declared.faults.FrameFault.TheVariants.{Backwards}
use Rattle.jobfile.specs.declared.faults.ReaderFault.{ReaderFault}
use Rattle.integers.specs.declared.fraction.Fraction.{Fraction}
use Rattle.jobfile.specs.declared.parts.Form.{Form}
use Rattle.jobfile.specs.declared.parts.Form.TheVariants.{ScaleOffset, Flat, Solid}
use Rattle.jobfile.specs.declared.parts.Step.{Step}
use Rattle.jobfile.specs.declared.parts.Step.TheVariants.{Then, Before, Undo}
use Rattle.jobfile.specs.declared.parts.Point.{Point}
use Rattle.jobfile.specs.declared.parts.Frame.{Frame}
use Rattle.jobfile.specs.Items.{fraction_bytes, Numbers, BadNumbers, BadStep, BadFrame, Known, Upright, GoodForm, GoodStep, form_code, form_many, form_numbers, step_bytes, point_numbers, frame_numbers, frame_bytes, steps, points, frames}
use Rattle.jobfile.proofs.Exact.{Exact, numbers_cut, numbers_clash, numbers_one, never, alike}

-- Codes.
code_range : (f : Form) → (1 ≤ form_code f) × (form_code f ≤ 3)
code_range (ScaleOffset fs) = (omega arith, omega arith)
code_range (Flat fs) = (omega arith, omega arith)
code_range (Solid fs) = (omega arith, omega arith)

known_then : (f : Form) → Known (form_code f) (form_many f)
known_then (ScaleOffset fs) = inl (inl refl, refl)
known_then (Flat fs) = inr (inl (inl refl, refl))
known_then (Solid fs) = inr (inr (inl (inl refl, refl)))

known_before : (f : Form) → Known (16 + form_code f) (form_many f)
known_before (ScaleOffset fs) = inl (inr refl, refl)
known_before (Flat fs) = inr (inl (inr refl, refl))
known_before (Solid fs) = inr (inr (inl (inr refl, refl)))

known_undo : Known 32 0
known_undo = inr (inr (inr (refl, refl)))

known_one : (c m n : ℕ) → Known c m → Known c n → m ≡ n
known_one c m n k l = grind arith

form_cut : (f g : Form) (r s : List ℕ) → form_code f ≡ form_code g → GoodForm f → GoodForm g → flat_map fraction_bytes (form_numbers f) ++ r ≡ flat_map fraction_bytes (form_numbers g) ++ s → (f ≡ g) × (r ≡ s)
form_cut (ScaleOffset fs) (ScaleOffset gs) r s c p q e = let h = numbers_cut 4 fs gs r s p q e in (ap ScaleOffset h.0, h.1)
form_cut (ScaleOffset fs) (Flat gs) r s c p q e = absurd (omega arith)
form_cut (ScaleOffset fs) (Solid gs) r s c p q e = absurd (omega arith)
form_cut (Flat fs) (ScaleOffset gs) r s c p q e = absurd (omega arith)
form_cut (Flat fs) (Flat gs) r s c p q e = let h = numbers_cut 6 fs gs r s p q e in (ap Flat h.0, h.1)
form_cut (Flat fs) (Solid gs) r s c p q e = absurd (omega arith)
form_cut (Solid fs) (ScaleOffset gs) r s c p q e = absurd (omega arith)
form_cut (Solid fs) (Flat gs) r s c p q e = absurd (omega arith)
form_cut (Solid fs) (Solid gs) r s c p q e = let h = numbers_cut 16 fs gs r s p q e in (ap Solid h.0, h.1)

-- the first byte and what follows it
head_same : {a b : ℕ} {x y : List ℕ} → a ∷ x ≡ b ∷ y → a ≡ b
head_same e = cc

tail_same : {a b : ℕ} {x y : List ℕ} → a ∷ x ≡ b ∷ y → x ≡ y
tail_same e = cc

step_cut : (a b : Step) (r s : List ℕ) → GoodStep a → GoodStep b → step_bytes a ++ r ≡ step_bytes b ++ s → (a ≡ b) × (r ≡ s)
step_cut (Then f) (Then g) r s p q e = let h = form_cut f g r s (head_same e) p q (tail_same e) in (ap Then h.0, h.1)
step_cut (Then f) (Before g) r s p q e = absurd (omega (arith, head_same e, code_range f, code_range g))
step_cut (Then f) Undo r s p q e = absurd (omega (arith, head_same e, code_range f))
step_cut (Before f) (Then g) r s p q e = absurd (omega (arith, head_same e, code_range f, code_range g))
step_cut (Before f) (Before g) r s p q e = let same : form_code f ≡ form_code g = omega (arith, head_same e) in let h = form_cut f g r s same p q (tail_same e) in (ap Before h.0, h.1)
step_cut (Before f) Undo r s p q e = absurd (omega (arith, head_same e, code_range f))
step_cut Undo (Then g) r s p q e = absurd (omega (arith, head_same e, code_range g))
step_cut Undo (Before g) r s p q e = absurd (omega (arith, head_same e, code_range g))
step_cut Undo Undo r s p q e = (refl, tail_same e)

-- a code that is known, with its numbers, is not bad
code_clash : (c n : ℕ) (fs : List Fraction) (r : List ℕ) (p : ℕ) (f : ReaderFault) → Known c n → Numbers n fs → BadStep (c ∷ (flat_map fraction_bytes fs ++ r)) p f → ⊥
code_clash c n fs r p f k good (BadStep.missing e) = omega (arith, ap length e)
code_clash c n fs r p f k good (BadStep.unknown code after e no_code) = no_code n (subst (λ x. Known x n) (head_same e) k)
code_clash c n fs r p f k good (BadStep.inside code m after e l bad) =
    let same : m ≡ n = known_one code m n l (subst (λ x. Known x n) (head_same e) k) in
    numbers_clash n fs r p f good (subst (λ x. BadNumbers n x p f) (sym (tail_same e)) (subst (λ x. BadNumbers x after p f) same bad))

step_clash : (a : Step) (r : List ℕ) (p : ℕ) (f : ReaderFault) → GoodStep a → BadStep (step_bytes a ++ r) p f → ⊥
step_clash (Then g) r p f good bad = code_clash _ _ (form_numbers g) r p f (known_then g) good bad
step_clash (Before g) r p f good bad = code_clash _ _ (form_numbers g) r p f (known_before g) good bad
step_clash Undo r p f good bad = code_clash 32 0 [] r p f known_undo (record { many = refl; sound = tt }) bad

step_one : {bs : List ℕ} {p : ℕ} {f g : ReaderFault} → BadStep bs p f → BadStep bs p g → f ≡ g
step_one (BadStep.missing e) (BadStep.missing d) = refl
step_one (BadStep.missing e) (BadStep.unknown c x d no_code) = absurd (omega (arith, ap length (sym e ∙ d)))
step_one (BadStep.missing e) (BadStep.inside c n x d k bad) = absurd (omega (arith, ap length (sym e ∙ d)))
step_one (BadStep.unknown c x e no_code) (BadStep.missing d) = absurd (omega (arith, ap length (sym e ∙ d)))
step_one (BadStep.unknown c x e no_code) (BadStep.unknown c' x' d no-code') = refl
step_one (BadStep.unknown c x e no_code) (BadStep.inside c' n x' d k bad) = absurd (no_code n (subst (λ z. Known z n) (sym (head_same (sym e ∙ d))) k))
step_one (BadStep.inside c n x e k bad) (BadStep.missing d) = absurd (omega (arith, ap length (sym e ∙ d)))
step_one (BadStep.inside c n x e k bad) (BadStep.unknown c' x' d no_code) = absurd (no_code n (subst (λ z. Known z n) (head_same (sym e ∙ d)) k))
step_one {bs} {p} {f} {g} (BadStep.inside c n x e k bad) (BadStep.inside c' m y d l worse) =
    let same = sym e ∙ d in
    let many : m ≡ n = known_one c m n (subst (λ z. Known z m) (sym (head_same same)) l) k in
    numbers_one bad (subst (λ z. BadNumbers n z p g) (sym (tail_same same)) (subst (λ z. BadNumbers z y p g) many worse))

pub steps_exact : Exact steps
steps_exact = record {
  cut = step_cut;
  clash = λ a r p i f good bad. never (λ g b. step_clash a r p g good b) f bad;
  one = λ bs p i f g a b. alike (λ h k x y. step_one x y) f g a b;
}

point_same : (a b : Point) → point_numbers a ≡ point_numbers b → a ≡ b
point_same a b e = grind arith

pub points_exact : Exact points
points_exact = record {
  cut = λ a b r s p q e. let h = numbers_cut 3 (point_numbers a) (point_numbers b) r s p q e in (point_same a b h.0, h.1);
  clash = λ a r p i f good bad. never (λ g b. numbers_clash 3 (point_numbers a) r p g good b) f bad;
  one = λ bs p i f g a b. alike (λ h k x y. numbers_one x y) f g a b;
}

frame_same : (a b : Frame) → frame_numbers a ≡ frame_numbers b → a ≡ b
frame_same a b e = grind arith

frame_cut : (a b : Frame) (r s : List ℕ) → Numbers 4 (frame_numbers a) → Numbers 4 (frame_numbers b) → frame_bytes a ++ r ≡ frame_bytes b ++ s → (a ≡ b) × (r ≡ s)
frame_cut a b r s p q e = let h = numbers_cut 4 (frame_numbers a) (frame_numbers b) r s p q e in (frame_same a b h.0, h.1)

frame_clash : (a : Frame) (r : List ℕ) (p i : ℕ) (f : Fault) → Numbers 4 (frame_numbers a) → Upright a → BadFrame (frame_bytes a ++ r) p i f → ⊥
frame_clash a r p i (FromReader f) good fine bad = numbers_clash 4 (frame_numbers a) r p f good bad
frame_clash a r p i (FromFrame (Backwards k)) good fine (e, t) = t.backwards (subst Upright (frame_cut a t.frame r _ good t.numbers t.leads).0 fine)

frame_one : (bs : List ℕ) (p i : ℕ) (f g : Fault) → BadFrame bs p i f → BadFrame bs p i g → f ≡ g
frame_one bs p i (FromReader f) (FromReader g) a b = ap FromReader (numbers_one a b)
frame_one bs p i (FromReader f) (FromFrame (Backwards k)) a (e, t) = absurd (numbers_clash 4 (frame_numbers t.frame) _ p f t.numbers (subst (λ z. BadNumbers 4 z p f) t.leads a))
frame_one bs p i (FromFrame (Backwards k)) (FromReader g) (e, t) b = absurd (numbers_clash 4 (frame_numbers t.frame) _ p g t.numbers (subst (λ z. BadNumbers 4 z p g) t.leads b))
frame_one bs p i (FromFrame (Backwards k)) (FromFrame (Backwards m)) (e, t) (d, u) = ap (λ n. FromFrame (Backwards n)) (e ∙ sym d)

pub frames_exact : Exact frames
frames_exact = record {
  cut = λ a b r s p q e. frame_cut a b r s p.numbers q.numbers e;
  clash = λ a r p i f good bad. frame_clash a r p i f good.numbers good.upright bad;
  one = frame_one;
}
