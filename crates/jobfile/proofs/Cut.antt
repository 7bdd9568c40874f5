-- Enough bytes settle the answer.
use Rattle.std.proofs.Common.{◌≡◌, ℕ, suc, ◌+◌, ◌*◌, ◌<◌, ◌≤◌, List, [], ◌∷◌, ◌++◌, length, sym, ap, ◌∙◌, subst, append_assoc, mul-le-mul_left, mul-suc, arith, length-append}
use Rattle.std.specs.List.{flat_map, AllByRecursion}
use Rattle.std.proofs.lemmas.Grind.{common_steps}
use Rattle.jobfile.specs.declared.faults.Fault.{Fault}
use Rattle.jobfile.specs.declared.faults.Fault.TheVariants.{Reader as FromReader, Frame as FromFrame}
use Rattle.jobfile.specs.declared.faults.FrameFault.TheVariants.{Backwards}
use Rattle.jobfile.specs.declared.faults.ReaderFault.{ReaderFault}
use Rattle.jobfile.specs.declared.parts.Form.{Form}
use Rattle.jobfile.specs.declared.parts.Step.{Step}
use Rattle.jobfile.specs.declared.parts.Step.TheVariants.{Then, Before, Undo}
use Rattle.jobfile.specs.declared.parts.Form.TheVariants.{ScaleOffset, Flat, Solid}
use Rattle.jobfile.specs.declared.parts.Point.{Point}
use Rattle.jobfile.specs.declared.parts.Frame.{Frame}
use Rattle.jobfile.specs.Items.{two, Kind, Leads, OfReader, frame_bytes, den_at, OutOfRange, BadNumbers, BadCount, BadStep, BadFrame, Known, GoodForm, GoodStep, form_many, form_numbers, fraction_bytes, step_bytes, point_numbers, frame_numbers, steps, points, frames}
use Rattle.jobfile.specs.Format.{section_bytes, GoodSection, BadSection, Fails, Enough, longest}
use Rattle.jobfile.proofs.Runs.{run_length}

leads_more : (front bs more : List ℕ) → Leads front bs → Leads front (bs ++ more)
leads_more front bs more h = grind (arith, common_steps)

den_grow : (k n : ℕ) (bs more : List ℕ) → 6 * n ≤ length bs → k < n → den_at k (bs ++ more) ≡ den_at k bs
den_grow k n bs more le lt = grind (arith, common_steps)

numbers_grow : {n : ℕ} {bs : List ℕ} {p : ℕ} {f : ReaderFault} (more : List ℕ) → 6 * n ≤ length bs → BadNumbers n bs p f → BadNumbers n (bs ++ more) p f
numbers_grow more le (BadNumbers.short h) = absurd (omega arith)
numbers_grow {n} {bs} {p} {f} more le (BadNumbers.denominator k le' lt bad) =
    BadNumbers.denominator k (omega (arith, length-append bs more)) lt (subst OutOfRange (sym (den_grow k n bs more le lt)) bad)

grown : {P Q : ReaderFault → Type 0} → ((f : ReaderFault) → P f → Q f) → (f : Fault) → OfReader P f → OfReader Q f
grown h (FromReader f) bad = h f bad
grown h (FromFrame f) bad = bad

-- an item of the kind has at most m bytes, and m bytes settle what is wrong with one
pub record Sized {A : Type 0} (kind : Kind A) (m : ℕ) : Type 0 where
  pub small : (x : A) → kind.Good x → length (kind.bytes x) ≤ m
  pub grow : (bs more : List ℕ) (p i : ℕ) (f : Fault) → m ≤ length bs → kind.Bad bs p i f → kind.Bad (bs ++ more) p i f

few_numbers : (c n : ℕ) → Known c n → n ≤ 16
few_numbers c n k = grind arith

many_few : (f : Form) → form_many f ≤ 16
many_few (ScaleOffset fs) = omega arith
many_few (Flat fs) = omega arith
many_few (Solid fs) = omega arith

form_small : (f : Form) → GoodForm f → length (flat_map fraction_bytes (form_numbers f)) ≤ 96
form_small f good = omega (arith, run_length (form_numbers f), good.many, many_few f)

step_small : (s : Step) → GoodStep s → length (step_bytes s) ≤ 97
step_small (Then f) good = omega (arith, form_small f good)
step_small (Before f) good = omega (arith, form_small f good)
step_small Undo good = omega arith

step_grow : {bs : List ℕ} {p : ℕ} {f : ReaderFault} (more : List ℕ) → 97 ≤ length bs → BadStep bs p f → BadStep (bs ++ more) p f
step_grow more le (BadStep.missing e) = absurd (omega (arith, ap length e))
step_grow more le (BadStep.unknown c after e out) = BadStep.unknown c (after ++ more) (ap (λ t. t ++ more) e) out
step_grow more le (BadStep.inside c n after e k bad) = BadStep.inside c n (after ++ more) (ap (λ t. t ++ more) e) k (numbers_grow more (omega (arith, ap length e, few_numbers c n k)) bad)

steps_sized : Sized steps 97
steps_sized = record { small = step_small; grow = λ bs more p i f le bad. grown (λ g b. step_grow more le b) f bad }

points_sized : Sized points 18
points_sized = record { small = λ q good. omega (arith, run_length (point_numbers q)); grow = λ bs more p i f le bad. grown (λ g b. numbers_grow more le b) f bad }

frame_grow : (bs more : List ℕ) (p i : ℕ) (f : Fault) → 24 ≤ length bs → BadFrame bs p i f → BadFrame (bs ++ more) p i f
frame_grow bs more p i (FromReader f) le bad = numbers_grow more le bad
frame_grow bs more p i (FromFrame (Backwards k)) le (e, t) = (e, record { frame = t.frame; leads = leads_more (frame_bytes t.frame) bs more t.leads; numbers = t.numbers; backwards = t.backwards })

frames_sized : Sized frames 24
frames_sized = record { small = λ w good. omega (arith, run_length (frame_numbers w)); grow = frame_grow }

module _ {A : Type 0} (kind : Kind A) (m : ℕ) (sized : Sized kind m) where
  items_small : (xs : List A) → AllByRecursion kind.Good xs → length (flat_map kind.bytes xs) ≤ m * length xs
  items_small [] good = omega arith
  items_small (x ∷ xs) good = omega (arith, length-append (kind.bytes x) (flat_map kind.bytes xs), sized.small x good.0, items_small xs good.1, mul-suc m (length xs))

  pub section_small : (xs : List A) → GoodSection kind xs → length (section_bytes kind xs) ≤ 2 + m * kind.limit
  section_small xs good = omega (arith, items_small xs good.each, mul-le-mul_left m good.within)

  pub section_grow : {bs : List ℕ} {p : ℕ} {f : Fault} (more : List ℕ) → 2 + m * kind.limit ≤ length bs → BadSection kind bs p f → BadSection kind (bs ++ more) p f
  section_grow more le (BadSection.count (BadCount.short h)) = absurd (omega arith)
  section_grow more le (BadSection.count (BadCount.above n rest lt e high)) = BadSection.count (BadCount.above n (rest ++ more) lt (ap (λ t. t ++ more) e) high)
  section_grow {bs} {p} {f} more le (BadSection.item n xs rest few each lt e bad) =
      let next : suc (length xs) ≤ kind.limit = omega arith in
      let room : m ≤ length rest = omega (arith, ap length e, length-append (flat_map kind.bytes xs) rest, items_small xs each, mul-suc m (length xs), mul-le-mul_left m next) in
      BadSection.item n xs (rest ++ more) few each lt (ap (λ t. t ++ more) e ∙ ap (λ t. two n ++ t) (append_assoc (flat_map kind.bytes xs) rest more)) (sized.grow rest more _ _ f room bad)

steps_small : (xs : List Step) → GoodSection steps xs → length (section_bytes steps xs) ≤ 24834
steps_small xs good = section_small steps 97 steps_sized xs good

points_small : (xs : List Point) → GoodSection points xs → length (section_bytes points xs) ≤ 18434
points_small xs good = section_small points 18 points_sized xs good

frames_small : (xs : List Frame) → GoodSection frames xs → length (section_bytes frames xs) ≤ 6146
frames_small xs good = section_small frames 24 frames_sized xs good

fails_grow : (bs more : List ℕ) (f : Fault) → longest < length bs → Fails bs f → Fails (bs ++ more) f
fails_grow bs more f long (Fails.in_steps bad) = Fails.in_steps (section_grow steps 97 steps_sized more (omega arith) bad)
fails_grow bs more f long (Fails.in_points ss rest good e bad) =
    let A = section_bytes steps ss in
    let room : 18434 ≤ length rest = omega (arith, ap length e ∙ length-append A rest, steps_small ss good) in
    Fails.in_points ss (rest ++ more) good (ap (λ t. t ++ more) e ∙ append_assoc A rest more) (section_grow points 18 points_sized more room bad)
fails_grow bs more f long (Fails.in_frames ss ps rest good fine e bad) =
    let A = section_bytes steps ss in
    let B = section_bytes points ps in
    let room : 6146 ≤ length rest = omega (arith, ap length e ∙ length-append A (B ++ rest), length-append B rest, steps_small ss good, points_small ps fine) in
    Fails.in_frames ss ps (rest ++ more) good fine (ap (λ t. t ++ more) e ∙ append_assoc A (B ++ rest) more ∙ ap (λ t. A ++ t) (append_assoc B rest more)) (section_grow frames 24 frames_sized more room bad)
fails_grow bs more f long (Fails.left_over j rest good e some) =
    let A = section_bytes steps j.ss in
    let B = section_bytes points j.ps in
    let C = section_bytes frames j.ws in
    Fails.left_over j (rest ++ more) good
    (ap (λ t. t ++ more) e ∙ append_assoc A (B ++ (C ++ rest)) more ∙ ap (λ t. A ++ t) (append_assoc B (C ++ rest) more ∙ ap (λ t. B ++ t) (append_assoc C rest more)))
    (omega (arith, length-append rest more))

pub enough : (bs : List ℕ) → Enough bs
enough bs = record {
  bound = λ j w.
      let A = section_bytes steps j.ss in
      let B = section_bytes points j.ps in
      let C = section_bytes frames j.ws in
      omega (arith, ap length w.whole ∙ length-append A (B ++ C), length-append B C, steps_small j.ss w.good.ss_good, points_small j.ps w.good.ps_good, frames_small j.ws w.good.ws_good);
  stays = λ long more f bad. fails_grow bs more f long bad;
}
