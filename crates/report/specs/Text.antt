-- The text that shows a job, line by line. Assumes nothing.
use Rattle.std.specs.Prelude.{◌≡◌, ℕ, ◌+◌, List, [], ◌∷◌, ◌++◌, ℤ, codes, decimal}
use Rattle.std.specs.List.{flat_map}
use Rattle.std.specs.Fmt.{signed_decimal}
use Rattle.integers.specs.declared.fraction.Fraction.{Fraction}
use Rattle.residues.specs.Residues.{residue_of}
use Rattle.jobfile.specs.declared.parts.Form.{Form}
use Rattle.jobfile.specs.declared.parts.Form.TheVariants.{ScaleOffset, Flat, Solid}
use Rattle.jobfile.specs.declared.parts.Step.{Step}
use Rattle.jobfile.specs.declared.parts.Step.TheVariants.{Then, Before, Undo}
use Rattle.jobfile.specs.declared.parts.Point.{Point}
use Rattle.jobfile.specs.declared.parts.Frame.{Frame}
use Rattle.jobfile.specs.Items.{point_numbers, frame_numbers, form_numbers, as_pixel}
use Rattle.jobfile.specs.Format.{Lists, Written}

-- a number as a residue and as a pixel count
abbrev pub residue_value : Fraction → ℤ
residue_value f = (residue_of f.num f.den).value

abbrev pub pixel_value : Fraction → ℤ
pixel_value f = (as_pixel f).value

-- numbers in decimal, with a blank before each
abbrev pub numbers_text : (Fraction → ℤ) → List Fraction → List ℕ
numbers_text value fs = flat_map (λ f. 32 ∷ signed_decimal (value f)) fs

abbrev pub form_name : Form → List ℕ
form_name (ScaleOffset fs) = codes "scale-offset"
form_name (Flat fs) = codes "flat"
form_name (Solid fs) = codes "solid"

abbrev pub form_text : Form → List ℕ
form_text f = form_name f ++ numbers_text residue_value (form_numbers f)

abbrev pub step_text : Step → List ℕ
step_text (Then f) = codes "then " ++ form_text f
step_text (Before f) = codes "before " ++ form_text f
step_text Undo = codes "undo"

-- a line: its word, its index, and the rest of it
abbrev pub line : List ℕ → ℕ → List ℕ → List ℕ
line word i rest = word ++ (decimal i ++ (rest ++ codes "\n"))

abbrev pub step_line : ℕ → Step → List ℕ
step_line i s = line (codes "step ") i (codes " " ++ step_text s)

abbrev pub point_line : ℕ → Point → List ℕ
point_line i q = line (codes "point ") i (numbers_text residue_value (point_numbers q))

abbrev pub frame_line : ℕ → Frame → List ℕ
frame_line i w = line (codes "frame ") i (numbers_text pixel_value (frame_numbers w))

-- the lines of a list whose first element has the index i
abbrev pub lines : {A : Type 0} → (ℕ → A → List ℕ) → ℕ → List A → List ℕ
lines text i [] = []
lines text i (x ∷ xs) = text i x ++ lines text (i + 1) xs

abbrev pub job_text : Lists → List ℕ
job_text j = lines step_line 0 j.ss ++ (lines point_line 0 j.ps ++ lines frame_line 0 j.ws)

-- what is written of a file that stands for a job: the lines of that job
pub record Shows (bs text : List ℕ) : Type 0 where
  pub job : Lists
  pub written : Written job bs
  pub text_is : text ≡ job_text job
