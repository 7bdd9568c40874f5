-- The codes that steps begin with. Assumes nothing.
use Rattle.std.specs.Prelude.{◌≡◌, ℕ, ◌+◌, Result, MatchResult}
use Rattle.jobfile.specs.Items.{Known}
use Rattle.items.specs.declared.codes.FormCode.{FormCode}
use Rattle.items.specs.declared.codes.FormCode.TheVariants.{ScaleOffset, Flat, Solid}
use Rattle.items.specs.declared.codes.StepCode.{StepCode}
use Rattle.items.specs.declared.codes.StepCode.TheVariants.{Then, Before, Undo}
use Rattle.items.specs.declared.codes.UnknownCode.{UnknownCode}

-- the byte of a kind of form that joins what was there, and how many numbers follow it
abbrev pub form_byte : FormCode → ℕ
form_byte ScaleOffset = 1
form_byte Flat = 2
form_byte Solid = 3

abbrev pub numbers_of : FormCode → ℕ
numbers_of ScaleOffset = 4
numbers_of Flat = 6
numbers_of Solid = 16

abbrev pub step_byte : StepCode → ℕ
step_byte (Then form) = form_byte form
step_byte (Before form) = 16 + form_byte form
step_byte Undo = 32

-- the result is the code that the byte stands for, or an error at a byte that the format does not know
abbrev pub Decodes : ℕ → Result StepCode UnknownCode → Type 0
Decodes byte r = MatchResult r (λ code. step_byte code ≡ byte) (λ _. (n : ℕ) → Known byte n → ⊥)
