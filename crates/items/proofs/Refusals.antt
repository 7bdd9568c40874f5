-- Why something cannot be read.
use Rattle.std.proofs.Common.{◌+◌, refl, inl, inr}
use Rattle.std.proofs.lemmas.List.{nil_from_length}
use Rattle.jobfile.specs.Items.{Known, BadCount, BadNumbers, BadStep}
use Rattle.items.specs.declared.codes.FormCode.{FormCode}
use Rattle.items.specs.declared.codes.FormCode.TheVariants.{ScaleOffset, Flat, Solid}
use Rattle.items.specs.Codes.{form_byte, numbers_of}

-- the code of a step with numbers is known
pub known_then : (code : FormCode) → Known (form_byte code) (numbers_of code)
known_then ScaleOffset = inl (inl refl, refl)
known_then Flat = inr (inl (inl refl, refl))
known_then Solid = inr (inr (inl (inl refl, refl)))

pub known_before : (code : FormCode) → Known (16 + form_byte code) (numbers_of code)
known_before ScaleOffset = inl (inr refl, refl)
known_before Flat = inr (inl (inr refl, refl))
known_before Solid = inr (inr (inl (inr refl, refl)))

-- the refusals of counts, numbers and steps
pub ruleset refusals = (BadCount.short, BadNumbers.short, BadStep.missing, BadStep.unknown, BadStep.inside, known_then, known_before, nil_from_length)
