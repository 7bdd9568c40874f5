-- A test by `T` and by its value. Assumes nothing.
use Rattle.std.proofs.Common.{◌≡◌, Bool, true, false, T, refl}

pub holds : {b : Bool} → T b → b ≡ true
holds {b = true} t = refl
holds {b = false} t = absurd t

pub fails : {b : Bool} → ¬ (T b) → b ≡ false
fails {b = true} f = absurd (f tt)
fails {b = false} f = refl
