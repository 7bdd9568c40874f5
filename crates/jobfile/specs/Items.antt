-- The items of a job file: which bytes each has, which the file may hold, and why one cannot be read. Assumes nothing.
use Rattle.std.specs.Prelude.{◌≡◌, ℕ, ◌+◌, ◌*◌, ◌/◌, ◌%◌, ◌<◌, ◌≤◌, T, ◌⊎◌, List, [], ◌∷◌, ◌++◌, length, drop, FitsSigned, slice_index}
use Rattle.std.proofs.Common.{of_z}
use Rattle.std.specs.Int.{w32}
use Rattle.std.specs.List.{flat_map, AllByRecursion}
use Rattle.integers.specs.declared.fraction.Fraction.{Fraction}
use Rattle.pixels.specs.Pixels.{Pixel, pixel_of, pixel_less}
use Rattle.jobfile.specs.declared.faults.ReaderFault.{ReaderFault}
use Rattle.jobfile.specs.declared.faults.ReaderFault.TheVariants.{Short, TooMany, UnknownCode, Denominator}
use Rattle.jobfile.specs.declared.faults.FrameFault.TheVariants.{Backwards}
use Rattle.jobfile.specs.declared.faults.Fault.{Fault}
use Rattle.jobfile.specs.declared.faults.Fault.TheVariants.{Reader as FromReader, Frame as FromFrame}
use Rattle.jobfile.specs.declared.parts.Form.{Form}
use Rattle.jobfile.specs.declared.parts.Form.TheVariants.{ScaleOffset, Flat, Solid}
use Rattle.jobfile.specs.declared.parts.Step.{Step}
use Rattle.jobfile.specs.declared.parts.Step.TheVariants.{Then, Before, Undo}
use Rattle.jobfile.specs.declared.parts.Point.{Point}
use Rattle.jobfile.specs.declared.parts.Frame.{Frame}

-- bs begins with front
abbrev pub Leads : List ℕ → List ℕ → Type 0
Leads front bs = bs ≡ front ++ drop (length front) bs

-- ---- Numbers

-- the little-endian bytes of a number of 16 bits and of one of 32 bits
abbrev pub two : ℕ → List ℕ
two n = (n % 256) ∷ (n / 256 % 256) ∷ []

abbrev pub four : ℕ → List ℕ
four n = (n % 256) ∷ (n / 256 % 256) ∷ (n / 65536 % 256) ∷ (n / 16777216 % 256) ∷ []

-- a number: its numerator, then its denominator
unfoldable pub fraction_bytes : Fraction → List ℕ
fraction_bytes f = four (of_z w32 f.num) ++ two f.den

pub record Sound (f : Fraction) : Type 0 where
  pub fits : FitsSigned w32 f.num
  pub some : 1 ≤ f.den
  pub most : f.den ≤ 65520

-- n numbers, each sound
pub record Numbers (n : ℕ) (fs : List Fraction) : Type 0 where
  pub many : length fs ≡ n
  pub sound : AllByRecursion Sound fs

-- the denominator at place k of a run of numbers, by the bytes there
abbrev pub den_at : ℕ → List ℕ → ℕ
den_at k bs = slice_index bs (6 * k + 4) + slice_index bs (6 * k + 5) * 256

abbrev pub OutOfRange : ℕ → Type 0
OutOfRange d = (d ≡ 0) ⊎ (65520 < d)

-- Why n numbers cannot be read from bs, for an item that begins at p: too few bytes are there, or else some denominator is out of range.
pub data BadNumbers (n : ℕ) (bs : List ℕ) (p : ℕ) : ReaderFault → Type 0 where
  short : length bs < 6 * n → BadNumbers n bs p (Short p)
  denominator : (k : ℕ) → 6 * n ≤ length bs → k < n → OutOfRange (den_at k bs) → BadNumbers n bs p (Denominator p)

-- why a count of at most `limit` cannot be read from bs
pub data BadCount (limit : ℕ) (bs : List ℕ) (p : ℕ) : ReaderFault → Type 0 where
  short : length bs < 2 → BadCount limit bs p (Short p)
  above : (n : ℕ) (rest : List ℕ) → n < 65536 → bs ≡ two n ++ rest → limit < n → BadCount limit bs p (TooMany p)

-- A kind of item: how many a section may hold, the bytes of each, which of them the file may hold, and why none can be read.
-- `Bad bs p i f` says that bs, the file from p on, begins with no such item, the i-th of its section, and that f says why.
pub record Kind (A : Type 0) : Type 1 where
  pub limit : ℕ
  pub bytes : A → List ℕ
  pub Good : A → Type 0
  pub Bad : List ℕ → ℕ → ℕ → Fault → Type 0

-- the fault is the reader's, and P of it
abbrev pub OfReader : (ReaderFault → Type 0) → Fault → Type 0
OfReader P (FromReader f) = P f
OfReader P (FromFrame f) = ⊥

-- ---- Steps

-- a form's numbers, the code of its kind, and how many numbers follow that
abbrev pub form_numbers : Form → List Fraction
form_numbers (ScaleOffset fs) = fs
form_numbers (Flat fs) = fs
form_numbers (Solid fs) = fs

abbrev pub form_code : Form → ℕ
form_code (ScaleOffset fs) = 1
form_code (Flat fs) = 2
form_code (Solid fs) = 3

abbrev pub form_many : Form → ℕ
form_many (ScaleOffset fs) = 4
form_many (Flat fs) = 6
form_many (Solid fs) = 16

abbrev pub step_bytes : Step → List ℕ
step_bytes (Then f) = form_code f ∷ flat_map fraction_bytes (form_numbers f)
step_bytes (Before f) = (16 + form_code f) ∷ flat_map fraction_bytes (form_numbers f)
step_bytes Undo = 32 ∷ []

abbrev pub GoodForm : Form → Type 0
GoodForm f = Numbers (form_many f) (form_numbers f)

abbrev pub GoodStep : Step → Type 0
GoodStep (Then f) = GoodForm f
GoodStep (Before f) = GoodForm f
GoodStep Undo = Unit {0}

-- the codes that the format knows, each with how many numbers follow it
abbrev pub Known : ℕ → ℕ → Type 0
Known code n = (((code ≡ 1) ⊎ (code ≡ 17)) × (n ≡ 4)) ⊎ ((((code ≡ 2) ⊎ (code ≡ 18)) × (n ≡ 6)) ⊎ ((((code ≡ 3) ⊎ (code ≡ 19)) × (n ≡ 16)) ⊎ ((code ≡ 32) × (n ≡ 0))))

-- no byte is there, or it is no code, or the numbers that belong to the code cannot be read
pub data BadStep (bs : List ℕ) (p : ℕ) : ReaderFault → Type 0 where
  missing : bs ≡ [] → BadStep bs p (Short p)
  unknown : (code : ℕ) (after : List ℕ) → bs ≡ code ∷ after → ((n : ℕ) → Known code n → ⊥) → BadStep bs p (UnknownCode p)
  inside : (code n : ℕ) (after : List ℕ) {f : ReaderFault} → bs ≡ code ∷ after → Known code n → BadNumbers n after p f → BadStep bs p f

abbrev pub steps : Kind Step
steps = record { limit = 256; bytes = step_bytes; Good = GoodStep; Bad = λ bs p i. OfReader (BadStep bs p) }

-- ---- Points

abbrev pub point_numbers : Point → List Fraction
point_numbers q = q.x ∷ q.y ∷ q.z ∷ []

abbrev pub points : Kind Point
points = record {
  limit = 1024;
  bytes = λ q. flat_map fraction_bytes (point_numbers q);
  Good = λ q. Numbers 3 (point_numbers q);
  Bad = λ bs p i. OfReader (BadNumbers 3 bs p);
}

-- ---- Frames

-- a number as a pixel
abbrev pub as_pixel : Fraction → Pixel
as_pixel f = pixel_of f.num f.den

abbrev pub frame_numbers : Frame → List Fraction
frame_numbers w = w.min_x ∷ w.min_y ∷ w.max_x ∷ w.max_y ∷ []

abbrev pub frame_bytes : Frame → List ℕ
frame_bytes w = flat_map fraction_bytes (frame_numbers w)

-- no minimum is above its maximum, as pixels
pub record Upright (w : Frame) : Type 0 where
  pub wide : ¬ (T (pixel_less (as_pixel w.max_x) (as_pixel w.min_x)))
  pub high : ¬ (T (pixel_less (as_pixel w.max_y) (as_pixel w.min_y)))

pub record GoodFrame (w : Frame) : Type 0 where
  pub numbers : Numbers 4 (frame_numbers w)
  pub upright : Upright w

-- bs begins with a frame whose numbers can be read, and of which some minimum is above its maximum
pub record Turned (bs : List ℕ) : Type 0 where
  pub frame : Frame
  pub leads : Leads (frame_bytes frame) bs
  pub numbers : Numbers 4 (frame_numbers frame)
  pub backwards : ¬ (Upright frame)

-- the numbers cannot be read, or they can and the frame is turned round
abbrev pub BadFrame : List ℕ → ℕ → ℕ → Fault → Type 0
BadFrame bs p i (FromReader f) = BadNumbers 4 bs p f
BadFrame bs p i (FromFrame (Backwards k)) = (k ≡ i) × Turned bs

abbrev pub frames : Kind Frame
frames = record { limit = 256; bytes = frame_bytes; Good = GoodFrame; Bad = BadFrame }
