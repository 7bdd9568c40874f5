-- The job file: three sections, each after its count. Assumes nothing.
use Rattle.std.specs.Prelude.{◌≡◌, ℕ, ◌+◌, ◌<◌, ◌≤◌, List, ◌++◌, length, vec_items}
use Rattle.std.specs.List.{flat_map, AllByRecursion}
use Rattle.jobfile.specs.declared.faults.ReaderFault.{ReaderFault}
use Rattle.jobfile.specs.declared.faults.ReaderFault.TheVariants.{LeftOver}
use Rattle.jobfile.specs.declared.faults.Fault.{Fault}
use Rattle.jobfile.specs.declared.faults.Fault.TheVariants.{Reader as FromReader}
use Rattle.jobfile.specs.declared.parts.Step.{Step}
use Rattle.jobfile.specs.declared.parts.Point.{Point}
use Rattle.jobfile.specs.declared.parts.Frame.{Frame}
use Rattle.jobfile.specs.declared.parts.Job.{Job}
use Rattle.jobfile.specs.Items.{two, Kind, BadCount, steps, points, frames}

-- a section: the count of its items, then the items
abbrev pub section_bytes : {A : Type 0} → Kind A → List A → List ℕ
section_bytes kind xs = two (length xs) ++ flat_map kind.bytes xs

pub record GoodSection {A : Type 0} (kind : Kind A) (xs : List A) : Type 0 where
  pub within : length xs ≤ kind.limit
  pub each : AllByRecursion kind.Good xs

-- bs, the file from p on, begins with no such section: its count cannot be read,
-- or good items follow the count, fewer than it says, and after them comes an item that is bad.
pub data BadSection {A : Type 0} (kind : Kind A) (bs : List ℕ) (p : ℕ) : Fault → Type 0 where
  count : {f : ReaderFault} → BadCount kind.limit bs p f → BadSection kind bs p (FromReader f)
  item : (n : ℕ) (xs : List A) (rest : List ℕ) {f : Fault} → n ≤ kind.limit → AllByRecursion kind.Good xs → length xs < n → bs ≡ two n ++ (flat_map kind.bytes xs ++ rest) → kind.Bad rest (p + (2 + length (flat_map kind.bytes xs))) (length xs) f → BadSection kind bs p f

-- the three lists of a job
pub record Lists : Type 0 where
  pub ss : List Step
  pub ps : List Point
  pub ws : List Frame

abbrev pub lists : Job → Lists
lists j = record { ss = vec_items j.steps; ps = vec_items j.points; ws = vec_items j.frames }

-- the lists that a file may hold
pub record Good (j : Lists) : Type 0 where
  pub ss_good : GoodSection steps j.ss
  pub ps_good : GoodSection points j.ps
  pub ws_good : GoodSection frames j.ws

-- the file of these lists
abbrev pub job_bytes : Lists → List ℕ
job_bytes j = section_bytes steps j.ss ++ (section_bytes points j.ps ++ section_bytes frames j.ws)

-- bs stands for the job
pub record Written (j : Lists) (bs : List ℕ) : Type 0 where
  pub good : Good j
  pub whole : bs ≡ job_bytes j

-- The first fault of a file: sections that are good, and then one that is bad, or bytes left over.
pub data Fails (bs : List ℕ) : Fault → Type 0 where
  in_steps : {f : Fault} → BadSection steps bs 0 f → Fails bs f
  in_points : (ss : List Step) (rest : List ℕ) {f : Fault} → GoodSection steps ss → bs ≡ section_bytes steps ss ++ rest → BadSection points rest (length (section_bytes steps ss)) f → Fails bs f
  in_frames : (ss : List Step) (ps : List Point) (rest : List ℕ) {f : Fault} → GoodSection steps ss → GoodSection points ps → bs ≡ section_bytes steps ss ++ (section_bytes points ps ++ rest) → BadSection frames rest (length (section_bytes steps ss) + length (section_bytes points ps)) f → Fails bs f
  left_over : (j : Lists) (rest : List ℕ) → Good j → bs ≡ section_bytes steps j.ss ++ (section_bytes points j.ps ++ (section_bytes frames j.ws ++ rest)) → 0 < length rest → Fails bs (FromReader (LeftOver (length (section_bytes steps j.ss) + length (section_bytes points j.ps) + length (section_bytes frames j.ws))))

-- A file has one answer: the job that it stands for, or its first fault, and not both.
pub record OneAnswer (bs : List ℕ) : Type 0 where
  pub same_job : (j k : Lists) → Written j bs → Written k bs → j ≡ k
  pub not_both : (j : Lists) (f : Fault) → Written j bs → Fails bs f → ⊥
  pub same_fault : (f g : Fault) → Fails bs f → Fails bs g → f ≡ g

-- the bytes of the longest job: 256 solid steps, 1,024 points and 256 frames, each section after its count
abbrev pub longest : ℕ
longest = 49414

-- No job is longer, and whatever follows a file that is longer already, its first fault stays the same.
pub record Enough (bs : List ℕ) : Type 0 where
  pub bound : (j : Lists) → Written j bs → length bs ≤ longest
  pub stays : longest < length bs → (more : List ℕ) (f : Fault) → Fails bs f → Fails (bs ++ more) f
