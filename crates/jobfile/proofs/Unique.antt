-- A file has one answer.
use Rattle.std.proofs.Common.{◌≡◌, ℕ, ◌+◌, ◌<◌, ◌≤◌, List, [], ◌∷◌, ◌++◌, length, take, drop, sym, refl, ap, ◌∙◌, subst, append_assoc, append-nil, arith}
use Rattle.std.specs.List.{flat_map, AllByRecursion}
use Rattle.jobfile.specs.declared.faults.Fault.{Fault}
use Rattle.jobfile.specs.declared.faults.Fault.TheVariants.{Reader as FromReader}
use Rattle.jobfile.specs.declared.faults.ReaderFault.{ReaderFault}
use Rattle.jobfile.specs.declared.faults.ReaderFault.TheVariants.{LeftOver}
use Rattle.jobfile.specs.declared.parts.Step.{Step}
use Rattle.jobfile.specs.declared.parts.Point.{Point}
use Rattle.jobfile.specs.declared.parts.Frame.{Frame}
use Rattle.jobfile.specs.Items.{two, Kind, BadCount, steps, points, frames}
use Rattle.jobfile.specs.Format.{section_bytes, GoodSection, BadSection, Lists, Good, Written, Fails, OneAnswer}
use Rattle.jobfile.proofs.Exact.{Exact, two_same, items_cut}
use Rattle.jobfile.proofs.Sorts.{steps_exact, points_exact, frames_exact}

count_same : (m n : ℕ) (r s : List ℕ) → m < 65536 → n < 65536 → two m ++ r ≡ two n ++ s → (m ≡ n) × (r ≡ s)
count_same m n r s p q e = (two_same m n p q (ap (take 2) e), ap (drop 2) e)

count_clash : (limit n : ℕ) (r : List ℕ) (p : ℕ) (f : ReaderFault) → limit < 65536 → n ≤ limit → BadCount limit (two n ++ r) p f → ⊥
count_clash limit n r p f small le (BadCount.short h) = omega arith
count_clash limit n r p f small le (BadCount.above m rest lt e more) = let same = (count_same n m r rest (omega arith) lt e).0 in omega arith

count_not : {limit : ℕ} {bs : List ℕ} {p : ℕ} {f : ReaderFault} (n : ℕ) (r : List ℕ) → limit < 65536 → n ≤ limit → bs ≡ two n ++ r → BadCount limit bs p f → ⊥
count_not {limit} {bs} {p} {f} n r small le e bad = count_clash limit n r p f small le (subst (λ z. BadCount limit z p f) e bad)

count_one : {limit : ℕ} {bs : List ℕ} {p : ℕ} {f g : ReaderFault} → BadCount limit bs p f → BadCount limit bs p g → f ≡ g
count_one (BadCount.short h) (BadCount.short k) = refl
count_one (BadCount.short h) (BadCount.above m rest lt e more) = absurd (omega (arith, ap length e))
count_one (BadCount.above m rest lt e more) (BadCount.short k) = absurd (omega (arith, ap length e))
count_one (BadCount.above m rest lt e more) (BadCount.above m' rest' lt' e' more') = refl

module _ {A : Type 0} (kind : Kind A) (exact : Exact kind) where
  open_first : (x : A) (xs : List A) (r : List ℕ) → flat_map kind.bytes (x ∷ xs) ++ r ≡ kind.bytes x ++ (flat_map kind.bytes xs ++ r)
  open_first x xs r = append_assoc (kind.bytes x) (flat_map kind.bytes xs) r

  -- good items, more of them than stand before one that is bad
  items_clash : (xs ys : List A) (r rest : List ℕ) (p i : ℕ) (f : Fault) → AllByRecursion kind.Good xs → AllByRecursion kind.Good ys → length ys < length xs → flat_map kind.bytes xs ++ r ≡ flat_map kind.bytes ys ++ rest → kind.Bad rest p i f → ⊥
  items_clash [] ys r rest p i f good good' lt e bad = absurd (omega arith)
  items_clash (x ∷ xs) [] r rest p i f good good' lt e bad =
      exact.clash x (flat_map kind.bytes xs ++ r) p i f good.0 (subst (λ z. kind.Bad z p i f) (sym e ∙ open_first x xs r) bad)
  items_clash (x ∷ xs) (y ∷ ys) r rest p i f good good' lt e bad =
      let first = exact.cut x y _ _ good.0 good'.0 (sym (open_first x xs r) ∙ e ∙ open_first y ys rest) in
      items_clash xs ys r rest p i f good.1 good'.1 (omega arith) first.1 bad

  -- two ways to good items before one that is bad are one way
  stops_same : (xs ys : List A) (r s : List ℕ) (p i q j : ℕ) (f g : Fault) → AllByRecursion kind.Good xs → AllByRecursion kind.Good ys → flat_map kind.bytes xs ++ r ≡ flat_map kind.bytes ys ++ s → kind.Bad r p i f → kind.Bad s q j g → (xs ≡ ys) × (r ≡ s)
  stops_same [] [] r s p i q j f g good good' e bad worse = (refl, e)
  stops_same [] (y ∷ ys) r s p i q j f g good good' e bad worse =
      absurd (exact.clash y (flat_map kind.bytes ys ++ s) p i f good'.0 (subst (λ z. kind.Bad z p i f) (e ∙ open_first y ys s) bad))
  stops_same (x ∷ xs) [] r s p i q j f g good good' e bad worse =
      absurd (exact.clash x (flat_map kind.bytes xs ++ r) q j g good.0 (subst (λ z. kind.Bad z q j g) (sym e ∙ open_first x xs r) worse))
  stops_same (x ∷ xs) (y ∷ ys) r s p i q j f g good good' e bad worse =
      let first = exact.cut x y _ _ good.0 good'.0 (sym (open_first x xs r) ∙ e ∙ open_first y ys s) in
      let more = stops_same xs ys r s p i q j f g good.1 good'.1 first.1 bad worse in
      (λ n. first.0 n ∷ more.0 n, more.1)

  module _ (small : kind.limit < 65536) where
    pub section_cut : (xs ys : List A) (r s : List ℕ) → GoodSection kind xs → GoodSection kind ys → section_bytes kind xs ++ r ≡ section_bytes kind ys ++ s → (xs ≡ ys) × (r ≡ s)
    section_cut xs ys r s p q e =
        let first = count_same (length xs) (length ys) (flat_map kind.bytes xs ++ r) (flat_map kind.bytes ys ++ s) (omega (arith, p.within)) (omega (arith, q.within)) e in
        items_cut kind.bytes kind.Good exact.cut xs ys r s p.each q.each first.0 first.1

    pub section_clash : (xs : List A) (r : List ℕ) (p : ℕ) (f : Fault) → GoodSection kind xs → BadSection kind (section_bytes kind xs ++ r) p f → ⊥
    section_clash xs r p f good (BadSection.count b) = count_clash kind.limit (length xs) (flat_map kind.bytes xs ++ r) p _ small good.within b
    section_clash xs r p f good (BadSection.item n ys rest le each lt e bad) =
        let first = count_same (length xs) n (flat_map kind.bytes xs ++ r) (flat_map kind.bytes ys ++ rest) (omega (arith, good.within)) (omega arith) e in
        items_clash xs ys r rest _ _ f good.each each (omega (arith, first.0)) first.1 bad

    pub section_one : {bs : List ℕ} {p : ℕ} {f g : Fault} → BadSection kind bs p f → BadSection kind bs p g → f ≡ g
    section_one (BadSection.count a) (BadSection.count b) = ap FromReader (count_one a b)
    section_one {bs} {p} {f} {g} (BadSection.count a) (BadSection.item n ys rest le each lt e bad) =
        absurd (count_not n (flat_map kind.bytes ys ++ rest) small le e a)
    section_one {bs} {p} {f} {g} (BadSection.item n ys rest le each lt e bad) (BadSection.count b) =
        absurd (count_not n (flat_map kind.bytes ys ++ rest) small le e b)
    section_one {bs} {p} {f} {g} (BadSection.item n xs r le each lt e bad) (BadSection.item m ys s le' each' lt' e' worse) =
        let first = count_same n m (flat_map kind.bytes xs ++ r) (flat_map kind.bytes ys ++ s) (omega arith) (omega arith) (sym e ∙ e') in
        let same = stops_same xs ys r s _ _ _ _ f g each each' first.1 bad worse in
        exact.one r (p + (2 + length (flat_map kind.bytes xs))) (length xs) f g bad
        (subst (λ z. kind.Bad z (p + (2 + length (flat_map kind.bytes xs))) (length xs) g) (sym same.1)
        (subst (λ z. kind.Bad s (p + (2 + length (flat_map kind.bytes z))) (length z) g) (sym same.0) worse))

    -- the same, where the bytes are known by an equation
    pub section_not : {bs : List ℕ} {p : ℕ} {f : Fault} (xs : List A) (r : List ℕ) → GoodSection kind xs → bs ≡ section_bytes kind xs ++ r → BadSection kind bs p f → ⊥
    section_not {bs} {p} {f} xs r good e bad = section_clash xs r p f good (subst (λ z. BadSection kind z p f) e bad)

few : 256 < 65536
few = omega arith

many : 1024 < 65536
many = omega arith

steps_cut : (xs ys : List Step) (r s : List ℕ) → GoodSection steps xs → GoodSection steps ys → section_bytes steps xs ++ r ≡ section_bytes steps ys ++ s → (xs ≡ ys) × (r ≡ s)
steps_cut = section_cut steps steps_exact few

points_cut : (xs ys : List Point) (r s : List ℕ) → GoodSection points xs → GoodSection points ys → section_bytes points xs ++ r ≡ section_bytes points ys ++ s → (xs ≡ ys) × (r ≡ s)
points_cut = section_cut points points_exact many

frames_cut : (xs ys : List Frame) (r s : List ℕ) → GoodSection frames xs → GoodSection frames ys → section_bytes frames xs ++ r ≡ section_bytes frames ys ++ s → (xs ≡ ys) × (r ≡ s)
frames_cut = section_cut frames frames_exact few

-- whether the three lists are written, or written with bytes left over, they are the same lists
lists_same : (j k : Lists) (r s : List ℕ) → Good j → Good k → section_bytes steps j.ss ++ (section_bytes points j.ps ++ (section_bytes frames j.ws ++ r)) ≡ section_bytes steps k.ss ++ (section_bytes points k.ps ++ (section_bytes frames k.ws ++ s)) → (j ≡ k) × (r ≡ s)
lists_same j k r s p q e =
    let a = steps_cut j.ss k.ss _ _ p.ss_good q.ss_good e in
    let b = points_cut j.ps k.ps _ _ p.ps_good q.ps_good a.1 in
    let c = frames_cut j.ws k.ws r s p.ws_good q.ws_good b.1 in
    (λ i. record { ss = a.0 i; ps = b.0 i; ws = c.0 i }, c.1)

-- a file of three good sections, then the bytes r, fails only if bytes are left over
lists_fail : (j : Lists) (r bs : List ℕ) (f : Fault) → Good j → bs ≡ section_bytes steps j.ss ++ (section_bytes points j.ps ++ (section_bytes frames j.ws ++ r)) → Fails bs f → (0 < length r) × (f ≡ FromReader (LeftOver (length (section_bytes steps j.ss) + length (section_bytes points j.ps) + length (section_bytes frames j.ws))))
lists_fail j r bs f good e (Fails.in_steps bad) = absurd (section_not steps steps_exact few j.ss _ good.ss_good e bad)
lists_fail j r bs f good e (Fails.in_points ss rest g d bad) =
    let a = steps_cut ss j.ss _ _ g good.ss_good (sym d ∙ e) in
    absurd (section_not points points_exact many j.ps _ good.ps_good a.1 bad)
lists_fail j r bs f good e (Fails.in_frames ss ps rest g h d bad) =
    let a = steps_cut ss j.ss _ _ g good.ss_good (sym d ∙ e) in
    let b = points_cut ps j.ps _ _ h good.ps_good a.1 in
    absurd (section_not frames frames_exact few j.ws _ good.ws_good b.1 bad)
lists_fail j r bs f good e (Fails.left_over k rest g d more) =
    let a = lists_same k j rest r g good (sym d ∙ e) in
    (subst (λ z. 0 < length z) a.1 more, ap (λ z. FromReader (LeftOver (length (section_bytes steps z.ss) + length (section_bytes points z.ps) + length (section_bytes frames z.ws)))) a.0)

-- a file whose points are bad
points_one : (bs : List ℕ) (ss : List Step) (rest : List ℕ) (f g : Fault) → GoodSection steps ss → bs ≡ section_bytes steps ss ++ rest → BadSection points rest (length (section_bytes steps ss)) f → Fails bs g → f ≡ g
points_one bs ss rest f g good e bad (Fails.in_steps b) = absurd (section_not steps steps_exact few ss rest good e b)
points_one bs ss rest f g good e bad (Fails.in_points xs r h d b) =
    let a = steps_cut ss xs rest r good h (sym e ∙ d) in
    section_one points points_exact many bad (subst (λ z. BadSection points z (length (section_bytes steps ss)) g) (sym a.1) (subst (λ z. BadSection points r (length (section_bytes steps z)) g) (sym a.0) b))
points_one bs ss rest f g good e bad (Fails.in_frames xs ps r h i d b) =
    let a = steps_cut ss xs rest _ good h (sym e ∙ d) in
    absurd (section_not points points_exact many ps r i a.1 bad)
points_one bs ss rest f g good e bad (Fails.left_over k r h d more) =
    let a = steps_cut ss k.ss rest _ good h.ss_good (sym e ∙ d) in
    absurd (section_not points points_exact many k.ps _ h.ps_good a.1 bad)

-- a file whose frames are bad
frames_one : (bs : List ℕ) (ss : List Step) (ps : List Point) (rest : List ℕ) (f g : Fault) → GoodSection steps ss → GoodSection points ps → bs ≡ section_bytes steps ss ++ (section_bytes points ps ++ rest) → BadSection frames rest (length (section_bytes steps ss) + length (section_bytes points ps)) f → Fails bs g → f ≡ g
frames_one bs ss ps rest f g good fine e bad (Fails.in_steps b) = absurd (section_not steps steps_exact few ss _ good e b)
frames_one bs ss ps rest f g good fine e bad (Fails.in_points xs r h d b) =
    let a = steps_cut xs ss r _ h good (sym d ∙ e) in
    absurd (section_not points points_exact many ps rest fine a.1 b)
frames_one bs ss ps rest f g good fine e bad (Fails.in_frames xs ys r h i d b) =
    let a = steps_cut ss xs _ _ good h (sym e ∙ d) in
    let c = points_cut ps ys rest r fine i a.1 in
    section_one frames frames_exact few bad
    (subst (λ z. BadSection frames z (length (section_bytes steps ss) + length (section_bytes points ps)) g) (sym c.1)
    (subst (λ z. BadSection frames r (length (section_bytes steps ss) + length (section_bytes points z)) g) (sym c.0)
    (subst (λ z. BadSection frames r (length (section_bytes steps z) + length (section_bytes points ys)) g) (sym a.0) b)))
frames_one bs ss ps rest f g good fine e bad (Fails.left_over k r h d more) =
    let a = steps_cut ss k.ss _ _ good h.ss_good (sym e ∙ d) in
    let c = points_cut ps k.ps rest _ fine h.ps_good a.1 in
    absurd (section_not frames frames_exact few k.ws r h.ws_good c.1 bad)

steps_one : (bs : List ℕ) (f g : Fault) → BadSection steps bs 0 f → Fails bs g → f ≡ g
steps_one bs f g bad (Fails.in_steps b) = section_one steps steps_exact few bad b
steps_one bs f g bad (Fails.in_points ss rest h e b) = absurd (section_not steps steps_exact few ss rest h e bad)
steps_one bs f g bad (Fails.in_frames ss ps rest h i e b) = absurd (section_not steps steps_exact few ss _ h e bad)
steps_one bs f g bad (Fails.left_over j rest h e more) = absurd (section_not steps steps_exact few j.ss _ h.ss_good e bad)

fails_one : (bs : List ℕ) (f g : Fault) → Fails bs f → Fails bs g → f ≡ g
fails_one bs f g (Fails.in_steps b) other = steps_one bs f g b other
fails_one bs f g (Fails.in_points ss rest h e b) other = points_one bs ss rest f g h e b other
fails_one bs f g (Fails.in_frames ss ps rest h i e b) other = frames_one bs ss ps rest f g h i e b other
fails_one bs f g (Fails.left_over j rest h e more) other = sym (lists_fail j rest bs g h e other).1

-- a written file, as one with nothing left over
whole_as : (j : Lists) (bs : List ℕ) → Written j bs → bs ≡ section_bytes steps j.ss ++ (section_bytes points j.ps ++ (section_bytes frames j.ws ++ []))
whole_as j bs w = w.whole ∙ ap (λ t. section_bytes steps j.ss ++ (section_bytes points j.ps ++ t)) (sym (append-nil (section_bytes frames j.ws)))

pub one_answer : (bs : List ℕ) → OneAnswer bs
one_answer bs = record {
  same_job = λ j k v w. (lists_same j k [] [] v.good w.good (sym (whole_as j bs v) ∙ whole_as k bs w)).0;
  not_both = λ j f w b. let h = (lists_fail j [] bs f w.good (whole_as j bs w) b).0 in omega arith;
  same_fault = fails_one bs;
}
