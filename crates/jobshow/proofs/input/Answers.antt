use Rattle.std.proofs.Common.{◌≡◌, ℕ, List, take, Option, Some, None, IfSome, option_map, ap, ◌∙◌, arith}
use Rattle.std.proofs.lemmas.List.{take-take}
use Rattle.jobshow.proofs.input.Goals as goal

-- a limit and then a cut at the same place leave the same bytes
limited : (known : Option (List ℕ)) (n : ℕ) (got kept : List ℕ) → IfSome (option_map (take n) known) (λ xs. got ≡ xs) → kept ≡ take n got → IfSome known (λ xs. kept ≡ take n xs)
limited None n got kept read cut = tt
limited (Some xs) n got kept read cut = cut ∙ ap (take n) read ∙ take-take n n xs (omega arith)

pub returns-clause-bytes : goal.returns-clause-bytes
returns-clause-bytes g c =
    let got = c.read_to_end.new.buf.items in
    let known = g.R.Read.remaining in
    limited (known c.args.from) 49415 got c.truncate.new.self.items (rw (c.take.ensures.inner, c.take.ensures.limit, c.in_ok-bytes.ensures.items) at c.in_ok-read_to_end.ensures.bytes) c.truncate.ensures.items
